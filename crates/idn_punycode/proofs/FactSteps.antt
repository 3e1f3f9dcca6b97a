-- The facts of a label that grows.
use Rattle.std.proofs.Common.{◌≡◌, ℕ, Bool, true, false, ◌||◌, List, ◌∷◌, take, drop, insert, take-append-drop, refl, sym, ap, ap₂, ◌∙◌}
use Rattle.std.specs.List.{list_any}
use Rattle.std.proofs.lemmas.List.Folds.{list_any-append}
use Rattle.idn_class.specs.declared.facts.Fact.{Fact}
use Rattle.idn_class.specs.declared.facts.Facts.{Facts}
use Rattle.idn_class.specs.Facts.{AreFactsOf, contains, has_fact}

between : (a b c : Bool) → (a || (b || c)) ≡ ((a || c) || b)
between true b c = refl
between false true true = refl
between false true false = refl
between false false true = refl
between false false false = refl

list_any-insert : (p : ℕ → Bool) (xs : List ℕ) (at x : ℕ) → list_any p (insert xs at x) ≡ (list_any p xs || p x)
list_any-insert p xs at x =
    list_any-append p (take at xs) (x ∷ drop at xs)
    ∙ between (list_any p (take at xs)) (p x) (list_any p (drop at xs))
    ∙ ap (λ b. b || p x) (sym (list_any-append p (take at xs) (drop at xs)) ∙ ap (list_any p) (take-append-drop at xs))

-- those of a code point more, wherever it was put
pub AreFactsOf-insert : (facts one both : Facts) (label : List ℕ) (place c : ℕ) → AreFactsOf facts label → ((fact : Fact) → contains one fact ≡ has_fact fact c) → ((fact : Fact) → contains both fact ≡ (contains facts fact || contains one fact)) → AreFactsOf both (insert label place c)
AreFactsOf-insert facts one both label place c are is joined fact =
    joined fact ∙ ap₂ (λ a b. a || b) (are fact) (is fact) ∙ sym (list_any-insert (has_fact fact) label place c)
