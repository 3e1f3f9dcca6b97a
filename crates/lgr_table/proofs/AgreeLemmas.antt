-- Parts of rules match the same parts of labels where the classes and the rules that they name do.
use Rattle.std.proofs.Common.{◌≡◌, ℕ, ◌+◌, inl, inr, Bool, List, [], ◌++◌, length, Option, refl, sym, subst, ◌∙◌, length-append, arith}
use Rattle.std.specs.Prelude.{◌↔◌}
use Rattle.std.specs.List.{All}
use Rattle.std.proofs.lemmas.List.{get_or_append_left, get_or-append-add}
use Rattle.std.proofs.lemmas.List.Elements.{All-head}
use Rattle.label_patterns.specs.Places.{StandsAt}
use Rattle.lgr_text.proofs.RepeatLemmas.{repeats-map}
use Rattle.lgr_text.specs.PartMatches.{PartMatches, Place}
use Rattle.lgr_text.specs.Records.{Class, Part, Literal, Any, Of, Start, End, Anchor, OfRule, Then, Choice, Times}
use Rattle.lgr_text.specs.Names.{classes_of, rules_in}

-- its classes have the same code points of the label, and the rules that it names match the same parts
abbrev pub Agree : List ℕ → (Class → ℕ → Bool) → (Class → ℕ → Bool) → (List ℕ → ℕ → ℕ → Type 0) → (List ℕ → ℕ → ℕ → Type 0) → Part → Type 0
Agree label f g R S (Literal points) = Unit {0}
Agree label f g R S Any = Unit {0}
Agree label f g R S (Of class) = All (λ c. f class c ≡ g class c) label
Agree label f g R S Start = Unit {0}
Agree label f g R S End = Unit {0}
Agree label f g R S Anchor = Unit {0}
Agree label f g R S (OfRule name) = (i j : ℕ) → R name i j ↔ S name i j
Agree label f g R S (Then p q) = Agree label f g R S p × Agree label f g R S q
Agree label f g R S (Choice p q) = Agree label f g R S p × Agree label f g R S q
Agree label f g R S (Times count p) = Agree label f g R S p

stands-agree : (f g : ℕ → Bool) (label : List ℕ) (i : ℕ) → All (λ c. f c ≡ g c) label → StandsAt f label i ↔ StandsAt g label i
stands-agree f g label i same = (λ h. (h.0, sym (same i 0 h.0) ∙ h.1), λ h. (h.0, same i 0 h.0 ∙ h.1))

pub parts-agree : (f g : Class → ℕ → Bool) (R S : Option Place → List ℕ → ℕ → ℕ → Type 0) (label : List ℕ) (at : Option Place) (p : Part) → Agree label f g (R at) (S at) p
    → (i j : ℕ) → PartMatches f R label at p i j ↔ PartMatches g S label at p i j
parts-agree f g R S label at (Literal points) agree i j = (λ h. h, λ h. h)
parts-agree f g R S label at Any agree i j = (λ h. h, λ h. h)
parts-agree f g R S label at (Of class) agree i j =
    let stands = stands-agree (f class) (g class) label i agree in
    (λ h. (stands.0 h.0, h.1), λ h. (stands.1 h.0, h.1))
parts-agree f g R S label at Start agree i j = (λ h. h, λ h. h)
parts-agree f g R S label at End agree i j = (λ h. h, λ h. h)
parts-agree f g R S label at Anchor agree i j = (λ h. h, λ h. h)
parts-agree f g R S label at (OfRule name) agree i j = agree i j
parts-agree f g R S label at (Then p q) agree i j = (
  λ h. (h.0, (parts-agree f g R S label at p agree.0 i h.0).0 h.1, (parts-agree f g R S label at q agree.1 h.0 j).0 h.2),
  λ h. (h.0, (parts-agree f g R S label at p agree.0 i h.0).1 h.1, (parts-agree f g R S label at q agree.1 h.0 j).1 h.2),
)
parts-agree f g R S label at (Choice p q) agree i j =
    let left = parts-agree f g R S label at p agree.0 i j in
    let right = parts-agree f g R S label at q agree.1 i j in (
      λ h. elim h [ inl k ↦ inl (left.0 k) | inr k ↦ inr (right.0 k) ],
      λ h. elim h [ inl k ↦ inl (left.1 k) | inr k ↦ inr (right.1 k) ],
    )
parts-agree f g R S label at (Times count p) agree i j =
    let once = parts-agree f g R S label at p agree in (
      λ h. (h.0, h.1, repeats-map (PartMatches f R label at p) (PartMatches g S label at p) (λ k l. (once k l).0) h.0 i j h.2),
      λ h. (h.0, h.1, repeats-map (PartMatches g S label at p) (PartMatches f R label at p) (λ k l. (once k l).1) h.0 i j h.2),
    )

-- ---- by what it names

pub all-left : {X : Type 0} (P : X → Type 0) (xs ys : List X) → All P (xs ++ ys) → All P xs
all-left P xs ys all k d less =
    subst P (get_or_append_left xs ys d k less) (all k d (omega (arith, less, length-append xs ys)))

pub all-right : {X : Type 0} (P : X → Type 0) (xs ys : List X) → All P (xs ++ ys) → All P ys
all-right P xs ys all k d less =
    subst P (get_or-append-add xs ys k d) (all (length xs + k) d (omega (arith, less, length-append xs ys)))

pub agree-known : (label : List ℕ) (f g : Class → ℕ → Bool) (R S : List ℕ → ℕ → ℕ → Type 0) (p : Part)
    → All (λ class. All (λ c. f class c ≡ g class c) label) (classes_of p) → All (λ name. (i j : ℕ) → R name i j ↔ S name i j) (rules_in p)
    → Agree label f g R S p
agree-known label f g R S (Literal points) classes rules = tt
agree-known label f g R S Any classes rules = tt
agree-known label f g R S (Of class) classes rules = All-head (λ k. All (λ c. f k c ≡ g k c) label) class [] classes
agree-known label f g R S Start classes rules = tt
agree-known label f g R S End classes rules = tt
agree-known label f g R S Anchor classes rules = tt
agree-known label f g R S (OfRule name) classes rules = All-head (λ n. (i j : ℕ) → R n i j ↔ S n i j) name [] rules
agree-known label f g R S (Then p q) classes rules =
    let P : Class → Type 0 = λ k. All (λ c. f k c ≡ g k c) label in
    let Q : List ℕ → Type 0 = λ n. (i j : ℕ) → R n i j ↔ S n i j in (
      agree-known label f g R S p (all-left P (classes_of p) (classes_of q) classes) (all-left Q (rules_in p) (rules_in q) rules),
      agree-known label f g R S q (all-right P (classes_of p) (classes_of q) classes) (all-right Q (rules_in p) (rules_in q) rules),
    )
agree-known label f g R S (Choice p q) classes rules =
    let P : Class → Type 0 = λ k. All (λ c. f k c ≡ g k c) label in
    let Q : List ℕ → Type 0 = λ n. (i j : ℕ) → R n i j ↔ S n i j in (
      agree-known label f g R S p (all-left P (classes_of p) (classes_of q) classes) (all-left Q (rules_in p) (rules_in q) rules),
      agree-known label f g R S q (all-right P (classes_of p) (classes_of q) classes) (all-right Q (rules_in p) (rules_in q) rules),
    )
agree-known label f g R S (Times count p) classes rules = agree-known label f g R S p classes rules

-- all of it agrees with itself, if all names do
pub agree-named : (label : List ℕ) (f : Class → ℕ → Bool) (R S : List ℕ → ℕ → ℕ → Type 0) → ((name : List ℕ) (i j : ℕ) → R name i j ↔ S name i j)
    → (p : Part) → Agree label f f R S p
agree-named label f R S names (Literal points) = tt
agree-named label f R S names Any = tt
agree-named label f R S names (Of class) = λ k d l. refl
agree-named label f R S names Start = tt
agree-named label f R S names End = tt
agree-named label f R S names Anchor = tt
agree-named label f R S names (OfRule name) = names name
agree-named label f R S names (Then p q) = (agree-named label f R S names p, agree-named label f R S names q)
agree-named label f R S names (Choice p q) = (agree-named label f R S names p, agree-named label f R S names q)
agree-named label f R S names (Times count p) = agree-named label f R S names p
