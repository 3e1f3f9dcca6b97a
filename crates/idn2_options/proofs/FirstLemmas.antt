-- The use that is told is the first that is wrong.
use Rattle.std.proofs.Common.{◌≡◌, ◌≤◌, ◌+◌, ◌++◌, ◌&&◌, ◌||◌, not, ℕ, Bool, true, false, true≢false, List, [], ◌∷◌, Option, Some, None, cond, ap, sym, subst, refl, arith, append-nil, append_assoc, ap₂, ◌∙◌}
use Rattle.std.specs.Prelude.{count_by, option_map}
use Rattle.std.specs.List.{list_any}
use Rattle.std.specs.Option.{option_map_or, option_or}
use Rattle.std.specs.Str.{bytes_eq}
use Rattle.std.proofs.lemmas.List.Sums.{sum_by-append, sum_by-cons}
use Rattle.clap.specs.Walk.{Rule}
use Rattle.clap.specs.Words.{Text, built}
use Rattle.idn2_options.specs.CommandLine.{app}
use Rattle.idn2_options.specs.Laws.{IsFirstWrong}
use Rattle.idn2_options.specs.Uses.{Use, are_of_one, begins_unknown, first_misused, first_wrong, has_needless_value, is_unknown, lacks_value, misuse_in, rule_of, uses_of}
use Rattle.idn2_options.specs.declared.command_line.misuse.Misuse.{Misuse}
use Rattle.idn2_options.specs.declared.command_line.misuse.Misuse.TheVariants.{Unknown, WithoutValue, Repeated, WithValue}
use Rattle.idn2_options.proofs.AppKinds.{nowhere}
use Rattle.idn2_options.proofs.OptionLemmas.{same_bytes}

abbrev c : List Rule
c = (built app).top.rules

-- the first of some uses after those in front
record IsFirstAfter (front uses : List Use) (misuse : Misuse) (this : Use) : Type 0 where
  before : List Use
  after : List Use
  parts : uses ≡ before ++ this ∷ after
  wrong : misuse_in c (front ++ before) this after ≡ Some misuse
  none : (earlier : List Use) (other : Use) (between : List Use) → before ≡ earlier ++ other ∷ between
      → misuse_in c (front ++ earlier) other (between ++ this ∷ after) ≡ None

nothing_first : (x : Use) (xs : List Use) → [] ≡ x ∷ xs → ⊥
nothing_first x xs is = cc

same_first : (x y : Use) (xs ys : List Use) → x ∷ xs ≡ y ∷ ys → x ≡ y
same_first x y xs ys is = cc

same_rest : (x y : Use) (xs ys : List Use) → x ∷ xs ≡ y ∷ ys → xs ≡ ys
same_rest x y xs ys is = cc

no_use : (earlier between : List Use) (other : Use) → [] ≡ earlier ++ other ∷ between → ⊥
no_use [] between other is = nothing_first other between is
no_use (x ∷ xs) between other is = nothing_first x (xs ++ other ∷ between) is

none-before : (front : List Use) (first : Use) (rest before : List Use) (this : Use) (after : List Use)
    → rest ≡ before ++ this ∷ after → misuse_in c front first rest ≡ None
    → ((earlier : List Use) (other : Use) (between : List Use) → before ≡ earlier ++ other ∷ between
    → misuse_in c ((front ++ first ∷ []) ++ earlier) other (between ++ this ∷ after) ≡ None)
    → (earlier : List Use) (other : Use) (between : List Use) → first ∷ before ≡ earlier ++ other ∷ between
    → misuse_in c (front ++ earlier) other (between ++ this ∷ after) ≡ None
none-before front first rest before this after parts right none [] other between is =
    let same : other ≡ first = sym (same_first first other before between is) in
    let tail : between ≡ before = sym (same_rest first other before between is) in
    ap (λ (xs : List Use). misuse_in c xs other (between ++ this ∷ after)) (append-nil front)
    ∙ (ap₂ (misuse_in c front) same (ap (λ (xs : List Use). xs ++ this ∷ after) tail ∙ sym parts) ∙ right)
none-before front first rest before this after parts right none (x ∷ xs) other between is =
    let same : x ≡ first = sym (same_first first x before (xs ++ other ∷ between) is) in
    let tail : before ≡ xs ++ other ∷ between = same_rest first x before (xs ++ other ∷ between) is in
    ap (λ (ys : List Use). misuse_in c ys other (between ++ this ∷ after))
    (ap (λ (y : Use). front ++ y ∷ xs) same ∙ sym (append_assoc front (first ∷ []) xs))
    ∙ none xs other between tail

first-after : (front uses : List Use) (misuse : Misuse) (this : Use) → first_wrong c front uses ≡ Some (misuse, this)
    → IsFirstAfter front uses misuse this
first-after front [] misuse this is = absurd (cc)
first-after front (other ∷ rest) misuse this is =
    step (misuse_in c front other rest) refl is (first-after (front ++ other ∷ []) rest misuse this)
  where
    step : (found : Option Misuse) → misuse_in c front other rest ≡ found
        → option_or (option_map (λ misuse. (misuse, other)) found) (first_wrong c (front ++ other ∷ []) rest) ≡ Some (misuse, this)
        → (first_wrong c (front ++ other ∷ []) rest ≡ Some (misuse, this) → IsFirstAfter (front ++ other ∷ []) rest misuse this)
        → IsFirstAfter front (other ∷ rest) misuse this
    step (Some way) wrong is later =
        let same : other ≡ this = ap (λ (found : Option (Misuse × Use)). option_map_or (λ wrong. wrong.1) found other) is in
        let same_way : way ≡ misuse = ap (λ (found : Option (Misuse × Use)). option_map_or (λ wrong. wrong.0) found way) is in
        record {
          before = [];
          after = rest;
          parts = ap (λ (x : Use). x ∷ rest) same;
          wrong = ap₂ (λ (xs : List Use) (x : Use). misuse_in c xs x rest) (append-nil front) (sym same) ∙ (wrong ∙ ap (λ (m : Misuse). Some m) same_way);
          none = λ earlier other between parts. absurd (no_use earlier between other parts);
        }
    step None right is later =
        let r = later is in
        record {
          before = other ∷ r.before;
          after = r.after;
          parts = ap (λ (xs : List Use). other ∷ xs) r.parts;
          wrong = ap (λ (xs : List Use). misuse_in c xs this r.after) (sym (append_assoc front (other ∷ []) r.before)) ∙ r.wrong;
          none = none-before front other rest r.before this r.after r.parts right r.none;
        }

pub first-wrong : (words : List Text) (misuse : Misuse) (this : Use) → first_misused words ≡ Some (misuse, this) → IsFirstWrong (uses_of words) misuse this
first-wrong words misuse this is =
    let r = first-after [] (uses_of words) misuse this is in
    record { before = r.before; after = r.after; parts = r.parts; wrong = r.wrong; none = r.none }

-- ---- twice

of_itself : (before : List Use) (found : Option Rule)
    → list_any (λ (other : Use). option_map_or (λ rule. option_map_or (λ same. bytes_eq same.id rule.id) (rule_of c other.option) false) found false) before ≡ true
    → option_map_or (λ rule. option_map_or (λ (same : Rule). bytes_eq same.id rule.id) found false) found false ≡ true
of_itself before None is = absurd (true≢false (sym is ∙ nowhere before))
of_itself before (Some a) is = same_bytes a.id

counted : (p : Use → Bool) (xs : List Use) → list_any p xs ≡ true → 1 ≤ count_by p xs
counted p [] is = absurd (true≢false (sym is))
counted p (x ∷ xs) is =
    subst (λ (n : ℕ). 1 ≤ n) (sym (sum_by-cons (λ y. cond (p y) 1 0) x xs)) (step (p x) is (counted p xs))
  where
    step : (t : Bool) → t || list_any p xs ≡ true → (list_any p xs ≡ true → 1 ≤ count_by p xs) → 1 ≤ cond t 1 0 + count_by p xs
    step true is later = omega arith
    step false is later = let more : 1 ≤ count_by p xs = later is in omega (arith, more)

once_more : (p : Use → Bool) (before after : List Use) (this : Use) → p this ≡ true → 1 + count_by p before ≤ count_by p (before ++ this ∷ after)
once_more p before after this is =
    let weight : Use → ℕ = λ y. cond (p y) 1 0 in
    let both : count_by p (before ++ this ∷ after) ≡ count_by p before + count_by p (this ∷ after) = sum_by-append weight before (this ∷ after) in
    let one : count_by p (this ∷ after) ≡ 1 + count_by p after = sum_by-cons weight this after ∙ ap (λ (b : Bool). cond b 1 0 + count_by p after) is in
    omega (arith, both, one)

-- what is wrong in no other way was used before
is_repeated : (u n l r : Bool)
    → cond u (Some Unknown) (cond n (Some WithValue) (cond l (Some WithoutValue) (cond r (Some Repeated) None))) ≡ Some Repeated → r ≡ true
is_repeated true n l r is = absurd (cc)
is_repeated false true l r is = absurd (cc)
is_repeated false false true r is = absurd (cc)
is_repeated false false false true is = refl
is_repeated false false false false is = absurd (cc)

pub used-twice : (words : List Text) (this : Use) → first_misused words ≡ Some (Repeated, this) → 2 ≤ count_by (are_of_one c this) (uses_of words)
used-twice words this is =
    let r = first-after [] (uses_of words) Repeated this is in
    let again : list_any (are_of_one c this) r.before ≡ true = is_repeated (is_unknown c this) (has_needless_value c this)
    (lacks_value c this && not (begins_unknown c r.after)) (list_any (are_of_one c this) r.before) r.wrong in
    let more = once_more (are_of_one c this) r.before r.after this (of_itself r.before (rule_of c this.option) again) in
    let some = counted (are_of_one c this) r.before again in
    subst (λ (uses : List Use). 2 ≤ count_by (are_of_one c this) uses) (sym r.parts) (omega (arith, more, some))
