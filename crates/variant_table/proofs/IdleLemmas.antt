-- Types that no action names.
use Rattle.std.proofs.Common.{◌≡◌, ℕ, ◌<◌, ◌≤◌, ◌+◌, Bool, not, cond, List, [], ◌∷◌, ◌++◌, length, map, take, get_or, refl, sym, ap, ◌∙◌, ◌||◌}
use Rattle.std.specs.Prelude.{All, filter}
use Rattle.std.specs.List.{AllByRecursion, list_any}
use Rattle.std.proofs.lemmas.List.Elements.{All-filter, All-from_recursion, filter_more}
use Rattle.ruleset_text.specs.Definitions.{Definitions}
use Rattle.ruleset_text.specs.Names.{AreNames}
use Rattle.ruleset_text.specs.WellFormed.{AreDefinitions}
use Rattle.ruleset_text.proofs.NameLemmas.{name-short}
use Rattle.variant_table.specs.IdleTypes.{idle_types, is_asked}

abbrev IsShort : List ℕ → Type 0
IsShort name = length name ≤ 32

short_before : (xs ys : List (List ℕ)) → AreNames (xs ++ ys) → AllByRecursion IsShort xs
short_before [] ys are = tt
short_before (x ∷ xs) ys are = (name-short x are.0, short_before xs ys are.2)

-- a ruleset's own types stand after the five that are predefined
pub idle_types-short : (d : Definitions) → AreDefinitions d → All (λ name. length name ≤ 32) (idle_types d)
idle_types-short d are =
    All-filter (λ name. not (is_asked d.actions name)) IsShort d.types
    (All-from_recursion IsShort d.types (short_before d.types (d.set_names ++ d.rule_names) are.names.2.2.2.2.2))

-- what a test keeps of one name more
pub filter_step : (p : List ℕ → Bool) (xs : List (List ℕ)) (i : ℕ) (x : List ℕ) → i < length xs → x ≡ get_or xs i x
    → filter p (take (i + 1) xs) ≡ filter p (take i xs) ++ cond (p x) (x ∷ []) []
filter_step p xs i x l e = filter_more p xs i x l ∙ ap (λ y. filter p (take i xs) ++ cond (p y) (y ∷ []) []) (sym e)

-- a test of some of what f makes
pub list_any-map : {X Y : Type 0} (test : Y → Bool) (f : X → Y) (xs : List X) → list_any (λ x. test (f x)) xs ≡ list_any test (map f xs)
list_any-map test f [] = refl
list_any-map test f (x ∷ xs) = ap (λ b. test (f x) || b) (list_any-map test f xs)
