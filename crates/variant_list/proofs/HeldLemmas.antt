-- Where conditions hold, as tests tell it.
use Rattle.std.proofs.Common.{◌≡◌, ℕ, ◌+◌, ◌<◌, ◌≤◌, Bool, true, false, List, length, get_or, map, Option, None, Some, slice_get, refl, sym, ap, ◌∙◌, ◌↔◌, arith}
use Rattle.std.specs.List.{All}
use Rattle.std.specs.Option.{option_map}
use Rattle.std.proofs.lemmas.List.{length-map}
use Rattle.std.proofs.lemmas.Option.{slice_get-map, slice_get-get_or}
use Rattle.label_patterns.specs.declared.condition.Condition.{Condition}
use Rattle.label_patterns.specs.Conditions.{ConditionHolds}
use Rattle.label_patterns.proofs.TestLemmas.{condition-agrees}
use Rattle.variant_table.specs.Entries.{Entry, TableValue, Variant, source_of, whole, replacements}
use Rattle.variant_table.specs.Segmentations.{seen_under}
use Rattle.variant_table.specs.Staying.{holds_for}
use Rattle.variant_list.proofs.ListMembers.{mapped-at}

pub held_by : (table : TableValue) (label : List ℕ) (place : ℕ) (e : Entry) (condition : Option Condition) → place + length e.source ≤ length label
    → (holds_for table label place e condition ≡ true) ↔ ConditionHolds table.definitions.rules (seen_under table label) condition place (place + length e.source)
held_by table label place e condition within =
    condition-agrees table.definitions.rules (seen_under table label) condition place (place + length e.source) (omega (arith, within)) within

-- ---- tests of the sequences of an entry, by their numbers

-- two tests of one fact
pub same_by : {P : Type 0} (a b : Bool) → (a ≡ true) ↔ P → (b ≡ true) ↔ P → a ≡ b
same_by true b h g = sym (g.1 (h.0 refl))
same_by false true h g = h.1 (g.0 refl)
same_by false false h g = refl

pub at-of : {X Y Z : Type 0} (f : X → Y) (g : Y → Z) (xs : List X) (i : ℕ) (y : Y) → slice_get (map f xs) i ≡ Some y → slice_get (map (λ x. g (f x)) xs) i ≡ Some (g y)
at-of f g xs i y at =
    let m = mapped-at f xs i y at in
    slice_get-map (λ x. g (f x)) xs i ∙ ap (option_map (λ x. g (f x))) m.1 ∙ ap (λ z. Some (g z)) m.2

-- where no sequence has a condition, each holds
pub held-free : (table : TableValue) (label : List ℕ) (place : ℕ) (e : Entry) (i : ℕ) → All (λ (r : Variant). r.condition ≡ None) (whole e) → i < length (replacements e)
    → slice_get (map (λ (r : Variant). holds_for table label place e r.condition) (whole e)) i ≡ Some true
held-free table label place e i free inside =
    let count : length (whole e) ≡ length (replacements e) = sym (length-map (whole e) (λ (r : Variant). r.sequence)) in
    let at : slice_get (whole e) i ≡ Some (get_or (whole e) i (source_of e)) = slice_get-get_or (whole e) i (source_of e) (omega (arith, count, inside)) in
    let none : (get_or (whole e) i (source_of e)).condition ≡ None = free i (source_of e) (omega (arith, count, inside)) in
    slice_get-map (λ (r : Variant). holds_for table label place e r.condition) (whole e) i ∙ ap (option_map (λ (r : Variant). holds_for table label place e r.condition)) at ∙ ap (λ c. Some (holds_for table label place e c)) none
