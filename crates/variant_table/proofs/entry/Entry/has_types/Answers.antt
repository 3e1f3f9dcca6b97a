use Rattle.std.proofs.Common.{◌≡◌, ◌+◌, ◌||◌, true, false, ℕ, Bool, List, Option, Some, None, drop, map, ap, refl, sym, ◌∙◌}
use Rattle.std.specs.Prelude.{slice_get, option_map, is_some}
use Rattle.std.specs.List.{list_any}
use Rattle.variant_table.specs.Entries.{Variant, Entry, whole}
use Rattle.variant_table.proofs.EntryLemmas.{slice_get-map}
use Rattle.variant_table.proofs.ListLemmas.{drop_next}
use Rattle.variant_table.proofs.entry.Entry.has_types.Goals as goal

abbrev typed : List Variant → Bool
typed vs = list_any (λ v. is_some v.type) vs

-- the variant of which the type is known
found : (o : Option Variant) (t : Option ℕ) → option_map (λ v. v.type) o ≡ Some t → (v : Variant) × (o ≡ Some v) × (v.type ≡ t)
found None t e = absurd cc
found (Some v) t e = (v, refl, cc)

-- one variant more, of which the type is known
one_more : (vs : List Variant) (n : ℕ) (t : Option ℕ) → slice_get (map (λ v. v.type) vs) n ≡ Some t → typed (drop n vs) ≡ (is_some t || typed (drop (n + 1) vs))
one_more vs n t at =
    let is = found (slice_get vs n) t (sym (slice_get-map (λ v. v.type) vs n) ∙ at) in
    ap typed (drop_next vs n is.0 is.1) ∙ ap (λ x. is_some x || typed (drop (n + 1) vs)) is.2

pub returns-then-is_some : goal.returns-then-is_some
returns-then-is_some c =
    let e : Entry = c.args.self.now in
    let n : ℕ = c.loop-number.number in
    let some : is_some c.variant_type.result ≡ true = sym c.is_some.ensures ∙ c.if-is_some.true in
    sym (sym c.loop-number.invariant ∙ one_more (whole e) n c.variant_type.result c.variant_type.ensures.is ∙ ap (λ b. b || typed (drop (n + 1) (whole e))) some)

pub loop-number-preserved : goal.loop-number-preserved
loop-number-preserved c =
    let e : Entry = c.args.self.now in
    let n : ℕ = c.loop-number.number in
    let none : is_some c.variant_type.result ≡ false = sym c.is_some.ensures ∙ c.if-is_some.false in
    sym (one_more (whole e) n c.variant_type.result c.variant_type.ensures.is ∙ ap (λ b. b || typed (drop (n + 1) (whole e))) none) ∙ c.loop-number.invariant
