-- Variants that are looked for among those that a table keeps.
use Rattle.std.specs.Prelude.{ℕ, Bool, List, ◌&&◌, filter}
use Rattle.std.specs.List.{list_any}
use Rattle.lgr_text.specs.Records as lgr
use Rattle.lgr_text.specs.Repertoire.{may_be, sources}
use Rattle.lgr_table.specs.Entries.{has_type, lacks_type, stays_untyped}
use Rattle.lgr_table.specs.declared.untyped.Wanted.{Wanted}
use Rattle.lgr_table.specs.declared.untyped.Wanted.TheVariants.{Typed, Untyped, Staying}

abbrev pub is_wanted : Wanted → List ℕ → lgr.Variant → Bool
is_wanted Typed = has_type
is_wanted Untyped = lacks_type
is_wanted Staying = stays_untyped

-- the table keeps the variant with one of these sources, of which it is wanted
abbrev pub keeps_with : (ℕ → Bool) → Wanted → lgr.Variant → List (List ℕ) → Bool
keeps_with may wanted v sources =
    list_any (λ s. may_be may v.points && is_wanted wanted s v) (filter (may_be may) sources)

-- it keeps one of the variants of the entry so
abbrev pub keeps_in : (ℕ → Bool) → Wanted → lgr.Entry → Bool
keeps_in may wanted e = list_any (λ v. keeps_with may wanted v (sources e.source)) e.variants
