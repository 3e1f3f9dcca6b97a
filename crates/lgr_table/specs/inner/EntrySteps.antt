-- What each step of adding entries makes of a table.
use Rattle.std.specs.Prelude.{◌≡◌, ℕ, Bool, List, ◌++◌, All, filter, map}
use Rattle.lgr_text.specs.Records.{Entry}
use Rattle.lgr_text.specs.Repertoire.{kept_sources, may_be}
use Rattle.lgr_table.specs.Entries.{HasOneType, entries_of, entry_with}
use Rattle.lgr_text.specs.Names.{asked_by}
use Rattle.lgr_table.specs.Numbers.{Numbering}
use Rattle.lgr_table.specs.inner.Steps.{AreAmong}
use Rattle.ruleset_text.specs.Definitions.{Definitions}
use Rattle.ruleset_text.specs.EntryForms.{mapped as form_of}
use Rattle.ruleset_text.specs.declared.entry_form.Mapped.{Mapped}
use Rattle.variant_table.specs.Entries.{TableValue, Variant}
use Rattle.variant_table.specs.Forms.{variant_by, variant_mark}

-- an entry of the file is added, whose conditions ask for numbered rules
pub record AddsEntry (may : ℕ → Bool) (n : Numbering) (e : Entry) (t u : TableValue) : Type 0 where
  pub added : u ≡ record t { entries = t.entries ++ entries_of may n e }
  pub of_one_type : All (HasOneType e) (kept_sources may e)
  pub asked_for : AreAmong n.rules (asked_by e)

-- these sources of it are added, as far as the table keeps them
pub record AddsSources (may : ℕ → Bool) (n : Numbering) (e : Entry) (sources : List (List ℕ)) (t u : TableValue)
    : Type 0 where
  pub added : u ≡ record t { entries = t.entries ++ map (entry_with may n e) (filter (may_be may) sources) }
  pub of_one_type : All (HasOneType e) (filter (may_be may) sources)

-- these variants stand after what was there
abbrev pub PushesVariants : Definitions → List Mapped → List Mapped → List Variant → Type 0
PushesVariants d old new variants =
    (more : List Mapped) × (new ≡ old ++ more) × (map (λ m. variant_by variant_mark d (form_of m)) more ≡ variants)
