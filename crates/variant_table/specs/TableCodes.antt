-- Codes of tables, by which their values are told apart.
use Rattle.std.specs.Prelude.{◌≡◌, ℕ, zero, suc, Bool, Option, List, refl}
use Rattle.std.specs.Coded.{Coded, code_by, coded×, coded_ℕ, coded_bool, coded_list, coded_option}
use Rattle.std.proofs.Common.{ap}
use Rattle.label_patterns.specs.declared.condition.Condition.{Condition}
use Rattle.ruleset_text.specs.DefinitionCodes.{condition_kind_back, condition_kind_from, definitions_code, is_when}
use Rattle.ruleset_text.specs.Definitions.{Definitions}
use Rattle.variant_table.specs.declared.version.Version.{Version}
use Rattle.variant_table.specs.declared.version.Version.TheVariants.{One, Two, Three}
use Rattle.variant_table.specs.Entries.{Variant, Entry, TableValue, source_of, table_of}
use Rattle.variant_table.specs.Versions.{version_number}

abbrev pub version_from : ℕ → Version
version_from zero = Three
version_from (suc zero) = One
version_from (suc (suc zero)) = Two
version_from (suc (suc (suc n))) = Three

pub version_back : (v : Version) → version_from (version_number v) ≡ v
version_back One = refl
version_back Two = refl
version_back Three = refl

abbrev pub version_code : Coded Version
version_code = code_by ℕ coded_ℕ version_number version_from version_back

abbrev pub condition_code : Coded Condition
condition_code =
    code_by (Bool × ℕ) (coded× coded_bool coded_ℕ) (λ c. (is_when c.kind, c.rule))
    (λ p. record { kind = condition_kind_from p.0; rule = p.1 })
    (λ c. ap (λ k. record { kind = k; rule = c.rule }) (condition_kind_back c.kind))

abbrev pub sequence_code : Coded (List ℕ)
sequence_code = coded_list coded_ℕ

abbrev pub variant_code : Coded Variant
variant_code =
    code_by (List ℕ × (Option ℕ × Option Condition))
    (coded× sequence_code (coded× (coded_option coded_ℕ) (coded_option condition_code)))
    (λ v. (v.sequence, (v.type, v.condition)))
    (λ p. record { sequence = p.0; type = p.1.0; condition = p.1.1 }) (λ _. refl)

abbrev pub entry_code : Coded Entry
entry_code =
    code_by (Variant × List Variant) (coded× variant_code (coded_list variant_code)) (λ e. (source_of e, e.variants))
    (λ p. record { source = p.0.sequence; type = p.0.type; condition = p.0.condition; variants = p.1 }) (λ _. refl)

abbrev pub table_code : Coded TableValue
table_code =
    code_by (Version × (Definitions × List Entry))
    (coded× version_code (coded× definitions_code (coded_list entry_code)))
    (λ t. (t.version, (t.definitions, t.entries)))
    (λ p. table_of p.0 p.1.0 p.1.1) (λ _. refl)
