-- The rules that a label matches make a difference as far as actions ask for them.
use Rattle.std.proofs.Common.{◌≡◌, inl, inr, ℕ, Bool, ◌&&◌, List, [], ◌∷◌, refl, sym, ap, ◌∙◌}
use Rattle.std.specs.Prelude.{filter, map, Option, Some, None, option_map, unwrap_or, if◌then◌else◌}
use Rattle.std.specs.List.{AllByRecursion, find}
use Rattle.label_patterns.specs.declared.condition.Condition.{Condition}
use Rattle.reading_kinds.specs.Readings.{Substitution}
use Rattle.variant_dispositions.specs.declared.action.Action.{Action}
use Rattle.variant_dispositions.specs.declared.disposition.Disposition.{Disposition}
use Rattle.variant_dispositions.specs.declared.disposition.Disposition.TheVariants.{Valid}
use Rattle.variant_dispositions.specs.declared.variant.VariantDisposition.{VariantDisposition}
use Rattle.variant_dispositions.specs.declared.variant.VariantDisposition.TheVariants.{Clear, Unclear}
use Rattle.variant_dispositions.specs.Actions.{default_actions, default_disposition, disposition, first_triggered, has_types, is_predefined, is_triggered, meets}
use Rattle.variant_dispositions.specs.Kinds.{Kind, recorded}
use Rattle.variant_dispositions.specs.Readings.{IsTold}
use Rattle.ruleset_text.specs.Actions.{NamedAction}
use Rattle.ruleset_text.specs.Definitions.{Definitions}
use Rattle.variant_table.specs.Entries.{TableValue}
use Rattle.variant_table.specs.Forms.{numbered}
use Rattle.valid_labels.specs.Actions.{action_of, matches_rule}
use Rattle.valid_labels.specs.Testing.{Testing}
use Rattle.valid_labels.specs.Validity.{AsksTypesAlone, IsSound}
use Rattle.idn2_cli.specs.inner.Dispositions.{AreRulesFor, AreRulesOf}
use Rattle.idn2_cli.specs.inner.Ruling.{Sees, matched_in, ruling_in, ruling_of}
use Rattle.idn2_cli.proofs.RulingLemmas.{nothing-asked, same-table}

module _ (matched those : ℕ → Bool) where
  found-same : (kinds : List Kind) (actions : List Action) → AllByRecursion (λ action. action.condition ≡ None) actions → find (is_triggered matched kinds) actions ≡ find (is_triggered those kinds) actions
  found-same kinds [] none = refl
  found-same kinds (action ∷ actions) none =
      ap (λ (c : Option Condition). if has_types action.types kinds && meets matched c then Some action else find (is_triggered matched kinds) actions) none.0
      ∙ ap (λ (c : Option Condition). if has_types action.types kinds && meets those c then Some action else find (is_triggered matched kinds) actions) (sym none.0)
      ∙ ap (λ (found : Option Action). if is_triggered those kinds action then Some action else found) (found-same kinds actions none.1)

  first-same : (kinds : List Kind) (actions : List Action) → AllByRecursion (λ action. action.condition ≡ None) actions → first_triggered matched kinds actions ≡ first_triggered those kinds actions
  first-same kinds actions none = ap (option_map (λ (action : Action). action.disposition)) (found-same kinds actions none)

  -- the default actions ask for no rule
  default-same : (kinds : List Kind) → default_disposition matched kinds ≡ default_disposition those kinds
  default-same kinds = first-same (filter is_predefined kinds) default_actions (refl, (refl, (refl, (refl, (refl, tt)))))

-- the disposition is the same
pub disposition-same : (matched those : ℕ → Bool) (actions : List Action) (kinds : List Kind) → AreRulesFor actions those matched → disposition matched actions kinds ≡ disposition those actions kinds
disposition-same matched those actions kinds (inl same) = ap (λ (m : ℕ → Bool). disposition m actions kinds) same
disposition-same matched those actions kinds (inr none) =
    ap (λ (first : Option Disposition). unwrap_or first (unwrap_or (default_disposition matched kinds) Valid)) (first-same matched those kinds actions none)
    ∙ ap (λ (last : Option Disposition). unwrap_or (first_triggered those kinds actions) (unwrap_or last Valid)) (default-same matched those kinds)

-- and so is what is told
pub told-same : (matched those : ℕ → Bool) (actions : List Action) (substitutions : List (List Substitution)) (v : List ℕ) (told : VariantDisposition) → AreRulesFor actions those matched → IsTold matched actions substitutions v told → IsTold those actions substitutions v told
told-same matched those actions substitutions v (Clear d) same is = (is.0, (is.1.0, is.1.1, sym (disposition-same matched those actions (recorded is.1.0) same) ∙ is.1.2))
told-same matched those actions substitutions v Unclear same is = is

-- ---- those that a test has seen

-- an action that asks for types alone asks for no rule
no_rules : (d : Definitions) (named : List NamedAction) → AllByRecursion AsksTypesAlone named → AllByRecursion (λ action. action.condition ≡ None) (map (action_of d) named)
no_rules d [] all = tt
no_rules d (a ∷ named) all = (ap (option_map (numbered d)) all.0.0, no_rules d named all.1)

pub seen-rules : (test : Option Testing) (table : TableValue) (v : List ℕ) → IsSound table → ruling_in test ≡ ruling_of table → Sees v test → AreRulesOf table v (matched_in test)
seen-rules None table v sound is sees = inr (no_rules table.definitions table.definitions.actions (nothing-asked table sound is).cuts_alone.actions)
seen-rules (Some test) table v sound is sees =
    inl (ap (λ (t : TableValue). matches_rule t test.cached) (same-table test table is) ∙ ap (matches_rule table) sees)
