-- Worked examples of the dispositions of labels that are asked about, by computation.
use Rattle.std.specs.Prelude.{◌≡◌, true, false, ℕ, Some, None, List, [], ◌∷◌, codes}
use Rattle.label_patterns.specs.declared.condition.ConditionKind.TheVariants.{When}
use Rattle.label_patterns.specs.Patterns.{Pattern, Set, Any, Many, Then, Either}
use Rattle.ruleset_text.specs.declared.action.TriggerKind.TheVariants as kinds
use Rattle.ruleset_text.specs.declared.action.TriggerKind.{TriggerKind}
use Rattle.ruleset_text.specs.Actions.{NamedAction}
use Rattle.variant_dispositions.specs.declared.disposition.Disposition.{Disposition}
use Rattle.variant_dispositions.specs.declared.disposition.Disposition.TheVariants.{Invalid, Blocked, Allocatable}
use Rattle.variant_dispositions.specs.declared.disposition.Disposition.TheVariants.{Valid}
use Rattle.variant_dispositions.specs.declared.variant.VariantDisposition.TheVariants.{Clear, Unclear as Apart}
use Rattle.variant_table.specs.Entries.{Entry, TableValue}
use Rattle.variant_table.specs.ExampleTables.{table_with}
use Rattle.valid_labels.specs.declared.cause.ActionCause.TheVariants.{Rule, Source, Other}
use Rattle.valid_labels.specs.declared.cause.ValidityCause.TheVariants.{Unclear, Action as ByAction, DefaultAction}
use Rattle.valid_labels.specs.Causes.{cause_of}
use Rattle.valid_labels.specs.Dispositions.{told_itself}
use Rattle.valid_labels.specs.Examples.{letters, source}
use Rattle.valid_labels.specs.Tests.{is_admitted}

-- a source of this type
abbrev pub typed : ℕ → List ℕ → Entry
typed number points = record (source points None []) { type = Some number }

-- the table with these types and actions besides
abbrev pub with_actions : List (List ℕ) → List NamedAction → TableValue → TableValue
with_actions types actions table =
    record table { definitions = record table.definitions { types = types; actions = actions } }

abbrev pub by_trigger : Disposition → TriggerKind → List ℕ → NamedAction
by_trigger disposition kind type =
    record { disposition = disposition; condition = None; trigger = Some (record { kind = kind; types = type ∷ [] }) }

-- the source 0430 has the type invalid, number 0
abbrev pub out_of_repertoire : TableValue
out_of_repertoire = table_with [] [] [] (typed 0 (1072 ∷ []) ∷ letters (codes "ab"))

-- or a type of the table's own, number 5, which the first action makes invalid
abbrev pub out_by_action : TableValue
out_by_action =
    with_actions (codes "oor" ∷ []) (by_trigger Invalid kinds.Any (codes "oor")
    ∷ by_trigger Blocked kinds.Any (codes "blocked") ∷ [])
    (table_with [] [] [] (typed 5 (1072 ∷ []) ∷ letters (codes "ab")))

-- ASCII digits and others: no label has both
abbrev pub not_mixed : TableValue
not_mixed =
    let mixed : Pattern = Either (Then (Set 0) (Then (Many Any) (Set 1))) (Then (Set 1) (Then (Many Any) (Set 0))) in
    let table =
    table_with ((record { first = 48; last = 57 } ∷ []) ∷ (record { first = 2406; last = 2415 } ∷ []) ∷ [])
    (mixed ∷ []) [] (letters (49 ∷ 50 ∷ 2407 ∷ 2408 ∷ [])) in
    record table {
      definitions = record table.definitions {
        rule_names = codes "mixed" ∷ [];
        actions = record {
          disposition = Invalid;
          condition = Some (record { kind = When; rule = codes "mixed" });
          trigger = None;
        } ∷ [];
      };
    }

-- an action that asks for all, after one that isn't triggered
abbrev pub all_of_r : TableValue
all_of_r =
    with_actions (codes "r" ∷ []) (by_trigger Valid kinds.Any (codes "valid") ∷ by_trigger Invalid kinds.All (codes "r")
    ∷ []) (table_with [] [] [] (typed 5 (codes "a") ∷ letters (codes "b")))

-- the example of RFC 7940, section 8.4: reflexive types of overlapping sequences. Allocatable is number 2,
-- blocked number 1
abbrev pub overlapping : TableValue
overlapping = table_with [] [] [] (typed 2 (codes "a") ∷ typed 1 (codes "ab") ∷ letters (codes "b"))

-- what is told of labels that may be asked about; and why others may not
pub record DispositionsOfExamples : Type 0 where
  pub without_it : told_itself out_of_repertoire (codes "ab") ≡ Some (Clear Valid)
  pub by_default : is_admitted out_of_repertoire (1072 ∷ 98 ∷ []) ≡ false
  pub by_default_first : cause_of out_of_repertoire (1072 ∷ 98 ∷ []) ≡ Some (DefaultAction 0)
  pub by_default_second : cause_of out_of_repertoire (98 ∷ 1072 ∷ []) ≡ Some (DefaultAction 1)
  pub by_action : cause_of out_by_action (98 ∷ 1072 ∷ []) ≡ Some (ByAction 0 (Source 1 5))
  pub by_action_not : is_admitted out_by_action (codes "ab") ≡ true
  pub by_rule : cause_of not_mixed (49 ∷ 2408 ∷ []) ≡ Some (ByAction 0 (Rule (record { kind = When; rule = 0 })))
  pub by_rule_not : is_admitted not_mixed (49 ∷ 50 ∷ []) ≡ true
  pub by_all : cause_of all_of_r (codes "ab") ≡ Some (ByAction 1 Other)
  pub all_of_unmapped : is_admitted all_of_r (codes "b") ≡ true
  pub unclear : told_itself overlapping (codes "ab") ≡ Some Apart
  pub unclear_cause : cause_of overlapping (codes "ab") ≡ Some Unclear
  pub clear : told_itself overlapping (codes "a") ≡ Some (Clear Allocatable)
  pub clear_both : told_itself overlapping (codes "ba") ≡ Some (Clear Allocatable)
