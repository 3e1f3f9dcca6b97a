use Rattle.std.proofs.Common.{◌≡◌, ℕ, ◌+◌, ◌↔◌, List, length, sym, ap, ◌∙◌, subst}
use Rattle.std.specs.Prelude.{IsTrue, Bool, Option}
use Rattle.std.specs.List.{AllByRecursion}
use Rattle.label_patterns.specs.declared.condition.Condition.{Condition}
use Rattle.label_patterns.specs.Conditions.{ConditionHolds}
use Rattle.label_patterns.specs.Matches.{Seen, HasItsSets}
use Rattle.label_patterns.specs.Patterns.{Pattern}
use Rattle.ruleset_text.specs.Definitions.{Definitions}
use Rattle.variant_table.specs.Entries.{Entry, TableValue, Variant, whole}
use Rattle.variant_table.specs.Segmentations.{seen_under}
use Rattle.variant_list.proofs.ListMembers.{mapped-same}
use Rattle.variant_list.proofs.plain.holds_for.Goals as goal

pub condition_holds-requires-clause-known : goal.condition_holds-requires-clause-known
condition_holds-requires-clause-known c =
    let d : Definitions = c.definitions.result.now in
    let sets : d.sets ≡ c.args.seen.now.sets = ap (λ (x : Definitions). x.sets) c.definitions.ensures.is ∙ sym (ap (λ (s : Seen). s.sets) c.requires.seen) in
    subst (AllByRecursion (HasItsSets (length c.args.seen.now.sets))) (sym c.rules-rules.ensures.is)
    (subst (λ n. AllByRecursion (HasItsSets n) d.rules) (ap length sets) c.rules-rules.ensures.known)

pub returns : goal.returns
returns c = λ r at.
    let table : TableValue = c.args.table.now in
    let label : List ℕ = c.args.seen.now.label in
    let e : Entry = c.args.entry.now in
    let place : ℕ = c.args.place in
    let asked : Option Condition = c.condition.result in
    let told : Bool = c.condition_holds.result in
    let rules = c.rules-rules.ensures.is ∙ ap (λ (x : Definitions). x.rules) c.definitions.ensures.is in
    let holds : IsTrue told ↔ ConditionHolds table.definitions.rules (seen_under table label) asked place (place + length e.source) =
    subst (λ (s : List ℕ). IsTrue told ↔ ConditionHolds table.definitions.rules (seen_under table label) asked place (place + length s)) c.source.ensures
    (subst (λ (s : Seen). IsTrue told ↔ ConditionHolds table.definitions.rules s asked place (place + length c.source.result.now)) c.requires.seen
    (subst (λ (rs : List Pattern). IsTrue told ↔ ConditionHolds rs c.args.seen.now asked place (place + length c.source.result.now)) rules c.condition_holds.ensures)) in
    subst (λ o. IsTrue told ↔ ConditionHolds table.definitions.rules (seen_under table label) o place (place + length e.source))
    (sym (mapped-same (λ (v : Variant). v.condition) (whole e) c.args.number r asked at c.condition.ensures)) holds
