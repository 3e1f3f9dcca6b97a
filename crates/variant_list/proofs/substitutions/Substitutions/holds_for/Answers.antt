use Rattle.std.proofs.Common.{◌≡◌, ℕ, ◌+◌, ◌↔◌, List, Bool, length, Some, sym, ap, ◌∙◌, subst}
use Rattle.std.specs.Prelude.{IsTrue, Option, None}
use Rattle.std.specs.List.{All, AllByRecursion}
use Rattle.std.proofs.lemmas.List.Elements.{All-contains}
use Rattle.label_patterns.specs.declared.condition.Condition.{Condition}
use Rattle.label_patterns.specs.Conditions.{ConditionHolds}
use Rattle.label_patterns.specs.Matches.{Seen, HasItsSets}
use Rattle.label_patterns.specs.Patterns.{Pattern}
use Rattle.ruleset_text.specs.Definitions.{Definitions}
use Rattle.variant_table.specs.Entries.{Entry, TableValue, Variant, whole}
use Rattle.variant_table.specs.Segmentations.{seen_under}
use Rattle.variant_table.specs.Staying.{holds_for}
use Rattle.variant_list.specs.inner.Asking.{CanAsk}
use Rattle.variant_list.proofs.HeldLemmas.{at-of, held-free, held_by, same_by}
use Rattle.variant_list.proofs.substitutions.Substitutions.holds_for.Goals as goal

pub returns-in_default : goal.returns-in_default
returns-in_default c =
    let table : TableValue = c.args.self.now.table.now in
    let label : List ℕ = c.args.self.now.label.now in
    let e : Entry = c.args.entry.now in
    let free : All (λ (x : Entry). All (λ (r : Variant). r.condition ≡ None) (whole x)) table.entries = subst (CanAsk table label) c.in_default.is c.requires.asked in
    held-free table label c.args.place e c.args.number (All-contains (λ (x : Entry). All (λ (r : Variant). r.condition ≡ None) (whole x)) table.entries e free c.requires.in_table) c.requires.number

pub condition_holds-requires-clause-known : goal.condition_holds-requires-clause-known
condition_holds-requires-clause-known c =
    let table : TableValue = c.args.self.now.table.now in
    let label : List ℕ = c.args.self.now.label.now in
    let d : Definitions = c.definitions.result.now in
    let same : c.in-Some.seen ≡ seen_under table label = subst (CanAsk table label) c.in-Some.is c.requires.asked in
    let sets : d.sets ≡ c.in-Some.seen.sets = ap (λ (x : Definitions). x.sets) c.definitions.ensures.is ∙ sym (ap (λ (s : Seen). s.sets) same) in
    subst (AllByRecursion (HasItsSets (length c.in-Some.seen.sets))) (sym c.rules-rules.ensures.is)
    (subst (λ n. AllByRecursion (HasItsSets n) d.rules) (ap length sets) c.rules-rules.ensures.known)

pub returns : goal.returns
returns c =
    let table : TableValue = c.args.self.now.table.now in
    let label : List ℕ = c.args.self.now.label.now in
    let e : Entry = c.args.entry.now in
    let place : ℕ = c.args.place in
    let asked : Option Condition = c.condition.result in
    let told : Bool = c.condition_holds.result in
    let same : c.in-Some.seen ≡ seen_under table label = subst (CanAsk table label) c.in-Some.is c.requires.asked in
    let rules = c.rules-rules.ensures.is ∙ ap (λ (x : Definitions). x.rules) c.definitions.ensures.is in
    let holds : IsTrue told ↔ ConditionHolds table.definitions.rules (seen_under table label) asked place (place + length e.source) =
    subst (λ (s : List ℕ). IsTrue told ↔ ConditionHolds table.definitions.rules (seen_under table label) asked place (place + length s)) c.source.ensures
    (subst (λ (s : Seen). IsTrue told ↔ ConditionHolds table.definitions.rules s asked place (place + length c.source.result.now)) same
    (subst (λ (rs : List Pattern). IsTrue told ↔ ConditionHolds rs c.in-Some.seen asked place (place + length c.source.result.now)) rules c.condition_holds.ensures)) in
    at-of (λ (r : Variant). r.condition) (holds_for table label place e) (whole e) c.args.number asked c.condition.ensures
    ∙ ap Some (sym (same_by told (holds_for table label place e asked) holds (held_by table label place e asked c.requires.within)))
