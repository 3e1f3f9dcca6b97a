use Rattle.std.proofs.Common.{rules, ◌≡◌, ℕ, List, get_or, map, take, refl, sym, ap, subst, ◌∙◌}
use Rattle.std.proofs.lemmas.List.{take_all}
use Rattle.std.proofs.lemmas.Result.{err_from_is_err_and}
use Rattle.ruleset_text.specs.Definitions.{Definitions}
use Rattle.lgr_text.specs.DefinitionOrder.{IsOrder, IsOrderFault}
use Rattle.lgr_text.specs.Records.{definition, entry, meaning}
use Rattle.lgr_text.specs.declared.records.Definition.{Definition as Held}
use Rattle.lgr_text.specs.declared.records.Entry.{Entry as HeldEntry}
use Rattle.lgr_table.specs.Tables.{may_stand}
use Rattle.lgr_table.specs.inner.RuleSteps.{known_by}
use Rattle.lgr_table.specs.inner.TableNames.{AreRuleNames}
use Rattle.lgr_table.proofs.TableNameLemmas.{names-with}
use Rattle.lgr_table.proofs.OtherRulesLemmas.{others-too}
use Rattle.lgr_table.proofs.RuleLemmas.{adds-rules, all-rules}
use Rattle.lgr_table.specs.Faults.{IsFaultless}
use Rattle.lgr_table.proofs.KnownLemmas.{all-faultless, comes-next, faultless-more, kept-there, knows-all, no-fault, none-so-far}
use Rattle.lgr_table.proofs.StepLemmas.{meaning-formed, taken-step}
use Rattle.lgr_table.proofs.TakenLemmas.{AreTaken}
use Rattle.lgr_table.proofs.TakenOrderLemmas.{chosen, within}
use Rattle.lgr_table.proofs.rules.define_rules.Goals as goal

pub take-requires-clause-meaning : goal.take-requires-clause-meaning
take-requires-clause-meaning c =
    let raw = c.args.«ruleset».now.definitions.items in
    let order = c.deref-number-items.result.now in
    let is : IsOrder raw order =
    subst (λ (l : List ℕ). IsOrder raw l) (sym c.deref-number-items.ensures.value)
    (subst (λ (l : List Held). IsOrder l c.in-Ok.order.items) c.deref-3.ensures.value c.in-Ok.ensures.order) in
    meaning-formed raw order c.loop-number.number-index c.index-definition.result.now is c.loop-number-test.true
    c.index-definition.ensures c.requires.well_formed.definitions

pub loop-number-preserved : goal.loop-number-preserved
loop-number-preserved c =
    let raw = c.args.«ruleset».now.definitions.items in
    let order = c.deref-number-items.result.now in
    let is : IsOrder raw order =
    subst (λ (l : List ℕ). IsOrder raw l) (sym c.deref-number-items.ensures.value)
    (subst (λ (l : List Held). IsOrder l c.in-Ok.order.items) c.deref-3.ensures.value c.in-Ok.ensures.order) in
    let entries = map entry c.deref-2.result.now in
    let points = c.in_ok-points.points in
    let r = c.args.«ruleset».now in
    let own = c.args.builder.now.definitions.properties in
    let are =
    kept-there points c.properties-properties.result own _ r.entries.items
    (c.properties-properties.ensures ∙ ap (λ (d : Definitions). d.properties) c.definitions.ensures) c.deref.ensures.value
    (c.in_ok-points.ensures {u = tt}) in
    let i = c.loop-number.number-index in
    let d = c.index-definition.result.now in
    let known = known_by entries points c.loop-number.taken c.loop-number.builder.definitions.rules in
    let sets = c.loop-number.builder.definitions.sets in
    let so_far : AreTaken (map entry r.entries.items) points known sets (chosen (map definition raw) (take i order)) =
    subst (λ (l : List HeldEntry). AreTaken (map entry l) points known sets (chosen (map definition raw) (take i order))) c.deref-2.ensures.value
    c.loop-number.invariant.taken in
    let this : IsFaultless (may_stand own) r d = record {
      known = known;
      next = comes-next (may_stand own) r order i d points known sets are is c.loop-number-test.true c.index-definition.ensures so_far
          c.loop-number.invariant.branches;
      faultless = no-fault known _ sets _ d.name (meaning d.meaning) c.in_ok-take.ensures.added;
    } in
    record {
      faultless = faultless-more (may_stand own) r order i d is c.loop-number-test.true c.index-definition.ensures this
          c.loop-number.invariant.faultless;
      taken = taken-step raw order c.loop-number.number-index c.index-definition.result.now entries points
          (known_by entries points c.loop-number.taken c.loop-number.builder.definitions.rules)
          (known_by entries points c.take.new.taken c.take.new.builder.definitions.rules) c.loop-number.builder.definitions.sets
          c.take.new.builder.definitions.sets is c.loop-number-test.true c.index-definition.ensures c.loop-number.invariant.taken
          c.in_ok-take.ensures.added;
      sets = c.in_ok-take.ensures.sets;
      branches = c.in_ok-take.ensures.branches;
      others = others-too c.args.builder.now c.loop-number.builder c.take.new.builder c.loop-number.invariant.others c.in_ok-take.ensures.others;
      called = c.in_ok-take.ensures.called c.loop-number.invariant.called;
    }

pub returns : goal.returns
returns c =
    let held = c.args.«ruleset».now in
    let raw = held.definitions.items in
    let order = c.deref-number-items.result.now in
    let is : IsOrder raw order =
    subst (λ (l : List ℕ). IsOrder raw l) (sym c.deref-number-items.ensures.value)
    (subst (λ (l : List Held). IsOrder l c.in-Ok.order.items) c.deref-3.ensures.value c.in-Ok.ensures.order) in
    let points = c.in_ok-points.points in
    let own = c.args.builder.now.definitions.properties in
    let are =
    kept-there points c.properties-properties.result own _ held.entries.items
    (c.properties-properties.ensures ∙ ap (λ (d : Definitions). d.properties) c.definitions.ensures) c.deref.ensures.value
    (c.in_ok-points.ensures {u = tt}) in
    let u = c.loop-number.builder in
    let all : take c.loop-number.number-index order ≡ order = take_all c.loop-number.number-index order c.loop-number-test.false in
    let taken : AreTaken (map entry held.entries.items) points
    (known_by (map entry held.entries.items) points c.loop-number.taken u.definitions.rules) u.definitions.sets
    (chosen (map definition raw) order) =
    subst (λ (l : List HeldEntry). AreTaken (map entry l) points (known_by (map entry l) points c.loop-number.taken u.definitions.rules)
    u.definitions.sets (chosen (map definition raw) order)) c.deref-2.ensures.value
    (subst (λ (o : List ℕ). AreTaken (map entry c.deref-2.result.now) points
    (known_by (map entry c.deref-2.result.now) points c.loop-number.taken u.definitions.rules) u.definitions.sets
    (chosen (map definition raw) o)) all c.loop-number.invariant.taken) in
    let known = known_by (map entry held.entries.items) points c.loop-number.taken u.definitions.rules in
    let names = names-with c.args.types.now c.args.types.now c.deref-4.result.now held refl c.deref-4.ensures.value in
    record {
      added = adds-rules own held order points known c.args.builder.now u is are taken refl c.loop-number.invariant.others c.args.types.now
          (subst (λ n. AreRuleNames n c.loop-number.taken.rule_names.items u.definitions) names c.loop-number.invariant.called);
      all = all-rules own held order points known c.args.builder.now u is are taken refl c.loop-number.invariant.others;
      faultless = all-faultless (may_stand own) held order (take c.loop-number.number-index order) is all c.loop-number.invariant.faultless;
      known = (known, knows-all (may_stand own) held order points known u.definitions.sets are is taken c.loop-number.invariant.branches, refl, refl);
      fault = tt;
    }

pub returns-in-Err-clause-fault : goal.returns-in-Err-clause-fault
returns-in-Err-clause-fault c =
    c.of_order.ensures (may_stand c.args.builder.now.definitions.properties) c.args.«ruleset».now
    (subst (λ (l : List Held). IsOrderFault l c.in-Err.error) c.deref-3.ensures.value c.in-Err.ensures.fault)

pub returns-in_err-take-clause-fault : goal.returns-in_err-take-clause-fault
returns-in_err-take-clause-fault c =
    let p = err_from_is_err_and c.from_residual-in_err-take.result c.from_residual-in_err-take.ensures.1 in
    let r = c.args.«ruleset».now in
    let raw = r.definitions.items in
    let order = c.deref-number-items.result.now in
    let is : IsOrder raw order =
    subst (λ (l : List ℕ). IsOrder raw l) (sym c.deref-number-items.ensures.value)
    (subst (λ (l : List Held). IsOrder l c.in-Ok.order.items) c.deref-3.ensures.value c.in-Ok.ensures.order) in
    let own = c.args.builder.now.definitions.properties in
    let are =
    kept-there c.in_ok-points.points c.properties-properties.result own _ r.entries.items
    (c.properties-properties.ensures ∙ ap (λ (d : Definitions). d.properties) c.definitions.ensures) c.deref.ensures.value
    (c.in_ok-points.ensures {u = tt}) in
    let i = c.loop-number.number-index in
    let d = c.index-definition.result.now in
    let entries = map entry c.deref-2.result.now in
    let points = c.in_ok-points.points in
    let known = known_by entries points c.loop-number.taken c.loop-number.builder.definitions.rules in
    let sets = c.loop-number.builder.definitions.sets in
    let taken : AreTaken (map entry r.entries.items) points known sets (chosen (map definition raw) (take i order)) =
    subst (λ (l : List HeldEntry). AreTaken (map entry l) points known sets (chosen (map definition raw) (take i order))) c.deref-2.ensures.value
    c.loop-number.invariant.taken in
    rw (p.1, p.2) (c.in_err-take.ensures.fault (may_stand own) r (get_or order i 0, within raw order i is c.loop-number-test.true, sym c.index-definition.ensures)
    (comes-next (may_stand own) r order i d points known sets are is c.loop-number-test.true c.index-definition.ensures taken c.loop-number.invariant.branches))

pub loop-number-init : goal.loop-number-init
loop-number-init c = record {
  faultless = none-so-far _ _ c.deref-number-items.result.now;
  taken = search rules;
  sets = search rules;
  branches = search rules;
  others = search rules;
  called = search rules;
}
