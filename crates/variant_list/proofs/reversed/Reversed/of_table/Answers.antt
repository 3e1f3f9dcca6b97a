use Rattle.std.proofs.Common.{◌≡◌, ◌≤◌, [], length, ap, arith}
use Rattle.variant_list.specs.inner.Turned.{groups_of}
use Rattle.variant_list.proofs.TurnedLemmas.{AreOfFirst-none, AreSound-none, AreReversedOf-all, sound_few}
use Rattle.variant_list.proofs.CrowdLemmas.{uncrowded}
use Rattle.variant_list.proofs.reversed.Reversed.of_table.Goals as goal

pub loop-number-init : goal.loop-number-init
loop-number-init c =
    let none : groups_of c.new-sources.result.entries ≡ [] = ap groups_of c.new-sources.ensures.empty in
    (AreSound-none c.args.table.now.entries (groups_of c.new-sources.result.entries) none, AreOfFirst-none c.args.table.now.entries (groups_of c.new-sources.result.entries) none)

pub add_entry-requires : goal.add_entry-requires
add_entry-requires c = record { in_table = omega (arith, c.loop-number-test.true, c.len-number-end.ensures.count); sound = c.loop-number.invariant.0; earlier = c.loop-number.invariant.1 }

pub loop-number-preserved : goal.loop-number-preserved
loop-number-preserved c = (c.in_ok-add_entry.ensures.sound, c.in_ok-add_entry.ensures.adds)

pub returns-clause-pairs : goal.returns-clause-pairs
returns-clause-pairs c =
    let over : length c.args.table.now.entries ≤ c.loop-number.number = omega (arith, c.len-number-end.ensures.count, c.loop-number-test.false, c.loop-number.auto.number-end) in
    AreReversedOf-all c.args.table.now.entries (groups_of c.loop-number.sources.entries) c.loop-number.number over c.loop-number.invariant.1

pub returns-clause-few : goal.returns-clause-few
returns-clause-few c = sound_few (groups_of c.loop-number.sources.entries) c.loop-number.invariant.0

pub invariant_of-result : goal.invariant_of-result
invariant_of-result c = sound_few (groups_of c.loop-number.sources.entries) c.loop-number.invariant.0

pub returns-clause-uncrowded : goal.returns-clause-uncrowded
returns-clause-uncrowded c = λ a. uncrowded c.args.table.now.entries (groups_of c.loop-number.sources.entries) (returns-clause-pairs c) (returns-clause-few c) a
