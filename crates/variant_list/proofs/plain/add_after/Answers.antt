use Rattle.std.proofs.Common.{◌≡◌, ◌++◌, subst, rules}
use Rattle.variant_list.specs.LabelSet.{labels_of}
use Rattle.variant_list.specs.inner.LabelSets.{Adds, SomeGives, JoinsEnding}
use Rattle.variant_list.proofs.LabelSets.{Adds-insert}
use Rattle.variant_list.proofs.RisingLists.{IsRising-from_sorted}
use Rattle.variant_list.proofs.PlainListerSteps.{Adds-same, HasAdded-none, HasAdded-more, HasAdded-all, JoinsEnding-viewed}
use Rattle.variant_list.proofs.plain.add_after.Goals as goal

pub loop-ending-init : goal.loop-ending-init
loop-ending-init c = HasAdded-none (λ v q. q ≡ c.args.beginning.now ++ v.items) c.args.endings.now.keys c.into_iter-ending-iterator.result (labels_of c.args.labels.now) (search rules) c.requires.in_order

pub loop-ending-preserved : goal.loop-ending-preserved
loop-ending-preserved c =
    let items : c.extend_from_slice-in-loop-ending.new.self.items ≡ c.args.beginning.now ++ c.in-Some.ending.now.items = search rules in
    let inserted : Adds (λ q. q ≡ c.args.beginning.now ++ c.in-Some.ending.now.items) (labels_of c.loop-ending.labels) (labels_of c.insert.new.self) =
    subst (λ v. Adds (λ q. q ≡ v) (labels_of c.loop-ending.labels) (labels_of c.insert.new.self)) items (Adds-insert c.loop-ending.labels.keys c.insert.new.self.keys c.extend_from_slice-in-loop-ending.new.self c.in_ok-insert.ensures.keys) in
    HasAdded-more (λ v q. q ≡ c.args.beginning.now ++ v.items) c.args.endings.now.keys c.loop-ending.ending-iterator c.in-Some.ending.now c.next.new.self (labels_of c.args.labels.now) (labels_of c.loop-ending.labels) (labels_of c.insert.new.self)
    c.loop-ending.invariant c.in-Some.ensures.steps inserted (IsRising-from_sorted (λ v. v.items) c.insert.new.self.keys c.in_ok-insert.ensures.ordered)

pub returns-clause-added : goal.returns-clause-added
returns-clause-added c =
    Adds-same (SomeGives (λ v q. q ≡ c.args.beginning.now ++ v.items) c.args.endings.now.keys) (JoinsEnding (labels_of c.args.endings.now) c.args.beginning.now) (labels_of c.args.labels.now) (labels_of c.loop-ending.labels)
    (JoinsEnding-viewed c.args.endings.now.keys c.args.beginning.now)
    (HasAdded-all (λ v q. q ≡ c.args.beginning.now ++ v.items) c.args.endings.now.keys c.loop-ending.ending-iterator (labels_of c.args.labels.now) (labels_of c.loop-ending.labels) c.loop-ending.invariant c.in-None.ensures.steps.0)

pub returns-clause-in_order : goal.returns-clause-in_order
returns-clause-in_order c = c.loop-ending.invariant.rising
