use Rattle.std.proofs.Common.{rules, of_calls, ◌≡◌, ◌≤◌, ◌<◌, true, false, length, sym, subst, ap, ◌∙◌, ltb, leb, arith}
use Rattle.std.specs.List.Sorted.{IsPartitionPoint}
use Rattle.std.proofs.lemmas.Bool.{le-ltb}
use Rattle.std.proofs.lemmas.List.Sorted.{IsPartitionPoint-from_clause, IsPartitionedBy-ltb}
use Rattle.label_patterns.specs.Sets.{Rise, is_in}
use Rattle.label_patterns.proofs.SetLemmas.{lasts-rise, in-at, in-none}
use Rattle.label_patterns.proofs.point_set.PointSet.contains.Goals as goal

pub returns-then-place-len : goal.returns-then-place-len
returns-then-place-len c =
    let spans = c.self.inside.spans.items in
    let k = c.partition_point-place.result in
    let rise = subst Rise (sym c.deref.ensures.value) c.self.invariant in
    let point = IsPartitionPoint-from_clause (λ s. ltb s.last c.args.point) c.deref.result.now k c.partition_point-place.ensures.partitioned
    (IsPartitionedBy-ltb (λ s. s.last) c.deref.result.now c.args.point (lasts-rise c.deref.result.now rise)) (λ a r f q. search (rules, of_calls)) in
    let at = subst (λ l. IsPartitionPoint (λ s. ltb s.last c.args.point ≡ true) (λ s. ltb s.last c.args.point ≡ false) l k) c.deref.ensures.value point in
    let inside : k < length spans = omega (arith, c.if-place-len.true, c.len.ensures) in
    ap (λ s. leb s.first c.args.point) c.index.ensures
    ∙ sym (in-at spans c.args.point k c.index.result.now c.self.invariant inside at.0 at.1)
    ∙ ap (λ l. is_in l c.args.point) c.self.view_is

pub returns-else-place-len : goal.returns-else-place-len
returns-else-place-len c =
    let spans = c.self.inside.spans.items in
    let k = c.partition_point-place.result in
    let rise = subst Rise (sym c.deref.ensures.value) c.self.invariant in
    let point = IsPartitionPoint-from_clause (λ s. ltb s.last c.args.point) c.deref.result.now k c.partition_point-place.ensures.partitioned
    (IsPartitionedBy-ltb (λ s. s.last) c.deref.result.now c.args.point (lasts-rise c.deref.result.now rise)) (λ a r f q. search (rules, of_calls)) in
    let at = subst (λ l. IsPartitionPoint (λ s. ltb s.last c.args.point ≡ true) (λ s. ltb s.last c.args.point ≡ false) l k) c.deref.ensures.value point in
    let over : length spans ≤ k = omega (arith, c.if-place-len.false, c.len.ensures) in
    le-ltb k c.len.result c.if-place-len.false
    ∙ sym (in-none spans c.args.point k over at.0)
    ∙ ap (λ l. is_in l c.args.point) c.self.view_is
