use Rattle.std.proofs.Common.{◌≡◌, ℕ, ◌+◌, ◌<◌, List, ◌++◌, ◌∷◌, [], None, Some, ap, arith, length, subst, sym, ◌∙◌}
use Rattle.lgr_table.specs.Numbers.{all_types}
use Rattle.lgr_table.proofs.ActionLemmas.{AreNamedBelow, length-types, named_next, none_of, own_at, unnamed_next}
use Rattle.lgr_table.proofs.actions.type_names.Goals as goal
use Rattle.lgr_table.proofs.actions.type_names.Goals.{in-Some+in_ok-push-2, in_default}

pub loop-place-preserved : goal.loop-place-preserved
loop-place-preserved c =
    let n = c.args.numbers.now in
    let d = c.args.definitions.now in
    let k = c.loop-place.place in
    let old = c.loop-place.types in
    let new = c.match-type_name.types in
    let same = c.types-type_name-items.ensures in
    let within : 5 + k < length (all_types n) = omega (arith, length-types n, ap length same, c.loop-place-test.true) in
    let next : 5 + k + 1 ≡ 5 + (k + 1) = omega arith in
    elim c.match-type_name.branch [
      | in-Some+in_ok-push-2 w ↦
          let name = w.in-Some.name in
          let at = own_at n c.types-type_name-items.result.now k c.type_name-item.result (Some name) same c.loop-place-test.true c.type_name-item.is w.in-Some.is in
          let names = ap (λ t. t.names.items) w.types-is ∙ w.in_ok-push-2.ensures.names ∙ ap (λ (x : List ℕ). old.names.items ++ x ∷ []) w.as_slice.ensures in
          let called = ap (λ t. t.written.items) w.types-is ∙ w.in_ok-push-2.ensures.written_names ∙ ap (λ (x : List ℕ). old.written.items ++ x ∷ []) w.type_name-written.ensures in
          subst (λ (j : ℕ). AreNamedBelow n d j new) next (named_next n d (5 + k) within old new name at c.loop-place.invariant names called)
      | in_default w ↦
          let none = none_of c.type_name-item.result w.in_default.not-Some in
          let at = own_at n c.types-type_name-items.result.now k c.type_name-item.result None same c.loop-place-test.true c.type_name-item.is none in
          subst (λ (j : ℕ). AreNamedBelow n d j new) next
          (subst (AreNamedBelow n d (5 + k + 1)) (sym w.types-is) (unnamed_next n d (5 + k) within old at c.loop-place.invariant))
    ]
