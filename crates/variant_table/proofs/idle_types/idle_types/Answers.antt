use Rattle.std.proofs.Common.{◌≡◌, ◌+◌, ◌∷◌, ◌++◌, [], ℕ, Bool, List, map, not, cond, take, sym, ap, ◌∙◌}
use Rattle.std.specs.Prelude.{filter}
use Rattle.std.proofs.lemmas.List.{append-nil}
use Rattle.ruleset_text.specs.ActionForms.{action}
use Rattle.ruleset_text.specs.Actions.{NamedAction}
use Rattle.variant_table.specs.IdleTypes.{is_asked}
use Rattle.variant_table.proofs.IdleLemmas.{filter_step}
use Rattle.variant_table.proofs.idle_types.idle_types.Goals as goal
use Rattle.variant_table.proofs.idle_types.idle_types.Goals.{then-not-is_asked+in_ok-copied+in_ok-push, else-not-is_asked}

pub loop-name-preserved : goal.loop-name-preserved
loop-name-preserved c =
    let actions : List NamedAction = map action c.actions-actions.result.now in
    let types : List (List ℕ) = c.types-types.result.now in
    let test : List ℕ → Bool = λ name. not (is_asked actions name) in
    let x : List ℕ = c.name-item.result in
    let i : ℕ = c.loop-name.name-index in
    let step : filter test (take (i + 1) types) ≡ filter test (take i types) ++ cond (test x) (x ∷ []) [] =
    filter_step test types i x c.loop-name-test.true c.name-item.is in
    let asked : c.is_asked.result ≡ is_asked actions x = c.is_asked.ensures ∙ ap (is_asked actions) c.as_slice.ensures in
    elim c.if-not-is_asked.branch [
      | then-not-is_asked+in_ok-copied+in_ok-push w ↦
          let kept : cond (test x) (x ∷ []) [] ≡ x ∷ [] =
          ap (λ b. cond (not b) (x ∷ []) []) (sym asked ∙ w.if-not-is_asked.true) in
          let copy : w.in_ok-copied.field-0 ≡ x =
          w.in_ok-copied.ensures {u = tt} ∙ w.as_slice-then-not-is_asked.ensures in
          ap (λ v. v.items) w.idle-is ∙ w.in_ok-push.ensures.items
          ∙ ap (λ t. t ++ w.in_ok-copied.field-0 ∷ []) c.loop-name.invariant
          ∙ ap (λ y. filter test (take i types) ++ y ∷ []) copy
          ∙ ap (λ t. filter test (take i types) ++ t) (sym kept) ∙ sym step
      | else-not-is_asked w ↦
          let kept : cond (test x) (x ∷ []) [] ≡ [] =
          ap (λ b. cond (not b) (x ∷ []) []) (sym asked ∙ w.if-not-is_asked.false) in
          ap (λ v. v.items) w.idle-is ∙ c.loop-name.invariant ∙ sym (append-nil (filter test (take i types)))
          ∙ ap (λ t. filter test (take i types) ++ t) (sym kept) ∙ sym step
    ]
