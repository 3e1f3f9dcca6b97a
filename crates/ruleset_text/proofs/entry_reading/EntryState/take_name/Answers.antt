use Rattle.std.proofs.Common.{◌≡◌, true, false, Result, Ok, Err, length, sym, ap, subst, ◌∙◌, arith}
use Rattle.std.specs.Prelude.{IfOk}
use Rattle.label_patterns.specs.declared.condition.ConditionKind.TheVariants as condition
use Rattle.ruleset_text.specs.declared.fault.FaultPlace.TheVariants.{Lexeme}
use Rattle.ruleset_text.specs.EntryForms.{notes}
use Rattle.ruleset_text.specs.EntrySteps.{at_rule, is_lacking, state, step, step_by, word_of}
use Rattle.ruleset_text.specs.inner.EntryNoted.{and_notes, name_notes, unless_defined}
use Rattle.ruleset_text.specs.inner.EntryTaken.{taken_as}
use Rattle.ruleset_text.proofs.EntryWordLemmas.{name_had, name_free, name_noted, type_next}
use Rattle.ruleset_text.proofs.entry_reading.EntryState.take_name.Goals as goal
use Rattle.ruleset_text.proofs.entry_reading.EntryState.take_name.Goals.{else-not-parts-via-then-not-parts+else-is_lacking, else-not-parts-via-else-not-parts}

any_ok : {X E : Type 0} {P : Type 0} (r : Result X E) → P → IfOk r (λ x. P)
any_ok (Ok x) p = p
any_ok (Err e) p = tt

pub returns-in-When-clause-state : goal.returns-in-When-clause-state
returns-in-When-clause-state c =
    let parts = c.args.parts in
    let s = state c.args.self.now in
    let w = c.args.lexeme.now in
    let next : step s w ≡ at_rule s condition.When w = ap (λ p. step_by p s w) c.in-When.is in
    elim c.else-not-parts.branch [
      | else-not-parts-via-then-not-parts+else-is_lacking u ↦
          let had : is_lacking parts false (word_of w) ≡ false = grind arith in
          subst (λ o. IfOk c.take_rule.result (λ taken. o ≡ taken_as taken (state c.take_rule.new.self))) (sym (name_had parts s w c.requires had ∙ next)) c.take_rule.ensures
      | else-not-parts-via-else-not-parts u ↦
          let named : parts.named ≡ true = grind arith in
          subst (λ o. IfOk c.take_rule.result (λ taken. o ≡ taken_as taken (state c.take_rule.new.self))) (sym (name_free parts s w c.requires named ∙ next)) c.take_rule.ensures
    ]

pub returns-in-Unless-clause-state : goal.returns-in-Unless-clause-state
returns-in-Unless-clause-state c =
    let parts = c.args.parts in
    let s = state c.args.self.now in
    let w = c.args.lexeme.now in
    let next : step s w ≡ at_rule s condition.Unless w = ap (λ p. step_by p s w) c.in-Unless.is in
    elim c.else-not-parts.branch [
      | else-not-parts-via-then-not-parts+else-is_lacking u ↦
          let had : is_lacking parts false (word_of w) ≡ false = grind arith in
          subst (λ o. IfOk c.take_rule-in-Unless.result (λ taken. o ≡ taken_as taken (state c.take_rule-in-Unless.new.self))) (sym (name_had parts s w c.requires had ∙ next)) c.take_rule-in-Unless.ensures
      | else-not-parts-via-else-not-parts u ↦
          let named : parts.named ≡ true = grind arith in
          subst (λ o. IfOk c.take_rule-in-Unless.result (λ taken. o ≡ taken_as taken (state c.take_rule-in-Unless.new.self))) (sym (name_free parts s w c.requires named ∙ next)) c.take_rule-in-Unless.ensures
    ]

pub returns-in_default : goal.returns-in_default
returns-in_default c =
    let parts = c.args.parts in
    let s = state c.args.self.now in
    let w = c.args.lexeme.now in
    let next = type_next parts s w c.requires c.in_default.not-When c.in_default.not-Unless in
    record {
      state = elim c.else-not-parts.branch [
        | else-not-parts-via-then-not-parts+else-is_lacking u ↦
            let had : is_lacking parts false (word_of w) ≡ false = grind arith in
            subst (λ o. IfOk c.take_type.result (λ taken. o ≡ taken_as taken (state c.take_type.new.self))) (sym (name_had parts s w c.requires had ∙ next)) c.take_type.ensures
        | else-not-parts-via-else-not-parts u ↦
            let named : parts.named ≡ true = grind arith in
            subst (λ o. IfOk c.take_type.result (λ taken. o ≡ taken_as taken (state c.take_type.new.self))) (sym (name_free parts s w c.requires named ∙ next)) c.take_type.ensures
      ];
      notes = any_ok c.take_type.result
          (c.add_name.ensures ∙ ap (λ b. and_notes (notes c.args.notes.now) (name_notes (unless_defined b (Lexeme c.args.place (length w))))) c.is_defined.ensures
          ∙ name_noted parts s w c.args.definitions.now c.args.place (notes c.args.notes.now) c.requires);
    }
