use Rattle.std.proofs.Common.{◌≡◌, sym, subst, ◌∙◌}
use Rattle.std.specs.Prelude.{IfOk, codes}
use Rattle.std.proofs.lemmas.Slice.Eq.{bytes_eq-Decides}
use Rattle.ruleset_text.specs.EntryForms.{notes}
use Rattle.ruleset_text.specs.EntrySteps.{state}
use Rattle.ruleset_text.specs.inner.EntryTaken.{taken_as}
use Rattle.ruleset_text.proofs.EntryWordLemmas.{begin_other, mark_noted}
use Rattle.ruleset_text.proofs.entry_reading.EntryState.begin.Goals as goal

pub returns-then-not-is_mark-clause-state : goal.returns-then-not-is_mark-clause-state
returns-then-not-is_mark-clause-state c =
    subst (λ o. IfOk c.take_point.result (λ taken. o ≡ taken_as taken (state c.take_point.new.self)))
    (sym (begin_other c.args.parts (state c.args.self.now) c.args.lexeme.now c.requires (sym c.is_mark.ensures ∙ c.if-not-is_mark.true))) c.take_point.ensures.state

pub returns-clause-notes : goal.returns-clause-notes
returns-clause-notes c = λ taken.
    sym (mark_noted c.args.parts (state c.args.self.now) c.args.lexeme.now c.args.definitions.now c.args.place (notes c.args.notes.now) c.requires
    ((bytes_eq-Decides c.args.lexeme.now (codes "!")).0 (sym c.is_mark.ensures ∙ c.if-not-is_mark.false)))
