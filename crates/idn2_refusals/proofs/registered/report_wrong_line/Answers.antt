use Rattle.std.proofs.Common.{◌∙◌, ℕ, List, subst}
use Rattle.idn2_refusals.specs.Reports.{TellsWrong}
use Rattle.idn2_refusals.proofs.registered.report_wrong_line.Goals as goal

pub returns-in-Some : goal.returns-in-Some
returns-in-Some g c =
    rw c.in-Some.is
    (subst (λ (t : List ℕ). TellsWrong t (g.E.Sink.state c.args.err.now) (g.E.Sink.state c.tell_wrong.new.err) c.tell_wrong.result) (c.as_slice.ensures.value ∙ c.explained_message-message.ensures) c.tell_wrong.ensures)

pub returns-in-None : goal.returns-in-None
returns-in-None g c =
    rw c.in-None.is
    (subst (λ (t : List ℕ). TellsWrong t (g.E.Sink.state c.args.err.now) (g.E.Sink.state c.tell_wrong-in-None.new.err) c.tell_wrong-in-None.result) (c.as_bytes.ensures.value ∙ c.as_str.ensures.value ∙ c.registered_message.ensures) c.tell_wrong-in-None.ensures)
