use Rattle.std.proofs.Common.{◌∙◌}
use Rattle.idn2_output.specs.OutputLines.{Message}
use Rattle.idn2_output.proofs.WrittenOutputLines.{emits_as}
use Rattle.idn2_refusals.proofs.refusing.tell_message.Goals as goal

pub returns-in-Some-clause-told : goal.returns-in-Some-clause-told
returns-in-Some-clause-told g c = rw c.in-Some.is c.tell_explained.ensures.told

pub returns-in-None-clause-told : goal.returns-in-None-clause-told
returns-in-None-clause-told g c =
    rw c.in-None.is
    (emits_as _ _ Message _ _ c.message.result (c.as_bytes.ensures.value ∙ c.as_str.ensures.value ∙ c.line_message-message.ensures) c.message.ensures.written)
