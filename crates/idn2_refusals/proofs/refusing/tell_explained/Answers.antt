use Rattle.std.proofs.Common.{◌∙◌}
use Rattle.idn2_output.specs.OutputLines.{Message}
use Rattle.idn2_output.proofs.WrittenOutputLines.{emits_as}
use Rattle.idn2_refusals.proofs.refusing.tell_explained.Goals as goal

pub returns-clause-told : goal.returns-clause-told
returns-clause-told g c = emits_as _ _ Message _ _ c.message.result (c.as_slice.ensures.value ∙ c.explained_message-message.ensures) c.message.ensures.written
