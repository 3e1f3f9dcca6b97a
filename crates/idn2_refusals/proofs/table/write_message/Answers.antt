use Rattle.std.proofs.Common.{◌∙◌}
use Rattle.idn2_output.specs.OutputLines.{Message}
use Rattle.idn2_output.proofs.WrittenOutputLines.{emits_as}
use Rattle.idn2_refusals.proofs.table.write_message.Goals as goal

pub returns-in-Some : goal.returns-in-Some
returns-in-Some g c = rw c.in-Some.is (emits_as _ _ Message _ _ c.message.result (c.as_slice.ensures.value ∙ c.explained_message-message.ensures) c.message.ensures.written)
