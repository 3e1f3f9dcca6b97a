use Rattle.idn_text.proofs.Utf8Lemmas.{length-utf8_of-le}
use Rattle.idn_label.proofs.first_fault.check_registrable.Goals as goal

pub is_short-requires : goal.is_short-requires
is_short-requires c = length-utf8_of-le c.args.label.now
