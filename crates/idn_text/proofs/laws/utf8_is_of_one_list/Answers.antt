use Rattle.std.proofs.Common.{sym, ◌∙◌}
use Rattle.idn_text.proofs.Utf8Lemmas.{points_from_utf8}
use Rattle.idn_text.proofs.laws.utf8_is_of_one_list.Goals as goal

pub returns : goal.returns
returns c bytes one other is_one is_other = sym (points_from_utf8 bytes one is_one) ∙ points_from_utf8 bytes other is_other
