use Rattle.json.specs.Print.{quoted}
use Rattle.answer_json.specs.Hexadecimal.{hex_of}
use Rattle.std.proofs.Common.{slice_index, take}
use Rattle.answer_json.specs.inner.Openings.{name_in}
use Rattle.answer_json.specs.inner.Texts.{field_text}
use Rattle.answer_json.proofs.Plain.{escape_plain, hex_plain, text_put}
use Rattle.answer_json.proofs.member.put_octets.Goals as goal

pub returns-clause-field : goal.returns-clause-field
unfolding field_text
returns-clause-field c =
    let digits = hex_of c.args.octets.now in
    let told = text_put (take c.args.at c.args.out.now) (quoted (name_in c.args.opening.now)) digits (slice_index c.args.opening.now 0) (escape_plain digits (hex_plain c.args.octets.now)) in cc
