use Rattle.xml_text.proofs.TagReads.{one_tag}
use Rattle.xml_text.proofs.laws.a_text_begins_with_one_tag.Goals as goal

pub returns : goal.returns
returns c = one_tag
