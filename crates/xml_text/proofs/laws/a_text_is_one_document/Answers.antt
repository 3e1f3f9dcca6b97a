use Rattle.xml_text.proofs.OneDocument.{one_text}
use Rattle.xml_text.proofs.laws.a_text_is_one_document.Goals as goal

pub returns : goal.returns
returns c = one_text
