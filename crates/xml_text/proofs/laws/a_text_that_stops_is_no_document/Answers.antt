use Rattle.xml_text.proofs.OneDocument.{stopped_text}
use Rattle.xml_text.proofs.laws.a_text_that_stops_is_no_document.Goals as goal

pub returns : goal.returns
returns c = stopped_text
