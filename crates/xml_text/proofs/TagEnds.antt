-- What may end a tag, if anything does.
use Rattle.xml_text.proofs.TagTaken.{ends_start, ends_empty}
use Rattle.xml_text.proofs.TakenLemmas.{no_more}

pub ruleset tag_ends = (ends_start, ends_empty, no_more)
