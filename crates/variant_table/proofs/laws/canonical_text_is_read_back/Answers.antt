use Rattle.variant_table.proofs.CanonicalLemmas.{canonical_spelled}
use Rattle.variant_table.proofs.laws.canonical_text_is_read_back.Goals as goal

pub returns : goal.returns
returns c = canonical_spelled
