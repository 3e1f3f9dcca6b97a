use Rattle.idn_class.specs.Facts.{contains}
use Rattle.idn_class.proofs.FactTrie.{IsTrie-FACT, has_fact-table}
use Rattle.std.proofs.Common.{ap, ◌∙◌, ◌==◌}
use Rattle.std.specs.Int.{bit_at}
use Rattle.idn_class.specs.Facts.{place_of}
use Rattle.idn_class.proofs.facts.Facts.of.Goals as goal

pub get-requires : goal.get-requires
get-requires c = IsTrie-FACT

pub returns : goal.returns
unfolding contains
returns c = λ fact. ap (λ n. bit_at n (place_of fact) == 0) c.get.ensures ∙ has_fact-table c.args.c fact
