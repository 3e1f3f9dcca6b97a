use Rattle.std.proofs.Common.{List, length, take, sym, ap, ◌∙◌}
use Rattle.std.specs.List.{list_any}
use Rattle.idn_class.specs.Facts.{has_fact}
use Rattle.idn_class.specs.declared.known.Known.{Known}
use Rattle.idn_class.proofs.cached_prefixes.CachedPrefixes.facts.Goals as goal

pub returns-in-Some : goal.returns-in-Some
returns-in-Some c = λ properties label h. c.facts.ensures properties _ (c.in-Some.ensures properties label h)

pub returns-in-None : goal.returns-in-None
returns-in-None c = λ properties label h fact.
    c.none.ensures fact
    ∙ sym (ap (λ (ks : List Known). list_any (has_fact fact) (take (length ks) label)) (c.in-None.ensures properties label h))
