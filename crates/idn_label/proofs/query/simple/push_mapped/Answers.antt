use Rattle.std.proofs.Common.{sym, ◌∙◌}
use Rattle.idn_class.specs.declared.facts.Fact.TheVariants.{NotKept}
use Rattle.idn_label.proofs.SimplePoints.{facts_of_one, map_char_kept, map_char_mapped}
use Rattle.idn_label.proofs.query.simple.push_mapped.Goals as goal

pub push_kept-requires : goal.push_kept-requires
push_kept-requires c = facts_of_one c.of-facts.result c.args.c c.of-facts.ensures

pub returns-then-not-contains : goal.returns-then-not-contains
returns-then-not-contains c = rw (map_char_kept c.args.c (sym (c.of-facts.ensures NotKept) ∙ sym c.if-not-contains.ensures)) c.push_kept.ensures

pub returns-in-Mapped : goal.returns-in-Mapped
returns-in-Mapped c = rw (map_char_mapped c.args.c (sym c.for_char.ensures ∙ c.in-Mapped.is), ← c.idna_mapping.ensures) c.push_mapping.ensures
