use Rattle.std.proofs.Common.{◌≡◌, take}
use Rattle.std.specs.List.{list_any}
use Rattle.idn_class.specs.declared.facts.Fact.{Fact}
use Rattle.idn_class.specs.Facts.{contains, has_fact}
use Rattle.idn_class.proofs.facts.Facts.of_label.Given as goal

abbrev pub invariant-loop-c : goal.invariant-loop-c
invariant-loop-c l = (fact : Fact) → contains l.facts fact ≡ list_any (has_fact fact) (take l.c-index l.label)
