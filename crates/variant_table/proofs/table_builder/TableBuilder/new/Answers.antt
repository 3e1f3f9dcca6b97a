use Rattle.std.proofs.Common.{sym, ap, subst}
use Rattle.variant_table.specs.Entries.{TableValue}
use Rattle.variant_table.specs.WellFormed.{IsTable}
use Rattle.variant_table.proofs.BuildingLemmas.{empty_ruleset}
use Rattle.variant_table.proofs.table_builder.TableBuilder.new.Goals as goal

pub invariant_of-result : goal.invariant_of-result
invariant_of-result c = record {
  three = ap (λ (t : TableValue). t.version) c.new.ensures.table;
  table = subst IsTable (sym c.new.ensures.table) (empty_ruleset c.args.properties);
  counted = c.new.ensures.counted;
}
