use Rattle.std.proofs.Common.{map, subst}
use Rattle.ruleset_text.specs.EntryForms.{mapped}
use Rattle.variant_table.specs.Building.{AddsEntry}
use Rattle.variant_table.specs.Entries.{TableValue}
use Rattle.variant_table.specs.inner.Drafts.{draft_table}
use Rattle.variant_table.proofs.BuildingLemmas.{built_after, some_mapped}
use Rattle.variant_table.proofs.table_builder.TableBuilder.add_entry.Goals as goal

pub returns-then-not-is_entry-clause-added : goal.returns-then-not-is_entry-clause-added
returns-then-not-is_entry-clause-added c = c.is_entry.ensures.no c.if-not-is_entry.true

pub faults_of_entry-requires : goal.faults_of_entry-requires
faults_of_entry-requires c = some_mapped c.args.mapped.now (c.is_entry.ensures.yes c.if-not-is_entry.false)

pub add_entry-requires : goal.add_entry-requires
add_entry-requires c = record {
  form = c.is_entry.ensures.yes c.if-not-is_entry.false;
  found = c.in_ok-found.ensures {u = tt};
  counted = c.self.invariant.counted;
}

pub returns-clause-added : goal.returns-clause-added
returns-clause-added c =
    subst (λ (t : TableValue). AddsEntry t (map mapped c.args.mapped.now) c.add_entry.result (draft_table c.add_entry.new.self))
    c.self.view_is c.add_entry.ensures.added

pub invariant_of-self : goal.invariant_of-self
invariant_of-self c =
    built_after c.self.inside.draft c.add_entry.new.self (map mapped c.args.mapped.now) c.add_entry.result c.self.invariant
    c.add_entry.ensures.added c.add_entry.ensures.table c.add_entry.ensures.left c.add_entry.ensures.counted
