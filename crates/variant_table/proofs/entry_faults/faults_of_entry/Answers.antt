use Rattle.std.proofs.Common.{ap, ◌∙◌}
use Rattle.std.specs.Prelude.{not}
use Rattle.std.specs.List.{list_any}
use Rattle.idn_class.specs.declared.properties.Properties.{Properties}
use Rattle.ruleset_text.specs.EntryForms.{mapped}
use Rattle.variant_table.specs.Conditions.{has_bad_point}
use Rattle.variant_table.proofs.BuildingLemmas.{entry_found}
use Rattle.variant_table.proofs.entry_faults.faults_of_entry.Goals as goal

pub returns : goal.returns
returns c =
    entry_found c.args.definitions.now c.args.mapped.now _ c.is_too_large.ensures (ap not c.knows_all.ensures)
    (c.in_ok-bad.ensures {u = tt}
    ∙ ap (λ (p : Properties). list_any (λ m. has_bad_point p (mapped m).points) c.args.mapped.now) c.properties.ensures)
