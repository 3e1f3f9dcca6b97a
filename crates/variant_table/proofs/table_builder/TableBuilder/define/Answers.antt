use Rattle.std.proofs.Common.{rules, ◌≡◌, ◌+◌, ◌≤◌, Some, Ok, subst}
use Rattle.ruleset_text.specs.Definitions.{with_definition}
use Rattle.ruleset_text.specs.DefinitionForms.{Adds}
use Rattle.ruleset_text.specs.DefinitionTrees as trees
use Rattle.variant_table.specs.DefinitionLines.{room_for_definitions}
use Rattle.variant_table.specs.Entries.{TableValue}
use Rattle.variant_table.proofs.BuildingLemmas.{build_counted, build_fits, build_read, build_refused, build_room_within, build_table}
use Rattle.variant_table.proofs.BuildingLemmas.{refused_still}
use Rattle.variant_table.proofs.table_builder.TableBuilder.define.Goals as goal

pub overflow_add-room : goal.overflow_add-room
overflow_add-room c =
    let d = c.self.inside.draft in
    let few : d.left + c.canonical_len.result ≤ 8388608 = build_room_within d.version c.self.invariant.three d.definitions
    d.entries d.left c.canonical_len.result c.self.invariant.counted c.canonical_len.ensures.size in
    search rules

pub returns-in_err-push-clause-added : goal.returns-in_err-push-clause-added
returns-in_err-push-clause-added c =
    let d = c.self.inside.draft in
    let x = trees.definition c.args.definition in
    subst (λ (t : TableValue). Adds (room_for_definitions t) t.definitions x c.from_residual.result c.push.new.self) c.self.view_is
    (build_refused d.version c.self.invariant.three d.definitions d.entries d.left c.canonical_len.result
    c.self.invariant.counted c.canonical_len.ensures.size x c.push.new.self c.from_residual.result
    (refused_still (d.left + c.canonical_len.result) d.definitions x c.push.new.self c.in_err-push.field-0.0
    c.from_residual.result c.from_residual.ensures.0 c.from_residual.ensures.1 c.in_err-push.ensures.added))

pub overflow_sub-self : goal.overflow_sub-self
overflow_sub-self c =
    let d = c.self.inside.draft in
    build_fits d.version c.self.invariant.three d.definitions d.entries d.left c.canonical_len.result
    c.self.invariant.counted c.canonical_len.ensures.size (trees.definition c.args.definition) c.push.new.self
    c.canonical_len.ensures.without_fault c.in_ok-push.ensures.added.0 c.in_ok-push.ensures.added.1
    c.canonical_len-2.result c.canonical_len-2.ensures.size

pub invariant_of-self-2 : goal.invariant_of-self-2
invariant_of-self-2 c =
    let d = c.self.inside.draft in
    record {
      three = c.self.invariant.three;
      table = build_table d.version c.self.invariant.three d.definitions d.entries d.left c.canonical_len.result
          c.self.invariant.counted c.canonical_len.ensures.size (trees.definition c.args.definition) c.push.new.self
          c.canonical_len.ensures.without_fault c.in_ok-push.ensures.added.0 c.in_ok-push.ensures.added.1
          c.self.invariant.table;
      counted = build_counted d.version c.self.invariant.three d.definitions d.entries d.left c.canonical_len.result
          c.self.invariant.counted c.canonical_len.ensures.size (trees.definition c.args.definition) c.push.new.self
          c.canonical_len.ensures.without_fault c.in_ok-push.ensures.added.0 c.in_ok-push.ensures.added.1
          c.canonical_len-2.result c.canonical_len-2.ensures.size;
    }

pub returns-clause-added : goal.returns-clause-added
returns-clause-added c =
    let d = c.self.inside.draft in
    let x = trees.definition c.args.definition in (
      c.in_ok-push.ensures.added.0,
      subst (λ (t : TableValue). with_definition (room_for_definitions t) t.definitions (Some x) ≡ Ok c.push.new.self) c.self.view_is
          (build_read d.version c.self.invariant.three d.definitions d.entries d.left c.canonical_len.result
          c.self.invariant.counted c.canonical_len.ensures.size x c.push.new.self c.canonical_len.ensures.without_fault
          c.in_ok-push.ensures.added.0 c.in_ok-push.ensures.added.1),
    )
