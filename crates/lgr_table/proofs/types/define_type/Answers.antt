use Rattle.std.proofs.Common.{ℕ, List, sym, ap, subst, ◌∙◌}
use Rattle.lgr_table.proofs.AddedLemmas.{is-added}
use Rattle.lgr_table.specs.TableNames.{IsCalled}
use Rattle.lgr_table.specs.inner.TableNames.{names_by}
use Rattle.ruleset_text.specs.Definition.{VariantType}
use Rattle.ruleset_text.specs.Definitions.{Definitions}
use Rattle.ruleset_text.specs.Names.{is_name}
use Rattle.variant_table.specs.DefinitionLines.{room_for_definitions}
use Rattle.lgr_table.proofs.types.define_type.Goals as goal

pub returns-in-Ok : goal.returns-in-Ok
returns-in-Ok c =
    let t = c.args.builder.now in
    let u = c.define.new.self in
    let given = c.in_ok-given.given in
    let added = is-added (room_for_definitions t) t.definitions u.definitions (VariantType given) c.in-Ok.ensures.added.1 in
    record {
      given = given;
      called = subst (λ (n : List ℕ). IsCalled (names_by c.args.names) (is_name n) n given) c.name_of-name.ensures c.in_ok-given.ensures;
      added = c.in-Ok.ensures.others ∙ ap (λ (d : Definitions). record t { definitions = d }) (sym added);
    }
