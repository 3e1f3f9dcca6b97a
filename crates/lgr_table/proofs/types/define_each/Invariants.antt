use Rattle.std.proofs.Common.{◌≡◌, [], map, take}
use Rattle.std.specs.Prelude.{unwrap_or}
use Rattle.lgr_table.specs.TableNames.{AreCalled}
use Rattle.lgr_table.specs.inner.TableNames.{names_by}
use Rattle.ruleset_text.specs.Names.{is_name}
use Rattle.lgr_table.proofs.types.define_each.Given as goal

-- those before this one are defined
abbrev pub invariant-loop-type_name : goal.invariant-loop-type_name
invariant-loop-type_name l = record {
  others : l.builder ≡ record l.initial.builder {
    definitions = record l.initial.builder.definitions { types = l.builder.definitions.types };
  };
  called : AreCalled (names_by l.names) is_name (map (λ t. unwrap_or t []) (take l.type_name-index l.names.types.now)) l.builder.definitions.types;
}
