-- How definitions are held in memory.
use Rattle.std.specs.Prelude.{◌≡◌, ◌+◌, map}
use Rattle.label_patterns.specs.Trees.{pattern}
use Rattle.ruleset_text.specs.declared.definitions.Definitions.TheInside.{Inside}
use Rattle.ruleset_text.specs.ActionForms.{action}
use Rattle.ruleset_text.specs.Definitions.{Definitions, all_atoms, canonical_size}
use Rattle.ruleset_text.specs.DemandTrees.{demand}
use Rattle.ruleset_text.specs.WellFormed.{AreDefinitions}

-- the definitions that the fields hold
abbrev pub held : Inside → Definitions
held s = record {
  properties = s.properties;
  types = s.types.items;
  set_names = s.set_names.items;
  sets = s.sets.items;
  rule_names = s.rule_names.items;
  rules = map pattern s.rules.items;
  demands = map demand s.demands.items;
  actions = map action s.actions.items;
}

-- they have no fault; the atoms that are left and the bytes of the canonical lines are counted
pub record IsHeld (s : Inside) : Type 0 where
  pub without_fault : AreDefinitions (held s)
  pub left : all_atoms (held s) + s.atoms_left ≡ 4096
  pub size : s.written ≡ canonical_size (held s)
