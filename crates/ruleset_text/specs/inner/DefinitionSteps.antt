-- What each step of reading a definition gives.
use Rattle.std.specs.Prelude.{◌≡◌, ℕ, ◌+◌, ◌-◌, ◌≤◌, ◌++◌, ◌||◌, nat_lt, not, true, false, Result, Ok, Err, List, length, map}
use Rattle.label_patterns.specs.Patterns.{Pattern}
use Rattle.label_patterns.specs.Trees.{pattern}
use Rattle.ruleset_text.specs.declared.definition_reading.ReadDefinition.{ReadDefinition}
use Rattle.ruleset_text.specs.declared.reading.Earlier.{Earlier}
use Rattle.ruleset_text.specs.declared.reading.ReadPattern.{ReadPattern}
use Rattle.ruleset_text.specs.declared.fault.DefinitionFault.{DefinitionFault}
use Rattle.ruleset_text.specs.declared.fault.DefinitionFault.TheVariants as fault
use Rattle.ruleset_text.specs.declared.fault.DefinitionRefusal.{DefinitionRefusal}
use Rattle.ruleset_text.specs.declared.fault.FaultPlace.{FaultPlace}
use Rattle.ruleset_text.specs.declared.fault.FoundFaults.{FoundFaults}
use Rattle.ruleset_text.specs.declared.fault.ReadError.{ReadError}
use Rattle.ruleset_text.specs.declared.action_reading.ReadAction.{ReadAction}
use Rattle.ruleset_text.specs.ActionForms.{action}
use Rattle.ruleset_text.specs.Actions.{NamedAction, action_marks, knows_action}
use Rattle.ruleset_text.specs.Classes.{has_bad_end, has_bad_point}
use Rattle.ruleset_text.specs.DefinitionReading.{action_read}
use Rattle.ruleset_text.specs.PatternLimits.{first_marked}
use Rattle.ruleset_text.specs.Definition as definition
use Rattle.ruleset_text.specs.Definition.{Definition}
use Rattle.ruleset_text.specs.DefinitionPlaces.{Known, definition_faults, known_after, pattern_faults}
use Rattle.ruleset_text.specs.Canonical.{definition_text}
use Rattle.ruleset_text.specs.Definitions.{Definitions, added, canonical_size, definition_atoms, has_bad_class, has_known_names, has_most}
use Rattle.ruleset_text.specs.Definitions.{has_same_name, is_line_over_limit, is_one_too_many, whole_names}
use Rattle.ruleset_text.specs.WellFormed.{AreDefinitions}
use Rattle.ruleset_text.specs.DefinitionForms.{HasForm}
use Rattle.ruleset_text.specs.DefinitionTrees as trees
use Rattle.ruleset_text.specs.Limits.{atoms, groups, has_its_sets, stars}
use Rattle.ruleset_text.specs.LineStops.{StopsAt}
use Rattle.ruleset_text.specs.PlacedLexemes.{Placed}
use Rattle.ruleset_text.specs.Names.{predefined_types}

-- a pattern that was read, how many atoms may follow, and its faults
pub record IsReadPattern (e : Earlier) (ws : List Placed) (r : ReadPattern)
    (answer : Result Pattern FaultPlace) : Type 0 where
  pub read : answer ≡ Ok (pattern r.tree)
  pub atoms : r.atoms_left ≡ e.atoms_left - atoms (pattern r.tree)
  pub faults : r.faults ≡ pattern_faults e.sets.now e.atoms_left e.properties (pattern r.tree) ws

-- or the place where the line stops
abbrev pub GivesPattern : Earlier → List Placed → Result ReadPattern ReadError → Result Pattern FaultPlace → Type 0
GivesPattern e ws (Ok r) read = IsReadPattern e ws r read
GivesPattern e ws (Err error) read = StopsAt error read

-- what is known before a line, by the fields of the program
abbrev pub known : Earlier → Known
known e = record {
  types = predefined_types ++ e.types.now;
  sets = e.sets.now;
  whole_rules = whole_names e.rule_names.now (map pattern e.rules.now);
  left = e.atoms_left;
  properties = e.properties;
}

-- an action that was read, and the first name that isn't defined
pub record IsReadAction (k : Known) (ws : List Placed) (r : ReadAction)
    (answer : Result NamedAction FaultPlace) : Type 0 where
  pub read : answer ≡ Ok (action r.action)
  pub unknown : r.unknown ≡ first_marked (action_marks k.types k.whole_rules (action r.action)) ws

abbrev pub GivesAction : Known → List Placed → ℕ → Result ReadAction ReadError → Type 0
GivesAction k ws end (Ok r) = IsReadAction k ws r (action_read end ws)
GivesAction k ws end (Err error) = StopsAt error (action_read end ws)

-- the same of a definition, by the lexemes after its keyword
pub record IsReadDefinition (e : Earlier) (ws : List Placed) (r : ReadDefinition)
    (answer : Result Definition FaultPlace) : Type 0 where
  pub read : answer ≡ Ok (trees.definition r.definition)
  pub atoms : r.atoms_left ≡ e.atoms_left - definition_atoms (trees.definition r.definition)
  pub faults : r.faults ≡ definition_faults (known e) (trees.definition r.definition) ws

abbrev pub GivesDefinition : Earlier → List Placed → Result ReadDefinition ReadError → Result Definition FaultPlace →
    Type 0
GivesDefinition e ws (Ok r) read = IsReadDefinition e ws r read
GivesDefinition e ws (Err error) read = StopsAt error read

-- what is known before a line, after these definitions
pub record IsEarlier (e : Earlier) (d : Definitions) : Type 0 where
  pub known : known e ≡ known_after d
  pub without_fault : AreDefinitions d

-- nothing is wrong with a definition
pub record IsFaultless (limit : ℕ) (d : Definitions) (x : Definition) : Type 0 where
  pub count : is_one_too_many d x ≡ false
  pub known : has_known_names d x ≡ true
  pub line : is_line_over_limit limit d (length (definition_text d.set_names x)) ≡ false
  pub class : has_bad_class d.properties x ≡ false
  pub name : has_same_name d x ≡ false

-- a definition that isn't read from a line may be added, and its canonical line has so many bytes
pub record IsFresh (limit : ℕ) (d : Definitions) (x : Definition) (len : ℕ) : Type 0 where
  pub form : HasForm x
  pub faultless : IsFaultless limit d x
  pub size : len ≡ length (definition_text d.set_names x)
  pub without_fault : AreDefinitions (added d x)
  pub room : canonical_size d + (len + 1) ≤ limit

-- the fault is that of reading, unless memory was refused
abbrev pub Refuses : DefinitionFault → Result Definitions DefinitionFault → Type 0
Refuses fault.Memory read = Unit {0}
Refuses fault.Syntax read = read ≡ Err fault.Syntax
Refuses fault.Limit read = read ≡ Err fault.Limit
Refuses fault.NoSuchName read = read ≡ Err fault.NoSuchName
Refuses fault.BadClass read = read ≡ Err fault.BadClass
Refuses fault.SameName read = read ≡ Err fault.SameName

-- the call gives what reading gives, or its fault
abbrev pub Leaves : {X : Type 0} → Result X DefinitionRefusal → Definitions → Result Definitions DefinitionFault →
    Type 0
Leaves (Ok x) new read = read ≡ Ok new
Leaves (Err refusal) new read = Refuses refusal.fault read

-- the faults that were found of a definition are those that it has after these; that as many as may be are defined of
-- its kind is told apart
pub record AreFound (d : Definitions) (x : Definition) (found : FoundFaults) : Type 0 where
  pub limit : is_one_too_many d x ≡ (has_most d x || found.limit)
  pub name : has_known_names d x ≡ not found.name
  pub class : has_bad_class d.properties x ≡ found.class

abbrev pub nothing_found : FoundFaults
nothing_found = record { limit = false; name = false; class = false }

-- those of a pattern, and of a definition, by what is known before it
abbrev pub found_of_pattern : Known → Pattern → FoundFaults
found_of_pattern k p = record {
  limit = nat_lt 8 (groups p) || nat_lt 2 (stars p) || nat_lt k.left (atoms p);
  name = not (has_its_sets (length k.sets) p);
  class = has_bad_point k.properties p;
}

abbrev pub found_of : Known → Definition → FoundFaults
found_of k (definition.VariantType name) = nothing_found
found_of k (definition.Set name spans) = record nothing_found { class = has_bad_end k.properties spans }
found_of k (definition.Rule name p) = found_of_pattern k p
found_of k (definition.Demand kind p) = found_of_pattern k p
found_of k (definition.Action a) = record nothing_found { name = not (knows_action k.types k.whole_rules a) }
