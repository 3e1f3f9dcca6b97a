-- The sections of a file, and in which order they stand (RFC 7940, section 4.2).
use Rattle.std.specs.Prelude.{Option, Some, None, List, [], ◌∷◌, codes, bytes_eq, option_map, option_and_then}
use Rattle.std.specs.Prelude.{if◌then◌else◌}
use Rattle.lgr_text.specs.Elements.{Content, Node, each_element, every_element, if_among}
use Rattle.lgr_text.specs.Entries.{entry_of}
use Rattle.lgr_text.specs.Facts.{is_fact}
use Rattle.lgr_text.specs.Records.{Entry, Ruleset}
use Rattle.lgr_text.specs.Statements.{Rules as Statements, rules_of, statement_of}
use Rattle.lgr_text.specs.Values.{not_empty}

pub data Section : Type 0 where
  Meta : Section
  Data : List Entry → Section
  Rules : Statements → Section

abbrev pub meta_of : Content → Option Section
meta_of within = if every_element is_fact within then Some Meta else None

-- one entry or more
abbrev pub data_of : Content → Option Section
data_of within = option_map Data (option_and_then not_empty (each_element entry_of within))

-- a section has no attribute
abbrev pub section_of : Node → Option Section
section_of node = if_among [] node (
    if bytes_eq node.name (codes "meta") then meta_of node.within else
    if bytes_eq node.name (codes "data") then data_of node.within else
    if bytes_eq node.name (codes "rules") then
    option_map (λ statements. Rules (rules_of statements)) (each_element statement_of node.within) else None)

abbrev pub ruleset_with : List Entry → Statements → Ruleset
ruleset_with entries rules = record { entries = entries; definitions = rules.definitions; actions = rules.actions }

-- 'meta', which may be left out; 'data'; 'rules', which may be left out
abbrev pub ruleset_by : List Section → Option Ruleset
ruleset_by (Data entries ∷ []) = Some (ruleset_with entries (rules_of []))
ruleset_by (Data entries ∷ Rules rules ∷ []) = Some (ruleset_with entries rules)
ruleset_by (Meta ∷ Data entries ∷ []) = Some (ruleset_with entries (rules_of []))
ruleset_by (Meta ∷ Data entries ∷ Rules rules ∷ []) = Some (ruleset_with entries rules)
ruleset_by sections = None
