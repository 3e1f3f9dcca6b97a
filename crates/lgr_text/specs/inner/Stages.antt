-- The sections of a file, read one after the other.
use Rattle.std.specs.Prelude.{Option, Some, None, List, [], map}
use Rattle.lgr_text.specs.Records as records
use Rattle.lgr_text.specs.Records.{Entry, Ruleset}
use Rattle.lgr_text.specs.Sections.{Section, Meta, Data, Rules, ruleset_with}
use Rattle.lgr_text.specs.Statements as statements
use Rattle.lgr_text.specs.declared.sections.Section.{Section as Held}
use Rattle.lgr_text.specs.declared.sections.Section.TheVariants as held
use Rattle.lgr_text.specs.declared.sections.Sections.{Sections}
use Rattle.lgr_text.specs.declared.sections.Sections.TheVariants as read

abbrev pub section : Held → Section
section held.Meta = Meta
section (held.Data entries) = Data (map records.entry entries.items)
section (held.Rules rules) = Rules (statements.rules rules)

-- what was read: nothing, only 'meta', up to 'data', or all
pub data Stage : Type 0 where
  AtStart : Stage
  AfterMeta : Stage
  AfterData : List Entry → Stage
  AtEnd : Ruleset → Stage

abbrev pub stage : Sections → Stage
stage read.Nothing = AtStart
stage read.Meta = AfterMeta
stage (read.Data entries) = AfterData (map records.entry entries.items)
stage (read.All ruleset_) = AtEnd (records.file ruleset_)

-- with the next section, if it may stand there
abbrev pub with_section : Stage → Section → Option Stage
with_section AtStart Meta = Some AfterMeta
with_section AtStart (Data entries) = Some (AfterData entries)
with_section AfterMeta (Data entries) = Some (AfterData entries)
with_section (AfterData entries) (Rules rules) = Some (AtEnd (ruleset_with entries rules))
with_section before next = None

-- what is said, if no section is missing
abbrev pub ruleset_at : Stage → Option Ruleset
ruleset_at AtStart = None
ruleset_at AfterMeta = None
ruleset_at (AfterData entries) = Some (ruleset_with entries (statements.rules_of []))
ruleset_at (AtEnd ruleset_) = Some ruleset_
