-- The limits of the versions.
pub mod LimitLemmas
-- One element of a list, and what follows it; a fact about a failed call.
pub mod ListLemmas
-- A blank line or a comment.
pub mod SkipLemmas
-- Parts of a vector that grows.
pub mod PartLemmas
-- Entries as spans of a list of sequences.
pub mod EntryLemmas
-- Reading line by line.
pub mod ReadLemmas
-- Tables of version 2 as rulesets, and that no text is both.
pub mod RulesetLemmas
-- The entries at a place, one length after the other.
pub mod PlaceLemmas
-- Sources and variants of a form, one after another.
pub mod FormSteps
-- Which forms a version has.
pub mod VersionLemmas
-- The form of a line: skipped, the line of an entry or of a range, or none.
pub mod FormLemmas
-- Entries without a fault are those of a well-formed table.
pub mod ConditionLemmas
-- In version 1 canonical text is never longer than what was read.
pub mod SizeLemmas
-- Lines without a fault are read as what they spell, and other lines up to the first faulty one.
pub mod FaultlessLemmas
-- What is told of a line is the first thing that is wrong with it.
pub mod FaultLemmas
-- The function that reads gives exactly what the definitions say of a text.
pub mod TextLemmas
-- Members of lists.
pub mod MemberLemmas
-- The entries at a place are those whose source begins the label there.
pub mod BeginningLemmas
-- The order of a table's sources.
pub mod OrderLemmas
-- The canonical text of a well-formed table spells that table.
pub mod CanonicalLemmas
-- The text of a sequence, point by point, and of an entry, variant by variant.
pub mod WritingLemmas
-- The gaps of a table.
pub mod GapLemmas
-- The gaps of a table rise.
pub mod RisingLemmas
-- What is told of a form, by what is tested of it in turn.
pub mod TestLemmas
-- Examples of entries that are taken or refused, computed.
pub mod ExampleLemmas
-- The entries of a range, one by one.
pub mod RangeLemmas
-- How long canonical lines are.
pub mod LengthLemmas
-- Names and their numbers.
pub mod NumberLemmas
-- Variants of an entry that stand again, and those that are apart.
pub mod RepeatLemmas
-- What the entries of a line add.
pub mod AddingLemmas
-- What is defined later changes no entry and no line of one.
pub mod GrownLemmas
-- What a line that defines something makes of a table.
pub mod DefiningLemmas
-- Members of lists that are made of others, and tests of all members.
pub mod MemberLists
-- The differences of a table.
pub mod DifferenceLemmas
-- What is noted of a line.
pub mod NoteLemmas
-- Examples of places.
mod PlaceExampleLemmas
-- Where a line has its fault.
pub mod LinePlaceLemmas
-- The line that is told is the first faulty one.
pub mod FaultyLineLemmas
pub mod AgainLemmas
-- Types that no action names.
pub mod IdleLemmas
-- The line of an entry.
pub mod EntryLines
-- What a builder makes of a ruleset.
pub mod BuildingLemmas
