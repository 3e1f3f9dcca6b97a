-- What the bytes of a line are answered, by the code points that they spell.
pub mod TextAnswers
-- Blocks: their lines up to a stop, and one line more.
pub mod BlockSteps
-- What a listing asks of labels, by the table that they are tested by.
pub mod RuledFilters
-- What a table admits, by its test, or without one where it asks nothing.
pub mod AdmissionLemmas
-- What a test of labels finds and keeps.
pub mod RulingLemmas
-- What a label spells joins sources and variants of the table.
pub mod SpelledLemmas
-- The stop of a listing, as it is seen from where the cursor stands.
pub mod StopSteps
-- One line more, and the end of the lines.
pub mod LineSteps
-- From the lines of the input, or none, to the end of a run.
pub mod RunEnds
-- A run over a console is a run over the two writers that were lent to it.
pub mod LentWriters
-- The table of a run.
pub mod TableLemmas
-- The pairs that are found in a table, as they are written.
pub mod CheckLemmas
-- The listing of a label's variants, and the labels in it.
pub mod ListingLemmas
-- The rules that a label matches make a difference as far as actions ask for them.
pub mod AskedRules
-- How a label appears in a listing, by what is found of its readings and of its rules.
pub mod AppearanceLemmas
-- What is written of a variant graph is the block of its label.
pub mod DispositionLemmas
-- The block and the check that compute are those that are listed.
pub mod BlockMembers
-- The answer to a line that a call refused.
pub mod RefusedLines
-- A block under way: where a search leads, and what is written.
pub mod ListingProgress
-- The next line of a block, by where a search leads.
pub mod NextLines
-- A line that begins with a label's UTF-8, cut or lengthened.
pub mod CachedLineLemmas
-- A listing that is kept to registered labels, step by step.
pub mod CollisionSteps
-- The answer to a request is the least label from its text on.
pub mod JumpAnswers
-- A run has printed the listings of its lines.
pub mod HeadlineLemmas
-- What two labels are to each other, by what is found of them.
pub mod DecisionLemmas
