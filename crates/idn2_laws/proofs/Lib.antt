-- The examples, computed.
pub mod ExampleLemmas
-- Laws of the dispositions of what a label spells.
pub mod DispositionLaws
-- Where sources alone refuse, what a listing of a label that may be asked about leaves out depends on nothing but a rule.
pub mod RefusingSources
-- What is told of a refused line is its cause, and each but two kinds of them has one.
pub mod LineCauseLaws
-- The examples of causes, computed.
pub mod CauseExampleLemmas
-- A cause is told alike by an object and by a message.
pub mod ToldAlikeLemmas
-- What a run says is the same in both forms.
pub mod FormLemmas
-- Laws of the labels that are listed.
pub mod ListingLaws
-- A demand that no label may match a pattern says what an action says that makes invalid what matches it.
mod DemandLaws
-- A table of which no variant has a condition has no differences.
mod DifferenceLaws
-- Over a table of version 2 and over the ruleset of the same entries a run says the same.
pub mod RulesetLaws
-- How a label of a zone is answered.
pub mod ZoneAnswers
-- Objects that are read back as they are meant: what is said of a line.
pub mod ReadBackLemmas
-- The same of refusals, with what is told of their causes.
pub mod ReadBackDetails
-- What the causes of refused lines tell is small, and UTF-8.
pub mod ReadBackCauses
-- The same of tables and of registered labels.
mod ReadBackTables
-- What a listing counts.
pub mod ReadBackCounts
-- Laws of the labels that collide.
pub mod CollisionLaws
-- Laws of turns, and of one jump that decides a pair.
pub mod TurnLaws
