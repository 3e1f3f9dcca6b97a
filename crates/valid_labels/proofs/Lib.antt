-- Parts of a label between two places.
pub mod PartLemmas
-- The places that steps lead to, as a set that computes.
pub mod ReachedLemmas
-- A label that is cut into entries, as a list and as steps from place to place.
pub mod CutLemmas
-- Segmentations, and what a label is made of.
pub mod SegmentationLemmas
-- Where sources end that stand at a place.
pub mod EndLemmas
-- The longest-first cut of a label: there is one, and it is found.
pub mod EligibleLemmas
-- What is told of a label by its readings, as lists that compute.
pub mod ReadingLists
-- The sources that stand in a label, as substitutions of themselves: the cuts into them are the segmentations of the label.
pub mod StayingLemmas
-- What is told of a label itself, by its segmentations.
pub mod ItselfLemmas
-- Segments of a table as a list, and where they end.
pub mod SegmentLemmas
-- The tests that compute are true where the definitions hold.
pub mod TestLemmas
-- No rule of a table asks for the end of a label before '_'.
pub mod RuleLemmas
-- What is dead stays so, and is never valid.
pub mod DeadPrefixLemmas
-- Labels that may be asked about, and tables that ask nothing.
pub mod NothingLemmas
-- Whether a label may be asked about, by what is told of it itself.
pub mod AdmissionLemmas
-- Steps from place to place.
pub mod StepLemmas
-- Labels that are made of sources, by their steps; how far sources reach.
pub mod SourceLemmas
-- The longest source, found one after the other.
pub mod MostLemmas
-- Demands, one after the other.
pub mod DemandLemmas
-- Steps of the program as segments that stand in a label.
pub mod SegmentSteps
-- Which beginnings of a label are dead, by two places.
pub mod DeadPrefixPlaces
-- Why a label may not be asked about, step by step.
pub mod CauseLemmas
-- The actions of a ruleset, with numbers in place of names.
pub mod ActionLemmas
-- What the sources of a cut record, as the bits of a word.
pub mod KindWords
-- The sources of the longest-first cut, as a list.
pub mod CutSources
-- The cause of a label by its own disposition: the action that makes it invalid.
pub mod ActionCauses
-- The cause that is told is the one that there is.
pub mod CauseLawLemmas
-- Single code points, and where they stand.
pub mod SingleLemmas
