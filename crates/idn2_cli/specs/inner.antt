-- Words of inner functions and of private fields. No public contract cites them.
pub mod LineAnswers
pub mod Blocks
pub mod Progress
pub mod UnreadTables
pub mod ServedModes
pub mod Dispositions
pub mod PairSequences
pub mod CachedLines
pub mod Asked
pub mod ServedLines
pub mod Ruling
pub mod ForGood
pub mod Decided
pub mod Searches
pub mod FoundLabels
