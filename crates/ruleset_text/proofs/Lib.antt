-- The lemmas of this crate.
pub mod PatternLemmas
pub mod SignLemmas
pub mod UseLemmas
pub mod LineStopLemmas
mod SpanStopLemmas
pub mod DefinitionStopLemmas
pub mod PatternLimitLemmas
pub mod LineFaultLemmas
mod DefineFaultLemmas
pub mod SpanExactLemmas
pub mod LexemeLemmas
pub mod PlacedLemmas
pub mod NameLemmas
mod PredefinedLemmas
mod WholeRuleLemmas
mod SpanLemmas
pub mod HexLemmas
mod PointLemmas
mod SetWordLemmas
mod TextLemmas
mod BackLemmas
mod SpanTextLemmas
mod KnownSetLemmas
mod ActionLemmas
mod ActionNameLemmas
mod ActionReadLemmas
mod FreshNameLemmas
mod NameWordLemmas
pub mod AddedLemmas
pub mod FormLemmas
mod DefineLemmas
mod FormTestLemmas
mod SpanBackLemmas
mod LineBackLemmas
pub mod DefinitionsBackLemmas
pub mod DefinedLemmas
pub mod DefinitionOrderLemmas
pub mod SameNameLemmas
pub mod KnownPatternLemmas
pub mod EntryLemmas
pub mod EntryStateLemmas
pub mod EntryReadLemmas
pub mod EntrySpelledLemmas
pub mod EntryExactLemmas
pub mod EntryBackLemmas
pub mod EntryPartLemmas
mod EntryWordLemmas
pub mod EntryStopLemmas
pub mod EntryNotedLemmas
pub mod DefinitionsTextLemmas
pub mod LineBytes
