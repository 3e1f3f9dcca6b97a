-- The lemmas of this crate.
pub mod PlaceLemmas
pub mod RoundLemmas
pub mod SetLemmas
pub mod OneLemmas
pub mod LawLemmas
pub mod ContextLemmas
pub mod DemandLemmas
pub mod GrownLemmas
pub mod TestLemmas
pub mod BarringLemmas
pub mod AskingLemmas
