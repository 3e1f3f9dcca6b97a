-- The laws, and worked examples of the definitions.
pub mod LineCauses
pub mod ReadBack
pub mod Laws
pub mod DispositionLaws
pub mod ListingLaws
pub mod DemandLaws
pub mod Examples
pub mod ListingExamples
pub mod TypeExamples
pub mod CauseExamples
pub mod ToldAlike
pub mod CollisionLaws
pub mod TurnLaws
pub mod CollisionExamples
