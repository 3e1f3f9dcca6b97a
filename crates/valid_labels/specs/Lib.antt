-- The definitions that contracts cite.
pub mod Eligible
pub mod Segments
pub mod Demands
pub mod Validity
pub mod Testing
pub mod Tests
pub mod Furthest
pub mod Actions
pub mod Readings
pub mod Staying
pub mod Dispositions
pub mod Causes
pub mod CauseLaws
pub mod Examples
pub mod DispositionExamples
pub mod Laws
pub mod inner
