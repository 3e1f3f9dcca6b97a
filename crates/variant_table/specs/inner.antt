-- Words of inner functions and of private fields. No public contract cites them.
pub mod Held
pub mod Order
pub mod ReadingSteps
pub mod Drafts
pub mod Readers
pub mod Examples
