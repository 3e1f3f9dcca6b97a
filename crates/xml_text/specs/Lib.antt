-- The definitions that contracts cite.
pub mod Attributes
pub mod Characters
pub mod Documents
pub mod Files
pub mod Examples
pub mod LineEnds
pub mod Names
pub mod Pieces
pub mod References
pub mod TagStops
pub mod Tags
pub mod Tokens
pub mod inner
