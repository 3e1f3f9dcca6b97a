-- The definitions that contracts cite.
pub mod ALabel
pub mod FirstFault
pub mod Memory
pub mod Answers
pub mod Register
pub mod Decode
pub mod OldNames
pub mod Lookup
pub mod LabelEnds
pub mod LdhNames
pub mod LdhEnds
pub mod Steps
pub mod Requirements
pub mod Examples
pub mod inner
