-- The definitions that contracts cite.
pub mod Causes
pub mod ALabelCauses
pub mod CodedLabels
pub mod NameLabels
pub mod NameCauses
pub mod Examples
