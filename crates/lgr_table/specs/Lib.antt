-- The definitions that contracts cite.
pub mod Numbers
pub mod Entries
pub mod TableNames
pub mod Tables
pub mod Faults
pub mod Texts
pub mod Examples
pub mod inner
