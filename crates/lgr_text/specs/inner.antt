-- The definitions that inner functions cite.
pub mod Branches
pub mod Counts
pub mod Faults
pub mod Items
pub mod Nesting
pub mod PropertySets
pub mod Reading
pub mod Roots
pub mod Stages
pub mod Stretches
