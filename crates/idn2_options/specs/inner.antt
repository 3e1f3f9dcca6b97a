-- Definitions of inner functions.
pub mod Known
pub mod Shown
