-- Definitions of inner functions.
pub mod FaultSteps
pub mod Points
pub mod RuleSteps
pub mod Steps
pub mod EntrySteps
pub mod TypeNames
pub mod TypeSteps
pub mod TableNames
pub mod Wanted
