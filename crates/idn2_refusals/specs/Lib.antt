-- The definitions that contracts cite.
pub mod Requests
pub mod Explained
pub mod Explaining
pub mod RuleTexts
pub mod CauseParts
pub mod CauseWords
pub mod ToldCauses
pub mod WrongLines
pub mod TableCauses
pub mod TableFaults
pub mod Messages
pub mod Reports
