-- The command is a simple one, with no rule between arguments, and its builder makes it so.
mod AppLemmas
-- What the getters of a parse say of the definition's entries.
mod EntryLemmas
-- A short numeral is read whole.
mod CountLemmas
-- Options that the rules allow are within the limits of a run.
mod LimitLemmas
-- Which options have a row after a use.
mod RowLemmas
-- The options that the code knows are those of the definition.
mod KnownLemmas
-- The uses of options, found step by step.
mod UseLemmas
-- What the kinds of error that `clap` names say of the uses of options.
mod KindLemmas
-- How `clap`'s definition takes one use of an option.
mod OptionLemmas
-- `clap`'s definition, word by word: one kind of error at most, where a text is to be shown or a use is wrong.
mod WalkKinds
-- The same of the command.
mod AppKinds
-- From what `clap` gives to the answer.
mod AnswerLemmas
-- Options that the rules allow suit their mode.
pub mod SuitLemmas
-- The mode that the words name.
pub mod ModeLemmas
-- There is a cause exactly of words that are refused.
mod CauseLemmas
-- The use that is told is the first that is wrong.
mod FirstLemmas
