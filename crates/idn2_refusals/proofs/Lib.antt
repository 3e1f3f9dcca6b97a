-- The messages of faults, written out.
mod FaultLemmas
-- Bytes that are UTF-8, and their code points.
pub mod Utf8Bytes
-- What messages of refused lines go on with.
pub mod CauseLemmas
-- The lines of registered labels, and their code points.
mod WrongLineLemmas
-- A refusal that is told, of a line or of a table.
pub mod ToldRefusals
-- Names that a table defines are short.
mod TypeNames
