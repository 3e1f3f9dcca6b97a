-- Characters read from octets of UTF-8, one more after those before a place.
pub mod CharacterReads
-- The size of a number that hexadecimal digits write.
mod HexLemmas
-- What a whole history of reading says of a text that is known.
pub mod HistoryLemmas
-- How what is known of a reader or a writer goes on over several calls.
pub mod KnownBytesLemmas
-- What the laws rest on.
pub mod LawLemmas
-- How lines go on from those that were read.
pub mod NumberingLemmas
-- How the reading of lines goes on.
pub mod ReadingLemmas
-- A reader by steps stops where its grammar says.
pub mod StopLemmas
-- Taking bytes from the front of what a reader gave.
pub mod TakingLemmas
-- The UTF-8 of a list of code points.
pub mod Utf8Lemmas
