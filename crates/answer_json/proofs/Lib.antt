-- The text of an answer, member by member.
pub mod Members
-- No byte that is written of a value is below the space.
pub mod OneLine
-- Texts of which each byte stands as it is.
pub mod Plain
-- The same, window by window.
pub mod Windows
-- The same, all bytes of a window at once.
pub mod Lanes
-- What the laws of answers need.
pub mod Written
-- What is written of UTF-8 is UTF-8.
pub mod Unicode
-- The digits of some numbers.
pub mod Decimals
-- How a line is told of which the bytes are kept.
pub mod Told
