-- One cell of a board.
pub mod CellLemmas
-- Cuts of a label.
pub mod CutLemmas
-- Beginnings of readings, and whole ones.
pub mod ReadingLemmas
-- A step to a column.
pub mod ColumnLemmas
-- The substitutions of a place, one after the other.
pub mod TakenLemmas
-- The first column, and what the last cell says.
pub mod WordsLemmas
-- The substitutions of a label as they are kept.
pub mod KeptLemmas
-- The substitutions of a label as they are found.
pub mod DraftLemmas
-- Membership of lists.
pub mod ListMembers
-- Laws of the readings of a label.
pub mod LawLemmas
