-- Members of lists, and tests of all members.
pub mod MemberLemmas
-- Kinds and the bits of words.
pub mod KindLemmas
-- What actions ask of words.
pub mod TypeLemmas
-- The default actions.
pub mod DefaultLemmas
-- Kinds as a set.
pub mod SetLemmas
-- The disposition of a label by its words.
pub mod WordLemmas
-- Laws of dispositions.
pub mod LawLemmas
-- The word of one kind.
pub mod OneKindLemmas
