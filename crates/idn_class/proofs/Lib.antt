-- What the six conditions amount to for a label with a right-to-left class.
pub mod BidiLemmas
-- The categories of numbers that are no characters.
pub mod CategoryLemmas
-- The number that the table has for each class, as a function of properties whose steps are known.
pub mod ClassNumbers
-- The table of the classes holds the class of each code point.
pub mod ClassTrie
-- Sets of facts as bits.
pub mod FactLemmas
-- The facts of a code point, as a number of a property whose steps are known.
pub mod FactSteps
-- The table of the facts holds those of each code point.
pub mod FactTrie
-- A label of which no code point has a fact passes the test that the fact stands for.
pub mod FactLabels
-- What a walk from a joiner decides: the first code point that is not transparent settles the answer.
pub mod JoiningLemmas
-- What the quick checks say of one code point.
pub mod StabilityLemmas
-- The test of the joiners agrees with their rule.
pub mod ContextJTests
-- How a test that computes agrees with a rule: at each place, at a value that may be there, and under a condition.
pub mod TestLemmas
-- The test of the other code points that need a context agrees with their rule.
pub mod ContextOTests
-- The test of the Bidi rule agrees with the rule.
pub mod BidiTests
-- The digits that have a rule of their own are AN and EN, by the profile and by Unicode.
pub mod DigitClasses
-- The test of dead prefixes, code point by code point: a list that is dead once stays so.
pub mod DeadPrefixSteps
-- The test of dead prefixes says what it is to be dead; a dead prefix stays so, and fails some test of a label.
pub mod DeadPrefixTests
-- The shortest dead prefix: the shortest that breaks the direction, or hyphens third and fourth before it.
pub mod DeadPrefixShortest
-- The joiners that the profile allows, the standards allow.
pub mod StandardLemmas
-- How a proof computes classes and rules on a label that is written out.
pub mod ComputedLabels
-- What is known of a beginning, and of one that is longer by a code point.
pub mod KnownLemmas
-- The lists of the profile: which code points have each class and type.
pub mod ProfileLemmas
-- The first place at which a test fails.
pub mod CauseLemmas
-- The condition of the Bidi rule that is told is the first that is broken, at the first place that breaks it.
pub mod BrokenLemmas
-- The line that is told of a code point which may not be registered.
pub mod BarringLemmas
-- The part of the dead prefixes that is the Bidi rule is exact.
pub mod DeadPrefixes
-- The Bidi classes of what the profile permits are those of Unicode, but for eight marks, or L where the rule does not ask.
pub mod StandardBidi
