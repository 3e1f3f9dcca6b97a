-- The shortest dead prefix of a label, as a listing asks for it.
pub mod DeadPrefixLemmas
-- No label that is valid under a table begins with a list that is dead.
pub mod LostBeginnings
-- Tests of the members of a list.
pub mod MemberTests
-- Kinds without a type: whatever they are, the disposition is that of a source that stays and has no type.
pub mod TypelessKinds
-- What a reading of a label records comes from an entry of the table.
pub mod RecordedKinds
-- The readings of what a label spells: those by entries, and those by the substitutions that compute.
pub mod ReadingTests
-- The disposition of what a label spells, as tests tell it.
pub mod DispositionTests
-- What a listing asks of labels, and what is known of it.
pub mod FilterLemmas
-- The stop of a listing: the lesser of two labels, and the labels up to one.
pub mod LabelStops
-- Labels that a table admits, and others.
pub mod AdmittedLabels
-- What a line that is registered stands for.
pub mod RegisteredLines
-- The tests of collisions are true where the definitions hold.
pub mod CollisionTests
-- The registered labels that collide with a label, and its block.
pub mod FoundLabels
-- What types, rules, actions and demands of a ruleset in XML are in its table.
pub mod RulesetTypes
pub mod RulesetFirsts
pub mod RulesetRules
pub mod RulesetActions
pub mod RulesetDemands
-- How labels are cut under either, and what their readings record.
pub mod RulesetPieces
pub mod RulesetConditions
pub mod RulesetCuts
pub mod RulesetReadings
pub mod RulesetKinds
pub mod RulesetClear
-- So labels are answered alike.
pub mod RulesetLabels
pub mod RulesetAnswers
