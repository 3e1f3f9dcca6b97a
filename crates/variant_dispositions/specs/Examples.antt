-- Worked examples of dispositions, by computation.
use Rattle.std.specs.Prelude.{◌≡◌, ℕ, Bool, true, false, List, [], ◌∷◌, Some, None}
use Rattle.label_patterns.specs.declared.condition.ConditionKind.TheVariants.{When, Unless}
use Rattle.variant_dispositions.specs.declared.action.Action.{Action}
use Rattle.variant_dispositions.specs.declared.action.TypeTrigger.TheVariants.{Any, All, Only}
use Rattle.variant_dispositions.specs.declared.disposition.Disposition.TheVariants.{Invalid, Blocked, Allocatable}
use Rattle.variant_dispositions.specs.declared.disposition.Disposition.TheVariants.{Activated, Valid}
use Rattle.variant_dispositions.specs.Kinds.Kind.{Unmapped, Untyped, Typed}
use Rattle.variant_dispositions.specs.Actions.{by_types, disposition}

-- a ruleset without rules
abbrev pub no_rules : ℕ → Bool
no_rules rule = false

-- one type of a ruleset's own, s, that an action blocks: by any, by all, by only
abbrev pub any_s : List Action
any_s = by_types Blocked (Some (Any 128)) ∷ []

abbrev pub all_s : List Action
all_s = by_types Blocked (Some (All 128)) ∷ []

abbrev pub only_s : List Action
only_s = by_types Blocked (Some (Only 128)) ∷ []

-- over s alone, s and a source that stays, s and a variant without a type, s and another type; a source that stays
pub record OneType : Type 0 where
  pub any_alone : disposition no_rules any_s (Typed 5 ∷ []) ≡ Blocked
  pub any_unmapped : disposition no_rules any_s (Typed 5 ∷ Unmapped ∷ []) ≡ Blocked
  pub any_untyped : disposition no_rules any_s (Untyped ∷ Typed 5 ∷ []) ≡ Blocked
  pub any_other : disposition no_rules any_s (Typed 5 ∷ Typed 6 ∷ []) ≡ Blocked
  pub any_none : disposition no_rules any_s (Unmapped ∷ Typed 6 ∷ []) ≡ Valid
  pub all_alone : disposition no_rules all_s (Typed 5 ∷ []) ≡ Blocked
  pub all_unmapped : disposition no_rules all_s (Typed 5 ∷ Unmapped ∷ []) ≡ Blocked
  pub all_untyped : disposition no_rules all_s (Typed 5 ∷ Untyped ∷ []) ≡ Valid
  pub all_other : disposition no_rules all_s (Typed 5 ∷ Typed 6 ∷ []) ≡ Valid
  pub all_none : disposition no_rules all_s (Unmapped ∷ []) ≡ Valid
  pub only_alone : disposition no_rules only_s (Typed 5 ∷ []) ≡ Blocked
  pub only_unmapped : disposition no_rules only_s (Typed 5 ∷ Unmapped ∷ []) ≡ Valid
  pub only_untyped : disposition no_rules only_s (Typed 5 ∷ Untyped ∷ []) ≡ Valid
  pub only_other : disposition no_rules only_s (Typed 6 ∷ Typed 5 ∷ []) ≡ Valid

-- the default actions: each predefined type and none, of two the one that counts, and a type of a ruleset's own
pub record Defaults : Type 0 where
  pub invalid : disposition no_rules [] (Typed 0 ∷ []) ≡ Invalid
  pub blocked : disposition no_rules [] (Typed 1 ∷ []) ≡ Blocked
  pub allocatable : disposition no_rules [] (Typed 2 ∷ []) ≡ Allocatable
  pub activated : disposition no_rules [] (Typed 3 ∷ []) ≡ Activated
  pub valid : disposition no_rules [] (Typed 4 ∷ []) ≡ Valid
  pub untyped : disposition no_rules [] (Untyped ∷ []) ≡ Valid
  pub unmapped : disposition no_rules [] (Unmapped ∷ []) ≡ Valid
  pub invalid_first : disposition no_rules [] (Typed 1 ∷ Typed 0 ∷ []) ≡ Invalid
  pub blocked_then : disposition no_rules [] (Typed 2 ∷ Typed 1 ∷ []) ≡ Blocked
  pub allocatable_then : disposition no_rules [] (Typed 3 ∷ Typed 2 ∷ []) ≡ Allocatable
  pub activated_all : disposition no_rules [] (Typed 3 ∷ Unmapped ∷ []) ≡ Activated
  pub activated_not_all : disposition no_rules [] (Typed 3 ∷ Untyped ∷ []) ≡ Valid
  pub own_unseen : disposition no_rules [] (Typed 3 ∷ Typed 5 ∷ []) ≡ Activated
  pub own_blocked : disposition no_rules [] (Typed 5 ∷ Typed 1 ∷ []) ≡ Blocked

-- as files of Chinese have it: simp 5, r_simp 6, trad 7, r_trad 8, both 9, r_both 10, out of the repertoire 11
abbrev pub chinese : List Action
chinese =
    by_types Invalid (Some (Any 8192))
    ∷ by_types Blocked (Some (Any 8))
    ∷ by_types Valid (Some (Only 5376))
    ∷ by_types Allocatable (Some (Only 6528))
    ∷ by_types Allocatable (Some (Only 7680))
    ∷ by_types Blocked (Some (Any 2688))
    ∷ by_types Valid None
    ∷ []

pub record Chinese : Type 0 where
  pub stays : disposition no_rules chinese (Typed 6 ∷ Typed 10 ∷ []) ≡ Valid
  pub simplified : disposition no_rules chinese (Typed 5 ∷ Typed 6 ∷ []) ≡ Allocatable
  pub traditional : disposition no_rules chinese (Typed 7 ∷ Typed 8 ∷ Typed 10 ∷ []) ≡ Allocatable
  pub mixed : disposition no_rules chinese (Typed 6 ∷ Typed 7 ∷ []) ≡ Blocked
  pub both : disposition no_rules chinese (Typed 9 ∷ Typed 7 ∷ []) ≡ Allocatable
  pub without_a_type : disposition no_rules chinese (Typed 7 ∷ Unmapped ∷ []) ≡ Blocked
  pub blocked : disposition no_rules chinese (Typed 1 ∷ Typed 6 ∷ []) ≡ Blocked
  pub outside : disposition no_rules chinese (Typed 1 ∷ Typed 11 ∷ []) ≡ Invalid

-- actions with a rule, number 0, that a label matches or doesn't; the first that is triggered counts,
-- before the default actions
abbrev pub matches : Bool → ℕ → Bool
matches it rule = it

abbrev pub when_first : Action
when_first = record { disposition = Valid; condition = Some (record { kind = When; rule = 0 }); types = None }

abbrev pub unless_first : Action
unless_first =
    record { disposition = Invalid; condition = Some (record { kind = Unless; rule = 0 }); types = Some (Any 128) }

pub record WithRules : Type 0 where
  pub matched : disposition (matches true) (when_first ∷ []) (Typed 1 ∷ []) ≡ Valid
  pub not_matched : disposition (matches false) (when_first ∷ []) (Typed 1 ∷ []) ≡ Blocked
  pub unless : disposition (matches false) (unless_first ∷ []) (Typed 5 ∷ []) ≡ Invalid
  pub unless_matched : disposition (matches true) (unless_first ∷ []) (Typed 5 ∷ []) ≡ Valid
  pub unless_without_type : disposition (matches false) (unless_first ∷ []) (Untyped ∷ []) ≡ Valid
  pub first : disposition no_rules (by_types Allocatable (Some (Any 8)) ∷ by_types Blocked (Some (Any 16)) ∷ [])
      (Typed 1 ∷ Typed 2 ∷ []) ≡ Allocatable
  pub catch_all : disposition no_rules (by_types Valid None ∷ by_types Blocked (Some (Any 8)) ∷ [])
      (Typed 1 ∷ []) ≡ Valid

pub record TypesOfExamples : Type 0 where
  pub one_type : OneType
  pub defaults : Defaults
  pub chinese_files : Chinese
  pub with_rules : WithRules
