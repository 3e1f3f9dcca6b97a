-- Laws of dispositions.
use Rattle.std.specs.Prelude.{◌≡◌, ℕ, ◌↔◌, Bool, true, false, IsSome, List, [], ◌∷◌, ◌++◌, Some, None, Contains}
use Rattle.std.specs.Prelude.{unwrap_or}
use Rattle.std.specs.List.{AllByRecursion}
use Rattle.reading_kinds.specs.Readings.{Substitution, SubstitutionsSpell}
use Rattle.variant_dispositions.specs.declared.action.Action.{Action}
use Rattle.variant_dispositions.specs.declared.action.TypeTrigger.TheVariants as trigger
use Rattle.variant_dispositions.specs.declared.disposition.Disposition.{Disposition}
use Rattle.variant_dispositions.specs.declared.disposition.Disposition.TheVariants.{Invalid, Blocked, Valid}
use Rattle.variant_dispositions.specs.Kinds.{Kind}
use Rattle.variant_dispositions.specs.Kinds.Kind.{Unmapped, Typed}
use Rattle.variant_dispositions.specs.Actions.{by_types, default_disposition, disposition, first_triggered, has_types}
use Rattle.variant_dispositions.specs.Actions.{is_allocatable}
use Rattle.variant_dispositions.specs.Readings.{IsClear, IsDisposition}

-- these have the same kinds
abbrev pub AreTheSame : List Kind → List Kind → Type 0
AreTheSame kinds others = (kind : Kind) → Contains kinds kind ↔ Contains others kind

-- the order in which kinds are recorded makes no difference, nor how often
abbrev pub KindsAreASet : Type 0
KindsAreASet =
    (matched : ℕ → Bool) (actions : List Action) (kinds others : List Kind) → AreTheSame kinds others
    → disposition matched actions kinds ≡ disposition matched actions others

-- a label that is clear has one disposition: where two readings give different ones, it is unclear
abbrev pub OneIfClear : Type 0
OneIfClear =
    (matched : ℕ → Bool) (actions : List Action) (substitutions : List (List Substitution)) (v : List ℕ)
    (d e : Disposition) → IsClear substitutions v
    → IsDisposition matched actions substitutions v d → IsDisposition matched actions substitutions v e → d ≡ e

-- a label that is spelled has a disposition; the last default action is always triggered
pub record ThereIsOne : Type 0 where
  pub told : (matched : ℕ → Bool) (actions : List Action) (substitutions : List (List Substitution)) (v : List ℕ)
      → SubstitutionsSpell substitutions v
      → (d : Disposition) × IsDisposition matched actions substitutions v d
  pub triggered : (matched : ℕ → Bool) (kinds : List Kind) → IsSome (default_disposition matched kinds)

-- where nothing has a type, and no action asks for one, rules alone decide
abbrev pub ByRulesAlone : Type 0
ByRulesAlone =
    (matched : ℕ → Bool) (actions : List Action) (kinds : List Kind)
    → AllByRecursion (λ action. action.types ≡ None) actions
    → ((number : ℕ) → ¬ Contains kinds (Typed number))
    → disposition matched actions kinds ≡ unwrap_or (first_triggered matched [] actions) Valid

-- where a ruleset has no actions of its own, what has the type blocked, number 1, may not be had
abbrev pub BlockedBlocks : Type 0
BlockedBlocks =
    (matched : ℕ → Bool) (kinds : List Kind) → Contains kinds (Typed 1)
    → is_allocatable (disposition matched [] kinds) ≡ false

-- of the default actions two decide whether a label may be had, and so may a catch-all stand for the others
abbrev pub TwoDefaultsCount : Type 0
TwoDefaultsCount = (matched : ℕ → Bool) (actions : List Action) (kinds : List Kind) →
    is_allocatable (disposition matched actions kinds)
    ≡ is_allocatable
    (unwrap_or
    (first_triggered matched kinds (actions ++ by_types Invalid (Some (trigger.Any 4))
    ∷ by_types Blocked (Some (trigger.Any 8)) ∷ [])) Valid)

-- 'only' is 'all' where no source stays without a type, if anything is recorded
abbrev pub OnlyIsAll : Type 0
OnlyIsAll = (types : ℕ) (kind : Kind) (kinds : List Kind) →
    (has_types (Some (trigger.Only types)) (kind ∷ kinds) ≡ true)
    ↔ ((has_types (Some (trigger.All types)) (kind ∷ kinds) ≡ true) × ¬ Contains (kind ∷ kinds) Unmapped)
