-- The disposition of a label by its readings (RFC 7940, sections 8.2 to 8.4).
use Rattle.std.specs.Prelude.{◌≡◌, ℕ, ◌<◌, ◌↔◌, Bool, true, List, Contains}
use Rattle.std.specs.Int.{bit_at}
use Rattle.reading_kinds.specs.Readings.{Substitution, IsReading, SomeHas, SomeLacks}
use Rattle.variant_dispositions.specs.declared.action.Action.{Action}
use Rattle.variant_dispositions.specs.declared.disposition.Disposition.{Disposition}
use Rattle.variant_dispositions.specs.declared.variant.VariantDisposition.{VariantDisposition}
use Rattle.variant_dispositions.specs.declared.variant.VariantDisposition.TheVariants.{Clear, Unclear}
use Rattle.variant_dispositions.specs.Kinds.{Kind, recorded}
use Rattle.variant_dispositions.specs.Kinds.Kind.{Typed}
use Rattle.variant_dispositions.specs.Actions.{disposition, is_allocatable}

-- clear: all readings record the same kinds. Else the label is a duplicate variant (8.4)
abbrev pub IsClear : List (List Substitution) → List ℕ → Type 0
IsClear substitutions v =
    (one other : List Substitution) → IsReading substitutions v one → IsReading substitutions v other
    → (kind : Kind) → Contains (recorded one) kind → Contains (recorded other) kind

-- a disposition that some reading gives
abbrev pub IsDisposition : (ℕ → Bool) → List Action → List (List Substitution) → List ℕ → Disposition → Type 0
IsDisposition matched actions substitutions v d =
    (reading : List Substitution) × IsReading substitutions v reading
    × (disposition matched actions (recorded reading) ≡ d)

-- what is told of a label
abbrev pub IsTold : (ℕ → Bool) → List Action → List (List Substitution) → List ℕ → VariantDisposition → Type 0
IsTold matched actions substitutions v (Clear d) =
    IsClear substitutions v × IsDisposition matched actions substitutions v d
IsTold matched actions substitutions v Unclear = ¬ IsClear substitutions v

-- two words that say which kinds some reading of v has, and which some reading lacks
pub record AreWordsOf (substitutions : List (List Substitution)) (v : List ℕ) (has lacks : ℕ) : Type 0 where
  pub has_are : (k : ℕ) → k < 64 → (bit_at has k ≡ 1) ↔ SomeHas substitutions v k
  pub lacks_are : (k : ℕ) → k < 64 → (bit_at lacks k ≡ 1) ↔ SomeLacks substitutions v k

-- ---- tables of version 2, in which each reading stands for itself: the type blocked, number 1, is their only one

abbrev pub HasNoTypeButBlocked : List (List Substitution) → List ℕ → Type 0
HasNoTypeButBlocked substitutions v =
    (reading : List Substitution) → IsReading substitutions v reading → (number : ℕ)
    → Contains (recorded reading) (Typed number) → number ≡ 1

-- by some reading the holder may have the label
abbrev pub IsAllocatableInSome : (ℕ → Bool) → List Action → List (List Substitution) → List ℕ → Type 0
IsAllocatableInSome matched actions substitutions v =
    (d : Disposition) × IsDisposition matched actions substitutions v d × (is_allocatable d ≡ true)
