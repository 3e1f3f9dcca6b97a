-- Where a rule is broken: the first place of a label at which its test fails. Places are counted from 0.
use Rattle.std.specs.Prelude.{◌≡◌, ◌≢◌, ◌⊎◌, ℕ, zero, suc, ◌<◌, ◌≤◌, Bool, true, false, ◌&&◌, ◌||◌, not, IsTrue, List}
use Rattle.std.specs.Prelude.{[], ◌∷◌, length, map, Any, Option, Some, None, slice_index, if◌then◌else◌}
use Rattle.std.specs.List.{list_any}
use Rattle.idn_class.specs.declared.bidi_class.BidiClass.{BidiClass}
use Rattle.idn_class.specs.declared.bidi_class.BidiClass.TheVariants.{EN, AN, NSM}
use Rattle.idn_class.specs.declared.broken.Broken.{Broken}
use Rattle.idn_class.specs.declared.broken.BidiCondition.{BidiCondition}
use Rattle.idn_class.specs.declared.broken.BidiCondition.TheVariants.{First, RtlHolds, RtlEnds, RtlNumbers, LtrHolds}
use Rattle.idn_class.specs.declared.broken.BidiCondition.TheVariants.{LtrEnds}
use Rattle.idn_class.specs.declared.properties.Properties.{Properties}
use Rattle.idn_class.specs.BidiClass.{bidi_class}
use Rattle.idn_class.specs.BidiRule.{is_rtl_class, is_allowed_in_rtl, is_end_of_rtl, is_allowed_in_ltr, is_end_of_ltr}
use Rattle.idn_class.specs.BidiRule.{IsRtl, IsLtr}
use Rattle.idn_class.specs.Tests.{joiner_at, other_at, is_en, is_an, is_nsm, is_rtl, is_ltr}

-- ---- the first place

-- it is within the label, what is asked fails there, and it holds at each place before
pub record IsFirstFailing (label : List ℕ) (Passes : ℕ → Type 0) (place : ℕ) : Type 0 where
  pub within : place < length label
  pub fails : ¬ (Passes place)
  pub before : (k : ℕ) → k < place → Passes k

-- an earlier place, or this one if the test fails there
abbrev pub earlier_or : Option ℕ → Bool → ℕ → Option ℕ
earlier_or (Some earlier) passes place = Some earlier
earlier_or None true place = None
earlier_or None false place = Some place

-- the first of so many places at which the test fails
abbrev pub first_failing : ℕ → (ℕ → Bool) → Option ℕ
first_failing zero passes = None
first_failing (suc place) passes = earlier_or (first_failing place passes) (passes place) place

-- the same of all places of a label
abbrev pub failing_in : List ℕ → (ℕ → Bool) → Option ℕ
failing_in label passes = first_failing (length label) passes

-- ---- context rules

-- the first joiner against its rule (RFC 5892, appendix A.1 and A.2)
abbrev pub misplaced_joiner : Properties → List ℕ → Option ℕ
misplaced_joiner properties label = failing_in label (joiner_at properties label)

-- the first other code point against its rule (RFC 5892, appendix A.3 to A.9)
abbrev pub misplaced_other : List ℕ → Option ℕ
misplaced_other label = failing_in label (other_at label)

-- ---- the Bidi rule (RFC 5893, section 2)

-- the Bidi_Class at a place
abbrev pub class_at : Properties → List ℕ → ℕ → BidiClass
class_at properties label place = bidi_class properties (slice_index label place)

-- the last of so many places at which no NSM stands
abbrev pub last_base : Properties → List ℕ → ℕ → Option ℕ
last_base properties label zero = None
last_base properties label (suc place) =
    if is_nsm (class_at properties label place) then last_base properties label place else Some place

-- this place, where what stands there may not end the label
abbrev pub unless_end : Properties → (BidiClass → Bool) → List ℕ → Option ℕ → Option ℕ
unless_end properties is_end label None = None
unless_end properties is_end label (Some place) = if is_end (class_at properties label place) then None else Some place

-- where a label does not end as it must: the last place at which no NSM stands
abbrev pub misplaced_end : Properties → (BidiClass → Bool) → List ℕ → Option ℕ
misplaced_end properties is_end label = unless_end properties is_end label (last_base properties label (length label))

-- the test holds at one of so many places
abbrev pub some_place : ℕ → (ℕ → Bool) → Bool
some_place zero holds = false
some_place (suc place) holds = holds place || some_place place holds

-- up to a place, that included, not both EN and AN occur
abbrev pub numbers_agree_to : Properties → List ℕ → ℕ → Bool
numbers_agree_to properties label place =
    not (some_place (suc place) (λ k. is_en (class_at properties label k))
    && some_place (suc place) (λ k. is_an (class_at properties label k)))

-- the number of a condition in the standard
abbrev pub condition_number : BidiCondition → ℕ
condition_number First = 1
condition_number RtlHolds = 2
condition_number RtlEnds = 3
condition_number RtlNumbers = 4
condition_number LtrHolds = 5
condition_number LtrEnds = 6

-- this condition is broken at this place, if there is one
abbrev pub broken_at : BidiCondition → Option ℕ → Option Broken
broken_at condition None = None
broken_at condition (Some place) = Some (record { condition = condition; place = place })

-- the first of two, if there is one
abbrev pub broken_or : Option Broken → Option Broken → Option Broken
broken_or None other = other
broken_or (Some broken) other = Some broken

-- the first of the conditions of an RTL label that is broken, in the order of the standard
unfoldable pub broken_in_rtl : Properties → List ℕ → Option Broken
broken_in_rtl properties label =
    broken_or (broken_at RtlHolds (failing_in label (λ place. is_allowed_in_rtl (class_at properties label place))))
    (broken_or (broken_at RtlEnds (misplaced_end properties is_end_of_rtl label))
    (broken_at RtlNumbers (failing_in label (numbers_agree_to properties label))))

-- the first of the conditions of an LTR label that is broken
unfoldable pub broken_in_ltr : Properties → List ℕ → Option Broken
broken_in_ltr properties label =
    broken_or (broken_at LtrHolds (failing_in label (λ place. is_allowed_in_ltr (class_at properties label place))))
    (broken_at LtrEnds (misplaced_end properties is_end_of_ltr label))

-- the first of the six conditions that a label breaks, where its name holds R, AL or AN. The root breaks none
unfoldable pub broken_in_name : Properties → List ℕ → Option Broken
broken_in_name properties [] = None
broken_in_name properties (c ∷ label) =
    let classes = map (bidi_class properties) (c ∷ label) in
    if is_rtl classes then broken_in_rtl properties (c ∷ label)
    else (if is_ltr classes then broken_in_ltr properties (c ∷ label)
    else broken_at First (Some 0))

-- the same of a label by itself: the rule is asked where the label holds R, AL or AN
unfoldable pub broken_condition : Properties → List ℕ → Option Broken
broken_condition properties label =
    if list_any is_rtl_class (map (bidi_class properties) label) then broken_in_name properties label else None

-- ---- the same, by what a broken condition is

-- the place is the last at which no NSM stands
pub record IsLastBase (properties : Properties) (label : List ℕ) (place : ℕ) : Type 0 where
  pub within : place < length label
  pub base : class_at properties label place ≢ NSM
  pub marks : (k : ℕ) → place < k → k < length label → class_at properties label k ≡ NSM

-- the class stands at this place or before it
abbrev pub StandsUpTo : Properties → List ℕ → BidiClass → ℕ → Type 0
StandsUpTo properties label class place = (k : ℕ) × (k ≤ place) × (class_at properties label k ≡ class)

-- the code point at the place breaks the condition
abbrev pub Breaks : Properties → List ℕ → BidiCondition → ℕ → Type 0
-- 1: it is the first, and neither L, R nor AL
Breaks properties label First place =
    (place ≡ 0) × ¬ (IsLtr (map (bidi_class properties) label) ⊎ IsRtl (map (bidi_class properties) label))
-- 2: it is the first in an RTL label that is none of R, AL, AN, EN, ES, CS, ET, ON, BN and NSM
Breaks properties label RtlHolds place =
    IsRtl (map (bidi_class properties) label) × IsFirstFailing label
    (λ k. IsTrue (is_allowed_in_rtl (class_at properties label k))) place
-- 3: it is the last in an RTL label but for NSM, and none of R, AL, EN and AN
Breaks properties label RtlEnds place =
    IsRtl (map (bidi_class properties) label) × IsLastBase properties label place
    × ¬ IsTrue (is_end_of_rtl (class_at properties label place))
-- 4: with it an RTL label has both EN and AN
Breaks properties label RtlNumbers place =
    IsRtl (map (bidi_class properties) label) × IsFirstFailing label
    (λ k. ¬ (StandsUpTo properties label EN k × StandsUpTo properties label AN k)) place
-- 5: it is the first in an LTR label that is none of L, EN, ES, CS, ET, ON, BN and NSM
Breaks properties label LtrHolds place =
    IsLtr (map (bidi_class properties) label) × IsFirstFailing label
    (λ k. IsTrue (is_allowed_in_ltr (class_at properties label k))) place
-- 6: it is the last in an LTR label but for NSM, and neither L nor EN
Breaks properties label LtrEnds place =
    IsLtr (map (bidi_class properties) label) × IsLastBase properties label place
    × ¬ IsTrue (is_end_of_ltr (class_at properties label place))

-- the condition is broken at the place of a label, and no earlier condition is broken anywhere
pub record IsFirstBrokenInName (properties : Properties) (label : List ℕ) (condition : BidiCondition)
    (place : ℕ) : Type 0 where
  pub within : place < length label
  pub breaks : Breaks properties label condition place
  pub earlier : (other : BidiCondition) (k : ℕ) → condition_number other < condition_number condition
      → ¬ Breaks properties label other k

-- the rule applies, the condition is broken at the place, and no earlier condition is broken anywhere
pub record IsFirstBroken (properties : Properties) (label : List ℕ) (condition : BidiCondition)
    (place : ℕ) : Type 0 where
  pub applies : Any (λ class. IsTrue (is_rtl_class class)) (map (bidi_class properties) label)
  pub breaks : Breaks properties label condition place
  pub earlier : (other : BidiCondition) (k : ℕ) → condition_number other < condition_number condition
      → ¬ Breaks properties label other k
