-- The Bidi rule (RFC 5893, section 2), on the list of the Bidi classes of a label.
use Rattle.std.specs.Prelude.{◌≡◌, ℕ, ◌<◌, ◌⊎◌, Bool, true, false, IsTrue, List, length, map, All, Any, Contains, Some}
use Rattle.std.specs.Prelude.{IsSomeAnd, slice_get}
use Rattle.idn_class.specs.declared.bidi_class.BidiClass.{BidiClass}
use Rattle.idn_class.specs.declared.bidi_class.BidiClass.TheVariants.{L, R, AL, AN, EN, ES, CS, ET, ON, BN, NSM, Other}
use Rattle.idn_class.specs.declared.properties.Properties.{Properties}
use Rattle.idn_class.specs.BidiClass.{bidi_class}

-- an RTL label: its first is R or AL
abbrev pub IsRtl : List BidiClass → Type 0
IsRtl classes = IsSomeAnd (slice_get classes 0) (λ class. (class ≡ R) ⊎ (class ≡ AL))

-- an LTR label: its first is L
abbrev pub IsLtr : List BidiClass → Type 0
IsLtr classes = slice_get classes 0 ≡ Some L

-- what an RTL label may hold
abbrev pub is_allowed_in_rtl : BidiClass → Bool
is_allowed_in_rtl R = true
is_allowed_in_rtl AL = true
is_allowed_in_rtl AN = true
is_allowed_in_rtl EN = true
is_allowed_in_rtl ES = true
is_allowed_in_rtl CS = true
is_allowed_in_rtl ET = true
is_allowed_in_rtl ON = true
is_allowed_in_rtl BN = true
is_allowed_in_rtl NSM = true
is_allowed_in_rtl L = false
is_allowed_in_rtl Other = false

-- what an RTL label may end in
abbrev pub is_end_of_rtl : BidiClass → Bool
is_end_of_rtl R = true
is_end_of_rtl AL = true
is_end_of_rtl EN = true
is_end_of_rtl AN = true
is_end_of_rtl _ = false

-- what an LTR label may hold
abbrev pub is_allowed_in_ltr : BidiClass → Bool
is_allowed_in_ltr L = true
is_allowed_in_ltr EN = true
is_allowed_in_ltr ES = true
is_allowed_in_ltr CS = true
is_allowed_in_ltr ET = true
is_allowed_in_ltr ON = true
is_allowed_in_ltr BN = true
is_allowed_in_ltr NSM = true
is_allowed_in_ltr _ = false

-- what an LTR label may end in
abbrev pub is_end_of_ltr : BidiClass → Bool
is_end_of_ltr L = true
is_end_of_ltr EN = true
is_end_of_ltr _ = false

-- a class that passes the test stands at some place, and only NSM follow it
pub record EndsIn (is_end : BidiClass → Bool) (classes : List BidiClass) : Type 0 where
  pub place : ℕ
  pub class : BidiClass
  pub stands : slice_get classes place ≡ Some class
  pub ends : IsTrue (is_end class)
  pub rest : (k : ℕ) → place < k → k < length classes → slice_get classes k ≡ Some NSM

-- the six conditions, in the order of the standard
pub record MeetsSixConditions (classes : List BidiClass) : Type 0 where
  -- 1: the first is L, R or AL
  pub first : IsLtr classes ⊎ IsRtl classes
  -- 2: only R, AL, AN, EN, ES, CS, ET, ON, BN and NSM occur in an RTL label
  pub rtl_holds : IsRtl classes → All (λ class. IsTrue (is_allowed_in_rtl class)) classes
  -- 3: an RTL label ends in R, AL, EN or AN, followed by any number of NSM
  pub rtl_ends : IsRtl classes → EndsIn is_end_of_rtl classes
  -- 4: not both EN and AN occur in an RTL label
  pub rtl_numbers : IsRtl classes → ¬ (Contains classes EN × Contains classes AN)
  -- 5: only L, EN, ES, CS, ET, ON, BN and NSM occur in an LTR label
  pub ltr_holds : IsLtr classes → All (λ class. IsTrue (is_allowed_in_ltr class)) classes
  -- 6: an LTR label ends in L or EN, followed by any number of NSM
  pub ltr_ends : IsLtr classes → EndsIn is_end_of_ltr classes

-- what makes the rule apply: R, AL or AN
abbrev pub is_rtl_class : BidiClass → Bool
is_rtl_class R = true
is_rtl_class AL = true
is_rtl_class AN = true
is_rtl_class _ = false

-- the rule is applied to each label by itself, and only to a label that holds R, AL or AN
abbrev pub PassesBidiRule : Properties → List ℕ → Type 0
PassesBidiRule properties label =
    let classes = map (bidi_class properties) label in
    Any (λ class. IsTrue (is_rtl_class class)) classes → MeetsSixConditions classes
