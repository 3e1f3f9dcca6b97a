-- The Bidi rule of a name: numbers as characters, and labels that are known to meet it.
use Rattle.std.specs.Prelude.{◌≡◌, ◌≤◌, ℕ, Bool, true, false, ◌&&◌, ◌+◌, ◌-◌, ◌*◌, nat_le, All, List, [], ◌∷◌, chars}
use Rattle.std.specs.Prelude.{length, if◌then◌else◌}
use Rattle.std.specs.Int.{bit_at}
use Rattle.std.specs.List.{AllByRecursion, slice_range}
use Rattle.ucd_bidi.specs.BidiClass.{bidi_class}
use Rattle.ucd_bidi.specs.declared.BidiClass.{BidiClass}
use Rattle.ucd_bidi.specs.declared.BidiClass.TheVariants.{RightToLeft, ArabicLetter, NonspacingMark}
use Rattle.idna.specs.BidiRule.{is_rtl, passes_as_ltr, passes_as_rtl, passes_bidi_rule}
use Rattle.idna.specs.Labels.{is_full_stop, labels_of}
use Rattle.idn_text.specs.Points.{is_scalar_value}
use Rattle.idn_label.specs.LabelEnds.{EndsLabel}
use Rattle.idn_label.specs.inner.Octets.{is_tail}

-- a character as it is, and 'a' for a number that is none: both are L
abbrev pub shown : ℕ → ℕ
shown c = if is_scalar_value c then c else 0x61

-- the conditions of a label that begins right-to-left, or of another
abbrev pub passes_by_direction : Bool → List BidiClass → Bool
passes_by_direction rtl classes = if rtl then passes_as_rtl classes else passes_as_ltr classes

-- the first is R, AL or AN
abbrev pub begins_rtl : List ℕ → Bool
begins_rtl [] = false
begins_rtl (c ∷ label) = is_rtl (bidi_class c)

-- a label that begins so meets the rule
abbrev pub PassesIfRtl : List ℕ → Type 0
PassesIfRtl label = begins_rtl label ≡ true → passes_bidi_rule label ≡ true

-- each label of a name does
abbrev pub EachPassesIfRtl : List ℕ → Type 0
EachPassesIfRtl name = AllByRecursion PassesIfRtl (labels_of name)

-- what stands from one place of a name up to another is no full stop, and meets the rule by itself
pub record MeetsRule (name : List ℕ) (start «end» : ℕ) : Type 0 where
  pub order : start ≤ «end»
  pub within : «end» ≤ length name
  pub without_stop : All (λ octet. is_full_stop octet ≡ false) (slice_range name start «end»)
  pub passes : passes_bidi_rule (chars (slice_range name start «end»)) ≡ true

-- of the labels from a place on, the first one ends here, and meets the rule
pub record EndsPassing (name : List ℕ) (start «end» : ℕ) : Type 0 where
  pub ends : EndsLabel name start «end»
  pub passes : passes_bidi_rule (chars (slice_range name start «end»)) ≡ true

abbrev pub is_lowercase : ℕ → Bool
is_lowercase octet = nat_le 0x61 octet && nat_le octet 0x7A

-- a letter of a right-to-left label
abbrev pub is_rtl_letter : BidiClass → Bool
is_rtl_letter RightToLeft = true
is_rtl_letter ArabicLetter = true
is_rtl_letter _ = false

-- one that may stand anywhere after it, and last
abbrev pub is_rtl_letter_or_mark : BidiClass → Bool
is_rtl_letter_or_mark NonspacingMark = true
is_rtl_letter_or_mark class = is_rtl_letter class

-- two octets are a character in UTF-8, of such a class
abbrev pub are_character : (BidiClass → Bool) → ℕ → ℕ → Bool
are_character is_such first second =
    nat_le 0xC2 first && nat_le first 0xDF && is_tail second
    && is_such (bidi_class ((first - 0xC0) * 0x40 + (second - 0x80)))

-- of the characters of two octets that begin with this one, those that have a bit are of such a class
abbrev pub TellsCharacters : (BidiClass → Bool) → ℕ → ℕ → Type 0
TellsCharacters is_such first bits =
    (second : ℕ) → is_tail second ≡ true → bit_at bits (second - 0x80) ≡ 1 → are_character is_such first second ≡ true
