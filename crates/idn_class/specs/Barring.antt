-- Why a code point may not be registered: the line of RFC 5892, section 3, or of this profile, that bars it.
use Rattle.std.specs.Prelude.{◌≡◌, ℕ, Bool, true, false, not, IsTrue, List, [], ◌∷◌, ◌++◌, All, Option, None}
use Rattle.std.specs.Prelude.{if◌then◌else◌}
use Rattle.std.specs.List.{find}
use Rattle.unicode.specs.GeneralCategory.{general_category}
use Rattle.idn_class.specs.declared.barring.BarringLine.{BarringLine}
use Rattle.idn_class.specs.declared.barring.BarringLine.TheVariants as lines
use Rattle.idn_class.specs.declared.class.Class.{Class}
use Rattle.idn_class.specs.declared.class.Class.TheVariants as classes
use Rattle.idn_class.specs.declared.properties.Properties.{Properties}
use Rattle.idn_class.specs.Class.{is_scalar, is_left_out, is_disallowed_exception, is_unassigned, is_unstable}
use Rattle.idn_class.specs.Class.{has_ignorable_property, is_in_ignorable_block, is_old_hangul_jamo, is_letter_or_digit}
use Rattle.idn_class.specs.Class.{class_of}

-- the class may not be registered: DISALLOWED or UNASSIGNED
abbrev pub is_barred : Class → Bool
is_barred classes.Disallowed = true
is_barred classes.Unassigned = true
is_barred classes.Pvalid = false
is_barred classes.Contextj = false
is_barred classes.Contexto = false

-- the line applies to the code point
unfoldable pub applies : Properties → ℕ → BarringLine → Bool
applies properties c lines.NoScalarValue = not (is_scalar c)
applies properties c lines.OutsideProfile = is_left_out properties c
applies properties c lines.Exceptions = is_disallowed_exception c
applies properties c lines.Unassigned = is_unassigned c
applies properties c lines.Unstable = is_unstable c
applies properties c lines.IgnorableProperties = has_ignorable_property c
applies properties c lines.IgnorableBlocks = is_in_ignorable_block c
applies properties c lines.OldHangulJamo = is_old_hangul_jamo c
applies properties c lines.NoLetterDigit = not (is_letter_or_digit (general_category c))

-- the lines of section 3 after Unstable that bar, in its order; the last is its 'else'
abbrev pub lines_by_look_up : List BarringLine
lines_by_look_up = lines.IgnorableProperties ∷ lines.IgnorableBlocks ∷ lines.OldHangulJamo ∷ lines.NoLetterDigit ∷ []

-- those from Unstable on
abbrev pub lines_of_properties : List BarringLine
lines_of_properties = lines.Unstable ∷ lines_by_look_up

-- the two lines that come first, and all lines of section 3 that bar, in its order
abbrev pub barring_lines : List BarringLine
barring_lines = lines.NoScalarValue ∷ lines.OutsideProfile ∷ lines.Exceptions ∷ lines.Unassigned ∷ lines_of_properties

-- the first line that applies to a code point whose class may not be registered. No line that permits one stands before
-- it, since that would have decided
unfoldable pub barring_line : Properties → ℕ → Option BarringLine
barring_line properties c =
    if is_barred (class_of properties c) then find (applies properties c) barring_lines else None

-- the same by what it has to be: the class may not be registered, the line applies, and none of those before it does
pub record IsBarredBy (properties : Properties) (c : ℕ) (line : BarringLine) : Type 0 where
  pub barred : IsTrue (is_barred (class_of properties c))
  pub before : List BarringLine
  pub after : List BarringLine
  pub order : barring_lines ≡ before ++ line ∷ after
  pub earlier : All (λ other. ¬ IsTrue (applies properties c other)) before
  pub applies : IsTrue (applies properties c line)
