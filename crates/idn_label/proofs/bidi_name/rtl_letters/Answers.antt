use Rattle.std.proofs.Common.{refl}
use Rattle.ucd_bidi.specs.BidiClass.{bidi_class}
use Rattle.ucd_bidi.specs.BidiClassRows.{bidi_class_rows}
use Rattle.ucd_table.proofs.Computing.{tables}
use Rattle.idn_label.specs.inner.BidiNames.{is_rtl_letter}
use Rattle.idn_label.proofs.RtlLetters.{told}
use Rattle.idn_label.proofs.bidi_name.rtl_letters.Goals as goal

pub returns-in-214 : goal.returns-in-214
unfolding tables bidi_class bidi_class_rows
returns-in-214 c = rw c.in-214.is (told is_rtl_letter 0xD6 _ refl)

pub returns-in-215 : goal.returns-in-215
unfolding tables bidi_class bidi_class_rows
returns-in-215 c = rw c.in-215.is (told is_rtl_letter 0xD7 _ refl)

pub returns-in-216 : goal.returns-in-216
unfolding tables bidi_class bidi_class_rows
returns-in-216 c = rw c.in-216.is (told is_rtl_letter 0xD8 _ refl)

pub returns-in-217 : goal.returns-in-217
unfolding tables bidi_class bidi_class_rows
returns-in-217 c = rw c.in-217.is (told is_rtl_letter 0xD9 _ refl)

pub returns-in-218 : goal.returns-in-218
unfolding tables bidi_class bidi_class_rows
returns-in-218 c = rw c.in-218.is (told is_rtl_letter 0xDA _ refl)

pub returns-in-219 : goal.returns-in-219
unfolding tables bidi_class bidi_class_rows
returns-in-219 c = rw c.in-219.is (told is_rtl_letter 0xDB _ refl)
