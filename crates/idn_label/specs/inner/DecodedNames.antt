-- A name in UTF-8 whose labels are decoded, before the rule of the whole name is asked.
use Rattle.std.specs.Prelude.{◌≡◌, ℕ, false, List, chars, Ok, Err, if◌then◌else◌}
use Rattle.std.specs.Str.{is_utf8}
use Rattle.idna.specs.BidiRule.{is_bidi_domain}
use Rattle.idn_text.specs.declared.refusal.Refusal.TheVariants.{NotUtf8}
use Rattle.idn_class.specs.declared.facts.Fact.TheVariants.{RightToLeft}
use Rattle.idn_class.specs.declared.facts.Facts.{Facts}
use Rattle.idn_class.specs.declared.properties.Properties.{Properties}
use Rattle.idn_class.specs.Facts.{contains}
use Rattle.idn_label.specs.Answers.{Answer}
use Rattle.idn_label.specs.Decode.{decoded_labels, decoded_name}
use Rattle.idn_label.specs.Steps.{in_utf8}

-- the name with each label decoded, as UTF-8; other bytes are no name
unfoldable pub decoded_utf8 : Properties → List ℕ → Answer
decoded_utf8 properties bytes = if is_utf8 bytes then in_utf8 (decoded_name properties (chars bytes)) else Err NotUtf8

-- where no label holds R, AL or AN, none does once it is decoded
abbrev pub KeepsLeftToRight : Properties → List (List ℕ) → Type 0
KeepsLeftToRight properties labels =
    is_bidi_domain labels ≡ false → (decoded : List (List ℕ)) → decoded_labels properties labels ≡ Ok decoded
    → is_bidi_domain decoded ≡ false

-- these facts say so, if RightToLeft is none of them
abbrev pub TellsLeftToRight : Properties → Facts → List (List ℕ) → Type 0
TellsLeftToRight properties facts labels = contains facts RightToLeft ≡ false → KeepsLeftToRight properties labels
