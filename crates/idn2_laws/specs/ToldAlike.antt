-- A cause is told alike by an object and by a message.
use Rattle.std.specs.Prelude.{◌≡◌, ℕ, List, ◌++◌, codes, Some}
use Rattle.std.specs.Fmt.{decimal}
use Rattle.idn_text.specs.declared.refusal.Refusal.{Refusal}
use Rattle.idn2_refusals.specs.CauseParts.{parts_of, told_details}
use Rattle.idn2_refusals.specs.CauseWords.{cause_words, tail_text}
use Rattle.idn2_refusals.specs.declared.cause.LineCause.{LineCause}

-- the part is somewhere in the text
abbrev pub HasPart : List ℕ → List ℕ → Type 0
HasPart part text = (before : List ℕ) × (after : List ℕ) × (text ≡ before ++ (part ++ after))

-- the members of the object and the words of the message are made of the same parts, and the message has the place of
-- the object, in code points or in bytes
pub record IsToldAlike (refusal : Refusal) (cause : LineCause) : Type 0 where
  pub members : told_details refusal (Some cause) ≡ (parts_of refusal cause).details
  pub words : tail_text refusal (Some cause) ≡ codes ": " ++ cause_words (parts_of refusal cause)
  pub place : (n : ℕ) → (told_details refusal (Some cause)).place ≡ Some n
      → HasPart (codes "place " ++ decimal n) (tail_text refusal (Some cause))
  pub byte : (n : ℕ) → (told_details refusal (Some cause)).byte ≡ Some n
      → HasPart (codes " at byte " ++ decimal n) (tail_text refusal (Some cause))

abbrev pub CausesAreToldAlike : Type 0
CausesAreToldAlike = (refusal : Refusal) (cause : LineCause) → IsToldAlike refusal cause
