-- The text of a registry's labels: one on each line, each greater than the one before. Old labels have a mark.
use Rattle.std.specs.Prelude.{◌≡◌, ◌⊎◌, ℕ, ◌+◌, ◌≤◌, ◌^◌, List, [], ◌∷◌, ◌++◌, length}
use Rattle.std.specs.Prelude.{Option, Some, None, if◌then◌else◌}
use Rattle.idn_text.specs.Lines.{raw_lines, joined_lines, body_of}
use Rattle.idn_text.specs.Points.{utf8_of}
use Rattle.idn_text.specs.declared.refusal.Refusal.{Refusal}
use Rattle.idn_text.specs.declared.refusal.Refusal.TheVariants.{LineTooLong, OutOfOrder, FileTooLong}
use Rattle.idn_text.specs.declared.refusal.Refusal.TheVariants as refusals
use Rattle.idn_label.specs.FirstFault.{utf8_fault, IsRegistrable}
use Rattle.idn_label.specs.OldNames.{IsOld, mark, has_mark, before_mark, old_utf8_fault}
use Rattle.variant_list.specs.Labels.{IsBelow}
use Rattle.registered_labels.specs.declared.labels.RegisteredFileFault.{RegisteredFileFault}
use Rattle.registered_labels.specs.declared.labels.RegisteredFileFault.TheVariants.{Refused, Memory}
use Rattle.registered_labels.specs.Registered.{AreRegistered}
use Rattle.idn_class.specs.declared.properties.Properties.{Properties}

-- ---- a line

-- the line is this label: it may be registered; or it is an old one, with the mark after it. One carriage return at the
-- end of the line doesn't count
abbrev pub IsLineOf : Properties → List ℕ → List ℕ → Type 0
IsLineOf properties line v =
    ((body_of line ≡ Some (utf8_of v)) × IsRegistrable properties v)
    ⊎ ((body_of line ≡ Some (utf8_of v ++ mark)) × IsOld v)

-- these lines are these labels, in their order
abbrev pub AreLinesOf : Properties → List (List ℕ) → List (List ℕ) → Type 0
AreLinesOf properties [] [] = Unit {0}
AreLinesOf properties [] (v ∷ labels) = ⊥
AreLinesOf properties (line ∷ lines) [] = ⊥
AreLinesOf properties (line ∷ lines) (v ∷ labels) = IsLineOf properties line v × AreLinesOf properties lines labels

-- what is wrong with the label on the body of a line alone: with the mark it has to be an old one
abbrev pub label_fault : Properties → List ℕ → Option Refusal
label_fault properties body = if has_mark body then old_utf8_fault (before_mark body) else utf8_fault properties body

-- what is wrong with the body of a line alone
abbrev pub line_refusal : Properties → Option (List ℕ) → Option Refusal
line_refusal properties None = Some LineTooLong
line_refusal properties (Some body) = label_fault properties body

-- ---- a text

-- these lines of a text, from its first on, end at byte 2^32 - 1 or before, where the first is byte 1
abbrev pub EndInTime : List (List ℕ) → Type 0
EndInTime lines = length (joined_lines lines) ≤ 2 ^ 32

-- the text has a line for each of these labels, which stand in label order, each once
pub record IsTextOf (properties : Properties) (text : List ℕ) (labels : List (List ℕ)) : Type 0 where
  pub lines : AreLinesOf properties (raw_lines text) labels
  pub registered : AreRegistered properties labels
  pub in_time : EndInTime (raw_lines text)

-- all lines before the line of this number, from 1, are labels in label order and end in time, and the line, after so
-- many bytes of the text, is wrong after them
pub record IsFirstWrong (properties : Properties) (text : List ℕ) (number : ℕ)
    (IsWrong : ℕ → List (List ℕ) → List ℕ → Type 0) : Type 0 where
  pub before : List (List ℕ)
  pub line : List ℕ
  pub rest : List (List ℕ)
  pub lines : raw_lines text ≡ before ++ line ∷ rest
  pub numbered : number ≡ length before + 1
  pub labels : List (List ℕ)
  pub read : AreLinesOf properties before labels
  pub registered : AreRegistered properties labels
  pub in_time : EndInTime before
  pub wrong : IsWrong (length (joined_lines before)) labels line

-- the line is a label that is not greater than the last of these
pub record IsOutOfOrder (properties : Properties) (labels : List (List ℕ)) (line : List ℕ) : Type 0 where
  pub label : List ℕ
  pub is : IsLineOf properties line label
  pub front : List (List ℕ)
  pub last : List ℕ
  pub ending : labels ≡ front ++ last ∷ []
  pub not_greater : ¬ IsBelow last label

-- a line after so many bytes of the text, and after these labels, is wrong by itself; or it is not greater than the
-- last of them; or it is neither, but it ends after byte 2^32 - 1 of the text, where the first is byte 1
abbrev pub IsWrongBy : Properties → Refusal → ℕ → List (List ℕ) → List ℕ → Type 0
IsWrongBy properties refusal at labels line =
    (line_refusal properties (body_of line) ≡ Some refusal)
    ⊎ ((refusal ≡ OutOfOrder) × IsOutOfOrder properties labels line)
    ⊎ ((refusal ≡ FileTooLong) × (line_refusal properties (body_of line) ≡ None)
    × (¬ IsOutOfOrder properties labels line)
    × (2 ^ 32 ≤ at + length line))

-- the first fault of a text; lack of memory is none of a text
abbrev pub IsFaultOf : Properties → List ℕ → RegisteredFileFault → Type 0
IsFaultOf properties text (Refused line refusal) = IsFirstWrong properties text line (IsWrongBy properties refusal)
IsFaultOf properties text Memory = Unit {0}

-- the fault of a line that is refused; lack of memory is none
abbrev pub fault_of : ℕ → Refusal → RegisteredFileFault
fault_of line refusals.Memory = Memory
fault_of line refusal = Refused line refusal
