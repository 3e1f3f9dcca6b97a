-- Examples, computed from the definitions.
use Rattle.std.specs.Prelude.{◌≡◌, ℕ, List, [], ◌∷◌, ◌++◌, codes, Bool, true, false, replicate, Option, Some, None, Ok}
use Rattle.std.specs.Prelude.{Err}
use Rattle.idn_text.specs.declared.refusal.Refusal.{Refusal}
use Rattle.idn_text.specs.declared.refusal.Refusal.TheVariants.{Empty, Disallowed, Unassigned, NotNfc, Hyphen}
use Rattle.idn_text.specs.declared.refusal.Refusal.TheVariants.{LeadingMark, ContextJ, ContextO, Bidi, BadALabel}
use Rattle.idn_text.specs.declared.refusal.Refusal.TheVariants.{LabelTooLong, LookupInvalid, LookupLength}
use Rattle.idn_label.specs.ALabel.{a_label_of}
use Rattle.idn_label.specs.Answers.{Answer}
use Rattle.idn_label.specs.Decode.{decode_answer}
use Rattle.idn_label.specs.FirstFault.{first_fault}
use Rattle.idn_label.specs.Lookup.{lookup_answer}
use Rattle.idn_label.specs.OldNames.{old_fault, stands_for}
use Rattle.idn_label.specs.Register.{register_answer}
use Rattle.idn_class.specs.declared.properties.Properties.TheVariants.{Profile}

-- each label has the A-label beside it
abbrev pub HaveALabels : List (List ℕ × List ℕ) → Type 0
HaveALabels [] = Unit {0}
HaveALabels (row ∷ rows) = (a_label_of row.0 ≡ row.1) × HaveALabels rows

-- each label has the first fault beside it, or none
abbrev pub HaveFirstFaults : List (List ℕ × Option Refusal) → Type 0
HaveFirstFaults [] = Unit {0}
HaveFirstFaults (row ∷ rows) = (first_fault Profile row.0 ≡ row.1) × HaveFirstFaults rows

abbrev pub a_labels : List (List ℕ × List ℕ)
a_labels =
    (0x66 ∷ 0x61 ∷ 0xDF ∷ [], codes "xn--fa-hia") ∷
    (0x6C ∷ 0xB7 ∷ 0x6C ∷ [], codes "xn--ll-0ea") ∷
    (0x73 ∷ 0x74 ∷ 0x72 ∷ 0x61 ∷ 0xDF ∷ 0x65 ∷ [], codes "xn--strae-oqa") ∷
    (0x73 ∷ 0xDF ∷ [], codes "xn--s-qfa") ∷
    (0xDF ∷ 0x73 ∷ [], codes "xn--s-pfa") ∷
    (0x71 ∷ 0x301 ∷ [], codes "xn--q-xbb") ∷
    (0x5D0 ∷ 0x5D1 ∷ [], codes "xn--4dbc") ∷
    (0x627 ∷ 0x660 ∷ 0x660 ∷ [], codes "xn--mgb8ia") ∷
    (0x627 ∷ 0x6F0 ∷ 0x6F0 ∷ [], codes "xn--mgb61ba") ∷
    (0x4E2D ∷ 0x56FD ∷ [], codes "xn--fiqs8s") ∷
    (0x4E2D ∷ 0x570B ∷ [], codes "xn--fiqz9s") ∷
    (0x646 ∷ 0x627 ∷ 0x645 ∷ 0x647 ∷ 0x200C ∷ 0x627 ∷ 0x6CC ∷ [], codes "xn--mgba3gch31f060k") ∷
    []

abbrev pub first_faults : List (List ℕ × Option Refusal)
first_faults =
    ([], Some Empty) ∷
    (0x66 ∷ 0x61 ∷ 0xDF ∷ [], None) ∷
    (0x6C ∷ 0xB7 ∷ 0x6C ∷ [], None) ∷
    (0x61 ∷ 0xB7 ∷ 0x6C ∷ [], Some ContextO) ∷
    (0x61 ∷ 0x200C ∷ 0x62 ∷ [], Some ContextJ) ∷
    (0x50000 ∷ [], Some Unassigned) ∷
    (0x61 ∷ 0x301 ∷ [], Some NotNfc) ∷
    (codes "ab--c", Some Hyphen) ∷
    (codes "a-", Some Hyphen) ∷
    (0x301 ∷ 0x61 ∷ [], Some LeadingMark) ∷
    (0x61 ∷ 0x5D0 ∷ [], Some Bidi) ∷
    (0x5D0 ∷ 0x61 ∷ [], Some Bidi) ∷
    (codes "a.b", Some Disallowed) ∷
    (codes "Fa", Some Disallowed) ∷
    (0x627 ∷ 0x660 ∷ 0x6F0 ∷ [], Some ContextO) ∷
    (replicate 63 0x61, None) ∷
    (replicate 64 0x61, Some LabelTooLong) ∷
    (replicate 55 0x61 ++ 0xDF ∷ [], None) ∷
    (replicate 56 0x61 ++ 0xDF ∷ [], Some LabelTooLong) ∷
    []

-- labels with two faults, of which the first is reported
abbrev pub first_faults_of_two : List (List ℕ × Option Refusal)
first_faults_of_two =
    (0x41 ∷ 0x50000 ∷ [], Some Disallowed) ∷
    (0x50000 ∷ 0x41 ∷ [], Some Unassigned) ∷
    (0x61 ∷ 0x301 ∷ 0x2D ∷ [], Some NotNfc) ∷
    (0x301 ∷ 0x2D ∷ [], Some Hyphen) ∷
    (0x301 ∷ 0x200D ∷ [], Some LeadingMark) ∷
    []

-- each label that begins with "xn--" is registered with the answer beside it
abbrev pub HaveRegisterAnswers : List (List ℕ × Answer) → Type 0
HaveRegisterAnswers [] = Unit {0}
HaveRegisterAnswers (row ∷ rows) = (register_answer Profile row.0 ≡ row.1) × HaveRegisterAnswers rows

abbrev pub register_answers : List (List ℕ × Answer)
register_answers =
    (codes "xn--", Err BadALabel) ∷
    (codes "xn--abc-", Err BadALabel) ∷
    (codes "xn--a", Err Disallowed) ∷
    (codes "xn--fa-hia", Ok (codes "xn--fa-hia")) ∷
    (codes "xn--fa-HIA", Err BadALabel) ∷
    []

-- each name is decoded to the answer beside it
abbrev pub HaveDecodeAnswers : List (List ℕ × Answer) → Type 0
HaveDecodeAnswers [] = Unit {0}
HaveDecodeAnswers (row ∷ rows) = (decode_answer Profile row.0 ≡ row.1) × HaveDecodeAnswers rows

abbrev pub decode_answers : List (List ℕ × Answer)
decode_answers =
    ([], Ok []) ∷
    (codes "XN--FA-HIA.de", Ok (0x66 ∷ 0x61 ∷ 0xDF ∷ codes ".de")) ∷
    (codes "xn--fiqs8s.example", Ok (0x4E2D ∷ 0x56FD ∷ codes ".example")) ∷
    (codes "a.xn--a.xn--", Err Disallowed) ∷
    []

-- each name stands for the label beside it
abbrev pub HaveLabelsNamed : List (List ℕ × List ℕ) → Type 0
HaveLabelsNamed [] = Unit {0}
HaveLabelsNamed (row ∷ rows) = (stands_for row.0 ≡ row.1) × HaveLabelsNamed rows

-- the second is decoded to ASCII, which has another name
abbrev pub labels_named : List (List ℕ × List ℕ)
labels_named =
    (codes "xn--fa-hia", 0x66 ∷ 0x61 ∷ 0xDF ∷ []) ∷
    (codes "xn--abc-", codes "xn--abc-") ∷
    (codes "xn--ls8h", 0x1F4A9 ∷ []) ∷
    (codes "ab--cd", codes "ab--cd") ∷
    []

-- each label that is to be an old one has the first fault beside it, or none
abbrev pub HaveOldFaults : List (List ℕ × Option Refusal) → Type 0
HaveOldFaults [] = Unit {0}
HaveOldFaults (row ∷ rows) = (old_fault row.0 ≡ row.1) × HaveOldFaults rows

abbrev pub old_faults : List (List ℕ × Option Refusal)
old_faults =
    ([], Some Empty) ∷
    (codes "Strasse", Some Disallowed) ∷
    (codes "xn--fa-hia", Some Hyphen) ∷
    (codes "xn--abc-", None) ∷
    (codes "ab--c", None) ∷
    (0x31 ∷ 0x967 ∷ [], None) ∷
    (0x1F4A9 ∷ [], None) ∷
    (replicate 64 0x61, Some LabelTooLong) ∷
    []

-- each name, with the flag of the ASCII rules, is looked up with the answer beside it
abbrev pub HaveLookupAnswers : List (List ℕ × Bool × Answer) → Type 0
HaveLookupAnswers [] = Unit {0}
HaveLookupAnswers (row ∷ rows) = (lookup_answer row.0 row.1 ≡ row.2) × HaveLookupAnswers rows

-- three labels of 63 times "a", and one of so many: 192 octets and the last label
abbrev pub name_with_last_label : ℕ → List ℕ
name_with_last_label many =
    let label = replicate 63 0x61 ++ codes "." in
    label ++ label ++ label ++ replicate many 0x61

abbrev pub lookup_answers : List (List ℕ × Bool × Answer)
lookup_answers =
    (codes "Fa" ++ 0xDF ∷ codes ".de", false, Ok (codes "xn--fa-hia.de")) ∷
    (codes "a_b", false, Ok (codes "a_b")) ∷
    (codes "a_b", true, Err LookupInvalid) ∷
    (codes "example.", false, Ok (codes "example.")) ∷
    (replicate 64 0x61, false, Err LookupLength) ∷
    (name_with_last_label 61, false, Ok (name_with_last_label 61)) ∷
    (name_with_last_label 61 ++ codes ".", false, Ok (name_with_last_label 61 ++ codes ".")) ∷
    (name_with_last_label 62, false, Err LookupLength) ∷
    []
