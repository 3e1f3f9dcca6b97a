-- The examples, computed.
use Rattle.std.proofs.Common.{◌≡◌, ℕ, ◌==◌, true, not, List, [], ◌∷◌, ◌++◌, map, codes, length, replicate, Option, Some, None, Ok, Err, refl, ap, ◌∙◌}
use Rattle.unicode_normalization.specs.Forms.{is_nfc}
use Rattle.idna.specs.Validity.{has_ace_prefix}
use Rattle.idna.proofs.Computing.{idna}
use Rattle.idn_text.specs.declared.refusal.Refusal.{Refusal}
use Rattle.idn_text.specs.declared.refusal.Refusal.TheVariants.{Empty, NotNfc, Hyphen, LeadingMark, ContextJ, ContextO, Bidi, LabelTooLong}
use Rattle.idn_text.specs.declared.refusal.Refusal.TheVariants as refusals
use Rattle.idn_class.specs.declared.class.Class.{Class}
use Rattle.idn_class.specs.declared.class.Class.TheVariants.{Pvalid, Contextj, Contexto}
use Rattle.idn_class.specs.declared.class.Class.TheVariants as class
use Rattle.idn_class.specs.Class.{class_of}
use Rattle.idn_class.specs.Tests.{leading_mark, contextj_ok, contexto_ok, bidi_ok}
use Rattle.idn_class.proofs.ComputedLabels.{rules, in_table, map-class_of-in_table}
use Rattle.idn_label.specs.ALabel.{a_label_of}
use Rattle.idn_label.specs.Examples.{HaveALabels, HaveFirstFaults, HaveRegisterAnswers, HaveDecodeAnswers, HaveLookupAnswers, HaveLabelsNamed, HaveOldFaults, labels_named, old_faults, a_labels, first_faults, first_faults_of_two, register_answers, decode_answers, lookup_answers}
use Rattle.idn_label.specs.Answers.{Answer, and_then}
use Rattle.idn_label.specs.Decode.{decoded_label, decoded_labels, decode_answer, with_others}
use Rattle.idn_label.specs.Lookup.{query_name}
use Rattle.idn_label.specs.OldNames.{old_fault, stands_for}
use Rattle.idn_label.specs.Register.{decoded_code, u_label_answer, register_answer}
use Rattle.idn_label.proofs.AnswerLemmas.{u_label_answer-of, register_answer-prefixed}
use Rattle.idn_label.proofs.DecodeLemmas.{joined}
use Rattle.idn_label.specs.FirstFault.{first_of, fault_if, fault_of_class, code_point_fault, has_hyphen_out_of_place, is_too_long, first_fault}
use Rattle.idn_class.specs.declared.properties.Properties.TheVariants.{Profile}

-- the first fault of a label whose classes are known
abbrev told : List ℕ → List Class → Option Refusal
told label classes =
    first_of (
    fault_if (length label == 0) Empty
    ∷ first_of (map fault_of_class classes)
    ∷ fault_if (not (is_nfc label)) NotNfc
    ∷ fault_if (has_hyphen_out_of_place label) Hyphen
    ∷ fault_if (leading_mark label) LeadingMark
    ∷ fault_if (not (contextj_ok Profile label)) ContextJ
    ∷ fault_if (not (contexto_ok label)) ContextO
    ∷ fault_if (not (bidi_ok Profile label)) Bidi
    ∷ fault_if (is_too_long label) LabelTooLong
    ∷ []
    )

pub told_is : (label : List ℕ) (classes : List Class) (fault : Option Refusal) → map (class_of Profile) label ≡ classes → told label classes ≡ fault → first_fault Profile label ≡ fault
unfolding first_fault code_point_fault
told_is label classes fault known is = rw known is

pub HaveALabels-a_labels : HaveALabels a_labels
unfolding a_label_of idna
HaveALabels-a_labels =
    (refl, (refl, (refl, (refl, (refl, (refl, (refl, (refl, (refl, (refl, (refl, (refl, tt))))))))))))

pub HaveFirstFaults-first_faults : HaveFirstFaults first_faults
unfolding a_label_of idna rules in_table
HaveFirstFaults-first_faults =
    (told_is _ _ _ (map-class_of-in_table ([]) ([]) refl) refl, (told_is _ _ _ (map-class_of-in_table (0x66 ∷ 0x61 ∷ 0xDF ∷ []) (Pvalid ∷ Pvalid ∷ Pvalid ∷ []) refl) refl, (told_is _ _ _ (map-class_of-in_table (0x6C ∷ 0xB7 ∷ 0x6C ∷ []) (Pvalid ∷ Contexto ∷ Pvalid ∷ []) refl) refl, (told_is _ _ _ (map-class_of-in_table (0x61 ∷ 0xB7 ∷ 0x6C ∷ []) (Pvalid ∷ Contexto ∷ Pvalid ∷ []) refl) refl, (told_is _ _ _ (map-class_of-in_table (0x61 ∷ 0x200C ∷ 0x62 ∷ []) (Pvalid ∷ Contextj ∷ Pvalid ∷ []) refl) refl, (told_is _ _ _ (map-class_of-in_table (0x50000 ∷ []) (class.Unassigned ∷ []) refl) refl, (told_is _ _ _ (map-class_of-in_table (0x61 ∷ 0x301 ∷ []) (Pvalid ∷ Pvalid ∷ []) refl) refl, (told_is _ _ _ (map-class_of-in_table (codes "ab--c") (Pvalid ∷ Pvalid ∷ Pvalid ∷ Pvalid ∷ Pvalid ∷ []) refl) refl, (told_is _ _ _ (map-class_of-in_table (codes "a-") (Pvalid ∷ Pvalid ∷ []) refl) refl, (told_is _ _ _ (map-class_of-in_table (0x301 ∷ 0x61 ∷ []) (Pvalid ∷ Pvalid ∷ []) refl) refl, (told_is _ _ _ (map-class_of-in_table (0x61 ∷ 0x5D0 ∷ []) (Pvalid ∷ Pvalid ∷ []) refl) refl, (told_is _ _ _ (map-class_of-in_table (0x5D0 ∷ 0x61 ∷ []) (Pvalid ∷ Pvalid ∷ []) refl) refl, (told_is _ _ _ (map-class_of-in_table (codes "a.b") (Pvalid ∷ class.Disallowed ∷ Pvalid ∷ []) refl) refl, (told_is _ _ _ (map-class_of-in_table (codes "Fa") (class.Disallowed ∷ Pvalid ∷ []) refl) refl, (told_is _ _ _ (map-class_of-in_table (0x627 ∷ 0x660 ∷ 0x6F0 ∷ []) (Pvalid ∷ Contexto ∷ Contexto ∷ []) refl) refl, (told_is _ _ _ (map-class_of-in_table (replicate 63 0x61) (replicate 63 Pvalid) refl) refl, (told_is _ _ _ (map-class_of-in_table (replicate 64 0x61) (replicate 64 Pvalid) refl) refl, (told_is _ _ _ (map-class_of-in_table (replicate 55 0x61 ++ 0xDF ∷ []) (replicate 56 Pvalid) refl) refl, (told_is _ _ _ (map-class_of-in_table (replicate 56 0x61 ++ 0xDF ∷ []) (replicate 57 Pvalid) refl) refl, tt)))))))))))))))))))

pub HaveFirstFaults-first_faults_of_two : HaveFirstFaults first_faults_of_two
unfolding a_label_of idna rules in_table
HaveFirstFaults-first_faults_of_two =
    (told_is _ _ _ (map-class_of-in_table (0x41 ∷ 0x50000 ∷ []) (class.Disallowed ∷ class.Unassigned ∷ []) refl) refl, (told_is _ _ _ (map-class_of-in_table (0x50000 ∷ 0x41 ∷ []) (class.Unassigned ∷ class.Disallowed ∷ []) refl) refl, (told_is _ _ _ (map-class_of-in_table (0x61 ∷ 0x301 ∷ 0x2D ∷ []) (Pvalid ∷ Pvalid ∷ Pvalid ∷ []) refl) refl, (told_is _ _ _ (map-class_of-in_table (0x301 ∷ 0x2D ∷ []) (Pvalid ∷ Pvalid ∷ []) refl) refl, (told_is _ _ _ (map-class_of-in_table (0x301 ∷ 0x200D ∷ []) (Pvalid ∷ Contextj ∷ []) refl) refl, tt)))))

-- the prefix alone
no_code : u_label_answer Profile (codes "xn--") ≡ Err refusals.BadALabel
unfolding idna u_label_answer decoded_code
no_code = refl

-- the code of a label that needs none
needless_code : u_label_answer Profile (codes "xn--abc-") ≡ Err refusals.BadALabel
unfolding idna decoded_code a_label_of rules in_table
needless_code =
    let tested : first_fault Profile (codes "abc") ≡ None = told_is _ _ _ (map-class_of-in_table (codes "abc") (Pvalid ∷ Pvalid ∷ Pvalid ∷ []) refl) refl in
    u_label_answer-of Profile (codes "xn--abc-") (codes "abc") refl ∙ rw tested refl

-- the code of U+0080
disallowed_code : u_label_answer Profile (codes "xn--a") ≡ Err refusals.Disallowed
unfolding idna decoded_code a_label_of rules in_table
disallowed_code =
    let tested : first_fault Profile (0x80 ∷ []) ≡ Some refusals.Disallowed = told_is _ _ _ (map-class_of-in_table (0x80 ∷ []) (class.Disallowed ∷ []) refl) refl in
    u_label_answer-of Profile (codes "xn--a") (0x80 ∷ []) refl ∙ rw tested refl

sharp_s_tested : first_fault Profile (0x66 ∷ 0x61 ∷ 0xDF ∷ []) ≡ None
unfolding a_label_of idna rules in_table
sharp_s_tested = told_is _ _ _ (map-class_of-in_table (0x66 ∷ 0x61 ∷ 0xDF ∷ []) (Pvalid ∷ Pvalid ∷ Pvalid ∷ []) refl) refl

sharp_s : u_label_answer Profile (codes "xn--fa-hia") ≡ Ok (0x66 ∷ 0x61 ∷ 0xDF ∷ [])
unfolding idna decoded_code a_label_of
sharp_s = u_label_answer-of Profile (codes "xn--fa-hia") (0x66 ∷ 0x61 ∷ 0xDF ∷ []) refl ∙ rw sharp_s_tested refl

-- the same code in upper case is not the A-label
sharp_s_in_upper_case : u_label_answer Profile (codes "xn--fa-HIA") ≡ Err refusals.BadALabel
unfolding idna decoded_code a_label_of
sharp_s_in_upper_case = u_label_answer-of Profile (codes "xn--fa-HIA") (0x66 ∷ 0x61 ∷ 0xDF ∷ []) refl ∙ rw sharp_s_tested refl

china : u_label_answer Profile (codes "xn--fiqs8s") ≡ Ok (0x4E2D ∷ 0x56FD ∷ [])
unfolding idna decoded_code a_label_of rules in_table
china =
    let tested : first_fault Profile (0x4E2D ∷ 0x56FD ∷ []) ≡ None = told_is _ _ _ (map-class_of-in_table (0x4E2D ∷ 0x56FD ∷ []) (Pvalid ∷ Pvalid ∷ []) refl) refl in
    u_label_answer-of Profile (codes "xn--fiqs8s") (0x4E2D ∷ 0x56FD ∷ []) refl ∙ rw tested refl

registered_as : (label : List ℕ) (answer : Answer) → has_ace_prefix label ≡ true → u_label_answer Profile label ≡ answer → register_answer Profile label ≡ and_then answer (λ decoded. Ok label)
registered_as label answer coded is = register_answer-prefixed Profile label coded ∙ ap (λ first. and_then first (λ decoded. Ok label)) is

pub HaveRegisterAnswers-register_answers : HaveRegisterAnswers register_answers
unfolding idna
HaveRegisterAnswers-register_answers =
    (registered_as (codes "xn--") _ refl no_code, (registered_as (codes "xn--abc-") _ refl needless_code, (registered_as (codes "xn--a") _ refl disallowed_code, (registered_as (codes "xn--fa-hia") _ refl sharp_s, (registered_as (codes "xn--fa-HIA") _ refl sharp_s_in_upper_case, tt)))))

pub HaveDecodeAnswers-decode_answers : HaveDecodeAnswers decode_answers
unfolding decode_answer decoded_labels decoded_label idna
HaveDecodeAnswers-decode_answers = (
  refl,
  (
    ap (λ first. joined (with_others first (decoded_labels Profile (codes "de" ∷ [])))) sharp_s,
    (
      ap (λ first. joined (with_others first (decoded_labels Profile (codes "example" ∷ [])))) china,
      (ap (λ second. joined (with_others (Ok (codes "a")) (with_others second (decoded_labels Profile (codes "xn--" ∷ []))))) disallowed_code, tt),
    ),
  ),
)

pub HaveLookupAnswers-lookup_answers : HaveLookupAnswers lookup_answers
unfolding idna query_name
HaveLookupAnswers-lookup_answers = (refl, (refl, (refl, (refl, (refl, (refl, (refl, (refl, tt))))))))

pub HaveLabelsNamed-labels_named : HaveLabelsNamed labels_named
unfolding stands_for has_ace_prefix a_label_of idna
HaveLabelsNamed-labels_named = (refl, (refl, (refl, (refl, tt))))

pub HaveOldFaults-old_faults : HaveOldFaults old_faults
unfolding old_fault stands_for has_ace_prefix a_label_of idna
HaveOldFaults-old_faults = (refl, (refl, (refl, (refl, (refl, (refl, (refl, (refl, tt))))))))
