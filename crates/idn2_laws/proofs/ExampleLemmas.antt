-- The examples, computed.
use Rattle.std.proofs.Common.{◌≡◌, ℕ, ◌==◌, ◌&&◌, not, Bool, true, false, List, [], ◌∷◌, filter, nat_lt, codes, length, Some, None, Result, Ok, Err, refl, ap, map, ◌∙◌, if◌then◌else◌}
use Rattle.std.specs.Fmt.{digits}
use Rattle.std.specs.List.{AllByRecursion, list_all}
use Rattle.std.specs.Option.{is_none}
use Rattle.std.specs.Ordering.{is_gt}
use Rattle.idn_class.specs.declared.properties.Properties.{Properties}
use Rattle.idn_class.specs.declared.properties.Properties.TheVariants.{Profile}
use Rattle.idna.proofs.Computing.{idna}
use Rattle.idna.specs.Validity.{has_ace_prefix}
use Rattle.idn_text.specs.declared.refusal.Refusal.{Refusal}
use Rattle.idn_text.specs.declared.refusal.Refusal.TheVariants.{Empty, Hyphen, LabelTooLong}
use Rattle.idn_class.specs.DeadPrefixes.{hopeless}
use Rattle.idn_class.proofs.ComputedLabels.{rules}
use Rattle.idn_label.specs.ALabel.{a_label_of}
use Rattle.idn_label.specs.FirstFault.{first_of, fault_if, has_hyphen_out_of_place, first_fault}
use Rattle.idn_label.specs.Register.{register_answer}
use Rattle.idn_label.specs.Steps.{is_ldh_point}
use Rattle.idn_label.proofs.AnswerLemmas.{register_answer-other, tested_answer-ok, tested_answer-fault}
use Rattle.idn_label.proofs.LdhLemmas.{first_fault-ldh}
use Rattle.variant_dispositions.specs.Kinds.{kinds_in}
use Rattle.variant_table.specs.Entries.{TableValue}
use Rattle.variant_list.specs.Labels.{label_cmp}
use Rattle.variant_list.specs.Spelled.{spelled}
use Rattle.variant_list.specs.Variants.{variants, in_order}
use Rattle.variant_list.specs.Examples.{a_or_two, letter_or_hyphen}
use Rattle.idn2_options.specs.Settings.{Settings}
use Rattle.valid_labels.specs.Tests.{asks_nothing}
use Rattle.idn2_answers.specs.Dispositions.{is_left_out}
use Rattle.idn2_answers.specs.Listings.{Filter, block, block_to, field_of, filter_if, registrable_labels, stop_of, variants_after, is_registrable, lesser_label, nth, nth_if_given, tested_after, variant_by, visited_in, without_left_out}
use Rattle.idn2_answers.specs.Answers.{one_answer, u_label_of}
use Rattle.idn2_options.specs.declared.command_line.form.Form.TheVariants.{Plain}
use Rattle.idn2_answers.specs.Said.{Said, Registered, said_line}
use Rattle.std.specs.Char.{encode_utf8}
use Rattle.std.specs.Str.{is_utf8, chars}
use Rattle.idn_text.specs.Lines.{lines_of}
use Rattle.idn2_refusals.specs.Explained.{Unexplained, points_cause}
use Rattle.idn2_output.specs.OutputLines.{Output, Message}
use Rattle.idn2_answers.specs.Transcript.{lines_output, has_refused, status_if}
use Rattle.idn2_output.specs.declared.status.Status.TheVariants.{Refused}
use Rattle.idn2_laws.specs.Examples.{ExamplesOfBlocks, ExamplesOfTranscripts, listing, three_lines, y_or_z, one_or_both}

-- ---- labels of lower-case letters, digits and hyphens

abbrev AllLdh : List (List ℕ) → Type 0
AllLdh = AllByRecursion (λ v. list_all is_ldh_point v ≡ true)

-- whether such a label may be registered
abbrev passes : List ℕ → Bool
passes label = is_none (first_of (fault_if (length label == 0) Empty ∷ None ∷ fault_if (has_hyphen_out_of_place label) Hyphen ∷ fault_if (nat_lt 63 (length label)) LabelTooLong ∷ []))

registrable-passes : (label : List ℕ) → list_all is_ldh_point label ≡ true → is_registrable Profile label ≡ passes label
registrable-passes label ldh = ap is_none (first_fault-ldh Profile label ldh)

-- and is kept by this test
filter-passes : (kept : List ℕ → Bool) (after : List ℕ) (vs : List (List ℕ)) → AllLdh vs
    → filter (λ v. (is_registrable Profile v && kept v) && is_gt (label_cmp v after)) vs ≡ filter (λ v. (passes v && kept v) && is_gt (label_cmp v after)) vs
filter-passes kept after [] ldh = refl
filter-passes kept after (v ∷ vs) ldh =
    ap (λ (b : Bool). if (b && kept v) && is_gt (label_cmp v after) then v ∷ filter (λ v. (is_registrable Profile v && kept v) && is_gt (label_cmp v after)) vs else filter (λ v. (is_registrable Profile v && kept v) && is_gt (label_cmp v after)) vs) (registrable-passes v ldh.0)
    ∙ ap (λ (rest : List (List ℕ)). if (passes v && kept v) && is_gt (label_cmp v after) then v ∷ rest else rest) (filter-passes kept after vs ldh.1)

-- the block of a label by what is asked of labels
abbrev pub block_with : Filter → Settings → TableValue → List ℕ → List Said
block_with f o table label = block_to (variant_by (field_of o table label)) (stop_of f o (spelled table label)) (variants_after f o (spelled table label))

-- that of a label that spells such labels alone
abbrev ldh_block : Settings → TableValue → List ℕ → List Said
ldh_block o table label =
    let vs = variants (λ v. passes v && not (is_left_out table label v)) table label o.after in
    let f : Filter = without_left_out table label (registrable_labels Profile) in
    block_to (variant_by (field_of o table label)) (lesser_label (nth_if_given vs o.limit) (lesser_label (nth (tested_after f o (spelled table label)) o.tries) (nth_if_given (visited_in f o (spelled table label)) o.steps))) vs

-- under a table that asks nothing of its labels
block-ldh : (o : Settings) (table : TableValue) (label : List ℕ) → o.properties ≡ Profile → asks_nothing table ≡ true → AllLdh (in_order (spelled table label)) → block o table label ≡ ldh_block o table label
block-ldh o table label profile nothing ldh =
    let f : Filter = without_left_out table label (registrable_labels Profile) in
    ap (λ (p : Properties). block_with (without_left_out table label (filter_if p (asks_nothing table) table)) o table label) profile
    ∙ ap (λ (b : Bool). block_with (without_left_out table label (filter_if Profile b table)) o table label) nothing
    ∙ ap (λ (vs : List (List ℕ)). block_to (variant_by (field_of o table label)) (lesser_label (nth_if_given vs o.limit) (lesser_label (nth (tested_after f o (spelled table label)) o.tries) (nth_if_given (visited_in f o (spelled table label)) o.steps))) vs)
    (filter-passes (λ v. not (is_left_out table label v)) o.after (in_order (spelled table label)) ldh)

pub blocks : ExamplesOfBlocks
unfolding digits a_label_of idna hopeless rules kinds_in
blocks = record {
  doubled = ap (map said_line) (block-ldh (listing None 1000000) a_or_two (codes "aa") refl refl (refl, (refl, (refl, tt)))) ∙ refl;
  limited = ap (map said_line) (block-ldh (listing (Some 2) 1000000) a_or_two (codes "aa") refl refl (refl, (refl, (refl, tt)))) ∙ refl;
  spent = ap (map said_line) (block-ldh (listing None 4) letter_or_hyphen (codes "aaa") refl refl (refl, (refl, (refl, (refl, (refl, (refl, (refl, (refl, tt))))))))) ∙ refl;
  stepped = ap (map said_line) (block-ldh (record (listing None 1000000) { steps = Some 3 }) letter_or_hyphen (codes "aaa") refl refl (refl, (refl, (refl, (refl, (refl, (refl, (refl, (refl, tt))))))))) ∙ refl;
  y_blocked = ap (map said_line) (block-ldh (listing None 1000000) y_or_z (codes "ax") refl refl (refl, (refl, (refl, tt)))) ∙ refl;
  allocatable_by_one_cutting = ap (map said_line) (block-ldh (listing None 1000000) one_or_both (codes "aa") refl refl (refl, (refl, (refl, (refl, tt))))) ∙ refl;
}

-- ---- a run

good : (label : List ℕ) → has_ace_prefix label ≡ false → first_fault Profile label ≡ None → register_answer Profile label ≡ Ok (a_label_of label)
good label ldh none = register_answer-other Profile label ldh ∙ tested_answer-ok Profile label none

refused : (label : List ℕ) (refusal : Refusal) → has_ace_prefix label ≡ false → first_fault Profile label ≡ Some refusal → register_answer Profile label ≡ Err refusal
refused label refusal ldh fault = register_answer-other Profile label ldh ∙ tested_answer-fault Profile label refusal fault

-- a good label, one with a hyphen at its end, and a good one
Answered : (List ℕ → Result (List ℕ) Refusal) → Type 0
Answered r = (r (codes "abc") ≡ Ok (codes "abc")) × (r (codes "a-") ≡ Err Hyphen) × (r (codes "b") ≡ Ok (codes "b"))

answered : Answered (register_answer Profile)
unfolding Answered a_label_of idna
answered = (
  good (codes "abc") refl (first_fault-ldh Profile (codes "abc") refl),
  refused (codes "a-") Hyphen refl (first_fault-ldh Profile (codes "a-") refl),
  good (codes "b") refl (first_fault-ldh Profile (codes "b") refl),
)

written : (r : List ℕ → Result (List ℕ) Refusal) → Answered r
    → lines_output Plain Unexplained (λ label. one_answer (Registered (u_label_of Profile label)) (r label)) (lines_of three_lines) ≡ Output (codes "abc\n") ∷ Message (codes "idn2: line 2: 13 hyphen out of place\n") ∷ Output (codes "b\n") ∷ []
unfolding Answered is_utf8 chars encode_utf8 digits points_cause
written r are = rw are.0 (rw are.1 (rw are.2 refl))

status : (r : List ℕ → Result (List ℕ) Refusal) → Answered r → status_if (has_refused (λ label. one_answer (Registered (u_label_of Profile label)) (r label)) (lines_of three_lines)) ≡ Refused
unfolding Answered is_utf8 chars encode_utf8
status r are = rw are.0 (rw are.1 refl)

pub transcripts : ExamplesOfTranscripts
transcripts = record { between = written (register_answer Profile) answered; status = status (register_answer Profile) answered }
