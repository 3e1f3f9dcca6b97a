-- Labels that a table admits, and others.
use Rattle.std.proofs.Common.{◌≡◌, ◌≢◌, ◌<◌, ◌≤◌, ◌⊎◌, inl, inr, ℕ, List, [], Bool, true, false, Ok, Err, length, refl, sym, ap, ◌∙◌, if◌then◌else◌, arith}
use Rattle.std.proofs.lemmas.Bool.{false_from_ne_true}
use Rattle.idn_text.specs.declared.refusal.Refusal.{Refusal}
use Rattle.idn_text.specs.declared.refusal.Refusal.TheVariants.{NotInTable, NotValid}
use Rattle.variant_table.specs.Entries.{TableValue}
use Rattle.variant_table.specs.WellFormed.{IsTable}
use Rattle.variant_table.specs.Segmentations.{IsMadeOfSources}
use Rattle.valid_labels.specs.Tests.{is_admitted, is_made_of_sources}
use Rattle.valid_labels.specs.Validity.{IsAdmitted, IsSound}
use Rattle.valid_labels.proofs.NothingLemmas.{admitted-valid}
use Rattle.valid_labels.proofs.SegmentationLemmas.{made-from_segmentation}
use Rattle.valid_labels.proofs.TestLemmas.{tests-agree}
use Rattle.idn2_answers.specs.Said.{Said}
use Rattle.idn2_answers.specs.Answers.{IsRefusedAs, LineAnswer, if_admitted}
use Rattle.variant_list.proofs.SegmentedLemmas.{empty_or_some}

pub some-length : (label : List ℕ) → label ≢ [] → 1 ≤ length label
some-length label some = by_cases (empty_or_some label)
  where
    by_cases : (label ≡ []) ⊎ (0 < length label) → 1 ≤ length label
    by_cases (inl e) = absurd (some e)
    by_cases (inr lt) = omega (arith, lt)

abbrev answer_by : Bool → Bool → List Said → LineAnswer
answer_by admitted made said = if admitted then Ok said else (if made then Err NotValid else Err NotInTable)

-- a table that was read has well-formed entries and definitions
pub sound_table : (table : TableValue) → IsTable table → IsSound table
sound_table table is = record { entries = is.well_formed; named = is.named; definitions = is.without_fault }

-- a label that is admitted is answered by this
pub admitted_answer : (table : TableValue) (label : List ℕ) (said : List Said) → IsSound table → IsAdmitted table label → if_admitted table label said ≡ Ok said
admitted_answer table label said sound is =
    ap (λ (b : Bool). answer_by b (is_made_of_sources table label) said) ((tests-agree.admitted table label sound).1 is)

-- any other is refused
pub refused_answer : (table : TableValue) (label : List ℕ) (refusal : Refusal) (said : List Said) → IsSound table → IsRefusedAs table label refusal → (IsAdmitted table label → IsMadeOfSources table label)
    → if_admitted table label said ≡ Err refusal
refused_answer table label refusal said sound is made = by_cases is
  where
    not_admitted : (IsAdmitted table label → ⊥) → is_admitted table label ≡ false
    not_admitted none = false_from_ne_true (is_admitted table label) (λ e. none ((tests-agree.admitted table label sound).0 e))

    by_cases : IsRefusedAs table label refusal → if_admitted table label said ≡ Err refusal
    by_cases (inl (none, e)) =
        ap (λ (b : Bool). answer_by b (is_made_of_sources table label) said) (not_admitted (λ a. none (made a)))
        ∙ ap (λ (b : Bool). answer_by false b said) (false_from_ne_true (is_made_of_sources table label) (λ t. none ((tests-agree.made_of_sources table label sound).0 t)))
        ∙ ap (λ (r : Refusal). let answer : LineAnswer = Err r in answer) (sym e)
    by_cases (inr (is_made, none, e)) =
        ap (λ (b : Bool). answer_by b (is_made_of_sources table label) said) (not_admitted none)
        ∙ ap (λ (b : Bool). answer_by false b said) ((tests-agree.made_of_sources table label sound).1 is_made)
        ∙ ap (λ (r : Refusal). let answer : LineAnswer = Err r in answer) (sym e)

-- what is admitted is made of sources
pub admitted-made : (table : TableValue) (label : List ℕ) → IsAdmitted table label → IsMadeOfSources table label
admitted-made table label is = made-from_segmentation table label (admitted-valid.segmented table label is)

-- a label is admitted, or refused as this
pub admitted_or_refused : (table : TableValue) (label : List ℕ) → IsSound table → IsAdmitted table label ⊎ ((refusal : Refusal) × IsRefusedAs table label refusal)
admitted_or_refused table label sound = by_admitted (is_admitted table label) refl
  where
    by_made : (b : Bool) → is_made_of_sources table label ≡ b → (IsAdmitted table label → ⊥) → (refusal : Refusal) × IsRefusedAs table label refusal
    by_made true e none = (NotValid, inr ((tests-agree.made_of_sources table label sound).0 e, none, refl))
    by_made false e none = (NotInTable, inl (λ made. (let clash : false ≡ true = sym e ∙ (tests-agree.made_of_sources table label sound).1 made in cc), refl))

    by_admitted : (b : Bool) → is_admitted table label ≡ b → IsAdmitted table label ⊎ ((refusal : Refusal) × IsRefusedAs table label refusal)
    by_admitted true e = inl ((tests-agree.admitted table label sound).0 e)
    by_admitted false e = inr (by_made (is_made_of_sources table label) refl (λ is. (let clash : false ≡ true = sym e ∙ (tests-agree.admitted table label sound).1 is in cc)))
