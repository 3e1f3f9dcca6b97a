-- What is told of the fault of what begins with "xn--" is its cause and nothing else, and each such fault has a cause.
use Rattle.std.proofs.Common.{◌≡◌, ◌≢◌, ℕ, ◌==◌, Bool, true, false, ◌||◌, not, ◌⊎◌, ◌↔◌, List, [], length, drop, cond, Option, None, Some, Ok, Err, slice_index, refl, sym, ap, subst, ◌∙◌, inl, inr, eqb-true, eq-eqb, bytes_eq}
use Rattle.std.specs.Prelude.{IsTrue}
use Rattle.std.specs.Char.{is_ascii}
use Rattle.std.specs.Cmp.Lexicographic.{bytes_decides}
use Rattle.std.specs.Option.{option_map, ok_or}
use Rattle.std.proofs.lemmas.Bool.{cases_Bool, false_from_ne_true}
use Rattle.std.proofs.lemmas.List.{nil_from_length}
use Rattle.std.proofs.lemmas.List.Elements.{All-from_get_or}
use Rattle.std.proofs.lemmas.List.Sums.{list_all-from_AllPass, AllPass-from_list_all}
use Rattle.idna.specs.Punycode.{decode}
use Rattle.idna.specs.Validity.{is_all_ascii}
use Rattle.idn_text.specs.declared.refusal.Refusal.{Refusal}
use Rattle.idn_text.specs.declared.refusal.Refusal.TheVariants as refusals
use Rattle.idn_class.specs.Causes.{IsFirstFailing}
use Rattle.idn_class.proofs.CauseLemmas.{failing_in-is, no_first_place}
use Rattle.idn_label.specs.ALabel.{a_label_of}
use Rattle.idn_label.specs.Answers.{Answer, unless_fault, and_then}
use Rattle.idn_label.specs.FirstFault.{first_fault}
use Rattle.idn_label.specs.Register.{decoded_code, u_label_answer, confirmed}
use Rattle.idn_label.proofs.AnswerLemmas.{u_label_answer-of}
use Rattle.idn_cause.specs.declared.cause.Cause.{Cause}
use Rattle.idn_cause.specs.declared.a_label.ALabelCause.{ALabelCause}
use Rattle.idn_cause.specs.declared.a_label.ALabelCause.TheVariants.{NoCode, Other, Decoded}
use Rattle.idn_cause.specs.Causes.{cause_of, IsCause}
use Rattle.idn_cause.specs.ALabelCauses.{past_ascii_or, past_ascii, code_fault, other_a_label, undecoded_cause, decoded_cause, cause_by_code, a_label_cause, IsCodeFault, IsDecodedCause, IsALabelCause}
use Rattle.idn_cause.proofs.CauseLaws.{cause-is, fault-has_cause}
use Rattle.idn_label.proofs.RequirementLemmas.{not_empty}
use Rattle.idn_class.specs.declared.properties.Properties.{Properties}

-- ---- why a code stands for no label

abbrev IsAsciiAt : List ℕ → ℕ → Type 0
IsAsciiAt code k = IsTrue (is_ascii (slice_index code k))

past_ascii-is : (code : List ℕ) (place : ℕ) → (past_ascii code ≡ Some place) ↔ IsFirstFailing code (IsAsciiAt code) place
past_ascii-is code place = failing_in-is code (λ k. is_ascii (slice_index code k)) (IsAsciiAt code) (λ k low. (λ h. h, λ h. h)) place

ascii-from : (code : List ℕ) → past_ascii code ≡ None → is_all_ascii code ≡ true
ascii-from code none =
    list_all-from_AllPass is_ascii code
    (All-from_get_or (λ c. is_ascii c ≡ true) code 0 (no_first_place code (λ k. is_ascii (slice_index code k)) (IsAsciiAt code) (λ k low. (λ h. h, λ h. h)) none))

ascii-none : (code : List ℕ) (place : ℕ) → is_all_ascii code ≡ true → IsFirstFailing code (IsAsciiAt code) place → ⊥
ascii-none code place ascii first = first.fails (AllPass-from_list_all is_ascii code ascii place 0 first.within)

-- a code that is ASCII and stands for nothing is no Punycode
undecodable : (code : List ℕ) (refusal : Refusal) → (length code == 0) ≡ false → is_all_ascii code ≡ true → decoded_code code ≡ Err refusal → decode code ≡ None
unfolding decoded_code
undecodable code refusal some ascii none = by_decoded (decode code) (sym (rw (some, ascii) refl) ∙ none)
  where
    by_decoded : (decoded : Option (List ℕ)) → ok_or decoded refusals.BadALabel ≡ Err refusal → decoded ≡ None
    by_decoded None e = refl
    by_decoded (Some label) e = cc

some_code : (code : List ℕ) → (length code == 0) ≡ false → code ≢ []
some_code code some is = let clash : true ≡ false = sym (eq-eqb (length code) 0 (ap length is)) ∙ some in cc

code_fault-none : (code : List ℕ) → (length code == 0) ≡ true → code_fault code ≡ NoCode
code_fault-none code none = ap (λ b. cond b NoCode (past_ascii_or code (past_ascii code))) none

code_fault-some : (code : List ℕ) (told : Option ℕ) → (length code == 0) ≡ false → past_ascii code ≡ told → code_fault code ≡ past_ascii_or code told
code_fault-some code told some is = ap (λ b. cond b NoCode (past_ascii_or code (past_ascii code))) some ∙ ap (past_ascii_or code) is

code_fault-is : (code : List ℕ) (refusal : Refusal) → decoded_code code ≡ Err refusal → IsCodeFault code (code_fault code)
code_fault-is code refusal none = by_length (cases_Bool (length code == 0))
  where
    by_place : (told : Option ℕ) → past_ascii code ≡ told → (length code == 0) ≡ false → IsCodeFault code (code_fault code)
    by_place (Some place) is some = inr (inl (some_code code some, (place, (past_ascii-is code place).0 is, code_fault-some code (Some place) some is)))
    by_place None is some =
        let ascii = ascii-from code is in
        inr (inr (some_code code some, ascii, undecodable code refusal some ascii none, code_fault-some code None some is))

    by_length : ((length code == 0) ≡ true) ⊎ ((length code == 0) ≡ false) → IsCodeFault code (code_fault code)
    by_length (inl empty) = inl (nil_from_length code (eqb-true (length code) 0 empty), code_fault-none code empty)
    by_length (inr some) = by_place (past_ascii code) refl some

code_fault-only : (code : List ℕ) (cause : ALabelCause) → IsCodeFault code cause → code_fault code ≡ cause
code_fault-only code cause (inl empty) = code_fault-none code (eq-eqb (length code) 0 (ap length empty.0)) ∙ sym empty.1
code_fault-only code cause (inr (inl past)) =
    code_fault-some code (Some past.1.0) (not_empty code past.0) ((past_ascii-is code past.1.0).1 past.1.1) ∙ sym past.1.2
code_fault-only code cause (inr (inr other)) = by_place (past_ascii code) refl
  where
    by_place : (told : Option ℕ) → past_ascii code ≡ told → code_fault code ≡ cause
    by_place (Some place) is = absurd (ascii-none code place other.1 ((past_ascii-is code place).0 is))
    by_place None is = code_fault-some code None (not_empty code other.0) is ∙ sym other.3

-- such a code stands for no label
code_fault-undecoded : (code label : List ℕ) (cause : ALabelCause) → IsCodeFault code cause → decoded_code code ≡ Ok label → ⊥
unfolding decoded_code
code_fault-undecoded code label cause fault is = by_fault fault
  where
    by_tests : (empty ascii : Bool) → (length code == 0) ≡ empty → is_all_ascii code ≡ ascii → cond (empty || not ascii) (Err refusals.BadALabel) (ok_or (decode code) refusals.BadALabel) ≡ Ok label
    by_tests empty ascii e a = sym (rw (e, a) refl) ∙ is

    by_fault : IsCodeFault code cause → ⊥
    by_fault (inl empty) = let clash : Err refusals.BadALabel ≡ Ok label = by_tests true (is_all_ascii code) (eq-eqb (length code) 0 (ap length empty.0)) refl in cc
    by_fault (inr (inl past)) =
        let other : is_all_ascii code ≡ false = false_from_ne_true (is_all_ascii code) (λ h. ascii-none code past.1.0 h past.1.1) in
        let clash : Err refusals.BadALabel ≡ Ok label = by_tests false false (not_empty code past.0) other in cc
    by_fault (inr (inr other)) =
        let kept : ok_or (decode code) refusals.BadALabel ≡ Ok label = by_tests false true (not_empty code other.0) other.1 in
        let clash : Err refusals.BadALabel ≡ Ok label = sym (ap (λ decoded. ok_or decoded refusals.BadALabel) other.2) ∙ kept in cc

-- ---- another A-label

same_label : (a b : List ℕ) (answer : Answer) → answer ≡ Ok a → answer ≡ Ok b → a ≡ b
same_label a b answer first second = let both : Ok a ≡ Ok b = sym first ∙ second in cc

other-told : (given label : List ℕ) (fault : Option Refusal) (cause : ALabelCause) → other_a_label given label fault ≡ Some cause → (fault ≡ None) × (a_label_of label ≢ given) × (cause ≡ Other (record { items = a_label_of label }))
other-told given label (Some refusal) cause h = let clash : None ≡ Some cause = h in cc
other-told given label None cause h = by_test (bytes_eq (a_label_of label) given) refl h
  where
    by_test : (same : Bool) → bytes_eq (a_label_of label) given ≡ same → cond same None (Some (Other (record { items = a_label_of label }))) ≡ Some cause → (let none : Option Refusal = None in none ≡ None) × (a_label_of label ≢ given) × (cause ≡ Other (record { items = a_label_of label }))
    by_test true e told = let clash : None ≡ Some cause = told in cc
    by_test false e told =
        let is : Other (record { items = a_label_of label }) ≡ cause = cc in
        (refl, λ same. let clash : true ≡ false = sym ((bytes_decides _ _).1 same) ∙ e in cc, sym is)

module _ (properties : Properties) where
  other-from : (given label : List ℕ) → first_fault properties label ≡ None → a_label_of label ≢ given → other_a_label given label (first_fault properties label) ≡ Some (Other (record { items = a_label_of label }))
  other-from given label none other =
      ap (other_a_label given label) none
      ∙ ap (λ b. cond b None (Some (Other (record { items = a_label_of label })))) (false_from_ne_true (bytes_eq (a_label_of label) given) (λ h. other ((bytes_decides _ _).0 h)))

-- ---- a fault of what the code stands for

mapped : (told : Option Cause) (cause : ALabelCause) → option_map Decoded told ≡ Some cause → (of_label : Cause) × (told ≡ Some of_label) × (cause ≡ Decoded of_label)
mapped None cause h = let clash : None ≡ Some cause = h in cc
mapped (Some of_label) cause h = let same : Decoded of_label ≡ cause = cc in (of_label, refl, sym same)

module _ (properties : Properties) where
  decoded-is : (given label : List ℕ) (refusal : Refusal) (cause : ALabelCause) → decoded_code (drop 4 given) ≡ Ok label → (option_map Decoded (cause_of properties label refusal) ≡ Some cause) ↔ IsDecodedCause properties given refusal cause
  decoded-is given label refusal cause code = (
    λ h. let found = mapped (cause_of properties label refusal) cause h in (label, found.0, code, (cause-is properties label refusal found.0).0 found.1, found.2),
    λ is.
        let same = same_label is.0 label (decoded_code (drop 4 given)) is.2 code in
        let of_label = subst (λ l. IsCause properties l refusal is.1) same is.3 in
        ap (option_map Decoded) ((cause-is properties label refusal is.1).1 of_label) ∙ ap Some (sym is.4),
  )

  undecoded-is : (given : List ℕ) (refusal none : Refusal) (cause : ALabelCause) → decoded_code (drop 4 given) ≡ Err none → (None ≡ Some cause) ↔ IsDecodedCause properties given refusal cause
  undecoded-is given refusal none cause code = (
    λ h. let clash : None ≡ Some cause = h in cc,
    λ is. let clash : Err none ≡ Ok is.0 = sym code ∙ is.2 in cc,
  )

  -- ---- what is told is the cause, and nothing else is

  bad-is : (given : List ℕ) (cause : ALabelCause) (answer : Answer) → decoded_code (drop 4 given) ≡ answer → (cause_by_code properties given refusals.BadALabel answer ≡ Some cause) ↔ IsALabelCause properties given refusals.BadALabel cause
  bad-is given cause (Ok label) code = (
    λ h. let told = other-told given label (first_fault properties label) cause h in inr (label, code, told.0, told.1, told.2),
    λ is. elim is [
      | inl fault ↦ absurd (code_fault-undecoded (drop 4 given) label cause fault code)
      | inr other ↦
          let same = same_label other.0 label (decoded_code (drop 4 given)) other.1 code in
          let none : first_fault properties label ≡ None = sym (ap (first_fault properties) same) ∙ other.2 in
          let apart : a_label_of label ≢ given = λ e. other.3 (ap a_label_of same ∙ e) in
          other-from properties given label none apart ∙ ap (λ l. Some (Other (record { items = a_label_of l }))) (sym same) ∙ ap Some (sym other.4)
    ],
  )
  bad-is given cause (Err none) code = (
    λ h. let same : code_fault (drop 4 given) ≡ cause = cc in inl (subst (IsCodeFault (drop 4 given)) same (code_fault-is (drop 4 given) none code)),
    λ is. elim is [
      | inl fault ↦ ap Some (code_fault-only (drop 4 given) cause fault)
      | inr other ↦ let clash : Err none ≡ Ok other.0 = sym code ∙ other.1 in cc
    ],
  )

  by_answer : (given : List ℕ) (refusal : Refusal) (cause : ALabelCause) (answer : Answer) → decoded_code (drop 4 given) ≡ answer → (cause_by_code properties given refusal answer ≡ Some cause) ↔ IsALabelCause properties given refusal cause
  by_answer given refusals.BadALabel cause answer code = bad-is given cause answer code
  by_answer given refusal cause (Ok label) code = decoded-is given label refusal cause code
  by_answer given refusal cause (Err none) code = undecoded-is given refusal none cause code

  pub a_label_cause-is : (given : List ℕ) (refusal : Refusal) (cause : ALabelCause) → (a_label_cause properties given refusal ≡ Some cause) ↔ IsALabelCause properties given refusal cause
  unfolding a_label_cause
  a_label_cause-is given refusal cause = by_answer given refusal cause (decoded_code (drop 4 given)) refl

-- ---- each fault has its cause

unmapped : (told : Option Cause) → option_map Decoded told ≡ None → told ≡ None
unmapped None h = refl
unmapped (Some of_label) h = let clash : Some (Decoded of_label) ≡ None = h in cc

module _ (properties : Properties) where
  -- a first fault of what the code stands for
  decoded-told : (given label : List ℕ) (refusal : Refusal) → (cause_of properties label refusal ≡ None → ⊥) → decoded_cause properties given label refusal ≡ None → ⊥
  unfolding cause_of
  decoded-told given label refusals.BadALabel some none = some refl
  decoded-told given label refusal some none = some (unmapped (cause_of properties label refusal) none)

fault_of : (fault : Option Refusal) (same : Bool) (label : List ℕ) (refusal : Refusal) → unless_fault fault (cond same (Ok label) (Err refusals.BadALabel)) ≡ Err refusal → (fault ≡ Some refusal) ⊎ ((fault ≡ None) × (same ≡ false) × (refusal ≡ refusals.BadALabel))
fault_of (Some first) same label refusal h = let is : first ≡ refusal = cc in inl (ap Some is)
fault_of None true label refusal h = let clash : Ok label ≡ Err refusal = h in cc
fault_of None false label refusal h = let is : refusals.BadALabel ≡ refusal = cc in inr (refl, refl, sym is)

code_refusal : (code : List ℕ) (refusal : Refusal) → decoded_code code ≡ Err refusal → refusal ≡ refusals.BadALabel
unfolding decoded_code
code_refusal code refusal is = by_test (length code == 0 || not (is_all_ascii code)) (decode code) is
  where
    by_test : (bad : Bool) (decoded : Option (List ℕ)) → cond bad (Err refusals.BadALabel) (ok_or decoded refusals.BadALabel) ≡ Err refusal → refusal ≡ refusals.BadALabel
    by_test true decoded e = let same : refusals.BadALabel ≡ refusal = cc in sym same
    by_test false None e = let same : refusals.BadALabel ≡ refusal = cc in sym same
    by_test false (Some label) e = let clash : Ok label ≡ Err refusal = e in cc

module _ (properties : Properties) where
  refused_by_code : (given : List ℕ) (refusal refused : Refusal) → u_label_answer properties given ≡ Err refusal → decoded_code (drop 4 given) ≡ Err refused → refusal ≡ refused
  unfolding u_label_answer
  refused_by_code given refusal refused told code =
      let both : Err refusal ≡ Err refused = sym told ∙ ap (λ a. and_then a (confirmed properties given)) code in cc

  pub a_label_fault-has_cause : (given : List ℕ) (refusal : Refusal) → u_label_answer properties given ≡ Err refusal → (refusal ≡ refusals.Empty → ⊥) → a_label_cause properties given refusal ≡ None → ⊥
  unfolding a_label_cause
  a_label_fault-has_cause given refusal told some none = by_code (decoded_code (drop 4 given)) refl none
    where
      by_decoded : (label : List ℕ) → decoded_code (drop 4 given) ≡ Ok label → decoded_cause properties given label refusal ≡ None → ⊥
      by_decoded label code none =
          elim (fault_of (first_fault properties label) (bytes_eq (a_label_of label) given) label refusal (sym (u_label_answer-of properties given label code) ∙ told)) [
            | inl fault ↦ decoded-told properties given label refusal (fault-has_cause properties label refusal fault some) none
            | inr other ↦
                let apart : a_label_of label ≢ given = λ e. let clash : true ≡ false = sym ((bytes_decides _ _).1 e) ∙ other.1 in cc in
                let clash : Some (Other (record { items = a_label_of label })) ≡ None = sym (other-from properties given label other.0 apart) ∙ sym (ap (decoded_cause properties given label) other.2) ∙ none in cc
          ]

      by_code : (answer : Answer) → decoded_code (drop 4 given) ≡ answer → cause_by_code properties given refusal answer ≡ None → ⊥
      by_code (Ok label) code none = by_decoded label code none
      by_code (Err refused) code none =
          let is : refusal ≡ refused = refused_by_code given refusal refused told code in
          let bad : refusal ≡ refusals.BadALabel = is ∙ code_refusal (drop 4 given) refused code in
          let clash : Some (code_fault (drop 4 given)) ≡ None = sym (ap (undecoded_cause (drop 4 given)) bad) ∙ none in cc
