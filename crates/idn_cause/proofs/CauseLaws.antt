-- What is told of a fault is its cause and nothing else, and each fault of a label but for two has a cause.
use Rattle.std.proofs.Common.{◌≡◌, ℕ, zero, suc, ◌+◌, ◌-◌, ◌<◌, Bool, true, false, ◌&&◌, ◌||◌, ◌==◌, not, nat_lt, ◌⊎◌, ◌↔◌, List, [], ◌∷◌, length, Option, None, Some, slice_index, slice_get, refl, sym, ap, subst, ◌∙◌, inl, inr, arith, cond, take, ◌≤◌}
use Rattle.std.specs.Option.{is_none}
use Rattle.std.proofs.lemmas.Bool.{eq-eqb, eqb-true, not-true, not_from_false, false_from_ne_true, or_cases, and_parts}
use Rattle.std.proofs.lemmas.Bool.Decides.{nat_tests}
use Rattle.unicode_normalization.specs.Forms.{Nfc, nfc, is_nfc}
use Rattle.idn_text.specs.declared.refusal.Refusal.{Refusal}
use Rattle.idn_text.specs.declared.refusal.Refusal.TheVariants as refusals
use Rattle.idn_class.specs.declared.broken.Broken.{Broken}
use Rattle.idn_class.specs.declared.class.Class.{Class}
use Rattle.idn_class.specs.declared.class.Class.TheVariants as classes
use Rattle.idn_class.specs.Class.{class_of}
use Rattle.idn_class.specs.ContextJ.{JoinerPasses}
use Rattle.idn_class.specs.ContextO.{OtherPasses}
use Rattle.idn_class.specs.LeadingMark.{BeginsWithMark, is_mark}
use Rattle.idn_class.specs.Tests.{leading_mark, contextj_ok, contexto_ok, bidi_ok, joiner_at, other_at}
use Rattle.idn_class.specs.declared.barring.BarringLine.{BarringLine}
use Rattle.idn_class.specs.Barring.{is_barred, barring_line}
use Rattle.idn_class.specs.BidiClass.{bidi_class}
use Rattle.idn_class.proofs.BarringLemmas.{barring_line-is, barring_line-none}
use Rattle.idn_class.specs.Causes.{IsFirstFailing, misplaced_joiner, misplaced_other, broken_condition}
use Rattle.idn_class.proofs.BidiTests.{bidi_ok-PassesBidiRule}
use Rattle.idn_class.proofs.BrokenLemmas.{broken_condition-is, broken_condition-none}
use Rattle.idn_class.proofs.CauseLemmas.{failing_in-is, no_first_place, first_failing-no}
use Rattle.idn_class.proofs.ContextJTests.{joiner_at-rule}
use Rattle.idn_class.proofs.ContextOTests.{other_at-rule}
use Rattle.idn_cause.specs.declared.cause.Cause.{Cause}
use Rattle.idn_cause.specs.declared.cause.Cause.TheVariants.{Barred, Changed, Hyphen, Point, Condition, Points, Octets}
use Rattle.idn_label.specs.ALabel.{a_label_of}
use Rattle.idn_cause.specs.Causes.{shared, changed_place, changed_at, DifferFirstAt, barred_place, barred_by, barred_at, is_hyphen_out_of_place, misplaced_hyphen, hyphen_at, leading_place, point_at, condition_at, length_at, cause_of, IsFirstPoint, IsFirstBarred, IsPermitted, IsBarredToHyphens, HasNoHyphenOutOfPlace, IsCause}
use Rattle.idn_label.specs.FirstFault.{first_of, fault_if, fault_of_class, code_point_fault, has_hyphen_out_of_place, is_too_long, first_fault}
use Rattle.idn_cause.proofs.CausePlaces.{barred-both}
use Rattle.unicode_normalization.proofs.FormsLemmas.{is_in_form-true, is_in_form_from}
use Rattle.idn_class.specs.Shared.{IsLongestShared}
use Rattle.idn_label.proofs.FaultLemmas.{code_point_fault-cons}
use Rattle.idn_class.specs.declared.properties.Properties.{Properties}

-- ---- a cause by a place

point_told : (label : List ℕ) (told : Option ℕ) (cause : Cause) → point_at label told ≡ Some cause → (place : ℕ) × (told ≡ Some place) × (cause ≡ Point place (slice_index label place))
point_told label None cause h = let clash : None ≡ Some cause = h in cc
point_told label (Some place) cause h = let same : Point place (slice_index label place) ≡ cause = cc in (place, refl, sym same)

point-is : (label : List ℕ) (told : Option ℕ) (Passes : ℕ → Type 0) → ((place : ℕ) → (told ≡ Some place) ↔ IsFirstFailing label Passes place) → (cause : Cause) → (point_at label told ≡ Some cause) ↔ IsFirstPoint label Passes cause
point-is label told Passes agree cause = (
  λ h. let found = point_told label told cause h in (found.0, found.2, (agree found.0).0 found.1),
  λ first. ap (point_at label) ((agree first.0).1 first.2) ∙ ap Some (sym first.1),
)

-- ---- code points by their class

none_is : (fault : Option Refusal) → (is_none fault ≡ true) ↔ (fault ≡ None)
none_is None = (λ h. refl, λ h. refl)
none_is (Some refusal) = (λ h. cc, λ h. cc)

module _ (properties : Properties) where
  barred-is : (label : List ℕ) (place : ℕ) → (barred_place properties label ≡ Some place) ↔ IsFirstFailing label (IsPermitted properties label) place
  barred-is label place =
      failing_in-is label (λ k. is_none (fault_of_class (class_of properties (slice_index label k)))) (IsPermitted properties label) (λ k low. none_is (fault_of_class (class_of properties (slice_index label k)))) place

line_told : (label : List ℕ) (place : ℕ) (told : Option BarringLine) (cause : Cause) → barred_by label place told ≡ Some cause → (line : BarringLine) × (told ≡ Some line) × (cause ≡ Barred place (slice_index label place) line)
line_told label place None cause h = let clash : None ≡ Some cause = h in cc
line_told label place (Some line) cause h = let same : Barred place (slice_index label place) line ≡ cause = cc in (line, refl, sym same)

module _ (properties : Properties) where
  barred_told : (label : List ℕ) (told : Option ℕ) (cause : Cause) → barred_at properties label told ≡ Some cause → (place : ℕ) × (line : BarringLine) × (told ≡ Some place) × (barring_line properties (slice_index label place) ≡ Some line) × (cause ≡ Barred place (slice_index label place) line)
  barred_told label None cause h = let clash : None ≡ Some cause = h in cc
  barred_told label (Some place) cause h =
      let found = line_told label place (barring_line properties (slice_index label place)) cause h in (place, found.0, refl, found.1, found.2)

  barred_cause-is : (label : List ℕ) (cause : Cause) → (barred_at properties label (barred_place properties label) ≡ Some cause) ↔ IsFirstBarred properties label cause
  barred_cause-is label cause = (
    λ h.
        let found = barred_told label (barred_place properties label) cause h in
        (found.0, found.1, found.4, (barred-is properties label found.0).0 found.2, (barring_line-is properties (slice_index label found.0) found.1).0 found.3),
    λ is.
        ap (barred_at properties label) ((barred-is properties label is.0).1 is.3)
        ∙ ap (barred_by label is.0) ((barring_line-is properties (slice_index label is.0) is.1).1 is.4)
        ∙ ap Some (sym is.2),
  )

-- a class that is not barred may be registered
permitted_class : (class : Class) → is_barred class ≡ false → fault_of_class class ≡ None
permitted_class classes.Disallowed h = cc
permitted_class classes.Unassigned h = cc
permitted_class classes.Pvalid h = refl
permitted_class classes.Contextj h = refl
permitted_class classes.Contexto h = refl

line_none : (label : List ℕ) (place : ℕ) (told : Option BarringLine) → barred_by label place told ≡ None → told ≡ None
line_none label place None h = refl
line_none label place (Some line) h = let clash : Some (Barred place (slice_index label place) line) ≡ None = h in cc

module _ (properties : Properties) where
  barred_none : (label : List ℕ) (told : Option ℕ) → ((place : ℕ) → told ≡ Some place → IsFirstFailing label (IsPermitted properties label) place) → barred_at properties label told ≡ None → told ≡ None
  barred_none label None first none = refl
  barred_none label (Some place) first none =
      absurd ((first place refl).fails (permitted_class (class_of properties (slice_index label place)) ((barring_line-none properties (slice_index label place)).0 (line_none label place (barring_line properties (slice_index label place)) none))))

-- ---- hyphens

out_parts : (h a b c d : Bool) → (h && (a || b || c && d)) ≡ true → (h ≡ true) × ((a ≡ true) ⊎ ((b ≡ true) ⊎ ((c ≡ true) × (d ≡ true))))
out_parts true true b c d e = (refl, inl refl)
out_parts true false true c d e = (refl, inr (inl refl))
out_parts true false false true true e = (refl, inr (inr (refl, refl)))
out_parts _ _ _ _ _ e = cc

out_whole : (h a b c d : Bool) → h ≡ true → (a ≡ true) ⊎ ((b ≡ true) ⊎ ((c ≡ true) × (d ≡ true))) → (h && (a || b || c && d)) ≡ true
out_whole true true b c d e s = refl
out_whole true false true c d e s = refl
out_whole true false false true true e s = refl
out_whole true false false true false e s =
    elim s [ inl x ↦ cc | inr y ↦ elim y [ inl x ↦ cc | inr z ↦ let w : false ≡ true = z.1 in cc ] ]
out_whole true false false false d e s =
    elim s [ inl x ↦ cc | inr y ↦ elim y [ inl x ↦ cc | inr z ↦ let w : false ≡ true = z.0 in cc ] ]
out_whole false a b c d e s = cc

out-gives : (label : List ℕ) (p : ℕ) → is_hyphen_out_of_place label p ≡ true → (slice_index label p ≡ 0x2D) × IsBarredToHyphens label p
out-gives label p h =
    let parts = out_parts (slice_index label p == 0x2D) (p == 0) (p + 1 == length label) (p == 2) (slice_index label 3 == 0x2D) h in (
      eqb-true (slice_index label p) 0x2D parts.0,
      elim parts.1 [
        | inl first ↦ inl (eqb-true p 0 first)
        | inr later ↦
            elim later [
              | inl last ↦ inr (inl (eqb-true (p + 1) (length label) last))
              | inr both ↦ inr (inr (eqb-true p 2 both.0, eqb-true (slice_index label 3) 0x2D both.1))
            ]
      ],
    )

out-from : (label : List ℕ) (p : ℕ) → slice_index label p ≡ 0x2D → IsBarredToHyphens label p → is_hyphen_out_of_place label p ≡ true
out-from label p hyphen barred =
    out_whole (slice_index label p == 0x2D) (p == 0) (p + 1 == length label) (p == 2) (slice_index label 3 == 0x2D) (eq-eqb (slice_index label p) 0x2D hyphen)
    (elim barred [
      | inl first ↦ inl (eq-eqb p 0 first)
      | inr later ↦
          elim later [
            | inl last ↦ inr (inl (eq-eqb (p + 1) (length label) last))
            | inr both ↦ inr (inr (eq-eqb p 2 both.0, eq-eqb (slice_index label 3) 0x2D both.1))
          ]
    ])

hyphen_at-is : (label : List ℕ) (p : ℕ) → (not (is_hyphen_out_of_place label p) ≡ true) ↔ HasNoHyphenOutOfPlace label p
hyphen_at-is label p = (
  λ h both. let clash : true ≡ false = sym (out-from label p both.0 both.1) ∙ not-true (is_hyphen_out_of_place label p) h in cc,
  λ never. not_from_false (is_hyphen_out_of_place label p) (false_from_ne_true (is_hyphen_out_of_place label p) (λ h. never (out-gives label p h))),
)

hyphen-is : (label : List ℕ) (place : ℕ) → (misplaced_hyphen label ≡ Some place) ↔ IsFirstFailing label (HasNoHyphenOutOfPlace label) place
hyphen-is label place = failing_in-is label (λ k. not (is_hyphen_out_of_place label k)) (HasNoHyphenOutOfPlace label) (λ k low. hyphen_at-is label k) place

hyphen_told : (label : List ℕ) (told : Option ℕ) (cause : Cause) → hyphen_at label told ≡ Some cause → (place : ℕ) × (told ≡ Some place) × (cause ≡ Hyphen place (length label))
hyphen_told label None cause h = let clash : None ≡ Some cause = h in cc
hyphen_told label (Some place) cause h = let same : Hyphen place (length label) ≡ cause = cc in (place, refl, sym same)

-- ---- a leading mark

marked : (mark : Bool) (c : ℕ) (label : List ℕ) (cause : Cause) → (point_at (c ∷ label) (cond mark (Some 0) None) ≡ Some cause) ↔ ((cause ≡ Point 0 c) × (mark ≡ true))
marked true c label cause = (λ h. let same : Point 0 c ≡ cause = cc in (sym same, refl), λ both. ap Some (sym both.0))
marked false c label cause = (λ h. let clash : None ≡ Some cause = h in cc, λ both. let clash : false ≡ true = both.1 in cc)

leading-is : (label : List ℕ) (cause : Cause) → (point_at label (leading_place label) ≡ Some cause) ↔ ((cause ≡ Point 0 (slice_index label 0)) × BeginsWithMark label)
leading-is [] cause = (λ h. let clash : None ≡ Some cause = h in cc, λ both. absurd both.1)
leading-is (c ∷ label) cause = marked (is_mark c) c label cause

-- ---- the Bidi rule

module _ (properties : Properties) where
  condition_told : (label : List ℕ) (told : Option Broken) (cause : Cause) → condition_at properties label told ≡ Some cause → (broken : Broken) × (told ≡ Some broken) × (cause ≡ Condition broken (slice_index label broken.place) (bidi_class properties (slice_index label broken.place)))
  condition_told label None cause h = let clash : None ≡ Some cause = h in cc
  condition_told label (Some broken) cause h =
      let same : Condition broken (slice_index label broken.place) (bidi_class properties (slice_index label broken.place)) ≡ cause = cc in (broken, refl, sym same)

-- ---- lengths

length_told : (long octets : Bool) (n m : ℕ) (cause : Cause) → cond long (Some (Points n)) (cond octets (Some (Octets m)) None) ≡ Some cause → ((long ≡ true) × (cause ≡ Points n)) ⊎ ((long ≡ false) × (octets ≡ true) × (cause ≡ Octets m))
length_told true octets n m cause h = let same : Points n ≡ cause = cc in inl (refl, sym same)
length_told false true n m cause h = let same : Octets m ≡ cause = cc in inr (refl, refl, sym same)
length_told false false n m cause h = cc

length_from : (long octets : Bool) (n m : ℕ) (cause : Cause) → ((long ≡ true) × (cause ≡ Points n)) ⊎ ((long ≡ false) × (octets ≡ true) × (cause ≡ Octets m)) → cond long (Some (Points n)) (cond octets (Some (Octets m)) None) ≡ Some cause
length_from long octets n m cause (inl first) = rw (first.0, first.1) refl
length_from long octets n m cause (inr second) = rw (second.0, second.1, second.2) refl

lt-is : (a b : ℕ) → (nat_lt a b ≡ true) ↔ (a < b)
lt-is a b = (λ h. grind (arith, nat_tests), λ h. grind (arith, nat_tests))

not_lt-is : (a b : ℕ) → (nat_lt a b ≡ false) ↔ (a < b → ⊥)
not_lt-is a b = (
  λ h low. let clash : true ≡ false = sym ((lt-is a b).1 low) ∙ h in cc,
  λ h. false_from_ne_true (nat_lt a b) (λ low. h ((lt-is a b).0 low)),
)

module _ (properties : Properties) where
  length-is : (label : List ℕ) (cause : Cause) → (length_at label ≡ Some cause) ↔ IsCause properties label refusals.LabelTooLong cause
  length-is label cause =
      let long = lt-is 63 (length label) in
      let short = not_lt-is 63 (length label) in
      let octets = lt-is 63 (length (a_label_of label)) in (
        λ h.
            elim (length_told (nat_lt 63 (length label)) (nat_lt 63 (length (a_label_of label))) (length label) (length (a_label_of label)) cause h) [
              | inl first ↦ inl (long.0 first.0, first.1)
              | inr second ↦ inr (short.0 second.0, octets.0 second.1, second.2)
            ],
        λ is.
            length_from (nat_lt 63 (length label)) (nat_lt 63 (length (a_label_of label))) (length label) (length (a_label_of label)) cause
            (elim is [
              | inl first ↦ inl (long.1 first.0, first.1)
              | inr second ↦ inr (short.1 second.0, octets.1 second.1, second.2)
            ]),
      )

-- ---- normalization

differ_nil : (other : List ℕ) → DifferFirstAt [] other 0
differ_nil other = record { same = refl; within_label = omega arith; within_other = omega arith; longest = λ n low high same. low }

differ_short : (label : List ℕ) → DifferFirstAt label [] 0
differ_short label = record { same = refl; within_label = omega arith; within_other = omega arith; longest = λ n low high same. high }

no_more : (c d : ℕ) (label other : List ℕ) (n : ℕ) → (c ≡ d → ⊥) → take n (c ∷ label) ≡ take n (d ∷ other) → n ≤ 0
no_more c d label other zero different same = omega arith
no_more c d label other (suc n) different same = let head_same : c ≡ d = cc in absurd (different head_same)

one_more : (c d : ℕ) (label other : List ℕ) (count n : ℕ) → IsLongestShared label other count → n ≤ length (c ∷ label) → n ≤ length (d ∷ other) → take n (c ∷ label) ≡ take n (d ∷ other) → n ≤ suc count
one_more c d label other count zero longest low high same = omega arith
one_more c d label other count (suc n) longest low high same =
    let rest : take n label ≡ take n other = cc in
    let upto : n ≤ count = longest n (omega arith) (omega arith) rest in omega arith

differ_cons : (c d : ℕ) (label other : List ℕ) (count : ℕ) → DifferFirstAt label other count → (equal : Bool) → (equal ≡ true → c ≡ d) → (equal ≡ false → c ≡ d → ⊥) → DifferFirstAt (c ∷ label) (d ∷ other) (cond equal (suc count) 0)
differ_cons c d label other count rest true equals differs =
    let in_label = rest.within_label in
    let in_other = rest.within_other in
    let heads : c ≡ d = equals refl in
    let tails = rest.same in
    record {
      same = ap (λ x. x ∷ take count label) heads ∙ ap (λ xs. d ∷ xs) tails;
      within_label = omega arith;
      within_other = omega arith;
      longest = λ n low high same. one_more c d label other count n rest.longest low high same;
    }
differ_cons c d label other count rest false equals differs = record {
  same = refl;
  within_label = omega arith;
  within_other = omega arith;
  longest = λ n low high same. no_more c d label other n (differs refl) same;
}

different_by : (c d : ℕ) → (c == d) ≡ false → c ≡ d → ⊥
different_by c d test same = let clash : true ≡ false = sym (eq-eqb c d same) ∙ test in cc

differ-shared : (label other : List ℕ) → DifferFirstAt label other (shared label other)
differ-shared [] other = differ_nil other
differ-shared (c ∷ label) [] = differ_short (c ∷ label)
differ-shared (c ∷ label) (d ∷ other) = differ_cons c d label other (shared label other) (differ-shared label other) (c == d) (eqb-true c d) (different_by c d)

differ-unique : (label other : List ℕ) (p q : ℕ) → DifferFirstAt label other p → DifferFirstAt label other q → p ≡ q
differ-unique label other p q first second =
    let up : p ≤ q = second.longest p first.within_label first.within_other first.same in
    let down : q ≤ p = first.longest q second.within_label second.within_other second.same in omega arith

changed_told : (normal : Bool) (count place : ℕ) → cond normal None (Some count) ≡ Some place → (normal ≡ false) × (count ≡ place)
changed_told true count place h = let clash : None ≡ Some place = h in cc
changed_told false count place h = (refl, cc)

changed-is : (label : List ℕ) (place : ℕ) → (changed_place label ≡ Some place) ↔ ((nfc label ≡ label → ⊥) × DifferFirstAt label (nfc label) place)
changed-is label place = (
  λ h.
      let parts = changed_told (is_nfc label) (shared label (nfc label)) place h in (
        λ same. let clash : true ≡ false = sym (is_in_form_from Nfc label same) ∙ parts.0 in cc,
        subst (λ p. DifferFirstAt label (nfc label) p) parts.1 (differ-shared label (nfc label)),
      ),
  λ is.
      let other = false_from_ne_true (is_nfc label) (λ h. is.0 (is_in_form-true Nfc label h)) in
      ap (λ b. cond b None (Some (shared label (nfc label)))) other
      ∙ ap Some (differ-unique label (nfc label) (shared label (nfc label)) place (differ-shared label (nfc label)) is.1),
)

form_told : (label : List ℕ) (told : Option ℕ) (cause : Cause) → changed_at label told ≡ Some cause → (place : ℕ) × (told ≡ Some place) × (cause ≡ Changed place (slice_index label place) (slice_get (nfc label) place))
form_told label None cause h = let clash : None ≡ Some cause = h in cc
form_told label (Some place) cause h =
    let same : Changed place (slice_index label place) (slice_get (nfc label) place) ≡ cause = cc in (place, refl, sym same)

-- ---- what is told of a refusal is its cause, and nothing else is

module _ (properties : Properties) where
  pub cause-is : (label : List ℕ) (refusal : Refusal) (cause : Cause) → (cause_of properties label refusal ≡ Some cause) ↔ IsCause properties label refusal cause
  unfolding cause_of
  cause-is label refusals.Disallowed cause = barred_cause-is properties label cause
  cause-is label refusals.Unassigned cause = barred_cause-is properties label cause
  cause-is label refusals.NotNfc cause = (
    λ h. let found = form_told label (changed_place label) cause h in let is = (changed-is label found.0).0 found.1 in (found.0, found.2, is.0, is.1),
    λ is. ap (changed_at label) ((changed-is label is.0).1 (is.2, is.3)) ∙ ap Some (sym is.1),
  )
  cause-is label refusals.Hyphen cause = (
    λ h. let found = hyphen_told label (misplaced_hyphen label) cause h in (found.0, found.2, (hyphen-is label found.0).0 found.1),
    λ is. ap (hyphen_at label) ((hyphen-is label is.0).1 is.2) ∙ ap Some (sym is.1),
  )
  cause-is label refusals.LeadingMark cause = leading-is label cause
  cause-is label refusals.ContextJ cause =
      point-is label (misplaced_joiner properties label) (JoinerPasses properties label) (failing_in-is label (joiner_at properties label) (JoinerPasses properties label) (joiner_at-rule properties label)) cause
  cause-is label refusals.ContextO cause =
      point-is label (misplaced_other label) (OtherPasses label) (failing_in-is label (other_at label) (OtherPasses label) (λ k low. other_at-rule label k)) cause
  cause-is label refusals.Bidi cause = (
    λ h.
        let found = condition_told properties label (broken_condition properties label) cause h in
        (found.0.condition, found.0.place, found.2, (broken_condition-is properties label found.0.condition found.0.place).0 found.1),
    λ is. ap (condition_at properties label) ((broken_condition-is properties label is.0 is.1).1 is.3) ∙ ap Some (sym is.2),
  )
  cause-is label refusals.LabelTooLong cause = length-is properties label cause
  cause-is label _ cause = (λ h. let clash : None ≡ Some cause = h in cc, λ is. absurd is)

-- ---- a label's first fault has its cause

told_same : (a b : Refusal) → Some a ≡ Some b → a ≡ b
told_same a b h = cc

-- what holds of each fault under its test holds of the first
of_first : (Q : Refusal → Type 0) (empty : Bool) (points : Option Refusal) (form hyphen mark joiner other bidi long : Bool) → (empty ≡ true → Q refusals.Empty) → ((x : Refusal) → points ≡ Some x → Q x) → (form ≡ true → Q refusals.NotNfc) → (hyphen ≡ true → Q refusals.Hyphen) → (mark ≡ true → Q refusals.LeadingMark) → (joiner ≡ true → Q refusals.ContextJ) → (other ≡ true → Q refusals.ContextO) → (bidi ≡ true → Q refusals.Bidi) → (long ≡ true → Q refusals.LabelTooLong) → (refusal : Refusal) → first_of (fault_if empty refusals.Empty ∷ points ∷ fault_if form refusals.NotNfc ∷ fault_if hyphen refusals.Hyphen ∷ fault_if mark refusals.LeadingMark ∷ fault_if joiner refusals.ContextJ ∷ fault_if other refusals.ContextO ∷ fault_if bidi refusals.Bidi ∷ fault_if long refusals.LabelTooLong ∷ []) ≡ Some refusal → Q refusal
of_first Q true points form hyphen mark joiner other bidi long q0 q1 q2 q3 q4 q5 q6 q7 q8 refusal told = subst Q (told_same _ _ told) (q0 refl)
of_first Q false (Some x) form hyphen mark joiner other bidi long q0 q1 q2 q3 q4 q5 q6 q7 q8 refusal told = subst Q (told_same _ _ told) (q1 x refl)
of_first Q false None true hyphen mark joiner other bidi long q0 q1 q2 q3 q4 q5 q6 q7 q8 refusal told = subst Q (told_same _ _ told) (q2 refl)
of_first Q false None false true mark joiner other bidi long q0 q1 q2 q3 q4 q5 q6 q7 q8 refusal told = subst Q (told_same _ _ told) (q3 refl)
of_first Q false None false false true joiner other bidi long q0 q1 q2 q3 q4 q5 q6 q7 q8 refusal told = subst Q (told_same _ _ told) (q4 refl)
of_first Q false None false false false true other bidi long q0 q1 q2 q3 q4 q5 q6 q7 q8 refusal told = subst Q (told_same _ _ told) (q5 refl)
of_first Q false None false false false false true bidi long q0 q1 q2 q3 q4 q5 q6 q7 q8 refusal told = subst Q (told_same _ _ told) (q6 refl)
of_first Q false None false false false false false true long q0 q1 q2 q3 q4 q5 q6 q7 q8 refusal told = subst Q (told_same _ _ told) (q7 refl)
of_first Q false None false false false false false false true q0 q1 q2 q3 q4 q5 q6 q7 q8 refusal told = subst Q (told_same _ _ told) (q8 refl)
of_first Q false None false false false false false false false q0 q1 q2 q3 q4 q5 q6 q7 q8 refusal told = cc

class_kind : (class : Class) (x : Refusal) → fault_of_class class ≡ Some x → (x ≡ refusals.Disallowed) ⊎ (x ≡ refusals.Unassigned)
class_kind classes.Disallowed x h = inl (sym (told_same _ _ h))
class_kind classes.Unassigned x h = inr (sym (told_same _ _ h))
class_kind _ x h = cc

first_two : (a b : Option Refusal) (x : Refusal) → first_of (a ∷ b ∷ []) ≡ Some x → (a ≡ Some x) ⊎ (b ≡ Some x)
first_two (Some y) b x h = inl h
first_two None (Some y) x h = inr h
first_two None None x h = cc

module _ (properties : Properties) where
  points_kind : (label : List ℕ) (x : Refusal) → code_point_fault properties label ≡ Some x → (x ≡ refusals.Disallowed) ⊎ (x ≡ refusals.Unassigned)
  unfolding code_point_fault
  points_kind [] x h = let clash : None ≡ Some x = h in cc
  points_kind (c ∷ label) x h =
      elim (first_two (fault_of_class (class_of properties c)) (code_point_fault properties label) x (sym (code_point_fault-cons properties c label) ∙ h)) [
        | inl here ↦ class_kind (class_of properties c) x here
        | inr later ↦ points_kind label x later
      ]

point_none : (label : List ℕ) (told : Option ℕ) → point_at label told ≡ None → told ≡ None
point_none label None h = refl
point_none label (Some place) h = cc

form_none : (label : List ℕ) (told : Option ℕ) → changed_at label told ≡ None → told ≡ None
form_none label None h = refl
form_none label (Some place) h = let clash : Some (Changed place (slice_index label place) (slice_get (nfc label) place)) ≡ None = h in cc

hyphen_none : (label : List ℕ) (told : Option ℕ) → hyphen_at label told ≡ None → told ≡ None
hyphen_none label None h = refl
hyphen_none label (Some place) h = let clash : Some (Hyphen place (length label)) ≡ None = h in cc

module _ (properties : Properties) where
  condition_none : (label : List ℕ) (told : Option Broken) → condition_at properties label told ≡ None → told ≡ None
  condition_none label None h = refl
  condition_none label (Some broken) h =
      let clash : Some (Condition broken (slice_index label broken.place) (bidi_class properties (slice_index label broken.place))) ≡ None = h in cc

long_none : (a b : Bool) (n m : ℕ) → (a || b) ≡ true → cond a (Some (Points n)) (cond b (Some (Octets m)) None) ≡ None → ⊥
long_none true b n m h none = let clash : Some (Points n) ≡ None = none in cc
long_none false true n m h none = let clash : Some (Octets m) ≡ None = none in cc
long_none false false n m h none = cc

index_within : (label : List ℕ) (k : ℕ) → slice_index label k ≡ 0x2D → k < length label
index_within [] k h = let clash : 0 ≡ 0x2D = h in absurd (omega arith)
index_within (c ∷ label) zero h = omega arith
index_within (c ∷ label) (suc k) h = let low : k < length label = index_within label k h in omega arith

-- a hyphen out of place has a place
hyphen_somewhere : (label : List ℕ) → has_hyphen_out_of_place label ≡ true → misplaced_hyphen label ≡ None → ⊥
hyphen_somewhere label some none =
    let never = no_first_place label (λ k. not (is_hyphen_out_of_place label k)) (HasNoHyphenOutOfPlace label) (λ k low. hyphen_at-is label k) none in
    let last = length label - 1 in
    elim (or_cases ((slice_index label 0 == 0x2D) || (slice_index label last == 0x2D)) ((slice_index label 2 == 0x2D) && (slice_index label 3 == 0x2D)) some) [
      | inl ends ↦
          elim (or_cases (slice_index label 0 == 0x2D) (slice_index label last == 0x2D) ends) [
            | inl first ↦ let is = eqb-true (slice_index label 0) 0x2D first in never 0 (index_within label 0 is) (is, inl refl)
            | inr at_last ↦
                let is = eqb-true (slice_index label last) 0x2D at_last in
                let within : last < length label = index_within label last is in never last within (is, inr (inl (omega arith)))
          ]
      | inr both ↦
          let parts = and_parts (slice_index label 2 == 0x2D) (slice_index label 3 == 0x2D) both in
          let is = eqb-true (slice_index label 2) 0x2D parts.0 in
          never 2 (index_within label 2 is) (is, inr (inr (refl, eqb-true (slice_index label 3) 0x2D parts.1)))
    ]

not_passed : (test : Bool) → not test ≡ true → test ≡ true → ⊥
not_passed true h g = cc
not_passed false h g = cc

module _ (properties : Properties) where
  -- a fault that is told, but for an empty label, is told with its cause
  pub fault-has_cause : (label : List ℕ) (refusal : Refusal) → first_fault properties label ≡ Some refusal → (refusal ≡ refusals.Empty → ⊥) → cause_of properties label refusal ≡ None → ⊥
  unfolding first_fault cause_of contextj_ok contexto_ok
  fault-has_cause label refusal told =
      let Q = λ (r : Refusal). (r ≡ refusals.Empty → ⊥) → cause_of properties label r ≡ None → ⊥ in
      of_first Q (length label == 0) (code_point_fault properties label) (not (is_nfc label)) (has_hyphen_out_of_place label) (leading_mark label) (not (contextj_ok properties label)) (not (contexto_ok label)) (not (bidi_ok properties label)) (is_too_long label)
      (λ empty e none. e refl)
      (λ x points e none.
      let barred = λ (place_none : barred_place properties label ≡ None).
      let clash : None ≡ Some x = sym ((barred-both properties label).0 place_none) ∙ points in
      let never : ⊥ = cc in never in
      elim (points_kind properties label x points) [
        | inl is ↦ barred (barred_none properties label (barred_place properties label) (λ place. (barred-is properties label place).0) (subst (λ r. cause_of properties label r ≡ None) is none))
        | inr is ↦ barred (barred_none properties label (barred_place properties label) (λ place. (barred-is properties label place).0) (subst (λ r. cause_of properties label r ≡ None) is none))
      ])
      (λ form e none.
      let clash : Some (shared label (nfc label)) ≡ None = sym (ap (λ b. cond b None (Some (shared label (nfc label)))) (not-true (is_nfc label) form)) ∙ form_none label (changed_place label) none in
      let never : ⊥ = cc in never)
      (λ hyphen e none. hyphen_somewhere label hyphen (hyphen_none label (misplaced_hyphen label) none))
      (λ mark e none.
      let at : leading_place label ≡ Some 0 = ap (λ b. cond b (Some 0) None) mark in
      let clash : Some 0 ≡ None = sym at ∙ point_none label (leading_place label) none in
      let never : ⊥ = cc in never)
      (λ joiner e none. not_passed (contextj_ok properties label) joiner (first_failing-no (length label) (joiner_at properties label) (point_none label (misplaced_joiner properties label) none)))
      (λ other e none. not_passed (contexto_ok label) other (first_failing-no (length label) (other_at label) (point_none label (misplaced_other label) none)))
      (λ bidi e none. not_passed (bidi_ok properties label) bidi ((bidi_ok-PassesBidiRule properties label).1 ((broken_condition-none properties label).0 (condition_none properties label (broken_condition properties label) none))))
      (λ long e none. long_none (nat_lt 63 (length label)) (nat_lt 63 (length (a_label_of label))) (length label) (length (a_label_of label)) long none)
      refusal told
