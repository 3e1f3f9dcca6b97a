-- What is told of the fault of a name that is decoded is its cause and nothing else, and each such fault has a cause.
use Rattle.std.proofs.Common.{◌≡◌, ◌≢◌, ℕ, suc, Bool, true, false, not, ◌&&◌, ◌↔◌, List, [], ◌∷◌, map, cond, slice_index, IsTrue, Option, None, Some, Result, Ok, Err, refl, sym, ap, ap₂, subst, inl, inr, ◌∙◌}
use Rattle.std.specs.List.{AllByRecursion, list_all}
use Rattle.std.specs.Option.{is_none, is_some, option_map}
use Rattle.std.proofs.lemmas.Bool.{cond-true, or_right}
use Rattle.std.specs.Char.{to_ascii_lowercase}
use Rattle.std.specs.Result.{is_ok}
use Rattle.idna.specs.BidiRule.{is_bidi_domain, passes_bidi_rule}
use Rattle.idna.specs.Labels.{labels_of, join_labels}
use Rattle.idna.specs.Validity.{has_ace_prefix, passes_bidi}
use Rattle.idn_text.specs.declared.refusal.Refusal.{Refusal}
use Rattle.idn_text.specs.declared.refusal.Refusal.TheVariants as refusals
use Rattle.idn_label.specs.Answers.{Answer, and_then, unless_fault}
use Rattle.idn_label.specs.Decode.{decoded_label, with_others, decoded_labels, decode_answer, name_fault}
use Rattle.idn_label.specs.Register.{u_label_answer}
use Rattle.idn_label.specs.Steps.{begins_with_prefix}
use Rattle.idn_label.proofs.DecodeLemmas.{decoded_label-coded, decoded_label-other}
use Rattle.idn_cause.specs.declared.a_label.ALabelCause.{ALabelCause}
use Rattle.idn_cause.specs.declared.name.NameCause.{NameCause}
use Rattle.idn_cause.specs.ALabelCauses.{a_label_cause}
use Rattle.idn_cause.specs.NameLabels.{first_failing_label, IsFirstFailingLabel}
use Rattle.idn_cause.specs.NameCauses.{is_decoded, at_label, breaks_none, broken_at_label, label_of_number, of_decoded, cause_at_label, found_cause, whole_name_cause, name_cause, IsLabelCause, IsWholeNameCause, IsNameCause}
use Rattle.idn_cause.proofs.ALabelLaws.{a_label_cause-is, a_label_fault-has_cause}
use Rattle.idn_cause.proofs.LabelLaws.{Found, first_failing_label-is, first_failing_label-none}
use Rattle.idn_class.specs.declared.broken.Broken.{Broken}
use Rattle.idn_class.specs.declared.properties.Properties.{Properties}
use Rattle.idn_class.specs.declared.properties.Properties.TheVariants.{Profile, Unicode}
use Rattle.idn_class.specs.BidiClass.{bidi_class}
use Rattle.idn_class.specs.BidiRule.{MeetsSixConditions}
use Rattle.idn_class.specs.Causes.{broken_in_name}
use Rattle.idn_class.proofs.BrokenLemmas.{in_name-is, in_name-none}
use Rattle.idn_label.proofs.KitBidiRule.{passes_bidi_rule-six}
use Rattle.idn_cause.specs.Causes.{condition_at}
use Rattle.idn_cause.specs.declared.cause.Cause.TheVariants.{Condition}

at_label-told : (number : ℕ) (told : Option ALabelCause) (cause : NameCause) → at_label number told ≡ Some cause → (told ≡ Some cause.cause) × (cause.label ≡ number)
at_label-told number None cause h = let clash : None ≡ Some cause = h in cc
at_label-told number (Some of_label) cause h =
    let same : record { label = number; cause = of_label } ≡ cause = cc in
    (ap (λ (c : NameCause). Some c.cause) same, sym (ap (λ (c : NameCause). c.label) same))

is_none-gives : {A : Type 0} (o : Option A) → is_none o ≡ true → o ≡ None
is_none-gives None h = refl
is_none-gives (Some a) h = cc

nothing_none : {A : Type 0} (a : A) → Some a ≡ None → ⊥
nothing_none a h = cc

some_same : (a b : ALabelCause) → Some a ≡ Some b → a ≡ b
some_same a b e = cc

-- the same of what is asked in other words
failing_as : (labels : List (List ℕ)) (P Q : List ℕ → Type 0) → ((l : List ℕ) → P l ↔ Q l) → (number : ℕ) (label : List ℕ) → IsFirstFailingLabel labels P number label → IsFirstFailingLabel labels Q number label
failing_as labels P Q same number label first = record {
  before = first.before;
  after = first.after;
  split = first.split;
  counted = first.counted;
  earlier = all first.before first.earlier;
  fails = λ holds. first.fails ((same label).1 holds);
}
  where
    all : (ls : List (List ℕ)) → AllByRecursion P ls → AllByRecursion Q ls
    all [] h = tt
    all (l ∷ ls) h = ((same l).0 h.0, all ls h.1)

-- a name as a whole has no other fault
only_bidi : (properties : Properties) (labels : List (List ℕ)) (refusal : Refusal) → name_fault properties labels ≡ Some refusal → refusal ≡ refusals.Bidi
only_bidi Profile labels refusal h = let clash : None ≡ Some refusal = h in cc
only_bidi Unicode labels refusal h = by_test (passes_bidi labels) h
  where
    by_test : (b : Bool) → cond b None (Some refusals.Bidi) ≡ Some refusal → refusal ≡ refusals.Bidi
    by_test true h = let clash : None ≡ Some refusal = h in cc
    by_test false h = cc

module _ (properties : Properties) where
  cause_at_label-told : (refusal : Refusal) (told : Option Found) (cause : NameCause) → cause_at_label properties refusal told ≡ Some cause → (label : List ℕ) × (told ≡ Some (cause.label, label)) × (a_label_cause properties (map to_ascii_lowercase label) refusal ≡ Some cause.cause)
  cause_at_label-told refusal None cause h = let clash : None ≡ Some cause = h in cc
  cause_at_label-told refusal (Some found) cause h =
      let is = at_label-told found.0 (a_label_cause properties (map to_ascii_lowercase found.1) refusal) cause h in
      (found.1, ap (λ n. Some (n, found.1)) (sym is.1), is.0)

  -- ---- the whole name

  decoded_all : (labels decoded : List (List ℕ)) → decoded_labels properties labels ≡ Ok decoded → AllByRecursion (λ l. IsTrue (is_decoded properties l)) labels
  unfolding decoded_labels
  decoded_all [] decoded is = tt
  decoded_all (label ∷ labels) decoded is = step (decoded_all labels) (decoded_label properties label) (decoded_labels properties labels) refl refl is
    where
      step : ((others : List (List ℕ)) → decoded_labels properties labels ≡ Ok others → AllByRecursion (λ l. IsTrue (is_decoded properties l)) labels) → (first : Answer) (others : Result (List (List ℕ)) Refusal) → decoded_label properties label ≡ first → decoded_labels properties labels ≡ others → with_others first others ≡ Ok decoded → AllByRecursion (λ l. IsTrue (is_decoded properties l)) (label ∷ labels)
      step rest (Err refusal) others one more e = absurd (let clash : Err refusal ≡ Ok decoded = e in cc)
      step rest (Ok l) (Err refusal) one more e = absurd (let clash : Err refusal ≡ Ok decoded = e in cc)
      step rest (Ok l) (Ok ls) one more e = (ap is_ok one, rest ls more)

  none_refused : (name : List ℕ) (labels : List (List ℕ)) → decoded_labels properties (labels_of name) ≡ Ok labels → first_failing_label (is_decoded properties) 0 (labels_of name) ≡ None
  none_refused name labels is = (first_failing_label-none (is_decoded properties) 0 (labels_of name)).1 (decoded_all (labels_of name) labels is)

  -- a label that breaks no condition meets all of them
  breaks_none-rule : (label : List ℕ) → IsTrue (breaks_none properties label) ↔ (label ≢ [] → MeetsSixConditions (map (bidi_class properties) label))
  breaks_none-rule label = (
    λ none. (in_name-none properties label).0 (is_none-gives (broken_in_name properties label) none),
    λ meets. ap is_none ((in_name-none properties label).1 meets),
  )

  told_as : (coded : ℕ → Bool) (label : List ℕ) (told : Option Broken) (number : ℕ) (cause : NameCause) → at_label number (option_map (of_decoded (coded number)) (condition_at properties label told)) ≡ Some cause
      → (broken : Broken) × (told ≡ Some broken) × (cause.label ≡ number) × (cause.cause ≡ of_decoded (coded cause.label) (Condition broken (slice_index label broken.place) (bidi_class properties (slice_index label broken.place))))
  told_as coded label None number cause h = let clash : None ≡ Some cause = h in cc
  told_as coded label (Some broken) number cause h =
      let condition = Condition broken (slice_index label broken.place) (bidi_class properties (slice_index label broken.place)) in
      let parts = at_label-told number (Some (of_decoded (coded number) condition)) cause h in
      (broken, refl, parts.1, sym (some_same _ _ parts.0) ∙ ap (λ n. of_decoded (coded n) condition) (sym parts.1))

  -- the label of a number is an A-label
  abbrev is_coded : List ℕ → ℕ → Bool
  is_coded name number = begins_with_prefix (label_of_number number (labels_of name))

  whole-told : (name : List ℕ) (cause : NameCause) (labels : Result (List (List ℕ)) Refusal) → decoded_labels properties (labels_of name) ≡ labels → whole_name_cause properties name refusals.Bidi labels ≡ Some cause → IsWholeNameCause properties name cause
  whole-told name cause (Err refusal) is h = let clash : None ≡ Some cause = h in cc
  whole-told name cause (Ok labels) is h = by_fault (name_fault properties labels) refl h
    where
      by_label : (fault : name_fault properties labels ≡ Some refusals.Bidi) (told : Option Found) → first_failing_label (breaks_none properties) 0 labels ≡ told → broken_at_label properties name told ≡ Some cause → IsWholeNameCause properties name cause
      by_label fault None e h = let clash : None ≡ Some cause = h in cc
      by_label fault (Some found) e h =
          let is_told = told_as (is_coded name) found.1 (broken_in_name properties found.1) found.0 cause h in
          let broken = is_told.0 in
          let first = (first_failing_label-is (breaks_none properties) labels found.0 found.1).0 e in
          let at = failing_as labels (λ l. IsTrue (breaks_none properties l)) (λ l. l ≢ [] → MeetsSixConditions (map (bidi_class properties) l)) breaks_none-rule found.0 found.1 first in (
            labels,
            found.1,
            broken.condition,
            broken.place,
            is,
            fault,
            subst (λ n. IsFirstFailingLabel labels (λ l. l ≢ [] → MeetsSixConditions (map (bidi_class properties) l)) n found.1) (sym is_told.2) at,
            (in_name-is properties found.1 broken.condition broken.place).0 is_told.1,
            is_told.3,
          )

      by_fault : (fault : Option Refusal) → name_fault properties labels ≡ fault → cond (is_some fault) (broken_at_label properties name (first_failing_label (breaks_none properties) 0 labels)) None ≡ Some cause → IsWholeNameCause properties name cause
      by_fault None e h = let clash : None ≡ Some cause = h in cc
      by_fault (Some refusal) e h = by_label (e ∙ ap Some (only_bidi properties labels refusal e)) (first_failing_label (breaks_none properties) 0 labels) refl h

  whole-from : (name : List ℕ) (cause : NameCause) → IsWholeNameCause properties name cause → whole_name_cause properties name refusals.Bidi (decoded_labels properties (labels_of name)) ≡ Some cause
  whole-from name cause is =
      let labels = is.0 in
      let label = is.1 in
      let broken : Broken = record { condition = is.2; place = is.3 } in
      let at = failing_as labels (λ l. l ≢ [] → MeetsSixConditions (map (bidi_class properties) l)) (λ l. IsTrue (breaks_none properties l)) (λ l. ((breaks_none-rule l).1, (breaks_none-rule l).0)) cause.label label is.6 in
      ap (whole_name_cause properties name refusals.Bidi) is.4
      ∙ ap (λ fault. cond (is_some fault) (broken_at_label properties name (first_failing_label (breaks_none properties) 0 labels)) None) is.5
      ∙ ap (broken_at_label properties name) ((first_failing_label-is (breaks_none properties) labels cause.label label).1 at)
      ∙ ap (λ told. at_label cause.label (option_map (of_decoded (is_coded name cause.label)) (condition_at properties label told))) ((in_name-is properties label is.2 is.3).1 is.7)
      ∙ ap (λ c. Some (record { label = cause.label; cause = c })) (sym is.8)

  -- ---- both

  of_label : (name : List ℕ) (refusal : Refusal) (cause : NameCause) → IsLabelCause properties name refusal cause → IsNameCause properties name refusal cause
  of_label name refusals.Bidi cause is = inl is
  of_label name _ cause is = is

  of_whole : (name : List ℕ) (refusal : Refusal) (cause : NameCause) → whole_name_cause properties name refusal (decoded_labels properties (labels_of name)) ≡ Some cause → IsNameCause properties name refusal cause
  of_whole name refusals.Bidi cause h = inr (whole-told name cause (decoded_labels properties (labels_of name)) refl h)
  of_whole name _ cause h = let clash : None ≡ Some cause = h in cc

  found-told : (name : List ℕ) (refusal : Refusal) (cause : NameCause) (told : Option Found) → first_failing_label (is_decoded properties) 0 (labels_of name) ≡ told → found_cause properties name refusal told ≡ Some cause → IsNameCause properties name refusal cause
  found-told name refusal cause None e h = of_whole name refusal cause h
  found-told name refusal cause (Some found) e h =
      let is = cause_at_label-told refusal (Some found) cause h in
      of_label name refusal cause
      (is.0, (first_failing_label-is (is_decoded properties) (labels_of name) cause.label is.0).0 (e ∙ is.1), (a_label_cause-is properties (map to_ascii_lowercase is.0) refusal cause.cause).0 is.2)

  label-from : (name : List ℕ) (refusal : Refusal) (cause : NameCause) → IsLabelCause properties name refusal cause → name_cause properties name refusal ≡ Some cause
  unfolding name_cause
  label-from name refusal cause is =
      ap (found_cause properties name refusal) ((first_failing_label-is (is_decoded properties) (labels_of name) cause.label is.0).1 is.1)
      ∙ ap (at_label cause.label) ((a_label_cause-is properties (map to_ascii_lowercase is.0) refusal cause.cause).1 is.2)

  name_cause-from : (name : List ℕ) (refusal : Refusal) (cause : NameCause) → IsNameCause properties name refusal cause → name_cause properties name refusal ≡ Some cause
  unfolding name_cause
  name_cause-from name refusals.Bidi cause (inl is) = label-from name refusals.Bidi cause is
  name_cause-from name refusals.Bidi cause (inr is) = ap (found_cause properties name refusals.Bidi) (none_refused name is.0 is.4) ∙ whole-from name cause is
  name_cause-from name refusal cause is = label-from name refusal cause is

  pub name_cause-is : (name : List ℕ) (refusal : Refusal) (cause : NameCause) → (name_cause properties name refusal ≡ Some cause) ↔ IsNameCause properties name refusal cause
  unfolding name_cause
  name_cause-is name refusal cause = (
    λ h. found-told name refusal cause (first_failing_label (is_decoded properties) 0 (labels_of name)) refl h,
    name_cause-from name refusal cause,
  )

-- ---- each fault has its cause

untold : (number : ℕ) (told : Option ALabelCause) → at_label number told ≡ None → told ≡ None
untold number None h = refl
untold number (Some of_label) h = let clash : Some (record { label = number; cause = of_label }) ≡ None = h in cc

module _ (properties : Properties) where
  -- a label that is refused begins with "xn--"
  label_fault : (label : List ℕ) (refusal : Refusal) → decoded_label properties label ≡ Err refusal → u_label_answer properties (map to_ascii_lowercase label) ≡ Err refusal
  label_fault label refusal told = by_prefix (has_ace_prefix (map to_ascii_lowercase label)) refl
    where
      by_prefix : (coded : Bool) → has_ace_prefix (map to_ascii_lowercase label) ≡ coded → u_label_answer properties (map to_ascii_lowercase label) ≡ Err refusal
      by_prefix true e = sym (decoded_label-coded properties label e) ∙ told
      by_prefix false e = let clash : Ok label ≡ Err refusal = sym (decoded_label-other properties label e) ∙ told in cc

  labels_told : (labels : List (List ℕ)) (number : ℕ) (refusal : Refusal) → decoded_labels properties labels ≡ Err refusal → (refusal ≡ refusals.Empty → ⊥) → cause_at_label properties refusal (first_failing_label (is_decoded properties) number labels) ≡ None → ⊥
  unfolding decoded_labels
  labels_told [] number refusal told some none = let clash : Ok [] ≡ Err refusal = told in cc
  labels_told (label ∷ labels) number refusal told some none = by_label (labels_told labels (suc number) refusal) (decoded_label properties label) refl
    where
      others : (decoded : List ℕ) (rest : Result (List (List ℕ)) Refusal) → with_others (Ok decoded) rest ≡ Err refusal → rest ≡ Err refusal
      others decoded (Ok more) h = let clash : Ok (decoded ∷ more) ≡ Err refusal = h in cc
      others decoded (Err first) h = let same : first ≡ refusal = cc in ap Err same

      by_label : (decoded_labels properties labels ≡ Err refusal → (refusal ≡ refusals.Empty → ⊥) → cause_at_label properties refusal (first_failing_label (is_decoded properties) (suc number) labels) ≡ None → ⊥) → (answer : Answer) → decoded_label properties label ≡ answer → ⊥
      by_label later_told (Ok decoded) e =
          let later : decoded_labels properties labels ≡ Err refusal = others decoded (decoded_labels properties labels) (sym (ap (λ a. with_others a (decoded_labels properties labels)) e) ∙ told) in
          let passed : is_decoded properties label ≡ true = ap is_ok e in
          later_told later some
          (sym (ap (λ b. cause_at_label properties refusal (cond b (first_failing_label (is_decoded properties) (suc number) labels) (Some (number, label)))) passed) ∙ none)
      by_label later_told (Err first) e =
          let both = sym (ap (λ a. with_others a (decoded_labels properties labels)) e) ∙ told in
          let same : first ≡ refusal = cc in
          let failed : is_decoded properties label ≡ false = ap is_ok e in
          a_label_fault-has_cause properties (map to_ascii_lowercase label) refusal (label_fault label refusal (e ∙ ap Err same)) some
          (untold number (a_label_cause properties (map to_ascii_lowercase label) refusal)
          (sym (ap (λ b. cause_at_label properties refusal (cond b (first_failing_label (is_decoded properties) (suc number) labels) (Some (number, label)))) failed) ∙ none))

-- a label that breaks no condition passes the rule of lookup
passes_rule : (label : List ℕ) → IsTrue (breaks_none Unicode label) → passes_bidi_rule label ≡ true
passes_rule label none = passes_bidi_rule-six label ((in_name-none Unicode label).0 (is_none-gives (broken_in_name Unicode label) none))

all_pass : (labels : List (List ℕ)) → AllByRecursion (λ l. IsTrue (breaks_none Unicode l)) labels → list_all passes_bidi_rule labels ≡ true
all_pass [] all = refl
all_pass (label ∷ labels) all = ap₂ (λ a b. a && b) (passes_rule label all.0) (all_pass labels all.1)

-- a name that breaks the rule has a label that does
whole_fault-has_cause : (properties : Properties) (name : List ℕ) (labels : List (List ℕ)) (refusal : Refusal) → name_fault properties labels ≡ Some refusal → broken_at_label properties name (first_failing_label (breaks_none properties) 0 labels) ≡ None → ⊥
whole_fault-has_cause Profile name labels refusal fault none = let clash : None ≡ Some refusal = fault in cc
whole_fault-has_cause Unicode name labels refusal fault none = by_label (first_failing_label (breaks_none Unicode) 0 labels) refl none
  where
    by_label : (told : Option Found) → first_failing_label (breaks_none Unicode) 0 labels ≡ told → broken_at_label Unicode name told ≡ None → ⊥
    by_label None e h =
        let all = all_pass labels ((first_failing_label-none (breaks_none Unicode) 0 labels).0 e) in
        let passes : passes_bidi labels ≡ true = or_right (not (is_bidi_domain labels)) (list_all passes_bidi_rule labels) all in
        let clash : None ≡ Some refusal = sym (cond-true _ _ _ passes) ∙ fault in cc
    by_label (Some found) e h = broken (broken_in_name Unicode found.1) refl h
      where
        broken : (told : Option Broken) → broken_in_name Unicode found.1 ≡ told → at_label found.0 (option_map (of_decoded (begins_with_prefix (label_of_number found.0 (labels_of name)))) (condition_at Unicode found.1 told)) ≡ None → ⊥
        broken None own n = ((first_failing_label-is (breaks_none Unicode) labels found.0 found.1).0 e).fails (ap is_none own)
        broken (Some b) own n = nothing_none _ n

module _ (properties : Properties) where
  -- what is told of no label is told of none that is refused
  not_found : (name : List ℕ) (refusal : Refusal) (told : Option Found) → found_cause properties name refusal told ≡ None → cause_at_label properties refusal told ≡ None
  not_found name refusal None none = refl
  not_found name refusal (Some found) none = none

  pub name_fault-has_cause : (name : List ℕ) (refusal : Refusal) → decode_answer properties name ≡ Err refusal → (refusal ≡ refusals.Empty → ⊥) → name_cause properties name refusal ≡ None → ⊥
  unfolding decode_answer name_cause
  name_fault-has_cause name refusal told some none = by_labels (decoded_labels properties (labels_of name)) refl told
    where
      by_fault : (labels : List (List ℕ)) → decoded_labels properties (labels_of name) ≡ Ok labels → (fault : Option Refusal) → name_fault properties labels ≡ fault → unless_fault fault (Ok (join_labels labels)) ≡ Err refusal → ⊥
      by_fault labels is None e h = let clash : Ok (join_labels labels) ≡ Err refusal = h in cc
      by_fault labels is (Some first) e h =
          let same : first ≡ refusals.Bidi = only_bidi properties labels first e in
          let own : refusal ≡ refusals.Bidi = cc in
          whole_fault-has_cause properties name labels first e
          (sym
          (ap (λ told. found_cause properties name refusal told) (none_refused properties name labels is)
          ∙ ap (λ r. whole_name_cause properties name r (decoded_labels properties (labels_of name))) own
          ∙ ap (whole_name_cause properties name refusals.Bidi) is
          ∙ ap (λ f. cond (is_some f) (broken_at_label properties name (first_failing_label (breaks_none properties) 0 labels)) None) e)
          ∙ none)

      by_labels : (labels : Result (List (List ℕ)) Refusal) → decoded_labels properties (labels_of name) ≡ labels → and_then labels (λ ls. unless_fault (name_fault properties ls) (Ok (join_labels ls))) ≡ Err refusal → ⊥
      by_labels (Err first) is h =
          let same : first ≡ refusal = cc in
          labels_told properties (labels_of name) 0 refusal (is ∙ ap Err same) some
          (not_found name refusal (first_failing_label (is_decoded properties) 0 (labels_of name)) none)
      by_labels (Ok labels) is h = by_fault labels is (name_fault properties labels) refl h
