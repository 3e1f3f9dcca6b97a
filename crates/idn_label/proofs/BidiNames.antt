-- The Bidi rule of a whole name: of its labels as they are decoded, and of its code points, octets and numbers.
use Rattle.std.proofs.Common.{◌≡◌, ℕ, Bool, true, false, not, ◌&&◌, ◌||◌, ◌<◌, cond, List, [], ◌∷◌, map, chars, All, Option, Some, None, Result, Ok, Err, refl, sym, ap, ap₂, subst, ◌∙◌, inl, inr, eqb-true, le-leb, ◌≤◌, arith}
use Rattle.std.specs.Char.{to_ascii_lowercase}
use Rattle.std.specs.List.{AllByRecursion, list_any, list_all, onto_first}
use Rattle.std.specs.Str.{IsAscii, IsUtf8, is_utf8}
use Rattle.std.proofs.lemmas.Bool.{cases_Bool, cases_lt, cond-true, cond-false, not-true, or_parts}
use Rattle.std.proofs.lemmas.Bool.Decides.{nat_tests}
use Rattle.std.proofs.lemmas.List.Folds.{list_any_none}
use Rattle.std.proofs.lemmas.List.Elements.{All-weaker, All-from_recursion, recursion_from_All}
use Rattle.ucd_bidi.specs.declared.BidiClass.{BidiClass}
use Rattle.ucd_bidi.specs.declared.BidiClass.TheVariants.{LeftToRight}
use Rattle.ucd_bidi.specs.BidiClass.{bidi_class}
use Rattle.ucd_bidi.specs.BidiClassRows.{bidi_class_rows}
use Rattle.ucd_bidi.proofs.BidiClassLemmas.{bidi_class_stepped}
use Rattle.ucd_table.proofs.Computing.{tables}
use Rattle.ucd_table.proofs.Facts.{Stepped-below, Stepped-always}
use Rattle.ucd_table.proofs.Stepped.{of_ranges, zip_stepped}
use Rattle.ucd_table.specs.Rows.{Range, in_ranges}
use Rattle.std.proofs.lemmas.Str.{IsUtf8-from_is_utf8}
use Rattle.std.proofs.lemmas.Str.Ascii.{All-from_ascii}
use Rattle.idna.specs.BidiRule.{is_rtl, is_bidi_domain, passes_by_first, passes_bidi_rule}
use Rattle.idna.specs.Labels.{is_full_stop, labels_of, join_labels}
use Rattle.idna.specs.Validity.{has_ace_prefix, passes_bidi}
use Rattle.idna.proofs.LabelsLemmas.{HasNoFullStop, HasNoFullStop-labels_of, All-labels_of, All-join_labels, labels_of_cons, labels_of-join_labels, slice_split_none, slice_split-yes, slice_split-no, list_any-labels_of}
use Rattle.idn_text.specs.Points.{is_scalar_value, IsScalarValue, AreScalarValues, IsUtf8Of, utf8_of}
use Rattle.idn_text.specs.declared.refusal.Refusal.{Refusal}
use Rattle.idn_text.specs.declared.refusal.Refusal.TheVariants.{NotUtf8}
use Rattle.idn_text.proofs.Utf8Lemmas.{IsUtf8-from_points, ascii_points, points_from_utf8}
use Rattle.idn_class.specs.declared.properties.Properties.{Properties}
use Rattle.idn_class.specs.declared.properties.Properties.TheVariants.{Profile, Unicode}
use Rattle.idn_class.specs.BidiClass.{standard_bidi_class}
use Rattle.idn_class.specs.Facts.{AreFactsOf, contains, has_fact}
use Rattle.idn_class.specs.declared.facts.Fact.TheVariants.{RightToLeft}
use Rattle.idn_class.specs.declared.facts.Facts.{Facts}
use Rattle.idn_class.proofs.FactLabels.{Lacks, rtl_without}
use Rattle.idn_class.specs.Class.{class_of}
use Rattle.idn_class.proofs.CategoryLemmas.{bidi_class-surrogate, bidi_class-beyond}
use Rattle.idn_label.specs.ALabel.{a_label_of}
use Rattle.idn_label.specs.Answers.{Answer, and_then, unless_fault}
use Rattle.idn_label.specs.Decode.{decoded_label, decoded_labels, decoded_name, decode_answer, decode_utf8_answer, name_fault, with_others}
use Rattle.idn_label.specs.FirstFault.{IsRegistrable, fault_of_class}
use Rattle.idn_label.specs.Register.{u_label_answer}
use Rattle.idn_label.specs.Steps.{begins_with_prefix, in_utf8}
use Rattle.idn_label.specs.inner.BidiNames.{PassesIfRtl, shown}
use Rattle.idn_label.specs.inner.DecodedNames.{KeepsLeftToRight, decoded_utf8}
use Rattle.idn_label.proofs.ALabels.{registrable_scalars, decoded_name-a_label}
use Rattle.idn_label.proofs.AnswerLemmas.{u_label_answer-from, spelled_by}
use Rattle.idn_label.proofs.DecodeLemmas.{decoded_label-coded, decoded_label-other}
use Rattle.idn_label.proofs.FaultParts.{faultless}
use Rattle.idn_label.proofs.KitBidiRule.{one_label, rtl_named}
use Rattle.idn_label.proofs.LdhLemmas.{is_ldh_point-permitted}
use Rattle.idn_label.proofs.RequirementLemmas.{MeetsRequirements-registrable}
use Rattle.idn_label.proofs.SimpleNames.{left_to_right-full_stop}
use Rattle.idn_label.proofs.Utf8Names.{begins_with_prefix-chars, decoded_label-chars}

-- ---- R, AL and AN

abbrev pub right : ℕ → Bool
right c = is_rtl (bidi_class c)

pub right-before_hebrew : (c : ℕ) → c < 0x590 → right c ≡ false
unfolding tables bidi_class_stepped
right-before_hebrew c before = not-true _ (Stepped-below bidi_class bidi_class_stepped (λ x v. not (is_rtl v)) 0x590 refl c before)

-- nor is an octet of a name in ASCII
pub right-ascii : (name : List ℕ) → IsAscii name → list_any right (chars name) ≡ false
right-ascii name ascii =
    ap (list_any right) (points_from_utf8 name name (ascii_points name ascii))
    ∙ list_any_none right name (All-weaker (λ c. c < 128) (λ c. right c ≡ false) (λ c few. right-before_hebrew c (omega arith)) name (All-from_ascii name ascii))

-- nor is one from Devanagari to the spaces, nor from the dashes to the presentation forms
abbrev apart : BidiClass → Bool → Bool
apart class within = not (is_rtl class && within)

abbrev letters : List Range
letters = (0x900, 0x200E) ∷ []

rtl_outside_letters : (c : ℕ) → c ≤ 0x10_FFFF → apart (bidi_class c) (in_ranges letters c) ≡ true
unfolding tables bidi_class_stepped
rtl_outside_letters = Stepped-always (λ c. apart (bidi_class c) (in_ranges letters c)) (zip_stepped apart bidi_class (in_ranges letters) bidi_class_stepped (of_ranges letters refl)) refl

pub right-before_dashes : (c : ℕ) → 0x900 ≤ c → c ≤ 0x200E → right c ≡ false
unfolding in_ranges
right-before_dashes c low high =
    let outside = rw (le-leb 0x900 c low, le-leb c 0x200E high) at (rtl_outside_letters c (omega arith)) in grind arith

abbrev after_dashes : List Range
after_dashes = (0x2010, 0xFB1C) ∷ []

rtl_outside_dashes : (c : ℕ) → c ≤ 0x10_FFFF → apart (bidi_class c) (in_ranges after_dashes c) ≡ true
unfolding tables bidi_class_stepped
rtl_outside_dashes = Stepped-always (λ c. apart (bidi_class c) (in_ranges after_dashes c)) (zip_stepped apart bidi_class (in_ranges after_dashes) bidi_class_stepped (of_ranges after_dashes refl)) refl

pub right-after_dashes : (c : ℕ) → 0x2010 ≤ c → c ≤ 0xFB1C → right c ≡ false
unfolding in_ranges
right-after_dashes c low high =
    let outside = rw (le-leb 0x2010 c low, le-leb c 0xFB1C high) at (rtl_outside_dashes c (omega arith)) in grind arith

-- no code point that lacks the fact is R, AL or AN
right-lacks : (label : List ℕ) → Lacks RightToLeft label → list_any right label ≡ false
unfolding standard_bidi_class
right-lacks [] none = refl
right-lacks (c ∷ label) none =
    let parts = or_parts (has_fact RightToLeft c) (list_any (has_fact RightToLeft) label) none in
    ap₂ (λ a b. a || b) (sym (rtl_named (bidi_class c)) ∙ rtl_without Unicode c parts.0) (right-lacks label parts.1)

-- ---- what each decoded label has

module _ (properties : Properties) where
  -- no label that may be registered has a full stop
  no_stop : (c : ℕ) → fault_of_class (class_of properties c) ≡ None → is_full_stop c ≡ false
  no_stop c none = elim (cases_Bool (is_full_stop c)) [
    | inr other ↦ other
    | inl stop ↦
        let is : c ≡ 0x2E = eqb-true c 0x2E stop in
        let ldh = is_ldh_point-permitted properties 0x2E (omega arith) (ap (λ x. fault_of_class (class_of properties x)) (sym is) ∙ none) in
        let clash : false ≡ true = ldh in cc
  ]

  without_stop : (label : List ℕ) → IsRegistrable properties label → HasNoFullStop label
  without_stop label registrable = All-weaker _ (λ c. is_full_stop c ≡ false) no_stop label (MeetsRequirements-registrable properties label registrable).permitted

  module _ (P : List ℕ → Type 0) (registered : (label : List ℕ) → IsRegistrable properties label → P label) where
    decoded_one : (label decoded : List ℕ) → P label → decoded_label properties label ≡ Ok decoded → P decoded
    decoded_one label decoded own is = elim (cases_Bool (has_ace_prefix (map to_ascii_lowercase label))) [
      | inl coded ↦ registered decoded (u_label_answer-from properties _ decoded (sym (decoded_label-coded properties label coded) ∙ is)).0
      | inr other ↦
          let both : Ok label ≡ Ok decoded = sym (decoded_label-other properties label other) ∙ is in
          let same : label ≡ decoded = cc in
          subst P same own
    ]

    -- what holds of each label of a name, and of each that may be registered, holds of each label once it is decoded
    decoded_all : (labels decoded : List (List ℕ)) → AllByRecursion P labels → decoded_labels properties labels ≡ Ok decoded → AllByRecursion P decoded
    unfolding decoded_labels
    decoded_all [] decoded all is = let same : [] ≡ decoded = (let both : Ok [] ≡ Ok decoded = is in cc) in subst (AllByRecursion P) same tt
    decoded_all (label ∷ labels) decoded all is = step (decoded_all labels) (decoded_label properties label) (decoded_labels properties labels) refl refl is
      where
        step : ((others : List (List ℕ)) → AllByRecursion P labels → decoded_labels properties labels ≡ Ok others → AllByRecursion P others) → (first : Answer) (others : Result (List (List ℕ)) Refusal) → decoded_label properties label ≡ first → decoded_labels properties labels ≡ others → with_others first others ≡ Ok decoded → AllByRecursion P decoded
        step rest (Err refusal) others one more e = absurd (let clash : Err refusal ≡ Ok decoded = e in cc)
        step rest (Ok l) (Err refusal) one more e = absurd (let clash : Err refusal ≡ Ok decoded = e in cc)
        step rest (Ok l) (Ok ls) one more e =
            let same : l ∷ ls ≡ decoded = cc in
            subst (AllByRecursion P) same (decoded_one label l all.0 one, rest ls all.1 more)

  -- there is a first one
  decoded_first : (name : List ℕ) (decoded : List (List ℕ)) → decoded_labels properties (labels_of name) ≡ Ok decoded → (l : List ℕ) × (ls : List (List ℕ)) × (decoded ≡ l ∷ ls)
  unfolding decoded_labels
  decoded_first name decoded is =
      let parts = labels_of_cons name in
      step (decoded_label properties parts.0) (decoded_labels properties parts.1) (sym (ap (decoded_labels properties) parts.2) ∙ is)
    where
      step : (first : Answer) (others : Result (List (List ℕ)) Refusal) → with_others first others ≡ Ok decoded → (l : List ℕ) × (ls : List (List ℕ)) × (decoded ≡ l ∷ ls)
      step (Err refusal) others e = absurd (let clash : Err refusal ≡ Ok decoded = e in cc)
      step (Ok l) (Err refusal) e = absurd (let clash : Err refusal ≡ Ok decoded = e in cc)
      step (Ok l) (Ok ls) e = (l, ls, cc)

  -- the labels of the decoded name are the decoded labels
  labels_kept : (name : List ℕ) (decoded : List (List ℕ)) → decoded_labels properties (labels_of name) ≡ Ok decoded → labels_of (join_labels decoded) ≡ decoded
  labels_kept name decoded is =
      let first = decoded_first name decoded is in
      let all = decoded_all HasNoFullStop without_stop (labels_of name) decoded (recursion_from_All HasNoFullStop (labels_of name) (HasNoFullStop-labels_of name)) is in
      let none : All HasNoFullStop (first.0 ∷ first.1) = subst (All HasNoFullStop) first.2 (All-from_recursion HasNoFullStop decoded all) in
      ap (λ ls. labels_of (join_labels ls)) first.2 ∙ labels_of-join_labels first.0 first.1 none ∙ sym first.2

  -- they are told by the decoded name
  pub decoded_name-labels : (name text : List ℕ) → decoded_name properties name ≡ Ok text → decoded_labels properties (labels_of name) ≡ Ok (labels_of text)
  unfolding decoded_name
  decoded_name-labels name text is = step (decoded_labels properties (labels_of name)) refl is
    where
      step : (labels : Result (List (List ℕ)) Refusal) → decoded_labels properties (labels_of name) ≡ labels → and_then labels (λ ls. Ok (join_labels ls)) ≡ Ok text → decoded_labels properties (labels_of name) ≡ Ok (labels_of text)
      step (Err refusal) own e = absurd (let clash : Err refusal ≡ Ok text = e in cc)
      step (Ok ls) own e =
          let same : join_labels ls ≡ text = cc in
          own ∙ ap Ok (sym (sym (ap labels_of same) ∙ labels_kept name ls own))

  pub decoded_name-refused : (name : List ℕ) (refusal : Refusal) → decoded_name properties name ≡ Err refusal → decoded_labels properties (labels_of name) ≡ Err refusal
  unfolding decoded_name
  decoded_name-refused name refusal is = step (decoded_labels properties (labels_of name)) is
    where
      step : (labels : Result (List (List ℕ)) Refusal) → and_then labels (λ ls. Ok (join_labels ls)) ≡ Err refusal → labels ≡ Err refusal
      step (Err first) e = let same : first ≡ refusal = cc in ap Err same
      step (Ok ls) e = absurd (let clash : Ok (join_labels ls) ≡ Err refusal = e in cc)

  -- ---- the answer for a name, once its labels are decoded

  abbrev pub whole : List ℕ → Answer
  whole text = unless_fault (name_fault properties (labels_of text)) (Ok text)

  pub decode_answer-whole : (name : List ℕ) → decode_answer properties name ≡ and_then (decoded_name properties name) whole
  unfolding decode_answer decoded_name
  decode_answer-whole name = step (decoded_labels properties (labels_of name)) refl
    where
      step : (labels : Result (List (List ℕ)) Refusal) → decoded_labels properties (labels_of name) ≡ labels
          → and_then labels (λ ls. unless_fault (name_fault properties ls) (Ok (join_labels ls))) ≡ and_then (and_then labels (λ ls. Ok (join_labels ls))) whole
      step (Err refusal) is = refl
      step (Ok ls) is = ap (λ parts. unless_fault (name_fault properties parts) (Ok (join_labels ls))) (sym (labels_kept name ls is))

  -- one label alone passes by its own test
  one_passes : (chosen : Properties) (label : List ℕ) → IsRegistrable chosen label → name_fault chosen (label ∷ []) ≡ None
  one_passes Profile label registrable = refl
  one_passes Unicode label registrable = cond-true _ _ _ (sym (one_label label) ∙ (faultless Unicode label registrable).bidi)

  pub decode_answer-a_label : (label : List ℕ) → IsRegistrable properties label → decode_answer properties (a_label_of label) ≡ Ok label
  decode_answer-a_label label registrable =
      let alone : labels_of label ≡ label ∷ [] = slice_split_none is_full_stop label (without_stop label registrable) in
      decode_answer-whole (a_label_of label)
      ∙ ap (λ answer. and_then answer whole) (decoded_name-a_label properties label registrable)
      ∙ ap (λ fault. unless_fault fault (Ok label)) (ap (name_fault properties) alone ∙ one_passes properties label registrable)

  -- ---- as UTF-8

  scalar_label : (label : List ℕ) → IsRegistrable properties label → AreScalarValues label
  scalar_label = registrable_scalars properties

  -- the decoded name has scalar values alone
  scalar_name : (name text : List ℕ) → AreScalarValues name → decoded_name properties name ≡ Ok text → AreScalarValues text
  unfolding decoded_name
  scalar_name name text scalars is = step (decoded_labels properties (labels_of name)) refl is
    where
      own : All AreScalarValues (labels_of name)
      own = All-labels_of IsScalarValue name (All-weaker IsScalarValue (λ c. is_full_stop c ≡ false → IsScalarValue c) (λ c scalar _. scalar) name scalars)

      step : (labels : Result (List (List ℕ)) Refusal) → decoded_labels properties (labels_of name) ≡ labels → and_then labels (λ ls. Ok (join_labels ls)) ≡ Ok text → AreScalarValues text
      step (Err refusal) all e = absurd (let clash : Err refusal ≡ Ok text = e in cc)
      step (Ok ls) all e =
          let same : join_labels ls ≡ text = cc in
          subst AreScalarValues same
          (All-join_labels IsScalarValue ls refl
          (All-from_recursion AreScalarValues ls (decoded_all AreScalarValues scalar_label (labels_of name) ls (recursion_from_All AreScalarValues (labels_of name) own) all)))

  pub decode_answer-scalars : (name text : List ℕ) → AreScalarValues name → decode_answer properties name ≡ Ok text → AreScalarValues text
  decode_answer-scalars name text scalars is = step (decoded_name properties name) refl (sym (decode_answer-whole name) ∙ is)
    where
      by_fault : (own : List ℕ) (fault : Option Refusal) → unless_fault fault (Ok own) ≡ Ok text → own ≡ text
      by_fault own None e = cc
      by_fault own (Some refusal) e = absurd (let clash : Err refusal ≡ Ok text = e in cc)

      step : (decoded : Answer) → decoded_name properties name ≡ decoded → and_then decoded whole ≡ Ok text → AreScalarValues text
      step (Err refusal) own e = absurd (let clash : Err refusal ≡ Ok text = e in cc)
      step (Ok some) own e = subst AreScalarValues (by_fault some (name_fault properties (labels_of some)) e) (scalar_name name some scalars own)

  abbrev pub whole_utf8 : List ℕ → Answer
  whole_utf8 octets = unless_fault (name_fault properties (labels_of (chars octets))) (Ok octets)

  -- the octets of a decoded name, by its code points
  utf8_points : (bytes text : List ℕ) → is_utf8 bytes ≡ true → decoded_name properties (chars bytes) ≡ Ok text → IsUtf8Of (utf8_of text) text
  utf8_points bytes text utf8 is =
      let spelled = spelled_by bytes utf8 in
      let scalars = subst AreScalarValues (sym (points_from_utf8 bytes spelled.0 spelled.1)) spelled.1.scalar_values in
      record { scalar_values = scalar_name (chars bytes) text scalars is; encoded = refl }

  pub decode_utf8_answer-whole : (bytes : List ℕ) → decode_utf8_answer properties bytes ≡ and_then (decoded_utf8 properties bytes) whole_utf8
  unfolding decode_utf8_answer decoded_utf8
  decode_utf8_answer-whole bytes = by_test (is_utf8 bytes) refl
    where
      in_octets : (text : List ℕ) (fault : Option Refusal) → in_utf8 (unless_fault fault (Ok text)) ≡ unless_fault fault (Ok (utf8_of text))
      in_octets text None = refl
      in_octets text (Some refusal) = refl

      step : (utf8 : is_utf8 bytes ≡ true) (name : Answer) → decoded_name properties (chars bytes) ≡ name → in_utf8 (and_then name whole) ≡ and_then (in_utf8 name) whole_utf8
      step utf8 (Err refusal) is = refl
      step utf8 (Ok text) is =
          in_octets text (name_fault properties (labels_of text))
          ∙ ap (λ points. unless_fault (name_fault properties (labels_of points)) (Ok (utf8_of text))) (sym (points_from_utf8 (utf8_of text) text (utf8_points bytes text utf8 is)))

      by_test : (b : Bool) → is_utf8 bytes ≡ b
          → cond b (in_utf8 (decode_answer properties (chars bytes))) (Err NotUtf8) ≡ and_then (cond b (in_utf8 (decoded_name properties (chars bytes))) (Err NotUtf8)) whole_utf8
      by_test true e = ap in_utf8 (decode_answer-whole (chars bytes)) ∙ step e (decoded_name properties (chars bytes)) refl
      by_test false e = refl

  pub decode_utf8_answer-other : (bytes : List ℕ) → ¬ (IsUtf8 bytes) → decode_utf8_answer properties bytes ≡ Err NotUtf8
  unfolding decode_utf8_answer
  decode_utf8_answer-other bytes none = elim (cases_Bool (is_utf8 bytes)) [
    | inl utf8 ↦ absurd (none (IsUtf8-from_is_utf8 bytes utf8))
    | inr other ↦ cond-false _ _ _ other
  ]

  pub decoded_utf8-is_utf8 : (bytes octets : List ℕ) → decoded_utf8 properties bytes ≡ Ok octets → IsUtf8 octets
  unfolding decoded_utf8
  decoded_utf8-is_utf8 bytes octets is = by_test (is_utf8 bytes) refl is
    where
      step : (utf8 : is_utf8 bytes ≡ true) (name : Answer) → decoded_name properties (chars bytes) ≡ name → in_utf8 name ≡ Ok octets → IsUtf8 octets
      step utf8 (Err refusal) own e = absurd (let clash : Err refusal ≡ Ok octets = e in cc)
      step utf8 (Ok text) own e =
          let same : utf8_of text ≡ octets = cc in
          subst IsUtf8 same (IsUtf8-from_points (utf8_of text) text (utf8_points bytes text utf8 own))

      by_test : (b : Bool) → is_utf8 bytes ≡ b → cond b (in_utf8 (decoded_name properties (chars bytes))) (Err NotUtf8) ≡ Ok octets → IsUtf8 octets
      by_test true e i = step e (decoded_name properties (chars bytes)) refl i
      by_test false e i = absurd (let clash : Err NotUtf8 ≡ Ok octets = i in cc)

  -- ---- names without R, AL and AN

  pub keeps-none : KeepsLeftToRight properties []
  unfolding decoded_labels is_bidi_domain
  keeps-none none decoded is = let same : [] ≡ decoded = (let both : Ok [] ≡ Ok decoded = is in cc) in subst (λ (labels : List (List ℕ)). is_bidi_domain labels ≡ false) same refl

  -- one label gets none
  abbrev pub LabelKeeps : List ℕ → Type 0
  LabelKeeps label = list_any right label ≡ false → (decoded : List ℕ) → decoded_label properties label ≡ Ok decoded → list_any right decoded ≡ false

  pub keeps-more : (label : List ℕ) (labels : List (List ℕ)) → LabelKeeps label → KeepsLeftToRight properties labels → KeepsLeftToRight properties (label ∷ labels)
  unfolding decoded_labels is_bidi_domain
  keeps-more label labels first others none decoded is = step (decoded_label properties label) (decoded_labels properties labels) refl refl is
    where
      step : (one : Answer) (more : Result (List (List ℕ)) Refusal) → decoded_label properties label ≡ one → decoded_labels properties labels ≡ more → with_others one more ≡ Ok decoded → is_bidi_domain decoded ≡ false
      step (Err refusal) more own rest e = absurd (let clash : Err refusal ≡ Ok decoded = e in cc)
      step (Ok l) (Err refusal) own rest e = absurd (let clash : Err refusal ≡ Ok decoded = e in cc)
      step (Ok l) (Ok ls) own rest e =
          let same : l ∷ ls ≡ decoded = cc in
          let parts = or_parts (list_any right label) (list_any (list_any right) labels) none in
          subst (λ (all : List (List ℕ)). is_bidi_domain all ≡ false) same
          (ap₂ (λ a b. a || b) (first parts.0 l own) (others parts.1 ls rest))

  -- what an A-label stands for has none by its facts
  pub keeps-coded : (label decoded : List ℕ) (facts : Facts) → IsUtf8 label → begins_with_prefix label ≡ true → u_label_answer properties (map to_ascii_lowercase label) ≡ Ok decoded → AreFactsOf facts decoded → contains facts RightToLeft ≡ false → LabelKeeps (chars label)
  keeps-coded label decoded facts utf8 coded is are lacks none text own =
      let both : Ok decoded ≡ Ok text = sym is ∙ sym (decoded_label-chars properties label utf8 coded) ∙ own in
      let same : decoded ≡ text = cc in
      subst (λ (l : List ℕ). list_any right l ≡ false) same (right-lacks decoded (sym (are RightToLeft) ∙ lacks))

  pub keeps-other : (label : List ℕ) → IsUtf8 label → begins_with_prefix label ≡ false → LabelKeeps (chars label)
  keeps-other label utf8 other none text own =
      let both : Ok (chars label) ≡ Ok text = sym (decoded_label-other properties (chars label) (begins_with_prefix-chars label utf8 ∙ other)) ∙ own in
      let same : chars label ≡ text = cc in
      subst (λ (l : List ℕ). list_any right l ≡ false) same none

  -- a decoded name has none by its labels
  pub decoded_utf8-ltr : (name octets : List ℕ) → KeepsLeftToRight properties (labels_of (chars name)) → list_any right (chars name) ≡ false → decoded_utf8 properties name ≡ Ok octets → list_any right (chars octets) ≡ false
  unfolding decoded_utf8 is_bidi_domain
  decoded_utf8-ltr name octets keeps none is = by_test (is_utf8 name) refl is
    where
      step : (utf8 : is_utf8 name ≡ true) (decoded : Answer) → decoded_name properties (chars name) ≡ decoded → in_utf8 decoded ≡ Ok octets → list_any right (chars octets) ≡ false
      step utf8 (Err refusal) own e = absurd (let clash : Err refusal ≡ Ok octets = e in cc)
      step utf8 (Ok text) own e =
          let both : Ok (utf8_of text) ≡ Ok octets = e in
          let same : utf8_of text ≡ octets = cc in
          let points : chars octets ≡ text = sym (ap chars same) ∙ points_from_utf8 (utf8_of text) text (utf8_points name text utf8 own) in
          ap (list_any right) points
          ∙ sym (list_any-labels_of right text left_to_right-full_stop)
          ∙ keeps (list_any-labels_of right (chars name) left_to_right-full_stop ∙ none) (labels_of text) (decoded_name-labels (chars name) text own)

      by_test : (b : Bool) → is_utf8 name ≡ b → cond b (in_utf8 (decoded_name properties (chars name))) (Err NotUtf8) ≡ Ok octets → list_any right (chars octets) ≡ false
      by_test true e i = step e (decoded_name properties (chars name)) refl i
      by_test false e i = absurd (let clash : Err NotUtf8 ≡ Ok octets = i in cc)

-- ---- labels that begin right-to-left

-- a label that may be registered has passed the rule by itself
registered_rtl : (label : List ℕ) → IsRegistrable Unicode label → PassesIfRtl label
unfolding is_bidi_domain
registered_rtl [] registrable begins = absurd (let clash : false ≡ true = begins in cc)
registered_rtl (c ∷ label) registrable begins =
    decided (right c) (list_any right label) (passes_bidi_rule (c ∷ label)) begins (sym (one_label (c ∷ label)) ∙ (faultless Unicode (c ∷ label) registrable).bidi)
  where
    decided : (first others passes : Bool) → first ≡ true → (not ((first || others) || false) || (passes && true)) ≡ true → passes ≡ true
    decided true others true is both = refl
    decided true others false is both = both
    decided false others passes is both = let clash : false ≡ true = is in cc

none_rtl : (label : List ℕ) → list_any right label ≡ false → PassesIfRtl label
none_rtl [] none begins = absurd (let clash : false ≡ true = begins in cc)
none_rtl (c ∷ label) none begins =
    let parts = or_parts (right c) (list_any right label) none in
    let clash : false ≡ true = sym parts.0 ∙ begins in cc

none_rtl-each : (labels : List (List ℕ)) → list_any (list_any right) labels ≡ false → AllByRecursion PassesIfRtl labels
none_rtl-each [] none = tt
none_rtl-each (label ∷ labels) none =
    let parts = or_parts (list_any right label) (list_any (list_any right) labels) none in
    (none_rtl label parts.0, none_rtl-each labels parts.1)

-- those of a name without R, AL and AN were A-labels
pub rtl-tested : (name octets : List ℕ) → list_any right (chars name) ≡ false → decoded_utf8 Unicode name ≡ Ok octets → AllByRecursion PassesIfRtl (labels_of (chars octets))
unfolding decoded_utf8
rtl-tested name octets none is = by_test (is_utf8 name) refl is
  where
    own : AllByRecursion PassesIfRtl (labels_of (chars name))
    own = none_rtl-each (labels_of (chars name)) (list_any-labels_of right (chars name) left_to_right-full_stop ∙ none)

    step : (utf8 : is_utf8 name ≡ true) (decoded : Answer) → decoded_name Unicode (chars name) ≡ decoded → in_utf8 decoded ≡ Ok octets → AllByRecursion PassesIfRtl (labels_of (chars octets))
    step utf8 (Err refusal) told e = absurd (let clash : Err refusal ≡ Ok octets = e in cc)
    step utf8 (Ok text) told e =
        let both : Ok (utf8_of text) ≡ Ok octets = e in
        let same : utf8_of text ≡ octets = cc in
        let read : chars octets ≡ text = sym (ap chars same) ∙ points_from_utf8 (utf8_of text) text (utf8_points Unicode name text utf8 told) in
        subst (λ (p : List ℕ). AllByRecursion PassesIfRtl (labels_of p)) (sym read)
        (decoded_all Unicode PassesIfRtl registered_rtl (labels_of (chars name)) (labels_of text) own (decoded_name-labels Unicode (chars name) text told))

    by_test : (b : Bool) → is_utf8 name ≡ b → cond b (in_utf8 (decoded_name Unicode (chars name))) (Err NotUtf8) ≡ Ok octets → AllByRecursion PassesIfRtl (labels_of (chars octets))
    by_test true e i = step e (decoded_name Unicode (chars name)) refl i
    by_test false e i = absurd (let clash : Err NotUtf8 ≡ Ok octets = i in cc)

-- ---- the rule, of code points

-- the test of all labels, by the tests of the name and of each label
pub passes_bidi-tested : (name : List ℕ) → (not (list_any (λ c. is_rtl (bidi_class c)) name) || list_all passes_bidi_rule (labels_of name)) ≡ passes_bidi (labels_of name)
unfolding is_bidi_domain
passes_bidi-tested name = ap (λ b. not b || list_all passes_bidi_rule (labels_of name)) (sym (list_any-labels_of (λ c. is_rtl (bidi_class c)) name left_to_right-full_stop))

-- ---- of numbers

letter : bidi_class 0x61 ≡ LeftToRight
unfolding tables bidi_class bidi_class_rows
letter = refl

-- a number that is no character is L, as the letter that stands for it is
shown_class : (c : ℕ) → bidi_class (shown c) ≡ bidi_class c
shown_class c = elim (cases_Bool (is_scalar_value c)) [
  | inl scalar ↦ ap bidi_class (cond-true _ _ _ scalar)
  | inr other ↦ ap bidi_class (cond-false _ _ _ other) ∙ letter ∙ sym (elim (cases_lt c 0xE000) [
    | inl surrogate ↦ bidi_class-surrogate c (grind (arith, nat_tests)) (omega arith)
    | inr high ↦ bidi_class-beyond c (grind (arith, nat_tests))
  ])
]

shown_stop : (c : ℕ) → is_full_stop (shown c) ≡ is_full_stop c
shown_stop c = grind (arith, nat_tests)

shown_labels : (name : List ℕ) → labels_of (map shown name) ≡ map (map shown) (labels_of name)
shown_labels [] = refl
shown_labels (c ∷ name) =
    let parts = labels_of_cons name in
    elim (cases_Bool (is_full_stop c)) [
      | inl stop ↦
          slice_split-yes is_full_stop (shown c) (map shown name) (shown_stop c ∙ stop)
          ∙ ap (λ ls. [] ∷ ls) (shown_labels name) ∙ sym (ap (map (map shown)) (slice_split-yes is_full_stop c name stop))
      | inr other ↦
          slice_split-no is_full_stop (shown c) (map shown name) (shown_stop c ∙ other)
          ∙ ap (onto_first (shown c)) (shown_labels name ∙ ap (map (map shown)) parts.2)
          ∙ sym (ap (map (map shown)) (slice_split-no is_full_stop c name other ∙ ap (onto_first c) parts.2))
    ]

shown_classes : (label : List ℕ) → map bidi_class (map shown label) ≡ map bidi_class label
shown_classes [] = refl
shown_classes (c ∷ label) = ap₂ (λ k ks. k ∷ ks) (shown_class c) (shown_classes label)

shown_rule : (label : List ℕ) → passes_bidi_rule (map shown label) ≡ passes_bidi_rule label
unfolding passes_bidi_rule
shown_rule [] = refl
shown_rule (c ∷ label) = ap₂ passes_by_first (shown_class c) (shown_classes (c ∷ label))

shown_rules : (labels : List (List ℕ)) → list_all passes_bidi_rule (map (map shown) labels) ≡ list_all passes_bidi_rule labels
shown_rules [] = refl
shown_rules (label ∷ labels) = ap₂ (λ a b. a && b) (shown_rule label) (shown_rules labels)

shown_rtl : (name : List ℕ) → list_any (λ c. is_rtl (bidi_class c)) (map shown name) ≡ list_any (λ c. is_rtl (bidi_class c)) name
shown_rtl [] = refl
shown_rtl (c ∷ name) = ap₂ (λ k b. is_rtl k || b) (shown_class c) (shown_rtl name)

pub passes_bidi-shown : (name : List ℕ) → passes_bidi (labels_of (map shown name)) ≡ passes_bidi (labels_of name)
passes_bidi-shown name =
    sym (passes_bidi-tested (map shown name))
    ∙ ap₂ (λ b ls. not b || list_all passes_bidi_rule ls) (shown_rtl name) (shown_labels name)
    ∙ ap (λ b. not (list_any (λ c. is_rtl (bidi_class c)) name) || b) (shown_rules (labels_of name))
    ∙ passes_bidi-tested name

-- ---- what functions name

pub ruleset decoded_whole = (decode_answer-whole, decode_answer-a_label)
