-- A name in UTF-8 is cut and read by its octets as by its code points.
use Rattle.std.proofs.Common.{◌≡◌, ℕ, ◌+◌, ◌/◌, ◌%◌, ◌<◌, ◌≤◌, ◌==◌, ◌&&◌, Bool, true, false, List, [], ◌∷◌, ◌++◌, map, length, drop, slice_range, get_or, chars, codes, All, nat_eq, Ok, Err, if◌then◌else◌, refl, sym, ap, subst, ◌∙◌, inl, inr, lit<, length-append, eqb-true, eq-eqb, arith}
use Rattle.std.specs.Char.{encode_utf8, to_ascii_lowercase}
use Rattle.std.specs.List.{AllByRecursion, starts_with}
use Rattle.std.specs.Str.{IsAscii, IsUtf8}
use Rattle.std.proofs.Math.Seq.{take-append_seam, drop-append-add, get_or-append_seam}
use Rattle.std.proofs.lemmas.Bool.{both_ways, cases_Bool, cases_lt, cond-true, cond-false}
use Rattle.std.proofs.lemmas.Bool.Decides.{nat_tests}
use Rattle.std.proofs.lemmas.List.Elements.{All-head, All-from_recursion, recursion_from_All}
use Rattle.std.proofs.lemmas.List.Splits.{slice_split_at, slice_split_none}
use Rattle.std.proofs.lemmas.Str.{IsCharBoundary-before_ascii, IsCharBoundary-after_ascii, IsUtf8-take, IsUtf8-drop, IsUtf8-from_ascii, chars-append, chars-IsAscii, encode_ascii, encodes-IsAscii, encodes-chars, is_utf8-from_IsUtf8}
use Rattle.std.proofs.lemmas.Str.Ascii.{IsAscii-nil, IsAscii-cons}
use Rattle.idna.specs.Labels.{is_full_stop, labels_of, join_labels}
use Rattle.idna.specs.Validity.{has_ace_prefix, is_all_ascii}
use Rattle.idna.proofs.LabelsLemmas.{HasNoFullStop, HasNoFullStop-labels_of, labels_of_cons, join_labels-labels_of}
use Rattle.idn_text.specs.Points.{utf8_of}
use Rattle.idn_text.specs.declared.refusal.Refusal.{Refusal}
use Rattle.idn_text.proofs.Utf8Lemmas.{encode_utf8-two, encode_utf8-three, encode_utf8-four}
use Rattle.idn_label.specs.Answers.{Answer}
use Rattle.idn_label.specs.Decode.{decoded_label, decoded_name}
use Rattle.idn_label.specs.inner.DecodedNames.{decoded_utf8}
use Rattle.idn_label.specs.LabelEnds.{EndsLabel}
use Rattle.idn_label.specs.Register.{u_label_answer}
use Rattle.idn_label.specs.Steps.{begins_with_prefix, in_utf8}
use Rattle.idn_label.proofs.ALabels.{refused-past_ascii}
use Rattle.idn_label.proofs.DecodeLemmas.{followed, in_utf8-followed, decoded_label-coded, decoded_label-other, decoded_name-last, decoded_name-more}
use Rattle.idn_label.proofs.LabelsByPlace.{label_last, label_before}
use Rattle.idn_label.proofs.LdhLemmas.{is_all_ascii-octets}
use Rattle.idn_label.proofs.LowerCase.{is_all_ascii-lower}
use Rattle.idn_class.specs.declared.properties.Properties.{Properties}

-- ---- full stops

-- the first label of a name, a full stop and the others
first_label : (name label others : List ℕ) → labels_of name ≡ label ∷ labels_of others → name ≡ label ++ 0x2E ∷ others
first_label name label others parts =
    let more = labels_of_cons others in
    let rest : join_labels (more.0 ∷ more.1) ≡ others = ap join_labels (sym more.2) ∙ join_labels-labels_of others in
    sym (join_labels-labels_of name) ∙ ap join_labels parts ∙ ap (λ (labels : List (List ℕ)). join_labels (label ∷ labels)) more.2
    ∙ ap (λ (text : List ℕ). label ++ 0x2E ∷ text) rest

rest_all : (P : ℕ → Type 0) (xs ys : List ℕ) → AllByRecursion P (xs ++ ys) → AllByRecursion P ys
rest_all P [] ys all = all
rest_all P (x ∷ xs) ys all = rest_all P xs ys all.1

abbrev IsNoStop : ℕ → Type 0
IsNoStop c = is_full_stop c ≡ false

-- where no octet is a full stop, no code point is
points_without_stop : (points : List ℕ) → AllByRecursion IsNoStop (utf8_of points) → AllByRecursion IsNoStop points
points_without_stop [] none = tt
points_without_stop (c ∷ cs) none = (first (is_full_stop c) refl, points_without_stop cs (rest_all IsNoStop (encode_utf8 c) (utf8_of cs) none))
  where
    first : (b : Bool) → is_full_stop c ≡ b → is_full_stop c ≡ false
    first false e = e
    first true e =
        let small : c < 128 = let is : c ≡ 0x2E = eqb-true c 0x2E e in omega arith in
        let octets : AllByRecursion IsNoStop (c ∷ utf8_of cs) = subst (λ (l : List ℕ). AllByRecursion IsNoStop (l ++ utf8_of cs)) (encode_ascii c small) none in
        octets.0

label_without_stop : (label : List ℕ) → IsUtf8 label → HasNoFullStop label → HasNoFullStop (chars label)
label_without_stop label utf8 none =
    All-from_recursion IsNoStop (chars label)
    (points_without_stop (chars label) (subst (AllByRecursion IsNoStop) (sym (encodes-chars label utf8)) (recursion_from_All IsNoStop label none)))

first_without_stop : (name label : List ℕ) (others : List (List ℕ)) → labels_of name ≡ label ∷ others → HasNoFullStop label
first_without_stop name label others parts = All-head HasNoFullStop label others (subst (All HasNoFullStop) parts (HasNoFullStop-labels_of name))

-- a full stop stands between characters
utf8_around : (label others : List ℕ) → IsUtf8 (label ++ 0x2E ∷ others) → IsUtf8 label × IsUtf8 others
utf8_around label others utf8 =
    let name = label ++ 0x2E ∷ others in
    let stop : get_or name (length label) 0 ≡ 0x2E = get_or-append_seam label 0x2E others 0 in
    let within : length label < length name = omega (arith, length-append label (0x2E ∷ others)) in
    let ascii : get_or name (length label) 0 < 128 = omega arith in (
      subst IsUtf8 (take-append_seam label (0x2E ∷ others)) (IsUtf8-take name (length label) utf8 (IsCharBoundary-before_ascii name (length label) within ascii)),
      subst IsUtf8 (drop-append-add label (0x2E ∷ others) 1) (IsUtf8-drop name (length label + 1) utf8 (IsCharBoundary-after_ascii name (length label) utf8 within ascii)),
    )

chars_around : (label others : List ℕ) → IsUtf8 label → chars (label ++ 0x2E ∷ others) ≡ chars label ++ 0x2E ∷ chars others
chars_around label others utf8 = chars-append label (0x2E ∷ others) utf8 ∙ ap (λ (l : List ℕ). chars label ++ l) (after_stop others)
  where
    after_stop : (text : List ℕ) → chars (0x2E ∷ text) ≡ 0x2E ∷ chars text
    after_stop text =
        let ascii : IsAscii (0x2E ∷ []) = IsAscii-cons 0x2E [] (lit< tt) IsAscii-nil in
        chars-append (0x2E ∷ []) text (IsUtf8-from_ascii (0x2E ∷ []) ascii) ∙ ap (λ (l : List ℕ). l ++ chars text) (chars-IsAscii (0x2E ∷ []) ascii)

-- the labels that the code points have
pub labels_of-more : (name label others : List ℕ) → IsUtf8 name → labels_of name ≡ label ∷ labels_of others → IsUtf8 label × IsUtf8 others × (labels_of (chars name) ≡ chars label ∷ labels_of (chars others))
labels_of-more name label others utf8 parts =
    let whole = first_label name label others parts in
    let around = utf8_around label others (subst IsUtf8 whole utf8) in
    let none = label_without_stop label around.0 (first_without_stop name label (labels_of others) parts) in (
      around.0,
      around.1,
      ap labels_of (ap chars whole ∙ chars_around label others around.0) ∙ slice_split_at is_full_stop (chars label) 0x2E (chars others) none refl,
    )

pub labels_of-last : (name label : List ℕ) → IsUtf8 name → labels_of name ≡ label ∷ [] → IsUtf8 label × (labels_of (chars name) ≡ chars label ∷ [])
labels_of-last name label utf8 parts =
    let whole : name ≡ label = sym (join_labels-labels_of name) ∙ ap join_labels parts in
    let own = subst IsUtf8 whole utf8 in (
      own,
      ap (λ (l : List ℕ). labels_of (chars l)) whole ∙ slice_split_none is_full_stop (chars label) (label_without_stop label own (first_without_stop name label [] parts)),
    )

-- the first label from a place on
pub labels_of-first : (name : List ℕ) (start end : ℕ) → IsUtf8 (drop start name) → EndsLabel name start end
    → IsUtf8 (slice_range name start end) × (others : List (List ℕ)) × (labels_of (chars (drop start name)) ≡ chars (slice_range name start end) ∷ others)
labels_of-first name start end utf8 ends = elim (cases_Bool (end == length name)) [
  | inl is ↦ let own = labels_of-last (drop start name) _ utf8 (label_last name start end ends (eqb-true end (length name) is)) in (own.0, [], own.1)
  | inr other ↦
      let own = labels_of-more (drop start name) _ (drop (end + 1) name) utf8 (label_before name start end ends (λ e. both_ways _ other (eq-eqb end (length name) e))) in
      (own.0, labels_of (chars (drop (end + 1) name)), own.2)
]

-- ---- the prefix

-- a code point past ASCII begins with an octet past ASCII
first_octet : (c : ℕ) → 128 ≤ c → (octet : ℕ) × (more : List ℕ) × (128 ≤ octet) × (encode_utf8 c ≡ octet ∷ more)
first_octet c past = elim (cases_lt c 0x800) [
  | inl two ↦ (0xC0 + c / 0x40, (0x80 + c % 0x40) ∷ [], omega arith, encode_utf8-two c past two)
  | inr more ↦ elim (cases_lt c 0x1_0000) [
    | inl three ↦ (0xE0 + c / 0x1000, (0x80 + c / 0x40 % 0x40) ∷ (0x80 + c % 0x40) ∷ [], omega arith, encode_utf8-three c more three)
    | inr four ↦ (0xF0 + c / 0x4_0000, (0x80 + c / 0x1000 % 0x40) ∷ (0x80 + c / 0x40 % 0x40) ∷ (0x80 + c % 0x40) ∷ [], omega arith, encode_utf8-four c four)
  ]
]

differs : (letter c : ℕ) → letter < 128 → 128 ≤ c → nat_eq letter (to_ascii_lowercase c) ≡ false
differs letter c small past = grind (arith, nat_tests)

-- octets begin with a text in ASCII where their code points do
begins : (text points : List ℕ) → AllByRecursion (λ b. b < 128) text → starts_with nat_eq (map to_ascii_lowercase (utf8_of points)) text ≡ starts_with nat_eq (map to_ascii_lowercase points) text
begins [] points ascii = refl
begins (letter ∷ text) [] ascii = refl
begins (letter ∷ text) (c ∷ cs) ascii = elim (cases_lt c 128) [
  | inl small ↦
      rw (encode_ascii c small) (ap (λ b. nat_eq letter (to_ascii_lowercase c) && b) (begins text cs ascii.1))
  | inr past ↦
      let first = first_octet c past in
      rw (first.3, differs letter first.0 ascii.0 first.2, differs letter c ascii.0 past) refl
]

pub begins_with_prefix-chars : (label : List ℕ) → IsUtf8 label → begins_with_prefix (chars label) ≡ begins_with_prefix label
unfolding has_ace_prefix
begins_with_prefix-chars label utf8 =
    sym (begins (codes "xn--") (chars label) (lit< tt, (lit< tt, (lit< tt, (lit< tt, tt))))) ∙ ap begins_with_prefix (encodes-chars label utf8)

-- ---- a label that is decoded, as UTF-8

module _ (properties : Properties) where
  -- what an A-label stands for, and any other label as it stands
  abbrev pub decoded_octets : List ℕ → Answer
  decoded_octets label = if begins_with_prefix label then in_utf8 (u_label_answer properties (map to_ascii_lowercase label)) else Ok label

chars_past_ascii : (label : List ℕ) → IsUtf8 label → is_all_ascii label ≡ false → is_all_ascii (chars label) ≡ false
chars_past_ascii label utf8 other = elim (cases_Bool (is_all_ascii (chars label))) [
  | inl ascii ↦
      let same : label ≡ chars label = sym (encodes-chars label utf8) ∙ encodes-IsAscii (chars label) (is_all_ascii-octets (chars label) ascii) in
      absurd (both_ways _ other (ap is_all_ascii same ∙ ascii))
  | inr past ↦ past
]

module _ (properties : Properties) where
  -- a code past ASCII stands for nothing
  u_label_answer-chars : (label : List ℕ) → IsUtf8 label → begins_with_prefix label ≡ true → u_label_answer properties (map to_ascii_lowercase (chars label)) ≡ u_label_answer properties (map to_ascii_lowercase label)
  u_label_answer-chars label utf8 coded = elim (cases_Bool (is_all_ascii label)) [
    | inl ascii ↦ ap (λ (l : List ℕ). u_label_answer properties (map to_ascii_lowercase l)) (chars-IsAscii label (is_all_ascii-octets label ascii))
    | inr other ↦
        refused-past_ascii properties _ (begins_with_prefix-chars label utf8 ∙ coded) (is_all_ascii-lower (chars label) ∙ chars_past_ascii label utf8 other)
        ∙ sym (refused-past_ascii properties _ coded (is_all_ascii-lower label ∙ other))
  ]

  pub decoded_label-chars : (label : List ℕ) → IsUtf8 label → begins_with_prefix label ≡ true → decoded_label properties (chars label) ≡ u_label_answer properties (map to_ascii_lowercase label)
  decoded_label-chars label utf8 coded = decoded_label-coded properties (chars label) (begins_with_prefix-chars label utf8 ∙ coded) ∙ u_label_answer-chars label utf8 coded

  pub decoded_label-octets : (label : List ℕ) → IsUtf8 label → in_utf8 (decoded_label properties (chars label)) ≡ decoded_octets properties label
  decoded_label-octets label utf8 = elim (cases_Bool (begins_with_prefix label)) [
    | inl coded ↦
        ap in_utf8 (decoded_label-chars label utf8 coded) ∙ sym (cond-true _ _ _ coded)
    | inr other ↦
        ap in_utf8 (decoded_label-other properties (chars label) (begins_with_prefix-chars label utf8 ∙ other))
        ∙ ap Ok (encodes-chars label utf8) ∙ sym (cond-false _ _ _ other)
  ]

  -- ---- a name that is decoded, as UTF-8

  pub decoded_more : (name label others : List ℕ) → IsUtf8 name → labels_of name ≡ label ∷ labels_of others → in_utf8 (decoded_name properties (chars name)) ≡ followed (decoded_octets properties label) (in_utf8 (decoded_name properties (chars others)))
  decoded_more name label others utf8 parts =
      let more = labels_of-more name label others utf8 parts in
      ap in_utf8 (decoded_name-more properties (chars name) (chars label) (chars others) more.2) ∙ in_utf8-followed _ _
      ∙ ap (λ (first : Answer). followed first (in_utf8 (decoded_name properties (chars others)))) (decoded_label-octets label more.0)

  pub decoded_last : (name label : List ℕ) → IsUtf8 name → labels_of name ≡ label ∷ [] → in_utf8 (decoded_name properties (chars name)) ≡ decoded_octets properties label
  decoded_last name label utf8 parts =
      let last = labels_of-last name label utf8 parts in
      ap in_utf8 (decoded_name-last properties (chars name) (chars label) last.1) ∙ decoded_label-octets label last.0

  -- the first label is refused
  pub decoded_refused : (name : List ℕ) (start end : ℕ) (refusal : Refusal) → EndsLabel name start end → IsUtf8 (drop start name) → decoded_octets properties (slice_range name start end) ≡ Err refusal → in_utf8 (decoded_name properties (chars (drop start name))) ≡ Err refusal
  decoded_refused name start end refusal ends utf8 fault = elim (cases_Bool (end == length name)) [
    | inl is ↦ decoded_last (drop start name) _ utf8 (label_last name start end ends (eqb-true end (length name) is)) ∙ fault
    | inr other ↦
        decoded_more (drop start name) _ (drop (end + 1) name) utf8 (label_before name start end ends (λ e. both_ways _ other (eq-eqb end (length name) e)))
        ∙ ap (λ (first : Answer). followed first (in_utf8 (decoded_name properties (chars (drop (end + 1) name))))) fault
  ]

  pub decoded_utf8-utf8 : (bytes : List ℕ) → IsUtf8 bytes → decoded_utf8 properties bytes ≡ in_utf8 (decoded_name properties (chars bytes))
  unfolding decoded_utf8
  decoded_utf8-utf8 bytes utf8 = cond-true _ _ _ (is_utf8-from_IsUtf8 bytes utf8)
