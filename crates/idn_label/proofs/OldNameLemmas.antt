-- What the names of a zone stand for, and which labels are old ones.
use Rattle.std.proofs.Common.{◌≡◌, ◌≢◌, ◌⊎◌, ℕ, zero, suc, ◌+◌, ◌-◌, ◌/◌, ◌%◌, ◌<◌, ◌≤◌, ◌==◌, Bool, true, false, not, List, [], ◌∷◌, ◌++◌, length, take, drop, codes, chars, insert, bytes_eq, cond, All, Option, Some, None, Ok, refl, sym, ap, subst, ◌∙◌, inl, inr, arith}
use Rattle.std.specs.Char.{is_ascii, is_ascii_uppercase}
use Rattle.std.specs.Cmp.Lexicographic.{bytes_decides}
use Rattle.std.specs.List.{list_all}
use Rattle.std.specs.Option.{is_none}
use Rattle.std.specs.Str.{is_utf8}
use Rattle.std.proofs.lemmas.Str.{is_utf8-from_IsUtf8}
use Rattle.std.proofs.lemmas.Bool.{and_parts, cases_Bool, cases_lt, cond-true, cond-false, not-false, both_ways}
use Rattle.std.proofs.lemmas.Bool.Decides.{nat_tests}
use Rattle.std.proofs.lemmas.List.Elements.{All-weaker, All-append, All-cons, All-take, All-drop}
use Rattle.std.proofs.lemmas.List.Sums.{AllPass-from_list_all, list_all-from_AllPass}
use Rattle.std.proofs.lemmas.Option.{none-some}
use Rattle.idna.specs.Punycode.{encode, decode, is_scalar, adapt, read_integer, insert_all, basic_part, extended_part}
use Rattle.idna.specs.Validity.{is_all_ascii, has_ace_prefix}
use Rattle.idna.proofs.PunycodeLemmas.{decode-encode}
use Rattle.idn_punycode.proofs.DecodingSteps.{decode-not_basic, insert_all-end, insert_all-read, insert_all-unread}
use Rattle.idn_text.specs.Points.{IsScalarValue, IsUtf8Of, is_scalar_value, AreScalarValues}
use Rattle.idn_text.proofs.Utf8Lemmas.{IsUtf8-from_points, points_from_utf8}
use Rattle.idn_text.specs.declared.refusal.Refusal.{Refusal}
use Rattle.idn_text.specs.declared.refusal.Refusal.TheVariants.{NotUtf8, Empty, Disallowed, Hyphen, LabelTooLong}
use Rattle.idn_class.specs.Class.{class_of}
use Rattle.idn_class.specs.declared.properties.Properties.{Properties}
use Rattle.idn_class.specs.declared.properties.Properties.TheVariants.{Profile}
use Rattle.idn_label.specs.ALabel.{a_label_of}
use Rattle.idn_label.specs.FirstFault.{first_of, fault_if, fault_of_class, is_too_long, IsRegistrable}
use Rattle.idn_label.specs.OldNames.{if_named, stands_for, is_old_point, IsInZone, IsOld, old_fault, old_utf8_fault}
use Rattle.idn_label.specs.Register.{u_label_answer}
use Rattle.idn_label.specs.Steps.{is_ldh_point}
use Rattle.idn_label.proofs.ALabels.{a_label_of-ascii, a_label_of-other, ascii_code, coded_answer, no_prefix, registrable_scalars, scalar_points}
use Rattle.idn_label.proofs.AnswerLemmas.{decoded_code-from, u_label_answer-from}
use Rattle.idn_label.proofs.LdhLemmas.{is_ldh_point-permitted}
use Rattle.idn_label.proofs.RegisteredBytes.{utf8_of_chars}
use Rattle.idn_label.proofs.RequirementLemmas.{MeetsRequirements-registrable, not_empty, not_long, short}

-- ---- what is decoded has scalar values alone

abbrev AreScalars : List ℕ → Type 0
AreScalars label = All (λ c. is_scalar c ≡ true) label

AreScalars-insert : (label : List ℕ) (place point : ℕ) → AreScalars label → is_scalar point ≡ true → AreScalars (insert label place point)
AreScalars-insert label place point all here =
    let P = λ (c : ℕ). is_scalar c ≡ true in
    All-append P (take place label) (point ∷ drop place label) (All-take P place label all) (All-cons P point (drop place label) here (All-drop P place label all))

-- the cases of an optional value, with its equation
cases_Option : {A : Type 0} (o : Option A) → (o ≡ None) ⊎ ((x : A) × (o ≡ Some x))
cases_Option None = inl refl
cases_Option (Some x) = inr (x, refl)

inserted : (turns n i bias : ℕ) (output input label : List ℕ) → AreScalars output → insert_all turns n i bias output input ≡ Some label → AreScalars label
unfolding insert_all
inserted turns n i bias output [] label all is =
    let same : output ≡ label = (let both : Some output ≡ Some label = sym (insert_all-end turns n i bias output) ∙ is in cc) in subst AreScalars same all
inserted zero n i bias output (c ∷ input) label all is = absurd (none-some label is)
inserted (suc turns) n i bias output (c ∷ input) label all is =
    let some : 0 < length (c ∷ input) = omega arith in
    elim (cases_Option (read_integer bias 36 1 i (c ∷ input))) [
      | inl none ↦ absurd (none-some label (sym (insert_all-unread (suc turns) n i bias output (c ∷ input) some none) ∙ is))
      | inr read ↦
          let j : ℕ = (read.0).0 in
          let rest : List ℕ = (read.0).1 in
          let count : ℕ = length output + 1 in
          let point : ℕ = n + j / count in
          let longer : List ℕ = insert output (j % count) point in
          let next : Option (List ℕ) = insert_all turns point (j % count + 1) (adapt (j - i) count (i == 0)) longer rest in
          let step : cond (is_scalar point) next None ≡ Some label = sym (insert_all-read turns n i bias j output (c ∷ input) rest some read.1) ∙ is in
          elim (cases_Bool (is_scalar point)) [
            | inl good ↦
                inserted turns point (j % count + 1) (adapt (j - i) count (i == 0)) longer rest label (AreScalars-insert output (j % count) point all good)
                (sym (cond-true (is_scalar point) next None good) ∙ step)
            | inr bad ↦ absurd (none-some label (sym (cond-false (is_scalar point) next None bad) ∙ step))
          ]
    ]

scalar_ascii : (c : ℕ) → is_ascii c ≡ true → is_scalar c ≡ true
scalar_ascii c h = grind (arith, nat_tests)

scalar_value : (c : ℕ) → is_scalar c ≡ true → is_scalar_value c ≡ true
scalar_value c h = grind (arith, nat_tests)

scalar_values : (label : List ℕ) → AreScalars label → AreScalarValues label
scalar_values label all = All-weaker (λ c. is_scalar c ≡ true) IsScalarValue scalar_value label all

ascii_scalars : (label : List ℕ) → is_all_ascii label ≡ true → AreScalars label
ascii_scalars label ascii = All-weaker (λ c. is_ascii c ≡ true) _ scalar_ascii label (AllPass-from_list_all is_ascii label ascii)

pub decoded_scalars : (code label : List ℕ) → decode code ≡ Some label → AreScalarValues label
unfolding decode
decoded_scalars code label is =
    elim (cases_Bool (list_all is_ascii (basic_part code))) [
      | inl ascii ↦
          let whole : decode code ≡ insert_all (length code) 128 0 72 (basic_part code) (extended_part code) = rw ascii refl in
          scalar_values label (inserted (length code) 128 0 72 (basic_part code) (extended_part code) label (ascii_scalars (basic_part code) ascii) (sym whole ∙ is))
      | inr other ↦ absurd (none-some label (sym (decode-not_basic code (basic_part code) refl other) ∙ is))
    ]

-- ---- what a name stands for

pub stands_for-plain : (name : List ℕ) → has_ace_prefix name ≡ false → stands_for name ≡ name
unfolding stands_for
stands_for-plain name none = cond-false _ _ _ none

stands_for-prefixed : (name : List ℕ) → has_ace_prefix name ≡ true → stands_for name ≡ if_named name (decode (drop 4 name))
unfolding stands_for
stands_for-prefixed name prefix = cond-true _ _ _ prefix

pub stands_for-undecoded : (name : List ℕ) → has_ace_prefix name ≡ true → decode (drop 4 name) ≡ None → stands_for name ≡ name
stands_for-undecoded name prefix none = stands_for-prefixed name prefix ∙ ap (if_named name) none

pub stands_for-coded : (name label : List ℕ) → has_ace_prefix name ≡ true → decode (drop 4 name) ≡ Some label → a_label_of label ≡ name → stands_for name ≡ label
stands_for-coded name label prefix decoded same =
    stands_for-prefixed name prefix ∙ ap (if_named name) decoded ∙ cond-true (bytes_eq (a_label_of label) name) label name ((bytes_decides (a_label_of label) name).1 same)

pub stands_for-other : (name label : List ℕ) → has_ace_prefix name ≡ true → decode (drop 4 name) ≡ Some label → bytes_eq (a_label_of label) name ≡ false → stands_for name ≡ name
stands_for-other name label prefix decoded other =
    stands_for-prefixed name prefix ∙ ap (if_named name) decoded ∙ cond-false (bytes_eq (a_label_of label) name) label name other

-- a label in ASCII has no name but itself
pub stands_for-ascii : (name label : List ℕ) → has_ace_prefix name ≡ true → decode (drop 4 name) ≡ Some label → is_all_ascii label ≡ true → stands_for name ≡ name
stands_for-ascii name label prefix decoded ascii =
    elim (cases_Bool (bytes_eq (a_label_of label) name)) [
      | inl same ↦
          let named : a_label_of label ≡ name = (bytes_decides (a_label_of label) name).0 same in
          stands_for-coded name label prefix decoded named ∙ sym (a_label_of-ascii label ascii) ∙ named
      | inr other ↦ stands_for-other name label prefix decoded other
    ]

-- a code in lower case is the one that is written for what it is decoded to
pub stands_for-decoded : (name label : List ℕ) → has_ace_prefix name ≡ true → list_all (λ c. not (is_ascii_uppercase c)) name ≡ true → decode (drop 4 name) ≡ Some label → is_all_ascii label ≡ false → stands_for name ≡ label
stands_for-decoded name label prefix lower decoded coded = stands_for-coded name label prefix decoded (coded_answer Profile name label prefix lower decoded coded).0

module _ (properties : Properties) where
  pub stands_for-answered : (given label : List ℕ) → has_ace_prefix given ≡ true → u_label_answer properties given ≡ Ok label → stands_for given ≡ label
  stands_for-answered given label prefix is =
      let from = u_label_answer-from properties given label is in
      stands_for-coded given label prefix (decoded_code-from (drop 4 given) label from.2) from.1

prefix_put : (code : List ℕ) → has_ace_prefix (codes "xn--" ++ code) ≡ true
unfolding has_ace_prefix
prefix_put code = refl

name_prefix : (label : List ℕ) → is_all_ascii label ≡ false → has_ace_prefix (a_label_of label) ≡ true
name_prefix label other = ap has_ace_prefix (a_label_of-other label other) ∙ prefix_put (encode label)

name_ascii : (label : List ℕ) → is_all_ascii label ≡ false → is_all_ascii (a_label_of label) ≡ true
name_ascii label other = ap is_all_ascii (a_label_of-other label other) ∙ ascii_code label

-- a label that isn't all ASCII is what its name stands for
pub stands_for-name : (label : List ℕ) → AreScalarValues label → is_all_ascii label ≡ false → stands_for (a_label_of label) ≡ label
stands_for-name label scalars other =
    stands_for-coded (a_label_of label) label (name_prefix label other)
    (ap (λ a. decode (drop 4 a)) (a_label_of-other label other) ∙ decode-encode label (scalar_points label scalars)) refl

-- the name of what a name in ASCII stands for is that name
pub named_again : (name : List ℕ) → is_all_ascii name ≡ true → a_label_of (stands_for name) ≡ name
named_again name ascii =
    elim (cases_Bool (has_ace_prefix name)) [
      | inl prefix ↦ elim (cases_Option (decode (drop 4 name))) [
        | inl none ↦ ap a_label_of (stands_for-undecoded name prefix none) ∙ a_label_of-ascii name ascii
        | inr decoded ↦ elim (cases_Bool (bytes_eq (a_label_of decoded.0) name)) [
          | inl same ↦
              let named : a_label_of decoded.0 ≡ name = (bytes_decides (a_label_of decoded.0) name).0 same in
              ap a_label_of (stands_for-coded name decoded.0 prefix decoded.1 named) ∙ named
          | inr other ↦ ap a_label_of (stands_for-other name decoded.0 prefix decoded.1 other) ∙ a_label_of-ascii name ascii
        ]
      ]
      | inr plain ↦ ap a_label_of (stands_for-plain name plain) ∙ a_label_of-ascii name ascii
    ]

-- ---- old labels

faultless : (empty points long other : Bool) → first_of (fault_if empty Empty ∷ fault_if points Disallowed ∷ fault_if long LabelTooLong ∷ fault_if other Hyphen ∷ []) ≡ None → (empty ≡ false) × (points ≡ false) × (long ≡ false) × (other ≡ false)
faultless false false false false none = (refl, refl, refl, refl)
faultless _ _ _ _ none = cc

pub IsOld-faultless : (label : List ℕ) → old_fault label ≡ None → IsOld label
unfolding old_fault
IsOld-faultless label none =
    let parts = faultless (length label == 0) (not (list_all is_old_point label)) (is_too_long label) (not (bytes_eq (stands_for (a_label_of label)) label)) none in
    let lengths = short (length label) (length (a_label_of label)) parts.2 in
    record {
      some = λ empty. let clash : true ≡ false = ap (λ l. length l == 0) (sym empty) ∙ parts.0 in cc;
      points = not-false _ parts.1;
      few = lengths.0;
      short = lengths.1;
      named = (bytes_decides (stands_for (a_label_of label)) label).0 (not-false _ parts.3);
    }

pub old_fault-IsOld : (label : List ℕ) → IsOld label → old_fault label ≡ None
unfolding old_fault
old_fault-IsOld label is =
    let within : is_too_long label ≡ false = not_long (length label) (length (a_label_of label)) is.few is.short in
    rw (not_empty label is.some, is.points, within, (bytes_decides (stands_for (a_label_of label)) label).1 is.named) refl

pub IsOld-scalars : (label : List ℕ) → IsOld label → AreScalarValues label
IsOld-scalars label is =
    elim (cases_Bool (is_all_ascii label)) [
      | inl ascii ↦ scalar_values label (ascii_scalars label ascii)
      | inr other ↦
          let name : List ℕ = a_label_of label in
          let prefix = name_prefix label other in
          let itself : stands_for name ≡ name → ⊥ = λ same. both_ways (is_all_ascii label) other (ap is_all_ascii (sym is.named ∙ same) ∙ name_ascii label other) in
          elim (cases_Option (decode (drop 4 name))) [
            | inl none ↦ absurd (itself (stands_for-undecoded name prefix none))
            | inr decoded ↦ elim (cases_Bool (bytes_eq (a_label_of decoded.0) name)) [
              | inl same ↦
                  let whole : decoded.0 ≡ label = sym (stands_for-coded name decoded.0 prefix decoded.1 ((bytes_decides (a_label_of decoded.0) name).0 same)) ∙ is.named in
                  subst AreScalarValues whole (decoded_scalars (drop 4 name) decoded.0 decoded.1)
              | inr unlike ↦ absurd (itself (stands_for-other name decoded.0 prefix decoded.1 unlike))
            ]
          ]
    ]

-- ---- the first fault, test by test

pub old_fault-empty : (label : List ℕ) → (length label == 0) ≡ true → old_fault label ≡ Some Empty
unfolding old_fault
old_fault-empty label none = rw none refl

pub old_fault-points : (label : List ℕ) → (length label == 0) ≡ false → list_all is_old_point label ≡ false → old_fault label ≡ Some Disallowed
unfolding old_fault
old_fault-points label some other = rw (some, other) refl

pub old_fault-long : (label : List ℕ) → (length label == 0) ≡ false → list_all is_old_point label ≡ true → is_too_long label ≡ true → old_fault label ≡ Some LabelTooLong
unfolding old_fault
old_fault-long label some points long = rw (some, points, long) refl

pub old_fault-another : (label other : List ℕ) → (length label == 0) ≡ false → list_all is_old_point label ≡ true → is_too_long label ≡ false → is_all_ascii label ≡ true → stands_for label ≡ other → is_all_ascii other ≡ false → old_fault label ≡ Some Hyphen
unfolding old_fault
old_fault-another label other some points within ascii another past =
    let stands : stands_for (a_label_of label) ≡ other = ap stands_for (a_label_of-ascii label ascii) ∙ another in
    let unlike : bytes_eq (stands_for (a_label_of label)) label ≡ false =
    false_where (bytes_eq (stands_for (a_label_of label)) label) (λ same. both_ways (is_all_ascii other) past (ap is_all_ascii (sym stands ∙ (bytes_decides (stands_for (a_label_of label)) label).0 same) ∙ ascii)) in
    rw (some, points, within, unlike) refl
  where
    false_where : (b : Bool) → (b ≡ true → ⊥) → b ≡ false
    false_where true never = absurd (never refl)
    false_where false never = refl

pub old_fault-none : (label : List ℕ) → (length label == 0) ≡ false → list_all is_old_point label ≡ true → is_too_long label ≡ false → stands_for (a_label_of label) ≡ label → old_fault label ≡ None
unfolding old_fault
old_fault-none label some points within named = rw (some, points, within, (bytes_decides (stands_for (a_label_of label)) label).1 named) refl

-- lower-case letters, digits and hyphens have no capital
pub old_lower : (label : List ℕ) → list_all is_old_point label ≡ true → is_all_ascii label ≡ true → list_all (λ c. not (is_ascii_uppercase c)) label ≡ true
old_lower [] points ascii = refl
old_lower (c ∷ label) points ascii =
    let parts = and_parts (is_old_point c) (list_all is_old_point label) points in
    let low = and_parts (is_ascii c) (is_all_ascii label) ascii in
    let here : not (is_ascii_uppercase c) ≡ true = lower c parts.0 low.0 in
    rw (here, old_lower label parts.1 low.1) refl
  where
    lower : (c : ℕ) → is_old_point c ≡ true → is_ascii c ≡ true → not (is_ascii_uppercase c) ≡ true
    lower c point low = grind (arith, nat_tests)

pub old_ldh : (label : List ℕ) → list_all is_old_point label ≡ true → is_all_ascii label ≡ true → list_all is_ldh_point label ≡ true
old_ldh [] points ascii = refl
old_ldh (c ∷ label) points ascii =
    let parts = and_parts (is_old_point c) (list_all is_old_point label) points in
    let low = and_parts (is_ascii c) (is_all_ascii label) ascii in
    let here : is_ldh_point c ≡ true = ldh c parts.0 low.0 in
    rw (here, old_ldh label parts.1 low.1) refl
  where
    ldh : (c : ℕ) → is_old_point c ≡ true → is_ascii c ≡ true → is_ldh_point c ≡ true
    ldh c point low = grind (arith, nat_tests)

pub ldh_old : (label : List ℕ) → list_all is_ldh_point label ≡ true → list_all is_old_point label ≡ true
ldh_old label ldh = list_all-from_AllPass is_old_point label (All-weaker (λ c. is_ldh_point c ≡ true) _ old label (AllPass-from_list_all is_ldh_point label ldh))
  where
    old : (c : ℕ) → is_ldh_point c ≡ true → is_old_point c ≡ true
    old c h = rw h refl

pub not_old : (label : List ℕ) → (IsOld label → ⊥) → is_none (old_fault label) ≡ false
not_old label never = by_fault (old_fault label) refl
  where
    by_fault : (fault : Option Refusal) → old_fault label ≡ fault → is_none fault ≡ false
    by_fault None is = absurd (never (IsOld-faultless label is))
    by_fault (Some refusal) is = refl

-- what a short name in ASCII stands for is an old label, as far as its code points go
pub named_old : (name label : List ℕ) → is_all_ascii name ≡ true → length name ≤ 63 → stands_for name ≡ label → label ≢ [] → length label ≤ 63 → list_all is_old_point label ≡ true → old_fault (stands_for name) ≡ None
named_old name label ascii short is some few points =
    let again : a_label_of label ≡ name = ap a_label_of (sym is) ∙ named_again name ascii in
    ap old_fault is ∙ old_fault-IsOld label (record {
      some = some;
      points = points;
      few = few;
      short = omega (arith, ap length again, short);
      named = ap stands_for again ∙ is;
    })

pub long_name : (name : List ℕ) → is_all_ascii name ≡ true → 63 < length name → is_none (old_fault (stands_for name)) ≡ false
long_name name ascii long = not_old (stands_for name) (λ is. omega (arith, is.short, ap length (named_again name ascii), long))

pub some_past_ascii : (label : List ℕ) → is_all_ascii label ≡ false → label ≢ []
some_past_ascii label other empty = both_ways (is_all_ascii label) other (ap is_all_ascii empty)

-- ---- labels that a zone may have

module _ (properties : Properties) where
  pub registrable_points : (label : List ℕ) → IsRegistrable properties label → list_all is_old_point label ≡ true
  registrable_points label registrable =
      list_all-from_AllPass is_old_point label (All-weaker _ _ point label (MeetsRequirements-registrable properties label registrable).permitted)
    where
      point : (c : ℕ) → fault_of_class (class_of properties c) ≡ None → is_old_point c ≡ true
      point c none = elim (cases_lt c 128) [
        | inl low ↦ rw (is_ldh_point-permitted properties c low none) refl
        | inr high ↦ grind (arith, nat_tests)
      ]

  pub in_zone-some : (label : List ℕ) → IsInZone properties label → label ≢ []
  in_zone-some label is = elim is [ inl registrable ↦ (MeetsRequirements-registrable properties label registrable).some | inr old ↦ old.some ]

  pub in_zone-few : (label : List ℕ) → IsInZone properties label → length label ≤ 63
  in_zone-few label is = elim is [ inl registrable ↦ (MeetsRequirements-registrable properties label registrable).points | inr old ↦ old.few ]

  pub in_zone-short : (label : List ℕ) → IsInZone properties label → length (a_label_of label) ≤ 63
  in_zone-short label is = elim is [ inl registrable ↦ (MeetsRequirements-registrable properties label registrable).octets | inr old ↦ old.short ]

  pub in_zone-within : (label : List ℕ) → IsInZone properties label → is_too_long label ≡ false
  in_zone-within label is = not_long (length label) (length (a_label_of label)) (in_zone-few label is) (in_zone-short label is)

  pub in_zone-scalars : (label : List ℕ) → IsInZone properties label → AreScalarValues label
  in_zone-scalars label is = elim is [ inl registrable ↦ registrable_scalars properties label registrable | inr old ↦ IsOld-scalars label old ]

  -- what its A-label stands for
  pub stands_for-registrable : (label : List ℕ) → IsRegistrable properties label → stands_for (a_label_of label) ≡ label
  stands_for-registrable label registrable =
      elim (cases_Bool (is_all_ascii label)) [
        | inl ascii ↦ ap stands_for (a_label_of-ascii label ascii) ∙ stands_for-plain label (no_prefix properties label registrable)
        | inr other ↦ stands_for-name label (registrable_scalars properties label registrable) other
      ]

-- ---- of bytes

pub old_utf8_fault-none : (bytes : List ℕ) → old_utf8_fault bytes ≡ None → IsUtf8Of bytes (chars bytes) × IsOld (chars bytes)
unfolding old_utf8_fault
old_utf8_fault-none bytes none = elim (cases_Bool (is_utf8 bytes)) [
  | inl utf8 ↦ (utf8_of_chars bytes utf8, IsOld-faultless (chars bytes) (sym (cond-true (is_utf8 bytes) (old_fault (chars bytes)) (Some NotUtf8) utf8) ∙ none))
  | inr other ↦ absurd (none-some NotUtf8 (sym none ∙ cond-false (is_utf8 bytes) (old_fault (chars bytes)) (Some NotUtf8) other))
]

pub old_utf8_fault-points : (bytes points : List ℕ) → IsUtf8Of bytes points → old_utf8_fault bytes ≡ old_fault points
unfolding old_utf8_fault
old_utf8_fault-points bytes points is =
    cond-true (is_utf8 bytes) (old_fault (chars bytes)) (Some NotUtf8) (is_utf8-from_IsUtf8 bytes (IsUtf8-from_points bytes points is)) ∙ ap old_fault (points_from_utf8 bytes points is)

pub old_utf8_fault-other : (bytes : List ℕ) → ((points : List ℕ) → IsUtf8Of bytes points → ⊥) → old_utf8_fault bytes ≡ Some NotUtf8
unfolding old_utf8_fault
old_utf8_fault-other bytes none = elim (cases_Bool (is_utf8 bytes)) [
  | inl utf8 ↦ absurd (none (chars bytes) (utf8_of_chars bytes utf8))
  | inr other ↦ cond-false (is_utf8 bytes) (old_fault (chars bytes)) (Some NotUtf8) other
]
