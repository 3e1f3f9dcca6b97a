-- Parts of labels that meet the Bidi rule by their octets: what stands from the beginning of a label up to a place.
use Rattle.std.proofs.Common.{◌≡◌, ◌≢◌, ℕ, ◌+◌, ◌-◌, ◌<◌, ◌≤◌, Bool, true, false, All, List, [], ◌∷◌, ◌++◌, length, take, drop, get_or, slice_range, chars, inl, inr, refl, sym, ap, subst, ◌∙◌, length-drop, arith}
use Rattle.std.specs.Char.{encode_utf8, is_ascii_digit}
use Rattle.std.specs.List.{list_all, onto_first}
use Rattle.std.proofs.Math.Seq.{take-add}
use Rattle.std.proofs.lemmas.Bool.{both_ways, cases_lt}
use Rattle.std.proofs.lemmas.Bool.Decides.{nat_tests}
use Rattle.std.proofs.lemmas.List.{drop-drop, get_or-drop, get_or_default, take_more}
use Rattle.std.proofs.lemmas.List.Elements.{All-head, All-nil, All-tail, AllWithin-more}
use Rattle.std.proofs.lemmas.List.Edits.{get_or-between}
use Rattle.std.proofs.lemmas.Simd.{chunk-drop, length-chunk}
use Rattle.std.proofs.lemmas.Str.{chars-nil, encode_ascii}
use Rattle.unicode_normalization.proofs.ComposeLemmas.{list_all-push}
use Rattle.ucd_bidi.specs.declared.BidiClass.{BidiClass}
use Rattle.ucd_bidi.specs.BidiClass.{bidi_class}
use Rattle.idna.specs.BidiRule.{passes_bidi_rule}
use Rattle.idna.specs.Labels.{is_full_stop, labels_of}
use Rattle.idna.proofs.LabelsLemmas.{slice_split-no}
use Rattle.idn_text.specs.Points.{IsScalarValue, IsUtf8Of}
use Rattle.idn_text.proofs.Utf8Lemmas.{points_from_utf8, utf8_character, utf8_nothing}
use Rattle.idn_label.specs.LabelEnds.{EndsLabel, labels_after}
use Rattle.idn_label.specs.LdhEnds.{IsLdhEnd}
use Rattle.idn_label.specs.Steps.{is_ldh_point}
use Rattle.idn_label.specs.inner.BidiNames.{EndsPassing, MeetsRule, are_character, is_lowercase, is_rtl_letter, is_rtl_letter_or_mark}
use Rattle.idn_label.proofs.LabelsByPlace.{All-slice, IsNoStop, IsWithoutStop, ends_at_stop, ends_with_name}
use Rattle.idn_label.proofs.PlainLabels.{ldh-chars, ldh-no_stop, ldh-passes, lowercase_ldh}
use Rattle.idn_label.proofs.RtlLetters.{begins-more, begins_with_letter, character_of, digit_class, ends-mark, ends-more, ends_well, hyphen_class, is_last, is_part, is_rtl_part, last_is_part, letter_is_last, mark_is_part, parts-pass, two_more}

nothing : (name : List ℕ) (start : ℕ) → slice_range name start start ≡ []
nothing name start = ap (λ n. take n (drop start name)) (let e : start - start ≡ 0 = omega arith in e)

pub part-nothing : (name : List ℕ) (start : ℕ) → start ≤ length name → MeetsRule name start start
unfolding passes_bidi_rule
part-nothing name start within = record {
  order = omega arith;
  within = within;
  without_stop = subst (All IsNoStop) (sym (nothing name start)) (All-nil IsNoStop);
  passes = ap (λ (octets : List ℕ). passes_bidi_rule (chars octets)) (nothing name start) ∙ ap passes_bidi_rule chars-nil;
}

-- ---- where the label ends

-- a beginning without full stop is of the first label
labels_of-prefixed : (front rest label : List ℕ) (others : List (List ℕ)) → All IsNoStop front → labels_of rest ≡ label ∷ others → labels_of (front ++ rest) ≡ (front ++ label) ∷ others
labels_of-prefixed [] rest label others none is = is
labels_of-prefixed (c ∷ front) rest label others none is =
    slice_split-no is_full_stop c (front ++ rest) (All-head IsNoStop c front none)
    ∙ ap (onto_first c) (labels_of-prefixed front rest label others (All-tail IsNoStop c front none) is)

slices_join : (name : List ℕ) (start told end : ℕ) → start ≤ told → told ≤ end → slice_range name start told ++ slice_range name told end ≡ slice_range name start end
slices_join name start told end first second =
    let rest : drop (told - start) (drop start name) ≡ drop told name = drop-drop (told - start) start name ∙ ap (λ k. drop k name) (let e : start + (told - start) ≡ told = omega arith in e) in
    sym (ap (λ n. take n (drop start name)) (let e : end - start ≡ (told - start) + (end - told) = omega arith in e)
    ∙ take-add (told - start) (end - told) (drop start name)
    ∙ ap (λ (l : List ℕ). slice_range name start told ++ take (end - told) l) rest)

pub ends_after : (name : List ℕ) (start told end : ℕ) → MeetsRule name start told → EndsLabel name told end → EndsLabel name start end
ends_after name start told end part ends =
    let first = part.order in
    let second = ends.order in
    let whole : drop start name ≡ slice_range name start told ++ drop told name =
    chunk-drop start (told - start) name ∙ ap (λ k. slice_range name start told ++ drop k name) (let e : start + (told - start) ≡ told = omega arith in e) in
    record {
      order = omega arith;
      within = ends.within;
      labels =
          ap labels_of whole
          ∙ labels_of-prefixed (slice_range name start told) (drop told name) _ _ part.without_stop ends.labels
          ∙ ap (λ label. label ∷ labels_after name end) (slices_join name start told end first second);
    }

-- what meets the rule is the whole label where the name ends, or a full stop stands
pub ends_by_rule : (name : List ℕ) (start told : ℕ) → MeetsRule name start told → (told < length name → get_or name told 0 ≡ 0x2E) → EndsPassing name start told
ends_by_rule name start told part stop =
    let none : IsWithoutStop name told told = λ k d low high. absurd (omega (arith, low, high)) in
    let order = part.order in
    let within = part.within in
    let ends : EndsLabel name told told = elim (cases_lt told (length name)) [
      | inl before ↦ ends_at_stop name told told (omega arith) before none (stop before)
      | inr all ↦ ends_with_name name told told (omega arith) (omega arith) none
    ] in
    record { ends = ends_after name start told told part ends; passes = part.passes }

-- ---- letters of Hebrew and Arabic with their marks, digits and hyphens

-- they are what stands from a place up to another
pub record IsRtlPart (name : List ℕ) (start at : ℕ) : Type 0 where
  pub order : start ≤ at
  pub within : at ≤ length name
  pub none : IsWithoutStop name start at
  pub points : List ℕ
  pub read : IsUtf8Of (take (at - start) (drop start name)) points
  pub begins : begins_with_letter points ≡ true
  pub parts : list_all is_rtl_part points ≡ true
  pub empty : points ≡ [] → at ≡ start

-- and the last of them, but for marks, may stand there
pub record IsRtlEnd (name : List ℕ) (start at : ℕ) : Type 0 where
  pub part : IsRtlPart name start at
  pub well : ends_well part.points ≡ true

pub rtl-nothing : (name : List ℕ) (start : ℕ) → start ≤ length name → IsRtlPart name start start
rtl-nothing name start within = record {
  order = omega arith;
  within = within;
  none = λ k d low high. absurd (omega (arith, low, high));
  points = [];
  read = subst (λ (octets : List ℕ). IsUtf8Of octets []) (sym (nothing name start)) utf8_nothing;
  begins = refl;
  parts = refl;
  empty = λ _. refl;
}

pub rtl-meets : (name : List ℕ) (start at : ℕ) → IsRtlEnd name start at → MeetsRule name start at
rtl-meets name start at told =
    let part = told.part in
    record {
      order = part.order;
      within = part.within;
      without_stop = All-slice IsNoStop name start at part.none;
      passes = ap passes_bidi_rule (points_from_utf8 (slice_range name start at) part.points part.read) ∙ parts-pass part.points part.begins part.parts told.well;
    }

-- one character more
abbrev Extends : (name : List ℕ) (start at next c : ℕ) → IsRtlPart name start at → Type 0
Extends name start at next c part = (more : IsRtlPart name start next) × (more.points ≡ part.points ++ c ∷ [])

rtl-more : (name : List ℕ) (start at next c : ℕ) (part : IsRtlPart name start at) → at < next → next ≤ length name → IsWithoutStop name start next
    → take (next - start) (drop start name) ≡ take (at - start) (drop start name) ++ encode_utf8 c → IsScalarValue c → is_rtl_part c ≡ true → (part.points ≡ [] → is_rtl_letter (bidi_class c) ≡ true) → Extends name start at next c part
rtl-more name start at next c part further within none read scalar is first =
    let order = part.order in (
      record {
        order = omega arith;
        within = within;
        none = none;
        points = part.points ++ c ∷ [];
        read = utf8_character (drop start name) part.points (at - start) (next - start) c part.read read scalar;
        begins = begins-more part.points c part.begins first;
        parts = list_all-push is_rtl_part part.points c part.parts is;
        empty = λ e. absurd (no_push part.points e);
      },
      refl,
    )
  where
    no_push : (points : List ℕ) → points ++ c ∷ [] ≡ [] → ⊥
    no_push [] e = let clash : c ∷ [] ≡ [] = e in cc
    no_push (d ∷ points) e = let clash : d ∷ (points ++ c ∷ []) ≡ [] = e in cc

-- it may stand last
rtl-last : (name : List ℕ) (start at next c : ℕ) (part : IsRtlPart name start at) → Extends name start at next c part → is_last (bidi_class c) ≡ true → IsRtlEnd name start next
rtl-last name start at next c part more is = record { part = more.0; well = ap ends_well more.1 ∙ ends-more part.points c is }

no_stop : (name : List ℕ) (start at : ℕ) → at < length name → IsWithoutStop name start at → is_full_stop (get_or name at 0) ≡ false → IsWithoutStop name start (at + 1)
no_stop name start at within none other = AllWithin-more IsNoStop name start at none (λ d. ap is_full_stop (get_or_default name at d 0 within) ∙ other)

-- the octets from a place on, by those of the name
octet_at : (name : List ℕ) (start at : ℕ) → start ≤ at → get_or (drop start name) (at - start) 0 ≡ get_or name at 0
octet_at name start at order = get_or-drop start name (at - start) 0 ∙ ap (λ k. get_or name k 0) (let e : start + (at - start) ≡ at = omega arith in e)

-- a character of two octets more
two-more : (is_such : BidiClass → Bool) (name : List ℕ) (start at : ℕ) (part : IsRtlPart name start at) → at + 1 < length name → are_character is_such (get_or name at 0) (get_or name (at + 1) 0) ≡ true
    → ((k : BidiClass) → is_such k ≡ true → is_part k ≡ true) → ((k : BidiClass) → is_such k ≡ true → part.points ≡ [] → is_rtl_letter k ≡ true) → (c : ℕ) × (is_such (bidi_class c) ≡ true) × Extends name start at (at + 2) c part
two-more is_such name start at part room is parts begins =
    let first = get_or name at 0 in
    let second = get_or name (at + 1) 0 in
    let two = character_of is_such first second is in
    let order = part.order in
    let text = drop start name in
    let none_1 = no_stop name start at (omega arith) part.none (no_stop-first is_such first second is) in
    let none_2 = no_stop name start (at + 1) room none_1 (no_stop-second is_such first second is) in
    let none : IsWithoutStop name start (at + 2) = subst (IsWithoutStop name start) (let e : at + 1 + 1 ≡ at + 2 = omega arith in e) none_2 in
    let read : take (at + 2 - start) text ≡ take (at - start) text ++ encode_utf8 two.0 =
    ap (λ n. take n text) (let e : at + 2 - start ≡ at - start + 2 = omega arith in e)
    ∙ two_more text (at - start) first second (omega (arith, length-drop start name)) (octet_at name start at order)
    (ap (λ k. get_or text k 0) (let e : at - start + 1 ≡ at + 1 - start = omega arith in e) ∙ octet_at name start (at + 1) (omega arith))
    ∙ ap (λ (octets : List ℕ). take (at - start) text ++ octets) (sym two.1.encoded) in
    (two.0, two.1.such, rtl-more name start at (at + 2) two.0 part (omega arith) (omega arith) none read two.1.scalar_value (parts _ two.1.such) (begins _ two.1.such))
  where
    no_stop-first : (is_such : BidiClass → Bool) (first second : ℕ) → are_character is_such first second ≡ true → is_full_stop first ≡ false
    no_stop-first is_such first second is = grind (arith, nat_tests)

    no_stop-second : (is_such : BidiClass → Bool) (first second : ℕ) → are_character is_such first second ≡ true → is_full_stop second ≡ false
    no_stop-second is_such first second is = grind (arith, nat_tests)

-- a letter
pub rtl-letter : (name : List ℕ) (start at : ℕ) → IsRtlPart name start at → at + 1 < length name → are_character is_rtl_letter (get_or name at 0) (get_or name (at + 1) 0) ≡ true → IsRtlEnd name start (at + 2)
rtl-letter name start at part room is =
    let more = two-more is_rtl_letter name start at part room is (λ k own. last_is_part k (letter_is_last k own)) (λ k own _. own) in
    rtl-last name start at (at + 2) more.0 part more.2 (letter_is_last _ more.1)

-- a letter or a mark after what may stand last
pub rtl-mark : (name : List ℕ) (start at : ℕ) → IsRtlEnd name start at → at + 1 < length name → are_character is_rtl_letter_or_mark (get_or name at 0) (get_or name (at + 1) 0) ≡ true → IsRtlEnd name start (at + 2)
rtl-mark name start at told room is =
    let part = told.part in
    let begun : (k : BidiClass) → is_rtl_letter_or_mark k ≡ true → part.points ≡ [] → is_rtl_letter k ≡ true = λ k _ empty. some k part.points told.well empty in
    let more = two-more is_rtl_letter_or_mark name start at part room is mark_is_part begun in
    record { part = more.2.0; well = ap ends_well more.2.1 ∙ ends-mark part.points more.0 told.well more.1 }
  where
    some : (k : BidiClass) (points : List ℕ) → ends_well points ≡ true → points ≡ [] → is_rtl_letter k ≡ true
    some k points well empty = let clash : false ≡ true = sym (ap ends_well empty) ∙ well in cc

-- one octet of ASCII more
one_more : (name : List ℕ) (start at : ℕ) → start ≤ at → at < length name → get_or name at 0 < 128
    → take (at + 1 - start) (drop start name) ≡ take (at - start) (drop start name) ++ encode_utf8 (get_or name at 0)
one_more name start at order within ascii =
    ap (λ n. take n (drop start name)) (let e : at + 1 - start ≡ at - start + 1 = omega arith in e)
    ∙ take_more (drop start name) (at - start) 0 (omega (arith, length-drop start name))
    ∙ ap (λ c. take (at - start) (drop start name) ++ c ∷ []) (octet_at name start at order)
    ∙ ap (λ (octets : List ℕ). take (at - start) (drop start name) ++ octets) (sym (encode_ascii (get_or name at 0) ascii))

-- it stands after a letter
ascii-more : (name : List ℕ) (start at : ℕ) (part : IsRtlPart name start at) → at ≢ start → at < length name → is_rtl_part (get_or name at 0) ≡ true → get_or name at 0 < 128 → is_full_stop (get_or name at 0) ≡ false
    → Extends name start at (at + 1) (get_or name at 0) part
ascii-more name start at part begun room is ascii other =
    rtl-more name start at (at + 1) (get_or name at 0) part (omega arith) (omega arith) (no_stop name start at room part.none other) (one_more name start at part.order room ascii) (grind (arith, nat_tests)) is (λ e. absurd (begun (part.empty e)))

-- a digit
pub rtl-digit : (name : List ℕ) (start at : ℕ) → IsRtlPart name start at → at ≢ start → at < length name → is_ascii_digit (get_or name at 0) ≡ true → IsRtlEnd name start (at + 1)
rtl-digit name start at part begun room is =
    let digit = get_or name at 0 in
    let last = digit_class digit is in
    rtl-last name start at (at + 1) digit part (ascii-more name start at part begun room (last_is_part _ last) (grind (arith, nat_tests)) (grind (arith, nat_tests))) last

-- a hyphen
pub rtl-hyphen : (name : List ℕ) (start at : ℕ) → IsRtlPart name start at → at ≢ start → at < length name → get_or name at 0 ≡ 0x2D → IsRtlPart name start (at + 1)
rtl-hyphen name start at part begun room is =
    (ascii-more name start at part begun room (ap is_rtl_part is ∙ hyphen_class) (omega arith) (grind (arith, nat_tests))).0

-- ---- lower-case letters, digits and hyphens

-- there is one at least
pub ldh-further : (name : List ℕ) (start end : ℕ) → IsLdhEnd name start end → start < length name → is_lowercase (get_or name start 0) ≡ true → start < end
ldh-further name start end ends some letter = elim (cases_lt start end) [
  | inl further ↦ further
  | inr none ↦
      let reached = ends.reached in
      let same : end ≡ start = omega arith in
      let other : is_ldh_point (get_or name start 0) ≡ false = subst (λ (k : ℕ). is_ldh_point (get_or name k 0) ≡ false) same (ends.other (omega arith)) in
      absurd (both_ways _ other (lowercase_ldh (get_or name start 0) letter))
]

pub ldh-meets : (name : List ℕ) (start end : ℕ) → IsLdhEnd name start end → start < length name → is_lowercase (get_or name start 0) ≡ true → get_or name (end - 1) 0 ≢ 0x2D → MeetsRule name start end
ldh-meets name start end ends some letter other =
    let label = slice_range name start end in
    let reached = ends.reached in
    let within = ends.within in
    let further = ldh-further name start end ends some letter in
    let long : length label ≡ end - start = length-chunk start (end - start) name (omega arith) in
    let first : get_or label 0 0 ≡ get_or name start 0 = get_or-between name start end 0 0 (omega arith) ∙ ap (λ k. get_or name k 0) (let e : start + 0 ≡ start = omega arith in e) in
    let last : get_or label (length label - 1) 0 ≡ get_or name (end - 1) 0 =
    ap (λ n. get_or label (n - 1) 0) long ∙ get_or-between name start end (end - start - 1) 0 (omega arith) ∙ ap (λ k. get_or name k 0) (let e : start + (end - start - 1) ≡ end - 1 = omega arith in e) in
    record {
      order = reached;
      within = within;
      without_stop = ldh-no_stop label ends.ldh;
      passes = ap passes_bidi_rule (ldh-chars label ends.ldh) ∙ ldh-passes label (omega (arith, long)) (ap is_lowercase first ∙ letter) ends.ldh (λ e. other (sym last ∙ e));
    }
