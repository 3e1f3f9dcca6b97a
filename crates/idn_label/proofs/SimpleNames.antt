-- ToASCII of names of which each code point, as it is mapped, passes, and each label is tested.
use Rattle.std.proofs.Common.{inl, inr, ◌≡◌, ◌≢◌, ℕ, ◌+◌, ◌-◌, ◌<◌, ◌≤◌, true, false, not, ◌&&◌, nat_le, List, [], ◌∷◌, ◌++◌, map, flat_map, drop, slice_range, codes, chars, length, All, Option, Some, None, option_map, option_and_then, refl, sym, ap, ap₂, subst, ◌∙◌, append_assoc, map-id, arith, le-leb, leb-true, length-append}
use Rattle.std.specs.Int.{is_in_range}
use Rattle.std.specs.List.{list_all}
use Rattle.std.specs.Str.{IsUtf8}
use Rattle.std.proofs.lemmas.Bool.Decides.{nat_tests}
use Rattle.std.proofs.lemmas.Bool.{cases_Bool, cond-true, cond-false, or_left, or_right, not_from_false, and_parts}
use Rattle.std.proofs.lemmas.List.{map-append}
use Rattle.std.proofs.lemmas.List.Elements.{All-nil, All-cons, All-head, All-tail, All-weaker, All-append, All-push, All-map}
use Rattle.std.proofs.lemmas.List.Folds.{list_any_none}
use Rattle.std.proofs.lemmas.List.Sums.{list_all-from_AllPass}
use Rattle.std.proofs.lemmas.Str.{is_utf8-from_IsUtf8}
use Rattle.ucd_bidi.specs.BidiClass.{bidi_class}
use Rattle.ucd_normal.specs.declared.forms.Form.TheVariants.{Nfc}
use Rattle.unicode_normalization.specs.Forms.{nfc}
use Rattle.unicode_normalization.proofs.FormsLemmas.{is_in_form_from}
use Rattle.idna.specs.declared.deny_list.AsciiDenyList.{AsciiDenyList}
use Rattle.idna.specs.declared.options.Hyphens.TheVariants.{Allow}
use Rattle.idna.specs.declared.options.DnsLength.TheVariants.{Ignore}
use Rattle.idna.specs.BidiRule.{is_rtl, is_bidi_domain, passes_bidi_rule}
use Rattle.idna.specs.ContextJ.{fit_contexts}
use Rattle.idna.specs.Labels.{full_stop, is_full_stop, labels_of, join_labels}
use Rattle.idna.specs.Punycode.{encode}
use Rattle.idna.specs.Uts46.{map_char, if_passes, validate, each, process, ascii_label, to_ascii, verify_dns_length}
use Rattle.idna.specs.Validity.{is_all_ascii, is_valid_char, passes_hyphens, passes_in_nfc, is_valid_label, passes_bidi}
use Rattle.idna.proofs.LabelsLemmas.{terminated, terminated-push, HasNoFullStop, All-labels_of, HasNoFullStop-labels_of, list_any-labels_of}
use Rattle.ucd_bidi.specs.BidiClassRows.{bidi_class_rows}
use Rattle.ucd_table.proofs.Computing.{tables}
use Rattle.idna.proofs.Uts46Lemmas.{All-list_any, labels_of-nfc, convert-plain, ascii_label-ascii, ascii_label-other, to_ascii-processed}
use Rattle.idna.proofs.PunycodeLemmas.{IsDigitChar, All-encode}
use Rattle.idna.proofs.ValidityLemmas.{denies-may_be_denied, fit_contexts-nil, fit_contexts-cons, list_all_push}
use Rattle.idn_label.specs.ALabel.{a_label_of}
use Rattle.idn_label.specs.LdhNames.{may_end}
use Rattle.idn_class.specs.declared.facts.Facts.{Facts}
use Rattle.idn_class.specs.declared.facts.Fact.TheVariants.{RightToLeft}
use Rattle.idn_class.specs.BidiClass.{standard_bidi_class}
use Rattle.idn_class.specs.declared.properties.Properties.TheVariants.{Unicode}
use Rattle.idn_class.specs.Facts.{contains, has_fact, AreFactsOf}
use Rattle.idn_class.proofs.FactLabels.{each_lacks, rtl_without}
use Rattle.idn_label.specs.inner.SimpleNames.{IsTested, PassesInName}
use Rattle.idn_label.specs.LabelEnds.{EndsLabel}
use Rattle.idn_label.proofs.KitBidiRule.{rtl_named}
use Rattle.idn_label.proofs.LabelsByPlace.{label_before, label_last}
use Rattle.idn_label.proofs.NameLengths.{has_length, All-parts, join_terminated, measured}

-- ---- A-labels

pub a_label_of-ascii : (label : List ℕ) → is_all_ascii label ≡ true → a_label_of label ≡ label
unfolding a_label_of
a_label_of-ascii label ascii = cond-true _ _ _ ascii

pub a_label_of-other : (label : List ℕ) → is_all_ascii label ≡ false → a_label_of label ≡ codes "xn--" ++ encode label
unfolding a_label_of
a_label_of-other label other = cond-false _ _ _ other

a_label_point : (c : ℕ) → IsDigitChar c → is_full_stop c ≡ false
a_label_point c h = grind (arith, nat_tests)

-- no full stop stands in the A-label of a label of a name
no_full_stop-a_label : (label : List ℕ) → HasNoFullStop label → HasNoFullStop (a_label_of label)
no_full_stop-a_label label none =
    elim (cases_Bool (is_all_ascii label)) [
      | inl ascii ↦ subst HasNoFullStop (sym (a_label_of-ascii label ascii)) none
      | inr other ↦
          subst HasNoFullStop (sym (a_label_of-other label other))
          (All-append (λ c. is_full_stop c ≡ false) (codes "xn--") (encode label) (All-list_any is_full_stop (codes "xn--") refl)
          (All-encode (λ c. is_full_stop c ≡ false) label (All-weaker (λ c. is_full_stop c ≡ false) (λ c. c < 128 → is_full_stop c ≡ false) (λ c h low. h) label none) refl a_label_point))
    ]

-- ---- valid labels

fit_contexts-passes : (before label : List ℕ) → All PassesInName label → fit_contexts before label ≡ true
fit_contexts-passes before [] h = fit_contexts-nil before
fit_contexts-passes before (c ∷ label) h =
    let passes = All-head PassesInName c label h in
    rw (fit_contexts-cons, passes.no_non_joiner, passes.no_joiner) (fit_contexts-passes (c ∷ before) label (All-tail PassesInName c label h))

is_valid_char-passes : (deny : AsciiDenyList) (c : ℕ) → PassesInName c → is_valid_char deny c ≡ true
unfolding is_valid_char
is_valid_char-passes deny c passes = rw (passes.valid, denies-may_be_denied deny c passes.allowed) refl

-- what is known of a label: it stands in a name in NFC of which each code point passes, and is tested
record IsKnown (label : List ℕ) : Type 0 where
  facts : Facts
  passes : All PassesInName label
  no_full_stop : HasNoFullStop label
  normalized : nfc label ≡ label
  tested : IsTested facts label
  short : length (a_label_of label) ≤ 63

is_valid_label-known : (deny : AsciiDenyList) (label : List ℕ) → IsKnown label → is_valid_label deny Allow label ≡ true
unfolding passes_in_nfc passes_hyphens
is_valid_label-known deny label l =
    rw (
      is_in_form_from Nfc label l.normalized,
      l.tested.no_prefix,
      list_any_none is_full_stop label l.no_full_stop,
      l.tested.no_mark,
      list_all-from_AllPass (is_valid_char deny) label (All-weaker PassesInName (λ c. is_valid_char deny c ≡ true) (is_valid_char-passes deny) label l.passes),
      fit_contexts-passes [] label l.passes,
      or_right (is_all_ascii label) _ (le-leb (length label) 1000 (omega (arith, l.tested.few))),
    )

validate-known : (deny : AsciiDenyList) (label : List ℕ) → IsKnown label → validate deny Allow label ≡ Some label
validate-known deny label l =
    ap (option_and_then (if_passes (is_valid_label deny Allow))) (convert-plain label l.tested.no_prefix)
    ∙ cond-true _ _ None (is_valid_label-known deny label l)

ascii_label-known : (label : List ℕ) → IsKnown label → ascii_label label ≡ Some (a_label_of label)
ascii_label-known label l =
    elim (cases_Bool (is_all_ascii label)) [
      | inl ascii ↦ ascii_label-ascii label ascii ∙ ap Some (sym (a_label_of-ascii label ascii))
      | inr other ↦
          let is = a_label_of-other label other in
          let short : nat_le (length (encode label)) 2000 ≡ true = le-leb _ 2000 (omega (arith, l.short, ap length is, length-append (codes "xn--") (encode label))) in
          ascii_label-other label other ∙ cond-true _ _ None short ∙ ap Some (sym is)
    ]

-- ---- the Bidi rule

pub left_to_right-full_stop : is_rtl (bidi_class full_stop) ≡ false
unfolding tables bidi_class bidi_class_rows
left_to_right-full_stop = refl

passes_bidi-tested : (facts : Facts) (name : List ℕ) → AreFactsOf facts name → All (IsTested facts) (labels_of name) → passes_bidi (labels_of name) ≡ true
unfolding is_bidi_domain standard_bidi_class
passes_bidi-tested facts name are tested =
    let p = λ (c : ℕ). is_rtl (bidi_class c) in
    elim (cases_Bool (contains facts RightToLeft)) [
      | inl some ↦
          or_right (not (is_bidi_domain (labels_of name))) _
          (list_all-from_AllPass passes_bidi_rule (labels_of name) (All-weaker (IsTested facts) (λ label. passes_bidi_rule label ≡ true) (λ label h. h.bidi some) (labels_of name) tested))
      | inr none ↦
          let lacks = each_lacks RightToLeft name (sym (are RightToLeft) ∙ none) in
          or_left _ _
          (not_from_false _
          (list_any-labels_of p name left_to_right-full_stop
          ∙ list_any_none p name (All-weaker (λ c. has_fact RightToLeft c ≡ false) (λ c. p c ≡ false) (λ c h. sym (rtl_named (bidi_class c)) ∙ rtl_without Unicode c h) name lacks)))
    ]

-- ---- names

-- what a function gives of each, where it fails at none
each_map : {A B : Type 0} (f : A → Option B) (g : A → B) (xs : List A) → All (λ x. f x ≡ Some (g x)) xs → each f xs ≡ Some (map g xs)
unfolding each
each_map f g [] h = refl
each_map f g (x ∷ xs) h =
    ap (option_and_then (λ y. option_map (λ ys. y ∷ ys) (each f xs))) (All-head (λ y. f y ≡ Some (g y)) x xs h)
    ∙ ap (option_map (λ ys. g x ∷ ys)) (each_map f g xs (All-tail (λ y. f y ≡ Some (g y)) x xs h))

-- what a function changes nothing of
each_kept : (f : List ℕ → List ℕ) (xs : List (List ℕ)) → map f xs ≡ xs → All (λ x. f x ≡ x) xs
each_kept f [] is = All-nil (λ x. f x ≡ x)
each_kept f (x ∷ xs) is = let parts : (f x ≡ x) × (map f xs ≡ xs) = cons_parts is in All-cons (λ x. f x ≡ x) x xs parts.0 (each_kept f xs parts.1)
  where
    cons_parts : {x y : List ℕ} {xs ys : List (List ℕ)} → x ∷ xs ≡ y ∷ ys → (x ≡ y) × (xs ≡ ys)
    cons_parts e = (cc, cc)

known : (facts : Facts) (name : List ℕ) → All PassesInName name → nfc name ≡ name → All (IsTested facts) (labels_of name) → All (λ label. length (a_label_of label) ≤ 63) (labels_of name) → All IsKnown (labels_of name)
known facts name passes normalized tested short =
    let parts = All-labels_of PassesInName name (All-weaker PassesInName (λ c. is_full_stop c ≡ false → PassesInName c) (λ c h _. h) name passes) in
    let kept = each_kept nfc (labels_of name) (sym (labels_of-nfc name) ∙ ap labels_of normalized) in
    λ k d lt. record {
      facts = facts;
      passes = parts k d lt;
      no_full_stop = HasNoFullStop-labels_of name k d lt;
      normalized = kept k d lt;
      tested = tested k d lt;
      short = short k d lt;
    }

pub to_ascii-simple : (deny : AsciiDenyList) (bytes name query : List ℕ) (facts : Facts) → IsUtf8 bytes → name ≡ flat_map map_char (chars bytes) → All PassesInName name → AreFactsOf facts name → nfc name ≡ name → All (IsTested facts) (labels_of name) → All (λ label. length (a_label_of label) ≤ 63) (labels_of name) → query ≡ join_labels (map a_label_of (labels_of name)) → to_ascii deny Allow Ignore bytes ≡ Some query
unfolding process
to_ascii-simple deny bytes name query facts utf8 mapped passes are normalized tested short written =
    let labels = labels_of name in
    let all = known facts name passes normalized tested short in
    let split : labels_of (nfc (flat_map map_char (chars bytes))) ≡ labels = ap (λ x. labels_of (nfc x)) (sym mapped) ∙ ap labels_of normalized in
    let processed : process deny Allow (chars bytes) ≡ Some labels =
    ap (option_and_then (if_passes passes_bidi))
    (ap (each (validate deny Allow)) split ∙ each_map (validate deny Allow) (λ label. label) labels (All-weaker IsKnown (λ label. validate deny Allow label ≡ Some label) (validate-known deny) labels all) ∙ ap Some (map-id labels))
    ∙ cond-true _ _ None (passes_bidi-tested facts name are tested) in
    to_ascii-processed deny Allow bytes labels (cond-true _ _ None (is_utf8-from_IsUtf8 bytes utf8) ∙ processed)
    ∙ ap (option_map join_labels) (each_map ascii_label a_label_of labels (All-weaker IsKnown (λ label. ascii_label label ≡ Some (a_label_of label)) ascii_label-known labels all))
    ∙ ap Some (sym written)

-- ---- the labels before a place

abbrev IsShort : List ℕ → Type 0
IsShort label = length (a_label_of label) ≤ 63

-- they are tested, and their A-labels written with a full stop after each
pub record IsWritten (facts : Facts) (name : List ℕ) (start : ℕ) (query : List ℕ) : Type 0 where
  pub within : start ≤ length name
  pub whole : List (List ℕ)
  pub parts : labels_of name ≡ whole ++ labels_of (drop start name)
  pub tested : All (IsTested facts) whole
  pub short : All IsShort whole
  pub written : query ≡ terminated (map a_label_of whole)
  pub lengths : list_all has_length (map a_label_of whole) ≡ true

pub written_label : {facts : Facts} {name query : List ℕ} {start : ℕ} (w : IsWritten facts name start query) (end : ℕ) (label longer more : List ℕ) → EndsLabel name start end → end ≢ length name → slice_range name start end ≡ label → IsTested facts label → longer ≡ query ++ a_label_of label → is_in_range 1 63 (length longer - length query) ≡ true → more ≡ longer ++ full_stop ∷ [] → IsWritten facts name (end + 1) more
written_label {facts} {name} {query} {start} w end label longer more ends other is tested written measured stopped =
    let count : length longer - length query ≡ length (a_label_of label) = omega (arith, ap length written, length-append query (a_label_of label)) in
    let within : end + 1 ≤ length name = omega (arith, ends.within, other) in
    record {
      within = within;
      whole = w.whole ++ label ∷ [];
      parts =
          w.parts
          ∙ ap (λ labels. w.whole ++ labels) (label_before name start end ends other ∙ ap (λ l. l ∷ labels_of (drop (end + 1) name)) is)
          ∙ sym (append_assoc w.whole (label ∷ []) (labels_of (drop (end + 1) name)));
      tested = All-push (IsTested facts) w.whole label w.tested tested;
      short = All-push IsShort w.whole label w.short (leb-true _ 63 (and_parts _ _ (ap (is_in_range 1 63) (sym count) ∙ measured)).1);
      written =
          stopped
          ∙ ap (λ x. x ++ full_stop ∷ []) (written ∙ ap (λ x. x ++ a_label_of label) w.written)
          ∙ terminated-push (map a_label_of w.whole) (a_label_of label)
          ∙ ap terminated (sym (map-append a_label_of w.whole (label ∷ [])));
      lengths =
          ap (list_all has_length) (map-append a_label_of w.whole (label ∷ []))
          ∙ list_all_push has_length (map a_label_of w.whole) (a_label_of label) w.lengths (ap (is_in_range 1 63) (sym count) ∙ measured);
    }

-- the last label
module _ {facts : Facts} {name query : List ℕ} {start : ℕ} (w : IsWritten facts name start query) (end : ℕ) (label longer : List ℕ) (ends : EndsLabel name start end) (all : end ≡ length name) (is : slice_range name start end ≡ label) (written : longer ≡ query ++ a_label_of label) where
  labels : labels_of name ≡ w.whole ++ label ∷ []
  labels = w.parts ∙ ap (λ labels. w.whole ++ labels) (label_last name start end ends all ∙ ap (λ l. l ∷ []) is)

  longer_is : longer ≡ terminated (map a_label_of w.whole) ++ a_label_of label
  longer_is = written ∙ ap (λ x. x ++ a_label_of label) w.written

  pub written_all : longer ≡ join_labels (map a_label_of (labels_of name))
  written_all =
      longer_is
      ∙ sym (join_terminated (map a_label_of w.whole) (a_label_of label))
      ∙ ap join_labels (sym (map-append a_label_of w.whole (label ∷ [])) ∙ ap (map a_label_of) (sym labels))

  pub measured_all : may_end (length query) (length longer) ≡ true → verify_dns_length longer true ≡ true
  measured_all ended =
      let none = All-parts HasNoFullStop w.whole label (subst (All HasNoFullStop) labels (HasNoFullStop-labels_of name)) in
      let whole_none = All-map HasNoFullStop a_label_of w.whole (All-weaker HasNoFullStop (λ l. HasNoFullStop (a_label_of l)) no_full_stop-a_label w.whole none.0) in
      ap (λ x. verify_dns_length x true) longer_is
      ∙ measured (map a_label_of w.whole) (a_label_of label) whole_none (no_full_stop-a_label label none.1)
      ∙ ap₂ (λ a b. a && b) w.lengths (ap₂ may_end (ap length (sym w.written)) (ap length (sym longer_is)) ∙ ended)
