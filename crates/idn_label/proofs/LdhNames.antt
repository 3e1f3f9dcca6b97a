-- Names of ASCII letters, digits, hyphens and full stops: their labels, one after another, and the answer of their lookup.
use Rattle.std.proofs.Common.{◌≡◌, ℕ, ◌<◌, ◌&&◌, Bool, true, false, cond, List, [], ◌∷◌, map, length, take, slice_range, All, Some, Ok, Err, refl, sym, ap, subst, ◌∙◌, arith, ◌+◌, ◌-◌, ◌≤◌, ◌||◌, ◌++◌, drop, get_or, ap₂, append_assoc}
use Rattle.std.specs.Char.{is_ascii_uppercase, to_ascii_lowercase}
use Rattle.std.specs.List.{list_all, list_any, AllWithin}
use Rattle.std.proofs.lemmas.Bool.{or_parts, eqb-true}
use Rattle.std.proofs.lemmas.Bool.Decides.{nat_tests}
use Rattle.std.proofs.lemmas.List.{drop-map, length-append, length-map, take_rest, take_all, take_at}
use Rattle.std.proofs.lemmas.List.Elements.{All-weaker, All-map, All-from_all_within, AllWithin-upto, All-take, recursion_from_All, All-from_recursion}
use Rattle.std.proofs.lemmas.Str.Ascii.{IsAscii-from_all}
use Rattle.idna.specs.declared.deny_list.AsciiDenyList.{AsciiDenyList}
use Rattle.idna.specs.declared.options.Hyphens.TheVariants.{Allow}
use Rattle.idna.specs.declared.options.DnsLength.TheVariants.{Ignore}
use Rattle.idna.specs.AsciiDenyList.{may_be_denied}
use Rattle.idna.specs.Labels.{labels_of, join_labels, full_stop, is_full_stop}
use Rattle.idna.specs.Uts46.{to_ascii, verify_dns_length}
use Rattle.idna.specs.Validity.{has_ace_prefix, is_valid_char, passes_hyphens}
use Rattle.idna.proofs.Uts46Lemmas.{to_ascii-map-lowercase, to_ascii-plain}
use Rattle.idna.proofs.ValidityLemmas.{denies-may_be_denied, is_valid_char-ascii, list_any_push}
use Rattle.idn_text.specs.declared.refusal.Refusal.TheVariants.{LookupLength}
use Rattle.std.specs.Int.{is_in_range}
use Rattle.std.proofs.Math.Bool.{and-true}
use Rattle.std.proofs.lemmas.List.Edits.{length-between}
use Rattle.std.proofs.lemmas.List.Folds.{list_all-append, list_any-append}
use Rattle.idna.proofs.LabelsLemmas.{HasNoFullStop, HasNoFullStop-labels_of, labels_of_cons, join_labels-labels_of, terminated}
use Rattle.idn_label.specs.Lookup.{deny_list, utf8_answer}
use Rattle.idn_label.specs.LdhNames.{is_name_point, may_end}
use Rattle.idn_label.proofs.LookupLemmas.{utf8_answer-measured}
use Rattle.idn_label.proofs.NameLengths.{has_length, join_terminated, measured}
use Rattle.idn_label.proofs.LabelsByPlace.{IsNoStop, IsWithoutStop, All-slice, AllWithin-join, labels_at-stop, labels_at-end}

abbrev pub lowered : List ℕ → List ℕ
lowered name = map to_ascii_lowercase name

-- a name, cut at its full stops before `at`: whole labels, of which none begins with the prefix, and one that begins at `start`; and whether the whole ones have lengths that the DNS allows
pub record IsCut (name : List ℕ) (at start : ℕ) (fit : Bool) : Type 0 where
  pub whole : List (List ℕ)
  pub labels : labels_of name ≡ whole ++ labels_of (drop start name)
  pub order : start ≤ at
  pub none : IsWithoutStop name start at
  pub free : list_any has_ace_prefix whole ≡ false
  pub lengths : fit ≡ list_all has_length whole

pub cut_nothing : (name : List ℕ) → IsCut name 0 0 true
cut_nothing name = record {
  whole = [];
  labels = refl;
  order = omega arith;
  none = λ k d from to. absurd (omega arith);
  free = refl;
  lengths = refl;
}

-- octets that are no full stops
pub cut_more : {name : List ℕ} {at start : ℕ} {fit : Bool} → IsCut name at start fit → (end : ℕ) → at ≤ end → IsWithoutStop name at end → IsCut name end start fit
cut_more {name} {at} {start} r end le more = record {
  whole = r.whole;
  labels = r.labels;
  order = omega (arith, r.order);
  none = AllWithin-join IsNoStop name start at at end (omega arith) r.none more;
  free = r.free;
  lengths = r.lengths;
}

-- ---- the prefix

-- a full stop after a label makes no prefix of it
before_stop : (label more : List ℕ) → has_ace_prefix (label ++ full_stop ∷ more) ≡ has_ace_prefix label
unfolding has_ace_prefix
before_stop [] more = refl
before_stop (a ∷ []) more = refl
before_stop (a ∷ b ∷ []) more = refl
before_stop (a ∷ b ∷ d ∷ []) more = refl
before_stop (a ∷ b ∷ d ∷ e ∷ label) more = refl

-- the first label of a name has the prefix where the name has it
first_prefix : (name label : List ℕ) (others : List (List ℕ)) → labels_of name ≡ label ∷ others → has_ace_prefix name ≡ has_ace_prefix label
first_prefix name label others is = ap has_ace_prefix (sym (join_labels-labels_of name) ∙ ap join_labels is) ∙ joined others
  where
    joined : (others : List (List ℕ)) → has_ace_prefix (join_labels (label ∷ others)) ≡ has_ace_prefix label
    joined [] = refl
    joined (next ∷ others) = before_stop label (join_labels (next ∷ others))

-- the octets from a place on, as they stand and in lower case
pub rest_prefix : (name : List ℕ) (start : ℕ) {has : Bool} → has ≡ has_ace_prefix (lowered (slice_range name start (length name))) → has ≡ has_ace_prefix (drop start (lowered name))
rest_prefix name start is = is ∙ ap has_ace_prefix (ap lowered (take_rest name start) ∙ sym (drop-map to_ascii_lowercase start name))

-- whether a label has the prefix, by the labels that follow the whole ones
cut_prefix : {name : List ℕ} {at start : ℕ} {fit : Bool} → IsCut name at start fit → (label : List ℕ) (others : List (List ℕ)) → labels_of (drop start name) ≡ label ∷ others → (has : Bool) → has ≡ has_ace_prefix (drop start name) → list_any has_ace_prefix (labels_of name) ≡ (has || list_any has_ace_prefix others)
cut_prefix {name} {at} {start} r label others parts has is =
    ap (list_any has_ace_prefix) (r.labels ∙ ap (λ rest. r.whole ++ rest) parts)
    ∙ list_any-append has_ace_prefix r.whole (label ∷ others)
    ∙ ap₂ (λ a b. a || (b || list_any has_ace_prefix others)) r.free (sym (is ∙ first_prefix (drop start name) label others parts))

pub prefix_told : (name : List ℕ) {at start : ℕ} {fit : Bool} → IsCut (lowered name) at start fit → true ≡ has_ace_prefix (lowered (slice_range name start (length name))) → list_any has_ace_prefix (labels_of (lowered name)) ≡ true
prefix_told name {at} {start} r is = cut_prefix r _ _ (labels_of_cons (drop start (lowered name))).2 true (rest_prefix name start is)

-- a full stop
pub cut_stop : {name : List ℕ} {at start : ℕ} {fit : Bool} → IsCut name at start fit → at < length name → is_full_stop (get_or name at 0) ≡ true → false ≡ has_ace_prefix (drop start name) → (allowed : Bool) → allowed ≡ is_in_range 1 63 (at - start) → IsCut name (at + 1) (at + 1) (fit && allowed)
cut_stop {name} {at} {start} r within here free allowed is =
    let label = slice_range name start at in
    let parts = labels_at-stop name start at r.order within r.none (eqb-true _ 0x2E here) in
    record {
      whole = r.whole ++ label ∷ [];
      labels = r.labels ∙ ap (λ rest. r.whole ++ rest) parts ∙ sym (append_assoc r.whole (label ∷ []) (labels_of (drop (at + 1) name)));
      order = omega arith;
      none = λ k d from to. absurd (omega arith);
      free = list_any_push has_ace_prefix r.whole label ∙ ap₂ (λ a b. a || b) r.free (sym (free ∙ first_prefix (drop start name) label _ parts));
      lengths =
          ap₂ (λ a b. a && b) r.lengths (is ∙ ap (is_in_range 1 63) (sym (length-between name start at (omega arith))) ∙ sym (and-true (has_length label)))
          ∙ sym (list_all-append has_length r.whole (label ∷ []));
    }

-- the lengths of the whole name, a full stop at its end put aside
cut_measured : {name : List ℕ} {at start : ℕ} {fit : Bool} → IsCut name at start fit → at ≡ length name → verify_dns_length name true ≡ (fit && may_end start at)
cut_measured {name} {at} {start} {fit} r all =
    let last = slice_range name start (length name) in
    let labels : labels_of name ≡ r.whole ++ last ∷ [] = r.labels ∙ ap (λ rest. r.whole ++ rest) (labels_at-end name start at (omega arith) r.none) in
    let parts : name ≡ terminated r.whole ++ last = sym (join_labels-labels_of name) ∙ ap join_labels labels ∙ join_terminated r.whole last in
    let count : length (terminated r.whole) ≡ start = omega (arith, r.order, ap length parts ∙ length-append (terminated r.whole) last, length-between name start (length name) (omega arith)) in
    let without_stops = All-take HasNoFullStop (length r.whole) _ (subst (All HasNoFullStop) labels (HasNoFullStop-labels_of name)) in
    ap (λ x. verify_dns_length x true) parts
    ∙ measured r.whole last (subst (All HasNoFullStop) (take_at r.whole (last ∷ []) (length r.whole) refl) without_stops)
    (All-slice IsNoStop name start (length name) (AllWithin-upto IsNoStop name start at (length name) (omega arith) r.none))
    ∙ ap₂ (λ s n. list_all has_length r.whole && may_end s n) count (ap length (sym parts) ∙ sym all)
    ∙ ap (λ b. b && may_end start at) (sym r.lengths)

-- ---- what ToASCII gives

abbrev IsPoint : ℕ → Type 0
IsPoint c = is_name_point (to_ascii_lowercase c) ≡ true

name_point_low : (c : ℕ) → IsPoint c → c < 128
name_point_low c h = grind (arith, nat_tests)

valid : (deny : AsciiDenyList) (c : ℕ) → is_name_point c ≡ true → (c < 128) × (is_valid_char deny c ≡ true)
valid deny c h =
    let low : c < 128 = grind (arith, nat_tests) in
    let small : is_ascii_uppercase c ≡ false = grind (arith, nat_tests) in
    let allowed : may_be_denied c ≡ false = grind (arith, nat_tests) in
    (low, is_valid_char-ascii deny c low ∙ rw (small, denies-may_be_denied deny c allowed) refl)

no_prefixes : (labels : List (List ℕ)) → list_any has_ace_prefix labels ≡ false → list_all (passes_hyphens Allow) labels ≡ true
unfolding passes_hyphens
no_prefixes [] none = refl
no_prefixes (label ∷ labels) none =
    let parts = or_parts (has_ace_prefix label) (list_any has_ace_prefix labels) none in rw (parts.0, no_prefixes labels parts.1) refl

-- what ToASCII gives, where no label begins with the prefix
to_ascii-lowercase_name : (deny : AsciiDenyList) (name : List ℕ) → All IsPoint name → list_any has_ace_prefix (labels_of (lowered name)) ≡ false → to_ascii deny Allow Ignore name ≡ Some (lowered name)
to_ascii-lowercase_name deny name points none =
    sym (to_ascii-map-lowercase deny Allow Ignore name (IsAscii-from_all name (All-weaker _ _ name_point_low name points)))
    ∙ to_ascii-plain deny Allow (lowered name) (record {
      valid = All-weaker _ _ (valid deny) (lowered name) (All-map (λ c. is_name_point c ≡ true) to_ascii_lowercase name points);
      placed = no_prefixes (labels_of (lowered name)) none;
    })

-- the answer, where a name was written in lower case as far as `at`, its end, and cut there
pub ldh_answer : (name room : List ℕ) (at start : ℕ) (fit : Bool) → at ≡ length name → take at room ≡ take at (lowered name) → AllWithin IsPoint name 0 at → IsCut (lowered name) at start fit → false ≡ has_ace_prefix (lowered (slice_range name start (length name))) → (std3 : Bool) → utf8_answer name std3 ≡ cond (fit && may_end start (length name)) (Ok (take (length name) room)) (Err LookupLength)
ldh_answer name room at start fit all lower points cut free std3 =
    let query = lowered name in
    let count = length-map name to_ascii_lowercase in
    let none = cut_prefix cut _ [] (labels_at-end query start at (omega (arith, count)) cut.none) false (rest_prefix name start free) in
    let shown : take (length name) room ≡ query = ap (λ n. take n room) (sym all) ∙ lower ∙ take_all at query (omega (arith, count)) in
    let given = to_ascii-lowercase_name (deny_list std3) name (All-from_all_within IsPoint name (AllWithin-upto IsPoint name 0 at (length name) (omega arith) points)) none in
    utf8_answer-measured name std3 (deny_list std3) query refl given
    ∙ ap (λ b. cond b (Ok query) (Err LookupLength)) (cut_measured cut (omega (arith, count)) ∙ ap (λ n. fit && may_end start n) all)
    ∙ ap (λ x. cond (fit && may_end start (length name)) (Ok x) (Err LookupLength)) (sym shown)

-- ---- the labels one by one

-- what holds of all labels holds of the first and of the others
pub all_labels : (P : List ℕ → Type 0) (name first : List ℕ) (others : List (List ℕ)) → labels_of name ≡ first ∷ others → All P (labels_of name) → P first × All P others
all_labels P name first others parts all =
    let both = recursion_from_All P (first ∷ others) (subst (All P) parts all) in (both.0, All-from_recursion P others both.1)
