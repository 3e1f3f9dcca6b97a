-- Entries without a fault are those of a well-formed table.
use Rattle.std.proofs.Common.{◌≡◌, ◌⊎◌, inl, inr, ℕ, zero, suc, ◌+◌, ◌<◌, Bool, true, false, not, ◌||◌, ◌&&◌, List, [], ◌∷◌, ◌++◌, length, map, get_or, Ok, refl, sym, ap, subst, ◌∙◌, arith, append_assoc, length-append}
use Rattle.std.specs.Prelude.{nat_lt, bytes_eq, ◌≢◌, ◌≤◌, Option, Some, None, is_some, slice_index}
use Rattle.std.specs.List.{AllByRecursion, All, AllPairs, list_all, list_any, range_with_len}
use Rattle.std.proofs.lemmas.Bool.Decides.{nat_tests}
use Rattle.std.proofs.lemmas.Bool.{and_parts, ltb-false, le-ltb, or_parts, or_from, not-false, not_from_true, false_from_ne_true, not-true}
use Rattle.std.proofs.lemmas.List.{append-nil}
use Rattle.std.proofs.Math.ListN.{get_or-append}
use Rattle.std.proofs.Math.Seq.{get_or-append_seam}
use Rattle.std.proofs.lemmas.List.Elements.{All-from_recursion, recursion_from_All}
use Rattle.std.proofs.lemmas.List.Folds.{list_any_none}
use Rattle.std.proofs.lemmas.List.Quantifiers.{all_pairs_push}
use Rattle.std.proofs.lemmas.Slice.Eq.{bytes_eq-Decides}
use Rattle.idn_text.specs.Points.{is_scalar_value}
use Rattle.ruleset_text.specs.Classes.{is_label_class}
use Rattle.variant_table.specs.WellFormed.{IsPointBy, HasPointsBy, IsTablePoint, IsSequence as IsTableSequence, IsEntry}
use Rattle.idn_class.specs.Class.{class_of, is_scalar}
use Rattle.idn_class.specs.declared.class.Class.{Class}
use Rattle.idn_class.specs.declared.class.Class.TheVariants as classes
use Rattle.idn_class.specs.Barring.{is_barred}
use Rattle.idn_class.proofs.FactLabels.{unbarred_by}
use Rattle.idn_class.proofs.ClassNumbers.{class_of-no_scalar, is_scalar-out}
use Rattle.std.proofs.lemmas.List.{length-map}
use Rattle.std.proofs.lemmas.List.Concat.{flat_map-append}
use Rattle.std.specs.Option.{option_map}
use Rattle.ruleset_text.specs.declared.named_condition.NamedCondition.{NamedCondition}
use Rattle.ruleset_text.specs.Definitions.{Definitions, definitions_text, type_names}
use Rattle.ruleset_text.specs.Entries.{Mapped, EntryForm}
use Rattle.ruleset_text.specs.EntryText.{IsSequence, IsMapped, IsForm, entry_text}
use Rattle.ruleset_text.specs.Names.{predefined_types}
use Rattle.variant_table.specs.declared.version.Version.{Version}
use Rattle.variant_table.specs.declared.version.Version.TheVariants.{One, Two, Three}
use Rattle.variant_table.specs.Canonical.{canonical_line, canonical_text, head_text, table_text, written_text}
use Rattle.variant_table.specs.Entries.{Variant, Entry, replacements, sequences_in, IsOfVersion, IsPlain, IsPlainOrBlocked, itself, whole}
use Rattle.variant_table.specs.inner.Held.{HasNoEmptySequence}
use Rattle.variant_table.specs.Limits.{entry_limit}
use Rattle.variant_table.specs.Ranges.{entry_in_range, range_size}
use Rattle.variant_table.specs.Conditions.{is_too_large, is_text_too_long, is_over_limit, has_bad_point, has_bad_class, has_repeat, has_source_in}
use Rattle.variant_table.specs.Forms.{has_form, with_point, written_to, written_out, knows_rule, knows_type, knows_names, knows_all, numbered, source_mark, variant_mark, type_by, variant_by, sequences_of, entry_of, entries_of, SpellsEntries, as_written, normal}
use Rattle.variant_table.proofs.VersionLemmas.{is_plain, is_bare, begins_marked, is_form, form_parts}
use Rattle.variant_table.specs.Reading.{with_form}
use Rattle.variant_table.specs.WellFormed.{HasItsRule, HasItsType, HasItsNames, IsNamed}
use Rattle.variant_table.proofs.FormSteps.{all_typed}
use Rattle.variant_table.proofs.NumberLemmas.{MayBeTyped, all_back, number_below}
use Rattle.variant_table.proofs.RepeatLemmas.{distinct_from, no_repeats, repeat_is}
use Rattle.variant_table.proofs.TestLemmas.{told_by, with_form-by}
use Rattle.idn_class.specs.declared.properties.Properties.{Properties}
use Rattle.idn_class.specs.declared.properties.Properties.TheVariants.{Profile, Unicode}

-- ---- scalar values

abbrev pub AreScalars : List ℕ → Type 0
AreScalars s = AllByRecursion (λ c. is_scalar_value c ≡ true) s

-- ---- the classes

-- a code point of a class that a table holds is a scalar value
no_scalar : (c : ℕ) → is_scalar_value c ≡ false → is_scalar c ≡ false
no_scalar c h = is_scalar-out c (grind (arith, nat_tests))

scalar_of_class : (p : Properties) (c : ℕ) → is_label_class (class_of p c) ≡ true → is_scalar_value c ≡ true
scalar_of_class p c h = by_cases (is_scalar_value c) refl
  where
    by_cases : (b : Bool) → is_scalar_value c ≡ b → is_scalar_value c ≡ true
    by_cases true e = e
    by_cases false e = (let f : true ≡ false = sym h ∙ ap is_label_class (class_of-no_scalar p c (no_scalar c e)) in absurd cc)

-- what the profile lets a table hold the standard does, too
table_free : (class : Class) → is_label_class class ≡ true → is_barred class ≡ false
table_free classes.Disallowed h = cc
table_free classes.Unassigned h = cc
table_free classes.Pvalid h = refl
table_free classes.Contextj h = refl
table_free classes.Contexto h = refl

free_table : (class : Class) → is_barred class ≡ false → is_label_class class ≡ true
free_table classes.Disallowed h = cc
free_table classes.Unassigned h = cc
free_table classes.Pvalid h = refl
free_table classes.Contextj h = refl
free_table classes.Contexto h = refl

standard_table : (p : Properties) (c : ℕ) → is_label_class (class_of p c) ≡ true → is_label_class (class_of Unicode c) ≡ true
standard_table Profile c h = free_table (class_of Unicode c) (unbarred_by Unicode c (table_free (class_of Profile c) h))
standard_table Unicode c h = h

points_table : (p : Properties) (s : List ℕ) → has_bad_point p s ≡ false → AllByRecursion IsTablePoint s
points_table p [] k = tt
points_table p (c ∷ s) k =
    let q = or_parts (not (is_label_class (class_of p c))) (has_bad_point p s) k in
    let class : is_label_class (class_of p c) ≡ true = not-false (is_label_class (class_of p c)) q.0 in
    (record { scalar_value = scalar_of_class p c class; class = standard_table p c class }, points_table p s q.1)

points_by : (p : Properties) (s : List ℕ) → has_bad_point p s ≡ false → AllByRecursion (IsPointBy p) s
points_by p [] k = tt
points_by p (c ∷ s) k =
    let q = or_parts (not (is_label_class (class_of p c))) (has_bad_point p s) k in (not-false (is_label_class (class_of p c)) q.0, points_by p s q.1)

points_good : (p : Properties) (s : List ℕ) → AllByRecursion (IsPointBy p) s → has_bad_point p s ≡ false
points_good p [] h = refl
points_good p (c ∷ s) h = or_from (not (is_label_class (class_of p c))) (has_bad_point p s) (not_from_true (is_label_class (class_of p c)) h.0) (points_good p s h.1)

-- ---- one entry

sequences_table : (p : Properties) (ss : List (List ℕ)) → AllByRecursion (λ s. 0 < length s) ss → list_any (λ s. nat_lt 8 (length s)) ss ≡ false → list_any (has_bad_point p) ss ≡ false → AllByRecursion IsTableSequence ss
sequences_table p [] f l k = tt
sequences_table p (s ∷ ss) f l k =
    let r = or_parts (nat_lt 8 (length s)) (list_any (λ s. nat_lt 8 (length s)) ss) l in
    let q = or_parts (has_bad_point p s) (list_any (has_bad_point p) ss) k in
    (record { filled = omega (arith, f.0); short = ltb-false 8 (length s) r.0; points = All-from_recursion IsTablePoint s (points_table p s q.0) }, sequences_table p ss f.1 r.1 q.1)

sequences_short : (ss : List (List ℕ)) → AllByRecursion IsTableSequence ss → list_any (λ s. nat_lt 8 (length s)) ss ≡ false
sequences_short [] h = refl
sequences_short (s ∷ ss) h = or_from (nat_lt 8 (length s)) (list_any (λ s. nat_lt 8 (length s)) ss) (le-ltb 8 (length s) h.0.short) (sequences_short ss h.1)

sequences_by : (p : Properties) (ss : List (List ℕ)) → list_any (has_bad_point p) ss ≡ false → AllByRecursion (λ s. All (IsPointBy p) s) ss
sequences_by p [] k = tt
sequences_by p (s ∷ ss) k =
    let q = or_parts (has_bad_point p s) (list_any (has_bad_point p) ss) k in (All-from_recursion (IsPointBy p) s (points_by p s q.0), sequences_by p ss q.1)

sequences_good : (p : Properties) (ss : List (List ℕ)) → AllByRecursion (λ s. All (IsPointBy p) s) ss → list_any (has_bad_point p) ss ≡ false
sequences_good p [] h = refl
sequences_good p (s ∷ ss) h = or_from (has_bad_point p s) (list_any (has_bad_point p) ss) (points_good p s (recursion_from_All (IsPointBy p) s h.0)) (sequences_good p ss h.1)

pub entries_by : (p : Properties) (es : List Entry) → list_any (has_bad_class p) es ≡ false → AllByRecursion (HasPointsBy p) es
entries_by p [] k = tt
entries_by p (e ∷ es) k =
    let q = or_parts (has_bad_class p e) (list_any (has_bad_class p) es) k in
    (All-from_recursion (λ s. All (IsPointBy p) s) (replacements e) (sequences_by p (replacements e) q.0), entries_by p es q.1)

pub entries_good : (p : Properties) (es : List Entry) → AllByRecursion (HasPointsBy p) es → list_any (has_bad_class p) es ≡ false
entries_good p [] h = refl
entries_good p (e ∷ es) h =
    or_from (has_bad_class p e) (list_any (has_bad_class p) es) (sequences_good p (replacements e) (recursion_from_All (λ s. All (IsPointBy p) s) (replacements e) h.0)) (entries_good p es h.1)

pub sequences_filled : (ss : List (List ℕ)) → AllByRecursion IsTableSequence ss → AllByRecursion (λ s. 0 < length s) ss
sequences_filled [] h = tt
sequences_filled (s ∷ ss) h = (omega (arith, h.0.filled), sequences_filled ss h.1)

points_scalars : (s : List ℕ) → AllByRecursion IsTablePoint s → AreScalars s
points_scalars [] h = tt
points_scalars (c ∷ s) h = (h.0.scalar_value, points_scalars s h.1)

pub sequences_scalar : (ss : List (List ℕ)) → AllByRecursion IsTableSequence ss → AllByRecursion AreScalars ss
sequences_scalar [] h = tt
sequences_scalar (s ∷ ss) h = (points_scalars s (recursion_from_All IsTablePoint s h.0.points), sequences_scalar ss h.1)

-- ---- an entry as it is written

filled_by : (d : Definitions) (mark : ℕ) (ms : List Mapped) → HasNoEmptySequence ms → AllByRecursion (λ s. 0 < length s) (sequences_in (map (variant_by mark d) ms))
filled_by d mark [] h = tt
filled_by d mark (m ∷ ms) h = (h.0, filled_by d mark ms h.1)

filled_of : (d : Definitions) (ms : List Mapped) → HasNoEmptySequence ms → AllByRecursion (λ s. 0 < length s) (sequences_in (sequences_of d ms))
filled_of d [] h = tt
filled_of d (m ∷ ms) h = (h.0, filled_by d variant_mark ms h.1)

short_by : (d : Definitions) (mark : ℕ) (ms : List Mapped) → list_any (λ m. nat_lt 8 (length m.points)) ms ≡ list_any (λ s. nat_lt 8 (length s)) (sequences_in (map (variant_by mark d) ms))
short_by d mark [] = refl
short_by d mark (m ∷ ms) = ap (λ b. nat_lt 8 (length m.points) || b) (short_by d mark ms)

short_of : (d : Definitions) (ms : List Mapped) → list_any (λ m. nat_lt 8 (length m.points)) ms ≡ list_any (λ s. nat_lt 8 (length s)) (sequences_in (sequences_of d ms))
short_of d [] = refl
short_of d (m ∷ ms) = ap (λ b. nat_lt 8 (length m.points) || b) (short_by d variant_mark ms)

-- an entry without a fault of its own
pub entry_from_tests : (d : Definitions) (ms : List Mapped) → 0 < length ms → HasNoEmptySequence ms → is_too_large ms ≡ false → has_bad_class d.properties (entry_of d ms) ≡ false → has_repeat (entry_of d ms) ≡ false → IsEntry (entry_of d ms)
entry_from_tests d [] l h a b r = absurd (omega (arith, l))
entry_from_tests d (m ∷ ms) l h a b r =
    let e : Entry = entry_of d (m ∷ ms) in
    let p = or_parts (nat_lt 17 (length (m ∷ ms))) (list_any (λ n. nat_lt 8 (length n.points)) (m ∷ ms)) a in
    record {
      sequences = All-from_recursion IsTableSequence (replacements e) (sequences_table d.properties (replacements e) (filled_of d (m ∷ ms) h) (sym (short_of d (m ∷ ms)) ∙ p.1) b);
      few = omega (arith, ltb-false 17 (length (m ∷ ms)) p.0, length-map ms (variant_by variant_mark d));
      distinct = distinct_from (itself e ∷ e.variants) (sym (repeat_is e) ∙ r);
    }

pub small_from_entry : (d : Definitions) (ms : List Mapped) → 0 < length ms → IsEntry (entry_of d ms) → is_too_large ms ≡ false
small_from_entry d [] l h = absurd (omega (arith, l))
small_from_entry d (m ∷ ms) l h =
    or_from (nat_lt 17 (length (m ∷ ms))) (list_any (λ n. nat_lt 8 (length n.points)) (m ∷ ms)) (le-ltb 17 (length (m ∷ ms)) (omega (arith, h.few, length-map ms (variant_by variant_mark d))))
    (short_of d (m ∷ ms) ∙ sequences_short (replacements (entry_of d (m ∷ ms))) (recursion_from_All IsTableSequence (replacements (entry_of d (m ∷ ms))) h.sequences))

pub single_from_entry : (e : Entry) → IsEntry e → has_repeat e ≡ false
single_from_entry e h = repeat_is e ∙ no_repeats (itself e ∷ e.variants) h.distinct

-- ---- sources

-- each entry's source is not among those before it
abbrev pub AreNewSources : List Entry → List Entry → Type 0
AreNewSources before [] = Unit {0}
AreNewSources before (e ∷ table) = (has_source_in before e ≡ false) × AreNewSources (before ++ e ∷ []) table

abbrev Apart : Entry → Entry → Type 0
Apart e f = e.source ≢ f.source

sources_apart : (before : List Entry) (e : Entry) → has_source_in before e ≡ false → AllByRecursion (λ f. f.source ≢ e.source) before
sources_apart [] e h = tt
sources_apart (f ∷ before) e h =
    let p = or_parts (bytes_eq f.source e.source) (has_source_in before e) h in
    (λ same. (let t : bytes_eq f.source e.source ≡ true = (bytes_eq-Decides f.source e.source).1 same in let x : true ≡ false = sym t ∙ p.0 in cc), sources_apart before e p.1)

pub distinct_sources : (before table : List Entry) → AllPairs Apart before → AreNewSources before table → AllPairs Apart (before ++ table)
distinct_sources before [] h new = subst (AllPairs Apart) (sym (append-nil before)) h
distinct_sources before (e ∷ table) h new =
    let more : AllPairs Apart (before ++ e ∷ []) = all_pairs_push Apart before e h (All-from_recursion (λ f. f.source ≢ e.source) before (sources_apart before e new.0)) in
    subst (AllPairs Apart) (append_assoc before (e ∷ []) table) (distinct_sources (before ++ e ∷ []) table more new.1)

pub no_sources : AllPairs Apart []
no_sources = λ i j d l k. absurd (omega (arith, k))

apart_at : (before table : List Entry) (e : Entry) → AllPairs Apart (before ++ e ∷ table) → All (λ f. bytes_eq f.source e.source ≡ false) before
apart_at before table e h = λ k d l.
    let left : get_or (before ++ e ∷ table) k d ≡ get_or before k d = get_or-append before (e ∷ table) d k l in
    let here : get_or (before ++ e ∷ table) (length before) d ≡ e = get_or-append_seam before e table d in
    let within : length before < length (before ++ e ∷ table) = omega (arith, length-append before (e ∷ table)) in
    let apart : (get_or before k d).source ≢ e.source = subst (λ x. x.source ≢ e.source) left (subst (λ x. (get_or (before ++ e ∷ table) k d).source ≢ x.source) here (h k (length before) d l within)) in
    false_from_ne_true (bytes_eq (get_or before k d).source e.source) (λ t. apart ((bytes_eq-Decides (get_or before k d).source e.source).0 t))

pub new_sources : (before table : List Entry) → AllPairs Apart (before ++ table) → AreNewSources before table
new_sources before [] h = tt
new_sources before (e ∷ table) h = (
  list_any_none (λ f. bytes_eq f.source e.source) before (apart_at before table e h),
  new_sources (before ++ e ∷ []) table (subst (AllPairs Apart) (sym (append_assoc before (e ∷ []) table)) h),
)

-- ---- the sources and variants of a line

filled_points : (m : Mapped) (cs : List ℕ) → AllByRecursion HasNoEmptySequence (map (λ c. with_point m c ∷ []) cs)
filled_points m [] = tt
filled_points m (c ∷ cs) = ((omega arith, tt), filled_points m cs)

sequence_filled : (points : List ℕ) → IsSequence points → 0 < length points
sequence_filled [] h = absurd h
sequence_filled (c ∷ points) h = omega arith

pub filled_mapped : (mapped : List Mapped) → AllByRecursion IsMapped mapped → HasNoEmptySequence mapped
filled_mapped [] h = tt
filled_mapped (m ∷ mapped) h = (sequence_filled m.points h.0.sequence, filled_mapped mapped h.1)

-- each of a form
pub all_mapped : (last : Option ℕ) (mapped : List Mapped) → IsForm mapped last → AllByRecursion IsMapped mapped
all_mapped last [] h = absurd h
all_mapped None (m ∷ mapped) h = h
all_mapped (Some c) (m ∷ []) h = (h.0, tt)
all_mapped (Some c) (m ∷ n ∷ mapped) h = absurd h

filled_form : (last : Option ℕ) (mapped : List Mapped) → IsForm mapped last → AllByRecursion HasNoEmptySequence (written_to last mapped)
filled_form None mapped h = (filled_mapped mapped (all_mapped None mapped h), tt)
filled_form (Some last) [] h = absurd h
filled_form (Some last) (m ∷ mapped) h = filled_points m (range_with_len (slice_index m.points 0) (range_size (slice_index m.points 0) last))

-- an entry as it is written: a source, what is marked has no type, and its names are defined
pub record IsKnown (d : Definitions) (ms : List Mapped) : Type 0 where
  pub some : 0 < length ms
  pub typed : AllByRecursion MayBeTyped ms
  pub names : knows_all d ms ≡ true

known_points : (d : Definitions) (m : Mapped) (cs : List ℕ) → MayBeTyped m → knows_all d (m ∷ []) ≡ true → AllByRecursion (IsKnown d) (map (λ c. with_point m c ∷ []) cs)
known_points d m [] may h = tt
known_points d m (c ∷ cs) may h = (record { some = omega arith; typed = (may, tt); names = h }, known_points d m cs may h)

pub known_form : (d : Definitions) (last : Option ℕ) (mapped : List Mapped) → IsForm mapped last → knows_all d mapped ≡ true → AllByRecursion (IsKnown d) (written_to last mapped)
known_form d last [] h k = absurd h
known_form d None (m ∷ mapped) h k = (record { some = omega arith; typed = all_typed (m ∷ mapped) h; names = k }, tt)
known_form d (Some last) (m ∷ []) h k = known_points d m (range_with_len (slice_index m.points 0) (range_size (slice_index m.points 0) last)) h.0.type_name k
known_form d (Some last) (m ∷ n ∷ mapped) h k = absurd h

line_back : (d : Definitions) (ms : List Mapped) → IsKnown d ms → as_written d (entry_of d ms) ≡ normal ms
line_back d [] h = absurd (omega (arith, h.some))
line_back d (m ∷ ms) h = all_back d m ms h.typed h.names

-- the canonical text of entries is what they are written as
pub text_back : (d : Definitions) (es : List (List Mapped)) → AllByRecursion (IsKnown d) es → canonical_text d (map (entry_of d) es) ≡ written_text es
text_back d [] h = refl
text_back d (ms ∷ es) h =
    ap (λ m. (entry_text m None ++ 10 ∷ []) ++ canonical_text d (map (entry_of d) es)) (line_back d ms h.0) ∙ ap (λ t. (entry_text (normal ms) None ++ 10 ∷ []) ++ t) (text_back d es h.1)

-- ---- the forms of a version

pub bare_plain : (mapped : List Mapped) → list_all is_bare mapped ≡ true → list_all is_plain mapped ≡ true
bare_plain [] h = refl
bare_plain (m ∷ mapped) h =
    let p = and_parts (is_bare m) (list_all is_bare mapped) h in
    ap (λ b. b && list_all is_plain mapped) (and_parts (is_plain m) (not m.marked) p.0).0 ∙ bare_plain mapped p.1

none_there : {X : Type 0} (o : Option X) → not (is_some o) ≡ true → o ≡ None
none_there None h = refl
none_there (Some x) h = absurd cc

pub plain_is : (m : Mapped) → is_plain m ≡ true → (m.type_name ≡ None) × (m.condition ≡ None)
plain_is m h = let p = and_parts (not (is_some m.type_name)) (not (is_some m.condition)) h in (none_there m.type_name p.0, none_there m.condition p.1)

-- what is plain and has no '!' makes what has neither a type nor a condition
unmarked_variant : (d : Definitions) (mark : ℕ) (m : Mapped) → is_plain m ≡ true → m.marked ≡ false → IsPlain (variant_by mark d m)
unmarked_variant d mark m h u =
    let p = plain_is m h in
    (ap (λ b. type_by mark d b m.type_name) u ∙ ap (λ n. type_by mark d false n) p.0, ap (option_map (numbered d)) p.1)

bare_variants : (d : Definitions) (mark : ℕ) (mapped : List Mapped) → list_all is_bare mapped ≡ true → AllByRecursion IsPlain (map (variant_by mark d) mapped)
bare_variants d mark [] h = tt
bare_variants d mark (m ∷ mapped) h =
    let p = and_parts (is_bare m) (list_all is_bare mapped) h in
    let q = and_parts (is_plain m) (not m.marked) p.0 in
    (unmarked_variant d mark m q.0 (not-true m.marked q.1), bare_variants d mark mapped p.1)

-- what is plain makes a variant that is blocked at most
blocked_variant : (d : Definitions) (m : Mapped) → is_plain m ≡ true → IsPlainOrBlocked (variant_by variant_mark d m)
blocked_variant d m h = (by m.marked refl, ap (option_map (numbered d)) (plain_is m h).1)
  where
    by : (b : Bool) → m.marked ≡ b → (type_by variant_mark d m.marked m.type_name ≡ None) ⊎ (type_by variant_mark d m.marked m.type_name ≡ Some 1)
    by true e = inr (ap (λ b. type_by variant_mark d b m.type_name) e)
    by false e = inl (ap (λ b. type_by variant_mark d b m.type_name) e ∙ ap (λ n. type_by variant_mark d false n) (plain_is m h).0)

blocked_variants : (d : Definitions) (mapped : List Mapped) → list_all is_plain mapped ≡ true → AllByRecursion IsPlainOrBlocked (map (variant_by variant_mark d) mapped)
blocked_variants d [] h = tt
blocked_variants d (m ∷ mapped) h = let p = and_parts (is_plain m) (list_all is_plain mapped) h in (blocked_variant d m p.0, blocked_variants d mapped p.1)

-- and its names are defined
pub plain_known : (d : Definitions) (mapped : List Mapped) → list_all is_plain mapped ≡ true → knows_all d mapped ≡ true
plain_known d [] h = refl
plain_known d (m ∷ mapped) h =
    let p = and_parts (is_plain m) (list_all is_plain mapped) h in
    let q = plain_is m p.0 in
    ap (λ t. (knows_type d t && knows_rule d m.condition) && knows_all d mapped) q.0 ∙ ap (λ c. knows_rule d c && knows_all d mapped) q.1 ∙ plain_known d mapped p.1

bare_entry : (d : Definitions) (mapped : List Mapped) → list_all is_bare mapped ≡ true → IsOfVersion One (entry_of d mapped)
bare_entry d [] h = All-from_recursion IsPlain (whole (entry_of d [])) ((refl, refl), tt)
bare_entry d (m ∷ mapped) h =
    let p = and_parts (is_bare m) (list_all is_bare mapped) h in
    let q = and_parts (is_plain m) (not m.marked) p.0 in
    All-from_recursion IsPlain (whole (entry_of d (m ∷ mapped))) (unmarked_variant d source_mark m q.0 (not-true m.marked q.1), bare_variants d variant_mark mapped p.1)

unmarked_entry : (d : Definitions) (mapped : List Mapped) → list_all is_plain mapped ≡ true → begins_marked mapped ≡ false → IsOfVersion Two (entry_of d mapped)
unmarked_entry d [] p h = ((refl, refl), All-from_recursion IsPlainOrBlocked [] tt)
unmarked_entry d (m ∷ mapped) p h =
    let q = and_parts (is_plain m) (list_all is_plain mapped) p in
    (unmarked_variant d source_mark m q.0 h, All-from_recursion IsPlainOrBlocked (map (variant_by variant_mark d) mapped) (blocked_variants d mapped q.1))

-- in a range
each_point : (P : Entry → Type 0) (d : Definitions) (m : Mapped) (cs : List ℕ) → ((c : ℕ) → P (entry_of d (with_point m c ∷ []))) → AllByRecursion P (map (entry_of d) (map (λ c. with_point m c ∷ []) cs))
each_point P d m [] h = tt
each_point P d m (c ∷ cs) h = (h c, each_point P d m cs h)

of_form : (v : Version) (d : Definitions) (last : Option ℕ) (mapped : List Mapped) → is_form v (record { mapped = mapped; last = last }) ≡ true → AllByRecursion (IsOfVersion v) (map (entry_of d) (written_to last mapped))
of_form One d None mapped h = (bare_entry d mapped (and_parts (list_all is_bare mapped) true h).0, tt)
of_form One d (Some last) mapped h = absurd (let p = (and_parts (list_all is_bare mapped) false h).1 in cc)
of_form Two d None mapped h =
    let p = and_parts (list_all is_plain mapped) (not (begins_marked mapped)) h in (unmarked_entry d mapped p.0 (not-true (begins_marked mapped) p.1), tt)
of_form Two d (Some last) [] h = tt
of_form Two d (Some last) (m ∷ mapped) h =
    let p = and_parts (list_all is_plain (m ∷ mapped)) (not m.marked) h in
    each_point (IsOfVersion Two) d m (range_with_len (slice_index m.points 0) (range_size (slice_index m.points 0) last))
    (λ c. (unmarked_variant d source_mark (with_point m c) (and_parts (is_plain m) (list_all is_plain mapped) p.0).0 (not-true m.marked p.1), All-from_recursion IsPlainOrBlocked [] tt))
of_form Three d None mapped h = (tt, tt)
of_form Three d (Some last) [] h = tt
of_form Three d (Some last) (m ∷ mapped) h =
    each_point (IsOfVersion Three) d m (range_with_len (slice_index m.points 0) (range_size (slice_index m.points 0) last)) (λ c. tt)

version_form : (v : Version) (d : Definitions) (last : Option ℕ) (mapped : List Mapped) → has_form v (record { mapped = mapped; last = last }) ≡ true → AllByRecursion (IsOfVersion v) (map (entry_of d) (written_to last mapped))
version_form v d last mapped h = of_form v d last mapped (form_parts v (record { mapped = mapped; last = last }) ∙ h)

-- ---- names

rule_named : (d : Definitions) (c : Option NamedCondition) → knows_rule d c ≡ true → HasItsRule d (option_map (numbered d) c)
rule_named d None h = tt
rule_named d (Some c) h = number_below d.rule_names c.rule h

-- the marks stand for predefined types
type_named : (d : Definitions) (mark : ℕ) (marked : Bool) (name : Option (List ℕ)) → mark < 2 → knows_type d name ≡ true → HasItsType d (type_by mark d marked name)
type_named d mark true name l h = omega (arith, l, length-append predefined_types d.types)
type_named d mark false None l h = tt
type_named d mark false (Some name) l h = number_below (type_names d) name h

-- the numbers of what is known
pub named_variant : (d : Definitions) (mark : ℕ) (m : Mapped) → mark < 2 → knows_names d m ≡ true → HasItsNames d (variant_by mark d m)
named_variant d mark m l k =
    let p = and_parts (knows_type d m.type_name) (knows_rule d m.condition) k in
    record { type = type_named d mark m.marked m.type_name l p.0; condition = rule_named d m.condition p.1 }

named_variants : (d : Definitions) (ms : List Mapped) → knows_all d ms ≡ true → AllByRecursion (HasItsNames d) (map (variant_by variant_mark d) ms)
named_variants d [] k = tt
named_variants d (m ∷ ms) k = let p = and_parts (knows_names d m) (knows_all d ms) k in (named_variant d variant_mark m (omega arith) p.0, named_variants d ms p.1)

named_entry : (d : Definitions) (m : Mapped) (ms : List Mapped) → knows_all d (m ∷ ms) ≡ true → IsNamed d (entry_of d (m ∷ ms))
named_entry d m ms k =
    let p = and_parts (knows_names d m) (knows_all d ms) k in
    All-from_recursion (HasItsNames d) (whole (entry_of d (m ∷ ms))) (named_variant d source_mark m (omega arith) p.0, named_variants d ms p.1)

named_point : (d : Definitions) (m : Mapped) (c : ℕ) → knows_all d (m ∷ []) ≡ true → IsNamed d (entry_of d (with_point m c ∷ []))
named_point d m c k =
    let one : HasItsNames d (variant_by source_mark d m) = named_variant d source_mark m (omega arith) (and_parts (knows_names d m) true k).0 in
    All-from_recursion (HasItsNames d) (whole (entry_of d (with_point m c ∷ []))) (record { type = one.type; condition = one.condition }, tt)

pub named_form : (d : Definitions) (last : Option ℕ) (mapped : List Mapped) → IsForm mapped last → knows_all d mapped ≡ true → AllByRecursion (IsNamed d) (map (entry_of d) (written_to last mapped))
named_form d last [] h k = absurd h
named_form d None (m ∷ mapped) h k = (named_entry d m mapped k, tt)
named_form d (Some last) (m ∷ []) h k =
    each_point (IsNamed d) d m (range_with_len (slice_index m.points 0) (range_size (slice_index m.points 0) last)) (λ c. named_point d m c k)
named_form d (Some last) (m ∷ n ∷ mapped) h k = absurd h

pub named_spelled : (v : Version) (d : Definitions) (line : List ℕ) (es : List Entry) → SpellsEntries v d line es → AllByRecursion (IsNamed d) es
named_spelled v d line es h = subst (AllByRecursion (IsNamed d)) (sym h.3) (named_form d h.0.last h.0.mapped h.1.0.0 h.2)

-- ---- the entries of a line

entries_from_tests : (d : Definitions) (es : List (List Mapped)) → AllByRecursion (λ ms. 0 < length ms) es → AllByRecursion HasNoEmptySequence es → list_any is_too_large es ≡ false
    → list_any (has_bad_class d.properties) (map (entry_of d) es) ≡ false → list_any has_repeat (map (entry_of d) es) ≡ false → AllByRecursion IsEntry (map (entry_of d) es)
entries_from_tests d [] l h a b r = tt
entries_from_tests d (ms ∷ es) l h a b r =
    let p = or_parts (is_too_large ms) (list_any is_too_large es) a in
    let q = or_parts (has_bad_class d.properties (entry_of d ms)) (list_any (has_bad_class d.properties) (map (entry_of d) es)) b in
    let s = or_parts (has_repeat (entry_of d ms)) (list_any has_repeat (map (entry_of d) es)) r in
    (entry_from_tests d ms l.0 h.0 p.0 q.0 s.0, entries_from_tests d es l.1 h.1 p.1 q.1 s.1)

pub small_entries : (d : Definitions) (es : List (List Mapped)) → AllByRecursion (IsKnown d) es → AllByRecursion IsEntry (map (entry_of d) es) → list_any is_too_large es ≡ false
small_entries d [] k h = refl
small_entries d (ms ∷ es) k h = or_from (is_too_large ms) (list_any is_too_large es) (small_from_entry d ms k.0.some h.0) (small_entries d es k.1 h.1)

some_of : (d : Definitions) (es : List (List Mapped)) → AllByRecursion (IsKnown d) es → AllByRecursion (λ ms. 0 < length ms) es
some_of d [] h = tt
some_of d (ms ∷ es) h = (h.0.some, some_of d es h.1)

-- the sources of a range are new to one another

source_push : (t : List Entry) (e f : Entry) → has_source_in t f ≡ false → bytes_eq e.source f.source ≡ false → has_source_in (t ++ e ∷ []) f ≡ false
source_push [] e f h k = or_from (bytes_eq e.source f.source) false k refl
source_push (x ∷ t) e f h k =
    let p = or_parts (bytes_eq x.source f.source) (has_source_in t f) h in
    or_from (bytes_eq x.source f.source) (has_source_in (t ++ e ∷ []) f) p.0 (source_push t e f p.1 k)

other_points : (a b : ℕ) → a < b → bytes_eq (a ∷ []) (b ∷ []) ≡ false
other_points a b l = false_from_ne_true (bytes_eq (a ∷ []) (b ∷ [])) (λ t.
    (let same : a ≡ b = ap (λ s. get_or s 0 0) ((bytes_eq-Decides (a ∷ []) (b ∷ [])).0 t) in omega (arith, same, l)))

range_push : (v : Variant) (t : List Entry) (a b n : ℕ) → a < b → list_any (has_source_in t) (map (entry_in_range v) (range_with_len b n)) ≡ false → list_any (has_source_in (t ++ entry_in_range v a ∷ [])) (map (entry_in_range v) (range_with_len b n)) ≡ false
range_push v t a b zero l h = refl
range_push v t a b (suc n) l h =
    let p = or_parts (has_source_in t (entry_in_range v b)) (list_any (has_source_in t) (map (entry_in_range v) (range_with_len (b + 1) n))) h in
    or_from (has_source_in (t ++ entry_in_range v a ∷ []) (entry_in_range v b)) (list_any (has_source_in (t ++ entry_in_range v a ∷ [])) (map (entry_in_range v) (range_with_len (b + 1) n)))
    (source_push t (entry_in_range v a) (entry_in_range v b) p.0 (other_points a b l)) (range_push v t a (b + 1) n (omega (arith, l)) p.1)

pub new_range : (v : Variant) (t : List Entry) (a n : ℕ) → list_any (has_source_in t) (map (entry_in_range v) (range_with_len a n)) ≡ false → AreNewSources t (map (entry_in_range v) (range_with_len a n))
new_range v t a zero h = tt
new_range v t a (suc n) h =
    let p = or_parts (has_source_in t (entry_in_range v a)) (list_any (has_source_in t) (map (entry_in_range v) (range_with_len (a + 1) n))) h in
    (p.0, new_range v (t ++ entry_in_range v a ∷ []) (a + 1) n (range_push v t a (a + 1) n (omega arith) p.1))

-- the entries of a range
pub points_are : (d : Definitions) (m : Mapped) (cs : List ℕ) → map (entry_of d) (map (λ c. with_point m c ∷ []) cs) ≡ map (entry_in_range (variant_by source_mark d m)) cs
points_are d m [] = refl
points_are d m (c ∷ cs) = ap (λ es. entry_in_range (variant_by source_mark d m) c ∷ es) (points_are d m cs)

new_form : (d : Definitions) (t : List Entry) (last : Option ℕ) (mapped : List Mapped) → list_any (has_source_in t) (map (entry_of d) (written_to last mapped)) ≡ false → AreNewSources t (map (entry_of d) (written_to last mapped))
new_form d t None mapped h = ((or_parts (has_source_in t (entry_of d mapped)) false h).0, tt)
new_form d t (Some last) [] h = tt
new_form d t (Some last) (m ∷ mapped) h =
    let first : ℕ = slice_index m.points 0 in
    let size : ℕ = range_size first last in
    let are = points_are d m (range_with_len first size) in
    subst (AreNewSources t) (sym are) (new_range (variant_by source_mark d m) t first size (ap (list_any (has_source_in t)) (sym are) ∙ h))

-- ---- a line without a fault

pub record Sound (v : Version) (d : Definitions) (t t' : List Entry) (form : EntryForm) : Type 0 where
  pub is : t' ≡ t ++ entries_of d form
  pub known : knows_all d form.mapped ≡ true
  pub sound : AllByRecursion IsEntry (entries_of d form)
  pub points : AllByRecursion (HasPointsBy d.properties) (entries_of d form)
  pub of_version : AllByRecursion (IsOfVersion v) (entries_of d form)
  pub named : AllByRecursion (IsNamed d) (entries_of d form)
  pub new : AreNewSources t (entries_of d form)
  pub few : length t + length (entries_of d form) ≤ entry_limit v
  pub fits : is_text_too_long v (table_text v d (t ++ entries_of d form)) ≡ false

-- the text with further entries
pub text_with : (v : Version) (d : Definitions) (t : List Entry) (es : List (List Mapped)) → AllByRecursion (IsKnown d) es → table_text v d (t ++ map (entry_of d) es) ≡ table_text v d t ++ written_text es
text_with v d t es h =
    ap (λ c. head_text v ++ (definitions_text d ++ c)) (flat_map-append (λ e. canonical_line d e ++ 10 ∷ []) t (map (entry_of d) es) ∙ ap (λ c. canonical_text d t ++ c) (text_back d es h))
    ∙ ap (λ c. head_text v ++ c) (sym (append_assoc (definitions_text d) (canonical_text d t) (written_text es)))
    ∙ sym (append_assoc (head_text v) (definitions_text d ++ canonical_text d t) (written_text es))

pub sound_form : (v : Version) (d : Definitions) (t t' : List Entry) (form : EntryForm) → IsForm form.mapped form.last → has_form v form ≡ true → with_form v d t form ≡ Ok t' → Sound v d t t' form
sound_form v d t t' form is_one parts e = by_cases _ _ _ _ _ refl refl refl refl refl (sym (with_form-by v d t form _ _ _ _ _ refl refl refl refl refl) ∙ e)
  where
    by_cases : (o k b r s : Bool) → is_over_limit v d t (written_out form) ≡ o → knows_all d form.mapped ≡ k → list_any (has_bad_class d.properties) (entries_of d form) ≡ b → list_any has_repeat (entries_of d form) ≡ r
        → list_any (has_source_in t) (entries_of d form) ≡ s → told_by t (entries_of d form) o k b r s ≡ Ok t' → Sound v d t t' form
    by_cases true k b r s f n g i j is = absurd cc
    by_cases false false b r s f n g i j is = absurd cc
    by_cases false true true r s f n g i j is = absurd cc
    by_cases false true false true s f n g i j is = absurd cc
    by_cases false true false false true f n g i j is = absurd cc
    by_cases false true false false false f n g i j is =
        let es : List (List Mapped) = written_out form in
        let known : AllByRecursion (IsKnown d) es = known_form d form.last form.mapped is_one n in
        let p = or_parts (nat_lt (entry_limit v) (length t + length es) || list_any is_too_large es) (is_text_too_long v (table_text v d t ++ written_text es)) f in
        let q = or_parts (nat_lt (entry_limit v) (length t + length es)) (list_any is_too_large es) p.0 in
        record {
          is = cc;
          known = n;
          sound = entries_from_tests d es (some_of d es known) (filled_form form.last form.mapped is_one) q.1 g i;
          points = entries_by d.properties (entries_of d form) g;
          of_version = version_form v d form.last form.mapped parts;
          named = named_form d form.last form.mapped is_one n;
          new = new_form d t form.last form.mapped j;
          few = omega (arith, ltb-false (entry_limit v) (length t + length es) q.0, length-map es (entry_of d));
          fits = ap (is_text_too_long v) (text_with v d t es known) ∙ p.1;
        }
