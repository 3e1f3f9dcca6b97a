-- Sources that stand in two entries.
use Rattle.std.proofs.Common.{◌≡◌, ◌≢◌, ℕ, zero, suc, ◌+◌, ◌-◌, ◌<◌, ◌≤◌, ◌||◌, inl, inr, Bool, true, false, cond, Ok, Err, List, [], ◌∷◌, ◌++◌, length, map, take, drop, get_or, refl, sym, ap, subst, ◌∙◌, arith, length-append}
use Rattle.std.specs.Prelude.{All, AllPairs, Contains, bytes_eq, filter, slice_index_or}
use Rattle.std.specs.List.{flat_map, list_any, range_with_len}
use Rattle.std.proofs.lemmas.Bool.Decides.{Decides-eqb}
use Rattle.std.proofs.lemmas.List.{append-nil, get_or-map, get_or_default, length-map, map-append, take-append-drop, take-map, take_more}
use Rattle.std.proofs.lemmas.List.Concat.{flat_map-append}
use Rattle.std.proofs.lemmas.List.Elements.{All-contains, All-contains_itself, All-filter, All-from_recursion, All-take, Contains-append_cases, Contains-append_left, Contains-append_right, Contains-get_or, recursion_from_All}
use Rattle.std.proofs.lemmas.List.Folds.{flat_map-map}
use Rattle.std.proofs.lemmas.List.FromFn.{get_or-range_with_len, length-range_with_len}
use Rattle.std.proofs.lemmas.Map.Made.{IsDistinct-from_AllPairs}
use Rattle.std.proofs.lemmas.Map.Steps.{length-le_from_distinct_below}
use Rattle.std.proofs.lemmas.Map.Views.{Contains-from_any}
use Rattle.std.proofs.lemmas.Slice.Eq.{bytes_eq-Decides}
use Rattle.std.proofs.Math.Seq.{drop-cons}
use Rattle.label_patterns.specs.declared.span.Span.{Span}
use Rattle.lgr_text.specs.CodePoints.{AreSpans}
use Rattle.lgr_text.specs.Known.{HaveSpans, single_points}
use Rattle.lgr_text.specs.Records.{Entry, Range, Sequence, Source, entry, source}
use Rattle.lgr_text.specs.declared.records.Entry.{Entry as Held}
use Rattle.lgr_text.specs.declared.records.Ruleset.{Ruleset}
use Rattle.ruleset_text.specs.Entries.{Mapped}
use Rattle.variant_table.specs.Building.{RefusedEntry, form_of}
use Rattle.variant_table.specs.Conditions.{has_bad_class, has_repeat, has_source_in, is_over_limit}
use Rattle.variant_table.specs.Entries as tables
use Rattle.variant_table.specs.Entries.{TableValue}
use Rattle.variant_table.specs.Faults as line
use Rattle.variant_table.specs.Forms.{entry_of, knows_all}
use Rattle.variant_table.specs.Ranges.{range_size}
use Rattle.variant_table.specs.Reading.{◌>>=◌, with_entries, with_form, with_form_of}
use Rattle.variant_table.specs.declared.fault.EntryFault.{EntryFault}
use Rattle.lgr_text.specs.Repertoire.{kept_sources, may_be, sources}
use Rattle.lgr_table.specs.Entries.{all_entries, entries_of, entry_with}
use Rattle.lgr_table.specs.Faults.{HasSourceTwice, IsFaultOfTable, LackRoom, all_sources}
use Rattle.lgr_table.specs.Numbers.{Numbering}
use Rattle.lgr_table.specs.declared.fault.TableError.{TableError}
use Rattle.lgr_table.specs.declared.fault.TableError.TheVariants.{Fault, Memory}
use Rattle.lgr_table.specs.declared.fault.TableFault.TheVariants.{BadClass, Limit, NoSuchName, NotSupported, SameName, SameSource, SameVariant, Syntax}
use Rattle.lgr_table.specs.inner.EntrySteps.{AddsSources}
use Rattle.lgr_table.specs.inner.FaultSteps.{HasDefinitionsOf, HasEntriesOf, TellsEntry, TellsSources, TellsVariants, point_count}
use Rattle.lgr_table.proofs.CalledLemmas.{mapped-more}
use Rattle.lgr_table.proofs.EntryLemmas.{singles}
use Rattle.lgr_table.proofs.FaultLemmas.{in-flat}
use Rattle.lgr_table.proofs.KnownLemmas.{in-map}
use Rattle.lgr_table.proofs.RuleLemmas.{in-one, of-one}

-- ---- pairs

pairs-cons : {X : Type 0} (R : X → X → Type 0) (x : X) (xs : List X) → ((y : X) → Contains xs y → R x y) → AllPairs R xs → AllPairs R (x ∷ xs)
pairs-cons R x xs first rest zero zero d before within = absurd (omega (arith, before))
pairs-cons R x xs first rest zero (suc j) d before within =
    let less : j < length xs = omega (arith, within) in first (slice_index_or xs j d) (Contains-get_or xs j d less)
pairs-cons R x xs first rest (suc i) zero d before within = absurd (omega (arith, before))
pairs-cons R x xs first rest (suc i) (suc j) d before within = rest i j d (omega (arith, before)) (omega (arith, within))

pairs-head : {X : Type 0} (R : X → X → Type 0) (x : X) (xs : List X) → AllPairs R (x ∷ xs) → (y : X) → Contains xs y → R x y
pairs-head R x xs all y h = subst (λ z. R x z) h.2 (all 0 (suc h.0) y (omega arith) (omega (arith, h.1)))

pairs-tail : {X : Type 0} (R : X → X → Type 0) (x : X) (xs : List X) → AllPairs R (x ∷ xs) → AllPairs R xs
pairs-tail R x xs all i j d before within = all (suc i) (suc j) d (omega (arith, before)) (omega (arith, within))

-- what stands in both parts
pub in-both : {X : Type 0} (xs ys : List X) (x : X) → Contains xs x → Contains ys x → AllPairs (λ a b. a ≢ b) (xs ++ ys) → ⊥
in-both [] ys x h k all = omega (arith, h.1)
in-both (z ∷ xs) ys x h k all = at (λ later. in-both xs ys x later k (pairs-tail (λ a b. a ≢ b) z (xs ++ ys) all)) h.0 h.1 h.2
  where
    at : (Contains xs x → ⊥) → (n : ℕ) → n < length (z ∷ xs) → slice_index_or (z ∷ xs) n x ≡ x → ⊥
    at rest zero less is = pairs-head (λ a b. a ≢ b) z (xs ++ ys) all x (Contains-append_right xs ys x k) is
    at rest (suc n) less is = rest (n, omega (arith, less), is)

-- ---- code points of ranges

abbrev pub range_points : Source → List ℕ
range_points (Sequence points) = []
range_points (Range span) = range_with_len span.first (range_size span.first span.last)

abbrev pub ranged : List Entry → List ℕ
ranged entries = flat_map (λ (e : Entry). range_points e.source) entries

abbrev single : ℕ → List ℕ
single c = c ∷ []

abbrev of_all : List Entry → List (List ℕ)
of_all entries = flat_map (λ (e : Entry). sources e.source) entries

in-part : (cs : List ℕ) (more : List ℕ) (all : List (List ℕ)) (c : ℕ) → ((d : ℕ) → Contains more d → Contains all (single d))
    → Contains (cs ++ more) c → Contains (map single cs ++ all) (single c)
in-part cs more all c later h = elim (Contains-append_cases cs more c h) [
  | inl k ↦ Contains-append_left (map single cs) all (single c) (in-map single cs c k)
  | inr k ↦ Contains-append_right (map single cs) all (single c) (later c k)
]

in-sources : (entries : List Entry) (c : ℕ) → Contains (ranged entries) c → Contains (of_all entries) (single c)
in-sources [] c h = absurd (omega (arith, h.1))
in-sources (e ∷ entries) c h = by (λ d later. in-sources entries d later) e.source h
  where
    by : ((d : ℕ) → Contains (ranged entries) d → Contains (of_all entries) (single d)) → (s : Source)
        → Contains (range_points s ++ ranged entries) c → Contains (sources s ++ of_all entries) (single c)
    by rest (Sequence points) k = Contains-append_right (points ∷ []) (of_all entries) (single c) (rest c k)
    by rest (Range span) k =
        in-part (range_with_len span.first (range_size span.first span.last)) (ranged entries) (of_all entries) c rest k

apart-part : (cs : List ℕ) (more : List ℕ) (all : List (List ℕ)) → ((d : ℕ) → Contains more d → Contains all (single d))
    → (AllPairs (λ a b. a ≢ b) all → AllPairs (λ a b. a ≢ b) more) → AllPairs (λ a b. a ≢ b) (map single cs ++ all)
    → AllPairs (λ a b. a ≢ b) (cs ++ more)
apart-part [] more all later rest h = rest h
apart-part (c ∷ cs) more all later rest h =
    pairs-cons (λ a b. a ≢ b) c (cs ++ more)
    (λ d k same. pairs-head (λ a b. a ≢ b) (single c) (map single cs ++ all) h (single d) (in-part cs more all d later k) (ap single same))
    (apart-part cs more all later rest (pairs-tail (λ a b. a ≢ b) (single c) (map single cs ++ all) h))

apart-points : (entries : List Entry) → AllPairs (λ a b. a ≢ b) (of_all entries) → AllPairs (λ a b. a ≢ b) (ranged entries)
apart-points [] h = λ i j d before within. absurd (omega (arith, within))
apart-points (e ∷ entries) h = by (λ later. apart-points entries later) e.source h
  where
    by : (AllPairs (λ a b. a ≢ b) (of_all entries) → AllPairs (λ a b. a ≢ b) (ranged entries)) → (s : Source) → AllPairs (λ a b. a ≢ b) (sources s ++ of_all entries) → AllPairs (λ a b. a ≢ b) (range_points s ++ ranged entries)
    by rest (Sequence points) k = rest (pairs-tail (λ a b. a ≢ b) points (of_all entries) k)
    by rest (Range span) k =
        apart-part (range_with_len span.first (range_size span.first span.last)) (ranged entries) (of_all entries) (in-sources entries) rest k

-- a span of a range
range-span : (span : Span) → AreSpans (single_points (Range span)) → (span.first ≤ span.last) × (span.last ≤ 0x10FFFF)
range-span span spans = spans 0 span (omega arith)

points-below : (entries : List Entry) → HaveSpans entries → (c : ℕ) → Contains (ranged entries) c → c < 0x110000
points-below [] spans c h = absurd (omega (arith, h.1))
points-below (e ∷ entries) spans c h = by (λ later. points-below entries spans.1 c later) e.source spans.0 h
  where
    by : (Contains (ranged entries) c → c < 0x110000) → (s : Source) → AreSpans (single_points s) → Contains (range_points s ++ ranged entries) c → c < 0x110000
    by rest (Sequence points) own k = rest k
    by rest (Range span) own k = elim (Contains-append_cases (range_with_len span.first (range_size span.first span.last)) (ranged entries) c k) [
      | inl here ↦
          (let is = range-span span own in
          let few : here.0 < span.last + 1 - span.first = omega (arith, here.1, length-range_with_len span.first (range_size span.first span.last)) in
          let at : span.first + here.0 ≡ c = sym (get_or-range_with_len span.first (range_size span.first span.last) here.0 c few) ∙ here.2 in
          omega (arith, is.0, is.1, few, at))
      | inr later ↦ rest later
    ]

-- more code points than there are: not all sources are different
pub too-many : (entries : List Entry) → HaveSpans entries → 0x110000 < length (ranged entries) → AllPairs (λ a b. a ≢ b) (of_all entries) → ⊥
too-many entries spans more apart =
    let few : length (ranged entries) ≤ 0x110000 =
    length-le_from_distinct_below (ranged entries) 0x110000
    (IsDistinct-from_AllPairs Decides-eqb (ranged entries) (apart-points entries apart))
    (λ c is. points-below entries spans c (Contains-from_any (λ x y. (Decides-eqb x y).0) c (ranged entries) is)) in
    omega (arith, more, few)

-- one entry more
pub counted : (s : Source) → AreSpans (single_points s) → length (range_points s) ≡ point_count s
counted (Sequence points) spans = refl
counted (Range span) spans =
    let is = range-span span spans in
    omega (arith, is.0, length-range_with_len span.first (range_size span.first span.last))

pub ranged-more : (entries : List Entry) (e : Entry) → length (ranged (entries ++ e ∷ [])) ≡ length (ranged entries) + length (range_points e.source)
ranged-more entries e =
    let f : Entry → List ℕ = λ x. range_points x.source in
    ap length (flat_map-append f entries (e ∷ []) ∙ ap (λ l. ranged entries ++ l) (append-nil (f e)))
    ∙ length-append (ranged entries) (f e)

-- ---- a source that the table has

-- what is told if the test of the sources alone is true
source_by : (t : TableValue) (es : List tables.Entry) (over known : Bool) (bad again old : List tables.Entry → Bool)
    → ((cond over (Err line.Limit) ((cond known (Ok es) (Err line.NoSuchName))
    >>= λ xs. cond (bad xs) (Err line.BadClass) (cond (again xs) (Err line.SameVariant) (cond (old xs) (Err line.SameSource) (Ok (t.entries ++ xs))))))
    >>= λ all. Ok (record t { entries = all })) ≡ Err line.SameSource
    → old es ≡ true
source_by t es true known bad again old h = absurd (cc)
source_by t es false false bad again old h = absurd (cc)
source_by t es false true bad again old h = by (bad es) (again es) (old es) h
  where
    by : (a b c : Bool)
        → ((cond a (Err line.BadClass) (cond b (Err line.SameVariant) (cond c (Err line.SameSource) (Ok (t.entries ++ es))))) >>= λ all. Ok (record t { entries = all })) ≡ Err line.SameSource
        → c ≡ true
    by true b c h = absurd (cc)
    by false true c h = absurd (cc)
    by false false true h = refl
    by false false false h = absurd (cc)

-- what is told if the limits are gone past alone
limit_by : (t : TableValue) (es : List tables.Entry) (over known : Bool) (bad again old : List tables.Entry → Bool)
    → ((cond over (Err line.Limit) ((cond known (Ok es) (Err line.NoSuchName))
    >>= λ xs. cond (bad xs) (Err line.BadClass) (cond (again xs) (Err line.SameVariant) (cond (old xs) (Err line.SameSource) (Ok (t.entries ++ xs))))))
    >>= λ all. Ok (record t { entries = all })) ≡ Err line.Limit
    → over ≡ true
limit_by t es true known bad again old h = refl
limit_by t es false false bad again old h = absurd (cc)
limit_by t es false true bad again old h = by (bad es) (again es) (old es) h
  where
    by : (a b c : Bool)
        → ((cond a (Err line.BadClass) (cond b (Err line.SameVariant) (cond c (Err line.SameSource) (Ok (t.entries ++ es))))) >>= λ all. Ok (record t { entries = all })) ≡ Err line.Limit
        → ◌≡◌ {A = Bool} false true
    by true b c h = absurd (cc)
    by false true c h = absurd (cc)
    by false false true h = absurd (cc)
    by false false false h = absurd (cc)

-- the sources of entries of a table
abbrev pub sources_in : List tables.Entry → List (List ℕ)
sources_in entries = map (λ (e : tables.Entry). e.source) entries

any-source : (entries : List tables.Entry) (s : List ℕ) → list_any (λ (f : tables.Entry). bytes_eq f.source s) entries ≡ true → Contains (sources_in entries) s
any-source [] s h = absurd (cc)
any-source (e ∷ entries) s h = by (λ later. any-source entries s later) (bytes_eq e.source s) refl h
  where
    by : (list_any (λ (f : tables.Entry). bytes_eq f.source s) entries ≡ true → Contains (sources_in entries) s) → (b : Bool) → bytes_eq e.source s ≡ b → (b || list_any (λ (f : tables.Entry). bytes_eq f.source s) entries) ≡ true
        → Contains (sources_in (e ∷ entries)) s
    by rest true same is = (0, omega arith, (bytes_eq-Decides e.source s).0 same)
    by rest false same is = (let later = rest is in (suc later.0, omega (arith, later.1), later.2))

one-of : (b : Bool) → (b || false) ≡ true → b ≡ true
one-of true is = refl
one-of false is = is

pub source-again : (t : TableValue) (ms : List Mapped) → with_form_of t (form_of ms) ≡ Err line.SameSource
    → Contains (sources_in t.entries) (entry_of t.definitions ms).source
unfolding with_form with_entries
source-again t ms h =
    any-source t.entries (entry_of t.definitions ms).source
    (one-of _ (source_by t (entry_of t.definitions ms ∷ []) (is_over_limit t.version t.definitions t.entries (ms ∷ [])) (knows_all t.definitions ms)
    (λ xs. list_any (has_bad_class t.definitions.properties) xs) (λ xs. list_any has_repeat xs) (λ xs. list_any (has_source_in t.entries) xs) h))

pub over-limit : (t : TableValue) (ms : List Mapped) → with_form_of t (form_of ms) ≡ Err line.Limit
    → is_over_limit t.version t.definitions t.entries (ms ∷ []) ≡ true
unfolding with_form with_entries
over-limit t ms h =
    limit_by t (entry_of t.definitions ms ∷ []) (is_over_limit t.version t.definitions t.entries (ms ∷ [])) (knows_all t.definitions ms)
    (λ xs. list_any (has_bad_class t.definitions.properties) xs) (λ xs. list_any has_repeat xs) (λ xs. list_any (has_source_in t.entries) xs) h

-- those of the table stand in the file
pub kept-among : (may : ℕ → Bool) (n : Numbering) (entries : List Entry) (s : List ℕ) → Contains (sources_in (all_entries may n entries)) s
    → Contains (of_all entries) s
kept-among may n entries s h =
    let made = of-one (λ (e : tables.Entry). e.source) (all_entries may n entries) s h in
    let found = in-one (entries_of may n) entries made.0 made.1 in
    let one = of-one (entry_with may n found.0) (kept_sources may found.0) made.0 found.2 in
    let is : one.0 ≡ s = ap (λ (e : tables.Entry). e.source) one.2 ∙ made.2 in
    let its : Contains (sources found.0.source) one.0 =
    All-contains (Contains (sources found.0.source)) (kept_sources may found.0) one.0
    (All-filter (may_be may) (Contains (sources found.0.source)) (sources found.0.source) (All-contains_itself (sources found.0.source))) one.1 in
    in-flat (λ (e : Entry). sources e.source) entries found.0 s found.1 (subst (Contains (sources found.0.source)) is its)

-- ---- what is told

-- why the builder didn't add the entry of a source
pub told-of-source : (may : ℕ → Bool) (n : Numbering) (e : Held) (t : TableValue) (s : List ℕ) (ms : List Mapped) (f : EntryFault) (told : TableError)
    → RefusedEntry t ms f → entry_of t.definitions ms ≡ entry_with may n (entry e) s → TellsEntry e f told → TellsSources may n e (s ∷ []) t told
told-of-source may n e t s ms f (Fault Syntax line) refused is tells = tells
told-of-source may n e t s ms f (Fault SameSource line) refused is tells = (
  tells.1,
  s,
  (0, omega arith, refl),
  subst (Contains (sources_in t.entries)) (ap (λ (x : tables.Entry). x.source) is) (source-again t ms (subst (RefusedEntry t ms) tells.0 refused).1),
)
told-of-source may n e t s ms f (Fault SameVariant line) refused is tells = tells
told-of-source may n e t s ms f (Fault BadClass line) refused is tells = tells
told-of-source may n e t s ms f (Fault Limit line) refused is tells = (
  tells.1,
  record {
    before = [];
    source_ = s;
    after = [];
    are = refl;
    mapped = ms;
    is = is;
    over = ap (λ l. is_over_limit t.version t.definitions l (ms ∷ [])) (append-nil t.entries) ∙ over-limit t ms (subst (RefusedEntry t ms) tells.0 refused).1;
  },
)
told-of-source may n e t s ms f (Fault NoSuchName line) refused is tells = tells
told-of-source may n e t s ms f (Fault SameName line) refused is tells = tells
told-of-source may n e t s ms f (Fault NotSupported line) refused is tells = absurd tells
told-of-source may n e t s ms f Memory refused is tells = tt

-- why it wasn't asked to
pub told-of-variants : (may : ℕ → Bool) (n : Numbering) (e : Held) (t : TableValue) (s : List ℕ) (told : TableError) → may_be may s ≡ true
    → TellsVariants e s told → TellsSources may n e (s ∷ []) t told
told-of-variants may n e t s (Fault Syntax line) kept tells = absurd tells
told-of-variants may n e t s (Fault SameSource line) kept tells = absurd tells
told-of-variants may n e t s (Fault SameVariant line) kept tells = absurd tells
told-of-variants may n e t s (Fault BadClass line) kept tells = absurd tells
told-of-variants may n e t s (Fault Limit line) kept tells = absurd tells
told-of-variants may n e t s (Fault NoSuchName line) kept tells = absurd tells
told-of-variants may n e t s (Fault SameName line) kept tells = absurd tells
told-of-variants may n e t s (Fault NotSupported line) kept tells = (s, (0, omega arith, refl), kept, tells)
told-of-variants may n e t s Memory kept tells = tt

single-at : (first count k : ℕ) → k < count → get_or (singles first count) k [] ≡ single (first + k)
single-at first count k less =
    let few : k < length (range_with_len first count) = omega (arith, less, length-range_with_len first count) in
    get_or-map single (range_with_len first count) k 0 [] few ∙ ap single (get_or-range_with_len first count k 0 less)

same-single : (a b : ℕ) → single a ≡ single b → a ≡ b
same-single a b same = cc

in-single : (x y : List ℕ) → Contains (x ∷ []) y → x ≡ y
in-single x y h = at h.0 h.1 h.2
  where
    at : (n : ℕ) → n < length (x ∷ []) → slice_index_or (x ∷ []) n y ≡ y → x ≡ y
    at zero less is = is
    at (suc n) less is = absurd (omega (arith, less))

-- the code points of a range, and one of them
singles-split : (first count k : ℕ) → k < count → (rest : List (List ℕ)) × (singles first count ≡ singles first k ++ single (first + k) ∷ rest)
singles-split first zero k less = absurd (omega (arith, less))
singles-split first (suc count) zero less =
    (singles (first + 1) count, ap (λ c. single c ∷ singles (first + 1) count) (let is : first ≡ first + 0 = omega arith in is))
singles-split first (suc count) (suc k) less =
    let later = singles-split (first + 1) count k (omega (arith, less)) in (
      later.0,
      ap (λ l. single first ∷ l) later.1
          ∙ ap (λ c. single first ∷ (singles (first + 1) k ++ single c ∷ later.0)) (let is : first + 1 + k ≡ first + suc k = omega arith in is),
    )

-- a list of one
alone : (x : List ℕ) (before : List (List ℕ)) (s : List ℕ) (after : List (List ℕ)) → x ∷ [] ≡ before ++ s ∷ after → (before ≡ []) × (s ≡ x)
alone x [] s after is = (refl, sym (ap (λ l. get_or l 0 x) is))
alone x (y ∷ before) s after is = absurd (let size = ap length is in omega (arith, size, length-append before (s ∷ after)))

-- a code point of a range that the table has stands in an entry before this one
again-in-range : (may : ℕ → Bool) (n : Numbering) (e : Entry) (first count k : ℕ) (t u : TableValue) (s : List ℕ)
    → AddsSources may n e (singles first k) t u → k < count → Contains (single (first + k) ∷ []) s → Contains (sources_in u.entries) s
    → (s : List ℕ) × Contains (singles first count) s × Contains (sources_in t.entries) s
again-in-range may n e first count k t u has adds less own there =
    let s = single (first + k) in
    let is : s ≡ has = in-single s has own in
    let old = sources_in t.entries in
    let new = map (entry_with may n e) (filter (may_be may) (singles first k)) in
    let all : sources_in u.entries ≡ old ++ sources_in new =
    ap (λ (w : TableValue). sources_in w.entries) adds.added ∙ map-append (λ (x : tables.Entry). x.source) t.entries new in
    let size : k < length (singles first count) =
    omega (arith, less, length-map (range_with_len first count) single, length-range_with_len first count) in
    let mine : Contains (singles first count) s = subst (Contains (singles first count)) (single-at first count k less) (Contains-get_or (singles first count) k [] size) in
    elim (Contains-append_cases old (sources_in new) s (subst (λ l. Contains l s) all (subst (Contains (sources_in u.entries)) (sym is) there))) [
      | inl before ↦ (s, mine, before)
      | inr late ↦ absurd (earlier late)
    ]
  where
    earlier : Contains (sources_in (map (entry_with may n e) (filter (may_be may) (singles first k)))) (single (first + k)) → ⊥
    earlier own =
        let made = of-one (λ (x : tables.Entry). x.source) (map (entry_with may n e) (filter (may_be may) (singles first k))) (single (first + k)) own in
        let one = of-one (entry_with may n e) (filter (may_be may) (singles first k)) made.0 made.1 in
        let its : Contains (singles first k) one.0 =
        All-contains (Contains (singles first k)) (filter (may_be may) (singles first k)) one.0
        (All-filter (may_be may) (Contains (singles first k)) (singles first k) (All-contains_itself (singles first k))) one.1 in
        let few : its.0 < k = omega (arith, its.1, length-map (range_with_len first k) single, length-range_with_len first k) in
        let at : single (first + its.0) ≡ one.0 =
        sym (single-at first k its.0 few) ∙ get_or_default (singles first k) its.0 [] one.0 its.1 ∙ its.2 in
        let same : first + its.0 ≡ first + k =
        same-single (first + its.0) (first + k) (at ∙ ap (λ (x : tables.Entry). x.source) one.2 ∙ made.2) in
        omega (arith, few, same)

-- what is told of a code point of a range
pub range-told : (may : ℕ → Bool) (n : Numbering) (e : Held) (first count k : ℕ) (t u : TableValue) (told : TableError)
    → AddsSources may n (entry e) (singles first k) t u → k < count → TellsSources may n e (single (first + k) ∷ []) u told
    → TellsSources may n e (singles first count) t told
range-told may n e first count k t u (Fault Syntax line) adds less tells = tells
range-told may n e first count k t u (Fault SameSource line) adds less tells =
    let found = again-in-range may n (entry e) first count k t u tells.1 adds less tells.2 tells.3 in (tells.0, found.0, found.1, found.2)
range-told may n e first count k t u (Fault SameVariant line) adds less tells = tells
range-told may n e first count k t u (Fault BadClass line) adds less tells = tells
range-told may n e first count k t u (Fault Limit line) adds less tells =
    let lack = tells.1 in
    let one = alone (single (first + k)) lack.before lack.source_ lack.after lack.are in
    let split = singles-split first count k less in
    let f : List ℕ → tables.Entry = entry_with may n (entry e) in
    let same : u.definitions ≡ t.definitions = ap (λ (w : TableValue). w.definitions) adds.added in
    let over : is_over_limit u.version u.definitions u.entries (lack.mapped ∷ []) ≡ true =
    ap (λ l. is_over_limit u.version u.definitions l (lack.mapped ∷ []))
    (sym (append-nil u.entries) ∙ ap (λ b. u.entries ++ map f (filter (may_be may) b)) (sym one.0)) ∙ lack.over in (
      tells.0,
      record {
        before = singles first k;
        source_ = single (first + k);
        after = split.0;
        are = split.1;
        mapped = lack.mapped;
        is = ap (λ d. entry_of d lack.mapped) (sym same) ∙ lack.is ∙ ap f one.1;
        over = ap (λ (w : TableValue). is_over_limit w.version w.definitions w.entries (lack.mapped ∷ [])) (sym adds.added) ∙ over;
      },
    )
range-told may n e first count k t u (Fault NoSuchName line) adds less tells = tells
range-told may n e first count k t u (Fault SameName line) adds less tells = tells
range-told may n e first count k t u (Fault NotSupported line) adds less tells =
    let is : single (first + k) ≡ tells.0 = in-single (single (first + k)) tells.0 tells.1 in
    let size : k < length (singles first count) =
    omega (arith, less, length-map (range_with_len first count) single, length-range_with_len first count) in
    let mine : Contains (singles first count) (single (first + k)) =
    subst (Contains (singles first count)) (single-at first count k less) (Contains-get_or (singles first count) k [] size) in
    (tells.0, subst (Contains (singles first count)) is mine, tells.2, tells.3)
range-told may n e first count k t u Memory adds less tells = tt

-- ---- in the file

-- the sources that the table has stand in these entries
abbrev HasSourcesOf : List Held → TableValue → Type 0
HasSourcesOf entries t = (s : List ℕ) → Contains (sources_in t.entries) s → Contains (all_sources entries) s

all-more : (before : List Held) (e : Held) → all_sources (before ++ e ∷ []) ≡ all_sources before ++ sources (source e.source)
all-more before e =
    let f : Held → List (List ℕ) = λ x. sources (source x.source) in
    flat_map-append f before (e ∷ []) ∙ ap (λ l. all_sources before ++ l) (append-nil (f e))

sources-twice : (r : Ruleset) (before after : List Held) (e : Held) (t : TableValue) (line : ℕ) → r.entries.items ≡ before ++ e ∷ after
    → HasSourcesOf before t → line ≡ e.line
    → ((s : List ℕ) × Contains (sources (source e.source)) s × Contains (sources_in t.entries) s) → HasSourceTwice r line
sources-twice r before after e t line all has here one = record {
  before = before;
  this = e;
  after = after;
  all = all;
  here = here;
  twice = λ apart. in-both (all_sources before) (sources (source e.source)) one.0 (has one.0 one.2) one.1
      (subst (AllPairs (λ a b. a ≢ b)) (all-more before e) apart);
}

pub stands-there : (r : Ruleset) (before after : List Held) (e : Held) → r.entries.items ≡ before ++ e ∷ after → Contains r.entries.items e
stands-there r before after e all = subst (λ l. Contains l e) (sym all) (Contains-append_right before (e ∷ after) e (0, omega arith, refl))

-- the entries of the table are those of the file so far
sources-of : (may : ℕ → Bool) (n : Numbering) (before : List Held) (t : TableValue) → t.entries ≡ all_entries may n (map entry before)
    → HasSourcesOf before t
sources-of may n before t is s h =
    subst (λ l. Contains l s) (flat_map-map (λ (x : Entry). sources x.source) entry before)
    (kept-among may n (map entry before) s (subst (λ l. Contains (sources_in l) s) is h))

pub told-entry : (may : ℕ → Bool) (r : Ruleset) (n : Numbering) (before after : List Held) (e : Held) (t u : TableValue) (told : TableError)
    → r.entries.items ≡ before ++ e ∷ after → HasEntriesOf may n before t u → HasDefinitionsOf may r n t → TellsSources may n e (sources (source e.source)) u told
    → IsFaultOfTable may r told
told-entry may r n before after e t u (Fault Syntax line) all has defined is = absurd is
told-entry may r n before after e t u (Fault SameSource line) all has defined is =
    sources-twice r before after e u line all (sources-of may n before u (ap (λ (w : TableValue). w.entries) has)) is.0 (is.1, is.2, is.3)
told-entry may r n before after e t u (Fault SameVariant line) all has defined is =
    record { entry = e; among = stands-there r before after e all; number = is.0; twice = is.1; here = is.2 }
told-entry may r n before after e t u (Fault BadClass line) all has defined is = absurd is
told-entry may r n before after e t u (Fault Limit line) all has defined is = inr (inr (inl (record {
  before = before;
  this = e;
  after = after;
  all = all;
  here = is.0;
  numbers = n;
  table = t;
  is_table = defined.is_table;
  defines = defined.defines;
  entries = all_entries may n (map entry before);
  are = refl;
  lack = subst (LackRoom may n e (sources (source e.source))) has is.1;
})))
told-entry may r n before after e t u (Fault NoSuchName line) all has defined is = absurd is
told-entry may r n before after e t u (Fault SameName line) all has defined is = absurd is
told-entry may r n before after e t u (Fault NotSupported line) all has defined is = inr (inr (inr (record {
  this = e;
  among = stands-there r before after e all;
  source_ = is.0;
  own = is.1;
  kept = is.2;
  odd = is.3;
})))
told-entry may r n before after e t u Memory all has defined is = tt

-- an element, with what is before and after it
pub split-at : (xs : List Held) (i : ℕ) (x : Held) → i < length xs → x ≡ get_or xs i x → xs ≡ take i xs ++ x ∷ drop (suc i) xs
split-at xs i x less is =
    sym (take-append-drop i xs) ∙ ap (λ l. take i xs ++ l) (drop-cons xs i x less ∙ ap (λ y. y ∷ drop (suc i) xs) (sym is))

spans-take : (xs : List Held) (n : ℕ) → HaveSpans (map entry xs) → HaveSpans (map entry (take n xs))
spans-take xs n spans =
    let P : Entry → Type 0 = λ e. AreSpans (single_points e.source) in
    recursion_from_All P (map entry (take n xs))
    (subst (All P) (take-map entry n xs) (All-take P n (map entry xs) (All-from_recursion P (map entry xs) spans)))

-- one entry more has so many more
pub ranged-step : (xs : List Held) (i : ℕ) (e : Held) → i < length xs → e ≡ get_or xs i e → HaveSpans (map entry xs)
    → length (ranged (map entry (take (i + 1) xs))) ≡ length (ranged (map entry (take i xs))) + point_count (source e.source)
ranged-step xs i e less is spans =
    let P : Entry → Type 0 = λ x. AreSpans (single_points x.source) in
    let some = map entry (take i xs) in
    let own : P (entry e) = subst P (get_or-map entry xs i e (entry e) less ∙ ap entry (sym is))
    (All-from_recursion P (map entry xs) spans i (entry e) (omega (arith, less, length-map xs entry))) in
    ap (λ l. length (ranged l)) (sym (mapped-more entry xs i e less is)) ∙ ranged-more some (entry e)
    ∙ ap (λ n. length (ranged some) + n) (counted (source e.source) own)

-- ranges that have more code points together than there are
pub points-twice : (r : Ruleset) (xs : List Held) (i : ℕ) (e : Held) → r.entries.items ≡ xs → i < length xs → e ≡ get_or xs i e
    → HaveSpans (map entry xs) → 0x110000 < length (ranged (map entry (take (i + 1) xs))) → HasSourceTwice r e.line
points-twice r xs i e same less is spans more =
    let begin : take (i + 1) xs ≡ take i xs ++ e ∷ [] = take_more xs i e less ∙ ap (λ y. take i xs ++ y ∷ []) (sym is) in
    let some = map entry (take (i + 1) xs) in
    record {
      before = take i xs;
      this = e;
      after = drop (suc i) xs;
      all = same ∙ split-at xs i e less is;
      here = refl;
      twice = λ apart. too-many some (spans-take xs (i + 1) spans) more
          (subst (AllPairs (λ a b. a ≢ b)) (ap all_sources (sym begin) ∙ sym (flat_map-map (λ (x : Entry). sources x.source) entry (take (i + 1) xs))) apart);
    }
