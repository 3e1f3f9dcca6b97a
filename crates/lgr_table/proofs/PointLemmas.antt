-- The code points of sources.
use Rattle.std.proofs.Common.{◌≡◌, ℕ, zero, suc, ◌<◌, ◌≤◌, inl, inr, Bool, true, false, not, cond, ◌&&◌, ◌||◌, leb, List, [], ◌∷◌, ◌++◌, map, length, get_or, refl, sym, ap, ◌∙◌, arith}
use Rattle.std.specs.Prelude.{◌↔◌, IsTrue, filter}
use Rattle.std.specs.List.{All, Contains, flat_map, list_all}
use Rattle.std.proofs.lemmas.Bool.{cases_lt}
use Rattle.std.proofs.lemmas.Bool.Decides.{nat_tests}
use Rattle.std.proofs.lemmas.Grind.{flat_map-append}
use Rattle.std.proofs.lemmas.List.{get_or-map, length-map}
use Rattle.std.proofs.lemmas.List.Elements.{All-append, All-contains, All-nil, filter-append, filter_passes}
use Rattle.std.proofs.lemmas.List.Folds.{list_all_at, list_any-append, list_any_at}
use Rattle.idn_class.proofs.ClassNumbers.{class_of-no_scalar, is_scalar-out}
use Rattle.idn_class.specs.Class.{class_of}
use Rattle.idn_class.specs.declared.properties.Properties.{Properties}
use Rattle.label_patterns.specs.declared.span.Span.{Span}
use Rattle.label_patterns.specs.Sets.{is_in, is_in_span}
use Rattle.ruleset_text.specs.Classes.{is_label_class}
use Rattle.lgr_text.specs.CodePoints.{IsSpan}
use Rattle.lgr_text.specs.Records.{Entry}
use Rattle.lgr_text.specs.Repertoire.{kept_sources, may_be, sources}
use Rattle.lgr_text.specs.Meanings.{IsKept}
use Rattle.lgr_table.specs.Tables.{may_stand}
use Rattle.lgr_table.specs.inner.Points.{spans_of}

abbrev pub single : ℕ → Span
single c = record { first = c; last = c }

-- ---- spans of code points

is-label : (b : Bool) → not (not b) ≡ true → b ≡ true
is-label true e = refl
is-label false e = absurd (cc)

pub point-within : (properties : Properties) (c : ℕ) → may_stand properties c ≡ true → c ≤ 0x10FFFF
point-within properties c may = elim (cases_lt 0x10FFFF c) [
  | inl over ↦
      (let outside = class_of-no_scalar properties c (is_scalar-out c (inr (omega (arith, over)))) in
      let no : is_label_class (class_of properties c) ≡ false = ap is_label_class outside in
      let yes = is-label (is_label_class (class_of properties c)) may in
      absurd (cc))
  | inr upto ↦ omega (arith, upto)
]

singles-spans : (properties : Properties) (points : List ℕ) → list_all (may_stand properties) points ≡ true → All IsSpan (map single points)
singles-spans properties [] all = All-nil IsSpan
singles-spans properties (c ∷ points) all =
    All-append IsSpan (single c ∷ []) (map single points)
    (λ k d less. is_first k d less)
    (singles-spans properties points (right (may_stand properties c) (list_all (may_stand properties) points) all))
  where
    right : (a b : Bool) → (a && b) ≡ true → b ≡ true
    right true b e = e
    right false b e = absurd (cc)

    left : (a b : Bool) → (a && b) ≡ true → a ≡ true
    left true b e = refl
    left false b e = absurd (cc)

    is_first : (k : ℕ) (d : Span) → k < length (single c ∷ []) → IsSpan (get_or (single c ∷ []) k d)
    is_first zero d less =
        (omega arith, point-within properties c (left (may_stand properties c) (list_all (may_stand properties) points) all))
    is_first (suc k) d less = absurd (omega (arith, less))

-- ---- the spans of sources

sources-spans : (properties : Properties) (all : List (List ℕ)) → All IsSpan (spans_of (may_stand properties) all)
sources-spans properties [] = All-nil IsSpan
sources-spans properties (points ∷ all) = by (may_be (may_stand properties) points) refl (sources-spans properties all)
  where
    rest : List (List ℕ)
    rest = filter (may_be (may_stand properties)) all

    by : (b : Bool) → may_be (may_stand properties) points ≡ b → All IsSpan (flat_map (map single) rest)
        → All IsSpan (flat_map (map single) (cond b (points ∷ rest) rest))
    by true e spans = All-append IsSpan (map single points) (flat_map (map single) rest) (singles-spans properties points e) spans
    by false e spans = spans

-- one source after the other
pub spans-more : (may : ℕ → Bool) (some more : List (List ℕ)) → spans_of may (some ++ more) ≡ spans_of may some ++ spans_of may more
spans-more may some more =
    ap (flat_map (map single)) (filter-append (may_be may) some more)
    ∙ flat_map-append (map single) (filter (may_be may) some) (filter (may_be may) more)

-- the spans of all entries
abbrev pub all_spans : (ℕ → Bool) → List Entry → List Span
all_spans may entries = flat_map (λ e. spans_of may (sources e.source)) entries

pub all-spans : (properties : Properties) (entries : List Entry) → All IsSpan (all_spans (may_stand properties) entries)
all-spans properties [] = All-nil IsSpan
all-spans properties (e ∷ entries) =
    All-append IsSpan (spans_of (may_stand properties) (sources e.source)) (all_spans (may_stand properties) entries)
    (sources-spans properties (sources e.source)) (all-spans properties entries)

-- ---- which code points are in them

-- the code point is the only one
in-single : (c x : ℕ) → (leb x c && leb c x) ≡ true → x ≡ c
in-single c x e = grind (arith, nat_tests)

own-single : (c : ℕ) → (leb c c && leb c c) ≡ true
own-single c = grind (arith, nat_tests)

in-singles : (points : List ℕ) (c : ℕ) → is_in (map single points) c ≡ true → Contains points c
in-singles [] c e = absurd (cc)
in-singles (x ∷ points) c e = by (leb x c && leb c x) refl e (in-singles points c)
  where
    by : (b : Bool) → (leb x c && leb c x) ≡ b → (b || is_in (map single points) c) ≡ true
        → (is_in (map single points) c ≡ true → Contains points c) → Contains (x ∷ points) c
    by true is found rest = (0, omega arith, in-single c x is)
    by false is found rest = (let later = rest found in (suc later.0, omega (arith, later.1), later.2))

singles-in : (points : List ℕ) (c : ℕ) → Contains points c → is_in (map single points) c ≡ true
singles-in points c h =
    list_any_at (is_in_span c) (map single points) h.0 (single c) (omega (arith, h.1, length-map points single))
    (ap (is_in_span c) (get_or-map single points h.0 c (single c) h.1 ∙ ap single h.2) ∙ own-single c)

all-at : (may : ℕ → Bool) (points : List ℕ) (c : ℕ) → list_all may points ≡ true → Contains points c → may c ≡ true
all-at may points c all h = by (may c) refl
  where
    by : (b : Bool) → may c ≡ b → b ≡ true
    by true e = refl
    by false e = (let f : list_all may points ≡ false = list_all_at may points h.0 c h.1 (ap may h.2 ∙ e) in cc)

-- ---- those of several

in-one : {X : Type 0} (f : X → List Span) (xs : List X) (c : ℕ) → is_in (flat_map f xs) c ≡ true
    → (x : X) × Contains xs x × (is_in (f x) c ≡ true)
in-one f [] c found = absurd (cc)
in-one {X} f (x ∷ xs) c found =
    by (is_in (f x) c) refl (sym (list_any-append (is_in_span c) (f x) (flat_map f xs)) ∙ found) (in-one f xs c)
  where
    by : (b : Bool) → is_in (f x) c ≡ b → (b || is_in (flat_map f xs) c) ≡ true
        → (is_in (flat_map f xs) c ≡ true → (y : X) × Contains xs y × (is_in (f y) c ≡ true))
        → (y : X) × Contains (x ∷ xs) y × (is_in (f y) c ≡ true)
    by true is found rest = (x, (0, omega arith, refl), is)
    by false is found rest =
        (let later = rest found in (later.0, (suc later.1.0, omega (arith, later.1.1), later.1.2), later.2))

or-right : (a b : Bool) → b ≡ true → (a || b) ≡ true
or-right true b e = refl
or-right false b e = e

in-all : {X : Type 0} (f : X → List Span) (xs : List X) (k : ℕ) (x : X) (c : ℕ) → k < length xs → get_or xs k x ≡ x
    → is_in (f x) c ≡ true → is_in (flat_map f xs) c ≡ true
in-all f [] k x c less is found = absurd (omega (arith, less))
in-all {X} f (y ∷ xs) zero x c less is found =
    list_any-append (is_in_span c) (f y) (flat_map f xs)
    ∙ ap (λ b. b || is_in (flat_map f xs) c) (ap (λ (z : X). is_in (f z) c) is ∙ found)
in-all f (y ∷ xs) (suc k) x c less is found =
    list_any-append (is_in_span c) (f y) (flat_map f xs)
    ∙ or-right (is_in (f y) c) (is_in (flat_map f xs) c) (in-all f xs k x c (omega (arith, less)) is found)

-- the code points of all sources that are kept
pub are-kept : (may : ℕ → Bool) (entries : List Entry) (c : ℕ) → IsTrue (is_in (all_spans may entries) c) ↔ IsKept may entries c
are-kept may entries c = (
  λ found.
      let entry = in-one (λ e. spans_of may (sources e.source)) entries c found in
      let source = in-one (map single) (kept_sources may entry.0) c entry.2 in
      (entry.0, source.0, entry.1, source.1, in-singles source.0 c source.2),
  λ kept.
      in-all (λ e. spans_of may (sources e.source)) entries kept.2.0 kept.0 c kept.2.1 kept.2.2
      (in-all (map single) (kept_sources may kept.0) kept.3.0 kept.1 c kept.3.1 kept.3.2 (singles-in kept.1 c kept.4)),
)

pub kept-within : (properties : Properties) (entries : List Entry) (c : ℕ) → IsKept (may_stand properties) entries c → c ≤ 0x10FFFF
kept-within properties entries c kept =
    let may = may_stand properties in
    let all : may_be may kept.1 ≡ true =
    All-contains (λ p. may_be may p ≡ true) (kept_sources may kept.0) kept.1 (filter_passes (may_be may) (sources kept.0.source)) kept.3 in
    point-within properties c (all-at may kept.1 c all kept.4)
