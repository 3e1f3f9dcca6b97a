-- In a table of single code points a label has one reading at most of a variant.
use Rattle.std.proofs.Common.{◌≡◌, ◌≢◌, ℕ, ◌+◌, List, [], ◌∷◌, length, get_or, drop, map, inl, inr, refl, sym, ap, ◌∙◌, subst, arith, length-append}
use Rattle.std.specs.List.{All, AllPairs, Contains, flat_map}
use Rattle.std.proofs.lemmas.List.Elements.{All-contains}
use Rattle.variant_dispositions.specs.Readings.{IsClear}
use Rattle.variant_table.specs.declared.version.Version.TheVariants.{Two}
use Rattle.variant_table.specs.Entries.{Entry, TableValue, Variant, IsOfVersion, itself, sequences_in}
use Rattle.variant_table.specs.WellFormed.{AreApart, IsEntry, IsTable, IsWellFormed}
use Rattle.variant_table.proofs.BeginningLemmas.{same_entry}
use Rattle.variant_table.proofs.MemberLemmas.{Contains-later, Contains-none, Contains-cases}
use Rattle.variant_table.proofs.MemberLists.{Contains-map}
use Rattle.variant_table.proofs.NumberLemmas.{pairs_head, pairs_tail}
use Rattle.variant_table.proofs.RepeatLemmas.{unlike_source}
use Rattle.variant_list.specs.Laws.{IsOfPoints, VariantsHaveNoConditions}
use Rattle.variant_list.specs.ReadingLaws.{HasNoVariantTwice, PointsAreReadOnce, RulesetsAllocateTheSame}
use Rattle.variant_list.specs.Readings.{Mapping, entry_of, sequence_of, kinds_of, MayBeMade, MayAllBeMade, IsReadingOf, IsClearVariant}
use Rattle.variant_list.specs.Readings.Mapping.{Stays, Maps}
use Rattle.variant_list.specs.Substitutions.{substitutions_of}
use Rattle.variant_list.specs.inner.Places.{IsCutFrom}
use Rattle.variant_list.proofs.PointLemmas.{both_begin, one_point, source_point}
use Rattle.variant_list.proofs.ReadingLemmas.{from_first, readings_agree}
use Rattle.variant_list.proofs.SpellingLemmas.{after_source}

abbrev Differ : Variant → Variant → Type 0
Differ v w = v.sequence ≢ w.sequence

same-variant : (vs : List Variant) (v w : Variant) → AllPairs Differ vs → Contains vs v → Contains vs w → v.sequence ≡ w.sequence → v ≡ w
same-variant [] v w apart c d same = absurd (Contains-none v c)
same-variant (x ∷ vs) v w apart c d same =
    let later : All (Differ x) vs = pairs_head Differ x vs apart in
    elim (Contains-cases x vs v c) [
      | inl first ↦ elim (Contains-cases x vs w d) [
        | inl also ↦ sym first ∙ also
        | inr m ↦ absurd (All-contains (Differ x) vs w later m (ap (λ (y : Variant). y.sequence) first ∙ same))
      ]
      | inr m ↦ elim (Contains-cases x vs w d) [
        | inl also ↦ absurd (All-contains (Differ x) vs v later m (ap (λ (y : Variant). y.sequence) also ∙ sym same))
        | inr k ↦ same-variant vs v w (pairs_tail Differ x vs apart) m k same
      ]
    ]

module _ (table : TableValue) (formed : IsWellFormed table.entries) (points : IsOfPoints table) (single : HasNoVariantTwice table) (label : List ℕ) where
  -- a variant isn't the source of its entry
  unlike : (e : Entry) (v : Variant) → Contains table.entries e → Contains e.variants v → e.source ≡ v.sequence → ⊥
  unlike e v in_table c same =
      unlike_source e v.sequence (All-contains IsEntry table.entries e formed.entries in_table) ((Contains-map (λ (x : Variant). x.sequence) e.variants v.sequence).1 (v, c, refl)) same

  -- mappings of one entry that give the same are the same
  same-mapping : (place : ℕ) (m p : Mapping) → Contains table.entries (entry_of m) → entry_of m ≡ entry_of p → MayBeMade table label place m → MayBeMade table label place p → sequence_of m ≡ sequence_of p → m ≡ p
  same-mapping place (Stays e) (Stays f) in_table same made also is = ap Stays same
  same-mapping place (Stays e) (Maps f v) in_table same made also is =
      absurd (unlike e v in_table (subst (λ (x : Entry). Contains x.variants v) (sym same) also.0) is)
  same-mapping place (Maps e v) (Stays f) in_table same made also is =
      absurd (unlike e v in_table made.0 (ap (λ (x : Entry). x.source) same ∙ sym is))
  same-mapping place (Maps e v) (Maps f w) in_table same made also is =
      let apart : AllPairs Differ e.variants = All-contains (λ (x : Entry). AllPairs Differ x.variants) table.entries e single in_table in
      ap (λ (x : Entry). Maps x v) same ∙ ap (Maps f) (same-variant e.variants v w apart made.0 (subst (λ (x : Entry). Contains x.variants w) (sym same) also.0) is)

  -- what is put in the place of a source is one code point
  mapped-point : (place : ℕ) (m : Mapping) → Contains table.entries (entry_of m) → MayBeMade table label place m → length (sequence_of m) ≡ 1
  mapped-point place (Stays e) in_table made = source_point table points e in_table
  mapped-point place (Maps e v) in_table made =
      one_point table points e v.sequence in_table (Contains-later e.source (sequences_in e.variants) v.sequence ((Contains-map (λ (x : Variant). x.sequence) e.variants v.sequence).1 (v, made.0, refl)))

  abbrev sources_in : List Mapping → List ℕ
  sources_in reading = flat_map (λ (e : Entry). e.source) (map entry_of reading)

  -- the label doesn't end where a source stands
  goes_on : (place : ℕ) (m : Mapping) (reading : List Mapping) → IsCutFrom table label place (map entry_of (m ∷ reading)) → [] ≡ drop place label → ⊥
  goes_on place m reading cuts ended =
      omega (arith, source_point table points (entry_of m) cuts.of_table.0, ap length (cuts.joined ∙ sym ended), length-append (entry_of m).source (sources_in reading))

  read_once : (place : ℕ) (one other : List Mapping) → IsCutFrom table label place (map entry_of one) → IsCutFrom table label place (map entry_of other) → MayAllBeMade table label place one → MayAllBeMade table label place other
      → flat_map sequence_of one ≡ flat_map sequence_of other → one ≡ other
  read_once place [] [] cuts cuts_too made made_too is = refl
  read_once place [] (p ∷ other) cuts cuts_too made made_too is = absurd (goes_on place p other cuts_too cuts.joined)
  read_once place (m ∷ one) [] cuts cuts_too made made_too is = absurd (goes_on place m one cuts cuts_too.joined)
  read_once place (m ∷ one) (p ∷ other) cuts cuts_too made made_too is =
      let e : Entry = entry_of m in
      let f : Entry = entry_of p in
      let sources = both_begin e.source f.source (sources_in one) (sources_in other) (source_point table points e cuts.of_table.0) (source_point table points f cuts_too.of_table.0) (cuts.joined ∙ sym cuts_too.joined) in
      let same : e ≡ f = same_entry table.entries e f formed.sources cuts.of_table.0 cuts_too.of_table.0 sources.0 in
      let given = both_begin (sequence_of m) (sequence_of p) (flat_map sequence_of one) (flat_map sequence_of other) (mapped-point place m cuts.of_table.0 made.0) (mapped-point place p cuts_too.of_table.0 made_too.0) is in
      let count : place + length f.source ≡ place + length e.source = ap (λ (x : Entry). place + length x.source) (sym same) in
      let first : m ≡ p = same-mapping place m p cuts.of_table.0 same made.0 made_too.0 given.0 in
      let later : one ≡ other = read_once (place + length e.source) one other
      (record { of_table = cuts.of_table.1; joined = sym (after_source label place e.source (sources_in one) (sym cuts.joined)); held = cuts.held.1 })
      (subst (λ k. IsCutFrom table label k (map entry_of other)) count
      (record { of_table = cuts_too.of_table.1; joined = sym (after_source label place f.source (sources_in other) (sym cuts_too.joined)); held = cuts_too.held.1 }))
      made.1 (subst (λ k. MayAllBeMade table label k other) count made_too.1) given.1 in
      ap (λ x. x ∷ one) first ∙ ap (λ xs. p ∷ xs) later

  pub once : (v : List ℕ) (one other : List Mapping) → IsReadingOf table label v one → IsReadingOf table label v other → one ≡ other
  once v one other r s =
      read_once 0 one other (from_first table label (map entry_of one) r.segmentation) (from_first table label (map entry_of other) s.segmentation) r.made s.made (r.joined ∙ sym s.joined)

  pub clear : (v : List ℕ) → IsClearVariant table label v
  clear v one other r s kind c = subst (λ (reading : List Mapping). Contains (kinds_of reading) kind) (once v one other r s) c

pub not_twice : (table : TableValue) → IsWellFormed table.entries → VariantsHaveNoConditions table → HasNoVariantTwice table
not_twice table formed free k d l i j x below within same =
    let e : Entry = get_or table.entries k d in
    let apart : AllPairs AreApart e.variants = pairs_tail AreApart (itself e) e.variants (formed.entries k d l).distinct in
    (apart i j x below within same).0 (free k d l i x (omega (arith, below, within)))

pub points_are_read_once : PointsAreReadOnce
points_are_read_once = record {
  once = λ table label v one other formed points single. once table formed points single label v one other;
  clear = λ table label v formed points single. clear table formed points single label v;
  not_twice = not_twice;
}

-- ---- tables of version 2

-- they have no conditions
pub free-two : (table : TableValue) → IsTable table → table.version ≡ Two → VariantsHaveNoConditions table
free-two table is two k d l i x below =
    let e : Entry = get_or table.entries k d in
    let of : IsOfVersion Two e = subst (λ version. IsOfVersion version e) two (is.of_version k d l) in
    (of.1 i x below).1

pub rulesets_allocate_the_same : RulesetsAllocateTheSame
rulesets_allocate_the_same matched table label v is two points =
    let clear_entries : IsClearVariant table label v = clear table is.well_formed points (not_twice table is.well_formed (free-two table is two)) label v in
    let clear_substitutions : IsClear (substitutions_of table label) v = (readings_agree.clear table label v is).0 clear_entries in
    (λ some. (clear_substitutions, some), λ both. both.1)
