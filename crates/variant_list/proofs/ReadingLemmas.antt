-- The readings of a label under a table, and those by its substitutions.
use Rattle.std.proofs.Common.{◌≡◌, ◌↔◌, ℕ, zero, suc, ◌+◌, ◌-◌, ◌^◌, ◌≤◌, ◌<◌, List, [], ◌∷◌, ◌++◌, length, drop, map, Option, None, Some, inl, inr, refl, sym, ap, ◌∙◌, subst, arith, length-append}
use Rattle.std.specs.Prelude.{filter}
use Rattle.std.specs.List.{All, AllByRecursion, Contains, flat_map}
use Rattle.std.specs.Int.{bit_at}
use Rattle.std.proofs.lemmas.List.{length-drop, drop_all}
use Rattle.std.proofs.lemmas.List.Elements.{All-contains}
use Rattle.label_patterns.specs.Conditions.{ConditionHolds}
use Rattle.reading_kinds.specs.Readings.{Substitution, IsCut, IsReading, points_of}
use Rattle.variant_dispositions.specs.Kinds.{Kind, bit_of, kind_of_source, kind_of_variant, kind_at, kinds_in, recorded}
use Rattle.variant_dispositions.specs.Readings.{AreWordsOf, IsClear}
use Rattle.variant_dispositions.proofs.KindLemmas.{Contains-recorded}
use Rattle.variant_dispositions.proofs.OneKindLemmas.{kinds_in-one}
use Rattle.variant_dispositions.proofs.WordLemmas.{apart-clear, clear-apart}
use Rattle.variant_table.specs.Entries.{Entry, TableValue, Variant, itself, source_of, whole}
use Rattle.variant_table.specs.Places.{BeginsAt, entries_at}
use Rattle.variant_table.specs.Segmentations.{IsSegmentation, seen_under}
use Rattle.variant_table.specs.WellFormed.{HasItsNames, HasItsType, IsNamed, IsTable, IsWellFormed}
use Rattle.variant_table.proofs.BeginningLemmas.{entries_are_at}
use Rattle.variant_table.proofs.MemberLemmas.{Contains-head, Contains-later, Contains-cases}
use Rattle.variant_table.proofs.MemberLists.{Contains-map, Contains-flat_map}
use Rattle.variant_list.specs.ReadingLaws.{ReadingsAgree, RecordsByEntries, RecordsBySubstitutions, WordsTellReadings}
use Rattle.variant_list.specs.Readings.{Mapping, entry_of, sequence_of, kind_of, kinds_of, MayBeMade, MayAllBeMade, IsReadingOf, IsClearVariant}
use Rattle.variant_list.specs.Readings.Mapping.{Stays, Maps}
use Rattle.variant_list.specs.Spelling.{JoinsReplacements, Spells}
use Rattle.variant_list.specs.Substitutions.{substitution_of, may_replace, substitutions_of_entry, substitutions_at, substitutions_from, substitutions_of}
use Rattle.variant_table.specs.Staying.{staying, may_stand}
use Rattle.variant_list.specs.inner.Places.{IsCutFrom}
use Rattle.variant_list.proofs.HeldLemmas.{held_by}
use Rattle.variant_list.proofs.ListMembers.{Contains-filter}
use Rattle.variant_list.proofs.SpellingLemmas.{after_source, source_is_sequence}
use Rattle.variant_list.proofs.SubstitutionLemmas.{IsWithin-at, drop-substitutions_from, length-substitutions_from}

-- the substitution that a mapping is
abbrev pub put : Mapping → Substitution
put (Stays e) = staying e
put (Maps e v) = substitution_of e v

covers-put : (m : Mapping) → (put m).covers ≡ length (entry_of m).source
covers-put (Stays e) = refl
covers-put (Maps e v) = refl

points-put : (m : Mapping) → (put m).points ≡ sequence_of m
points-put (Stays e) = refl
points-put (Maps e v) = refl

points-all : (reading : List Mapping) → points_of (map put reading) ≡ flat_map sequence_of reading
points-all [] = refl
points-all (m ∷ reading) = ap (λ s. s ++ points_of (map put reading)) (points-put m) ∙ ap (λ s. sequence_of m ++ s) (points-all reading)

-- ---- from the entries to the substitutions, and back

module _ (table : TableValue) (label : List ℕ) (formed : IsWellFormed table.entries) where
  -- what is put at a place, where the entry may stand there
  put-at : (place : ℕ) (m : Mapping) → Contains (entries_at table.entries label place) (entry_of m)
      → ConditionHolds table.definitions.rules (seen_under table label) (entry_of m).condition place (place + length (entry_of m).source)
      → MayBeMade table label place m → Contains (substitutions_at table label place) (put m)
  put-at place m at held made =
      let e : Entry = entry_of m in
      let here : List Entry = entries_at table.entries label place in
      let within = IsWithin-at table label place e formed at in
      (Contains-flat_map (substitutions_of_entry table label place) (filter (may_stand table label place) here) (put m)).1
      (e, (Contains-filter (may_stand table label place) here e).1 (at, (held_by table label place e e.condition within.1).1 held), among m within.1 made)
    where
      among : (n : Mapping) → place + length (entry_of n).source ≤ length label → MayBeMade table label place n → Contains (substitutions_of_entry table label place (entry_of n)) (put n)
      among (Stays e) within is = Contains-head (staying e) (map (substitution_of e) (filter (may_replace table label place e) e.variants))
      among (Maps e v) within is =
          let kept : List Variant = filter (may_replace table label place e) e.variants in
          let m : Contains kept v = (Contains-filter (may_replace table label place e) e.variants v).1 (is.0, (held_by table label place e v.condition within).1 is.1) in
          Contains-later (staying e) (map (substitution_of e) kept) (substitution_of e v) ((Contains-map (substitution_of e) kept (substitution_of e v)).1 (v, m, refl))

  -- the mapping that a substitution is
  record IsPut (place : ℕ) (u : Substitution) : Type 0 where
    mapping : Mapping
    is : put mapping ≡ u
    at : Contains (entries_at table.entries label place) (entry_of mapping)
    held : ConditionHolds table.definitions.rules (seen_under table label) (entry_of mapping).condition place (place + length (entry_of mapping).source)
    made : MayBeMade table label place mapping

  mapping-of : (place : ℕ) (u : Substitution) → Contains (substitutions_at table label place) u → IsPut place u
  mapping-of place u c =
      let here : List Entry = entries_at table.entries label place in
      let g = (Contains-flat_map (substitutions_of_entry table label place) (filter (may_stand table label place) here) u).0 c in
      let e : Entry = g.0 in
      let m = (Contains-filter (may_stand table label place) here e).0 g.1 in
      let within = IsWithin-at table label place e formed m.0 in
      let held = (held_by table label place e e.condition within.1).0 m.1 in
      elim (Contains-cases (staying e) (map (substitution_of e) (filter (may_replace table label place e) e.variants)) u g.2) [
        | inl same ↦ record { mapping = Stays e; is = same; at = m.0; held = held; made = tt }
        | inr later ↦ (let h = (Contains-map (substitution_of e) (filter (may_replace table label place e) e.variants) u).0 later in
            let v : Variant = h.0 in
            let k = (Contains-filter (may_replace table label place e) e.variants v).0 h.1 in
            record { mapping = Maps e v; is = sym h.2; at = m.0; held = held; made = (k.0, (held_by table label place e v.condition within.1).0 k.1) })
      ]

  -- a source at a place ends within what is left of the label
  fits : (place n : ℕ) (e : Entry) → place + suc n ≡ length label → Contains (entries_at table.entries label place) e → length e.source ≤ suc n
  fits place n e whole at = let within = IsWithin-at table label place e formed at in omega (arith, within.1, whole)

  left : (place n : ℕ) (e : Entry) → place + suc n ≡ length label → length e.source ≤ suc n → place + length e.source + (suc n - length e.source) ≡ length label
  left place n e whole l = omega (arith, whole, l)

  -- the substitutions after a source
  after : (place n k : ℕ) → k ≤ suc n → drop k (substitutions_from table label place (suc n)) ≡ substitutions_from table label (place + k) (suc n - k)
  after place n k l = drop-substitutions_from table label k (suc n) place l

  pub to_cut : (place n : ℕ) (reading : List Mapping) → place + n ≡ length label → IsCutFrom table label place (map entry_of reading) → MayAllBeMade table label place reading
      → IsCut (substitutions_from table label place n) (map put reading)
  to_cut place zero [] whole cuts made = tt
  to_cut place (suc n) [] whole cuts made = absurd (omega (arith, whole, ap length cuts.joined, length-drop place label))
  to_cut place zero (m ∷ reading) whole cuts made =
      absurd (omega (
        arith,
        whole,
        source_is_sequence table.entries (entry_of m) formed.entries cuts.of_table.0,
        ap length cuts.joined,
        length-append (entry_of m).source (flat_map (λ (e : Entry). e.source) (map entry_of reading)),
        length-drop place label,
      ))
  to_cut place (suc n) (m ∷ reading) whole cuts made =
      let e : Entry = entry_of m in
      let rest : List ℕ = flat_map (λ (x : Entry). x.source) (map entry_of reading) in
      let begins : BeginsAt label place e = (rest, sym cuts.joined) in
      let at : Contains (entries_at table.entries label place) e = ((entries_are_at table.entries label place formed).members e).1 (cuts.of_table.0, begins) in
      let fit : length e.source ≤ suc n = fits place n e whole at in
      let goes_on : IsCut (substitutions_from table label (place + length e.source) (suc n - length e.source)) (map put reading) =
      to_cut (place + length e.source) (suc n - length e.source) reading (left place n e whole fit)
      (record { of_table = cuts.of_table.1; joined = sym (after_source label place e.source rest (sym cuts.joined)); held = cuts.held.1 }) made.1 in
      let same : length e.source ≡ (put m).covers = sym (covers-put m) in (
        put-at place m at cuts.held.0 made.0,
        omega (arith, fit, same, length-substitutions_from table label n (suc place)),
        subst (λ k. IsCut (drop k (substitutions_from table label place (suc n))) (map put reading)) same (subst (λ us. IsCut us (map put reading)) (sym (after place n (length e.source) fit)) goes_on),
      )

  -- a cut as a reading
  pub record IsCutBy (place : ℕ) (cut : List Substitution) : Type 0 where
    pub reading : List Mapping
    pub cuts : IsCutFrom table label place (map entry_of reading)
    pub made : MayAllBeMade table label place reading
    pub is : map put reading ≡ cut

  pub from_cut : (place n : ℕ) (cut : List Substitution) → place + n ≡ length label → IsCut (substitutions_from table label place n) cut → IsCutBy place cut
  from_cut place zero [] whole cuts =
      record { reading = []; cuts = record { of_table = tt; joined = sym (drop_all place label (omega (arith, whole))); held = tt }; made = tt; is = refl }
  from_cut place (suc n) [] whole cuts = absurd cuts
  from_cut place zero (u ∷ cut) whole cuts = absurd cuts
  from_cut place (suc n) (u ∷ cut) whole cuts =
      let first : IsPut place u = mapping-of place u cuts.0 in
      let m : Mapping = first.mapping in
      let e : Entry = entry_of m in
      let stands = ((entries_are_at table.entries label place formed).members e).0 first.at in
      let fit : length e.source ≤ suc n = fits place n e whole first.at in
      let covers : u.covers ≡ length e.source = ap (λ (x : Substitution). x.covers) (sym first.is) ∙ covers-put m in
      let later : IsCut (substitutions_from table label (place + length e.source) (suc n - length e.source)) cut =
      subst (λ us. IsCut us cut) (after place n (length e.source) fit) (subst (λ k. IsCut (drop k (substitutions_from table label place (suc n))) cut) covers cuts.2) in
      let rest : IsCutBy (place + length e.source) cut = from_cut (place + length e.source) (suc n - length e.source) cut (left place n e whole fit) later in
      record {
        reading = m ∷ rest.reading;
        cuts = record {
          of_table = (stands.0, rest.cuts.of_table);
          joined = ap (λ s. e.source ++ s) (rest.cuts.joined ∙ after_source label place e.source stands.1.0 stands.1.1) ∙ sym stands.1.1;
          held = (first.held, rest.cuts.held);
        };
        made = (first.made, rest.made);
        is = ap (λ x. x ∷ map put rest.reading) first.is ∙ ap (λ us. u ∷ us) rest.is;
      }

-- ---- what is recorded

module _ (table : TableValue) (named : All (IsNamed table.definitions) table.entries) (few : length table.definitions.types ≤ 57) where
  has-type : (e : Entry) (v : Variant) → Contains table.entries e → Contains (whole e) v → HasItsType table.definitions v.type
  has-type e v in_table c = (All-contains (HasItsNames table.definitions) (whole e) v (All-contains (IsNamed table.definitions) table.entries e named in_table) c).type

  -- a type that is defined has a bit
  small-source : (type : Option ℕ) → HasItsType table.definitions type → bit_of (kind_of_source type) < 64
  small-source None has = omega arith
  small-source (Some number) has = omega (arith, has, few)

  small-variant : (type : Option ℕ) → HasItsType table.definitions type → bit_of (kind_of_variant type) < 64
  small-variant None has = omega arith
  small-variant (Some number) has = omega (arith, has, few)

  recorded-one : (label : List ℕ) (place : ℕ) (m : Mapping) → Contains table.entries (entry_of m) → MayBeMade table label place m → kinds_in (put m).kinds ≡ kind_of m ∷ []
  recorded-one label place (Stays e) in_table made =
      kinds_in-one (kind_of_source e.type) (2 ^ bit_of (kind_of_source e.type)) (small-source e.type (has-type e (source_of e) in_table (Contains-head (source_of e) e.variants))) refl
  recorded-one label place (Maps e v) in_table made =
      kinds_in-one (kind_of_variant v.type) (2 ^ bit_of (kind_of_variant v.type)) (small-variant v.type (has-type e v in_table (Contains-later (source_of e) e.variants v made.0))) refl

  pub recorded-all : (label : List ℕ) (place : ℕ) (reading : List Mapping) → AllByRecursion (Contains table.entries) (map entry_of reading) → MayAllBeMade table label place reading → recorded (map put reading) ≡ kinds_of reading
  recorded-all label place [] of made = refl
  recorded-all label place (m ∷ reading) of made =
      ap (λ ks. ks ++ recorded (map put reading)) (recorded-one label place m of.0 made.0) ∙ ap (λ ks. kind_of m ∷ ks) (recorded-all label (place + length (entry_of m).source) reading of.1 made.1)

-- ---- readings of a label

-- a segmentation, and the same from the first place on
pub from_first : (table : TableValue) (label : List ℕ) (segmentation : List Entry) → IsSegmentation table segmentation label → IsCutFrom table label 0 segmentation
from_first table label segmentation s = record { of_table = s.of_table; joined = s.joined; held = s.held }

pub to_first : (table : TableValue) (label : List ℕ) (segmentation : List Entry) → IsCutFrom table label 0 segmentation → IsSegmentation table segmentation label
to_first table label segmentation s = record { of_table = s.of_table; joined = s.joined; held = s.held }

module _ (table : TableValue) (label v : List ℕ) (formed : IsWellFormed table.entries) (named : All (IsNamed table.definitions) table.entries) (few : length table.definitions.types ≤ 57) where
  pub to_substitutions : (reading : List Mapping) → IsReadingOf table label v reading → IsReading (substitutions_of table label) v (map put reading) × (recorded (map put reading) ≡ kinds_of reading)
  to_substitutions reading r = (
    record {
      is_cut = to_cut table label formed 0 (length label) reading (omega arith) (from_first table label (map entry_of reading) r.segmentation) r.made;
      joined = points-all reading ∙ r.joined;
    },
    recorded-all table named few label 0 reading r.segmentation.of_table r.made,
  )

  pub record IsReadBy (cut : List Substitution) : Type 0 where
    pub reading : List Mapping
    pub of : IsReadingOf table label v reading
    pub recorded_the_same : recorded cut ≡ kinds_of reading

  pub from_substitutions : (cut : List Substitution) → IsReading (substitutions_of table label) v cut → IsReadBy cut
  from_substitutions cut r =
      let by : IsCutBy table label formed 0 cut = from_cut table label formed 0 (length label) cut (omega arith) r.is_cut in
      record {
        reading = by.reading;
        of = record { segmentation = to_first table label (map entry_of by.reading) by.cuts; made = by.made; joined = sym (points-all by.reading) ∙ ap points_of by.is ∙ r.joined };
        recorded_the_same = ap recorded (sym by.is) ∙ recorded-all table named few label 0 by.reading by.cuts.of_table by.made;
      }

  pub record_the_same : (kinds : List Kind) → RecordsByEntries table label v kinds ↔ RecordsBySubstitutions table label v kinds
  record_the_same kinds = (
    λ r. (let s = to_substitutions r.0 r.1 in (map put r.0, s.0, s.1 ∙ r.2)),
    λ r. (let s = from_substitutions r.0 r.1 in (s.reading, s.of, sym s.recorded_the_same ∙ r.2)),
  )

  pub clear-same : IsClearVariant table label v ↔ IsClear (substitutions_of table label) v
  clear-same = (
    λ clear one other reads reads_too kind c.
        (let s = from_substitutions one reads in
        let t = from_substitutions other reads_too in
        subst (λ ks. Contains ks kind) (sym t.recorded_the_same) (clear s.reading t.reading s.of t.of kind (subst (λ ks. Contains ks kind) s.recorded_the_same c))),
    λ clear one other reads reads_too kind c.
        (let s = to_substitutions one reads in
        let t = to_substitutions other reads_too in
        subst (λ ks. Contains ks kind) t.1 (clear (map put one) (map put other) s.0 t.0 kind (subst (λ ks. Contains ks kind) (sym s.1) c))),
  )

-- ---- the words of a variant

module _ (table : TableValue) (label v : List ℕ) (has lacks : ℕ) (is : IsTable table) (are : AreWordsOf (substitutions_of table label) v has lacks) where
  -- a reading by substitutions, and one by entries
  by_substitutions : (reading : List Mapping) → IsReadingOf table label v reading → IsReading (substitutions_of table label) v (map put reading) × (recorded (map put reading) ≡ kinds_of reading)
  by_substitutions reading r = to_substitutions table label v is.well_formed is.named is.without_fault.few_types reading r

  by_entries : (cut : List Substitution) → IsReading (substitutions_of table label) v cut → IsReadBy table label v is.well_formed is.named is.without_fault.few_types cut
  by_entries cut r = from_substitutions table label v is.well_formed is.named is.without_fault.few_types cut r

  words-has : (k : ℕ) → k < 64 → (bit_at has k ≡ 1) ↔ ((reading : List Mapping) × IsReadingOf table label v reading × Contains (kinds_of reading) (kind_at k))
  words-has k l = (
    λ one. (let some = (are.has_are k l).0 one in
        let r = by_entries some.0 some.1 in
        (r.reading, r.of, subst (λ ks. Contains ks (kind_at k)) r.recorded_the_same ((Contains-recorded some.0 k).1 (l, some.2)))),
    λ g. (let r = by_substitutions g.0 g.1 in
        (are.has_are k l).1 (map put g.0, r.0, ((Contains-recorded (map put g.0) k).0 (subst (λ ks. Contains ks (kind_at k)) (sym r.1) g.2)).1)),
  )

  words-lacks : (k : ℕ) → k < 64 → (bit_at lacks k ≡ 1) ↔ ((reading : List Mapping) × IsReadingOf table label v reading × ¬ Contains (kinds_of reading) (kind_at k))
  words-lacks k l = (
    λ one. (let some = (are.lacks_are k l).0 one in
        let r = by_entries some.0 some.1 in
        (r.reading, r.of, λ c. some.2 ((Contains-recorded some.0 k).0 (subst (λ ks. Contains ks (kind_at k)) (sym r.recorded_the_same) c)).1)),
    λ g. (let r = by_substitutions g.0 g.1 in
        (are.lacks_are k l).1 (map put g.0, r.0, λ h. g.2 (subst (λ ks. Contains ks (kind_at k)) r.1 ((Contains-recorded (map put g.0) k).1 (l, h))))),
  )

  words-clear : IsClearVariant table label v ↔ ((k : ℕ) → k < 64 → bit_at has k ≡ 1 → bit_at lacks k ≡ 1 → ⊥)
  words-clear =
      let same = clear-same table label v is.well_formed is.named is.without_fault.few_types in (
        λ clear. clear-apart (substitutions_of table label) v has lacks are (same.0 clear),
        λ apart. same.1 (apart-clear (substitutions_of table label) v has lacks are apart),
      )

  words-each : (k : ℕ) (reading : List Mapping) → k < 64 → IsClearVariant table label v → IsReadingOf table label v reading → (bit_at has k ≡ 1) ↔ Contains (kinds_of reading) (kind_at k)
  words-each k reading l clear r = (
    λ one. (let some = (words-has k l).0 one in clear some.0 reading some.1 r (kind_at k) some.2),
    λ c. (words-has k l).1 (reading, r, c),
  )

pub words_tell_readings : WordsTellReadings
words_tell_readings = record {
  has = λ table label v has lacks k is are l. words-has table label v has lacks is are k l;
  lacks = λ table label v has lacks k is are l. words-lacks table label v has lacks is are k l;
  clear = λ table label v has lacks is are. words-clear table label v has lacks is are;
  each = λ table label v has lacks k reading is are l clear r. words-each table label v has lacks is are k reading l clear r;
}

-- ---- what a label spells is what it has a reading of

module _ (table : TableValue) (label : List ℕ) where
  record IsReadAs (place : ℕ) (segmentation : List Entry) (v : List ℕ) : Type 0 where
    reading : List Mapping
    entries : map entry_of reading ≡ segmentation
    made : MayAllBeMade table label place reading
    joined : flat_map sequence_of reading ≡ v

  -- a replacement as a mapping
  record IsMapping (place : ℕ) (e : Entry) (r : List ℕ) : Type 0 where
    mapping : Mapping
    of : entry_of mapping ≡ e
    made : MayBeMade table label place mapping
    gives : sequence_of mapping ≡ r

  read-as : (place : ℕ) (segmentation : List Entry) (v : List ℕ) → JoinsReplacements table label place segmentation v → IsReadAs place segmentation v
  read-as place [] v joins = record { reading = []; entries = refl; made = tt; joined = sym joins }
  read-as place (e ∷ segmentation) v joins =
      let is = joins.2 in
      let m : IsMapping place e joins.0 = elim (Contains-cases (itself e) e.variants is.replacement is.of_entry) [
        | inl same ↦ record { mapping = Stays e; of = refl; made = tt; gives = ap (λ (x : Variant). x.sequence) same ∙ sym is.is }
        | inr later ↦ record { mapping = Maps e is.replacement; of = refl; made = (later, is.held); gives = sym is.is }
      ] in
      let rest = read-as (place + length e.source) segmentation joins.1 joins.3 in
      record {
        reading = m.mapping ∷ rest.reading;
        entries = ap (λ x. x ∷ map entry_of rest.reading) m.of ∙ ap (λ es. e ∷ es) rest.entries;
        made = (m.made, subst (λ (x : Entry). MayAllBeMade table label (place + length x.source) rest.reading) (sym m.of) rest.made);
        joined = ap (λ s. s ++ flat_map sequence_of rest.reading) m.gives ∙ ap (λ w. joins.0 ++ w) rest.joined ∙ sym joins.4;
      }

  joins-of : (place : ℕ) (reading : List Mapping) → MayAllBeMade table label place reading → JoinsReplacements table label place (map entry_of reading) (flat_map sequence_of reading)
  joins-of place [] made = refl
  joins-of place (Stays e ∷ reading) made = (
    e.source,
    flat_map sequence_of reading,
    record { replacement = itself e; of_entry = Contains-head (itself e) e.variants; held = tt; is = refl },
    joins-of (place + length e.source) reading made.1,
    refl,
  )
  joins-of place (Maps e v ∷ reading) made = (
    v.sequence,
    flat_map sequence_of reading,
    record { replacement = v; of_entry = Contains-later (itself e) e.variants v made.0.0; held = made.0.1; is = refl },
    joins-of (place + length e.source) reading made.1,
    refl,
  )

  pub Spells-read : (v : List ℕ) → Spells table label v ↔ ((reading : List Mapping) × IsReadingOf table label v reading)
  Spells-read v = (
    λ s. (let r = read-as 0 s.0 v s.2 in
        (r.reading, record { segmentation = subst (λ es. IsSegmentation table es label) (sym r.entries) s.1; made = r.made; joined = r.joined })),
    λ r. (map entry_of r.0, r.1.segmentation, subst (JoinsReplacements table label 0 (map entry_of r.0)) r.1.joined (joins-of 0 r.0 r.1.made)),
  )

pub readings_agree : ReadingsAgree
readings_agree = record {
  spelled = Spells-read;
  record_the_same = λ table label v kinds is. record_the_same table label v is.well_formed is.named is.without_fault.few_types kinds;
  clear = λ table label v is. clear-same table label v is.well_formed is.named is.without_fault.few_types;
}
