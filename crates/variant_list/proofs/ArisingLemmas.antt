-- What arises from a label is what the label spells under the table of which nothing is asked.
use Rattle.std.proofs.Common.{◌≡◌, ◌↔◌, ℕ, ◌+◌, Bool, true, false, Option, Some, None, List, [], ◌∷◌, ◌++◌, ◌<◌, zero, suc, length, get_or, take, drop, map, refl, sym, ap, ◌∙◌, subst, arith, cond}
use Rattle.std.specs.Prelude.{bytes_eq, filter}
use Rattle.std.specs.List.{Contains, AllByRecursion, flat_map}
use Rattle.std.specs.Option.{option_map, option_to_list}
use Rattle.std.proofs.lemmas.List.{length-map, map-append}
use Rattle.std.proofs.lemmas.List.Elements.{recursion_from_All, All-from_recursion}
use Rattle.variant_table.specs.Entries.{Entry, TableValue}
use Rattle.variant_table.specs.Places.{entry_with, entries_from, entries_at}
use Rattle.variant_table.specs.Segmentations.{AllHold, seen_under}
use Rattle.variant_table.specs.WellFormed.{IsEntry, IsWellFormed}
use Rattle.variant_table.proofs.MemberLists.{Contains-map}
use Rattle.reading_kinds.specs.Readings.{Substitution, SubstitutionsSpell}
use Rattle.variant_list.specs.declared.substitutions.Cuts.{Cuts}
use Rattle.variant_list.specs.declared.substitutions.Cuts.TheVariants.{Segmentations, Anyhow}
use Rattle.variant_list.specs.Arising.{Arises, Gives, table_for, unasked, unasked_entry}
use Rattle.variant_list.specs.Spelling.{Replaces, JoinsReplacements, Spells}
use Rattle.variant_list.specs.Substitutions.{substitutions_at, substitutions_of, substitutions_of_entry}
use Rattle.variant_table.specs.Staying.{may_stand}
use Rattle.variant_list.specs.inner.Standing.{stands_by}
use Rattle.variant_list.specs.Spelled.{spelled}
use Rattle.variant_list.proofs.SpelledByLemmas.{spelled-Spells}
use Rattle.variant_list.proofs.SubstitutionLemmas.{SubstitutionsSpell-label}

-- ---- the table of which nothing is asked is well-formed

pub IsWellFormed-unasked : (table : TableValue) → IsWellFormed table.entries → IsWellFormed (unasked table).entries
IsWellFormed-unasked table formed = record {
  entries = All-from_recursion IsEntry (map unasked_entry table.entries) (entries_from_all table.entries (recursion_from_All IsEntry table.entries formed.entries));
  sources = λ i j d below within.
      (let last : j < length table.entries = omega (arith, within, length-map table.entries unasked_entry) in
      λ same. formed.sources i j d below last (sym (source_at table.entries i d) ∙ same ∙ source_at table.entries j d));
  few = omega (arith, formed.few, length-map table.entries unasked_entry);
}
  where
    entries_from_all : (es : List Entry) → AllByRecursion IsEntry es → AllByRecursion IsEntry (map unasked_entry es)
    entries_from_all [] h = tt
    entries_from_all (e ∷ es) h = (record { sequences = h.0.sequences; few = h.0.few; distinct = h.0.distinct }, entries_from_all es h.1)

    source_at : (es : List Entry) (k : ℕ) (d : Entry) → (get_or (map unasked_entry es) k d).source ≡ (get_or es k d).source
    source_at [] k d = refl
    source_at (e ∷ es) zero d = refl
    source_at (e ∷ es) (suc k) d = source_at es k d

-- ---- its entries at a place

pub entries_at-unasked : (entries : List Entry) (label : List ℕ) (place : ℕ) → entries_at (map unasked_entry entries) label place ≡ map unasked_entry (entries_at entries label place)
entries_at-unasked entries label place = from [] (take 8 (drop place label))
  where
    with_source : (es : List Entry) (s : List ℕ) → entry_with (map unasked_entry es) s ≡ option_map unasked_entry (entry_with es s)
    with_source [] s = refl
    with_source (e ∷ es) s = by_test (bytes_eq e.source s) (with_source es s)
      where
        by_test : (b : Bool) → entry_with (map unasked_entry es) s ≡ option_map unasked_entry (entry_with es s)
            → cond b (Some (unasked_entry e)) (entry_with (map unasked_entry es) s) ≡ option_map unasked_entry (cond b (Some e) (entry_with es s))
        by_test true rest = refl
        by_test false rest = rest

    listed : (o : Option Entry) → option_to_list (option_map unasked_entry o) ≡ map unasked_entry (option_to_list o)
    listed None = refl
    listed (Some e) = refl

    from : (beginning rest : List ℕ) → entries_from (map unasked_entry entries) beginning rest ≡ map unasked_entry (entries_from entries beginning rest)
    from beginning [] = refl
    from beginning (c ∷ rest) =
        let s : List ℕ = beginning ++ c ∷ [] in
        ap (λ o. option_to_list o ++ entries_from (map unasked_entry entries) s rest) (with_source entries s)
        ∙ ap (λ es. es ++ entries_from (map unasked_entry entries) s rest) (listed (entry_with entries s))
        ∙ ap (λ es. map unasked_entry (option_to_list (entry_with entries s)) ++ es) (from s rest)
        ∙ sym (map-append unasked_entry (option_to_list (entry_with entries s)) (entries_from entries s rest))

-- the substitutions at a place, by what is asked of the entries there
pub substitutions_at-cuts : (cuts : Cuts) (table : TableValue) (label : List ℕ) (place : ℕ)
    → flat_map (substitutions_of_entry table label place) (filter (stands_by cuts table label place) (entries_at table.entries label place)) ≡ substitutions_at (table_for cuts table) label place
substitutions_at-cuts Segmentations table label place = refl
substitutions_at-cuts Anyhow table label place =
    all (entries_at table.entries label place) ∙ ap (λ es. flat_map gives (filter stands es)) (sym (entries_at-unasked table.entries label place))
  where
    gives : Entry → List Substitution
    gives = substitutions_of_entry (unasked table) label place

    stands : Entry → Bool
    stands = may_stand (unasked table) label place

    all : (es : List Entry) → flat_map (substitutions_of_entry table label place) (filter (stands_by Anyhow table label place) es) ≡ flat_map gives (filter stands (map unasked_entry es))
    all [] = refl
    all (e ∷ es) = ap (λ us. substitutions_of_entry table label place e ++ us) (all es)

-- ---- what arises is what that table spells

module _ (table : TableValue) (label : List ℕ) where
  sources_same : (cut : List Entry) → flat_map (λ (e : Entry). e.source) (map unasked_entry cut) ≡ flat_map (λ (e : Entry). e.source) cut
  sources_same [] = refl
  sources_same (e ∷ cut) = ap (λ s. e.source ++ s) (sources_same cut)

  of_unasked : (cut : List Entry) → AllByRecursion (Contains table.entries) cut → AllByRecursion (Contains (unasked table).entries) (map unasked_entry cut)
  of_unasked [] h = tt
  of_unasked (e ∷ cut) h = ((Contains-map unasked_entry table.entries (unasked_entry e)).1 (e, h.0, refl), of_unasked cut h.1)

  held : (place : ℕ) (cut : List Entry) → AllHold (unasked table).definitions.rules (seen_under (unasked table) label) place (map unasked_entry cut)
  held place [] = tt
  held place (e ∷ cut) = (tt, held (place + length e.source) cut)

  joined : (place : ℕ) (cut : List Entry) (v : List ℕ) → JoinsReplacements table label place cut v → JoinsReplacements (unasked table) label place (map unasked_entry cut) v
  joined place [] v joins = joins
  joined place (e ∷ cut) v joins =
      let r = joins.2 in (
        joins.0,
        joins.1,
        record { replacement = r.replacement; of_entry = r.of_entry; held = r.held; is = r.is },
        joined (place + length e.source) cut joins.1 joins.3,
        joins.4,
      )

  -- a segmentation of that table as a cut
  record IsCutFor (segmentation : List Entry) (place : ℕ) (v : List ℕ) : Type 0 where
    cut : List Entry
    of_table : AllByRecursion (Contains table.entries) cut
    sources : flat_map (λ (e : Entry). e.source) cut ≡ flat_map (λ (e : Entry). e.source) segmentation
    joins : JoinsReplacements table label place cut v

  cut_for : (segmentation : List Entry) (place : ℕ) (v : List ℕ) → AllByRecursion (Contains (unasked table).entries) segmentation → JoinsReplacements (unasked table) label place segmentation v → IsCutFor segmentation place v
  cut_for [] place v of joins = record { cut = []; of_table = tt; sources = refl; joins = joins }
  cut_for (f ∷ segmentation) place v of joins =
      let m = (Contains-map unasked_entry table.entries f).0 of.0 in
      let e : Entry = m.0 in
      let replaces : Replaces (unasked table) label place (unasked_entry e) joins.0 = subst (λ x. Replaces (unasked table) label place x joins.0) m.2 joins.2 in
      let goes_on : JoinsReplacements (unasked table) label (place + length e.source) segmentation joins.1 = subst (λ (x : Entry). JoinsReplacements (unasked table) label (place + length x.source) segmentation joins.1) m.2 joins.3 in
      let rest = cut_for segmentation (place + length e.source) joins.1 of.1 goes_on in
      record {
        cut = e ∷ rest.cut;
        of_table = (m.1, rest.of_table);
        sources = ap (λ s. e.source ++ s) rest.sources ∙ ap (λ (x : Entry). x.source ++ flat_map (λ (y : Entry). y.source) segmentation) (sym m.2);
        joins = (
          joins.0,
          joins.1,
          record { replacement = replaces.replacement; of_entry = replaces.of_entry; held = replaces.held; is = replaces.is },
          rest.joins,
          joins.4,
        );
      }

  pub Arises-unasked : (v : List ℕ) → Arises table label v ↔ Spells (unasked table) label v
  Arises-unasked v = (
    λ a. (
      map unasked_entry a.0,
      record { of_table = of_unasked a.0 a.1.of_table; joined = sources_same a.0 ∙ a.1.joined; held = held 0 a.0 },
      joined 0 a.0 v a.2,
    ),
    λ s. (let c = cut_for s.0 0 v s.1.of_table s.2 in (c.cut, record { of_table = c.of_table; joined = c.sources ∙ s.1.joined }, c.joins)),
  )

-- a segmentation is a cut
pub Arises-spelled : (table : TableValue) (label v : List ℕ) → Spells table label v → Arises table label v
Arises-spelled table label v s = (s.0, record { of_table = s.1.of_table; joined = s.1.joined }, s.2)

pub unasked-Arises : (table : TableValue) (label v : List ℕ) → IsWellFormed table.entries → Contains (spelled (unasked table) label) v ↔ Arises table label v
unasked-Arises table label v formed =
    let spells = spelled-Spells (unasked table) label v (IsWellFormed-unasked table formed) in
    let arises = Arises-unasked table label v in
    (λ m. arises.1 (spells.0 m), λ a. spells.1 (arises.0 a))

-- ---- by the kind of the cuts

pub IsWellFormed-cuts : (cuts : Cuts) (table : TableValue) → IsWellFormed table.entries → IsWellFormed (table_for cuts table).entries
IsWellFormed-cuts Segmentations table formed = formed
IsWellFormed-cuts Anyhow table formed = IsWellFormed-unasked table formed

pub SubstitutionsSpell-cuts : (cuts : Cuts) (table : TableValue) (label : List ℕ) → IsWellFormed table.entries → (v : List ℕ) → SubstitutionsSpell (substitutions_of (table_for cuts table) label) v ↔ Gives cuts table label v
SubstitutionsSpell-cuts Segmentations table label formed v = SubstitutionsSpell-label table label formed v
SubstitutionsSpell-cuts Anyhow table label formed v =
    let spelled = SubstitutionsSpell-label (unasked table) label (IsWellFormed-unasked table formed) v in
    let arises = Arises-unasked table label v in
    (λ s. arises.1 (spelled.0 s), λ a. spelled.1 (arises.0 a))
