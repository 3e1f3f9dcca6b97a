-- The sources that stand in a label, as substitutions of themselves: the cuts into them are the segmentations of the label.
use Rattle.std.proofs.Common.{◌≡◌, ℕ, zero, suc, ◌+◌, ◌-◌, ◌^◌, ◌<◌, ◌≤◌, Bool, true, false, cond, List, [], ◌∷◌, ◌++◌, length, drop, map, get_or, refl, sym, ap, ◌∙◌, subst, arith, length-append, append_assoc}
use Rattle.std.specs.Prelude.{◌↔◌, Option, Some, None, filter}
use Rattle.std.specs.List.{AllByRecursion, Contains, range_with_len}
use Rattle.std.proofs.lemmas.List.{drop_all, length-drop, length-map}
use Rattle.std.proofs.lemmas.List.Elements.{All-contains, Contains-get_or}
use Rattle.std.proofs.lemmas.Option.{same_Some}
use Rattle.reading_kinds.specs.Drafts.{Draft, with_substitutions}
use Rattle.reading_kinds.specs.Readings.{Substitution, AreSubstitutions, IsCut, IsReading, IsSubstitution, points_of}
use Rattle.ruleset_text.specs.Definitions.{type_names}
use Rattle.ruleset_text.specs.Names.{predefined_types}
use Rattle.variant_dispositions.specs.Kinds.{bit_of, kind_of_source, recorded}
use Rattle.variant_dispositions.proofs.OneKindLemmas.{kinds_in-one}
use Rattle.variant_table.specs.Entries.{Entry, TableValue, replacements, sequences_in, source_of, whole}
use Rattle.variant_table.specs.Places.{entries_at}
use Rattle.variant_table.specs.Segmentations.{AllHold, IsSegmentation, seen_under}
use Rattle.variant_table.specs.WellFormed.{HasItsNames, HasItsType, IsEntry, IsNamed, IsSequence, IsWellFormed}
use Rattle.variant_table.proofs.BeginningLemmas.{entries_are_at}
use Rattle.variant_table.proofs.MemberLemmas.{Contains-head}
use Rattle.variant_table.proofs.MemberLists.{Contains-filter, Contains-map}
use Rattle.valid_labels.specs.Dispositions.{kinds_of}
use Rattle.valid_labels.specs.Eligible.{Stands}
use Rattle.valid_labels.specs.Staying.{staying_at, staying_of}
use Rattle.variant_table.specs.Staying.{may_stand, staying}
use Rattle.valid_labels.specs.Validity.{IsSound}
use Rattle.valid_labels.proofs.CutLemmas.{sources}
use Rattle.valid_labels.proofs.EligibleLemmas.{begins-within, from-stands, source-filled, to-stands}
use Rattle.valid_labels.proofs.PartLemmas.{after-first}

-- those at so many places, from this one on
abbrev pub staying_from : TableValue → List ℕ → ℕ → ℕ → List (List Substitution)
staying_from table label place n = map (staying_at table label) (range_with_len place n)

drop-staying : (table : TableValue) (label : List ℕ) (k n place : ℕ) → k ≤ n → drop k (staying_from table label place n) ≡ staying_from table label (place + k) (n - k)
drop-staying table label zero zero place l = refl
drop-staying table label zero (suc n) place l =
    let from : place ≡ place + 0 = omega arith in
    let left : suc n ≡ suc n - 0 = omega arith in
    ap (λ p. staying_from table label p (suc n)) from ∙ ap (staying_from table label (place + 0)) left
drop-staying table label (suc k) zero place l = absurd (omega (arith, l))
drop-staying table label (suc k) (suc n) place l =
    let from : place + 1 + k ≡ place + suc k = omega arith in
    let left : n - k ≡ suc n - suc k = omega arith in
    drop-staying table label k n (place + 1) (omega (arith, l)) ∙ ap (λ p. staying_from table label p (n - k)) from ∙ ap (staying_from table label (place + suc k)) left

pub length-staying : (table : TableValue) (label : List ℕ) (n place : ℕ) → length (staying_from table label place n) ≡ n
length-staying table label zero place = refl
length-staying table label (suc n) place = ap suc (length-staying table label n (place + 1))

-- ---- as cuts of the label

module _ (table : TableValue) (label : List ℕ) (formed : IsWellFormed table.entries) where
  pub staying-stands : (place : ℕ) (u : Substitution) → Contains (staying_at table label place) u ↔ ((e : Entry) × Stands table label place e × (u ≡ staying e))
  staying-stands place u =
      let here : List Entry = entries_at table.entries label place in
      let mapped = Contains-map staying (filter (may_stand table label place) here) u in (
        λ c.
            let g = mapped.0 c in
            let kept = (Contains-filter (may_stand table label place) here g.0).0 g.1 in
            (g.0, to-stands table label place formed g.0 kept.0 kept.1, g.2),
        λ s. mapped.1 (s.0, (Contains-filter (may_stand table label place) here s.0).1 (from-stands table label place formed s.0 s.1), s.2),
      )

  stands-within : (place : ℕ) (e : Entry) → Stands table label place e → (1 ≤ length e.source) × (place + length e.source ≤ length label)
  stands-within place e stands =
      let some = source-filled table.entries e formed stands.of_table in
      (omega (arith, some), begins-within label place e some stands.begins)

  to_cut : (es : List Entry) (place n : ℕ) → place + n ≡ length label → AllByRecursion (Contains table.entries) es → drop place label ≡ sources es
      → AllHold table.definitions.rules (seen_under table label) place es → IsCut (staying_from table label place n) (map staying es)
  to_cut [] place zero all each joined held = tt
  to_cut [] place (suc n) all each joined held =
      let left : length (drop place label) ≡ length label - place = length-drop place label in
      let none : length (drop place label) ≡ 0 = ap length joined in
      absurd (omega (arith, all, left, none))
  to_cut (e ∷ es) place zero all each joined held =
      let left : length (drop place label) ≡ length label - place = length-drop place label in
      let size : length (drop place label) ≡ length e.source + length (sources es) = ap length joined ∙ length-append e.source (sources es) in
      let some = source-filled table.entries e formed each.0 in
      absurd (omega (arith, all, left, size, some))
  to_cut (e ∷ es) place (suc n) all each joined held =
      let stands : Stands table label place e = record { of_table = each.0; begins = (sources es, joined); holds = held.0 } in
      let within = stands-within place e stands in
      let covers : length e.source ≤ suc n = let l = within.1 in omega (arith, all, l) in
      let count : length (staying_from table label (place + 1) n) ≡ n = length-staying table label n (place + 1) in (
        (staying-stands place (staying e)).1 (e, stands, refl),
        omega (arith, covers, count),
        subst (λ us. IsCut us (map staying es)) (sym (drop-staying table label (length e.source) (suc n) place covers))
            (to_cut es (place + length e.source) (suc n - length e.source) (omega (arith, all, covers)) each.1 (after-first label place e.source (sources es) joined) held.1),
      )

  -- a cut as entries
  record AreStaying (place : ℕ) (cut : List Substitution) : Type 0 where
    entries : List Entry
    of_table : AllByRecursion (Contains table.entries) entries
    joined : drop place label ≡ sources entries
    held : AllHold table.definitions.rules (seen_under table label) place entries
    same : cut ≡ map staying entries

  from_cut : (cut : List Substitution) (place n : ℕ) → place + n ≡ length label → IsCut (staying_from table label place n) cut → AreStaying place cut
  from_cut [] place zero all is = record { entries = []; of_table = tt; joined = drop_all place label (omega (arith, all)); held = tt; same = refl }
  from_cut [] place (suc n) all is = absurd is
  from_cut (u ∷ cut) place zero all is = absurd is
  from_cut (u ∷ cut) place (suc n) all is =
      let s = (staying-stands place u).0 is.0 in
      let e : Entry = s.0 in
      let covers : u.covers ≡ length e.source = ap (λ (x : Substitution). x.covers) s.2 in
      let count : length (staying_from table label (place + 1) n) ≡ n = length-staying table label n (place + 1) in
      let few : length e.source ≤ suc n = let l = is.1 in omega (arith, l, covers, count) in
      let after : IsCut (staying_from table label (place + length e.source) (suc n - length e.source)) cut =
      subst (λ us. IsCut us cut) (drop-staying table label (length e.source) (suc n) place few) (subst (λ k. IsCut (drop k (staying_from table label place (suc n))) cut) covers is.2) in
      let rest = from_cut cut (place + length e.source) (suc n - length e.source) (omega (arith, all, few)) after in
      let begins = s.1.begins in
      record {
        entries = e ∷ rest.entries;
        of_table = (s.1.of_table, rest.of_table);
        joined = begins.1 ∙ ap (λ more. e.source ++ more) (sym (after-first label place e.source begins.0 begins.1) ∙ rest.joined);
        held = (s.1.holds, rest.held);
        same = ap (λ x. x ∷ cut) s.2 ∙ ap (λ xs. staying e ∷ xs) rest.same;
      }

  points-staying : (es : List Entry) → points_of (map staying es) ≡ sources es
  points-staying [] = refl
  points-staying (e ∷ es) = ap (λ more. e.source ++ more) (points-staying es)

  -- a segmentation of the label is a reading of it, and there are no others
  pub segmentation-reading : (es : List Entry) → IsSegmentation table es label → IsReading (staying_of table label) label (map staying es)
  segmentation-reading es is = record { is_cut = to_cut es 0 (length label) (omega arith) is.of_table (sym is.joined) is.held; joined = points-staying es ∙ is.joined }

  pub reading-segmentation : (cut : List Substitution) → IsReading (staying_of table label) label cut → (es : List Entry) × IsSegmentation table es label × (cut ≡ map staying es)
  reading-segmentation cut is =
      let s = from_cut cut 0 (length label) (omega arith) is.is_cut in
      (s.entries, record { of_table = s.of_table; joined = sym s.joined; held = s.held }, s.same)

  -- ---- they end within the label, and are few

  filter-few : {X : Type 0} (p : X → Bool) (xs : List X) → length (filter p xs) ≤ length xs
  filter-few p [] = omega arith
  filter-few p (x ∷ xs) = by_test (p x) (filter-few p xs)
    where
      by_test : (b : Bool) → length (filter p xs) ≤ length xs → length (cond b (x ∷ filter p xs) (filter p xs)) ≤ suc (length xs)
      by_test true l = omega (arith, l)
      by_test false l = omega (arith, l)

  is_substitution : (place n : ℕ) (u : Substitution) → place + suc n ≡ length label → Contains (staying_at table label place) u → IsSubstitution (length (staying_from table label (place + 1) n) + 1) u
  is_substitution place n u all c =
      let s = (staying-stands place u).0 c in
      let e : Entry = s.0 in
      let within = stands-within place e s.1 in
      let each : IsEntry e = All-contains IsEntry table.entries e formed.entries s.1.of_table in
      let one : IsSequence e.source = All-contains IsSequence (replacements e) e.source each.sequences (Contains-head e.source (sequences_in e.variants)) in
      let count : length (staying_from table label (place + 1) n) ≡ n = length-staying table label n (place + 1) in
      subst (IsSubstitution (length (staying_from table label (place + 1) n) + 1)) (sym s.2) (record {
        some = within.0;
        within = let l = within.1 in omega (arith, l, all, count);
        filled = one.filled;
        short = one.short;
      })

  few_staying : (place : ℕ) → length (staying_at table label place) ≤ 8
  few_staying place =
      let here : List Entry = entries_at table.entries label place in
      let kept : List Entry = filter (may_stand table label place) here in
      let count : length (map staying kept) ≡ length kept = length-map kept staying in
      let fewer = filter-few (may_stand table label place) here in
      let few = (entries_are_at table.entries label place formed).few in
      omega (arith, count, fewer, few)

  are_substitutions : (n place : ℕ) → place + n ≡ length label → AreSubstitutions (staying_from table label place n)
  are_substitutions zero place all = tt
  are_substitutions (suc n) place all = (
    λ k d l. is_substitution place n (get_or (staying_at table label place) k d) all (Contains-get_or (staying_at table label place) k d l),
    let few = few_staying place in omega (arith, few),
    are_substitutions n (place + 1) (omega (arith, all)),
  )

  pub AreSubstitutions-staying : AreSubstitutions (staying_of table label)
  AreSubstitutions-staying = are_substitutions (length label) 0 (omega arith)

-- ---- what they record

module _ (table : TableValue) (sound : IsSound table) where
  type-small : (o : Option ℕ) → HasItsType table.definitions o → bit_of (kind_of_source o) < 64
  type-small None has = omega arith
  type-small (Some number) has =
      let few = sound.definitions.few_types in
      let count : length (type_names table.definitions) ≡ 5 + length table.definitions.types = length-append predefined_types table.definitions.types in
      omega (arith, has, few, count)

  entry-small : (e : Entry) → Contains table.entries e → bit_of (kind_of_source e.type) < 64
  entry-small e h =
      let named : IsNamed table.definitions e = All-contains (IsNamed table.definitions) table.entries e sound.named h in
      type-small e.type (All-contains (HasItsNames table.definitions) (whole e) (source_of e) named (Contains-head (source_of e) e.variants)).type

  pub recorded-staying : (es : List Entry) → AllByRecursion (Contains table.entries) es → recorded (map staying es) ≡ kinds_of es
  recorded-staying [] each = refl
  recorded-staying (e ∷ es) each =
      ap (λ kinds. kinds ++ recorded (map staying es)) (kinds_in-one (kind_of_source e.type) (2 ^ bit_of (kind_of_source e.type)) (entry-small e each.0) refl)
      ∙ ap (λ kinds. kind_of_source e.type ∷ kinds) (recorded-staying es each.1)

-- ---- one source after the other, and one place after the other

with-twice : (draft : Draft) (us vs : List Substitution) → with_substitutions (with_substitutions draft us) vs ≡ with_substitutions draft (us ++ vs)
with-twice draft us vs = ap (λ xs. draft_of xs) (append_assoc draft.begun us vs)
  where
    draft_of : List Substitution → Draft
    draft_of xs = record { done = draft.done; begun = xs }

-- a source with its length and its kind, as they are asked for
pub staying-is : (e : Entry) (points : List ℕ) (kinds : ℕ) (o : Option ℕ) → points ≡ e.source → Some e.type ≡ Some o → kinds ≡ 2 ^ bit_of (kind_of_source o)
    → record { covers = length points; kinds = kinds; points = points } ≡ staying e
staying-is e points kinds o same type word =
    ap (λ s. record { covers = length s; kinds = kinds; points = s }) same
    ∙ ap (λ k. record { covers = length e.source; kinds = k; points = e.source }) (word ∙ ap (λ t. 2 ^ bit_of (kind_of_source t)) (sym (same_Some e.type o type)))

pub added-source : (stands : Entry → Bool) (e : Entry) (left rest : List Entry) (old new : Draft) (u : Substitution) → left ≡ e ∷ rest → stands e ≡ true → new ≡ with_substitutions old (u ∷ []) → u ≡ staying e
    → with_substitutions new (map staying (filter stands rest)) ≡ with_substitutions old (map staying (filter stands left))
added-source stands e left rest old new u next is added same =
    let later : List Substitution = map staying (filter stands rest) in
    ap (λ d. with_substitutions d later) (added ∙ ap (λ x. with_substitutions old (x ∷ [])) same)
    ∙ with-twice old (staying e ∷ []) later
    ∙ ap (λ b. with_substitutions old (map staying (cond b (e ∷ filter stands rest) (filter stands rest)))) (sym is)
    ∙ ap (λ es. with_substitutions old (map staying (filter stands es))) (sym next)

pub skipped-source : (stands : Entry → Bool) (e : Entry) (left rest : List Entry) (draft : Draft) → left ≡ e ∷ rest → stands e ≡ false
    → with_substitutions draft (map staying (filter stands rest)) ≡ with_substitutions draft (map staying (filter stands left))
skipped-source stands e left rest draft next is =
    ap (λ b. with_substitutions draft (map staying (cond b (e ∷ filter stands rest) (filter stands rest)))) (sym is)
    ∙ ap (λ es. with_substitutions draft (map staying (filter stands es))) (sym next)

staying-more : (table : TableValue) (label : List ℕ) (n place : ℕ) → staying_from table label place n ++ staying_at table label (place + n) ∷ [] ≡ staying_from table label place (suc n)
staying-more table label zero place = let same : place + 0 ≡ place = omega arith in ap (λ p. staying_at table label p ∷ []) same
staying-more table label (suc n) place =
    let same : place + suc n ≡ place + 1 + n = omega arith in
    ap (λ us. staying_at table label place ∷ us)
    (ap (λ p. staying_from table label (place + 1) n ++ staying_at table label p ∷ []) same ∙ staying-more table label n (place + 1))

pub place-done : (table : TableValue) (label : List ℕ) (n : ℕ) (draft mid new : Draft) → draft ≡ record { done = staying_from table label 0 n; begun = [] } → mid ≡ with_substitutions draft (staying_at table label n)
    → new ≡ record { done = mid.done ++ mid.begun ∷ []; begun = [] } → new ≡ record { done = staying_from table label 0 (n + 1); begun = [] }
place-done table label n draft mid new at taken ended =
    let here : n ≡ 0 + n = omega arith in
    let more : suc n ≡ n + 1 = omega arith in
    ended ∙ ap ended_of (taken ∙ ap (λ d. with_substitutions d (staying_at table label n)) at)
    ∙ ap (λ p. done_of (staying_from table label 0 n ++ staying_at table label p ∷ [])) here
    ∙ ap done_of (staying-more table label n 0 ∙ ap (staying_from table label 0) more)
  where
    ended_of : Draft → Draft
    ended_of d = record { done = d.done ++ d.begun ∷ []; begun = [] }

    done_of : List (List Substitution) → Draft
    done_of us = record { done = us; begun = [] }
