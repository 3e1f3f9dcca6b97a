-- The list that computes has exactly what substitutions spell, and that of a label what the label spells.
use Rattle.std.proofs.Common.{◌≡◌, ℕ, zero, suc, ◌+◌, ◌-◌, ◌≤◌, ◌<◌, List, [], ◌∷◌, ◌++◌, length, drop, map, get_or, refl, sym, ap, ◌∙◌, subst, ◌↔◌, arith, length-append}
use Rattle.std.specs.Prelude.{slice_index_or, filter}
use Rattle.std.specs.List.{Contains, flat_map, sum_by}
use Rattle.std.proofs.lemmas.List.{length-drop, length-map}
use Rattle.std.proofs.lemmas.List.Sums.{sum_by-le, sum_by-cons}
use Rattle.std.proofs.lemmas.List.Elements.{All-contains, Contains-get_or}
use Rattle.variant_table.specs.Entries.{Entry, TableValue, Variant, replacements}
use Rattle.variant_table.specs.Places.{AreEntriesAt, entries_at}
use Rattle.variant_table.specs.WellFormed.{IsSequence, IsEntry, IsWellFormed}
use Rattle.variant_table.proofs.BeginningLemmas.{entries_are_at}
use Rattle.variant_list.specs.Spelled.{spelled}
use Rattle.variant_list.specs.Spelling.{Spells}
use Rattle.variant_list.specs.inner.LabelSets.{SomeGives}
use Rattle.variant_list.specs.inner.Layouts.{SubstitutionSpells}
use Rattle.reading_kinds.specs.Readings.{Substitution, IsSubstitution, AreSubstitutions, SubstitutionsSpell}
use Rattle.variant_list.specs.Substitutions.{spelled_from_each, spelled_by, substitution_of, may_replace, substitutions_of_entry, substitutions_at, substitutions_from, substitutions_of}
use Rattle.variant_table.specs.Staying.{may_stand}
use Rattle.variant_list.proofs.ListMembers.{Contains-filter, filter-few}
use Rattle.variant_list.proofs.SubstitutionLemmas.{nothing_spelled, SubstitutionsSpell-here, SubstitutionsSpell-label, IsSubstitutionOf-fits, substitutions_at-IsSubstitutionOf, length-substitutions_from}
use Rattle.variant_list.proofs.SpellingLemmas.{Replaces-of_entry}
use Rattle.variant_table.proofs.MemberLemmas.{Contains-head, Contains-one}
use Rattle.variant_table.proofs.MemberLists.{Contains-map, Contains-flat_map}

-- from a later place on
spelled_from-each : (substitutions : List (List Substitution)) (k : ℕ) → k ≤ length substitutions → slice_index_or (spelled_from_each substitutions) k [] ≡ spelled_by (drop k substitutions)
spelled_from-each [] zero l = refl
spelled_from-each [] (suc k) l = absurd (omega (arith, l))
spelled_from-each (here ∷ later) zero l = refl
spelled_from-each (here ∷ later) (suc k) l = spelled_from-each later k (omega (arith, l))

pub AreSubstitutions-drop : (substitutions : List (List Substitution)) (k : ℕ) → AreSubstitutions substitutions → AreSubstitutions (drop k substitutions)
AreSubstitutions-drop [] zero are = tt
AreSubstitutions-drop [] (suc k) are = tt
AreSubstitutions-drop (here ∷ later) zero are = are
AreSubstitutions-drop (here ∷ later) (suc k) are = AreSubstitutions-drop later k are.2

spelled_within : (n : ℕ) (substitutions : List (List Substitution)) (v : List ℕ) → AreSubstitutions substitutions → length substitutions ≤ n → Contains (spelled_by substitutions) v ↔ SubstitutionsSpell substitutions v
spelled_within n [] v are short = (
  λ c. ([], tt, Contains-one [] v c),
  λ s. subst (Contains ([] ∷ [])) (nothing_spelled s.0 v s.1 s.2) (Contains-head [] []),
)
spelled_within zero (here ∷ later) v are short = absurd (omega (arith, short))
spelled_within (suc n) (here ∷ later) v are short =
    let after : Substitution → List (List ℕ) = λ (u : Substitution). slice_index_or (spelled_from_each later) (u.covers - 1) [] in
    let given : Substitution → List (List ℕ) = λ (u : Substitution). map (λ w. u.points ++ w) (after u) in
    let each : (u : Substitution) → Contains here u → IsSubstitution (length later + 1) u = λ (u : Substitution) m. All-contains (IsSubstitution (length later + 1)) here u are.0 m in
    let first = SubstitutionsSpell-here here later (λ u m. ((each u m).some, (each u m).within)) v in
    let at : (u : Substitution) → Contains here u → after u ≡ spelled_by (drop (u.covers - 1) later) = λ (u : Substitution) m. (let is = each u m in spelled_from-each later (u.covers - 1) (omega (arith, is.some, is.within))) in
    let rest : (u : Substitution) (w : List ℕ) → Contains (spelled_by (drop (u.covers - 1) later)) w ↔ SubstitutionsSpell (drop (u.covers - 1) later) w =
    λ (u : Substitution) (w : List ℕ). spelled_within n (drop (u.covers - 1) later) w (AreSubstitutions-drop later (u.covers - 1) are.2) (omega (arith, short, length-drop (u.covers - 1) later)) in (
      λ c. (let g = (Contains-flat_map given here v).0 c in
          let u : Substitution = g.0 in
          let h = (Contains-map (λ (w : List ℕ). u.points ++ w) (after u) v).0 g.2 in
          first.0 (u, g.1, (h.0, h.2, (rest u h.0).0 (subst (λ ws. Contains ws h.0) (at u g.1) h.1)))),
      λ s. (let g : SomeGives (SubstitutionSpells later) here v = first.1 s in
          let u : Substitution = g.0 in
          let w : List ℕ = g.2.0 in
          (Contains-flat_map given here v).1 (u, g.1, (Contains-map (λ (w : List ℕ). u.points ++ w) (after u) v).1 (w, subst (λ ws. Contains ws w) (sym (at u g.1)) ((rest u w).1 g.2.2), g.2.1))),
    )

pub spelled_by-SubstitutionsSpell : (substitutions : List (List Substitution)) (v : List ℕ) → AreSubstitutions substitutions → Contains (spelled_by substitutions) v ↔ SubstitutionsSpell substitutions v
spelled_by-SubstitutionsSpell substitutions v are = spelled_within (length substitutions) substitutions v are (omega arith)

pub length-of_flat_map : {X Y : Type 0} (f : X → List Y) (h : X → ℕ) → ((x : X) → length (f x) ≡ h x) → (xs : List X) → length (flat_map f xs) ≡ sum_by h xs
length-of_flat_map f h each [] = refl
length-of_flat_map f h each (x ∷ xs) =
    length-append (f x) (flat_map f xs) ∙ ap (λ n. n + length (flat_map f xs)) (each x) ∙ ap (λ n. h x + n) (length-of_flat_map f h each xs) ∙ sym (sum_by-cons h x xs)

-- the substitutions under a well-formed table end within the label, and are few
module _ (table : TableValue) (label : List ℕ) (formed : IsWellFormed table.entries) where
  is_substitution : (place n : ℕ) (u : Substitution) → place + suc n ≡ length label → Contains (substitutions_at table label place) u → IsSubstitution (length (substitutions_from table label (suc place) n) + 1) u
  is_substitution place n u whole m =
      let is = substitutions_at-IsSubstitutionOf table label formed place u m in
      let here = ((entries_are_at table.entries label place formed).members is.entry).0 is.at in
      let fit = IsSubstitutionOf-fits table label formed place u is in
      let each : IsEntry is.entry = All-contains IsEntry table.entries is.entry formed.entries here.0 in
      let one : IsSequence u.points = All-contains IsSequence (replacements is.entry) u.points each.sequences (Replaces-of_entry table label place is.entry u.points is.replaces) in
      record {
        some = fit.0;
        within = omega (arith, fit.1, whole, length-substitutions_from table label n (suc place));
        filled = one.filled;
        short = one.short;
      }

  few_substitutions : (place : ℕ) → length (substitutions_at table label place) ≤ 136
  few_substitutions place =
      let all : List Entry = entries_at table.entries label place in
      let here : List Entry = filter (may_stand table label place) all in
      let at : AreEntriesAt table.entries label place all = entries_are_at table.entries label place formed in
      let of_entry : (e : Entry) → IsEntry e → length (substitutions_of_entry table label place e) ≤ 17 = λ (e : Entry) is.
      (let kept : List Variant = filter (may_replace table label place e) e.variants in
      omega (arith, length-map kept (substitution_of e), filter-few (may_replace table label place e) e.variants, is.few)) in
      let each : (k : ℕ) (d : Entry) → k < length here → length (substitutions_of_entry table label place (get_or here k d)) ≤ 17 = λ (k : ℕ) (d : Entry) l.
      (let e : Entry = get_or here k d in
      of_entry e (All-contains IsEntry table.entries e formed.entries ((at.members e).0 ((Contains-filter (may_stand table label place) all e).0 (Contains-get_or here k d l)).0).0)) in
      omega (
        arith,
        sum_by-le (λ (e : Entry). length (substitutions_of_entry table label place e)) 17 here each,
        length-of_flat_map (substitutions_of_entry table label place) (λ (e : Entry). length (substitutions_of_entry table label place e)) (λ (e : Entry). refl) here,
        filter-few (may_stand table label place) all,
        at.few,
      )

  AreSubstitutions-from : (place n : ℕ) → place + n ≡ length label → AreSubstitutions (substitutions_from table label place n)
  AreSubstitutions-from place zero whole = tt
  AreSubstitutions-from place (suc n) whole = (
    λ k d l. is_substitution place n (get_or (substitutions_at table label place) k d) whole (Contains-get_or (substitutions_at table label place) k d l),
    omega (arith, few_substitutions place),
    AreSubstitutions-from (suc place) n (omega (arith, whole)),
  )

  pub AreSubstitutions-label : AreSubstitutions (substitutions_of table label)
  AreSubstitutions-label = AreSubstitutions-from 0 (length label) (omega arith)

-- ---- what a label spells, as it computes

pub spelled-Spells : (table : TableValue) (label v : List ℕ) → IsWellFormed table.entries → Contains (spelled table label) v ↔ Spells table label v
spelled-Spells table label v formed =
    let listed = spelled_by-SubstitutionsSpell (substitutions_of table label) v (AreSubstitutions-label table label formed) in
    let same = SubstitutionsSpell-label table label formed v in
    (λ m. same.0 (listed.0 m), λ s. listed.1 (same.1 s))
