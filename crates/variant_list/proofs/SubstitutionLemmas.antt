-- What substitutions spell, and that the substitutions of a label spell what its segmentations spell.
use Rattle.std.proofs.Common.{◌≡◌, ℕ, zero, suc, ◌+◌, ◌-◌, ◌≤◌, List, [], ◌∷◌, ◌++◌, length, drop, refl, sym, ap, ◌∙◌, subst, inl, inr, ◌↔◌, arith, length-append}
use Rattle.std.specs.Prelude.{filter, map}
use Rattle.std.specs.List.{Contains}
use Rattle.std.proofs.lemmas.List.{length-drop}
use Rattle.label_patterns.specs.Conditions.{ConditionHolds}
use Rattle.variant_table.specs.Entries.{Entry, TableValue, Variant, itself}
use Rattle.variant_table.specs.Places.{entries_at}
use Rattle.variant_table.specs.WellFormed.{IsWellFormed}
use Rattle.variant_table.proofs.BeginningLemmas.{entries_are_at}
use Rattle.variant_table.specs.Segmentations.{seen_under}
use Rattle.variant_list.specs.Spelling.{Replaces, Spells}
use Rattle.variant_list.specs.inner.LabelSets.{SomeGives}
use Rattle.variant_list.specs.inner.Layouts.{SubstitutionSpells}
use Rattle.variant_list.specs.inner.Places.{SpellsFrom}
use Rattle.reading_kinds.specs.Readings.{Substitution, IsCut, points_of, SubstitutionsSpell}
use Rattle.variant_list.specs.Substitutions.{substitution_of, may_replace, substitutions_of_entry, substitutions_at, substitutions_from, substitutions_of}
use Rattle.variant_table.specs.Staying.{staying, may_stand}
use Rattle.variant_list.proofs.ListMembers.{Contains-filter}
use Rattle.variant_list.proofs.HeldLemmas.{held_by}
use Rattle.variant_list.proofs.SpellingLemmas.{FirstSegment, Spells-first, SpellsFrom-end, SpellsFrom-segment, SpellsFrom-cases, SpellsFrom-nothing, source_is_sequence}
use Rattle.variant_table.proofs.MemberLemmas.{Contains-head, Contains-later, Contains-cases}
use Rattle.variant_table.proofs.MemberLists.{Contains-map, Contains-flat_map}

-- where the label has no place, only the empty label is spelled
pub nothing_spelled : (cut : List Substitution) (v : List ℕ) → IsCut [] cut → points_of cut ≡ v → [] ≡ v
nothing_spelled [] v cuts e = e
nothing_spelled (u ∷ cut) v cuts e = absurd cuts

-- what is spelled begins with a substitution of the first place
pub SubstitutionsSpell-here : (here : List Substitution) (later : List (List Substitution)) → ((u : Substitution) → Contains here u → (1 ≤ u.covers) × (u.covers ≤ length later + 1)) → (v : List ℕ) → SomeGives (SubstitutionSpells later) here v ↔ SubstitutionsSpell (here ∷ later) v
SubstitutionsSpell-here here later fits v = (
  λ s. let u : Substitution = s.0 in
      let fit = fits u s.1 in
      let after = after_substitution u.covers fit.0 in (
        u ∷ s.2.2.0,
        (s.1, fit.1, subst (λ us. IsCut us s.2.2.0) (sym after) s.2.2.1),
        ap (λ w. u.points ++ w) s.2.2.2 ∙ sym s.2.1,
      ),
  λ s. by_cut s.0 s.1 s.2,
)
  where
    after_substitution : (k : ℕ) → 1 ≤ k → drop k (here ∷ later) ≡ drop (k - 1) later
    after_substitution zero l = absurd (omega (arith, l))
    after_substitution (suc k) l = let less : k ≡ suc k - 1 = omega arith in ap (λ n. drop n later) less

    by_cut : (cut : List Substitution) → IsCut (here ∷ later) cut → points_of cut ≡ v → SomeGives (SubstitutionSpells later) here v
    by_cut [] cuts e = absurd cuts
    by_cut (u ∷ cut) cuts e =
        let fit = fits u cuts.0 in
        (u, cuts.0, (points_of cut, sym e, (cut, subst (λ us. IsCut us cut) (after_substitution u.covers fit.0) cuts.2, refl)))

-- ---- the substitutions of a table

-- a substitution of the table at a place
pub record IsSubstitutionOf (table : TableValue) (label : List ℕ) (place : ℕ) (u : Substitution) : Type 0 where
  pub entry : Entry
  pub at : Contains (entries_at table.entries label place) entry
  pub held : ConditionHolds table.definitions.rules (seen_under table label) entry.condition place (place + length entry.source)
  pub replaces : Replaces table label place entry u.points
  pub covers : u.covers ≡ length entry.source

-- the substitutions from a later place on
pub drop-substitutions_from : (table : TableValue) (label : List ℕ) (k n place : ℕ) → k ≤ n → drop k (substitutions_from table label place n) ≡ substitutions_from table label (place + k) (n - k)
drop-substitutions_from table label zero zero place l = refl
drop-substitutions_from table label zero (suc n) place l =
    let from : place ≡ place + 0 = omega arith in
    let left : suc n ≡ suc n - 0 = omega arith in
    ap (λ p. substitutions_from table label p (suc n)) from ∙ ap (substitutions_from table label (place + 0)) left
drop-substitutions_from table label (suc k) zero place l = absurd (omega arith)
drop-substitutions_from table label (suc k) (suc n) place l =
    let from : suc place + k ≡ place + suc k = omega arith in
    let left : n - k ≡ suc n - suc k = omega arith in
    drop-substitutions_from table label k n (suc place) (omega arith) ∙ ap (λ p. substitutions_from table label p (n - k)) from ∙ ap (substitutions_from table label (place + suc k)) left

pub length-substitutions_from : (table : TableValue) (label : List ℕ) (n place : ℕ) → length (substitutions_from table label place n) ≡ n
length-substitutions_from table label zero place = refl
length-substitutions_from table label (suc n) place = ap suc (length-substitutions_from table label n (suc place))

-- the place of a source in a label
pub IsWithin-at : (table : TableValue) (label : List ℕ) (place : ℕ) (e : Entry) → IsWellFormed table.entries → Contains (entries_at table.entries label place) e
    → (1 ≤ length e.source) × (place + length e.source ≤ length label)
IsWithin-at table label place e formed at =
    let here = ((entries_are_at table.entries label place formed).members e).0 at in
    let some = source_is_sequence table.entries e formed.entries here.0 in (
      omega (arith, some),
      omega (arith, some, ap length here.1.1, length-append e.source here.1.0, length-drop place label),
    )

module _ (table : TableValue) (label : List ℕ) (formed : IsWellFormed table.entries) where
  -- what may replace the source of an entry at a place
  from-entry : (place : ℕ) (e : Entry) (u : Substitution) → place + length e.source ≤ length label
      → Contains (substitutions_of_entry table label place e) u → Replaces table label place e u.points × (u.covers ≡ length e.source)
  from-entry place e u within c = elim (Contains-cases (staying e) (map (substitution_of e) (filter (may_replace table label place e) e.variants)) u c) [
    | inl same ↦ (
      record { replacement = itself e; of_entry = Contains-head (itself e) e.variants; held = tt; is = ap (λ (x : Substitution). x.points) (sym same) },
      ap (λ (x : Substitution). x.covers) (sym same),
    )
    | inr later ↦ (let g = (Contains-map (substitution_of e) (filter (may_replace table label place e) e.variants) u).0 later in
        let v : Variant = g.0 in
        let m = (Contains-filter (may_replace table label place e) e.variants v).0 g.1 in (
          record { replacement = v; of_entry = Contains-later (itself e) e.variants v m.0; held = (held_by table label place e v.condition within).0 m.1; is = ap (λ (x : Substitution). x.points) g.2 },
          ap (λ (x : Substitution). x.covers) g.2,
        ))
  ]

  -- some substitution puts it there
  record IsGiven (place : ℕ) (e : Entry) (r : List ℕ) : Type 0 where
    given : Substitution
    among : Contains (substitutions_of_entry table label place e) given
    covers : given.covers ≡ length e.source
    points : given.points ≡ r

  to-entry : (place : ℕ) (e : Entry) (r : List ℕ) → place + length e.source ≤ length label → Replaces table label place e r → IsGiven place e r
  to-entry place e r within is = elim (Contains-cases (itself e) e.variants is.replacement is.of_entry) [
    | inl same ↦ record {
      given = staying e;
      among = Contains-head (staying e) (map (substitution_of e) (filter (may_replace table label place e) e.variants));
      covers = refl;
      points = ap (λ (v : Variant). v.sequence) same ∙ sym is.is;
    }
    | inr later ↦
        let v : Variant = is.replacement in
        let kept : List Variant = filter (may_replace table label place e) e.variants in
        let m : Contains kept v = (Contains-filter (may_replace table label place e) e.variants v).1 (later, (held_by table label place e v.condition within).1 is.held) in
        record {
          given = substitution_of e v;
          among = Contains-later (staying e) (map (substitution_of e) kept) (substitution_of e v) ((Contains-map (substitution_of e) kept (substitution_of e v)).1 (v, m, refl));
          covers = refl;
          points = sym is.is;
        }
  ]

  pub substitutions_at-IsSubstitutionOf : (place : ℕ) (u : Substitution) → Contains (substitutions_at table label place) u → IsSubstitutionOf table label place u
  substitutions_at-IsSubstitutionOf place u c =
      let here : List Entry = entries_at table.entries label place in
      let g = (Contains-flat_map (substitutions_of_entry table label place) (filter (may_stand table label place) here) u).0 c in
      let e : Entry = g.0 in
      let m = (Contains-filter (may_stand table label place) here e).0 g.1 in
      let within = IsWithin-at table label place e formed m.0 in
      let h = from-entry place e u within.1 g.2 in
      record { entry = e; at = m.0; held = (held_by table label place e e.condition within.1).0 m.1; replaces = h.0; covers = h.1 }

  at-entry : (place : ℕ) (e : Entry) (r : List ℕ) → Contains (entries_at table.entries label place) e → ConditionHolds table.definitions.rules (seen_under table label) e.condition place (place + length e.source)
      → Replaces table label place e r → (given : IsGiven place e r) × Contains (substitutions_at table label place) given.given
  at-entry place e r at held is =
      let here : List Entry = entries_at table.entries label place in
      let within = IsWithin-at table label place e formed at in
      let given = to-entry place e r within.1 is in (
        given,
        (Contains-flat_map (substitutions_of_entry table label place) (filter (may_stand table label place) here) given.given).1
            (e, (Contains-filter (may_stand table label place) here e).1 (at, (held_by table label place e e.condition within.1).1 held), given.among),
      )

  -- a substitution of the table ends within the label
  pub IsSubstitutionOf-fits : (place : ℕ) (u : Substitution) → IsSubstitutionOf table label place u → (1 ≤ u.covers) × (place + u.covers ≤ length label)
  IsSubstitutionOf-fits place u is =
      let within = IsWithin-at table label place is.entry formed is.at in
      (omega (arith, within.0, is.covers), omega (arith, within.1, is.covers))

  from_within : (bound place n : ℕ) (v : List ℕ) → n ≤ bound → place + n ≡ length label → SubstitutionsSpell (substitutions_from table label place n) v ↔ SpellsFrom table label place v
  from_within bound place zero v few whole =
      let over : length label ≤ place = omega (arith, whole) in (
        λ s. subst (SpellsFrom table label place) (nothing_spelled s.0 v s.1 s.2) (SpellsFrom-end table label place over),
        λ s. ([], tt, sym (SpellsFrom-nothing table label place v formed.entries over s)),
      )
  from_within zero place (suc n) v few whole = absurd (omega (arith, few))
  from_within (suc bound) place (suc n) v few whole =
      let here : List Substitution = substitutions_at table label place in
      let later : List (List Substitution) = substitutions_from table label (suc place) n in
      let count : length later ≡ n = length-substitutions_from table label n (suc place) in
      let fits : (u : Substitution) → Contains here u → (1 ≤ u.covers) × (u.covers ≤ length later + 1) = λ (u : Substitution) m.
      (let fit = IsSubstitutionOf-fits place u (substitutions_at-IsSubstitutionOf place u m) in (fit.0, omega (arith, fit.1, whole, count))) in
      let first = SubstitutionsSpell-here here later fits v in
      let rest : (u : Substitution) (w : List ℕ) → Contains here u → SubstitutionsSpell (drop (u.covers - 1) later) w ↔ SpellsFrom table label (place + u.covers) w = λ (u : Substitution) (w : List ℕ) m.
      (let fit = fits u m in
      let less : u.covers - 1 ≤ n = omega (arith, fit.1, count) in
      let from : suc place + (u.covers - 1) ≡ place + u.covers = omega (arith, fit.0) in
      let dropped : drop (u.covers - 1) later ≡ substitutions_from table label (place + u.covers) (n - (u.covers - 1)) =
      drop-substitutions_from table label (u.covers - 1) n (suc place) less ∙ ap (λ p. substitutions_from table label p (n - (u.covers - 1))) from in
      subst (λ us. SubstitutionsSpell us w ↔ SpellsFrom table label (place + u.covers) w) (sym dropped)
      (from_within bound (place + u.covers) (n - (u.covers - 1)) w (omega (arith, few)) (omega (arith, whole, fit.0, fit.1, count)))) in (
        λ s. (let g : SomeGives (SubstitutionSpells later) here v = first.1 s in
            let u : Substitution = g.0 in
            let w : List ℕ = g.2.0 in
            let is = substitutions_at-IsSubstitutionOf place u g.1 in
            let stands = ((entries_are_at table.entries label place formed).members is.entry).0 is.at in
            let goes_on : SpellsFrom table label (place + length is.entry.source) w = subst (λ k. SpellsFrom table label (place + k) w) is.covers ((rest u w g.1).0 g.2.2) in
            subst (SpellsFrom table label place) (sym g.2.1) (SpellsFrom-segment table label place is.entry u.points w stands.0 is.held stands.1 is.replaces goes_on)),
        λ s. elim (SpellsFrom-cases table label place v s) [
          | inl none ↦ absurd (omega (arith, whole, ap length none.0, length-drop place label))
          | inr p ↦ first.0 (taken_up p (λ (u : Substitution) m. rest u p.rest m))
        ],
      )
    where
      taken_up : (p : FirstSegment table label place v) → ((u : Substitution) → Contains (substitutions_at table label place) u
          → SubstitutionsSpell (drop (u.covers - 1) (substitutions_from table label (suc place) n)) p.rest ↔ SpellsFrom table label (place + u.covers) p.rest)
          → SomeGives (SubstitutionSpells (substitutions_from table label (suc place) n)) (substitutions_at table label place) v
      taken_up p rest =
          let there : Contains (entries_at table.entries label place) p.entry = ((entries_are_at table.entries label place formed).members p.entry).1 (p.in_table, p.begins) in
          let at = at-entry place p.entry p.replacement there p.held p.replaces in
          let u : Substitution = at.0.given in
          let goes_on : SpellsFrom table label (place + u.covers) p.rest = subst (λ k. SpellsFrom table label (place + k) p.rest) (sym at.0.covers) p.goes_on in
          (u, at.1, (p.rest, p.joined ∙ ap (λ s. s ++ p.rest) (sym at.0.points), (rest u at.1).1 goes_on))

  -- from each place on, the substitutions spell what the label spells
  pub SubstitutionsSpell-from : (place n : ℕ) (v : List ℕ) → place + n ≡ length label → SubstitutionsSpell (substitutions_from table label place n) v ↔ SpellsFrom table label place v
  SubstitutionsSpell-from place n v whole = from_within n place n v (omega arith) whole

  pub SubstitutionsSpell-label : (v : List ℕ) → SubstitutionsSpell (substitutions_of table label) v ↔ Spells table label v
  SubstitutionsSpell-label v =
      let first = SubstitutionsSpell-from 0 (length label) v (omega arith) in
      let whole = Spells-first table label v in
      (λ s. whole.0 (first.0 s), λ s. first.1 (whole.1 s))
