-- What goes together with the parts of a label, as substitutions: they spell the labels that are near it.
use Rattle.std.proofs.Common.{◌≡◌, ◌⊎◌, ◌↔◌, inl, inr, ℕ, zero, suc, ◌+◌, ◌-◌, ◌*◌, ◌≤◌, ◌<◌, Bool, true, false, List, [], ◌∷◌, ◌++◌, length, take, drop, Option, Some, None, refl, sym, ap, ◌∙◌, subst, arith, length-append, get_or}
use Rattle.std.specs.Prelude.{min}
use Rattle.std.specs.List.{Contains, flat_map}
use Rattle.std.proofs.lemmas.List.{length-drop, length-take-le, drop_all, length-map}
use Rattle.std.proofs.lemmas.List.Sums.{sum_by-le}
use Rattle.std.proofs.lemmas.List.Elements.{All-contains, Contains-append_left, Contains-append_right, Contains-append_cases, Contains-get_or}
use Rattle.std.proofs.lemmas.List.{take-append-drop}
use Rattle.std.proofs.Common.{drop-drop}
use Rattle.std.proofs.Math.Seq.{drop-append_seam, take-append_seam}
use Rattle.variant_table.specs.Entries.{Entry, TableValue, Variant, replacements, sequences_in}
use Rattle.variant_table.specs.Gaps.{IsPair, has_variant}
use Rattle.variant_table.specs.Places.{AreEntriesAt, entries_at, entry_with}
use Rattle.variant_table.specs.WellFormed.{IsEntry, IsSequence, IsWellFormed}
use Rattle.variant_table.proofs.BeginningLemmas.{entries_are_at, entry_with-found, entry_with-of, same_entry}
use Rattle.variant_table.proofs.GapLemmas.{any-cases, any-member}
use Rattle.variant_table.proofs.MemberLemmas.{Contains-head, Contains-later, Contains-none, Contains-cases}
use Rattle.variant_table.proofs.MemberLists.{Contains-map, Contains-flat_map}
use Rattle.reading_kinds.specs.Readings.{Substitution, IsCut, IsSubstitution, AreSubstitutions, SubstitutionsSpell, points_of}
use Rattle.variant_list.specs.Closure.{GoTogether, PairUp, AreNear}
use Rattle.variant_list.specs.Reversed.{Group, IsReversed, AreReversedOf, AreFew, sources_of}
use Rattle.variant_list.specs.inner.NearSubstitutions.{put_for, near_source, near_variant, near_variants, near_at, near_from}
use Rattle.std.specs.List.{AllByRecursion}
use Rattle.std.proofs.lemmas.List.Elements.{recursion_from_All, All-from_recursion}
use Rattle.idn_text.specs.Points.{IsScalarValue, AreScalarValues}
use Rattle.variant_list.proofs.SpellingLemmas.{append_scalar}
use Rattle.variant_list.proofs.RowBits.{same_or_not}
use Rattle.variant_list.proofs.SpelledByLemmas.{length-of_flat_map}

-- a part of the label that begins at the place goes together with what is put there
pub record IsNearAt (table : TableValue) (label : List ℕ) (place : ℕ) (u : Substitution) : Type 0 where
  pub part : List ℕ
  pub together : GoTogether table part u.points
  pub rest : List ℕ
  pub begins : drop place label ≡ part ++ rest
  pub covers : u.covers ≡ length part
  pub plain : u.kinds ≡ 0

abbrev near : ℕ → List ℕ → Substitution
near n s = record { covers = n; kinds = 0; points = s }

near_is : (u : Substitution) (n : ℕ) (s : List ℕ) → u.covers ≡ n → u.kinds ≡ 0 → u.points ≡ s → u ≡ near n s
near_is u n s e f g = ap (λ x. with_parts x u.kinds u.points) e ∙ ap (λ x. with_parts n x u.points) f ∙ ap (λ x. with_parts n 0 x) g
  where
    with_parts : ℕ → ℕ → List ℕ → Substitution
    with_parts x y z = record { covers = x; kinds = y; points = z }

pub Contains-put_for : (n : ℕ) (sequences : List (List ℕ)) (u : Substitution) → Contains (put_for n sequences) u ↔ (Contains sequences u.points × (u.covers ≡ n) × (u.kinds ≡ 0))
Contains-put_for n sequences u = (
  λ c. (let g = (Contains-map (near n) sequences u).0 c in
      (subst (Contains sequences) (sym (ap (λ (x : Substitution). x.points) g.2)) g.1, ap (λ (x : Substitution). x.covers) g.2, ap (λ (x : Substitution). x.kinds) g.2)),
  λ g. (Contains-map (near n) sequences u).1 (u.points, g.0, near_is u n u.points g.1 g.2 refl),
)

-- the variants of some number of code points
Contains-near_variants : (groups : List Group) (label : List ℕ) (place n : ℕ) (u : Substitution) → Contains (near_variants groups label place n) u ↔ ((k : ℕ) × (1 ≤ k) × (k ≤ n) × Contains (near_variant groups label place k) u)
Contains-near_variants groups label place zero u = (λ c. absurd (Contains-none u c), λ g. absurd (omega (arith, g.1, g.2)))
Contains-near_variants groups label place (suc n) u = step (Contains-near_variants groups label place n u)
  where
    step : (Contains (near_variants groups label place n) u ↔ ((k : ℕ) × (1 ≤ k) × (k ≤ n) × Contains (near_variant groups label place k) u))
        → Contains (near_variants groups label place (suc n)) u ↔ ((k : ℕ) × (1 ≤ k) × (k ≤ suc n) × Contains (near_variant groups label place k) u)
    step before = (
      λ c. elim (Contains-append_cases (near_variants groups label place n) (near_variant groups label place (suc n)) u c) [
        | inl m ↦ (let g = before.0 m in (g.0, g.1, omega (arith, g.2), g.3))
        | inr m ↦ (suc n, omega arith, omega arith, m)
      ],
      λ g. elim (same_or_not g.0 (suc n)) [
        | inl same ↦ Contains-append_right (near_variants groups label place n) (near_variant groups label place (suc n)) u (subst (λ k. Contains (near_variant groups label place k) u) same g.3)
        | inr other ↦ Contains-append_left (near_variants groups label place n) (near_variant groups label place (suc n)) u (before.1 (g.0, g.1, omega (arith, g.2, other), g.3))
      ],
    )

module _ (table : TableValue) (formed : IsWellFormed table.entries) where
  -- both are sequences
  pub GoTogether-sequences : (a b : List ℕ) → GoTogether table a b → IsSequence a × IsSequence b
  GoTogether-sequences a b g =
      let e : Entry = g.0 in
      let is : IsEntry e = All-contains IsEntry table.entries e formed.entries g.1 in
      let one : (s : List ℕ) → Contains (replacements e) s → IsSequence s = λ (s : List ℕ) c. All-contains IsSequence (replacements e) s is.sequences c in
      let source : IsSequence e.source = one e.source (Contains-head e.source (sequences_in e.variants)) in
      elim g.2 [
        | inl l ↦ (subst IsSequence l.0 source, one b l.1)
        | inr r ↦ (one a r.1, subst IsSequence r.0 source)
      ]

  -- ---- near labels are of scalar values

  pairs_scalar : (parts others : List (List ℕ)) → PairUp table parts others → AllByRecursion IsScalarValue (flat_map (λ b. b) others)
  pairs_scalar [] [] pairs = tt
  pairs_scalar [] (b ∷ others) pairs = absurd pairs
  pairs_scalar (a ∷ parts) [] pairs = absurd pairs
  pairs_scalar (a ∷ parts) (b ∷ others) pairs =
      let is : IsSequence b = (GoTogether-sequences a b pairs.0).1 in
      append_scalar b (flat_map (λ x. x) others) (recursion_from_All IsScalarValue b (λ k d l. (is.points k d l).scalar_value)) (pairs_scalar parts others pairs.1)

  pub AreNear-scalar : (label w : List ℕ) → AreNear table label w → AreScalarValues w
  AreNear-scalar label w n = subst AreScalarValues n.4 (All-from_recursion IsScalarValue (flat_map (λ b. b) n.1) (pairs_scalar n.0 n.1 n.2))

module _ (table : TableValue) (groups : List Group) (formed : IsWellFormed table.entries) (reversed : AreReversedOf table.entries groups) where
  -- a pair is one of the table or not
  pair_or_not : (a b : List ℕ) → IsPair table.entries a b ⊎ (¬ IsPair table.entries a b)
  pair_or_not a b = by_entry (entry_with table.entries a) refl
    where
      by_test : (e : Entry) → Contains table.entries e → e.source ≡ a → (t : Bool) → has_variant e b ≡ t → IsPair table.entries a b ⊎ (¬ IsPair table.entries a b)
      by_test e there is true told = inl (e, there, is, any-cases b (sequences_in e.variants) told)
      by_test e there is false told = inr (λ p. (
          let same : p.0 ≡ e = same_entry table.entries p.0 e formed.sources p.1 there (p.2 ∙ sym is) in
          let has : has_variant e b ≡ true = any-member b (sequences_in e.variants) (subst (λ (x : Entry). Contains (sequences_in x.variants) b) same p.3) in
          let clash : true ≡ false = sym has ∙ told in
          cc))

      by_entry : (o : Option Entry) → entry_with table.entries a ≡ o → IsPair table.entries a b ⊎ (¬ IsPair table.entries a b)
      by_entry None is = inr (λ p. (let found = entry_with-of table.entries a p.0 formed.sources p.1 p.2 in let clash : None ≡ Some p.0 = sym is ∙ found in cc))
      by_entry (Some e) is = let found = entry_with-found table.entries a e is in by_test e found.0 found.1 (has_variant e b) refl

  module _ (label : List ℕ) (place : ℕ) where
    part_length : (a rest : List ℕ) → drop place label ≡ a ++ rest → length a ≤ length label - place
    part_length a rest e = omega (arith, ap length e, length-append a rest, length-drop place label)

    -- what the entry of a part has
    by_source : (e : Entry) (u : Substitution) (rest : List ℕ) → Contains table.entries e → drop place label ≡ e.source ++ rest → Contains (replacements e) u.points → u.covers ≡ length e.source → u.kinds ≡ 0 → Contains (near_at table groups label place) u
    by_source e u rest there begins c covers plain =
        let at : Contains (entries_at table.entries label place) e = ((entries_are_at table.entries label place formed).members e).1 (there, (rest, begins)) in
        Contains-append_left (flat_map near_source (entries_at table.entries label place)) (near_variants groups label place (min (length label - place) 8)) u
        ((Contains-flat_map near_source (entries_at table.entries label place) u).1 (e, at, (Contains-put_for (length e.source) (replacements e) u).1 (c, covers, plain)))

    -- what has a part as a variant
    by_variant : (a rest : List ℕ) (u : Substitution) → IsSequence a → drop place label ≡ a ++ rest → IsReversed table.entries a u.points → u.covers ≡ length a → u.kinds ≡ 0 → Contains (near_at table groups label place) u
    by_variant a rest u is begins turned covers plain =
        let k : ℕ = length a in
        let taken : take k (drop place label) ≡ a = ap (take k) begins ∙ take-append_seam a rest in
        let has : Contains (sources_of groups (take k (drop place label))) u.points = subst (λ s. Contains (sources_of groups s) u.points) (sym taken) ((reversed a u.points).1 turned) in
        Contains-append_right (flat_map near_source (entries_at table.entries label place)) (near_variants groups label place (min (length label - place) 8)) u
        ((Contains-near_variants groups label place (min (length label - place) 8) u).1
        (k, is.filled, omega (arith, part_length a rest begins, is.short), (Contains-put_for k (sources_of groups (take k (drop place label))) u).1 (has, covers, plain)))

    pub near_at-IsNearAt : (u : Substitution) → Contains (near_at table groups label place) u ↔ IsNearAt table label place u
    near_at-IsNearAt u = (
      λ c. elim (Contains-append_cases (flat_map near_source (entries_at table.entries label place)) (near_variants groups label place (min (length label - place) 8)) u c) [
        | inl m ↦
            let g = (Contains-flat_map near_source (entries_at table.entries label place) u).0 m in
            let e : Entry = g.0 in
            let here = ((entries_are_at table.entries label place formed).members e).0 g.1 in
            let p = (Contains-put_for (length e.source) (replacements e) u).0 g.2 in
            record { part = e.source; together = (e, here.0, inl (refl, p.0)); rest = here.1.0; begins = here.1.1; covers = p.1; plain = p.2 }
        | inr m ↦
            let g = (Contains-near_variants groups label place (min (length label - place) 8) u).0 m in
            let a : List ℕ = take g.0 (drop place label) in
            let p = (Contains-put_for g.0 (sources_of groups a) u).0 g.3 in
            let turned : IsReversed table.entries a u.points = (reversed a u.points).0 p.0 in
            let pair = turned.pair in
            let counted : length a ≡ g.0 = length-take-le g.0 (drop place label) (omega (arith, g.2, length-drop place label)) in
            record {
              part = a;
              together = (pair.0, pair.1, inr (pair.2, Contains-later pair.0.source (sequences_in pair.0.variants) a pair.3));
              rest = drop g.0 (drop place label);
              begins = sym (take-append-drop g.0 (drop place label));
              covers = p.1 ∙ sym counted;
              plain = p.2;
            }
      ],
      λ n.
          let a : List ℕ = n.part in
          let e : Entry = n.together.0 in
          let there = n.together.1 in
          elim n.together.2 [
            | inl l ↦ by_source e u n.rest there (n.begins ∙ ap (λ s. s ++ n.rest) (sym l.0)) l.1 (n.covers ∙ ap length (sym l.0)) n.plain
            | inr r ↦ elim (Contains-cases e.source (sequences_in e.variants) a r.1) [
              | inl same ↦
                  let itself : Contains (replacements e) u.points = subst (Contains (replacements e)) r.0 (Contains-head e.source (sequences_in e.variants)) in
                  by_source e u n.rest there (n.begins ∙ ap (λ s. s ++ n.rest) (sym same)) itself (n.covers ∙ ap length (sym same)) n.plain
              | inr variant ↦ elim (pair_or_not a u.points) [
                | inl p ↦ by_source p.0 u n.rest p.1 (n.begins ∙ ap (λ s. s ++ n.rest) (sym p.2)) (Contains-later p.0.source (sequences_in p.0.variants) u.points p.3) (n.covers ∙ ap length (sym p.2)) n.plain
                | inr none ↦ by_variant a n.rest u (GoTogether-sequences table formed a u.points n.together).0 n.begins (record { pair = (e, there, r.0, variant); lacking = none }) n.covers n.plain
              ]
            ]
          ],
    )

  -- ---- the substitutions of all places

  pub length-near_from : (label : List ℕ) (place n : ℕ) → length (near_from table groups label place n) ≡ n
  length-near_from label place zero = refl
  length-near_from label place (suc n) = ap suc (length-near_from label (suc place) n)

  drop-near_from : (label : List ℕ) (k n place : ℕ) → k ≤ n → drop k (near_from table groups label place n) ≡ near_from table groups label (place + k) (n - k)
  drop-near_from label zero zero place l = refl
  drop-near_from label zero (suc n) place l =
      let from : place ≡ place + 0 = omega arith in
      let left : suc n ≡ suc n - 0 = omega arith in
      ap (λ p. near_from table groups label p (suc n)) from ∙ ap (near_from table groups label (place + 0)) left
  drop-near_from label (suc k) zero place l = absurd (omega arith)
  drop-near_from label (suc k) (suc n) place l =
      let from : suc place + k ≡ place + suc k = omega arith in
      let left : n - k ≡ suc n - suc k = omega arith in
      drop-near_from label k n (suc place) (omega arith) ∙ ap (λ p. near_from table groups label p (n - k)) from ∙ ap (near_from table groups label (place + suc k)) left

  module _ (label : List ℕ) where
    -- what follows a part
    after_part : (place : ℕ) (a rest : List ℕ) → drop place label ≡ a ++ rest → drop (place + length a) label ≡ rest
    after_part place a rest e = drop-twice ∙ ap (drop (length a)) e ∙ drop-append_seam a rest
      where
        drop-twice : drop (place + length a) label ≡ drop (length a) (drop place label)
        drop-twice = sym (drop-drop (length a) place label)

    near_of_cut : (cut : List Substitution) (place n : ℕ) → place + n ≡ length label → IsCut (near_from table groups label place n) cut
        → (parts : List (List ℕ)) × (others : List (List ℕ)) × PairUp table parts others × (flat_map (λ a. a) parts ≡ drop place label) × (flat_map (λ b. b) others ≡ points_of cut)
    near_of_cut [] place zero whole cuts = ([], [], tt, sym (drop_all place label (omega (arith, whole))), refl)
    near_of_cut [] place (suc n) whole cuts = absurd cuts
    near_of_cut (u ∷ cut) place zero whole cuts = absurd cuts
    near_of_cut (u ∷ cut) place (suc n) whole cuts =
        let is = (near_at-IsNearAt label place u).0 cuts.0 in
        let few : u.covers ≤ suc n = omega (arith, cuts.1, length-near_from label (suc place) n) in
        let later = near_of_cut cut (place + u.covers) (suc n - u.covers) (omega (arith, whole, few)) (subst (λ us. IsCut us cut) (drop-near_from label u.covers (suc n) place few) cuts.2) in
        let after : drop (place + u.covers) label ≡ is.rest = ap (λ k. drop (place + k) label) is.covers ∙ after_part place is.part is.rest is.begins in
        (is.part ∷ later.0, u.points ∷ later.1, (is.together, later.2), ap (λ w. is.part ++ w) (later.3 ∙ after) ∙ sym is.begins, ap (λ w. u.points ++ w) later.4)

    cut_of_near : (parts others : List (List ℕ)) (place n : ℕ) → PairUp table parts others → place + n ≡ length label → flat_map (λ a. a) parts ≡ drop place label
        → (cut : List Substitution) × IsCut (near_from table groups label place n) cut × (points_of cut ≡ flat_map (λ b. b) others)
    cut_of_near [] [] place zero pairs whole joined = ([], tt, refl)
    cut_of_near [] [] place (suc n) pairs whole joined = absurd (omega (arith, whole, ap length joined, length-drop place label))
    cut_of_near [] (b ∷ others) place n pairs whole joined = absurd pairs
    cut_of_near (a ∷ parts) [] place n pairs whole joined = absurd pairs
    cut_of_near (a ∷ parts) (b ∷ others) place zero pairs whole joined =
        let some = (GoTogether-sequences table formed a b pairs.0).0.filled in
        absurd (omega (arith, whole, some, ap length joined, length-append a (flat_map (λ x. x) parts), length-drop place label))
    cut_of_near (a ∷ parts) (b ∷ others) place (suc n) pairs whole joined =
        let u : Substitution = near (length a) b in
        let some = (GoTogether-sequences table formed a b pairs.0).0.filled in
        let few : length a ≤ suc n = omega (arith, whole, ap length joined, length-append a (flat_map (λ x. x) parts), length-drop place label) in
        let here : Contains (near_at table groups label place) u = (near_at-IsNearAt label place u).1 (record { part = a; together = pairs.0; rest = flat_map (λ x. x) parts; begins = sym joined; covers = refl; plain = refl }) in
        let later = cut_of_near parts others (place + length a) (suc n - length a) pairs.1 (omega (arith, whole, few)) (sym (after_part place a (flat_map (λ x. x) parts) (sym joined))) in
        (u ∷ later.0, (here, omega (arith, few, length-near_from label (suc place) n), subst (λ us. IsCut us later.0) (sym (drop-near_from label (length a) (suc n) place few)) later.1), ap (λ w. b ++ w) later.2)

    pub SubstitutionsSpell-near : (w : List ℕ) → SubstitutionsSpell (near_from table groups label 0 (length label)) w ↔ AreNear table label w
    SubstitutionsSpell-near w = (
      λ s. (let g = near_of_cut s.0 0 (length label) (omega arith) s.1 in (g.0, g.1, g.2, g.3, g.4 ∙ s.2)),
      λ n. (let g = cut_of_near n.0 n.1 0 (length label) n.2 (omega arith) n.3 in (g.0, g.1, g.2 ∙ n.4)),
    )

    -- ---- they are few

    module _ (few : AreFew groups) where
      few_variants : (place n : ℕ) → length (near_variants groups label place n) ≤ 64 * n
      few_variants place zero = omega arith
      few_variants place (suc n) =
          let here = few (take (suc n) (drop place label)) in
          omega (arith, few_variants place n, here, length-append (near_variants groups label place n) (near_variant groups label place (suc n)), length-map (sources_of groups (take (suc n) (drop place label))) (near (suc n)))

      few_sources : (place : ℕ) → length (flat_map near_source (entries_at table.entries label place)) ≤ 136
      few_sources place =
          let all : List Entry = entries_at table.entries label place in
          let at : AreEntriesAt table.entries label place all = entries_are_at table.entries label place formed in
          let each : (k : ℕ) (d : Entry) → k < length all → length (near_source (get_or all k d)) ≤ 17 = λ (k : ℕ) (d : Entry) l.
          (let e : Entry = get_or all k d in
          let is : IsEntry e = All-contains IsEntry table.entries e formed.entries ((at.members e).0 (Contains-get_or all k d l)).0 in
          omega (arith, length-map (replacements e) (near (length e.source)), length-map e.variants (λ (v : Variant). v.sequence), is.few)) in
          omega (arith, sum_by-le (λ (e : Entry). length (near_source e)) 17 all each, length-of_flat_map near_source (λ (e : Entry). length (near_source e)) (λ (e : Entry). refl) all, at.few)

      few_at : (place : ℕ) → length (near_at table groups label place) ≤ 648
      few_at place = omega (
        arith,
        few_sources place,
        few_variants place (min (length label - place) 8),
        length-append (flat_map near_source (entries_at table.entries label place)) (near_variants groups label place (min (length label - place) 8)),
      )

      is_substitution : (place n : ℕ) (u : Substitution) → place + suc n ≡ length label → Contains (near_at table groups label place) u → IsSubstitution (length (near_from table groups label (suc place) n) + 1) u
      is_substitution place n u whole m =
          let is = (near_at-IsNearAt label place u).0 m in
          let both = GoTogether-sequences table formed is.part u.points is.together in
          let within = part_length label place is.part is.rest is.begins in
          record {
            some = omega (arith, is.covers, both.0.filled);
            within = omega (arith, is.covers, within, whole, length-near_from label (suc place) n);
            filled = both.1.filled;
            short = both.1.short;
          }

      are_from : (place n : ℕ) → place + n ≡ length label → AreSubstitutions (near_from table groups label place n)
      are_from place zero whole = tt
      are_from place (suc n) whole = (
        λ k d l. is_substitution place n (get_or (near_at table groups label place) k d) whole (Contains-get_or (near_at table groups label place) k d l),
        few_at place,
        are_from (suc place) n (omega (arith, whole)),
      )

      pub AreSubstitutions-near : AreSubstitutions (near_from table groups label 0 (length label))
      AreSubstitutions-near = are_from 0 (length label) (omega arith)
