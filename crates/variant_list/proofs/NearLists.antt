-- The labels that are near a label, as a list that computes.
use Rattle.std.proofs.Common.{◌≡◌, ◌⊎◌, ◌↔◌, inl, inr, ℕ, zero, suc, ◌≤◌, Bool, true, false, if◌then◌else◌, List, [], ◌∷◌, ◌++◌, length, map, refl, sym, ap, ◌∙◌, subst, arith, length-append}
use Rattle.std.specs.Prelude.{bytes_eq}
use Rattle.std.specs.List.{Contains, flat_map, list_any}
use Rattle.std.proofs.lemmas.List.Elements.{Contains-append_left, Contains-append_right, Contains-append_cases}
use Rattle.std.proofs.lemmas.Slice.Eq.{bytes_eq-Decides}
use Rattle.variant_table.specs.Entries.{Entry, TableValue, replacements}
use Rattle.variant_table.specs.WellFormed.{IsWellFormed}
use Rattle.variant_table.proofs.MemberLemmas.{Contains-head, Contains-later, Contains-none, Contains-cases}
use Rattle.variant_table.proofs.MemberLists.{Contains-map, Contains-flat_map}
use Rattle.variant_list.specs.Closure.{GoTogether, PairUp, AreNear, partners_in, partners, splits, joined_each, near_within, near}
use Rattle.variant_list.proofs.MutualLemmas.{has_variant-from, has_variant-is}
use Rattle.variant_list.proofs.NearLemmas.{GoTogether-sequences}

-- ---- what goes together

member_if : (test : Bool) (xs : List (List ℕ)) (b : List ℕ) → Contains (if test then xs else []) b ↔ ((test ≡ true) × Contains xs b)
member_if true xs b = (λ m. (refl, m), λ p. p.1)
member_if false xs b = (λ m. absurd (Contains-none b m), λ p. absurd (let clash : false ≡ true = p.0 in cc))

partners_in-together : (a b : List ℕ) (e : Entry) → Contains (partners_in a e) b ↔ (((e.source ≡ a) × Contains (replacements e) b) ⊎ ((e.source ≡ b) × Contains (replacements e) a))
partners_in-together a b e =
    let first : List (List ℕ) = if bytes_eq e.source a then replacements e else [] in
    let second : List (List ℕ) = if list_any (bytes_eq a) (replacements e) then e.source ∷ [] else [] in
    let as_source = member_if (bytes_eq e.source a) (replacements e) b in
    let as_variant = member_if (list_any (bytes_eq a) (replacements e)) (e.source ∷ []) b in
    let same = bytes_eq-Decides e.source a in (
      λ m. elim (Contains-append_cases first second b m) [
        | inl l ↦ (let p = as_source.0 l in inl (same.0 p.0, p.1))
        | inr r ↦ (let p = as_variant.0 r in inr (elim (Contains-cases e.source [] b p.1) [ inl is ↦ is | inr none ↦ absurd (Contains-none b none) ], has_variant-is (replacements e) a p.0))
      ],
      λ g. elim g [
        | inl l ↦ Contains-append_left first second b (as_source.1 (same.1 l.0, l.1))
        | inr r ↦ Contains-append_right first second b (as_variant.1 (has_variant-from (replacements e) a r.1, subst (λ s. Contains (e.source ∷ []) s) r.0 (Contains-head e.source [])))
      ],
    )

partners-together : (table : TableValue) (a b : List ℕ) → Contains (partners table a) b ↔ GoTogether table a b
partners-together table a b =
    let all = Contains-flat_map (partners_in a) table.entries b in (
      λ m. (let p = all.0 m in (p.0, p.1, (partners_in-together a b p.0).0 p.2)),
      λ g. all.1 (g.0, g.1, (partners_in-together a b g.0).1 g.2),
    )

-- ---- cuts into a first part and a rest

-- a part that isn't empty, and the rest after it
pub record IsSplit (label : List ℕ) (s : List ℕ × List ℕ) : Type 0 where
  pub joined : s.0 ++ s.1 ≡ label
  pub some : 1 ≤ length s.0

split-is : (label : List ℕ) (s : List ℕ × List ℕ) → Contains (splits label) s → IsSplit label s
split-is [] s m = absurd (Contains-none s m)
split-is (c ∷ label) s m = elim (Contains-cases (c ∷ [], label) (map (λ (t : List ℕ × List ℕ). (c ∷ t.0, t.1)) (splits label)) s m) [
  | inl is ↦ subst (IsSplit (c ∷ label)) is (record { joined = refl; some = omega arith })
  | inr later ↦ (
      let p = (Contains-map (λ (t : List ℕ × List ℕ). (c ∷ t.0, t.1)) (splits label) s).0 later in
      let inner = split-is label p.0 p.1 in
      subst (IsSplit (c ∷ label)) (sym p.2) (record { joined = ap (λ l. c ∷ l) inner.joined; some = omega arith }))
]

split-of : (a rest label : List ℕ) → 1 ≤ length a → a ++ rest ≡ label → Contains (splits label) (a, rest)
split-of [] rest label some joined = absurd (omega (arith, some))
split-of (c ∷ []) rest [] some joined = let clash : c ∷ rest ≡ [] = joined in cc
split-of (c ∷ []) rest (d ∷ label) some joined =
    let point : c ≡ d = cc in
    let same : rest ≡ label = cc in
    subst (λ (s : List ℕ × List ℕ). Contains (splits (d ∷ label)) s) (ap (λ l. (d ∷ [], l)) (sym same) ∙ ap (λ p. (p ∷ [], rest)) (sym point)) (Contains-head (d ∷ [], label) _)
split-of (c ∷ (b ∷ a)) rest [] some joined = let clash : c ∷ ((b ∷ a) ++ rest) ≡ [] = joined in cc
split-of (c ∷ (b ∷ a)) rest (d ∷ label) some joined =
    let point : c ≡ d = cc in
    let same : (b ∷ a) ++ rest ≡ label = cc in
    let inner = split-of (b ∷ a) rest label (omega arith) same in
    Contains-later (d ∷ [], label) _ (c ∷ (b ∷ a), rest)
    ((Contains-map (λ (t : List ℕ × List ℕ). (d ∷ t.0, t.1)) (splits label) (c ∷ (b ∷ a), rest)).1 ((b ∷ a, rest), inner, ap (λ p. (p ∷ (b ∷ a), rest)) point))

-- ---- near labels

joined_each-is : (parts rests : List (List ℕ)) (w : List ℕ) → Contains (joined_each parts rests) w ↔ ((b : List ℕ) × (v : List ℕ) × Contains parts b × Contains rests v × (b ++ v ≡ w))
joined_each-is parts rests w =
    let all = Contains-flat_map (λ b. map (λ v. b ++ v) rests) parts w in (
      λ m. (let p = all.0 m in let q = (Contains-map (λ v. p.0 ++ v) rests w).0 p.2 in (p.0, q.0, p.1, q.1, sym q.2)),
      λ g. all.1 (g.0, g.2, (Contains-map (λ v. g.0 ++ v) rests w).1 (g.1, g.3, sym g.4)),
    )

module _ (table : TableValue) where
  near_within-near : (n : ℕ) (label w : List ℕ) → Contains (near_within table n label) w → AreNear table label w
  near_within-near n [] w m = elim (Contains-cases [] [] w m) [
    | inl is ↦ ([], [], tt, refl, is)
    | inr none ↦ absurd (Contains-none w none)
  ]
  near_within-near zero (c ∷ label) w m = absurd (Contains-none w m)
  near_within-near (suc n) (c ∷ label) w m =
      let p = (Contains-flat_map (λ s. joined_each (partners table s.0) (near_within table n s.1)) (splits (c ∷ label)) w).0 m in
      let s : List ℕ × List ℕ = p.0 in
      let q = (joined_each-is (partners table s.0) (near_within table n s.1) w).0 p.2 in
      let split = split-is (c ∷ label) s p.1 in
      let rest = near_within-near n s.1 q.1 q.3 in (
        s.0 ∷ rest.0,
        q.0 ∷ rest.1,
        ((partners-together table s.0 q.0).0 q.2, rest.2),
        ap (λ l. s.0 ++ l) rest.3 ∙ split.joined,
        ap (λ l. q.0 ++ l) rest.4 ∙ q.4,
      )

  module _ (formed : IsWellFormed table.entries) where
    near-within : (n : ℕ) (parts others : List (List ℕ)) (label w : List ℕ) → PairUp table parts others → flat_map (λ a. a) parts ≡ label → flat_map (λ b. b) others ≡ w → length label ≤ n → Contains (near_within table n label) w
    near-within n [] [] [] w pairs cut joined fits = subst (λ v. Contains ([] ∷ []) v) joined (Contains-head [] [])
    near-within n [] [] (c ∷ label) w pairs cut joined fits = let clash : [] ≡ c ∷ label = cut in cc
    near-within n [] (b ∷ others) label w pairs cut joined fits = absurd pairs
    near-within n (a ∷ parts) [] label w pairs cut joined fits = absurd pairs
    near-within n (a ∷ parts) (b ∷ others) [] w pairs cut joined fits =
        absurd (omega (arith, (GoTogether-sequences table formed a b pairs.0).0.filled, ap length cut, length-append a (flat_map (λ x. x) parts)))
    near-within zero (a ∷ parts) (b ∷ others) (c ∷ label) w pairs cut joined fits = absurd (omega (arith, fits))
    near-within (suc n) (a ∷ parts) (b ∷ others) (c ∷ label) w pairs cut joined fits =
        let some = (GoTogether-sequences table formed a b pairs.0).0.filled in
        let rest : List ℕ = flat_map (λ x. x) parts in
        let other : List ℕ = flat_map (λ x. x) others in
        let fewer : length rest ≤ n = omega (arith, some, fits, ap length cut, length-append a rest) in
        let later = near-within n parts others rest other pairs.1 refl refl fewer in
        (Contains-flat_map (λ s. joined_each (partners table s.0) (near_within table n s.1)) (splits (c ∷ label)) w).1 (
          (a, rest),
          split-of a rest (c ∷ label) some cut,
          (joined_each-is (partners table a) (near_within table n rest) w).1 (b, other, (partners-together table a b).1 pairs.0, later, joined),
        )

    pub near-AreNear : (label w : List ℕ) → Contains (near table label) w ↔ AreNear table label w
    near-AreNear label w = (near_within-near (length label) label w, λ g. near-within (length label) g.0 g.1 label w g.2 g.3 g.4 (omega arith))
