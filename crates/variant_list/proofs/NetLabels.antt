-- The labels that a variant graph spells, as a list.
use Rattle.std.proofs.Common.{◌≡◌, ℕ, zero, suc, ◌+◌, ◌-◌, ◌*◌, ◌<◌, ◌≤◌, List, [], ◌∷◌, length, take, drop, map, get_or, refl, sym, ap, ◌∙◌, subst, inl, inr, ◌↔◌, arith, length-append, Bool, true, false, ◌&&◌, Option, None}
use Rattle.std.specs.Prelude.{slice_get, slice_index, Some}
use Rattle.std.specs.List.{Contains, filter, flat_map}
use Rattle.std.specs.Option.{is_some}
use Rattle.std.specs.Ordering.{is_gt}
use Rattle.std.proofs.lemmas.Bool.{false≢true}
use Rattle.std.proofs.lemmas.List.{length-drop}
use Rattle.std.proofs.lemmas.List.Sums.{sum_by-le, sum_by-cons}
use Rattle.std.proofs.lemmas.List.Elements.{All-contains, Contains-get_or, Contains-append_left, Contains-append_right, Contains-append_cases}
use Rattle.variant_list.specs.Labels.{label_cmp}
use Rattle.variant_list.specs.Nets.{IsLeastLength}
use Rattle.reading_kinds.specs.Readings.{Substitution, IsSubstitution, AreSubstitutions, IsCut, points_of, SubstitutionsSpell}
use Rattle.variant_list.specs.Substitutions.{points_in, substitution_edges}
use Rattle.variant_list.specs.Variants.{in_order, variants_among}
use Rattle.variant_list.specs.declared.edges.Edge.{Edge}
use Rattle.variant_list.specs.inner.Plans.{Plan, Step, Reads, first_place}
use Rattle.variant_list.specs.inner.NetPlans.{IsNetOf, IsNet, edges_at, spelled_at_end, spelled_in, spelled_of}
use Rattle.variant_list.proofs.OrderLemmas.{IsListOf-unique}
use Rattle.variant_list.proofs.VariantLists.{IsRising-in_order, Contains-in_order}
use Rattle.variant_list.proofs.PlanLemmas.{Contains-at, slice_get-Contains}
use Rattle.variant_list.proofs.SpelledByLemmas.{AreSubstitutions-drop}
use Rattle.variant_table.proofs.MemberLemmas.{Contains-head, Contains-none, Contains-one}
use Rattle.variant_table.proofs.MemberLists.{Contains-map, Contains-flat_map}
use Rattle.variant_table.proofs.EntryLemmas.{slice_get-drop, slice_get-take}

taken_below : {X : Type 0} (xs : List X) (m i : ℕ) (x : X) → slice_get (take m xs) i ≡ Some x → i < m
taken_below xs zero i x e = cc
taken_below [] (suc m) i x e = cc
taken_below (y ∷ xs) (suc m) zero x e = omega arith
taken_below (y ∷ xs) (suc m) (suc i) x e = omega (arith, taken_below xs m i x e)

-- the edges of a place are the steps from it
Step-edge : (plan : Plan) (p : ℕ) (e : Edge) → Contains (edges_at plan p) e → Step plan p e.point e.place
Step-edge plan p e c =
    let from : ℕ = slice_index plan.starts p in
    let count : ℕ = slice_index plan.starts (p + 1) - from in
    let at = slice_get-Contains (edges_at plan p) e c in
    let below = taken_below (drop from plan.edges) count at.0 e at.1 in
    record {
      index = from + at.0;
      starts = omega arith;
      below = omega (arith, below);
      is = sym (slice_get-take (drop from plan.edges) count at.0 below ∙ slice_get-drop plan.edges from at.0) ∙ at.1;
    }

edge-Step : (plan : Plan) (p c q : ℕ) → Step plan p c q → Contains (edges_at plan p) (record { point = c; place = q })
edge-Step plan p c q s =
    let from : ℕ = slice_index plan.starts p in
    let count : ℕ = slice_index plan.starts (p + 1) - from in
    let i : ℕ = s.index - from in
    let below : i < count = omega (arith, s.starts, s.below) in
    let whole : from + i ≡ s.index = omega (arith, s.starts) in
    Contains-at (edges_at plan p) i (record { point = c; place = q })
    (slice_get-take (drop from plan.edges) count i below ∙ slice_get-drop plan.edges from i ∙ ap (slice_get plan.edges) whole ∙ s.is)

ending-reads : (plan : Plan) (p : ℕ) (v : List ℕ) → Contains (spelled_at_end p) v → (p ≡ 0) × (v ≡ [])
ending-reads plan zero v c = (refl, sym (Contains-one [] v c))
ending-reads plan (suc p) v c = absurd (Contains-none v c)

nothing_read : (plan : Plan) (p : ℕ) (v : List ℕ) → (p ≡ 0) × (v ≡ []) → Reads plan p v
nothing_read plan p v h = subst (λ w. Reads plan p w) (sym h.1) h.0

length_nothing : (v : List ℕ) (n : ℕ) → v ≡ [] → length v ≤ n
length_nothing v n e = omega (arith, ap length e)

-- a list holds exactly the labels that are read from a place on and are not too long
pub spelled_in-reads : (n : ℕ) (plan : Plan) (p : ℕ) (v : List ℕ) → Contains (spelled_in n plan p) v → Reads plan p v × (length v ≤ n)
spelled_in-reads zero plan p v c = let h = ending-reads plan p v c in (nothing_read plan p v h, length_nothing v 0 h.1)
spelled_in-reads (suc n) plan p v c =
    let later : Edge → List (List ℕ) = λ (e : Edge). map (λ w. e.point ∷ w) (spelled_in n plan e.place) in
    elim (Contains-append_cases (spelled_at_end p) (flat_map later (edges_at plan p)) v c) [
      | inl end ↦ (let h = ending-reads plan p v end in (nothing_read plan p v h, length_nothing v (suc n) h.1))
      | inr more ↦
          (let g = (Contains-flat_map later (edges_at plan p) v).0 more in
          let e : Edge = g.0 in
          let h = (Contains-map (λ (w : List ℕ). e.point ∷ w) (spelled_in n plan e.place) v).0 g.2 in
          let rest = spelled_in-reads n plan e.place h.0 h.1 in
          (subst (Reads plan p) (sym h.2) (e.place, Step-edge plan p e g.1, rest.0), omega (arith, ap length h.2, rest.1)))
    ]

pub reads-spelled_in : (n : ℕ) (plan : Plan) (p : ℕ) (v : List ℕ) → Reads plan p v → length v ≤ n → Contains (spelled_in n plan p) v
reads-spelled_in zero plan p [] r l = subst (λ q. Contains (spelled_at_end q) []) (sym r) (Contains-head [] [])
reads-spelled_in zero plan p (c ∷ v) r l = absurd (omega (arith, l))
reads-spelled_in (suc n) plan p [] r l =
    let later : Edge → List (List ℕ) = λ (e : Edge). map (λ w. e.point ∷ w) (spelled_in n plan e.place) in
    Contains-append_left (spelled_at_end p) (flat_map later (edges_at plan p)) [] (subst (λ q. Contains (spelled_at_end q) []) (sym r) (Contains-head [] []))
reads-spelled_in (suc n) plan p (c ∷ v) r l =
    let later : Edge → List (List ℕ) = λ (e : Edge). map (λ w. e.point ∷ w) (spelled_in n plan e.place) in
    let e : Edge = record { point = c; place = r.0 } in
    let rest = reads-spelled_in n plan r.0 v r.2 (omega (arith, l)) in
    Contains-append_right (spelled_at_end p) (flat_map later (edges_at plan p)) (c ∷ v)
    ((Contains-flat_map later (edges_at plan p) (c ∷ v)).1 (e, edge-Step plan p c r.0 r.1, (Contains-map (λ (w : List ℕ). c ∷ w) (spelled_in n plan r.0) (c ∷ v)).1 (v, rest, refl)))

pub Reads-spelled : (plan : Plan) (net : IsNet plan) (v : List ℕ) → Reads plan (first_place plan) v ↔ Contains (spelled_of plan) v
Reads-spelled plan net v = (
  λ r. reads-spelled_in 504 plan (first_place plan) v r (net.short v r),
  λ c. (spelled_in-reads 504 plan (first_place plan) v c).0,
)

-- lists with the same labels are the same in order
pub in_order-same : (xs ys : List (List ℕ)) → ((v : List ℕ) → Contains xs v ↔ Contains ys v) → in_order xs ≡ in_order ys
in_order-same xs ys same =
    IsListOf-unique (Contains xs) (in_order xs) (in_order ys)
    (record { rising = IsRising-in_order xs; members = λ v. Contains-in_order xs v })
    (record { rising = IsRising-in_order ys; members = λ v. (λ c. (same v).1 ((Contains-in_order ys v).0 c), λ c. (Contains-in_order ys v).1 ((same v).0 c)) })

-- and so are the accepted ones after a text
pub among-in_order : (accepts : List ℕ → Bool) (labels others : List (List ℕ)) (after : List ℕ) → in_order labels ≡ in_order others → variants_among accepts labels after ≡ variants_among accepts others after
among-in_order accepts labels others after same = ap (filter (λ v. accepts v && is_gt (label_cmp v after))) same

-- ---- substitutions give a variant graph

-- what substitutions put in the place of a label is at most eight times as long
cut_short : (cut : List Substitution) (substitutions : List (List Substitution)) → AreSubstitutions substitutions → IsCut substitutions cut → length (points_of cut) ≤ 8 * length substitutions
cut_short [] [] are cuts = omega arith
cut_short [] (here ∷ later) are cuts = absurd cuts
cut_short (u ∷ cut) [] are cuts = absurd cuts
cut_short (u ∷ cut) (here ∷ later) are cuts =
    let is : IsSubstitution (length later + 1) u = All-contains (IsSubstitution (length later + 1)) here u are.0 cuts.0 in
    let rest = cut_short cut (drop u.covers (here ∷ later)) (AreSubstitutions-drop (here ∷ later) u.covers are) cuts.2 in
    omega (arith, length-append u.points (points_of cut), is.some, is.short, is.within, rest, length-drop u.covers (here ∷ later))

pub spelled_short : (substitutions : List (List Substitution)) (v : List ℕ) → AreSubstitutions substitutions → length substitutions ≤ 63 → SubstitutionsSpell substitutions v → length v ≤ 504
spelled_short substitutions v are few s = omega (arith, cut_short s.0 substitutions are s.1, ap length s.2, few)

pub substitution_edges_few : (substitutions : List (List Substitution)) → AreSubstitutions substitutions → substitution_edges substitutions ≤ 5184 * length substitutions
substitution_edges_few [] are = omega arith
substitution_edges_few (here ∷ later) are =
    let each : (k : ℕ) (d : Substitution) → k < length here → length (get_or here k d).points ≤ 8 =
    λ (k : ℕ) (d : Substitution) l. (All-contains (IsSubstitution (length later + 1)) here (get_or here k d) are.0 (Contains-get_or here k d l)).short in
    omega (arith, sum_by-cons points_in here later, sum_by-le (λ (u : Substitution). length u.points) 8 here each, are.1, substitution_edges_few later are.2)

module _ (substitutions : List (List Substitution)) (plan : Plan) (net : IsNetOf substitutions plan) where
  -- where something is spelled
  pub IsNet-substitutions : (o : Option ℕ) → AreSubstitutions substitutions → length substitutions ≤ 63 → IsLeastLength (Reads plan (first_place plan)) o → is_some o ≡ true → IsNet plan
  IsNet-substitutions None are few least some = absurd (false≢true some)
  IsNet-substitutions (Some len) are few least some = record {
    some = (least.0.0, least.0.1);
    short = λ v r. spelled_short substitutions v are few ((net.reads v).0 r);
    few = omega (arith, net.edges, substitution_edges_few substitutions are, few);
    room = omega (arith, net.places, few);
  }

  pub spelled-substitutions : IsNet plan → (v : List ℕ) → Contains (spelled_of plan) v ↔ SubstitutionsSpell substitutions v
  spelled-substitutions is v = let own = Reads-spelled plan is v in (λ m. (net.reads v).0 (own.1 m), λ s. own.0 ((net.reads v).1 s))

  pub none-substitutions : (o : Option ℕ) → IsLeastLength (Reads plan (first_place plan)) o → is_some o ≡ false → (v : List ℕ) → SubstitutionsSpell substitutions v → ⊥
  none-substitutions None least none v s = least v ((net.reads v).1 s)
  none-substitutions (Some len) least none v s = absurd (false≢true (sym none))
