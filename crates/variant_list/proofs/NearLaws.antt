-- The laws of near labels.
use Rattle.std.proofs.Common.{◌≡◌, inl, inr, ℕ, ◌+◌, List, [], ◌∷◌, ◌++◌, length, map, refl, sym, ap, ◌∙◌}
use Rattle.std.specs.List.{Contains, AllByRecursion, flat_map}
use Rattle.variant_table.specs.Entries.{Entry, TableValue, sequences_in}
use Rattle.variant_table.specs.Segmentations.{IsMadeOfSources}
use Rattle.variant_table.proofs.MemberLemmas.{Contains-head}
use Rattle.variant_list.specs.Arising.{Arises}
use Rattle.variant_list.specs.Closure.{GoTogether, PairUp, AreNear}
use Rattle.variant_list.specs.Spelling.{JoinsReplacements}
use Rattle.variant_list.proofs.SpellingLemmas.{Replaces-of_entry}

joins_near : (table : TableValue) (label : List ℕ) (segmentation : List Entry) (place : ℕ) (v : List ℕ) → AllByRecursion (Contains table.entries) segmentation → JoinsReplacements table label place segmentation v
    → (parts : List (List ℕ)) × (others : List (List ℕ)) × PairUp table parts others × (flat_map (λ a. a) parts ≡ flat_map (λ (e : Entry). e.source) segmentation) × (flat_map (λ b. b) others ≡ v)
joins_near table label [] place v of joins = ([], [], tt, refl, sym joins)
joins_near table label (e ∷ segmentation) place v of joins =
    let r : List ℕ = joins.0 in
    let rest = joins_near table label segmentation (place + length e.source) joins.1 of.1 joins.3 in (
      e.source ∷ rest.0,
      r ∷ rest.1,
      ((e, of.0, inl (refl, Replaces-of_entry table label place e r joins.2)), rest.2),
      ap (λ w. e.source ++ w) rest.3,
      ap (λ w. r ++ w) rest.4 ∙ sym joins.4,
    )

pub AreNear-arising : (table : TableValue) (label v : List ℕ) → Arises table label v → AreNear table label v
AreNear-arising table label v a = let g = joins_near table label a.0 0 v a.1.of_table a.2 in (g.0, g.1, g.2, g.3 ∙ a.1.joined, g.4)

pairs_turned : (table : TableValue) (parts others : List (List ℕ)) → PairUp table parts others → PairUp table others parts
pairs_turned table [] [] pairs = tt
pairs_turned table [] (b ∷ others) pairs = absurd pairs
pairs_turned table (a ∷ parts) [] pairs = absurd pairs
pairs_turned table (a ∷ parts) (b ∷ others) pairs =
    let g : GoTogether table a b = pairs.0 in
    ((g.0, g.1, elim g.2 [ inl l ↦ inr l | inr r ↦ inl r ]), pairs_turned table parts others pairs.1)

pub AreNear-turned : (table : TableValue) (v w : List ℕ) → AreNear table v w → AreNear table w v
AreNear-turned table v w n = (n.1, n.0, pairs_turned table n.0 n.1 n.2, n.4, n.3)

-- ---- a label is near itself

paired_up : (table : TableValue) (es : List Entry) → AllByRecursion (Contains table.entries) es → PairUp table (map (λ e. e.source) es) (map (λ e. e.source) es)
paired_up table [] all = tt
paired_up table (e ∷ es) all = ((e, all.0, inl (refl, Contains-head e.source (sequences_in e.variants))), paired_up table es all.1)

parts_joined : (es : List Entry) → flat_map (λ a. a) (map (λ (e : Entry). e.source) es) ≡ flat_map (λ (e : Entry). e.source) es
parts_joined [] = refl
parts_joined (e ∷ es) = ap (λ l. e.source ++ l) (parts_joined es)

pub AreNear-itself : (table : TableValue) (label : List ℕ) → IsMadeOfSources table label → AreNear table label label
AreNear-itself table label made =
    let parts : List (List ℕ) = map (λ (e : Entry). e.source) made.0 in
    let joined : flat_map (λ a. a) parts ≡ label = parts_joined made.0 ∙ made.1.joined in
    (parts, parts, paired_up table made.0 made.1.of_table, joined, joined)
