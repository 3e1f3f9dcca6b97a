-- A table of which no variant has a condition has no differences.
use Rattle.std.proofs.Common.{◌≡◌, inl, inr, ℕ, List, [], ◌∷◌, ◌++◌, All, Contains, length, map, Option, None, refl, sym, ap, subst, ◌∙◌}
use Rattle.label_patterns.specs.declared.condition.Condition.{Condition}
use Rattle.variant_table.specs.Differences.{IsPairUnder, differences_of}
use Rattle.variant_table.specs.Entries.{Entry, Variant, sequences_in}
use Rattle.variant_table.specs.Gaps.{IsPair, gaps_of}
use Rattle.variant_table.specs.IdleTypes.{idle_types}
use Rattle.variant_table.specs.WellFormed.{IsWellFormed}
use Rattle.variant_table.proofs.DifferenceLemmas.{differences_members}
use Rattle.variant_table.proofs.MemberLemmas.{Contains-head, Contains-later, Contains-none, Contains-cases}
use Rattle.answer_json.specs.declared.checked.PairFinding.TheVariants.{Missing, Differs}
use Rattle.idn2_answers.specs.Said.{Found, Idle, Counted}
use Rattle.idn2_laws.specs.Laws.{ConditionsAloneDiffer}

all_at : {X : Type 0} (P : X → Type 0) (xs : List X) (x : X) → All P xs → Contains xs x → P x
all_at P xs x all c = subst P c.2 (all c.0 x c.1)

variant_in : (vs : List Variant) (b : List ℕ) → Contains (sequences_in vs) b → (x : Variant) × Contains vs x × (x.sequence ≡ b)
variant_in [] b h = absurd (Contains-none b h)
variant_in (v ∷ vs) b h = elim (Contains-cases v.sequence (sequences_in vs) b h) [
  | inl s ↦ (v, Contains-head v vs, s)
  | inr m ↦ let r = variant_in vs b m in (r.0, Contains-later v vs r.0 r.1, r.2)
]

no_pairs : (pairs : List (List ℕ × List ℕ)) → ((a b : List ℕ) → Contains pairs (a, b) → ⊥) → pairs ≡ []
no_pairs [] h = refl
no_pairs ((a, b) ∷ pairs) h = absurd (h a b (Contains-head (a, b) pairs))

module _ (table : List Entry) (well : IsWellFormed table) (free : All (λ (e : Entry). All (λ (x : Variant). x.condition ≡ None) e.variants) table) where
  no_condition : (e : Entry) (x : Variant) → Contains table e → Contains e.variants x → x.condition ≡ None
  no_condition e x h m = all_at (λ (y : Variant). y.condition ≡ None) e.variants x (all_at (λ (f : Entry). All (λ (y : Variant). y.condition ≡ None) f.variants) table e free h) m

  -- each condition under which there is a pair is none, as for its reverse
  as_in_reverse : (a b : List ℕ) (c : Option Condition) → IsPair table b a → IsPairUnder table a b c → IsPairUnder table b a c
  as_in_reverse a b c back p =
      let x = variant_in back.0.variants a back.3 in
      (back.0, back.1, back.2, x.0, x.1, x.2, no_condition back.0 x.0 back.1 x.1 ∙ sym (no_condition p.0 p.3 p.1 p.4) ∙ p.6)

  pub no_differences : differences_of table ≡ []
  no_differences = no_pairs (differences_of table)
      (λ a b h. let d = (differences_members table well a b).0 h in d.unlike (λ c. (as_in_reverse a b c d.back, as_in_reverse b a c d.there)))

pub conditions-alone-differ : ConditionsAloneDiffer
conditions-alone-differ table sound free =
    let gaps = gaps_of table.entries in
    ap (λ ps. map (Found Missing) gaps ++ (map (Found Differs) ps ++ (map Idle (idle_types table.definitions) ++ Counted (length table.entries) (length gaps) ∷ []))) (no_differences table.entries sound.entries free)
