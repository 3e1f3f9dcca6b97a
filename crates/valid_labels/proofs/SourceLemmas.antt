-- Labels that are made of sources, by their steps; how far sources reach.
use Rattle.std.proofs.Common.{◌≡◌, ℕ, zero, suc, ◌<◌, ◌≤◌, inl, inr, Bool, true, false, cond, List, [], ◌++◌, length, take, drop, refl, sym, ap, subst, ◌∙◌, arith, length-append}
use Rattle.std.specs.Prelude.{◌↔◌, IsTrue}
use Rattle.std.specs.List.{Contains}
use Rattle.std.proofs.lemmas.Bool.{cases_order}
use Rattle.std.proofs.lemmas.List.{take-append-drop, length-take-le, take_all}
use Rattle.label_patterns.specs.Matches.{Rounds, no_round, one_more}
use Rattle.variant_table.specs.Entries.{Entry, TableValue}
use Rattle.variant_table.specs.WellFormed.{IsWellFormed}
use Rattle.variant_table.specs.Segmentations.{IsMadeOfSources}
use Rattle.valid_labels.specs.Tests.{is_made_of_sources}
use Rattle.valid_labels.specs.Furthest.{furthest, furthest_within, IsFurthest, FurthestIsTold}
use Rattle.valid_labels.specs.inner.Steps.{SourceIs}
use Rattle.valid_labels.proofs.CutLemmas.{EntryStands, cut-steps, steps-cut, rounds-map}
use Rattle.valid_labels.proofs.PartLemmas.{part-stays}
use Rattle.valid_labels.proofs.SegmentationLemmas.{NotAsked, made-cut}
use Rattle.valid_labels.proofs.TestLemmas.{made-agrees}

-- steps by sources of which nothing is asked
pub source-steps : (entries : List Entry) (label : List ℕ) (j : ℕ) → Rounds (SourceIs (λ _ _ _. Unit {0}) entries label) 0 j ↔ Rounds (EntryStands (Contains entries) NotAsked label) 0 j
source-steps entries label j = (
  rounds-map (SourceIs (λ _ _ _. Unit {0}) entries label) (EntryStands (Contains entries) NotAsked label) (λ a b s. s) 0 j,
  rounds-map (EntryStands (Contains entries) NotAsked label) (SourceIs (λ _ _ _. Unit {0}) entries label) (λ a b s. s) 0 j,
)

-- steps of a beginning are steps of the label, and the other way round
module _ (Q : Entry → Type 0) (label more : List ℕ) where
  longer : (a b : ℕ) → EntryStands Q NotAsked label a b → EntryStands Q NotAsked (label ++ more) a b
  longer a b s = (s.0, s.1, s.2, (let l = s.3 in omega (arith, l, length-append label more)), part-stays label more a b s.2 s.3 ∙ s.4, tt)

  shorter : (j : ℕ) → j ≤ length label → Rounds (EntryStands Q NotAsked (label ++ more)) 0 j → Rounds (EntryStands Q NotAsked label) 0 j
  shorter _ l no_round = no_round
  shorter _ l (one_more i j rounds s) =
      one_more i j (shorter i (let m = s.2 in omega (arith, l, m)) rounds) (s.0, s.1, s.2, l, sym (part-stays label more i j s.2 l) ∙ s.4, tt)

  pub beginning-steps : (j : ℕ) → j ≤ length label → Rounds (EntryStands Q NotAsked (label ++ more)) 0 j ↔ Rounds (EntryStands Q NotAsked label) 0 j
  beginning-steps j l = (shorter j l, rounds-map (EntryStands Q NotAsked label) (EntryStands Q NotAsked (label ++ more)) longer 0 j)

pub made-steps : (table : TableValue) (label : List ℕ) (j : ℕ) → j ≤ length label → Rounds (SourceIs (λ _ _ _. Unit {0}) table.entries label) 0 j ↔ IsMadeOfSources table (take j label)
made-steps table label j l =
    let Q : Entry → Type 0 = Contains table.entries in
    let s = source-steps table.entries label j in
    let size = length-take-le j label l in
    let short = beginning-steps Q (take j label) (drop j label) j (omega (arith, size)) in
    let whole = take-append-drop j label in
    let P : List ℕ → Type 0 = λ v. Rounds (EntryStands Q NotAsked v) 0 j in
    let c = made-cut table (take j label) in
    let R : ℕ → Type 0 = λ n. Rounds (EntryStands Q NotAsked (take j label)) 0 n in (
      λ h. c.1 (steps-cut Q NotAsked (take j label) (subst R (sym size) (short.0 (subst P (sym whole) (s.0 h))))),
      λ h. s.1 (subst P whole (short.1 (subst R size (cut-steps Q NotAsked (take j label) (c.0 h))))),
    )

-- ---- how far they reach

pub nothing-made : (table : TableValue) (label : List ℕ) → IsMadeOfSources table (take 0 label)
nothing-made table label = ([], record { of_table = tt; joined = refl })

-- the greatest number up to a count
record IsGreatest (table : TableValue) (label : List ℕ) (count place : ℕ) : Type 0 where
  within : place ≤ count
  reached : IsMadeOfSources table (take place label)
  greatest : (n : ℕ) → place < n → n ≤ count → IsMadeOfSources table (take n label) → ⊥

within-is : (table : TableValue) (label : List ℕ) → IsWellFormed table.entries → (count : ℕ) → IsGreatest table label count (furthest_within table label count)
within-is table label formed zero = record { within = omega arith; reached = nothing-made table label; greatest = λ n l m. absurd (omega (arith, l, m)) }
within-is table label formed (suc count) = by_test (is_made_of_sources table (take (suc count) label)) refl (made-agrees table (take (suc count) label) formed) (within-is table label formed count)
  where
    by_test : (b : Bool) → is_made_of_sources table (take (suc count) label) ≡ b → IsTrue (is_made_of_sources table (take (suc count) label)) ↔ IsMadeOfSources table (take (suc count) label)
        → IsGreatest table label count (furthest_within table label count) → IsGreatest table label (suc count) (cond b (suc count) (furthest_within table label count))
    by_test true e agrees before = record { within = omega arith; reached = agrees.0 e; greatest = λ n l m. absurd (omega (arith, l, m)) }
    by_test false e agrees before = record {
      within = omega (arith, before.within);
      reached = before.reached;
      greatest = λ n l m made. elim (cases_order n (suc count)) [
        | inl same ↦ (let f : true ≡ false = sym (agrees.1 (subst (λ k. IsMadeOfSources table (take k label)) same made)) ∙ e in cc)
        | inr o ↦ elim o [
          | inl less ↦ before.greatest n l (omega (arith, less)) made
          | inr more ↦ omega (arith, m, more)
        ]
      ];
    }

furthest-is : (table : TableValue) (label : List ℕ) → IsWellFormed table.entries → IsFurthest table label (furthest table label)
unfolding furthest
furthest-is table label formed =
    let g = within-is table label formed (length label) in
    record { within = g.within; reached = g.reached; greatest = g.greatest }

pub furthest-one : (table : TableValue) (label : List ℕ) (a b : ℕ) → IsFurthest table label a → IsFurthest table label b → a ≡ b
furthest-one table label a b first second = elim (cases_order a b) [
  | inl e ↦ e
  | inr o ↦ elim o [
    | inl less ↦ absurd (first.greatest b less second.within second.reached)
    | inr more ↦ absurd (second.greatest a more first.within first.reached)
  ]
]

pub furthest-told : FurthestIsTold
furthest-told = record {
  exactly = λ table label place formed. (
    λ is. furthest-one table label place (furthest table label) is (furthest-is table label formed),
    λ e. subst (IsFurthest table label) (sym e) (furthest-is table label formed),
  );
  within = λ table label formed none.
      let is = furthest-is table label formed in
      elim (cases_order (furthest table label) (length label)) [
        | inl e ↦ absurd (none (subst (IsMadeOfSources table) (ap (λ n. take n label) e ∙ take_all (length label) label (omega arith)) is.reached))
        | inr o ↦ elim o [
          | inl less ↦ less
          | inr more ↦ absurd (let l = is.within in omega (arith, l, more))
        ]
      ];
}
