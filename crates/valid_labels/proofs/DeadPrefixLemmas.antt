-- What is dead stays so, and is never valid.
use Rattle.std.proofs.Common.{ℕ, ◌<◌, ◌≤◌, inl, inr, List, [], ◌++◌, length, refl, sym, subst, arith, length-append, append-nil}
use Rattle.std.specs.Prelude.{Option}
use Rattle.std.specs.List.{slice_range}
use Rattle.std.proofs.lemmas.List.Elements.{All-contains, All-from_recursion}
use Rattle.label_patterns.specs.declared.condition.Condition.{Condition}
use Rattle.label_patterns.specs.Conditions.{ConditionHolds}
use Rattle.label_patterns.specs.Matches.{Rounds, no_round, one_more}
use Rattle.label_patterns.specs.Rules.{Occurs}
use Rattle.label_patterns.proofs.BarringLemmas.{barred-for-good, barring-stays}
use Rattle.label_patterns.proofs.LawLemmas.{parts, stay}
use Rattle.ruleset_text.specs.declared.definition.DemandKind.{DemandKind}
use Rattle.ruleset_text.specs.Definitions.{Demand}
use Rattle.variant_table.specs.Entries.{TableValue}
use Rattle.variant_table.specs.Segmentations.{seen_under}
use Rattle.variant_table.specs.WellFormed.{IsWellFormed}
use Rattle.valid_labels.specs.Eligible.{IsEligible, LongestLeads}
use Rattle.valid_labels.specs.Segments.{IsSegment, SegmentStands, SegmentMayStand, MayReach}
use Rattle.valid_labels.specs.Demands.{IsWanted, IsMet}
use Rattle.valid_labels.specs.Validity.{IsSound, IsValid, IsRefused, LeadsNowhere, IsDeadUnder}
use Rattle.valid_labels.specs.Laws.{DeadForGood}
use Rattle.valid_labels.proofs.CutLemmas.{rounds-map}
use Rattle.valid_labels.proofs.EligibleLemmas.{leads-entry}
use Rattle.valid_labels.proofs.PartLemmas.{part-length, part-stays}
use Rattle.valid_labels.proofs.RuleLemmas.{rules-before}
use Rattle.valid_labels.proofs.TestLemmas.{segment-filled}

-- the longest source that stands is a segment that does
pub leads-segment : (table : TableValue) (label : List ℕ) → IsWellFormed table.entries → (i j : ℕ) → LongestLeads table label i j → SegmentStands table label i j
leads-segment table label formed i j h =
    let s = leads-entry table label formed i j h in
    (s.0.condition, (s.2, s.3, (s.0, s.1, sym s.4, refl)), s.5)

-- what holds isn't barred
pub stands-may : (table : TableValue) (label : List ℕ) → IsSound table → (i j : ℕ) → SegmentStands table label i j → SegmentMayStand table label i j
stands-may table label sound i j h = (
  h.0,
  h.1,
  λ barred. barred-for-good table.definitions.rules table.definitions.sets label [] h.0 i j (rules-before table.definitions sound.definitions)
      (let l = h.1.0 in let m = h.1.1 in omega (arith, l, m)) barred
      (subst (λ v. ConditionHolds table.definitions.rules (seen_under table v) h.0 i j) (sym (append-nil label)) h.2),
)

module _ (table : TableValue) (label more : List ℕ) (sound : IsSound table) where
  -- a segment that may stand in the longer label, within the shorter one
  may-shorter : (i j : ℕ) → j ≤ length label → SegmentMayStand table (label ++ more) i j → SegmentMayStand table label i j
  may-shorter i j l h =
      let stays = barring-stays table.definitions.rules table.definitions.sets label more h.0 i (rules-before table.definitions sound.definitions) (let m = h.1.0 in omega (arith, l, m)) in
      (h.0, (h.1.0, l, subst (λ s. IsSegment table s h.0) (part-stays label more i j h.1.0 l) h.1.2), λ barred. h.2 (stays.0 barred))

  -- where the shorter label leads nowhere, all that may be reached in the longer one lies within it
  pub within : LeadsNowhere table label → (j : ℕ) → MayReach table (label ++ more) j → (j ≤ length label) × MayReach table label j
  within nowhere _ no_round = (omega arith, no_round)
  within nowhere _ (one_more i j rounds step) =
      let before = within nowhere i rounds in
      let size = part-length (label ++ more) i j step.1.0 step.1.1 in
      let ends = nowhere i (slice_range (label ++ more) i j) step.0 before.1 step.1.2 in
      let l : j ≤ length label = (let m = step.1.0 in omega (arith, ends, size, m)) in
      (l, one_more i j before.1 (may-shorter i j l step))

  pub nowhere-stays : LeadsNowhere table label → LeadsNowhere table (label ++ more)
  nowhere-stays nowhere place points c reached segment =
      let before = within nowhere place reached in
      let l = nowhere place points c before.1 segment in
      omega (arith, l, length-append label more)

  -- some segment ends where a label that is made of segments does
  last-segment : (j : ℕ) → 0 < j → Rounds (SegmentStands table (label ++ more)) 0 j → (points : List ℕ) × ((c : Option Condition) × IsSegment table points c)
  last-segment _ l no_round = absurd (omega (arith, l))
  last-segment _ l (one_more i j rounds step) = (slice_range (label ++ more) i j, (step.0, step.1.2))

  pub nowhere-invalid : 0 < length label → LeadsNowhere table label → IsEligible table (label ++ more) → ⊥
  nowhere-invalid some nowhere eligible =
      let n = length-append label more in
      let end : ℕ = length (label ++ more) in
      let made = rounds-map (LongestLeads table (label ++ more)) (SegmentStands table (label ++ more)) (leads-segment table (label ++ more) sound.entries) 0 end eligible in
      let may = rounds-map (SegmentStands table (label ++ more)) (SegmentMayStand table (label ++ more)) (stands-may table (label ++ more) sound) 0 end made in
      let before = within nowhere end may in
      let last = last-segment end (omega (arith, n, some)) made in
      let filled = segment-filled table last.0 last.1.0 sound.entries last.1.1 in
      let ends = nowhere end last.0 last.1.0 before.1 last.1.1 in
      omega (arith, ends, filled, n)

  -- ---- demands

  occurs-stays : (d : Demand) → (Occurs (seen_under table label) d.pattern) → IsRefused table label → IsRefused table (label ++ more)
  occurs-stays d o refused =
      let m = refused.4 in (
        refused.0,
        refused.1,
        refused.2,
        refused.3,
        (
          m.0,
          m.1,
          (let l = m.2 in omega (arith, l, length-append label more)),
          (stay refused.0.pattern table.definitions.sets label more m.0 m.1 refused.3 ((parts refused.0.pattern (seen_under table label) m.0 m.1 m.3).1 m.2)).0 m.3,
        ),
      )

  pub refused-stays : IsRefused table label → IsRefused table (label ++ more)
  refused-stays refused = occurs-stays refused.0 refused.4 refused

pub refused-invalid : (table : TableValue) (label : List ℕ) → IsRefused table label → IsValid table label → ⊥
refused-invalid table label refused valid =
    let met : IsMet (seen_under table label) refused.0 = All-contains (IsMet (seen_under table label)) table.definitions.demands refused.0 (All-from_recursion (IsMet (seen_under table label)) table.definitions.demands valid.met) refused.1 in
    subst (λ (k : DemandKind). IsWanted k (Occurs (seen_under table label) refused.0.pattern)) refused.2 met refused.4

pub dead-stays : (table : TableValue) (label more : List ℕ) → IsSound table → IsDeadUnder table label → IsDeadUnder table (label ++ more)
dead-stays table label more sound is = record {
  asks = is.asks;
  some = (let l = is.some in omega (arith, l, length-append label more));
  dead = elim is.dead [ inl r ↦ inl (refused-stays table label more sound r) | inr n ↦ inr (nowhere-stays table label more sound n) ];
}

pub dead-invalid : (table : TableValue) (label more : List ℕ) → IsSound table → IsDeadUnder table label → IsValid table (label ++ more) → ⊥
dead-invalid table label more sound is valid = elim is.dead [
  | inl r ↦ refused-invalid table (label ++ more) (refused-stays table label more sound r) valid
  | inr n ↦ elim valid.cut [ inl any ↦ is.asks any | inr eligible ↦ nowhere-invalid table label more sound is.some n eligible ]
]

pub dead-for-good : DeadForGood
dead-for-good = record { stays = dead-stays; invalid = dead-invalid }
