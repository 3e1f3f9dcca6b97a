-- Steps of the program as segments that may stand in a label.
use Rattle.std.proofs.Common.{◌≡◌, ℕ, List, refl, sym, ap, subst, ◌∙◌}
use Rattle.std.specs.Prelude.{◌↔◌, Option}
use Rattle.label_patterns.specs.declared.condition.Condition.{Condition}
use Rattle.label_patterns.specs.Barring.{IsBarred}
use Rattle.label_patterns.specs.Matches.{Seen, Rounds}
use Rattle.ruleset_text.specs.Definitions.{Definitions}
use Rattle.variant_table.specs.Entries.{TableValue}
use Rattle.variant_table.specs.Segmentations.{seen_under}
use Rattle.valid_labels.specs.Segments.{SegmentMayStand}
use Rattle.valid_labels.specs.inner.Steps.{SourceIs}
use Rattle.valid_labels.proofs.CutLemmas.{rounds-map}
use Rattle.valid_labels.proofs.TestLemmas.{SomeSegment}

module _ (A : Option Condition → ℕ → ℕ → Type 0) (table : TableValue) (label : List ℕ) where
  -- a step is a segment that stands there
  pub step-segment : (i j : ℕ) → SourceIs (λ e a b. A e.condition a b) table.entries label i j ↔ SomeSegment A table label i j
  step-segment i j = (
    λ s. (s.0.condition, (s.2, s.3, (s.0, s.1, sym s.4, refl)), s.5),
    λ p. (let a = p.1.2 in (a.0, a.1, p.1.0, p.1.1, sym a.2, subst (λ c. A c i j) (sym a.3) p.2)),
  )

  pub steps-segments : (j : ℕ) → Rounds (SourceIs (λ e a b. A e.condition a b) table.entries label) 0 j ↔ Rounds (SomeSegment A table label) 0 j
  steps-segments j = (
    rounds-map (SourceIs (λ e a b. A e.condition a b) table.entries label) (SomeSegment A table label) (λ a b. (step-segment a b).0) 0 j,
    rounds-map (SomeSegment A table label) (SourceIs (λ e a b. A e.condition a b) table.entries label) (λ a b. (step-segment a b).1) 0 j,
  )

-- the steps of the program, by the values that it holds
abbrev pub UnbarredSteps : TableValue → Definitions → Seen → List ℕ → ℕ → Type 0
UnbarredSteps T D S label j = Rounds (SourceIs (λ e a _. IsBarred D.rules S e.condition a → ⊥) T.entries label) 0 j

pub unbarred-segments : (table T : TableValue) (D : Definitions) (S : Seen) (label : List ℕ) → T ≡ table → D ≡ T.definitions → S ≡ seen_under table label → (j : ℕ) → UnbarredSteps T D S label j ↔ Rounds (SegmentMayStand table label) 0 j
unbarred-segments table T D S label t d s j =
    let P : TableValue → Definitions → Seen → Type 0 = λ x y z. UnbarredSteps x y z label j ↔ Rounds (SegmentMayStand table label) 0 j in
    subst (λ x. P x D S) (sym t) (subst (λ y. P table y S) (sym (d ∙ ap (λ (x : TableValue). x.definitions) t)) (subst (P table table.definitions) (sym s)
    (steps-segments (λ c a b. IsBarred table.definitions.rules (seen_under table label) c a → ⊥) table label j)))
