use Rattle.std.proofs.Common.{rules, ◌≡◌, ℕ, Some, true, false, ap, sym, ◌∙◌, inl, inr, arith}
use Rattle.std.specs.Prelude.{slice_get, bytes_eq}
use Rattle.std.proofs.Common.{Vec, Global}
use Rattle.std.proofs.lemmas.List.{length-map}
use Rattle.std.proofs.lemmas.Option.{slice_get-get_or}
use Rattle.std.proofs.lemmas.Slice.Eq.{bytes_eq-Decides}
use Rattle.variant_list.specs.inner.Turned.{sequences_of}
use Rattle.variant_list.proofs.PlanLemmas.{Contains-at}
use Rattle.variant_list.proofs.RowBits.{same_or_not}
use Rattle.reading_kinds.proofs.TakenLemmas.{some_same, slice_get-Contains}
use Rattle.variant_list.proofs.TurnedLemmas.{sequence-at}
use Rattle.variant_list.proofs.reversed.has.Goals as goal

pub returns-then-eq : goal.returns-then-eq
returns-then-eq c =
    let same : c.as_slice.result.now ≡ c.args.sequence.now = (bytes_eq-Decides c.as_slice.result.now c.args.sequence.now).0 (sym c.if-eq.ensures) in (
      λ told. Contains-at (sequences_of c.args.sequences.now) c.loop-other.other-index c.args.sequence.now
          (sequence-at c.args.sequences.now c.loop-other.other-index c.other-item.result (slice_get-get_or c.args.sequences.now c.loop-other.other-index c.other-item.result (omega arith) ∙ ap Some (sym c.other-item.is)) ∙ ap Some (sym c.as_slice.ensures.value ∙ same)),
      λ there. search rules,
    )

pub loop-other-preserved : goal.loop-other-preserved
loop-other-preserved c k l at = elim (same_or_not k c.loop-other.other-index) [
  | inl e ↦
      let here : slice_get (sequences_of c.args.sequences.now) c.loop-other.other-index ≡ Some c.other-item.result.items =
      sequence-at c.args.sequences.now c.loop-other.other-index c.other-item.result (slice_get-get_or c.args.sequences.now c.loop-other.other-index c.other-item.result (omega arith) ∙ ap Some (sym c.other-item.is)) in
      let same : c.other-item.result.items ≡ c.args.sequence.now = some_same c.other-item.result.items c.args.sequence.now (sym here ∙ ap (slice_get (sequences_of c.args.sequences.now)) (sym e) ∙ at) in
      let told : bytes_eq c.as_slice.result.now c.args.sequence.now ≡ true = (bytes_eq-Decides c.as_slice.result.now c.args.sequence.now).1 (c.as_slice.ensures.value ∙ same) in
      let clash : true ≡ false = sym told ∙ sym c.if-eq.ensures in
      absurd cc
  | inr n ↦ c.loop-other.invariant k (omega (arith, l, n)) at
]

pub returns : goal.returns
returns c = (
  λ told. absurd cc,
  λ there. absurd (c.loop-other.invariant there.0 (omega (arith, there.1, length-map c.args.sequences.now (λ (v : Vec ℕ Global). v.items), c.loop-other-test.false)) (slice_get-Contains (sequences_of c.args.sequences.now) c.args.sequence.now there)),
)
