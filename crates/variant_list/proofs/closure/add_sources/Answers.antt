use Rattle.std.proofs.Common.{◌≡◌, ◌≤◌, ℕ, length, take_all, sym, ap, subst, refl, ◌∙◌, arith, Some, Vec, Global}
use Rattle.std.proofs.lemmas.List.{length-map}
use Rattle.std.proofs.lemmas.Option.{slice_get-get_or}
use Rattle.reading_kinds.specs.Drafts.{with_substitutions}
use Rattle.variant_list.specs.inner.NearSubstitutions.{put_for}
use Rattle.variant_list.specs.inner.Turned.{sequences_of}
use Rattle.variant_list.proofs.TakenSubstitutions.{with_substitutions-nothing}
use Rattle.variant_list.proofs.TurnedLemmas.{sequence-at}
use Rattle.variant_list.proofs.NearSteps.{put_for-next}
use Rattle.variant_list.proofs.closure.add_sources.Goals as goal

pub loop-source-init : goal.loop-source-init
loop-source-init c = with_substitutions-nothing c.args.draft.now

pub loop-source-preserved : goal.loop-source-preserved
loop-source-preserved c =
    let at = sequence-at c.args.sources.now c.loop-source.source-index c.source-item.result (slice_get-get_or c.args.sources.now c.loop-source.source-index c.source-item.result (omega arith) ∙ ap Some (sym c.source-item.is)) in
    c.in_ok-add.ensures ∙ put_for-next c.args.covers (sequences_of c.args.sources.now) c.loop-source.source-index c.args.covers c.deref.result.now c.args.draft.now c.loop-source.draft (at ∙ ap Some (sym c.deref.ensures.value)) refl c.loop-source.invariant

pub returns : goal.returns
returns c =
    let over : length (sequences_of c.args.sources.now) ≤ c.loop-source.source-index = omega (arith, length-map c.args.sources.now (λ (v : Vec ℕ Global). v.items), c.loop-source-test.false) in
    subst (λ xs. c.loop-source.draft ≡ with_substitutions c.args.draft.now (put_for c.args.covers xs)) (take_all c.loop-source.source-index (sequences_of c.args.sources.now) over) c.loop-source.invariant
