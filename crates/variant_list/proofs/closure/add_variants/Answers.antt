use Rattle.std.proofs.Common.{◌≡◌, ℕ, suc, ◌+◌, ◌-◌, List, take, drop, sym, ap, subst, ◌∙◌, arith, length, ◌++◌}
use Rattle.std.specs.Prelude.{min}
use Rattle.reading_kinds.specs.Drafts.{with_substitutions}
use Rattle.variant_list.specs.Reversed.{Group, sources_of}
use Rattle.variant_list.specs.inner.NearSubstitutions.{put_for, near_variants}
use Rattle.variant_list.specs.inner.Turned.{sequences_of}
use Rattle.variant_list.proofs.TakenSubstitutions.{with_substitutions-nothing, with_substitutions-twice}
use Rattle.variant_list.proofs.closure.add_variants.Goals as goal

pub loop-count-init : goal.loop-count-init
loop-count-init c = with_substitutions-nothing c.args.draft.now

pub loop-count-preserved : goal.loop-count-preserved
loop-count-preserved c =
    let groups : List Group = c.args.reversed.now in
    let label : List ℕ = c.args.label.now in
    let n : ℕ = c.loop-count.count in
    let more : n + 1 ≡ suc n = omega arith in
    let counted : c.args.place + n + 1 - c.args.place ≡ suc n = omega arith in
    let found : List (List ℕ) = sequences_of c.sources.result.now in
    let listed = c.sources.ensures.sources ∙ ap (λ k. sources_of groups (take k (drop c.args.place label))) counted in
    c.in_ok-add_sources.ensures ∙ ap (λ d. with_substitutions d (put_for (n + 1) found)) c.loop-count.invariant
    ∙ with_substitutions-twice c.args.draft.now (near_variants groups label c.args.place n) (put_for (n + 1) found)
    ∙ ap (λ us. with_substitutions c.args.draft.now (near_variants groups label c.args.place n ++ us)) (ap (λ k. put_for k found) more ∙ ap (put_for (suc n)) listed)
    ∙ ap (λ k. with_substitutions c.args.draft.now (near_variants groups label c.args.place k)) (sym more)

pub returns : goal.returns
returns c =
    let all : c.loop-count.count ≡ min (length c.args.label.now - c.args.place) 8 = omega (arith, c.min-longest.ensures, c.loop-count-test.false, c.loop-count.auto.count-end) in
    subst (λ k. c.loop-count.draft ≡ with_substitutions c.args.draft.now (near_variants c.args.reversed.now c.args.label.now c.args.place k)) all c.loop-count.invariant
