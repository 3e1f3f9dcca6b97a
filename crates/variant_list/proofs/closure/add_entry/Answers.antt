use Rattle.std.proofs.Common.{◌≡◌, ◌≤◌, ℕ, List, length, take_all, ap, subst, ◌∙◌, arith}
use Rattle.variant_table.specs.Entries.{Entry, replacements}
use Rattle.reading_kinds.specs.Drafts.{with_substitutions}
use Rattle.variant_list.specs.inner.NearSubstitutions.{put_for}
use Rattle.variant_list.proofs.TakenSubstitutions.{with_substitutions-nothing}
use Rattle.variant_list.proofs.NearSteps.{put_for-next}
use Rattle.variant_list.proofs.closure.add_entry.Goals as goal

pub loop-number-init : goal.loop-number-init
loop-number-init c = with_substitutions-nothing c.args.draft.now

pub loop-number-preserved : goal.loop-number-preserved
loop-number-preserved c =
    let e : Entry = c.args.entry.now in
    let covers : length c.source-covers.result.now ≡ length e.source = ap (λ (s : List ℕ). length s) c.source-covers.ensures in
    c.in_ok-add.ensures ∙ put_for-next (length e.source) (replacements e) c.loop-number.number (length c.source-covers.result.now) c.replacement.result.now c.args.draft.now c.loop-number.draft c.replacement.ensures covers c.loop-number.invariant

pub returns : goal.returns
returns c =
    let e : Entry = c.args.entry.now in
    let over : length (replacements e) ≤ c.loop-number.number = omega (arith, c.replacements-number-end.ensures, c.loop-number-test.false, c.loop-number.auto.number-end) in
    subst (λ xs. c.loop-number.draft ≡ with_substitutions c.args.draft.now (put_for (length e.source) xs)) (take_all c.loop-number.number (replacements e) over) c.loop-number.invariant
