use Rattle.std.proofs.Common.{◌≡◌, Option, Some, length, sym, ap, subst, ◌∙◌, arith}
use Rattle.std.specs.Prelude.{IfOk}
use Rattle.label_patterns.specs.declared.condition.Condition.{Condition}
use Rattle.label_patterns.specs.Matches.{Seen}
use Rattle.variant_table.specs.Segmentations.{seen_under}
use Rattle.valid_labels.specs.declared.cause.ValidityCause.{ValidityCause}
use Rattle.valid_labels.specs.declared.cause.ValidityCause.TheVariants.{NotEligible}
use Rattle.valid_labels.specs.Actions.{AskedRules}
use Rattle.valid_labels.specs.Causes.{broken_from, cause_told, or_else, stopped_by}
use Rattle.valid_labels.specs.Dispositions.{told_itself}
use Rattle.valid_labels.specs.Eligible.{CutLeadsTo}
use Rattle.valid_labels.specs.Tests.{cut_end}
use Rattle.valid_labels.proofs.CauseLawLemmas.{at-end, before-end}
use Rattle.valid_labels.proofs.EligibleLemmas.{end-told}
use Rattle.valid_labels.proofs.causes.cause_under.Goals as goal

pub returns-then-place-label : goal.returns-then-place-label
returns-then-place-label c =
    let table = c.args.table.now in
    let label = c.args.label.now in
    let place = c.cut_end-place.result in
    let sound = c.recall_soundness.ensures in
    let told : place ≡ cut_end table label = (end-told table label sound.entries place).0 c.cut_end-place.ensures.end in
    let within = c.cut_end-place.ensures.within in
    let other = c.if-place-label.true in
    ap (λ (o : Option Condition). Some (NotEligible place o)) c.stopped_by-condition.ensures
    ∙ ap (λ n. Some (NotEligible n (stopped_by table label n))) told
    ∙ sym (before-end table label sound (omega (arith, told, within, other)))

pub returns-in-Some : goal.returns-in-Some
returns-in-Some c =
    let table = c.args.table.now in
    let label = c.args.label.now in
    let eligible : CutLeadsTo table label (length label) = subst (CutLeadsTo table label) c.if-place-label.false c.cut_end-place.ensures.end.reached in
    let seen : c.seen-seen.result.now ≡ seen_under table label = c.seen-seen.ensures ∙ ap (λ (r : AskedRules). r.seen) c.requires.rules in
    let broken = sym c.in-Some.is ∙ c.broken_demand.ensures ∙ ap (λ (s : Seen). broken_from s 0 table.definitions.demands) seen in
    ap (λ (o : Option ValidityCause). or_else o (cause_told table label (told_itself table label))) broken ∙ sym (at-end table label c.recall_soundness.ensures eligible)

pub returns-in-None : goal.returns-in-None
returns-in-None c =
    let table = c.args.table.now in
    let label = c.args.label.now in
    let eligible : CutLeadsTo table label (length label) = subst (CutLeadsTo table label) c.if-place-label.false c.cut_end-place.ensures.end.reached in
    let seen : c.seen-seen.result.now ≡ seen_under table label = c.seen-seen.ensures ∙ ap (λ (r : AskedRules). r.seen) c.requires.rules in
    let broken = sym c.in-None.is ∙ c.broken_demand.ensures ∙ ap (λ (s : Seen). broken_from s 0 table.definitions.demands) seen in
    let all = ap (λ (o : Option ValidityCause). or_else o (cause_told table label (told_itself table label))) broken ∙ sym (at-end table label c.recall_soundness.ensures eligible) in
    subst (λ (o : Option ValidityCause). IfOk c.cause_of_itself.result (λ cause. cause ≡ o)) all c.cause_of_itself.ensures
