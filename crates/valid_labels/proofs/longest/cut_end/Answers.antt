use Rattle.std.proofs.Common.{◌≡◌, ℕ, zero, suc, ◌<◌, ◌≤◌, length, sym, subst, arith}
use Rattle.label_patterns.specs.Matches.{Rounds, no_round, one_more}
use Rattle.label_patterns.specs.Places.{Has}
use Rattle.valid_labels.specs.declared.cutting.SingleSteps.{SingleSteps}
use Rattle.valid_labels.specs.inner.Steps.{AreSteps}
use Rattle.valid_labels.specs.Eligible.{CutLeadsTo, IsCutEnd, LongestLeads}
use Rattle.valid_labels.proofs.EligibleLemmas.{whole-end}
use Rattle.valid_labels.proofs.longest.cut_end.Goals as goal

-- places from which one code point leads on, one after the other
run-leads : (R : ℕ → ℕ → Type 0) (len : ℕ) (steps : SingleSteps) → AreSteps R len steps → (n : ℕ) → ((i : ℕ) → i < n → Has steps.known i × Has steps.leading i) → Rounds R 0 n × (n ≤ len)
run-leads R len steps are zero each = (no_round, omega arith)
run-leads R len steps are (suc n) each =
    let last = each n (omega arith) in
    let before = run-leads R len steps are n (λ i l. each i (omega (arith, l))) in
    let from = are n last.0 in
    let inside = from.0 in
    (one_more n (suc n) before.0 ((from.1 (suc n)).1 (omega arith, last.1)), omega (arith, inside))

pub run-place-requires : goal.run-place-requires
run-place-requires c has =
    let inside = (c.requires.steps 63 has).0 in
    omega (arith, inside, c.requires.short)

pub loop-init : goal.loop-init
loop-init c =
    let run = run-leads (LongestLeads c.args.table.now c.args.label.now) (length c.args.label.now) c.args.steps c.requires.steps c.run-place.result c.run-place.ensures.leads in
    record { reached = run.0; within = run.1; far = omega arith }

pub next_place-requires-clause-place : goal.next_place-requires-clause-place
next_place-requires-clause-place c = c.loop.invariant.within

pub loop-preserved : goal.loop-preserved
loop-preserved c =
    let far = c.loop.invariant.far in
    let on = c.in-Some.ensures.on.0 in
    record {
      reached = one_more c.loop.place c.in-Some.next c.loop.invariant.reached c.in-Some.ensures.next;
      within = c.in-Some.ensures.on.1;
      far = omega (arith, far, on);
    }

pub returns-in-None-clause-within : goal.returns-in-None-clause-within
returns-in-None-clause-within c = c.loop.invariant.within

pub returns-in-None-clause-end : goal.returns-in-None-clause-end
returns-in-None-clause-end c = record { reached = c.loop.invariant.reached; last = c.in-None.ensures.next }

pub returns-clause-within : goal.returns-clause-within
returns-clause-within c = c.loop.invariant.within

pub returns-clause-end : goal.returns-clause-end
returns-clause-end c =
    let table = c.args.table.now in
    let label = c.args.label.now in
    let within = c.loop.invariant.within in
    let far = c.loop.invariant.far in
    let whole : c.loop.place ≡ length label = omega (arith, within, far, c.loop-test.false) in
    subst (IsCutEnd table label) (sym whole) (whole-end table label c.len-entries.ensures.well_formed (subst (CutLeadsTo table label) whole c.loop.invariant.reached))
