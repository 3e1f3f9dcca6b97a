use Rattle.std.proofs.Common.{◌++◌, ◌∙◌, ◌≡◌, Ok, length, refl, sym, subst, ap, arith}
use Rattle.std.proofs.lemmas.Result.{err_from_is_err_and}
use Rattle.idn_text.specs.Lines.{HasNoFeed}
use Rattle.idn_text.specs.Taking.{BufferedReader}
use Rattle.idn_text.proofs.TakingLemmas.{takes_then, takes_read, takes_lost, fails_from}
use Rattle.idn_text.proofs.buffered_reader.BufferedReader.skip_line.Goals as goal

pub returns-in_err-fill-clause-failed : goal.returns-in_err-fill-clause-failed
returns-in_err-fill-clause-failed g c =
    let p = err_from_is_err_and c.from_residual.result c.from_residual.ensures.1 in
    let before = c.reads.invariant in
    let read = c.in_err-fill.ensures in
    let no_feed = subst HasNoFeed (sym before.held) (λ k d lt is. absurd (omega arith)) in
    rw p.1 (before.rest ++ c.reads.self.held, takes_lost _ _ _ before.rest before.takes no_feed read.taken read.counted read.called, fails_from _ _ _ before.no_fault read.failed)

pub returns-then-skip_held-clause-rest : goal.returns-then-skip_held-clause-rest
returns-then-skip_held-clause-rest g c =
    let before = c.reads.invariant in
    let read = c.in_ok-fill.ensures in
    let more = c.if-skip_held.ensures.taken in
    let counts = read.counts (ap Ok c.if-branch.true) in
    let came = read.came (ap Ok c.if-branch.true) in
    (before.rest ++ more.0, takes_then _ _ _ before.rest more.0 _ 0 (takes_read _ _ _ before.rest _ 0 before.takes read.same (omega (arith, counts, came)) read.called) more.1)

pub reads-preserved : goal.reads-preserved
reads-preserved g c =
    let before = c.reads.invariant in
    let read = c.in_ok-fill.ensures in
    let skipped = c.if-skip_held.ensures in
    let more = skipped.taken in
    let now : BufferedReader = record c.fill.new.self { held = c.skip_held.new.self.held } in
    let same : c.skip_held.new.self ≡ now = skipped.same in
    let counts = read.counts (ap Ok c.if-branch.true) in
    let came = read.came (ap Ok c.if-branch.true) in
    record {
      rest = before.rest ++ more.0;
      takes = takes_then _ _ _ before.rest more.0 _ 0 (takes_read _ _ _ before.rest _ 0 before.takes read.same (omega (arith, counts, came)) read.called) more.1;
      no_fault = ap (λ (v : BufferedReader). v.reader.faults) same ∙ read.no_fault ∙ before.no_fault;
      held = skipped.rest refl;
      too_long = ap (λ (v : BufferedReader). v.line) same ∙ read.too_long before.too_long;
    }

pub returns-clause-rest : goal.returns-clause-rest
returns-clause-rest g c =
    let before = c.reads.invariant in
    let read = c.in_ok-fill.ensures in
    let ended = ap length (read.ended (ap Ok c.if-branch.false)).0 in
    (before.rest, takes_read _ _ _ before.rest _ 1 before.takes read.same (omega (arith, ended, read.counted)) read.called)
