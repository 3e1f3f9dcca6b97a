use Rattle.std.proofs.Common.{◌∙◌, ◌≡◌, ◌+◌, ◌<◌, ◌∷◌, [], length, take, drop, ap, length-take, length-append, arith}
use Rattle.std.proofs.lemmas.Result.{err_from_is_err_and}
use Rattle.idn_text.specs.Taking.{BufferedReader}
use Rattle.idn_text.specs.inner.TakenLines.{kept}
use Rattle.idn_text.proofs.TakingLemmas.{takes_then, takes_ended, takes_all, takes_lost, takes_too_long, fails_too_long, fails_from}
use Rattle.idn_text.proofs.buffered_reader.BufferedReader.take_line.Goals as goal

pub returns-in-Some-clause-line : goal.returns-in-Some-clause-line
returns-in-Some-clause-line g c =
    let before = c.reads.invariant in
    let now = c.reads.self in
    let len = c.in-Some.len in
    let line = take len now.held in
    let found = c.in-Some.ensures in
    let all = ap length found.1.1 ∙ length-append line (10 ∷ found.1.0) in
    let count : len + 1 ≡ length line + 1 = omega (arith, all, length-take len now.held) in
    let after : BufferedReader = record now { held = drop (len + 1) now.held; line = kept line } in
    let taken : c.take.new.self ≡ after = c.take.ensures in
    (line, ap (λ (v : BufferedReader). v.line) taken, takes_then _ _ _ [] line _ 0 before.takes (takes_ended now _ _ line found.1.0 (len + 1) found.0 found.1.1 count taken))

pub returns-in_err-fill-clause-failed : goal.returns-in_err-fill-clause-failed
returns-in_err-fill-clause-failed g c =
    let p = err_from_is_err_and c.from_residual.result c.from_residual.ensures.1 in
    let before = c.reads.invariant in
    let read = c.in_err-fill.ensures in
    rw p.1 (c.reads.self.held, takes_lost _ _ _ [] before.takes c.in_default.ensures read.taken read.counted read.called, fails_from _ _ _ before.no_fault read.failed)

pub returns-then-searched-gt-MAX_LINE_LEN-clause-line : goal.returns-then-searched-gt-MAX_LINE_LEN-clause-line
returns-then-searched-gt-MAX_LINE_LEN-clause-line g c =
    let before = c.reads.invariant in
    let now = c.reads.self in
    let count = ap length c.held-searched.ensures in
    let taken = takes_all now _ _ (length c.held-searched.result.now + 0) c.in_default.ensures (omega (arith, count)) c.take-then-searched-gt-MAX_LINE_LEN.ensures in
    let long : 1024 < length now.held = omega (arith, count) in
    takes_too_long _ _ _ now.held c.skip_line.result (takes_then _ _ _ [] now.held [] 0 before.takes taken) long c.skip_line.ensures.too_long c.skip_line.ensures.rest

pub returns-then-searched-gt-MAX_LINE_LEN-clause-failed : goal.returns-then-searched-gt-MAX_LINE_LEN-clause-failed
returns-then-searched-gt-MAX_LINE_LEN-clause-failed g c =
    let before = c.reads.invariant in
    let now = c.reads.self in
    let count = ap length c.held-searched.ensures in
    let n = length c.held-searched.result.now + 0 in
    let after : BufferedReader = record now { held = drop n now.held; line = kept (take (length c.held-searched.result.now) now.held) } in
    let e : c.take-then-searched-gt-MAX_LINE_LEN.new.self ≡ after = c.take-then-searched-gt-MAX_LINE_LEN.ensures in
    let taken = takes_all now _ _ n c.in_default.ensures (omega (arith, count)) e in
    fails_too_long _ _ _ now.held c.skip_line.result (takes_then _ _ _ [] now.held [] 0 before.takes taken) (ap (λ (v : BufferedReader). v.reader.faults) e ∙ before.no_fault) c.skip_line.ensures.failed
