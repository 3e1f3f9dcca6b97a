use Rattle.std.proofs.Common.{◌≡◌, ◌∙◌, ◌-◌, Some, None, slice_get, ap, sym, cond}
use Rattle.std.specs.Option.{option_copied, option_map}
use Rattle.std.proofs.lemmas.Iterator.Consumers.{nth_from_yields_List, YieldsList-from_first}
use Rattle.idn2_refusals.specs.WrongLines.{body_if_any, without_mark}
use Rattle.idn2_refusals.proofs.registered_cause.body_at.Goals as goal
use Rattle.std.specs.Str.Lines.{strip_carriage_return}
use Rattle.idn_text.specs.Lines.{raw_lines}
use Rattle.idn_text.proofs.LawLemmas.{body_of-long}
use Rattle.idn_text.proofs.TakingLemmas.{is_long_line-short}

pub returns-in_err-line-clause-body : goal.returns-in_err-line-clause-body
returns-in_err-line-clause-body c =
    let lines = raw_lines c.args.text.now in
    let n = c.saturating_sub.result in
    let at = nth_from_yields_List c.nth.result c.nth.new.self n c.nth.ensures.ran (YieldsList-from_first (λ y. y.now) (λ rest. rest) lines c.new.ensures) in
    let none : None ≡ slice_get lines (c.args.number - 1) = sym (ap (option_map (λ y. y.now)) c.in_err-line.was) ∙ at ∙ ap (slice_get lines) c.saturating_sub.ensures in
    ap option_copied c.from_residual.ensures ∙ ap body_if_any none

pub returns-then-line-gt-MAX_LINE_LEN-clause-body : goal.returns-then-line-gt-MAX_LINE_LEN-clause-body
returns-then-line-gt-MAX_LINE_LEN-clause-body c =
    let lines = raw_lines c.args.text.now in
    let n = c.saturating_sub.result in
    let at = nth_from_yields_List c.nth.result c.nth.new.self n c.nth.ensures.ran (YieldsList-from_first (λ y. y.now) (λ rest. rest) lines c.new.ensures) in
    let found : Some c.in_ok-line.line.now ≡ slice_get lines (c.args.number - 1) = sym (ap (option_map (λ y. y.now)) c.in_ok-line.was) ∙ at ∙ ap (slice_get lines) c.saturating_sub.ensures in
    sym (ap (option_map without_mark) (body_of-long c.in_ok-line.line.now c.if-line-gt-MAX_LINE_LEN.true)) ∙ ap body_if_any found

pub returns-else-line-gt-MAX_LINE_LEN-clause-body : goal.returns-else-line-gt-MAX_LINE_LEN-clause-body
returns-else-line-gt-MAX_LINE_LEN-clause-body c =
    let lines = raw_lines c.args.text.now in
    let n = c.saturating_sub.result in
    let at = nth_from_yields_List c.nth.result c.nth.new.self n c.nth.ensures.ran (YieldsList-from_first (λ y. y.now) (λ rest. rest) lines c.new.ensures) in
    let found : Some c.in_ok-line.line.now ≡ slice_get lines (c.args.number - 1) = sym (ap (option_map (λ y. y.now)) c.in_ok-line.was) ∙ at ∙ ap (slice_get lines) c.saturating_sub.ensures in
    let line = c.in_ok-line.line.now in
    let short = ap (λ b. cond b None (Some (strip_carriage_return line))) (is_long_line-short line c.if-line-gt-MAX_LINE_LEN.false) in
    ap Some (c.without_mark.ensures.label ∙ ap without_mark c.without_carriage_return.ensures) ∙ sym (ap (option_map without_mark) short) ∙ ap body_if_any found
