use Rattle.std.proofs.Common.{◌≡◌, ◌+◌, ◌-◌, ◌++◌, ◌∷◌, [], ap, sym, ◌∙◌, append_assoc, arith}
use Rattle.std.proofs.lemmas.List.{append-nil}
use Rattle.lgr_table.specs.Tables.{may_stand}
use Rattle.lgr_table.specs.inner.Points.{spans_of}
use Rattle.lgr_table.proofs.EntryLemmas.{singles, singles-push}
use Rattle.lgr_table.proofs.PointLemmas.{spans-more}
use Rattle.lgr_table.proofs.points.push_range.Goals as goal

pub returns-then-span : goal.returns-then-span
returns-then-span c =
    let none : 0 ≡ c.args.span.last + 1 - c.args.span.first = omega arith in
    sym (append-nil c.args.spans.now.items)
    ∙ ap (λ k. c.args.spans.now.items ++ spans_of (may_stand c.args.properties) (singles c.args.span.first k)) none

pub loop-offset-init : goal.loop-offset-init
loop-offset-init c = sym (append-nil c.args.spans.now.items)

pub loop-offset-preserved : goal.loop-offset-preserved
loop-offset-preserved c =
    let may = may_stand c.args.properties in
    let first = c.args.span.first in
    let k = c.loop-offset.offset in
    c.in_ok-push_source.ensures
    ∙ ap (λ l. l ++ spans_of may (((first + k) ∷ []) ∷ [])) c.loop-offset.invariant
    ∙ append_assoc c.args.spans.now.items (spans_of may (singles first k)) (spans_of may (((first + k) ∷ []) ∷ []))
    ∙ ap (λ l. c.args.spans.now.items ++ l) (sym (spans-more may (singles first k) (((first + k) ∷ []) ∷ [])) ∙ ap (spans_of may) (sym (singles-push first k)))

pub returns : goal.returns
returns c =
    let all : c.loop-offset.offset ≡ c.args.span.last + 1 - c.args.span.first = omega arith in
    c.loop-offset.invariant
    ∙ ap (λ k. c.args.spans.now.items ++ spans_of (may_stand c.args.properties) (singles c.args.span.first k)) all
