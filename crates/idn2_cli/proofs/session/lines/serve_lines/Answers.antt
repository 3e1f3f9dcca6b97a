use Rattle.std.proofs.Common.{◌++◌, ◌∷◌, [], ◌∙◌, Ok, Err, Bool, ap, sym, subst}
use Rattle.std.proofs.lemmas.Result.{err_from_is_err_and}
use Rattle.idn_text.specs.Reading.{HasRead, answered, line_at, IsLeftBy}
use Rattle.idn2_cli.proofs.LineSteps.{none_so_far, one_more, stops_in_line, stops_reading, or_true, or_none}
use Rattle.idn2_cli.proofs.session.lines.serve_lines.Goals as goal

pub lines-init : goal.lines-init
lines-init g c = record { so_far = none_so_far _ _ _ _ _ c.requires.unread }

pub returns-in_err-advance : goal.returns-in_err-advance
returns-in_err-advance g c =
    let p = err_from_is_err_and c.from_residual.result c.from_residual.ensures.1 in
    let so_far = c.lines.invariant.so_far in
    rw (p.1, p.2) (stops_reading _ _ _ (g.M.Answering.needs_none c.args.mode.now) (g.M.Answering.goes_on c.args.mode.now) _ _ c.advance.new.self _ _ _ so_far c.in_err-advance.ensures.cause c.in_err-advance.ensures.state (c.in_err-advance.ensures.lines _ so_far.given so_far.lines so_far.read))

pub returns-in_err-serve_line : goal.returns-in_err-serve_line
returns-in_err-serve_line g c =
    let p = err_from_is_err_and c.from_residual-in_err-serve_line.result c.from_residual-in_err-serve_line.ensures.1 in
    let so_far = c.lines.invariant.so_far in
    let next = c.in_ok-advance.ensures.lines _ so_far.given so_far.lines so_far.read in
    let read = subst (λ (b : Bool). HasRead c.args.input.now c.advance.new.self (so_far.given ++ next.0) (so_far.lines ++ answered (Ok b) c.advance.new.self)) c.if-branch.true next.1 in
    let going = subst (λ (b : Bool). IsLeftBy (Ok b) c.advance.new.self) c.if-branch.true c.in_ok-advance.ensures.state in
    rw p.1 (record {
      given = so_far.given ++ next.0;
      lines = so_far.lines ++ line_at c.advance.new.self ∷ [];
      read = read;
      unread = λ e. cc;
      ending = stops_in_line _ _ _ (g.M.Answering.needs_none c.args.mode.now) (g.M.Answering.goes_on c.args.mode.now) _ _ c.advance.new.self _ _ _ _ (line_at c.advance.new.self) so_far c.serve_line.result p.0 going c.serve_line.ensures.written (c.in_err-serve_line.was ∙ ap Err (sym p.2)) c.serve_line.ensures.no_memory c.serve_line.ensures.begun;
    })

pub lines-preserved-then-branch-2 : goal.lines-preserved-then-branch-2
lines-preserved-then-branch-2 g c =
    let so_far = c.lines.invariant.so_far in
    let next = c.in_ok-advance.ensures.lines _ so_far.given so_far.lines so_far.read in
    let read = subst (λ (b : Bool). HasRead c.args.input.now c.advance.new.self (so_far.given ++ next.0) (so_far.lines ++ answered (Ok b) c.advance.new.self)) c.if-branch.true next.1 in
    let going = subst (λ (b : Bool). IsLeftBy (Ok b) c.advance.new.self) c.if-branch.true c.in_ok-advance.ensures.state in
    record {
      so_far = one_more _ _ _ _ _ _ _ _ _ _ _ (line_at c.advance.new.self) so_far next.0 read going c.in_ok-serve_line.ensures.written (or_true _ _ _ c.in_ok-serve_line.ensures.refused c.if-branch-2.true);
    }

pub lines-preserved : goal.lines-preserved
lines-preserved g c =
    let so_far = c.lines.invariant.so_far in
    let next = c.in_ok-advance.ensures.lines _ so_far.given so_far.lines so_far.read in
    let read = subst (λ (b : Bool). HasRead c.args.input.now c.advance.new.self (so_far.given ++ next.0) (so_far.lines ++ answered (Ok b) c.advance.new.self)) c.if-branch.true next.1 in
    let going = subst (λ (b : Bool). IsLeftBy (Ok b) c.advance.new.self) c.if-branch.true c.in_ok-advance.ensures.state in
    record {
      so_far = one_more _ _ _ _ _ _ _ _ _ _ _ (line_at c.advance.new.self) so_far next.0 read going c.in_ok-serve_line.ensures.written (or_none _ _ _ c.in_ok-serve_line.ensures.refused c.if-branch-2.false);
    }
