use Rattle.std.proofs.Common.{◌+◌, ◌-◌, ℕ, List, length, take, drop, ap, ◌∙◌, arith, length-drop}
use Rattle.std.proofs.lemmas.List.{drop_min, take_all}
use Rattle.idn2_refusals.proofs.request.parts_of.Goals as goal

pub returns-clause-label : goal.returns-clause-label
returns-clause-label c = ap (λ n. take n c.args.points.now) c.label_len-end.ensures.place

pub returns-clause-text : goal.returns-clause-text
returns-clause-text c =
    let points : List ℕ = c.args.points.now in
    let place : ℕ = c.label_len-end.result + 1 in
    take_all (length points - c.min.result) (drop c.min.result points) (omega (arith, length-drop c.min.result points))
    ∙ ap (λ n. drop n points) c.min.ensures ∙ drop_min place points ∙ ap (λ n. drop (n + 1) points) c.label_len-end.ensures.place
