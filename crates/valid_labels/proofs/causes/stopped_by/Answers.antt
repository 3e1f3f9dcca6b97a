use Rattle.std.proofs.Common.{◌≡◌, sym, ap, ◌∙◌}
use Rattle.std.proofs.lemmas.Option.{same_Some}
use Rattle.valid_labels.specs.Causes.{last_condition}
use Rattle.valid_labels.proofs.causes.stopped_by.Goals as goal

pub loop-entry-preserved : goal.loop-entry-preserved
loop-entry-preserved c =
    let e = c.in-Some.entry in
    let condition : c.condition-found.result ≡ e.condition = sym (same_Some e.condition c.condition-found.result c.condition-found.ensures) in
    ap (λ o. last_condition o c.next.new.self) condition ∙ ap (last_condition c.loop-entry.found) (sym c.in-Some.ensures.steps) ∙ c.loop-entry.invariant
