use Rattle.std.proofs.Common.{ap, subst, ◌∙◌}
use Rattle.valid_labels.specs.Testing.{Testing, IsValidity}
use Rattle.valid_labels.proofs.testing.ValidityTest.judge.Goals as goal

pub returns-clause-validity : goal.returns-clause-validity
returns-clause-validity c =
    let same = c.segments-segments.ensures ∙ ap (λ (t : Testing). t.table) c.self.view_is ∙ c.see.ensures.same_table in
    subst (λ t. IsValidity t c.args.label.now c.validity.result) same c.validity.ensures
