use Rattle.std.proofs.Common.{◌≡◌, ◌≢◌, true, false, sym, subst, ap, ◌∙◌}
use Rattle.std.proofs.lemmas.Slice.Eq.{bytes_eq-Decides}
use Rattle.idn2_cli.specs.inner.Dispositions.{AreRulesOf, HasReadings, Listing, appearance}
use Rattle.idn2_cli.proofs.modes.label_dispositions.LabelDispositions.decided.Goals as goal
use Rattle.idn2_cli.proofs.modes.label_dispositions.LabelDispositions.decided.Goals.{in-None, in-Some+else-eq}

pub without_readings-requires : goal.without_readings-requires
without_readings-requires g c = subst (HasReadings c.self.inside.table.now c.self.inside.label.now c.self.inside.of_table.now.by) c.in-None.is c.self.invariant.4

pub returns-then-eq-clause-told : goal.returns-then-eq-clause-told
returns-then-eq-clause-told g c =
    let table = c.self.inside.table.now in
    let label = c.self.inside.label.now in
    let v = c.args.variant.now in
    let same = (bytes_eq-Decides v label).0 (sym c.if-eq.ensures) in
    c.of_own.ensures table label c.self.invariant.0 c.self.invariant.1 c.self.invariant.2 c.self.invariant.3 ∙ ap (appearance table label) (sym same)
    ∙ ap (λ (of : Listing). appearance of.table of.label v) c.self.view_is

pub returns-clause-told : goal.returns-clause-told
returns-clause-told g c =
    let table = c.self.inside.table.now in
    let label = c.self.inside.label.now in
    let v = c.args.variant.now in
    let rules = subst (λ (of : Listing). AreRulesOf of.table v (g.R.LabelRules.matched c.args.rules.now)) (sym c.self.view_is) c.requires.rules in
    let seen = ap (λ (of : Listing). appearance of.table of.label v) c.self.view_is in
    elim c.match-self.branch [
      | in-None w ↦ w.result-is ∙ w.without_readings.ensures table label v c.self.invariant.2 rules ∙ seen
      | in-Some+else-eq w ↦
          let read = subst (HasReadings table label c.self.inside.of_table.now.by) w.in-Some.is c.self.invariant.4 in
          let other : v ≢ label = λ same. (let clash : true ≡ false = sym ((bytes_eq-Decides v label).1 same) ∙ sym w.if-eq.ensures in cc) in
          w.result-is ∙ w.appearance_read.ensures.told table label c.self.invariant.0 c.self.invariant.2 read.0 read.1 rules other ∙ seen
    ]
