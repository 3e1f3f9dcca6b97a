use Rattle.std.proofs.Common.{refl, sym, subst, ◌∙◌, if◌then◌else◌}
use Rattle.lgr_text.specs.Known.{known as known_of}
use Rattle.lgr_text.specs.PartAtoms.{anchored_atoms, part_atoms}
use Rattle.lgr_text.specs.Records.{part as part_of}
use Rattle.lgr_text.specs.inner.Counts.{IsCount}
use Rattle.lgr_text.proofs.atoms.atoms_of_rule.Goals as goal

pub returns-then-has_anchor : goal.returns-then-has_anchor
returns-then-has_anchor c =
    let known = known_of c.args.known in
    let rule = part_of c.args.rule.now in
    subst (λ b. IsCount (if b then anchored_atoms known 0 rule else part_atoms known rule) c.atoms_of_anchored.result)
    (sym (sym c.has_anchor.ensures ∙ c.if-has_anchor.true)) (c.atoms_of_anchored.ensures 0 refl)

pub returns-else-has_anchor : goal.returns-else-has_anchor
returns-else-has_anchor c =
    let known = known_of c.args.known in
    let rule = part_of c.args.rule.now in
    subst (λ b. IsCount (if b then anchored_atoms known 0 rule else part_atoms known rule) c.atoms_of_part.result)
    (sym (sym c.has_anchor.ensures ∙ c.if-has_anchor.false)) c.atoms_of_part.ensures
