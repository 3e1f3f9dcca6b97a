use Rattle.std.proofs.Common.{◌≡◌, ◌+◌, ◌*◌, refl, sym, ap, subst, ◌∙◌}
use Rattle.lgr_text.specs.Known.{known as known_of}
use Rattle.lgr_text.specs.PartAtoms.{part_atoms}
use Rattle.lgr_text.specs.PartMatches.{rule_named}
use Rattle.lgr_text.specs.Records.{part as part_of, OfRule, Then, Choice, Times}
use Rattle.lgr_text.specs.inner.Counts.{IsCount}
use Rattle.ruleset_text.specs.Limits.{atoms}
use Rattle.lgr_text.proofs.atoms.+atoms_of_part.Goals as goal

pub returns-in-OfRule : goal.returns-in-OfRule
returns-in-OfRule t c =
    let known = known_of c.args.known in
    let name = c.as_slice.result.now in
    let is : part_of c.args.part.now ≡ OfRule name = ap part_of c.in-OfRule.is ∙ ap OfRule (sym c.as_slice.ensures) in
    subst (λ p. IsCount (part_atoms known p) c.sum.result) (sym is)
    (c.sum.ensures 1 (atoms (rule_named known name)) refl c.atoms_of_named.ensures)

pub returns-in-Then : goal.returns-in-Then
returns-in-Then t c =
    let known = known_of c.args.known in
    let first = c.deref.result.now in
    let rest = c.deref-in-Then.result.now in
    let is : part_of c.args.part.now ≡ Then (part_of first) (part_of rest) =
    ap part_of c.in-Then.is
    ∙ ap (λ q. Then (part_of q) (part_of c.in-Then.rest.value)) (sym c.deref.ensures)
    ∙ ap (λ q. Then (part_of first) (part_of q)) (sym c.deref-in-Then.ensures) in
    subst (λ p. IsCount (part_atoms known p) c.sum-in-Then.result) (sym is)
    (c.sum-in-Then.ensures (part_atoms known (part_of first)) (part_atoms known (part_of rest))
    c.atoms_of_part.ensures c.atoms_of_part-in-Then.ensures)

pub returns-in-Choice : goal.returns-in-Choice
returns-in-Choice t c =
    let known = known_of c.args.known in
    let left = c.deref-in-Choice.result.now in
    let right = c.deref-in-Choice-2.result.now in
    let is : part_of c.args.part.now ≡ Choice (part_of left) (part_of right) =
    ap part_of c.in-Choice.is
    ∙ ap (λ q. Choice (part_of q) (part_of c.in-Choice.right.value)) (sym c.deref-in-Choice.ensures)
    ∙ ap (λ q. Choice (part_of left) (part_of q)) (sym c.deref-in-Choice-2.ensures) in
    let a = part_atoms known (part_of left) in
    let b = part_atoms known (part_of right) in
    subst (λ p. IsCount (part_atoms known p) c.sum-in-Choice.result) (sym is)
    (c.sum-in-Choice.ensures 1 (a + b) refl (c.sum-both.ensures a b c.atoms_of_part-in-Choice.ensures c.atoms_of_part-in-Choice-2.ensures))

pub returns-in-Times : goal.returns-in-Times
returns-in-Times t c =
    let known = known_of c.args.known in
    let inner = c.deref-in-Times.result.now in
    let count = c.in-Times.count in
    let is : part_of c.args.part.now ≡ Times count (part_of inner) =
    ap part_of c.in-Times.is ∙ ap (λ q. Times count (part_of q)) (sym c.deref-in-Times.ensures) in
    let a = part_atoms known (part_of inner) in
    let once : IsCount (1 + a) c.sum-once.result = c.sum-once.ensures 1 a refl c.atoms_of_part-in-Times.ensures in
    subst (λ p. IsCount (part_atoms known p) c.product.result) (sym is)
    (subst (λ k. IsCount (k * (1 + a)) c.product.result) c.times_of.ensures (c.product.ensures (1 + a) once))
