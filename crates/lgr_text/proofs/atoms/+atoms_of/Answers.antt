use Rattle.std.proofs.Common.{◌≡◌, refl, sym, ap, subst, ◌∙◌}
use Rattle.label_patterns.specs.Patterns.{Group, Then, Either}
use Rattle.label_patterns.specs.Trees.{pattern}
use Rattle.lgr_text.specs.inner.Counts.{IsCount}
use Rattle.ruleset_text.specs.Limits.{atoms}
use Rattle.lgr_text.proofs.atoms.+atoms_of.Goals as goal

pub returns-in-Group : goal.returns-in-Group
returns-in-Group t c =
    let part = c.deref.result.now in
    let is : pattern c.args.tree.now ≡ Group (pattern part) =
    ap pattern c.in-Group.is ∙ ap (λ q. Group (pattern q)) (sym c.deref.ensures) in
    subst (λ p. IsCount (atoms p) c.sum.result) (sym is) (c.sum.ensures (atoms (pattern part)) 1 c.atoms_of.ensures refl)

pub returns-in-Then : goal.returns-in-Then
returns-in-Then t c =
    let first = c.deref-in-Then.result.now in
    let rest = c.deref-in-Then-2.result.now in
    let is : pattern c.args.tree.now ≡ Then (pattern first) (pattern rest) =
    ap pattern c.in-Then.is
    ∙ ap (λ q. Then (pattern q) (pattern c.in-Then.rest.value)) (sym c.deref-in-Then.ensures)
    ∙ ap (λ q. Then (pattern first) (pattern q)) (sym c.deref-in-Then-2.ensures) in
    subst (λ p. IsCount (atoms p) c.sum-in-Then.result) (sym is)
    (c.sum-in-Then.ensures (atoms (pattern first)) (atoms (pattern rest)) c.atoms_of-in-Then.ensures c.atoms_of-in-Then-2.ensures)

pub returns-in-Either : goal.returns-in-Either
returns-in-Either t c =
    let left = c.deref-in-Either.result.now in
    let right = c.deref-in-Either-2.result.now in
    let is : pattern c.args.tree.now ≡ Either (pattern left) (pattern right) =
    ap pattern c.in-Either.is
    ∙ ap (λ q. Either (pattern q) (pattern c.in-Either.right.value)) (sym c.deref-in-Either.ensures)
    ∙ ap (λ q. Either (pattern left) (pattern q)) (sym c.deref-in-Either-2.ensures) in
    subst (λ p. IsCount (atoms p) c.sum-in-Either.result) (sym is)
    (c.sum-in-Either.ensures (atoms (pattern left)) (atoms (pattern right)) c.atoms_of-in-Either.ensures c.atoms_of-in-Either-2.ensures)
