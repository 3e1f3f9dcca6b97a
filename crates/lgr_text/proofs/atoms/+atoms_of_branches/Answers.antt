use Rattle.std.proofs.Common.{◌≡◌, ℕ, ◌+◌, refl, sym, ap, subst, ◌∙◌}
use Rattle.std.specs.declared.alloc.Global
use Rattle.std.specs.declared.boxed.Box
use Rattle.label_patterns.specs.Patterns.{Either}
use Rattle.label_patterns.specs.Trees.{pattern}
use Rattle.label_patterns.specs.declared.pattern_tree.PatternTree.{PatternTree}
use Rattle.label_patterns.specs.declared.pattern_tree.PatternTree.TheVariants as tree
use Rattle.lgr_text.specs.PartAtoms.{branch_atoms}
use Rattle.lgr_text.specs.inner.Counts.{IsCount}
use Rattle.ruleset_text.specs.Limits.{atoms}
use Rattle.lgr_text.proofs.atoms.+atoms_of_branches.Goals as goal

pub returns-in-Either : goal.returns-in-Either
returns-in-Either t c n is =
    let branch = c.deref.result.now in
    let others = c.deref-in-Either.result.now in
    let either : pattern c.args.tree.now ≡ Either (pattern branch) (pattern others) =
    ap pattern c.in-Either.is
    ∙ ap (λ q. Either (pattern q) (pattern c.in-Either.others.value)) (sym c.deref.ensures)
    ∙ ap (λ q. Either (pattern branch) (pattern q)) (sym c.deref-in-Either.ensures) in
    subst (λ p. IsCount (branch_atoms n p) c.sum.result) (sym either)
    (c.sum.ensures (n + atoms (pattern branch)) (branch_atoms n (pattern others))
    (c.sum-first.ensures n (atoms (pattern branch)) is c.atoms_of.ensures) (c.atoms_of_branches-others.ensures n is))

abbrev Boxed : Type 0
Boxed = Box.Box PatternTree Global.Global

-- one branch
alone : (n : ℕ) (p : PatternTree) → ((x y : Boxed) → p ≡ tree.Either x y → ⊥) → branch_atoms n (pattern p) ≡ n + atoms (pattern p)
alone n (tree.Point c) other = refl
alone n (tree.Set k) other = refl
alone n tree.Any other = refl
alone n tree.Start other = refl
alone n tree.End other = refl
alone n tree.Anchor other = refl
alone n (tree.Group' b p) other = refl
alone n (tree.Optional' b p) other = refl
alone n (tree.Many' b p) other = refl
alone n (tree.Then' b p c q) other = refl
alone n (tree.Either' b p c q) other =
    absurd (other (record { ptr = b.ptr; alloc = b.alloc; value = p }) (record { ptr = c.ptr; alloc = c.alloc; value = q }) refl)

pub returns-in_default : goal.returns-in_default
returns-in_default t c n is =
    subst (λ k. IsCount k c.sum-in_default.result) (sym (alone n c.args.tree.now c.in_default.not-Either))
    (c.sum-in_default.ensures n (atoms (pattern c.args.tree.now)) is c.atoms_of-in_default.ensures)
