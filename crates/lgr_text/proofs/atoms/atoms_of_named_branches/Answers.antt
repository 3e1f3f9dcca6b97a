use Rattle.std.proofs.Common.{◌≡◌, get_or, map, sym, ap, subst, ◌∙◌}
use Rattle.std.proofs.lemmas.List.{get_or-map}
use Rattle.label_patterns.specs.Patterns.{Anchor}
use Rattle.label_patterns.specs.Trees.{pattern}
use Rattle.lgr_text.specs.Known.{known as known_of}
use Rattle.lgr_text.specs.PartAtoms.{branch_atoms}
use Rattle.lgr_text.specs.PartMatches.{rule_named}
use Rattle.lgr_text.specs.inner.Counts.{IsCount}
use Rattle.lgr_text.proofs.atoms.atoms_of_named_branches.Goals as goal

pub returns-then-number-known : goal.returns-then-number-known
returns-then-number-known c n is =
    let rules = c.args.known.rules.now in
    let number = c.number_of-number.result in
    let rule = get_or rules number c.index-known-number.result in
    let same : rule_named (known_of c.args.known) c.args.name.now ≡ pattern rule =
    ap (λ k. get_or (map pattern rules) k Anchor) (sym c.number_of-number.ensures.is)
    ∙ get_or-map pattern rules number c.index-known-number.result Anchor c.if-number-known.true in
    subst (λ p. IsCount (branch_atoms n p) c.atoms_of_branches.result) (sym same) (c.atoms_of_branches.ensures n is)
