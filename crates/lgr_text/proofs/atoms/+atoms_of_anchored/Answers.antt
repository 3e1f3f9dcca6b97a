use Rattle.std.proofs.Common.{◌≡◌, ℕ, ◌+◌, true, false, refl, sym, ap, subst, ◌∙◌, if◌then◌else◌}
use Rattle.std.specs.declared.alloc.Global
use Rattle.std.specs.declared.boxed.Box
use Rattle.lgr_text.specs.Known.{known as known_of, Known}
use Rattle.lgr_text.specs.PartAtoms.{anchored_atoms, part_atoms}
use Rattle.lgr_text.specs.PartMatches.{has_anchor}
use Rattle.lgr_text.specs.Records.{part as part_of, OfRule, Then, Choice}
use Rattle.lgr_text.specs.declared.records.PartTree.{PartTree}
use Rattle.lgr_text.specs.declared.records.PartTree.TheVariants as tree
use Rattle.lgr_text.specs.declared.records.Reference.{Reference}
use Rattle.lgr_text.specs.inner.Counts.{IsCount}
use Rattle.lgr_text.proofs.atoms.+atoms_of_anchored.Goals as goal

pub returns-then-has_anchor : goal.returns-then-has_anchor
returns-then-has_anchor t c n is =
    let known = known_of c.args.known in
    let first = c.deref-then-has_anchor-2.result.now in
    let rest = c.deref-then-has_anchor.result.now in
    let both : part_of c.args.part.now ≡ Then (part_of first) (part_of rest) =
    ap part_of c.in-Then.is
    ∙ ap (λ q. Then (part_of q) (part_of c.in-Then.rest.value)) (sym c.deref-then-has_anchor-2.ensures)
    ∙ ap (λ q. Then (part_of first) (part_of q)) (sym c.deref-then-has_anchor.ensures) in
    let has : has_anchor known (part_of first) ≡ true =
    ap (λ q. has_anchor known (part_of q)) (c.deref-then-has_anchor-2.ensures ∙ sym c.deref.ensures) ∙ sym c.has_anchor.ensures ∙ c.if-has_anchor.true in
    let before = n + part_atoms known (part_of first) in
    let after = n + part_atoms known (part_of rest) in
    subst (λ p. IsCount (anchored_atoms known n p) c.atoms_of_anchored.result) (sym both)
    (subst (λ b. IsCount (if b then anchored_atoms known after (part_of first) else anchored_atoms known before (part_of rest)) c.atoms_of_anchored.result)
    (sym has) (c.atoms_of_anchored.ensures after (c.sum-beside.ensures n (part_atoms known (part_of rest)) is c.atoms_of_part.ensures)))

pub returns-else-has_anchor : goal.returns-else-has_anchor
returns-else-has_anchor t c n is =
    let known = known_of c.args.known in
    let first = c.deref-else-has_anchor.result.now in
    let rest = c.deref-else-has_anchor-2.result.now in
    let both : part_of c.args.part.now ≡ Then (part_of first) (part_of rest) =
    ap part_of c.in-Then.is
    ∙ ap (λ q. Then (part_of q) (part_of c.in-Then.rest.value)) (sym c.deref-else-has_anchor.ensures)
    ∙ ap (λ q. Then (part_of first) (part_of q)) (sym c.deref-else-has_anchor-2.ensures) in
    let hasnt : has_anchor known (part_of first) ≡ false =
    ap (λ q. has_anchor known (part_of q)) (c.deref-else-has_anchor.ensures ∙ sym c.deref.ensures) ∙ sym c.has_anchor.ensures ∙ c.if-has_anchor.false in
    let before = n + part_atoms known (part_of first) in
    let after = n + part_atoms known (part_of rest) in
    let result = c.atoms_of_anchored-else-has_anchor.result in
    subst (λ p. IsCount (anchored_atoms known n p) result) (sym both)
    (subst (λ b. IsCount (if b then anchored_atoms known after (part_of first) else anchored_atoms known before (part_of rest)) result)
    (sym hasnt) (c.atoms_of_anchored-else-has_anchor.ensures before
    (c.sum-beside-else-has_anchor.ensures n (part_atoms known (part_of first)) is c.atoms_of_part-else-has_anchor.ensures)))

pub returns-in-Choice : goal.returns-in-Choice
returns-in-Choice t c n is =
    let known = known_of c.args.known in
    let left = c.deref-in-Choice.result.now in
    let right = c.deref-in-Choice-2.result.now in
    let both : part_of c.args.part.now ≡ Choice (part_of left) (part_of right) =
    ap part_of c.in-Choice.is
    ∙ ap (λ q. Choice (part_of q) (part_of c.in-Choice.right.value)) (sym c.deref-in-Choice.ensures)
    ∙ ap (λ q. Choice (part_of left) (part_of q)) (sym c.deref-in-Choice-2.ensures) in
    subst (λ p. IsCount (anchored_atoms known n p) c.sum.result) (sym both)
    (c.sum.ensures (anchored_atoms known n (part_of left)) (anchored_atoms known n (part_of right))
    (c.atoms_of_anchored-these.ensures n is) (c.atoms_of_anchored-those.ensures n is))

pub returns-in-OfRule : goal.returns-in-OfRule
returns-in-OfRule t c n is =
    let known = known_of c.args.known in
    let named : part_of c.args.part.now ≡ OfRule c.as_slice.result.now = ap part_of c.in-OfRule.is ∙ ap OfRule (sym c.as_slice.ensures) in
    subst (λ p. IsCount (anchored_atoms known n p) c.atoms_of_named_branches.result) (sym named)
    (c.atoms_of_named_branches.ensures (n + 1) (c.sum-in-OfRule.ensures n 1 is refl))

abbrev Boxed : Type 0
Boxed = Box.Box PartTree Global.Global

-- what has no further parts, or is counted
alone : (known : Known) (n : ℕ) (p : PartTree) → ((x y : Boxed) → p ≡ tree.Then x y → ⊥) → ((x y : Boxed) → p ≡ tree.Choice x y → ⊥)
    → ((r : Reference) → p ≡ tree.OfRule r → ⊥) → anchored_atoms known n (part_of p) ≡ n + part_atoms known (part_of p)
alone known n (tree.Literal points) no_row no_choice no_rule = refl
alone known n tree.Any no_row no_choice no_rule = refl
alone known n (tree.Of class) no_row no_choice no_rule = refl
alone known n tree.Start no_row no_choice no_rule = refl
alone known n tree.End no_row no_choice no_rule = refl
alone known n tree.Anchor no_row no_choice no_rule = refl
alone known n (tree.OfRule r) no_row no_choice no_rule = absurd (no_rule r refl)
alone known n (tree.Then' b p c q) no_row no_choice no_rule =
    absurd (no_row (record { ptr = b.ptr; alloc = b.alloc; value = p }) (record { ptr = c.ptr; alloc = c.alloc; value = q }) refl)
alone known n (tree.Choice' b p c q) no_row no_choice no_rule =
    absurd (no_choice (record { ptr = b.ptr; alloc = b.alloc; value = p }) (record { ptr = c.ptr; alloc = c.alloc; value = q }) refl)
alone known n (tree.Times' count b p) no_row no_choice no_rule = refl

pub returns-in_default : goal.returns-in_default
returns-in_default t c n is =
    let known = known_of c.args.known in
    let part = part_of c.args.part.now in
    let same = alone known n c.args.part.now c.in_default.not-Then c.in_default.not-Choice c.in_default.not-OfRule in
    subst (λ k. IsCount k c.sum-in_default.result) (sym same)
    (c.sum-in_default.ensures n (part_atoms known part) is c.atoms_of_part-in_default.ensures)
