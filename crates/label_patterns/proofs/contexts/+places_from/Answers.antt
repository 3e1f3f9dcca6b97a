use Rattle.std.proofs.Common.{◌≡◌, ℕ, false, sym, subst, ap, ◌∙◌}
use Rattle.std.specs.Prelude.{◌↔◌}
use Rattle.label_patterns.specs.declared.pattern_tree.PatternTree.{PatternTree}
use Rattle.label_patterns.specs.Places.{Has, AreEnds}
use Rattle.label_patterns.specs.Matches.{Matches}
use Rattle.label_patterns.specs.Rules.{is_anchor, Before}
use Rattle.label_patterns.specs.Trees.{pattern}
use Rattle.label_patterns.proofs.ContextLemmas.{item-before}
use Rattle.label_patterns.proofs.contexts.+places_from.Goals as goal

pub returns-else-is_anchor : goal.returns-else-is_anchor
returns-else-is_anchor t c =
    let s = c.args.seen.now in
    let P : ℕ → PatternTree → Type 0 = λ n p. (i : ℕ) → Has c.places_from.result i ↔ ((k : ℕ) × Has n k × Before s (pattern p) k i) in
    let other : is_anchor (pattern c.in-Then.item.value) ≡ false = ap (λ p. is_anchor (pattern p)) (sym c.deref.ensures) ∙ sym c.is_anchor.ensures ∙ c.if-is_anchor.false in
    subst (P c.args.places) (sym c.in-Then.is)
    (item-before (pattern c.in-Then.item.value) (pattern c.in-Then.rest.value) s c.args.places c.ends.result c.places_from.result other
    (subst (λ p. AreEnds (Matches s (pattern p)) c.args.places c.ends.result) c.deref-else-is_anchor-2.ensures c.ends.ensures)
    (subst (P c.ends.result) c.deref-else-is_anchor.ensures c.places_from.ensures))
