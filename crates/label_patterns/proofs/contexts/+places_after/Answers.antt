use Rattle.std.proofs.Common.{◌≡◌, ◌≤◌, ℕ, true, length, sym, subst, ap, ◌∙◌}
use Rattle.std.specs.Prelude.{◌↔◌}
use Rattle.label_patterns.specs.declared.pattern_tree.PatternTree.{PatternTree}
use Rattle.label_patterns.specs.Places.{Has, AreStarts}
use Rattle.label_patterns.specs.Matches.{Matches}
use Rattle.label_patterns.specs.Rules.{is_anchor, BeginsAfter}
use Rattle.label_patterns.specs.Trees.{pattern}
use Rattle.label_patterns.proofs.ContextLemmas.{none-after, items-after}
use Rattle.label_patterns.proofs.contexts.+places_after.Goals as goal

pub returns-in-Anchor : goal.returns-in-Anchor
returns-in-Anchor t c =
    let s = c.args.seen.now in
    let P : PatternTree → Type 0 = λ p. (j : ℕ) → Has c.all_places.result j ↔ ((j ≤ length s.label) × BeginsAfter s (pattern p) j) in
    subst P (sym c.in-Anchor.is) (none-after s c.len.result c.all_places.result c.len.ensures.is c.all_places.ensures)

pub returns-then-is_anchor : goal.returns-then-is_anchor
returns-then-is_anchor t c =
    let s = c.args.seen.now in
    let P : PatternTree → Type 0 = λ p. (j : ℕ) → Has c.starts.result j ↔ ((j ≤ length s.label) × BeginsAfter s (pattern p) j) in
    let place : is_anchor (pattern c.in-Then.item.value) ≡ true = ap (λ p. is_anchor (pattern p)) (sym c.deref.ensures) ∙ sym c.is_anchor.ensures ∙ c.if-is_anchor.true in
    subst P (sym c.in-Then.is)
    (items-after (pattern c.in-Then.item.value) (pattern c.in-Then.rest.value) s c.len-then-is_anchor.result c.all_places-then-is_anchor.result c.starts.result place c.len-then-is_anchor.ensures.is c.all_places-then-is_anchor.ensures
    (subst (λ p. AreStarts (Matches s (pattern p)) c.all_places-then-is_anchor.result c.starts.result) c.deref-then-is_anchor.ensures c.starts.ensures))
