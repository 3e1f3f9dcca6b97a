use Rattle.std.proofs.Common.{◌≡◌, ◌||◌, false, true, [], map, Some, None, refl, sym, ap, subst, ◌∙◌, if◌then◌else◌}
use Rattle.std.proofs.lemmas.Result.{IfOk-weaker}
use Rattle.std.specs.Option.{option_or}
use Rattle.std.specs.declared.alloc.Global
use Rattle.std.specs.declared.boxed.Box
use Rattle.label_patterns.specs.Patterns as patterns
use Rattle.label_patterns.specs.Trees.{pattern}
use Rattle.lgr_text.specs.Known.{known as known_of, Known}
use Rattle.lgr_text.specs.LabelEnds.{begins_label, ends_label}
use Rattle.lgr_text.specs.PartMatches.{has_anchor, part_fault, rule_named, then_fault, times_fault}
use Rattle.lgr_text.specs.Records.{part as part_of, Part, Then, Choice, OfRule}
use Rattle.lgr_text.specs.declared.records.PartTree.{PartTree}
use Rattle.lgr_text.specs.declared.records.PartTree.TheVariants as tree
use Rattle.lgr_text.specs.declared.records.Reference.{Reference}
use Rattle.lgr_text.specs.declared.rule_error.RuleFault.TheVariants.{Misplaced, NotSupported}
use Rattle.lgr_text.specs.inner.Branches.{followed, preceded}
use Rattle.lgr_text.proofs.BranchLemmas.{MakesRule, anchor-made, choice-made, followed-made, named-made, preceded-made}
use Rattle.lgr_text.specs.inner.Items.{Appends, Follows}
use Rattle.lgr_text.proofs.PartLemmas.{parts-apart}
use Rattle.lgr_text.proofs.branches.+anchored_pattern.Goals as goal

pub returns-then-has_anchor-clause-branches : goal.returns-then-has_anchor-clause-branches
returns-then-has_anchor-clause-branches t c =
    let known = known_of c.args.known in
    let part = part_of c.args.part.now in
    let first = c.deref-then-has_anchor.result.now in
    let rest = c.deref-then-has_anchor-2.result.now in
    let given = c.deref-then-has_anchor-3.result.now in
    let is : part ≡ Then (part_of first) (part_of rest) =
    ap part_of c.in-Then.is
    ∙ ap (λ q. Then (part_of q) (part_of c.in-Then.rest.value)) (sym c.deref-then-has_anchor.ensures)
    ∙ ap (λ q. Then (part_of first) (part_of q)) (sym c.deref-then-has_anchor-2.ensures) in
    let old = c.args.sets.now.items in
    let between = c.anchored_pattern.new.sets.items in
    let new = c.push_following.new.sets.items in
    let items = map pattern c.push_following.new.items.items in
    let inner = pattern c.in_ok-tree-in-Then.tree in
    let after : Follows known between new [] items (part_of rest) =
    subst (λ l. Follows known between new (map pattern l) items (part_of rest)) c.new-items.ensures.items c.in_ok-push_following-in-Then.ensures.items in
    let made : MakesRule known true old new (followed items inner) (Then (part_of first) (part_of rest)) =
    followed-made known (part_of first) (part_of rest) old between new items inner c.in_ok-tree-in-Then.ensures.branches after in
    IfOk-weaker c.followed.result (λ row. pattern row ≡ followed (map pattern given) inner) (λ row. MakesRule known true old new (pattern row) part)
    (λ row e. subst (MakesRule known true old new (pattern row)) (sym is)
    (subst (λ p. MakesRule known true old new p (Then (part_of first) (part_of rest)))
    (sym (e ∙ ap (λ l. followed (map pattern l) inner) c.deref-then-has_anchor-3.ensures.value)) made))
    c.followed.ensures.tree

pub push_following-requires-clause-start : goal.push_following-requires-clause-start
push_following-requires-clause-start t c =
    let known = known_of c.args.known in
    let apart = parts-apart known (part_of c.deref.result.now) (part_of c.deref-in-Then.result.now) c.in_ok-check_then-in-Then.ensures in
    subst (λ q. begins_label (rule_named known) (part_of q) ≡ false) (c.deref-in-Then.ensures ∙ sym c.deref-then-has_anchor-2.ensures) apart.1

pub returns-in-Then-clause-branches : goal.returns-in-Then-clause-branches
returns-in-Then-clause-branches t c =
    let known = known_of c.args.known in
    let part = part_of c.args.part.now in
    let first = c.deref-else-has_anchor.result.now in
    let rest = c.deref-else-has_anchor-2.result.now in
    let given = c.deref-else-has_anchor-3.result.now in
    let is : part ≡ Then (part_of first) (part_of rest) =
    ap part_of c.in-Then.is
    ∙ ap (λ q. Then (part_of q) (part_of c.in-Then.rest.value)) (sym c.deref-else-has_anchor.ensures)
    ∙ ap (λ q. Then (part_of first) (part_of q)) (sym c.deref-else-has_anchor-2.ensures) in
    let old = c.args.sets.now.items in
    let between = c.push_part.new.sets.items in
    let new = c.anchored_pattern-else-has_anchor.new.sets.items in
    let items = map pattern c.push_part.new.items.items in
    let inner = pattern c.in_ok-tree-in-Then-2.tree in
    let before : Appends known old between [] items (part_of first) =
    subst (λ l. Appends known old between (map pattern l) items (part_of first)) c.new-items.ensures.items c.in_ok-push_part-in-Then.ensures.items in
    let sound : then_fault known (part_of first) (part_of rest) ≡ None =
    subst (λ q. then_fault known (part_of q) (part_of rest) ≡ None) (c.deref.ensures ∙ sym c.deref-else-has_anchor.ensures)
    (subst (λ q. then_fault known (part_of c.deref.result.now) (part_of q) ≡ None)
    (c.deref-in-Then.ensures ∙ sym c.deref-else-has_anchor-2.ensures) c.in_ok-check_then-in-Then.ensures) in
    let made : MakesRule known true old new (preceded items inner) (Then (part_of first) (part_of rest)) =
    preceded-made known (part_of first) (part_of rest) old between new items inner sound before c.in_ok-tree-in-Then-2.ensures.branches in
    IfOk-weaker c.preceded.result (λ row. pattern row ≡ preceded (map pattern given) inner) (λ row. MakesRule known true old new (pattern row) part)
    (λ row e. subst (MakesRule known true old new (pattern row)) (sym is)
    (subst (λ p. MakesRule known true old new p (Then (part_of first) (part_of rest)))
    (sym (e ∙ ap (λ l. preceded (map pattern l) inner) c.deref-else-has_anchor-3.ensures.value)) made))
    c.preceded.ensures.tree

pub returns-in-Choice-clause-branches : goal.returns-in-Choice-clause-branches
returns-in-Choice-clause-branches t c =
    let known = known_of c.args.known in
    let left = c.deref-in-Choice-3.result.now in
    let right = c.deref-in-Choice-4.result.now in
    let is : part_of c.args.part.now ≡ Choice (part_of left) (part_of right) =
    ap part_of c.in-Choice.is
    ∙ ap (λ q. Choice (part_of q) (part_of c.in-Choice.right.value)) (sym c.deref-in-Choice-3.ensures)
    ∙ ap (λ q. Choice (part_of left) (part_of q)) (sym c.deref-in-Choice-4.ensures) in
    let old = c.args.sets.now.items in
    let between = c.anchored_pattern-in-Choice.new.sets.items in
    let new = c.anchored_pattern-in-Choice-2.new.sets.items in
    subst (MakesRule known true old new (pattern c.in_ok-joined-in-Choice.field-0)) (sym is)
    (subst (λ p. MakesRule known true old new p (Choice (part_of left) (part_of right))) (sym c.in_ok-joined-in-Choice.ensures)
    (choice-made known (part_of left) (part_of right) old between new (pattern c.in_ok-tree-in-Choice.tree) (pattern c.in_ok-others-in-Choice.others)
    c.in_ok-tree-in-Choice.ensures.branches c.in_ok-others-in-Choice.ensures.branches))

pub returns-in-OfRule-clause-branches : goal.returns-in-OfRule-clause-branches
returns-in-OfRule-clause-branches t c =
    let known = known_of c.args.known in
    let name = c.as_slice.result.now in
    let part = part_of c.args.part.now in
    let sets = c.args.sets.now.items in
    let is : part ≡ OfRule name = ap part_of c.in-OfRule.is ∙ ap OfRule (sym c.as_slice.ensures) in
    let made : MakesRule known true sets sets (rule_named known name) (OfRule name) =
    named-made known name sets (subst (λ (p : Part). has_anchor known p ≡ true) is c.requires.anchored) c.requires.rules c.requires.branches in
    IfOk-weaker c.named_pattern.result (λ tree. pattern tree ≡ rule_named known name) (λ tree. MakesRule known true sets sets (pattern tree) part)
    (λ tree e. subst (MakesRule known true sets sets (pattern tree)) (sym is)
    (subst (λ p. MakesRule known true sets sets p (OfRule name)) (sym e) made))
    c.named_pattern.ensures.rule

pub returns-in-Anchor-clause-branches : goal.returns-in-Anchor-clause-branches
returns-in-Anchor-clause-branches t c =
    let known = known_of c.args.known in
    let sets = c.args.sets.now.items in
    subst (MakesRule known true sets sets patterns.Anchor) (sym (ap part_of c.in-Anchor.is)) (anchor-made known sets)

-- what is counted has no anchor, nor has what is no row, choice or rule
counted : (known : Known) (p : Part) → has_anchor known p ≡ true → option_or (times_fault known p) (part_fault known p) ≡ Some NotSupported
counted known p anchored =
    ap (λ b. option_or (if b then Some NotSupported else if begins_label (rule_named known) p || ends_label (rule_named known) p then Some Misplaced else None) (part_fault known p)) anchored

abbrev Boxed : Type 0
Boxed = Box.Box PartTree Global.Global

other : (known : Known) (p : PartTree) → has_anchor known (part_of p) ≡ true → ((x y : Boxed) → p ≡ tree.Then x y → ⊥)
    → ((x y : Boxed) → p ≡ tree.Choice x y → ⊥) → ((r : Reference) → p ≡ tree.OfRule r → ⊥) → (p ≡ tree.Anchor → ⊥)
    → part_fault known (part_of p) ≡ Some NotSupported
other known (tree.Literal points) anchored no_row no_choice no_rule no_anchor = absurd (cc)
other known tree.Any anchored no_row no_choice no_rule no_anchor = absurd (cc)
other known (tree.Of class) anchored no_row no_choice no_rule no_anchor = absurd (cc)
other known tree.Start anchored no_row no_choice no_rule no_anchor = absurd (cc)
other known tree.End anchored no_row no_choice no_rule no_anchor = absurd (cc)
other known tree.Anchor anchored no_row no_choice no_rule no_anchor = absurd (no_anchor refl)
other known (tree.OfRule r) anchored no_row no_choice no_rule no_anchor = absurd (no_rule r refl)
other known (tree.Then' b p c q) anchored no_row no_choice no_rule no_anchor =
    absurd (no_row (record { ptr = b.ptr; alloc = b.alloc; value = p }) (record { ptr = c.ptr; alloc = c.alloc; value = q }) refl)
other known (tree.Choice' b p c q) anchored no_row no_choice no_rule no_anchor =
    absurd (no_choice (record { ptr = b.ptr; alloc = b.alloc; value = p }) (record { ptr = c.ptr; alloc = c.alloc; value = q }) refl)
other known (tree.Times' count b p) anchored no_row no_choice no_rule no_anchor = counted known (part_of p) anchored

pub returns : goal.returns
returns t c = record {
  branches = tt;
  rules = tt;
  fault = other (known_of c.args.known) c.args.part.now c.requires.anchored
      c.in_default.not-Then c.in_default.not-Choice c.in_default.not-OfRule c.in_default.not-Anchor;
}
