use Rattle.std.proofs.Common.{◌≡◌, true, false, length, sym, ◌∙◌}
use Rattle.std.specs.Prelude.{Result, Ok, Err, IfOk, OnOk}
use Rattle.std.proofs.lemmas.Result.{IfOk-weaker}
use Rattle.label_patterns.specs.Matches.{HasItsSets}
use Rattle.label_patterns.specs.Rules.{is_context_rule}
use Rattle.label_patterns.specs.Trees.{pattern}
use Rattle.lgr_text.specs.Known.{known as known_of}
use Rattle.lgr_text.specs.PartMatches.{BeginsWith, MatchesAsPart, SaysRule, has_anchor}
use Rattle.lgr_text.specs.Records.{part as part_of}
use Rattle.lgr_text.specs.inner.Branches.{HasBranches}
use Rattle.lgr_text.proofs.BranchLemmas.{MakesRule, branches-anchored, branches-are, branches-have, branches-match, branches-say}
use Rattle.lgr_text.proofs.PlaceLemmas.{branches-form, IsRulePattern}
use Rattle.lgr_text.proofs.branches.pattern_of_rule.Goals as goal

pub returns-then-has_anchor-clause-known : goal.returns-then-has_anchor-clause-known
returns-then-has_anchor-clause-known c =
    let known = known_of c.args.known in
    let rule = part_of c.args.rule.now in
    let first = c.args.made.now.sets.items in
    let last = c.anchored_pattern.new.sets.items in
    IfOk-weaker c.anchored_pattern.result (λ tree. MakesRule known true first last (pattern tree) rule) (λ tree. HasItsSets (length last) (pattern tree))
    (λ tree made. branches-have known true rule first last (pattern tree) made) c.anchored_pattern.ensures.branches

pub returns-then-has_anchor-clause-branches : goal.returns-then-has_anchor-clause-branches
returns-then-has_anchor-clause-branches c =
    let known = known_of c.args.known in
    let rule = part_of c.args.rule.now in
    let first = c.args.made.now.sets.items in
    let last = c.anchored_pattern.new.sets.items in
    IfOk-weaker c.anchored_pattern.result (λ tree. MakesRule known true first last (pattern tree) rule) (λ tree. HasBranches (pattern tree))
    (λ tree made. branches-are known true rule first last (pattern tree) made) c.anchored_pattern.ensures.branches

pub returns-then-has_anchor-clause-pattern : goal.returns-then-has_anchor-clause-pattern
returns-then-has_anchor-clause-pattern c =
    let known = known_of c.args.known in
    let rule = part_of c.args.rule.now in
    let first = c.args.made.now.sets.items in
    let last = c.anchored_pattern.new.sets.items in
    IfOk-weaker c.anchored_pattern.result (λ tree. MakesRule known true first last (pattern tree) rule) (λ tree. SaysRule known last (pattern tree) rule)
    (λ tree made. branches-say known true rule first last (pattern tree) made) c.anchored_pattern.ensures.branches

pub returns-then-has_anchor-clause-part : goal.returns-then-has_anchor-clause-part
returns-then-has_anchor-clause-part c =
    let known = known_of c.args.known in
    let rule = part_of c.args.rule.now in
    let first = c.args.made.now.sets.items in
    let last = c.anchored_pattern.new.sets.items in
    IfOk-weaker c.anchored_pattern.result (λ tree. MakesRule known true first last (pattern tree) rule) (λ tree. MatchesAsPart known last (pattern tree) rule)
    (λ tree made. branches-match known true rule first last (pattern tree) made) c.anchored_pattern.ensures.branches

-- what follows from the value holds where there is one
on-ok : {X Y : Type 0} (r : Result X Y) (P : X → Type 0) (Q : Type 0) → ((x : X) → P x → Q) → IfOk r P → OnOk r Q
on-ok (Ok x) P Q f h = f x h
on-ok (Err e) P Q f h = tt

pub returns-then-has_anchor-clause-sets : goal.returns-then-has_anchor-clause-sets
returns-then-has_anchor-clause-sets c =
    let first = c.args.made.now.sets.items in
    let last = c.anchored_pattern.new.sets.items in
    on-ok c.anchored_pattern.result (λ tree. MakesRule (known_of c.args.known) true first last (pattern tree) (part_of c.args.rule.now))
    (BeginsWith last first) (λ tree made. made.kept) c.anchored_pattern.ensures.branches

pub returns-else-has_anchor-clause-known : goal.returns-else-has_anchor-clause-known
returns-else-has_anchor-clause-known c =
    let known = known_of c.args.known in
    let rule = part_of c.args.rule.now in
    let first = c.args.made.now.sets.items in
    let last = c.plain_pattern.new.sets.items in
    IfOk-weaker c.plain_pattern.result (λ tree. MakesRule known false first last (pattern tree) rule) (λ tree. HasItsSets (length last) (pattern tree))
    (λ tree made. branches-have known false rule first last (pattern tree) made) c.plain_pattern.ensures.branches

pub returns-else-has_anchor-clause-branches : goal.returns-else-has_anchor-clause-branches
returns-else-has_anchor-clause-branches c =
    let known = known_of c.args.known in
    let rule = part_of c.args.rule.now in
    let first = c.args.made.now.sets.items in
    let last = c.plain_pattern.new.sets.items in
    IfOk-weaker c.plain_pattern.result (λ tree. MakesRule known false first last (pattern tree) rule) (λ tree. HasBranches (pattern tree))
    (λ tree made. branches-are known false rule first last (pattern tree) made) c.plain_pattern.ensures.branches

pub returns-else-has_anchor-clause-pattern : goal.returns-else-has_anchor-clause-pattern
returns-else-has_anchor-clause-pattern c =
    let known = known_of c.args.known in
    let rule = part_of c.args.rule.now in
    let first = c.args.made.now.sets.items in
    let last = c.plain_pattern.new.sets.items in
    IfOk-weaker c.plain_pattern.result (λ tree. MakesRule known false first last (pattern tree) rule) (λ tree. SaysRule known last (pattern tree) rule)
    (λ tree made. branches-say known false rule first last (pattern tree) made) c.plain_pattern.ensures.branches

pub returns-else-has_anchor-clause-part : goal.returns-else-has_anchor-clause-part
returns-else-has_anchor-clause-part c =
    let known = known_of c.args.known in
    let rule = part_of c.args.rule.now in
    let first = c.args.made.now.sets.items in
    let last = c.plain_pattern.new.sets.items in
    IfOk-weaker c.plain_pattern.result (λ tree. MakesRule known false first last (pattern tree) rule) (λ tree. MatchesAsPart known last (pattern tree) rule)
    (λ tree made. branches-match known false rule first last (pattern tree) made) c.plain_pattern.ensures.branches

pub returns-else-has_anchor-clause-sets : goal.returns-else-has_anchor-clause-sets
returns-else-has_anchor-clause-sets c =
    let first = c.args.made.now.sets.items in
    let last = c.plain_pattern.new.sets.items in
    on-ok c.plain_pattern.result (λ tree. MakesRule (known_of c.args.known) false first last (pattern tree) (part_of c.args.rule.now))
    (BeginsWith last first) (λ tree made. made.kept) c.plain_pattern.ensures.branches

pub returns-then-has_anchor-clause-form : goal.returns-then-has_anchor-clause-form
returns-then-has_anchor-clause-form c =
    let known = known_of c.args.known in
    let rule = part_of c.args.rule.now in
    let first = c.args.made.now.sets.items in
    let last = c.anchored_pattern.new.sets.items in
    IfOk-weaker c.anchored_pattern.result (λ tree. MakesRule known true first last (pattern tree) rule) (λ tree. IsRulePattern (pattern tree))
    (λ tree made. branches-form (pattern tree) (branches-are known true rule first last (pattern tree) made)) c.anchored_pattern.ensures.branches

pub returns-else-has_anchor-clause-form : goal.returns-else-has_anchor-clause-form
returns-else-has_anchor-clause-form c =
    let known = known_of c.args.known in
    let rule = part_of c.args.rule.now in
    let first = c.args.made.now.sets.items in
    let last = c.plain_pattern.new.sets.items in
    IfOk-weaker c.plain_pattern.result (λ tree. MakesRule known false first last (pattern tree) rule) (λ tree. IsRulePattern (pattern tree))
    (λ tree made. branches-form (pattern tree) (branches-are known false rule first last (pattern tree) made)) c.plain_pattern.ensures.branches

pub returns-then-has_anchor-clause-anchor : goal.returns-then-has_anchor-clause-anchor
returns-then-has_anchor-clause-anchor c =
    let known = known_of c.args.known in
    let rule = part_of c.args.rule.now in
    let first = c.args.made.now.sets.items in
    let last = c.anchored_pattern.new.sets.items in
    IfOk-weaker c.anchored_pattern.result (λ tree. MakesRule known true first last (pattern tree) rule) (λ tree. is_context_rule (pattern tree) ≡ has_anchor known rule)
    (λ tree made. branches-anchored known true rule first last (pattern tree) made ∙ sym c.if-has_anchor.true ∙ c.has_anchor.ensures) c.anchored_pattern.ensures.branches

pub returns-else-has_anchor-clause-anchor : goal.returns-else-has_anchor-clause-anchor
returns-else-has_anchor-clause-anchor c =
    let known = known_of c.args.known in
    let rule = part_of c.args.rule.now in
    let first = c.args.made.now.sets.items in
    let last = c.plain_pattern.new.sets.items in
    IfOk-weaker c.plain_pattern.result (λ tree. MakesRule known false first last (pattern tree) rule) (λ tree. is_context_rule (pattern tree) ≡ has_anchor known rule)
    (λ tree made. branches-anchored known false rule first last (pattern tree) made ∙ sym c.if-has_anchor.false ∙ c.has_anchor.ensures) c.plain_pattern.ensures.branches
