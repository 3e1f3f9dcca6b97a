use Rattle.std.proofs.Common.{length, ltb, sym, subst, ap, ◌∙◌, arith}
use Rattle.std.proofs.lemmas.Bool.{false_from_ne_true, ltb-true}
use Rattle.label_patterns.specs.Matches.{HasItsSets}
use Rattle.label_patterns.specs.Rules.{Occurs}
use Rattle.label_patterns.specs.Tests.{occurs_in}
use Rattle.label_patterns.specs.Trees.{pattern}
use Rattle.label_patterns.proofs.AskingLemmas.{all-at, none-at, rule-read}
use Rattle.label_patterns.proofs.TestLemmas.{occurs-agrees}
use Rattle.valid_labels.proofs.MostLemmas.{same-test}
use Rattle.valid_labels.proofs.label_rules.matches_rule.Goals as goal

pub occurs-requires : goal.occurs-requires
occurs-requires c =
    let trees = c.args.rules.now in
    let inside = c.if-number-rules.true in
    subst (HasItsSets (length c.args.seen.now.sets)) (rule-read trees c.args.number c.index-rules-number.result inside c.index-rules-number.is)
    (all-at (HasItsSets (length c.args.seen.now.sets)) trees c.args.number c.requires inside)

pub returns-then-number-rules : goal.returns-then-number-rules
returns-then-number-rules c =
    let seen = c.args.seen.now in
    let tree = c.index-rules-number.result in
    same-test c.occurs.result (occurs_in seen (pattern tree)) (Occurs seen (pattern tree)) c.occurs.ensures (occurs-agrees seen (pattern tree))
    ∙ ap (occurs_in seen) (sym (rule-read c.args.rules.now c.args.number tree c.if-number-rules.true c.index-rules-number.is))

pub returns-else-number-rules : goal.returns-else-number-rules
returns-else-number-rules c =
    let number = c.args.number in
    let count = length c.args.rules.now in
    let beyond = c.if-number-rules.false in
    false_from_ne_true (ltb number count) (λ t. (let l = ltb-true number count t in omega (arith, l, beyond)))
    ∙ ap (occurs_in c.args.seen.now) (sym (none-at c.args.rules.now number (omega (arith, beyond))))
