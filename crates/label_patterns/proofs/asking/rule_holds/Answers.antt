use Rattle.std.proofs.Common.{length, subst}
use Rattle.label_patterns.specs.Matches.{HasItsSets}
use Rattle.label_patterns.proofs.AskingLemmas.{all-at, rule-read}
use Rattle.label_patterns.proofs.asking.rule_holds.Goals as goal

pub holds-requires-clause-known : goal.holds-requires-clause-known
holds-requires-clause-known c =
    let trees = c.args.rules.now in
    let inside = c.if-number-rules.true in
    subst (HasItsSets (length c.args.seen.now.sets)) (rule-read trees c.args.number c.index-rules-number.result inside c.index-rules-number.is)
    (all-at (HasItsSets (length c.args.seen.now.sets)) trees c.args.number c.requires.known inside)
