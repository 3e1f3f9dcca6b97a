use Rattle.std.proofs.Common.{sym, arith}
use Rattle.std.proofs.lemmas.List.{nil_from_length}
use Rattle.idna.proofs.ValidityLemmas.{passes_bidi_rule_is, passes_bidi_rule-nil}
use Rattle.idn_label.proofs.bidi.passes_bidi_rule.Goals as goal

pub returns-in_default : goal.returns-in_default
returns-in_default c = rw (nil_from_length c.args.label.now (omega arith)) (sym passes_bidi_rule-nil)

pub returns-in-LeftToRight : goal.returns-in-LeftToRight
returns-in-LeftToRight c =
    let class = c.for_char.ensures in
    rw (passes_bidi_rule_is _ _ c.in-len1-up.len_at_least c.first-item.is, ← class, c.in-LeftToRight.is) (grind arith)

pub returns-in-RightToLeft : goal.returns-in-RightToLeft
returns-in-RightToLeft c =
    let class = c.for_char.ensures in
    rw (passes_bidi_rule_is _ _ c.in-len1-up.len_at_least c.first-item.is, ← class) (grind arith)

pub returns-in_default-for_char : goal.returns-in_default-for_char
returns-in_default-for_char c =
    let class = c.for_char.ensures in
    rw (passes_bidi_rule_is _ _ c.in-len1-up.len_at_least c.first-item.is, ← class) (grind arith)
