use Rattle.std.proofs.Common.{[], map, subst}
use Rattle.label_patterns.specs.Trees.{pattern}
use Rattle.lgr_text.specs.Known.{known as known_of}
use Rattle.lgr_text.specs.Records.{part as part_of}
use Rattle.lgr_text.proofs.BranchLemmas.{plain-made}
use Rattle.lgr_text.specs.inner.Items.{Appends}
use Rattle.lgr_text.proofs.branches.plain_pattern.Goals as goal

pub returns-clause-branches : goal.returns-clause-branches
returns-clause-branches c =
    let known = known_of c.args.known in
    let rule = part_of c.args.rule.now in
    let first = c.args.sets.now.items in
    let last = c.push_part.new.sets.items in
    let items = map pattern c.push_part.new.items.items in
    let appends : Appends known first last [] items rule =
    subst (λ l. Appends known first last (map pattern l) items rule) c.new-items.ensures.items c.in_ok-push_part.ensures.items in
    plain-made known rule first last items (pattern c.in_ok-sequence_of.field-0) c.in_ok-sequence_of.ensures appends
