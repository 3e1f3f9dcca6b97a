use Rattle.std.proofs.Common.{[], map, subst}
use Rattle.std.proofs.lemmas.Result.{on_ok_weaker}
use Rattle.label_patterns.specs.Trees.{pattern}
use Rattle.lgr_text.specs.Known.{known as known_of}
use Rattle.lgr_text.specs.Records.{part as part_of}
use Rattle.lgr_text.specs.inner.Items.{Appends}
use Rattle.lgr_text.proofs.TurnLemmas.{turned-follows}
use Rattle.lgr_text.proofs.part_items.push_following.Goals as goal

pub returns-clause-items : goal.returns-clause-items
returns-clause-items c =
    let known = known_of c.args.known in
    let part = part_of c.args.part.now in
    let first = c.args.sets.now.items in
    let last = c.push_part.new.sets.items in
    let others = map pattern c.push_part.new.items.items in
    let appends : Appends known first last [] others part =
    subst (λ l. Appends known first last (map pattern l) others part) c.new-others.ensures.items c.in_ok-push_part.ensures.items in
    on_ok_weaker c.push_turned.result
    (λ e. turned-follows known first last (map pattern c.args.items.now.items) (map pattern c.push_turned.new.items.items) others part c.requires.start e appends)
    c.push_turned.ensures.items
