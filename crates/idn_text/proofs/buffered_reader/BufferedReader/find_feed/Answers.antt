use Rattle.std.proofs.Common.{sym, subst, ap, ◌∙◌, drop}
use Rattle.std.proofs.lemmas.List.{take_rest}
use Rattle.idn_text.specs.Lines.{HasNoFeed}
use Rattle.idn_text.proofs.TakingLemmas.{feed_after, no_feed_after}
use Rattle.idn_text.proofs.buffered_reader.BufferedReader.find_feed.Goals as goal

pub returns-in_err-line : goal.returns-in_err-line
returns-in_err-line g c =
    let searched = c.args.searched in
    let rest = take_rest c.held.result.now searched ∙ ap (drop searched) c.held.ensures in
    rw c.from_residual.ensures (no_feed_after c.args.self.now.held searched c.requires.no_feed (subst HasNoFeed rest c.in_err-line.ensures))

pub returns : goal.returns
returns g c =
    let searched = c.args.searched in
    let rest = take_rest c.held.result.now searched ∙ ap (drop searched) c.held.ensures in
    let found = c.in_ok-line.ensures in
    feed_after c.args.self.now.held _ _ searched c.requires.within c.requires.no_feed found.0 (sym rest ∙ found.1)
