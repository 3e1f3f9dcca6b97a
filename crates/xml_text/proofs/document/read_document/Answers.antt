use Rattle.std.proofs.Common.{◌≡◌, ◌∙◌, List, ℕ, take, drop, ap, subst}
use Rattle.xml_text.specs.declared.fault.ReadError.TheVariants.{Stop}
use Rattle.xml_text.specs.Files.{StopsBody}
use Rattle.xml_text.specs.LineEnds.{line_after, line_feeds}
use Rattle.xml_text.proofs.FileLemmas.{stop_at}
use Rattle.xml_text.proofs.document.read_document.Goals as goal

pub returns-in-Err-Stop-clause-fault : goal.returns-in-Err-Stop-clause-fault
returns-in-Err-Stop-clause-fault c =
    let text = c.args.text.now in
    let n = c.in_ok-begin.begin in
    let place = c.in-Err-Stop.place in
    let line : c.line_after.result ≡ line_after 1 (line_feeds (take n text)) = c.line_after.ensures.is ∙ ap (λ (l : List ℕ). line_after 1 (line_feeds l)) c.split_at.ensures.front in
    let stop : StopsBody c.line_after.result (drop n text) (Stop place) =
    subst (λ (body : List ℕ). StopsBody c.line_after.result body (Stop place)) c.split_at.ensures.back (rw c.in-Err-Stop.field-0-is at c.in-Err-Stop.ensures.stop) in
    ((search, c.in_default.ensures.right), (stop_at text n place c.new-in-Err-Stop.result.byte c.line_after.result c.in_ok-begin.ensures.front c.in_ok-begin.ensures.within line stop c.new-in-Err-Stop.ensures.byte, c.new-in-Err-Stop.ensures.line))
