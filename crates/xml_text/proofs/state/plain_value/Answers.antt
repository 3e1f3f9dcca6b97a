use Rattle.std.proofs.Common.{rules, ◌≡◌, ◌<◌, ◌≤◌, length, get_or, sym, subst, arith}
use Rattle.xml_text.specs.declared.quote.Quote.{Quote}
use Rattle.xml_text.specs.Tags.{quote_byte}
use Rattle.xml_text.proofs.TagTaken.{plain_is}
use Rattle.xml_text.proofs.state.plain_value.Goals as goal
use Rattle.xml_text.proofs.state.plain_value.Goals.{in-61, in-61-2}

pub returns-then-eq : goal.returns-then-eq
returns-then-eq c =
    let text = c.args.text.now in
    let q = c.match-text-2.quote in
    let end = c.split_at-2.result.1.now in
    let opens : (2 ≤ length text) × ((get_or text 0 0 ≡ 61) × (get_or text 1 0 ≡ quote_byte q)) = elim c.match-text-2.branch [
      | in-61 w ↦ (omega arith, (omega arith, subst (λ (q : Quote). get_or text 1 0 ≡ quote_byte q) (sym w.quote-is) (omega arith)))
      | in-61-2 w ↦ (omega arith, (omega arith, subst (λ (q : Quote). get_or text 1 0 ≡ quote_byte q) (sym w.quote-is) (omega arith)))
    ] in
    let some : 0 < length end = search rules in
    let closes : get_or end 0 0 ≡ quote_byte q = search rules in
    plain_is q text c.split_at.result.1.now c.split_at-2.result.0.now end c.lead.result opens.0 opens.1.0 opens.1.1 c.split_at.ensures.back c.split_at-2.ensures.front c.split_at-2.ensures.back some closes (rw c.split_at-2.ensures.front c.lead.ensures.run)
