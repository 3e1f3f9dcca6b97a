use Rattle.std.proofs.Common.{◌+◌, ◌-◌, ◌++◌, length, take, arith, ap, sym, ◌∙◌}
use Rattle.std.proofs.lemmas.Slice.{take-put_mid}
use Rattle.answer_json.proofs.Plain.{escape_plain}
use Rattle.answer_json.proofs.escaping.put_escaped.Goals as goal

pub returns-then-copy_plain-clause-escaped : goal.returns-then-copy_plain-clause-escaped
returns-then-copy_plain-clause-escaped c =
    let out = c.args.out.now in
    let at = c.args.at in
    let text = c.args.text.now in
    let copied = c.copy_plain.ensures.copied in
    let plain = escape_plain text (sym c.copy_plain.ensures.plain ∙ c.if-copy_plain.true) in
    take-put_mid at (at + length text - at) out c.copy_plain.new.copy (at + length text) (omega (arith, ap length copied)) (omega arith)
    ∙ ap (λ l. take at out ++ l) (copied ∙ sym plain)
