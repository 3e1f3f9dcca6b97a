use Rattle.std.proofs.Common.{◌∙◌, ap, arith, length, length-append}
use Rattle.idn_text.proofs.Utf8Lemmas.{length-utf8_of-le}
use Rattle.idn2_cli.proofs.modes.jumps.write_label.Goals as goal

pub append-requires : goal.append-requires
append-requires g c =
    let most = length-utf8_of-le c.args.label.now in
    let count = ap length c.begin.ensures.line in
    omega (arith, c.requires.short, most, count)

pub object-requires : goal.object-requires
object-requires g c =
    let most = length-utf8_of-le c.args.label.now in
    let count = ap length (c.as_slice-in-Json.ensures ∙ c.begin.ensures.line) in
    let input = c.of-input.ensures.len in
    (omega (arith, input, c.args.asked.now.few), omega (arith, c.requires.short, most, count))

pub append-requires-in-Plain : goal.append-requires-in-Plain
append-requires-in-Plain g c =
    let most = length-utf8_of-le c.args.label.now in
    let count = ap length c.begin.ensures.line in
    let columns = ap length c.append.ensures.line ∙ length-append c.begin.new.self.line c.as_slice.result.now in
    omega (arith, c.requires.short, most, count, columns, ap length c.as_slice.ensures.value, c.columns_of.ensures.short)
