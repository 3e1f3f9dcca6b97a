use Rattle.std.proofs.Common.{◌-◌, length, arith}
use Rattle.answer_json.proofs.Windows.{plain_ends, window_to_end}
use Rattle.answer_json.proofs.escaping.copy_ends.Goals as goal

pub returns-clause-plain : goal.returns-clause-plain
returns-clause-plain g c =
    let text = c.args.text.now in
    let last = length text - g.row.N in
    let whole = window_to_end text last in
    let told = plain_ends text g.row.N last (omega (arith, c.requires.all)) c.requires.shorter in cc
