use Rattle.answer_json.proofs.Lanes.{copied_lanes, plain_lanes}
use Rattle.answer_json.proofs.escaping.copy_window.Goals as goal

pub returns-clause-plain : goal.returns-clause-plain
returns-clause-plain g c = plain_lanes c.args.text.now g.row.N c.requires.window c.requires.few c.type_inv.text

pub returns-clause-copied : goal.returns-clause-copied
returns-clause-copied g c = copied_lanes c.args.text.now g.row.N c.requires.window c.args.copy.now c.requires.same_length
