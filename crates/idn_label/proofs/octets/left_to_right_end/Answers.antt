use Rattle.std.proofs.Common.{◌+◌, get_or, refl, sym}
use Rattle.idn_label.proofs.OctetLemmas.{two_octets, three_octets}
use Rattle.idn_label.proofs.octets.left_to_right_end.Goals as goal

pub returns-then-are_left_to_right_two : goal.returns-then-are_left_to_right_two
returns-then-are_left_to_right_two c =
    let text = c.args.text.now in
    let at = c.args.at in
    let second = c.in_ok-second.ensures.lookup.3 in
    two_octets text at (get_or text at 0) c.in_ok-second.field-0.now second.0 refl (sym (second.1 0)) (c.are_left_to_right_two.ensures c.if-are_left_to_right_two.true)

pub returns-then-are_left_to_right_three : goal.returns-then-are_left_to_right_three
returns-then-are_left_to_right_three c =
    let text = c.args.text.now in
    let at = c.args.at in
    let third = c.in_ok-third.ensures.lookup.3 in
    three_octets text at (get_or text at 0) (get_or text (at + 1) 0) c.in_ok-third.field-0.now third.0 refl refl (sym (third.1 0)) (c.are_left_to_right_three.ensures c.if-are_left_to_right_three.true)
