use Rattle.std.proofs.Common.{refl}
use Rattle.std.specs.Char.{encode_utf8}
use Rattle.json.specs.Print.{escape_byte, print_from}
use Rattle.answer_json.specs.Hexadecimal.{hex_of_byte, point_text}
use Rattle.answer_json.proofs.Decimals.{decimal_0, decimal_1, decimal_2, decimal_3, decimal_10, decimal_12, decimal_17, decimal_19, decimal_21, decimal_30, decimal_41}
use Rattle.answer_json.proofs.laws.objects_have_texts.Goals as goal

pub returns-clause-escapes : goal.returns-clause-escapes
unfolding escape_byte point_text print_from
returns-clause-escapes c = (simp decimal_1, (simp (decimal_1, decimal_2, decimal_10), (simp (decimal_1, decimal_2, decimal_10), (simp (decimal_1, decimal_2, decimal_10), tt))))

pub returns-clause-answers : goal.returns-clause-answers
unfolding encode_utf8 escape_byte print_from
returns-clause-answers c = (simp decimal_1, (simp decimal_1, (simp decimal_1, (simp decimal_1, (simp decimal_1, (simp decimal_1, (simp decimal_1, (simp (decimal_1, decimal_2), (simp decimal_1, tt)))))))))

pub returns-clause-refusals : goal.returns-clause-refusals
unfolding encode_utf8 escape_byte hex_of_byte point_text print_from
returns-clause-refusals c = (simp (decimal_1, decimal_10), (simp (decimal_1, decimal_2, decimal_12), (simp (decimal_1, decimal_3, decimal_17), (simp (decimal_1, decimal_19), (simp (decimal_1, decimal_2, decimal_10), (simp (decimal_0, decimal_1, decimal_2, decimal_21), (simp (decimal_1, decimal_3), (simp (decimal_1, decimal_2), tt))))))))

pub returns-clause-by_rulesets : goal.returns-clause-by_rulesets
unfolding encode_utf8 escape_byte point_text print_from
returns-clause-by_rulesets c = (simp (decimal_1, decimal_41), (simp (decimal_1, decimal_2, decimal_41), (simp (decimal_1, decimal_41), (simp (decimal_1, decimal_2, decimal_41), (simp (decimal_1, decimal_41), tt)))))

pub returns-clause-tables : goal.returns-clause-tables
unfolding escape_byte print_from
returns-clause-tables c = (refl, (refl, (refl, (simp (decimal_1, decimal_2), (simp (decimal_2, decimal_30), tt)))))
