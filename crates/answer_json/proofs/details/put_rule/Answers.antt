use Rattle.std.proofs.Common.{◌++◌, codes, take}
use Rattle.std.specs.Option.{option_copied}
use Rattle.answer_json.specs.Answers.{if_given, text}
use Rattle.answer_json.specs.Details.{point}
use Rattle.answer_json.proofs.Members.{more_fields}
use Rattle.answer_json.proofs.details.put_rule.Goals as goal

pub returns-clause-fields : goal.returns-clause-fields
returns-clause-fields c =
    let old = take c.args.at c.args.out.now in
    let told = c.args.members.now in
    let condition = if_given (codes "condition") text (option_copied told.condition) in
    let rule = if_given (codes "rule") text (option_copied told.rule) in
    let bidi_class = if_given (codes "bidi_class") text (option_copied told.bidi_class) in
    let nfc = if_given (codes "nfc") point told.nfc in
    let told_rule = more_fields old condition rule c.put_text_if-rule.ensures.field c.put_text_if-bidi_class.ensures.field in
    let told_class = more_fields old (condition ++ rule) bidi_class told_rule c.put_text_if-nfc.ensures.field in
    more_fields old ((condition ++ rule) ++ bidi_class) nfc told_class c.put_point_if.ensures.field
