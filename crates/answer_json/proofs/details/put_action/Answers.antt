use Rattle.std.proofs.Common.{◌++◌, codes, take}
use Rattle.std.specs.Option.{option_copied}
use Rattle.answer_json.specs.Answers.{count, if_given, text}
use Rattle.answer_json.specs.Details.{flag_if}
use Rattle.answer_json.proofs.Members.{more_fields}
use Rattle.answer_json.proofs.details.put_action.Goals as goal

pub returns-clause-fields : goal.returns-clause-fields
returns-clause-fields c =
    let old = take c.args.at c.args.out.now in
    let told = c.args.members.now in
    let action = if_given (codes "action") count told.action in
    let default_action = if_given (codes "default_action") count told.default_action in
    let type_name = if_given (codes "type") text (option_copied told.type_name) in
    let unclear = flag_if (codes "unclear") told.unclear in
    let told_actions = more_fields old action default_action c.put_number_if-default_action.ensures.field c.put_number_if-type_name.ensures.field in
    let told_type = more_fields old (action ++ default_action) type_name told_actions c.put_text_if-unclear.ensures.field in
    more_fields old ((action ++ default_action) ++ type_name) unclear told_type c.put_flag_if.ensures.field
