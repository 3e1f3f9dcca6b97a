use Rattle.std.proofs.Common.{◌++◌, codes, take}
use Rattle.std.specs.Option.{option_copied}
use Rattle.answer_json.specs.Answers.{count, if_given, text}
use Rattle.answer_json.proofs.Members.{more_fields}
use Rattle.answer_json.proofs.details.put_lengths.Goals as goal

pub returns-clause-fields : goal.returns-clause-fields
returns-clause-fields c =
    let old = take c.args.at c.args.out.now in
    let told = c.args.members.now in
    let code_points = if_given (codes "code_points") count told.code_points in
    let octets = if_given (codes "octets") count told.octets in
    let alabel = if_given (codes "alabel") text (option_copied told.alabel) in
    let byte = if_given (codes "byte") count told.byte in
    let ulabel = if_given (codes "ulabel") text (option_copied told.ulabel) in
    more_fields old (code_points ++ octets ++ alabel ++ byte) ulabel
    (more_fields old (code_points ++ octets ++ alabel) byte
    (more_fields old (code_points ++ octets) alabel (more_fields old code_points octets c.put_number_if-octets.ensures.field c.put_number_if-alabel.ensures.field) c.put_text_if-byte.ensures.field)
    c.put_number_if-ulabel.ensures.field)
    c.put_text_if.ensures.field
