use Rattle.std.proofs.Common.{◌≡◌, [], ◌∷◌, ◌++◌, codes, take}
use Rattle.answer_json.specs.Answers.{Field, text}
use Rattle.answer_json.specs.Details.{flag_if}
use Rattle.answer_json.specs.Objects.{disposition_text, is_unclear}
use Rattle.answer_json.specs.inner.Texts.{field_text}
use Rattle.answer_json.proofs.Members.{more_fields, one_field}
use Rattle.answer_json.proofs.block.put_disposition.Goals as goal

pub returns-in-Some-clause-fields : goal.returns-in-Some-clause-fields
returns-in-Some-clause-fields c =
    let old = take c.args.at c.args.out.now in
    let told : Field = (codes "disposition", text (disposition_text c.in-Some.disposition)) in
    let e : take c.put_text-next.result c.put_text-next.new.out ≡ old ++ 44 ∷ field_text told = cc in
    let unclear = flag_if (codes "unclear") (is_unclear c.in-Some.disposition) in
    rw c.in-Some.is (more_fields old (told ∷ []) unclear (one_field _ _ told e) (rw c.is_unclear.ensures at c.put_flag_if.ensures.field))
