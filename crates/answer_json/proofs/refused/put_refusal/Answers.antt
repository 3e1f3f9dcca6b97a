use Rattle.std.proofs.Common.{◌≡◌, [], ◌∷◌, ◌++◌, codes, take, ap, ◌∙◌, append_assoc}
use Rattle.json.specs.Print.{quoted}
use Rattle.idn_text.specs.Refusals.{refusal_number, refusal_text as text_of_refusal}
use Rattle.answer_json.specs.Answers.{Field, count, text}
use Rattle.answer_json.specs.Details.{action_fields, demand_fields, details_of, length_fields, refusal_fields, rule_fields, where_fields}
use Rattle.answer_json.specs.inner.Texts.{field_text, object_text}
use Rattle.answer_json.proofs.Members.{closed, first, with_all, with_one}
use Rattle.answer_json.proofs.refused.put_refusal.Goals as goal

pub returns-clause-object : goal.returns-clause-object
returns-clause-object c =
    let details = details_of c.args.members.now in
    let old = take c.args.at c.args.out.now in
    let number : Field = (codes "number", count (refusal_number c.args.refusal)) in
    let told : Field = (codes "text", text (text_of_refusal c.args.refusal)) in
    let opened = take c.put_opening-object.result c.put_opening-object.new.out in
    let numbered = take c.put_number-text.result c.put_number-text.new.out in
    let e : numbered ≡ opened ++ 123 ∷ field_text number = cc in
    let f : take c.put_text-place.result c.put_text-place.new.out ≡ numbered ++ 44 ∷ field_text told = cc in
    let begun = with_one told (first opened number _ e) f in
    let all =
    with_all (length_fields details)
    (with_all (action_fields details)
    (with_all (demand_fields details)
    (with_all (rule_fields details) (with_all (where_fields details) begun c.put_where-rule.ensures.fields) c.put_rule-demand.ensures.fields)
    c.put_demand-action.ensures.fields)
    c.put_action-lengths.ensures.fields)
    c.put_lengths-end.ensures.fields in
    let object = object_text (refusal_fields c.args.refusal details) [] in
    c.put_byte.ensures.written ∙ closed all ∙ ap (λ l. l ++ object) c.put_opening-object.ensures.name
    ∙ append_assoc old (44 ∷ (quoted (codes "refusal") ++ 58 ∷ [])) object ∙ ap (λ l. old ++ 44 ∷ l) (append_assoc (quoted (codes "refusal")) (58 ∷ []) object)
