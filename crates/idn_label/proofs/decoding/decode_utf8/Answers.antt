use Rattle.std.proofs.Common.{◌≡◌, ◌≢◌, ℕ, true, false, List, chars, take, Ok, Err, refl, ap, sym, subst, ◌∙◌}
use Rattle.std.proofs.lemmas.Bool.{not-true}
use Rattle.std.proofs.lemmas.Result.{err_from_is_err_and}
use Rattle.std.specs.List.{list_any}
use Rattle.idna.specs.Labels.{labels_of}
use Rattle.idn_class.specs.declared.facts.Facts.{Facts}
use Rattle.idn_class.specs.declared.properties.Properties.{Properties}
use Rattle.idn_label.specs.declared.octets.Characters.{Characters}
use Rattle.idn_label.specs.declared.octets.Characters.TheVariants.{Ascii, LeftToRight, Any}
use Rattle.idn_label.specs.inner.DecodedNames.{TellsLeftToRight, decoded_utf8}
use Rattle.idn_label.specs.inner.Octets.{Describes, tell_left_to_right}
use Rattle.idn_label.specs.Answers.{and_then, unless_fault}
use Rattle.idn_label.proofs.BidiNames.{right, right-ascii, whole_utf8, decode_utf8_answer-other, decode_utf8_answer-whole, decoded_utf8-is_utf8, decoded_utf8-ltr, rtl-tested}
use Rattle.idn_label.proofs.decoding.decode_utf8.Goals as goal

-- what the octets of the given name told of it
given_ltr : (name : List ℕ) (given : Characters) → Describes given name → given ≢ Any → list_any right (chars name) ≡ false
given_ltr name Ascii described other = right-ascii name described
given_ltr name LeftToRight described other = described
given_ltr name Any described other = absurd (other refl)

-- and, with the facts of its A-labels, of the decoded name
decoded_ltr : (properties : Properties) (name octets : List ℕ) (given : Characters) (facts : Facts) → Describes given name → TellsLeftToRight properties facts (labels_of (chars name)) → decoded_utf8 properties name ≡ Ok octets → tell_left_to_right given facts ≡ true → list_any right (chars octets) ≡ false
decoded_ltr properties name octets Ascii facts described tells is told = decoded_utf8-ltr properties name octets (tells (not-true _ told)) (right-ascii name described) is
decoded_ltr properties name octets LeftToRight facts described tells is told = decoded_utf8-ltr properties name octets (tells (not-true _ told)) described is
decoded_ltr properties name octets Any facts described tells is told = absurd (let clash : false ≡ true = told in cc)

pub returns-in_err-characters-clause-answer : goal.returns-in_err-characters-clause-answer
returns-in_err-characters-clause-answer c =
    let p = err_from_is_err_and c.from_residual.result c.from_residual.ensures.1 in
    let refused = c.in_err-characters.ensures in
    rw (p.1, p.2) (λ other. decode_utf8_answer-other c.args.properties c.args.name.now refused.other ∙ ap Err (sym refused.refusal))

pub utf8_name_fault-requires-clause-left_to_right : goal.utf8_name_fault-requires-clause-left_to_right
utf8_name_fault-requires-clause-left_to_right c = decoded_ltr c.args.properties c.args.name.now _ _ _ c.in_ok-characters.ensures.described c.in_ok-len.ensures.left_to_right c.in_ok-len.ensures.answer

pub returns-in_err-len-clause-answer : goal.returns-in_err-len-clause-answer
returns-in_err-len-clause-answer c =
    let p = err_from_is_err_and c.from_residual-in_err-len.result c.from_residual-in_err-len.ensures.1 in
    rw (p.1, p.2)
    (λ other.
    decode_utf8_answer-whole c.args.properties c.args.name.now
    ∙ ap (λ answer. and_then answer (whole_utf8 c.args.properties)) (c.in_err-len.ensures.answer other))

pub utf8_name_fault-requires-clause-utf8 : goal.utf8_name_fault-requires-clause-utf8
utf8_name_fault-requires-clause-utf8 c = decoded_utf8-is_utf8 c.args.properties c.args.name.now _ c.in_ok-len.ensures.answer

pub returns-in-None-clause-answer : goal.returns-in-None-clause-answer
returns-in-None-clause-answer c =
    let text = take c.in_ok-len.len c.decode_utf8_labels.new.room in
    decode_utf8_answer-whole c.args.properties c.args.name.now
    ∙ ap (λ answer. and_then answer (whole_utf8 c.args.properties)) c.in_ok-len.ensures.answer
    ∙ ap (λ fault. unless_fault fault (Ok text)) (sym c.utf8_name_fault.ensures ∙ c.in-None.is)

pub returns-in-Some-clause-answer : goal.returns-in-Some-clause-answer
returns-in-Some-clause-answer c =
    λ other.
    let text = take c.in_ok-len.len c.decode_utf8_labels.new.room in
    decode_utf8_answer-whole c.args.properties c.args.name.now
    ∙ ap (λ answer. and_then answer (whole_utf8 c.args.properties)) c.in_ok-len.ensures.answer
    ∙ ap (λ fault. unless_fault fault (Ok text)) (sym c.utf8_name_fault.ensures ∙ c.in-Some.is)

pub utf8_name_fault-requires-clause-tested : goal.utf8_name_fault-requires-clause-tested
utf8_name_fault-requires-clause-tested c = λ is other.
    let name = c.args.name.now in
    let text = take c.in_ok-len.len c.decode_utf8_labels.new.room in
    let none = given_ltr name _ c.in_ok-characters.ensures.described other in
    rtl-tested name text none (subst (λ (p : Properties). decoded_utf8 p name ≡ Ok text) is c.in_ok-len.ensures.answer)
