use Rattle.std.proofs.Common.{◌≡◌, ◌≤◌, ◌∙◌, ℕ, List, Bool, true, false, chars, Ok, ap, length, subst, sym, arith}
use Rattle.idn_class.specs.declared.properties.Properties.{Properties}
use Rattle.idna.specs.Validity.{has_ace_prefix}
use Rattle.idn_text.specs.Points.{utf8_of}
use Rattle.idn_text.proofs.Utf8Lemmas.{IsUtf8-from_points}
use Rattle.idn_label.proofs.ALabels.{registrable_scalars}
use Rattle.idn_label.proofs.AnswerLemmas.{u_label_answer-from}
use Rattle.idn_label.proofs.RegisteredBytes.{is_registered, prefix_by_octets, registered-points, registered-registrable, registered-utf8, registrable-octets}
use Rattle.idn_label.specs.Register.{register_utf8_answer}
use Rattle.idn2_answers.specs.Answers.{u_label_of}
use Rattle.idn2_answers.proofs.RegisteredLines.{stands_for-decoded, stands_for-itself}
use Rattle.idn2_cli.proofs.modes.register.reply_object.Goals as goal

module _ (properties : Properties) where
  module _ (text a_label : List ℕ) (registered : register_utf8_answer properties text ≡ Ok a_label) where
    by_octets : (prefixed : Bool) → has_ace_prefix text ≡ prefixed → has_ace_prefix (chars text) ≡ prefixed
    by_octets prefixed is =
        prefix_by_octets text (IsUtf8-from_points text (chars text) (registered-utf8 properties text (is_registered properties text a_label registered))) ∙ is

-- ---- an A-label

pub reply_decoded-requires-clause-utf8 : goal.reply_decoded-requires-clause-utf8
reply_decoded-requires-clause-utf8 g c =
    let text = c.args.asked.text.now in
    IsUtf8-from_points text (chars text) (registered-utf8 c.args.properties text (is_registered c.args.properties text c.args.a_label.now c.requires.registered))

pub reply_decoded-requires-clause-scalar_values : goal.reply_decoded-requires-clause-scalar_values
reply_decoded-requires-clause-scalar_values g c =
    let text = c.args.asked.text.now in
    let prefixed = by_octets c.args.properties text c.args.a_label.now c.requires.registered true (sym c.has_ace_prefix.ensures ∙ c.if-has_ace_prefix.true) in
    registrable_scalars c.args.properties c.args.u_label.now (u_label_answer-from c.args.properties (chars text) c.args.u_label.now (c.requires.u_label prefixed)).0

pub returns-then-has_ace_prefix-clause-written : goal.returns-then-has_ace_prefix-clause-written
returns-then-has_ace_prefix-clause-written g c =
    let text = c.args.asked.text.now in
    let prefixed = by_octets c.args.properties text c.args.a_label.now c.requires.registered true (sym c.has_ace_prefix.ensures ∙ c.if-has_ace_prefix.true) in
    rw (stands_for-decoded c.args.properties (chars text) c.args.u_label.now prefixed (c.requires.u_label prefixed)) c.reply_decoded.ensures.written

-- ---- a label that is no A-label stands for itself

pub of_utf8-input-requires : goal.of_utf8-input-requires
of_utf8-input-requires g c =
    let text = c.args.asked.text.now in
    IsUtf8-from_points text (chars text) (registered-utf8 c.args.properties text (is_registered c.args.properties text c.args.a_label.now c.requires.registered))

pub object-requires : goal.object-requires
object-requires g c =
    let text = c.args.asked.text.now in
    let points = chars text in
    let ok = is_registered c.args.properties text c.args.a_label.now c.requires.registered in
    let is = registered-utf8 c.args.properties text ok in
    let other = by_octets c.args.properties text c.args.a_label.now c.requires.registered false (sym c.has_ace_prefix.ensures ∙ c.if-has_ace_prefix.false) in
    let registrable = registered-registrable c.args.properties points other (registered-points c.args.properties text points is ok) in
    let short : length text ≤ 252 = subst (λ (l : List ℕ). length l ≤ 252) is.encoded (registrable-octets c.args.properties points registrable) in
    (omega (arith, c.of_utf8-input.ensures.len, c.args.asked.few), short, c.requires.short)

pub returns-clause-written : goal.returns-clause-written
returns-clause-written g c =
    let text = c.args.asked.text.now in
    let points = chars text in
    let is = registered-utf8 c.args.properties text (is_registered c.args.properties text c.args.a_label.now c.requires.registered) in
    let other = by_octets c.args.properties text c.args.a_label.now c.requires.registered false (sym c.has_ace_prefix.ensures ∙ c.if-has_ace_prefix.false) in
    let itself : utf8_of (u_label_of c.args.properties points) ≡ text = ap utf8_of (stands_for-itself c.args.properties points other) ∙ is.encoded in
    rw (itself, sym c.of_utf8-input.ensures.told) c.object.ensures.written
