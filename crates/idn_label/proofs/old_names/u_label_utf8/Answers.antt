use Rattle.std.proofs.Common.{◌≡◌, ◌≤◌, ℕ, List, Bool, true, false, chars, length, Ok, sym, ap, subst, ◌∙◌, arith}
use Rattle.idna.specs.Validity.{has_ace_prefix}
use Rattle.idn_class.specs.declared.properties.Properties.{Properties}
use Rattle.idn_text.specs.Points.{AreScalarValues, IsUtf8Of, utf8_of}
use Rattle.idn_text.proofs.Utf8Lemmas.{IsUtf8-from_points}
use Rattle.idn_label.specs.Answers.{Answer, and_then}
use Rattle.idn_label.specs.OldNames.{stands_for}
use Rattle.idn_label.specs.Register.{register_utf8_answer}
use Rattle.idn_label.proofs.ALabels.{registrable_scalars}
use Rattle.idn_label.proofs.AnswerLemmas.{u_label_answer-from}
use Rattle.idn_label.proofs.OldNameLemmas.{stands_for-answered, stands_for-plain}
use Rattle.idn_label.proofs.RegisteredBytes.{is_registered, prefix_by_octets, registered-points, registered-registrable, registered-utf8, registrable-octets}
use Rattle.idn_label.proofs.old_names.u_label_utf8.Goals as goal

module _ (properties : Properties) where
  module _ (label a_label : List ℕ) (answer : register_utf8_answer properties label ≡ Ok a_label) where
    utf8 : IsUtf8Of label (chars label)
    utf8 = registered-utf8 properties label (is_registered properties label a_label answer)

    prefixed : (prefix : Bool) → has_ace_prefix label ≡ prefix → has_ace_prefix (chars label) ≡ prefix
    prefixed prefix is = prefix_by_octets label (IsUtf8-from_points label (chars label) utf8) ∙ is

    -- a label without the prefix has few octets
    few_octets : has_ace_prefix label ≡ false → length label ≤ 252
    few_octets none =
        let ok = is_registered properties label a_label answer in
        let registrable = registered-registrable properties (chars label) (prefixed false none) (registered-points properties label (chars label) utf8 ok) in
        subst (λ (l : List ℕ). length l ≤ 252) utf8.encoded (registrable-octets properties (chars label) registrable)

    answered : (written : List ℕ) → utf8_of (stands_for (chars label)) ≡ written → and_then (register_utf8_answer properties label) (λ a. Ok (utf8_of (stands_for (chars label)))) ≡ Ok written
    answered written is = ap (λ (r : Answer). and_then r (λ a. Ok (utf8_of (stands_for (chars label))))) answer ∙ ap (λ (w : List ℕ). let r : Answer = Ok w in r) is

pub put_points-requires-clause-scalar_values : goal.put_points-requires-clause-scalar_values
put_points-requires-clause-scalar_values c =
    let prefix = prefixed c.args.properties c.args.label.now _ c.in_ok-register_utf8.ensures.answer true (sym c.has_ace_prefix.ensures ∙ c.if-has_ace_prefix.true) in
    let from = u_label_answer-from c.args.properties (chars c.args.label.now) c.register_utf8.new.u_label (c.in_ok-register_utf8.ensures.u_label prefix) in
    subst AreScalarValues (sym c.as_slice.ensures.value) (registrable_scalars c.args.properties c.register_utf8.new.u_label from.0)

pub put-requires : goal.put-requires
put-requires c =
    let few = few_octets c.args.properties c.args.label.now _ c.in_ok-register_utf8.ensures.answer (sym c.has_ace_prefix.ensures ∙ c.if-has_ace_prefix.false) in
    omega (arith, few, c.in_ok-register_utf8.ensures.length, c.requires.room)

pub returns-then-has_ace_prefix-clause-answer : goal.returns-then-has_ace_prefix-clause-answer
returns-then-has_ace_prefix-clause-answer c =
    let label = c.args.label.now in
    let prefix = prefixed c.args.properties label _ c.in_ok-register_utf8.ensures.answer true (sym c.has_ace_prefix.ensures ∙ c.if-has_ace_prefix.true) in
    let stands = stands_for-answered c.args.properties (chars label) c.register_utf8.new.u_label prefix (c.in_ok-register_utf8.ensures.u_label prefix) in
    answered c.args.properties label _ c.in_ok-register_utf8.ensures.answer _ (ap utf8_of (stands ∙ sym c.as_slice.ensures.value) ∙ sym c.put_points.ensures.written)

pub returns-else-has_ace_prefix-clause-answer : goal.returns-else-has_ace_prefix-clause-answer
returns-else-has_ace_prefix-clause-answer c =
    let label = c.args.label.now in
    let none = prefixed c.args.properties label _ c.in_ok-register_utf8.ensures.answer false (sym c.has_ace_prefix.ensures ∙ c.if-has_ace_prefix.false) in
    let is = utf8 c.args.properties label _ c.in_ok-register_utf8.ensures.answer in
    answered c.args.properties label _ c.in_ok-register_utf8.ensures.answer _ (ap utf8_of (stands_for-plain (chars label) none) ∙ is.encoded ∙ sym c.put.ensures.written)

pub returns-else-has_ace_prefix-clause-short : goal.returns-else-has_ace_prefix-clause-short
returns-else-has_ace_prefix-clause-short c =
    let few = few_octets c.args.properties c.args.label.now _ c.in_ok-register_utf8.ensures.answer (sym c.has_ace_prefix.ensures ∙ c.if-has_ace_prefix.false) in
    omega (arith, few, c.put.ensures.count)
