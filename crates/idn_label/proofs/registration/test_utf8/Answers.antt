use Rattle.std.proofs.Common.{◌≡◌, ℕ, Bool, true, false, List, [], ◌∷◌, length, Option, Some, None, Err, refl, sym, ap, ap₂, subst, ◌∙◌, arith}
use Rattle.std.specs.List.{list_all}
use Rattle.std.proofs.lemmas.Bool.{not-false, not-true}
use Rattle.std.proofs.lemmas.Result.{IfErr-weaker, err_from_is_err_and, on_ok_weaker}
use Rattle.idn_text.specs.declared.refusal.Refusal.{Refusal}
use Rattle.idn_text.specs.declared.refusal.Refusal.TheVariants.{LabelTooLong, Memory}
use Rattle.idn_text.specs.Points.{IsUtf8Of}
use Rattle.idn_text.proofs.Utf8Lemmas.{points_from_utf8}
use Rattle.idn_label.specs.Memory.{NeedsNoMemory}
use Rattle.idn_label.specs.FirstFault.{first_of, fault_if, is_too_long, first_fault, utf8_fault}
use Rattle.idn_label.specs.Steps.{is_ldh_point}
use Rattle.idn_label.specs.inner.FaultSteps.{fault_but_length}
use Rattle.idn_label.proofs.AnswerLemmas.{utf8_fault-ascii, utf8_fault-points, utf8_fault-other}
use Rattle.idn_label.proofs.FaultLemmas.{first_fault-measured}
use Rattle.idn_label.proofs.LdhLemmas.{ascii_points, is_all_ascii-points, is_all_ascii-octets}
use Rattle.idn_label.proofs.registration.test_utf8.Goals as goal
use Rattle.idn_class.specs.declared.properties.Properties.{Properties}

module _ (properties : Properties) where
  ldh_fault : (label : List ℕ) → list_all is_ldh_point label ≡ true → utf8_fault properties label ≡ first_fault properties label
  ldh_fault label ldh = utf8_fault-ascii properties label (is_all_ascii-octets label (is_all_ascii-points label (ascii_points label ldh)))

pub returns-then-is_ldh-clause-passes : goal.returns-then-is_ldh-clause-passes
returns-then-is_ldh-clause-passes c = rw (ldh_fault c.args.properties c.args.label.now (c.requires.ldh c.if-is_ldh.true)) (on_ok_weaker c.check_ldh.result (λ each. each c.args.properties) c.check_ldh.ensures.registrable)

pub returns-then-is_ldh-clause-fault : goal.returns-then-is_ldh-clause-fault
returns-then-is_ldh-clause-fault c =
    rw (ldh_fault c.args.properties c.args.label.now (c.requires.ldh c.if-is_ldh.true)) (IfErr-weaker c.check_ldh.result _ _ (λ refusal fault other. fault c.args.properties) c.check_ldh.ensures.fault)

pub check_ldh-requires : goal.check_ldh-requires
check_ldh-requires c = c.requires.ldh c.if-is_ldh.true

pub returns-in_default-clause-fault : goal.returns-in_default-clause-fault
returns-in_default-clause-fault c = λ other. utf8_fault-other c.args.properties c.args.label.now c.in_default.ensures.refused

module _ (properties : Properties) where
  measured : (label points : List ℕ) (fault : Option Refusal) (long : Bool) → IsUtf8Of label points → fault_but_length properties points ≡ fault → is_too_long points ≡ long → utf8_fault properties label ≡ first_of (fault ∷ fault_if long LabelTooLong ∷ [])
  measured label points fault long is told length =
      utf8_fault-points properties label points is ∙ first_fault-measured properties points ∙ ap₂ (λ f l. first_of (f ∷ fault_if l LabelTooLong ∷ [])) told length

pub returns-in_err-check_label-clause-fault : goal.returns-in_err-check_label-clause-fault
returns-in_err-check_label-clause-fault c =
    let p = err_from_is_err_and c.from_residual.result c.from_residual.ensures.1 in
    rw p.1 (λ other. rw (p.2) (measured c.args.properties c.args.label.now _ (Some c.in_err-check_label.field-0.0) _ c.in-Some.ensures.points (c.in_err-check_label.ensures.fault (rw (p.2) at other)) refl))

pub returns-in_err-check_label-clause-no_memory : goal.returns-in_err-check_label-clause-no_memory
returns-in_err-check_label-clause-no_memory c =
    let p = err_from_is_err_and c.from_residual.result c.from_residual.ensures.1 in
    let points = points_from_utf8 _ _ c.in-Some.ensures.points in
    rw (p.1, p.2)
    (λ none is. c.in_err-check_label.ensures.no_memory (subst NeedsNoMemory points none) (let same : c.in_err-check_label.field-0.0 ≡ Memory = cc in ap Err same))

pub is_short-requires : goal.is_short-requires
is_short-requires c = omega (arith, ap length c.in-Some.ensures.points.encoded)

pub returns-then-is_short-clause-passes : goal.returns-then-is_short-clause-passes
returns-then-is_short-clause-passes c = measured c.args.properties c.args.label.now _ None false c.in-Some.ensures.points c.in_ok-check_label.ensures.passes (not-true _ (sym c.is_short.ensures ∙ c.if-is_short.true))

pub returns-else-is_short-clause-fault : goal.returns-else-is_short-clause-fault
returns-else-is_short-clause-fault c other = measured c.args.properties c.args.label.now _ None true c.in-Some.ensures.points c.in_ok-check_label.ensures.passes (not-false _ (sym c.is_short.ensures ∙ c.if-is_short.false))
