-- What begins with "xn--" where a U-label is wanted, step by step, and its law.
use Rattle.std.proofs.Common.{◌≡◌, ◌≤◌, ◌↔◌, ℕ, Bool, true, false, List, length, drop, bytes_eq, cond, Option, None, Some, Ok, Err, refl, ap, sym, ◌∙◌}
use Rattle.std.specs.Cmp.Lexicographic.{bytes_decides}
use Rattle.std.specs.Result.{is_ok}
use Rattle.idn_text.specs.Points.{utf8_of}
use Rattle.idn_text.specs.declared.refusal.Refusal.{Refusal}
use Rattle.idn_text.specs.declared.refusal.Refusal.TheVariants.{BadALabel}
use Rattle.idn_class.specs.declared.properties.Properties.{Properties}
use Rattle.idn_label.specs.ALabel.{a_label_of}
use Rattle.idn_label.specs.Answers.{Answer, and_then, unless_fault}
use Rattle.idn_label.specs.FirstFault.{first_fault, IsRegistrable}
use Rattle.idn_label.specs.Register.{confirmed, decoded_code, u_label_answer}
use Rattle.idn_label.proofs.AnswerLemmas.{confirmed-by, u_label_answer-from, u_label_answer-of}
use Rattle.idn_label.proofs.RequirementLemmas.{MeetsRequirements-registrable}
use Rattle.idn_cause.specs.CodedLabels.{IsALabelOf, answered_utf8, coded_label}

module _ (properties : Properties) where
  -- by what the code stands for
  pub coded-none : (given : List ℕ) (refusal : Refusal) → decoded_code (drop 4 given) ≡ Err refusal → coded_label properties given ≡ None
  unfolding u_label_answer
  coded-none given refusal none = ap (λ answer. answered_utf8 (and_then answer (confirmed properties given))) none

  pub coded-some : (given label : List ℕ) → decoded_code (drop 4 given) ≡ Ok label → coded_label properties given ≡ answered_utf8 (confirmed properties given label)
  unfolding u_label_answer
  coded-some given label some = ap (λ answer. answered_utf8 (and_then answer (confirmed properties given))) some

  -- an answer that is confirmed is the label, which may be registered
  answered : (given label : List ℕ) (fault : Option Refusal) (same : Bool) → is_ok (unless_fault fault (cond same (Ok label) (Err BadALabel))) ≡ true
      → (fault ≡ None) × (unless_fault fault (cond same (Ok label) (Err BadALabel)) ≡ Ok label)
  answered given label None true h = (refl, refl)
  answered given label None false h = cc
  answered given label (Some refusal) same h = cc

  confirmed-parts : (given label : List ℕ) → is_ok (confirmed properties given label) ≡ true → IsRegistrable properties label × (confirmed properties given label ≡ Ok label)
  confirmed-parts given label h =
      let by = confirmed-by properties given label in
      let parts = answered given label (first_fault properties label) (bytes_eq (a_label_of label) given) (ap is_ok (sym by) ∙ h) in
      (parts.0, by ∙ parts.1)

  pub confirmed-utf8 : (given label : List ℕ) → is_ok (confirmed properties given label) ≡ true → Some (utf8_of label) ≡ answered_utf8 (confirmed properties given label)
  confirmed-utf8 given label h = sym (ap answered_utf8 (confirmed-parts given label h).1)

  pub confirmed-short : (given label : List ℕ) → is_ok (confirmed properties given label) ≡ true → length label ≤ 63
  confirmed-short given label h = (MeetsRequirements-registrable properties label (confirmed-parts given label h).0).points

  pub unconfirmed : (given label : List ℕ) → is_ok (confirmed properties given label) ≡ false → None ≡ answered_utf8 (confirmed properties given label)
  unconfirmed given label h = by_answer (confirmed properties given label) h
    where
      by_answer : (answer : Answer) → is_ok answer ≡ false → None ≡ answered_utf8 answer
      by_answer (Ok decoded) e = cc
      by_answer (Err refusal) e = refl

pub ruleset coded = (coded-none, coded-some)

pub ruleset confirmed_as = (confirmed-utf8, confirmed-short, unconfirmed)

module _ (properties : Properties) where
  -- ---- what is told is that the label is an A-label, and of which label
  pub coded_label-is : (given utf8 : List ℕ) → (coded_label properties given ≡ Some utf8) ↔ ((label : List ℕ) × IsALabelOf properties given label × (utf8 ≡ utf8_of label))
  coded_label-is given utf8 = (by_answer (u_label_answer properties given) refl, back)
    where
      by_answer : (answer : Answer) → u_label_answer properties given ≡ answer → answered_utf8 answer ≡ Some utf8 → (label : List ℕ) × IsALabelOf properties given label × (utf8 ≡ utf8_of label)
      by_answer (Ok label) is e =
          let from = u_label_answer-from properties given label is in
          (label, record { decoded = from.2; registrable = from.0; same = from.1 }, cc)
      by_answer (Err refusal) is e = cc

      back : (label : List ℕ) × IsALabelOf properties given label × (utf8 ≡ utf8_of label) → coded_label properties given ≡ Some utf8
      back is =
          let at = is.1 in
          let same : bytes_eq (a_label_of is.0) given ≡ true = (bytes_decides _ _).1 at.same in
          let told : unless_fault (first_fault properties is.0) (cond (bytes_eq (a_label_of is.0) given) (Ok is.0) (Err BadALabel)) ≡ Ok is.0 = rw (at.registrable, same) refl in
          ap answered_utf8 (u_label_answer-of properties given is.0 at.decoded ∙ told) ∙ ap Some (sym is.2)
