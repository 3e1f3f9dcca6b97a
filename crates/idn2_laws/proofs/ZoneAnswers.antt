-- How a label of a zone is answered.
use Rattle.std.proofs.Common.{◌≡◌, ◌∙◌, ℕ, List, [], ◌∷◌, Bool, true, false, cond, Option, Some, None, Ok, Err, refl, sym, ap, subst}
use Rattle.std.specs.List.{AllByRecursion}
use Rattle.std.specs.Option.{is_none}
use Rattle.idn_class.specs.declared.properties.Properties.{Properties}
use Rattle.idna.specs.Validity.{is_all_ascii, has_ace_prefix}
use Rattle.idn_text.specs.Points.{AreScalarValues, utf8_of}
use Rattle.idn_text.specs.declared.refusal.Refusal.{Refusal}
use Rattle.idn_label.specs.ALabel.{a_label_of}
use Rattle.idn_label.specs.Answers.{Answer, and_then, unless_fault}
use Rattle.idn_label.specs.FirstFault.{first_fault, IsRegistrable}
use Rattle.idn_label.specs.OldNames.{ZoneAnswer, old_fault, stands_for, unless_refused, zone_answer, zone_answer_by, zone_in_utf8}
use Rattle.idn_label.specs.Register.{register_answer, tested_answer, u_label_answer}
use Rattle.idn_label.specs.Steps.{lowercase}
use Rattle.idn_label.specs.declared.old_names.Standing.{Standing}
use Rattle.idn_label.specs.declared.old_names.Standing.TheVariants.{Registrable, Old}
use Rattle.idn_label.proofs.ALabels.{registrable_scalars}
use Rattle.idn_label.proofs.AnswerLemmas.{u_label_answer-from}
use Rattle.idn_label.proofs.OldNameLemmas.{IsOld-faultless, IsOld-scalars, stands_for-answered, stands_for-plain}
use Rattle.idn2_answers.specs.Answers.{LineAnswer, u_label_of, zone_line, zone_said}
use Rattle.idn2_answers.specs.Said.{Said}
use Rattle.idn2_answers.proofs.RegisteredLines.{stands_for-decoded, stands_for-itself}

-- what a label that is registered stands for
pub record IsRegisteredFor (properties : Properties) (label a_label u : List ℕ) : Type 0 where
  pub registrable : IsRegistrable properties u
  pub told : u_label_of properties label ≡ u
  pub named : stands_for label ≡ u
  pub same : a_label_of u ≡ a_label

module _ (properties : Properties) where
  pub registered-for : (label a_label : List ℕ) → register_answer properties label ≡ Ok a_label → (u : List ℕ) × IsRegisteredFor properties label a_label u
  unfolding register_answer tested_answer
  registered-for label a_label is = by_prefix (has_ace_prefix label) refl is
    where
      plain : has_ace_prefix label ≡ false → (fault : Option Refusal) → first_fault properties label ≡ fault → unless_fault fault (Ok (a_label_of label)) ≡ Ok a_label → (u : List ℕ) × IsRegisteredFor properties label a_label u
      plain other None e same =
          (label, record { registrable = e; told = stands_for-itself properties label other; named = stands_for-plain label other; same = let one : Ok (a_label_of label) ≡ Ok a_label = same in cc })
      plain other (Some refusal) e same = absurd (let clash : Err refusal ≡ Ok a_label = same in cc)

      coded : has_ace_prefix label ≡ true → (answer : Answer) → u_label_answer properties label ≡ answer → and_then answer (λ decoded. Ok (a_label_of decoded)) ≡ Ok a_label → (u : List ℕ) × IsRegisteredFor properties label a_label u
      coded prefix (Ok u) e same = (
        u,
        record {
          registrable = (u_label_answer-from properties label u e).0;
          told = stands_for-decoded properties label u prefix e;
          named = stands_for-answered properties label u prefix e;
          same = let one : Ok (a_label_of u) ≡ Ok a_label = same in cc;
        },
      )
      coded prefix (Err refusal) e same = absurd (let clash : Err refusal ≡ Ok a_label = same in cc)

      by_prefix : (b : Bool) → has_ace_prefix label ≡ b → cond b (and_then (u_label_answer properties label) (λ decoded. Ok (a_label_of decoded))) (unless_fault (first_fault properties label) (Ok (a_label_of label))) ≡ Ok a_label
          → (u : List ℕ) × IsRegisteredFor properties label a_label u
      by_prefix true prefix same = coded prefix (u_label_answer properties label) refl same
      by_prefix false other same = plain other (first_fault properties label) refl same

  registered-scalars : (name a_label : List ℕ) → register_answer properties name ≡ Ok a_label → AreScalarValues (stands_for name)
  registered-scalars name a_label is =
      let found = registered-for name a_label is in
      subst AreScalarValues (sym found.1.named) (registrable_scalars properties found.0 found.1.registrable)

none-of : (fault : Option Refusal) → is_none fault ≡ true → fault ≡ None
none-of None none = refl
none-of (Some refusal) none = absurd (let clash : false ≡ true = none in cc)

module _ (properties : Properties) (line : List ℕ) where
  name : List ℕ
  name = lowercase line

  -- by what is tested of it
  told_by : (ascii old : Bool) → Answer → Refusal → ZoneAnswer
  told_by ascii old answer refusal = cond ascii (unless_refused name answer (cond old (Ok (stands_for name, Old)) (Err refusal))) (Err refusal)

  -- a label of a zone is refused as it is by registration
  pub zone-refused : (refusal : Refusal) → zone_line (zone_in_utf8 (zone_answer properties line)) ≡ Err refusal → register_answer properties line ≡ Err refusal
  unfolding zone_answer name told_by
  zone-refused refusal is = by_answer (register_answer properties line) refl is
    where
      by_tests : (ascii old : Bool) (answer : Answer) (other : Refusal) → zone_line (zone_in_utf8 (told_by ascii old answer other)) ≡ Err refusal → other ≡ refusal
      by_tests true old (Ok a_label) other same = absurd (let clash : Ok (zone_said Registrable (utf8_of (stands_for name)) ∷ []) ≡ Err refusal = same in cc)
      by_tests true true (Err x) other same = absurd (let clash : Ok (zone_said Old (utf8_of (stands_for name)) ∷ []) ≡ Err refusal = same in cc)
      by_tests true false (Err x) other same = let clash : (let r : LineAnswer = Err other in r) ≡ Err refusal = same in cc
      by_tests false old answer other same = let clash : (let r : LineAnswer = Err other in r) ≡ Err refusal = same in cc

      by_answer : (answer : Answer) → register_answer properties line ≡ answer → zone_line (zone_in_utf8 (zone_answer_by properties line answer)) ≡ Err refusal → register_answer properties line ≡ Err refusal
      by_answer (Ok a_label) e same = absurd (let clash : Ok (zone_said Registrable (utf8_of (stands_for line)) ∷ []) ≡ Err refusal = same in cc)
      by_answer (Err other) e same = e ∙ ap Err (by_tests (is_all_ascii line) (is_none (old_fault (stands_for name))) (register_answer properties name) other same)

  -- what holds of what scalar values spell, however they stand, holds of what is said
  module _ (P : Said → Type 0) (holds : (standing : Standing) (label : List ℕ) → AreScalarValues label → P (zone_said standing (utf8_of label))) where
    one : (standing : Standing) (label : List ℕ) (said : List Said) → AreScalarValues label → (let r : LineAnswer = Ok (zone_said standing (utf8_of label) ∷ []) in r) ≡ Ok said → AllByRecursion P said
    one standing label said scalars same = subst (AllByRecursion P) (let is : zone_said standing (utf8_of label) ∷ [] ≡ said = cc in is) (holds standing label scalars, tt)

    pub zone-said : (said : List Said) → zone_line (zone_in_utf8 (zone_answer properties line)) ≡ Ok said → AllByRecursion P said
    unfolding zone_answer name told_by
    zone-said said is = by_answer (register_answer properties line) refl is
      where
        by_tests : (ascii old : Bool) (answer : Answer) (other : Refusal) → is_none (old_fault (stands_for name)) ≡ old → register_answer properties name ≡ answer → zone_line (zone_in_utf8 (told_by ascii old answer other)) ≡ Ok said → AllByRecursion P said
        by_tests true old (Ok a_label) other is e same = one Registrable (stands_for name) said (registered-scalars properties name a_label e) same
        by_tests true true (Err x) other is e same = one Old (stands_for name) said (IsOld-scalars (stands_for name) (IsOld-faultless (stands_for name) (none-of (old_fault (stands_for name)) is))) same
        by_tests true false (Err x) other is e same = absurd (let clash : Err other ≡ Ok said = same in cc)
        by_tests false old answer other is e same = absurd (let clash : Err other ≡ Ok said = same in cc)

        by_answer : (answer : Answer) → register_answer properties line ≡ answer → zone_line (zone_in_utf8 (zone_answer_by properties line answer)) ≡ Ok said → AllByRecursion P said
        by_answer (Ok a_label) e same = one Registrable (stands_for line) said (registered-scalars properties line a_label e) same
        by_answer (Err other) e same = by_tests (is_all_ascii line) (is_none (old_fault (stands_for name))) (register_answer properties name) other refl refl same
