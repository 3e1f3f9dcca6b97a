-- A name label by label: whether each of them is decoded.
use Rattle.std.proofs.Common.{◌≡◌, ℕ, Bool, true, false, List, drop, map, bytes_eq, cond, Option, None, Some, Ok, Err, refl, ap, ◌∙◌}
use Rattle.std.specs.Char.{to_ascii_lowercase}
use Rattle.std.specs.Result.{is_ok}
use Rattle.idna.specs.Validity.{has_ace_prefix}
use Rattle.idn_text.specs.declared.refusal.Refusal.{Refusal}
use Rattle.idn_text.specs.declared.refusal.Refusal.TheVariants.{BadALabel, Empty}
use Rattle.idn_label.specs.ALabel.{a_label_of}
use Rattle.idn_label.specs.Answers.{and_then, unless_fault}
use Rattle.idn_label.specs.FirstFault.{first_fault, IsRegistrable}
use Rattle.idn_label.specs.Register.{confirmed, decoded_code, u_label_answer}
use Rattle.idn_label.proofs.AnswerLemmas.{confirmed-by}
use Rattle.idn_label.proofs.BidiNames.{decoded_name-labels, decoded_name-refused}
use Rattle.idn_label.proofs.DecodeLemmas.{decoded_label-coded, decoded_label-other}
use Rattle.idna.specs.Labels.{labels_of}
use Rattle.idn_cause.specs.ALabelCauses.{a_label_cause, cause_by_code}
use Rattle.idn_cause.specs.Causes.{cause_of}
use Rattle.idn_label.specs.Answers.{Answer}
use Rattle.idn_cause.specs.NameCauses.{at_label, found_cause, is_decoded, name_cause}
use Rattle.idn_cause.specs.NameLabels.{first_failing_label}
use Rattle.idn_class.specs.declared.properties.Properties.{Properties}

module _ (properties : Properties) where
  pub is_decoded-other : (label : List ℕ) → has_ace_prefix (map to_ascii_lowercase label) ≡ false → is_decoded properties label ≡ true
  is_decoded-other label other = ap is_ok (decoded_label-other properties label other)

  -- what begins with "xn--" is decoded exactly if it is the A-label of a label that may be registered
  pub is_decoded-coded : (label : List ℕ) → has_ace_prefix (map to_ascii_lowercase label) ≡ true → is_decoded properties label ≡ is_ok (u_label_answer properties (map to_ascii_lowercase label))
  is_decoded-coded label coded = ap is_ok (decoded_label-coded properties label coded)

pub ruleset decoded_labels = (is_decoded-other, is_decoded-coded)

module _ (properties : Properties) where
  -- the same by what the code stands for
  pub u_label_ok-none : (given : List ℕ) (refusal : Refusal) → decoded_code (drop 4 given) ≡ Err refusal → is_ok (u_label_answer properties given) ≡ false
  unfolding u_label_answer
  u_label_ok-none given refusal none = ap (λ answer. is_ok (and_then answer (confirmed properties given))) none

  pub u_label_ok-some : (given label : List ℕ) → decoded_code (drop 4 given) ≡ Ok label → is_ok (u_label_answer properties given) ≡ is_ok (confirmed properties given label)
  unfolding u_label_answer
  u_label_ok-some given label some = ap (λ answer. is_ok (and_then answer (confirmed properties given))) some

pub ruleset a_labels = (u_label_ok-none, u_label_ok-some)

module _ (properties : Properties) where
  -- and by the test of that label
  by_fault : (given label : List ℕ) (fault : Option Refusal) → first_fault properties label ≡ fault → is_ok (confirmed properties given label) ≡ is_ok (unless_fault fault (cond (bytes_eq (a_label_of label) given) (Ok label) (Err BadALabel)))
  by_fault given label fault is =
      ap is_ok (confirmed-by properties given label) ∙ ap (λ f. is_ok (unless_fault f (cond (bytes_eq (a_label_of label) given) (Ok label) (Err BadALabel)))) is

same_ok : (same : Bool) (label : List ℕ) → is_ok (unless_fault None (cond same (Ok label) (Err BadALabel))) ≡ same
same_ok true label = refl
same_ok false label = refl

module _ (properties : Properties) where
  pub confirmed_ok-fault : (given label : List ℕ) (refusal : Refusal) → first_fault properties label ≡ Some refusal → is_ok (confirmed properties given label) ≡ false
  confirmed_ok-fault given label refusal fault = by_fault properties given label (Some refusal) fault

  pub confirmed_ok-registrable : (given label : List ℕ) → IsRegistrable properties label → is_ok (confirmed properties given label) ≡ bytes_eq (a_label_of label) given
  confirmed_ok-registrable given label none = by_fault properties given label None none ∙ same_ok (bytes_eq (a_label_of label) given) label

pub ruleset confirmed_labels = (confirmed_ok-fault, confirmed_ok-registrable)

-- the labels of a decoded name
pub ruleset whole_names = (decoded_name-labels, decoded_name-refused)

module _ (properties : Properties) where
  -- an empty label is no fault of what begins with "xn--", so no cause is told for it
  none_by_code : (given : List ℕ) (answer : Answer) → cause_by_code properties given Empty answer ≡ None
  unfolding cause_of
  none_by_code given (Ok label) = refl
  none_by_code given (Err refusal) = refl

  none_found : (name : List ℕ) (found : Option (ℕ × List ℕ)) → found_cause properties name Empty found ≡ None
  unfolding a_label_cause
  none_found name None = refl
  none_found name (Some (number, label)) =
      ap (at_label number) (none_by_code (map to_ascii_lowercase label) (decoded_code (drop 4 (map to_ascii_lowercase label))))

  -- nor of a name that is decoded
  pub name_cause-empty : (name : List ℕ) → name_cause properties name Empty ≡ None
  unfolding name_cause
  name_cause-empty name = none_found name (first_failing_label (is_decoded properties) 0 (labels_of name))

pub ruleset empty_names = (name_cause-empty)
