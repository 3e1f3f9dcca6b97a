-- What a line that is registered stands for.
use Rattle.std.proofs.Common.{◌≡◌, ℕ, List, Bool, true, false, Ok, ap, ◌∙◌, cond}
use Rattle.idn_class.specs.declared.properties.Properties.{Properties}
use Rattle.idna.specs.Validity.{has_ace_prefix}
use Rattle.idn_label.specs.Answers.{Answer}
use Rattle.idn_label.specs.Register.{u_label_answer}
use Rattle.idn2_answers.specs.Answers.{label_or, u_label_of}

module _ (properties : Properties) where
  pub stands_for-itself : (label : List ℕ) → has_ace_prefix label ≡ false → u_label_of properties label ≡ label
  stands_for-itself label other = ap (λ (b : Bool). cond b (label_or (u_label_answer properties label) label) label) other

  pub stands_for-decoded : (given label : List ℕ) → has_ace_prefix given ≡ true → u_label_answer properties given ≡ Ok label → u_label_of properties given ≡ label
  stands_for-decoded given label prefix is =
      ap (λ (b : Bool). cond b (label_or (u_label_answer properties given) given) given) prefix ∙ ap (λ (a : Answer). label_or a given) is
