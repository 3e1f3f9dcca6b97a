-- What a walk from a joiner decides: the first code point that is not transparent settles the answer.
use Rattle.std.proofs.Common.{◌≡◌, ℕ, ◌<◌, true, false, List, sym, ap, ◌∙◌, arith, inl, inr}
use Rattle.std.proofs.lemmas.Bool.{cases_lt}
use Rattle.idn_class.specs.declared.joining_type.JoiningType.{JoiningType}
use Rattle.idn_class.specs.declared.joining_type.JoiningType.TheVariants.{Transparent}
use Rattle.idn_class.specs.JoiningType.{joins_next, joins_previous}
use Rattle.idn_class.specs.ContextJ.{type_at, JoinsBefore, JoinsAfter}
use Rattle.idn_class.specs.declared.properties.Properties.{Properties}

-- no witness stands where all is transparent
pub clear_joins_not_left : (t : JoiningType) → t ≡ Transparent → joins_next t ≡ true → ⊥
clear_joins_not_left t clear joins = let clash : false ≡ true = ap joins_next (sym clear) ∙ joins in cc

pub clear_joins_not_right : (t : JoiningType) → t ≡ Transparent → joins_previous t ≡ true → ⊥
clear_joins_not_right t clear joins = let clash : false ≡ true = ap joins_previous (sym clear) ∙ joins in cc

module _ (properties : Properties) where
  -- the first that is not transparent, going left, is the witness of every proof
  pub joins_before_here : (label : List ℕ) (p at : ℕ) → at < p → (type_at properties label at ≡ Transparent → ⊥) → ((k : ℕ) → at < k → k < p → type_at properties label k ≡ Transparent) → JoinsBefore properties label p → joins_next (type_at properties label at) ≡ true
  joins_before_here label p at lt stop clear found =
      elim (cases_lt found.place at) [
        | inl before ↦ absurd (stop (found.clear at before lt))
        | inr from ↦
            elim (cases_lt at found.place) [
              | inl past ↦ absurd (clear_joins_not_left _ (clear found.place past found.earlier) found.joins)
              | inr upto ↦ let same : found.place ≡ at = omega arith in ap (λ k. joins_next (type_at properties label k)) (sym same) ∙ found.joins
            ]
      ]

  pub joins_after_here : (label : List ℕ) (p at : ℕ) → p < at → (type_at properties label at ≡ Transparent → ⊥) → ((k : ℕ) → p < k → k < at → type_at properties label k ≡ Transparent) → JoinsAfter properties label p → joins_previous (type_at properties label at) ≡ true
  joins_after_here label p at lt stop clear found =
      elim (cases_lt at found.place) [
        | inl past ↦ absurd (stop (found.clear at lt past))
        | inr upto ↦
            elim (cases_lt found.place at) [
              | inl before ↦ absurd (clear_joins_not_right _ (clear found.place found.later before) found.joins)
              | inr from ↦ let same : found.place ≡ at = omega arith in ap (λ k. joins_previous (type_at properties label k)) (sym same) ∙ found.joins
            ]
      ]
