-- The first fault by its parts. Filters cite the law on dead prefixes, so this stands on no module that leads to a
-- function's proof.
use Rattle.std.proofs.Common.{◌≡◌, ℕ, ◌==◌, Bool, true, false, List, [], ◌∷◌, length, Option, None, refl}
use Rattle.std.proofs.lemmas.Bool.{not-false, both_ways}
use Rattle.unicode_normalization.specs.Forms.{is_nfc}
use Rattle.idn_text.specs.declared.refusal.Refusal.{Refusal}
use Rattle.idn_text.specs.declared.refusal.Refusal.TheVariants.{Empty, NotNfc, Hyphen, LeadingMark, ContextJ, ContextO, Bidi, LabelTooLong}
use Rattle.idn_class.specs.LeadingMark.{BeginsWithMark}
use Rattle.idn_class.specs.Tests.{leading_mark, contextj_ok, contexto_ok, bidi_ok}
use Rattle.idn_label.specs.FirstFault.{first_of, fault_if, code_point_fault, has_hyphen_out_of_place, is_too_long, first_fault, IsRegistrable}
use Rattle.idn_class.specs.declared.properties.Properties.{Properties}

module _ (properties : Properties) where
  -- what is so of a label that may be registered
  pub record IsFaultless (label : List ℕ) : Type 0 where
    pub some : (length label == 0) ≡ false
    pub points : code_point_fault properties label ≡ None
    pub normalized : is_nfc label ≡ true
    pub hyphens : has_hyphen_out_of_place label ≡ false
    pub no_mark : ¬ (BeginsWithMark label)
    pub joiners : contextj_ok properties label ≡ true
    pub others : contexto_ok label ≡ true
    pub bidi : bidi_ok properties label ≡ true
    pub short : is_too_long label ≡ false

-- where no fault is told, each of them is absent
absent : (empty : Bool) (points : Option Refusal) (form hyphen mark joiner other bidi long : Bool) → first_of (fault_if empty Empty ∷ points ∷ fault_if form NotNfc ∷ fault_if hyphen Hyphen ∷ fault_if mark LeadingMark ∷ fault_if joiner ContextJ ∷ fault_if other ContextO ∷ fault_if bidi Bidi ∷ fault_if long LabelTooLong ∷ []) ≡ None → (empty ≡ false) × (points ≡ None) × (form ≡ false) × (hyphen ≡ false) × (mark ≡ false) × (joiner ≡ false) × (other ≡ false) × (bidi ≡ false) × (long ≡ false)
absent false None false false false false false false false none = (refl, refl, refl, refl, refl, refl, refl, refl, refl)
absent _ _ _ _ _ _ _ _ _ none = cc

no_mark : (label : List ℕ) → leading_mark label ≡ false → ¬ (BeginsWithMark label)
no_mark [] none mark = mark
no_mark (c ∷ label) none mark = both_ways _ none mark

module _ (properties : Properties) where
  pub faultless : (label : List ℕ) → IsRegistrable properties label → IsFaultless properties label
  unfolding first_fault
  faultless label registrable =
      let parts = absent _ _ _ _ _ _ _ _ _ registrable in record {
        some = parts.0;
        points = parts.1;
        normalized = not-false _ parts.2;
        hyphens = parts.3;
        no_mark = no_mark label parts.4;
        joiners = not-false _ parts.5;
        others = not-false _ parts.6;
        bidi = not-false _ parts.7;
        short = parts.8;
      }
