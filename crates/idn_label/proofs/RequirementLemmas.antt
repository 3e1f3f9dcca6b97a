-- A label has no fault exactly where it meets the requirements.
use Rattle.std.proofs.Common.{◌≡◌, ◌≢◌, ℕ, ◌≤◌, ◌==◌, true, false, ◌||◌, nat_lt, List, [], ◌∷◌, length, refl, sym, ap, ◌∙◌, arith}
use Rattle.std.proofs.lemmas.Bool.{false_from_ne_true}
use Rattle.std.proofs.lemmas.Bool.Decides.{nat_tests}
use Rattle.unicode_normalization.specs.Forms.{Nfc, is_nfc}
use Rattle.unicode_normalization.proofs.FormsLemmas.{is_in_form-true, is_in_form_from}
use Rattle.idn_class.specs.LeadingMark.{BeginsWithMark}
use Rattle.idn_class.specs.Tests.{leading_mark}
use Rattle.idn_class.proofs.BidiTests.{bidi_ok-PassesBidiRule}
use Rattle.idn_class.proofs.ContextJTests.{contextj_ok-PassesContextJ}
use Rattle.idn_class.proofs.ContextOTests.{contexto_ok-PassesContextO}
use Rattle.idn_label.specs.ALabel.{a_label_of}
use Rattle.idn_label.specs.FirstFault.{is_too_long, first_fault, IsRegistrable}
use Rattle.idn_label.specs.Requirements.{MeetsRequirements}
use Rattle.idn_label.proofs.FaultLemmas.{permitted, no_fault}
use Rattle.idn_label.proofs.FaultParts.{faultless}
use Rattle.idn_class.specs.declared.properties.Properties.{Properties}

pub short : (n m : ℕ) → (nat_lt 63 n || nat_lt 63 m) ≡ false → (n ≤ 63) × (m ≤ 63)
short n m h = (grind (arith, nat_tests), grind (arith, nat_tests))

pub not_long : (n m : ℕ) → n ≤ 63 → m ≤ 63 → (nat_lt 63 n || nat_lt 63 m) ≡ false
not_long n m few octets = grind (arith, nat_tests)

module _ (properties : Properties) where
  pub MeetsRequirements-registrable : (label : List ℕ) → IsRegistrable properties label → MeetsRequirements properties label
  MeetsRequirements-registrable label registrable =
      let parts = faultless properties label registrable in
      let lengths = short (length label) (length (a_label_of label)) parts.short in
      record {
        some = λ empty. let clash : true ≡ false = ap (λ l. length l == 0) (sym empty) ∙ parts.some in cc;
        normalized = is_in_form-true Nfc label parts.normalized;
        permitted = permitted properties label parts.points;
        hyphens = parts.hyphens;
        no_mark = parts.no_mark;
        joiners = (contextj_ok-PassesContextJ properties label).0 parts.joiners;
        others = (contexto_ok-PassesContextO label).0 parts.others;
        bidi = (bidi_ok-PassesBidiRule properties label).0 parts.bidi;
        points = lengths.0;
        octets = lengths.1;
      }

pub unmarked : (label : List ℕ) → ¬ (BeginsWithMark label) → leading_mark label ≡ false
unmarked [] none = refl
unmarked (c ∷ label) none = false_from_ne_true _ none

pub not_empty : (label : List ℕ) → label ≢ [] → (length label == 0) ≡ false
not_empty [] some = absurd (some refl)
not_empty (c ∷ label) some = grind (arith, nat_tests)

module _ (properties : Properties) where
  pub registrable-MeetsRequirements : (label : List ℕ) → MeetsRequirements properties label → IsRegistrable properties label
  unfolding first_fault
  registrable-MeetsRequirements label meets =
      let normal : is_nfc label ≡ true = is_in_form_from Nfc label meets.normalized in
      let within : is_too_long label ≡ false = not_long (length label) (length (a_label_of label)) meets.points meets.octets in
      rw (
        not_empty label meets.some,
        no_fault properties label meets.permitted,
        normal,
        meets.hyphens,
        unmarked label meets.no_mark,
        (contextj_ok-PassesContextJ properties label).1 meets.joiners,
        (contexto_ok-PassesContextO label).1 meets.others,
        (bidi_ok-PassesBidiRule properties label).1 meets.bidi,
        within,
      ) refl
