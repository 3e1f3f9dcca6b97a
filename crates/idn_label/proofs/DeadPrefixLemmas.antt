-- No label that may be registered begins with a dead prefix. Filters cite this in their law, so it stands on no module
-- that leads to a function's proof.
use Rattle.std.proofs.Common.{◌≡◌, ℕ, List, ◌++◌, true, false, Option, None, Some, refl}
use Rattle.std.specs.Option.{is_none}
use Rattle.std.proofs.lemmas.Bool.{or_parts}
use Rattle.idn_text.specs.declared.refusal.Refusal.{Refusal}
use Rattle.idn_class.specs.DeadPrefixes.{hopeless}
use Rattle.idn_class.proofs.BidiTests.{bidi_ok-PassesBidiRule}
use Rattle.idn_class.proofs.DeadPrefixSteps.{hopeless-more}
use Rattle.idn_class.proofs.DeadPrefixTests.{hopeless-fails_tests}
use Rattle.idn_label.specs.FirstFault.{first_fault}
use Rattle.idn_label.proofs.FaultParts.{faultless}
use Rattle.idn_class.specs.declared.properties.Properties.{Properties}

module _ (properties : Properties) where
  by_fault : (v : List ℕ) (o : Option Refusal) → first_fault properties v ≡ o → hopeless properties v ≡ true → is_none o ≡ false
  by_fault v None registrable lost =
      let parts = faultless properties v registrable in
      let placed = or_parts _ _ parts.hyphens in
      absurd (hopeless-fails_tests properties v lost (or_parts _ _ placed.0).0 placed.1 parts.no_mark ((bidi_ok-PassesBidiRule properties v).0 parts.bidi))
  by_fault v (Some fault) is lost = refl

  pub none_hopeless : (w z : List ℕ) → hopeless properties w ≡ true → is_none (first_fault properties (w ++ z)) ≡ false
  none_hopeless w z lost = by_fault (w ++ z) (first_fault properties (w ++ z)) refl (hopeless-more properties w z lost)
