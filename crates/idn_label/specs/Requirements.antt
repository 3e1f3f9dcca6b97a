-- What a label has to meet to be registered, as facts.
use Rattle.std.specs.Prelude.{◌≡◌, ◌≢◌, ℕ, ◌≤◌, false, List, [], length, None, All}
use Rattle.unicode_normalization.specs.Forms.{nfc}
use Rattle.idn_class.specs.BidiRule.{PassesBidiRule}
use Rattle.idn_class.specs.Class.{class_of}
use Rattle.idn_class.specs.ContextJ.{PassesContextJ}
use Rattle.idn_class.specs.ContextO.{PassesContextO}
use Rattle.idn_class.specs.LeadingMark.{BeginsWithMark}
use Rattle.idn_label.specs.ALabel.{a_label_of}
use Rattle.idn_label.specs.FirstFault.{fault_of_class, has_hyphen_out_of_place}
use Rattle.idn_class.specs.declared.properties.Properties.{Properties}

-- each requirement on a label, by its section of RFC 5891
pub record MeetsRequirements (properties : Properties) (label : List ℕ) : Type 0 where
  pub some : label ≢ []
  -- 4.2.1: Normalization Form C
  pub normalized : nfc label ≡ label
  -- 4.2.2: no code point that is DISALLOWED or UNASSIGNED
  pub permitted : All (λ c. fault_of_class (class_of properties c) ≡ None) label
  -- 4.2.3.1
  pub hyphens : has_hyphen_out_of_place label ≡ false
  -- 4.2.3.2
  pub no_mark : ¬ (BeginsWithMark label)
  -- 4.2.3.3
  pub joiners : PassesContextJ properties label
  pub others : PassesContextO label
  -- 4.2.3.4
  pub bidi : PassesBidiRule properties label
  -- a limit of this program, by either properties
  pub points : length label ≤ 63
  -- 4.4
  pub octets : length (a_label_of label) ≤ 63
