-- What begins with "xn--" where a U-label is wanted: an A-label, and the U-label that it stands for (RFC 5890, section
-- 2.3.2.1), or no A-label.
use Rattle.std.specs.Prelude.{◌≡◌, ℕ, List, drop, Option, Some, None, Ok, Err}
use Rattle.idn_text.specs.Points.{utf8_of}
use Rattle.idn_class.specs.declared.properties.Properties.{Properties}
use Rattle.idn_label.specs.ALabel.{a_label_of}
use Rattle.idn_label.specs.Answers.{Answer}
use Rattle.idn_label.specs.FirstFault.{IsRegistrable}
use Rattle.idn_label.specs.Register.{decoded_code, u_label_answer}

-- the UTF-8 of the answer, if there is one
abbrev pub answered_utf8 : Answer → Option (List ℕ)
answered_utf8 (Ok label) = Some (utf8_of label)
answered_utf8 (Err refusal) = None

-- the UTF-8 of what an A-label stands for; none of what is no A-label
abbrev pub coded_label : Properties → List ℕ → Option (List ℕ)
coded_label properties given = answered_utf8 (u_label_answer properties given)

-- it is the A-label of this U-label: its code stands for the label (RFC 3492), which may be registered (RFC 5891,
-- section 4), and whose A-label is no other
pub record IsALabelOf (properties : Properties) (given label : List ℕ) : Type 0 where
  pub decoded : decoded_code (drop 4 given) ≡ Ok label
  pub registrable : IsRegistrable properties label
  pub same : a_label_of label ≡ given
