-- The A-label of a label.
use Rattle.std.specs.Prelude.{ℕ, List, ◌++◌, codes, if◌then◌else◌}
use Rattle.idna.specs.Punycode.{encode}
use Rattle.idna.specs.Validity.{is_all_ascii}

-- a label that is all ASCII is its own A-label, any other has the prefix and then its Punycode
-- (RFC 5890 section 2.3.2.1, RFC 3492)
unfoldable pub a_label_of : List ℕ → List ℕ
a_label_of label = if is_all_ascii label then label else codes "xn--" ++ encode label
