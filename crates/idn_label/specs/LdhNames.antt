-- Names of ASCII letters, digits and hyphens.
use Rattle.std.specs.Prelude.{◌≡◌, ℕ, ◌-◌, ◌≤◌, List, length, All, Bool, true, false, not, ◌&&◌, ◌||◌, ◌==◌, nat_le}
use Rattle.std.specs.Prelude.{if◌then◌else◌}
use Rattle.std.specs.Char.{to_ascii_lowercase}
use Rattle.std.specs.Int.{is_in_range}
use Rattle.std.specs.List.{list_any}
use Rattle.idna.specs.Labels.{labels_of}
use Rattle.idna.specs.Validity.{has_ace_prefix}
use Rattle.idn_label.specs.Steps.{is_ldh_point, lowercase}

-- a lower-case ASCII letter, a digit, the hyphen or the full stop
abbrev pub is_name_point : ℕ → Bool
is_name_point c = is_ldh_point c || (c == 0x2E)

-- at most 254 ASCII letters, digits, hyphens and full stops, and no label of them begins with "xn--" in any ASCII case
pub record IsLdhName (name : List ℕ) : Type 0 where
  pub short : length name ≤ 254
  pub points : All (λ c. is_name_point (to_ascii_lowercase c) ≡ true) name
  pub no_a_label : list_any has_ace_prefix (labels_of (lowercase name)) ≡ false

-- a name of so many octets may end in the label that begins at this place: a full stop after another label, which is
-- put aside, or 1 to 63 octets; and it has at most 253 octets (RFC 1035 section 2.3.4)
abbrev pub may_end : ℕ → ℕ → Bool
may_end start count =
    if start == count then not (start == 0) && nat_le count 254
    else is_in_range 1 63 (count - start) && nat_le count 253
