-- Where lower-case letters, digits and hyphens of ASCII end in a text.
use Rattle.std.specs.Prelude.{◌≡◌, ℕ, ◌<◌, ◌≤◌, true, false, List, length, slice_index}
use Rattle.std.specs.List.{list_all, slice_range}
use Rattle.idn_label.specs.Steps.{is_ldh_point}

-- such octets stand from one place up to another, where none stands
pub record IsLdhEnd (text : List ℕ) (start «end» : ℕ) : Type 0 where
  pub reached : start ≤ «end»
  pub within : «end» ≤ length text
  pub ldh : list_all is_ldh_point (slice_range text start «end») ≡ true
  pub other : «end» < length text → is_ldh_point (slice_index text «end») ≡ false
