-- Where lower-case letters, digits and hyphens end in a text.
use Rattle.std.proofs.Common.{◌≡◌, ℕ, ◌<◌, ◌≤◌, true, false, not, List, length, get_or}
use Rattle.std.specs.List.{slice_range, AllWithin}
use Rattle.std.proofs.lemmas.Bool.{not-false}
use Rattle.std.proofs.lemmas.List.Elements.{All-weaker}
use Rattle.std.proofs.lemmas.List.Sums.{list_all-from_AllPass}
use Rattle.idn_label.specs.LdhEnds.{IsLdhEnd}
use Rattle.idn_label.specs.Steps.{is_ldh_point}
use Rattle.idn_label.proofs.LabelsByPlace.{All-slice}

-- only such octets stand from one place to another
abbrev pub AreLdh : List ℕ → ℕ → ℕ → Type 0
AreLdh text start end = AllWithin (λ c. not (is_ldh_point c) ≡ false) text start end

pub ends_at_other : (text : List ℕ) (start at : ℕ) → start ≤ at → at ≤ length text → AreLdh text start at → (at < length text → is_ldh_point (get_or text at 0) ≡ false) → IsLdhEnd text start at
ends_at_other text start at order within before other = record {
  reached = order;
  within = within;
  ldh = list_all-from_AllPass is_ldh_point (slice_range text start at) (All-weaker (λ c. not (is_ldh_point c) ≡ false) (λ c. is_ldh_point c ≡ true) (λ c is. not-false (is_ldh_point c) is) (slice_range text start at) (All-slice (λ c. not (is_ldh_point c) ≡ false) text start at before));
  other = other;
}
