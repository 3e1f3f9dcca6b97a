use Rattle.std.proofs.Common.{◌≡◌, ◌-◌, ◌≤◌, true, map, take, length, slice_range}
use Rattle.std.specs.Char.{to_ascii_lowercase}
use Rattle.std.specs.List.{AllWithin}
use Rattle.std.specs.Simd.Lanes.{mask_l}
use Rattle.idna.specs.Labels.{is_full_stop}
use Rattle.idn_label.specs.LdhNames.{is_name_point}
use Rattle.idn_label.proofs.LdhNames.{IsCut}
use Rattle.idn_label.proofs.query.ldh.ldh_query.Given as goal

-- the octets so far, in lower case, cut at their full stops
abbrev pub invariant-chunks : goal.invariant-chunks
invariant-chunks l = record {
  lower : take l.at l.room ≡ take l.at (map to_ascii_lowercase l.name);
  points : AllWithin (λ c. is_name_point (to_ascii_lowercase c) ≡ true) l.name 0 l.at;
  cut : IsCut (map to_ascii_lowercase l.name) l.at l.start l.have_lengths;
  within : l.at ≤ length l.name;
}

abbrev pub decreases-chunks : goal.decreases-chunks
decreases-chunks l = length l.name - l.at

-- the same in a chunk, and the full stops of its octets after them
abbrev pub invariant-labels : goal.invariant-labels
invariant-labels l = record {
  cut : IsCut (map to_ascii_lowercase l.name) l.at l.start l.have_lengths;
  stops : l.stops ≡ mask_l (map is_full_stop (slice_range (map to_ascii_lowercase l.name) l.at l.end));
  within : (l.initial.at ≤ l.at) × (l.at ≤ l.end);
}

abbrev pub decreases-labels : goal.decreases-labels
decreases-labels l = l.end - l.at
