-- The number of a predefined type by a test of its name.
use Rattle.std.specs.Prelude.{ℕ, List, bytes_eq, codes, if◌then◌else◌}

-- 5 if there is none of this name
abbrev pub predefined_by : List ℕ → ℕ
predefined_by name =
    if bytes_eq name (codes "invalid") then 0 else
    if bytes_eq name (codes "blocked") then 1 else
    if bytes_eq name (codes "allocatable") then 2 else
    if bytes_eq name (codes "activated") then 3 else
    if bytes_eq name (codes "valid") then 4 else 5
