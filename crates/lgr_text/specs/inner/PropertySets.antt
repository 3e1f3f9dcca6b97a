-- Sets that are found by a property.
use Rattle.std.specs.Prelude.{◌≡◌, ℕ, ◌≤◌, Bool, List, Option, Some, None}
use Rattle.label_patterns.specs.declared.span.Span.{Span}
use Rattle.label_patterns.specs.Sets.{is_in}

-- the set has the code points that pass the test
abbrev pub HasPassing : (ℕ → Bool) → List Span → Type 0
HasPassing test set = (c : ℕ) → c ≤ 0x10FFFF → is_in set c ≡ test c

-- there is a set exactly where there is a test, and it has what passes
abbrev pub IsSetFor : Option (ℕ → Bool) → Option (List Span) → Type 0
IsSetFor None None = Unit {0}
IsSetFor (Some test) (Some set) = HasPassing test set
IsSetFor None (Some set) = ⊥
IsSetFor (Some test) None = ⊥
