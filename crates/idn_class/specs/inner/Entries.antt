-- The entries of the table of classes.
use Rattle.std.specs.Prelude.{ℕ, ◌-◌, nat_lt, if◌then◌else◌}
use Rattle.idn_class.specs.declared.properties.Properties.{Properties}
use Rattle.idn_class.specs.declared.properties.Properties.TheVariants.{Profile, Unicode}

-- the number of what the profile leaves out, by its entry
abbrev pub number_outside : Properties → ℕ → ℕ
number_outside Profile entry = 0
number_outside Unicode entry = entry - 6

-- the number of a class, by an entry of the table
abbrev pub number_by : Properties → ℕ → ℕ
number_by properties entry = if nat_lt entry 6 then entry else number_outside properties entry
