-- How much a text of each version may hold.
use Rattle.std.specs.Prelude.{ℕ}
use Rattle.variant_table.specs.declared.version.Version.{Version}
use Rattle.variant_table.specs.declared.version.Version.TheVariants.{One, Two, Three}

-- the most bytes of a line, without its line feed
abbrev pub line_limit : Version → ℕ
line_limit One = 1024
line_limit Two = 1024
line_limit Three = 8192

-- the most bytes of a text, also of a canonical one
abbrev pub text_limit : Version → ℕ
text_limit One = 1048576
text_limit Two = 1048576
text_limit Three = 8388608

-- the most entries of a table
abbrev pub entry_limit : Version → ℕ
entry_limit One = 4096
entry_limit Two = 4096
entry_limit Three = 65536
