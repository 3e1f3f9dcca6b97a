-- The limits of the versions.
use Rattle.std.proofs.Common.{◌≤◌, arith}
use Rattle.variant_table.specs.declared.version.Version.{Version}
use Rattle.variant_table.specs.declared.version.Version.TheVariants.{One, Two, Three}
use Rattle.variant_table.specs.Limits.{line_limit, text_limit, entry_limit}

pub line_limit-least : (v : Version) → 1024 ≤ line_limit v
line_limit-least One = omega arith
line_limit-least Two = omega arith
line_limit-least Three = omega arith

pub text_limit-least : (v : Version) → 1048576 ≤ text_limit v
text_limit-least One = omega arith
text_limit-least Two = omega arith
text_limit-least Three = omega arith

pub text_limit-most : (v : Version) → text_limit v ≤ 8388608
text_limit-most One = omega arith
text_limit-most Two = omega arith
text_limit-most Three = omega arith

pub entry_limit-most : (v : Version) → entry_limit v ≤ 65536
entry_limit-most One = omega arith
entry_limit-most Two = omega arith
entry_limit-most Three = omega arith
