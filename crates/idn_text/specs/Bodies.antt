-- What a body holds.
use Rattle.std.specs.Prelude.{ℕ, List, Option, Some, None}
use Rattle.idn_text.specs.declared.body.Body.{Body}
use Rattle.idn_text.specs.declared.body.Body.TheVariants.{Text, TooLong}

-- the bytes of a body, none where the line is too long
abbrev pub bytes_of : Body → Option (List ℕ)
bytes_of (Text text) = Some text.items
bytes_of TooLong = None
