-- Blocks: bytes that are looked at at once.
use Rattle.std.specs.Prelude.{ℕ, Bool, ◌&&◌, nat_lt}
use Rattle.xml_text.specs.References.{is_character}

-- a byte of UTF-8 that is a character by itself, which XML may have
abbrev pub is_plain : ℕ → Bool
is_plain b = nat_lt b 128 && is_character b
