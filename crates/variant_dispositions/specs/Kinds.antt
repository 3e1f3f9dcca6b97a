-- What a reading records of each source of a label (RFC 7940, sections 5.3.4 and 8.2).
use Rattle.std.specs.Prelude.{ℕ, zero, suc, ◌==◌, ◌<◌, Bool, true, false, List, map, filter, Option, Some, None}
use Rattle.std.specs.List.{flat_map, range_with_len}
use Rattle.std.specs.Int.{bit_at}
use Rattle.reading_kinds.specs.Readings.{Substitution}

-- a source that stays and has no reflexive type; a variant without a type; or a type, that of a variant or the
-- reflexive one of a source that stays, by its number
pub data Kind : Type 0 where
  Unmapped : Kind
  Untyped : Kind
  Typed : ℕ → Kind

-- the kind of each bit of a word
abbrev pub kind_at : ℕ → Kind
kind_at zero = Unmapped
kind_at (suc zero) = Untyped
kind_at (suc (suc number)) = Typed number

-- and the bit of each kind
abbrev pub bit_of : Kind → ℕ
bit_of Unmapped = 0
bit_of Untyped = 1
bit_of (Typed number) = suc (suc number)

-- the kind of a source that stays, by its reflexive type, and of a variant that is put in its place, by its variant
-- type; types go by their numbers
abbrev pub kind_of_source : Option ℕ → Kind
kind_of_source None = Unmapped
kind_of_source (Some number) = Typed number

abbrev pub kind_of_variant : Option ℕ → Kind
kind_of_variant None = Untyped
kind_of_variant (Some number) = Typed number

-- a type whose kind has a bit in a word
abbrev pub IsTypeNumber : Option ℕ → Type 0
IsTypeNumber None = Unit {0}
IsTypeNumber (Some number) = number < 62

-- the kinds of which a word of 64 bits has the bits
unfoldable pub kinds_in : ℕ → List Kind
kinds_in word = map kind_at (filter (λ bit. bit_at word bit == 1) (range_with_len 0 64))

-- what a reading records: the kinds of its substitutions
abbrev pub recorded : List Substitution → List Kind
recorded reading = flat_map (λ u. kinds_in u.kinds) reading

-- all kinds but that of a source that stays and has no reflexive type
abbrev pub is_mapped : Kind → Bool
is_mapped Unmapped = false
is_mapped Untyped = true
is_mapped (Typed number) = true
