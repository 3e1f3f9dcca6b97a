-- Worked examples of the definitions, by computation.
use Rattle.std.specs.Prelude.{◌≡◌, ℕ, List, [], ◌∷◌, ◌++◌, Some, None, codes}
use Rattle.idn_text.specs.declared.refusal.Refusal.TheVariants.{Empty, LineTooLong, NotUtf8, Disallowed, Hyphen}
use Rattle.idn_label.specs.OldNames.{mark}
use Rattle.variant_table.specs.declared.version.Version.TheVariants.{Two}
use Rattle.variant_table.specs.Entries.{Entry, TableValue, empty_table, plain_variant}
use Rattle.variant_list.specs.Examples.{entry, untyped}
use Rattle.variant_list.specs.Spelled.{spelled}
use Rattle.registered_labels.specs.Collisions.{collisions}
use Rattle.registered_labels.specs.Texts.{line_refusal}
use Rattle.idn_class.specs.declared.properties.Properties.TheVariants.{Profile}

-- a source without variants, and one with a single variant
abbrev pub plain : List ℕ → Entry
plain source = entry source []

abbrev pub pair : List ℕ → List ℕ → Entry
pair source variant = entry source (untyped variant ∷ [])

-- a table of version 2
abbrev pub version_two : List Entry → TableValue
version_two entries = record (empty_table Profile Two) { entries = entries }

-- ß
abbrev pub sharp : List ℕ
sharp = 223 ∷ []

-- the letters of a few words, with ss and ß as variants of each other
abbrev pub german : TableValue
german =
    version_two
    (plain (codes "a") ∷ plain (codes "e") ∷ plain (codes "h") ∷ plain (codes "m") ∷ plain (codes "r")
    ∷ plain (codes "s") ∷ plain (codes "t") ∷ plain (codes "u")
    ∷ pair (codes "ss") sharp ∷ pair sharp (codes "ss") ∷ [])

-- o with 0 as a blocked variant, and ss with ß
abbrev pub alike : TableValue
alike =
    version_two
    (plain (codes "0") ∷ entry (codes "o") (plain_variant (Some 1) (codes "0") ∷ []) ∷ plain (codes "s")
    ∷ plain (codes "t") ∷ pair (codes "ss") sharp ∷ [])

-- two characters for China, of which the second has two forms
abbrev pub han : TableValue
han = version_two (plain (0x4E2D ∷ []) ∷ pair (0x56FD ∷ []) (0x570B ∷ []) ∷ pair (0x570B ∷ []) (0x56FD ∷ []) ∷ [])

-- a with b as a variant, and b without a: a gap
abbrev pub gap : TableValue
gap = version_two (pair (codes "a") (codes "b") ∷ plain (codes "b") ∷ [])

-- the registered labels after a text that a label spells under a table
abbrev pub found : TableValue → List ℕ → List (List ℕ) → List ℕ → List (List ℕ)
found table label registered after = collisions (spelled table label) registered after

abbrev pub strasse : List ℕ
strasse = codes "strasse"

abbrev pub strasze : List ℕ
strasze = codes "stra" ++ (223 ∷ codes "e")

-- sss, sß and ßs
abbrev pub three : List (List ℕ)
three = codes "sss" ∷ (115 ∷ sharp) ∷ (223 ∷ codes "s") ∷ []

-- a label finds its variants and itself, as far as they are registered, in order; sß and ßs are variants of sss and not
-- of each other; a text cuts off what is not greater; blocked variants count; and through a gap a label is spelled from
-- one side alone
pub record ExamplesOfCollisions : Type 0 where
  pub variant : found german strasze (codes "haus" ∷ strasse ∷ []) [] ≡ strasse ∷ []
  pub both : found german strasse (strasse ∷ strasze ∷ []) [] ≡ strasse ∷ strasze ∷ []
  pub itself : found german (codes "haus") (codes "haus" ∷ []) [] ≡ codes "haus" ∷ []
  pub none : found german (codes "maus") (codes "haus" ∷ strasse ∷ []) [] ≡ []
  pub neighbours : found german (115 ∷ sharp) ((223 ∷ codes "s") ∷ []) [] ≡ []
  pub all : found german (codes "sss") three [] ≡ three
  pub after_one : found german (codes "sss") three (115 ∷ sharp) ≡ (223 ∷ codes "s") ∷ []
  pub after_a_stranger : found german (codes "sss") three (codes "sz") ≡ (115 ∷ sharp) ∷ (223 ∷ codes "s") ∷ []
  pub blocked : found alike (codes "toss") (codes "t0ss" ∷ (codes "to" ++ sharp) ∷ []) []
      ≡ codes "t0ss" ∷ (codes "to" ++ sharp) ∷ []
  pub forms : found han (0x4E2D ∷ 0x570B ∷ []) ((0x4E2D ∷ 0x56FD ∷ []) ∷ (0x4E2D ∷ 0x570B ∷ []) ∷ []) []
      ≡ (0x4E2D ∷ 0x56FD ∷ []) ∷ (0x4E2D ∷ 0x570B ∷ []) ∷ []
  pub nothing_registered : found german (codes "haus") [] [] ≡ []
  pub over_a_gap : found gap (codes "a") (codes "b" ∷ []) [] ≡ codes "b" ∷ []
  pub back_over_a_gap : found gap (codes "b") (codes "a" ∷ []) [] ≡ []

-- what is wrong with a line by itself: it is too long, no UTF-8, or empty; and with the mark: nothing, a capital, a
-- name that stands for another label, or no label before it
pub record ExamplesOfLines : Type 0 where
  pub too_long : line_refusal Profile None ≡ Some LineTooLong
  pub not_utf8 : line_refusal Profile (Some (0xFF ∷ [])) ≡ Some NotUtf8
  pub empty : line_refusal Profile (Some []) ≡ Some Empty
  pub old : line_refusal Profile (Some (codes "ab--c" ++ mark)) ≡ None
  pub capital : line_refusal Profile (Some (codes "Haus" ++ mark)) ≡ Some Disallowed
  pub decoded : line_refusal Profile (Some (codes "xn--fa-hia" ++ mark)) ≡ Some Hyphen
  pub mark_alone : line_refusal Profile (Some mark) ≡ Some Empty
