-- What is cached of a label for the Punycode of the next one.
use Rattle.std.specs.Prelude.{ℕ, ◌≤◌, List, length}
use Rattle.idn_punycode.specs.inner.Keys.{KeysAndPlaces, HasKeys, HasPlaces}

-- a text, what a label is taken apart into, and how many of its code points are
pub record Cached : Type 0 where
  pub text : List ℕ
  pub parts : KeysAndPlaces
  pub apart : ℕ

-- it is this label that is taken apart, up to there
pub record IsTakenApart (label : List ℕ) (cached : Cached) : Type 0 where
  pub within : cached.apart ≤ length label
  pub keys : HasKeys label cached.parts.keys cached.apart
  pub places : HasPlaces label cached.parts.places cached.apart
