-- What the writer of Punycode has come to after a key, and the digits of the next one.
use Rattle.std.specs.Prelude.{ℕ, ◌+◌, ◌-◌, ◌*◌, ◌/◌, ◌%◌, ◌≤◌, ◌==◌, List}
use Rattle.idna.specs.Punycode.{adapt, write_integer}
use Rattle.idn_punycode.specs.declared.encoding.Progress.{Progress}

-- after the code points of ASCII: the first code point that may come is 128, the first bias 72
abbrev pub after_basic : ℕ → Progress
after_basic basic = record { handled = basic; code_point = 128; position = 0; bias = 72 }

-- the steps of a decoder from the start of the code point that is handled to the place of a key
abbrev pub steps_to : Progress → ℕ → ℕ
steps_to p key = (key / 64 / 64 - p.code_point) * (p.handled + 1) + key % 64

-- and from what the decoder has come to
abbrev pub delta_to : Progress → ℕ → ℕ
delta_to p key = steps_to p key - p.position

-- the integer of those steps, whose first digit has the weight place 36, the base
abbrev pub digits_of_key : Progress → ℕ → List ℕ
digits_of_key p key = write_integer (delta_to p key) p.bias 36 (delta_to p key)

-- after a key, where so many were handled before it, and its digits leave this bias
abbrev pub after : ℕ → ℕ → ℕ → Progress
after handled key bias =
    record { handled = handled + 1; code_point = key / 64 / 64; position = key % 64 + 1; bias = bias }

-- after one key more, where so many code points are of ASCII
abbrev pub after_key : ℕ → Progress → ℕ → Progress
after_key basic p key = after p.handled key (adapt (delta_to p key) (p.handled + 1) (p.handled == basic))

-- the key comes after those that are handled, and all numbers that lead to it fit
pub record IsNextKey (p : Progress) (key : ℕ) : Type 0 where
  pub later : p.code_point ≤ key / 64 / 64
  pub further : p.position ≤ steps_to p key
  pub fits : steps_to p key ≤ 0x43F_FFFF
  pub counted : p.handled + 1 ≤ 63
