-- The digits of the keys of a label without a code point of ASCII, one key after the other.
use Rattle.std.specs.Prelude.{◌≡◌, ℕ, ◌+◌, ◌<◌, ◌≤◌, List, [], ◌∷◌, ◌++◌, codes, length, take, slice_index}
use Rattle.std.specs.Prelude.{slice_index_or, IsAscii}
use Rattle.idn_punycode.specs.declared.encoding.Progress.{Progress}
use Rattle.idn_punycode.specs.inner.Progress.{after_basic, after_key, digits_of_key, IsNextKey}

unfoldable pub after_keys : ℕ → Progress → List ℕ → Progress
after_keys basic p [] = p
after_keys basic p (key ∷ keys) = after_keys basic (after_key basic p key) keys

unfoldable pub digits_of_keys : ℕ → Progress → List ℕ → List ℕ
digits_of_keys basic p [] = []
digits_of_keys basic p (key ∷ keys) = digits_of_key p key ++ digits_of_keys basic (after_key basic p key) keys

-- what the writer has come to after some keys
abbrev pub after_all : List ℕ → Progress
after_all keys = after_keys 0 (after_basic 0) keys

-- the digits of some keys
abbrev pub all_digits : List ℕ → List ℕ
all_digits keys = digits_of_keys 0 (after_basic 0) keys

-- keys in whose order the digits of a label can be written
pub record AreWritable (keys : List ℕ) : Type 0 where
  pub next : (i : ℕ) → i < length keys → IsNextKey (after_all (take i keys)) (slice_index keys i)
  pub ascii : IsAscii (all_digits keys)

-- ---- what is kept

-- a text, and the keys of which it has the digits
pub record Written : Type 0 where
  pub keys : List ℕ
  pub text : List ℕ

-- it has the digits of the keys, if there are any, after the prefix of A-labels, and has room for them
abbrev pub IsWritten : List ℕ → List ℕ → Type 0
IsWritten keys text = 0 < length keys → (text ≡ codes "xn--" ++ all_digits keys) × IsAscii text × (length text ≤ 63)

-- at each place of a list stands what f says of the keys up to the one there
abbrev pub AreOfKeys : (List ℕ → ℕ) → List ℕ → List ℕ → Type 0
AreOfKeys f keys xs = (i d : ℕ) → i < length keys → slice_index_or xs i d ≡ f (take (i + 1) keys)

-- the bias after some keys
abbrev pub bias_after : List ℕ → ℕ
bias_after keys = (after_all keys).bias

-- where in the text the digits of some keys end
abbrev pub end_after : List ℕ → ℕ
end_after keys = length (codes "xn--" ++ all_digits keys)
