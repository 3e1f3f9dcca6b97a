-- The characters of a text, one after another.
use Rattle.std.proofs.Common.{◌≡◌, ℕ, ◌<◌, ◌≤◌, ◌+◌, nat_lt, true, false, inl, inr, List, [], ◌∷◌, ◌++◌, length, take, drop, encode_utf8, refl, sym, ap, ap₂, subst, ◌∙◌, append_assoc, take_all, arith}
use Rattle.std.specs.List.{list_all}
use Rattle.std.specs.Str.{IsAscii, StartsWithNoChar}
use Rattle.std.proofs.Math.Seq.{take-add}
use Rattle.std.proofs.lemmas.Bool.{and_from, and_parts}
use Rattle.std.proofs.lemmas.Bool.Decides.{nat_tests}
use Rattle.std.proofs.lemmas.List.{take-append-drop, append_cancel_left}
use Rattle.std.proofs.lemmas.List.Elements.{All-append}
use Rattle.std.proofs.lemmas.List.Folds.{list_all-append}
use Rattle.std.proofs.lemmas.Str.{encodes-append}
use Rattle.std.proofs.lemmas.Str.Ascii.{IsAscii-cons, IsAscii-nil}
use Rattle.idn_text.specs.Points.{IsScalarValue, IsUtf8Of}
use Rattle.idn_text.proofs.Utf8Lemmas.{ascii_points, utf8_nothing, utf8_character}
use Rattle.xml_text.specs.Characters.{AreCharacters, IsWrongAt}
use Rattle.xml_text.specs.References.{is_character}
use Rattle.xml_text.specs.inner.Blocks.{is_plain}
use Rattle.xml_text.proofs.ListLemmas.{all_snoc}

pub no_characters : AreCharacters []
no_characters = ([], utf8_nothing, refl)

pub one_character_more : (text : List ℕ) (at next c : ℕ) → AreCharacters (take at text) → take next text ≡ take at text ++ encode_utf8 c → IsScalarValue c → is_character c ≡ true
    → AreCharacters (take next text)
one_character_more text at next c are read scalar is =
    (are.0 ++ c ∷ [], utf8_character text are.0 at next c are.1 read scalar, all_snoc is_character are.0 c are.2 is)

pub all_characters : (text : List ℕ) (at : ℕ) → length text ≤ at → AreCharacters (take at text) → AreCharacters text
all_characters text at past are = subst AreCharacters (take_all at text past) are

pub wrong_character : (text : List ℕ) (at next c : ℕ) → at < length text → AreCharacters (take at text) → take next text ≡ take at text ++ encode_utf8 c → is_character c ≡ false
    → IsWrongAt text at
wrong_character text at next c within are read is =
    let whole = take-append-drop at text ∙ sym (take-append-drop next text) ∙ ap (λ (t : List ℕ). t ++ drop next text) read ∙ append_assoc (take at text) (encode_utf8 c) (drop next text) in
    record { within = within; before = are; wrong = inr (c, drop next text, append_cancel_left (take at text) (drop at text) (encode_utf8 c ++ drop next text) whole, is) }

pub no_character : (text : List ℕ) (at : ℕ) → at < length text → AreCharacters (take at text) → StartsWithNoChar (drop at text) → IsWrongAt text at
no_character text at within are none = record { within = within; before = are; wrong = inl none }

-- ---- bytes that are a character each

plain_byte : (b : ℕ) → is_plain b ≡ true → (b < 128) × (is_character b ≡ true)
plain_byte b h =
    let parts = and_parts (nat_lt b 128) (is_character b) h in
    let few = parts.0 in
    (grind (arith, nat_tests), parts.1)

plain_ascii : (bytes : List ℕ) → list_all is_plain bytes ≡ true → IsAscii bytes
plain_ascii [] h = IsAscii-nil
plain_ascii (b ∷ bytes) h =
    let parts = and_parts (is_plain b) (list_all is_plain bytes) h in
    IsAscii-cons b bytes (plain_byte b parts.0).0 (plain_ascii bytes parts.1)

plain_characters : (bytes : List ℕ) → list_all is_plain bytes ≡ true → list_all is_character bytes ≡ true
plain_characters [] h = refl
plain_characters (b ∷ bytes) h =
    let parts = and_parts (is_plain b) (list_all is_plain bytes) h in
    and_from (is_character b) (list_all is_character bytes) (plain_byte b parts.0).1 (plain_characters bytes parts.1)

utf8_both : (a b points others : List ℕ) → IsUtf8Of a points → IsUtf8Of b others → IsUtf8Of (a ++ b) (points ++ others)
utf8_both a b points others is are = record {
  scalar_values = All-append IsScalarValue points others is.scalar_values are.scalar_values;
  encoded = encodes-append points others ∙ ap₂ (λ (x y : List ℕ). x ++ y) is.encoded are.encoded;
}

-- such bytes after characters
pub plain_more : (text bytes : List ℕ) (at n : ℕ) → AreCharacters (take at text) → bytes ≡ take n (drop at text) → list_all is_plain bytes ≡ true
    → AreCharacters (take (at + n) text)
plain_more text bytes at n are is plain =
    let whole : take (at + n) text ≡ take at text ++ bytes = take-add at n text ∙ ap (λ (more : List ℕ). take at text ++ more) (sym is) in
    let utf8 = utf8_both (take at text) bytes are.0 bytes are.1 (ascii_points bytes (plain_ascii bytes plain)) in
    let all = list_all-append is_character are.0 bytes ∙ and_from (list_all is_character are.0) (list_all is_character bytes) are.2 (plain_characters bytes plain) in
    subst AreCharacters (sym whole) (are.0 ++ bytes, utf8, all)
