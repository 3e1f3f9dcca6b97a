-- A text whose octets are read as characters from its beginning on, as long as none of them is R, AL or AN.
use Rattle.std.proofs.Common.{◌≡◌, ◌≢◌, ℕ, ◌+◌, ◌-◌, ◌*◌, ◌/◌, ◌^◌, ◌%◌, ◌<◌, ◌≤◌, ◌||◌, ◌⊎◌, inl, inr, true, false, leb, cond, List, [], ◌∷◌, ◌++◌, length, map, take, take_all, drop, take-append-drop, get_or, slice_range, replicate, chars, w8, sym, ap, ap₂, subst, ◌∙◌, arith}
use lib.Count.{count_trailing_zeros}
use Rattle.std.specs.Char.{encode_utf8}
use Rattle.std.specs.List.{AllWithin, list_any}
use Rattle.std.specs.Simd.Lanes.{chunk, mask_l, top, zip2}
use Rattle.std.specs.Str.{IsAscii, IsUtf8}
use Rattle.std.proofs.lemmas.Bool.Decides.{nat_tests}
use Rattle.std.proofs.lemmas.List.{append-nil, take_rest}
use Rattle.std.proofs.lemmas.List.Elements.{All-nil, All-push, All-weaker}
use Rattle.std.proofs.lemmas.List.Folds.{list_any-append}
use Rattle.std.proofs.lemmas.Simd.{bitmask_splat, length-chunk, zip2_splat, zip2_splat_left}
use Rattle.std.proofs.lemmas.Str.{IsCharBoundary-from_take, IsUtf8-append, IsUtf8-drop, IsUtf8-from_ascii, IsUtf8-nil, chars-append, chars-nil}
use Rattle.std.proofs.lemmas.Str.Ascii.{IsAscii-from_all}
use Rattle.idn_text.specs.Points.{IsScalarValue, IsUtf8Of}
use Rattle.idn_text.proofs.CharacterReads.{read_two, read_three}
use Rattle.idn_text.proofs.Utf8Lemmas.{IsUtf8-from_points, points_from_utf8}
use Rattle.idn_label.specs.inner.Octets.{IsFirstPastAscii, IsLeftToRightCharacter, are_left_to_right_two, are_left_to_right_three, is_past_ascii}
use Rattle.idn_label.proofs.BidiNames.{right, right-after_dashes, right-ascii, right-before_dashes, right-before_hebrew}
use Rattle.idn_label.proofs.LabelsByPlace.{All-slice, AllWithin-join}
use Rattle.idn_label.proofs.LaneLemmas.{mask_after, next_lane, none_from_mask, take-slice_range}

-- ---- what is read so far

pub record IsReadTo (text : List ℕ) (at : ℕ) : Type 0 where
  pub within : at ≤ length text
  pub utf8 : IsUtf8 (take at text)
  pub none : list_any right (chars (take at text)) ≡ false

pub read-nothing : (text : List ℕ) → IsReadTo text 0
read-nothing text = record { within = omega arith; utf8 = IsUtf8-nil; none = ap (list_any right) chars-nil }

-- a part more
read-part : (text part : List ℕ) (at end : ℕ) → IsReadTo text at → end ≤ length text → take end text ≡ take at text ++ part → IsUtf8 part → list_any right (chars part) ≡ false → IsReadTo text end
read-part text part at end read within is utf8 none = record {
  within = within;
  utf8 = subst IsUtf8 (sym is) (IsUtf8-append (take at text) part read.utf8 utf8);
  none =
      ap (list_any right) (ap chars is ∙ chars-append (take at text) part read.utf8)
      ∙ list_any-append right (chars (take at text)) (chars part)
      ∙ ap₂ (λ a b. a || b) read.none none;
}

pub read-ascii : (text : List ℕ) (at end : ℕ) → IsReadTo text at → at ≤ end → end ≤ length text → IsAscii (slice_range text at end) → IsReadTo text end
read-ascii text at end read order within ascii =
    read-part text (slice_range text at end) at end read within (sym (take-slice_range text at end order)) (IsUtf8-from_ascii (slice_range text at end) ascii) (right-ascii (slice_range text at end) ascii)

pub read-first : (text : List ℕ) (at next : ℕ) → IsReadTo text at → IsFirstPastAscii text at next → IsReadTo text next
read-first text at next read first = let within = first.within in read-ascii text at next read first.reached (omega arith) first.ascii

-- one character is its own UTF-8
alone : (c : ℕ) → IsScalarValue c → IsUtf8Of (encode_utf8 c) (c ∷ [])
alone c scalar = record { scalar_values = All-push IsScalarValue [] c (All-nil IsScalarValue) scalar; encoded = append-nil (encode_utf8 c) }

pub read-character : (text : List ℕ) (at end : ℕ) → IsReadTo text at → IsLeftToRightCharacter text at end → IsReadTo text end
read-character text at end read next =
    let octets = encode_utf8 next.character in
    let is = alone next.character next.scalar_value in
    read-part text octets at end read next.within next.read (IsUtf8-from_points octets _ is)
    (ap (list_any right) (points_from_utf8 octets _ is) ∙ ap (λ b. b || false) next.left_to_right)

-- what follows decides where it is read as it stands
pub read-rest : (text : List ℕ) (at : ℕ) → IsReadTo text at → IsUtf8 (take (length text - at) (drop at text)) → IsUtf8 text
read-rest text at read rest = subst IsUtf8 (take-append-drop at text) (IsUtf8-append (take at text) (drop at text) read.utf8 (subst IsUtf8 (take_rest text at) rest))

pub read-refused : (text : List ℕ) (at : ℕ) → IsReadTo text at → ¬ (IsUtf8 (take (length text - at) (drop at text))) → ¬ (IsUtf8 text)
read-refused text at read none utf8 = none (subst IsUtf8 (sym (take_rest text at)) (IsUtf8-drop text at utf8 (IsCharBoundary-from_take text at utf8 read.within read.utf8)))

pub read-all : (text : List ℕ) (at : ℕ) → length text ≤ at → IsReadTo text at → IsUtf8 text × (list_any right (chars text) ≡ false)
read-all text at all read = (subst IsUtf8 (take_all at text all) read.utf8, ap (λ (octets : List ℕ). list_any right (chars octets)) (sym (take_all at text all)) ∙ read.none)

-- ---- a character past ASCII, by its octets

pub two_octets : (text : List ℕ) (at first second : ℕ) → at + 1 < length text → get_or text at 0 ≡ first → get_or text (at + 1) 0 ≡ second → are_left_to_right_two first second ≡ true → IsLeftToRightCharacter text at (at + 2)
two_octets text at first second within one two told =
    let c = (first - 0xC0) * 0x40 + (second - 0x80) in
    let lead : 0xC2 ≤ first = grind (arith, nat_tests) in
    let low : 0x80 ≤ second = grind (arith, nat_tests) in
    let high : second ≤ 0xBF = grind (arith, nat_tests) in
    let before : c ≤ 0x58F = grind (arith, nat_tests) in
    record {
      further = omega arith;
      within = omega arith;
      character = c;
      scalar_value = grind (arith, nat_tests);
      read = read_two text at c within (omega arith) (omega arith) (one ∙ omega arith) (two ∙ omega arith);
      left_to_right = right-before_hebrew c (omega arith);
    }

pub three_octets : (text : List ℕ) (at first second third : ℕ) → at + 2 < length text → get_or text at 0 ≡ first → get_or text (at + 1) 0 ≡ second → get_or text (at + 2) 0 ≡ third → are_left_to_right_three first second third ≡ true → IsLeftToRightCharacter text at (at + 3)
three_octets text at first second third within one two three told =
    let c = ((first - 0xE0) * 0x40 + (second - 0x80)) * 0x40 + (third - 0x80) in
    let lead : 0xE0 ≤ first = grind (arith, nat_tests) in
    let low : 0x80 ≤ second = grind (arith, nat_tests) in
    let high : second ≤ 0xBF = grind (arith, nat_tests) in
    let low_2 : 0x80 ≤ third = grind (arith, nat_tests) in
    let high_2 : third ≤ 0xBF = grind (arith, nat_tests) in
    let from : 0x900 ≤ c = grind (arith, nat_tests) in
    let to : c ≤ 0xD7FF = grind (arith, nat_tests) in
    let other : (c ≤ 0x200E) ⊎ (0x2010 ≤ c) = grind (arith, nat_tests) in
    record {
      further = omega arith;
      within = omega arith;
      character = c;
      scalar_value = grind (arith, nat_tests);
      read = read_three text at c within (omega arith) (omega arith) (one ∙ omega arith) (two ∙ omega arith) (three ∙ omega arith);
      left_to_right = elim other [
        | inl before ↦ right-before_dashes c from before
        | inr after ↦ right-after_dashes c after (omega arith)
      ];
    }

-- and ASCII to the end
pub read-rest_ascii : (text : List ℕ) (at : ℕ) → IsReadTo text at → IsAscii (drop at text) → IsUtf8 text × (list_any right (chars text) ≡ false)
read-rest_ascii text at read ascii =
    read-all text (length text) (omega arith) (read-ascii text at (length text) read read.within (omega arith) (subst IsAscii (sym (take_rest text at)) ascii))

-- ---- the first octet past ASCII

-- only octets of ASCII stand from one place to another
abbrev pub AreAscii : List ℕ → ℕ → ℕ → Type 0
AreAscii text start end = AllWithin (λ octet. is_past_ascii octet ≡ false) text start end

few : (octet : ℕ) → is_past_ascii octet ≡ false → octet < 128
few octet is = grind (arith, nat_tests)

ascii_slice : (text : List ℕ) (start end : ℕ) → AreAscii text start end → IsAscii (slice_range text start end)
ascii_slice text start end before = IsAscii-from_all (slice_range text start end) (All-weaker (λ octet. is_past_ascii octet ≡ false) (λ octet. octet < 128) few (slice_range text start end) (All-slice (λ octet. is_past_ascii octet ≡ false) text start end before))

pub ascii_rest : (text : List ℕ) (start : ℕ) → AreAscii text start (length text) → IsAscii (drop start text)
ascii_rest text start all = subst IsAscii (take_rest text start) (ascii_slice text start (length text) all)

pub is_first : (text : List ℕ) (start at : ℕ) → start ≤ at → at < length text → AreAscii text start at → is_past_ascii (get_or text at 0) ≡ true → IsFirstPastAscii text start at
is_first text start at order within before other = record { reached = order; within = within; ascii = ascii_slice text start at before; other = other }

-- the octets past ASCII of a chunk, by a bit each
pub mask_past_ascii : (text : List ℕ) (n at : ℕ) → n ≤ 64 → at + n ≤ length text → mask_l (map (top 7) (zip2 (λ a b. cond (leb a b) 255 0) (replicate n 128) (chunk at n text))) % 2 ^ 64 ≡ mask_l (map is_past_ascii (slice_range text at (at + n)))
mask_past_ascii text n at narrow room =
    let v = chunk at n text in
    let long = length-chunk at n text room in
    let turned = zip2_splat_left {X = ℕ} (λ a b. cond (leb a b) 255 0) 128 n v long ∙ sym (zip2_splat {Y = ℕ} (λ a b. cond (leb b a) 255 0) v n 128 long) in
    ap (λ lanes. mask_l (map (top 7) lanes) % 2 ^ 64) turned
    ∙ bitmask_splat w8 (λ a b. leb b a) v n 128 long narrow
    ∙ ap (λ k. mask_l (map is_past_ascii (take k (drop at text)))) (let e : n ≡ at + n - at = omega arith in e)

-- those from `at` on
pub mask_from : (text : List ℕ) (n at last mask : ℕ) → last ≤ at → last + n ≡ length text → mask ≡ mask_l (map is_past_ascii (slice_range text last (last + n))) → mask / 2 ^ (at - last) ≡ mask_l (map is_past_ascii (slice_range text at (length text)))
mask_from text n at last mask early all is =
    ap (λ m. m / 2 ^ (at - last)) is ∙ mask_after is_past_ascii text last at (last + n) early ∙ ap (λ k. mask_l (map is_past_ascii (slice_range text at k))) all

-- the first of them
pub first_in_mask : (text : List ℕ) (start at end mask : ℕ) → start ≤ at → at ≤ end → end ≤ length text → end ≤ at + 64 → AreAscii text start at → mask ≡ mask_l (map is_past_ascii (slice_range text at end)) → mask ≢ 0 → IsFirstPastAscii text start (at + count_trailing_zeros 64 mask)
first_in_mask text start at end mask begun order within narrow before is some =
    let next = next_lane is_past_ascii text at end mask order within narrow is some in
    let inside = next.before in
    is_first text start _ (omega arith) (omega arith) (AllWithin-join (λ octet. is_past_ascii octet ≡ false) text start at at _ (omega arith) before next.none) next.passes

-- none of them
pub ascii_more : (text : List ℕ) (start at end mask : ℕ) → at ≤ end → end ≤ length text → AreAscii text start at → mask ≡ mask_l (map is_past_ascii (slice_range text at end)) → mask ≡ 0 → AreAscii text start end
ascii_more text start at end mask order within before is none =
    AllWithin-join (λ octet. is_past_ascii octet ≡ false) text start at at end (omega arith) before (none_from_mask is_past_ascii text at end mask order within is none)
