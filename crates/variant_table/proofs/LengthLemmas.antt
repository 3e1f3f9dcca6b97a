-- How long canonical lines are.
use Rattle.std.proofs.Common.{◌≡◌, ℕ, ◌+◌, ◌-◌, ◌<◌, ◌≤◌, Bool, true, false, cond, List, [], ◌∷◌, ◌++◌, length, map, take, drop, get_or, Option, None, refl, ap, subst, arith, length-append}
use Rattle.std.specs.Prelude.{nat_lt}
use Rattle.std.specs.List.{AllByRecursion, list_any, range_with_len}
use Rattle.std.proofs.lemmas.Bool.{ltb-false, or_parts}
use Rattle.ruleset_text.specs.declared.entry_form.Mapped as held
use Rattle.ruleset_text.specs.Canonical.{point_text}
use Rattle.ruleset_text.specs.Entries.{Mapped}
use Rattle.ruleset_text.specs.EntryForms.{mapped}
use Rattle.ruleset_text.specs.EntryText.{mark_text, sequence_text, type_text, entry_text}
use Rattle.ruleset_text.specs.NamedConditions.{condition_text}
use Rattle.variant_table.specs.Canonical.{written_text}
use Rattle.variant_table.specs.Conditions.{is_too_large}
use Rattle.variant_table.specs.Forms.{source_mark, variant_mark, with_point, is_name_of, normal_by, normal}
use Rattle.variant_table.specs.inner.Held.{IsLeft, type_len}
use Rattle.variant_table.proofs.FormSteps.{after_first, after_is}
use Rattle.variant_table.proofs.ListLemmas.{drop_item, drop_all}
use Rattle.variant_table.proofs.RangeLemmas.{range_next}
use Rattle.variant_table.proofs.WritingLemmas.{further_text, sequence_text-is, further_more, piece_text, further_pieces, pieces_text, entry_text-is}

-- ---- a sequence

-- each code point has one byte more, of the hyphen before it
pub length-further_next : (s : List ℕ) (i : ℕ) → i < length s → length (further_text (take (i + 1) s)) ≡ length (further_text (take i s)) + (length (point_text (get_or s i 0)) + 1)
length-further_next s i l = omega (arith, ap length (further_more s i l), length-append (further_text (take i s)) (45 ∷ point_text (get_or s i 0)))

pub length-further : (s : List ℕ) → 0 < length s → length (further_text s) ≡ length (sequence_text s) + 1
length-further [] l = absurd (omega (arith, l))
length-further (c ∷ points) l = omega (arith, ap length (sequence_text-is c points), length-append (point_text c) (further_text points))

-- ---- a source or a variant

pub length-piece : (m : Mapped) → length (piece_text m) ≡ length (mark_text m.marked) + length (sequence_text m.points) + length (type_text m.type_name ++ condition_text m.condition)
length-piece m =
    omega (
      arith,
      length-append (mark_text m.marked) (sequence_text m.points ++ ([] ++ (type_text m.type_name ++ condition_text m.condition))),
      length-append (sequence_text m.points) ([] ++ (type_text m.type_name ++ condition_text m.condition)),
    )

length-parts : (m : Mapped) → length (piece_text m) ≡ length (sequence_text m.points) + (type_len m + length (condition_text m.condition))
length-parts m = omega (arith, length-piece m, length-append (type_text m.type_name) (condition_text m.condition))

-- where '!' may stand for the type
pub length-normal : (mark : ℕ) (m : Mapped) → length (piece_text (normal_by mark m)) ≡ length (sequence_text m.points) + (type_len (normal_by mark m) + length (condition_text m.condition))
length-normal mark m = by (is_name_of mark m.type_name)
  where
    marked : Mapped
    marked = record m { marked = true; type_name = None }

    by : (b : Bool) → length (piece_text (cond b marked m)) ≡ length (sequence_text m.points) + (type_len (cond b marked m) + length (condition_text m.condition))
    by true = length-parts marked
    by false = length-parts m

-- ---- an entry

-- sources and variants, each with one byte more
abbrev pub pieces_size : List Mapped → ℕ
pieces_size [] = 0
pieces_size (m ∷ ms) = length (piece_text m) + 1 + pieces_size ms

length-further_pieces : (ms : List Mapped) → length (further_pieces ms) ≡ pieces_size ms
length-further_pieces [] = refl
length-further_pieces (m ∷ ms) = omega (arith, length-append (piece_text m) (further_pieces ms), length-further_pieces ms)

length-pieces_text : (ms : List Mapped) → length (pieces_text ms) ≡ pieces_size ms
length-pieces_text [] = refl
length-pieces_text (m ∷ ms) = omega (arith, length-append (piece_text m) (further_pieces ms), length-further_pieces ms)

pub length-entry_text : (m : Mapped) (ms : List Mapped) → length (entry_text (m ∷ ms) None) + 1 ≡ pieces_size (m ∷ ms)
length-entry_text m ms = omega (arith, ap length (entry_text-is m ms), length-append (piece_text m) (pieces_text ms), length-pieces_text ms)

pub length-written : (ms : List Mapped) → 0 < length ms → length (written_text (ms ∷ [])) ≡ pieces_size (normal ms)
length-written [] l = absurd (omega (arith, l))
length-written (m ∷ ms) l =
    let source : Mapped = normal_by source_mark m in
    let others : List Mapped = map (normal_by variant_mark) ms in
    omega (arith, length-append (entry_text (source ∷ others) None ++ 10 ∷ []) [], length-append (entry_text (source ∷ others) None) (10 ∷ []), length-entry_text source others)

-- the variants that are left
abbrev pub variants_size : List held.Mapped → ℕ
variants_size xs = pieces_size (map (normal_by variant_mark) (map mapped xs))

-- the source, and its variants
pub pieces_first : (ms : List held.Mapped) (x : held.Mapped) → 1 ≤ length ms → x ≡ get_or ms 0 x → pieces_size (normal (map mapped ms)) ≡ length (piece_text (normal_by source_mark (mapped x))) + 1 + variants_size (after_first ms)
pieces_first [] x l e = absurd (omega (arith, l))
pieces_first (s ∷ vs) x l e =
    omega (
      arith,
      ap (λ y. length (piece_text (normal_by source_mark (mapped y)))) e,
      ap variants_size (after_is s vs),
    )

pub pieces_left : (xs : List held.Mapped) (i : ℕ) (x : held.Mapped) → i < length xs → x ≡ get_or xs i x → variants_size (drop i xs) ≡ length (piece_text (normal_by variant_mark (mapped x))) + 1 + variants_size (drop (i + 1) xs)
pieces_left xs i x l e = ap variants_size (drop_item xs i x l e)

pub pieces_none : (xs : List held.Mapped) (i : ℕ) → length xs ≤ i → variants_size (drop i xs) ≡ 0
pieces_none xs i l = ap variants_size (drop_all xs i l)

pub short_of : (ms : List Mapped) → is_too_large ms ≡ false → AllByRecursion (λ m. length m.points ≤ 8) ms
short_of ms h = by ms (or_parts (nat_lt 17 (length ms)) (list_any (λ m. nat_lt 8 (length m.points)) ms) h).1
  where
    by : (ms : List Mapped) → list_any (λ m. nat_lt 8 (length m.points)) ms ≡ false → AllByRecursion (λ m. length m.points ≤ 8) ms
    by [] h = tt
    by (m ∷ ms) h = let p = or_parts (nat_lt 8 (length m.points)) (list_any (λ m. nat_lt 8 (length m.points)) ms) h in (ltb-false 8 (length m.points) p.0, by ms p.1)

-- ---- a range

-- the lines of so many code points
abbrev pub range_lines : Mapped → ℕ → ℕ → List (List Mapped)
range_lines m first count = map (λ c. with_point m c ∷ []) (range_with_len first count)

pub range_lines_left : (m : Mapped) (first count i : ℕ) → i < count
    → length (written_text (range_lines m (first + i) (count - i))) ≡ length (piece_text (normal_by source_mark (with_point m (first + i)))) + 1 + length (written_text (range_lines m (first + (i + 1)) (count - (i + 1))))
range_lines_left m first count i l =
    let piece : List ℕ = piece_text (normal_by source_mark (with_point m (first + i))) in
    omega (
      arith,
      ap (λ es. length (written_text es)) (range_next (λ c. with_point m c ∷ []) first count i l),
      length-append (piece ++ 10 ∷ []) (written_text (range_lines m (first + (i + 1)) (count - (i + 1)))),
      length-append piece (10 ∷ []),
    )

-- ---- what is left

pub IsLeft-of : (left n m : ℕ) (o : Option ℕ) → n ≡ m → IsLeft left n o → IsLeft left m o
IsLeft-of left n m o e h = subst (λ k. IsLeft left k o) e h
