-- The text of a sequence, point by point, and of an entry, variant by variant.
use Rattle.std.proofs.Common.{◌≡◌, ℕ, zero, suc, ◌+◌, ◌-◌, ◌*◌, ◌≤◌, ◌<◌, arith, cond, List, [], ◌∷◌, ◌++◌, length, map, None, take, drop, get_or, Some, sym, ap, subst, ◌∙◌, append_assoc, length-append}
use Rattle.std.specs.Prelude.{slice_get}
use Rattle.std.specs.List.{All}
use Rattle.std.proofs.lemmas.List.Elements.{All-head, All-tail}
use Rattle.std.proofs.lemmas.Bool.{ne_eqb}
use Rattle.std.proofs.lemmas.List.{append-nil, take_more, take_rest, length-take-le}
use Rattle.std.proofs.lemmas.List.Concat.{flat_map-append}
use Rattle.std.specs.List.{flat_map}
use Rattle.ruleset_text.specs.Canonical.{point_text}
use Rattle.ruleset_text.specs.EntryText as entries
use Rattle.ruleset_text.specs.EntryText.{sequence_text, mapped_text, entry_text}
use Rattle.ruleset_text.specs.Definitions.{Definitions}
use Rattle.ruleset_text.specs.Entries.{Mapped}
use Rattle.ruleset_text.proofs.HexLemmas.{length-point_text}
use Rattle.variant_table.specs.Entries.{Entry, source_of}
use Rattle.variant_table.specs.Forms.{source_mark, variant_mark, mapped_by}
use Rattle.variant_table.specs.Canonical.{separator, canonical_line, canonical_text}
use Rattle.variant_table.proofs.ListLemmas.{take_next}

-- ---- a sequence

-- '-' before each code point
abbrev pub further_text : List ℕ → List ℕ
further_text points = flat_map (λ c. 45 ∷ point_text c) points

pub sequence_text-is : (c : ℕ) (points : List ℕ) → sequence_text (c ∷ points) ≡ point_text c ++ further_text points
sequence_text-is c [] = sym (append-nil (point_text c))
sequence_text-is c (d ∷ points) = ap (λ t. point_text c ++ 45 ∷ t) (sequence_text-is d points)

further_push : (points : List ℕ) (c : ℕ) → further_text (points ++ c ∷ []) ≡ further_text points ++ 45 ∷ point_text c
further_push points c = flat_map-append (λ c. 45 ∷ point_text c) points (c ∷ []) ∙ ap (λ t. further_text points ++ 45 ∷ t) (append-nil (point_text c))

pub further_more : (points : List ℕ) (i : ℕ) → i < length points → further_text (take (i + 1) points) ≡ further_text (take i points) ++ 45 ∷ point_text (get_or points i 0)
further_more points i l = ap further_text (take_more points i 0 l) ∙ further_push (take i points) (get_or points i 0)

pub whole_text : (s : List ℕ) → 1 ≤ length s → point_text (get_or s 0 0) ++ further_text (take (length s - 1) (drop 1 s)) ≡ sequence_text s
whole_text [] l = absurd (omega (arith, l))
whole_text (c ∷ points) l = ap (λ t. point_text c ++ further_text t) (take_rest (c ∷ points) 1) ∙ sym (sequence_text-is c points)

pub regroup : (p f q : List ℕ) → ((p ++ f) ++ 45 ∷ []) ++ q ≡ p ++ (f ++ 45 ∷ q)
regroup p f q = append_assoc (p ++ f) (45 ∷ []) q ∙ append_assoc p f (45 ∷ q)

pub length-further_text : (points : List ℕ) → length (further_text points) ≤ 7 * length points
length-further_text [] = omega arith
length-further_text (c ∷ points) = omega (arith, length-append (point_text c) (further_text points), length-point_text c, length-further_text points)

pub length-sequence_text : (s : List ℕ) → 0 < length s → length s ≤ 8 → length (sequence_text s) ≤ 55
length-sequence_text [] l k = absurd (omega (arith, l))
length-sequence_text (c ∷ points) l k = omega (arith, ap length (sequence_text-is c points), length-append (point_text c) (further_text points), length-point_text c, length-further_text points, k)

-- ---- an entry

-- a source or a variant of an entry
abbrev pub piece_text : Mapped → List ℕ
piece_text m = mapped_text m None

-- ':' before each variant
abbrev pub further_pieces : List Mapped → List ℕ
further_pieces variants = flat_map (λ m. 58 ∷ piece_text m) variants

-- '|' before the first variant, ':' before each other one
abbrev pub pieces_text : List Mapped → List ℕ
pieces_text [] = []
pieces_text (m ∷ variants) = 124 ∷ (piece_text m ++ further_pieces variants)

further_piece : (variants : List Mapped) (m : Mapped) → further_pieces (variants ++ m ∷ []) ≡ further_pieces variants ++ 58 ∷ piece_text m
further_piece variants m = flat_map-append (λ m. 58 ∷ piece_text m) variants (m ∷ []) ∙ ap (λ t. further_pieces variants ++ 58 ∷ t) (append-nil (piece_text m))

separator-later : (n : ℕ) → separator (suc n) ≡ 58
separator-later n = ap (λ b. cond b 124 58) (ne_eqb (suc n) 0 (λ e. omega (arith, e)))

pieces_push : (variants : List Mapped) (m : Mapped) → pieces_text (variants ++ m ∷ []) ≡ pieces_text variants ++ separator (length variants) ∷ piece_text m
pieces_push [] m = ap (λ t. 124 ∷ t) (append-nil (piece_text m))
pieces_push (n ∷ variants) m =
    ap (λ t. 124 ∷ (piece_text n ++ t)) (further_piece variants m)
    ∙ ap (λ t. 124 ∷ t) (sym (append_assoc (piece_text n) (further_pieces variants) (58 ∷ piece_text m)))
    ∙ ap (λ s. pieces_text (n ∷ variants) ++ s ∷ piece_text m) (sym (separator-later (length variants)))

pub pieces_more : (variants : List Mapped) (i : ℕ) (m : Mapped) → slice_get variants i ≡ Some m → i < length variants → pieces_text (take (i + 1) variants) ≡ pieces_text (take i variants) ++ separator i ∷ piece_text m
pieces_more variants i m e l =
    ap pieces_text (take_next variants i m e) ∙ pieces_push (take i variants) m
    ∙ ap (λ n. pieces_text (take i variants) ++ separator n ∷ piece_text m) (length-take-le i variants (omega (arith, l)))

pub further_from : (m : Mapped) (variants : List Mapped) → entries.variants_text (m ∷ variants) ≡ piece_text m ++ further_pieces variants
further_from m [] = sym (append-nil (piece_text m))
further_from m (n ∷ variants) = ap (λ t. piece_text m ++ 58 ∷ t) (further_from n variants)

pub entry_text-is : (source : Mapped) (variants : List Mapped) → entry_text (source ∷ variants) None ≡ piece_text source ++ pieces_text variants
entry_text-is source [] = sym (append-nil (piece_text source))
entry_text-is source (m ∷ variants) = ap (λ t. piece_text source ++ 124 ∷ t) (further_from m variants)

pub canonical_line-is : (d : Definitions) (e : Entry) → canonical_line d e ≡ piece_text (mapped_by source_mark d (source_of e)) ++ pieces_text (map (mapped_by variant_mark d) e.variants)
canonical_line-is d e = entry_text-is (mapped_by source_mark d (source_of e)) (map (mapped_by variant_mark d) e.variants)

-- ---- a table

pub canonical_more : (d : Definitions) (table : List Entry) (i : ℕ) (e : Entry) → slice_get table i ≡ Some e → canonical_text d (take (i + 1) table) ≡ canonical_text d (take i table) ++ (canonical_line d e ++ 10 ∷ [])
canonical_more d table i e h =
    ap (canonical_text d) (take_next table i e h) ∙ flat_map-append (λ e. canonical_line d e ++ 10 ∷ []) (take i table) (e ∷ [])
    ∙ ap (λ t. canonical_text d (take i table) ++ t) (append-nil (canonical_line d e ++ 10 ∷ []))

-- ---- elements

pub all_at : {X : Type 0} (P : X → Type 0) (xs : List X) (i : ℕ) (x : X) → All P xs → slice_get xs i ≡ Some x → P x
all_at P [] i x h e = absurd cc
all_at P (y ∷ ys) zero x h e = subst P (let same : y ≡ x = cc in same) (All-head P y ys h)
all_at P (y ∷ ys) (suc i) x h e = all_at P ys i x (All-tail P y ys h) e

pub slice_get-later : {X : Type 0} (x : X) (xs : List X) (n : ℕ) → 1 ≤ n → slice_get (x ∷ xs) n ≡ slice_get xs (n - 1)
slice_get-later x xs zero l = absurd (omega (arith, l))
slice_get-later x xs (suc n) l = ap (slice_get xs) (let same : n ≡ suc n - 1 = omega arith in same)
