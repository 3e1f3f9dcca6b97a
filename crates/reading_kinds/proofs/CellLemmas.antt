-- One cell of a board.
use Rattle.std.proofs.Common.{◌≡◌, ◌≢◌, ℕ, ◌+◌, ◌*◌, ◌%◌, ◌^◌, ◌<◌, ◌≤◌, ◌⊎◌, ◌↔◌, inl, inr, length, get_or, set, sym, ap, ◌∙◌, arith, subst, refl, get_or-set_same, get_or-set_other, bit_or}
use Rattle.std.specs.Prelude.{IsTrue, not, nat_eq, bit_and}
use Rattle.std.proofs.lemmas.Bool.Decides.{nat_tests}
use Rattle.std.proofs.Math.Pow.{pow_pos}
use Rattle.std.specs.Int.{bit_at, bit_not, w64}
use Rattle.std.proofs.lemmas.Bool.{cases_order}
use Rattle.std.proofs.lemmas.Nat.{and_le_l, mul-add-lt, pow_below, same_from_place}
use Rattle.std.proofs.lemmas.Nat.Bits.{bit_at_set_same, bit_at_set_other, bit_at_and, same_from_bits_below, bit_at_not, and_pow, bit_at-zero, bit_at_or}
use Rattle.reading_kinds.specs.inner.Cells.{Cells, Mark, InWords, Tells, words_at}
use Rattle.reading_kinds.specs.declared.board.Words.{Words}
use Rattle.reading_kinds.specs.inner.Columns.{TellsAfter, Clears, Adds, AddsAfter}
use Rattle.reading_kinds.specs.inner.Cells.Mark.{Reached, Has, Lacks}

-- two numbers are equal or not
pub same_or_not : (a b : ℕ) → (a ≡ b) ⊎ (a ≢ b)
same_or_not a b = elim (cases_order a b) [
  | inl e ↦ inl e
  | inr o ↦ elim o [ inl l ↦ inr (λ e. omega arith) | inr g ↦ inr (λ e. omega arith) ]
]

-- the test `word & (1 << k) != 0`
pub bit_test : (word k : ℕ) → k < 64 → IsTrue (not (nat_eq (bit_and word (1 * 2 ^ k % 2 ^ 64)) 0)) ↔ (bit_at word k ≡ 1)
bit_test word k l =
    let one : 1 * 2 ^ k % 2 ^ 64 ≡ 2 ^ k = let b = pow_below k 64 l in omega (arith, b) in
    let masked : bit_and word (1 * 2 ^ k % 2 ^ 64) ≡ bit_at word k * 2 ^ k = ap (bit_and word) one ∙ and_pow word k in
    let some : 0 < 2 ^ k = pow_pos k in
    let small : bit_at word k < 2 = omega arith in (
      λ h. elim (cases_order (bit_at word k) 0) [
        | inl z ↦ let none : bit_and word (1 * 2 ^ k % 2 ^ 64) ≡ 0 = masked ∙ ap (λ b. b * 2 ^ k) z ∙ omega arith in absurd (grind (arith, nat_tests))
        | inr o ↦ elim o [ inl n ↦ absurd (omega arith) | inr p ↦ omega arith ]
      ],
      λ h. let is : bit_and word (1 * 2 ^ k % 2 ^ 64) ≡ 2 ^ k = masked ∙ ap (λ b. b * 2 ^ k) h ∙ omega arith in grind (arith, nat_tests),
    )

-- the test of a cell that it is reached
pub Tells-by_test : (cells : Cells) (column place word : ℕ) → column < cells.size.columns → place < 64 → word ≡ get_or cells.reached column 0 → IsTrue (not (nat_eq (bit_and word (1 * 2 ^ place % 2 ^ 64)) 0)) ↔ Tells cells column place Reached
Tells-by_test cells column place word cl pl read =
    let t = bit_test word place pl in (
      λ h. record { column_in_range = cl; place_in_range = pl; reached = ap (λ w. bit_at w place) (sym read) ∙ t.0 h; words = tt },
      λ h. t.1 (ap (λ w. bit_at w place) read ∙ h.reached),
    )

-- a bit of two words
pub bit_of_or : (a b k : ℕ) → (bit_at (bit_or a b) k ≡ 1) ↔ ((bit_at a k ≡ 1) ⊎ (bit_at b k ≡ 1))
bit_of_or a b k = let e = bit_at_or a b k in (
  λ h. elim (same_or_not (bit_at a k) 1) [
    | inl x ↦ inl x
    | inr y ↦ inr (omega (arith, e, h, y))
  ],
  λ h. elim h [ inl x ↦ omega (arith, e, x) | inr y ↦ omega (arith, e, y) ],
)

-- what either of two words says
abbrev pub both : Words → Words → Words
both a b = record { has = bit_or a.has b.has; lacks = bit_or a.lacks b.lacks }

pub InWords-both : (a b : Words) (m : Mark) → InWords (both a b) m ↔ (InWords a m ⊎ InWords b m)
InWords-both a b Reached = (λ h. inl tt, λ h. tt)
InWords-both a b (Has k) = let e = bit_of_or a.has b.has k in (
  λ h. elim (e.0 h.1) [ inl x ↦ inl (h.0, x) | inr y ↦ inr (h.0, y) ],
  λ h. elim h [ inl x ↦ (x.0, e.1 (inl x.1)) | inr y ↦ (y.0, e.1 (inr y.1)) ],
)
InWords-both a b (Lacks k) = let e = bit_of_or a.lacks b.lacks k in (
  λ h. elim (e.0 h.1) [ inl x ↦ inl (h.0, x) | inr y ↦ inr (h.0, y) ],
  λ h. elim h [ inl x ↦ (x.0, e.1 (inl x.1)) | inr y ↦ (y.0, e.1 (inr y.1)) ],
)

-- a column is cleared
pub Clears-set : (cells : Cells) (column : ℕ) → column < length cells.reached → Clears cells (record cells { reached = set cells.reached column 0 }) column
Clears-set cells column cl c p m = (
  λ h. elim (same_or_not c column) [
    | inl same ↦ absurd (
        let z : get_or (set cells.reached column 0) c 0 ≡ 0 = ap (λ i. get_or (set cells.reached column 0) i 0) same ∙ get_or-set_same cells.reached column 0 0 cl in
        let b : bit_at (get_or (set cells.reached column 0) c 0) p ≡ 0 = ap (λ w. bit_at w p) z ∙ bit_at-zero p in
        omega (arith, b, h.reached))
    | inr other ↦ (
      other,
      record {
        column_in_range = h.column_in_range;
        place_in_range = h.place_in_range;
        reached = ap (λ w. bit_at w p) (sym (get_or-set_other cells.reached column c 0 0 other)) ∙ h.reached;
        words = h.words;
      },
    )
  ],
  λ h. record {
    column_in_range = (h.1).column_in_range;
    place_in_range = (h.1).place_in_range;
    reached = ap (λ w. bit_at w p) (get_or-set_other cells.reached column c 0 0 h.0) ∙ (h.1).reached;
    words = (h.1).words;
  },
)

-- where the words of a cell stand
abbrev pub cell_of : Cells → ℕ → ℕ → ℕ
cell_of cells column place = place * cells.size.columns + column

abbrev pub nothing : Words
nothing = record { has = 0; lacks = 0 }

pub cell_below : (cells : Cells) (column place : ℕ) → length cells.words ≡ cells.size.columns * cells.size.places → column < cells.size.columns → place < cells.size.places → cell_of cells column place < length cells.words
cell_below cells column place sized cl pl = omega (arith, mul-add-lt place cells.size.columns column cells.size.places pl cl, sized)

-- another cell has its words elsewhere
pub other_cell : (cells : Cells) (c p column place : ℕ) → c < cells.size.columns → column < cells.size.columns → ((c ≡ column) × (p ≡ place) → ⊥) → cell_of cells c p ≢ cell_of cells column place
other_cell cells c p column place l cl differ e = let same = same_from_place p c place column cells.size.columns l cl e in differ (same.1, same.0)

-- new is old with these words added to a cell
pub record IsAdded (old new : Cells) (column place : ℕ) (words : Words) : Type 0 where
  pub size : new.size ≡ old.size
  pub others_reached : (c p : ℕ) → p < 64 → ((c ≡ column) × (p ≡ place) → ⊥) → bit_at (get_or new.reached c 0) p ≡ bit_at (get_or old.reached c 0) p
  pub others_words : (c p : ℕ) → c < old.size.columns → ((c ≡ column) × (p ≡ place) → ⊥) → words_at new c p ≡ words_at old c p
  pub reached : bit_at (get_or new.reached column 0) place ≡ 1
  pub here : (m : Mark) → InWords (words_at new column place) m ↔ (Tells old column place m ⊎ InWords words m)

module _ (old new : Cells) (column place : ℕ) (words : Words) (cl : column < old.size.columns) (pl : place < 64) (is : IsAdded old new column place words) where
  same_columns : new.size.columns ≡ old.size.columns
  same_columns = ap (λ s. s.columns) is.size

  here_adds : (m : Mark) → Tells new column place m ↔ (Tells old column place m ⊎ ((column ≡ column) × (place ≡ place) × InWords words m))
  here_adds m = (
    λ h. elim ((is.here m).0 h.words) [ inl o ↦ inl o | inr w ↦ inr (refl, refl, w) ],
    λ h. record {
      column_in_range = omega (arith, cl, same_columns);
      place_in_range = pl;
      reached = is.reached;
      words = elim h [ inl o ↦ (is.here m).1 (inl o) | inr w ↦ (is.here m).1 (inr w.2) ];
    },
  )

  other_adds : (c p : ℕ) (m : Mark) → ((c ≡ column) × (p ≡ place) → ⊥) → Tells new c p m ↔ (Tells old c p m ⊎ ((c ≡ column) × (p ≡ place) × InWords words m))
  other_adds c p m differ = (
    λ h.
        let range : c < old.size.columns = omega (arith, h.column_in_range, same_columns) in
        inl (record {
          column_in_range = range;
          place_in_range = h.place_in_range;
          reached = sym (is.others_reached c p h.place_in_range differ) ∙ h.reached;
          words = subst (λ x. InWords x m) (is.others_words c p range differ) h.words;
        }),
    λ h. elim h [
      | inl o ↦ record {
        column_in_range = omega (arith, o.column_in_range, same_columns);
        place_in_range = o.place_in_range;
        reached = is.others_reached c p o.place_in_range differ ∙ o.reached;
        words = subst (λ x. InWords x m) (sym (is.others_words c p o.column_in_range differ)) o.words;
      }
      | inr w ↦ absurd (differ (w.0, w.1))
    ],
  )

  pub Adds-by : Adds old new column place words
  Adds-by c p m = elim (same_or_not c column) [
    | inl ec ↦ elim (same_or_not p place) [
      | inl ep ↦ subst (λ x. Tells new x p m ↔ (Tells old x p m ⊎ ((x ≡ column) × (p ≡ place) × InWords words m))) (sym ec)
          (subst (λ y. Tells new column y m ↔ (Tells old column y m ⊎ ((column ≡ column) × (y ≡ place) × InWords words m))) (sym ep) (here_adds m))
      | inr np ↦ other_adds c p m (λ e. np e.1)
    ]
    | inr nc ↦ other_adds c p m (λ e. nc e.0)
  ]

module _ (old : Cells) (column place : ℕ) (words : Words) (bits : ℕ) (cl : column < old.size.columns) (pl : place < 64) (below : cell_of old column place < length old.words) (read : bits ≡ get_or old.reached column 0) where
  -- the cell was reached
  pub Adds-more : IsTrue (not (nat_eq (bit_and bits (1 * 2 ^ place % 2 ^ 64)) 0)) → Adds old (record old { words = set old.words (cell_of old column place) (both (words_at old column place) words) }) column place words
  Adds-more test =
      let new : Cells = record old { words = set old.words (cell_of old column place) (both (words_at old column place) words) } in
      let at : bit_at (get_or old.reached column 0) place ≡ 1 = ap (λ w. bit_at w place) (sym read) ∙ (bit_test bits place pl).0 test in
      let is_words : words_at new column place ≡ both (words_at old column place) words = get_or-set_same old.words (cell_of old column place) _ nothing below in
      Adds-by old new column place words cl pl (record {
        size = refl;
        others_reached = λ c p l differ. refl;
        others_words = λ c p l differ. get_or-set_other old.words (cell_of old column place) (cell_of old c p) _ nothing (other_cell old c p column place l cl differ);
        reached = at;
        here = λ m. (
          λ h. elim ((InWords-both (words_at old column place) words m).0 (subst (λ x. InWords x m) is_words h)) [
            | inl o ↦ inl (record { column_in_range = cl; place_in_range = pl; reached = at; words = o })
            | inr w ↦ inr w
          ],
          λ h. subst (λ x. InWords x m) (sym is_words) ((InWords-both (words_at old column place) words m).1 (elim h [ inl o ↦ inl o.words | inr w ↦ inr w ])),
        );
      })

  -- it was not
  pub Adds-first : column < length old.reached → (IsTrue (not (nat_eq (bit_and bits (1 * 2 ^ place % 2 ^ 64)) 0)) → ⊥) → Adds old (record old { words = set old.words (cell_of old column place) words; reached = set old.reached column (bit_or bits (1 * 2 ^ place % 2 ^ 64)) }) column place words
  Adds-first inside test =
      let new : Cells = record old { words = set old.words (cell_of old column place) words; reached = set old.reached column (bit_or bits (1 * 2 ^ place % 2 ^ 64)) } in
      let is_words : words_at new column place ≡ words = get_or-set_same old.words (cell_of old column place) _ nothing below in
      let is_reached : get_or new.reached column 0 ≡ bit_or bits (1 * 2 ^ place % 2 ^ 64) = get_or-set_same old.reached column _ 0 inside in
      Adds-by old new column place words cl pl (record {
        size = refl;
        others_reached = λ c p l differ. elim (same_or_not c column) [
          | inl ec ↦
              ap (λ x. bit_at (get_or new.reached x 0) p) ec ∙ ap (λ w. bit_at w p) is_reached ∙ bit_at_set_other w64 bits place pl p (λ ep. differ (ec, ep))
              ∙ ap (λ w. bit_at w p) read ∙ ap (λ x. bit_at (get_or old.reached x 0) p) (sym ec)
          | inr nc ↦ ap (λ w. bit_at w p) (get_or-set_other old.reached column c _ 0 nc)
        ];
        others_words = λ c p l differ. get_or-set_other old.words (cell_of old column place) (cell_of old c p) _ nothing (other_cell old c p column place l cl differ);
        reached = ap (λ w. bit_at w place) is_reached ∙ bit_at_set_same w64 bits place pl;
        here = λ m. (
          λ h. inr (subst (λ x. InWords x m) is_words h),
          λ h. elim h [
            | inl o ↦ absurd (test ((bit_test bits place pl).1 (ap (λ w. bit_at w place) read ∙ o.reached)))
            | inr w ↦ subst (λ x. InWords x m) (sym is_words) w
          ],
        );
      })

-- a bit that a word has and the other one hasn't
pub bit_of_without : (a b k : ℕ) → b < 2 ^ 64 → k < 64 → (bit_at (bit_and a (bit_not w64 b)) k ≡ 1) ↔ ((bit_at b k ≢ 1) × (bit_at a k ≡ 1))
bit_of_without a b k fits l = let e = bit_at_and a (bit_not w64 b) k in let f = bit_at_not w64 b k fits l in (
  λ h. (λ x. omega (arith, e, f, h, x), omega (arith, e, f, h)),
  λ h. let s : bit_at b k < 2 = omega arith in let n = h.0 in omega (arith, e, f, h.1, n, s),
)

-- the words after a substitution of these kinds, from a cell that is reached
abbrev pub words_after : Words → ℕ → Words
words_after words kinds = record { has = bit_or words.has kinds; lacks = bit_and words.lacks (bit_not w64 kinds) }

pub InWords-after : (cells : Cells) (column place kinds : ℕ) → kinds < 2 ^ 64 → Tells cells column place Reached → (m : Mark) → InWords (words_after (words_at cells column place) kinds) m ↔ TellsAfter cells column place kinds m
InWords-after cells column place kinds fits at Reached = (λ h. tt, λ h. tt)
InWords-after cells column place kinds fits at (Has k) =
    let e = bit_of_or (words_at cells column place).has kinds k in (
      λ h. (
        h.0,
        elim (e.0 h.1) [
          | inl told ↦ inr (record { column_in_range = at.column_in_range; place_in_range = at.place_in_range; reached = at.reached; words = (h.0, told) })
          | inr one ↦ inl one
        ],
      ),
      λ h. (h.0, e.1 (elim h.1 [ inl one ↦ inr one | inr t ↦ inl (t.words).1 ])),
    )
InWords-after cells column place kinds fits at (Lacks k) = (
  λ h. let e = (bit_of_without (words_at cells column place).lacks kinds k fits h.0).0 h.1 in
      (e.0, record { column_in_range = at.column_in_range; place_in_range = at.place_in_range; reached = at.reached; words = (h.0, e.1) }),
  λ h. let within : k < 64 = ((h.1).words).0 in
      (within, (bit_of_without (words_at cells column place).lacks kinds k fits within).1 (h.0, ((h.1).words).1)),
)

-- a cell with the words after a substitution
pub AddsAfter-words : (old new : Cells) (from_column from_place kinds column place : ℕ) (words : Words) → kinds < 2 ^ 64 → Tells old from_column from_place Reached → words ≡ words_at old from_column from_place → Adds old new column place (words_after words kinds) → AddsAfter old new from_column from_place kinds column place
AddsAfter-words old new from_column from_place kinds column place words fits at is adds c p m =
    let same : InWords (words_after words kinds) m ↔ TellsAfter old from_column from_place kinds m =
    subst (λ x. InWords (words_after x kinds) m ↔ TellsAfter old from_column from_place kinds m) (sym is) (InWords-after old from_column from_place kinds fits at m) in (
      λ h. elim ((adds c p m).0 h) [ inl o ↦ inl o | inr a ↦ inr (a.0, a.1, same.0 a.2) ],
      λ h. (adds c p m).1 (elim h [ inl o ↦ inl o | inr a ↦ inr (a.0, a.1, same.1 a.2) ]),
    )

-- the test `a & b == 0`
pub no_shared_bit : (a b : ℕ) → a < 2 ^ 64 → IsTrue (nat_eq (bit_and a b) 0) ↔ ((k : ℕ) → k < 64 → bit_at a k ≡ 1 → bit_at b k ≢ 1)
no_shared_bit a b fits = (
  λ h k l x y.
      let none : bit_and a b ≡ 0 = grind (arith, nat_tests, h) in
      omega (arith, bit_at_and a b k, ap (λ n. bit_at n k) none, bit_at-zero k, x, y),
  λ h.
      let below : bit_and a b < 2 ^ 64 = omega (arith, and_le_l a b, fits) in
      let none : bit_and a b ≡ 0 = same_from_bits_below 64 (bit_and a b) 0 below (omega arith) (λ k l. zero_at h k l) in
      grind (arith, nat_tests, none),
)
  where
    zero_at : ((k : ℕ) → k < 64 → bit_at a k ≡ 1 → bit_at b k ≢ 1) → (k : ℕ) → k < 64 → bit_at (bit_and a b) k ≡ bit_at 0 k
    zero_at h k l = elim (same_or_not (bit_at a k) 1) [
      | inl one ↦ let other = h k l one in let small : bit_at b k < 2 = omega arith in omega (arith, bit_at_and a b k, bit_at-zero k, other, small)
      | inr other ↦ let small : bit_at a k < 2 = omega arith in omega (arith, bit_at_and a b k, bit_at-zero k, other, small)
    ]
