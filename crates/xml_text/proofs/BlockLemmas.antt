-- Blocks: bytes that are looked at at once.
use Rattle.std.proofs.Common.{◌≡◌, ℕ, suc, ◌+◌, ◌%◌, ◌^◌, ◌<◌, ◌≤◌, eqb, Bool, true, false, ◌&&◌, ◌||◌, ◌==◌, not, cond, bit_or, List, [], ◌∷◌, map, length, take, drop, get_or, replicate, w8, Fits, refl, sym, ap, ap₂, ◌∙◌, arith}
use Rattle.std.proofs.lemmas.Bool.{agree_below, agree_below_at}
use Rattle.std.proofs.lemmas.List.{length-map}
use Rattle.std.proofs.lemmas.List.Folds.{list_all-append}
use Rattle.std.proofs.lemmas.Simd.{zip2_splat, zip2_of_maps, map-map, mask_l-mod, length-chunk, get_or-chunk, trailing_mask_l, run_in_chunk_le, run_in_chunk_fails, none_from_empty_mask}
use Rattle.std.specs.List.{list_all, prefix_len}
use lib.Count.{count_trailing_zeros}
use lib.Lanes.{chunk, zip2, mask_l, top, Each1}
use Rattle.xml_text.specs.declared.run.Run.{Run}
use Rattle.xml_text.specs.inner.Runs.{goes_on, is_in_line}
use Rattle.xml_text.proofs.ListLemmas.{both_and}
use Rattle.xml_text.proofs.TakenLemmas.{further}

passes : (b : Bool) → not b ≡ false → b ≡ true
passes true e = refl
passes false e = absurd (cc)

-- ---- bytes that go on

all_from : (p : ℕ → Bool) (xs : List ℕ) → ((k : ℕ) → k < length xs → p (get_or xs k 0) ≡ true) → list_all p xs ≡ true
all_from p [] here = refl
all_from p (x ∷ xs) here = both_and (p x) (list_all p xs) (here 0 (omega arith)) (all_from p xs (λ k lt. here (suc k) (omega arith)))

-- n more bytes
pub led : (p : ℕ → Bool) (text : List ℕ) (i n : ℕ) → i + n ≤ length text → list_all p (take i text) ≡ true → ((k : ℕ) → i ≤ k → k < i + n → p (get_or text k 0) ≡ true) → list_all p (take (i + n) text) ≡ true
led p text i n room before here =
    ap (list_all p) (further text i n) ∙ list_all-append p (take i text) (take n (drop i text))
    ∙ both_and (list_all p (take i text)) (list_all p (take n (drop i text))) before
    (all_from p (take n (drop i text)) (λ k lt.
    let few : k < n = omega (arith, length-chunk i n text room) in
    ap p (get_or-chunk i n text k 0 few) ∙ here (i + k) (omega arith) (omega arith)))

-- a block in which nothing ends
pub block_led : (p : ℕ → Bool) (text : List ℕ) (i n : ℕ) → i + n ≤ length text → list_all p (take i text) ≡ true → mask_l (map (λ b. not (p b)) (chunk i n text)) ≡ 0 → list_all p (take (i + n) text) ≡ true
block_led p text i n room before none =
    led p text i n room before (λ k from to. passes (p (get_or text k 0)) (none_from_empty_mask (λ b. not (p b)) text i n 0 room none k from to))

-- and one in which something does
pub block_ends : (p : ℕ → Bool) (text : List ℕ) (i n : ℕ) → i + n ≤ length text → n ≤ 64 → list_all p (take i text) ≡ true → 0 < mask_l (map (λ b. not (p b)) (chunk i n text))
    → (i + count_trailing_zeros 64 (mask_l (map (λ b. not (p b)) (chunk i n text))) ≤ length text)
    × (list_all p (take (i + count_trailing_zeros 64 (mask_l (map (λ b. not (p b)) (chunk i n text)))) text) ≡ true)
block_ends p text i n room few before some =
    let stop : ℕ → Bool = λ b. not (p b) in
    let r = count_trailing_zeros 64 (mask_l (map stop (chunk i n text))) in
    let counted : r ≡ prefix_len (λ b. not (stop b)) (chunk i n text) = trailing_mask_l stop 64 (chunk i n text) (omega (arith, length-chunk i n text room)) some in
    let within : r ≤ n = run_in_chunk_le stop text i n r 0 room counted in (
      omega arith,
      led p text i r (omega arith) before (λ k from to. passes (p (get_or text k 0)) (run_in_chunk_fails stop text i n r 0 room counted k from to)),
    )

-- ---- masks

abbrev pub lane : Bool → ℕ
lane b = cond b 255 0

abbrev pub hit : ℕ → ℕ → ℕ
hit a b = cond (eqb a b) 255 0

either_lane : (p q : Bool) → bit_or (lane p) (lane q) ≡ lane (p || q)
either_lane true true = refl
either_lane true false = refl
either_lane false true = refl
either_lane false false = refl

lanes_or : (p q : ℕ → Bool) (v : List ℕ) → map (λ x. bit_or (lane (p x)) (lane (q x))) v ≡ map (λ x. lane (p x || q x)) v
lanes_or p q [] = refl
lanes_or p q (x ∷ xs) = ap₂ (λ a b. a ∷ b) (either_lane (p x) (q x)) (lanes_or p q xs)

-- where one or the other is
pub either : (p q : ℕ → Bool) (v : List ℕ) {a b : List ℕ} → a ≡ map (λ x. lane (p x)) v → b ≡ map (λ x. lane (q x)) v → zip2 bit_or a b ≡ map (λ x. lane (p x || q x)) v
either p q v e f = zip2_of_maps bit_or (λ x. lane (p x)) (λ x. lane (q x)) v e f ∙ lanes_or p q v

top_lane : (b : Bool) → top 7 (lane b) ≡ b
top_lane true = refl
top_lane false = refl

tops : (p q : ℕ → Bool) → ((x : ℕ) → p x ≡ q x) → (v : List ℕ) → map (λ x. top 7 (lane (p x))) v ≡ map q v
tops p q same [] = refl
tops p q same (x ∷ xs) = ap₂ (λ a b. a ∷ b) (top_lane (p x) ∙ same x) (tops p q same xs)

-- a bit for each byte
pub masked : (p q : ℕ → Bool) → ((x : ℕ) → p x ≡ q x) → (v : List ℕ) {z : List ℕ} → length v ≤ 64 → z ≡ map (λ x. lane (p x)) v → mask_l (map (top 7) z) % 2 ^ 64 ≡ mask_l (map q v)
masked p q same v few e =
    ap (λ l. mask_l l % 2 ^ 64) (ap (map (top 7)) e ∙ map-map (top 7) (λ x. lane (p x)) v ∙ tops p q same v) ∙ mask_l-mod (map q v) 64 (omega (arith, length-map v q))

each_byte : (f : ℕ → ℕ) (q : ℕ → Bool) → agree_below (λ x. top 7 (f x)) q 256 ≡ true → (v : List ℕ) → Each1 (Fits w8) v → map (λ x. top 7 (f x)) v ≡ map q v
each_byte f q all [] fits = refl
each_byte f q all (x ∷ xs) fits = ap₂ (λ a b. a ∷ b) (agree_below_at (λ y. top 7 (f y)) q 256 x all fits.0.fits) (each_byte f q all xs fits.1)

-- the same, held against the definition at each of the 256 bytes
pub computed : (f : ℕ → ℕ) (q : ℕ → Bool) (v : List ℕ) {z : List ℕ} → length v ≤ 64 → Each1 (Fits w8) v → z ≡ map f v → agree_below (λ x. top 7 (f x)) q 256 ≡ true → mask_l (map (top 7) z) % 2 ^ 64 ≡ mask_l (map q v)
computed f q v few fits e all =
    ap (λ l. mask_l l % 2 ^ 64) (ap (map (top 7)) e ∙ map-map (top 7) f v ∙ each_byte f q all v fits) ∙ mask_l-mod (map q v) 64 (omega (arith, length-map v q))

-- ---- which bytes end a run

not_not : (b : Bool) → not (not b) ≡ b
not_not true = refl
not_not false = refl

not_both : (a b x y : Bool) → not a ≡ x → not b ≡ y → not (a && b) ≡ (x || y)
not_both true b x y e f = f ∙ ap (λ (o : Bool). o || y) e
not_both false b x y e f = ap (λ (o : Bool). o || y) e

line_ends : (x : ℕ) → not (is_in_line x) ≡ (x == 10 || x == 13)
line_ends x = not_both (not (x == 10)) (not (x == 13)) (x == 10) (x == 13) (not_not (x == 10)) (not_not (x == 13))

hits : (v : List ℕ) (y : ℕ) → length v ≡ 16 → zip2 hit v (replicate 16 y) ≡ map (λ x. lane (x == y)) v
hits v y long = zip2_splat hit v 16 y long

line_hits : (v : List ℕ) → length v ≡ 16 → zip2 bit_or (zip2 hit v (replicate 16 10)) (zip2 hit v (replicate 16 13)) ≡ map (λ x. lane (x == 10 || x == 13)) v
line_hits v long = either (λ x. x == 10) (λ x. x == 13) v (hits v 10 long) (hits v 13 long)

-- four bytes, and the ends of lines
pub four_end : (r : Run) (a b c d : ℕ) (v : List ℕ) → length v ≡ 16 → ((x : ℕ) → goes_on r x ≡ (not (x == a) && not (x == b) && not (x == c) && not (x == d) && is_in_line x))
    → mask_l
    (map (top 7)
    (zip2 bit_or (zip2 bit_or (zip2 bit_or (zip2 bit_or (zip2 hit v (replicate 16 a)) (zip2 hit v (replicate 16 b))) (zip2 hit v (replicate 16 c))) (zip2 hit v (replicate 16 d)))
    (zip2 bit_or (zip2 hit v (replicate 16 10)) (zip2 hit v (replicate 16 13)))))
    % 2 ^ 64
    ≡ mask_l (map (λ x. not (goes_on r x)) v)
four_end r a b c d v long is =
    let p1 = λ (x : ℕ). x == a || x == b in
    let p2 = λ (x : ℕ). p1 x || x == c in
    let p3 = λ (x : ℕ). p2 x || x == d in
    let same : (x : ℕ) → (p3 x || (x == 10 || x == 13)) ≡ not (goes_on r x) = λ x.
    let two = not_both (not (x == a)) (not (x == b)) (x == a) (x == b) (not_not (x == a)) (not_not (x == b)) in
    let three = not_both (not (x == a) && not (x == b)) (not (x == c)) (p1 x) (x == c) two (not_not (x == c)) in
    let four = not_both (not (x == a) && not (x == b) && not (x == c)) (not (x == d)) (p2 x) (x == d) three (not_not (x == d)) in
    sym (ap not (is x) ∙ not_both (not (x == a) && not (x == b) && not (x == c) && not (x == d)) (is_in_line x) (p3 x) (x == 10 || x == 13) four (line_ends x)) in
    masked (λ x. p3 x || (x == 10 || x == 13)) (λ x. not (goes_on r x)) same v (omega arith)
    (either p3 (λ x. x == 10 || x == 13) v (either p2 (λ x. x == d) v (either p1 (λ x. x == c) v (either (λ x. x == a) (λ x. x == b) v (hits v a long) (hits v b long)) (hits v c long)) (hits v d long)) (line_hits v long))

-- one byte, and the ends of lines
pub one_ends : (r : Run) (a : ℕ) (v : List ℕ) → length v ≡ 16 → ((x : ℕ) → goes_on r x ≡ (not (x == a) && is_in_line x))
    → mask_l (map (top 7) (zip2 bit_or (zip2 hit v (replicate 16 a)) (zip2 bit_or (zip2 hit v (replicate 16 10)) (zip2 hit v (replicate 16 13))))) % 2 ^ 64 ≡ mask_l (map (λ x. not (goes_on r x)) v)
one_ends r a v long is =
    let same : (x : ℕ) → (x == a || (x == 10 || x == 13)) ≡ not (goes_on r x) = λ x. sym (ap not (is x) ∙ not_both (not (x == a)) (is_in_line x) (x == a) (x == 10 || x == 13) (not_not (x == a)) (line_ends x)) in
    masked (λ x. x == a || (x == 10 || x == 13)) (λ x. not (goes_on r x)) same v (omega arith) (either (λ x. x == a) (λ x. x == 10 || x == 13) v (hits v a long) (line_hits v long))
