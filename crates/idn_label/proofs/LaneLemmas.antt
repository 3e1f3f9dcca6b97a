-- Vectors of octets that are computed lane by lane, and the masks of their comparisons.
use Rattle.std.proofs.Common.{◌≡◌, ◌≢◌, ℕ, zero, suc, ◌+◌, ◌-◌, ◌*◌, ◌/◌, ◌%◌, ◌^◌, ◌<◌, ◌≤◌, ◌||◌, eqb, Bool, true, false, not, cond, List, [], ◌∷◌, ◌++◌, All, map, length, take, drop, slice_range, replicate, get_or, Fits, w8, refl, sym, ap, ap₂, inl, inr, ◌∙◌, shr-shr, arith}
use Rattle.std.proofs.Math.Seq.{take-add}
use Rattle.std.proofs.lemmas.Bool.{agree_below, agree_below_at, eqb-true, cases_lt}
use Rattle.std.proofs.lemmas.Simd.{map-map, mask_l-mod, length-chunk, bit_mask_l, Each1-get_or, Each1-from_get_or, Each1-weaker, trailing_mask_l, none_from_empty_mask, run_in_chunk_fails, run_in_chunk_stops}
use Rattle.std.proofs.lemmas.Nat.Bits.{same_from_bits}
use lib.Count.{count_trailing_zeros}
use Rattle.std.specs.List.{prefix_len, AllWithin}
use Rattle.std.proofs.lemmas.List.{length-map, take_all, get_or-drop, take-map, drop-map, drop-drop}
use Rattle.std.proofs.lemmas.List.Elements.{All-head, All-tail, AllWithin-upto}
use Rattle.std.proofs.lemmas.Slice.{between_is}
use Rattle.std.specs.Simd.Lanes.{Each1, mask_l, top}
use Rattle.idn_label.proofs.LabelsByPlace.{All-slice}

-- ---- ranges of a list

pub take-slice_range : (xs : List ℕ) (start end : ℕ) → start ≤ end → take start xs ++ slice_range xs start end ≡ take end xs
take-slice_range xs start end le = sym (take-add start (end - start) xs) ∙ ap (λ n. take n xs) (let e : start + (end - start) ≡ end = omega arith in e)

pub map-slice_range : (f : ℕ → ℕ) (xs : List ℕ) (start end : ℕ) → map f (slice_range xs start end) ≡ slice_range (map f xs) start end
map-slice_range f xs start end = sym (take-map f (end - start) (drop start xs)) ∙ ap (take (end - start)) (sym (drop-map f start xs))

-- ---- lane by lane

agree : {Y : Type 0} (f g : ℕ → Y) (v : List ℕ) → Each1 (λ x. f x ≡ g x) v → map f v ≡ map g v
agree f g [] same = refl
agree f g (x ∷ v) same = ap₂ (λ a b. a ∷ b) same.0 (agree f g v same.1)

-- where no lane passes p, what agrees at each other octet agrees at each lane
pub same_lanes : (p : ℕ → Bool) (f g : ℕ → ℕ) (v : List ℕ) → Each1 (Fits w8) v → mask_l (map p v) ≡ 0 → agree_below (λ x. p x || eqb (f x) (g x)) (λ _. true) 256 ≡ true → map f v ≡ map g v
same_lanes p f g v fits none all =
    let whole = take_all (length v) v (omega arith) in
    agree f g v (Each1-from_get_or (λ x. f x ≡ g x) v 0 (λ i lt.
    let x = get_or v i 0 in
    let other = none_from_empty_mask p v 0 (length v) 0 (omega arith) (ap (λ xs. mask_l (map p xs)) whole ∙ none) i (omega arith) (omega arith) in
    eqb-true (f x) (g x)
    (ap (λ b. b || eqb (f x) (g x)) (sym other) ∙ agree_below_at (λ x. p x || eqb (f x) (g x)) (λ _. true) 256 x all (Each1-get_or (Fits w8) v i 0 lt fits).fits)))

-- the mask of a comparison that agrees with p
pub masked : (p : ℕ → Bool) (f : ℕ → ℕ) (v : List ℕ) {z : List ℕ} → z ≡ map f v → length v ≡ 16 → Each1 (Fits w8) v → agree_below (λ x. top 7 (f x)) p 256 ≡ true → mask_l (map (top 7) z) % 2 ^ 64 ≡ mask_l (map p v)
masked p f v lanes long fits all =
    ap (λ ms. mask_l ms % 2 ^ 64)
    (ap (map (top 7)) lanes ∙ map-map (top 7) f v ∙ agree (λ x. top 7 (f x)) p v (Each1-weaker (Fits w8) (λ x. top 7 (f x) ≡ p x) (λ x fit. agree_below_at (λ x. top 7 (f x)) p 256 x all fit.fits) v fits))
    ∙ mask_l-mod (map p v) 64 (omega (arith, length-map v p))

-- ---- masks

-- letters after some octets
pub mask_l-padded : (p : ℕ → Bool) (xs : List ℕ) (n c : ℕ) → p c ≡ false → mask_l (map p (xs ++ replicate n c)) ≡ mask_l (map p xs)
mask_l-padded p [] zero c other = refl
mask_l-padded p [] (suc n) c other = rw (other, mask_l-padded p [] n c other) refl
mask_l-padded p (x ∷ xs) n c other = ap (λ m. cond (p x) 1 0 + 2 * m) (mask_l-padded p xs n c other)

mask_l-none : (p : ℕ → Bool) (xs : List ℕ) → All (λ x. p x ≡ false) xs → mask_l (map p xs) ≡ 0
mask_l-none p [] none = refl
mask_l-none p (x ∷ xs) none = rw (All-head (λ x. p x ≡ false) x xs none, mask_l-none p xs (All-tail (λ x. p x ≡ false) x xs none)) refl

-- the mask of places of which none passes
pub mask_none : (p : ℕ → Bool) (q : List ℕ) (at end : ℕ) → AllWithin (λ x. p x ≡ false) q at end → mask_l (map p (slice_range q at end)) ≡ 0
mask_none p q at end none = mask_l-none p (slice_range q at end) (All-slice (λ x. p x ≡ false) q at end none)

pub none_from_mask : (p : ℕ → Bool) (q : List ℕ) (at end mask : ℕ) → at ≤ end → end ≤ length q → mask ≡ mask_l (map p (slice_range q at end)) → mask ≡ 0 → AllWithin (λ x. p x ≡ false) q at end
none_from_mask p q at end mask order within is empty k d from to =
    none_from_empty_mask p q at (end - at) d (omega arith) (sym is ∙ empty) k from (omega arith)

-- the mask less its lowest bits
mask_l-drop : (n : ℕ) (ms : List Bool) → mask_l ms / 2 ^ n ≡ mask_l (drop n ms)
mask_l-drop n ms =
    same_from_bits (mask_l ms / 2 ^ n) (mask_l (drop n ms)) (λ i.
    ap (λ m. m % 2) (shr-shr (mask_l ms) n i) ∙ bit_mask_l ms (n + i) ∙ ap (λ b. cond b 1 0) (sym (get_or-drop n ms i false)) ∙ sym (bit_mask_l (drop n ms) i))

-- the mask of the places from `at` on, by that of those from `from` on
pub mask_after : (p : ℕ → Bool) (q : List ℕ) (from at end : ℕ) → from ≤ at → mask_l (map p (slice_range q from end)) / 2 ^ (at - from) ≡ mask_l (map p (slice_range q at end))
mask_after p q from at end le =
    let k = at - from in
    mask_l-drop k (map p (slice_range q from end))
    ∙ ap mask_l
    (drop-map p k (slice_range q from end)
    ∙ ap (map p)
    (ap (drop k) (between_is q from end) ∙ drop-drop k from (take end q) ∙ ap (λ i. drop i (take end q)) (let e : from + k ≡ at = omega arith in e) ∙ sym (between_is q at end)))

-- of the places from `at` to `end`, r don't pass and then one passes; and the mask of those after it
pub record IsNext (p : ℕ → Bool) (q : List ℕ) (at end mask r : ℕ) : Type 0 where
  pub before : at + r < end
  pub none : AllWithin (λ x. p x ≡ false) q at (at + r)
  pub passes : p (get_or q (at + r) 0) ≡ true
  pub after : mask / 2 ^ r / 2 ≡ mask_l (map p (slice_range q (at + r + 1) end))

-- the lowest bit is the first place that passes
pub next_lane : (p : ℕ → Bool) (q : List ℕ) (at end mask : ℕ) → at ≤ end → end ≤ length q → end ≤ at + 64 → mask ≡ mask_l (map p (slice_range q at end)) → mask ≢ 0 → IsNext p q at end mask (count_trailing_zeros 64 mask)
next_lane p q at end mask order within few is some =
    let n = end - at in
    let v = slice_range q at end in
    let r = count_trailing_zeros 64 mask in
    let room : at + n ≤ length q = omega arith in
    let long : length v ≡ n = length-chunk at n q room in
    let counted : r ≡ prefix_len (λ x. not (p x)) v = ap (count_trailing_zeros 64) is ∙ trailing_mask_l p 64 v (omega (arith, long)) (omega (arith, is)) in
    let none : AllWithin (λ x. p x ≡ false) q at (at + r) = λ k d. run_in_chunk_fails p q at n r d room counted k in
    let before : r < n =
    elim (cases_lt r n) [ inl lt ↦ lt | inr ge ↦ absurd (some (is ∙ mask_none p q at end (AllWithin-upto (λ x. p x ≡ false) q at (at + r) end (omega arith) none))) ] in
    record {
      before = omega arith;
      none = none;
      passes = run_in_chunk_stops p q at n r 0 room counted before;
      after =
          ap (λ m. m / 2 ^ r / 2) is
          ∙ shr-shr (mask_l (map p v)) r 1
          ∙ ap (λ k. mask_l (map p v) / 2 ^ k) (let e : r + 1 ≡ at + r + 1 - at = omega arith in e)
          ∙ mask_after p q at (at + r + 1) end (omega arith);
    }
