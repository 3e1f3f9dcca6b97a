-- Parts of a label between two places.
use Rattle.std.proofs.Common.{◌≡◌, ℕ, ◌+◌, ◌-◌, ◌<◌, ◌≤◌, List, ◌++◌, length, min, take, drop, refl, sym, ap, ◌∙◌, arith, length-drop, length-take, length-append}
use Rattle.std.specs.List.{slice_range}
use Rattle.std.proofs.lemmas.List.{take-append-le, drop-append-le, drop-drop, drop_at, take_at}
use Rattle.std.proofs.Math.Seq.{take-add}

module _ (label : List ℕ) where
  -- how long a part is
  pub part-length : (i j : ℕ) → i ≤ j → j ≤ length label → length (slice_range label i j) ≡ j - i
  part-length i j l m = length-take (j - i) (drop i label) ∙ (let d : length (drop i label) ≡ length label - i = length-drop i label in omega (arith, d, l, m))

  -- a part that has all its code points lies in the label
  pub part-inside : (i n : ℕ) (points : List ℕ) → length points ≡ n → 0 < n → slice_range label i (i + n) ≡ points → i + n ≤ length label
  part-inside i n points e some is =
      let t : length (slice_range label i (i + n)) ≡ min (i + n - i) (length (drop i label)) = length-take (i + n - i) (drop i label) in
      let d : length (drop i label) ≡ length label - i = length-drop i label in
      let s : length (slice_range label i (i + n)) ≡ n = ap length is ∙ e in
      omega (arith, t, d, s, some)

  -- the first part of what is left
  pub first-part : (i : ℕ) (points rest : List ℕ) → drop i label ≡ points ++ rest → slice_range label i (i + length points) ≡ points
  first-part i points rest is =
      let n : i + length points - i ≡ length points = omega arith in
      ap (λ m. take m (drop i label)) n ∙ ap (take (length points)) is ∙ take_at points rest (length points) refl

  pub first-inside : (i : ℕ) (points rest : List ℕ) → i ≤ length label → drop i label ≡ points ++ rest → i + length points ≤ length label
  first-inside i points rest l is =
      let d : length (drop i label) ≡ length label - i = length-drop i label in
      let s : length (drop i label) ≡ length points + length rest = ap length is ∙ length-append points rest in
      omega (arith, d, s, l)

  pub after-first : (i : ℕ) (points rest : List ℕ) → drop i label ≡ points ++ rest → drop (i + length points) label ≡ rest
  after-first i points rest is = sym (drop-drop (length points) i label) ∙ ap (drop (length points)) is ∙ drop_at points rest (length points) refl

  -- what stands before a place, and a part from there on
  pub take-part : (i j : ℕ) → i ≤ j → take j label ≡ take i label ++ slice_range label i j
  take-part i j l = (let e : j ≡ i + (j - i) = omega (arith, l) in ap (λ n. take n label) e) ∙ take-add i (j - i) label

  -- a part of a longer label
  pub part-stays : (more : List ℕ) (i j : ℕ) → i ≤ j → j ≤ length label → slice_range (label ++ more) i j ≡ slice_range label i j
  part-stays more i j l m =
      let d : length (drop i label) ≡ length label - i = length-drop i label in
      ap (take (j - i)) (drop-append-le i label more (omega (arith, l, m))) ∙ take-append-le (j - i) (drop i label) more (omega (arith, d, m))
