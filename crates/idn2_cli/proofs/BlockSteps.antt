-- Blocks: their lines up to a stop, and one line more.
use Rattle.std.proofs.Common.{◌≡◌, ◌+◌, ◌==◌, inl, inr, ℕ, suc, List, [], ◌∷◌, ◌++◌, true, false, Option, Some, None, IfSome, map, length, sym, ap, ◌∙◌, arith}
use Rattle.std.specs.List.{AllByRecursion, slice_get}
use Rattle.variant_list.specs.Labels.{IsBelow}
use Rattle.variant_list.specs.Jumps.{IsFrom}
use Rattle.idn2_answers.proofs.LabelStops.{up_to-first, up_to-above, up_to-later}
use Rattle.idn2_answers.specs.Said.{Said, BlockEnd}
use Rattle.idn2_answers.specs.Listings.{up_to}
use Rattle.idn2_cli.specs.inner.LineAnswers.{reaches}
use Rattle.idn2_cli.specs.inner.Progress.{block_from}

-- ---- the block of lists, by the places of its stop

-- the label at a place, if a place is given
abbrev pub get_if_given : List (List ℕ) → Option ℕ → Option (List ℕ)
get_if_given vs None = None
get_if_given vs (Some i) = slice_get vs i

pub add_none : (n : ℕ) → n + 0 ≡ n
add_none n = omega arith

add_later : (n m : ℕ) → n + suc m ≡ (n + 1) + m
add_later n m = omega arith

-- the limit that so many variants and then the one at the place meet
abbrev pub limit_from : ℕ → Option ℕ → Option ℕ
limit_from count None = None
limit_from count (Some i) = Some ((count + 1) + i)

pub reaches-now : (count : ℕ) → reaches (limit_from count (Some 0)) (count + 1) ≡ true
reaches-now count = ap (λ n. n == (count + 1)) (add_none (count + 1)) ∙ same (count + 1)
  where
    same : (n : ℕ) → (n == n) ≡ true
    same n = grind arith

pub reaches-later : (count i : ℕ) → reaches (limit_from count (Some (suc i))) (count + 1) ≡ false
reaches-later count i = grind arith

pub limit_from-later : (count i : ℕ) → limit_from count (Some (suc i)) ≡ limit_from (count + 1) (Some i)
limit_from-later count i = ap (λ (n : ℕ). let o : Option ℕ = Some n in o) (omega arith)

-- ---- the lines of a block

-- each variant has a line
module _ (line : List ℕ → Said) where
  -- the first candidate is the stop, and a variant
  pub stops_at_variant : (count : ℕ) (c : List ℕ) (vs : List (List ℕ)) (r : Option (List ℕ)) → AllByRecursion (IsBelow c) vs → r ≡ Some c → block_from line count r (c ∷ vs) ≡ line c ∷ BlockEnd (count + 1) (Some c) ∷ []
  stops_at_variant count c vs r h e =
      ap (λ (s : Option (List ℕ)). block_from line count s (c ∷ vs)) e
      ∙ ap (λ (l : List (List ℕ)). map line l ++ BlockEnd (count + length l) (Some c) ∷ []) (up_to-first c vs h)

  -- the first candidate is the stop, and no variant
  pub stops_at_other : (count : ℕ) (c : List ℕ) (vs : List (List ℕ)) (r : Option (List ℕ)) → AllByRecursion (IsBelow c) vs → r ≡ Some c → block_from line count r vs ≡ BlockEnd count (Some c) ∷ []
  stops_at_other count c vs r h e =
      ap (λ (s : Option (List ℕ)). block_from line count s vs) e
      ∙ ap (λ (l : List (List ℕ)). map line l ++ BlockEnd (count + length l) (Some c) ∷ []) (up_to-above c vs h)
      ∙ ap (λ (n : ℕ). BlockEnd n (Some c) ∷ []) (add_none count)

  -- the stop comes later
  pub stops_later : (count : ℕ) (c : List ℕ) (vs : List (List ℕ)) (r : Option (List ℕ)) → IfSome r (IsBelow c) → block_from line count r (c ∷ vs) ≡ line c ∷ block_from line (count + 1) r vs
  stops_later count c vs r h =
      ap (λ (l : List (List ℕ)). map line l ++ BlockEnd (count + length l) r ∷ []) (up_to-later c vs r h)
      ∙ ap (λ (n : ℕ). line c ∷ (map line (up_to r vs) ++ BlockEnd n r ∷ [])) (add_later count (length (up_to r vs)))

  -- the stop is the first candidate, a variant, or comes later
  pub stops_from : (count : ℕ) (c : List ℕ) (vs : List (List ℕ)) (r : Option (List ℕ)) → AllByRecursion (IsBelow c) vs → IfSome r (IsFrom c) → block_from line count r (c ∷ vs) ≡ line c ∷ block_from line (count + 1) r vs
  stops_from count c vs None above h = stops_later count c vs None tt
  stops_from count c vs (Some b) above (inl same) =
      let here : (let o : Option (List ℕ) = Some b in o) ≡ Some c = ap (λ (x : List ℕ). let o : Option (List ℕ) = Some x in o) (sym same) in
      stops_at_variant count c vs (Some b) above here ∙ ap (λ l. line c ∷ l) (sym (stops_at_other (count + 1) c vs (Some b) above here))
  stops_from count c vs (Some b) above (inr later) = stops_later count c vs (Some b) later
