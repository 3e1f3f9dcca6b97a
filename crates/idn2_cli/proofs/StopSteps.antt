-- The stop of a listing, as it is seen from where the cursor stands.
use Rattle.std.proofs.Common.{◌≡◌, ◌==◌, ◌<◌, ◌≤◌, ◌+◌, ◌-◌, inl, inr, ℕ, zero, suc, List, [], ◌∷◌, Bool, true, false, Option, Some, None, IfSome, length, take, drop, refl, ap, ◌∙◌, if◌then◌else◌, arith}
use Rattle.std.specs.List.{AllByRecursion, filter, slice_get}
use Rattle.variant_list.specs.Labels.{IsBelow}
use Rattle.variant_list.specs.Jumps.{IsFrom}
use Rattle.variant_list.specs.Positions.{Position, tested_ahead}
use Rattle.variant_list.specs.Steps.{last_of}
use Rattle.variant_list.specs.Visited.{visited_ahead}
use Rattle.idn2_answers.specs.Listings.{Filter, lesser_label}
use Rattle.idn2_cli.specs.inner.LineAnswers.{reaches}
use Rattle.idn2_cli.specs.inner.Progress.{from_here, from_here_if, more_to, stop_from, variants_ahead}
use Rattle.idn2_answers.proofs.LabelStops.{lesser_label-first, lesser_label-second, lesser_label-either, get-above, filter-above}

-- ---- the label to which so many more lead

first : (v : List ℕ) (vs : List (List ℕ)) (n : ℕ) → slice_get (v ∷ vs) n ≡ from_here v vs n
first v vs zero = refl
first v vs (suc n) = refl

-- some of them taken
pub from_here-moved : (last : List ℕ) (vs : List (List ℕ)) (n k : ℕ) → k ≤ n → k ≤ length vs → from_here last vs n ≡ from_here (last_of last (take k vs)) (drop k vs) (n - k)
from_here-moved last vs n zero within there = ap (from_here last vs) (let same : n ≡ n - 0 = omega arith in same)
from_here-moved last vs zero (suc k) within there = absurd (omega (arith, within))
from_here-moved last [] (suc n) (suc k) within there = absurd (omega (arith, there))
from_here-moved last (v ∷ vs) (suc n) (suc k) within there =
    first v vs n ∙ from_here-moved v vs n k (omega (arith, within)) (omega (arith, there))
    ∙ ap (from_here (last_of v (take k vs)) (drop k vs)) (let same : n - k ≡ suc n - suc k = omega arith in same)

-- it is no less than the last one
from_here-from : (last : List ℕ) (vs : List (List ℕ)) (n : ℕ) → AllByRecursion (IsBelow last) vs → IfSome (from_here last vs n) (IsFrom last)
from_here-from last vs zero h = inl refl
from_here-from last vs (suc n) h = weaker (slice_get vs n) (get-above last vs n h)
  where
    weaker : (r : Option (List ℕ)) → IfSome r (IsBelow last) → IfSome r (IsFrom last)
    weaker None h = tt
    weaker (Some b) h = inr h

from_here_if-from : (last : List ℕ) (vs : List (List ℕ)) (n : Option ℕ) → AllByRecursion (IsBelow last) vs → IfSome (from_here_if last vs n) (IsFrom last)
from_here_if-from last vs None h = tt
from_here_if-from last vs (Some n) h = from_here-from last vs n h

-- there are too few
pub from_here-past : (last : List ℕ) (vs : List (List ℕ)) (n : ℕ) → length vs < n → from_here last vs n ≡ None
from_here-past last vs zero past = absurd (omega (arith, past))
from_here-past last vs (suc n) past = beyond vs n (omega (arith, past))
  where
    beyond : (vs : List (List ℕ)) (n : ℕ) → length vs ≤ n → slice_get vs n ≡ None
    beyond [] n l = refl
    beyond (v ∷ vs) zero l = absurd (omega (arith, l))
    beyond (v ∷ vs) (suc n) l = beyond vs n (omega (arith, l))

-- ---- how many more may be listed

-- there is one more, where they are bounded
abbrev pub HasMore : Option ℕ → Type 0
HasMore more = IfSome more (λ n. 0 < n)

pub reached-none : (limit : Option ℕ) (count : ℕ) → reaches limit count ≡ true → more_to limit count ≡ Some 0
reached-none None count is = let clash : false ≡ true = is in cc
reached-none (Some n) count is = ap (λ (m : ℕ). let o : Option ℕ = Some m in o) (none n count is)
  where
    none : (n count : ℕ) → (n == count) ≡ true → n - count ≡ 0
    none n count is = grind (arith, is)

pub unreached-more : (limit : Option ℕ) (count : ℕ) → IfSome limit (λ n. count ≤ n) → reaches limit count ≡ false → HasMore (more_to limit count)
unreached-more None count within going = tt
unreached-more (Some n) count within going = some n count within going
  where
    some : (n count : ℕ) → count ≤ n → (n == count) ≡ false → 0 < n - count
    some n count within going = grind (arith, within, going)

pub more-within : (limit : Option ℕ) (count : ℕ) → HasMore (more_to limit count) → IfSome limit (λ n. count + 1 ≤ n)
more-within None count more = tt
more-within (Some n) count more = omega (arith, more)

-- the first of those to come is taken
pub more-first : (last v : List ℕ) (vs : List (List ℕ)) (limit : Option ℕ) (count : ℕ) → HasMore (more_to limit count)
    → from_here_if last (v ∷ vs) (more_to limit count) ≡ from_here_if v vs (more_to limit (count + 1))
more-first last v vs None count more = refl
more-first last v vs (Some n) count more =
    from_here-moved last (v ∷ vs) (n - count) 1 (omega (arith, more)) (omega arith)
    ∙ ap (from_here v vs) (let same : n - count - 1 ≡ n - (count + 1) = omega arith in same)

-- where one more may be taken, it is not asked what the last one is
pub anywhere : (last other : List ℕ) (vs : List (List ℕ)) (n : ℕ) → 0 < n → from_here last vs n ≡ from_here other vs n
anywhere last other vs zero some = absurd (omega (arith, some))
anywhere last other vs (suc n) some = refl

pub anywhere_if : (last other : List ℕ) (vs : List (List ℕ)) (more : Option ℕ) → HasMore more → from_here_if last vs more ≡ from_here_if other vs more
anywhere_if last other vs None some = refl
anywhere_if last other vs (Some n) some = anywhere last other vs n some

pub none-there : (last : List ℕ) (more : Option ℕ) → HasMore more → from_here_if last [] more ≡ None
none-there last None some = refl
none-there last (Some n) some = from_here-past last [] n some

-- ---- the stop

module _ (f : Filter) where
  -- the stop that tries and steps set
  abbrev pub bound_from : Position → ℕ → Option ℕ → Option (List ℕ)
  bound_from p tries steps = lesser_label (from_here p.last (tested_ahead f.hopeless p) tries) (from_here_if p.last (visited_ahead f.hopeless p) steps)

  -- what is ahead of a cursor is above its last label
  pub record IsAbove (p : Position) : Type 0 where
    pub tested : AllByRecursion (IsBelow p.last) (tested_ahead f.hopeless p)
    pub visited : AllByRecursion (IsBelow p.last) (visited_ahead f.hopeless p)

  pub variants-above : (p : Position) → IsAbove p → AllByRecursion (IsBelow p.last) (variants_ahead f p)
  variants-above p above = filter-above f.accepts p.last (tested_ahead f.hopeless p) above.tested

  pub bound-from : (p : Position) (tries : ℕ) (steps : Option ℕ) → IsAbove p → IfSome (bound_from p tries steps) (IsFrom p.last)
  bound-from p tries steps above =
      lesser_label-either (IsFrom p.last) (from_here p.last (tested_ahead f.hopeless p) tries) (from_here_if p.last (visited_ahead f.hopeless p) steps)
      (from_here-from p.last (tested_ahead f.hopeless p) tries above.tested) (from_here_if-from p.last (visited_ahead f.hopeless p) steps above.visited)

  variant-from : (p : Position) (more : Option ℕ) → IsAbove p → IfSome (from_here_if p.last (variants_ahead f p) more) (IsFrom p.last)
  variant-from p more above = from_here_if-from p.last (variants_ahead f p) more (variants-above p above)

  pub stop-from : (p : Position) (more : Option ℕ) (tries : ℕ) (steps : Option ℕ) → IsAbove p → IfSome (stop_from f p more tries steps) (IsFrom p.last)
  stop-from p more tries steps above =
      lesser_label-either (IsFrom p.last) (from_here_if p.last (variants_ahead f p) more) (bound_from p tries steps) (variant-from p more above) (bound-from p tries steps above)

  -- no try is left, or no step: the last label is the stop
  pub stop-here : (p : Position) (more : Option ℕ) (tries : ℕ) (steps : Option ℕ) → IsAbove p → bound_from p tries steps ≡ Some p.last → stop_from f p more tries steps ≡ Some p.last
  stop-here p more tries steps above is =
      ap (lesser_label (from_here_if p.last (variants_ahead f p) more)) is ∙ lesser_label-second p.last (from_here_if p.last (variants_ahead f p) more) (variant-from p more above)

  -- and so it is where no more may be listed
  pub stop-reached : (p : Position) (tries : ℕ) (steps : Option ℕ) → IsAbove p → stop_from f p (Some 0) tries steps ≡ Some p.last
  stop-reached p tries steps above = lesser_label-first p.last (bound_from p tries steps) (bound-from p tries steps above)

  pub bound-spent : (p : Position) (steps : Option ℕ) → IsAbove p → bound_from p 0 steps ≡ Some p.last
  bound-spent p steps above = lesser_label-first p.last (from_here_if p.last (visited_ahead f.hopeless p) steps) (from_here_if-from p.last (visited_ahead f.hopeless p) steps above.visited)

  pub bound-halted : (p : Position) (tries : ℕ) → IsAbove p → bound_from p tries (Some 0) ≡ Some p.last
  bound-halted p tries above = lesser_label-second p.last (from_here p.last (tested_ahead f.hopeless p) tries) (from_here-from p.last (tested_ahead f.hopeless p) tries above.tested)

-- ---- variants

pub filter-found : (accepts : List ℕ → Bool) (cs : List (List ℕ)) (before : ℕ) (v : List ℕ) → slice_get cs before ≡ Some v → accepts v ≡ true → AllByRecursion (λ u. accepts u ≡ false) (take before cs)
    → filter accepts cs ≡ v ∷ filter accepts (drop (suc before) cs)
filter-found accepts [] before v at accepted none = cc
filter-found accepts (c ∷ cs) zero v at accepted none =
    let same : c ≡ v = cc in
    ap (λ (b : Bool). if b then c ∷ filter accepts cs else filter accepts cs) (ap accepts same ∙ accepted) ∙ ap (λ x. x ∷ filter accepts cs) same
filter-found accepts (c ∷ cs) (suc before) v at accepted none =
    ap (λ (b : Bool). if b then c ∷ filter accepts cs else filter accepts cs) none.0 ∙ filter-found accepts cs before v at accepted none.1

pub filter-after : (accepts : List ℕ → Bool) (cs : List (List ℕ)) (k : ℕ) → AllByRecursion (λ u. accepts u ≡ false) (take k cs) → filter accepts cs ≡ filter accepts (drop k cs)
filter-after accepts cs zero none = refl
filter-after accepts [] (suc k) none = refl
filter-after accepts (c ∷ cs) (suc k) none =
    ap (λ (b : Bool). if b then c ∷ filter accepts cs else filter accepts cs) none.0 ∙ filter-after accepts cs k none.1
