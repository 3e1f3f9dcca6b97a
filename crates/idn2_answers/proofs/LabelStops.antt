-- The stop of a listing: the lesser of two labels, and the labels up to one.
use Rattle.std.proofs.Common.{◌≡◌, ◌⊎◌, inl, inr, ℕ, zero, suc, List, [], ◌∷◌, Bool, true, false, Option, Some, None, IfSome, Ordering, refl, ap, subst, ◌∙◌, if◌then◌else◌}
use Rattle.std.specs.declared.cmp.Ordering.TheVariants.{Less, Equal, Greater}
use Rattle.std.specs.Ordering.{is_le, MatchOrdering}
use Rattle.std.specs.List.{AllByRecursion, filter, slice_get}
use Rattle.variant_list.specs.Labels.{IsBelow, label_cmp}
use Rattle.variant_list.specs.Jumps.{IsFrom}
use Rattle.variant_list.proofs.OrderLemmas.{below_itself, below_both, ranked_labels}
use Rattle.idn2_answers.specs.Listings.{lesser_label, up_to}

-- ---- comparisons

pub is_le-below : (v w : List ℕ) → (v ≡ w) ⊎ IsBelow v w → is_le (label_cmp v w) ≡ true
is_le-below v w h = by_order (label_cmp v w) (ranked_labels v w) h
  where
    by_order : (o : Ordering) → MatchOrdering o (IsBelow v w) (v ≡ w) (IsBelow w v) → (v ≡ w) ⊎ IsBelow v w → is_le o ≡ true
    by_order Less r h = refl
    by_order Equal r h = refl
    by_order Greater r (inl e) = absurd (below_itself w (subst (λ (x : List ℕ). IsBelow w x) e r))
    by_order Greater r (inr b) = absurd (below_both v w b r)

is_le-above : (v w : List ℕ) → IsBelow w v → is_le (label_cmp v w) ≡ false
is_le-above v w b = by_order (label_cmp v w) (ranked_labels v w)
  where
    by_order : (o : Ordering) → MatchOrdering o (IsBelow v w) (v ≡ w) (IsBelow w v) → is_le o ≡ false
    by_order Less r = absurd (below_both v w r b)
    by_order Equal r = absurd (below_itself w (subst (λ (x : List ℕ). IsBelow w x) r b))
    by_order Greater r = refl

-- ---- the lesser of two, where one is known

pub lesser_label-first : (c : List ℕ) (r : Option (List ℕ)) → IfSome r (IsFrom c) → lesser_label (Some c) r ≡ Some c
lesser_label-first c None h = refl
lesser_label-first c (Some b) h = ap (λ (t : Bool). if t then Some c else Some b) (is_le-below c b h)

pub lesser_label-second : (c : List ℕ) (r : Option (List ℕ)) → IfSome r (IsFrom c) → lesser_label r (Some c) ≡ Some c
lesser_label-second c None h = refl
lesser_label-second c (Some a) (inl e) = subst (λ (x : List ℕ). lesser_label (Some x) (Some c) ≡ Some c) e (ap (λ (t : Bool). if t then Some c else Some c) (is_le-below c c (inl refl)))
lesser_label-second c (Some a) (inr b) = ap (λ (t : Bool). if t then Some a else Some c) (is_le-above a c b)

pub lesser_label-either : (P : List ℕ → Type 0) (r s : Option (List ℕ)) → IfSome r P → IfSome s P → IfSome (lesser_label r s) P
lesser_label-either P None s h g = g
lesser_label-either P (Some a) None h g = h
lesser_label-either P (Some a) (Some b) h g = chosen (is_le (label_cmp a b))
  where
    chosen : (t : Bool) → IfSome (if t then Some a else Some b) P
    chosen true = h
    chosen false = g

-- ---- members of a rising list

pub get-above : (c : List ℕ) (vs : List (List ℕ)) (i : ℕ) → AllByRecursion (IsBelow c) vs → IfSome (slice_get vs i) (IsBelow c)
get-above c [] i h = tt
get-above c (v ∷ vs) zero h = h.0
get-above c (v ∷ vs) (suc i) h = get-above c vs i h.1

kept-above : (c d : List ℕ) (cs : List (List ℕ)) (t : Bool) → IsBelow c d → AllByRecursion (IsBelow c) cs → AllByRecursion (IsBelow c) (if t then d ∷ cs else cs)
kept-above c d cs true h g = (h, g)
kept-above c d cs false h g = g

pub filter-above : (accepts : List ℕ → Bool) (c : List ℕ) (cs : List (List ℕ)) → AllByRecursion (IsBelow c) cs → AllByRecursion (IsBelow c) (filter accepts cs)
filter-above accepts c [] h = tt
filter-above accepts c (d ∷ cs) h = kept-above c d (filter accepts cs) (accepts d) h.0 (filter-above accepts c cs h.1)

pub up_to-above : (c : List ℕ) (vs : List (List ℕ)) → AllByRecursion (IsBelow c) vs → up_to (Some c) vs ≡ []
up_to-above c [] h = refl
up_to-above c (v ∷ vs) h = ap (λ (t : Bool). if t then v ∷ up_to (Some c) vs else up_to (Some c) vs) (is_le-above v c h.0) ∙ up_to-above c vs h.1

pub up_to-first : (c : List ℕ) (vs : List (List ℕ)) → AllByRecursion (IsBelow c) vs → up_to (Some c) (c ∷ vs) ≡ c ∷ []
up_to-first c vs h =
    ap (λ (t : Bool). if t then c ∷ up_to (Some c) vs else up_to (Some c) vs) (is_le-below c c (inl refl)) ∙ ap (λ l. c ∷ l) (up_to-above c vs h)

pub up_to-later : (c : List ℕ) (vs : List (List ℕ)) (r : Option (List ℕ)) → IfSome r (IsBelow c) → up_to r (c ∷ vs) ≡ c ∷ up_to r vs
up_to-later c vs None h = refl
up_to-later c vs (Some b) h = ap (λ (t : Bool). if t then c ∷ up_to (Some b) vs else up_to (Some b) vs) (is_le-below c b (inr h))
