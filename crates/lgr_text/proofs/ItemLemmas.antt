-- Items of a pattern.
use Rattle.std.proofs.Common.{◌≡◌, ℕ, zero, suc, ◌+◌, ◌-◌, ◌≤◌, ◌⊎◌, inl, inr, true, false, List, [], ◌∷◌, ◌++◌, Option, Some, None, refl, ap, sym, subst, if◌then◌else◌, arith}
use Rattle.std.specs.Prelude.{◌↔◌}
use Rattle.std.proofs.lemmas.Bool.{cases_lt}
use Rattle.label_patterns.specs.Matches.{Matches, Seen}
use Rattle.label_patterns.specs.Patterns.{Pattern, Point, Set, Any, Start, End, Anchor, Group, Optional, Many, Then, Either}
use Rattle.lgr_text.specs.PartMatches.{Place, Repeats, IsUpTo}
use Rattle.lgr_text.specs.inner.Items.{as_atom, choice_of, copies, further_up_to, in_sequence, is_atom, ungrouped, ItemMatches, ItemsMatch}
use Rattle.lgr_text.proofs.RepeatLemmas.{repeats-map, repeats-more, repeats-less, rounds-repeat, repeats-rounds}

pub sequence-step : (ps : List Pattern) (p q : Pattern) → in_sequence ((ps ++ p ∷ []) ++ q ∷ []) ≡ in_sequence (ps ++ Then p q ∷ [])
sequence-step [] p q = refl
sequence-step (r ∷ []) p q = refl
sequence-step (r ∷ s ∷ ps) p q = ap (λ t. Then r t) (sequence-step (s ∷ ps) p q)

-- ---- one after the other

pub items-join : (seen : Seen) (at : Option Place) (ps qs : List Pattern) (i k j : ℕ) → ItemsMatch seen at ps i k → ItemsMatch seen at qs k j → ItemsMatch seen at (ps ++ qs) i j
items-join seen at [] qs i k j h r = subst (λ m. ItemsMatch seen at qs m j) h r
items-join seen at (p ∷ ps) qs i k j h r = (h.0, h.1, items-join seen at ps qs h.0 k j h.2 r)

pub items-split : (seen : Seen) (at : Option Place) (ps qs : List Pattern) (i j : ℕ) → ItemsMatch seen at (ps ++ qs) i j → (k : ℕ) × ItemsMatch seen at ps i k × ItemsMatch seen at qs k j
items-split seen at [] qs i j h = (i, refl, h)
items-split seen at (p ∷ ps) qs i j h = let rest = items-split seen at ps qs h.0 j h.2 in (rest.0, (h.0, h.1, rest.1), rest.2)

pub one-item : (seen : Seen) (at : Option Place) (p : Pattern) (i j : ℕ) → ItemsMatch seen at (p ∷ []) i j ↔ ItemMatches seen at p i j
one-item seen at p i j = (λ h. subst (λ m. ItemMatches seen at p i m) (sym h.2) h.1, λ h. (j, h, refl))

-- without an anchor an item is a pattern
pub item-is : (seen : Seen) (p : Pattern) (i j : ℕ) → ItemMatches seen None p i j ↔ Matches seen p i j
item-is seen (Point c) i j = (λ h. h, λ h. h)
item-is seen (Set n) i j = (λ h. h, λ h. h)
item-is seen Any i j = (λ h. h, λ h. h)
item-is seen Start i j = (λ h. h, λ h. h)
item-is seen End i j = (λ h. h, λ h. h)
item-is seen Anchor i j = (λ h. h, λ h. h)
item-is seen (Group p) i j = (λ h. h, λ h. h)
item-is seen (Optional p) i j = (λ h. h, λ h. h)
item-is seen (Many p) i j = (λ h. h, λ h. h)
item-is seen (Then p q) i j = (λ h. h, λ h. h)
item-is seen (Either p q) i j = (λ h. h, λ h. h)

pub sequence-is : (seen : Seen) (ps : List Pattern) (i j : ℕ) → Matches seen (in_sequence ps) i j ↔ ItemsMatch seen None ps i j
sequence-is seen [] i j = (
  λ h. elim h [ inl e ↦ e | inr never ↦ absurd (omega (arith, never.1.1, never.2.0)) ],
  λ h. inl h,
)
sequence-is seen (p ∷ []) i j = (
  λ h. (one-item seen None p i j).1 ((item-is seen p i j).1 h),
  λ h. (item-is seen p i j).0 ((one-item seen None p i j).0 h),
)
sequence-is seen (p ∷ q ∷ ps) i j = (
  λ h. (h.0, (item-is seen p i h.0).1 h.1, (sequence-is seen (q ∷ ps) h.0 j).0 h.2),
  λ h. (h.0, (item-is seen p i h.0).0 h.1, (sequence-is seen (q ∷ ps) h.0 j).1 h.2),
)

pub ungrouped-is : (seen : Seen) (p : Pattern) (i j : ℕ) → Matches seen (ungrouped p) i j ↔ Matches seen p i j
ungrouped-is seen (Group p) i j = (λ h. h, λ h. h)
ungrouped-is seen p i j = (λ h. h, λ h. h)

pub choice-is : (seen : Seen) (at : Option Place) (ps qs : List Pattern) (i j : ℕ) → ItemsMatch seen at (choice_of ps qs ∷ []) i j ↔ (ItemsMatch seen None ps i j ⊎ ItemsMatch seen None qs i j)
choice-is seen at ps qs i j =
    let right = in_sequence qs in (
      λ h. elim ((one-item seen at (choice_of ps qs) i j).0 h) [
        | inl l ↦ inl ((sequence-is seen ps i j).0 l)
        | inr r ↦ inr ((sequence-is seen qs i j).0 ((ungrouped-is seen right i j).0 r))
      ],
      λ h. (one-item seen at (choice_of ps qs) i j).1 (elim h [
        | inl l ↦ inl ((sequence-is seen ps i j).1 l)
        | inr r ↦ inr ((ungrouped-is seen right i j).1 ((sequence-is seen qs i j).1 r))
      ]),
    )

-- ---- so many times

pub atom-is : (seen : Seen) (ps : List Pattern) (i j : ℕ) → Matches seen (as_atom ps) i j ↔ ItemsMatch seen None ps i j
atom-is seen [] i j = sequence-is seen [] i j
atom-is seen (p ∷ []) i j =
    elim (is_atom p) as (λ b. Matches seen (if b then p else Group p) i j ↔ ItemsMatch seen None (p ∷ []) i j) [
      | true ↦ sequence-is seen (p ∷ []) i j
      | false ↦ sequence-is seen (p ∷ []) i j
    ]
atom-is seen (p ∷ q ∷ ps) i j = sequence-is seen (p ∷ q ∷ ps) i j

pub copies-are : (seen : Seen) (at : Option Place) (ps : List Pattern) (n i j : ℕ) → ItemsMatch seen at (copies n ps) i j ↔ Repeats (ItemsMatch seen at ps) n i j
copies-are seen at ps zero i j = (λ h. h, λ h. h)
copies-are seen at ps (suc n) i j = (
  λ h.
      let both = items-split seen at (copies n ps) ps i j h in
      repeats-more (ItemsMatch seen at ps) n i both.0 j ((copies-are seen at ps n i both.0).0 both.1) both.2,
  λ h.
      let both = repeats-less (ItemsMatch seen at ps) n i j h in
      items-join seen at (copies n ps) ps i both.0 j ((copies-are seen at ps n i both.0).1 both.1) both.2,
)

-- so many optional ones
pub optional-from : (seen : Seen) (at : Option Place) (p : Pattern) (d i j : ℕ) → ItemsMatch seen at (copies d (Optional p ∷ [])) i j → (n : ℕ) × (n ≤ d) × Repeats (Matches seen p) n i j
optional-from seen at p zero i j h = (zero, omega arith, h)
optional-from seen at p (suc d) i j h =
    let both = items-split seen at (copies d (Optional p ∷ [])) (Optional p ∷ []) i j h in
    let before = optional-from seen at p d i both.0 both.1 in
    elim ((one-item seen at (Optional p) both.0 j).0 both.2) [
      | inl e ↦ (before.0, omega (arith, before.1), subst (λ m. Repeats (Matches seen p) before.0 i m) (sym e) before.2)
      | inr one ↦ (suc before.0, omega (arith, before.1), repeats-more (Matches seen p) before.0 i both.0 j before.2 one)
    ]

pub optional-to : (seen : Seen) (at : Option Place) (p : Pattern) (d n i j : ℕ) → n ≤ d → Repeats (Matches seen p) n i j → ItemsMatch seen at (copies d (Optional p ∷ [])) i j
optional-to seen at p zero zero i j le h = h
optional-to seen at p zero (suc n) i j le h = absurd (omega (arith, le))
optional-to seen at p (suc d) n i j le h = elim (cases_lt d n) [
  | inl over ↦
      (let e : n ≡ suc d = omega (arith, le, over) in
      let all : Repeats (Matches seen p) (suc d) i j = subst (λ m. Repeats (Matches seen p) m i j) e h in
      let both = repeats-less (Matches seen p) d i j all in
      items-join seen at (copies d (Optional p ∷ [])) (Optional p ∷ []) i both.0 j
      (optional-to seen at p d d i both.0 (omega arith) both.1) ((one-item seen at (Optional p) both.0 j).1 (inr both.2)))
  | inr up_to ↦
      items-join seen at (copies d (Optional p ∷ [])) (Optional p ∷ []) i j j (optional-to seen at p d n i j up_to h)
      ((one-item seen at (Optional p) j j).1 (inl refl))
]

-- as many as there may be above the least
pub further-are : (seen : Seen) (at : Option Place) (ps : List Pattern) (least : ℕ) (most : Option ℕ) (i j : ℕ) → IsUpTo least most
    → ItemsMatch seen at (further_up_to most least ps) i j ↔ ((m : ℕ) × IsUpTo (least + m) most × Repeats (ItemsMatch seen None ps) m i j)
further-are seen at ps least None i j fits = (
  λ h.
      let rounds = rounds-repeat (Matches seen (as_atom ps)) i j ((one-item seen at (Many (as_atom ps)) i j).0 h) in
      (rounds.0, tt, repeats-map (Matches seen (as_atom ps)) (ItemsMatch seen None ps) (λ k m. (atom-is seen ps k m).0) rounds.0 i j rounds.1),
  λ h. (one-item seen at (Many (as_atom ps)) i j).1
      (repeats-rounds (Matches seen (as_atom ps)) h.0 i j
      (repeats-map (ItemsMatch seen None ps) (Matches seen (as_atom ps)) (λ k m. (atom-is seen ps k m).1) h.0 i j h.2)),
)
further-are seen at ps least (Some most) i j fits = (
  λ h.
      let found = optional-from seen at (as_atom ps) (most - least) i j h in
      (found.0, omega (arith, found.1, fits), repeats-map (Matches seen (as_atom ps)) (ItemsMatch seen None ps) (λ k m. (atom-is seen ps k m).0) found.0 i j found.2),
  λ h. optional-to seen at (as_atom ps) (most - least) h.0 i j (omega (arith, h.1))
      (repeats-map (ItemsMatch seen None ps) (Matches seen (as_atom ps)) (λ k m. (atom-is seen ps k m).1) h.0 i j h.2),
)
