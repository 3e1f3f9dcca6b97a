-- What stands before and after a place.
use Rattle.std.proofs.Common.{◌≡◌, ℕ, ◌≤◌, inl, inr, true, false, not, List, ◌++◌, length, refl, sym, ◌∙◌, arith}
use Rattle.std.specs.Prelude.{◌↔◌}
use Rattle.label_patterns.specs.declared.span.Span.{Span}
use Rattle.label_patterns.specs.Laws.{seen, IgnoresEndBefore, BeforeStays}
use Rattle.label_patterns.specs.Patterns.{Pattern, Point, Set, Any, Start, End, Anchor, Group, Optional, Many, Then, Either}
use Rattle.label_patterns.specs.Places.{Has, AreEnds, AreStarts}
use Rattle.label_patterns.specs.Matches.{Seen, Matches}
use Rattle.label_patterns.specs.Rules.{is_anchor, Before, EndsBefore, BeginsAfter}
use Rattle.label_patterns.proofs.LawLemmas.{parts, stay}

before-parts : (p : Pattern) (s : Seen) (k i : ℕ) → Before s p k i → (k ≤ i) × (k ≤ length s.label → i ≤ length s.label)
before-parts (Point c) s k i h = absurd h
before-parts (Set n) s k i h = absurd h
before-parts Any s k i h = absurd h
before-parts Start s k i h = absurd h
before-parts End s k i h = absurd h
before-parts Anchor s k i h = (omega (arith, h), λ l. omega (arith, h, l))
before-parts (Group p) s k i h = absurd h
before-parts (Optional p) s k i h = absurd h
before-parts (Many p) s k i h = absurd h
before-parts (Then p q) s k i h = elim h [
  | inl b ↦ (omega (arith, b.1), λ l. omega (arith, b.1, l))
  | inr b ↦ (
      let first = parts p s k b.0 b.1 in
      let rest = before-parts q s b.0 i b.2 in
      let begins = first.0 in
      let goes_on = rest.0 in
      (omega (arith, begins, goes_on), λ l. rest.1 (first.1 l))
      )
]
before-parts (Either p q) s k i h = absurd h

-- with all places as the start
pub from-all : (p : Pattern) (s : Seen) (len all found : ℕ) → len ≡ length s.label → ((q : ℕ) → Has all q ↔ (q ≤ len))
    → ((i : ℕ) → Has found i ↔ ((k : ℕ) × Has all k × Before s p k i)) → (i : ℕ) → Has found i ↔ ((i ≤ length s.label) × EndsBefore s p i)
from-all p s len all found is all_are found_are i = (
  λ h.
      let b = (found_are i).0 h in
      let within = (all_are b.0).0 b.1 in
      ((before-parts p s b.0 i b.2).1 (omega (arith, within, is)), (b.0, b.2)),
  λ h. (found_are i).1 (h.1.0, (all_are h.1.0).1 (let b = (before-parts p s h.1.0 i h.1.1).0 in let l = h.0 in omega (arith, b, l, is)), h.1.1),
)

-- an item before '_'
pub item-before : (p q : Pattern) (s : Seen) (places ends found : ℕ) → is_anchor p ≡ false → AreEnds (Matches s p) places ends
    → ((i : ℕ) → Has found i ↔ ((k : ℕ) × Has ends k × Before s q k i)) → (i : ℕ) → Has found i ↔ ((k : ℕ) × Has places k × Before s (Then p q) k i)
item-before p q s places ends found other are found_are i = (
  λ h.
      let b = (found_are i).0 h in
      let e = (are b.0).0 b.1 in
      (e.0, e.1, inr (b.0, e.2, b.2)),
  λ h. elim h.2 [
    | inl place ↦ absurd (let e : true ≡ false = sym place.0 ∙ other in cc)
    | inr b ↦ (found_are i).1 (b.0, (are b.0).1 (h.0, h.1, b.1), b.2)
  ],
)

-- what stands after '_' at the end of a context: nothing
pub none-after : (s : Seen) (len all : ℕ) → len ≡ length s.label → ((q : ℕ) → Has all q ↔ (q ≤ len)) → (j : ℕ)
    → Has all j ↔ ((j ≤ length s.label) × BeginsAfter s Anchor j)
none-after s len all is are j = (
  λ h. (let l = (are j).0 h in omega (arith, is, l), (j, refl)),
  λ h. (are j).1 (let l = h.0 in omega (arith, is, l)),
)

-- the items after it
pub items-after : (p q : Pattern) (s : Seen) (len all found : ℕ) → is_anchor p ≡ true → len ≡ length s.label → ((i : ℕ) → Has all i ↔ (i ≤ len))
    → AreStarts (Matches s q) all found → (j : ℕ) → Has found j ↔ ((j ≤ length s.label) × BeginsAfter s (Then p q) j)
items-after p q s len all found place is all_are are j = (
  λ h.
      let b = (are j).0 h in
      let in_order = (parts q s j b.0 b.2).0 in
      let within = (all_are b.0).0 b.1 in
      (omega (arith, in_order, within, is), (b.0, inl (place, b.2))),
  λ h. elim h.1.1 [
    | inl b ↦ (are j).1 (h.1.0, (all_are h.1.0).1 (let k = (parts q s j h.1.0 b.1).1 h.0 in omega (arith, k, is)), b.1)
    | inr b ↦ absurd (let e : not (is_anchor p) ≡ true = b.0 in cc)
  ],
)

-- an item before it is passed over
pub item-passed : (p q : Pattern) (s : Seen) (found : ℕ) → is_anchor p ≡ false
    → ((j : ℕ) → Has found j ↔ ((j ≤ length s.label) × BeginsAfter s q j)) → (j : ℕ) → Has found j ↔ ((j ≤ length s.label) × BeginsAfter s (Then p q) j)
item-passed p q s found other are j = (
  λ h. let b = (are j).0 h in (b.0, (b.1.0, inr (let e : not (is_anchor p) ≡ true = cc in e, b.1.1))),
  λ h. elim h.1.1 [
    | inl b ↦ absurd (let e : true ≡ false = sym b.0 ∙ other in cc)
    | inr b ↦ (are j).1 (h.0, (h.1.0, b.1))
  ],
)

pub anchor-alone : (p : Pattern) (s : Seen) (i j : ℕ) → is_anchor p ≡ true → Matches s p i j → ⊥
anchor-alone (Point c) s i j e h = cc
anchor-alone (Set n) s i j e h = cc
anchor-alone Any s i j e h = cc
anchor-alone Start s i j e h = cc
anchor-alone End s i j e h = cc
anchor-alone Anchor s i j e h = h
anchor-alone (Group p) s i j e h = cc
anchor-alone (Optional p) s i j e h = cc
anchor-alone (Many p) s i j e h = cc
anchor-alone (Then p q) s i j e h = cc
anchor-alone (Either p q) s i j e h = cc

-- one way, and the way back
abbrev Stays : Pattern → List (List Span) → List ℕ → List ℕ → ℕ → ℕ → Type 0
Stays p sets label more k i = Before (seen sets label) p k i ↔ Before (seen sets (label ++ more)) p k i

before-stays : (p : Pattern) (sets : List (List Span)) (label more : List ℕ) (k i : ℕ) → IgnoresEndBefore p → i ≤ length label → Stays p sets label more k i
before-stays (Point c) sets label more k i none l = (λ h. h, λ h. h)
before-stays (Set n) sets label more k i none l = (λ h. h, λ h. h)
before-stays Any sets label more k i none l = (λ h. h, λ h. h)
before-stays Start sets label more k i none l = (λ h. h, λ h. h)
before-stays End sets label more k i none l = (λ h. h, λ h. h)
before-stays Anchor sets label more k i none l = (λ h. h, λ h. h)
before-stays (Group p) sets label more k i none l = (λ h. h, λ h. h)
before-stays (Optional p) sets label more k i none l = (λ h. h, λ h. h)
before-stays (Many p) sets label more k i none l = (λ h. h, λ h. h)
before-stays (Then p q) sets label more k i none l = (
  λ h. elim h [
    | inl b ↦ inl b
    | inr b ↦ elim none [
      | inl place ↦ absurd (anchor-alone p (seen sets label) k b.0 place b.1)
      | inr less ↦ (let m : b.0 ≤ i = (before-parts q (seen sets label) b.0 i b.2).0 in inr (b.0, (stay p sets label more k b.0 less.0 (omega (arith, m, l))).0 b.1, (before-stays q sets label more b.0 i less.1 l).0 b.2))
    ]
  ],
  λ h. elim h [
    | inl b ↦ inl b
    | inr b ↦ elim none [
      | inl place ↦ absurd (anchor-alone p (seen sets (label ++ more)) k b.0 place b.1)
      | inr less ↦ (let m : b.0 ≤ i = (before-parts q (seen sets (label ++ more)) b.0 i b.2).0 in inr (b.0, (stay p sets label more k b.0 less.0 (omega (arith, m, l))).1 b.1, (before-stays q sets label more b.0 i less.1 l).1 b.2))
    ]
  ],
)
before-stays (Either p q) sets label more k i none l = (λ h. h, λ h. h)

pub stays-before : BeforeStays
stays-before p sets label more i none l = (
  λ h. (h.0, (before-stays p sets label more h.0 i none l).0 h.1),
  λ h. (h.0, (before-stays p sets label more h.0 i none l).1 h.1),
)
