-- Rules as sequences of items: a whole-label rule, or a context.
use Rattle.std.proofs.Common.{◌≡◌, ℕ, ◌+◌, ◌≤◌, inl, inr, Bool, true, false, ◌||◌, ◌&&◌, not, List, [], ◌∷◌, length, Option, Some, None, refl, ap, sym, subst, ◌∙◌, if◌then◌else◌, arith}
use Rattle.std.specs.Prelude.{◌↔◌}
use Rattle.std.specs.List.{list_all}
use Rattle.label_patterns.specs.Matches.{Matches, Rounds, Seen, no_round, one_more}
use Rattle.label_patterns.specs.Patterns.{Pattern, Point, Set, Any, Start, End, Anchor, Group, Optional, Many, Then, Either}
use Rattle.label_patterns.specs.Rules.{branches, is_anchor, is_context, is_context_rule, After, Before, BeginsAfter, EndsBefore}
use Rattle.lgr_text.specs.PartMatches.{Place}
use Rattle.lgr_text.specs.inner.Items.{anchors, in_sequence, is_item, ItemMatches, ItemsMatch}
use Rattle.lgr_text.proofs.ItemLemmas.{item-is, sequence-is}

-- ---- which patterns are those of context rules

pub both-left : (a b : Bool) → (a && b) ≡ true → a ≡ true
both-left true b e = refl
both-left false b e = absurd (cc)

pub both-right : (a b : Bool) → (a && b) ≡ true → b ≡ true
both-right true b e = e
both-right false b e = absurd (cc)

-- an item is a context where it is the anchor
item-context : (p : Pattern) → is_item p ≡ true → is_context p ≡ is_anchor p
item-context (Point c) e = refl
item-context (Set n) e = refl
item-context Any e = refl
item-context Start e = refl
item-context End e = refl
item-context Anchor e = refl
item-context (Group p) e = refl
item-context (Optional p) e = refl
item-context (Many p) e = refl
item-context (Then p q) e = absurd (cc)
item-context (Either p q) e = absurd (cc)

item-rule : (p : Pattern) → is_item p ≡ true → is_context_rule p ≡ is_context p
item-rule (Point c) e = refl
item-rule (Set n) e = refl
item-rule Any e = refl
item-rule Start e = refl
item-rule End e = refl
item-rule Anchor e = refl
item-rule (Group p) e = refl
item-rule (Optional p) e = refl
item-rule (Many p) e = refl
item-rule (Then p q) e = absurd (cc)
item-rule (Either p q) e = absurd (cc)

-- ---- no anchor

first-none : (b : Bool) (n : ℕ) → (if b then 1 else 0) + n ≡ 0 → b ≡ false
first-none true n e = absurd (omega (arith, e))
first-none false n e = refl

rest-none : (b : Bool) (n : ℕ) → (if b then 1 else 0) + n ≡ 0 → n ≡ 0
rest-none true n e = absurd (omega (arith, e))
rest-none false n e = omega (arith, e)

none-context : (ps : List Pattern) → list_all is_item ps ≡ true → anchors ps ≡ 0 → is_context (in_sequence ps) ≡ false
none-context [] flat none = refl
none-context (p ∷ []) flat none = item-context p (both-left (is_item p) true flat) ∙ first-none (is_anchor p) 0 none
none-context (p ∷ q ∷ ps) flat none =
    ap (λ b. b || is_context (in_sequence (q ∷ ps))) (first-none (is_anchor p) (anchors (q ∷ ps)) none)
    ∙ none-context (q ∷ ps) (both-right (is_item p) (list_all is_item (q ∷ ps)) flat) (rest-none (is_anchor p) (anchors (q ∷ ps)) none)

sequence-rule : (ps : List Pattern) → list_all is_item ps ≡ true → is_context_rule (in_sequence ps) ≡ is_context (in_sequence ps)
sequence-rule [] flat = refl
sequence-rule (p ∷ []) flat = item-rule p (both-left (is_item p) true flat)
sequence-rule (p ∷ q ∷ ps) flat = refl

-- an item that is not the anchor is about no place
item-place : (s : Seen) (at other : Option Place) (p : Pattern) (i j : ℕ) → is_anchor p ≡ false → ItemMatches s at p i j → ItemMatches s other p i j
item-place s at other (Point c) i j none h = h
item-place s at other (Set n) i j none h = h
item-place s at other Any i j none h = h
item-place s at other Start i j none h = h
item-place s at other End i j none h = h
item-place s at other Anchor i j none h = absurd (cc)
item-place s at other (Group p) i j none h = h
item-place s at other (Optional p) i j none h = h
item-place s at other (Many p) i j none h = h
item-place s at other (Then p q) i j none h = h
item-place s at other (Either p q) i j none h = h

pub items-place : (s : Seen) (at other : Option Place) (ps : List Pattern) (i j : ℕ) → anchors ps ≡ 0 → ItemsMatch s at ps i j → ItemsMatch s other ps i j
items-place s at other [] i j none h = h
items-place s at other (p ∷ ps) i j none h =
    (h.0, item-place s at other p i h.0 (first-none (is_anchor p) (anchors ps) none) h.1, items-place s at other ps h.0 j (rest-none (is_anchor p) (anchors ps) none) h.2)

-- ---- one anchor

anchor-is : (p : Pattern) → is_anchor p ≡ true → p ≡ Anchor
anchor-is (Point c) e = absurd (cc)
anchor-is (Set n) e = absurd (cc)
anchor-is Any e = absurd (cc)
anchor-is Start e = absurd (cc)
anchor-is End e = absurd (cc)
anchor-is Anchor e = refl
anchor-is (Group p) e = absurd (cc)
anchor-is (Optional p) e = absurd (cc)
anchor-is (Many p) e = absurd (cc)
anchor-is (Then p q) e = absurd (cc)
anchor-is (Either p q) e = absurd (cc)

rounds-rise : (R : ℕ → ℕ → Type 0) → ((i j : ℕ) → R i j → i ≤ j) → (i j : ℕ) → Rounds R i j → i ≤ j
rounds-rise R rise i _ no_round = omega arith
rounds-rise R rise i _ (one_more k j rounds step) =
    let a = rounds-rise R rise i k rounds in let b = rise k j step in omega (arith, a, b)

matches-rise : (s : Seen) (p : Pattern) (i j : ℕ) → Matches s p i j → i ≤ j
matches-rise s (Point c) i j h = omega (arith, h.1)
matches-rise s (Set n) i j h = omega (arith, h.1)
matches-rise s Any i j h = omega (arith, h.1)
matches-rise s Start i j h = omega (arith, h.0, h.1)
matches-rise s End i j h = omega (arith, h.0, h.1)
matches-rise s Anchor i j h = absurd h
matches-rise s (Group p) i j h = matches-rise s p i j h
matches-rise s (Optional p) i j h = elim h [ inl e ↦ omega (arith, e) | inr k ↦ matches-rise s p i j k ]
matches-rise s (Many p) i j h = rounds-rise (Matches s p) (matches-rise s p) i j h
matches-rise s (Then p q) i j h = let a = matches-rise s p i h.0 h.1 in let b = matches-rise s q h.0 j h.2 in omega (arith, a, b)
matches-rise s (Either p q) i j h = elim h [ inl k ↦ matches-rise s p i j k | inr k ↦ matches-rise s q i j k ]

before-rises : (s : Seen) (p : Pattern) (k i : ℕ) → Before s p k i → k ≤ i
before-rises s Anchor k i h = omega (arith, h)
before-rises s (Then p q) k i h = elim h [
  | inl here ↦ omega (arith, here.1)
  | inr more ↦ (let a = matches-rise s p k more.0 more.1 in let b = before-rises s q more.0 i more.2 in omega (arith, a, b))
]
before-rises s (Point c) k i h = absurd h
before-rises s (Set n) k i h = absurd h
before-rises s Any k i h = absurd h
before-rises s Start k i h = absurd h
before-rises s End k i h = absurd h
before-rises s (Group p) k i h = absurd h
before-rises s (Optional p) k i h = absurd h
before-rises s (Many p) k i h = absurd h
before-rises s (Either p q) k i h = absurd h

-- the place for which the anchor stands
abbrev pub place : ℕ → ℕ → Option Place
place i j = Some (record { start = i; end = j })

-- items that match with the anchor there match before and after that place
around : (s : Seen) (ps : List Pattern) (i j k m : ℕ) → anchors ps ≡ 1 → ItemsMatch s (place i j) ps k m
    → Before s (in_sequence ps) k i × After s (in_sequence ps) j m
around s [] i j k m one h = absurd (omega (arith, one))
around s (p ∷ []) i j k m one h = around-last (is_anchor p) refl
  where
    around-last : (b : Bool) → is_anchor p ≡ b → Before s p k i × After s p j m
    around-last true e =
        let is = anchor-is p e in
        let at = subst (λ q. ItemMatches s (place i j) q k h.0) is h.1 in
        subst (λ q. Before s q k i × After s q j m) (sym is) (sym at.0, h.2 ∙ at.1)
    around-last false e = absurd (let z : (if is_anchor p then 1 else 0) + 0 ≡ 0 = ap (λ b. (if b then 1 else 0) + 0) e in omega (arith, one, z))
around s (p ∷ q ∷ ps) i j k m one h = around-more (is_anchor p) refl (around s (q ∷ ps) i j h.0 m)
  where
    around-more : (b : Bool) → is_anchor p ≡ b
        → (anchors (q ∷ ps) ≡ 1 → ItemsMatch s (place i j) (q ∷ ps) h.0 m → Before s (in_sequence (q ∷ ps)) h.0 i × After s (in_sequence (q ∷ ps)) j m)
        → Before s (Then p (in_sequence (q ∷ ps))) k i × After s (Then p (in_sequence (q ∷ ps))) j m
    around-more true e next =
        let is = anchor-is p e in
        let at = subst (λ r. ItemMatches s (place i j) r k h.0) is h.1 in
        let n : (if is_anchor p then 1 else 0) + anchors (q ∷ ps) ≡ 1 + anchors (q ∷ ps) = ap (λ b. (if b then 1 else 0) + anchors (q ∷ ps)) e in
        let none : anchors (q ∷ ps) ≡ 0 = omega (arith, one, n) in
        let rest = (sequence-is s (q ∷ ps) h.0 m).1 (items-place s (place i j) None (q ∷ ps) h.0 m none h.2) in
        (inl (e, sym at.0), inl (e, subst (λ x. Matches s (in_sequence (q ∷ ps)) x m) at.1 rest))
    around-more false e next =
        let n : (if is_anchor p then 1 else 0) + anchors (q ∷ ps) ≡ 0 + anchors (q ∷ ps) = ap (λ b. (if b then 1 else 0) + anchors (q ∷ ps)) e in
        let both = next (omega (arith, one, n)) h.2 in
        let item = (item-is s p k h.0).0 (item-place s (place i j) None p k h.0 e h.1) in
        (inr (h.0, item, both.0), inr (ap not e, both.1))

-- and the other way
together : (s : Seen) (ps : List Pattern) (i j k m : ℕ) → anchors ps ≡ 1 → Before s (in_sequence ps) k i → After s (in_sequence ps) j m
    → ItemsMatch s (place i j) ps k m
together s [] i j k m one h g = absurd (omega (arith, one))
together s (p ∷ []) i j k m one h g = together-last (is_anchor p) refl
  where
    together-last : (b : Bool) → is_anchor p ≡ b → ItemsMatch s (place i j) (p ∷ []) k m
    together-last true e =
        let is = anchor-is p e in
        let before : i ≡ k = subst (λ q. Before s q k i) is h in
        let after : m ≡ j = subst (λ q. After s q j m) is g in
        subst (λ q. ItemsMatch s (place i j) (q ∷ []) k m) (sym is) (j, (sym before, refl), after)
    together-last false e = absurd (let z : (if is_anchor p then 1 else 0) + 0 ≡ 0 = ap (λ b. (if b then 1 else 0) + 0) e in omega (arith, one, z))
together s (p ∷ q ∷ ps) i j k m one h g = together-more (is_anchor p) refl (λ n. together s (q ∷ ps) i j n m)
  where
    together-more : (b : Bool) → is_anchor p ≡ b
        → ((n : ℕ) → anchors (q ∷ ps) ≡ 1 → Before s (in_sequence (q ∷ ps)) n i → After s (in_sequence (q ∷ ps)) j m → ItemsMatch s (place i j) (q ∷ ps) n m)
        → ItemsMatch s (place i j) (p ∷ q ∷ ps) k m
    together-more true e next =
        let is = anchor-is p e in
        let n : (if is_anchor p then 1 else 0) + anchors (q ∷ ps) ≡ 1 + anchors (q ∷ ps) = ap (λ b. (if b then 1 else 0) + anchors (q ∷ ps)) e in
        let none : anchors (q ∷ ps) ≡ 0 = omega (arith, one, n) in
        let before : i ≡ k = elim h [ inl here ↦ here.1 | inr more ↦ absurd (subst (λ r. Matches s r k more.0) is more.1) ] in
        let after : Matches s (in_sequence (q ∷ ps)) j m = elim g [ inl here ↦ here.1 | inr more ↦ absurd (let f = ap not e in let t = more.0 in cc) ] in
        let rest = items-place s None (place i j) (q ∷ ps) j m none ((sequence-is s (q ∷ ps) j m).0 after) in
        (j, subst (λ r. ItemMatches s (place i j) r k j) (sym is) (sym before, refl), rest)
    together-more false e next =
        let n : (if is_anchor p then 1 else 0) + anchors (q ∷ ps) ≡ 0 + anchors (q ∷ ps) = ap (λ b. (if b then 1 else 0) + anchors (q ∷ ps)) e in
        let one_left : anchors (q ∷ ps) ≡ 1 = omega (arith, one, n) in
        let before : (x : ℕ) × Matches s p k x × Before s (in_sequence (q ∷ ps)) x i = elim h [ inl here ↦ absurd (let t = here.0 in cc) | inr more ↦ more ] in
        let after : After s (in_sequence (q ∷ ps)) j m = elim g [ inl here ↦ absurd (let t = here.0 in cc) | inr more ↦ more.1 ] in
        (before.0, item-place s None (place i j) p k before.0 e ((item-is s p k before.0).1 before.1), next before.0 one_left before.2 after)

-- items with an anchor are a context
one-context : (ps : List Pattern) → list_all is_item ps ≡ true → anchors ps ≡ 1 → is_context (in_sequence ps) ≡ true
one-context [] flat one = absurd (omega (arith, one))
one-context (p ∷ []) flat one = item-context p (both-left (is_item p) true flat) ∙ one-anchor (is_anchor p) refl
  where
    one-anchor : (b : Bool) → is_anchor p ≡ b → is_anchor p ≡ true
    one-anchor true e = e
    one-anchor false e = absurd (let z : (if is_anchor p then 1 else 0) + 0 ≡ 0 = ap (λ b. (if b then 1 else 0) + 0) e in omega (arith, one, z))
one-context (p ∷ q ∷ ps) flat one = later (is_anchor p) refl (one-context (q ∷ ps) (both-right (is_item p) (list_all is_item (q ∷ ps)) flat))
  where
    later : (b : Bool) → is_anchor p ≡ b → (anchors (q ∷ ps) ≡ 1 → is_context (in_sequence (q ∷ ps)) ≡ true) → (is_anchor p || is_context (in_sequence (q ∷ ps))) ≡ true
    later true e next = ap (λ b. b || is_context (in_sequence (q ∷ ps))) e
    later false e next =
        let n : (if is_anchor p then 1 else 0) + anchors (q ∷ ps) ≡ 0 + anchors (q ∷ ps) = ap (λ b. (if b then 1 else 0) + anchors (q ∷ ps)) e in
        ap (λ b. b || is_context (in_sequence (q ∷ ps))) e ∙ next (omega (arith, one, n))

item-branch : (p : Pattern) → is_item p ≡ true → branches p ≡ p ∷ []
item-branch (Point c) e = refl
item-branch (Set n) e = refl
item-branch Any e = refl
item-branch Start e = refl
item-branch End e = refl
item-branch Anchor e = refl
item-branch (Group p) e = refl
item-branch (Optional p) e = refl
item-branch (Many p) e = refl
item-branch (Then p q) e = absurd (cc)
item-branch (Either p q) e = absurd (cc)

-- a sequence has one branch
pub one-branch : (ps : List Pattern) → list_all is_item ps ≡ true → branches (in_sequence ps) ≡ in_sequence ps ∷ []
one-branch [] flat = refl
one-branch (p ∷ []) flat = item-branch p (both-left (is_item p) true flat)
one-branch (p ∷ q ∷ ps) flat = refl

-- ---- rules

-- a sequence by itself, or as the first of several branches
pub row-rule : (ps : List Pattern) → list_all is_item ps ≡ true → is_context_rule (in_sequence ps) ≡ is_context (in_sequence ps)
row-rule = sequence-rule

pub whole-row : (ps : List Pattern) → list_all is_item ps ≡ true → anchors ps ≡ 0 → is_context_rule (in_sequence ps) ≡ false
whole-row ps flat none = sequence-rule ps flat ∙ none-context ps flat none

pub anchored-row : (ps : List Pattern) → list_all is_item ps ≡ true → anchors ps ≡ 1 → is_context_rule (in_sequence ps) ≡ true
anchored-row ps flat one = sequence-rule ps flat ∙ one-context ps flat one

-- items hold around a part of a label where they match with the anchor for that part
pub context-row : (s : Seen) (ps : List Pattern) (i j : ℕ) → anchors ps ≡ 1 → i ≤ length s.label
    → (EndsBefore s (in_sequence ps) i × BeginsAfter s (in_sequence ps) j)
    ↔ ((k : ℕ) × (m : ℕ) × (k ≤ length s.label) × ItemsMatch s (place i j) ps k m)
context-row s ps i j one within = (
  λ both.
      let rises = before-rises s (in_sequence ps) both.0.0 i both.0.1 in
      (both.0.0, both.1.0, omega (arith, rises, within), together s ps i j both.0.0 both.1.0 one both.0.1 both.1.1),
  λ h.
      let both = around s ps i j h.0 h.1 one h.3 in
      ((h.0, both.0), (h.1, both.1)),
)
