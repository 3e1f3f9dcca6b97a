-- The tests that compute are true where the definitions hold.
use Rattle.std.proofs.Common.{◌≡◌, ℕ, zero, suc, ◌+◌, ◌-◌, ◌*◌, ◌/◌, ◌%◌, ◌^◌, ◌<◌, ◌≤◌, ◌⊎◌, inl, inr, Bool, true, false, not, cond, ◌&&◌, ◌||◌, eqb, List, [], ◌∷◌, length, get_or, refl, sym, ap, subst, ◌∙◌, arith, bit_and, bit_or}
use Rattle.std.specs.Int.{bit_at}
use Rattle.std.specs.Prelude.{◌↔◌, IsTrue, Option, Some, None}
use Rattle.std.specs.List.{list_any}
use Rattle.std.proofs.lemmas.Bool.{cases_order, eqb-true, eq-eqb}
use Rattle.std.proofs.lemmas.Nat.Bits.{bit_at_cat_low, bit_at_cat_high, bit_at-pow_same}
use Rattle.label_patterns.specs.declared.condition.Condition.{Condition}
use Rattle.label_patterns.specs.declared.condition.ConditionKind.{ConditionKind}
use Rattle.label_patterns.specs.declared.condition.ConditionKind.TheVariants.{When, Unless}
use Rattle.label_patterns.specs.Barring.{ends_in_anchor, OneEndsBefore, OneIsDone, IsBarredBy, IsBarred}
use Rattle.label_patterns.specs.Conditions.{rule_at, IsAsked, ConditionHolds}
use Rattle.label_patterns.specs.Laws.{IgnoresEnd}
use Rattle.label_patterns.specs.TestLaws.{TestsAgree}
use Rattle.label_patterns.specs.Matches.{Seen, Matches, MatchesOne, MatchesAt}
use Rattle.label_patterns.specs.Patterns.{Pattern, Point, Set, Any, Start, End, Anchor, Group, Optional, Many, Then, Either}
use Rattle.label_patterns.specs.Places.{Has, AreEnds, StandsAt, AreThePlaces}
use Rattle.label_patterns.specs.Rules.{branches, is_anchor, is_context_rule, Before, EndsBefore, BeginsAfter, HoldsAs, HoldsInOne, Holds, Occurs}
use Rattle.label_patterns.specs.Sets.{is_in}
use Rattle.label_patterns.specs.Tests.{has_place, places_of, every_place, ends_from, occurs_in, before_from, ends_before, begins_after, rule_holds, is_asked, condition_holds, is_barred_by, condition_barred, ignores_end}
use Rattle.label_patterns.proofs.ContextLemmas.{from-all, item-before, anchor-alone}
use Rattle.label_patterns.proofs.DemandLemmas.{some-from, some-to}
use Rattle.label_patterns.proofs.GrownLemmas.{IsWithin, or-parts, grown-ends}
use Rattle.label_patterns.proofs.LawLemmas.{parts}
use Rattle.label_patterns.proofs.PlaceLemmas.{Has-and, Has-both, Has-below, twice-up, twice-down, one_bit, not-in-none}
use Rattle.label_patterns.proofs.RoundLemmas.{then-ends, either-ends}

-- ---- bits

-- the first bit of twice a number and a bit, and the others
first-bit : (m b : ℕ) → b < 2 → bit_at (b + m * 2) 0 ≡ bit_at b 0
first-bit m b l = ap (λ n. bit_at n 0) (omega arith) ∙ bit_at_cat_low m 1 b 0 (omega (arith, l))

later-bit : (m b p : ℕ) → b < 2 → bit_at (b + m * 2) (suc p) ≡ bit_at m p
later-bit m b p l =
    let e : bit_at (m * 2 ^ 1 + b) (suc p) ≡ bit_at m (suc p - 1) = bit_at_cat_high m 1 b (suc p) (omega (arith, l)) (omega arith) in
    ap (λ n. bit_at n (suc p)) (omega arith) ∙ e ∙ ap (bit_at m) (omega arith)

pub places-are : (test : ℕ → Bool) (label : List ℕ) → AreThePlaces test label (places_of test label)
places-are test [] i = (λ h. absurd (not-in-none i h), λ h. absurd (omega (arith, h.0)))
places-are test (c ∷ label) zero = by_test (test c) refl
  where
    by_test : (b : Bool) → test c ≡ b → Has (cond b 1 0 + places_of test label * 2) 0 ↔ StandsAt test (c ∷ label) 0
    by_test true e = (λ h. (omega arith, e), λ h. first-bit (places_of test label) 1 (omega arith))
    by_test false e = (
      λ h. absurd (let z = first-bit (places_of test label) 0 (omega arith) in omega (arith, sym z ∙ h)),
      λ h. absurd (let f : true ≡ false = sym h.1 ∙ e in cc),
    )
places-are test (c ∷ label) (suc i) =
    let b : ℕ = cond (test c) 1 0 in
    let e = later-bit (places_of test label) b i (is_bit (test c)) in
    let rest = places-are test label i in (
      λ h. (let r = rest.0 (sym e ∙ h) in (omega (arith, r.0), r.1)),
      λ h. e ∙ rest.1 (omega (arith, h.0), h.1),
    )
  where
    is_bit : (b : Bool) → cond b 1 0 < 2
    is_bit true = omega arith
    is_bit false = omega arith

-- a number that isn't 0 has a bit
pub some-bit : (k n : ℕ) → n ≤ k → (n ≡ 0 → ⊥) → (p : ℕ) × Has n p
some-bit zero n l some = absurd (some (omega (arith, l)))
some-bit (suc k) n l some = elim (cases_order (n % 2) 1) [
  | inl one ↦ (0, let e : n ≡ 1 + n / 2 * 2 = omega (arith, one) in ap (λ m. bit_at m 0) e ∙ first-bit (n / 2) 1 (omega arith))
  | inr o ↦
      let even : n ≡ 0 + n / 2 * 2 = elim o [ inl less ↦ omega (arith, less) | inr more ↦ omega (arith, more) ] in
      let half = some-bit k (n / 2) (omega (arith, l, some)) (λ none. some (omega (arith, even, none))) in
      (suc half.0, ap (λ m. bit_at m (suc half.0)) even ∙ later-bit (n / 2) 0 half.0 (omega arith) ∙ half.1)
]

-- a test that a set isn't empty
pub any-place : (n : ℕ) → IsTrue (not (eqb n 0)) ↔ ((p : ℕ) × Has n p)
any-place n = (λ h. some-bit n n (omega arith) (some-from n h), λ h. some-to n (λ none. not-in-none h.0 (subst (λ m. Has m h.0) none h.1)))

pub place-tested : (places p : ℕ) → IsTrue (has_place places p) ↔ Has places p
place-tested places p = (eqb-true (bit_at places p) 1, eq-eqb (bit_at places p) 1)

pub every-place : (label : List ℕ) (p : ℕ) → Has (every_place label) p ↔ (p ≤ length label)
every-place label p =
    let b = Has-below (length label + 1) (2 ^ (length label + 1)) p refl in
    (λ h. (let l = b.0 h in omega (arith, l)), λ l. b.1 (omega (arith, l)))

-- ---- what patterns match

one-ends : (test : ℕ → Bool) (s : Seen) (starts : ℕ) → AreEnds (MatchesOne test s) starts (bit_and starts (places_of test s.label) * 2)
one-ends test s starts j = (
  λ h.
      let from = twice-down (bit_and starts (places_of test s.label)) j h in
      let both = Has-and starts (places_of test s.label) from.0 from.1 in
      (from.0, both.0, ((places-are test s.label from.0).0 both.1, from.2)),
  λ h. subst (Has (bit_and starts (places_of test s.label) * 2)) (sym h.2.1)
      (twice-up (bit_and starts (places_of test s.label)) h.0 (Has-both starts (places_of test s.label) h.0 h.1 ((places-are test s.label h.0).1 h.2.0))),
)

at-ends : (place starts : ℕ) → AreEnds (MatchesAt place) starts (bit_and starts (2 ^ place))
at-ends place starts j = (
  λ h. (let both = Has-and starts (2 ^ place) j h in (j, both.0, (one_bit place j both.1, one_bit place j both.1))),
  λ h.
      let here : h.0 ≡ j = h.2.0 ∙ sym h.2.1 in
      Has-both starts (2 ^ place) j (subst (Has starts) here h.1) (subst (Has (2 ^ place)) (sym h.2.1) (bit_at-pow_same place)),
)

-- the ends are within the label
pub ends-within : (p : Pattern) (s : Seen) (starts ends : ℕ) → IsWithin (length s.label) starts → AreEnds (Matches s p) starts ends → IsWithin (length s.label) ends
ends-within p s starts ends within are j h = let from = (are j).0 h in (parts p s from.0 j from.2).1 (within from.0 from.1)

pub ends-are : (s : Seen) (p : Pattern) (starts : ℕ) → IsWithin (length s.label) starts → AreEnds (Matches s p) starts (ends_from s p starts)
ends-are s (Point c) starts within = one-ends (λ d. eqb d c) s starts
ends-are s (Set n) starts within = one-ends (is_in (get_or s.sets n [])) s starts
ends-are s Any starts within = one-ends (λ d. true) s starts
ends-are s Start starts within = at-ends 0 starts
ends-are s End starts within = at-ends (length s.label) starts
ends-are s Anchor starts within = λ j. (λ h. absurd (not-in-none j h), λ h. absurd h.2)
ends-are s (Group p) starts within = ends-are s p starts within
ends-are s (Optional p) starts within =
    let ends = ends-are s p starts within in
    either-ends (λ i j. j ≡ i) (Matches s p) starts starts (ends_from s p starts) (bit_or starts (ends_from s p starts)) (λ j. (λ h. (j, h, refl), λ h. subst (Has starts) (sym h.2) h.1)) ends (or-parts starts (ends_from s p starts))
ends-are s (Many p) starts within = grown-ends (length s.label) (Matches s p) (ends_from s p) (parts p s) (ends-are s p) starts within
ends-are s (Then p q) starts within =
    let first = ends-are s p starts within in
    then-ends (Matches s p) (Matches s q) starts (ends_from s p starts) (ends_from s q (ends_from s p starts)) first (ends-are s q (ends_from s p starts) (ends-within p s starts (ends_from s p starts) within first))
ends-are s (Either p q) starts within =
    either-ends (Matches s p) (Matches s q) starts (ends_from s p starts) (ends_from s q starts) (bit_or (ends_from s p starts) (ends_from s q starts)) (ends-are s p starts within) (ends-are s q starts within) (or-parts (ends_from s p starts) (ends_from s q starts))

pub every-within : (label : List ℕ) → IsWithin (length label) (every_place label)
every-within label p h = (every-place label p).0 h

pub occurs-agrees : (s : Seen) (p : Pattern) → IsTrue (occurs_in s p) ↔ Occurs s p
occurs-agrees s p =
    let ends = ends-are s p (every_place s.label) (every-within s.label) in
    let any = any-place (ends_from s p (every_place s.label)) in (
      λ h. (let place = any.0 h in let from = (ends place.0).0 place.1 in (from.0, place.0, (every-place s.label from.0).0 from.1, from.2)),
      λ h. any.1 (h.1, (ends h.1).1 (h.0, (every-place s.label h.0).1 h.2, h.3)),
    )

-- ---- rules

before-are : (s : Seen) (p : Pattern) (places : ℕ) → IsWithin (length s.label) places → (i : ℕ) → Has (before_from s p places) i ↔ ((k : ℕ) × Has places k × Before s p k i)
before-are s (Point c) places within i = (λ h. absurd (not-in-none i h), λ h. absurd h.2)
before-are s (Set n) places within i = (λ h. absurd (not-in-none i h), λ h. absurd h.2)
before-are s Any places within i = (λ h. absurd (not-in-none i h), λ h. absurd h.2)
before-are s Start places within i = (λ h. absurd (not-in-none i h), λ h. absurd h.2)
before-are s End places within i = (λ h. absurd (not-in-none i h), λ h. absurd h.2)
before-are s Anchor places within i = (λ h. (i, h, refl), λ h. subst (Has places) (sym h.2) h.1)
before-are s (Group p) places within i = (λ h. absurd (not-in-none i h), λ h. absurd h.2)
before-are s (Optional p) places within i = (λ h. absurd (not-in-none i h), λ h. absurd h.2)
before-are s (Many p) places within i = (λ h. absurd (not-in-none i h), λ h. absurd h.2)
before-are s (Then p q) places within i =
    by_item (is_anchor p) refl (before-are s q (ends_from s p places) (ends-within p s places (ends_from s p places) within (ends-are s p places within)))
  where
    by_item : (b : Bool) → is_anchor p ≡ b → ((j : ℕ) → Has (before_from s q (ends_from s p places)) j ↔ ((k : ℕ) × Has (ends_from s p places) k × Before s q k j))
        → Has (cond b places (before_from s q (ends_from s p places))) i ↔ ((k : ℕ) × Has places k × Before s (Then p q) k i)
    by_item true e rest = (
      λ h. (i, h, inl (e, refl)),
      λ h. elim h.2 [
        | inl b ↦ subst (Has places) (sym b.1) h.1
        | inr b ↦ absurd (anchor-alone p s h.0 b.0 e b.1)
      ],
    )
    by_item false e rest = item-before p q s places (ends_from s p places) (before_from s q (ends_from s p places)) e (ends-are s p places within) rest i
before-are s (Either p q) places within i = (λ h. absurd (not-in-none i h), λ h. absurd h.2)

pub ends-before-agrees : (s : Seen) (context : Pattern) (i : ℕ) → i ≤ length s.label → IsTrue (ends_before s context i) ↔ EndsBefore s context i
ends-before-agrees s context i l =
    let all = every_place s.label in
    let found = before_from s context all in
    let tested = place-tested found i in
    let are = from-all context s (length s.label) all found refl (every-place s.label) (before-are s context all (every-within s.label)) i in
    (λ h. (are.0 (tested.0 h)).1, λ h. tested.1 (are.1 (l, h)))

-- the places that begin at one
pub one-within : (n j : ℕ) → j ≤ n → IsWithin n (2 ^ j)
one-within n j l p h = let e = one_bit j p h in omega (arith, e, l)

from-one : (s : Seen) (q : Pattern) (j : ℕ) → j ≤ length s.label → IsTrue (not (eqb (ends_from s q (2 ^ j)) 0)) ↔ ((k : ℕ) × Matches s q j k)
from-one s q j l =
    let ends = ends-are s q (2 ^ j) (one-within (length s.label) j l) in
    let any = any-place (ends_from s q (2 ^ j)) in (
      λ h. (let place = any.0 h in let from = (ends place.0).0 place.1 in (place.0, subst (λ i. Matches s q i place.0) (one_bit j from.0 from.1) from.2)),
      λ h. any.1 (h.0, (ends h.0).1 (j, bit_at-pow_same j, h.1)),
    )

pub begins-after-agrees : (s : Seen) (context : Pattern) (j : ℕ) → j ≤ length s.label → IsTrue (begins_after s context j) ↔ BeginsAfter s context j
begins-after-agrees s (Point c) j l = (λ h. absurd (let f : false ≡ true = h in cc), λ h. absurd h.1)
begins-after-agrees s (Set n) j l = (λ h. absurd (let f : false ≡ true = h in cc), λ h. absurd h.1)
begins-after-agrees s Any j l = (λ h. absurd (let f : false ≡ true = h in cc), λ h. absurd h.1)
begins-after-agrees s Start j l = (λ h. absurd (let f : false ≡ true = h in cc), λ h. absurd h.1)
begins-after-agrees s End j l = (λ h. absurd (let f : false ≡ true = h in cc), λ h. absurd h.1)
begins-after-agrees s Anchor j l = (λ h. (j, refl), λ h. refl)
begins-after-agrees s (Group p) j l = (λ h. absurd (let f : false ≡ true = h in cc), λ h. absurd h.1)
begins-after-agrees s (Optional p) j l = (λ h. absurd (let f : false ≡ true = h in cc), λ h. absurd h.1)
begins-after-agrees s (Many p) j l = (λ h. absurd (let f : false ≡ true = h in cc), λ h. absurd h.1)
begins-after-agrees s (Then p q) j l = by_item (is_anchor p) refl (from-one s q j l) (begins-after-agrees s q j l)
  where
    by_item : (b : Bool) → is_anchor p ≡ b → IsTrue (not (eqb (ends_from s q (2 ^ j)) 0)) ↔ ((k : ℕ) × Matches s q j k) → IsTrue (begins_after s q j) ↔ BeginsAfter s q j
        → IsTrue (cond b (not (eqb (ends_from s q (2 ^ j)) 0)) (begins_after s q j)) ↔ BeginsAfter s (Then p q) j
    by_item true e one rest = (
      λ h. (let m = one.0 h in (m.0, inl (e, m.1))),
      λ h. elim h.1 [ inl b ↦ one.1 (h.0, b.1) | inr b ↦ absurd (let f : not (is_anchor p) ≡ true = b.0 in cc) ],
    )
    by_item false e one rest = (
      λ h. (let m = rest.0 h in (m.0, inr (let f : not (is_anchor p) ≡ true = cc in f, m.1))),
      λ h. elim h.1 [ inl b ↦ absurd (let f : is_anchor p ≡ true = b.0 in cc) | inr b ↦ rest.1 (h.0, b.1) ],
    )
begins-after-agrees s (Either p q) j l = (λ h. absurd (let f : false ≡ true = h in cc), λ h. absurd h.1)

pub and-both : (a b : Bool) → IsTrue (a && b) ↔ (IsTrue a × IsTrue b)
and-both true b = (λ h. (refl, h), λ h. h.1)
and-both false b = (λ h. absurd (let f : false ≡ true = h in cc), λ h. h.0)

pub or-one : (a b : Bool) → IsTrue (a || b) ↔ (IsTrue a ⊎ IsTrue b)
or-one true b = (λ h. inl refl, λ h. refl)
or-one false b = (λ h. inr h, λ h. elim h [ inl f ↦ absurd (let g : false ≡ true = f in cc) | inr g ↦ g ])

pub not-false : (a : Bool) (P : Type 0) → IsTrue a ↔ P → IsTrue (not a) ↔ (P → ⊥)
not-false true P e = (λ h. absurd (let f : false ≡ true = h in cc), λ h. absurd (h (e.0 refl)))
not-false false P e = (λ h p. (let f : false ≡ true = e.1 p in cc), λ h. refl)

one-holds : (s : Seen) (contexts : List Pattern) (i j : ℕ) → i ≤ length s.label → j ≤ length s.label
    → IsTrue (list_any (λ context. ends_before s context i && begins_after s context j) contexts) ↔ HoldsInOne s contexts i j
one-holds s [] i j l m = (λ h. absurd (let f : false ≡ true = h in cc), λ h. absurd h)
one-holds s (context ∷ others) i j l m =
    let first = ends_before s context i && begins_after s context j in
    let either = or-one first (list_any (λ c. ends_before s c i && begins_after s c j) others) in
    let both = and-both (ends_before s context i) (begins_after s context j) in
    let before = ends-before-agrees s context i l in
    let after = begins-after-agrees s context j m in
    let rest = one-holds s others i j l m in (
      λ h. elim (either.0 h) [ inl f ↦ (let b = both.0 f in inl (before.0 b.0, after.0 b.1)) | inr r ↦ inr (rest.0 r) ],
      λ h. either.1 (elim h [ inl b ↦ inl (both.1 (before.1 b.0, after.1 b.1)) | inr r ↦ inr (rest.1 r) ]),
    )

pub holds-agrees : (s : Seen) (rule : Pattern) (i j : ℕ) → i ≤ length s.label → j ≤ length s.label → IsTrue (rule_holds s rule i j) ↔ Holds s rule i j
holds-agrees s rule i j l m = by (is_context_rule rule)
  where
    by : (b : Bool) → IsTrue (cond b (list_any (λ context. ends_before s context i && begins_after s context j) (branches rule)) (occurs_in s rule)) ↔ HoldsAs b s rule i j
    by true = one-holds s (branches rule) i j l m
    by false = occurs-agrees s rule

asked-agrees : (kind : ConditionKind) (holds : Bool) (P : Type 0) → IsTrue holds ↔ P → IsTrue (is_asked kind holds) ↔ IsAsked kind P
asked-agrees When holds P e = e
asked-agrees Unless holds P e = not-false holds P e

pub condition-agrees : (rules : List Pattern) (s : Seen) (c : Option Condition) (i j : ℕ) → i ≤ length s.label → j ≤ length s.label
    → IsTrue (condition_holds rules s c i j) ↔ ConditionHolds rules s c i j
condition-agrees rules s None i j l m = (λ h. tt, λ h. refl)
condition-agrees rules s (Some c) i j l m = asked-agrees c.kind (rule_holds s (rule_at rules c.rule) i j) (Holds s (rule_at rules c.rule) i j) (holds-agrees s (rule_at rules c.rule) i j l m)

-- ---- what is barred

one-before : (s : Seen) (contexts : List Pattern) (i : ℕ) → i ≤ length s.label → IsTrue (list_any (λ context. ends_before s context i) contexts) ↔ OneEndsBefore s contexts i
one-before s [] i l = (λ h. absurd (let f : false ≡ true = h in cc), λ h. absurd h)
one-before s (context ∷ others) i l =
    let either = or-one (ends_before s context i) (list_any (λ c. ends_before s c i) others) in
    let before = ends-before-agrees s context i l in
    let rest = one-before s others i l in (
      λ h. elim (either.0 h) [ inl f ↦ inl (before.0 f) | inr r ↦ inr (rest.0 r) ],
      λ h. either.1 (elim h [ inl b ↦ inl (before.1 b) | inr r ↦ inr (rest.1 r) ]),
    )

one-done : (s : Seen) (contexts : List Pattern) (i : ℕ) → i ≤ length s.label
    → IsTrue (list_any (λ context. ends_in_anchor context && ends_before s context i) contexts) ↔ OneIsDone s contexts i
one-done s [] i l = (λ h. absurd (let f : false ≡ true = h in cc), λ h. absurd h)
one-done s (context ∷ others) i l =
    let either = or-one (ends_in_anchor context && ends_before s context i) (list_any (λ c. ends_in_anchor c && ends_before s c i) others) in
    let both = and-both (ends_in_anchor context) (ends_before s context i) in
    let before = ends-before-agrees s context i l in
    let rest = one-done s others i l in (
      λ h. elim (either.0 h) [ inl f ↦ (let b = both.0 f in inl (b.0, before.0 b.1)) | inr r ↦ inr (rest.0 r) ],
      λ h. either.1 (elim h [ inl b ↦ inl (both.1 (b.0, before.1 b.1)) | inr r ↦ inr (rest.1 r) ]),
    )

barred-by-agrees : (kind : ConditionKind) (s : Seen) (rule : Pattern) (i : ℕ) → i ≤ length s.label → IsTrue (is_barred_by kind s rule i) ↔ IsBarredBy kind s rule i
barred-by-agrees When s rule i l = not-false (list_any (λ context. ends_before s context i) (branches rule)) (OneEndsBefore s (branches rule) i) (one-before s (branches rule) i l)
barred-by-agrees Unless s rule i l = one-done s (branches rule) i l

pub barred-agrees : (rules : List Pattern) (s : Seen) (c : Option Condition) (i : ℕ) → i ≤ length s.label → IsTrue (condition_barred rules s c i) ↔ IsBarred rules s c i
barred-agrees rules s None i l = (λ h. absurd (let f : false ≡ true = h in cc), λ h. absurd h)
barred-agrees rules s (Some c) i l =
    let rule = rule_at rules c.rule in
    let both = and-both (is_context_rule rule) (is_barred_by c.kind s rule i) in
    let barred = barred-by-agrees c.kind s rule i l in
    (λ h. (let b = both.0 h in (b.0, barred.0 b.1)), λ h. both.1 (h.0, barred.1 h.1))

pub no-end-agrees : (p : Pattern) → IsTrue (ignores_end p) ↔ IgnoresEnd p
no-end-agrees (Point c) = (λ h. tt, λ h. refl)
no-end-agrees (Set n) = (λ h. tt, λ h. refl)
no-end-agrees Any = (λ h. tt, λ h. refl)
no-end-agrees Start = (λ h. tt, λ h. refl)
no-end-agrees End = (λ h. absurd (let f : false ≡ true = h in cc), λ h. absurd h)
no-end-agrees Anchor = (λ h. tt, λ h. refl)
no-end-agrees (Group p) = no-end-agrees p
no-end-agrees (Optional p) = no-end-agrees p
no-end-agrees (Many p) = no-end-agrees p
no-end-agrees (Then p q) =
    let both = and-both (ignores_end p) (ignores_end q) in let first = no-end-agrees p in let rest = no-end-agrees q in
    (λ h. (let b = both.0 h in (first.0 b.0, rest.0 b.1)), λ h. both.1 (first.1 h.0, rest.1 h.1))
no-end-agrees (Either p q) =
    let both = and-both (ignores_end p) (ignores_end q) in let first = no-end-agrees p in let rest = no-end-agrees q in
    (λ h. (let b = both.0 h in (first.0 b.0, rest.0 b.1)), λ h. both.1 (first.1 h.0, rest.1 h.1))

pub tests-agree : TestsAgree
tests-agree = record { occurs = occurs-agrees; holds = holds-agrees; condition = condition-agrees; barred = barred-agrees; without_end = no-end-agrees }
