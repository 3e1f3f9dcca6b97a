-- What is barred stays so.
use Rattle.std.proofs.Common.{◌≡◌, ℕ, zero, suc, ◌≤◌, inl, inr, Bool, true, false, not, cond, List, [], ◌∷◌, ◌++◌, length, refl, subst}
use Rattle.std.specs.Prelude.{◌↔◌, IsTrue, Some, None}
use Rattle.std.specs.List.{AllByRecursion}
use Rattle.label_patterns.specs.declared.condition.ConditionKind.{ConditionKind}
use Rattle.label_patterns.specs.declared.condition.ConditionKind.TheVariants.{When, Unless}
use Rattle.label_patterns.specs.declared.span.Span.{Span}
use Rattle.label_patterns.specs.Barring.{ends_in_anchor, OneEndsBefore, OneIsDone, IsBarredBy}
use Rattle.label_patterns.specs.Conditions.{rule_at, IsAsked}
use Rattle.label_patterns.specs.Laws.{seen, ContextsIgnoreEnd, IgnoresEndBefore}
use Rattle.label_patterns.specs.TestLaws.{BarredForGood, BarringStays}
use Rattle.label_patterns.specs.Matches.{Seen}
use Rattle.label_patterns.specs.Patterns.{Pattern, Point, Set, Any, Start, End, Anchor, Group, Optional, Many, Then, Either}
use Rattle.label_patterns.specs.Rules.{branches, is_anchor, is_context_rule, BeginsAfter, HoldsAs, HoldsInOne, Holds}
use Rattle.label_patterns.proofs.ContextLemmas.{stays-before}

-- a context in which nothing stands after '_' asks nothing of what follows
nothing-after : (s : Seen) (context : Pattern) (j : ℕ) → IsTrue (ends_in_anchor context) → BeginsAfter s context j
nothing-after s (Point c) j e = absurd (let f : false ≡ true = e in cc)
nothing-after s (Set n) j e = absurd (let f : false ≡ true = e in cc)
nothing-after s Any j e = absurd (let f : false ≡ true = e in cc)
nothing-after s Start j e = absurd (let f : false ≡ true = e in cc)
nothing-after s End j e = absurd (let f : false ≡ true = e in cc)
nothing-after s Anchor j e = (j, refl)
nothing-after s (Group p) j e = absurd (let f : false ≡ true = e in cc)
nothing-after s (Optional p) j e = absurd (let f : false ≡ true = e in cc)
nothing-after s (Many p) j e = absurd (let f : false ≡ true = e in cc)
nothing-after s (Then p q) j e = by_item (is_anchor p) refl e (nothing-after s q j)
  where
    by_item : (b : Bool) → is_anchor p ≡ b → cond b false (ends_in_anchor q) ≡ true → (IsTrue (ends_in_anchor q) → BeginsAfter s q j) → BeginsAfter s (Then p q) j
    by_item true is f later = absurd (let g : false ≡ true = f in cc)
    by_item false is f later = let rest = later f in (rest.0, inr (let g : not (is_anchor p) ≡ true = cc in g, rest.1))
nothing-after s (Either p q) j e = absurd (let f : false ≡ true = e in cc)

module _ (sets : List (List Span)) (label more : List ℕ) (i : ℕ) (l : i ≤ length label) where
  none-later : (contexts : List Pattern) (j : ℕ) → AllByRecursion IgnoresEndBefore contexts → (OneEndsBefore (seen sets label) contexts i → ⊥) → HoldsInOne (seen sets (label ++ more)) contexts i j → ⊥
  none-later [] j none barred h = h
  none-later (context ∷ others) j none barred h = elim h [
    | inl here ↦ barred (inl ((stays-before context sets label more i none.0 l).1 here.0))
    | inr later ↦ none-later others j none.1 (λ b. barred (inr b)) later
  ]

  done-later : (contexts : List Pattern) (j : ℕ) → AllByRecursion IgnoresEndBefore contexts → OneIsDone (seen sets label) contexts i → HoldsInOne (seen sets (label ++ more)) contexts i j
  done-later [] j none h = h
  done-later (context ∷ others) j none h = elim h [
    | inl here ↦ inl ((stays-before context sets label more i none.0 l).0 here.1, nothing-after (seen sets (label ++ more)) context j here.0)
    | inr later ↦ inr (done-later others j none.1 later)
  ]

  by_kind : (kind : ConditionKind) (rule : Pattern) (j : ℕ) → AllByRecursion IgnoresEndBefore (branches rule) → IsBarredBy kind (seen sets label) rule i → IsAsked kind (HoldsInOne (seen sets (label ++ more)) (branches rule) i j) → ⊥
  by_kind When rule j none barred holds = none-later (branches rule) j none barred holds
  by_kind Unless rule j none barred fails = fails (done-later (branches rule) j none barred)

  by_rule : (kind : ConditionKind) (rule : Pattern) (j : ℕ) → ContextsIgnoreEnd rule → (is_context_rule rule ≡ true) → IsBarredBy kind (seen sets label) rule i → IsAsked kind (Holds (seen sets (label ++ more)) rule i j) → ⊥
  by_rule kind rule j none is barred asked =
      by_kind kind rule j (none is) barred (subst (λ b. IsAsked kind (HoldsAs b (seen sets (label ++ more)) rule i j)) is asked)

-- the rule of a number is one of them, or one without contexts
rule-at : (rules : List Pattern) (n : ℕ) → AllByRecursion ContextsIgnoreEnd rules → ContextsIgnoreEnd (rule_at rules n)
rule-at [] n all = λ is. (tt, tt)
rule-at (rule ∷ rules) zero all = all.0
rule-at (rule ∷ rules) (suc n) all = rule-at rules n all.1

pub barred-for-good : BarredForGood
barred-for-good rules sets label more None i j none l barred holds = barred
barred-for-good rules sets label more (Some c) i j none l barred holds =
    by_rule sets label more i l c.kind (rule_at rules c.rule) j (rule-at rules c.rule none) barred.0 barred.1 holds

-- ---- whether it is barred depends on what stands before alone

module _ (sets : List (List Span)) (label more : List ℕ) (i : ℕ) (l : i ≤ length label) where
  one-stays : (contexts : List Pattern) → AllByRecursion IgnoresEndBefore contexts → OneEndsBefore (seen sets label) contexts i ↔ OneEndsBefore (seen sets (label ++ more)) contexts i
  one-stays [] none = (λ h. h, λ h. h)
  one-stays (context ∷ others) none =
      let here = stays-before context sets label more i none.0 l in
      let rest = one-stays others none.1 in (
        λ h. elim h [ inl b ↦ inl (here.0 b) | inr r ↦ inr (rest.0 r) ],
        λ h. elim h [ inl b ↦ inl (here.1 b) | inr r ↦ inr (rest.1 r) ],
      )

  done-stays : (contexts : List Pattern) → AllByRecursion IgnoresEndBefore contexts → OneIsDone (seen sets label) contexts i ↔ OneIsDone (seen sets (label ++ more)) contexts i
  done-stays [] none = (λ h. h, λ h. h)
  done-stays (context ∷ others) none =
      let here = stays-before context sets label more i none.0 l in
      let rest = done-stays others none.1 in (
        λ h. elim h [ inl b ↦ inl (b.0, here.0 b.1) | inr r ↦ inr (rest.0 r) ],
        λ h. elim h [ inl b ↦ inl (b.0, here.1 b.1) | inr r ↦ inr (rest.1 r) ],
      )

  kind-stays : (kind : ConditionKind) (rule : Pattern) → AllByRecursion IgnoresEndBefore (branches rule) → IsBarredBy kind (seen sets label) rule i ↔ IsBarredBy kind (seen sets (label ++ more)) rule i
  kind-stays When rule none =
      let one = one-stays (branches rule) none in
      (λ h b. h (one.1 b), λ h b. h (one.0 b))
  kind-stays Unless rule none = done-stays (branches rule) none

pub barring-stays : BarringStays
barring-stays rules sets label more None i none l = (λ h. h, λ h. h)
barring-stays rules sets label more (Some c) i none l = (
  λ h. (h.0, (kind-stays sets label more i l c.kind (rule_at rules c.rule) (rule-at rules c.rule none h.0)).0 h.1),
  λ h. (h.0, (kind-stays sets label more i l c.kind (rule_at rules c.rule) (rule-at rules c.rule none h.0)).1 h.1),
)
