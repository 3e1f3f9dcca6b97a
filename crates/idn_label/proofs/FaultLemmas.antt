-- The first fault, step by step.
use Rattle.std.proofs.Common.{◌≡◌, ℕ, ◌+◌, ◌<◌, ◌≤◌, true, false, ◌==◌, List, [], ◌∷◌, ◌++◌, length, codes, cond, nat_lt, le-ltb, map, drop, All, Option, Some, None, get_or, refl, sym, ap, ◌∙◌, inl, inr, arith}
use Rattle.std.proofs.Math.Bool.{or_self}
use Rattle.std.proofs.lemmas.Bool.{cases_Bool, true≢false, cond-true}
use Rattle.std.proofs.lemmas.Bool.Decides.{nat_tests}
use Rattle.std.proofs.lemmas.List.{at_drop_more, at_drop_all}
use Rattle.std.proofs.lemmas.List.Elements.{All-nil, All-cons, All-head, All-tail, All-weaker}
use Rattle.ucd_table.specs.Rows.{in_ranges}
use Rattle.idna.specs.Punycode.{encode}
use Rattle.idna.specs.Validity.{is_all_ascii}
use Rattle.idn_text.specs.declared.refusal.Refusal.{Refusal}
use Rattle.idn_text.specs.declared.refusal.Refusal.TheVariants.{Empty, Disallowed, LabelTooLong}
use Rattle.idn_text.specs.Points.{is_scalar_value, IsScalarValue, AreScalarValues}
use Rattle.idn_class.specs.declared.class.Class.{Class}
use Rattle.idn_class.specs.declared.class.Class.TheVariants as classes
use Rattle.idn_class.specs.declared.facts.Fact.TheVariants.{MayBeBarred}
use Rattle.idn_class.specs.Class.{class_of, is_scalar}
use Rattle.idn_class.specs.Barring.{is_barred}
use Rattle.idn_class.specs.Facts.{has_fact}
use Rattle.idn_class.proofs.ClassNumbers.{class_of-no_scalar}
use Rattle.idn_class.proofs.FactLabels.{Lacks, each_lacks, class_without, unbarred_by}
use Rattle.idn_label.specs.ALabel.{a_label_of}
use Rattle.idn_label.specs.FirstFault.{first_of, fault_if, fault_of_class, code_point_fault, is_too_long, first_fault}
use Rattle.idn_label.specs.inner.FaultSteps.{rule_faults, rule_fault, fault_but_length}
use Rattle.idn_class.specs.declared.properties.Properties.{Properties}

-- faults that stand in a row may be told as one
first_of-nested : (before between after : List (Option Refusal)) → first_of (before ++ (between ++ after)) ≡ first_of (before ++ (first_of between ∷ after))
first_of-nested [] [] after = refl
first_of-nested [] (None ∷ between) after = first_of-nested [] between after
first_of-nested [] (Some refusal ∷ between) after = refl
first_of-nested (None ∷ before) between after = first_of-nested before between after
first_of-nested (Some refusal ∷ before) between after = refl

first_of-rest : (fault : Option Refusal) (others : List (Option Refusal)) → first_of (fault ∷ others) ≡ first_of (fault ∷ first_of others ∷ [])
first_of-rest (Some refusal) others = refl
first_of-rest None [] = refl
first_of-rest None (None ∷ others) = first_of-rest None others
first_of-rest None (Some refusal ∷ others) = refl

pub first_of-none : (first second : Option Refusal) → first_of (first ∷ second ∷ []) ≡ None → (first ≡ None) × (second ≡ None)
first_of-none None None none = (refl, refl)
first_of-none _ _ none = cc

-- ---- of code points

module _ (properties : Properties) where
  -- the first code point decides or leaves it to the others
  pub code_point_fault-cons : (c : ℕ) (label : List ℕ) → code_point_fault properties (c ∷ label) ≡ first_of (fault_of_class (class_of properties c) ∷ code_point_fault properties label ∷ [])
  unfolding code_point_fault
  code_point_fault-cons c label = first_of-rest (fault_of_class (class_of properties c)) (map fault_of_class (map (class_of properties) label))

  -- the same from a place on
  pub code_point_fault-drop : (label : List ℕ) (k : ℕ) → k < length label → code_point_fault properties (drop k label) ≡ first_of (fault_of_class (class_of properties (get_or label k 0)) ∷ code_point_fault properties (drop (k + 1) label) ∷ [])
  code_point_fault-drop label k lt = at_drop_more (code_point_fault properties) label k 0 lt ∙ code_point_fault-cons _ _

  pub code_point_fault-end : (label : List ℕ) (k : ℕ) → length label ≤ k → code_point_fault properties (drop k label) ≡ None
  unfolding code_point_fault
  code_point_fault-end label k all = at_drop_all (code_point_fault properties) label k all

  pub permitted : (label : List ℕ) → code_point_fault properties label ≡ None → All (λ c. fault_of_class (class_of properties c) ≡ None) label
  permitted [] none = All-nil _
  permitted (c ∷ label) none =
      let parts = first_of-none (fault_of_class (class_of properties c)) (code_point_fault properties label) (sym (code_point_fault-cons c label) ∙ none) in
      All-cons (λ c. fault_of_class (class_of properties c) ≡ None) c label parts.0 (permitted label parts.1)

  pub no_fault : (label : List ℕ) → All (λ c. fault_of_class (class_of properties c) ≡ None) label → code_point_fault properties label ≡ None
  unfolding code_point_fault
  no_fault [] all = refl
  no_fault (c ∷ label) all =
      let P = λ (c : ℕ). fault_of_class (class_of properties c) ≡ None in
      rw (All-head P c label all) (no_fault label (All-tail P c label all))

scalar_value : (c : ℕ) → is_scalar c ≡ true → is_scalar_value c ≡ true
unfolding is_scalar in_ranges
scalar_value c holds = grind (arith, nat_tests)

module _ (properties : Properties) where
  -- a code point that may be registered is a scalar value
  pub permitted_scalar : (c : ℕ) → fault_of_class (class_of properties c) ≡ None → IsScalarValue c
  permitted_scalar c none =
      elim (cases_Bool (is_scalar c)) [
        | inl holds ↦ scalar_value c holds
        | inr fails ↦ absurd (let clash : Some Disallowed ≡ None = sym (ap fault_of_class (class_of-no_scalar properties c fails)) ∙ none in cc)
      ]

  pub permitted_scalars : (label : List ℕ) → code_point_fault properties label ≡ None → AreScalarValues label
  permitted_scalars label none = All-weaker _ IsScalarValue permitted_scalar label (permitted properties label none)

unbarred : (class : Class) → is_barred class ≡ false → fault_of_class class ≡ None
unbarred classes.Disallowed barred = absurd (true≢false barred)
unbarred classes.Unassigned barred = absurd (true≢false barred)
unbarred _ barred = refl

module _ (properties : Properties) where
  pub code_point_fault-lacks : (label : List ℕ) → Lacks MayBeBarred label → code_point_fault properties label ≡ None
  code_point_fault-lacks label none =
      no_fault properties label (All-weaker (λ c. has_fact MayBeBarred c ≡ false) _ (λ c lacks. unbarred (class_of properties c) (unbarred_by properties c (class_without c lacks).0)) label (each_lacks MayBeBarred label none))

pub ruleset points_told = (code_point_fault-drop, code_point_fault-end, code_point_fault-lacks)

-- ---- of a label

module _ (properties : Properties) where
  pub first_fault-parts : (label : List ℕ) → first_fault properties label ≡ first_of (fault_if (length label == 0) Empty ∷ code_point_fault properties label ∷ rule_fault properties label ∷ fault_if (is_too_long label) LabelTooLong ∷ [])
  unfolding first_fault rule_fault
  first_fault-parts label = first_of-nested (fault_if (length label == 0) Empty ∷ code_point_fault properties label ∷ []) (rule_faults properties label) (fault_if (is_too_long label) LabelTooLong ∷ [])

  -- a label without another fault is measured
  pub first_fault-measured : (label : List ℕ) → first_fault properties label ≡ first_of (fault_but_length properties label ∷ fault_if (is_too_long label) LabelTooLong ∷ [])
  unfolding fault_but_length
  first_fault-measured label =
      first_fault-parts label
      ∙ first_of-nested [] (fault_if (length label == 0) Empty ∷ code_point_fault properties label ∷ rule_fault properties label ∷ []) (fault_if (is_too_long label) LabelTooLong ∷ [])

pub ruleset measured = (first_fault-measured)

second-none : (first second third : Option Refusal) → first_of (first ∷ second ∷ third ∷ []) ≡ None → second ≡ None
second-none None None None none = refl
second-none _ _ _ none = cc

module _ (properties : Properties) where
  pub permitted-faultless : (label : List ℕ) → fault_but_length properties label ≡ None → code_point_fault properties label ≡ None
  unfolding fault_but_length
  permitted-faultless label none = second-none _ _ _ none

  -- the tests of a label, one after the other
  pub fault_but_length-tests : (label : List ℕ) → fault_but_length properties label ≡ first_of (fault_if (length label == 0) Empty ∷ code_point_fault properties label ∷ first_of (rule_faults properties label) ∷ [])
  unfolding fault_but_length rule_fault
  fault_but_length-tests label = refl

pub ruleset label_steps = (fault_but_length-tests, permitted_scalars)

-- a label is short enough, where it has few code points and "xn--" and its Punycode few octets
pub short_enough : (label : List ℕ) → length label ≤ 63 → length (codes "xn--" ++ encode label) ≤ 63 → is_too_long label ≡ false
unfolding a_label_of
short_enough label points octets =
    let a_label : length (a_label_of label) ≤ 63 = elim (is_all_ascii label) as (λ b. length (cond b label (codes "xn--" ++ encode label)) ≤ 63) [ true ↦ points | false ↦ octets ] in
    rw (le-ltb 63 (length label) points, le-ltb 63 (length (a_label_of label)) a_label) refl

-- a label in ASCII is its own A-label
pub ascii_long : (label : List ℕ) → is_all_ascii label ≡ true → is_too_long label ≡ nat_lt 63 (length label)
unfolding a_label_of
ascii_long label ascii =
    let same : a_label_of label ≡ label = cond-true _ _ _ ascii in
    rw same (or_self (nat_lt 63 (length label)))
