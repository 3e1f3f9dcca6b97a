-- A code point that may not be registered has a place, and its class is the fault.
use Rattle.std.proofs.Common.{◌≡◌, ℕ, zero, suc, ◌<◌, ◌≤◌, drop, true, ◌↔◌, List, [], ◌∷◌, length, Option, None, Some, slice_index, refl, sym, ap, ◌∙◌, arith}
use Rattle.std.specs.Option.{is_none}
use Rattle.std.proofs.lemmas.List.{drop_all}
use Rattle.idn_class.specs.Class.{class_of}
use Rattle.idn_class.proofs.CauseLemmas.{first_failing-none, first_failing-no}
use Rattle.idn_class.proofs.TestLemmas.{all_places-at}
use Rattle.idn_text.specs.declared.refusal.Refusal.{Refusal}
use Rattle.idn_class.specs.Causes.{IsFirstFailing}
use Rattle.idn_cause.specs.Causes.{shared, barred_place, IsPermitted}
use Rattle.idn_label.specs.FirstFault.{first_of, fault_of_class, code_point_fault}
use Rattle.idn_label.proofs.FaultLemmas.{code_point_fault-cons, first_of-none}
use Rattle.idn_class.specs.declared.properties.Properties.{Properties}

none_told : (fault : Option Refusal) → is_none fault ≡ true → fault ≡ None
none_told None h = refl
none_told (Some refusal) h = cc

module _ (properties : Properties) where
  no_fault_at : (label : List ℕ) → code_point_fault properties label ≡ None → (k : ℕ) → k < length label → is_none (fault_of_class (class_of properties (slice_index label k))) ≡ true
  no_fault_at [] none k low = absurd (omega arith)
  no_fault_at (c ∷ label) none zero low =
      ap is_none (first_of-none (fault_of_class (class_of properties c)) (code_point_fault properties label) (sym (code_point_fault-cons properties c label) ∙ none)).0
  no_fault_at (c ∷ label) none (suc k) low =
      no_fault_at label (first_of-none (fault_of_class (class_of properties c)) (code_point_fault properties label) (sym (code_point_fault-cons properties c label) ∙ none)).1 k (omega arith)

  no_fault_from : (label : List ℕ) → ((k : ℕ) → k < length label → is_none (fault_of_class (class_of properties (slice_index label k))) ≡ true) → code_point_fault properties label ≡ None
  unfolding code_point_fault
  no_fault_from [] each = refl
  no_fault_from (c ∷ label) each =
      code_point_fault-cons properties c label ∙ rw (none_told _ (each 0 (omega arith)), no_fault_from label (λ k low. each (suc k) (omega arith))) refl

  pub barred-both : (label : List ℕ) → (barred_place properties label ≡ None) ↔ (code_point_fault properties label ≡ None)
  barred-both label =
      let told = λ (place : ℕ). is_none (fault_of_class (class_of properties (slice_index label place))) in (
        λ none. no_fault_from label (all_places-at (length label) told (first_failing-no (length label) told none)),
        λ none. first_failing-none (length label) told (no_fault_at label none),
      )

first_some : (a b : Option Refusal) → (a ≡ None → ⊥) → first_of (a ∷ b ∷ []) ≡ a
first_some None b some = absurd (some refl)
first_some (Some x) b some = refl

second_of : (a b : Option Refusal) → a ≡ None → first_of (a ∷ b ∷ []) ≡ b
second_of None None none = refl
second_of None (Some x) none = refl
second_of (Some y) b none = cc

module _ (properties : Properties) where
  -- the class of the code point that is told says which fault it is
  pub barred-kind : (label : List ℕ) (place : ℕ) → IsFirstFailing label (IsPermitted properties label) place → code_point_fault properties label ≡ fault_of_class (class_of properties (slice_index label place))
  barred-kind [] place first = let within : place < 0 = first.within in absurd (omega arith)
  barred-kind (c ∷ label) zero first = code_point_fault-cons properties c label ∙ first_some (fault_of_class (class_of properties c)) (code_point_fault properties label) first.fails
  barred-kind (c ∷ label) (suc place) first =
      let within : suc place < length (c ∷ label) = first.within in
      code_point_fault-cons properties c label ∙ second_of (fault_of_class (class_of properties c)) (code_point_fault properties label) (first.before 0 (omega arith))
      ∙ barred-kind label place (record { within = omega arith; fails = first.fails; before = λ k low. first.before (suc k) (omega arith) })

shared_nil : (label : List ℕ) → shared label [] ≡ 0
shared_nil [] = refl
shared_nil (c ∷ label) = refl

-- at the end of one of two labels they share no more
pub shared-end : (a b : List ℕ) (at : ℕ) → length b ≤ at → shared (drop at a) (drop at b) ≡ 0
shared-end a b at past = ap (shared (drop at a)) (drop_all at b past) ∙ shared_nil (drop at a)

pub ruleset shared_ends = (shared-end)
