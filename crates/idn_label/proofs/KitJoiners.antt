-- The rules of the joiners on Unicode's properties are the kit's rules.
use Rattle.std.proofs.Common.{◌≡◌, ℕ, suc, ◌+◌, Bool, true, false, ◌&&◌, ◌||◌, ◌==◌, cond, List, [], ◌∷◌, length, drop, Some, slice_get, slice_index, refl, sym, ap, ap₂, ◌∙◌, eqb-true, arith}
use Rattle.ucd_bidi.specs.declared.JoiningType.{JoiningType as Kit}
use Rattle.ucd_bidi.specs.declared.JoiningType.TheVariants as kit
use Rattle.ucd_bidi.specs.JoiningType.{joining_type as kit_type, joining_type_eq}
use Rattle.idna.specs.ContextJ.{is_after_virama, joins, fits_context, fit_contexts, passes_context_j}
use Rattle.idn_class.specs.declared.properties.Properties.TheVariants.{Unicode}
use Rattle.idn_class.specs.JoiningType.{is_standard_virama, named_type, standard_joining_type, joins_next, joins_previous}
use Rattle.idn_class.specs.Tests.{all_places, is_some_and, first_other, joins_before, joins_after, follows_virama, non_joiner_passes, joiner_passes, joiner_at, contextj_ok}

-- what stands before a place, the nearest first, and then the rest
abbrev onto : List ℕ → List ℕ → List ℕ
onto [] rest = rest
onto (c ∷ front) rest = onto front (c ∷ rest)

from_start : (k : ℕ) → length {A = ℕ} [] + k ≡ k
from_start k = omega arith

index_onto : (front rest : List ℕ) (k : ℕ) → slice_index (onto front rest) (length front + k) ≡ slice_index rest k
index_onto [] rest k = ap (slice_index rest) (from_start k)
index_onto (c ∷ front) rest k =
    let place : suc (length front) + k ≡ length front + suc k = omega arith in
    ap (slice_index (onto front (c ∷ rest))) place ∙ index_onto front (c ∷ rest) (suc k)

get_onto : (front rest : List ℕ) (k : ℕ) → slice_get (onto front rest) (length front + k) ≡ slice_get rest k
get_onto [] rest k = ap (slice_get rest) (from_start k)
get_onto (c ∷ front) rest k =
    let place : suc (length front) + k ≡ length front + suc k = omega arith in
    ap (slice_get (onto front (c ∷ rest))) place ∙ get_onto front (c ∷ rest) (suc k)

drop_onto : (front rest : List ℕ) (k : ℕ) → drop (length front + k) (onto front rest) ≡ drop k rest
drop_onto [] rest k = ap (λ n. drop n rest) (from_start k)
drop_onto (c ∷ front) rest k =
    let place : suc (length front) + k ≡ length front + suc k = omega arith in
    ap (λ n. drop n (onto front (c ∷ rest))) place ∙ drop_onto front (c ∷ rest) (suc k)

at_end : (front : List ℕ) → length front ≡ length front + 0
at_end front = omega arith

here : (front : List ℕ) (c : ℕ) (rest : List ℕ) → slice_index (onto front (c ∷ rest)) (length front) ≡ c
here front c rest = ap (slice_index (onto front (c ∷ rest))) (at_end front) ∙ index_onto front (c ∷ rest) 0

got : (front : List ℕ) (c : ℕ) (rest : List ℕ) → slice_get (onto front (c ∷ rest)) (length front) ≡ Some c
got front c rest = ap (slice_get (onto front (c ∷ rest))) (at_end front) ∙ get_onto front (c ∷ rest) 0

-- ---- past type T

left_step : (kind : Kit) (farther : Bool) → first_other joins_next (named_type kind) farther ≡ (joining_type_eq kind kit.LeftJoining || joining_type_eq kind kit.DualJoining || (joining_type_eq kind kit.Transparent && farther))
left_step kit.LeftJoining farther = refl
left_step _ farther = refl

right_step : (kind : Kit) (farther : Bool) → first_other joins_previous (named_type kind) farther ≡ (joining_type_eq kind kit.RightJoining || joining_type_eq kind kit.DualJoining || (joining_type_eq kind kit.Transparent && farther))
right_step kit.LeftJoining farther = refl
right_step _ farther = refl

left : (front rest : List ℕ) → joins_before Unicode (onto front rest) (length front) ≡ joins kit.LeftJoining front
unfolding joins standard_joining_type
left [] rest = refl
left (c ∷ front) rest =
    ap (λ n. first_other joins_next (named_type (kit_type n)) (joins_before Unicode (onto front (c ∷ rest)) (length front))) (here front c rest)
    ∙ ap (first_other joins_next (named_type (kit_type c))) (left front (c ∷ rest))
    ∙ left_step (kit_type c) (joins kit.LeftJoining front)

right : (rest : List ℕ) → joins_after Unicode rest ≡ joins kit.RightJoining rest
unfolding joins standard_joining_type
right [] = refl
right (c ∷ rest) = ap (first_other joins_previous (named_type (kit_type c))) (right rest) ∙ right_step (kit_type c) (joins kit.RightJoining rest)

after_virama : (front rest : List ℕ) → follows_virama Unicode (onto front rest) (length front) ≡ is_after_virama front
unfolding is_standard_virama
after_virama [] rest = refl
after_virama (c ∷ front) rest = ap (λ o. is_some_and o is_standard_virama) (got front c rest)

-- ---- at a place

by_kind : (c : ℕ) (virama joined : Bool) (non_joiner joiner : Bool) → (c == 0x200C) ≡ non_joiner → (c == 0x200D) ≡ joiner
    → (cond non_joiner (virama || joined) true && cond joiner virama true) ≡ cond non_joiner (virama || joined) (cond joiner virama true)
by_kind c virama joined true true n j =
    let first = eqb-true c 0x200C n in
    let second = eqb-true c 0x200D j in
    absurd (omega (arith, first, second))
by_kind c virama joined true false n j = and_true (virama || joined)
  where
    and_true : (b : Bool) → (b && true) ≡ b
    and_true true = refl
    and_true false = refl
by_kind c virama joined false joiner n j = refl

non_joiner_as : (b : Bool) (label : List ℕ) (place : ℕ)
    → non_joiner_passes Unicode b label place
    ≡ cond b (follows_virama Unicode label place || (joins_before Unicode label place && joins_after Unicode (drop (place + 1) label))) true
non_joiner_as true label place = refl
non_joiner_as false label place = refl

joiner_as : (b : Bool) (label : List ℕ) (place : ℕ) → joiner_passes Unicode b label place ≡ cond b (follows_virama Unicode label place) true
joiner_as true label place = refl
joiner_as false label place = refl

fits : (front : List ℕ) (c : ℕ) (rest : List ℕ) → joiner_at Unicode (onto front (c ∷ rest)) (length front) ≡ fits_context front c rest
fits front c rest =
    let label = onto front (c ∷ rest) in
    let place = length front in
    ap (λ n. non_joiner_passes Unicode (n == 0x200C) label place && joiner_passes Unicode (n == 0x200D) label place) (here front c rest)
    ∙ ap₂ (λ a b. a && b) (non_joiner_as (c == 0x200C) label place) (joiner_as (c == 0x200D) label place)
    ∙ ap₂ (λ v j. cond (c == 0x200C) (v || j) true && cond (c == 0x200D) v true) (after_virama front (c ∷ rest))
    (ap₂ (λ a b. a && b) (left front (c ∷ rest)) (ap (joins_after Unicode) (drop_onto front (c ∷ rest) 1) ∙ right rest))
    ∙ by_kind c (is_after_virama front) (joins kit.LeftJoining front && joins kit.RightJoining rest) (c == 0x200C) (c == 0x200D) refl refl

-- ---- at all places

rearranged : (a b c : Bool) → ((a && b) && c) ≡ (b && (a && c))
rearranged true b c = refl
rearranged false true c = refl
rearranged false false c = refl

and_true : (b : Bool) → b ≡ (b && true)
and_true true = refl
and_true false = refl

all_fit : (front rest : List ℕ)
    → all_places (length front + length rest) (joiner_at Unicode (onto front rest)) ≡ (all_places (length front) (joiner_at Unicode (onto front rest)) && fit_contexts front rest)
unfolding fit_contexts
all_fit front [] = ap (λ n. all_places n (joiner_at Unicode (onto front []))) (sym (at_end front)) ∙ and_true _
all_fit front (c ∷ rest) =
    let passes = joiner_at Unicode (onto front (c ∷ rest)) in
    let count : length front + length (c ∷ rest) ≡ length (c ∷ front) + length rest = omega arith in
    ap (λ n. all_places n passes) count ∙ all_fit (c ∷ front) rest
    ∙ rearranged (passes (length front)) (all_places (length front) passes) (fit_contexts (c ∷ front) rest)
    ∙ ap (λ b. all_places (length front) passes && (b && fit_contexts (c ∷ front) rest)) (fits front c rest)

pub joiners_of_lookup : (label : List ℕ) → contextj_ok Unicode label ≡ passes_context_j label
unfolding contextj_ok
joiners_of_lookup label = ap (λ n. all_places n (joiner_at Unicode label)) (sym (from_start (length label))) ∙ all_fit [] label
