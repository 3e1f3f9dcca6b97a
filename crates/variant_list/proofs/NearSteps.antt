-- What goes together with the parts of a label, taken one after the other.
use Rattle.std.proofs.Common.{◌≡◌, ℕ, zero, suc, ◌+◌, true, List, [], ◌∷◌, ◌++◌, take, Some, refl, sym, ap, ◌∙◌, arith}
use Rattle.std.specs.Prelude.{slice_get, filter}
use Rattle.std.proofs.lemmas.List.{map-append}
use Rattle.variant_table.proofs.ListLemmas.{take_next}
use Rattle.variant_table.specs.Entries.{Entry, TableValue}
use Rattle.reading_kinds.specs.Drafts.{Draft, with_substitutions}
use Rattle.reading_kinds.specs.Readings.{Substitution}
use Rattle.variant_list.specs.Reversed.{Group}
use Rattle.variant_list.specs.inner.NearSubstitutions.{put_for, near_at, near_from}
use Rattle.variant_list.proofs.TakenSubstitutions.{with_substitutions-twice}

-- one sequence more
pub put_for-next : (n : ℕ) (sequences : List (List ℕ)) (i covers : ℕ) (s : List ℕ) (old mid : Draft) → slice_get sequences i ≡ Some s → covers ≡ n → mid ≡ with_substitutions old (put_for n (take i sequences))
    → with_substitutions mid (record { covers = covers; kinds = 0; points = s } ∷ []) ≡ with_substitutions old (put_for n (take (i + 1) sequences))
put_for-next n sequences i covers s old mid at same before =
    ap (λ d. with_substitutions d (one covers ∷ [])) before ∙ with_substitutions-twice old (put_for n (take i sequences)) (one covers ∷ []) ∙ ap (λ k. with_substitutions old (put_for n (take i sequences) ++ one k ∷ [])) same
    ∙ ap (with_substitutions old) (sym (ap (put_for n) (take_next sequences i s at) ∙ map-append one_of (take i sequences) (s ∷ [])))
  where
    one : ℕ → Substitution
    one k = record { covers = k; kinds = 0; points = s }

    one_of : List ℕ → Substitution
    one_of t = record { covers = n; kinds = 0; points = t }

-- all entries may stand where they do
pub filter-all : (es : List Entry) → filter (λ e. true) es ≡ es
filter-all [] = refl
filter-all (e ∷ es) = ap (λ xs. e ∷ xs) (filter-all es)

-- the substitutions of one place more
near_from-more : (table : TableValue) (groups : List Group) (label : List ℕ) (place n : ℕ) → near_from table groups label place n ++ near_at table groups label (place + n) ∷ [] ≡ near_from table groups label place (n + 1)
near_from-more table groups label place zero = let here : place + 0 ≡ place = omega arith in ap (λ p. near_at table groups label p ∷ []) here
near_from-more table groups label place (suc n) =
    let later : place + suc n ≡ suc place + n = omega arith in
    let more : suc n + 1 ≡ suc (n + 1) = omega arith in
    ap (λ p. near_at table groups label place ∷ (near_from table groups label (suc place) n ++ near_at table groups label p ∷ [])) later
    ∙ ap (λ us. near_at table groups label place ∷ us) (near_from-more table groups label (suc place) n)
    ∙ ap (near_from table groups label place) (sym more)

pub near_place-done : (table : TableValue) (groups : List Group) (label : List ℕ) (n : ℕ) (draft new : Draft) → draft ≡ record { done = near_from table groups label 0 n; begun = [] }
    → new ≡ record { done = draft.done ++ (draft.begun ++ near_at table groups label n) ∷ []; begun = [] } → new ≡ record { done = near_from table groups label 0 (n + 1); begun = [] }
near_place-done table groups label n draft new at ended =
    let here : n ≡ 0 + n = omega arith in
    ended ∙ ap (λ (d : Draft). done_of (d.done ++ (d.begun ++ near_at table groups label n) ∷ [])) at ∙ ap (λ p. done_of (near_from table groups label 0 n ++ near_at table groups label p ∷ [])) here
    ∙ ap done_of (near_from-more table groups label 0 n)
  where
    done_of : List (List Substitution) → Draft
    done_of us = record { done = us; begun = [] }
