-- The entries at a place, one length after the other.
use Rattle.std.proofs.Common.{◌≡◌, ℕ, zero, suc, ◌+◌, ◌-◌, ◌<◌, ◌≤◌, List, [], ◌∷◌, ◌++◌, length, take, drop, get_or, refl, sym, ap, ◌∙◌, add-one, inl, inr, arith, length-take, length-drop, get_or-take}
use Rattle.std.specs.List.{slice_range}
use Rattle.std.specs.Option.{option_to_list}
use Rattle.std.proofs.lemmas.Bool.{cases_lt}
use Rattle.std.proofs.lemmas.List.{take_more, drop_all}
use Rattle.variant_table.specs.Entries.{Entry}
use Rattle.variant_table.specs.inner.Order.{HasNoLonger}
use Rattle.variant_table.specs.Places.{entry_with, entries_from, entries_longer}
use Rattle.variant_table.proofs.BeginningLemmas.{entries_from-none}

pub drop_here : (xs : List ℕ) (i : ℕ) → i < length xs → drop i xs ≡ get_or xs i 0 ∷ drop (i + 1) xs
drop_here xs i l = steps xs i l ∙ ap (λ n. get_or xs i 0 ∷ drop n xs) (sym (add-one i))
  where
    steps : (xs : List ℕ) (i : ℕ) → i < length xs → drop i xs ≡ get_or xs i 0 ∷ drop (suc i) xs
    steps [] i l = absurd (omega (arith, l))
    steps (x ∷ xs) zero l = refl
    steps (x ∷ xs) (suc i) l = steps xs i (omega (arith, l))

module _ (table : List Entry) (label : List ℕ) (place len : ℕ) where
  pub longer_step : len < 8 → place + len < length label → entries_longer table label place len ≡ option_to_list (entry_with table (slice_range label place (place + (len + 1)))) ++ entries_longer table label place (len + 1)
  longer_step small within =
      let after : List ℕ = drop place label in
      let rest : List ℕ = take 8 after in
      let room : len < length after = omega (arith, length-drop place label) in
      let inside : len < length rest = omega (arith, length-take 8 after, length-drop place label) in
      let c : ℕ = get_or after len 0 in
      let first : drop len rest ≡ c ∷ drop (len + 1) rest = drop_here rest len inside ∙ ap (λ x. x ∷ drop (len + 1) rest) (get_or-take 8 after len 0 small) in
      let size : place + len - place ≡ len = omega arith in
      let size' : place + (len + 1) - place ≡ len + 1 = omega arith in
      let longer : slice_range label place (place + len) ++ c ∷ [] ≡ slice_range label place (place + (len + 1)) = ap (λ n. take n after ++ c ∷ []) size ∙ sym (take_more after len 0 room) ∙ ap (λ n. take n after) (sym size') in
      ap (entries_from table (slice_range label place (place + len))) first
      ∙ ap (λ b. option_to_list (entry_with table b) ++ entries_from table b (drop (len + 1) rest)) longer

  pub longer_end : (len < 8 → length label ≤ place + len) → entries_longer table label place len ≡ []
  longer_end over = ap (entries_from table (slice_range label place (place + len))) (drop_all len (take 8 (drop place label)) (elim (cases_lt len 8) [ inl l ↦ omega (arith, length-take 8 (drop place label), length-drop place label, over l) | inr r ↦ omega (arith, length-take 8 (drop place label)) ]))

  -- where no longer source begins the label here, nothing is left
  pub longer_stop : HasNoLonger table (slice_range label place (place + (len + 1))) → entries_longer table label place 8 ≡ entries_longer table label place (len + 1)
  longer_stop none = eight ∙ sym (entries_from-none table (slice_range label place (place + (len + 1))) (drop (len + 1) (take 8 (drop place label))) none)
    where
      eight : entries_longer table label place 8 ≡ []
      eight = ap (entries_from table (slice_range label place (place + 8))) (drop_all 8 (take 8 (drop place label)) (omega (arith, length-take 8 (drop place label))))
