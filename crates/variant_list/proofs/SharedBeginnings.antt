-- Where a label differs from another one, and how many code points both begin with.
use Rattle.std.proofs.Common.{◌≡◌, ◌==◌, ◌&&◌, ℕ, zero, suc, ◌+◌, ◌<◌, ◌≤◌, true, false, List, [], ◌∷◌, ◌++◌, take, get_or, length, length-append, length-take, refl, sym, inl, inr, ap, ◌∙◌, subst, arith}
use Rattle.std.proofs.lemmas.Bool.{cases_lt}
use Rattle.std.proofs.lemmas.List.{take-take, take-append-le, get_or-take}
use Rattle.std.proofs.Math.Seq.{get_or-append_seam}
use Rattle.variant_list.specs.Sharing.{IsShared}
use Rattle.std.proofs.lemmas.Bool.{eq-eqb, ne_eqb}
use Rattle.variant_list.specs.Beginnings.{shares}
use Rattle.variant_list.specs.inner.Least.{floor}
use Rattle.variant_list.proofs.GreaterLabels.{floor-more, floor-first, floor-at}

-- labels that go on from the same code points share them
pub shares-fork : (n j : ℕ) (old rest : List ℕ) → n ≤ j → j ≤ length old → shares n old (take j old ++ rest) ≡ true
shares-fork zero j old rest few within = refl
shares-fork (suc n) zero old rest few within = absurd (omega arith)
shares-fork (suc n) (suc j) [] rest few within = absurd (omega arith)
shares-fork (suc n) (suc j) (x ∷ old) rest few within =
    ap (λ b. b && shares n old (take j old ++ rest)) (eq-eqb x x refl) ∙ shares-fork n j old rest (omega arith) (omega arith)

-- labels that differ at a level do not share more
apart_here : (n : ℕ) (old : List ℕ) (point : ℕ) (rest : List ℕ) → floor old 0 ≤ point → shares (suc n) old (point ∷ rest) ≡ false
apart_here n [] point rest greater = refl
apart_here n (x ∷ old) point rest greater =
    let other : (x == point) ≡ false = ne_eqb x point (λ e. omega (arith, greater, floor-first x old)) in
    ap (λ b. b && shares n old rest) other

pub apart_from_diverges : (n : ℕ) (old : List ℕ) (j : ℕ) (point : ℕ) (rest : List ℕ) → floor old j ≤ point → j ≤ length old → j < n → shares n old (take j old ++ point ∷ rest) ≡ false
apart_from_diverges zero old j point rest greater within low = absurd (omega arith)
apart_from_diverges (suc n) old zero point rest greater within low = apart_here n old point rest greater
apart_from_diverges (suc n) [] (suc j) point rest greater within low = absurd (omega arith)
apart_from_diverges (suc n) (x ∷ old) (suc j) point rest greater within low =
    let same : (x == x) ≡ true = eq-eqb x x refl in
    ap (λ b. b && shares n old (take j old ++ point ∷ rest)) same
    ∙ apart_from_diverges n old j point rest (subst (λ f. f ≤ point) (floor-more x old j) greater) (omega arith) (omega arith)

-- a label that turns off at a level shares with the one before what stands before that, and no more
pub IsShared-turned : (old new : List ℕ) (level point : ℕ) → level ≤ length old → floor old level ≤ point → take (level + 1) new ≡ take level old ++ point ∷ [] → IsShared old new level
IsShared-turned old new level point within greater turned = record {
  in_first = within;
  in_second = omega (arith, ap length turned, length-take (level + 1) new, length-append (take level old) (point ∷ []), length-take level old, within);
  same = sym (
      sym (take-take level (level + 1) new (omega arith)) ∙ ap (take level) turned
      ∙ take-append-le level (take level old) (point ∷ []) (omega (arith, length-take level old)) ∙ take-take level level old (omega arith));
  longest = λ n in_old in_new same. elim (cases_lt level n) [
    | inl more ↦
        let here : get_or old level 0 ≡ get_or new level 0 = sym (get_or-take n old level 0 more) ∙ ap (λ xs. get_or xs level 0) same ∙ get_or-take n new level 0 more in
        let is : get_or new level 0 ≡ point =
        sym (get_or-take (level + 1) new level 0 (omega arith)) ∙ ap (λ xs. get_or xs level 0) turned
        ∙ ap (λ k. get_or (take level old ++ point ∷ []) k 0) (omega (arith, within, length-take level old)) ∙ get_or-append_seam (take level old) point [] 0 in
        absurd (omega (arith, greater, here, is, floor-at old level (omega (arith, more, in_old))))
    | inr less ↦ less
  ];
}
