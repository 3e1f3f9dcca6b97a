-- A law of the readings of a label.
use Rattle.std.proofs.Common.{◌≡◌, ◌≢◌, ℕ, ◌+◌, ◌≤◌, ◌↔◌, inl, inr, Bool, true, false, List, [], ◌∷◌, length, drop, sym, ap, ◌∙◌, subst, refl}
use Rattle.std.specs.Prelude.{filter, not, ◌==◌}
use Rattle.std.specs.Int.{bit_at}
use Rattle.std.proofs.lemmas.List.{length-map, drop-map}
use Rattle.std.proofs.lemmas.Bool.Decides.{Decides-eqb}
use Rattle.reading_kinds.specs.Readings.{Substitution, IsCut, HasKind}
use Rattle.reading_kinds.specs.Laws.{lacking, LackingSpell}
use Rattle.reading_kinds.proofs.ListMembers.{Contains-filter}

-- the test of a substitution that lacks a kind
lacks_test : (n : ℕ) → (not (n == 1) ≡ true) ↔ (n ≢ 1)
lacks_test n = let d = Decides-eqb n 1 in (
  λ h e. let x = d.1 e in let clash : true ≡ false = sym h ∙ ap not x in cc,
  λ h. by_bool (n == 1) refl h,
)
  where
    by_bool : (b : Bool) → (n == 1) ≡ b → n ≢ 1 → not b ≡ true
    by_bool true is h = absurd (h ((Decides-eqb n 1).0 is))
    by_bool false is h = refl

module _ (k : ℕ) where
  lacks : Substitution → Bool
  lacks u = not (bit_at u.kinds k == 1)

  IsCut-lacking : (cut : List Substitution) (substitutions : List (List Substitution)) → IsCut (lacking k substitutions) cut ↔ (IsCut substitutions cut × ¬ HasKind cut k)
  IsCut-lacking [] [] = (λ h. (tt, λ x. x), λ h. tt)
  IsCut-lacking [] (here ∷ later) = (λ h. absurd h, λ h. absurd h.0)
  IsCut-lacking (u ∷ cut) [] = (λ h. absurd h, λ h. absurd h.0)
  IsCut-lacking (u ∷ cut) (here ∷ later) =
      let kept = Contains-filter (λ (v : Substitution). not (bit_at v.kinds k == 1)) here u in
      let t = lacks_test (bit_at u.kinds k) in
      let size : length (lacking k later) ≡ length later = length-map later (filter (λ (v : Substitution). not (bit_at v.kinds k == 1))) in
      let next : drop u.covers (lacking k (here ∷ later)) ≡ lacking k (drop u.covers (here ∷ later)) = drop-map (filter (λ (v : Substitution). not (bit_at v.kinds k == 1))) u.covers (here ∷ later) in
      let rest = IsCut-lacking cut (drop u.covers (here ∷ later)) in (
        λ h. let g = kept.0 h.0 in
            let r = rest.0 (subst (λ us. IsCut us cut) next h.2) in
            ((g.0, subst (λ n. u.covers ≤ n + 1) size h.1, r.0), λ x. elim x [ inl one ↦ t.0 g.1 one | inr later ↦ r.1 later ]),
        λ h. (
          kept.1 ((h.0).0, t.1 (λ one. h.1 (inl one))),
          subst (λ n. u.covers ≤ n + 1) (sym size) (h.0).1,
          subst (λ us. IsCut us cut) (sym next) (rest.1 ((h.0).2, λ later. h.1 (inr later))),
        ),
      )

pub LackingSpell-holds : LackingSpell
LackingSpell-holds substitutions w k = (
  λ h. (h.0, (IsCut-lacking k h.0 substitutions).1 ((h.1).is_cut, h.2), (h.1).joined),
  λ h. let g = (IsCut-lacking k h.0 substitutions).0 h.1 in (h.0, record { is_cut = g.0; joined = h.2 }, g.1),
)
