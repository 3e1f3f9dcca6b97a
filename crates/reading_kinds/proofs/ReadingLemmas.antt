-- Beginnings of readings, and whole ones.
use Rattle.std.proofs.Common.{◌≡◌, ℕ, ◌+◌, ◌⊎◌, ◌↔◌, inl, inr, List, [], ◌∷◌, ◌++◌, length, sym, ap, ◌∙◌, subst, refl}
use Rattle.std.proofs.lemmas.List.{append-nil, append_assoc}
use Rattle.reading_kinds.specs.Readings.{Substitution, points_of, IsReading, HasKind}
use Rattle.reading_kinds.specs.inner.Cells.{Mark, LeadsTo, Shows, SomeLeads}
use Rattle.reading_kinds.specs.inner.Cuts.{IsCutFrom, AllFit}
use Rattle.reading_kinds.proofs.CutLemmas.{IsCut-by_place}
use Rattle.reading_kinds.specs.inner.Cells.Mark.{Reached, Has, Lacks}

-- a beginning, its last substitution first, and what follows it
abbrev pub unwind : List Substitution → List Substitution → List Substitution
unwind [] rest = rest
unwind (u ∷ before) rest = unwind before (u ∷ rest)

rejoin : (a b c : List ℕ) → (a ++ b) ++ c ≡ a ++ (b ++ c)
rejoin a b c = append_assoc a b c

module _ (substitutions : List (List Substitution)) where
  pub IsCutFrom-unwind : (before rest : List Substitution) (place : ℕ) (p : List ℕ) → LeadsTo substitutions place p before → IsCutFrom substitutions place rest → IsCutFrom substitutions 0 (unwind before rest)
  IsCutFrom-unwind [] rest place p l h = subst (λ x. IsCutFrom substitutions x rest) l.0 h
  IsCutFrom-unwind (u ∷ before) rest place p l h =
      IsCutFrom-unwind before (u ∷ rest) l.0 l.1 l.5 (l.2, subst (λ x. IsCutFrom substitutions x rest) l.3 h)

  pub points_of-unwind : (before rest : List Substitution) (place : ℕ) (p : List ℕ) → LeadsTo substitutions place p before → points_of (unwind before rest) ≡ p ++ points_of rest
  points_of-unwind [] rest place p l = ap (λ x. x ++ points_of rest) (sym l.1)
  points_of-unwind (u ∷ before) rest place p l =
      points_of-unwind before (u ∷ rest) l.0 l.1 l.5 ∙ sym (rejoin l.1 u.points (points_of rest)) ∙ ap (λ x. x ++ points_of rest) (sym l.4)

  pub LeadsTo-unwind : (rest before : List Substitution) (place : ℕ) (p : List ℕ) → IsCutFrom substitutions place rest → LeadsTo substitutions place p before → LeadsTo substitutions (length substitutions) (p ++ points_of rest) (unwind rest before)
  LeadsTo-unwind [] before place p h l = subst (λ x. LeadsTo substitutions x (p ++ []) before) h (subst (λ x. LeadsTo substitutions place x before) (sym (append-nil p)) l)
  LeadsTo-unwind (u ∷ rest) before place p h l =
      subst (λ x. LeadsTo substitutions (length substitutions) x (unwind rest (u ∷ before))) (rejoin p u.points (points_of rest))
      (LeadsTo-unwind rest (u ∷ before) (place + u.covers) (p ++ u.points) h.1 (place, p, h.0, refl, refl, l))

pub HasKind-unwind : (before rest : List Substitution) (k : ℕ) → HasKind (unwind before rest) k ↔ (HasKind before k ⊎ HasKind rest k)
HasKind-unwind [] rest k = (λ h. inr h, λ h. elim h [ inl x ↦ absurd x | inr y ↦ y ])
HasKind-unwind (u ∷ before) rest k = let step = HasKind-unwind before (u ∷ rest) k in (
  λ h. elim (step.0 h) [ inl x ↦ inl (inr x) | inr y ↦ elim y [ inl e ↦ inl (inl e) | inr z ↦ inr z ] ],
  λ h. step.1 (elim h [ inl x ↦ elim x [ inl e ↦ inr (inl e) | inr z ↦ inl z ] | inr y ↦ inr (inr y) ]),
)

pub Shows-unwind : (cut : List Substitution) (m : Mark) → Shows (unwind cut []) m ↔ Shows cut m
Shows-unwind cut Reached = (λ h. tt, λ h. tt)
Shows-unwind cut (Has k) = let same = HasKind-unwind cut [] k in (
  λ h. (h.0, elim (same.0 h.1) [ inl x ↦ x | inr y ↦ absurd y ]),
  λ h. (h.0, same.1 (inl h.1)),
)
Shows-unwind cut (Lacks k) = let same = HasKind-unwind cut [] k in (
  λ h. (h.0, λ x. h.1 (same.1 (inl x))),
  λ h. (h.0, λ x. elim (same.0 x) [ inl y ↦ h.1 y | inr z ↦ z ]),
)

-- the beginnings that lead to the end are the readings
pub SomeLeads-whole : (substitutions : List (List Substitution)) → AllFit substitutions → (w : List ℕ) (m : Mark) → SomeLeads substitutions (length substitutions) w m ↔ ((cut : List Substitution) × IsReading substitutions w cut × Shows cut m)
SomeLeads-whole substitutions are w m = (
  λ h. (
    unwind h.0 [],
    record {
      is_cut = (IsCut-by_place substitutions are (unwind h.0 [])).1 (IsCutFrom-unwind substitutions h.0 [] (length substitutions) w h.1 refl);
      joined = points_of-unwind substitutions h.0 [] (length substitutions) w h.1 ∙ append-nil w;
    },
    (Shows-unwind h.0 m).1 h.2,
  ),
  λ h. (
    unwind h.0 [],
    subst (λ x. LeadsTo substitutions (length substitutions) x (unwind h.0 [])) (h.1).joined (LeadsTo-unwind substitutions h.0 [] 0 [] ((IsCut-by_place substitutions are h.0).0 (h.1).is_cut) (refl, refl)),
    (Shows-unwind h.0 m).1 h.2,
  ),
)
