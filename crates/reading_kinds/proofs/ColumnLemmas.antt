-- A step to a column.
use Rattle.std.proofs.Common.{◌≡◌, ◌≢◌, ℕ, ◌+◌, ◌-◌, ◌≤◌, inl, inr, List, [], ◌∷◌, ◌++◌, length, take, drop, sym, ap, ◌∙◌, subst, refl, arith, length-append}
use Rattle.std.specs.Prelude.{Contains}
use Rattle.std.proofs.lemmas.List.{length-take-le, take-take, drop-take}
use Rattle.std.proofs.Math.Seq.{take-add, take-append_seam, drop-append_seam}
use Rattle.reading_kinds.specs.Readings.{Substitution, substitutions_at}
use Rattle.reading_kinds.specs.inner.Cells.{Cells, Mark, Tells, IsRightAt, IsRight, LeadsTo, Shows, SomeLeads}
use Rattle.reading_kinds.specs.inner.Cuts.{AllFit}
use Rattle.reading_kinds.specs.inner.Columns.{TellsAfter, EndsWith, HasTaken, Grows, IsSoundAt}
use Rattle.reading_kinds.specs.inner.Cells.Mark.{Reached, Has, Lacks}
use Rattle.reading_kinds.proofs.CellLemmas.{same_or_not}

-- the first code points of w, when a substitution is put at their end
pub take-EndsWith : (w : List ℕ) (column : ℕ) (points : List ℕ) → EndsWith w column points → take column w ≡ take (column - length points) w ++ points
take-EndsWith w column points h =
    let sum : column ≡ (column - length points) + length points = omega (arith, h.0) in
    ap (λ n. take n w) sum ∙ take-add (column - length points) (length points) w ∙ ap (λ x. take (column - length points) w ++ x) h.1

-- and the other way round
pub EndsWith-take : (w : List ℕ) (column : ℕ) (q points : List ℕ) → column ≤ length w → take column w ≡ q ++ points → EndsWith w column points × (q ≡ take (column - length points) w)
EndsWith-take w column q points within e =
    let total : column ≡ length q + length points = sym (length-take-le column w within) ∙ ap length e ∙ length-append q points in
    let start : column - length points ≡ length q = omega (arith, total) in
    let q_is : q ≡ take (length q) w = sym (take-append_seam q points) ∙ ap (take (length q)) (sym e) ∙ take-take (length q) column w (omega (arith, total)) in
    let points_are : points ≡ take (length points) (drop (length q) w) =
    sym (drop-append_seam q points) ∙ ap (drop (length q)) (sym e) ∙ ap (λ n. drop (length q) (take n w)) total ∙ drop-take (length q) (length points) w in
    ((omega (arith, total), ap (λ n. take (length points) (drop n w)) start ∙ sym points_are), q_is ∙ ap (λ n. take n w) (sym start))

module _ (substitutions : List (List Substitution)) (w : List ℕ) where
  -- what a substitution adds is shown by beginnings
  pub SomeLeads-after : (cells : Cells) (column place : ℕ) (u : Substitution) → Contains (substitutions_at substitutions place) u → EndsWith w column u.points → IsRightAt substitutions w cells (column - length u.points) → Tells cells (column - length u.points) place Reached → (m : Mark) → TellsAfter cells (column - length u.points) place u.kinds m → SomeLeads substitutions (place + u.covers) (take column w) m
  SomeLeads-after cells column place u there ends right at Reached h =
      let l = (right place Reached).0 at in
      (u ∷ l.0, (place, take (column - length u.points) w, there, refl, take-EndsWith w column u.points ends, l.1), tt)
  SomeLeads-after cells column place u there ends right at (Has k) h = elim h.1 [
    | inl same ↦
        let l = (right place Reached).0 at in
        (u ∷ l.0, (place, take (column - length u.points) w, there, refl, take-EndsWith w column u.points ends, l.1), (h.0, inl same))
    | inr told ↦
        let l = (right place (Has k)).0 told in
        (u ∷ l.0, (place, take (column - length u.points) w, there, refl, take-EndsWith w column u.points ends, l.1), (h.0, inr (l.2).1))
  ]
  SomeLeads-after cells column place u there ends right at (Lacks k) h =
      let l = (right place (Lacks k)).0 h.1 in (
        u ∷ l.0,
        (place, take (column - length u.points) w, there, refl, take-EndsWith w column u.points ends, l.1),
        ((l.2).0, λ x. elim x [ inl same ↦ h.0 same | inr has ↦ (l.2).1 has ]),
      )

  -- what a beginning shows that ends with a substitution
  TellsAfter-shown : (cells : Cells) (column place : ℕ) (u : Substitution) (before : List Substitution) → IsRightAt substitutions w cells column → LeadsTo substitutions place (take column w) before → (m : Mark) → Shows (u ∷ before) m → TellsAfter cells column place u.kinds m
  TellsAfter-shown cells column place u before right leads Reached h = tt
  TellsAfter-shown cells column place u before right leads (Has k) h = (
    h.0,
    elim h.1 [
      | inl same ↦ inl same
      | inr has ↦ inr ((right place (Has k)).1 (before, leads, (h.0, has)))
    ],
  )
  TellsAfter-shown cells column place u before right leads (Lacks k) h =
      (λ same. h.1 (inl same), (right place (Lacks k)).1 (before, leads, (h.0, λ x. h.1 (inr x))))

  -- a column that has taken each substitution tells what each beginning shows
  pub Tells-all : (cells : Cells) (column : ℕ) → AllFit substitutions → 1 ≤ column → column ≤ length w → IsRight substitutions w cells (column - 1) → ((place : ℕ) (u : Substitution) → Contains (substitutions_at substitutions place) u → HasTaken w cells column place u) → (p : ℕ) (m : Mark) (cut : List Substitution) → LeadsTo substitutions p (take column w) cut → Shows cut m → Tells cells column p m
  Tells-all cells column are some within right taken p m [] leads shows =
      absurd (let none : column ≡ 0 = sym (length-take-le column w within) ∙ ap length leads.1 in omega (arith, none, some))
  Tells-all cells column are some within right taken p m (u ∷ before) leads shows =
      let is = are leads.0 u leads.2 in
      let ends = EndsWith-take w column leads.1 u.points within leads.4 in
      let right_before : IsRightAt substitutions w cells (column - length u.points) = right (column - length u.points) (omega (arith, is.some)) in
      let led : LeadsTo substitutions leads.0 (take (column - length u.points) w) before = subst (λ x. LeadsTo substitutions leads.0 x before) ends.1 leads.5 in
      subst (λ x. Tells cells column x m) (sym leads.3)
      (taken leads.0 u leads.2 ends.0 ((right_before leads.0 Reached).1 (before, led, tt)) m
      (TellsAfter-shown cells (column - length u.points) leads.0 u before right_before led m shows))

  -- the whole step
  pub IsRight-step : (cells : Cells) (column : ℕ) → AllFit substitutions → 1 ≤ column → column ≤ length w → IsRight substitutions w cells (column - 1) → IsSoundAt substitutions w cells column → ((place : ℕ) (u : Substitution) → Contains (substitutions_at substitutions place) u → HasTaken w cells column place u) → IsRight substitutions w cells column
  IsRight-step cells column are some within right sound taken c l = elim (same_or_not c column) [
    | inl same ↦ subst (λ x. IsRightAt substitutions w cells x) (sym same) (λ p m. (sound p m, λ h. Tells-all cells column are some within right taken p m h.0 h.1 h.2))
    | inr other ↦ right c (omega (arith, l, other))
  ]

  -- columns that stay are as right as they were
  pub IsRight-grows : (old new : Cells) (column : ℕ) → 1 ≤ column → Grows old new column → IsRight substitutions w old (column - 1) → IsRight substitutions w new (column - 1)
  IsRight-grows old new column some grows right c l p m =
      let same = grows.others c (omega (arith, some, l)) p m in
      (λ h. (right c l p m).0 (same.0 h), λ h. same.1 ((right c l p m).1 h))

-- what was taken stays
pub TellsAfter-same : (old new : Cells) (column place kinds : ℕ) → ((m : Mark) → Tells old column place m → Tells new column place m) → (m : Mark) → TellsAfter old column place kinds m → TellsAfter new column place kinds m
TellsAfter-same old new column place kinds same Reached h = tt
TellsAfter-same old new column place kinds same (Has k) h = (h.0, elim h.1 [ inl e ↦ inl e | inr t ↦ inr (same (Has k) t) ])
TellsAfter-same old new column place kinds same (Lacks k) h = (h.0, same (Lacks k) h.1)

pub HasTaken-grows : (w : List ℕ) (old new : Cells) (column place : ℕ) (u : Substitution) → 1 ≤ length u.points → Grows old new column → HasTaken w old column place u → HasTaken w new column place u
HasTaken-grows w old new column place u some grows taken ends at m after =
    let apart : column - length u.points ≢ column = λ e. omega (arith, some, ends.0, e) in
    let same = grows.others (column - length u.points) apart place in
    grows.more (place + u.covers) m (taken ends ((same Reached).0 at) m (TellsAfter-same new old (column - length u.points) place u.kinds (λ n h. (same n).0 h) m after))

pub Grows-refl : (cells : Cells) (column : ℕ) → Grows cells cells column
Grows-refl cells column = record { others = λ c other p m. (λ h. h, λ h. h); more = λ p m h. h; size = refl }

pub Grows-trans : (a b d : Cells) (column : ℕ) → Grows a b column → Grows b d column → Grows a d column
Grows-trans a b d column f g = record {
  others = λ c other p m. (λ h. (f.others c other p m).0 ((g.others c other p m).0 h), λ h. (g.others c other p m).1 ((f.others c other p m).1 h));
  more = λ p m h. g.more p m (f.more p m h);
  size = g.size ∙ f.size;
}
