-- The first column, and what the last cell says.
use Rattle.std.proofs.Common.{◌≡◌, ℕ, ◌+◌, ◌*◌, ◌<◌, ◌≤◌, ◌↔◌, inl, inr, List, [], ◌∷◌, ◌++◌, length, get_or, take, sym, ap, ◌∙◌, subst, refl, arith, length-append}
use Rattle.std.specs.Int.{bit_at}
use Rattle.std.proofs.lemmas.List.{length-take, take-take}
use Rattle.std.proofs.Math.Seq.{take-length, take-append_seam}
use Rattle.std.proofs.lemmas.Nat.Bits.{bit_at_ones, bit_at-zero}
use Rattle.reading_kinds.specs.Readings.{Substitution, IsReading, SubstitutionsSpell, SomeHas, SomeLacks}
use Rattle.reading_kinds.specs.inner.Cells.{Cells, Mark, InWords, Tells, Shows, LeadsTo, SomeLeads, IsRightAt, IsRight, words_at}
use Rattle.reading_kinds.specs.declared.board.Words.{Words}
use Rattle.reading_kinds.specs.inner.Cuts.{AllFit}
use Rattle.reading_kinds.specs.inner.Columns.{Clears, Adds}
use Rattle.reading_kinds.specs.inner.Cells.Mark.{Reached, Has, Lacks}
use Rattle.reading_kinds.proofs.ReadingLemmas.{SomeLeads-whole}

-- the words that say of no kind that it is there
abbrev pub first_words : Words
first_words = record { has = 0; lacks = 18446744073709551615 }

InWords-first : (m : Mark) → InWords first_words m ↔ Shows [] m
InWords-first Reached = (λ h. tt, λ h. tt)
InWords-first (Has k) = (λ h. absurd (omega (arith, h.1, bit_at-zero k)), λ h. absurd h.1)
InWords-first (Lacks k) = (λ h. (h.0, λ x. x), λ h. (h.0, bit_at_ones 64 k h.0))

pub IsRight-begin : (old cleared new : Cells) → Clears old cleared 0 → Adds cleared new 0 0 first_words → (substitutions : List (List Substitution)) (label : List ℕ) → AllFit substitutions → IsRight substitutions label new 0
IsRight-begin old cleared new clears adds substitutions label are c l =
    subst (λ x. IsRightAt substitutions label new x) (zero_is c l) (λ p m. (
      λ h. elim ((adds 0 p m).0 h) [
        | inl o ↦ absurd (((clears 0 p m).0 o).0 refl)
        | inr a ↦ ([], (a.1, refl), (InWords-first m).0 a.2)
      ],
      λ h. let n = nothing_yet h.0 p m h.1 h.2 in (adds 0 p m).1 (inr (refl, n.0, n.1)),
    ))
  where
    zero_is : (x : ℕ) → x ≤ 0 → 0 ≡ x
    zero_is x le = omega (arith, le)

    nothing_yet : (cut : List Substitution) (p : ℕ) (m : Mark) → LeadsTo substitutions p [] cut → Shows cut m → (p ≡ 0) × InWords first_words m
    nothing_yet [] p m leads shows = (leads.0, (InWords-first m).1 shows)
    nothing_yet (u ∷ before) p m leads shows = absurd (
        let some = (are leads.0 u leads.2).some in
        let none : 0 ≡ length leads.1 + length u.points = ap length leads.4 ∙ length-append leads.1 u.points in
        omega (arith, some, none))

module _ (substitutions : List (List Substitution)) (are : AllFit substitutions) (w : List ℕ) (cells : Cells) (right : IsRight substitutions w cells (length w)) where
  last_tells : (m : Mark) → Tells cells (length w) (length substitutions) m ↔ ((cut : List Substitution) × IsReading substitutions w cut × Shows cut m)
  last_tells m =
      let here : Tells cells (length w) (length substitutions) m ↔ SomeLeads substitutions (length substitutions) w m =
      subst (λ x. Tells cells (length w) (length substitutions) m ↔ SomeLeads substitutions (length substitutions) x m) (take-length w) (right (length w) (omega arith) (length substitutions) m) in
      let whole = SomeLeads-whole substitutions are w m in
      (λ h. whole.0 (here.0 h), λ h. here.1 (whole.1 h))

  pub SubstitutionsSpell-last : Tells cells (length w) (length substitutions) Reached ↔ SubstitutionsSpell substitutions w
  SubstitutionsSpell-last = (
    λ h. let r = (last_tells Reached).0 h in (r.0, (r.1).is_cut, (r.1).joined),
    λ h. (last_tells Reached).1 (h.0, record { is_cut = h.1; joined = h.2 }, tt),
  )

  module _ (at : Tells cells (length w) (length substitutions) Reached) where
    pub SomeHas-last : (words : Words) (k : ℕ) → words ≡ words_at cells (length w) (length substitutions) → k < 64 → (bit_at words.has k ≡ 1) ↔ SomeHas substitutions w k
    SomeHas-last words k e l = (
      λ h.
          let r = (last_tells (Has k)).0 (record { column_in_range = at.column_in_range; place_in_range = at.place_in_range; reached = at.reached; words = (l, ap (λ x. bit_at x.has k) (sym e) ∙ h) }) in
          (r.0, r.1, (r.2).1),
      λ h. ap (λ x. bit_at x.has k) e ∙ (((last_tells (Has k)).1 (h.0, h.1, (l, h.2))).words).1,
    )

    pub SomeLacks-last : (words : Words) (k : ℕ) → words ≡ words_at cells (length w) (length substitutions) → k < 64 → (bit_at words.lacks k ≡ 1) ↔ SomeLacks substitutions w k
    SomeLacks-last words k e l = (
      λ h.
          let r = (last_tells (Lacks k)).0 (record { column_in_range = at.column_in_range; place_in_range = at.place_in_range; reached = at.reached; words = (l, ap (λ x. bit_at x.lacks k) (sym e) ∙ h) }) in
          (r.0, r.1, (r.2).1),
      λ h. ap (λ x. bit_at x.lacks k) e ∙ (((last_tells (Lacks k)).1 (h.0, h.1, (l, h.2))).words).1,
    )

-- the columns of what both labels begin with stay right
pub IsRight-shared : (substitutions : List (List Substitution)) (before label : List ℕ) (cells : Cells) (count shared : ℕ) → IsRight substitutions before cells count → shared ≤ count → take shared before ≡ take shared label → IsRight substitutions label cells shared
IsRight-shared substitutions before label cells count shared right within same c l p m =
    let alike : take c before ≡ take c label = sym (take-take c shared before l) ∙ ap (take c) same ∙ take-take c shared label l in
    subst (λ x. Tells cells c p m ↔ SomeLeads substitutions p x m) alike (right c (omega (arith, l, within)) p m)

-- so do those of what is stored of the label before
pub IsRight-kept : (substitutions : List (List Substitution)) (stored label : List ℕ) (cells : Cells) (count shared : ℕ) → IsRight substitutions (take count stored) cells count → shared ≤ length (take count stored) → take shared (take count stored) ≡ take shared label → IsRight substitutions label cells shared
IsRight-kept substitutions stored label cells count shared right within same =
    IsRight-shared substitutions (take count stored) label cells count shared right (omega (arith, within, length-take count stored)) same

-- the label is stored in place of the one before
pub IsRight-stored : (substitutions : List (List Substitution)) (label copied rest : List ℕ) (cells : Cells) → copied ≡ label → IsRight substitutions label cells (length label) → IsRight substitutions (take (length label) (copied ++ rest)) cells (length label)
IsRight-stored substitutions label copied rest cells is right =
    subst (λ w. IsRight substitutions w cells (length label)) (sym (ap (λ xs. take (length label) (xs ++ rest)) is ∙ take-append_seam label rest)) right
