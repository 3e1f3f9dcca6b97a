-- Cuts of a label, along the list of its substitutions and by the numbers of its places.
use Rattle.std.proofs.Common.{◌≡◌, ℕ, zero, suc, ◌+◌, ◌-◌, ◌*◌, ◌^◌, ◌≤◌, ◌↔◌, List, [], ◌∷◌, length, get_or, drop, sym, ap, ◌∙◌, subst, refl, arith, length-append}
use Rattle.std.specs.Prelude.{Contains, min}
use Rattle.std.proofs.Math.Nat.{mul-le-mul_right, suc-mul}
use Rattle.std.proofs.Math.ListN.{get_or-eq_default}
use Rattle.std.proofs.lemmas.List.{length-drop, get_or-drop, drop-drop}
use Rattle.std.proofs.lemmas.List.Elements.{All-contains}
use Rattle.reading_kinds.specs.Readings.{Substitution, substitutions_at, IsCut, IsSubstitution, AreSubstitutions, SubstitutionsSpell, points_of}
use Rattle.reading_kinds.specs.inner.Cells.{HasColumns}
use Rattle.reading_kinds.specs.inner.Cuts.{IsCutFrom, AllFit}
use Rattle.reading_kinds.proofs.ListMembers.{Contains-none}

-- substitutions end within the label at each place
pub AllFit-of : (substitutions : List (List Substitution)) → AreSubstitutions substitutions → AllFit substitutions
AllFit-of [] are place u h = absurd (Contains-none u h)
AllFit-of (here ∷ later) are zero u h =
    let is : IsSubstitution (length later + 1) u = All-contains (IsSubstitution (length later + 1)) here u are.0 h in
    record { within = omega (arith, is.within); covers = is.some; some = is.filled }
AllFit-of (here ∷ later) are (suc place) u h =
    let is = AllFit-of later are.2 place u h in
    record { within = omega (arith, is.within); covers = is.covers; some = is.some }

-- cut along the list of the substitutions from a place on
IsCut-from : (substitutions : List (List Substitution)) → AllFit substitutions → (cut : List Substitution) (rest : List (List Substitution)) (place : ℕ) → rest ≡ drop place substitutions → place ≤ length substitutions → IsCut rest cut ↔ IsCutFrom substitutions place cut
IsCut-from substitutions are [] [] place e l = (λ h. omega (arith, l, ap length e, length-drop place substitutions), λ h. tt)
IsCut-from substitutions are [] (here ∷ later) place e l = (λ h. absurd h, λ h. absurd (omega (arith, h, ap length e, length-drop place substitutions)))
IsCut-from substitutions are (u ∷ cut) [] place e l = (
  λ h. absurd h,
  λ h. absurd (let past : length substitutions ≤ place = omega (arith, l, ap length e, length-drop place substitutions) in Contains-none u (subst (λ xs. Contains xs u) (get_or-eq_default substitutions [] past) h.0)),
)
IsCut-from substitutions are (u ∷ cut) (here ∷ later) place e l =
    let first : here ≡ substitutions_at substitutions place = ap (λ xs. get_or xs 0 []) e ∙ get_or-drop place substitutions 0 [] ∙ ap (λ n. get_or substitutions n []) (omega arith) in
    let both : length (here ∷ later) ≡ length substitutions - place = ap length e ∙ length-drop place substitutions in
    let size : length later + 1 ≡ length substitutions - place = omega (arith, both) in
    let next : drop u.covers (here ∷ later) ≡ drop (place + u.covers) substitutions = ap (drop u.covers) e ∙ drop-drop u.covers place substitutions in (
      λ h. (subst (λ xs. Contains xs u) first h.0, (IsCut-from substitutions are cut (drop u.covers (here ∷ later)) (place + u.covers) next (omega (arith, size, h.1, l))).0 h.2),
      λ h. let is = are place u h.0 in
          (subst (λ xs. Contains xs u) (sym first) h.0, omega (arith, size, is.within), (IsCut-from substitutions are cut (drop u.covers (here ∷ later)) (place + u.covers) next is.within).1 h.1),
    )

pub IsCut-by_place : (substitutions : List (List Substitution)) → AllFit substitutions → (cut : List Substitution) → IsCut substitutions cut ↔ IsCutFrom substitutions 0 cut
IsCut-by_place substitutions are cut = IsCut-from substitutions are cut substitutions 0 refl (omega arith)

-- no label that is spelled has more code points than the longest substitution at each place
module _ (substitutions : List (List Substitution)) (are : AllFit substitutions) (longest : ℕ) (long : (place : ℕ) (u : Substitution) → Contains (substitutions_at substitutions place) u → length u.points ≤ longest) where
  short_from : (cut : List Substitution) (place : ℕ) → IsCutFrom substitutions place cut → place * longest + length (points_of cut) ≤ length substitutions * longest
  short_from [] place h = omega (arith, ap (λ n. n * longest) h)
  short_from (u ∷ cut) place h =
      let is = are place u h.0 in
      let next : suc place * longest ≤ (place + u.covers) * longest = mul-le-mul_right longest (omega (arith, is.covers)) in
      let here : suc place * longest ≡ place * longest + longest = suc-mul place longest in
      omega (arith, short_from cut (place + u.covers) h.1, next, here, long place u h.0, length-append u.points (points_of cut))

  pub length-spelled : (v : List ℕ) → SubstitutionsSpell substitutions v → length v ≤ length substitutions * longest
  length-spelled v h = omega (arith, short_from h.0 0 ((IsCut-by_place substitutions are h.0).0 h.1), ap length h.2)

  -- so a board of so many columns has one for each of them
  pub HasColumns-by : (places most columns : ℕ) → places ≡ length substitutions → most ≡ min (places * longest) (2 ^ 64 - 1) → columns ≡ min most 63 + 1 → HasColumns substitutions columns
  HasColumns-by places most columns counted is are_so_many v spelled short = omega (arith, length-spelled v spelled, ap (λ n. n * longest) counted, is, are_so_many, short)
