-- The order in which the definitions of a file are taken.
use Rattle.std.proofs.Common.{◌≡◌, ◌≢◌, ℕ, suc, ◌<◌, inl, inr, Bool, true, false, not, ◌||◌, ◌&&◌, eqb, List, [], ◌∷◌, map, length, take, get_or, refl, sym, ap, subst, ◌∙◌, arith}
use Rattle.std.specs.Prelude.{bytes_eq}
use Rattle.std.specs.List.{AllPairs, Contains}
use Rattle.std.proofs.lemmas.Bool.{cases_lt, eq-eqb, eqb-true}
use Rattle.std.proofs.lemmas.List.{get_or_default, get_or-map, get_or-take, length-map, length-take-le}
use Rattle.std.proofs.lemmas.List.Elements.{Contains-get_or}
use Rattle.std.proofs.lemmas.List.Folds.{list_any_at}
use Rattle.std.proofs.lemmas.Slice.Eq.{bytes_eq-Decides}
use Rattle.lgr_text.specs.DefinitionOrder.{IsOrder, are_placed, is_left, is_placed, is_repeated, name_at}
use Rattle.lgr_text.specs.NamedParts.{of_meaning, parts}
use Rattle.lgr_text.specs.Records as lgr
use Rattle.lgr_text.specs.Records.{Definition, IsRule, definition}
use Rattle.lgr_text.specs.declared.records.Definition.{Definition as Held}
use Rattle.lgr_table.specs.Faults.{HasPlace}
use Rattle.lgr_table.proofs.TakenLemmas.{IsNew, names_of}

abbrev pub blank : Definition
blank = record { name = []; meaning = IsRule lgr.Any }

-- the definitions of these numbers
abbrev pub chosen : List Definition → List ℕ → List Definition
chosen ds order = map (λ k. get_or ds k blank) order

both-left : (a b : Bool) → (a && b) ≡ true → a ≡ true
both-left true b e = refl
both-left false b e = absurd (cc)

not-true : (b : Bool) → not b ≡ true → b ≡ false
not-true true e = absurd (cc)
not-true false e = refl

not-false : (b : Bool) → not b ≡ false → b ≡ true
not-false true e = refl
not-false false e = absurd (cc)

-- ---- names

name-is : (raw : List Held) (k : ℕ) → k < length raw → (get_or (map definition raw) k blank).name ≡ name_at raw k
name-is [] k less = absurd (omega (arith, less))
name-is (x ∷ raw) k less =
    ap (λ (d : Definition). d.name) (get_or-map definition (x ∷ raw) k x blank less)
    ∙ sym (get_or-map (λ (d : Held). d.name) (x ∷ raw) k x [] less)

earlier-apart : (raw : List Held) (a b : ℕ) → a < b → b < length raw → is_repeated raw b ≡ false → name_at raw a ≢ name_at raw b
earlier-apart [] a b before less once same = omega (arith, less)
earlier-apart (x ∷ raw) a b before less once same =
    let name = name_at (x ∷ raw) b in
    let here : (get_or (take b (x ∷ raw)) a x).name ≡ name =
    ap (λ (d : Held). d.name) (get_or-take b (x ∷ raw) a x before)
    ∙ sym (get_or-map (λ (d : Held). d.name) (x ∷ raw) a x [] (omega (arith, before, less))) ∙ same in
    let found : is_repeated (x ∷ raw) b ≡ true =
    list_any_at (λ (d : Held). bytes_eq d.name name) (take b (x ∷ raw)) a x
    (omega (arith, before, length-take-le b (x ∷ raw) (omega (arith, less))))
    ((bytes_eq-Decides (get_or (take b (x ∷ raw)) a x).name name).1 here) in
    cc

-- definitions of different numbers have different names
distinct : (raw : List Held) (order : List ℕ) (a b : ℕ) → IsOrder raw order → a < length raw → b < length raw → a ≢ b
    → (get_or (map definition raw) a blank).name ≢ (get_or (map definition raw) b blank).name
distinct raw order a b is a_less b_less other same =
    let names : name_at raw a ≡ name_at raw b = sym (name-is raw a a_less) ∙ same ∙ name-is raw b b_less in
    elim (cases_lt a b) [
      | inl before ↦ earlier-apart raw a b before b_less (is.apart b b_less) names
      | inr from ↦ elim (cases_lt b a) [
        | inl after ↦ earlier-apart raw b a after a_less (is.apart a a_less) (sym names)
        | inr upto ↦ other (omega (arith, from, upto))
      ]
    ]

pub once : (raw : List Held) (order : List ℕ) → IsOrder raw order → AllPairs (λ d e. d.name ≢ e.name) (map definition raw)
once raw order is i j d before less same =
    let ds = map definition raw in
    let j_less : j < length raw = omega (arith, less, length-map raw definition) in
    let i_less : i < length ds = omega (arith, before, less) in
    distinct raw order i j is (omega (arith, before, j_less)) j_less (λ e. omega (arith, before, e))
    (ap (λ (e : Definition). e.name) (get_or_default ds i blank d i_less) ∙ same
    ∙ ap (λ (e : Definition). e.name) (get_or_default ds j d blank less))

-- ---- places

pub within : (raw : List Held) (order : List ℕ) (p : ℕ) → IsOrder raw order → p < length order → get_or order p 0 < length raw
within raw order p is less =
    let here = (is.ordered.each p less).0 in
    omega (arith, here, length-map raw (λ (d : Held). of_meaning raw d.meaning))

apart-places : (raw : List Held) (order : List ℕ) (i k : ℕ) → IsOrder raw order → i < length order → k < i → get_or order k 0 ≢ get_or order i 0
apart-places raw order i k is less before same =
    let number = get_or order i 0 in
    let next = (is.ordered.each i less).1 in
    let left = both-left (is_left (take i order) number) (are_placed (take i order) (get_or (parts raw) number [])) next in
    let none : is_placed (take i order) number ≡ false = not-true (is_placed (take i order) number) left in
    let some : is_placed (take i order) number ≡ true =
    list_any_at (λ j. eqb j number) (take i order) k 0 (omega (arith, before, length-take-le i order (omega (arith, less))))
    (eq-eqb (get_or (take i order) k 0) number (get_or-take i order k 0 before ∙ same)) in
    cc

-- the next one has a name of its own
pub is-new : (raw : List Held) (order : List ℕ) (i : ℕ) → IsOrder raw order → i < length order
    → IsNew (chosen (map definition raw) (take i order)) (get_or (map definition raw) (get_or order i 0) blank).name
is-new raw order i is less k k_less same =
    let ds = map definition raw in
    let f : ℕ → Definition = λ n. get_or ds n blank in
    let size : length (take i order) ≡ i = length-take-le i order (omega (arith, less)) in
    let few : k < length (take i order) =
    omega (arith, k_less, length-map (chosen ds (take i order)) (λ (d : Definition). d.name), length-map (take i order) f) in
    let before : k < i = omega (arith, few, size) in
    let there : get_or (names_of (chosen ds (take i order))) k [] ≡ (f (get_or order k 0)).name =
    get_or-map (λ (d : Definition). d.name) (chosen ds (take i order)) k blank [] (omega (arith, few, length-map (take i order) f))
    ∙ ap (λ (d : Definition). d.name) (get_or-map f (take i order) k 0 blank few ∙ ap f (get_or-take i order k 0 before)) in
    distinct raw order (get_or order k 0) (get_or order i 0) is (within raw order k is (omega (arith, before, less))) (within raw order i is less)
    (apart-places raw order i k is less before) (sym there ∙ same)

placed-at : (order : List ℕ) (k : ℕ) → is_placed order k ≡ true → (p : ℕ) × (p < length order) × (get_or order p 0 ≡ k)
placed-at [] k e = absurd (cc)
placed-at (j ∷ order) k e = by (eqb j k) refl e (placed-at order k)
  where
    by : (b : Bool) → eqb j k ≡ b → (b || is_placed order k) ≡ true
        → (is_placed order k ≡ true → (p : ℕ) × (p < length order) × (get_or order p 0 ≡ k))
        → (p : ℕ) × (p < length (j ∷ order)) × (get_or (j ∷ order) p 0 ≡ k)
    by true here found rest = (0, omega arith, eqb-true j k here)
    by false here found rest = (let later = rest found in (suc later.0, omega (arith, later.1), later.2))

-- each definition has a place
pub has-place : (raw : List Held) (order : List ℕ) (d : Held) → IsOrder raw order → Contains raw d → HasPlace raw order d
has-place raw order d is h =
    let at = placed-at order h.0 (not-false (is_placed order h.0) (is.whole h.0 h.1)) in
    (at.0, at.1, ap (λ (n : ℕ). get_or raw n d) at.2 ∙ h.2)

-- each definition was taken
pub all-chosen : (raw : List Held) (order : List ℕ) (d : Definition) → IsOrder raw order → Contains (map definition raw) d
    → Contains (chosen (map definition raw) order) d
all-chosen raw order d is h =
    let ds = map definition raw in
    let f : ℕ → Definition = λ n. get_or ds n blank in
    let less : h.0 < length raw = omega (arith, h.1, length-map raw definition) in
    let at = placed-at order h.0 (not-false (is_placed order h.0) (is.whole h.0 less)) in
    (at.0, omega (arith, at.1, length-map order f), get_or-map f order at.0 0 d at.1 ∙ ap f at.2 ∙ get_or_default ds h.0 blank d h.1 ∙ h.2)

-- and nothing else
pub chosen-all : (raw : List Held) (order : List ℕ) (d : Definition) → IsOrder raw order → Contains (chosen (map definition raw) order) d
    → Contains (map definition raw) d
chosen-all raw order d is h =
    let ds = map definition raw in
    let f : ℕ → Definition = λ n. get_or ds n blank in
    let less : h.0 < length order = omega (arith, h.1, length-map order f) in
    let number = get_or order h.0 0 in
    let same : get_or ds number blank ≡ d = sym (get_or-map f order h.0 0 d less) ∙ h.2 in
    subst (Contains ds) same (Contains-get_or ds number blank (omega (arith, within raw order h.0 is less, length-map raw definition)))
