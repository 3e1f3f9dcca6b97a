-- Orders of definitions.
use Rattle.std.proofs.Common.{◌≡◌, ℕ, zero, suc, ◌+◌, ◌<◌, ◌≤◌, ◌⊎◌, inl, inr, Bool, true, false, not, ◌||◌, ◌&&◌, eqb, List, [], ◌∷◌, ◌++◌, length, take, drop, get_or, map, Vec, Global, Option, Some, None, refl, ap, sym, subst, ◌∙◌, length-append, arith}
use Rattle.std.specs.Prelude.{Contains, find, nat_le}
use Rattle.std.specs.List.{flat_map}
use Rattle.std.specs.Option.{option_map, option_or}
use Rattle.std.proofs.Math.Bool.{or-false}
use Rattle.std.proofs.lemmas.Bool.{cases_lt, eqb-true, eq-eqb}
use Rattle.std.proofs.lemmas.List.{drop_more, get_or_append_left, get_or_push, get_or-take, length-take, take-append-le, take_all}
use Rattle.std.proofs.lemmas.List.Folds.{find-append, list_any-append}
use Rattle.lgr_text.specs.DefinitionOrder.{are_placed, is_left, is_next, is_placed, undefined_among, IsEndless, IsOrdered}
use Rattle.lgr_text.specs.declared.named_parts.NamedPart.{NamedPart}

-- ---- tests

either : (a b : Bool) → (a || b) ≡ true → (a ≡ true) ⊎ (b ≡ true)
either true b e = inl refl
either false b e = inr e

neither : (a b : Bool) → (a && b) ≡ false → (a ≡ false) ⊎ (b ≡ false)
neither true b e = inr e
neither false b e = inl refl

second : (a b : Bool) → (a && b) ≡ false → a ≡ true → b ≡ false
second true b e h = e
second false b e h = absurd (cc)

both-left : (a b : Bool) → (a && b) ≡ true → a ≡ true
both-left true b e = refl
both-left false b e = absurd (cc)

both-right : (a b : Bool) → (a && b) ≡ true → b ≡ true
both-right true b e = e
both-right false b e = absurd (cc)

or-true : (b : Bool) → (b || true) ≡ true
or-true true = refl
or-true false = refl

denied : (b : Bool) → not b ≡ false → b ≡ true
denied true e = refl
denied false e = absurd (cc)

-- ---- how many are left

abbrev pub unplaced : Bool → ℕ
unplaced true = 0
unplaced false = 1

abbrev pub left : ℕ → List ℕ → ℕ
left zero order = 0
left (suc n) order = unplaced (is_placed order n) + left n order

placed-more : (order : List ℕ) (x k : ℕ) → is_placed (order ++ x ∷ []) k ≡ (is_placed order k || eqb x k)
placed-more order x k =
    list_any-append (λ j. eqb j k) order (x ∷ []) ∙ ap (λ b. is_placed order k || b) (or-false (eqb x k))

fewer : (a b : Bool) → unplaced (a || b) ≤ unplaced a
fewer true b = omega arith
fewer false true = omega arith
fewer false false = omega arith

one-fewer : (order : List ℕ) (x n : ℕ) → unplaced (is_placed (order ++ x ∷ []) n) ≤ unplaced (is_placed order n)
one-fewer order x n =
    subst (λ b. unplaced b ≤ unplaced (is_placed order n)) (sym (placed-more order x n)) (fewer (is_placed order n) (eqb x n))

left-le : (n : ℕ) (order : List ℕ) (x : ℕ) → left n (order ++ x ∷ []) ≤ left n order
left-le zero order x = omega arith
left-le (suc n) order x = let rest = left-le n order x in let here = one-fewer order x n in omega (arith, rest, here)

pub left-less : (n : ℕ) (order : List ℕ) (x : ℕ) → x < n → is_placed order x ≡ false → left n (order ++ x ∷ []) < left n order
left-less zero order x less none = absurd (omega (arith, less))
left-less (suc n) order x less none = elim (cases_lt x n) [
  | inl below ↦ (let rest = left-less n order x below none in let here = one-fewer order x n in omega (arith, rest, here))
  | inr from ↦
      (let e : x ≡ n = omega (arith, less, from) in
      let old : unplaced (is_placed order n) ≡ 1 = ap unplaced (ap (is_placed order) (sym e) ∙ none) in
      let now : unplaced (is_placed (order ++ x ∷ []) n) ≡ 0 =
      ap unplaced (placed-more order x n ∙ ap (λ b. is_placed order n || b) (eq-eqb x n e) ∙ or-true (is_placed order n)) in
      let rest = left-le n order x in
      omega (arith, rest, old, now))
]

-- ---- one more in the order

pub ordered-none : (all : List (List NamedPart)) → IsOrdered all []
ordered-none all = record { each = λ p less. absurd (omega (arith, less)) }

pub ordered-more : (all : List (List NamedPart)) (order : List ℕ) (k : ℕ) → IsOrdered all order → k < length all → is_next all order k ≡ true
    → IsOrdered all (order ++ k ∷ [])
ordered-more all order k so_far within next = record {
  each = λ p less. elim (cases_lt p (length order)) [
    | inl below ↦
        (let here : get_or (order ++ k ∷ []) p 0 ≡ get_or order p 0 = get_or_append_left order (k ∷ []) 0 p below in
        let front : take p (order ++ k ∷ []) ≡ take p order = take-append-le p order (k ∷ []) (omega (arith, below)) in
        let old = so_far.each p below in (
          subst (λ j. j < length all) (sym here) old.0,
          ap (λ l. is_next all l (get_or (order ++ k ∷ []) p 0)) front ∙ ap (is_next all (take p order)) here ∙ old.1,
        ))
    | inr from ↦
        (let e : length order ≡ p = omega (arith, from, less, length-append order (k ∷ [])) in
        let here : get_or (order ++ k ∷ []) p 0 ≡ k = get_or_push order k 0 p e in
        let front : take p (order ++ k ∷ []) ≡ order =
        take-append-le p order (k ∷ []) (omega (arith, e)) ∙ take_all p order (omega (arith, e)) in (
          subst (λ j. j < length all) (sym here) within,
          ap (λ l. is_next all l (get_or (order ++ k ∷ []) p 0)) front ∙ ap (is_next all order) here ∙ next,
        ))
  ];
}

-- ---- what is placed leads to no circle

placed-at : (order : List ℕ) (k : ℕ) → is_placed order k ≡ true → (p : ℕ) × (p < length order) × (get_or order p 0 ≡ k)
placed-at [] k e = absurd (cc)
placed-at (j ∷ order) k e = elim (either (eqb j k) (is_placed order k) e) [
  | inl here ↦ (0, omega arith, eqb-true j k here)
  | inr later ↦ (let rest = placed-at order k later in (suc rest.0, omega (arith, rest.1), rest.2))
]

placed-part : (order : List ℕ) (named : List NamedPart) (i : ℕ) (p : NamedPart) → are_placed order named ≡ true
    → i < length named → get_or named i p ≡ p → is_placed order p.number ≡ true
placed-part order [] i p e less is = absurd (omega (arith, less))
placed-part order (q ∷ named) zero p e less is =
    ap (λ (r : NamedPart). is_placed order r.number) (sym is) ∙ both-left (is_placed order q.number) (are_placed order named) e
placed-part order (q ∷ named) (suc i) p e less is =
    placed-part order named i p (both-right (is_placed order q.number) (are_placed order named) e) (omega (arith, less)) is

placed-ends : (all : List (List NamedPart)) (order : List ℕ) (k : ℕ) → IsOrdered all order → (endless : IsEndless all k) → (b p : ℕ)
    → p < b → p < length order → endless.among (get_or order p 0) ≡ true → ⊥
placed-ends all order k ordered endless zero p less within a = omega (arith, less)
placed-ends all order k ordered endless (suc b) p less within a =
    let j = get_or order p 0 in
    let here = ordered.each p within in
    let next = endless.goes_on j here.0 a in
    let named = get_or all j [] in
    let are : are_placed (take p order) named ≡ true = both-right (is_left (take p order) j) (are_placed (take p order) named) here.1 in
    let placed = placed-part (take p order) named next.1.0 next.0 are next.1.1 next.1.2 in
    let at = placed-at (take p order) next.0.number placed in
    let before : at.0 < p = omega (arith, at.1, length-take p order) in
    let same : get_or order at.0 0 ≡ next.0.number = sym (get_or-take p order at.0 0 before) ∙ at.2 in
    placed-ends all order k ordered endless b at.0 (omega (arith, less, before)) (omega (arith, before, within))
    (ap endless.among same ∙ next.2)

pub placed-not-endless : (all : List (List NamedPart)) (order : List ℕ) (k : ℕ) → IsOrdered all order → is_left order k ≡ false → ¬ IsEndless all k
placed-not-endless all order k ordered is endless =
    let at = placed-at order k (denied (is_placed order k) is) in
    placed-ends all order k ordered endless (suc at.0) at.0 (omega arith) at.1 (ap endless.among at.2 ∙ endless.begins)

-- ---- what is left when nothing is next

left-part : (order : List ℕ) (named : List NamedPart) → are_placed order named ≡ false
    → (p : NamedPart) × Contains named p × (is_placed order p.number ≡ false)
left-part order [] e = absurd (cc)
left-part order (q ∷ named) e = elim (neither (is_placed order q.number) (are_placed order named) e) [
  | inl here ↦ (q, (0, omega arith, refl), here)
  | inr later ↦
      (let rest = left-part order named later in (rest.0, (suc rest.1.0, omega (arith, rest.1.1), rest.1.2), rest.2))
]

pub left-endless : (all : List (List NamedPart)) (order : List ℕ) (k : ℕ) → ((j : ℕ) → j < length all → is_next all order j ≡ false)
    → is_left order k ≡ true → IsEndless all k
left-endless all order k none is = record {
  among = is_left order;
  begins = is;
  goes_on = λ j less a.
      let stuck : are_placed order (get_or all j []) ≡ false = second (is_left order j) (are_placed order (get_or all j [])) (none j less) a in
      let found = left-part order (get_or all j []) stuck in
      (found.0, found.1, ap not found.2);
}

-- ---- names that nothing defines

mapped-or : (f : NamedPart → ℕ) (o q : Option NamedPart) → option_map f (option_or o q) ≡ option_or (option_map f o) (option_map f q)
mapped-or f None q = refl
mapped-or f (Some p) q = refl

pub undefined-join : (count : ℕ) (xs ys : List NamedPart) →
    undefined_among count (xs ++ ys) ≡ option_or (undefined_among count xs) (undefined_among count ys)
undefined-join count xs ys =
    ap (option_map (λ p. p.line)) (find-append (λ (p : NamedPart). nat_le count p.number) xs ys)
    ∙ mapped-or (λ p. p.line) (find (λ p. nat_le count p.number) xs) (find (λ p. nat_le count p.number) ys)

abbrev pub items_of : Vec NamedPart Global → List NamedPart
items_of p = p.items

-- what all of them name
abbrev pub all_of : List (Vec NamedPart Global) → List NamedPart
all_of ps = flat_map (λ named. named) (map items_of ps)

pub undefined-step : (count : ℕ) (ps : List (Vec NamedPart Global)) (i : ℕ) (p : Vec NamedPart Global) → i < length ps → p ≡ get_or ps i p →
    undefined_among count (all_of (drop i ps)) ≡ option_or (undefined_among count p.items) (undefined_among count (all_of (drop (i + 1) ps)))
undefined-step count ps i p less is =
    ap (λ l. undefined_among count (all_of l)) (drop_more ps i p less)
    ∙ ap (λ q. undefined_among count (all_of (q ∷ drop (i + 1) ps))) (sym is)
    ∙ undefined-join count p.items (all_of (drop (i + 1) ps))

pub not-placed : (a b : Bool) → (not a && b) ≡ true → a ≡ false
not-placed true b e = absurd (cc)
not-placed false b e = refl

pub left-false : (a b : Bool) → a ≡ false → (a && b) ≡ false
left-false a b e = ap (λ c. c && b) e

pub right-false : (a b : Bool) → b ≡ false → (a && b) ≡ false
right-false true b e = e
right-false false b e = refl
