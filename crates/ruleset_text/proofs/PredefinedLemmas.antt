-- The predefined types stand before the others.
use Rattle.std.proofs.Common.{◌≡◌, ℕ, ◌+◌, Bool, true, false, not, cond, ◌||◌, nat_lt, List, ◌∷◌, ◌++◌, refl, sym, ap, ◌∙◌, arith}
use Rattle.std.specs.Prelude.{bytes_eq, codes}
use Rattle.std.specs.List.{position_or_len}
use Rattle.std.proofs.lemmas.Slice.Eq.{bytes_eq-Decides}
use Rattle.ruleset_text.specs.Names.{is_one_of, number_of, predefined_types}
use Rattle.ruleset_text.specs.inner.PredefinedTypes.{predefined_by}

same_test : (a b : List ℕ) → bytes_eq a b ≡ bytes_eq b a
same_test a b = by (bytes_eq a b) (bytes_eq b a) refl refl
  where
    by : (s t : Bool) → bytes_eq a b ≡ s → bytes_eq b a ≡ t → bytes_eq a b ≡ bytes_eq b a
    by true true e f = e ∙ sym f
    by false false e f = e ∙ sym f
    by true false e f = let bad : true ≡ false = sym ((bytes_eq-Decides b a).1 (sym ((bytes_eq-Decides a b).0 e))) ∙ f in absurd cc
    by false true e f = let bad : true ≡ false = sym ((bytes_eq-Decides a b).1 (sym ((bytes_eq-Decides b a).0 f))) ∙ e in absurd cc

-- the names that stand before a name, and the number of those after them
number_step : (x : List ℕ) (names : List (List ℕ)) (name : List ℕ) → number_of (x ∷ names) name ≡ cond (bytes_eq name x) 0 (number_of names name + 1)
unfolding number_of
number_step x names name =
    ap (λ b. cond (not b) (1 + position_or_len (λ other. bytes_eq other name) names) 0) (same_test x name) ∙ by (bytes_eq name x)
  where
    by : (b : Bool) → cond (not b) (1 + position_or_len (λ other. bytes_eq other name) names) 0 ≡ cond b 0 (position_or_len (λ other. bytes_eq other name) names + 1)
    by true = refl
    by false = omega arith

-- after the predefined ones
pub predefined_first : (types : List (List ℕ)) (name : List ℕ) → number_of (predefined_types ++ types) name ≡ cond (nat_lt (predefined_by name) 5) (predefined_by name) (5 + number_of types name)
predefined_first types name =
    number_step (codes "invalid") _ name
    ∙ ap (λ n. cond (bytes_eq name (codes "invalid")) 0 (n + 1)) (number_step (codes "blocked") _ name
    ∙ ap (λ n. cond (bytes_eq name (codes "blocked")) 0 (n + 1)) (number_step (codes "allocatable") _ name
    ∙ ap (λ n. cond (bytes_eq name (codes "allocatable")) 0 (n + 1)) (number_step (codes "activated") _ name
    ∙ ap (λ n. cond (bytes_eq name (codes "activated")) 0 (n + 1)) (number_step (codes "valid") types name))))
    ∙ by (bytes_eq name (codes "invalid")) (bytes_eq name (codes "blocked")) (bytes_eq name (codes "allocatable")) (bytes_eq name (codes "activated")) (bytes_eq name (codes "valid"))
  where
    by : (a b c d e : Bool) → cond a 0 (cond b 0 (cond c 0 (cond d 0 (cond e 0 (number_of types name + 1) + 1) + 1) + 1) + 1)
        ≡ cond (nat_lt (cond a 0 (cond b 1 (cond c 2 (cond d 3 (cond e 4 5))))) 5) (cond a 0 (cond b 1 (cond c 2 (cond d 3 (cond e 4 5))))) (5 + number_of types name)
    by true b c d e = refl
    by false true c d e = refl
    by false false true d e = refl
    by false false false true e = refl
    by false false false false true = refl
    by false false false false false = omega arith

-- the name of a type is that of a predefined one, or of one of the others
pub predefined_known : (types : List (List ℕ)) (name : List ℕ) → is_one_of (predefined_types ++ types) name ≡ (nat_lt (predefined_by name) 5 || is_one_of types name)
predefined_known types name =
    let a = codes "invalid" in
    let b = codes "blocked" in
    let c = codes "allocatable" in
    let d = codes "activated" in
    let e = codes "valid" in
    let rest = is_one_of types name in
    ap (λ t. t || (bytes_eq b name || (bytes_eq c name || (bytes_eq d name || (bytes_eq e name || rest))))) (same_test a name)
    ∙ ap (λ t. bytes_eq name a || (t || (bytes_eq c name || (bytes_eq d name || (bytes_eq e name || rest))))) (same_test b name)
    ∙ ap (λ t. bytes_eq name a || (bytes_eq name b || (t || (bytes_eq d name || (bytes_eq e name || rest))))) (same_test c name)
    ∙ ap (λ t. bytes_eq name a || (bytes_eq name b || (bytes_eq name c || (t || (bytes_eq e name || rest))))) (same_test d name)
    ∙ ap (λ t. bytes_eq name a || (bytes_eq name b || (bytes_eq name c || (bytes_eq name d || (t || rest))))) (same_test e name)
    ∙ by (bytes_eq name a) (bytes_eq name b) (bytes_eq name c) (bytes_eq name d) (bytes_eq name e)
  where
    by : (a b c d e : Bool) → (a || (b || (c || (d || (e || is_one_of types name)))))
        ≡ (nat_lt (cond a 0 (cond b 1 (cond c 2 (cond d 3 (cond e 4 5))))) 5 || is_one_of types name)
    by true b c d e = refl
    by false true c d e = refl
    by false false true d e = refl
    by false false false true e = refl
    by false false false false true = refl
    by false false false false false = refl
