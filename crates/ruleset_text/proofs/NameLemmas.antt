-- The number of a name among names, and how long names are.
use Rattle.std.proofs.Common.{◌≡◌, ℕ, zero, suc, ◌+◌, ◌-◌, ◌<◌, ◌≤◌, Bool, true, false, not, cond, ◌&&◌, ◌||◌, leb, List, [], ◌∷◌, ◌++◌, length, take, drop, get_or, refl, sym, ap, ◌∙◌, arith}
use Rattle.std.specs.Prelude.{bytes_eq, nat_le, slice_index_or, IsTrue}
use Rattle.std.specs.List.{position_or_len, list_all}
use Rattle.std.proofs.lemmas.List.{drop_more, drop_all, take_rest}
use Rattle.std.proofs.lemmas.Bool.{le-leb}
use Rattle.std.proofs.lemmas.Bool.Decides.{nat_tests}
use Rattle.ruleset_text.specs.Definitions.{Definitions, rule_name, type_names}
use Rattle.ruleset_text.specs.Names.{AreNames, is_letter, is_name_byte, is_name, is_one_of, number_of}
use Rattle.ruleset_text.specs.WellFormed.{AreDefinitions}

step : (names : List (List ℕ)) (bytes name : List ℕ) (i : ℕ) → i < length names → name ≡ get_or names i name
    → number_of (drop i names) bytes ≡ cond (not (bytes_eq name bytes)) (1 + number_of (drop (i + 1) names) bytes) 0
unfolding number_of
step names bytes name i l e =
    ap (λ l. position_or_len (λ other. bytes_eq other bytes) l) (drop_more names i name l)
    ∙ ap (λ n. cond (not (bytes_eq n bytes)) (1 + number_of (drop (i + 1) names) bytes) 0) (sym e)

pub found-here : (names : List (List ℕ)) (bytes name : List ℕ) (i : ℕ) → i < length names → name ≡ get_or names i name → bytes_eq name bytes ≡ true
    → number_of (drop i names) bytes + i ≡ number_of names bytes → i ≡ number_of names bytes
found-here names bytes name i l e same before =
    let zero : number_of (drop i names) bytes ≡ 0 = step names bytes name i l e ∙ ap (λ b. cond (not b) (1 + number_of (drop (i + 1) names) bytes) 0) same in
    omega (arith, zero, before)

pub found-later : (names : List (List ℕ)) (bytes name : List ℕ) (i : ℕ) → i < length names → name ≡ get_or names i name → bytes_eq name bytes ≡ false
    → number_of (drop i names) bytes + i ≡ number_of names bytes → number_of (drop (i + 1) names) bytes + (i + 1) ≡ number_of names bytes
found-later names bytes name i l e other before =
    let more : number_of (drop i names) bytes ≡ 1 + number_of (drop (i + 1) names) bytes = step names bytes name i l e ∙ ap (λ b. cond (not b) (1 + number_of (drop (i + 1) names) bytes) 0) other in
    omega (arith, more, before)

empty : (bytes : List ℕ) → number_of [] bytes ≡ 0
unfolding number_of
empty bytes = omega arith

pub found-nowhere : (names : List (List ℕ)) (bytes : List ℕ) (i : ℕ) → i ≡ length names → number_of (drop i names) bytes + i ≡ number_of names bytes → length names ≡ number_of names bytes
found-nowhere names bytes i l before =
    let none : number_of (drop i names) bytes ≡ 0 = ap (λ l. number_of l bytes) (drop_all i names (omega (arith, l))) ∙ empty bytes in
    omega (arith, none, before, l)

-- a letter, and at most 31 further bytes
pub long-name : (bytes : List ℕ) → 1 ≤ length bytes → is_letter (get_or bytes 0 0) ≡ true → length (take (length bytes - 1) (drop 1 bytes)) ≤ 31
    → list_all is_name_byte (take (length bytes - 1) (drop 1 bytes)) ≡ is_name bytes
long-name [] l letter few = absurd (omega (arith, l))
long-name (c ∷ cs) l letter few =
    let rest : take (length (c ∷ cs) - 1) (drop 1 (c ∷ cs)) ≡ cs = take_rest (c ∷ cs) 1 in
    let short : leb (length cs) 31 ≡ true = le-leb (length cs) 31 (omega (arith, few, ap length rest)) in
    ap (list_all is_name_byte) rest
    ∙ sym (ap (λ b. b && leb (length cs) 31 && list_all is_name_byte cs) letter ∙ ap (λ b. b && list_all is_name_byte cs) short)

-- a name among names and others
pub one_of-append : (xs ys : List (List ℕ)) (name : List ℕ) → is_one_of (xs ++ ys) name ≡ (is_one_of xs name || is_one_of ys name)
one_of-append [] ys name = refl
one_of-append (x ∷ xs) ys name = ap (λ b. bytes_eq x name || b) (one_of-append xs ys name) ∙ by (bytes_eq x name)
  where
    by : (b : Bool) → (b || (is_one_of xs name || is_one_of ys name)) ≡ ((b || is_one_of xs name) || is_one_of ys name)
    by true = refl
    by false = refl

-- ---- how long names are

both : (a b : Bool) → IsTrue (a && b) → IsTrue a × IsTrue b
both true b h = (refl, h)
both false b h = absurd (let clash : false ≡ true = h in cc)

pub name-short : (name : List ℕ) → IsTrue (is_name name) → length name ≤ 32
name-short [] is = omega arith
name-short (c ∷ cs) is =
    let rest = (both (is_letter c && nat_le (length cs) 31) (list_all is_name_byte cs) is).0 in
    let few : nat_le (length cs) 31 ≡ true = (both (is_letter c) (nat_le (length cs) 31) rest).1 in
    grind (arith, nat_tests)

name_at-short : (names : List (List ℕ)) (n : ℕ) → AreNames names → length (slice_index_or names n []) ≤ 32
name_at-short [] n are = omega arith
name_at-short (name ∷ names) zero are = name-short name are.0
name_at-short (name ∷ names) (suc n) are = name_at-short names n are.2

pub names_after : (xs ys : List (List ℕ)) → AreNames (xs ++ ys) → AreNames ys
names_after [] ys are = are
names_after (x ∷ xs) ys are = names_after xs ys are.2

pub rule_name-short : (d : Definitions) (n : ℕ) → AreDefinitions d → length (rule_name d n) ≤ 32
rule_name-short d n are = name_at-short d.rule_names n (names_after d.set_names d.rule_names (names_after (type_names d) (d.set_names ++ d.rule_names) are.names))
