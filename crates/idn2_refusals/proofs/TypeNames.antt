-- Names that a table defines are short.
use Rattle.std.proofs.Common.{◌≡◌, ◌≤◌, ◌&&◌, ◌++◌, ℕ, zero, suc, true, List, [], ◌∷◌, length, arith}
use Rattle.std.specs.Prelude.{nat_le, slice_index_or}
use Rattle.std.specs.List.{list_all}
use Rattle.std.proofs.lemmas.Bool.{and_parts}
use Rattle.std.proofs.lemmas.Bool.Decides.{nat_tests}
use Rattle.ruleset_text.specs.Definitions.{Definitions, all_names, type_name, type_names}
use Rattle.ruleset_text.specs.Names.{AreNames, is_letter, is_name, is_name_byte}

few-bytes : (n : ℕ) → nat_le n 31 ≡ true → n ≤ 31
few-bytes n h = grind (arith, nat_tests)

name-short : (name : List ℕ) → is_name name ≡ true → length name ≤ 32
name-short [] h = omega arith
name-short (c ∷ cs) h =
    let all = and_parts (is_letter c && nat_le (length cs) 31) (list_all is_name_byte cs) h in
    let few = few-bytes (length cs) (and_parts (is_letter c) (nat_le (length cs) 31) all.0).1 in
    omega (arith, few)

name_at-short : (names more : List (List ℕ)) (n : ℕ) → AreNames (names ++ more) → length (slice_index_or names n []) ≤ 32
name_at-short [] more n h = omega arith
name_at-short (name ∷ names) more zero h = name-short name h.0
name_at-short (name ∷ names) more (suc n) h = name_at-short names more n h.2

-- so is that of a type
pub type-short : (d : Definitions) (n : ℕ) → AreNames (all_names d) → length (type_name d n) ≤ 32
type-short d n names = name_at-short (type_names d) (d.set_names ++ d.rule_names) n names
