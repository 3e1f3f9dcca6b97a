-- Names and their numbers.
use Rattle.std.proofs.Common.{◌≡◌, ℕ, zero, suc, ◌+◌, ◌<◌, Bool, true, false, not, ◌||◌, cond, eqb, List, [], ◌∷◌, ◌++◌, length, map, Option, Some, None, refl, sym, ap, eq-eqb, ◌∙◌, arith}
use Rattle.std.specs.Prelude.{bytes_eq, codes, slice_index_or}
use Rattle.std.specs.List.{AllByRecursion, All, AllPairs}
use Rattle.std.specs.Option.{option_map}
use Rattle.std.proofs.lemmas.Bool.{and_parts, eqb-true, ne_eqb, false_from_ne_true}
use Rattle.std.proofs.lemmas.Slice.Eq.{bytes_eq-Decides}
use Rattle.std.proofs.Math.ListN.{get_or-append}
use Rattle.ruleset_text.specs.declared.named_condition.NamedCondition.{NamedCondition}
use Rattle.ruleset_text.specs.Definitions.{Definitions, type_name, type_names, type_number}
use Rattle.ruleset_text.specs.Entries.{Mapped}
use Rattle.ruleset_text.specs.EntryText.{MayHaveType}
use Rattle.ruleset_text.specs.Names.{is_name, is_one_of, number_of, predefined_types, AreNames}
use Rattle.variant_table.specs.Forms.{knows_rule, knows_type, knows_names, knows_all, numbered, name_at, named, source_mark, variant_mark, type_by, variant_by, entry_of, is_type, unmarked_name, mapped_by, as_written, normal_by, normal}
use Rattle.variant_table.specs.WellFormed.{HasItsType}

-- ---- one name

pub number_below : (names : List (List ℕ)) (name : List ℕ) → is_one_of names name ≡ true → number_of names name < length names
unfolding number_of
number_below [] name h = absurd cc
number_below (x ∷ names) name h = by_first (bytes_eq x name) h (number_below names name)
  where
    by_first : (b : Bool) → (b || is_one_of names name) ≡ true → (is_one_of names name ≡ true → number_of names name < length names) → cond (not b) (1 + number_of names name) 0 < length (x ∷ names)
    by_first true h rest = omega arith
    by_first false h rest = omega (arith, rest h)

-- the name of its number
pub name_back : (names : List (List ℕ)) (name : List ℕ) → is_one_of names name ≡ true → name_at names (number_of names name) ≡ name
unfolding number_of
name_back [] name h = absurd cc
name_back (x ∷ names) name h = by_first (bytes_eq x name) refl h (name_back names name)
  where
    by_first : (b : Bool) → bytes_eq x name ≡ b → (b || is_one_of names name) ≡ true → (is_one_of names name ≡ true → name_at names (number_of names name) ≡ name)
        → name_at (x ∷ names) (cond (not b) (1 + number_of names name) 0) ≡ name
    by_first true e h rest = (bytes_eq-Decides x name).0 e
    by_first false e h rest = ap (name_at (x ∷ names)) (let next : 1 + number_of names name ≡ suc (number_of names name) = omega arith in next) ∙ rest h

same : (name : List ℕ) → bytes_eq name name ≡ true
same name = (bytes_eq-Decides name name).1 refl

not_at : (name : List ℕ) (names : List (List ℕ)) (n : ℕ) → AllByRecursion (λ other. name ≡ other → ⊥) names → n < length names → name ≡ name_at names n → ⊥
not_at name [] n h l e = absurd (omega (arith, l))
not_at name (x ∷ xs) zero h l e = h.0 e
not_at name (x ∷ xs) (suc n) h l e = not_at name xs n h.1 (omega (arith, l)) e

-- the number of its name
pub number_back : (names : List (List ℕ)) (n : ℕ) → AreNames names → n < length names → number_of names (name_at names n) ≡ n
unfolding number_of
number_back [] n h l = absurd (omega (arith, l))
number_back (x ∷ xs) zero h l = ap (λ b. cond (not b) (1 + number_of xs x) 0) (same x)
number_back (x ∷ xs) (suc n) h l =
    let name : List ℕ = name_at xs n in
    let other : bytes_eq x name ≡ false = false_from_ne_true (bytes_eq x name) (λ e. not_at x xs n h.1 (omega (arith, l)) ((bytes_eq-Decides x name).0 e)) in
    let more : 1 + n ≡ suc n = omega arith in
    ap (λ b. cond (not b) (1 + number_of xs name) 0) other ∙ ap (λ k. 1 + k) (number_back xs n h.2 (omega (arith, l))) ∙ more

pub is_name-at : (names : List (List ℕ)) (n : ℕ) → AreNames names → n < length names → is_name (name_at names n) ≡ true
is_name-at [] n h l = absurd (omega (arith, l))
is_name-at (x ∷ xs) zero h l = h.0
is_name-at (x ∷ xs) (suc n) h l = is_name-at xs n h.2 (omega (arith, l))

pub one_of-at : (names : List (List ℕ)) (n : ℕ) → n < length names → is_one_of names (name_at names n) ≡ true
one_of-at [] n l = absurd (omega (arith, l))
one_of-at (x ∷ xs) zero l = ap (λ b. b || is_one_of xs x) (same x)
one_of-at (x ∷ xs) (suc n) l = by_first (bytes_eq x (name_at xs n)) (one_of-at xs n (omega (arith, l)))
  where
    by_first : (b : Bool) → is_one_of xs (name_at xs n) ≡ true → (b || is_one_of xs (name_at xs n)) ≡ true
    by_first true h = refl
    by_first false h = h

-- more names after them change no name
pub name_stays : (names more : List (List ℕ)) (n : ℕ) → n < length names → name_at (names ++ more) n ≡ name_at names n
name_stays names more n l = get_or-append names more [] n l

-- ---- names one after the other

pub names-front : (names more : List (List ℕ)) → AreNames (names ++ more) → AreNames names
names-front [] more h = tt
names-front (name ∷ names) more h = (h.0, apart-front name names more h.1, names-front names more h.2)
  where
    apart-front : (name : List ℕ) (names more : List (List ℕ)) → AllByRecursion (λ other. name ≡ other → ⊥) (names ++ more) → AllByRecursion (λ other. name ≡ other → ⊥) names
    apart-front name [] more h = tt
    apart-front name (other ∷ names) more h = (h.0, apart-front name names more h.1)

pub names-after : (names more : List (List ℕ)) → AreNames (names ++ more) → AreNames more
names-after [] more h = h
names-after (name ∷ names) more h = names-after names more h.2

-- ---- pairs

pub pairs_head : {X : Type 0} (R : X → X → Type 0) (x : X) (xs : List X) → AllPairs R (x ∷ xs) → All (R x) xs
pairs_head R x xs h = λ k d l. h 0 (suc k) d (omega arith) (omega (arith, l))

pub pairs_tail : {X : Type 0} (R : X → X → Type 0) (x : X) (xs : List X) → AllPairs R (x ∷ xs) → AllPairs R xs
pairs_tail R x xs h = λ i j d l k. h (suc i) (suc j) d (omega (arith, l)) (omega (arith, k))

-- ---- a source or a variant

rule_back : (d : Definitions) (c : Option NamedCondition) → knows_rule d c ≡ true → option_map (named d) (option_map (numbered d) c) ≡ c
rule_back d None h = refl
rule_back d (Some c) h = ap (λ x. Some (record c { rule = x })) (name_back d.rule_names c.rule h)

-- ---- types

-- '!' stands for the type of this number exactly where the name is that of the predefined one
mark_is : (d : Definitions) (mark : ℕ) (name : List ℕ) → mark < 2 → eqb (type_number d name) mark ≡ bytes_eq (slice_index_or predefined_types mark []) name
unfolding number_of
mark_is d zero name l = by (bytes_eq (codes "invalid") name) (number_of (codes "blocked" ∷ codes "allocatable" ∷ codes "activated" ∷ codes "valid" ∷ d.types) name)
  where
    by : (b : Bool) (n : ℕ) → eqb (cond (not b) (1 + n) 0) 0 ≡ b
    by true n = refl
    by false n = ne_eqb (1 + n) 0 (λ e. omega (arith, e))
mark_is d (suc zero) name l =
    by (bytes_eq (codes "invalid") name) (bytes_eq (codes "blocked") name) (number_of (codes "allocatable" ∷ codes "activated" ∷ codes "valid" ∷ d.types) name)
    (λ e. sym (ap (bytes_eq (codes "blocked")) ((bytes_eq-Decides (codes "invalid") name).0 e)))
  where
    by : (b c : Bool) (n : ℕ) → (b ≡ true → c ≡ false) → eqb (cond (not b) (1 + cond (not c) (1 + n) 0) 0) 1 ≡ c
    by true c n h = sym (h refl)
    by false true n h = refl
    by false false n h = ne_eqb (1 + (1 + n)) 1 (λ e. omega (arith, e))
mark_is d (suc (suc mark)) name l = absurd (omega (arith, l))

-- what is marked has no type beside its mark
abbrev pub MayBeTyped : Mapped → Type 0
MayBeTyped m = MayHaveType m.marked m.type_name

module _ (d : Definitions) (mark : ℕ) (is_mark : mark < 2) (points : List ℕ) where
  abbrev written : Option ℕ → Option NamedCondition → Mapped
  written type c = record { marked = is_type mark type; points = points; type_name = unmarked_name mark d type; condition = c }

  abbrev from_line : Bool → Option (List ℕ) → Option NamedCondition → Mapped
  from_line marked name c = record { marked = marked; points = points; type_name = name; condition = c }

  type_back : (marked : Bool) (name : Option (List ℕ)) (c : Option NamedCondition) → MayHaveType marked name → knows_type d name ≡ true → written (type_by mark d marked name) c ≡ normal_by mark (from_line marked name c)
  type_back true None c may known =
      ap (λ b. from_line b (cond b None (Some (type_name d mark))) c) (eq-eqb mark mark refl)
  type_back true (Some name) c may known = absurd (let f : true ≡ false = may.0 in cc)
  type_back false None c may known = refl
  type_back false (Some name) c may known =
      let n : ℕ = type_number d name in
      ap (λ b. from_line b (cond b None (Some (type_name d n))) c) (mark_is d mark name is_mark) ∙ by (bytes_eq (slice_index_or predefined_types mark []) name)
    where
      by : (b : Bool) → from_line b (cond b None (Some (type_name d (type_number d name)))) c ≡ cond b (from_line true None c) (from_line false (Some name) c)
      by true = refl
      by false = ap (λ x. from_line false (Some x) c) (name_back (type_names d) name known)

-- what is defined is written by its names
pub mapped_back : (d : Definitions) (mark : ℕ) (m : Mapped) → mark < 2 → MayBeTyped m → knows_names d m ≡ true → mapped_by mark d (variant_by mark d m) ≡ normal_by mark m
mapped_back d mark m l may h =
    let p = and_parts (knows_type d m.type_name) (knows_rule d m.condition) h in
    ap (written d mark l m.points (type_by mark d m.marked m.type_name)) (rule_back d m.condition p.1) ∙ type_back d mark l m.points m.marked m.type_name m.condition may p.0

variants_back : (d : Definitions) (variants : List Mapped) → AllByRecursion MayBeTyped variants → knows_all d variants ≡ true
    → map (mapped_by variant_mark d) (map (variant_by variant_mark d) variants) ≡ map (normal_by variant_mark) variants
variants_back d [] may h = refl
variants_back d (m ∷ variants) may h =
    let p = and_parts (knows_names d m) (knows_all d variants) h in
    ap (λ x. x ∷ map (mapped_by variant_mark d) (map (variant_by variant_mark d) variants)) (mapped_back d variant_mark m (omega arith) may.0 p.0)
    ∙ ap (λ xs. normal_by variant_mark m ∷ xs) (variants_back d variants may.1 p.1)

pub all_back : (d : Definitions) (m : Mapped) (variants : List Mapped) → AllByRecursion MayBeTyped (m ∷ variants) → knows_all d (m ∷ variants) ≡ true → as_written d (entry_of d (m ∷ variants)) ≡ normal (m ∷ variants)
all_back d m variants may h =
    let p = and_parts (knows_names d m) (knows_all d variants) h in
    ap (λ x. x ∷ map (mapped_by variant_mark d) (map (variant_by variant_mark d) variants)) (mapped_back d source_mark m (omega arith) may.0 p.0)
    ∙ ap (λ xs. normal_by source_mark m ∷ xs) (variants_back d variants may.1 p.1)

-- what is written by its names is read so
pub type_read : (d : Definitions) (mark : ℕ) (type : Option ℕ) → AreNames (type_names d) → HasItsType d type → type_by mark d (is_type mark type) (unmarked_name mark d type) ≡ type
type_read d mark None are h = refl
type_read d mark (Some n) are h = by (eqb n mark) refl
  where
    by : (b : Bool) → eqb n mark ≡ b → type_by mark d b (cond b None (Some (type_name d n))) ≡ Some n
    by true e = ap (λ k. Some k) (sym (eqb-true n mark e))
    by false e = ap (λ k. Some k) (number_back (type_names d) n are h)
