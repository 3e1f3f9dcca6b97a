-- What a reading of a ruleset records, as its table has it, and what triggers ask of it in both.
use Rattle.std.proofs.Common.{◌≡◌, ◌↔◌, ◌⊎◌, inl, inr, ℕ, zero, suc, ◌+◌, ◌<◌, ◌^◌, Bool, true, false, ◌&&◌, ◌||◌, cond, Option, Some, None, List, [], ◌∷◌, ◌++◌, length, map, get_or, refl, sym, ap, subst, ◌∙◌, arith}
use Rattle.std.specs.Prelude.{◌==◌, IsSome, bytes_eq, filter, is_some, nat_lt, slice_index_or, unwrap_or, if◌then◌else◌}
use Rattle.std.specs.Int.{bit_at}
use Rattle.std.specs.Int.RustNames.{bit_or}
use Rattle.std.specs.List.{Contains, fold, list_all, list_any}
use Rattle.std.specs.Option.{option_map}
use Rattle.std.proofs.lemmas.Bool.Decides.{Decides-eqb}
use Rattle.std.proofs.lemmas.Bool.{and_parts, cases_eq, cases_lt, false_from_ne_true, lt-ltb, ltb-true}
use Rattle.std.proofs.lemmas.List.Elements.{Contains-append_cases, Contains-append_left, Contains-append_right}
use Rattle.std.proofs.lemmas.List.Quantifiers.{position-Some}
use Rattle.std.proofs.lemmas.Nat.Bits.{bit_at-lt, bit_at-pow_other, bit_at-pow_same, bit_at-zero, bit_at_or}
use Rattle.std.proofs.lemmas.Option.{same_Some}
use Rattle.std.proofs.lemmas.Slice.Eq.{bytes_eq-Decides}
use Rattle.reading_kinds.proofs.ListMembers.{Contains-cases, Contains-filter, Contains-head, Contains-later, Contains-none, Contains-one}
use Rattle.variant_dispositions.specs.Actions as of_table
use Rattle.variant_dispositions.specs.Kinds as table_kinds
use Rattle.variant_dispositions.specs.Kinds.{Kind, kind_of_variant}
use Rattle.variant_dispositions.specs.Kinds.Kind.{Typed, Unmapped as TableUnmapped, Untyped}
use Rattle.variant_dispositions.proofs.MemberLemmas.{Contains-map, all-told, any-told, bool_same}
use Rattle.ruleset_text.specs.declared.action.TriggerKind.{TriggerKind}
use Rattle.ruleset_text.specs.declared.action.TriggerKind.TheVariants as ask
use Rattle.ruleset_text.specs.Actions.{NamedTrigger}
use Rattle.ruleset_text.specs.Definitions.{Definitions, type_name, type_names}
use Rattle.ruleset_text.specs.Definitions as of_definitions
use Rattle.ruleset_text.specs.Names.{is_one_of, number_of, predefined_types}
use Rattle.ruleset_text.specs.WellFormed.{AreDefinitions}
use Rattle.variant_table.proofs.NumberLemmas.{name_back, names-front, number_back, number_below, one_of-at}
use Rattle.valid_labels.specs.Actions.{trigger_by, trigger_of, with_types}
use Rattle.lgr_text.specs.ActionNames.{each_once, with_name}
use Rattle.lgr_text.specs.Dispositions.{are_as_asked, has_asked}
use Rattle.lgr_text.specs.Dispositions as of_file
use Rattle.lgr_text.specs.Readings.{Mapped, Recorded, Unmapped}
use Rattle.lgr_text.specs.Records.{Trigger}
use Rattle.lgr_table.specs.Numbers.{Numbering, all_types, is_same, trigger_types, type_number, types_with}
use Rattle.lgr_table.specs.Tables.{called_trigger, called_type}

-- ---- types by their numbers

same-is : (a b : Option (List ℕ)) → is_same a b ≡ true → a ≡ b
same-is None None e = refl
same-is None (Some name) e = absurd (let clash : false ≡ true = e in cc)
same-is (Some name) None e = absurd (let clash : false ≡ true = e in cc)
same-is (Some name) (Some other) e = ap (λ (x : List ℕ). Some x) ((bytes_eq-Decides name other).0 e)

same-itself : (name : List ℕ) → is_same (Some name) (Some name) ≡ true
same-itself name = (bytes_eq-Decides name name).1 refl

-- a number is that of one type
pub one-number : (n : Numbering) (a b : Option (List ℕ)) (k : ℕ) → type_number n a ≡ Some k → type_number n b ≡ Some k → a ≡ b
one-number n a b k e f =
    let one = position-Some (is_same a) (all_types n) k None e in
    let other = position-Some (is_same b) (all_types n) k None f in
    same-is a (get_or (all_types n) k None) one.1 ∙ sym (same-is b (get_or (all_types n) k None) other.1)

pub number-within : (n : Numbering) (a : Option (List ℕ)) (k : ℕ) → type_number n a ≡ Some k → k < 5 + length n.types
number-within n a k e = let within = position-Some (is_same a) (all_types n) k None e in omega (arith, within)

predefined-there : (types : List (Option (List ℕ))) (k : ℕ) → k < 5 → get_or (types_with types) k None ≡ Some (slice_index_or predefined_types k [])
predefined-there types zero less = refl
predefined-there types (suc zero) less = refl
predefined-there types (suc (suc zero)) less = refl
predefined-there types (suc (suc (suc zero))) less = refl
predefined-there types (suc (suc (suc (suc zero)))) less = refl
predefined-there types (suc (suc (suc (suc (suc k))))) less = absurd (omega (arith, less))

-- the types numbered below 5 are the predefined ones
pub predefined-number : (n : Numbering) (name : List ℕ) (k : ℕ) → type_number n (Some name) ≡ Some k → is_one_of predefined_types name ≡ nat_lt k 5
predefined-number n name k e =
    let found = position-Some (is_same (Some name)) (all_types n) k None e in
    let there : is_one_of predefined_types name ≡ true → nat_lt k 5 ≡ true = λ h.
    let j : ℕ = number_of predefined_types name in
    let below : j < 5 = number_below predefined_types name h in
    let its : get_or (all_types n) j None ≡ Some name = predefined-there n.types j below ∙ ap (λ (x : List ℕ). Some x) (name_back predefined_types name h) in
    elim (cases_lt j k) [
      | inl before ↦ absurd (
          let other : is_same (Some name) (get_or (all_types n) j None) ≡ false = found.2 j before in
          let same : is_same (Some name) (get_or (all_types n) j None) ≡ true = ap (is_same (Some name)) its ∙ same-itself name in
          let clash : true ≡ false = sym same ∙ other in cc)
      | inr from ↦ lt-ltb k 5 (omega (arith, below, from))
    ]
    in
    let back : nat_lt k 5 ≡ true → is_one_of predefined_types name ≡ true = λ h.
    let below : k < 5 = ltb-true k 5 h in
    let same = same_Some name (slice_index_or predefined_types k []) (same-is (Some name) (get_or (all_types n) k None) found.1 ∙ predefined-there n.types k below) in
    subst (λ (x : List ℕ). is_one_of predefined_types x ≡ true) (sym same) (one_of-at predefined_types k below)
    in
    bool_same (is_one_of predefined_types name) (nat_lt k 5) there back

-- ---- what is recorded

-- what a table records
abbrev pub kind_with : Numbering → Recorded → Kind
kind_with n Unmapped = TableUnmapped
kind_with n (Mapped type) = kind_of_variant (type_number n type)

-- each type that is recorded has a number
abbrev pub AreNumbered : Numbering → List Recorded → Type 0
AreNumbered n recs = (name : List ℕ) → Contains recs (Mapped (Some name)) → IsSome (type_number n (Some name))

-- no type is recorded, and what is recorded is as long
pub record AreUntyped (recs : List Recorded) (kinds : List Kind) : Type 0 where
  pub names : (name : List ℕ) → ¬ Contains recs (Mapped (Some name))
  pub types : (number : ℕ) → ¬ Contains kinds (Typed number)
  pub as_many : length recs ≡ length kinds

-- the same is recorded; or no type is, in a ruleset and in its table
abbrev pub SameKinds : Numbering → List Recorded → List Kind → Type 0
SameKinds n recs kinds = (kinds ≡ map (kind_with n) recs) ⊎ AreUntyped recs kinds

abbrev pub IsNumbered : Numbering → Recorded → Type 0
IsNumbered n Unmapped = Unit {0}
IsNumbered n (Mapped None) = Unit {0}
IsNumbered n (Mapped (Some name)) = IsSome (type_number n (Some name))

numbered-each : (n : Numbering) (recs : List Recorded) → AreNumbered n recs → (rec : Recorded) → Contains recs rec → IsNumbered n rec
numbered-each n recs all Unmapped c = tt
numbered-each n recs all (Mapped None) c = tt
numbered-each n recs all (Mapped (Some name)) c = all name c

mapped-alike : (n : Numbering) (rec : Recorded) → of_file.is_mapped rec ≡ table_kinds.is_mapped (kind_with n rec)
mapped-alike n Unmapped = refl
mapped-alike n (Mapped type) = by (type_number n type)
  where
    by : (o : Option ℕ) → true ≡ table_kinds.is_mapped (kind_of_variant o)
    by None = refl
    by (Some k) = refl

-- ---- lists of which the tests are alike

module _ {X Y : Type 0} (f : X → Y) (p : X → Bool) (q : Y → Bool) where
  abbrev pub Alike : List X → Type 0
  Alike xs = (x : X) → Contains xs x → p x ≡ q (f x)

  alike-tail : (x : X) (xs : List X) → Alike (x ∷ xs) → Alike xs
  alike-tail x xs alike y c = alike y (Contains-later x xs y c)

  pub any-same : (xs : List X) → Alike xs → list_any p xs ≡ list_any q (map f xs)
  any-same [] alike = refl
  any-same (x ∷ xs) alike =
      ap (λ (b : Bool). b || list_any p xs) (alike x (Contains-head x xs))
      ∙ ap (λ (b : Bool). q (f x) || b) (any-same xs (alike-tail x xs alike))

  pub all-same : (xs : List X) → Alike xs → list_all p xs ≡ list_all q (map f xs)
  all-same [] alike = refl
  all-same (x ∷ xs) alike =
      ap (λ (b : Bool). b && list_all p xs) (alike x (Contains-head x xs))
      ∙ ap (λ (b : Bool). q (f x) && b) (all-same xs (alike-tail x xs alike))

  pub filter-same : (xs : List X) → Alike xs → map f (filter p xs) ≡ filter q (map f xs)
  filter-same [] alike = refl
  filter-same (x ∷ xs) alike =
      ap (λ (b : Bool). map f (cond b (x ∷ filter p xs) (filter p xs))) (alike x (Contains-head x xs))
      ∙ by (q (f x)) (filter-same xs (alike-tail x xs alike))
    where
      by : (b : Bool) → map f (filter p xs) ≡ filter q (map f xs) → map f (cond b (x ∷ filter p xs) (filter p xs)) ≡ cond b (f x ∷ filter q (map f xs)) (filter q (map f xs))
      by true e = ap (λ (l : List Y). f x ∷ l) e
      by false e = e

-- ---- lists of which none passes

abbrev pub NonePasses : {X : Type 0} → (X → Bool) → List X → Type 0
NonePasses {X} p xs = (x : X) → Contains xs x → p x ≡ true → ⊥

pub none-any : {X : Type 0} (p : X → Bool) (xs : List X) → NonePasses p xs → list_any p xs ≡ false
none-any p xs none = false_from_ne_true (list_any p xs) (λ h. let g = (any-told p xs).0 h in none g.0 g.1 g.2)

pub none-all : {X : Type 0} (p : X → Bool) (x : X) (xs : List X) → NonePasses p (x ∷ xs) → list_all p (x ∷ xs) ≡ false
none-all p x xs none = false_from_ne_true (list_all p (x ∷ xs)) (λ h. none x (Contains-head x xs) ((all-told p (x ∷ xs)).0 h x (Contains-head x xs)))

pub none-mapped : {X : Type 0} (some p : X → Bool) (xs : List X) → NonePasses p xs → (list_any some xs && list_all p (filter some xs)) ≡ false
none-mapped some p xs none =
    false_from_ne_true (list_any some xs && list_all p (filter some xs)) (λ h.
    let both = and_parts (list_any some xs) (list_all p (filter some xs)) h in
    let g = (any-told some xs).0 both.0 in
    none g.0 g.1 ((all-told p (filter some xs)).0 both.1 g.0 ((Contains-filter some xs g.0).1 (g.1, g.2))))

-- ---- types as the bits of a word

-- the bits of the word are those of these types
abbrev pub HasBitsOf : Numbering → List (List ℕ) → ℕ → Type 0
HasBitsOf n types word =
    (k : ℕ) → (bit_at word (k + 2) ≡ 1) ↔ ((name : List ℕ) × Contains types name × (type_number n (Some name) ≡ Some k))

one_of-told : (names : List (List ℕ)) (name : List ℕ) → (is_one_of names name ≡ true) ↔ Contains names name
one_of-told names name = (
  λ h. (let g = (any-told (λ (other : List ℕ). bytes_eq other name) names).0 h in subst (Contains names) ((bytes_eq-Decides g.0 name).0 g.2) g.1),
  λ c. (any-told (λ (other : List ℕ). bytes_eq other name) names).1 (name, c, (bytes_eq-Decides name name).1 refl),
)

module _ (n : Numbering) (types : List (List ℕ)) (word : ℕ) (bits : HasBitsOf n types word) where
  untyped-of : (o : Option ℕ) → type_number n None ≡ o → false ≡ of_table.is_of word (kind_of_variant o)
  untyped-of None e = refl
  untyped-of (Some k) e = sym (false_from_ne_true (bit_at word (k + 2) == 1) (λ h.
      let g = (bits k).0 ((Decides-eqb (bit_at word (k + 2)) 1).0 h) in
      none-is g.0 (one-number n None (Some g.0) k e g.2)))
    where
      none-is : (name : List ℕ) → (let o : Option (List ℕ) = None in o) ≡ Some name → ⊥
      none-is name e = cc

  typed-of : (name : List ℕ) (o : Option ℕ) → type_number n (Some name) ≡ o → is_some o ≡ true → is_one_of types name ≡ of_table.is_of word (kind_of_variant o)
  typed-of name None e is = absurd (let clash : false ≡ true = is in cc)
  typed-of name (Some k) e is =
      let decided = Decides-eqb (bit_at word (k + 2)) 1 in
      let told = one_of-told types name in
      bool_same (is_one_of types name) (bit_at word (k + 2) == 1)
      (λ h. decided.1 ((bits k).1 (name, told.0 h, e)))
      (λ h. let g = (bits k).0 (decided.0 h) in told.1 (subst (Contains types) (same_Some g.0 name (one-number n (Some g.0) (Some name) k g.2 e)) g.1))

  of-alike : (rec : Recorded) → IsNumbered n rec → of_file.is_of types rec ≡ of_table.is_of word (kind_with n rec)
  of-alike Unmapped is = refl
  of-alike (Mapped None) is = untyped-of (type_number n None) refl
  of-alike (Mapped (Some name)) is = typed-of name (type_number n (Some name)) refl is

  pub asked-by : (k : TriggerKind) (recs : List Recorded) → AreNumbered n recs
      → are_as_asked k types recs ≡ of_table.has_types (Some (trigger_by k word)) (map (kind_with n) recs)
  asked-by ask.Any recs all =
      any-same (kind_with n) (of_file.is_of types) (of_table.is_of word) recs (λ rec c. of-alike rec (numbered-each n recs all rec c))
  asked-by ask.All recs all =
      let some : list_any of_file.is_mapped recs ≡ list_any table_kinds.is_mapped (map (kind_with n) recs) =
      any-same (kind_with n) of_file.is_mapped table_kinds.is_mapped recs (λ rec c. mapped-alike n rec) in
      let mapped : map (kind_with n) (filter of_file.is_mapped recs) ≡ filter table_kinds.is_mapped (map (kind_with n) recs) =
      filter-same (kind_with n) of_file.is_mapped table_kinds.is_mapped recs (λ rec c. mapped-alike n rec) in
      let each : list_all (of_file.is_of types) (filter of_file.is_mapped recs) ≡ list_all (of_table.is_of word) (map (kind_with n) (filter of_file.is_mapped recs)) =
      all-same (kind_with n) (of_file.is_of types) (of_table.is_of word) (filter of_file.is_mapped recs)
      (λ rec c. of-alike rec (numbered-each n recs all rec ((Contains-filter of_file.is_mapped recs rec).0 c).0)) in
      ap (λ (b : Bool). b && list_all (of_file.is_of types) (filter of_file.is_mapped recs)) some
      ∙ ap (λ (b : Bool). list_any table_kinds.is_mapped (map (kind_with n) recs) && b) (each ∙ ap (list_all (of_table.is_of word)) mapped)
  asked-by ask.Only recs all =
      all-same (kind_with n) (of_file.is_of types) (of_table.is_of word) recs (λ rec c. of-alike rec (numbered-each n recs all rec c))

-- without types, whatever is asked
module _ (types : List (List ℕ)) (word : ℕ) where
  none-named : (recs : List Recorded) → ((name : List ℕ) → ¬ Contains recs (Mapped (Some name))) → NonePasses (of_file.is_of types) recs
  none-named recs none Unmapped c h = let clash : false ≡ true = h in cc
  none-named recs none (Mapped None) c h = let clash : false ≡ true = h in cc
  none-named recs none (Mapped (Some name)) c h = none name c

  none-typed : (kinds : List Kind) → ((number : ℕ) → ¬ Contains kinds (Typed number)) → NonePasses (of_table.is_of word) kinds
  none-typed kinds none TableUnmapped c h = let clash : false ≡ true = h in cc
  none-typed kinds none Untyped c h = let clash : false ≡ true = h in cc
  none-typed kinds none (Typed number) c h = none number c

  pub untyped-by : (k : TriggerKind) (recs : List Recorded) (kinds : List Kind) → AreUntyped recs kinds
      → are_as_asked k types recs ≡ of_table.has_types (Some (trigger_by k word)) kinds
  untyped-by ask.Any recs kinds none =
      none-any (of_file.is_of types) recs (none-named recs none.names)
      ∙ sym (none-any (of_table.is_of word) kinds (none-typed kinds none.types))
  untyped-by ask.All recs kinds none =
      none-mapped of_file.is_mapped (of_file.is_of types) recs (none-named recs none.names)
      ∙ sym (none-mapped table_kinds.is_mapped (of_table.is_of word) kinds (none-typed kinds none.types))
  untyped-by ask.Only [] [] none = refl
  untyped-by ask.Only [] (x ∷ kinds) none = absurd (let same = none.as_many in omega (arith, same))
  untyped-by ask.Only (rec ∷ recs) [] none = absurd (let same = none.as_many in omega (arith, same))
  untyped-by ask.Only (rec ∷ recs) (x ∷ kinds) none =
      none-all (of_file.is_of types) rec recs (none-named (rec ∷ recs) none.names)
      ∙ sym (none-all (of_table.is_of word) x kinds (none-typed (x ∷ kinds) none.types))

-- types that are asked for by the bits of a word
pub asked-word : (n : Numbering) (types : List (List ℕ)) (word : ℕ) (k : TriggerKind) (recs : List Recorded) (kinds : List Kind) → HasBitsOf n types word → SameKinds n recs kinds → AreNumbered n recs
    → are_as_asked k types recs ≡ of_table.has_types (Some (trigger_by k word)) kinds
asked-word n types word k recs kinds bits (inl same) all =
    asked-by n types word bits k recs all ∙ ap (of_table.has_types (Some (trigger_by k word))) (sym same)
asked-word n types word k recs kinds bits (inr none) all = untyped-by types word k recs kinds none

-- ---- the word of a trigger

either-bit : (word other bit : ℕ) → (bit_at (bit_or word other) bit ≡ 1) ↔ ((bit_at word bit ≡ 1) ⊎ (bit_at other bit ≡ 1))
either-bit word other bit =
    let e = bit_at_or word other bit in
    let a = bit_at-lt word bit in
    let b = bit_at-lt other bit in (
      λ h. elim (cases_eq (bit_at word bit) 1) [ inl one ↦ inl one | inr none ↦ inr (omega (arith, e, a, b, h, none)) ],
      λ h. elim h [ inl one ↦ omega (arith, e, a, b, one) | inr one ↦ omega (arith, e, a, b, one) ],
    )

pub power-bit : (k bit : ℕ) → (bit_at (2 ^ k) bit ≡ 1) ↔ (bit ≡ k)
power-bit k bit = (
  λ h. elim (cases_eq bit k) [ inl same ↦ same | inr other ↦ absurd (let none = bit_at-pow_other k bit other in omega (arith, h, none)) ],
  λ e. subst (λ (b : ℕ). bit_at (2 ^ k) b ≡ 1) (sym e) (bit_at-pow_same k),
)

word-bits : (d : Definitions) (word : ℕ) (names : List (List ℕ)) (bit : ℕ)
    → (bit_at (with_types d word names) bit ≡ 1) ↔ ((bit_at word bit ≡ 1) ⊎ ((name : List ℕ) × Contains names name × (bit ≡ suc (suc (of_definitions.type_number d name)))))
word-bits d word [] bit = (λ h. inl h, λ h. elim h [ inl one ↦ one | inr g ↦ absurd (Contains-none g.0 g.1) ])
word-bits d word (x ∷ names) bit =
    let its : ℕ = suc (suc (of_definitions.type_number d x)) in
    let rest = word-bits d (bit_or word (2 ^ its)) names bit in
    let first = either-bit word (2 ^ its) bit in
    let power = power-bit its bit in (
      λ h. elim (rest.0 h) [
        | inl here ↦ elim (first.0 here) [ inl old ↦ inl old | inr new ↦ inr (x, Contains-head x names, power.0 new) ]
        | inr g ↦ inr (g.0, Contains-later x names g.0 g.1, g.2)
      ],
      λ h. elim h [
        | inl old ↦ rest.1 (inl (first.1 (inl old)))
        | inr g ↦ elim (Contains-cases x names g.0 g.1) [
          | inl same ↦ rest.1 (inl (first.1 (inr (power.1 (g.2 ∙ ap (λ (name : List ℕ). suc (suc (of_definitions.type_number d name))) (sym same))))))
          | inr later ↦ rest.1 (inr (g.0, later, g.2))
        ]
      ],
    )

-- ---- each once

named-once : (names : List (List ℕ)) (name x : List ℕ) → Contains (with_name names name) x ↔ (Contains names x ⊎ (name ≡ x))
named-once names name x = by (is_one_of names name) (one_of-told names name)
  where
    by : (b : Bool) → (b ≡ true) ↔ Contains names name → Contains (if b then names else names ++ name ∷ []) x ↔ (Contains names x ⊎ (name ≡ x))
    by true told = (λ c. inl c, λ h. elim h [ inl c ↦ c | inr same ↦ subst (Contains names) same (told.0 refl) ])
    by false told = (
      λ c. elim (Contains-append_cases names (name ∷ []) x c) [ inl old ↦ inl old | inr new ↦ inr (Contains-one name x new) ],
      λ h. elim h [
        | inl old ↦ Contains-append_left names (name ∷ []) x old
        | inr same ↦ Contains-append_right names (name ∷ []) x (subst (Contains (name ∷ [])) same (Contains-head name []))
      ],
    )

once-from : (found names : List (List ℕ)) (x : List ℕ) → Contains (fold with_name found names) x ↔ (Contains found x ⊎ Contains names x)
once-from found [] x = (λ c. inl c, λ h. elim h [ inl c ↦ c | inr none ↦ absurd (Contains-none x none) ])
once-from found (name ∷ names) x =
    let rest = once-from (with_name found name) names x in
    let first = named-once found name x in (
      λ c. elim (rest.0 c) [
        | inl here ↦ elim (first.0 here) [ inl old ↦ inl old | inr same ↦ inr (subst (Contains (name ∷ names)) same (Contains-head name names)) ]
        | inr later ↦ inr (Contains-later name names x later)
      ],
      λ h. elim h [
        | inl old ↦ rest.1 (inl (first.1 (inl old)))
        | inr c ↦ elim (Contains-cases name names x c) [ inl same ↦ rest.1 (inl (first.1 (inr same))) | inr later ↦ rest.1 (inr later) ]
      ],
    )

pub Contains-each_once : (names : List (List ℕ)) (x : List ℕ) → Contains (each_once names) x ↔ Contains names x
Contains-each_once names x =
    let all = once-from [] names x in (
      λ c. elim (all.0 c) [ inl none ↦ absurd (Contains-none x none) | inr there ↦ there ],
      λ c. all.1 (inr c),
    )

-- ---- triggers

-- types all of which have a number
abbrev pub HaveNumbers : Numbering → List (List ℕ) → Type 0
HaveNumbers n types = (name : List ℕ) → Contains types name → IsSome (type_number n (Some name))

pub number-some : (o : Option ℕ) → IsSome o → (k : ℕ) × (o ≡ Some k)
number-some None is = absurd (let clash : false ≡ true = is in cc)
number-some (Some k) is = (k, refl)

module _ (n : Numbering) (d : Definitions) (are : AreDefinitions d) (types : length d.types ≡ length n.types) where
  called-number : (name : List ℕ) (k : ℕ) → type_number n (Some name) ≡ Some k → of_definitions.type_number d (called_type n d name) ≡ k
  called-number name k e =
      let within : k < length (type_names d) = (let less = number-within n (Some name) k e in omega (arith, less, types)) in
      let called : called_type n d name ≡ type_name d k = ap (λ (o : Option ℕ). unwrap_or (option_map (type_name d) o) []) e in
      ap (of_definitions.type_number d) called ∙ number_back (type_names d) k (names-front (type_names d) (d.set_names ++ d.rule_names) are.names) within

  trigger-bits : (t : Trigger) → HaveNumbers n t.types → HasBitsOf n t.types (with_types d 0 (called_trigger n d t).types)
  trigger-bits t all k =
      let named : List (List ℕ) = map (called_type n d) t.types in
      let bits = word-bits d 0 (each_once named) (k + 2) in (
        λ h. elim (bits.0 h) [
          | inl old ↦ absurd (let none = bit_at-zero (k + 2) in omega (arith, old, none))
          | inr g ↦ (let x = (Contains-map (called_type n d) t.types g.0).0 ((Contains-each_once named g.0).0 g.1) in
              let its = number-some (type_number n (Some x.0)) (all x.0 x.1) in
              let back : of_definitions.type_number d g.0 ≡ its.0 = ap (of_definitions.type_number d) x.2 ∙ called-number x.0 its.0 its.1 in
              let bit = g.2 in
              let same : its.0 ≡ k = omega (arith, bit, back) in
              (x.0, x.1, its.1 ∙ ap (λ (j : ℕ). Some j) same))
        ],
        λ g. bits.1 (inr (
          called_type n d g.0,
          (Contains-each_once named (called_type n d g.0)).1 ((Contains-map (called_type n d) t.types (called_type n d g.0)).1 (g.0, g.1, refl)),
          (let back = called-number g.0 k g.2 in omega (arith, back)),
        )),
      )

  -- a trigger asks the same in the table
  pub asked-alike : (trigger : Option Trigger) (named : Option NamedTrigger) (recs : List Recorded) (kinds : List Kind) → HaveNumbers n (trigger_types trigger) → named ≡ option_map (called_trigger n d) trigger
      → SameKinds n recs kinds → AreNumbered n recs → has_asked trigger recs ≡ of_table.has_types (option_map (trigger_of d) named) kinds
  asked-alike None named recs kinds all is same numbered = sym (ap (λ (o : Option NamedTrigger). of_table.has_types (option_map (trigger_of d) o) kinds) is)
  asked-alike (Some t) named recs kinds all is same numbered =
      asked-word n t.types (with_types d 0 (called_trigger n d t).types) t.kind recs kinds (trigger-bits t all) same numbered
      ∙ sym (ap (λ (o : Option NamedTrigger). of_table.has_types (option_map (trigger_of d) o) kinds) is)

-- ---- what the default actions see

-- variants without a type have no type of their own in the table, if one is recorded: so the default actions see them
-- in both
abbrev pub AreSeenAlike : Numbering → List Recorded → Type 0
AreSeenAlike n recs = Contains recs (Mapped None) → type_number n None ≡ None

predefined-alike : (n : Numbering) (recs : List Recorded) → AreNumbered n recs → AreSeenAlike n recs → (rec : Recorded) → Contains recs rec
    → of_file.is_predefined rec ≡ of_table.is_predefined (kind_with n rec)
predefined-alike n recs all seen Unmapped c = refl
predefined-alike n recs all seen (Mapped None) c = sym (ap (λ (o : Option ℕ). of_table.is_predefined (kind_of_variant o)) (seen c))
predefined-alike n recs all seen (Mapped (Some name)) c =
    let its = number-some (type_number n (Some name)) (all name c) in
    predefined-number n name its.0 its.1 ∙ sym (ap (λ (o : Option ℕ). of_table.is_predefined (kind_of_variant o)) its.1)

pub filter-all : {X : Type 0} (p : X → Bool) (xs : List X) → ((x : X) → Contains xs x → p x ≡ true) → filter p xs ≡ xs
filter-all p [] all = refl
filter-all p (x ∷ xs) all =
    ap (λ (b : Bool). cond b (x ∷ filter p xs) (filter p xs)) (all x (Contains-head x xs))
    ∙ ap (λ l. x ∷ l) (filter-all p xs (λ y c. all y (Contains-later x xs y c)))

untyped-kept : (recs : List Recorded) (kinds : List Kind) → AreUntyped recs kinds → AreUntyped (filter of_file.is_predefined recs) (filter of_table.is_predefined kinds)
untyped-kept recs kinds none = record {
  names = λ name c. none.names name ((Contains-filter of_file.is_predefined recs (Mapped (Some name))).0 c).0;
  types = λ number c. none.types number ((Contains-filter of_table.is_predefined kinds (Typed number)).0 c).0;
  as_many = ap length (filter-all of_file.is_predefined recs seen) ∙ none.as_many ∙ sym (ap length (filter-all of_table.is_predefined kinds also));
}
  where
    seen : (rec : Recorded) → Contains recs rec → of_file.is_predefined rec ≡ true
    seen Unmapped c = refl
    seen (Mapped None) c = refl
    seen (Mapped (Some name)) c = absurd (none.names name c)

    also : (x : Kind) → Contains kinds x → of_table.is_predefined x ≡ true
    also TableUnmapped c = refl
    also Untyped c = refl
    also (Typed number) c = absurd (none.types number c)

pub numbered-kept : (n : Numbering) (p : Recorded → Bool) (recs : List Recorded) → AreNumbered n recs → AreNumbered n (filter p recs)
numbered-kept n p recs all name c = all name ((Contains-filter p recs (Mapped (Some name))).0 c).0

-- what the default actions see is the same
pub predefined-kept : (n : Numbering) (recs : List Recorded) (kinds : List Kind) → SameKinds n recs kinds → AreNumbered n recs → AreSeenAlike n recs
    → SameKinds n (filter of_file.is_predefined recs) (filter of_table.is_predefined kinds)
predefined-kept n recs kinds (inl same) all seen =
    inl (ap (filter of_table.is_predefined) same ∙ sym (filter-same (kind_with n) of_file.is_predefined of_table.is_predefined recs (predefined-alike n recs all seen)))
predefined-kept n recs kinds (inr none) all seen = inr (untyped-kept recs kinds none)
