-- The types that were found so far, and one more.
use Rattle.std.proofs.Common.{◌≡◌, ◌≢◌, ◌↔◌, ℕ, zero, suc, ◌+◌, ◌<◌, ◌≤◌, inl, inr, Bool, true, false, not, cond, ◌&&◌, ◌||◌, Option, Some, None, List, [], ◌∷◌, ◌++◌, length, map, get_or, take, drop, refl, sym, ap, subst, ◌∙◌, arith, append_assoc}
use Rattle.std.specs.Prelude.{IsSome, is_some, unwrap_or}
use Rattle.std.specs.List.{AllPairs, Contains, flat_map, list_any, position, position_or_len}
use Rattle.std.proofs.lemmas.Bool.{cases_lt, and_parts, both_ways, false≢true, lt-ltb, not-true, or_left, or_right}
use Rattle.std.proofs.lemmas.List.{append-nil, get_or_default, length_push, map-append, take-append-drop, take_more}
use Rattle.std.proofs.lemmas.List.Concat.{flat_map-append}
use Rattle.std.proofs.lemmas.List.Elements.{Contains-append_cases, Contains-append_left, Contains-push, Contains-push_cases}
use Rattle.std.proofs.lemmas.List.Folds.{Any-from_list_any, list_any-append, list_any_at}
use Rattle.std.proofs.lemmas.List.Quantifiers.{all_pairs_push}
use Rattle.std.proofs.lemmas.List.Sums.{fails_before_first}
use Rattle.std.proofs.lemmas.Slice.Eq.{bytes_eq-Decides}
use Rattle.ruleset_text.specs.Names.{predefined_types}
use Rattle.lgr_text.specs.Records.{Ruleset}
use Rattle.lgr_table.specs.Entries.{needs_type}
use Rattle.lgr_table.specs.Numbers.{is_same, number_among, types_of, types_with}
use Rattle.lgr_table.specs.inner.Steps.{AreFileTypes}
use Rattle.lgr_table.specs.inner.TypeSteps.{AreTypes, TellsFull, TellsTypes}
use Rattle.lgr_table.specs.declared.fault.TableError.{TableError}
use Rattle.lgr_table.specs.declared.fault.TableError.TheVariants.{Fault, Memory}
use Rattle.lgr_table.specs.declared.fault.TableFault.TheVariants.{BadClass, Limit, NoSuchName, NotSupported, SameName, SameSource, SameVariant, Syntax}
use Rattle.lgr_table.proofs.NumberTypeLemmas.{position-none}

-- ---- the same type

abbrev Type' : Type 0
Type' = Option (List ℕ)

same-refl : (t : Type') → is_same t t ≡ true
same-refl None = refl
same-refl (Some name) = (bytes_eq-Decides name name).1 refl

-- ---- a place, or none

pub is_some-position : {X : Type 0} (p : X → Bool) (xs : List X) → is_some (position p xs) ≡ list_any p xs
is_some-position {X} p xs = by (list_any p xs) refl
  where
    by : (b : Bool) → list_any p xs ≡ b → is_some (position p xs) ≡ b
    by true e =
        let at = Any-from_list_any p xs e in
        let upto : position_or_len p xs ≤ at.0 = elim (cases_lt at.0 (position_or_len p xs)) [
          | inl before ↦ absurd (both_ways (p at.1) (ap p (sym at.3) ∙ fails_before_first p xs at.0 at.1 before) at.4)
          | inr from ↦ from
        ] in
        ap (λ b. is_some (cond b (Some (position_or_len p xs)) None)) (lt-ltb (position_or_len p xs) (length xs) (let less = at.2 in omega (arith, less, upto)))
    by false e = by_none xs refl
      where
        by_none : (ys : List X) → xs ≡ ys → is_some (position p xs) ≡ false
        by_none [] is = ap (λ l. is_some (position p l)) is
        by_none (y ∷ ys) is = ap is_some (position-none p xs y (λ k less. fails k less (p (get_or xs k y)) refl))
          where
            fails : (k : ℕ) → k < length xs → (b : Bool) → p (get_or xs k y) ≡ b → b ≡ false
            fails k less true here = absurd (both_ways (list_any p xs) e (list_any_at p xs k y less here))
            fails k less false here = refl

known-by : (types : List Type') (t : Type') → is_some (number_among types t) ≡ list_any (is_same t) (types_with types)
known-by types t = is_some-position (is_same t) (types_with types)

-- one more type
known-push : (types : List Type') (t u : Type') → IsSome (number_among types t) → IsSome (number_among (types ++ u ∷ []) t)
known-push types t u known =
    known-by (types ++ u ∷ []) t ∙ list_any-append (is_same t) (types_with types) (u ∷ [])
    ∙ or_left (list_any (is_same t) (types_with types)) (is_same t u || false) (sym (known-by types t) ∙ known)

known-new : (types : List Type') (t : Type') → IsSome (number_among (types ++ t ∷ []) t)
known-new types t =
    known-by (types ++ t ∷ []) t ∙ list_any-append (is_same t) (types_with types) (t ∷ [])
    ∙ or_right (list_any (is_same t) (types_with types)) (is_same t t || false) (or_left (is_same t t) false (same-refl t))

-- a type without a number is none of them
apart-new : (types : List Type') (t : Type') → is_some (number_among types t) ≡ false → (k : ℕ) (d : Type') → k < length (types_with types) → get_or (types_with types) k d ≢ t
apart-new types t none k d less is =
    both_ways (list_any (is_same t) (types_with types)) (sym (known-by types t) ∙ none)
    (list_any_at (is_same t) (types_with types) k d less (ap (is_same t) is ∙ same-refl t))

-- ---- none so far

-- no type comes twice
abbrev are_apart : List Type' → Bool
are_apart [] = true
are_apart (t ∷ types) = not (list_any (is_same t) types) && are_apart types

pairs-cons : (t : Type') (types : List Type') → list_any (is_same t) types ≡ false → AllPairs (λ a b. a ≢ b) types → AllPairs (λ a b. a ≢ b) (t ∷ types)
pairs-cons t types new rest = λ i j d before less. at i j d before less
  where
    at : (i j : ℕ) (d : Type') → i < j → j < length (t ∷ types) → get_or (t ∷ types) i d ≢ get_or (t ∷ types) j d
    at i zero d before less = absurd (omega (arith, before))
    at zero (suc j) d before less =
        λ is. both_ways (list_any (is_same t) types) new
        (list_any_at (is_same t) types j d (omega (arith, less)) (ap (is_same t) (sym is) ∙ same-refl t))
    at (suc i) (suc j) d before less = rest i j d (omega (arith, before)) (omega (arith, less))

pairs-apart : (types : List Type') → are_apart types ≡ true → AllPairs (λ a b. a ≢ b) types
pairs-apart [] apart = λ i j d before less. absurd (omega (arith, less))
pairs-apart (t ∷ types) apart =
    let parts = and_parts (not (list_any (is_same t) types)) (are_apart types) apart in
    pairs-cons t types (not-true (list_any (is_same t) types) parts.0) (pairs-apart types parts.1)

none-in : {X : Type 0} (x : X) → Contains [] x → ⊥
none-in x at = let less = at.1 in omega (arith, less)

pub no_types : AreTypes false [] []
no_types = record {
  known = λ name at. absurd (none-in name at);
  own = λ name at. absurd (none-in (Some name) at);
  none = (λ at. absurd (none-in None at), λ no. absurd (false≢true no));
  each_type = pairs-apart (types_with []) refl;
}

-- ---- one more

pub known_already : (b : Bool) (names : List (List ℕ)) (types : List Type') (name : List ℕ) → AreTypes b names types
    → IsSome (number_among types (Some name)) → AreTypes b (names ++ name ∷ []) types
known_already b names types name are known = record {
  known = λ other at. elim (Contains-push_cases names name other at) [
    | inl before ↦ are.known other before
    | inr is ↦ subst (λ x. IsSome (number_among types (Some x))) is known
  ];
  own = λ other at. Contains-append_left names (name ∷ []) other (are.own other at);
  none = are.none;
  each_type = are.each_type;
}

pub type_added : (names : List (List ℕ)) (types : List Type') (name : List ℕ) → AreTypes false names types
    → is_some (number_among types (Some name)) ≡ false → AreTypes false (names ++ name ∷ []) (types ++ Some name ∷ [])
type_added names types name are fresh = record {
  known = λ other at. elim (Contains-push_cases names name other at) [
    | inl before ↦ known-push types (Some other) (Some name) (are.known other before)
    | inr is ↦ subst (λ x. IsSome (number_among (types ++ Some name ∷ []) (Some x))) is (known-new types (Some name))
  ];
  own = λ other at. elim (Contains-push_cases types (Some name) (Some other) at) [
    | inl before ↦ Contains-append_left names (name ∷ []) other (are.own other before)
    | inr is ↦ subst (Contains (names ++ name ∷ [])) (ap (λ t. unwrap_or t []) is) (Contains-push names name)
  ];
  none = (
    λ at. elim (Contains-push_cases types (Some name) None at) [ inl before ↦ are.none.0 before | inr is ↦ absurd (cc) ],
    λ no. absurd (false≢true no),
  );
  each_type = all_pairs_push (λ a b. a ≢ b) (types_with types) (Some name) are.each_type (apart-new types (Some name) fresh);
}

-- no predefined type is that of having none
none-predefined : (types : List Type') → Contains (types_with types) None → Contains types None
none-predefined types at = elim (Contains-append_cases (map Some predefined_types) types None at) [
  | inl first ↦ absurd (by first.0 first.1 first.2)
  | inr after ↦ after
]
  where
    by : (k : ℕ) → k < 5 → get_or (map Some predefined_types) k None ≡ None → ⊥
    by zero less is = cc
    by (suc zero) less is = cc
    by (suc (suc zero)) less is = cc
    by (suc (suc (suc zero))) less is = cc
    by (suc (suc (suc (suc zero)))) less is = cc
    by (suc (suc (suc (suc (suc k))))) less is = omega (arith, less)

pub untyped_added : (names : List (List ℕ)) (types : List Type') → AreTypes false names types → AreTypes true names (types ++ None ∷ [])
untyped_added names types are =
    let apart : (k : ℕ) (d : Type') → k < length (types_with types) → get_or (types_with types) k d ≢ None = λ k d less is.
    false≢true (are.none.0 (none-predefined types (k, less, get_or_default (types_with types) k None d less ∙ is))) in
    record {
      known = λ other at. known-push types (Some other) None (are.known other at);
      own = λ other at. elim (Contains-push_cases types None (Some other) at) [ inl before ↦ are.own other before | inr is ↦ absurd (cc) ];
      none = (λ _. refl, λ _. Contains-push types None);
      each_type = all_pairs_push (λ a b. a ≢ b) (types_with types) None are.each_type apart;
    }

-- ---- the names of a list so far

pub pieces-more : {X Y Z : Type 0} (f : Y → List Z) (g : X → Y) (before : List Z) (xs : List X) (i : ℕ) (x : X) → i < length xs → x ≡ get_or xs i x
    → (before ++ flat_map f (map g (take i xs))) ++ f (g x) ≡ before ++ flat_map f (map g (take (i + 1) xs))
pieces-more f g before xs i x less is =
    let more : take (i + 1) xs ≡ take i xs ++ x ∷ [] = take_more xs i x less ∙ ap (λ y. take i xs ++ y ∷ []) (sym is) in
    append_assoc before (flat_map f (map g (take i xs))) (f (g x))
    ∙ ap (λ l. before ++ (flat_map f (map g (take i xs)) ++ l)) (sym (append-nil (f (g x))))
    ∙ ap (λ l. before ++ l) (sym (flat_map-append f (map g (take i xs)) (g x ∷ [])) ∙ ap (flat_map f) (sym (map-append g (take i xs) (x ∷ []))) ∙ ap (λ l. flat_map f (map g l)) (sym more))

pub names-more : {Z : Type 0} (before xs : List Z) (i : ℕ) (x : Z) → i < length xs → x ≡ get_or xs i x → (before ++ take i xs) ++ x ∷ [] ≡ before ++ take (i + 1) xs
names-more before xs i x less is =
    append_assoc before (take i xs) (x ∷ []) ∙ ap (λ l. before ++ l) (ap (λ y. take i xs ++ y ∷ []) is ∙ sym (take_more xs i x less))

pub pieces-in : {X Y Z : Type 0} (f : Y → List Z) (g : X → Y) (before : List Z) (xs : List X) (k : ℕ) (z : Z)
    → Contains (before ++ flat_map f (map g (take k xs))) z → Contains (before ++ flat_map f (map g xs)) z
pieces-in f g before xs k z h =
    let some = flat_map f (map g (take k xs)) in
    let rest = flat_map f (map g (drop k xs)) in
    let whole : flat_map f (map g xs) ≡ some ++ rest =
    ap (λ l. flat_map f (map g l)) (sym (take-append-drop k xs)) ∙ ap (flat_map f) (map-append g (take k xs) (drop k xs))
    ∙ flat_map-append f (map g (take k xs)) (map g (drop k xs)) in
    subst (λ l. Contains l z) (append_assoc before some rest ∙ ap (λ l. before ++ l) (sym whole)) (Contains-append_left (before ++ some) rest z h)

pub names-in : {Z : Type 0} (before xs : List Z) (k : ℕ) (z : Z) → Contains (before ++ take k xs) z → Contains (before ++ xs) z
names-in before xs k z h =
    subst (λ l. Contains l z) (append_assoc before (take k xs) (drop k xs) ∙ ap (λ l. before ++ l) (take-append-drop k xs))
    (Contains-append_left (before ++ take k xs) (drop k xs) z h)

-- ---- too many

-- they are too many of these names, too
pub tells-more : (untyped : Bool) (names more : List (List ℕ)) (told : TableError) → ((name : List ℕ) → Contains names name → Contains more name)
    → TellsTypes untyped names told → TellsTypes untyped more told
tells-more untyped names more (Fault Syntax line) all tells = tells
tells-more untyped names more (Fault SameSource line) all tells = tells
tells-more untyped names more (Fault SameVariant line) all tells = tells
tells-more untyped names more (Fault BadClass line) all tells = tells
tells-more untyped names more (Fault Limit line) all tells = record {
  types = tells.types;
  many = tells.many;
  own = λ name h. all name (tells.own name h);
  none = tells.none;
  each_type = tells.each_type;
}
tells-more untyped names more (Fault NoSuchName line) all tells = tells
tells-more untyped names more (Fault SameName line) all tells = tells
tells-more untyped names more (Fault NotSupported line) all tells = tells
tells-more untyped names more Memory all tells = tt

-- where none has to be that of having none, none is
pub tells-untyped : (untyped : Bool) (names : List (List ℕ)) (told : TableError) → TellsTypes false names told → TellsTypes untyped names told
tells-untyped untyped names (Fault Syntax line) tells = tells
tells-untyped untyped names (Fault SameSource line) tells = tells
tells-untyped untyped names (Fault SameVariant line) tells = tells
tells-untyped untyped names (Fault BadClass line) tells = tells
tells-untyped untyped names (Fault Limit line) tells = record {
  types = tells.types;
  many = tells.many;
  own = tells.own;
  none = λ h. absurd (false≢true (tells.none h));
  each_type = tells.each_type;
}
tells-untyped untyped names (Fault NoSuchName line) tells = tells
tells-untyped untyped names (Fault SameName line) tells = tells
tells-untyped untyped names (Fault NotSupported line) tells = tells
tells-untyped untyped names Memory tells = tt

-- one more than may be
pub tells-full : (untyped : Bool) (names : List (List ℕ)) (old types : List Type') (t : Type') (told : TableError) → types ≡ old ++ t ∷ []
    → AreTypes untyped names types → TellsFull old told → TellsTypes untyped names told
tells-full untyped names old types t (Fault Syntax line) is are tells = tells
tells-full untyped names old types t (Fault SameSource line) is are tells = tells
tells-full untyped names old types t (Fault SameVariant line) is are tells = tells
tells-full untyped names old types t (Fault BadClass line) is are tells = tells
tells-full untyped names old types t (Fault Limit line) is are tells = record {
  types = types;
  many = omega (arith, tells, ap length is, length_push old t);
  own = are.own;
  none = are.none.0;
  each_type = are.each_type;
}
tells-full untyped names old types t (Fault NoSuchName line) is are tells = tells
tells-full untyped names old types t (Fault SameName line) is are tells = tells
tells-full untyped names old types t (Fault NotSupported line) is are tells = tells
tells-full untyped names old types t Memory is are tells = tt

-- ---- all types of a file

pub types_found : (may : ℕ → Bool) (r : Ruleset) (b : Bool) (types : List Type') → AreTypes b (types_of r) types
    → b ≡ needs_type may r.entries → AreFileTypes may r types
types_found may r b types are is = record {
  known = are.known;
  own = are.own;
  untyped = subst (λ x. Contains types None ↔ (x ≡ true)) is are.none;
  each_type = are.each_type;
}
