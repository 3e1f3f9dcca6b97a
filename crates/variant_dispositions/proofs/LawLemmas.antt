-- Laws of dispositions.
use Rattle.std.proofs.Common.{◌≡◌, inl, inr, ℕ, ◌+◌, ◌<◌, Bool, true, false, List, [], ◌∷◌, refl, sym, ap, ◌∙◌, arith}
use Rattle.std.specs.Prelude.{◌&&◌, IsSome, filter, Option, Some, None, option_map, unwrap_or, if◌then◌else◌}
use Rattle.std.specs.List.{AllByRecursion, Contains, find, list_all, list_any}
use Rattle.std.specs.Int.{bit_at}
use Rattle.std.specs.Option.{option_or}
use Rattle.std.proofs.lemmas.Bool.Decides.{Decides-eqb}
use Rattle.std.proofs.lemmas.Bool.{and_from, and_parts, cases_lt, lt-ltb}
use Rattle.std.proofs.lemmas.List.Folds.{find-append}
use Rattle.std.proofs.lemmas.Nat.Bits.{bit_at_above}
use Rattle.reading_kinds.proofs.ListMembers.{Contains-filter, Contains-head}
use Rattle.variant_dispositions.specs.declared.action.Action.{Action}
use Rattle.variant_dispositions.specs.declared.action.TypeTrigger.{TypeTrigger}
use Rattle.variant_dispositions.specs.declared.action.TypeTrigger.TheVariants as trigger
use Rattle.variant_dispositions.specs.declared.disposition.Disposition.{Disposition}
use Rattle.variant_dispositions.specs.declared.disposition.Disposition.TheVariants.{Invalid, Blocked, Allocatable, Activated, Valid}
use Rattle.variant_dispositions.specs.Kinds.{Kind, is_mapped, recorded}
use Rattle.variant_dispositions.specs.Kinds.Kind.{Unmapped, Untyped, Typed}
use Rattle.variant_dispositions.specs.Actions.{by_types, default_disposition, disposition, first_triggered, has_types, is_allocatable, is_of, is_predefined, is_triggered, meets}
use Rattle.variant_dispositions.specs.Laws.{AreTheSame, OneIfClear, ThereIsOne, ByRulesAlone, BlockedBlocks, TwoDefaultsCount, OnlyIsAll}
use Rattle.variant_dispositions.proofs.MemberLemmas.{all-told, any-told, bool_same}
use Rattle.variant_dispositions.proofs.SetLemmas.{KindsAreASet-holds}

pub OneIfClear-holds : OneIfClear
OneIfClear-holds matched actions substitutions v d e clear one other =
    let same : AreTheSame (recorded one.0) (recorded other.0) = λ kind. (clear one.0 other.0 one.1 other.1 kind, clear other.0 one.0 other.1 one.1 kind) in
    sym one.2 ∙ KindsAreASet-holds matched actions (recorded one.0) (recorded other.0) same ∙ other.2

-- ---- the default actions

-- what they tell, by their four tests
abbrev by_tests : Bool → Bool → Bool → Bool → Option Disposition
by_tests one two three four =
    option_map (λ (action : Action). action.disposition)
    (if one && true then Some (by_types Invalid (Some (trigger.Any 4)))
    else if two && true then Some (by_types Blocked (Some (trigger.Any 8)))
    else if three && true then Some (by_types Allocatable (Some (trigger.Any 16)))
    else if four && true then Some (by_types Activated (Some (trigger.All 32)))
    else Some (by_types Valid None))

some-tests : (one two three four : Bool) → IsSome (by_tests one two three four)
some-tests true two three four = refl
some-tests false true three four = refl
some-tests false false true four = refl
some-tests false false false true = refl
some-tests false false false false = refl

pub ThereIsOne-holds : ThereIsOne
ThereIsOne-holds = record {
  told = λ matched actions substitutions v s. (disposition matched actions (recorded s.0), (s.0, record { is_cut = s.1; joined = s.2 }, refl));
  triggered = λ matched kinds.
      some-tests (list_any (is_of 4) (filter is_predefined kinds)) (list_any (is_of 8) (filter is_predefined kinds)) (list_any (is_of 16) (filter is_predefined kinds))
      (list_any is_mapped (filter is_predefined kinds) && list_all (is_of 32) (filter is_mapped (filter is_predefined kinds)));
}

-- ---- rules alone

module _ (kinds : List Kind) (none : (number : ℕ) → ¬ Contains kinds (Typed number)) where
  no_type : (types : ℕ) (kind : Kind) → Contains kinds kind → is_of types kind ≡ true → ⊥
  no_type types Unmapped c h = let clash : false ≡ true = h in cc
  no_type types Untyped c h = let clash : false ≡ true = h in cc
  no_type types (Typed number) c h = none number c

  no_any : (types : ℕ) → list_any (is_of types) (filter is_predefined kinds) ≡ false
  no_any types = bool_same (list_any (is_of types) (filter is_predefined kinds)) false
      (λ h. let g = (any-told (is_of types) (filter is_predefined kinds)).0 h in absurd (no_type types g.0 ((Contains-filter is_predefined kinds g.0).0 g.1).0 g.2))
      (λ h. let clash : false ≡ true = h in cc)

  no_all : (types : ℕ) → (list_any is_mapped (filter is_predefined kinds) && list_all (is_of types) (filter is_mapped (filter is_predefined kinds))) ≡ false
  no_all types = bool_same (list_any is_mapped (filter is_predefined kinds) && list_all (is_of types) (filter is_mapped (filter is_predefined kinds))) false
      (λ h.
      let parts = and_parts (list_any is_mapped (filter is_predefined kinds)) (list_all (is_of types) (filter is_mapped (filter is_predefined kinds))) h in
      let g = (any-told is_mapped (filter is_predefined kinds)).0 parts.0 in
      let one = (all-told (is_of types) (filter is_mapped (filter is_predefined kinds))).0 parts.1 g.0 ((Contains-filter is_mapped (filter is_predefined kinds) g.0).1 (g.1, g.2)) in
      absurd (no_type types g.0 ((Contains-filter is_predefined kinds g.0).0 g.1).0 one))
      (λ h. let clash : false ≡ true = h in cc)

  default-valid : (matched : ℕ → Bool) → default_disposition matched kinds ≡ Some Valid
  default-valid matched = tests (list_any (is_of 4) (filter is_predefined kinds)) (list_any (is_of 8) (filter is_predefined kinds)) (list_any (is_of 16) (filter is_predefined kinds))
      (list_any is_mapped (filter is_predefined kinds) && list_all (is_of 32) (filter is_mapped (filter is_predefined kinds))) (no_any 4) (no_any 8) (no_any 16) (no_all 32)
    where
      tests : (one two three four : Bool) → one ≡ false → two ≡ false → three ≡ false → four ≡ false → by_tests one two three four ≡ Some Valid
      tests one two three four a b c d = ap (λ (t : Bool). by_tests t two three four) a ∙ ap (λ (t : Bool). by_tests false t three four) b ∙ ap (λ (t : Bool). by_tests false false t four) c ∙ ap (by_tests false false false) d

  find-rules : (matched : ℕ → Bool) (actions : List Action) → AllByRecursion (λ action. action.types ≡ None) actions → find (is_triggered matched kinds) actions ≡ find (is_triggered matched []) actions
  find-rules matched [] are = refl
  find-rules matched (action ∷ actions) are =
      ap (λ (types : Option TypeTrigger). if has_types types kinds && meets matched action.condition then Some action else find (is_triggered matched kinds) actions) are.0
      ∙ ap (λ (types : Option TypeTrigger). if has_types types [] && meets matched action.condition then Some action else find (is_triggered matched kinds) actions) (sym are.0)
      ∙ ap (λ (found : Option Action). if is_triggered matched [] action then Some action else found) (find-rules matched actions are.1)

pub ByRulesAlone-holds : ByRulesAlone
ByRulesAlone-holds matched actions kinds are none =
    ap (λ (last : Option Disposition). unwrap_or (first_triggered matched kinds actions) (unwrap_or last Valid)) (default-valid kinds none matched)
    ∙ ap (λ (found : Option Action). unwrap_or (option_map (λ (action : Action). action.disposition) found) Valid) (find-rules kinds none matched actions are)

-- ---- what is blocked

blocked-tests : (one two three four : Bool) → two ≡ true → is_allocatable (unwrap_or (by_tests one two three four) Valid) ≡ false
blocked-tests true two three four h = refl
blocked-tests false two three four h = ap (λ (t : Bool). is_allocatable (unwrap_or (by_tests false t three four) Valid)) h

pub BlockedBlocks-holds : BlockedBlocks
BlockedBlocks-holds matched kinds blocked =
    blocked-tests (list_any (is_of 4) (filter is_predefined kinds)) (list_any (is_of 8) (filter is_predefined kinds)) (list_any (is_of 16) (filter is_predefined kinds))
    (list_any is_mapped (filter is_predefined kinds) && list_all (is_of 32) (filter is_mapped (filter is_predefined kinds)))
    ((any-told (is_of 8) (filter is_predefined kinds)).1 (Typed 1, (Contains-filter is_predefined kinds (Typed 1)).1 (blocked, refl), refl))

-- ---- the two default actions that count

-- predefined types are among the kinds that the default actions see
predefined-any : (types : ℕ) → types < 128 → (kinds : List Kind) → list_any (is_of types) (filter is_predefined kinds) ≡ list_any (is_of types) kinds
predefined-any types small kinds = bool_same (list_any (is_of types) (filter is_predefined kinds)) (list_any (is_of types) kinds)
    (λ h. let g = (any-told (is_of types) (filter is_predefined kinds)).0 h in (any-told (is_of types) kinds).1 (g.0, ((Contains-filter is_predefined kinds g.0).0 g.1).0, g.2))
    (λ h. let g = (any-told (is_of types) kinds).0 h in (any-told (is_of types) (filter is_predefined kinds)).1 (g.0, (Contains-filter is_predefined kinds g.0).1 (g.1, seen g.0 g.2), g.2))
  where
    seen : (kind : Kind) → is_of types kind ≡ true → is_predefined kind ≡ true
    seen Unmapped h = refl
    seen Untyped h = refl
    seen (Typed number) h = elim (cases_lt number 5) [
      | inl less ↦ lt-ltb number 5 less
      | inr past ↦ absurd (
          let one = (Decides-eqb (bit_at types (number + 2)) 1).0 h in
          let none = bit_at_above types 7 (number + 2) small (omega (arith, past)) in
          omega (arith, one, none))
    ]

two-tests : (first : Option Action) (one two three four : Bool) →
    is_allocatable (unwrap_or (option_map (λ (action : Action). action.disposition) first) (unwrap_or (by_tests one two three four) Valid))
    ≡ is_allocatable (unwrap_or (option_map (λ (action : Action). action.disposition) (option_or first (if one && true then Some (by_types Invalid (Some (trigger.Any 4))) else if two && true then Some (by_types Blocked (Some (trigger.Any 8))) else None))) Valid)
two-tests (Some action) one two three four = refl
two-tests None true two three four = refl
two-tests None false true three four = refl
two-tests None false false true four = refl
two-tests None false false false true = refl
two-tests None false false false false = refl

-- what an action of a ruleset's own tells, and else the two
abbrev by_two : Option Action → Bool → Bool → Bool
by_two first one two = is_allocatable (unwrap_or (option_map (λ (action : Action). action.disposition) (option_or first (if one && true then Some (by_types Invalid (Some (trigger.Any 4))) else if two && true then Some (by_types Blocked (Some (trigger.Any 8))) else None))) Valid)

pub TwoDefaultsCount-holds : TwoDefaultsCount
TwoDefaultsCount-holds matched actions kinds =
    let first : Option Action = find (is_triggered matched kinds) actions in
    two-tests first (list_any (is_of 4) (filter is_predefined kinds)) (list_any (is_of 8) (filter is_predefined kinds)) (list_any (is_of 16) (filter is_predefined kinds))
    (list_any is_mapped (filter is_predefined kinds) && list_all (is_of 32) (filter is_mapped (filter is_predefined kinds)))
    ∙ ap (λ (b : Bool). by_two first b (list_any (is_of 8) (filter is_predefined kinds))) (predefined-any 4 (omega arith) kinds)
    ∙ ap (by_two first (list_any (is_of 4) kinds)) (predefined-any 8 (omega arith) kinds)
    ∙ ap (λ (found : Option Action). is_allocatable (unwrap_or (option_map (λ (action : Action). action.disposition) found) Valid))
    (sym (find-append (is_triggered matched kinds) actions (by_types Invalid (Some (trigger.Any 4)) ∷ by_types Blocked (Some (trigger.Any 8)) ∷ [])))

-- ---- only, and all

typed : (types : ℕ) (kind : Kind) → is_of types kind ≡ true → is_mapped kind ≡ true
typed types Unmapped h = h
typed types Untyped h = refl
typed types (Typed number) h = refl

mapped : (kinds : List Kind) → ¬ Contains kinds Unmapped → (kind : Kind) → Contains kinds kind → is_mapped kind ≡ true
mapped kinds none Unmapped c = absurd (none c)
mapped kinds none Untyped c = refl
mapped kinds none (Typed number) c = refl

pub OnlyIsAll-holds : OnlyIsAll
OnlyIsAll-holds types kind kinds =
    let all = all-told (is_of types) (kind ∷ kinds) in
    let kept = all-told (is_of types) (filter is_mapped (kind ∷ kinds)) in
    let some = any-told is_mapped (kind ∷ kinds) in (
      λ h. (
        and_from (list_any is_mapped (kind ∷ kinds)) (list_all (is_of types) (filter is_mapped (kind ∷ kinds)))
            (some.1 (kind, Contains-head kind kinds, typed types kind (all.0 h kind (Contains-head kind kinds))))
            (kept.1 (λ other c. all.0 h other ((Contains-filter is_mapped (kind ∷ kinds) other).0 c).0)),
        λ c. (let clash : false ≡ true = all.0 h Unmapped c in cc),
      ),
      λ h. (let parts = and_parts (list_any is_mapped (kind ∷ kinds)) (list_all (is_of types) (filter is_mapped (kind ∷ kinds))) h.0 in
          all.1 (λ other c. kept.0 parts.1 other ((Contains-filter is_mapped (kind ∷ kinds) other).1 (c, mapped (kind ∷ kinds) h.1 other c)))),
    )
