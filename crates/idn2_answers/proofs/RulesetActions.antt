-- Actions of a ruleset are triggered where those of its table are, and give the same disposition.
use Rattle.std.proofs.Common.{◌≡◌, ◌⊎◌, inl, inr, ℕ, ◌+◌, ◌<◌, ◌^◌, Bool, true, false, ◌&&◌, cond, Option, Some, None, List, [], ◌∷◌, length, map, refl, sym, ap, subst, ◌∙◌, arith}
use Rattle.std.specs.Prelude.{bytes_eq, codes, filter, nat_lt, unwrap_or}
use Rattle.std.specs.Int.{bit_at}
use Rattle.std.specs.List.{AllByRecursion, Contains, flat_map, list_all, list_any, position_or_len}
use Rattle.std.specs.Option.{option_map}
use Rattle.std.proofs.lemmas.Bool.Decides.{Decides-eqb}
use Rattle.std.proofs.lemmas.Bool.{and_from, and_parts, lt-ltb}
use Rattle.std.proofs.lemmas.List.Elements.{Contains-append_right}
use Rattle.std.proofs.lemmas.Option.{same_Some}
use Rattle.std.proofs.lemmas.Slice.Eq.{bytes_eq-Decides}
use Rattle.reading_kinds.proofs.ListMembers.{Contains-filter, Contains-head, Contains-later, Contains-one}
use Rattle.variant_dispositions.specs.declared.action.Action.{Action as TableAction}
use Rattle.variant_dispositions.specs.declared.action.TypeTrigger.{TypeTrigger}
use Rattle.variant_dispositions.specs.declared.action.TypeTrigger.TheVariants as trigger
use Rattle.variant_dispositions.specs.declared.disposition.Disposition.{Disposition}
use Rattle.variant_dispositions.specs.declared.disposition.Disposition.TheVariants.{Activated, Allocatable, Blocked, Invalid, Valid}
use Rattle.variant_dispositions.specs.Actions as of_table
use Rattle.variant_dispositions.specs.Actions.{is_triggered, meets}
use Rattle.variant_dispositions.specs.Kinds.{Kind}
use Rattle.variant_dispositions.specs.Kinds.Kind.{Typed, Unmapped as TableUnmapped, Untyped}
use Rattle.variant_dispositions.proofs.MemberLemmas.{Contains-flat_map, all-told, any-told, bool_same}
use Rattle.idn_class.specs.declared.properties.Properties.{Properties}
use Rattle.ruleset_text.specs.declared.action.TriggerKind.TheVariants as ask
use Rattle.ruleset_text.specs.Actions.{NamedAction, disposition_word, knows_action, knows_rule, knows_types}
use Rattle.ruleset_text.specs.Definitions.{type_names, whole_rules}
use Rattle.ruleset_text.specs.Names.{is_one_of, predefined_types}
use Rattle.variant_table.specs.Entries.{TableValue}
use Rattle.variant_table.specs.Forms.{numbered}
use Rattle.valid_labels.specs.Actions.{action_of, matches_rule, trigger_of}
use Rattle.lgr_text.specs.Dispositions as of_file
use Rattle.lgr_text.specs.Dispositions.{IsOfFirst, IsTriggered, asking, has_asked}
use Rattle.lgr_text.specs.Meanings.{Meanings}
use Rattle.lgr_text.specs.Names.{HasItsNames}
use Rattle.lgr_text.specs.Readings.{Mapped, Recorded, Unmapped}
use Rattle.lgr_text.specs.Records.{Action, Entry, Ruleset, Trigger}
use Rattle.lgr_table.specs.Numbers.{Numbering, all_types, is_same, trigger_types, type_number, variant_type}
use Rattle.lgr_table.specs.Tables.{IsOfSources, SayActions, Says, SaysAction}
use Rattle.idn2_answers.proofs.RulesetFirsts.{Agree, Agrees, first-told, first_told, told-append}
use Rattle.idn2_answers.proofs.RulesetRules.{meets-alike}
use Rattle.idn2_answers.proofs.RulesetTypes.{AreNumbered, AreSeenAlike, HasBitsOf, HaveNumbers, SameKinds, asked-alike, asked-word, numbered-kept, power-bit, predefined-kept, predefined-number}

module _ (properties : Properties) (r : Ruleset) (m : Meanings) (n : Numbering) (t : TableValue) (names : HasItsNames r) (says : Says properties r m n t) where
  -- the types that an action asks for have numbers
  pub action-types : (a : Action) → Contains r.actions a → HaveNumbers n (trigger_types a.trigger)
  action-types a c name h =
      says.defines.numbers.types name (Contains-append_right (flat_map (λ (e : Entry). flat_map variant_type e.variants) r.entries) (flat_map (λ (x : Action). trigger_types x.trigger) r.actions)
      name ((Contains-flat_map (λ (x : Action). trigger_types x.trigger) r.actions name).1 (a, c, h)))

  action-alike : (v : List ℕ) (recs : List Recorded) (kinds : List Kind) → IsOfSources t.entries v → SameKinds n recs kinds → AreNumbered n recs → (a : Action) (b : NamedAction) → HaveNumbers n (trigger_types a.trigger)
      → SaysAction n t.definitions a b → knows_action (type_names t.definitions) (whole_rules t.definitions) b ≡ true
      → Agrees (IsTriggered r m v recs) (is_triggered (matches_rule t v) kinds) a (action_of t.definitions b)
  action-alike v recs kinds of same each a b all said known =
      let knows = and_parts (knows_rule (whole_rules t.definitions) b.condition) (knows_types (type_names t.definitions) b.trigger) known in
      let asks = asked-alike n t.definitions says.well_formed.without_fault says.defines.types a.trigger b.trigger recs kinds all said.trigger same each in
      let holds = meets-alike properties r m n t names says a.condition b.condition v of said.condition knows.0 in
      let types : Bool = of_table.has_types (option_map (trigger_of t.definitions) b.trigger) kinds in
      let met : Bool = meets (matches_rule t v) (option_map (numbered t.definitions) b.condition) in
      record {
        triggered = (
          λ h. and_from types met (sym asks ∙ h.types) (holds.0 h.condition),
          λ e. (let both = and_parts types met e in record { condition = holds.1 both.1; types = asks ∙ both.0 }),
        );
        disposition = said.disposition;
      }

  -- each action is triggered where that at its place is
  pub actions-alike : (v : List ℕ) (recs : List Recorded) (kinds : List Kind) → IsOfSources t.entries v → SameKinds n recs kinds → AreNumbered n recs → (actions : List Action) (held : List NamedAction)
      → ((a : Action) → Contains actions a → Contains r.actions a) → SayActions n t.definitions actions held
      → AllByRecursion (λ (b : NamedAction). knows_action (type_names t.definitions) (whole_rules t.definitions) b ≡ true) held
      → Agree (IsTriggered r m v recs) (is_triggered (matches_rule t v) kinds) actions (map (action_of t.definitions) held)
  actions-alike v recs kinds of same each [] [] from said known = tt
  actions-alike v recs kinds of same each [] (b ∷ held) from said known = absurd said
  actions-alike v recs kinds of same each (a ∷ actions) [] from said known = absurd said
  actions-alike v recs kinds of same each (a ∷ actions) (b ∷ held) from said known = (
    action-alike v recs kinds of same each a b (action-types a (from a (Contains-head a actions))) said.0 known.0,
    actions-alike v recs kinds of same each actions held (λ x c. from x (Contains-later a actions x c)) said.1 known.1,
  )

-- ---- the default actions

-- what passes one test passes another, by which a list is filtered
any-kept : {X : Type 0} (p q : X → Bool) (xs : List X) → ((x : X) → p x ≡ true → q x ≡ true) → list_any p (filter q xs) ≡ list_any p xs
any-kept p q xs both =
    bool_same (list_any p (filter q xs)) (list_any p xs)
    (λ h. let g = (any-told p (filter q xs)).0 h in (any-told p xs).1 (g.0, ((Contains-filter q xs g.0).0 g.1).0, g.2))
    (λ h. let g = (any-told p xs).0 h in (any-told p (filter q xs)).1 (g.0, (Contains-filter q xs g.0).1 (g.1, both g.0 g.2), g.2))

-- the number of a predefined type
predefined-at : (n : Numbering) (name : List ℕ) (j : ℕ) → position_or_len (is_same (Some name)) (all_types n) ≡ j → j < 5 → type_number n (Some name) ≡ Some j
predefined-at n name j is less =
    ap (λ (k : ℕ). cond (nat_lt k (length (all_types n))) (Some k) None) is
    ∙ ap (λ (b : Bool). cond b (Some j) None) (lt-ltb j (length (all_types n)) (omega (arith, less)))

-- the bit of one type
one-bit : (n : Numbering) (name : List ℕ) (j : ℕ) → type_number n (Some name) ≡ Some j → HasBitsOf n (name ∷ []) (2 ^ (j + 2))
one-bit n name j is k =
    let power = power-bit (j + 2) (k + 2) in (
      λ h. (name, Contains-head name [], is ∙ ap (λ (i : ℕ). Some i) (let same = power.0 h in omega (arith, same))),
      λ g.
          let its : type_number n (Some g.0) ≡ Some j = subst (λ (x : List ℕ). type_number n (Some x) ≡ Some j) (Contains-one name g.0 g.1) is in
          let same : k ≡ j = same_Some k j (sym g.2 ∙ its) in
          power.1 (omega (arith, same)),
    )

named-predefined : (name : List ℕ) (rec : Recorded) → is_one_of predefined_types name ≡ true → of_file.is_of (name ∷ []) rec ≡ true → of_file.is_predefined rec ≡ true
named-predefined name Unmapped is h = refl
named-predefined name (Mapped None) is h = refl
named-predefined name (Mapped (Some other)) is h = is_named (one-named name other h)
  where
    one-named : (x y : List ℕ) → is_one_of (x ∷ []) y ≡ true → x ≡ y
    one-named x y e = let g = (any-told (λ (z : List ℕ). bytes_eq z y) (x ∷ [])).0 e in Contains-one x g.0 g.1 ∙ (bytes_same g.0 y g.2)
      where
        bytes_same : (a b : List ℕ) → bytes_eq a b ≡ true → a ≡ b
        bytes_same a b f = (bytes_eq-Decides a b).0 f

    is_named : name ≡ other → is_one_of predefined_types other ≡ true
    is_named e = subst (λ (x : List ℕ). is_one_of predefined_types x ≡ true) e is

typed-predefined : (j : ℕ) (x : Kind) → j < 5 → of_table.is_of (2 ^ (j + 2)) x ≡ true → of_table.is_predefined x ≡ true
typed-predefined j TableUnmapped less h = refl
typed-predefined j Untyped less h = refl
typed-predefined j (Typed k) less h =
    let same = (power-bit (j + 2) (k + 2)).0 ((Decides-eqb (bit_at (2 ^ (j + 2)) (k + 2)) 1).0 h) in
    lt-ltb k 5 (omega (arith, same, less))

-- 'activated' may be told where the ruleset says 'valid': of variants without a type that have one of their own in the
-- table, which the default actions see in the ruleset alone
abbrev pub IsToldAs : List ℕ → Disposition → Type 0
IsToldAs word d = (word ≡ disposition_word d) ⊎ ((word ≡ codes "valid") × (d ≡ Activated))

module _ (n : Numbering) (recs : List Recorded) (kinds : List Kind) (same : SameKinds n recs kinds) (each : AreNumbered n recs) where
  -- some variant of a predefined type
  some-predefined : (name : List ℕ) (j : ℕ) → type_number n (Some name) ≡ Some j → j < 5
      → has_asked (asking ask.Any name) (filter of_file.is_predefined recs) ≡ of_table.has_types (Some (trigger.Any (2 ^ (j + 2)))) (filter of_table.is_predefined kinds)
  some-predefined name j is less =
      let there : is_one_of predefined_types name ≡ true = predefined-number n name j is ∙ lt-ltb j 5 less in
      any-kept (of_file.is_of (name ∷ [])) of_file.is_predefined recs (λ rec h. named-predefined name rec there h)
      ∙ asked-word n (name ∷ []) (2 ^ (j + 2)) ask.Any recs kinds (one-bit n name j is) same each
      ∙ sym (any-kept (of_table.is_of (2 ^ (j + 2))) of_table.is_predefined kinds (λ x h. typed-predefined j x less h))

  -- all are activated
  pub all-activated : AreSeenAlike n recs
      → has_asked (asking ask.All (codes "activated")) (filter of_file.is_predefined recs) ≡ of_table.has_types (Some (trigger.All 32)) (filter of_table.is_predefined kinds)
  all-activated seen =
      asked-word n (codes "activated" ∷ []) 32 ask.All (filter of_file.is_predefined recs) (filter of_table.is_predefined kinds) (one-bit n (codes "activated") 3 (predefined-at n (codes "activated") 3 refl (omega arith)))
      (predefined-kept n recs kinds same each seen) (numbered-kept n of_file.is_predefined recs each)

  -- no variant without a type is recorded where all are activated
  activated-seen : has_asked (asking ask.All (codes "activated")) (filter of_file.is_predefined recs) ≡ true → AreSeenAlike n recs
  activated-seen h c =
      let seen : List Recorded = filter of_file.is_predefined recs in
      let both = and_parts (list_any of_file.is_mapped seen) (list_all (of_file.is_of (codes "activated" ∷ [])) (filter of_file.is_mapped seen)) h in
      let inside : Contains (filter of_file.is_mapped seen) (Mapped None) =
      (Contains-filter of_file.is_mapped seen (Mapped None)).1 ((Contains-filter of_file.is_predefined recs (Mapped None)).1 (c, refl), refl) in
      let clash : false ≡ true = (all-told (of_file.is_of (codes "activated" ∷ [])) (filter of_file.is_mapped seen)).0 both.1 (Mapped None) inside in
      absurd (cc)

  module _ (r : Ruleset) (m : Meanings) (v : List ℕ) (matched : ℕ → Bool) where
    by-types : (word : List ℕ) (d : Disposition) (asked : Option Trigger) (types : Option TypeTrigger) → disposition_word d ≡ word
        → has_asked asked (filter of_file.is_predefined recs) ≡ of_table.has_types types (filter of_table.is_predefined kinds)
        → Agrees (IsTriggered r m v (filter of_file.is_predefined recs)) (is_triggered matched (filter of_table.is_predefined kinds)) (of_file.by_types word asked) (of_table.by_types d types)
    by-types word d asked types is e = record {
      triggered = (
        λ h. and_from (of_table.has_types types (filter of_table.is_predefined kinds)) true (sym e ∙ h.types) refl,
        λ g. record { condition = tt; types = e ∙ (and_parts (of_table.has_types types (filter of_table.is_predefined kinds)) true g).0 },
      );
      disposition = is;
    }

    abbrev test : TableAction → Bool
    test = is_triggered matched (filter of_table.is_predefined kinds)

    abbrev Is : Action → Type 0
    Is = IsTriggered r m v (filter of_file.is_predefined recs)

    abbrev last_two : List Action
    last_two = of_file.by_types (codes "activated") (asking ask.All (codes "activated")) ∷ of_file.by_types (codes "valid") None ∷ []

    abbrev three_tests : List TableAction
    three_tests = of_table.by_types Invalid (Some (trigger.Any 4)) ∷ of_table.by_types Blocked (Some (trigger.Any 8)) ∷ of_table.by_types Allocatable (Some (trigger.Any 16)) ∷ []

    abbrev last_tests : List TableAction
    last_tests = of_table.by_types Activated (Some (trigger.All 32)) ∷ of_table.by_types Valid None ∷ []

    module _ (Told : List ℕ → Disposition → Type 0) (exact : (w : List ℕ) (d : Disposition) → w ≡ disposition_word d → Told w d)
        (loose : has_asked (asking ask.All (codes "activated")) (filter of_file.is_predefined recs) ≡ false → of_table.has_types (Some (trigger.All 32)) (filter of_table.is_predefined kinds) ≡ true
        → (w : List ℕ) → w ≡ codes "valid" → Told w Activated) where
      last-told : (w : List ℕ) → IsOfFirst Is last_two (λ (none : List ℕ). ⊥) w → Told w (first_told test last_tests Valid)
      last-told w h =
          by (has_asked (asking ask.All (codes "activated")) (filter of_file.is_predefined recs)) (of_table.has_types (Some (trigger.All 32)) (filter of_table.is_predefined kinds)) refl refl h
        where
          by : (asks types : Bool) → has_asked (asking ask.All (codes "activated")) (filter of_file.is_predefined recs) ≡ asks
              → of_table.has_types (Some (trigger.All 32)) (filter of_table.is_predefined kinds) ≡ types → IsOfFirst Is last_two (λ (none : List ℕ). ⊥) w
              → Told w (unwrap_or (option_map (λ (action : TableAction). action.disposition) (cond (types && true) (Some (of_table.by_types Activated (Some (trigger.All 32)))) (Some (of_table.by_types Valid None)))) Valid)
          by true true e f g = elim g [
            | inl here ↦ exact w Activated here.1
            | inr later ↦ absurd (later.0 (record { condition = tt; types = e }))
          ]
          by true false e f g = let clash : true ≡ false = sym e ∙ all-activated (activated-seen e) ∙ f in absurd (cc)
          by false true e f g = elim g [
            | inl here ↦ exact w Activated here.1
            | inr later ↦ elim later.1 [
              | inl valid ↦ loose e f w valid.1
              | inr none ↦ absurd none.1
            ]
          ]
          by false false e f g = elim g [
            | inl here ↦ absurd (let clash : false ≡ true = sym e ∙ here.0.types in cc)
            | inr later ↦ elim later.1 [
              | inl valid ↦ exact w Valid valid.1
              | inr none ↦ absurd none.1
            ]
          ]

      -- what the default actions tell
      pub default-told : (w : List ℕ) → IsOfFirst Is of_file.default_actions (λ (none : List ℕ). ⊥) w → Told w (unwrap_or (of_table.default_disposition matched kinds) Valid)
      default-told w h =
          subst (Told w) (sym (told-append test three_tests last_tests Valid)) (first-told Is test (IsOfFirst Is last_two (λ (none : List ℕ). ⊥)) Told exact (first_told test last_tests Valid) last-told
          (of_file.by_types (codes "invalid") (asking ask.Any (codes "invalid")) ∷ of_file.by_types (codes "blocked") (asking ask.Any (codes "blocked")) ∷ of_file.by_types (codes "allocatable") (asking ask.Any (codes "allocatable")) ∷ [])
          three_tests (
            by-types (codes "invalid") Invalid (asking ask.Any (codes "invalid")) (Some (trigger.Any 4)) refl (some-predefined (codes "invalid") 0 (predefined-at n (codes "invalid") 0 refl (omega arith)) (omega arith)),
            (
              by-types (codes "blocked") Blocked (asking ask.Any (codes "blocked")) (Some (trigger.Any 8)) refl (some-predefined (codes "blocked") 1 (predefined-at n (codes "blocked") 1 refl (omega arith)) (omega arith)),
              (by-types (codes "allocatable") Allocatable (asking ask.Any (codes "allocatable")) (Some (trigger.Any 16)) refl (some-predefined (codes "allocatable") 2 (predefined-at n (codes "allocatable") 2 refl (omega arith)) (omega arith)), tt),
            ),
          ) w h)
