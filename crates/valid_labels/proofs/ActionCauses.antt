-- The cause of a label by its own disposition: the action that makes it invalid.
use Rattle.std.proofs.Common.{◌≡◌, ◌↔◌, ◌⊎◌, inl, inr, ℕ, zero, suc, ◌+◌, ◌<◌, Bool, true, false, cond, List, [], ◌∷◌, length, drop, get_or, refl, sym, ap, ◌∙◌, subst, arith}
use Rattle.std.specs.Prelude.{◌&&◌, Option, Some, None, filter, find, slice_get, unwrap_or}
use Rattle.std.specs.List.{Contains, list_all, list_any}
use Rattle.std.specs.Option.{option_map}
use Rattle.std.specs.Int.{bit_at}
use Rattle.std.proofs.lemmas.Bool.{cases_order, and_parts}
use Rattle.std.proofs.lemmas.Bool.Decides.{Decides-eqb}
use Rattle.std.proofs.lemmas.List.{drop_more}
use Rattle.std.proofs.lemmas.Nat.Bits.{bit_at_above}
use Rattle.std.proofs.lemmas.Option.{same_Some}
use Rattle.label_patterns.specs.declared.condition.Condition.{Condition}
use Rattle.variant_dispositions.specs.declared.action.Action.{Action}
use Rattle.variant_dispositions.specs.declared.action.TypeTrigger.{TypeTrigger}
use Rattle.variant_dispositions.specs.declared.action.TypeTrigger.TheVariants as trigger
use Rattle.variant_dispositions.specs.declared.action.TypeTrigger.TheVariants.{Any, Only}
use Rattle.variant_dispositions.specs.declared.disposition.Disposition.{Disposition}
use Rattle.variant_dispositions.specs.declared.disposition.Disposition.TheVariants.{Invalid, Blocked, Allocatable, Activated, Valid}
use Rattle.variant_dispositions.specs.Actions.{by_types, default_disposition, has_types, is_of, is_predefined, is_triggered, meets}
use Rattle.variant_dispositions.specs.Kinds.{Kind, is_mapped}
use Rattle.variant_dispositions.specs.Kinds.Kind.{Typed, Unmapped, Untyped}
use Rattle.variant_dispositions.specs.Laws.{AreTheSame}
use Rattle.variant_dispositions.proofs.MemberLemmas.{any-told, bool_same}
use Rattle.variant_dispositions.proofs.SetLemmas.{KindsAreASet-holds, same_first}
use Rattle.variant_table.specs.Entries.{Entry, TableValue}
use Rattle.variant_table.specs.Segmentations.{IsSegmentation}
use Rattle.variant_table.specs.WellFormed.{IsWellFormed}
use Rattle.variant_table.proofs.MemberLemmas.{Contains-head, Contains-later, Contains-none, Contains-cases}
use Rattle.variant_table.proofs.MemberLists.{Contains-filter}
use Rattle.valid_labels.specs.declared.cause.ActionCause.{ActionCause}
use Rattle.valid_labels.specs.declared.cause.ActionCause.TheVariants.{Rule, Source, Other}
use Rattle.valid_labels.specs.declared.cause.ValidityCause.{ValidityCause}
use Rattle.valid_labels.specs.declared.cause.ValidityCause.TheVariants.{Action as ByAction, DefaultAction}
use Rattle.valid_labels.specs.declared.invalid.CutSource.{CutSource}
use Rattle.valid_labels.specs.Actions.{actions_of, matches_rule}
use Rattle.valid_labels.specs.Causes.{IsActionCause, IsFirstTriggered, IsFirstTyped, Triggers, action_cause, cut_kinds, first_typed, invalid_by, invalid_from, longest_cut, source_cause, type_cause, types_cause}
use Rattle.valid_labels.specs.Dispositions.{IsClearItself, IsOwnDisposition, disposition_by, kinds_of}
use Rattle.valid_labels.specs.Eligible.{IsEligible}
use Rattle.valid_labels.proofs.CutSources.{IsFound, any-typed, eligible-cut, first-typed-is, one-typed, typed-any}
use Rattle.valid_labels.proofs.EligibleLemmas.{opposite}

-- ---- the first action

-- one of the actions is the first of which the test is true
pub record IsFirstOf (test : Action → Bool) (sources : List CutSource) (n : ℕ) (actions : List Action) (told : Option ValidityCause) : Type 0 where
  pub number : ℕ
  pub action : Action
  pub at : slice_get actions number ≡ Some action
  pub passes : test action ≡ true
  pub first : (m : ℕ) (b : Action) → m < number → slice_get actions m ≡ Some b → test b ≡ false
  pub found : find test actions ≡ Some action
  pub told_is : told ≡ Some (ByAction (n + number) (action_cause sources action.types action.condition))

-- or none is
pub record IsNoneOf (test : Action → Bool) (sources : List CutSource) (actions : List Action) (told : Option ValidityCause) : Type 0 where
  pub none : (a : Action) → Contains actions a → test a ≡ false
  pub found : find test actions ≡ None
  pub told_is : told ≡ option_map (λ s. DefaultAction s.place) (first_typed 4 sources)

pub first-of : (test : Action → Bool) (sources : List CutSource) (n : ℕ) (actions : List Action)
    → IsFirstOf test sources n actions (invalid_from test sources n actions) ⊎ IsNoneOf test sources actions (invalid_from test sources n actions)
first-of test sources n [] = inr (record { none = λ a c. absurd (Contains-none a c); found = refl; told_is = refl })
first-of test sources n (a ∷ actions) = by_test (test a) refl (first-of test sources (suc n) actions)
  where
    before : (bound : ℕ) → test a ≡ false → ((m : ℕ) (b : Action) → m < bound → slice_get actions m ≡ Some b → test b ≡ false)
        → (m : ℕ) (b : Action) → m < suc bound → slice_get (a ∷ actions) m ≡ Some b → test b ≡ false
    before bound is rest zero b l at = ap test (sym (same_Some a b at)) ∙ is
    before bound is rest (suc m) b l at = rest m b (omega (arith, l)) at

    by_test : (t : Bool) → test a ≡ t
        → IsFirstOf test sources (suc n) actions (invalid_from test sources (suc n) actions) ⊎ IsNoneOf test sources actions (invalid_from test sources (suc n) actions)
        → IsFirstOf test sources n (a ∷ actions) (cond t (Some (ByAction n (action_cause sources a.types a.condition))) (invalid_from test sources (suc n) actions))
        ⊎ IsNoneOf test sources (a ∷ actions) (cond t (Some (ByAction n (action_cause sources a.types a.condition))) (invalid_from test sources (suc n) actions))
    by_test true is later = inl (record {
      number = 0;
      action = a;
      at = refl;
      passes = is;
      first = λ m b l at. absurd (omega (arith, l));
      found = ap (λ t. cond t (Some a) (find test actions)) is;
      told_is = (let same : n ≡ n + 0 = omega arith in ap (λ k. Some (ByAction k (action_cause sources a.types a.condition))) same);
    })
    by_test false is (inl f) = inl (record {
      number = suc f.number;
      action = f.action;
      at = f.at;
      passes = f.passes;
      first = before f.number is f.first;
      found = ap (λ t. cond t (Some a) (find test actions)) is ∙ f.found;
      told_is = f.told_is ∙ (let same : suc n + f.number ≡ n + suc f.number = omega arith in ap (λ k. Some (ByAction k (action_cause sources f.action.types f.action.condition))) same);
    })
    by_test false is (inr e) = inr (record {
      none = λ b c. elim (Contains-cases a actions b c) [ inl same ↦ ap test (sym same) ∙ is | inr rest ↦ e.none b rest ];
      found = ap (λ t. cond t (Some a) (find test actions)) is ∙ e.found;
      told_is = e.told_is;
    })

-- a member of a list, by its number
pub listed-at : {X : Type 0} (xs : List X) (n : ℕ) (x : X) → slice_get xs n ≡ Some x → Contains xs x
listed-at [] n x at = absurd (let f : None ≡ Some x = at in cc)
listed-at (y ∷ xs) zero x at = subst (Contains (y ∷ xs)) (same_Some y x at) (Contains-head y xs)
listed-at (y ∷ xs) (suc n) x at = Contains-later y xs x (listed-at xs n x at)

-- ---- the first default action

-- what the default actions tell, by their four tests
abbrev by_tests : Bool → Bool → Bool → Bool → Option Disposition
by_tests one two three four =
    option_map (λ (action : Action). action.disposition)
    (cond (one && true) (Some (by_types Invalid (Some (Any 4))))
    (cond (two && true) (Some (by_types Blocked (Some (Any 8))))
    (cond (three && true) (Some (by_types Allocatable (Some (Any 16))))
    (cond (four && true) (Some (by_types Activated (Some (trigger.All 32)))) (Some (by_types Valid None))))))

tests-invalid : (one two three four : Bool) → (unwrap_or (by_tests one two three four) Valid ≡ Invalid) ↔ (one ≡ true)
tests-invalid true two three four = (λ h. refl, λ h. refl)
tests-invalid false true three four = (λ h. absurd (let f : Blocked ≡ Invalid = h in cc), λ h. absurd (let f : false ≡ true = h in cc))
tests-invalid false false true four = (λ h. absurd (let f : Allocatable ≡ Invalid = h in cc), λ h. absurd (let f : false ≡ true = h in cc))
tests-invalid false false false true = (λ h. absurd (let f : Activated ≡ Invalid = h in cc), λ h. absurd (let f : false ≡ true = h in cc))
tests-invalid false false false false = (λ h. absurd (let f : Valid ≡ Invalid = h in cc), λ h. absurd (let f : false ≡ true = h in cc))

default-invalid : (matched : ℕ → Bool) (kinds : List Kind) → (unwrap_or (default_disposition matched kinds) Valid ≡ Invalid) ↔ (list_any (is_of 4) (filter is_predefined kinds) ≡ true)
default-invalid matched kinds =
    tests-invalid (list_any (is_of 4) (filter is_predefined kinds)) (list_any (is_of 8) (filter is_predefined kinds)) (list_any (is_of 16) (filter is_predefined kinds))
    (list_any is_mapped (filter is_predefined kinds) && list_all (is_of 32) (filter is_mapped (filter is_predefined kinds)))

-- only the type of number 0 is in the word 4
four-zero : (number : ℕ) → is_of 4 (Typed number) ≡ true → number ≡ 0
four-zero zero h = refl
four-zero (suc number) h =
    let one : bit_at 4 (suc number + 2) ≡ 1 = (Decides-eqb (bit_at 4 (suc number + 2)) 1).0 h in
    let none : bit_at 4 (suc number + 2) ≡ 0 = bit_at_above 4 3 (suc number + 2) (omega arith) (omega arith) in
    absurd (omega (arith, one, none))

four-predefined : (kinds : List Kind) → list_any (is_of 4) (filter is_predefined kinds) ≡ list_any (is_of 4) kinds
four-predefined kinds = bool_same (list_any (is_of 4) (filter is_predefined kinds)) (list_any (is_of 4) kinds)
    (λ h. let g = (any-told (is_of 4) (filter is_predefined kinds)).0 h in (any-told (is_of 4) kinds).1 (g.0, ((Contains-filter is_predefined kinds g.0).0 g.1).0, g.2))
    (λ h. let g = (any-told (is_of 4) kinds).0 h in (any-told (is_of 4) (filter is_predefined kinds)).1 (g.0, (Contains-filter is_predefined kinds g.0).1 (g.1, predefined g.0 g.2), g.2))
  where
    predefined : (kind : Kind) → is_of 4 kind ≡ true → is_predefined kind ≡ true
    predefined Unmapped h = refl
    predefined Untyped h = refl
    predefined (Typed number) h = ap (λ n. is_predefined (Typed n)) (four-zero number h)

-- ---- what kinds trigger

same-triggered : (matched : ℕ → Bool) (kinds others : List Kind) → AreTheSame kinds others → (a : Action) → is_triggered matched kinds a ≡ is_triggered matched others a
same-triggered matched kinds others same a = by_tests_of (is_triggered matched kinds a) (is_triggered matched others a) (same_first matched kinds others same (a ∷ []))
  where
    by_tests_of : (b c : Bool) → option_map (λ (x : Action). x.disposition) (cond b (Some a) None) ≡ option_map (λ (x : Action). x.disposition) (cond c (Some a) None) → b ≡ c
    by_tests_of true true e = refl
    by_tests_of true false e = absurd (let f : Some a.disposition ≡ None = e in cc)
    by_tests_of false true e = absurd (let f : None ≡ Some a.disposition = e in cc)
    by_tests_of false false e = refl

-- ---- one action after the other

invalid-here : (test : Action → Bool) (sources : List CutSource) (n : ℕ) (a : Action) (actions : List Action) → test a ≡ true
    → invalid_from test sources n (a ∷ actions) ≡ Some (ByAction n (action_cause sources a.types a.condition))
invalid-here test sources n a actions is = ap (λ b. cond b (Some (ByAction n (action_cause sources a.types a.condition))) (invalid_from test sources (suc n) actions)) is

invalid-later : (test : Action → Bool) (sources : List CutSource) (n : ℕ) (a : Action) (actions : List Action) → test a ≡ false → invalid_from test sources n (a ∷ actions) ≡ invalid_from test sources (n + 1) actions
invalid-later test sources n a actions is =
    ap (λ b. cond b (Some (ByAction n (action_cause sources a.types a.condition))) (invalid_from test sources (suc n) actions)) is
    ∙ (let next : suc n ≡ n + 1 = omega arith in ap (λ k. invalid_from test sources k actions) next)

-- the action of this number is triggered, or isn't
pub invalid-at : (test : Action → Bool) (sources : List CutSource) (actions : List Action) (n : ℕ) (d : Action) (r : Bool) → n < length actions → r ≡ test (get_or actions n d) → r ≡ true
    → invalid_from test sources n (drop n actions) ≡ Some (ByAction n (action_cause sources (get_or actions n d).types (get_or actions n d).condition))
invalid-at test sources actions n d r l is true_is = ap (invalid_from test sources n) (drop_more actions n d l) ∙ invalid-here test sources n (get_or actions n d) (drop (n + 1) actions) (sym is ∙ true_is)

pub invalid-past : (test : Action → Bool) (sources : List CutSource) (actions : List Action) (n : ℕ) (d : Action) (r : Bool) → n < length actions → r ≡ test (get_or actions n d) → r ≡ false
    → invalid_from test sources n (drop n actions) ≡ invalid_from test sources (n + 1) (drop (n + 1) actions)
invalid-past test sources actions n d r l is false_is = ap (invalid_from test sources n) (drop_more actions n d l) ∙ invalid-later test sources n (get_or actions n d) (drop (n + 1) actions) (sym is ∙ false_is)

-- tests that are the same tell the same
same-invalid : (test other : Action → Bool) → ((a : Action) → test a ≡ other a) → (sources : List CutSource) (n : ℕ) (actions : List Action) → invalid_from test sources n actions ≡ invalid_from other sources n actions
same-invalid test other same sources n [] = refl
same-invalid test other same sources n (a ∷ actions) =
    ap (λ b. cond b (Some (ByAction n (action_cause sources a.types a.condition))) (invalid_from test sources (suc n) actions)) (same a)
    ∙ ap (λ o. cond (other a) (Some (ByAction n (action_cause sources a.types a.condition))) o) (same-invalid test other same sources (suc n) actions)

pub invalid-by_kinds : (matched : ℕ → Bool) (kinds others : List Kind) → AreTheSame kinds others → (sources : List CutSource) (actions : List Action)
    → invalid_from (is_triggered matched kinds) sources 0 actions ≡ invalid_from (is_triggered matched others) sources 0 actions
invalid-by_kinds matched kinds others same sources actions = same-invalid (is_triggered matched kinds) (is_triggered matched others) (same-triggered matched kinds others same) sources 0 actions

module _ (table : TableValue) (label : List ℕ) (formed : IsWellFormed table.entries) (eligible : IsEligible table label) (clear : IsClearItself table label) where
  abbrev pub Parts : List CutSource
  Parts = longest_cut table label

  abbrev pub Kinds : List Kind
  Kinds = cut_kinds (longest_cut table label)

  abbrev Test : Action → Bool
  Test a = is_triggered (matches_rule table label) Kinds a

  -- each segmentation records what the longest-first cut does
  same-kinds : (es : List Entry) → IsSegmentation table es label → AreTheSame (kinds_of es) Kinds
  same-kinds es is =
      let cut = eligible-cut table label formed eligible in
      subst (AreTheSame (kinds_of es)) cut.2 (λ kind. (clear es cut.0 is cut.1 kind, clear cut.0 es cut.1 is kind))

  triggers : (a : Action) → Triggers table label a ↔ (Test a ≡ true)
  triggers a =
      let cut = eligible-cut table label formed eligible in (
        λ h. sym (same-triggered (matches_rule table label) (kinds_of h.0) Kinds (same-kinds h.0 h.1) a) ∙ h.2,
        λ h. (cut.0, cut.1, ap (λ kinds. is_triggered (matches_rule table label) kinds a) cut.2 ∙ h),
      )

  own : (d : Disposition) → IsOwnDisposition table label d ↔ (disposition_by table label Kinds ≡ d)
  own d =
      let cut = eligible-cut table label formed eligible in (
        λ h. sym (KindsAreASet-holds (matches_rule table label) (actions_of table.definitions) (kinds_of h.0) Kinds (same-kinds h.0 h.1)) ∙ h.2,
        λ h. (cut.0, cut.1, ap (disposition_by table label) cut.2 ∙ h),
      )

  -- ---- what is told of an action

  any-cause : (types : ℕ) → list_any (is_of types) Kinds ≡ true → (o : Option CutSource) → first_typed types Parts ≡ o → (a : Action) → a.condition ≡ None → a.types ≡ Some (Any types)
      → IsActionCause table label a (source_cause o)
  any-cause types any None is a free asks = absurd (any-typed types Parts any is)
  any-cause types any (Some s) is a free asks =
      let found = subst (λ o. IsFound table label formed types o) is (first-typed-is table label formed types) in
      subst (λ o. IsActionCause table label a (type_cause s.place o)) (sym found.1) (free, (types, asks, found.2))

  types-told : (t : Option TypeTrigger) → has_types t Kinds ≡ true → (a : Action) → a.condition ≡ None → a.types ≡ t → IsActionCause table label a (types_cause Parts t)
  types-told None has a free asks = (free, λ types e. (let clash : None ≡ Some (Any types) = sym asks ∙ e in cc))
  types-told (Some (Any types)) has a free asks = any-cause types has (first_typed types Parts) refl a free asks
  types-told (Some (trigger.All types)) has a free asks = (free, λ more e. (let clash : trigger.All types ≡ Any more = same_Some (trigger.All types) (Any more) (sym asks ∙ e) in cc))
  types-told (Some (Only types)) has a free asks = (free, λ more e. (let clash : Only types ≡ Any more = same_Some (Only types) (Any more) (sym asks ∙ e) in cc))

  action-told : (a : Action) → Test a ≡ true → IsActionCause table label a (action_cause Parts a.types a.condition)
  action-told a passes = by_condition a.condition refl
    where
      by_condition : (o : Option Condition) → a.condition ≡ o → IsActionCause table label a (action_cause Parts a.types o)
      by_condition None is = types-told a.types (and_parts (has_types a.types Kinds) (meets (matches_rule table label) a.condition) passes).0 a is refl
      by_condition (Some c) is = is

  -- and nothing else is
  pub one-action-cause : (a : Action) (x y : ActionCause) → IsActionCause table label a x → IsActionCause table label a y → x ≡ y
  one-action-cause a (Rule c) (Rule d) first second = ap Rule (same_Some c d (sym first ∙ second))
  one-action-cause a (Rule c) (Source p n) first second = absurd (let clash : Some c ≡ None = sym first ∙ second.0 in cc)
  one-action-cause a (Rule c) Other first second = absurd (let clash : Some c ≡ None = sym first ∙ second.0 in cc)
  one-action-cause a (Source p n) (Rule c) first second = absurd (let clash : Some c ≡ None = sym second ∙ first.0 in cc)
  one-action-cause a Other (Rule c) first second = absurd (let clash : Some c ≡ None = sym second ∙ first.0 in cc)
  one-action-cause a (Source p n) Other first second = absurd (second.1 first.1.0 first.1.1)
  one-action-cause a Other (Source p n) first second = absurd (first.1 second.1.0 second.1.1)
  one-action-cause a Other Other first second = refl
  one-action-cause a (Source p m) (Source q n) first second =
      let asks : Any first.1.0 ≡ Any second.1.0 = same_Some (Any first.1.0) (Any second.1.0) (sym first.1.1 ∙ second.1.1) in
      let types : first.1.0 ≡ second.1.0 = cc in
      let same = one-typed table label formed second.1.0 p q m n (subst (λ t. IsFirstTyped table label t p m) types first.1.2) second.1.2 in
      ap (λ k. Source k m) same.0 ∙ ap (Source q) same.1

  -- ---- by the disposition

  abbrev Actions : List Action
  Actions = actions_of table.definitions

  -- what is told where the label is invalid
  abbrev pub IsTold : Option ValidityCause → Type 0
  IsTold told =
      ((n : ℕ) × (a : Action) × IsFirstTriggered table label n a × (a.disposition ≡ Invalid) × (told ≡ Some (ByAction n (action_cause Parts a.types a.condition))) × IsActionCause table label a (action_cause Parts a.types a.condition))
      ⊎ ((place : ℕ) × ((a : Action) → Contains Actions a → ¬ Triggers table label a) × IsFirstTyped table label 4 place 0 × (told ≡ Some (DefaultAction place)))

  by-disposition : (found : Option Action) → find Test Actions ≡ found → disposition_by table label Kinds ≡ unwrap_or (option_map (λ (a : Action). a.disposition) found) (unwrap_or (default_disposition (matches_rule table label) Kinds) Valid)
  by-disposition found is = ap (λ (o : Option Action). unwrap_or (option_map (λ (a : Action). a.disposition) o) (unwrap_or (default_disposition (matches_rule table label) Kinds) Valid)) is

  default-told : (o : Option CutSource) → first_typed 4 Parts ≡ o → list_any (is_of 4) Kinds ≡ true → (s : CutSource) × (o ≡ Some s) × IsFirstTyped table label 4 s.place 0
  default-told None is any = absurd (any-typed 4 Parts any is)
  default-told (Some s) is any =
      let found = subst (λ o. IsFound table label formed 4 o) is (first-typed-is table label formed 4) in
      (s, refl, subst (IsFirstTyped table label 4 s.place) (four-zero found.0 found.2.here.asked) found.2)

  pub invalid-told : IsOwnDisposition table label Invalid → IsTold (invalid_by table label Parts)
  invalid-told invalid =
      let e : disposition_by table label Kinds ≡ Invalid = (own Invalid).0 invalid in
      elim (first-of Test Parts 0 Actions) [
        | inl f ↦
            let number : 0 + f.number ≡ f.number = omega arith in
            inl (
              f.number,
              f.action,
              record {
                at = f.at;
                triggered = (triggers f.action).1 f.passes;
                first = λ m b l at h. opposite (Test b) ((triggers b).0 h) (f.first m b l at);
              },
              sym (by-disposition (Some f.action) f.found) ∙ e,
              f.told_is ∙ ap (λ k. Some (ByAction k (action_cause Parts f.action.types f.action.condition))) number,
              action-told f.action f.passes,
            )
        | inr n ↦
            let any : list_any (is_of 4) Kinds ≡ true = sym (four-predefined Kinds) ∙ (default-invalid (matches_rule table label) Kinds).0 (sym (by-disposition None n.found) ∙ e) in
            let d = default-told (first_typed 4 Parts) refl any in
            inr (
              d.0.place,
              λ a c h. opposite (Test a) ((triggers a).0 h) (n.none a c),
              d.2,
              n.told_is ∙ ap (option_map (λ (s : CutSource). DefaultAction s.place)) d.1,
            )
      ]

  -- there is one first action
  pub same-first : (n : ℕ) (a : Action) → IsFirstTriggered table label n a → (m : ℕ) (b : Action) → slice_get Actions m ≡ Some b → Test b ≡ true
      → ((k : ℕ) (x : Action) → k < m → slice_get Actions k ≡ Some x → Test x ≡ false) → b ≡ a
  same-first n a is m b at passes first = elim (cases_order m n) [
    | inl same ↦ same_Some b a (sym at ∙ ap (slice_get Actions) same ∙ is.at)
    | inr o ↦ elim o [
      | inl less ↦ absurd (is.first m b less at ((triggers b).1 passes))
      | inr more ↦ absurd (opposite (Test a) ((triggers a).0 is.triggered) (first n a more is.at))
    ]
  ]

  -- the first action that makes it invalid
  pub action-invalid : (n : ℕ) (a : Action) → IsFirstTriggered table label n a → a.disposition ≡ Invalid → IsOwnDisposition table label Invalid
  action-invalid n a is invalid = (own Invalid).1 (elim (first-of Test Parts 0 Actions) [
    | inl f ↦ by-disposition (Some f.action) f.found ∙ ap (λ (x : Action). x.disposition) (same-first n a is f.number f.action f.at f.passes f.first) ∙ invalid
    | inr none ↦ absurd (opposite (Test a) ((triggers a).0 is.triggered) (none.none a (listed-at Actions n a is.at)))
  ])

  pub default-makes_invalid : (place : ℕ) → ((a : Action) → Contains Actions a → ¬ Triggers table label a) → IsFirstTyped table label 4 place 0 → IsOwnDisposition table label Invalid
  default-makes_invalid place never first = (own Invalid).1 (elim (first-of Test Parts 0 Actions) [
    | inl f ↦ absurd (never f.action (listed-at Actions f.number f.action f.at) ((triggers f.action).1 f.passes))
    | inr none ↦ by-disposition None none.found ∙ (default-invalid (matches_rule table label) Kinds).1 (four-predefined Kinds ∙ typed (first_typed 4 Parts) refl)
  ])
    where
      typed : (o : Option CutSource) → first_typed 4 Parts ≡ o → list_any (is_of 4) Kinds ≡ true
      typed None is = absurd (subst (λ o. IsFound table label formed 4 o) is (first-typed-is table label formed 4) place 0 first.here)
      typed (Some s) is = typed-any 4 Parts s is
