-- Actions of a file under the names of its table.
use Rattle.std.proofs.Common.{◌≡◌, ℕ, zero, suc, ◌+◌, ◌<◌, ◌≤◌, Bool, true, false, not, cond, List, [], ◌∷◌, ◌++◌, length, map, take, get_or, Option, Some, None, Ok, Decides, refl, sym, ap, subst, ◌∙◌, arith, length-append}
use Rattle.std.specs.Prelude.{Contains, bytes_eq, codes, nat_lt, slice_index_or, unwrap_or}
use Rattle.std.specs.List.{flat_map, position_or_len}
use Rattle.std.specs.Option.{option_map}
use Rattle.std.proofs.lemmas.Bool.Decides.{nat_tests}
use Rattle.std.proofs.lemmas.Grind.{flat_map-append}
use Rattle.std.proofs.lemmas.List.{append-nil, get_or-append-add, get_or_default, length-take-le, map-append, take_all, take_more}
use Rattle.std.proofs.lemmas.Slice.Eq.{bytes_eq-Decides}
use Rattle.ruleset_text.specs.ActionSteps.{disposition_of}
use Rattle.ruleset_text.specs.Actions.{NamedAction, disposition_word}
use Rattle.ruleset_text.specs.Definition as definition
use Rattle.ruleset_text.specs.Definitions.{Definitions, type_name, type_names, with_definition}
use Rattle.ruleset_text.specs.Names.{number_of, predefined_types}
use Rattle.variant_dispositions.specs.declared.disposition.Disposition.{Disposition}
use Rattle.variant_dispositions.specs.declared.disposition.Disposition.TheVariants.{Invalid, Blocked, Allocatable, Activated, Valid}
use Rattle.lgr_text.specs.ActionNames as texts
use Rattle.lgr_text.specs.ActionNames.{called, each_once}
use Rattle.lgr_text.specs.Records.{Action, Condition, Trigger, action}
use Rattle.lgr_text.specs.declared.actions.Renamed.{Renamed}
use Rattle.lgr_text.specs.declared.records.Action as held_action
use Rattle.lgr_text.specs.Names.{asked}
use Rattle.lgr_table.specs.Numbers.{Numbering, all_types, is_same}
use Rattle.lgr_table.specs.Tables.{SayActions, SaysAction, called_condition, called_trigger, called_type}
use Rattle.lgr_table.specs.declared.actions.TypeNames.{TypeNames}
use Rattle.lgr_table.specs.inner.Steps.{AddsAction, AreAmong, HaveDefined}
use Rattle.lgr_table.specs.inner.TypeNames.{AreNamesOf, named, written}
use Rattle.lgr_table.proofs.AddedLemmas.{is-added}
use Rattle.variant_table.specs.Entries.{TableValue}

-- ---- names

same_way : (x y : List ℕ) → bytes_eq x y ≡ bytes_eq y x
same_way x y = by_test (bytes_eq x y) (bytes_eq y x) (bytes_eq-Decides x y) (bytes_eq-Decides y x)
  where
    by_test : (a b : Bool) → Decides a (x ≡ y) → Decides b (y ≡ x) → a ≡ b
    by_test true true h k = refl
    by_test false false h k = refl
    by_test true false h k = sym (k.1 (sym (h.0 refl)))
    by_test false true h k = h.1 (sym (k.0 refl))

-- a name that has a number is the one at it
pub name_there : (names : List (List ℕ)) (name : List ℕ) → number_of names name < length names → Contains names name
unfolding number_of
name_there names name h = (number_of names name, h, at names h)
  where
    at : (names : List (List ℕ)) → number_of names name < length names → slice_index_or names (number_of names name) name ≡ name
    at [] h = absurd (omega (arith, h))
    at (x ∷ names) h = by_test (bytes_eq x name) refl h (at names)
      where
        by_test : (b : Bool) → bytes_eq x name ≡ b → cond (not b) (1 + number_of names name) 0 < suc (length names)
            → (number_of names name < length names → slice_index_or names (number_of names name) name ≡ name)
            → slice_index_or (x ∷ names) (cond (not b) (1 + number_of names name) 0) name ≡ name
        by_test true e h rest = (bytes_eq-Decides x name).0 e
        by_test false e h rest =
            let next : 1 + number_of names name ≡ suc (number_of names name) = omega arith in
            ap (λ (k : ℕ). slice_index_or (x ∷ names) k name) next ∙ rest (omega (arith, h))

-- ---- types

abbrev place : List ℕ → List (Option (List ℕ)) → ℕ
place name types = position_or_len (is_same (Some name)) types

-- what the first type of this name is called, where these are numbered from k on
abbrev called_from : List (List ℕ) → ℕ → List ℕ → List (Option (List ℕ)) → List ℕ
called_from d k name types = cond (nat_lt (place name types) (length types)) (slice_index_or d (k + place name types) []) []

later : (d : List (List ℕ)) (k p n : ℕ) → cond (nat_lt p n) (slice_index_or d (k + 1 + p) []) [] ≡ cond (nat_lt (1 + p) (suc n)) (slice_index_or d (k + (1 + p)) []) []
later d k p n =
    let test : nat_lt p n ≡ nat_lt (1 + p) (suc n) = grind (arith, nat_tests) in
    let number : k + 1 + p ≡ k + (1 + p) = omega arith in
    ap (λ (b : Bool). cond b (slice_index_or d (k + 1 + p) []) []) test ∙ ap (λ (j : ℕ). cond (nat_lt (1 + p) (suc n)) (slice_index_or d j []) []) number

written_at : (d : List (List ℕ)) (k : ℕ) (name : List ℕ) (types : List (Option (List ℕ))) → slice_index_or (written d k types) (number_of (named types) name) [] ≡ called_from d k name types
unfolding number_of
written_at d k name [] = refl
written_at d k name (None ∷ types) = written_at d (k + 1) name types ∙ later d k (place name types) (length types)
written_at d k name (Some x ∷ types) = ap (λ (b : Bool). slice_index_or (slice_index_or d k [] ∷ written d (k + 1) types) (cond (not b) (1 + number_of (named types) name) 0) []) (same_way x name)
    ∙ by_test (written_at d (k + 1) name types) (bytes_eq name x)
  where
    by_test : slice_index_or (written d (k + 1) types) (number_of (named types) name) [] ≡ called_from d (k + 1) name types → (b : Bool)
        → slice_index_or (slice_index_or d k [] ∷ written d (k + 1) types) (cond (not b) (1 + number_of (named types) name) 0) []
        ≡ cond (nat_lt (cond (not b) (1 + place name types) 0) (suc (length types))) (slice_index_or d (k + cond (not b) (1 + place name types) 0) []) []
    by_test rest true =
        let here : k ≡ k + 0 = omega arith in
        let within : true ≡ nat_lt 0 (suc (length types)) = grind (arith, nat_tests) in
        ap (λ (j : ℕ). slice_index_or d j []) here ∙ ap (λ (b : Bool). cond b (slice_index_or d (k + 0) []) []) within
    by_test rest false =
        let next : 1 + number_of (named types) name ≡ suc (number_of (named types) name) = omega arith in
        ap (λ (j : ℕ). slice_index_or (slice_index_or d k [] ∷ written d (k + 1) types) j []) next
        ∙ rest ∙ later d k (place name types) (length types)

called_is : (d : Definitions) (n : Numbering) (name : List ℕ) → slice_index_or (written (type_names d) 0 (all_types n)) (number_of (named (all_types n)) name) [] ≡ called_type n d name
called_is d n name = written_at (type_names d) 0 name (all_types n) ∙ by_test (nat_lt (place name (all_types n)) (length (all_types n)))
  where
    by_test : (b : Bool) → cond b (type_name d (0 + place name (all_types n))) [] ≡ unwrap_or (option_map (type_name d) (cond b (Some (place name (all_types n))) None)) []
    by_test true = let number : 0 + place name (all_types n) ≡ place name (all_types n) = omega arith in ap (type_name d) number
    by_test false = refl

-- ---- dispositions

same_some : {X : Type 0} (x y : X) → (let o : Option X = Some x in o) ≡ Some y → x ≡ y
same_some x y e = cc

no_some : {X A : Type 0} (x : X) → (let o : Option X = None in o) ≡ Some x → A
no_some x e = absurd cc

-- what is found by a test of the word
found_by : (w v : List ℕ) (x y : Disposition) (o : Option Disposition) → v ≡ disposition_word x → (o ≡ Some y → disposition_word y ≡ w) → cond (bytes_eq w v) (Some x) o ≡ Some y → disposition_word y ≡ w
found_by w v x y o word later e = by_test (bytes_eq w v) refl e
  where
    by_test : (b : Bool) → bytes_eq w v ≡ b → cond b (Some x) o ≡ Some y → disposition_word y ≡ w
    by_test true t e = ap disposition_word (sym (same_some x y e)) ∙ sym word ∙ sym ((bytes_eq-Decides w v).0 t)
    by_test false t e = later e

disposition_spelled : (w : List ℕ) (d : Disposition) → disposition_of w ≡ Some d → disposition_word d ≡ w
disposition_spelled w d e =
    let last : Option Disposition = cond (bytes_eq w (codes "valid")) (Some Valid) None in
    let fourth : Option Disposition = cond (bytes_eq w (codes "activated")) (Some Activated) last in
    let third : Option Disposition = cond (bytes_eq w (codes "allocatable")) (Some Allocatable) fourth in
    let second : Option Disposition = cond (bytes_eq w (codes "blocked")) (Some Blocked) third in
    found_by w (codes "invalid") Invalid d second refl
    (found_by w (codes "blocked") Blocked d third refl
    (found_by w (codes "allocatable") Allocatable d fourth refl
    (found_by w (codes "activated") Activated d last refl
    (found_by w (codes "valid") Valid d None refl (λ none. no_some d none))))) e

-- ---- an action

-- the names that these are called are those of the table
pub record AreCalled (n : Numbering) (d : Definitions) (rules types : Renamed) : Type 0 where
  pub rules_called : (name : List ℕ) → called rules name ≡ slice_index_or d.rule_names (number_of n.rules name) []
  pub types_called : (name : List ℕ) → called types name ≡ called_type n d name

map_same : {X Y : Type 0} (f g : X → Y) → ((x : X) → f x ≡ g x) → (xs : List X) → map f xs ≡ map g xs
map_same f g same [] = refl
map_same f g same (x ∷ xs) = ap (λ y. y ∷ map f xs) (same x) ∙ ap (λ ys. g x ∷ ys) (map_same f g same xs)

option_same : {X Y : Type 0} (f g : X → Y) → ((x : X) → f x ≡ g x) → (o : Option X) → option_map f o ≡ option_map g o
option_same f g same None = refl
option_same f g same (Some x) = ap Some (same x)

-- what the names of a file are called in a ruleset says what the action of the table has to say
pub says_action : (n : Numbering) (d : Definitions) (rules types : Renamed) (a : Action) (b : NamedAction) → AreCalled n d rules types
    → texts.SaysAction rules types a b → SaysAction n d a b
says_action n d rules types a b are says = record {
  disposition = disposition_spelled a.disposition b.disposition says.disposition;
  condition = says.condition ∙ option_same (texts.condition_called rules) (called_condition n d)
      (λ (c : Condition). ap (λ (name : List ℕ). record { kind = c.kind; rule = name }) (are.rules_called c.rule)) a.condition;
  trigger = says.trigger ∙ option_same (texts.trigger_called types) (called_trigger n d)
      (λ (t : Trigger). ap (λ (names : List (List ℕ)). record { kind = t.kind; types = names })
      (ap each_once (map_same (called types) (called_type n d) are.types_called t.types))) a.trigger;
}

-- ---- one action after another

say_more : (n : Numbering) (d : Definitions) (actions : List Action) (them : List NamedAction) (a : Action) (b : NamedAction) → SayActions n d actions them → SaysAction n d a b
    → SayActions n d (actions ++ a ∷ []) (them ++ b ∷ [])
say_more n d [] [] a b h is = (is, tt)
say_more n d [] (y ∷ them) a b h is = absurd h
say_more n d (x ∷ actions) [] a b h is = absurd h
say_more n d (x ∷ actions) (y ∷ them) a b h is = (h.0, say_more n d actions them a b h.1 is)

-- what actions say goes by the names of types and rules alone
pub say_still : (n : Numbering) (d : Definitions) (more : List NamedAction) (actions : List Action) (them : List NamedAction) → SayActions n d actions them
    → SayActions n (record d { actions = more }) actions them
say_still n d more [] [] h = tt
say_still n d more [] (y ∷ them) h = absurd h
say_still n d more (x ∷ actions) [] h = absurd h
say_still n d more (x ∷ actions) (y ∷ them) h = (record { disposition = h.0.disposition; condition = h.0.condition; trigger = h.0.trigger }, say_still n d more actions them h.1)

abbrev pub with_actions : TableValue → List NamedAction → TableValue
with_actions t actions = record t { definitions = record t.definitions { actions = actions } }

pub defined_none : (n : Numbering) (t : TableValue) → t.definitions.actions ≡ [] → HaveDefined n t t []
defined_none n t none = record {
  others = refl;
  say = subst (SayActions n t.definitions []) (sym none) tt;
  asked_for = λ k d l. absurd (omega (arith, l));
}

pub among_both : (rules xs ys : List (List ℕ)) → AreAmong rules xs → AreAmong rules ys → AreAmong rules (xs ++ ys)
among_both rules [] ys left right = right
among_both rules (x ∷ xs) ys left right = at (among_both rules xs ys (λ k d l. left (suc k) d (omega (arith, l))) right)
  where
    at : AreAmong rules (xs ++ ys) → AreAmong rules (x ∷ xs ++ ys)
    at rest zero d l = left zero d (omega arith)
    at rest (suc k) d l = rest k d (omega (arith, l))

pub defined_more : (n : Numbering) (t u v : TableValue) (actions : List Action) (a : Action) → HaveDefined n t u actions → AddsAction n a u v
    → HaveDefined n t v (actions ++ a ∷ [])
defined_more n t u v actions a h k =
    let them : List NamedAction = u.definitions.actions ++ k.named ∷ [] in
    let its : v.definitions.actions ≡ them = ap (λ (x : TableValue). x.definitions.actions) k.added in
    let said = subst (λ (x : TableValue). SaysAction n x.definitions a k.named) h.others k.says in
    let says : SaysAction n t.definitions a k.named = record { disposition = said.disposition; condition = said.condition; trigger = said.trigger } in
    record {
      others = k.added ∙ ap (λ (x : TableValue). with_actions x them) h.others ∙ ap (with_actions t) (sym its);
      say = subst (SayActions n t.definitions (actions ++ a ∷ [])) (sym its) (say_more n t.definitions actions u.definitions.actions a k.named h.say says);
      asked_for = subst (AreAmong n.rules) (sym (flat_map-append (λ (b : Action). asked b.condition) actions (a ∷ [])))
          (among_both n.rules (flat_map (λ (b : Action). asked b.condition) actions) (asked a.condition ++ []) h.asked_for
          (subst (AreAmong n.rules) (sym (append-nil (asked a.condition))) k.asked_for));
    }

-- one action more of those in memory
pub one_more : (actions : List held_action.Action) (k : ℕ) (a : held_action.Action) → k < length actions → a ≡ get_or actions k a
    → map action (take (k + 1) actions) ≡ map action (take k actions) ++ action a ∷ []
one_more actions k a l is =
    ap (map action) (take_more actions k a l) ∙ map-append action (take k actions) (get_or actions k a ∷ [])
    ∙ ap (λ (x : held_action.Action). map action (take k actions) ++ action x ∷ []) (sym is)

-- the action is defined
pub action_added : (n : Numbering) (a : Action) (t u : TableValue) (b : NamedAction) (limit : ℕ) → u ≡ record t { definitions = u.definitions }
    → with_definition limit t.definitions (Some (definition.Action b)) ≡ Ok u.definitions → SaysAction n t.definitions a b → AreAmong n.rules (asked a.condition)
    → AddsAction n a t u
action_added n a t u b limit only e says there = record {
  named = b;
  added = only ∙ ap (λ (d : Definitions). record t { definitions = d }) (sym (is-added limit t.definitions u.definitions (definition.Action b) e));
  says = says;
  asked_for = there;
}

-- the names that were made go with the table
pub are_called : (n : Numbering) (d : Definitions) (names : TypeNames) (rules types : Renamed) → rules.names.now ≡ n.rules → rules.written.now ≡ d.rule_names
    → types.names.now ≡ names.names.items → types.written.now ≡ names.written.items → AreNamesOf n d names → AreCalled n d rules types
are_called n d names rules types a b e f are = record {
  rules_called = λ name. ap (λ (xs : List (List ℕ)). slice_index_or xs (number_of rules.names.now name) []) b
      ∙ ap (λ (xs : List (List ℕ)). slice_index_or d.rule_names (number_of xs name) []) a;
  types_called = λ name.
      let written_is = f ∙ are.written_names in
      let named_is = e ∙ are.names in
      ap (λ (xs : List (List ℕ)). slice_index_or xs (number_of types.names.now name) []) written_is
      ∙ ap (λ (xs : List (List ℕ)). slice_index_or (written (type_names d) 0 (all_types n)) (number_of xs name) []) named_is
      ∙ called_is d n name;
}

-- ---- the types so far

-- those before the number k have their names
pub record AreNamedBelow (n : Numbering) (d : Definitions) (k : ℕ) (types : TypeNames) : Type 0 where
  pub names : types.names.items ≡ named (take k (all_types n))
  pub written_names : types.written.items ≡ written (type_names d) 0 (take k (all_types n))

named-append : (xs ys : List (Option (List ℕ))) → named (xs ++ ys) ≡ named xs ++ named ys
named-append [] ys = refl
named-append (None ∷ xs) ys = named-append xs ys
named-append (Some x ∷ xs) ys = ap (λ (l : List (List ℕ)). x ∷ l) (named-append xs ys)

written-append : (d : List (List ℕ)) (k : ℕ) (xs ys : List (Option (List ℕ))) → written d k (xs ++ ys) ≡ written d k xs ++ written d (k + length xs) ys
written-append d k [] ys = let here : k ≡ k + 0 = omega arith in ap (λ (j : ℕ). written d j ys) here
written-append d k (None ∷ xs) ys =
    let next : k + 1 + length xs ≡ k + suc (length xs) = omega arith in
    written-append d (k + 1) xs ys ∙ ap (λ (j : ℕ). written d (k + 1) xs ++ written d j ys) next
written-append d k (Some x ∷ xs) ys =
    let next : k + 1 + length xs ≡ k + suc (length xs) = omega arith in
    ap (λ (l : List (List ℕ)). slice_index_or d k [] ∷ l) (written-append d (k + 1) xs ys ∙ ap (λ (j : ℕ). written d (k + 1) xs ++ written d j ys) next)

module _ (n : Numbering) (d : Definitions) (k : ℕ) (l : k < length (all_types n)) where
  abbrev all : List (Option (List ℕ))
  all = all_types n

  next_is : (type : Option (List ℕ)) → get_or all k None ≡ type → take (k + 1) all ≡ take k all ++ type ∷ []
  next_is type is = take_more all k None l ∙ ap (λ (x : Option (List ℕ)). take k all ++ x ∷ []) is

  at_number : 0 + length (take k all) ≡ k
  at_number = omega (arith, length-take-le k all (omega (arith, l)))

  pub named_next : (old new : TypeNames) (name : List ℕ) → get_or all k None ≡ Some name → AreNamedBelow n d k old
      → new.names.items ≡ old.names.items ++ name ∷ [] → new.written.items ≡ old.written.items ++ type_name d k ∷ [] → AreNamedBelow n d (k + 1) new
  named_next old new name is are names written_too = record {
    names = names ∙ ap (λ (xs : List (List ℕ)). xs ++ name ∷ []) are.names ∙ sym (named-append (take k all) (Some name ∷ [])) ∙ ap named (sym (next_is (Some name) is));
    written_names = written_too ∙ ap (λ (xs : List (List ℕ)). xs ++ type_name d k ∷ []) are.written_names
        ∙ ap (λ (j : ℕ). written (type_names d) 0 (take k all) ++ type_name d j ∷ []) (sym at_number)
        ∙ sym (written-append (type_names d) 0 (take k all) (Some name ∷ [])) ∙ ap (written (type_names d) 0) (sym (next_is (Some name) is));
  }

  pub unnamed_next : (names : TypeNames) → get_or all k None ≡ None → AreNamedBelow n d k names → AreNamedBelow n d (k + 1) names
  unnamed_next names is are = record {
    names = are.names ∙ sym (append-nil (named (take k all))) ∙ sym (named-append (take k all) (None ∷ [])) ∙ ap named (sym (next_is None is));
    written_names = are.written_names ∙ sym (append-nil (written (type_names d) 0 (take k all))) ∙ sym (written-append (type_names d) 0 (take k all) (None ∷ [])) ∙ ap (written (type_names d) 0) (sym (next_is None is));
  }

predefined_at : (names : List (List ℕ)) (types : List (Option (List ℕ))) (k : ℕ) → k < length names → get_or (map Some names ++ types) k None ≡ Some (slice_index_or names k [])
predefined_at [] types k l = absurd (omega (arith, l))
predefined_at (x ∷ names) types zero l = refl
predefined_at (x ∷ names) types (suc k) l = predefined_at names types k (omega (arith, l))

-- a predefined type, and a type of the table's own
pub predefined_is : (n : Numbering) (k : ℕ) → k < 5 → get_or (all_types n) k None ≡ Some (slice_index_or predefined_types k [])
predefined_is n k l = predefined_at predefined_types n.types k l

pub own_is : (n : Numbering) (k : ℕ) → get_or (all_types n) (5 + k) None ≡ get_or n.types k None
own_is n k = get_or-append-add (map Some predefined_types) n.types k None

pub own_at : (n : Numbering) (types : List (Option (List ℕ))) (k : ℕ) (x y : Option (List ℕ)) → types ≡ n.types → k < length types → x ≡ get_or types k x → x ≡ y
    → get_or (all_types n) (5 + k) None ≡ y
own_at n types k x y same l is e =
    own_is n k ∙ ap (λ (xs : List (Option (List ℕ))). get_or xs k None) (sym same) ∙ get_or_default types k None x l ∙ sym is ∙ e

pub none_of : (type : Option (List ℕ)) → ((name : List ℕ) → type ≡ Some name → ⊥) → type ≡ None
none_of None other = refl
none_of (Some name) other = absurd (other name refl)

pub length-types : (n : Numbering) → length (all_types n) ≡ 5 + length n.types
length-types n = length-append (map Some predefined_types) n.types

pub named_all : (n : Numbering) (d : Definitions) (k : ℕ) (names : TypeNames) → length (all_types n) ≤ k → AreNamedBelow n d k names → AreNamesOf n d names
named_all n d k names l are = record {
  names = are.names ∙ ap named (take_all k (all_types n) l);
  written_names = are.written_names ∙ ap (written (type_names d) 0) (take_all k (all_types n) l);
}
