-- Actions that are demands, and the others.
use Rattle.std.proofs.Common.{◌≡◌, ℕ, zero, suc, ◌<◌, Bool, true, false, not, cond, List, [], ◌∷◌, ◌++◌, length, map, take, drop, get_or, Option, Some, None, Ok, refl, sym, ap, subst, ◌∙◌, arith}
use Rattle.std.specs.Prelude.{Contains, filter, is_some}
use Rattle.std.specs.List.{AllByRecursion, filter_map, flat_map}
use Rattle.std.specs.Option.{option_map}
use Rattle.std.proofs.lemmas.Grind.{flat_map-append}
use Rattle.std.proofs.lemmas.List.{append-nil, map-append, take-append-drop, drop_all, take_all}
use Rattle.std.proofs.lemmas.List.Elements.{filter-append, filter_map-append}
use Rattle.std.proofs.Math.Seq.{drop-cons}
use Rattle.ruleset_text.specs.Actions.{NamedAction}
use Rattle.ruleset_text.specs.Definition as definition
use Rattle.ruleset_text.specs.Definitions.{Definitions, Demand, type_names, with_definition}
use Rattle.ruleset_text.specs.Names.{number_of}
use Rattle.lgr_text.specs.Records.{Action, Condition, Ruleset, Trigger, action}
use Rattle.lgr_text.specs.declared.records.Action as held_action
use Rattle.lgr_text.specs.Names.{asked}
use Rattle.lgr_table.specs.Numbers.{Numbering, all_types}
use Rattle.lgr_text.specs.Demands.{demanded, following, leading, makes_invalid, rule_alone}
use Rattle.lgr_table.specs.Tables.{SayDemands, SaysDemand, SayActions, acting}
use Rattle.lgr_table.specs.declared.actions.TypeNames.{TypeNames}
use Rattle.lgr_table.specs.inner.Steps.{AddsAction, AddsActions, AddsDemand, AddsDemands, AreAmong, HaveDefined}
use Rattle.lgr_table.specs.inner.TypeNames.{AreNamesOf, written}
use Rattle.lgr_table.proofs.ActionLemmas.{among_both, name_there, with_actions}
use Rattle.lgr_table.proofs.AddedLemmas.{is-added}
use Rattle.variant_table.specs.Entries.{TableValue}

-- ---- those that lead

abbrev pub AllInvalid : List Action → Type 0
AllInvalid actions = AllByRecursion (λ a. makes_invalid a ≡ true) actions

pub invalid-more : (some : List Action) (a : Action) → AllInvalid some → makes_invalid a ≡ true → AllInvalid (some ++ a ∷ [])
invalid-more [] a all is = (is, tt)
invalid-more (b ∷ some) a all is = (all.0, invalid-more some a all.1 is)

leading-first : (b : Bool) (a : Action) (rest : List Action) → b ≡ true → cond b (a ∷ rest) [] ≡ a ∷ rest
leading-first true a rest is = refl
leading-first false a rest is = absurd (cc)

following-first : (b : Bool) (rest other : List Action) → b ≡ true → cond b rest other ≡ rest
following-first true rest other is = refl
following-first false rest other is = absurd (cc)

leading-both : (some more : List Action) → AllInvalid some → leading (some ++ more) ≡ some ++ leading more
leading-both [] more all = refl
leading-both (a ∷ some) more all = leading-first (makes_invalid a) a (leading (some ++ more)) all.0 ∙ ap (λ l. a ∷ l) (leading-both some more all.1)

following-both : (some more : List Action) → AllInvalid some → following (some ++ more) ≡ following more
following-both [] more all = refl
following-both (a ∷ some) more all = following-first (makes_invalid a) (following (some ++ more)) (a ∷ some ++ more) all.0 ∙ following-both some more all.1

-- the list is cut where one doesn't make labels invalid
cut : (actions : List held_action.Action) (k : ℕ) → map action actions ≡ map action (take k actions) ++ map action (drop k actions)
cut actions k = ap (map action) (sym (take-append-drop k actions)) ∙ map-append action (take k actions) (drop k actions)

other-first : (b : Bool) (a : Action) (rest : List Action) → b ≡ false → (cond b (a ∷ rest) [] ≡ [])
other-first true a rest is = absurd (cc)
other-first false a rest is = refl

other-later : (b : Bool) (rest all : List Action) → b ≡ false → cond b rest all ≡ all
other-later true rest all is = absurd (cc)
other-later false rest all is = refl

module _ (actions : List held_action.Action) (k : ℕ) (a : held_action.Action) (less : k < length actions) (is : a ≡ get_or actions k a)
    (all : AllInvalid (map action (take k actions))) (stops : makes_invalid (action a) ≡ false) where
  rest : map action (drop k actions) ≡ action a ∷ map action (drop (suc k) actions)
  rest = ap (map action) (drop-cons actions k a less) ∙ ap (λ (b : held_action.Action). action b ∷ map action (drop (suc k) actions)) (sym is)

  pub leading-cut : map action (take k actions) ≡ leading (map action actions)
  leading-cut = sym (
      ap leading (cut actions k) ∙ leading-both (map action (take k actions)) (map action (drop k actions)) all
      ∙ ap (λ l. map action (take k actions) ++ l) (ap leading rest ∙ other-first (makes_invalid (action a)) (action a) (leading (map action (drop (suc k) actions))) stops)
      ∙ append-nil (map action (take k actions)))

  pub following-cut : map action (drop k actions) ≡ following (map action actions)
  following-cut = sym (
      ap following (cut actions k) ∙ following-both (map action (take k actions)) (map action (drop k actions)) all
      ∙ ap following rest ∙ other-later (makes_invalid (action a)) (following (map action (drop (suc k) actions))) (action a ∷ map action (drop (suc k) actions)) stops
      ∙ sym rest)

pub all-leading : (actions : List held_action.Action) → AllInvalid (map action actions) → map action (take (length actions) actions) ≡ leading (map action actions)
all-leading actions all =
    ap (map action) (take_all (length actions) actions (omega arith))
    ∙ sym (ap leading (sym (append-nil (map action actions))) ∙ leading-both (map action actions) [] all ∙ append-nil (map action actions))

pub all-following : (actions : List held_action.Action) → AllInvalid (map action actions) → map action (drop (length actions) actions) ≡ following (map action actions)
all-following actions all =
    ap (map action) (drop_all (length actions) actions (omega arith))
    ∙ sym (ap following (sym (append-nil (map action actions))) ∙ following-both (map action actions) [] all)

pub none-of : {X Y : Type 0} (f : X → Y) (o : Option X) → ((x : X) → o ≡ Some x → ⊥) → option_map f o ≡ None
none-of f None other = refl
none-of f (Some x) other = absurd (other x refl)

pub none-where : {X Y : Type 0} (f : X → Y) (o : Option X) → is_some o ≡ false → option_map f o ≡ None
none-where f None is = refl
none-where f (Some x) is = absurd (cc)

pub some-where : {X Y : Type 0} (f : X → Y) (o : Option X) → is_some o ≡ true → (y : Y) × (option_map f o ≡ Some y)
some-where f None is = absurd (cc)
some-where f (Some x) is = (f x, refl)

-- ---- demands

pub demand-added : (n : Numbering) (c : Condition) (t u : TableValue) (d : Demand) (limit : ℕ) → u ≡ record t { definitions = u.definitions }
    → with_definition limit t.definitions (Some (definition.Demand d.kind d.pattern)) ≡ Ok u.definitions → SaysDemand n t.definitions c d
    → number_of n.rules c.rule < length n.rules → AddsDemand n c t u
demand-added n c t u d limit only e says within = record {
  demand = d;
  added = only ∙ ap (λ (x : Definitions). record t { definitions = x }) (sym (is-added limit t.definitions u.definitions (definition.Demand d.kind d.pattern) e));
  says = says;
  asked_for = one (name_there n.rules c.rule within);
}
  where
    one : Contains n.rules c.rule → AreAmong n.rules (c.rule ∷ [])
    one there zero d l = there
    one there (suc k) d l = absurd (omega (arith, l))

pub demands-none : (n : Numbering) (t : TableValue) → t.definitions.demands ≡ [] → AddsDemands n [] t t
demands-none n t none = record {
  others = refl;
  say = subst (SayDemands n t.definitions []) (sym none) tt;
  asked_for = λ k d l. absurd (omega (arith, l));
}

say-demand-more : (n : Numbering) (d : Definitions) (conditions : List Condition) (them : List Demand) (c : Condition) (b : Demand) → SayDemands n d conditions them
    → SaysDemand n d c b → SayDemands n d (conditions ++ c ∷ []) (them ++ b ∷ [])
say-demand-more n d [] [] c b h is = (is, tt)
say-demand-more n d [] (y ∷ them) c b h is = absurd h
say-demand-more n d (x ∷ conditions) [] c b h is = absurd h
say-demand-more n d (x ∷ conditions) (y ∷ them) c b h is = (h.0, say-demand-more n d conditions them c b h.1 is)

abbrev with_demands : TableValue → List Demand → TableValue
with_demands t demands = record t { definitions = record t.definitions { demands = demands } }

pub demands-more : (n : Numbering) (conditions : List Condition) (c : Condition) (t u v : TableValue) → AddsDemands n conditions t u → AddsDemand n c u v
    → AddsDemands n (conditions ++ c ∷ []) t v
demands-more n conditions c t u v h k =
    let them : List Demand = u.definitions.demands ++ k.demand ∷ [] in
    let its : v.definitions.demands ≡ them = ap (λ (x : TableValue). x.definitions.demands) k.added in
    let said = subst (λ (x : TableValue). SaysDemand n x.definitions c k.demand) h.others k.says in
    let says : SaysDemand n t.definitions c k.demand = record { kind = said.kind; pattern = said.pattern } in
    record {
      others = k.added ∙ ap (λ (x : TableValue). with_demands x them) h.others ∙ ap (with_demands t) (sym its);
      say = subst (SayDemands n t.definitions (conditions ++ c ∷ [])) (sym its) (say-demand-more n t.definitions conditions u.definitions.demands c k.demand h.say says);
      asked_for = subst (AreAmong n.rules) (sym (map-append (λ (x : Condition). x.rule) conditions (c ∷ [])))
          (among_both n.rules (map (λ (x : Condition). x.rule) conditions) (c.rule ∷ []) h.asked_for k.asked_for);
    }

-- an action more, which is a demand or isn't
pub demanded-more : (n : Numbering) (some : List Action) (a : Action) (c : Condition) (t u v : TableValue) → rule_alone a ≡ Some c
    → AddsDemands n (filter_map rule_alone some) t u → AddsDemand n c u v → AddsDemands n (filter_map rule_alone (some ++ a ∷ [])) t v
demanded-more n some a c t u v is h k =
    subst (λ l. AddsDemands n l t v) (sym (filter_map-append rule_alone some (a ∷ []) ∙ ap (λ l. filter_map rule_alone some ++ l) (one (rule_alone a) is)))
    (demands-more n (filter_map rule_alone some) c t u v h k)
  where
    one : (o : Option Condition) → o ≡ Some c → filter_map (λ (x : Option Condition). x) (o ∷ []) ≡ c ∷ []
    one (Some x) e = ap (λ (y : Condition). y ∷ []) (same e)
      where
        same : (let p : Option Condition = Some x in p) ≡ Some c → x ≡ c
        same e = cc
    one None e = absurd (cc)

pub demanded-same : (n : Numbering) (some : List Action) (a : Action) (t u : TableValue) → rule_alone a ≡ None
    → AddsDemands n (filter_map rule_alone some) t u → AddsDemands n (filter_map rule_alone (some ++ a ∷ [])) t u
demanded-same n some a t u is h =
    subst (λ l. AddsDemands n l t u) (sym (filter_map-append rule_alone some (a ∷ []) ∙ ap (λ l. filter_map rule_alone some ++ l) (none (rule_alone a) is) ∙ append-nil (filter_map rule_alone some))) h
  where
    none : (o : Option Condition) → o ≡ None → filter_map (λ (x : Option Condition). x) (o ∷ []) ≡ []
    none (Some x) e = absurd (cc)
    none None e = refl

-- ---- the others

abbrev pub is_other : Action → Bool
is_other a = not (is_some (rule_alone a))

pub other-more : (some : List Action) (a : Action) → rule_alone a ≡ None → filter is_other (some ++ a ∷ []) ≡ filter is_other some ++ a ∷ []
other-more some a is = filter-append is_other some (a ∷ []) ∙ ap (λ l. filter is_other some ++ l) (one (rule_alone a) is)
  where
    one : (o : Option Condition) → o ≡ None → cond (not (is_some o)) (a ∷ []) [] ≡ a ∷ []
    one None e = refl
    one (Some c) e = absurd (cc)

pub other-same : (some : List Action) (a : Action) (c : Condition) → rule_alone a ≡ Some c → filter is_other (some ++ a ∷ []) ≡ filter is_other some
other-same some a c is = filter-append is_other some (a ∷ []) ∙ ap (λ l. filter is_other some ++ l) (none (rule_alone a) is) ∙ append-nil (filter is_other some)
  where
    none : (o : Option Condition) → o ≡ Some c → cond (not (is_some o)) (a ∷ []) [] ≡ []
    none None e = absurd (cc)
    none (Some x) e = refl

-- ---- what an action leaves as it is

pub rules-still : (n : Numbering) (a : Action) (u v : TableValue) (count : ℕ) → AddsAction n a u v → length u.definitions.rule_names ≡ count → length v.definitions.rule_names ≡ count
rules-still n a u v count adds same = ap (λ (x : TableValue). length x.definitions.rule_names) adds.added ∙ same

pub types-still : (n : Numbering) (a : Action) (u v : TableValue) (types : TypeNames) → AddsAction n a u v → AreNamesOf n u.definitions types → AreNamesOf n v.definitions types
types-still n a u v types adds are = record {
  names = are.names;
  written_names = are.written_names ∙ sym (ap (λ (x : TableValue). written (type_names x.definitions) 0 (all_types n)) adds.added);
}

-- ---- all of them

among-one : (rules : List (List ℕ)) (name : List ℕ) (names : List (List ℕ)) → Contains rules name → AreAmong rules names → AreAmong rules (name ∷ names)
among-one rules name names there all zero d l = there
among-one rules name names there all (suc k) d l = all k d (omega (arith, l))

among-split : (rules xs ys : List (List ℕ)) → AreAmong rules (xs ++ ys) → AreAmong rules xs × AreAmong rules ys
among-split rules [] ys all = (λ k d l. absurd (omega (arith, l)), all)
among-split rules (x ∷ xs) ys all =
    let rest = among-split rules xs ys (λ k d l. all (suc k) d (omega (arith, l))) in
    (among-one rules x xs (all zero [] (omega arith)) rest.0, rest.1)

abbrev ask : Action → List (List ℕ)
ask a = asked a.condition

asked-all : (rules : List (List ℕ)) (actions : List Action) → AreAmong rules (map (λ (c : Condition). c.rule) (filter_map rule_alone actions))
    → AreAmong rules (flat_map ask (filter is_other actions)) → AreAmong rules (flat_map ask actions)
asked-all rules [] left right = right
asked-all rules (a ∷ actions) left right =
    by (rule_alone a) refl
    (subst (λ l. AreAmong rules (map (λ (c : Condition). c.rule) l)) (filter_map-append rule_alone (a ∷ []) actions) left)
    right (asked-all rules actions)
  where
    its : (t : Option Trigger) (c : Option Condition) (x : Condition) → cond (is_some t) None c ≡ Some x → c ≡ Some x
    its (Some y) c x e = absurd (cc)
    its None c x e = e

    by : (o : Option Condition) → rule_alone a ≡ o
        → AreAmong rules (map (λ (c : Condition). c.rule) (filter_map (λ (x : Option Condition). x) (o ∷ []) ++ filter_map rule_alone actions))
        → AreAmong rules (flat_map ask (cond (not (is_some o)) (a ∷ filter is_other actions) (filter is_other actions)))
        → (AreAmong rules (map (λ (c : Condition). c.rule) (filter_map rule_alone actions)) → AreAmong rules (flat_map ask (filter is_other actions)) → AreAmong rules (flat_map ask actions))
        → AreAmong rules (ask a ++ flat_map ask actions)
    by None e left right rest =
        (let both = among-split rules (ask a) (flat_map ask (filter is_other actions)) right in
        among_both rules (ask a) (flat_map ask actions) both.0 (rest left both.1))
    by (Some x) e left right rest =
        (let both = among-split rules (x.rule ∷ []) (map (λ (c : Condition). c.rule) (filter_map rule_alone actions)) left in
        among_both rules (ask a) (flat_map ask actions) (subst (λ (o : Option Condition). AreAmong rules (asked o)) (sym (its a.trigger a.condition x e)) both.0) (rest both.1 right))

-- all are invalid, or those that lead and those that follow make up the whole
parts : (actions : List Action) → actions ≡ leading actions ++ following actions
parts [] = refl
parts (a ∷ actions) = by (makes_invalid a) (parts actions)
  where
    by : (b : Bool) → actions ≡ leading actions ++ following actions → a ∷ actions ≡ cond b (a ∷ leading actions) [] ++ cond b (following actions) (a ∷ actions)
    by true e = ap (λ l. a ∷ l) e
    by false e = refl

asked-acting : (rules : List (List ℕ)) (actions : List Action) → AreAmong rules (map (λ (c : Condition). c.rule) (demanded actions))
    → AreAmong rules (flat_map ask (acting actions)) → AreAmong rules (flat_map ask actions)
asked-acting rules actions left right =
    let both = among-split rules (flat_map ask (filter is_other (leading actions))) (flat_map ask (following actions))
    (subst (AreAmong rules) (flat_map-append ask (filter is_other (leading actions)) (following actions)) right) in
    subst (λ l. AreAmong rules (flat_map ask l)) (sym (parts actions))
    (subst (AreAmong rules) (sym (flat_map-append ask (leading actions) (following actions)))
    (among_both rules (flat_map ask (leading actions)) (flat_map ask (following actions)) (asked-all rules (leading actions) left both.0) both.1))

-- what demands say goes by the rules alone
say-demands-still : (n : Numbering) (d : Definitions) (more : List Demand) (other : List NamedAction) (conditions : List Condition) (them : List Demand)
    → SayDemands n d conditions them → SayDemands n (record d { demands = more; actions = other }) conditions them
say-demands-still n d more other [] [] h = tt
say-demands-still n d more other [] (y ∷ them) h = absurd h
say-demands-still n d more other (x ∷ conditions) [] h = absurd h
say-demands-still n d more other (x ∷ conditions) (y ∷ them) h =
    (record { kind = h.0.kind; pattern = h.0.pattern }, say-demands-still n d more other conditions them h.1)

say-actions-still : (n : Numbering) (d : Definitions) (more : List Demand) (other : List NamedAction) (actions : List Action) (them : List NamedAction)
    → SayActions n d actions them → SayActions n (record d { demands = more; actions = other }) actions them
say-actions-still n d more other [] [] h = tt
say-actions-still n d more other [] (y ∷ them) h = absurd h
say-actions-still n d more other (x ∷ actions) [] h = absurd h
say-actions-still n d more other (x ∷ actions) (y ∷ them) h =
    (record { disposition = h.0.disposition; condition = h.0.condition; trigger = h.0.trigger }, say-actions-still n d more other actions them h.1)

pub all-defined : (r : Ruleset) (n : Numbering) (t u v : TableValue) → AddsDemands n (demanded r.actions) t u → HaveDefined n u v (acting r.actions) → AddsActions r n t v
all-defined r n t u v demands actions =
    let both : v ≡ record t { definitions = record t.definitions { demands = u.definitions.demands; actions = v.definitions.actions } } =
    actions.others ∙ ap (λ (x : TableValue). with_actions x v.definitions.actions) demands.others in
    let same : v.definitions.demands ≡ u.definitions.demands = ap (λ (x : TableValue). x.definitions.demands) actions.others in
    let others : v ≡ record t { definitions = record t.definitions { demands = v.definitions.demands; actions = v.definitions.actions } } =
    both ∙ ap (λ (l : List Demand). record t { definitions = record t.definitions { demands = l; actions = v.definitions.actions } }) (sym same) in
    let made : v.definitions ≡ record t.definitions { demands = v.definitions.demands; actions = v.definitions.actions } = ap (λ (x : TableValue). x.definitions) others in
    let first : u.definitions ≡ record t.definitions { demands = u.definitions.demands } = ap (λ (x : TableValue). x.definitions) demands.others in
    let say : SayActions n (record t.definitions { demands = u.definitions.demands }) (acting r.actions) v.definitions.actions =
    subst (λ (d : Definitions). SayActions n d (acting r.actions) v.definitions.actions) first actions.say in
    record {
      others = others;
      demands = subst (λ (d : Definitions). SayDemands n d (demanded r.actions) v.definitions.demands) (sym made)
          (subst (SayDemands n (record t.definitions { demands = v.definitions.demands; actions = v.definitions.actions }) (demanded r.actions)) (sym same)
          (say-demands-still n t.definitions v.definitions.demands v.definitions.actions (demanded r.actions) u.definitions.demands demands.say));
      say = subst (λ (d : Definitions). SayActions n d (acting r.actions) v.definitions.actions) (sym made)
          (say-actions-still n (record t.definitions { demands = u.definitions.demands }) v.definitions.demands v.definitions.actions (acting r.actions) v.definitions.actions say);
      asked_for = asked-acting n.rules r.actions demands.asked_for actions.asked_for;
    }
