-- What is told of a ruleset is a fault of it.
use Rattle.std.proofs.Common.{◌≡◌, ℕ, zero, suc, ◌<◌, ◌≤◌, ◌⊎◌, inl, inr, ◌&&◌, Bool, true, false, cond, List, [], ◌∷◌, ◌++◌, length, get_or, Option, Some, None, refl, sym, ap, subst, ◌∙◌, arith}
use Rattle.std.specs.Prelude.{Contains, is_some, nat_lt, slice_index_or}
use Rattle.std.specs.List.{flat_map, list_all}
use Rattle.std.specs.Option.{option_or}
use Rattle.std.proofs.lemmas.Bool.{and_from, lt-ltb}
use Rattle.std.proofs.lemmas.List.{get_or_default}
use Rattle.std.proofs.lemmas.List.Elements.{Contains-append_left, Contains-append_right}
use Rattle.ruleset_text.specs.Names.{number_of}
use Rattle.ruleset_text.specs.ActionSteps.{disposition_of}
use Rattle.variant_dispositions.specs.declared.disposition.Disposition.{Disposition}
use Rattle.label_patterns.specs.Patterns as pattern
use Rattle.label_patterns.specs.Patterns.{Pattern}
use Rattle.label_patterns.specs.Rules.{is_context_rule}
use Rattle.lgr_text.specs.ActionNames.{action_fault, condition_fault, is_called, trigger_fault}
use Rattle.lgr_text.specs.ClassMembers.{class_fault}
use Rattle.lgr_text.specs.Known.{Known}
use Rattle.lgr_text.specs.PartAtoms.{fault_within}
use Rattle.lgr_text.specs.PartMatches.{has_anchor, part_fault}
use Rattle.lgr_text.specs.Records as lgr
use Rattle.lgr_text.specs.Records.{Class, IsClass, IsRule, Part, action, file, meaning}
use Rattle.lgr_text.specs.declared.actions.Renamed.{Renamed}
use Rattle.lgr_text.specs.declared.records.Action.{Action}
use Rattle.lgr_text.specs.declared.records.Condition.{Condition}
use Rattle.lgr_text.specs.declared.records.Definition.{Definition}
use Rattle.lgr_text.specs.declared.records.Entry.{Entry}
use Rattle.lgr_text.specs.declared.records.Ruleset.{Ruleset}
use Rattle.lgr_text.specs.declared.rule_error.RuleError.{RuleError}
use Rattle.lgr_text.specs.declared.rule_error.RuleError.TheVariants as error
use Rattle.lgr_text.specs.declared.rule_error.RuleFault.{RuleFault}
use Rattle.lgr_text.specs.declared.rule_error.RuleFault.TheVariants as wrong
use Rattle.lgr_text.specs.inner.Faults.{IsTold}
use Rattle.lgr_table.specs.Entries.{needs_type}
use Rattle.lgr_table.specs.Faults.{AsksForAnchor, ComesNext, HasActionOn, IsFaultOfTable, NamesNothing, conditions, conditions_in, given}
use Rattle.lgr_table.specs.Numbers.{types_of}
use Rattle.lgr_table.specs.declared.fault.TableError.{TableError}
use Rattle.lgr_table.specs.declared.fault.TableError.TheVariants.{Fault, Memory}
use Rattle.lgr_table.specs.declared.fault.TableFault.TheVariants.{BadClass, Limit, NoSuchName, NotSupported, SameName, SameSource, SameVariant, Syntax}
use Rattle.lgr_table.specs.inner.FaultSteps.{AreAllIn, HasRulesOf, IsAnchored, IsLimitOn, KnowsRules, TellsAnchored, TellsDisposition, TellsOfDefinition}
use Rattle.lgr_table.specs.inner.TypeSteps.{TellsTypes}
use Rattle.lgr_table.proofs.NumberLemmas.{number-found}

-- ---- elements

-- what a loop reads
pub is-read : {X : Type 0} (xs : List X) (i : ℕ) (x : X) → i < length xs → x ≡ get_or xs i x → Contains xs x
is-read xs i x less is = (i, less, sym is)

pub in-flat : {X Y : Type 0} (f : X → List Y) (xs : List X) (x : X) (y : Y) → Contains xs x → Contains (f x) y → Contains (flat_map f xs) y
in-flat f [] x y h k = absurd (omega (arith, h.1))
in-flat f (z ∷ xs) x y h k = at (λ later. in-flat f xs x y later k) h.0 h.1 h.2
  where
    at : (Contains xs x → Contains (flat_map f xs) y) → (n : ℕ) → n < length (z ∷ xs) → slice_index_or (z ∷ xs) n x ≡ x
        → Contains (f z ++ flat_map f xs) y
    at rest zero less is = Contains-append_left (f z) (flat_map f xs) y (subst (λ w. Contains (f w) y) (sym is) k)
    at rest (suc n) less is = Contains-append_right (f z) (flat_map f xs) y (rest (n, omega (arith, less), is))

-- ---- conditions

pub of-entry : (r : Ruleset) (e : Entry) → Contains r.entries.items e → AreAllIn (conditions r) (conditions_in e)
of-entry r e h c k =
    Contains-append_left (flat_map conditions_in r.entries.items) (flat_map (λ (a : Action). given a.condition) r.actions.items) c
    (in-flat conditions_in r.entries.items e c h k)

pub of-action : (r : Ruleset) (a : Action) → Contains r.actions.items a → AreAllIn (conditions r) (given a.condition)
of-action r a h c k =
    Contains-append_right (flat_map conditions_in r.entries.items) (flat_map (λ (b : Action). given b.condition) r.actions.items) c
    (in-flat (λ (b : Action). given b.condition) r.actions.items a c h k)

has-number : (names : List (List ℕ)) (name : List ℕ) → Contains names name → number_of names name < length names
has-number names name h = number-found names h.0 name h.1 (get_or_default names h.0 [] name h.1 ∙ h.2)

-- a condition asks for a rule that has no number
pub asks-for-none : (may : ℕ → Bool) (r : Ruleset) (rules : List (List ℕ)) (c : Condition) → Contains (conditions r) c → HasRulesOf r rules
    → length rules ≤ number_of rules c.rule.name → NamesNothing may r c.rule.line
asks-for-none may r rules c among has none = inr (inr (inr (record {
  condition = c;
  among = among;
  here = refl;
  undefined = λ is. (let less = has-number rules c.rule.name (has c.rule.name is) in omega (arith, less, none));
})))

-- ---- definitions

limit-by : (b : Bool) (w : RuleFault) → cond b None (Some w) ≡ Some wrong.Limit → (w ≡ wrong.Limit → ⊥) → ⊥
limit-by true w is other = cc
limit-by false w is other = other (cc)

either-limit : (o q : Option RuleFault) → option_or o q ≡ Some wrong.Limit → (o ≡ Some wrong.Limit → ⊥) → (q ≡ Some wrong.Limit → ⊥) → ⊥
either-limit None q is first second = second is
either-limit (Some w) q is first second = first is

class-limit : (known : Known) (class : Class) → class_fault known class ≡ Some wrong.Limit → ⊥
class-limit known (lgr.Listed spans) is = cc
class-limit known (lgr.OfTag tag) is = limit-by _ wrong.Undefined is (λ e. cc)
class-limit known (lgr.OfProperty property) is = limit-by _ wrong.NotSupported is (λ e. cc)
class-limit known (lgr.OfClass name) is = limit-by _ wrong.Undefined is (λ e. cc)
class-limit known (lgr.Joined operation k m) is = either-limit _ _ is (class-limit known k) (class-limit known m)
class-limit known (lgr.Complement k) is = class-limit known k is

pub told-class : (may : ℕ → Bool) (r : Ruleset) (d : Definition) (known : Known) (class : Class) (e : RuleError) → ComesNext may r d known
    → meaning d.meaning ≡ IsClass class → IsTold (class_fault known class) e → TellsOfDefinition may r d.line e
told-class may r d known class (error.Fault wrong.Undefined) next is told =
    record { definition = d; here = refl; known = known; next = next; wrong = rw is told }
told-class may r d known class (error.Fault wrong.Misplaced) next is told =
    record { definition = d; here = refl; known = known; next = next; wrong = rw is told }
told-class may r d known class (error.Fault wrong.NotSupported) next is told =
    record { definition = d; here = refl; known = known; next = next; wrong = rw is told }
told-class may r d known class (error.Fault wrong.Limit) next is told = absurd (class-limit known class told)
told-class may r d known class error.Memory next is told = tt

-- no limit is gone past
no-limit : (b : Bool) (o : Option RuleFault) (w : RuleFault) → (wrong.Limit ≡ w → ⊥) → cond b (Some wrong.Limit) o ≡ Some w → o ≡ Some w
no-limit true o w other is = absurd (other (cc))
no-limit false o w other is = is

pub told-rule : (may : ℕ → Bool) (r : Ruleset) (d : Definition) (known : Known) (left : ℕ) (rule : Part) (e : RuleError) → Contains r.definitions.items d
    → ComesNext may r d known → meaning d.meaning ≡ IsRule rule → IsTold (fault_within left known rule) e → TellsOfDefinition may r d.line e
told-rule may r d known left rule (error.Fault wrong.Undefined) h next is told =
    let whole : part_fault known rule ≡ Some wrong.Undefined = no-limit _ _ wrong.Undefined (λ e. cc) told in
    record { definition = d; here = refl; known = known; next = next; wrong = rw is whole }
told-rule may r d known left rule (error.Fault wrong.Misplaced) h next is told =
    let whole : part_fault known rule ≡ Some wrong.Misplaced = no-limit _ _ wrong.Misplaced (λ e. cc) told in
    record { definition = d; here = refl; known = known; next = next; wrong = rw is whole }
told-rule may r d known left rule (error.Fault wrong.NotSupported) h next is told =
    let whole : part_fault known rule ≡ Some wrong.NotSupported = no-limit _ _ wrong.NotSupported (λ e. cc) told in
    record { definition = d; here = refl; known = known; next = next; wrong = rw is whole }
told-rule may r d known left rule (error.Fault wrong.Limit) h next is told =
    record { definition = d; among = h; here = refl; part = rule; is = is }
told-rule may r d known left rule error.Memory h next is told = tt

-- a table has no room for a rule
pub no-room : (may : ℕ → Bool) (r : Ruleset) (d : Definition) (rule : Part) (e : TableError) → Contains r.definitions.items d
    → meaning d.meaning ≡ IsRule rule → IsLimitOn d.line e → IsFaultOfTable may r e
no-room may r d rule (Fault Syntax line) h is told = absurd told
no-room may r d rule (Fault SameSource line) h is told = absurd told
no-room may r d rule (Fault SameVariant line) h is told = absurd told
no-room may r d rule (Fault BadClass line) h is told = absurd told
no-room may r d rule (Fault Limit line) h is told =
    inr (inr (inr (inl (record { definition = d; among = h; here = told; part = rule; is = is }))))
no-room may r d rule (Fault NoSuchName line) h is told = absurd told
no-room may r d rule (Fault SameName line) h is told = absurd told
no-room may r d rule (Fault NotSupported line) h is told = absurd told
no-room may r d rule Memory h is told = tt

-- ---- types

pub too-many-types : (may : ℕ → Bool) (r : Ruleset) (e : TableError) → TellsTypes (needs_type may (file r).entries) (types_of (file r)) e
    → IsFaultOfTable may r e
too-many-types may r (Fault Syntax line) told = absurd told
too-many-types may r (Fault SameSource line) told = absurd told
too-many-types may r (Fault SameVariant line) told = absurd told
too-many-types may r (Fault BadClass line) told = absurd told
too-many-types may r (Fault Limit line) told = inr (inl told)
too-many-types may r (Fault NoSuchName line) told = absurd told
too-many-types may r (Fault SameName line) told = absurd told
too-many-types may r (Fault NotSupported line) told = absurd told
too-many-types may r Memory told = tt

-- ---- actions

anchored-by : (known : Known) (names : List (List ℕ)) (rules : List Pattern) (name : List ℕ) → known.rule_names ≡ names → known.rules ≡ rules
    → IsAnchored names rules name → has_anchor known (lgr.OfRule name) ≡ true
anchored-by known names rules name e f h =
    ap (λ l. nat_lt (number_of l name) (length known.rules) && is_context_rule (slice_index_or known.rules (number_of l name) pattern.Anchor)) e
    ∙ ap (λ l. nat_lt (number_of names name) (length l) && is_context_rule (slice_index_or l (number_of names name) pattern.Anchor)) f
    ∙ and_from (nat_lt (number_of names name) (length rules)) (is_context_rule (slice_index_or rules (number_of names name) pattern.Anchor))
    (lt-ltb (number_of names name) (length rules) h.0) h.1

pub asks-for-anchor : (may : ℕ → Bool) (r : Ruleset) (a : Action) (c : Condition) (names : List (List ℕ)) (rules : List Pattern) (line : ℕ) → Contains r.actions.items a
    → Contains (given a.condition) c → KnowsRules may r names rules → IsAnchored names rules c.rule.name → (line ≡ a.line ⊎ line ≡ c.rule.line)
    → AsksForAnchor may r line
asks-for-anchor may r a c names rules line h own knows is here = record {
  action = a;
  among = h;
  condition = c;
  asks = own;
  here = here;
  known = knows.0;
  knows = knows.1;
  anchored = anchored-by knows.0 names rules c.rule.name knows.2 knows.3 is;
}

pub told-anchored : (may : ℕ → Bool) (r : Ruleset) (anchored : Bool) (on : ℕ) (e : TableError) → (anchored ≡ true → AsksForAnchor may r on)
    → HasActionOn r on → TellsAnchored anchored on e → IsFaultOfTable may r e
told-anchored may r anchored on (Fault Syntax line) asks here told = absurd told
told-anchored may r anchored on (Fault SameSource line) asks here told = absurd told
told-anchored may r anchored on (Fault SameVariant line) asks here told = absurd told
told-anchored may r anchored on (Fault BadClass line) asks here told = absurd told
told-anchored may r anchored on (Fault Limit line) asks here told = inr (inr (inr (inr (subst (HasActionOn r) (sym told) here))))
told-anchored may r anchored on (Fault NoSuchName line) asks here told = absurd told
told-anchored may r anchored on (Fault SameName line) asks here told = absurd told
told-anchored may r anchored on (Fault NotSupported line) asks here told = inr (inl (subst (AsksForAnchor may r) (sym told.1) (asks told.0)))
told-anchored may r anchored on Memory asks here told = tt

-- what is told of a condition or of types is that they aren't defined
name-other : (b : Bool) → cond b None (Some wrong.Undefined) ≡ Some wrong.NotSupported → ⊥
name-other true is = cc
name-other false is = cc

condition-other : (rules : Renamed) (o : Option lgr.Condition) → condition_fault rules o ≡ Some wrong.NotSupported → ⊥
condition-other rules None is = cc
condition-other rules (Some c) is = name-other (is_called rules c.rule) is

trigger-other : (types : Renamed) (o : Option lgr.Trigger) → trigger_fault types o ≡ Some wrong.NotSupported → ⊥
trigger-other types None is = cc
trigger-other types (Some t) is = name-other (list_all (is_called types) t.types) is

other-disposition : (rules types : Renamed) (a : lgr.Action) → action_fault rules types a ≡ Some wrong.NotSupported → disposition_of a.disposition ≡ None
other-disposition rules types a is = by (disposition_of a.disposition) is
  where
    neither : (o : Option RuleFault) → (o ≡ Some wrong.NotSupported → ⊥) → option_or o (trigger_fault types a.trigger) ≡ Some wrong.NotSupported → ⊥
    neither None other e = trigger-other types a.trigger e
    neither (Some w) other e = other e

    by : (d : Option Disposition) → cond (is_some d) (option_or (condition_fault rules a.condition) (trigger_fault types a.trigger)) (Some wrong.NotSupported) ≡ Some wrong.NotSupported
        → d ≡ None
    by None e = refl
    by (Some d) e = absurd (neither (condition_fault rules a.condition) (condition-other rules a.condition) e)

pub told-disposition : (may : ℕ → Bool) (r : Ruleset) (a : Action) (rules types : Renamed) (told : RuleError) (e : TableError) → Contains r.actions.items a
    → IsTold (action_fault rules types (action a)) told → TellsDisposition told a.line e → IsFaultOfTable may r e
told-disposition may r a rules types told (Fault Syntax line) h is tells = absurd tells
told-disposition may r a rules types told (Fault SameSource line) h is tells = absurd tells
told-disposition may r a rules types told (Fault SameVariant line) h is tells = absurd tells
told-disposition may r a rules types told (Fault BadClass line) h is tells = absurd tells
told-disposition may r a rules types told (Fault Limit line) h is tells = absurd tells
told-disposition may r a rules types told (Fault NoSuchName line) h is tells = absurd tells
told-disposition may r a rules types told (Fault SameName line) h is tells = absurd tells
told-disposition may r a rules types told (Fault NotSupported line) h is tells =
    inr (inr (inl (record {
      action = a;
      among = h;
      here = tells.1;
      other = other-disposition rules types (action a) (subst (IsTold (action_fault rules types (action a))) tells.0 is);
    })))
told-disposition may r a rules types told Memory h is tells = tt
