-- What is read of a definition's line, or where the line stops defining something, is what the grammar says.
use Rattle.std.proofs.Common.{◌≡◌, ℕ, ◌≤◌, Bool, true, false, cond, not, List, [], ◌∷◌, length, Option, Some, None, Result, Ok, Err, refl, sym, ap, subst, ◌∙◌, arith}
use Rattle.std.specs.Prelude.{◌↔◌, codes}
use Rattle.std.specs.Option.{option_map}
use Rattle.std.specs.Result.{result_ok}
use Rattle.label_patterns.specs.Patterns.{Pattern}
use Rattle.ruleset_text.specs.Signs as sign
use Rattle.ruleset_text.specs.declared.definition.DemandKind.{DemandKind}
use Rattle.ruleset_text.specs.declared.definition.DemandKind.TheVariants as demand
use Rattle.ruleset_text.specs.declared.fault.FaultPlace.{FaultPlace}
use Rattle.ruleset_text.specs.declared.keyword.Keyword.{Keyword}
use Rattle.ruleset_text.specs.declared.keyword.Keyword.TheVariants as keyword
use Rattle.ruleset_text.specs.Definition as definition
use Rattle.ruleset_text.specs.Definition.{Definition, definition_of, type_in, demand_in, contexts_in, keyword_of}
use Rattle.ruleset_text.specs.DefinitionOrder.{SpellsLine, IsDefinitionLine}
use Rattle.ruleset_text.specs.ActionSteps.{action_in}
use Rattle.ruleset_text.specs.DefinitionReading.{pattern_step, pattern_read, spans_step, spans_ended, spans_read, after_name, named, type_read, set_read, rule_read, action_read, definition_read, after_keyword, line_read}
use Rattle.ruleset_text.specs.LineStops.{IsLineStop, map_read, place_of}
use Rattle.ruleset_text.specs.Names.{is_name}
use Rattle.ruleset_text.specs.PatternSigns.{start, ended_in}
use Rattle.ruleset_text.specs.PlacedLexemes.{Placed, unplaced}
use Rattle.ruleset_text.specs.Reading.{pattern_of}
use Rattle.ruleset_text.specs.Rules.{has, is_rule}
use Rattle.ruleset_text.specs.Spans.{spans_in}
use Rattle.ruleset_text.specs.Spans as spans
use Rattle.ruleset_text.specs.declared.spans.Held.TheVariants as held
use Rattle.ruleset_text.specs.SpanWords.{SpellSet}
use Rattle.idn_text.specs.Stops.{Begins}
use Rattle.ruleset_text.specs.Tokens.{tokens_in}
use Rattle.ruleset_text.proofs.ActionReadLemmas.{SpellsAction, action_as_read, action_spelled, action_tells, spelled_action}
use Rattle.ruleset_text.proofs.DefinedLemmas.{mapped, if_true}
use Rattle.ruleset_text.proofs.DefinitionOrderLemmas.{if_such-true, definition_spelled}
use Rattle.ruleset_text.proofs.DefinitionOrderLemmas as order
use Rattle.ruleset_text.proofs.FormLemmas.{if_such_some}
use Rattle.ruleset_text.proofs.LineStopLemmas.{Tells, tells, not_whole, stop_is, after_first, at_first, at_none, renamed}
use Rattle.ruleset_text.proofs.PatternLemmas.{read_spelled}
use Rattle.ruleset_text.proofs.SpanExactLemmas.{set_spelled}
use Rattle.ruleset_text.proofs.SpanExactLemmas as exact
use Rattle.ruleset_text.proofs.SpanStopLemmas.{spans_reader}
use Rattle.idn_text.proofs.StopLemmas.{Spelled}
use Rattle.ruleset_text.proofs.UseLemmas.{SpellUsed, pattern_reader}

-- ---- after the keyword

-- by the function that reads them
abbrev IsOf : List (List ℕ) → Keyword → List (List ℕ) → Definition → Type 0
IsOf names k ws x = definition_of names k ws ≡ Some x

no_definition : {X : Type 0} (x : Definition) → None ≡ Some x → X
no_definition x e = absurd (cc)

contexts_are : (names ws : List (List ℕ)) (p : Pattern) → SpellUsed true names ws p → contexts_in names ws ≡ Some p
contexts_are names ws p is = if_such-true is_rule (tokens_in names ws) p is.0 is.1

contexts_of : (names ws : List (List ℕ)) (p : Pattern) → contexts_in names ws ≡ Some p → SpellUsed true names ws p
contexts_of names ws p e = let such = if_such_some is_rule (pattern_of (tokens_in names ws)) p e in (read_spelled (tokens_in names ws) p such.0, such.1)

demand_is : (names ws : List (List ℕ)) (p : Pattern) → SpellUsed false names ws p → demand_in names ws ≡ Some p
demand_is names ws p is = if_such-true (λ q. not (has sign.Anchor q)) (tokens_in names ws) p is.0 is.1

demand_of : (names ws : List (List ℕ)) (p : Pattern) → demand_in names ws ≡ Some p → SpellUsed false names ws p
demand_of names ws p e = let such = if_such_some (λ q. not (has sign.Anchor q)) (pattern_of (tokens_in names ws)) p e in (read_spelled (tokens_in names ws) p such.0, such.1)

-- what f makes of what is told
pub mapped_tells : {X : Type 0} (f : X → Definition) (Spells : List (List ℕ) → X → Type 0) (All : List (List ℕ) → Definition → Type 0) (ws : List Placed) (end : ℕ) (read : Result X FaultPlace)
    → ((more : List (List ℕ)) (x : X) → Spells more x → All more (f x)) → ((more : List (List ℕ)) (d : Definition) → All more d → Spelled Spells more)
    → Tells Spells ws end read → Tells All ws end (map_read f read)
mapped_tells f Spells All ws end (Ok x) to from told = to (unplaced ws) x told
mapped_tells f Spells All ws end (Err place) to from told =
    renamed (Spelled Spells) (Spelled All) ws end place (λ more is. (f is.0, to more is.0 is.1)) (λ more all. from more all.0 all.1) told

-- the same after a lexeme
pub told_after : (Spells All : List (List ℕ) → Definition → Type 0) (w : Placed) (ws : List Placed) (end : ℕ) (read : Result Definition FaultPlace)
    → ((more : List (List ℕ)) (d : Definition) → Spells more d → All (w.lexeme ∷ more) d) → ((more : List (List ℕ)) (d : Definition) → All (w.lexeme ∷ more) d → Spells more d)
    → Tells Spells ws end read → Tells All (w ∷ ws) end read
told_after Spells All w ws end (Ok x) to from told = to (unplaced ws) x told
told_after Spells All w ws end (Err place) to from told =
    after_first (Spelled Spells) (Spelled All) w ws end place (λ more is. (is.0, to more is.0 is.1)) (λ more all. (all.0, from more all.0 all.1)) told

pub pattern_tells : (r : Bool) (names : List (List ℕ)) (end : ℕ) (ws : List Placed) → Tells (SpellUsed r names) ws end (pattern_read r names end ws)
pattern_tells r names end ws = tells (pattern_step r names) start (ended_in r) (λ l. Unit {0}) (SpellUsed r names) (pattern_reader r names) end ws (λ front rest cut. tt)

pub spans_tell : (end : ℕ) (ws : List Placed) → Tells SpellSet ws end (spans_read end ws)
spans_tell end ws = tells spans_step (spans.state [] (held.Above 0)) spans_ended (λ l. Unit {0}) SpellSet spans_reader end ws (λ front rest cut. tt)

-- ---- the name

-- what stands after a name that is one
abbrev AfterName : List (List ℕ) → Keyword → List ℕ → List (List ℕ) → Definition → Type 0
AfterName names k name ws x = definition_of names k (name ∷ ws) ≡ Some x

-- a keyword after which a name stands
record IsNamed (names : List (List ℕ)) (k : Keyword) : Type 0 where
  none : (x : Definition) → definition_of names k [] ≡ Some x → ⊥
  name : (w : List ℕ) (more : List (List ℕ)) (x : Definition) → is_name w ≡ false → definition_of names k (w ∷ more) ≡ Some x → ⊥
  begun : Begins (Spelled (IsOf names k)) []

named_tells : (names : List (List ℕ)) (k : Keyword) (f : List ℕ → List Placed → Result Definition FaultPlace) (end : ℕ) (ws : List Placed) → IsNamed names k
    → ((name : List ℕ) (rest : List Placed) → is_name name ≡ true → Tells (AfterName names k name) rest end (f name rest))
    → Tells (IsOf names k) ws end (named f end ws)
named_tells names k f end [] is later = at_none (Spelled (IsOf names k)) end is.begun (λ d. is.none d.0 d.1)
named_tells names k f end (w ∷ ws) is later = by (is_name w.lexeme) refl
  where
    by : (b : Bool) → is_name w.lexeme ≡ b
        → (let name : Result (List ℕ × List Placed) FaultPlace = cond b (Ok (w.lexeme, ws)) (Err (place_of end (w ∷ ws))) in Tells (IsOf names k) (w ∷ ws) end (after_name f name))
    by true e = told_after (AfterName names k w.lexeme) (IsOf names k) w ws end (f w.lexeme ws) (λ more d is. is) (λ more d all. all) (later w.lexeme ws e)
    by false e = at_first (Spelled (IsOf names k)) w ws end is.begun (λ more d. is.name w.lexeme more d.0 e d.1)

if_name : (w : List ℕ) (o : Option Definition) (x : Definition) → is_name w ≡ false → cond (is_name w) o None ≡ Some x → ⊥
if_name w o x bad e = no_definition x (by (is_name w) bad e)
  where
    by : (b : Bool) → b ≡ false → cond b o None ≡ Some x → None ≡ Some x
    by false n f = f
    by true n f = absurd (let clash : true ≡ false = n in cc)

named_is : (w : List ℕ) (o : Option Definition) → is_name w ≡ true → cond (is_name w) o None ≡ o
named_is w o is = ap (λ b. cond b o None) is

-- ---- each keyword

type_named : (names : List (List ℕ)) → IsNamed names keyword.VariantType
type_named names = record { none = λ x e. no_definition x e; name = no_name; begun = (codes "a" ∷ [], (definition.VariantType (codes "a"), refl)) }
  where
    no_name : (w : List ℕ) (more : List (List ℕ)) (x : Definition) → is_name w ≡ false → type_in (w ∷ more) ≡ Some x → ⊥
    no_name w [] x bad e = if_name w (Some (definition.VariantType w)) x bad e
    no_name w (v ∷ more) x bad e = no_definition x e

type_tells : (names : List (List ℕ)) (end : ℕ) (name : List ℕ) (ws : List Placed) → is_name name ≡ true → Tells (AfterName names keyword.VariantType name) ws end (type_read end name ws)
type_tells names end name [] is = named_is name (Some (definition.VariantType name)) is
type_tells names end name (w ∷ ws) is =
    at_first (Spelled (AfterName names keyword.VariantType name)) w ws end ([], (definition.VariantType name, named_is name (Some (definition.VariantType name)) is)) (λ more d. no_definition d.0 d.1)

set_named : (names : List (List ℕ)) → IsNamed names keyword.Set
set_named names =
    let reader = spans_reader in
    let b = reader.begun [] (spans.state [] (held.Above 0)) tt refl in record {
      none = λ x e. no_definition x e;
      name = λ w more x bad e. if_name w (option_map (definition.Set w) (spans_in more)) x bad e;
      begun = (codes "a" ∷ b.0, (definition.Set (codes "a") b.1.0, ap (option_map (definition.Set (codes "a"))) (exact.set_read b.0 b.1.0 b.1.1)));
    }

set_tells : (names : List (List ℕ)) (end : ℕ) (name : List ℕ) (ws : List Placed) → is_name name ≡ true → Tells (AfterName names keyword.Set name) ws end (set_read end name ws)
set_tells names end name ws is =
    mapped_tells (definition.Set name) SpellSet (AfterName names keyword.Set name) ws end (spans_read end ws)
    (λ more found s. named_is name (option_map (definition.Set name) (spans_in more)) is ∙ ap (option_map (definition.Set name)) (exact.set_read more found s))
    (λ more d e. let found = mapped (definition.Set name) (spans_in more) d (if_true (is_name name) (option_map (definition.Set name) (spans_in more)) d e).1 in
    (found.0, set_spelled more found.0 found.1))
    (spans_tell end ws)

rule_named : (names : List (List ℕ)) → IsNamed names keyword.Rule
rule_named names =
    let reader = pattern_reader true names in
    let b = reader.begun [] start tt refl in record {
      none = λ x e. no_definition x e;
      name = λ w more x bad e. if_name w (option_map (definition.Rule w) (contexts_in names more)) x bad e;
      begun = (codes "a" ∷ b.0, (definition.Rule (codes "a") b.1.0, ap (option_map (definition.Rule (codes "a"))) (contexts_are names b.0 b.1.0 b.1.1)));
    }

rule_tells : (names : List (List ℕ)) (end : ℕ) (name : List ℕ) (ws : List Placed) → is_name name ≡ true → Tells (AfterName names keyword.Rule name) ws end (rule_read true names end name ws)
rule_tells names end name ws is =
    mapped_tells (definition.Rule name) (SpellUsed true names) (AfterName names keyword.Rule name) ws end (pattern_read true names end ws)
    (λ more p s. named_is name (option_map (definition.Rule name) (contexts_in names more)) is ∙ ap (option_map (definition.Rule name)) (contexts_are names more p s))
    (λ more d e. let found = mapped (definition.Rule name) (contexts_in names more) d (if_true (is_name name) (option_map (definition.Rule name) (contexts_in names more)) d e).1 in
    (found.0, contexts_of names more found.0 found.1))
    (pattern_tells true names end ws)

whole_named : (names : List (List ℕ)) → IsNamed names keyword.Whole
whole_named names =
    let reader = pattern_reader false names in
    let b = reader.begun [] start tt refl in record {
      none = λ x e. no_definition x e;
      name = λ w more x bad e. if_name w (option_map (definition.Rule w) (demand_in names more)) x bad e;
      begun = (codes "a" ∷ b.0, (definition.Rule (codes "a") b.1.0, ap (option_map (definition.Rule (codes "a"))) (demand_is names b.0 b.1.0 b.1.1)));
    }

whole_tells : (names : List (List ℕ)) (end : ℕ) (name : List ℕ) (ws : List Placed) → is_name name ≡ true → Tells (AfterName names keyword.Whole name) ws end (rule_read false names end name ws)
whole_tells names end name ws is =
    mapped_tells (definition.Rule name) (SpellUsed false names) (AfterName names keyword.Whole name) ws end (pattern_read false names end ws)
    (λ more p s. named_is name (option_map (definition.Rule name) (demand_in names more)) is ∙ ap (option_map (definition.Rule name)) (demand_is names more p s))
    (λ more d e. let found = mapped (definition.Rule name) (demand_in names more) d (if_true (is_name name) (option_map (definition.Rule name) (demand_in names more)) d e).1 in
    (found.0, demand_of names more found.0 found.1))
    (pattern_tells false names end ws)

demand_tells : (names : List (List ℕ)) (kind : DemandKind) (end : ℕ) (ws : List Placed)
    → Tells (λ l x. option_map (definition.Demand kind) (demand_in names l) ≡ Some x) ws end (map_read (definition.Demand kind) (pattern_read false names end ws))
demand_tells names kind end ws =
    mapped_tells (definition.Demand kind) (SpellUsed false names) (λ l x. option_map (definition.Demand kind) (demand_in names l) ≡ Some x) ws end (pattern_read false names end ws)
    (λ more p s. ap (option_map (definition.Demand kind)) (demand_is names more p s))
    (λ more d e. let found = mapped (definition.Demand kind) (demand_in names more) d e in (found.0, demand_of names more found.0 found.1))
    (pattern_tells false names end ws)

action_line_tells : (names : List (List ℕ)) (end : ℕ) (ws : List Placed) → length ws ≤ 8192 → Tells (IsOf names keyword.Action) ws end (map_read definition.Action (action_read end ws))
action_line_tells names end ws few =
    mapped_tells definition.Action SpellsAction (IsOf names keyword.Action) ws end (action_read end ws)
    (λ more a is. ap (option_map definition.Action) (spelled_action more a is.0 is.1))
    (λ more d e. let found = mapped definition.Action (action_in more) d e in (found.0, action_spelled more found.0 found.1))
    (action_tells end ws few)

-- so few lexemes that an action doesn't name all types that there may be
abbrev pub FitsKeyword : Keyword → List Placed → Type 0
FitsKeyword keyword.Action ws = length ws ≤ 8192
FitsKeyword k ws = Unit {0}

pub definition_tells : (names : List (List ℕ)) (k : Keyword) (end : ℕ) (ws : List Placed) → FitsKeyword k ws → Tells (IsOf names k) ws end (definition_read names k end ws)
definition_tells names keyword.VariantType end ws few = named_tells names keyword.VariantType (type_read end) end ws (type_named names) (type_tells names end)
definition_tells names keyword.Set end ws few = named_tells names keyword.Set (set_read end) end ws (set_named names) (set_tells names end)
definition_tells names keyword.Rule end ws few = named_tells names keyword.Rule (rule_read true names end) end ws (rule_named names) (rule_tells names end)
definition_tells names keyword.Whole end ws few = named_tells names keyword.Whole (rule_read false names end) end ws (whole_named names) (whole_tells names end)
definition_tells names keyword.Never end ws few = demand_tells names demand.Never end ws
definition_tells names keyword.Always end ws few = demand_tells names demand.Always end ws
definition_tells names keyword.Action end ws few = action_line_tells names end ws few

-- ---- the line

same_keyword : (k j : Keyword) → Some k ≡ Some j → k ≡ j
same_keyword k j e = cc

no_keyword : {X : Type 0} (k : Keyword) → None ≡ Some k → X
no_keyword k e = absurd (cc)

line_begun : (names : List (List ℕ)) → Begins (Spelled (SpellsLine names)) []
line_begun names = (codes "%type" ∷ codes "a" ∷ [], (definition.VariantType (codes "a"), (keyword.VariantType, refl, (refl, refl, refl))))

fits_keyword : (k : Keyword) (ws : List Placed) → length ws ≤ 8192 → FitsKeyword k ws
fits_keyword keyword.VariantType ws few = tt
fits_keyword keyword.Set ws few = tt
fits_keyword keyword.Rule ws few = tt
fits_keyword keyword.Whole ws few = tt
fits_keyword keyword.Never ws few = tt
fits_keyword keyword.Always ws few = tt
fits_keyword keyword.Action ws few = few

pub line_tells : (names : List (List ℕ)) (end : ℕ) (ws : List Placed) → length ws ≤ 8192 → Tells (SpellsLine names) ws end (line_read names end ws)
line_tells names end [] few = at_none (Spelled (SpellsLine names)) end (line_begun names) (λ d. d.1)
line_tells names end (w ∷ ws) few = by (keyword_of w.lexeme) refl
  where
    by : (o : Option Keyword) → keyword_of w.lexeme ≡ o → Tells (SpellsLine names) (w ∷ ws) end (after_keyword names end w ws o)
    by None e = at_first (Spelled (SpellsLine names)) w ws end (line_begun names) (λ more d. no_keyword d.1.0 (sym e ∙ d.1.1))
    by (Some k) e =
        told_after (IsOf names k) (SpellsLine names) w ws end (definition_read names k end ws)
        (λ more d is. (k, e, definition_spelled names k more d is))
        (λ more d all. ap (λ j. definition_of names j more) (same_keyword k all.0 (sym e ∙ all.1)) ∙ order.definition_read names all.0 more d all.2)
        (definition_tells names k end ws (fits_keyword k ws (omega (arith, few))))

-- ---- what a call that reads gives

read_of : (names : List (List ℕ)) (k : Keyword) (end : ℕ) (ws : List Placed) (read : Result Definition FaultPlace) → Tells (IsOf names k) ws end read
    → (o : Option Definition) → definition_of names k (unplaced ws) ≡ o → result_ok read ≡ o
read_of names k end ws (Ok x) told o e = sym told ∙ e
read_of names k end ws (Err place) told None e = refl
read_of names k end ws (Err place) told (Some x) e = absurd (not_whole (Spelled (IsOf names k)) ws end place told (x, e))

read_as : (names : List (List ℕ)) (k : Keyword) (end : ℕ) (ws : List Placed) → FitsKeyword k ws → result_ok (definition_read names k end ws) ≡ definition_of names k (unplaced ws)
read_as names k end ws few = read_of names k end ws (definition_read names k end ws) (definition_tells names k end ws few) (definition_of names k (unplaced ws)) refl

map_ok : {X : Type 0} (f : X → Definition) (r : Result X FaultPlace) → result_ok (map_read f r) ≡ option_map f (result_ok r)
map_ok f (Ok x) = refl
map_ok f (Err place) = refl

-- the definition is that of the lexemes without their places
pub definition_as_read : (names : List (List ℕ)) (k : Keyword) (end : ℕ) (ws : List Placed) → result_ok (definition_read names k end ws) ≡ definition_of names k (unplaced ws)
definition_as_read names keyword.VariantType end ws = read_as names keyword.VariantType end ws tt
definition_as_read names keyword.Set end ws = read_as names keyword.Set end ws tt
definition_as_read names keyword.Rule end ws = read_as names keyword.Rule end ws tt
definition_as_read names keyword.Whole end ws = read_as names keyword.Whole end ws tt
definition_as_read names keyword.Never end ws = read_as names keyword.Never end ws tt
definition_as_read names keyword.Always end ws = read_as names keyword.Always end ws tt
definition_as_read names keyword.Action end ws = map_ok definition.Action (action_read end ws) ∙ ap (option_map definition.Action) (action_as_read end ws)

-- ---- the laws

told_stop : (names : List (List ℕ)) (end : ℕ) (ws : List Placed) (place : FaultPlace) (read : Result Definition FaultPlace) → Tells (SpellsLine names) ws end read → read ≡ Err place
    → IsLineStop (IsDefinitionLine names) ws end place
told_stop names end ws place read told e = let so : Tells (SpellsLine names) ws end (Err place) = subst (Tells (SpellsLine names) ws end) e told in so

-- a line that spells a definition is read as it, however many lexemes it has
pub the_definition : (names : List (List ℕ)) (end : ℕ) (ws : List Placed) (x : Definition) → (line_read names end ws ≡ Ok x) ↔ SpellsLine names (unplaced ws) x
the_definition names end ws x = (λ e. spelled ws e, λ is. read ws is)
  where
    ok_is : (r : Result Definition FaultPlace) (y : Definition) → result_ok r ≡ Some y → r ≡ Ok y
    ok_is (Ok z) y e = let same : z ≡ y = cc in ap (λ a. Ok a) same
    ok_is (Err place) y e = no_definition y e

    spelled : (ws : List Placed) → line_read names end ws ≡ Ok x → SpellsLine names (unplaced ws) x
    spelled [] e = absurd cc
    spelled (w ∷ ws) e = by (keyword_of w.lexeme) refl e
      where
        by : (o : Option Keyword) → keyword_of w.lexeme ≡ o → after_keyword names end w ws o ≡ Ok x → SpellsLine names (w.lexeme ∷ unplaced ws) x
        by None is e = absurd cc
        by (Some k) is e = (k, is, definition_spelled names k (unplaced ws) x (sym (definition_as_read names k end ws) ∙ ap result_ok e))

    read : (ws : List Placed) → SpellsLine names (unplaced ws) x → line_read names end ws ≡ Ok x
    read [] is = absurd is
    read (w ∷ ws) is =
        ap (after_keyword names end w ws) is.1
        ∙ ok_is (definition_read names is.0 end ws) x (definition_as_read names is.0 end ws ∙ order.definition_read names is.0 (unplaced ws) x is.2)

pub the_stop : (names : List (List ℕ)) (end : ℕ) (ws : List Placed) (place : FaultPlace) → length ws ≤ 8192 → (line_read names end ws ≡ Err place) ↔ IsLineStop (IsDefinitionLine names) ws end place
the_stop names end ws place few = (
  told_stop names end ws place (line_read names end ws) (line_tells names end ws few),
  stop_is (SpellsLine names) ws end (line_read names end ws) place (line_tells names end ws few),
)
