-- Which name of an action is told.
use Rattle.std.proofs.Common.{◌≡◌, ℕ, suc, ◌<◌, Bool, true, false, ◌&&◌, ◌||◌, not, cond, List, [], ◌∷◌, ◌++◌, length, length-append, Option, Some, None, Ok, refl, sym, ap, subst, ◌∙◌, append_assoc, arith}
use Rattle.std.specs.Prelude.{codes, is_some}
use Rattle.std.specs.List.{list_all, list_any}
use Rattle.std.specs.Option.{option_or}
use Rattle.ruleset_text.specs.declared.action.TriggerKind.{TriggerKind}
use Rattle.ruleset_text.specs.declared.fault.FaultPlace.{FaultPlace}
use Rattle.ruleset_text.specs.declared.named_condition.NamedCondition.{NamedCondition}
use Rattle.ruleset_text.specs.Actions.{NamedAction, NamedTrigger, action_lexemes, action_marks, condition_lexemes, condition_marks, knows_action, knows_rule, knows_types, listed, trigger_lexemes, trigger_marks, type_marks}
use Rattle.ruleset_text.specs.Actions.{HasTypes, disposition_word, kind_word, trigger_word}
use Rattle.ruleset_text.specs.ActionSteps.{Stage, Begin, Given, Asked, Listing, Listed, step, trigger}
use Rattle.ruleset_text.specs.DefinitionPlaces.{Known}
use Rattle.ruleset_text.specs.DefinitionReading.{action_read}
use Rattle.ruleset_text.specs.LineFaults.{lexeme_place}
use Rattle.ruleset_text.specs.NamedConditions.{HasRule}
use Rattle.ruleset_text.specs.Names.{is_one_of, AreNames}
use Rattle.ruleset_text.specs.PatternLimits.{first_marked}
use Rattle.ruleset_text.specs.PlacedLexemes.{Placed, unplaced}
use Rattle.ruleset_text.specs.inner.ActionNoted.{if_taken, unknown_at, unknown_from, unless_known}
use Rattle.ruleset_text.proofs.ActionReadLemmas.{action_found, condition_step, first_step, name_step, rule_step, trigger_step}
use Rattle.variant_dispositions.specs.declared.disposition.Disposition.{Disposition}
use Rattle.ruleset_text.proofs.PatternLimitLemmas.{some_marked}

-- ---- as many marks as lexemes

types_marked : (types names : List (List ℕ)) → length (type_marks types names) ≡ length (listed names)
types_marked types [] = refl
types_marked types (name ∷ []) = refl
types_marked types (name ∷ other ∷ names) = ap (λ n. suc (suc n)) (types_marked types (other ∷ names))

trigger_marked : (types : List (List ℕ)) (t : Option NamedTrigger) → length (trigger_marks types t) ≡ length (trigger_lexemes t)
trigger_marked types None = refl
trigger_marked types (Some t) = ap suc (types_marked types t.types)

condition_marked : (rules : List (List ℕ)) (c : Option NamedCondition) → length (condition_marks rules c) ≡ length (condition_lexemes c)
condition_marked rules None = refl
condition_marked rules (Some c) = refl

each_marked : (types rules : List (List ℕ)) (a : NamedAction) → length (action_marks types rules a) ≡ length (action_lexemes a)
each_marked types rules a =
    let c = condition_marked rules a.condition in
    let t = trigger_marked types a.trigger in
    let marks = length-append (condition_marks rules a.condition) (trigger_marks types a.trigger) in
    let words = length-append (condition_lexemes a.condition) (trigger_lexemes a.trigger) in
    ap suc (omega (arith, c, t, marks, words))

-- ---- one is true where a name isn't known

any_append : (xs ys : List Bool) → list_any (λ m. m) (xs ++ ys) ≡ (list_any (λ m. m) xs || list_any (λ m. m) ys)
any_append [] ys = refl
any_append (true ∷ xs) ys = refl
any_append (false ∷ xs) ys = any_append xs ys

or_none : (a : Bool) → (a || false) ≡ a
or_none true = refl
or_none false = refl

and_all : (a : Bool) → (a && true) ≡ a
and_all true = refl
and_all false = refl

not_both : (a b : Bool) → (not a || not b) ≡ not (a && b)
not_both true b = refl
not_both false b = refl

types_told : (types names : List (List ℕ)) → list_any (λ m. m) (type_marks types names) ≡ not (list_all (is_one_of types) names)
types_told types [] = refl
types_told types (name ∷ []) = or_none (not (is_one_of types name)) ∙ ap not (sym (and_all (is_one_of types name)))
types_told types (name ∷ other ∷ names) =
    ap (λ b. not (is_one_of types name) || b) (types_told types (other ∷ names)) ∙ not_both (is_one_of types name) (list_all (is_one_of types) (other ∷ names))

trigger_told : (types : List (List ℕ)) (t : Option NamedTrigger) → list_any (λ m. m) (trigger_marks types t) ≡ not (knows_types types t)
trigger_told types None = refl
trigger_told types (Some t) = types_told types t.types

condition_told : (rules : List (List ℕ)) (c : Option NamedCondition) → list_any (λ m. m) (condition_marks rules c) ≡ not (knows_rule rules c)
condition_told rules None = refl
condition_told rules (Some c) = or_none (not (is_one_of rules c.rule))

marks_told : (types rules : List (List ℕ)) (a : NamedAction) → list_any (λ m. m) (action_marks types rules a) ≡ not (knows_action types rules a)
marks_told types rules a =
    any_append (condition_marks rules a.condition) (trigger_marks types a.trigger)
    ∙ ap (λ b. b || list_any (λ m. m) (trigger_marks types a.trigger)) (condition_told rules a.condition)
    ∙ ap (λ b. not (knows_rule rules a.condition) || b) (trigger_told types a.trigger)
    ∙ not_both (knows_rule rules a.condition) (knows_types types a.trigger)

twice_not : (a b : Bool) → b ≡ not a → a ≡ not b
twice_not true b e = ap not (sym e)
twice_not false b e = ap not (sym e)

unplaced_count : (ws : List Placed) → length (unplaced ws) ≡ length ws
unplaced_count [] = refl
unplaced_count (w ∷ ws) = ap suc (unplaced_count ws)

-- a name is told exactly if one isn't known
pub action_known : (types rules : List (List ℕ)) (a : NamedAction) (ws : List Placed) → unplaced ws ≡ action_lexemes a → knows_action types rules a ≡ not (is_some (first_marked (action_marks types rules a) ws))
action_known types rules a ws is =
    let many = each_marked types rules a ∙ ap length (sym is) ∙ unplaced_count ws in
    twice_not (knows_action types rules a) (is_some (first_marked (action_marks types rules a) ws)) (some_marked (action_marks types rules a) ws many ∙ marks_told types rules a)

-- ---- what is noted while lexemes are read

no_taken : (o : Option Stage) → if_taken o (λ t. None) ≡ None
no_taken None = refl
no_taken (Some t) = refl

goes_on : (k : Known) (s u : Stage) (w : Placed) (ws : List Placed) → step s w.lexeme ≡ Some u → unknown_from k s (w ∷ ws) ≡ option_or (unknown_at k s w.lexeme (lexeme_place w)) (unknown_from k u ws)
goes_on k s u w ws e = ap (λ o. option_or (unknown_at k s w.lexeme (lexeme_place w)) (if_taken o (λ t. unknown_from k t ws))) e

by_mark : (names : List (List ℕ)) (name : List ℕ) (at : FaultPlace) (rest : Option FaultPlace) → option_or (unless_known names name at) rest ≡ cond (not (is_one_of names name)) (Some at) rest
by_mark names name at rest = by (is_one_of names name)
  where
    by : (b : Bool) → option_or (cond b None (Some at)) rest ≡ cond (not b) (Some at) rest
    by true = refl
    by false = refl

-- a lexeme that has to be one of the names, and what is told of those after it
told_here : (names : List (List ℕ)) (w : Placed) (name : List ℕ) (one other : Option FaultPlace) → w.lexeme ≡ name → one ≡ other
    → option_or (unless_known names w.lexeme (lexeme_place w)) one ≡ cond (not (is_one_of names name)) (Some (lexeme_place w)) other
told_here names w name one other same rest =
    by_mark names w.lexeme (lexeme_place w) one ∙ ap (λ v. cond (not (is_one_of names v)) (Some (lexeme_place w)) one) same
    ∙ ap (λ o. cond (not (is_one_of names name)) (Some (lexeme_place w)) o) rest

module _ (k : Known) (d : Disposition) where
  types_noted : (c : Option NamedCondition) (kind : TriggerKind) (before names : List (List ℕ)) (ws : List Placed) → unplaced ws ≡ listed names → AreNames (before ++ names) → 0 < length names
      → unknown_from k (Listing d c (trigger kind before)) ws ≡ first_marked (type_marks k.types names) ws
  types_noted c kind before [] ws e are some = absurd (omega (arith, some))
  types_noted c kind before (name ∷ []) [] e are some = absurd cc
  types_noted c kind before (name ∷ []) (w ∷ []) e are some =
      ap (option_or (unless_known k.types w.lexeme (lexeme_place w))) (no_taken (step (Listing d c (trigger kind before)) w.lexeme))
      ∙ told_here k.types w name None None (cc) (let none : (let o : Option FaultPlace = None in o) ≡ None = refl in none)
  types_noted c kind before (name ∷ []) (w ∷ v ∷ ws) e are some = absurd cc
  types_noted c kind before (name ∷ other ∷ names) [] e are some = absurd cc
  types_noted c kind before (name ∷ other ∷ names) (w ∷ []) e are some = absurd cc
  types_noted c kind before (name ∷ other ∷ names) (w ∷ v ∷ ws) e are some =
      let s : Stage = Listing d c (trigger kind before) in
      let t : Stage = Listed d c (trigger kind (before ++ name ∷ [])) in
      let u : Stage = Listing d c (trigger kind (before ++ name ∷ [])) in
      let same : w.lexeme ≡ name = cc in
      let comma : v.lexeme ≡ codes "," = cc in
      let rest = types_noted c kind (before ++ name ∷ []) (other ∷ names) ws (cc) (subst AreNames (sym (append_assoc before (name ∷ []) (other ∷ names))) are) (omega arith) in
      let listed_on : step t (codes ",") ≡ Some u = refl in
      goes_on k s t w (v ∷ ws) (ap (step s) same ∙ name_step d c kind before (other ∷ names) name are)
      ∙ told_here k.types w name (unknown_from k t (v ∷ ws)) (first_marked (type_marks k.types (other ∷ names)) ws) same
      (goes_on k t u v ws (ap (step t) comma ∙ listed_on) ∙ rest)

  trigger_noted : (c : Option NamedCondition) (t : Option NamedTrigger) (ws : List Placed) → unplaced ws ≡ trigger_lexemes t → HasTypes t → unknown_from k (Given d c) ws ≡ first_marked (trigger_marks k.types t) ws
  trigger_noted c None [] e types = refl
  trigger_noted c None (w ∷ ws) e types = absurd cc
  trigger_noted c (Some t) [] e types = absurd cc
  trigger_noted c (Some t) (w ∷ ws) e types =
      let s : Stage = Given d c in
      let u : Stage = Listing d c (trigger t.kind []) in
      let same : w.lexeme ≡ trigger_word t.kind = cc in
      goes_on k s u w ws (ap (step s) same ∙ trigger_step d c t.kind) ∙ nothing c (unknown_from k u ws) ∙ types_noted c t.kind [] t.types ws (cc) types.1 types.0
    where
      nothing : (c : Option NamedCondition) (o : Option FaultPlace) → option_or (unknown_at k (Given d c) w.lexeme (lexeme_place w)) o ≡ o
      nothing c o = refl

  condition_noted : (c : Option NamedCondition) (t : Option NamedTrigger) (ws : List Placed) → unplaced ws ≡ condition_lexemes c ++ trigger_lexemes t → HasRule c → HasTypes t
      → unknown_from k (Given d None) ws ≡ first_marked (condition_marks k.whole_rules c ++ trigger_marks k.types t) ws
  condition_noted None t ws e rule types = trigger_noted None t ws e types
  condition_noted (Some c) t [] e rule types = absurd cc
  condition_noted (Some c) t (w ∷ []) e rule types = absurd cc
  condition_noted (Some c) t (w ∷ v ∷ ws) e rule types =
      let s : Stage = Given d None in
      let u : Stage = Asked d c.kind in
      let same : w.lexeme ≡ kind_word c.kind = cc in
      let named : v.lexeme ≡ c.rule = cc in
      goes_on k s u w (v ∷ ws) (ap (step s) same ∙ condition_step d c.kind)
      ∙ goes_on k u (Given d (Some c)) v ws (ap (step u) named ∙ rule_step d c rule)
      ∙ told_here k.whole_rules v c.rule (unknown_from k (Given d (Some c)) ws) (first_marked (trigger_marks k.types t) ws) named (trigger_noted (Some c) t ws (cc) types)

-- of an action that is read the first name is noted that isn't known
pub action_noted : (k : Known) (end : ℕ) (ws : List Placed) (a : NamedAction) → action_read end ws ≡ Ok a → unknown_from k Begin ws ≡ first_marked (action_marks k.types k.whole_rules a) ws
action_noted k end ws a read = let is = action_found end ws a read in by ws is.1 is.0.rule is.0.types
  where
    by : (ws : List Placed) → unplaced ws ≡ action_lexemes a → HasRule a.condition → HasTypes a.trigger → unknown_from k Begin ws ≡ first_marked (action_marks k.types k.whole_rules a) ws
    by [] e rule types = absurd cc
    by (w ∷ ws) e rule types =
        let same : w.lexeme ≡ disposition_word a.disposition = cc in
        goes_on k Begin (Given a.disposition None) w ws (ap (step Begin) same ∙ first_step a.disposition)
        ∙ condition_noted k a.disposition a.condition a.trigger ws (cc) rule types
