-- Reading an action is exact, and each of its beginnings can be completed.
use Rattle.std.proofs.Common.{◌≡◌, ℕ, suc, ◌<◌, ◌≤◌, Bool, true, false, ◌&&◌, not, cond, List, [], ◌∷◌, ◌++◌, length, length-append, Option, Some, None, Result, Ok, Err, refl, sym, ap, subst, ◌∙◌, append_assoc, append-nil, arith}
use Rattle.std.specs.Prelude.{bytes_eq, codes, IsTrue}
use Rattle.std.specs.List.{AllByRecursion}
use Rattle.std.specs.Option.{option_map}
use Rattle.std.specs.Result.{result_ok}
use Rattle.std.proofs.lemmas.Bool.{and_parts, false_from_ne_true, not-true, or_from}
use Rattle.std.proofs.lemmas.Slice.Eq.{bytes_eq-Decides}
use Rattle.label_patterns.specs.declared.condition.ConditionKind.{ConditionKind}
use Rattle.label_patterns.specs.declared.condition.ConditionKind.TheVariants.{When, Unless}
use Rattle.ruleset_text.specs.declared.action.TriggerKind.{TriggerKind}
use Rattle.ruleset_text.specs.declared.action.TriggerKind.TheVariants.{Any, All, Only}
use Rattle.ruleset_text.specs.declared.fault.FaultPlace.{FaultPlace}
use Rattle.ruleset_text.specs.declared.named_condition.NamedCondition.{NamedCondition}
use Rattle.ruleset_text.specs.Actions.{NamedAction, NamedTrigger, disposition_word, kind_word, trigger_word, listed, condition_lexemes, trigger_lexemes, action_lexemes, names_text, trigger_text, action_text, HasTypes, IsAction}
use Rattle.ruleset_text.specs.ActionSteps.{Stage, Begin, Given, Asked, Listing, Listed, disposition_of, kind_of, trigger_of, trigger, by_trigger, by_kind, step, action, ended, action_at, action_in}
use Rattle.ruleset_text.specs.DefinitionReading.{action_read}
use Rattle.ruleset_text.specs.Lexemes.{begins_in_word, is_word_byte, lexemes}
use Rattle.ruleset_text.specs.NamedConditions.{HasRule, condition_text}
use Rattle.ruleset_text.specs.Names.{is_name, is_one_of, AreNames}
use Rattle.ruleset_text.specs.PlacedLexemes.{Placed, unplaced}
use Rattle.idn_text.specs.Stops.{run, Begins}
use Rattle.ruleset_text.proofs.AddedLemmas.{IsNew, new_from}
use Rattle.ruleset_text.proofs.FreshNameLemmas.{fresh, numbered, numbered-name, numbered-once}
use Rattle.ruleset_text.proofs.LineStopLemmas.{Tells, leads, ok_err, reads_to, tells}
use Rattle.ruleset_text.proofs.NameWordLemmas.{name_word}
use Rattle.ruleset_text.proofs.SpanBackLemmas.{word_first}
use Rattle.idn_text.proofs.StopLemmas.{Reads, Spelled, run_none}
use Rattle.variant_dispositions.specs.declared.disposition.Disposition.{Disposition}
use Rattle.variant_dispositions.specs.declared.disposition.Disposition.TheVariants.{Invalid, Blocked, Allocatable, Activated, Valid}

-- the lexemes spell the action
abbrev pub SpellsAction : List (List ℕ) → NamedAction → Type 0
SpellsAction ws a = IsAction a × (ws ≡ action_lexemes a)

same_some : {X : Type 0} (x y : X) → (let o : Option X = Some x in o) ≡ Some y → x ≡ y
same_some x y e = cc

no_some : {X A : Type 0} (x : X) → (let o : Option X = None in o) ≡ Some x → A
no_some x e = absurd cc

-- ---- words

-- what is found by a test of the lexeme
found_by : {X : Type 0} (Is : X → Type 0) (w v : List ℕ) (x : X) (o : Option X) (y : X) → (w ≡ v → Is x) → (o ≡ Some y → Is y) → cond (bytes_eq w v) (Some x) o ≡ Some y → Is y
found_by Is w v x o y here later e = by (bytes_eq w v) refl e
  where
    by : (b : Bool) → bytes_eq w v ≡ b → cond b (Some x) o ≡ Some y → Is y
    by true t e = subst Is (same_some x y e) (here ((bytes_eq-Decides w v).0 t))
    by false t e = later e

disposition_spelled : (w : List ℕ) (d : Disposition) → disposition_of w ≡ Some d → w ≡ disposition_word d
disposition_spelled w d e =
    let Is : Disposition → Type 0 = λ x. w ≡ disposition_word x in
    let last : Option Disposition = cond (bytes_eq w (codes "valid")) (Some Valid) None in
    let fourth : Option Disposition = cond (bytes_eq w (codes "activated")) (Some Activated) last in
    let third : Option Disposition = cond (bytes_eq w (codes "allocatable")) (Some Allocatable) fourth in
    let second : Option Disposition = cond (bytes_eq w (codes "blocked")) (Some Blocked) third in
    found_by Is w (codes "invalid") Invalid second d (λ h. h)
    (found_by Is w (codes "blocked") Blocked third d (λ h. h)
    (found_by Is w (codes "allocatable") Allocatable fourth d (λ h. h)
    (found_by Is w (codes "activated") Activated last d (λ h. h)
    (found_by Is w (codes "valid") Valid None d (λ h. h) (λ none. no_some d none))))) e

disposition_read : (d : Disposition) → disposition_of (disposition_word d) ≡ Some d
disposition_read Invalid = refl
disposition_read Blocked = refl
disposition_read Allocatable = refl
disposition_read Activated = refl
disposition_read Valid = refl

kind_spelled : (w : List ℕ) (k : ConditionKind) → kind_of w ≡ Some k → w ≡ kind_word k
kind_spelled w k e =
    let Is : ConditionKind → Type 0 = λ x. w ≡ kind_word x in
    let last : Option ConditionKind = cond (bytes_eq w (codes "unless")) (Some Unless) None in
    found_by Is w (codes "when") When last k (λ h. h) (found_by Is w (codes "unless") Unless None k (λ h. h) (λ none. no_some k none)) e

kind_read : (k : ConditionKind) → kind_of (kind_word k) ≡ Some k
kind_read When = refl
kind_read Unless = refl

trigger_spelled : (w : List ℕ) (k : TriggerKind) → trigger_of w ≡ Some k → w ≡ trigger_word k
trigger_spelled w k e =
    let Is : TriggerKind → Type 0 = λ x. w ≡ trigger_word x in
    let last : Option TriggerKind = cond (bytes_eq w (codes "only")) (Some Only) None in
    let second : Option TriggerKind = cond (bytes_eq w (codes "all")) (Some All) last in
    found_by Is w (codes "any") Any second k (λ h. h) (found_by Is w (codes "all") All last k (λ h. h) (found_by Is w (codes "only") Only None k (λ h. h) (λ none. no_some k none))) e

trigger_read : (k : TriggerKind) → trigger_of (trigger_word k) ≡ Some k
trigger_read Any = refl
trigger_read All = refl
trigger_read Only = refl

trigger_no_kind : (k : TriggerKind) → kind_of (trigger_word k) ≡ None
trigger_no_kind Any = refl
trigger_no_kind All = refl
trigger_no_kind Only = refl

-- ---- names

new_in : (names : List (List ℕ)) (x name : List ℕ) → AllByRecursion (λ other. x ≡ other → ⊥) names → (name ≡ x → ⊥) → AllByRecursion (λ other. x ≡ other → ⊥) (names ++ name ∷ [])
new_in [] x name all other = (λ e. other (sym e), tt)
new_in (y ∷ names) x name all other = (all.0, new_in names x name all.1 other)

are_more : (names : List (List ℕ)) (name : List ℕ) → AreNames names → is_name name ≡ true → IsNew name names → AreNames (names ++ name ∷ [])
are_more [] name are is new = (is, tt, tt)
are_more (x ∷ names) name are is new = (are.0, new_in names x name are.1 new.0, are_more names name are.2 is new.1)

in_middle : (P : List ℕ → Type 0) (xs ys : List (List ℕ)) (y : List ℕ) → AllByRecursion P (xs ++ y ∷ ys) → P y
in_middle P [] ys y all = all.0
in_middle P (x ∷ xs) ys y all = in_middle P xs ys y all.1

-- a name among names is none of those before it
pub last_name : (before rest : List (List ℕ)) (name : List ℕ) → AreNames (before ++ name ∷ rest) → (is_name name ≡ true) × (is_one_of before name ≡ false)
last_name [] rest name are = (are.0, refl)
last_name (x ∷ before) rest name are =
    let r = last_name before rest name are.2 in
    let other : bytes_eq x name ≡ false = false_from_ne_true (bytes_eq x name) (λ e. in_middle (λ other. x ≡ other → ⊥) before rest name are.1 ((bytes_eq-Decides x name).0 e)) in
    (r.0, or_from (bytes_eq x name) (is_one_of before name) other r.1)

-- names, each with ',' after it
abbrev each_listed : List (List ℕ) → List (List ℕ)
each_listed [] = []
each_listed (name ∷ names) = name ∷ codes "," ∷ each_listed names

listed_push : (names : List (List ℕ)) (name : List ℕ) → listed (names ++ name ∷ []) ≡ each_listed names ++ name ∷ []
listed_push [] name = refl
listed_push (x ∷ []) name = refl
listed_push (x ∷ y ∷ names) name = ap (λ l. x ∷ codes "," ∷ l) (listed_push (y ∷ names) name)

each_push : (names : List (List ℕ)) → 0 < length names → each_listed names ≡ listed names ++ codes "," ∷ []
each_push [] some = absurd (omega (arith, some))
each_push (x ∷ []) some = refl
each_push (x ∷ y ∷ names) some = ap (λ l. x ∷ codes "," ∷ l) (each_push (y ∷ names) (omega arith))

few_listed : (names : List (List ℕ)) → length names ≤ length (each_listed names)
few_listed [] = omega arith
few_listed (x ∷ names) = let rest = few_listed names in omega (arith, rest)

-- ---- what was read

abbrev head : Disposition → Option NamedCondition → List (List ℕ)
head d c = disposition_word d ∷ condition_lexemes c

-- the lexemes that lead to a stage
abbrev lexemes_to : Stage → List (List ℕ)
lexemes_to Begin = []
lexemes_to (Given d c) = head d c
lexemes_to (Asked d kind) = disposition_word d ∷ kind_word kind ∷ []
lexemes_to (Listing d c t) = head d c ++ trigger_word t.kind ∷ each_listed t.types
lexemes_to (Listed d c t) = head d c ++ trigger_word t.kind ∷ listed t.types

abbrev IsGood : Stage → Type 0
IsGood Begin = Unit {0}
IsGood (Given d c) = HasRule c
IsGood (Asked d kind) = Unit {0}
IsGood (Listing d c t) = HasRule c × AreNames t.types
IsGood (Listed d c t) = HasRule c × (0 < length t.types) × AreNames t.types

-- a stage, and the lexemes that lead to it
abbrev Leads : List (List ℕ) → Stage → Type 0
Leads ws s = IsGood s × (lexemes_to s ≡ ws)

abbrev option_given : Option Disposition → Option Stage
option_given o = option_map (λ d. Given d None) o

begun_next : (w : List ℕ) (t : Stage) (o : Option Disposition) → disposition_of w ≡ o → option_given o ≡ Some t → Leads (w ∷ []) t
begun_next w t None is e = no_some t e
begun_next w t (Some d) is e = subst (Leads (w ∷ [])) (same_some (Given d None) t e) (tt, ap (λ l. l ∷ []) (sym (disposition_spelled w d is)))

trigger_next : (d : Disposition) (c : Option NamedCondition) (w : List ℕ) (t : Stage) (o : Option TriggerKind) → HasRule c → trigger_of w ≡ o → by_trigger d c o ≡ Some t → Leads (head d c ++ w ∷ []) t
trigger_next d c w t None rule is e = no_some t e
trigger_next d c w t (Some kind) rule is e =
    subst (Leads (head d c ++ w ∷ [])) (same_some (Listing d c (trigger kind [])) t e) ((rule, tt), ap (λ v. head d c ++ v ∷ []) (sym (trigger_spelled w kind is)))

kind_next : (d : Disposition) (w : List ℕ) (t : Stage) (o : Option ConditionKind) → kind_of w ≡ o → by_kind d w o ≡ Some t → Leads (disposition_word d ∷ w ∷ []) t
kind_next d w t None is e = trigger_next d None w t (trigger_of w) tt refl e
kind_next d w t (Some kind) is e = subst (Leads (disposition_word d ∷ w ∷ [])) (same_some (Asked d kind) t e) (tt, ap (λ v. disposition_word d ∷ v ∷ []) (sym (kind_spelled w kind is)))

if_stage : (b : Bool) (s t : Stage) → cond b (Some s) None ≡ Some t → (b ≡ true) × (s ≡ t)
if_stage true s t e = (refl, same_some s t e)
if_stage false s t e = no_some t e

listing_next : (d : Disposition) (c : Option NamedCondition) (r : NamedTrigger) (w : List ℕ) (t : Stage) → IsGood (Listing d c r) → step (Listing d c r) w ≡ Some t → Leads (lexemes_to (Listing d c r) ++ w ∷ []) t
listing_next d c r w t good e =
    let next : Stage = Listed d c (trigger r.kind (r.types ++ w ∷ [])) in
    let found = if_stage (is_name w && not (is_one_of r.types w)) next t e in
    let tests = and_parts (is_name w) (not (is_one_of r.types w)) found.0 in
    let new = new_from r.types w (not-true (is_one_of r.types w) tests.1) in
    subst (Leads (lexemes_to (Listing d c r) ++ w ∷ [])) found.1 (
      (good.0, omega (arith, length-append r.types (w ∷ [])), are_more r.types w good.1 tests.0 new),
      ap (λ l. head d c ++ trigger_word r.kind ∷ l) (listed_push r.types w) ∙ sym (append_assoc (head d c) (trigger_word r.kind ∷ each_listed r.types) (w ∷ [])),
    )

listed_next : (d : Disposition) (c : Option NamedCondition) (r : NamedTrigger) (w : List ℕ) (t : Stage) → IsGood (Listed d c r) → step (Listed d c r) w ≡ Some t → Leads (lexemes_to (Listed d c r) ++ w ∷ []) t
listed_next d c r w t good e =
    let found = if_stage (bytes_eq w (codes ",")) (Listing d c r) t e in
    subst (Leads (lexemes_to (Listed d c r) ++ w ∷ [])) found.1 (
      (good.0, good.2),
      ap (λ l. head d c ++ trigger_word r.kind ∷ l) (each_push r.types good.1)
          ∙ sym (append_assoc (head d c) (trigger_word r.kind ∷ listed r.types) (codes "," ∷ []))
          ∙ ap (λ v. (head d c ++ trigger_word r.kind ∷ listed r.types) ++ v ∷ []) (sym ((bytes_eq-Decides w (codes ",")).0 found.0)),
    )

asked_next : (d : Disposition) (kind : ConditionKind) (w : List ℕ) (t : Stage) → step (Asked d kind) w ≡ Some t → Leads (disposition_word d ∷ kind_word kind ∷ w ∷ []) t
asked_next d kind w t e =
    let found = if_stage (is_name w) (Given d (Some (record { kind = kind; rule = w }))) t e in
    subst (Leads (disposition_word d ∷ kind_word kind ∷ w ∷ [])) found.1 (found.0, refl)

step_leads : (s t : Stage) (w : List ℕ) → IsGood s → step s w ≡ Some t → Leads (lexemes_to s ++ w ∷ []) t
step_leads Begin t w good e = begun_next w t (disposition_of w) refl e
step_leads (Given d None) t w good e = kind_next d w t (kind_of w) refl e
step_leads (Given d (Some c)) t w good e = trigger_next d (Some c) w t (trigger_of w) good refl e
step_leads (Asked d kind) t w good e = asked_next d kind w t e
step_leads (Listing d c r) t w good e = listing_next d c r w t good e
step_leads (Listed d c r) t w good e = listed_next d c r w t good e

run_leads : (ws : List (List ℕ)) (s t : Stage) → IsGood s → run step (Some s) ws ≡ Some t → Leads (lexemes_to s ++ ws) t
run_leads [] s t good e = subst (Leads (lexemes_to s ++ [])) (same_some s t e) (good, sym (append-nil (lexemes_to s)))
run_leads (w ∷ ws) s t good e = by (step s w) refl e (λ u. run_leads ws u t)
  where
    by : (o : Option Stage) → step s w ≡ o → run step o ws ≡ Some t → ((u : Stage) → IsGood u → run step (Some u) ws ≡ Some t → Leads (lexemes_to u ++ ws) t) → Leads (lexemes_to s ++ w ∷ ws) t
    by None is e later = no_some t (sym (run_none step ws) ∙ e)
    by (Some u) is e later =
        let next = step_leads s u w good is in
        let all = later u next.0 e in
        (all.0, all.1 ∙ ap (λ l. l ++ ws) next.1 ∙ append_assoc (lexemes_to s) (w ∷ []) ws)

ended_spells : (ws : List (List ℕ)) (s : Stage) (a : NamedAction) → Leads ws s → ended s ≡ Some a → SpellsAction ws a
ended_spells ws Begin a is e = no_some a e
ended_spells ws (Given d c) a is e =
    subst (SpellsAction ws) (same_some (action d c None) a e) (record { rule = is.0; types = tt }, sym is.1 ∙ ap (λ l. disposition_word d ∷ l) (sym (append-nil (condition_lexemes c))))
ended_spells ws (Asked d kind) a is e = no_some a e
ended_spells ws (Listing d c t) a is e = no_some a e
ended_spells ws (Listed d c t) a is e = subst (SpellsAction ws) (same_some (action d c (Some t)) a e) (record { rule = is.0.0; types = (is.0.1, is.0.2) }, sym is.1)

only_spelled : (ws : List (List ℕ)) (s : Stage) (a : NamedAction) → run step (Some Begin) ws ≡ Some s → ended s ≡ Some a → SpellsAction ws a
only_spelled ws s a e f = ended_spells ws s a (run_leads ws Begin s tt e) f

-- ---- what is spelled is read

-- lexemes lead from a stage to an action
abbrev Gets : Stage → List (List ℕ) → NamedAction → Type 0
Gets s ws a = (t : Stage) × (run step (Some s) ws ≡ Some t) × (ended t ≡ Some a)

one_step : (s u : Stage) (w : List ℕ) (ws : List (List ℕ)) (a : NamedAction) → step s w ≡ Some u → Gets u ws a → Gets s (w ∷ ws) a
one_step s u w ws a e rest = (rest.0, ap (λ o. run step o ws) e ∙ rest.1, rest.2)

pub name_step : (d : Disposition) (c : Option NamedCondition) (kind : TriggerKind) (before rest : List (List ℕ)) (name : List ℕ) → AreNames (before ++ name ∷ rest)
    → step (Listing d c (trigger kind before)) name ≡ Some (Listed d c (trigger kind (before ++ name ∷ [])))
name_step d c kind before rest name are =
    let is = last_name before rest name are in
    let next : Stage = Listed d c (trigger kind (before ++ name ∷ [])) in
    ap (λ b. cond (b && not (is_one_of before name)) (Some next) None) is.0 ∙ ap (λ b. cond (not b) (Some next) None) is.1

gets_types : (d : Disposition) (c : Option NamedCondition) (kind : TriggerKind) (before names : List (List ℕ)) → AreNames (before ++ names) → 0 < length names
    → Gets (Listing d c (trigger kind before)) (listed names) (action d c (Some (trigger kind (before ++ names))))
gets_types d c kind before [] are some = absurd (omega (arith, some))
gets_types d c kind before (name ∷ []) are some =
    let last : Stage = Listed d c (trigger kind (before ++ name ∷ [])) in
    one_step (Listing d c (trigger kind before)) last name [] (action d c (Some (trigger kind (before ++ name ∷ [])))) (name_step d c kind before [] name are) (last, refl, refl)
gets_types d c kind before (name ∷ other ∷ names) are some =
    let first : Stage = Listing d c (trigger kind before) in
    let found : Stage = Listed d c (trigger kind (before ++ name ∷ [])) in
    let a : NamedAction = action d c (Some (trigger kind (before ++ name ∷ other ∷ names))) in
    let again = gets_types d c kind (before ++ name ∷ []) (other ∷ names) (subst AreNames (sym (append_assoc before (name ∷ []) (other ∷ names))) are) (omega arith) in
    let later : Gets (Listing d c (trigger kind (before ++ name ∷ []))) (listed (other ∷ names)) a =
    subst (λ l. Gets (Listing d c (trigger kind (before ++ name ∷ []))) (listed (other ∷ names)) (action d c (Some (trigger kind l)))) (append_assoc before (name ∷ []) (other ∷ names)) again in
    one_step first found name (codes "," ∷ listed (other ∷ names)) a (name_step d c kind before (other ∷ names) name are)
    (one_step found (Listing d c (trigger kind (before ++ name ∷ []))) (codes ",") (listed (other ∷ names)) a refl later)

pub trigger_step : (d : Disposition) (c : Option NamedCondition) (kind : TriggerKind) → step (Given d c) (trigger_word kind) ≡ Some (Listing d c (trigger kind []))
trigger_step d None kind = ap (by_kind d (trigger_word kind)) (trigger_no_kind kind) ∙ ap (by_trigger d None) (trigger_read kind)
trigger_step d (Some c) kind = ap (by_trigger d (Some c)) (trigger_read kind)

pub condition_step : (d : Disposition) (kind : ConditionKind) → step (Given d None) (kind_word kind) ≡ Some (Asked d kind)
condition_step d kind = ap (by_kind d (kind_word kind)) (kind_read kind)

pub rule_step : (d : Disposition) (c : NamedCondition) → HasRule (Some c) → step (Asked d c.kind) c.rule ≡ Some (Given d (Some c))
rule_step d c rule = ap (λ b. cond b (Some (Given d (Some (record { kind = c.kind; rule = c.rule })))) None) rule

pub first_step : (d : Disposition) → step Begin (disposition_word d) ≡ Some (Given d None)
first_step d = ap option_given (disposition_read d)

gets_trigger : (d : Disposition) (c : Option NamedCondition) (t : Option NamedTrigger) → HasTypes t → Gets (Given d c) (trigger_lexemes t) (action d c t)
gets_trigger d c None types = (Given d c, refl, refl)
gets_trigger d c (Some t) types =
    one_step (Given d c) (Listing d c (trigger t.kind [])) (trigger_word t.kind) (listed t.types) (action d c (Some t)) (trigger_step d c t.kind) (gets_types d c t.kind [] t.types types.1 types.0)

gets_condition : (d : Disposition) (c : Option NamedCondition) (t : Option NamedTrigger) → HasRule c → HasTypes t → Gets (Given d None) (condition_lexemes c ++ trigger_lexemes t) (action d c t)
gets_condition d None t rule types = gets_trigger d None t types
gets_condition d (Some c) t rule types =
    one_step (Given d None) (Asked d c.kind) (kind_word c.kind) (c.rule ∷ trigger_lexemes t) (action d (Some c) t) (condition_step d c.kind)
    (one_step (Asked d c.kind) (Given d (Some c)) c.rule (trigger_lexemes t) (action d (Some c) t) (rule_step d c rule) (gets_trigger d (Some c) t types))

all_read : (ws : List (List ℕ)) (a : NamedAction) → SpellsAction ws a → Gets Begin ws a
all_read ws a is =
    subst (λ l. Gets Begin l a) (sym is.1)
    (one_step Begin (Given a.disposition None) (disposition_word a.disposition) (condition_lexemes a.condition ++ trigger_lexemes a.trigger) a
    (first_step a.disposition) (gets_condition a.disposition a.condition a.trigger is.0.rule is.0.types))

-- ---- the function

some_stage : (o : Option Stage) (a : NamedAction) → action_at o ≡ Some a → (s : Stage) × (o ≡ Some s) × (ended s ≡ Some a)
some_stage None a e = no_some a e
some_stage (Some s) a e = (s, refl, e)

pub action_spelled : (ws : List (List ℕ)) (a : NamedAction) → action_in ws ≡ Some a → SpellsAction ws a
unfolding action_in
action_spelled ws a e = let s = some_stage (run step (Some Begin) ws) a e in only_spelled ws s.0 a s.1 s.2

pub spelled_action : (ws : List (List ℕ)) (a : NamedAction) → IsAction a → ws ≡ action_lexemes a → action_in ws ≡ Some a
unfolding action_in
spelled_action ws a is e = let g = all_read ws a (is, e) in ap action_at g.1 ∙ g.2

-- ---- what was read can be completed

-- so few lexemes that some name is none of them
abbrev pub FitsNames : List (List ℕ) → Type 0
FitsNames ws = length ws ≤ 8192

completes : (ws more : List (List ℕ)) (a : NamedAction) → IsAction a → ws ++ more ≡ action_lexemes a → Begins (Spelled SpellsAction) ws
completes ws more a is e = (more, (a, (is, e)))

valid_alone : NamedAction
valid_alone = action Valid None None

begins : (ws : List (List ℕ)) (s : Stage) → FitsNames ws → Leads ws s → Begins (Spelled SpellsAction) ws
unfolding valid_alone
begins ws Begin few is = completes ws (codes "valid" ∷ []) valid_alone (record { rule = tt; types = tt }) (ap (λ l. l ++ codes "valid" ∷ []) (sym is.1))
begins ws (Given d c) few is =
    completes ws [] (action d c None) (record { rule = is.0; types = tt }) (ap (λ l. l ++ []) (sym is.1))
begins ws (Asked d kind) few is =
    completes ws (codes "r" ∷ []) (action d (Some (record { kind = kind; rule = codes "r" })) None) (record { rule = refl; types = tt }) (ap (λ l. l ++ codes "r" ∷ []) (sym is.1))
begins ws (Listing d c t) few is =
    let r = fresh t.types numbered numbered-once in
    let upto = r.1 in
    let listed_few = few_listed t.types in
    let all = ap length is.1 in
    let long = length-append (head d c) (trigger_word t.kind ∷ each_listed t.types) in
    let name : List ℕ = numbered r.0 in
    let named = numbered-name r.0 (omega arith) in
    completes ws (name ∷ []) (action d c (Some (trigger t.kind (t.types ++ name ∷ []))))
    (record { rule = is.0.0; types = (omega (arith, length-append t.types (name ∷ [])), are_more t.types name is.0.1 named (new_from t.types name r.2)) })
    (ap (λ l. l ++ name ∷ []) (sym is.1) ∙ append_assoc (head d c) (trigger_word t.kind ∷ each_listed t.types) (name ∷ [])
    ∙ ap (λ l. head d c ++ trigger_word t.kind ∷ l) (sym (listed_push t.types name)))
begins ws (Listed d c t) few is =
    completes ws [] (action d c (Some t)) (record { rule = is.0.0; types = (is.0.1, is.0.2) }) (append-nil ws ∙ sym is.1)

action_reader : Reads step Begin ended FitsNames SpellsAction
action_reader = record {
  all = all_read;
  only = only_spelled;
  begun = λ ws s few e. begins ws s few (run_leads ws Begin s tt e);
}

unplaced_count : (ws : List Placed) → length (unplaced ws) ≡ length ws
unplaced_count [] = refl
unplaced_count (w ∷ ws) = ap suc (unplaced_count ws)

few_front : (ws front rest : List Placed) → length ws ≤ 8192 → ws ≡ front ++ rest → FitsNames (unplaced front)
few_front ws front rest few cut =
    let same = ap length cut ∙ length-append front rest in
    let count = unplaced_count front in
    omega (arith, same, count)

pub action_tells : (end : ℕ) (ws : List Placed) → length ws ≤ 8192 → Tells SpellsAction ws end (action_read end ws)
action_tells end ws few = tells step Begin ended FitsNames SpellsAction action_reader end ws (λ front rest cut. few_front ws front rest few cut)

-- an action that is read is that of the lexemes without their places, however many these are
pub action_found : (end : ℕ) (ws : List Placed) (a : NamedAction) → action_read end ws ≡ Ok a → SpellsAction (unplaced ws) a
action_found end ws a e = let l = leads step ended end ws Begin a e in only_spelled (unplaced ws) l.last a l.run_to l.ends_in

pub action_as_read : (end : ℕ) (ws : List Placed) → result_ok (action_read end ws) ≡ action_in (unplaced ws)
action_as_read end ws = by (action_read end ws) refl (action_in (unplaced ws)) refl
  where
    by : (read : Result NamedAction FaultPlace) → action_read end ws ≡ read → (o : Option NamedAction) → action_in (unplaced ws) ≡ o → result_ok read ≡ o
    by (Ok a) e o f = let is = action_found end ws a e in sym (spelled_action (unplaced ws) a is.0 is.1) ∙ f
    by (Err place) e None f = refl
    by (Err place) e (Some a) f =
        let g = all_read (unplaced ws) a (action_spelled (unplaced ws) a f) in
        ok_err a place (sym (reads_to step ended end ws Begin g.0 a g.1 g.2) ∙ e)

-- ---- its canonical text

disposition_first : (d : Disposition) (rest : List ℕ) → begins_in_word rest ≡ false → lexemes (disposition_word d ++ rest) ≡ disposition_word d ∷ lexemes rest
disposition_first d rest e = word_first (disposition_word d) rest (some d) (word d) e
  where
    some : (d : Disposition) → 0 < length (disposition_word d)
    some Invalid = omega arith
    some Blocked = omega arith
    some Allocatable = omega arith
    some Activated = omega arith
    some Valid = omega arith

    word : (d : Disposition) → AllByRecursion (λ c. IsTrue (is_word_byte c)) (disposition_word d)
    word Invalid = (refl, (refl, (refl, (refl, (refl, (refl, (refl, tt)))))))
    word Blocked = (refl, (refl, (refl, (refl, (refl, (refl, (refl, tt)))))))
    word Allocatable = (refl, (refl, (refl, (refl, (refl, (refl, (refl, (refl, (refl, (refl, (refl, tt)))))))))))
    word Activated = (refl, (refl, (refl, (refl, (refl, (refl, (refl, (refl, (refl, tt)))))))))
    word Valid = (refl, (refl, (refl, (refl, (refl, tt)))))

names_lexed : (names : List (List ℕ)) → AreNames names → lexemes (names_text names) ≡ listed names
names_lexed [] are = refl
names_lexed (name ∷ []) are =
    let word = name_word name are.0 in ap lexemes (sym (append-nil name)) ∙ word_first name [] word.some word.word refl
names_lexed (name ∷ other ∷ names) are =
    let word = name_word name are.0 in
    word_first name (44 ∷ names_text (other ∷ names)) word.some word.word refl ∙ ap (λ l. name ∷ codes "," ∷ l) (names_lexed (other ∷ names) are.2)

trigger_lexed : (t : Option NamedTrigger) → HasTypes t → lexemes (trigger_text t) ≡ trigger_lexemes t
trigger_lexed None types = refl
trigger_lexed (Some t) types = word_of t.kind ∙ ap (λ l. trigger_word t.kind ∷ l) (names_lexed t.types types.1)
  where
    word_of : (kind : TriggerKind) → lexemes (32 ∷ (trigger_word kind ++ 32 ∷ names_text t.types)) ≡ trigger_word kind ∷ lexemes (names_text t.types)
    word_of Any = refl
    word_of All = refl
    word_of Only = refl

blank_trigger : (t : Option NamedTrigger) → begins_in_word (trigger_text t) ≡ false
blank_trigger None = refl
blank_trigger (Some t) = refl

condition_lexed : (c : Option NamedCondition) (t : Option NamedTrigger) → HasRule c → HasTypes t → lexemes (condition_text c ++ trigger_text t) ≡ condition_lexemes c ++ trigger_lexemes t
condition_lexed None t rule types = trigger_lexed t types
condition_lexed (Some c) t rule types =
    let word = name_word c.rule rule in
    word_of c.kind c.rule ∙ ap (λ l. kind_word c.kind ∷ l) (word_first c.rule (trigger_text t) word.some word.word (blank_trigger t) ∙ ap (λ l. c.rule ∷ l) (trigger_lexed t types))
  where
    word_of : (kind : ConditionKind) (rule : List ℕ) → lexemes (condition_text (Some (record { kind = kind; rule = rule })) ++ trigger_text t) ≡ kind_word kind ∷ lexemes (rule ++ trigger_text t)
    word_of When rule = refl
    word_of Unless rule = refl

blank_condition : (c : Option NamedCondition) (t : Option NamedTrigger) → begins_in_word (condition_text c ++ trigger_text t) ≡ false
blank_condition None t = blank_trigger t
blank_condition (Some c) t = by c.kind c.rule
  where
    by : (kind : ConditionKind) (rule : List ℕ) → begins_in_word (condition_text (Some (record { kind = kind; rule = rule })) ++ trigger_text t) ≡ false
    by When rule = refl
    by Unless rule = refl

pub action_lexed : (a : NamedAction) → IsAction a → lexemes (action_text a) ≡ action_lexemes a
action_lexed a is =
    disposition_first a.disposition (condition_text a.condition ++ trigger_text a.trigger) (blank_condition a.condition a.trigger)
    ∙ ap (λ l. disposition_word a.disposition ∷ l) (condition_lexed a.condition a.trigger is.rule is.types)
