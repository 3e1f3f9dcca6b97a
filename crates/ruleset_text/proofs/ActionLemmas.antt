-- What actions name stays known when more is defined.
use Rattle.std.proofs.Common.{◌≡◌, ℕ, Bool, true, false, ◌&&◌, ◌||◌, cond, List, [], ◌∷◌, ◌++◌, length, Option, Some, None, refl, ap, ◌∙◌, arith}
use Rattle.std.specs.Prelude.{bytes_eq}
use Rattle.std.specs.List.{list_all}
use Rattle.std.proofs.lemmas.Bool.{and_parts}
use Rattle.label_patterns.specs.Patterns.{Pattern}
use Rattle.label_patterns.specs.Rules.{is_context_rule}
use Rattle.ruleset_text.specs.declared.named_condition.NamedCondition.{NamedCondition}
use Rattle.ruleset_text.specs.Actions.{NamedAction, NamedTrigger, knows_rule, knows_types, knows_action}
use Rattle.ruleset_text.specs.Definitions.{whole_names}
use Rattle.ruleset_text.specs.Names.{is_one_of}

pub one_of-more : (names more : List (List ℕ)) (name : List ℕ) → is_one_of names name ≡ true → is_one_of (names ++ more) name ≡ true
one_of-more [] more name e = absurd (let clash : false ≡ true = e in cc)
one_of-more (x ∷ names) more name e = by (bytes_eq x name) e (one_of-more names more name)
  where
    by : (b : Bool) → (b || is_one_of names name) ≡ true → (is_one_of names name ≡ true → is_one_of (names ++ more) name ≡ true) → (b || is_one_of (names ++ more) name) ≡ true
    by true e rest = refl
    by false e rest = rest e

all_of-more : (names more types : List (List ℕ)) → list_all (is_one_of names) types ≡ true → list_all (is_one_of (names ++ more)) types ≡ true
all_of-more names more [] e = refl
all_of-more names more (t ∷ types) e =
    let parts = and_parts (is_one_of names t) (list_all (is_one_of names) types) e in
    ap (λ b. b && list_all (is_one_of (names ++ more)) types) (one_of-more names more t parts.0) ∙ all_of-more names more types parts.1

rule-more : (rules others : List (List ℕ)) (c : Option NamedCondition) → knows_rule rules c ≡ true → knows_rule (rules ++ others) c ≡ true
rule-more rules others None e = refl
rule-more rules others (Some c) e = one_of-more rules others c.rule e

types-more : (types more : List (List ℕ)) (t : Option NamedTrigger) → knows_types types t ≡ true → knows_types (types ++ more) t ≡ true
types-more types more None e = refl
types-more types more (Some t) e = all_of-more types more t.types e

pub knows-more : (types more rules others : List (List ℕ)) (a : NamedAction) → knows_action types rules a ≡ true → knows_action (types ++ more) (rules ++ others) a ≡ true
knows-more types more rules others a e =
    let parts = and_parts (knows_rule rules a.condition) (knows_types types a.trigger) e in
    ap (λ b. b && knows_types (types ++ more) a.trigger) (rule-more rules others a.condition parts.0) ∙ types-more types more a.trigger parts.1

-- with a rule more
pub whole-push : (names : List (List ℕ)) (rules : List Pattern) (name : List ℕ) (p : Pattern) → length names ≡ length rules
    → whole_names (names ++ name ∷ []) (rules ++ p ∷ []) ≡ whole_names names rules ++ whole_names (name ∷ []) (p ∷ [])
whole-push [] [] name p e = refl
whole-push [] (q ∷ rules) name p e = absurd (omega (arith, e))
whole-push (n ∷ names) [] name p e = absurd (omega (arith, e))
whole-push (n ∷ names) (q ∷ rules) name p e = by (whole-push names rules name p (omega (arith, e))) (is_context_rule q)
  where
    by : whole_names (names ++ name ∷ []) (rules ++ p ∷ []) ≡ whole_names names rules ++ whole_names (name ∷ []) (p ∷ []) → (b : Bool) → cond b (whole_names (names ++ name ∷ []) (rules ++ p ∷ [])) (n ∷ whole_names (names ++ name ∷ []) (rules ++ p ∷ []))
        ≡ cond b (whole_names names rules) (n ∷ whole_names names rules) ++ whole_names (name ∷ []) (p ∷ [])
    by rest true = rest
    by rest false = ap (λ l. n ∷ l) rest
