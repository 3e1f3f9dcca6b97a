-- The actions of a ruleset, with numbers in place of names.
use Rattle.std.proofs.Common.{◌≡◌, ℕ, zero, suc, ◌+◌, ◌<◌, ◌||◌, inl, inr, Bool, true, false, cond, List, [], ◌∷◌, length, map, drop, get_or, refl, sym, ap, ◌∙◌, subst, arith}
use Rattle.std.specs.Prelude.{Option, Some, None, bytes_eq}
use Rattle.std.specs.List.{AllByRecursion, list_all}
use Rattle.std.proofs.lemmas.Bool.{and_parts, or_cases}
use Rattle.std.proofs.lemmas.List.{drop_more}
use Rattle.ruleset_text.specs.declared.action.NamedAction as held_action
use Rattle.ruleset_text.specs.ActionForms as held
use Rattle.ruleset_text.specs.declared.named_condition.NamedCondition.{NamedCondition}
use Rattle.ruleset_text.specs.Actions.{NamedAction, knows_rule}
use Rattle.ruleset_text.specs.Definitions.{Definitions, whole_names, whole_rules}
use Rattle.ruleset_text.specs.Names.{is_one_of}
use Rattle.label_patterns.specs.Patterns.{Pattern}
use Rattle.label_patterns.specs.Rules.{is_context_rule}
use Rattle.variant_table.specs.Forms as forms
use Rattle.valid_labels.specs.Actions.{with_type, with_types}

-- what is known of all actions is known of each
pub action-at : (P : NamedAction → Type 0) (actions : List held_action.NamedAction) (i : ℕ) (a : held_action.NamedAction) → i < length actions → a ≡ get_or actions i a → AllByRecursion P (map held.action actions) → P (held.action a)
action-at P actions i a l is all = subst (λ x. P (held.action x)) (sym is) (at actions i l all)
  where
    at : (xs : List held_action.NamedAction) (k : ℕ) → k < length xs → AllByRecursion P (map held.action xs) → P (held.action (get_or xs k a))
    at [] k l all = absurd (omega (arith, l))
    at (x ∷ xs) zero l all = all.0
    at (x ∷ xs) (suc k) l all = at xs k (omega (arith, l)) all.1

-- the name of a whole-label rule is that of a rule
pub whole-named : (names : List (List ℕ)) (rules : List Pattern) (name : List ℕ) → is_one_of (whole_names names rules) name ≡ true → is_one_of names name ≡ true
whole-named [] rules name h = absurd (let f : false ≡ true = h in cc)
whole-named (first ∷ names) [] name h = absurd (let f : false ≡ true = h in cc)
whole-named (first ∷ names) (p ∷ rules) name h = by_rule (is_context_rule p) h (whole-named names rules name)
  where
    right : (b : Bool) → is_one_of names name ≡ true → (b || is_one_of names name) ≡ true
    right true is = refl
    right false is = is

    by_rule : (b : Bool) → is_one_of (cond b (whole_names names rules) (first ∷ whole_names names rules)) name ≡ true → (is_one_of (whole_names names rules) name ≡ true → is_one_of names name ≡ true)
        → is_one_of (first ∷ names) name ≡ true
    by_rule true g rest = right (bytes_eq first name) (rest g)
    by_rule false g rest = elim (or_cases (bytes_eq first name) (is_one_of (whole_names names rules) name) g) [
      | inl here ↦ ap (λ b. b || is_one_of names name) here
      | inr later ↦ right (bytes_eq first name) (rest later)
    ]

pub rule-known : (d : Definitions) (condition : Option NamedCondition) → knows_rule (whole_rules d) condition ≡ true → forms.knows_rule d condition ≡ true
rule-known d None h = refl
rule-known d (Some c) h = whole-named d.rule_names d.rules c.rule h

-- one type more
pub types-next : (d : Definitions) (word : ℕ) (names : List (List ℕ)) (i : ℕ) (name : List ℕ) → i < length names → name ≡ get_or names i name → with_types d word (drop i names) ≡ with_types d (with_type d word name) (drop (i + 1) names)
types-next d word names i name l is = ap (with_types d word) (drop_more names i name l) ∙ ap (λ n. with_types d (with_type d word n) (drop (i + 1) names)) (sym is)

-- each of the names is one
pub type-known : (names types : List (List ℕ)) (i : ℕ) (name : List ℕ) → i < length names → name ≡ get_or names i name → list_all (is_one_of types) names ≡ true → is_one_of types name ≡ true
type-known names types i name l is all = ap (is_one_of types) is ∙ at names i l all
  where
    at : (xs : List (List ℕ)) (k : ℕ) → k < length xs → list_all (is_one_of types) xs ≡ true → is_one_of types (get_or xs k name) ≡ true
    at [] k l all = absurd (omega (arith, l))
    at (x ∷ xs) zero l all = (and_parts (is_one_of types x) (list_all (is_one_of types) xs) all).0
    at (x ∷ xs) (suc k) l all = at xs k (omega (arith, l)) (and_parts (is_one_of types x) (list_all (is_one_of types) xs) all).1
