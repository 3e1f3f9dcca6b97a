-- No rule of a table asks for the end of a label before '_'.
use Rattle.std.proofs.Common.{◌≡◌, ℕ, inl, inr, Bool, true, false, not, cond, ◌&&◌, ◌||◌, List, [], ◌∷◌, length, refl, sym, ap, ◌∙◌, arith}
use Rattle.std.specs.List.{AllByRecursion}
use Rattle.std.proofs.lemmas.Bool.{or_parts}
use Rattle.label_patterns.specs.Laws.{ContextsIgnoreEnd, IgnoresEnd, IgnoresEndBefore}
use Rattle.label_patterns.specs.Patterns.{Pattern, Point, Set, Any, Start, End, Anchor, Group, Optional, Many, Then, Either}
use Rattle.label_patterns.specs.Rules.{branches, is_anchor}
use Rattle.ruleset_text.specs.Signs as sign
use Rattle.ruleset_text.specs.Definition as definition
use Rattle.ruleset_text.specs.Definitions.{Definitions, named}
use Rattle.ruleset_text.specs.Rules.{has, is_before, is_after, is_context, is_rule, is_rule_or_whole}
use Rattle.idn_class.specs.declared.properties.Properties.{Properties}
use Rattle.ruleset_text.specs.WellFormed.{IsDefinition, AreDefinitions}
use Rattle.ruleset_text.proofs.FormLemmas.{whole_rule}
use Rattle.ruleset_text.proofs.KnownPatternLemmas.{rules_are}
use Rattle.variant_table.proofs.MemberLists.{not-true}
use Rattle.label_patterns.proofs.TestLemmas.{and-both}

no-end : (p : Pattern) → has sign.End p ≡ false → IgnoresEnd p
no-end (Point c) h = tt
no-end (Set n) h = tt
no-end Any h = tt
no-end Start h = tt
no-end End h = absurd (let f : true ≡ false = h in cc)
no-end Anchor h = tt
no-end (Group p) h = no-end p h
no-end (Optional p) h = no-end p h
no-end (Many p) h = no-end p h
no-end (Then p q) h = let n = or_parts (has sign.End p) (has sign.End q) h in (no-end p n.0, no-end q n.1)
no-end (Either p q) h = let n = or_parts (has sign.End p) (has sign.End q) h in (no-end p n.0, no-end q n.1)

not-is : (b : Bool) → not b ≡ true → b ≡ false
not-is true h = not-true h
not-is false h = refl

-- an item and what follows it
item-before : (p q : Pattern) → (is_context q ≡ true → IgnoresEndBefore q) → cond (is_anchor p) (is_after q) (is_before p && is_context q) ≡ true → IgnoresEndBefore (Then p q)
item-before p q later = by_item (is_anchor p) refl
  where
    by_item : (b : Bool) → is_anchor p ≡ b → cond b (is_after q) (is_before p && is_context q) ≡ true → IgnoresEndBefore (Then p q)
    by_item true is h = inl is
    by_item false is h =
        let two = (and-both (is_before p) (is_context q)).0 h in
        let parts = (and-both (not (has sign.Anchor p)) (not (has sign.End p))).0 two.0 in
        inr (no-end p (not-is (has sign.End p) parts.1), later two.1)

context-before : (p : Pattern) → is_context p ≡ true → IgnoresEndBefore p
context-before (Point c) h = tt
context-before (Set n) h = tt
context-before Any h = tt
context-before Start h = tt
context-before End h = tt
context-before Anchor h = tt
context-before (Group p) h = tt
context-before (Optional p) h = tt
context-before (Many p) h = tt
context-before (Then p q) h = item-before p q (context-before q) h
context-before (Either p q) h = tt

pub rule-before : (p : Pattern) → is_rule p ≡ true → AllByRecursion IgnoresEndBefore (branches p)
rule-before (Point c) h = (tt, tt)
rule-before (Set n) h = (tt, tt)
rule-before Any h = (tt, tt)
rule-before Start h = (tt, tt)
rule-before End h = (tt, tt)
rule-before Anchor h = (tt, tt)
rule-before (Group p) h = (tt, tt)
rule-before (Optional p) h = (tt, tt)
rule-before (Many p) h = (tt, tt)
rule-before (Then p q) h = (item-before p q (context-before q) h, tt)
rule-before (Either p q) h = let two = (and-both (is_context p) (is_rule q)).0 h in (context-before p two.0, rule-before q two.1)

-- a whole-label rule has no '_'
rule-ignores : (p : Pattern) → is_rule_or_whole p ≡ true → ContextsIgnoreEnd p
rule-ignores p h asked = by (is_rule p) refl
  where
    by : (b : Bool) → is_rule p ≡ b → AllByRecursion IgnoresEndBefore (branches p)
    by true is = rule-before p is
    by false is =
        let none : not (has sign.Anchor p) ≡ true = sym (ap (λ b. b || not (has sign.Anchor p)) is) ∙ h in
        let both : true ≡ false = sym asked ∙ whole_rule p (not-is (has sign.Anchor p) none) in
        absurd cc

rules-from : (properties : Properties) (sets names : List (List ℕ)) (rules : List Pattern) → length names ≡ length rules → AllByRecursion (IsDefinition properties sets) (named definition.Rule names rules)
    → AllByRecursion ContextsIgnoreEnd rules
rules-from properties sets [] [] same all = tt
rules-from properties sets [] (p ∷ rules) same all = absurd (omega (arith, same))
rules-from properties sets (name ∷ names) [] same all = tt
rules-from properties sets (name ∷ names) (p ∷ rules) same all = (rule-ignores p all.0.parts.1, rules-from properties sets names rules (omega (arith, same)) all.1)

pub rules-before : (d : Definitions) → AreDefinitions d → AllByRecursion ContextsIgnoreEnd d.rules
rules-before d are = rules-from d.properties d.set_names d.rule_names d.rules are.named_rules (rules_are d are)
