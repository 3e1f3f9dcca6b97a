-- What has the form of a definition.
use Rattle.std.proofs.Common.{◌≡◌, ◌⊎◌, inl, inr, ℕ, Bool, true, false, not, ◌||◌, ◌&&◌, cond, List, Option, Some, None, refl, sym, ap, ◌∙◌}
use Rattle.std.proofs.lemmas.Bool.{and_parts, not-true, or_parts}
use Rattle.label_patterns.specs.Patterns.{Pattern, Point, Set, Any, Start, End, Anchor, Group, Optional, Many, Then, Either}
use Rattle.label_patterns.specs.Rules.{is_anchor, is_context, is_context_rule}
use Rattle.ruleset_text.specs.Signs as sign
use Rattle.ruleset_text.specs.Definition.{if_such, contexts_in, demand_in}
use Rattle.ruleset_text.specs.Grammar.{Is, Whole}
use Rattle.ruleset_text.specs.Reading.{pattern_of}
use Rattle.ruleset_text.specs.Rules as rules
use Rattle.ruleset_text.specs.Rules.{has, is_rule, is_rule_or_whole}
use Rattle.ruleset_text.specs.Tokens.{tokens_in}
use Rattle.ruleset_text.proofs.PatternLemmas.{read_spelled}

-- what is read is the pattern of which the test is true
pub if_such_some : (test : Pattern → Bool) (o : Option Pattern) (p : Pattern) → if_such test o ≡ Some p → (o ≡ Some p) × (test p ≡ true)
if_such_some test None p e = absurd (cc)
if_such_some test (Some q) p e = by_cases (test q) refl e
  where
    by_cases : (b : Bool) → test q ≡ b → cond b (Some q) None ≡ Some p → (Some q ≡ Some p) × (test p ≡ true)
    by_cases true t e = let same : q ≡ p = cc in (e, ap test (sym same) ∙ t)
    by_cases false t e = absurd (cc)

-- contexts are a pattern of the grammar, of a rule
pub contexts_formed : (names words : List (List ℕ)) (p : Pattern) → contexts_in names words ≡ Some p → Is Whole p × (is_rule p ≡ true)
contexts_formed names words p e =
    let parts = if_such_some is_rule (pattern_of (tokens_in names words)) p e in ((read_spelled (tokens_in names words) p parts.0).0, parts.1)

-- what a demand asks for is a pattern of the grammar, without '_'
pub demand_formed : (names words : List (List ℕ)) (p : Pattern) → demand_in names words ≡ Some p → Is Whole p × (has sign.Anchor p ≡ false)
demand_formed names words p e =
    let parts = if_such_some (λ q. not (has sign.Anchor q)) (pattern_of (tokens_in names words)) p e in
    ((read_spelled (tokens_in names words) p parts.0).0, not-true (has sign.Anchor p) parts.1)

-- ---- the kind of a rule

no_context : (p : Pattern) → has sign.Anchor p ≡ false → is_context p ≡ false
no_context (Point c) e = refl
no_context (Set n) e = refl
no_context Any e = refl
no_context Start e = refl
no_context End e = refl
no_context Anchor e = absurd (let clash : true ≡ false = e in cc)
no_context (Group p) e = refl
no_context (Optional p) e = refl
no_context (Many p) e = refl
no_context (Then p q) e =
    let parts = or_parts (has sign.Anchor p) (has sign.Anchor q) e in
    ap (λ b. b || is_context q) (no_anchor p parts.0) ∙ no_context q parts.1
  where
    no_anchor : (r : Pattern) → has sign.Anchor r ≡ false → is_anchor r ≡ false
    no_anchor Anchor e = absurd (let clash : true ≡ false = e in cc)
    no_anchor (Point c) e = refl
    no_anchor (Set n) e = refl
    no_anchor Any e = refl
    no_anchor Start e = refl
    no_anchor End e = refl
    no_anchor (Group r) e = refl
    no_anchor (Optional r) e = refl
    no_anchor (Many r) e = refl
    no_anchor (Then r q) e = refl
    no_anchor (Either r q) e = refl
no_context (Either p q) e = refl

-- a pattern without '_' is that of a whole-label rule
pub whole_rule : (p : Pattern) → has sign.Anchor p ≡ false → is_context_rule p ≡ false
whole_rule (Either p q) e = no_context p (or_parts (has sign.Anchor p) (has sign.Anchor q) e).0
whole_rule (Point c) e = refl
whole_rule (Set n) e = refl
whole_rule Any e = refl
whole_rule Start e = refl
whole_rule End e = refl
whole_rule Anchor e = no_context Anchor e
whole_rule (Group p) e = refl
whole_rule (Optional p) e = refl
whole_rule (Many p) e = refl
whole_rule (Then p q) e = no_context (Then p q) e

a_context : (p : Pattern) → rules.is_context p ≡ true → is_context p ≡ true
a_context Anchor e = refl
a_context (Then p q) e = by (is_anchor p) e (a_context q)
  where
    by : (b : Bool) → cond b (rules.is_after q) (rules.is_before p && rules.is_context q) ≡ true → (rules.is_context q ≡ true → is_context q ≡ true) → (b || is_context q) ≡ true
    by true e rest = refl
    by false e rest = rest (and_parts (rules.is_before p) (rules.is_context q) e).1
a_context (Point c) e = absurd (let clash : false ≡ true = e in cc)
a_context (Set n) e = absurd (let clash : false ≡ true = e in cc)
a_context Any e = absurd (let clash : false ≡ true = e in cc)
a_context Start e = absurd (let clash : false ≡ true = e in cc)
a_context End e = absurd (let clash : false ≡ true = e in cc)
a_context (Group p) e = absurd (let clash : false ≡ true = e in cc)
a_context (Optional p) e = absurd (let clash : false ≡ true = e in cc)
a_context (Many p) e = absurd (let clash : false ≡ true = e in cc)
a_context (Either p q) e = absurd (let clash : false ≡ true = e in cc)

-- contexts are those of a context rule
pub context_rule : (p : Pattern) → is_rule p ≡ true → is_context_rule p ≡ true
context_rule (Either p q) e = a_context p (and_parts (rules.is_context p) (is_rule q) e).0
context_rule Anchor e = refl
context_rule (Then p q) e = a_context (Then p q) e
context_rule (Point c) e = absurd (let clash : false ≡ true = e in cc)
context_rule (Set n) e = absurd (let clash : false ≡ true = e in cc)
context_rule Any e = absurd (let clash : false ≡ true = e in cc)
context_rule Start e = absurd (let clash : false ≡ true = e in cc)
context_rule End e = absurd (let clash : false ≡ true = e in cc)
context_rule (Group p) e = absurd (let clash : false ≡ true = e in cc)
context_rule (Optional p) e = absurd (let clash : false ≡ true = e in cc)
context_rule (Many p) e = absurd (let clash : false ≡ true = e in cc)

-- a rule is of one kind or of the other
pub rule_or_whole : (p : Pattern) → is_rule_or_whole p ≡ true → (is_rule p ≡ true) ⊎ (has sign.Anchor p ≡ false)
rule_or_whole p e = by (is_rule p) refl e
  where
    by : (b : Bool) → is_rule p ≡ b → (b || not (has sign.Anchor p)) ≡ true → (is_rule p ≡ true) ⊎ (has sign.Anchor p ≡ false)
    by true is e = inl is
    by false is e = inr (not-true (has sign.Anchor p) e)

pub of_contexts : (p : Pattern) → is_rule p ≡ true → is_rule_or_whole p ≡ true
of_contexts p e = ap (λ b. b || not (has sign.Anchor p)) e

pub of_whole : (p : Pattern) → has sign.Anchor p ≡ false → is_rule_or_whole p ≡ true
of_whole p e = by (is_rule p) (ap not e)
  where
    by : (b : Bool) → not (has sign.Anchor p) ≡ true → (b || not (has sign.Anchor p)) ≡ true
    by true n = refl
    by false n = n
