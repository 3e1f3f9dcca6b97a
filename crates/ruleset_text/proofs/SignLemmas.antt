-- Where '_', '^' and '$' stand among the tokens of a pattern, by the pattern.
use Rattle.std.proofs.Common.{◌≡◌, ℕ, suc, ◌+◌, ◌-◌, ◌==◌, Bool, true, false, cond, not, ◌||◌, ◌&&◌, List, [], ◌∷◌, ◌++◌, refl, sym, ap, ◌∙◌, append_assoc, append-nil, arith}
use Rattle.std.proofs.lemmas.Bool.Decides.{nat_tests}
use Rattle.ruleset_text.specs.declared.token.Token.{Token}
use Rattle.ruleset_text.specs.declared.token.Token.TheVariants as token
use Rattle.ruleset_text.specs.Signs as sign
use Rattle.label_patterns.specs.Patterns as patterns
use Rattle.label_patterns.specs.Patterns.{Pattern}
use Rattle.ruleset_text.specs.Grammar.{Is, Atom, Item, Branch, Whole, tokens}
use Rattle.label_patterns.specs.Rules.{is_anchor}
use Rattle.ruleset_text.specs.Rules.{has, is_before, is_after, is_context, is_rule}
use Rattle.ruleset_text.proofs.PatternLemmas.{item_is}

pub and_false : (b : Bool) → false ≡ (b && false)
and_false true = refl
and_false false = refl

pub and_true : (b : Bool) → b ≡ (b && true)
and_true true = refl
and_true false = refl

pub suc_zero : (n : ℕ) → (suc n == 0) ≡ false
suc_zero n = grind (arith, nat_tests)

-- '_', '^' and '$' are where they may be, in a rule or in a demand
abbrev pub signed : Bool → ℕ → Bool → List Token → Bool
signed r d b [] = b || not r
signed r d b (token.Point c ∷ ts) = signed r d b ts
signed r d b (token.Set n ∷ ts) = signed r d b ts
signed r d b (token.Any ∷ ts) = signed r d b ts
signed r d b (token.Start ∷ ts) = cond (not r || not b) (signed r d b ts) false
signed r d b (token.End ∷ ts) = cond (not r || b) (signed r d b ts) false
signed r d b (token.Anchor ∷ ts) = cond (r && (d == 0) && not b) (signed r d true ts) false
signed r d b (token.Open ∷ ts) = signed r (d + 1) b ts
signed r d b (token.Close ∷ ts) = signed r (d - 1) b ts
signed r d b (token.Optional ∷ ts) = signed r d b ts
signed r d b (token.Many ∷ ts) = signed r d b ts
signed r d b (token.Or ∷ ts) = cond (d == 0) (cond (b || not r) (signed r d false ts) false) (signed r d b ts)
signed r d b (token.Other ∷ ts) = false

-- ---- in a demand no '_' stands

abbrev pub unanchored_tokens : List Token → Bool
unanchored_tokens [] = true
unanchored_tokens (token.Anchor ∷ ts) = false
unanchored_tokens (token.Other ∷ ts) = false
unanchored_tokens (t ∷ ts) = unanchored_tokens ts

pub demand_signs : (ts : List Token) (d : ℕ) (b : Bool) → signed false d b ts ≡ unanchored_tokens ts
demand_signs [] d true = refl
demand_signs [] d false = refl
demand_signs (token.Point c ∷ ts) d b = demand_signs ts d b
demand_signs (token.Set n ∷ ts) d b = demand_signs ts d b
demand_signs (token.Any ∷ ts) d b = demand_signs ts d b
demand_signs (token.Start ∷ ts) d b = demand_signs ts d b
demand_signs (token.End ∷ ts) d b = demand_signs ts d b
demand_signs (token.Anchor ∷ ts) d b = refl
demand_signs (token.Open ∷ ts) d b = demand_signs ts (d + 1) b
demand_signs (token.Close ∷ ts) d b = demand_signs ts (d - 1) b
demand_signs (token.Optional ∷ ts) d b = demand_signs ts d b
demand_signs (token.Many ∷ ts) d b = demand_signs ts d b
demand_signs (token.Or ∷ ts) d true =
    ap (λ x. cond (d == 0) x (signed false d true ts)) (demand_signs ts d false) ∙ ap (cond (d == 0) (unanchored_tokens ts)) (demand_signs ts d true) ∙ same_if (d == 0) (unanchored_tokens ts)
  where
    same_if : (b x : Bool) → cond b x x ≡ x
    same_if true x = refl
    same_if false x = refl
demand_signs (token.Or ∷ ts) d false =
    ap (λ x. cond (d == 0) x (signed false d false ts)) (demand_signs ts d false) ∙ ap (cond (d == 0) (unanchored_tokens ts)) (demand_signs ts d false) ∙ same_if (d == 0) (unanchored_tokens ts)
  where
    same_if : (b x : Bool) → cond b x x ≡ x
    same_if true x = refl
    same_if false x = refl
demand_signs (token.Other ∷ ts) d b = refl

not_or : (a b c : Bool) → (not a && (not b && c)) ≡ (not (a || b) && c)
not_or true b c = refl
not_or false b c = refl

pub unanchored_pattern : (p : Pattern) (rest : List Token) → unanchored_tokens (tokens p ++ rest) ≡ (not (has sign.Anchor p) && unanchored_tokens rest)
unanchored_pattern (patterns.Point c) rest = refl
unanchored_pattern (patterns.Set n) rest = refl
unanchored_pattern patterns.Any rest = refl
unanchored_pattern patterns.Start rest = refl
unanchored_pattern patterns.End rest = refl
unanchored_pattern patterns.Anchor rest = refl
unanchored_pattern (patterns.Group p) rest = ap unanchored_tokens (append_assoc (tokens p) (token.Close ∷ []) rest) ∙ unanchored_pattern p (token.Close ∷ rest)
unanchored_pattern (patterns.Optional p) rest = ap unanchored_tokens (append_assoc (tokens p) (token.Optional ∷ []) rest) ∙ unanchored_pattern p (token.Optional ∷ rest)
unanchored_pattern (patterns.Many p) rest = ap unanchored_tokens (append_assoc (tokens p) (token.Many ∷ []) rest) ∙ unanchored_pattern p (token.Many ∷ rest)
unanchored_pattern (patterns.Then p q) rest =
    ap unanchored_tokens (append_assoc (tokens p) (tokens q) rest) ∙ unanchored_pattern p (tokens q ++ rest)
    ∙ ap (λ b. not (has sign.Anchor p) && b) (unanchored_pattern q rest) ∙ not_or (has sign.Anchor p) (has sign.Anchor q) (unanchored_tokens rest)
unanchored_pattern (patterns.Either p q) rest =
    ap unanchored_tokens (append_assoc (tokens p) (token.Or ∷ tokens q) rest) ∙ unanchored_pattern p (token.Or ∷ (tokens q ++ rest))
    ∙ ap (λ b. not (has sign.Anchor p) && b) (unanchored_pattern q rest) ∙ not_or (has sign.Anchor p) (has sign.Anchor q) (unanchored_tokens rest)

-- ---- in a rule each branch has one '_', with '^' before it and '$' after it

-- what may stand before '_', and after it
abbrev may : Bool → Pattern → Bool
may false p = is_before p
may true p = is_after p

may_two : (b : Bool) (p q : Pattern) (x : Bool) → (may b p && (may b q && x)) ≡ ((not (has sign.Anchor p || has sign.Anchor q) && not (has (cond b sign.Start sign.End) p || has (cond b sign.Start sign.End) q)) && x)
may_two true p q x = by (has sign.Anchor p) (has sign.Start p) (has sign.Anchor q) (has sign.Start q)
  where
    by : (a b c d : Bool) → ((not a && not b) && ((not c && not d) && x)) ≡ ((not (a || c) && not (b || d)) && x)
    by true b c d = refl
    by false true true d = refl
    by false true false d = refl
    by false false true d = refl
    by false false false d = refl
may_two false p q x = by (has sign.Anchor p) (has sign.End p) (has sign.Anchor q) (has sign.End q)
  where
    by : (a b c d : Bool) → ((not a && not b) && ((not c && not d) && x)) ≡ ((not (a || c) && not (b || d)) && x)
    by true b c d = refl
    by false true true d = refl
    by false true false d = refl
    by false false true d = refl
    by false false false d = refl

may_then : (b : Bool) (p q : Pattern) (x : Bool) → (may b p && (may b q && x)) ≡ (may b (patterns.Then p q) && x)
may_then true p q x = may_two true p q x
may_then false p q x = may_two false p q x

may_either : (b : Bool) (p q : Pattern) (x : Bool) → (may b p && (may b q && x)) ≡ (may b (patterns.Either p q) && x)
may_either true p q x = may_two true p q x
may_either false p q x = may_two false p q x

may_group : (b : Bool) (p : Pattern) → may b p ≡ may b (patterns.Group p)
may_group true p = refl
may_group false p = refl

may_optional : (b : Bool) (p : Pattern) → may b p ≡ may b (patterns.Optional p)
may_optional true p = refl
may_optional false p = refl

may_many : (b : Bool) (p : Pattern) → may b p ≡ may b (patterns.Many p)
may_many true p = refl
may_many false p = refl

into : (d : ℕ) → d + 1 ≡ suc d
into d = omega arith

pub out_of : (d : ℕ) → suc d - 1 ≡ d
out_of d = omega arith

-- within a group
within : (p : Pattern) (d : ℕ) (b : Bool) (rest : List Token) → signed true (suc d) b (tokens p ++ rest) ≡ (may b p && signed true (suc d) b rest)
within (patterns.Point c) d true rest = refl
within (patterns.Point c) d false rest = refl
within (patterns.Set n) d true rest = refl
within (patterns.Set n) d false rest = refl
within patterns.Any d true rest = refl
within patterns.Any d false rest = refl
within patterns.Start d true rest = refl
within patterns.Start d false rest = refl
within patterns.End d true rest = refl
within patterns.End d false rest = refl
within patterns.Anchor d true rest = ap (λ x. cond (x && false) (signed true (suc d) true rest) false) (suc_zero d)
within patterns.Anchor d false rest = ap (λ x. cond (x && true) (signed true (suc d) true rest) false) (suc_zero d)
within (patterns.Group p) d b rest =
    ap (signed true (suc d + 1) b) (append_assoc (tokens p) (token.Close ∷ []) rest) ∙ ap (λ n. signed true n b (tokens p ++ token.Close ∷ rest)) (into (suc d))
    ∙ within p (suc d) b (token.Close ∷ rest) ∙ ap (λ n. may b p && signed true n b rest) (out_of (suc d)) ∙ ap (λ x. x && signed true (suc d) b rest) (may_group b p)
within (patterns.Optional p) d b rest =
    ap (signed true (suc d) b) (append_assoc (tokens p) (token.Optional ∷ []) rest) ∙ within p d b (token.Optional ∷ rest) ∙ ap (λ x. x && signed true (suc d) b rest) (may_optional b p)
within (patterns.Many p) d b rest =
    ap (signed true (suc d) b) (append_assoc (tokens p) (token.Many ∷ []) rest) ∙ within p d b (token.Many ∷ rest) ∙ ap (λ x. x && signed true (suc d) b rest) (may_many b p)
within (patterns.Then p q) d b rest =
    ap (signed true (suc d) b) (append_assoc (tokens p) (tokens q) rest) ∙ within p d b (tokens q ++ rest)
    ∙ ap (λ x. may b p && x) (within q d b rest) ∙ may_then b p q (signed true (suc d) b rest)
within (patterns.Either p q) d b rest =
    ap (signed true (suc d) b) (append_assoc (tokens p) (token.Or ∷ tokens q) rest) ∙ within p d b (token.Or ∷ (tokens q ++ rest))
    ∙ ap (λ z. may b p && cond z (cond (b || false) (signed true (suc d) false (tokens q ++ rest)) false) (signed true (suc d) b (tokens q ++ rest))) (suc_zero d)
    ∙ ap (λ x. may b p && x) (within q d b rest) ∙ may_either b p q (signed true (suc d) b rest)

-- an item of a branch that is in no group: '_', or something else
abbrev item_leads : Bool → Pattern → List Token → Bool
item_leads b p rest = cond (is_anchor p) (not b && signed true 0 true rest) (may b p && signed true 0 b rest)

item_signs : (p : Pattern) (b : Bool) (rest : List Token) → Is Item p → signed true 0 b (tokens p ++ rest) ≡ item_leads b p rest
item_signs (patterns.Point c) true rest is = refl
item_signs (patterns.Point c) false rest is = refl
item_signs (patterns.Set n) true rest is = refl
item_signs (patterns.Set n) false rest is = refl
item_signs patterns.Any true rest is = refl
item_signs patterns.Any false rest is = refl
item_signs patterns.Start true rest is = refl
item_signs patterns.Start false rest is = refl
item_signs patterns.End true rest is = refl
item_signs patterns.End false rest is = refl
item_signs patterns.Anchor true rest is = refl
item_signs patterns.Anchor false rest is = refl
item_signs (patterns.Group p) b rest is =
    ap (signed true 1 b) (append_assoc (tokens p) (token.Close ∷ []) rest) ∙ within p 0 b (token.Close ∷ rest) ∙ ap (λ x. x && signed true 0 b rest) (may_group b p)
item_signs (patterns.Optional p) b rest is =
    ap (signed true 0 b) (append_assoc (tokens p) (token.Optional ∷ []) rest) ∙ item_signs p b (token.Optional ∷ rest) (item_is p is) ∙ by p is
  where
    by : (p : Pattern) → Is Atom p → item_leads b p (token.Optional ∷ rest) ≡ (may b (patterns.Optional p) && signed true 0 b rest)
    by (patterns.Point c) is = ap (λ x. x && signed true 0 b rest) (may_optional b (patterns.Point c))
    by (patterns.Set n) is = ap (λ x. x && signed true 0 b rest) (may_optional b (patterns.Set n))
    by patterns.Any is = ap (λ x. x && signed true 0 b rest) (may_optional b patterns.Any)
    by (patterns.Group q) is = ap (λ x. x && signed true 0 b rest) (may_optional b (patterns.Group q))
    by q is = absurd is
item_signs (patterns.Many p) b rest is =
    ap (signed true 0 b) (append_assoc (tokens p) (token.Many ∷ []) rest) ∙ item_signs p b (token.Many ∷ rest) (item_is p is) ∙ by p is
  where
    by : (p : Pattern) → Is Atom p → item_leads b p (token.Many ∷ rest) ≡ (may b (patterns.Many p) && signed true 0 b rest)
    by (patterns.Point c) is = ap (λ x. x && signed true 0 b rest) (may_many b (patterns.Point c))
    by (patterns.Set n) is = ap (λ x. x && signed true 0 b rest) (may_many b (patterns.Set n))
    by patterns.Any is = ap (λ x. x && signed true 0 b rest) (may_many b patterns.Any)
    by (patterns.Group q) is = ap (λ x. x && signed true 0 b rest) (may_many b (patterns.Group q))
    by q is = absurd is
item_signs (patterns.Then p q) b rest is = absurd is
item_signs (patterns.Either p q) b rest is = absurd is

-- after '_' an item is none
after_item : (p : Pattern) (rest : List Token) → item_leads true p rest ≡ (is_after p && signed true 0 true rest)
after_item (patterns.Point c) rest = refl
after_item (patterns.Set n) rest = refl
after_item patterns.Any rest = refl
after_item patterns.Start rest = refl
after_item patterns.End rest = refl
after_item patterns.Anchor rest = refl
after_item (patterns.Group p) rest = refl
after_item (patterns.Optional p) rest = refl
after_item (patterns.Many p) rest = refl
after_item (patterns.Then p q) rest = refl
after_item (patterns.Either p q) rest = refl

-- the items after '_'
branch_after : (p : Pattern) (rest : List Token) → Is Branch p → signed true 0 true (tokens p ++ rest) ≡ (is_after p && signed true 0 true rest)
branch_after (patterns.Then p q) rest is =
    ap (signed true 0 true) (append_assoc (tokens p) (tokens q) rest) ∙ item_signs p true (tokens q ++ rest) is.0 ∙ after_item p (tokens q ++ rest)
    ∙ ap (λ x. is_after p && x) (branch_after q rest is.1) ∙ may_then true p q (signed true 0 true rest)
branch_after (patterns.Either p q) rest is = absurd is
branch_after (patterns.Point c) rest is = item_signs (patterns.Point c) true rest is
branch_after (patterns.Set n) rest is = item_signs (patterns.Set n) true rest is
branch_after patterns.Any rest is = item_signs patterns.Any true rest is
branch_after patterns.Start rest is = item_signs patterns.Start true rest is
branch_after patterns.End rest is = item_signs patterns.End true rest is
branch_after patterns.Anchor rest is = item_signs patterns.Anchor true rest is
branch_after (patterns.Group p) rest is = item_signs (patterns.Group p) true rest is
branch_after (patterns.Optional p) rest is = item_signs (patterns.Optional p) true rest is
branch_after (patterns.Many p) rest is = item_signs (patterns.Many p) true rest is

and_assoc : (a b c : Bool) → (a && (b && c)) ≡ ((a && b) && c)
and_assoc true b c = refl
and_assoc false b c = refl

-- a whole branch; what follows it can't be read before '_'
branch_signs : (p : Pattern) (rest : List Token) → Is Branch p → signed true 0 false rest ≡ false → signed true 0 false (tokens p ++ rest) ≡ (is_context p && signed true 0 true rest)
branch_signs (patterns.Then p q) rest is none =
    ap (signed true 0 false) (append_assoc (tokens p) (tokens q) rest) ∙ item_signs p false (tokens q ++ rest) is.0 ∙ by (is_anchor p) (branch_signs q rest is.1 none)
  where
    by : (b : Bool) → signed true 0 false (tokens q ++ rest) ≡ (is_context q && signed true 0 true rest)
        → cond b (true && signed true 0 true (tokens q ++ rest)) (is_before p && signed true 0 false (tokens q ++ rest)) ≡ (cond b (is_after q) (is_before p && is_context q) && signed true 0 true rest)
    by true later = branch_after q rest is.1
    by false later = ap (λ x. is_before p && x) later ∙ and_assoc (is_before p) (is_context q) (signed true 0 true rest)
branch_signs (patterns.Either p q) rest is none = absurd is
branch_signs (patterns.Point c) rest is none = item_signs (patterns.Point c) false rest is ∙ none
branch_signs (patterns.Set n) rest is none = item_signs (patterns.Set n) false rest is ∙ none
branch_signs patterns.Any rest is none = item_signs patterns.Any false rest is ∙ none
branch_signs patterns.Start rest is none = item_signs patterns.Start false rest is ∙ none
branch_signs patterns.End rest is none = item_signs patterns.End false rest is
branch_signs patterns.Anchor rest is none = item_signs patterns.Anchor false rest is
branch_signs (patterns.Group p) rest is none = item_signs (patterns.Group p) false rest is ∙ ap (λ x. is_before p && x) none ∙ sym (and_false (is_before p))
branch_signs (patterns.Optional p) rest is none = item_signs (patterns.Optional p) false rest is ∙ ap (λ x. is_before p && x) none ∙ sym (and_false (is_before p))
branch_signs (patterns.Many p) rest is none = item_signs (patterns.Many p) false rest is ∙ ap (λ x. is_before p && x) none ∙ sym (and_false (is_before p))

rule_branch : (p : Pattern) → Is Branch p → is_context p ≡ is_rule p → signed true 0 false (tokens p) ≡ is_rule p
rule_branch p is same = ap (signed true 0 false) (sym (append-nil (tokens p))) ∙ branch_signs p [] is refl ∙ sym (and_true (is_context p)) ∙ same

pub rule_signs : (p : Pattern) → Is Whole p → signed true 0 false (tokens p) ≡ is_rule p
rule_signs (patterns.Either p q) is = branch_signs p (token.Or ∷ tokens q) is.0 refl ∙ ap (λ x. is_context p && x) (rule_signs q is.1)
rule_signs (patterns.Then p q) is = rule_branch (patterns.Then p q) is refl
rule_signs (patterns.Point c) is = rule_branch (patterns.Point c) is refl
rule_signs (patterns.Set n) is = rule_branch (patterns.Set n) is refl
rule_signs patterns.Any is = rule_branch patterns.Any is refl
rule_signs patterns.Start is = rule_branch patterns.Start is refl
rule_signs patterns.End is = rule_branch patterns.End is refl
rule_signs patterns.Anchor is = rule_branch patterns.Anchor is refl
rule_signs (patterns.Group p) is = rule_branch (patterns.Group p) is refl
rule_signs (patterns.Optional p) is = rule_branch (patterns.Optional p) is refl
rule_signs (patterns.Many p) is = rule_branch (patterns.Many p) is refl
