-- What names after those of the sets leave as it was: the text of patterns whose sets are known.
use Rattle.std.proofs.Common.{◌≡◌, ℕ, ◌≤◌, true, List, [], ◌∷◌, ◌++◌, length, refl, ap, ◌∙◌, arith}
use Rattle.std.proofs.lemmas.Bool.{ltb-true, and_parts}
use Rattle.std.proofs.lemmas.List.{get_or_append_left}
use Rattle.label_patterns.specs.Patterns.{Pattern, Point, Set, Any, Start, End, Anchor, Group, Optional, Many, Then, Either}
use Rattle.label_patterns.specs.Matches.{HasItsSets}
use Rattle.label_patterns.specs.Rules.{is_context_rule}
use Rattle.ruleset_text.specs.Canonical.{pattern_text, definition_text, rule_word}
use Rattle.ruleset_text.specs.Definition as definition
use Rattle.ruleset_text.specs.Definition.{Definition}
use Rattle.ruleset_text.specs.Limits.{has_its_sets}

-- the test tells whether the sets are known
pub known_from : (n : ℕ) (p : Pattern) → has_its_sets n p ≡ true → HasItsSets n p
known_from n (Point c) e = tt
known_from n (Set m) e = ltb-true m n e
known_from n Any e = tt
known_from n Start e = tt
known_from n End e = tt
known_from n Anchor e = tt
known_from n (Group p) e = known_from n p e
known_from n (Optional p) e = known_from n p e
known_from n (Many p) e = known_from n p e
known_from n (Then p q) e = let parts = and_parts (has_its_sets n p) (has_its_sets n q) e in (known_from n p parts.0, known_from n q parts.1)
known_from n (Either p q) e = let parts = and_parts (has_its_sets n p) (has_its_sets n q) e in (known_from n p parts.0, known_from n q parts.1)

-- what is known among few is known among more
pub known_more : (m n : ℕ) (p : Pattern) → m ≤ n → HasItsSets m p → HasItsSets n p
known_more m n (Point c) l h = tt
known_more m n (Set k) l h = omega (arith, l, h)
known_more m n Any l h = tt
known_more m n Start l h = tt
known_more m n End l h = tt
known_more m n Anchor l h = tt
known_more m n (Group p) l h = known_more m n p l h
known_more m n (Optional p) l h = known_more m n p l h
known_more m n (Many p) l h = known_more m n p l h
known_more m n (Then p q) l h = (known_more m n p l h.0, known_more m n q l h.1)
known_more m n (Either p q) l h = (known_more m n p l h.0, known_more m n q l h.1)

pub pattern_text-more : (names more : List (List ℕ)) (p : Pattern) → HasItsSets (length names) p → pattern_text (names ++ more) p ≡ pattern_text names p
pattern_text-more names more (Point c) h = refl
pattern_text-more names more (Set n) h = ap (λ name. 64 ∷ name) (get_or_append_left names more [] n h)
pattern_text-more names more Any h = refl
pattern_text-more names more Start h = refl
pattern_text-more names more End h = refl
pattern_text-more names more Anchor h = refl
pattern_text-more names more (Group p) h = ap (λ t. 40 ∷ (t ++ 41 ∷ [])) (pattern_text-more names more p h)
pattern_text-more names more (Optional p) h = ap (λ t. t ++ 63 ∷ []) (pattern_text-more names more p h)
pattern_text-more names more (Many p) h = ap (λ t. t ++ 42 ∷ []) (pattern_text-more names more p h)
pattern_text-more names more (Then p q) h =
    ap (λ t. t ++ 32 ∷ pattern_text (names ++ more) q) (pattern_text-more names more p h.0)
    ∙ ap (λ t. pattern_text names p ++ 32 ∷ t) (pattern_text-more names more q h.1)
pattern_text-more names more (Either p q) h =
    ap (λ t. t ++ 32 ∷ 47 ∷ 32 ∷ pattern_text (names ++ more) q) (pattern_text-more names more p h.0)
    ∙ ap (λ t. pattern_text names p ++ 32 ∷ 47 ∷ 32 ∷ t) (pattern_text-more names more q h.1)

-- the pattern of a definition has sets that are known
abbrev pub KnowsSets : ℕ → Definition → Type 0
KnowsSets n (definition.VariantType name) = Unit {0}
KnowsSets n (definition.Set name spans) = Unit {0}
KnowsSets n (definition.Rule name contexts) = HasItsSets n contexts
KnowsSets n (definition.Demand kind p) = HasItsSets n p
KnowsSets n (definition.Action a) = Unit {0}

pub definition_text-more : (names more : List (List ℕ)) (x : Definition) → KnowsSets (length names) x → definition_text (names ++ more) x ≡ definition_text names x
definition_text-more names more (definition.VariantType name) h = refl
definition_text-more names more (definition.Set name spans) h = refl
definition_text-more names more (definition.Rule name contexts) h = ap (λ t. rule_word (is_context_rule contexts) ++ (name ++ 32 ∷ t)) (pattern_text-more names more contexts h)
definition_text-more names more (definition.Demand kind p) h = ap (λ t. definition.demand_word kind ++ 32 ∷ t) (pattern_text-more names more p h)
definition_text-more names more (definition.Action a) h = refl
