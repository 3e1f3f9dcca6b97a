-- The names of whole-label rules, one by one.
use Rattle.std.proofs.Common.{◌≡◌, ℕ, zero, suc, ◌+◌, ◌<◌, ◌≤◌, Bool, true, false, cond, ◌||◌, List, [], ◌∷◌, length, map, drop, get_or, refl, sym, ap, ◌∙◌, arith}
use Rattle.std.specs.Prelude.{bytes_eq}
use Rattle.std.proofs.lemmas.List.{drop_more, drop_all}
use Rattle.label_patterns.specs.declared.pattern_tree.PatternTree.{PatternTree}
use Rattle.label_patterns.specs.Rules.{is_context_rule}
use Rattle.label_patterns.specs.Trees.{pattern}
use Rattle.ruleset_text.specs.Definitions.{whole_names}
use Rattle.ruleset_text.specs.Names.{is_one_of}

get_or-any : (rules : List PatternTree) (i : ℕ) (r s : PatternTree) → i < length rules → get_or rules i r ≡ get_or rules i s
get_or-any [] i r s l = absurd (omega (arith, l))
get_or-any (t ∷ rules) zero r s l = refl
get_or-any (t ∷ rules) (suc i) r s l = get_or-any rules i r s (omega (arith, l))

-- a whole-label rule among the names and rules that are left has the name
abbrev pub has_whole : List (List ℕ) → List PatternTree → ℕ → List ℕ → Bool
has_whole names rules i name = is_one_of (whole_names (drop i names) (map pattern (drop i rules))) name

step : (names : List (List ℕ)) (rules : List PatternTree) (i : ℕ) (name other : List ℕ) (tree : PatternTree) → i < length names → i < length rules → other ≡ get_or names i other → tree ≡ get_or rules i tree
    → has_whole names rules i name ≡ cond (is_context_rule (pattern tree)) (has_whole names rules (i + 1) name) (bytes_eq other name || has_whole names rules (i + 1) name)
step names rules i name other tree l m e f =
    ap (λ ns. is_one_of (whole_names ns (map pattern (drop i rules))) name) (drop_more names i other l ∙ ap (λ n. n ∷ drop (i + 1) names) (sym e))
    ∙ ap (λ rs. is_one_of (whole_names (other ∷ drop (i + 1) names) (map pattern rs)) name) (drop_more rules i tree m ∙ ap (λ r. r ∷ drop (i + 1) rules) (sym f))
    ∙ by (is_context_rule (pattern tree))
  where
    by : (b : Bool) → is_one_of (cond b (whole_names (drop (i + 1) names) (map pattern (drop (i + 1) rules))) (other ∷ whole_names (drop (i + 1) names) (map pattern (drop (i + 1) rules)))) name
        ≡ cond b (has_whole names rules (i + 1) name) (bytes_eq other name || has_whole names rules (i + 1) name)
    by true = refl
    by false = refl

-- a rule of another name is passed over, and so is a context rule
pub whole-later : (names : List (List ℕ)) (rules : List PatternTree) (i : ℕ) (name other : List ℕ) → i < length names → i < length rules → other ≡ get_or names i other
    → (bytes_eq other name ≡ false) → has_whole names rules (i + 1) name ≡ has_whole names rules i name
whole-later names [] i name other l m e differs = absurd (omega (arith, m))
whole-later names (r ∷ rules) i name other l m e differs =
    let tree = get_or (r ∷ rules) i r in
    sym (step names (r ∷ rules) i name other tree l m e (get_or-any (r ∷ rules) i r tree m) ∙ by (is_context_rule (pattern tree)))
  where
    by : (b : Bool) → cond b (has_whole names (r ∷ rules) (i + 1) name) (bytes_eq other name || has_whole names (r ∷ rules) (i + 1) name) ≡ has_whole names (r ∷ rules) (i + 1) name
    by true = refl
    by false = ap (λ c. c || has_whole names (r ∷ rules) (i + 1) name) differs

pub whole-context : (names : List (List ℕ)) (rules : List PatternTree) (i : ℕ) (name other : List ℕ) (tree : PatternTree) → i < length names → i < length rules → other ≡ get_or names i other → tree ≡ get_or rules i tree
    → (is_context_rule (pattern tree) ≡ true) → has_whole names rules (i + 1) name ≡ has_whole names rules i name
whole-context names rules i name other tree l m e f context =
    sym (step names rules i name other tree l m e f ∙ ap (λ b. cond b (has_whole names rules (i + 1) name) (bytes_eq other name || has_whole names rules (i + 1) name)) context)

pub whole-here : (names : List (List ℕ)) (rules : List PatternTree) (i : ℕ) (name other : List ℕ) (tree : PatternTree) → i < length names → i < length rules → other ≡ get_or names i other → tree ≡ get_or rules i tree
    → (bytes_eq other name ≡ true) → (is_context_rule (pattern tree) ≡ false) → has_whole names rules i name ≡ true
whole-here names rules i name other tree l m e f same whole =
    step names rules i name other tree l m e f ∙ ap (λ b. cond b (has_whole names rules (i + 1) name) (bytes_eq other name || has_whole names rules (i + 1) name)) whole
    ∙ ap (λ c. c || has_whole names rules (i + 1) name) same

-- without names or without rules there is none
pub whole-none : (names : List (List ℕ)) (rules : List PatternTree) (i : ℕ) (name : List ℕ) → length rules ≤ i → has_whole names rules i name ≡ false
whole-none names rules i name few = ap (λ rs. is_one_of (whole_names (drop i names) (map pattern rs)) name) (drop_all i rules few) ∙ by (drop i names)
  where
    by : (ns : List (List ℕ)) → is_one_of (whole_names ns []) name ≡ false
    by [] = refl
    by (n ∷ ns) = refl

pub whole-end : (names : List (List ℕ)) (rules : List PatternTree) (i : ℕ) (name : List ℕ) → length names ≤ i → has_whole names rules i name ≡ false
whole-end names rules i name few = ap (λ ns. is_one_of (whole_names ns (map pattern (drop i rules))) name) (drop_all i names few)
