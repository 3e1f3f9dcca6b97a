-- What is known of all rules is known of one.
use Rattle.std.proofs.Common.{◌≡◌, ◌∙◌, ℕ, zero, suc, ◌<◌, ◌≤◌, List, [], ◌∷◌, length, get_or, map, refl, sym, ap, arith}
use Rattle.std.specs.List.{AllByRecursion}
use Rattle.label_patterns.specs.declared.pattern_tree.PatternTree.{PatternTree}
use Rattle.label_patterns.specs.Conditions.{rule_at}
use Rattle.label_patterns.specs.Patterns.{Pattern, Anchor, Group}
use Rattle.label_patterns.specs.Trees.{pattern}

pub mapped-at : (trees : List PatternTree) (n : ℕ) (d : PatternTree) → n < length trees → rule_at (map pattern trees) n ≡ pattern (get_or trees n d)
mapped-at [] n d l = absurd (omega (arith, l))
mapped-at (tree ∷ trees) zero d l = refl
mapped-at (tree ∷ trees) (suc n) d l = mapped-at trees n d (omega (arith, l))

-- the rule of a number, as it was read
pub rule-read : (trees : List PatternTree) (n : ℕ) (tree : PatternTree) → n < length trees → tree ≡ get_or trees n tree → rule_at (map pattern trees) n ≡ pattern tree
rule-read trees n tree l is = mapped-at trees n tree l ∙ ap pattern (sym is)

pub none-at : (trees : List PatternTree) (n : ℕ) → length trees ≤ n → rule_at (map pattern trees) n ≡ Group Anchor
none-at [] n l = refl
none-at (tree ∷ trees) zero l = absurd (omega (arith, l))
none-at (tree ∷ trees) (suc n) l = none-at trees n (omega (arith, l))

pub all-at : (P : Pattern → Type 0) (trees : List PatternTree) (n : ℕ) → AllByRecursion P (map pattern trees) → n < length trees → P (rule_at (map pattern trees) n)
all-at P [] n all l = absurd (omega (arith, l))
all-at P (tree ∷ trees) zero all l = all.0
all-at P (tree ∷ trees) (suc n) all l = all-at P trees n all.1 (omega (arith, l))
