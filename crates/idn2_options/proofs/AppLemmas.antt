-- The command is a simple one, with no rule between arguments, and its builder makes it so.
use Rattle.std.proofs.Common.{◌≡◌, List, [], ◌∷◌, ◌++◌, true, refl, ap, append_assoc, append-nil, subst, ◌∙◌, Result}
use Rattle.clap.specs.Words.{App, FailsBy, HasMatchesOf, Rule, Text, fault_of, found_of, is_simple, is_simple_and_free, matches_of, rows_of, with_rule}
use Rattle.clap.specs.declared.parser.matches.ArgMatches.{ArgMatches}
use Rattle.clap.specs.declared.error.Error.{Error}
use Rattle.clap.proofs.OnLiterals.{clap_on_literals}
use Rattle.idn2_options.specs.CommandLine.{app, with_rules}

is_simple-app : is_simple app ≡ true
unfolding app clap_on_literals
is_simple-app = refl

is_simple_and_free-app : is_simple_and_free app ≡ true
unfolding app clap_on_literals
is_simple_and_free-app = refl

-- the entries of a parse are those of the definition
pub rows_of-app : (a : App) (words : List Text) (m : ArgMatches) → a ≡ app → HasMatchesOf a words m
    → rows_of (found_of m) ≡ matches_of app words
rows_of-app a words m same has =
    (has (ap is_simple same ∙ is_simple-app)).0 ∙ ap (λ (x : App). matches_of x words) same

-- and so are the kinds of its error
pub FailsBy-app : {T : Type 0} (a : App) (words : List Text) (r : Result T Error) → a ≡ app
    → (is_simple_and_free a ≡ true → FailsBy (fault_of a words) r) → FailsBy (fault_of app words) r
FailsBy-app a words r same fails =
    let P : App → Type 0 = λ x. FailsBy (fault_of x words) r in
    subst P same (fails (ap is_simple_and_free same ∙ is_simple_and_free-app))

-- one more argument, and then others
pub with_rules-cons : (a : App) (rule : Rule) (others : List Rule) → with_rules (with_rule a rule) others ≡ with_rules a (rule ∷ others)
with_rules-cons a rule others = ap (λ all. record a { top = record a.top { rules = all } }) (append_assoc a.top.rules (rule ∷ []) others)

-- no further argument
pub with_rules-nil : (a : App) → with_rules a [] ≡ a
with_rules-nil a = ap (λ all. record a { top = record a.top { rules = all } }) (append-nil a.top.rules)

-- others, and then one more argument
pub with_rules-last : (a : App) (others : List Rule) (rule : Rule) → with_rule (with_rules a others) rule ≡ with_rules a (others ++ rule ∷ [])
with_rules-last a others rule = ap (λ all. record a { top = record a.top { rules = all } }) (append_assoc a.top.rules others (rule ∷ []))
