-- Sections and statements, one after the other.
use Rattle.std.proofs.Common.{◌≡◌, List, [], ◌∷◌, ◌++◌, Option, Some, None, refl, sym, ap, ◌∙◌, append_assoc}
use Rattle.std.specs.Prelude.{filter_map, option_map, option_and_then}
use Rattle.std.proofs.lemmas.List.{append-nil}
use Rattle.lgr_text.specs.Records.{Action, Definition, Ruleset}
use Rattle.lgr_text.specs.Sections.{Section, Meta, Data, Rules, ruleset_by}
use Rattle.lgr_text.specs.Statements as statements
use Rattle.lgr_text.specs.Statements.{Statement, Defines, Acts, acting, defined, rules_of, with_statement}
use Rattle.lgr_text.specs.inner.Stages.{Stage, AtStart, with_section, ruleset_at}

-- ---- sections

abbrev pub ruleset_from : Stage → List Section → Option Ruleset
ruleset_from s [] = ruleset_at s
ruleset_from s (x ∷ xs) = option_and_then (λ t. ruleset_from t xs) (with_section s x)

pub ruleset-steps : (s : Stage) (x : Section) (xs : List Section) → ruleset_from s (x ∷ xs) ≡ option_and_then (λ t. ruleset_from t xs) (with_section s x)
ruleset-steps s x xs = refl

pub ruleset-all : (xs : List Section) → ruleset_by xs ≡ ruleset_from AtStart xs
ruleset-all [] = refl
ruleset-all (Meta ∷ []) = refl
ruleset-all (Meta ∷ Meta ∷ xs) = refl
ruleset-all (Meta ∷ Rules r ∷ xs) = refl
ruleset-all (Meta ∷ Data es ∷ []) = refl
ruleset-all (Meta ∷ Data es ∷ Meta ∷ xs) = refl
ruleset-all (Meta ∷ Data es ∷ Data fs ∷ xs) = refl
ruleset-all (Meta ∷ Data es ∷ Rules r ∷ []) = refl
ruleset-all (Meta ∷ Data es ∷ Rules r ∷ x ∷ xs) = refl
ruleset-all (Rules r ∷ xs) = refl
ruleset-all (Data es ∷ []) = refl
ruleset-all (Data es ∷ Meta ∷ xs) = refl
ruleset-all (Data es ∷ Data fs ∷ xs) = refl
ruleset-all (Data es ∷ Rules r ∷ []) = refl
ruleset-all (Data es ∷ Rules r ∷ x ∷ xs) = refl

-- ---- statements

abbrev pub rules_from : statements.Rules → List Statement → Option statements.Rules
rules_from r [] = Some r
rules_from r (s ∷ ss) = rules_from (with_statement r s) ss

pub rules-steps : (r : statements.Rules) (s : Statement) (ss : List Statement) → rules_from r (s ∷ ss) ≡ option_and_then (λ t. rules_from t ss) (Some (with_statement r s))
rules-steps r s ss = refl

abbrev onto : statements.Rules → List Statement → statements.Rules
onto r ss = record {
  definitions = r.definitions ++ filter_map defined ss;
  actions = r.actions ++ filter_map acting ss;
}

alike : (ds es : List Definition) (acts others : List Action) → ds ≡ es → acts ≡ others
    → (let r : statements.Rules = record { definitions = ds; actions = acts } in r) ≡ record { definitions = es; actions = others }
alike ds es acts others d a =
    let with_definitions : List Definition → statements.Rules = λ l. record { definitions = l; actions = acts } in
    let with_actions : List Action → statements.Rules = λ l. record { definitions = es; actions = l } in
    ap with_definitions d ∙ ap with_actions a

from_onto : (ss : List Statement) (r : statements.Rules) → rules_from r ss ≡ Some (onto r ss)
from_onto [] r = ap Some (alike r.definitions (r.definitions ++ []) r.actions (r.actions ++ []) (sym (append-nil r.definitions)) (sym (append-nil r.actions)))
from_onto (Defines d ∷ ss) r =
    from_onto ss (with_statement r (Defines d))
    ∙ ap Some (alike ((r.definitions ++ d ∷ []) ++ filter_map defined ss) (r.definitions ++ d ∷ filter_map defined ss) (r.actions ++ filter_map acting ss) (r.actions ++ filter_map acting ss) (append_assoc r.definitions (d ∷ []) (filter_map defined ss)) refl)
from_onto (Acts a ∷ ss) r =
    from_onto ss (with_statement r (Acts a))
    ∙ ap Some (alike (r.definitions ++ filter_map defined ss) (r.definitions ++ filter_map defined ss) ((r.actions ++ a ∷ []) ++ filter_map acting ss) (r.actions ++ a ∷ filter_map acting ss) refl (append_assoc r.actions (a ∷ []) (filter_map acting ss)))

-- from no rules on
pub rules-all : (o : Option (List Statement)) → option_map rules_of o ≡ option_and_then (rules_from (rules_of [])) o
rules-all None = refl
rules-all (Some ss) = sym (from_onto ss (rules_of []))

pub sections-all : (o : Option (List Section)) → option_and_then ruleset_by o ≡ option_and_then (ruleset_from AtStart) o
sections-all None = refl
sections-all (Some xs) = ruleset-all xs
