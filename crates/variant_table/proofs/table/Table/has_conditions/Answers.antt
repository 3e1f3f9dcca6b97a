use Rattle.std.proofs.Common.{arith, ◌≡◌, false, List, [], ◌∷◌, Option, Some, None, length, not, eqb, ap, sym, subst, refl, ◌∙◌}
use Rattle.std.proofs.lemmas.Bool.{not-false, eqb-true}
use Rattle.label_patterns.specs.declared.condition.Condition.{Condition}
use Rattle.ruleset_text.specs.Definitions.{Definitions}
use Rattle.variant_table.specs.Entries.{TableValue}
use Rattle.variant_table.specs.WellFormed.{HasItsRule, IsTable}
use Rattle.variant_table.proofs.table.Table.has_conditions.Goals as goal

-- where no rule is defined there is no condition
without_rules : (d : Definitions) (c : Option Condition) → length d.rule_names ≡ 0 → HasItsRule d c → c ≡ None
without_rules d None none has = refl
without_rules d (Some c) none has = absurd (omega (arith, none, has))

none-there : {X : Type 0} (xs : List X) → length xs ≡ 0 → xs ≡ []
none-there [] none = refl
none-there (x ∷ xs) none = absurd (omega (arith, none))

pub returns : goal.returns
returns c =
    let t : IsTable c.args.self.now = subst IsTable c.self.view_is c.self.invariant in
    let same : c.rule_names.result.now ≡ c.args.self.now.definitions.rule_names = c.rule_names.ensures.is ∙ ap (λ (v : TableValue). v.definitions.rule_names) c.self.view_is in
    let empty : c.is_empty.result ≡ eqb (length c.args.self.now.definitions.rule_names) 0 = c.is_empty.ensures ∙ ap (λ names. eqb (length names) 0) same in
    let rules : not c.is_empty.result ≡ false → length c.args.self.now.definitions.rule_names ≡ 0 = λ no. eqb-true (length c.args.self.now.definitions.rule_names) 0 (sym empty ∙ not-false c.is_empty.result no) in
    record {
      rules = (λ no. none-there c.args.self.now.definitions.rule_names (rules no), λ none. ap not (empty ∙ ap (λ names. eqb (length names) 0) none));
      none = λ no k d l i r m. without_rules c.args.self.now.definitions _ (rules no) (t.named k d l i r m).condition;
    }
