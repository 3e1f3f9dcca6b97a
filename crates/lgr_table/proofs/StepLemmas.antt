-- One definition more.
use Rattle.std.proofs.Common.{◌≡◌, ℕ, ◌+◌, ◌<◌, List, [], ◌∷◌, ◌++◌, map, length, take, get_or, Option, Some, None, sym, ap, subst, ◌∙◌, if◌then◌else◌, arith}
use Rattle.std.specs.Prelude.{Bool, true, false}
use Rattle.std.specs.List.{All}
use Rattle.std.proofs.lemmas.List.{get_or-map, length-map, map_more}
use Rattle.label_patterns.specs.declared.span.Span.{Span}
use Rattle.label_patterns.specs.Matches.{HasItsSets}
use Rattle.label_patterns.specs.Patterns.{Pattern}
use Rattle.label_patterns.specs.Rules.{is_context_rule}
use Rattle.lgr_text.specs.DefinitionOrder.{IsOrder}
use Rattle.lgr_text.specs.Known.{Known}
use Rattle.lgr_text.specs.PartAtoms.{fault_within}
use Rattle.lgr_text.specs.PartMatches.{part_fault, has_anchor, BeginsWith, MatchesAsPart, SaysRule}
use Rattle.lgr_text.specs.Records.{Definition, Entry, Part, definition, meaning}
use Rattle.lgr_text.specs.WellFormed.{IsWellFormedMeaning}
use Rattle.lgr_text.specs.declared.records.Definition.{Definition as Held}
use Rattle.lgr_text.specs.declared.rule_error.RuleFault.{RuleFault}
use Rattle.lgr_table.specs.inner.RuleSteps.{AddsMeaning, AddsPattern}
use Rattle.lgr_table.proofs.TakenLemmas.{AreTaken, IsNew, taken-more}
use Rattle.lgr_table.proofs.TakenOrderLemmas.{blank, chosen, is-new, within}

-- the definition of the number at this place
here : (raw : List Held) (order : List ℕ) (i : ℕ) (d : Held) → IsOrder raw order → i < length order → d ≡ get_or raw (get_or order i 0) d
    → get_or (map definition raw) (get_or order i 0) blank ≡ definition d
here raw order i d is less at =
    get_or-map definition raw (get_or order i 0) d blank (within raw order i is less) ∙ ap definition (sym at)

pub meaning-formed : (raw : List Held) (order : List ℕ) (i : ℕ) (d : Held) → IsOrder raw order → i < length order
    → d ≡ get_or raw (get_or order i 0) d → All (λ e. IsWellFormedMeaning e.meaning) (map definition raw) → IsWellFormedMeaning (meaning d.meaning)
meaning-formed raw order i d is less at all =
    subst (λ (e : Definition). IsWellFormedMeaning e.meaning) (here raw order i d is less at)
    (all (get_or order i 0) blank (let w = within raw order i is less in omega (arith, w, length-map raw definition)))

pub taken-step : (raw : List Held) (order : List ℕ) (i : ℕ) (d : Held) (entries : List Entry) (points : List Span) (known new : Known) (sets more : List (List Span))
    → IsOrder raw order → i < length order → d ≡ get_or raw (get_or order i 0) d
    → AreTaken entries points known sets (chosen (map definition raw) (take i order)) → AddsMeaning known sets d.name (meaning d.meaning) new more
    → AreTaken entries points new more (chosen (map definition raw) (take (i + 1) order))
taken-step raw order i d entries points known new sets more is less at taken adds =
    let ds = map definition raw in
    let f : ℕ → Definition = λ n. get_or ds n blank in
    let done = chosen ds (take i order) in
    let same = here raw order i d is less at in
    let fresh : IsNew done d.name = subst (λ (e : Definition). IsNew done e.name) same (is-new raw order i is less) in
    let next = map_more f order i 0 less ∙ ap (λ (e : Definition). done ++ e ∷ []) same in
    subst (AreTaken entries points new more) (sym next)
    (taken-more entries points known new sets more done d.name (meaning d.meaning) taken fresh adds)

-- ---- a rule

within-none : (b : Bool) (x : RuleFault) (o : Option RuleFault) → (if b then Some x else o) ≡ None → o ≡ None
within-none true x o e = absurd (cc)
within-none false x o e = e

-- by what is found, and the sets that are made
pub rule-adds : (known found : Known) (left : ℕ) (sets old made final : List (List Span)) (name : List ℕ) (rule : Part) (p : Pattern) (names : List (List ℕ)) (rules : List Pattern)
    → found ≡ known → old ≡ sets → final ≡ made → names ≡ known.rule_names ++ name ∷ [] → rules ≡ known.rules ++ p ∷ []
    → fault_within left found rule ≡ None → HasItsSets (length made) p → SaysRule found made p rule → MatchesAsPart found made p rule
    → is_context_rule p ≡ has_anchor found rule → BeginsWith made old → AddsPattern known sets name rule (record known { rule_names = names; rules = rules }) final
rule-adds known found left sets old made final name rule p names rules same before after all_names all_rules none has_sets says matches anchor begins = record {
  p = p;
  no_fault = subst (λ k. part_fault k rule ≡ None) same (within-none _ _ _ none);
  has_sets = subst (λ l. HasItsSets (length l) p) (sym after) has_sets;
  says = subst (λ k. SaysRule k final p rule) same (subst (λ l. SaysRule found l p rule) (sym after) says);
  matches = subst (λ k. MatchesAsPart k final p rule) same (subst (λ l. MatchesAsPart found l p rule) (sym after) matches);
  anchor = subst (λ k. is_context_rule p ≡ has_anchor k rule) same anchor;
  kept = subst (λ l. BeginsWith final l) before (subst (λ l. BeginsWith l old) (sym after) begins);
  is = ap (λ l. record known { rule_names = l; rules = rules }) all_names
      ∙ ap (λ l. record known { rule_names = known.rule_names ++ name ∷ []; rules = l }) all_rules;
}
