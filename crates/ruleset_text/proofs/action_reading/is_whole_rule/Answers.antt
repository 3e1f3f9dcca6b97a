use Rattle.std.proofs.Common.{◌≡◌, true, false, sym, ap, ◌∙◌, arith}
use Rattle.std.specs.Prelude.{bytes_eq}
use Rattle.label_patterns.specs.Rules.{is_context_rule}
use Rattle.label_patterns.specs.Trees.{pattern}
use Rattle.ruleset_text.proofs.WholeRuleLemmas.{whole-context, whole-later, whole-none}
use Rattle.ruleset_text.proofs.action_reading.is_whole_rule.Goals as goal
use Rattle.ruleset_text.proofs.action_reading.is_whole_rule.Goals.{else-eq-via-then-eq+else-not-is_context_rule, else-eq-via-else-eq}

pub returns-then-number-rules : goal.returns-then-number-rules
returns-then-number-rules c =
    sym (whole-none c.args.earlier.rule_names.now c.args.earlier.rules.now c.loop-number.number c.args.name.now (omega (arith, c.if-number-rules.true))) ∙ c.loop-number.invariant

pub loop-number-preserved : goal.loop-number-preserved
loop-number-preserved c =
    let names = c.args.earlier.rule_names.now in
    let rules = c.args.earlier.rules.now in
    let i = c.loop-number.number in
    let name = c.args.name.now in
    let other = c.index-names-number.result in
    elim c.else-eq.branch [
      | else-eq-via-then-eq+else-not-is_context_rule w ↦
          let context : is_context_rule (pattern w.index-rules-number.result) ≡ true = sym w.is_context_rule.ensures ∙ w.if-not-is_context_rule.false in
          whole-context names rules i name other w.index-rules-number.result c.loop-number-test.true (omega (arith, c.if-number-rules.false)) c.index-names-number.is w.index-rules-number.is context ∙ c.loop-number.invariant
      | else-eq-via-else-eq w ↦
          let differs : bytes_eq other name ≡ false = ap (λ n. bytes_eq n name) (sym c.as_slice.ensures) ∙ sym c.eq.ensures ∙ w.if-eq.false in
          whole-later names rules i name other c.loop-number-test.true (omega (arith, c.if-number-rules.false)) c.index-names-number.is differs ∙ c.loop-number.invariant
    ]
