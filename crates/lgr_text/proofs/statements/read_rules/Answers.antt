use Rattle.std.proofs.Common.{◌≡◌, Some, None, Ok, Option, sym, ap, ◌∙◌, subst, arith}
use Rattle.std.specs.Prelude.{option_map, option_and_then}
use Rattle.std.proofs.lemmas.Result.{err_from_is_err_and}
use Rattle.lgr_text.specs.declared.element.Element as held
use Rattle.lgr_text.specs.Elements
use Rattle.lgr_text.specs.Elements.{each_element}
use Rattle.lgr_text.specs.Statements as statements
use Rattle.lgr_text.specs.Statements.{Statement, rules, rules_of, statement_of, with_statement}
use Rattle.lgr_text.specs.inner.Reading.{IsFirst, NextIs, after_blanks, node}
use Rattle.lgr_text.proofs.FoldLemmas.{fold-none, fold-first, fold-end, fold-text, mapped, unmapped}
use Rattle.lgr_text.proofs.PassLemmas.{next-fails, fails-fails}
use Rattle.lgr_text.proofs.SectionLemmas.{rules_from, rules-all, rules-steps}
use Rattle.lgr_text.proofs.statements.read_rules.Goals as goal

abbrev step : statements.Rules → Statement → Option statements.Rules
step r s = Some (with_statement r s)

pub loop-rules-init : goal.loop-rules-init
loop-rules-init c = λ k say. record {
  content = k;
  say = say;
  all = rules-all (each_element statement_of k) ∙ ap (λ r. option_and_then (rules_from r) (each_element statement_of k)) (sym c.none-rules.ensures);
}

pub returns-in_err-element : goal.returns-in_err-element
returns-in_err-element c = λ k say.
    let f = c.loop-rules.invariant k say in
    let p = err_from_is_err_and c.from_residual.result c.from_residual.ensures.1 in
    rw (p.1, p.2) (next-fails (option_map rules_of (each_element statement_of k)) _ c.next.new.self (after_blanks f.content)
    (λ h. fold-text statement_of step rules_from rules-steps (rules c.loop-rules.rules) c.loop-rules.elements c.next.new.self (option_map rules_of (each_element statement_of k)) f h)
    ((c.in_err-element.ensures {u = tt}).next f.content f.say))

pub returns-in_err-push : goal.returns-in_err-push
returns-in_err-push c = λ k say.
    let whole = option_map rules_of (each_element statement_of k) in
    let f = c.loop-rules.invariant k say in
    let e = c.in-Some.element in
    let next : IsFirst e c.next.new.self (after_blanks f.content) = subst (λ (o : Option held.Element). NextIs c.next.new.self (after_blanks f.content) (Ok o)) c.in-Some.is ((c.in_ok-element.ensures {u = tt}).next f.content f.say) in
    let said = statement_of (node e next.within) in
    let p = err_from_is_err_and c.from_residual-in_err-push.result c.from_residual-in_err-push.ensures.1 in
    rw (p.1, p.2) (fails-fails (option_map (with_statement (rules c.loop-rules.rules)) said) whole _
    (λ none. fold-none statement_of step rules_from rules-steps (rules c.loop-rules.rules) c.loop-rules.elements c.next.new.self whole f e next (unmapped (with_statement (rules c.loop-rules.rules)) said none))
    (c.in_err-push.ensures {u = tt} next.within next.holds))

pub loop-rules-preserved : goal.loop-rules-preserved
loop-rules-preserved c = λ k say.
    let whole = option_map rules_of (each_element statement_of k) in
    let f = c.loop-rules.invariant k say in
    let e = c.in-Some.element in
    let next : IsFirst e c.next.new.self (after_blanks f.content) = subst (λ (o : Option held.Element). NextIs c.next.new.self (after_blanks f.content) (Ok o)) c.in-Some.is ((c.in_ok-element.ensures {u = tt}).next f.content f.say) in
    let said = statement_of (node e next.within) in
    let one = mapped (with_statement (rules c.loop-rules.rules)) said (rules c.push.new.self) (c.in_ok-push.ensures {u = tt} next.within next.holds) in
    fold-first statement_of step rules_from rules-steps (rules c.loop-rules.rules) c.loop-rules.elements c.next.new.self whole f e next one.0 (rules c.push.new.self) one.1 (ap Some one.2)

pub returns : goal.returns
returns c = λ k say.
    let f = c.loop-rules.invariant k say in
    let is : c.in_ok-element.field-0 ≡ None = grind arith in
    let next : after_blanks f.content ≡ Elements.Nothing = subst (λ (o : Option held.Element). NextIs c.next.new.self (after_blanks f.content) (Ok o)) is ((c.in_ok-element.ensures {u = tt}).next f.content f.say) in
    fold-end statement_of step rules_from rules-steps (rules c.loop-rules.rules) c.loop-rules.elements c.next.new.self (option_map rules_of (each_element statement_of k)) f next
