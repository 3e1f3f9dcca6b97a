use Rattle.std.proofs.Common.{◌≡◌, Some, None, Ok, Option, sym, subst, arith}
use Rattle.std.specs.Prelude.{option_and_then}
use Rattle.std.proofs.lemmas.Result.{err_from_is_err_and}
use Rattle.lgr_text.specs.declared.element.Element as held
use Rattle.lgr_text.specs.Elements
use Rattle.lgr_text.specs.Elements.{each_element}
use Rattle.lgr_text.specs.Records.{Ruleset, file}
use Rattle.lgr_text.specs.Sections.{ruleset_by, section_of}
use Rattle.lgr_text.specs.inner.Reading.{IsFirst, NextIs, Reads, after_blanks, node}
use Rattle.lgr_text.specs.inner.Stages.{section, stage, with_section}
use Rattle.lgr_text.proofs.FoldLemmas.{fold-none, fold-first, fold-stops, fold-end, fold-text}
use Rattle.lgr_text.proofs.PassLemmas.{next-fails, fails-fails}
use Rattle.lgr_text.proofs.SectionLemmas.{ruleset_from, ruleset-steps, sections-all}
use Rattle.lgr_text.proofs.sections.read_sections.Goals as goal

pub returns-in_err-element : goal.returns-in_err-element
returns-in_err-element c = λ k say.
    let whole = option_and_then ruleset_by (each_element section_of k) in
    let f = c.loop-sections.invariant k say in
    let p = err_from_is_err_and c.from_residual.result c.from_residual.ensures.1 in
    rw (p.1, p.2) (next-fails whole _ c.next.new.self (after_blanks f.content)
    (λ h. fold-text section_of with_section ruleset_from ruleset-steps (stage c.loop-sections.sections) c.loop-sections.elements c.next.new.self whole f h)
    ((c.in_err-element.ensures {u = tt}).next f.content f.say))

pub loop-sections-init : goal.loop-sections-init
loop-sections-init c = λ k say. record { content = k; say = say; all = sections-all (each_element section_of k) }

pub returns-in_err-section : goal.returns-in_err-section
returns-in_err-section c = λ k say.
    let whole = option_and_then ruleset_by (each_element section_of k) in
    let f = c.loop-sections.invariant k say in
    let e = c.in-Some.element in
    let next : IsFirst e c.next.new.self (after_blanks f.content) = subst (λ (o : Option held.Element). NextIs c.next.new.self (after_blanks f.content) (Ok o)) c.in-Some.is ((c.in_ok-element.ensures {u = tt}).next f.content f.say) in
    let p = err_from_is_err_and c.from_residual-in_err-section.result c.from_residual-in_err-section.ensures.1 in
    rw (p.1, p.2) (fails-fails (section_of (node e next.within)) whole _
    (λ none. fold-none section_of with_section ruleset_from ruleset-steps (stage c.loop-sections.sections) c.loop-sections.elements c.next.new.self whole f e next none)
    (c.in_err-section.ensures {u = tt} next.within next.holds))

pub returns-in_err-sections : goal.returns-in_err-sections
returns-in_err-sections c = λ k say.
    let whole = option_and_then ruleset_by (each_element section_of k) in
    let f = c.loop-sections.invariant k say in
    let e = c.in-Some.element in
    let next : IsFirst e c.next.new.self (after_blanks f.content) = subst (λ (o : Option held.Element). NextIs c.next.new.self (after_blanks f.content) (Ok o)) c.in-Some.is ((c.in_ok-element.ensures {u = tt}).next f.content f.say) in
    let x = section c.in_ok-section.section in
    let read : section_of (node e next.within) ≡ Some x = c.in_ok-section.ensures {u = tt} next.within next.holds in
    let p = err_from_is_err_and c.from_residual-in_err-sections.result c.from_residual-in_err-sections.ensures.1 in
    rw (p.1, p.2) (fails-fails (with_section (stage c.loop-sections.sections) x) whole _
    (λ none. fold-stops section_of with_section ruleset_from ruleset-steps (stage c.loop-sections.sections) c.loop-sections.elements c.next.new.self whole f e next x read none)
    (c.in_err-sections.ensures {u = tt}))

pub loop-sections-preserved : goal.loop-sections-preserved
loop-sections-preserved c = λ k say.
    let whole = option_and_then ruleset_by (each_element section_of k) in
    let f = c.loop-sections.invariant k say in
    let e = c.in-Some.element in
    let next : IsFirst e c.next.new.self (after_blanks f.content) = subst (λ (o : Option held.Element). NextIs c.next.new.self (after_blanks f.content) (Ok o)) c.in-Some.is ((c.in_ok-element.ensures {u = tt}).next f.content f.say) in
    let x = section c.in_ok-section.section in
    let read : section_of (node e next.within) ≡ Some x = c.in_ok-section.ensures {u = tt} next.within next.holds in
    fold-first section_of with_section ruleset_from ruleset-steps (stage c.loop-sections.sections) c.loop-sections.elements c.next.new.self whole f e next x (stage c.in_ok-sections.sections) read (c.in_ok-sections.ensures {u = tt})

pub returns : goal.returns
returns c = λ k say.
    let whole = option_and_then ruleset_by (each_element section_of k) in
    let f = c.loop-sections.invariant k say in
    let is : c.in_ok-element.field-0 ≡ None = grind arith in
    let next : after_blanks f.content ≡ Elements.Nothing = subst (λ (o : Option held.Element). NextIs c.next.new.self (after_blanks f.content) (Ok o)) is ((c.in_ok-element.ensures {u = tt}).next f.content f.say) in
    subst (λ (o : Option Ruleset). Reads file o c.ruleset.result)
    (sym (fold-end section_of with_section ruleset_from ruleset-steps (stage c.loop-sections.sections) c.loop-sections.elements c.next.new.self whole f next)) c.ruleset.ensures
