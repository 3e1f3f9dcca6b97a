use Rattle.std.proofs.Common.{◌≡◌, ◌∷◌, [], List, None, Ok, Option, map, sym, ap, ◌∙◌, subst, arith}
use Rattle.std.proofs.lemmas.List.{map-append}
use Rattle.std.proofs.lemmas.Result.{err_from_is_err_and}
use Rattle.lgr_text.specs.declared.element.Element as held
use Rattle.lgr_text.specs.Elements
use Rattle.lgr_text.specs.Elements.{each_element}
use Rattle.lgr_text.specs.Entries.{entry_of}
use Rattle.lgr_text.specs.Records as records
use Rattle.lgr_text.specs.inner.Reading.{IsFirst, NextIs, after_blanks, node}
use Rattle.lgr_text.proofs.LoopLemmas.{Left, left-init, left-first, left-none, left-text}
use Rattle.lgr_text.proofs.PassLemmas.{next-fails, fails-fails}
use Rattle.lgr_text.proofs.entries.read_entries.Goals as goal

pub loop-entries-init : goal.loop-entries-init
loop-entries-init c = λ k say.
    subst (λ (l : List _). Left entry_of (map records.entry l) c.args.elements k) (sym c.new-entries.ensures.items) (left-init entry_of c.args.elements k say)

pub returns-in_err-element : goal.returns-in_err-element
returns-in_err-element c = λ k say.
    let l = c.loop-entries.invariant k say in
    let p = err_from_is_err_and c.from_residual.result c.from_residual.ensures.1 in
    rw (p.1, p.2) (next-fails (each_element entry_of k) _ c.next.new.self (after_blanks l.content)
    (λ h. left-text entry_of (map records.entry c.loop-entries.entries.items) c.loop-entries.elements c.next.new.self k l h) ((c.in_err-element.ensures {u = tt}).next l.content l.say))

pub returns-in_err-read_entry : goal.returns-in_err-read_entry
returns-in_err-read_entry c = λ k say.
    let l = c.loop-entries.invariant k say in
    let e = c.in-Some.element in
    let next : IsFirst e c.next.new.self (after_blanks l.content) = subst (λ (o : Option held.Element). NextIs c.next.new.self (after_blanks l.content) (Ok o)) c.in-Some.is ((c.in_ok-element.ensures {u = tt}).next l.content l.say) in
    let step = left-first entry_of (map records.entry c.loop-entries.entries.items) c.loop-entries.elements c.next.new.self k l e next in
    let p = err_from_is_err_and c.from_residual-in_err-read_entry.result c.from_residual-in_err-read_entry.ensures.1 in
    rw (p.1, p.2) (fails-fails (entry_of (node e step.0)) (each_element entry_of k) _ step.3 (c.in_err-read_entry.ensures {u = tt} step.0 step.1))

pub loop-entries-preserved : goal.loop-entries-preserved
loop-entries-preserved c = λ k say.
    let l = c.loop-entries.invariant k say in
    let e = c.in-Some.element in
    let next : IsFirst e c.next.new.self (after_blanks l.content) = subst (λ (o : Option held.Element). NextIs c.next.new.self (after_blanks l.content) (Ok o)) c.in-Some.is ((c.in_ok-element.ensures {u = tt}).next l.content l.say) in
    let step = left-first entry_of (map records.entry c.loop-entries.entries.items) c.loop-entries.elements c.next.new.self k l e next in
    let x = records.entry c.in_ok-read_entry.field-0 in
    let now = step.2 x (c.in_ok-read_entry.ensures {u = tt} step.0 step.1) in
    let pushed = (c.in_ok-push.ensures {u = tt}).items in
    let more = map-append records.entry c.loop-entries.entries.items (c.in_ok-read_entry.field-0 ∷ []) in
    subst (λ (vs : List records.Entry). Left entry_of vs c.next.new.self k) (sym (ap (map records.entry) pushed ∙ more)) now

pub returns : goal.returns
returns c = λ k say.
    let l = c.loop-entries.invariant k say in
    let is : c.in_ok-element.field-0 ≡ None = grind arith in
    let next : after_blanks l.content ≡ Elements.Nothing = subst (λ (o : Option held.Element). NextIs c.next.new.self (after_blanks l.content) (Ok o)) is ((c.in_ok-element.ensures {u = tt}).next l.content l.say) in
    left-none entry_of (map records.entry c.loop-entries.entries.items) c.loop-entries.elements c.next.new.self k l next
