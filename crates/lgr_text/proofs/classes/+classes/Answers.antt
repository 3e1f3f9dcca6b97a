use Rattle.std.proofs.Common.{◌≡◌, ◌-◌, List, [], ◌∷◌, Some, None, Ok, Option, map, sym, ap, ◌∙◌, subst, arith}
use Rattle.std.specs.Prelude.{option_and_then}
use Rattle.std.proofs.lemmas.List.{map-append}
use Rattle.std.proofs.lemmas.Result.{err_from_is_err_and}
use Rattle.lgr_text.specs.declared.classes.ClassElement.{ClassElement}
use Rattle.lgr_text.specs.declared.classes.ClassElement.TheVariants as element
use Rattle.lgr_text.specs.declared.classes.ClassPlace.TheVariants.{InSet}
use Rattle.lgr_text.specs.declared.element.Element as held
use Rattle.lgr_text.specs.Classes.{class_as, class_element, class_of, joined, complement, referring, simple_class, sets_in}
use Rattle.lgr_text.specs.Elements
use Rattle.lgr_text.specs.Elements.{each_element}
use Rattle.lgr_text.specs.Records as records
use Rattle.lgr_text.specs.inner.Reading.{IsFirst, NextIs, Reads, after_blanks, node}
use Rattle.lgr_text.proofs.LevelLemmas.{class-none, class-some}
use Rattle.lgr_text.proofs.LoopLemmas.{Left, left-first, left-none, left-text}
use Rattle.lgr_text.proofs.PassLemmas.{next-fails, fails-fails}
use Rattle.lgr_text.proofs.classes.+classes.Goals as goal

pub read_sets-returns-in_err-element : goal.read_sets-returns-in_err-element
read_sets-returns-in_err-element t c = λ k say.
    let read = class_of c.args.levels InSet in
    let l = c.loop-sets.invariant k say in
    let p = err_from_is_err_and c.from_residual.result c.from_residual.ensures.1 in
    rw (p.1, p.2) (next-fails (each_element read k) _ c.next.new.self (after_blanks l.content)
    (λ h. left-text read (map records.class c.loop-sets.sets.items) c.loop-sets.elements c.next.new.self k l h) ((c.in_err-element.ensures {u = tt}).next l.content l.say))

pub read_sets-returns-in_err-read_class : goal.read_sets-returns-in_err-read_class
read_sets-returns-in_err-read_class t c = λ k say.
    let read = class_of c.args.levels InSet in
    let l = c.loop-sets.invariant k say in
    let e = c.in-Some.element in
    let next : IsFirst e c.next.new.self (after_blanks l.content) = subst (λ (o : Option held.Element). NextIs c.next.new.self (after_blanks l.content) (Ok o)) c.in-Some.is ((c.in_ok-element.ensures {u = tt}).next l.content l.say) in
    let step = left-first read (map records.class c.loop-sets.sets.items) c.loop-sets.elements c.next.new.self k l e next in
    let p = err_from_is_err_and c.from_residual-in_err-read_class.result c.from_residual-in_err-read_class.ensures.1 in
    rw (p.1, p.2) (fails-fails (read (node e step.0)) (each_element read k) _ step.3 (c.in_err-read_class.ensures {u = tt} step.0 step.1))

pub read_sets-loop-sets-preserved : goal.read_sets-loop-sets-preserved
read_sets-loop-sets-preserved t c = λ k say.
    let read = class_of c.args.levels InSet in
    let l = c.loop-sets.invariant k say in
    let e = c.in-Some.element in
    let next : IsFirst e c.next.new.self (after_blanks l.content) = subst (λ (o : Option held.Element). NextIs c.next.new.self (after_blanks l.content) (Ok o)) c.in-Some.is ((c.in_ok-element.ensures {u = tt}).next l.content l.say) in
    let step = left-first read (map records.class c.loop-sets.sets.items) c.loop-sets.elements c.next.new.self k l e next in
    let x = records.class c.in_ok-read_class.field-0 in
    let now = step.2 x (c.in_ok-read_class.ensures {u = tt} step.0 step.1) in
    let pushed = (c.in_ok-push.ensures {u = tt}).items in
    let more = map-append records.class c.loop-sets.sets.items (c.in_ok-read_class.field-0 ∷ []) in
    subst (λ (vs : List records.Class). Left read vs c.next.new.self k) (sym (ap (map records.class) pushed ∙ more)) now

pub read_sets-returns : goal.read_sets-returns
read_sets-returns t c = λ k say.
    let read = class_of c.args.levels InSet in
    let l = c.loop-sets.invariant k say in
    let is : c.in_ok-element.field-0 ≡ None = grind arith in
    let next : after_blanks l.content ≡ Elements.Nothing = subst (λ (o : Option held.Element). NextIs c.next.new.self (after_blanks l.content) (Ok o)) is ((c.in_ok-element.ensures {u = tt}).next l.content l.say) in
    left-none read (map records.class c.loop-sets.sets.items) c.loop-sets.elements c.next.new.self k l next

-- ---- a class

pub read_class-returns-then-levels-eq0 : goal.read_class-returns-then-levels-eq0
read_class-returns-then-levels-eq0 t c = λ k say.
    rw c.wrong.ensures (class-none c.args.levels c.args.place (node c.args.element.now k) (omega arith))

pub read_class-returns-in-None : goal.read_class-returns-in-None
read_class-returns-in-None t c = λ k say.
    let n = node c.args.element.now k in
    let sets = each_element (class_of (c.args.levels - 1) InSet) in
    let is : class_element n.name ≡ None = sym c.in-None.ensures in
    rw c.wrong-in-None.ensures (class-some c.args.levels c.args.place n (omega arith) ∙ ap (λ (e : Option ClassElement). class_as e sets c.args.place n) is)

pub read_class-returns-in-Some-Class : goal.read_class-returns-in-Some-Class
read_class-returns-in-Some-Class t c = λ k say.
    let n = node c.args.element.now k in
    let sets = each_element (class_of (c.args.levels - 1) InSet) in
    let is : class_element n.name ≡ Some element.Class = sym (rw c.in-Some-Class.field-0-is at c.in-Some-Class.ensures) in
    let said : class_of c.args.levels c.args.place n ≡ simple_class c.args.place n (referring c.args.place n.attributes) =
    class-some c.args.levels c.args.place n (omega arith) ∙ ap (λ (e : Option ClassElement). class_as e sets c.args.place n) is in
    subst (λ (o : Option records.Class). Reads records.class o c.simple_class.result) (sym said) (c.simple_class.ensures k say)

pub read_class-returns-in_err-sets-in-Some-Joined : goal.read_class-returns-in_err-sets-in-Some-Joined
read_class-returns-in_err-sets-in-Some-Joined t c = λ k say.
    let n = node c.args.element.now k in
    let sets = each_element (class_of (c.args.levels - 1) InSet) in
    let is : class_element n.name ≡ Some (element.Joined c.in-Some-Joined.operation) = sym (rw c.in-Some-Joined.field-0-is at c.in-Some-Joined.ensures) in
    let inside = sets_in sets c.args.place n in
    let said : class_of c.args.levels c.args.place n ≡ option_and_then (joined c.in-Some-Joined.operation) inside =
    class-some c.args.levels c.args.place n (omega arith) ∙ ap (λ (e : Option ClassElement). class_as e sets c.args.place n) is in
    let p = err_from_is_err_and c.from_residual.result c.from_residual.ensures.1 in
    rw (p.1, p.2) (fails-fails inside (class_of c.args.levels c.args.place n) _ (λ f. said ∙ ap (option_and_then (joined c.in-Some-Joined.operation)) f)
    (c.in_err-sets-in-Some-Joined.ensures {u = tt} k say))

pub read_class-returns-in_ok-sets-in-Some-Joined : goal.read_class-returns-in_ok-sets-in-Some-Joined
read_class-returns-in_ok-sets-in-Some-Joined t c = λ k say.
    let n = node c.args.element.now k in
    let sets = each_element (class_of (c.args.levels - 1) InSet) in
    let is : class_element n.name ≡ Some (element.Joined c.in-Some-Joined.operation) = sym (rw c.in-Some-Joined.field-0-is at c.in-Some-Joined.ensures) in
    let inside = sets_in sets c.args.place n in
    let said : class_of c.args.levels c.args.place n ≡ option_and_then (joined c.in-Some-Joined.operation) inside =
    class-some c.args.levels c.args.place n (omega arith) ∙ ap (λ (e : Option ClassElement). class_as e sets c.args.place n) is in
    let read : inside ≡ Some (map records.class c.in_ok-sets-in-Some-Joined.sets.items) = c.in_ok-sets-in-Some-Joined.ensures {u = tt} k say in
    subst (λ (o : Option records.Class). Reads records.class o c.joined.result) (sym (said ∙ ap (option_and_then (joined c.in-Some-Joined.operation)) read)) c.joined.ensures

pub read_class-returns-in_err-sets-in-Some-Complement : goal.read_class-returns-in_err-sets-in-Some-Complement
read_class-returns-in_err-sets-in-Some-Complement t c = λ k say.
    let n = node c.args.element.now k in
    let sets = each_element (class_of (c.args.levels - 1) InSet) in
    let is : class_element n.name ≡ Some element.Complement = sym (rw c.in-Some-Complement.field-0-is at c.in-Some-Complement.ensures) in
    let inside = sets_in sets c.args.place n in
    let said : class_of c.args.levels c.args.place n ≡ option_and_then (complement) inside =
    class-some c.args.levels c.args.place n (omega arith) ∙ ap (λ (e : Option ClassElement). class_as e sets c.args.place n) is in
    let p = err_from_is_err_and c.from_residual-in_err-sets-in-Some-Complement.result c.from_residual-in_err-sets-in-Some-Complement.ensures.1 in
    rw (p.1, p.2) (fails-fails inside (class_of c.args.levels c.args.place n) _ (λ f. said ∙ ap (option_and_then (complement)) f)
    (c.in_err-sets-in-Some-Complement.ensures {u = tt} k say))

pub read_class-returns-in_ok-sets-in-Some-Complement : goal.read_class-returns-in_ok-sets-in-Some-Complement
read_class-returns-in_ok-sets-in-Some-Complement t c = λ k say.
    let n = node c.args.element.now k in
    let sets = each_element (class_of (c.args.levels - 1) InSet) in
    let is : class_element n.name ≡ Some element.Complement = sym (rw c.in-Some-Complement.field-0-is at c.in-Some-Complement.ensures) in
    let inside = sets_in sets c.args.place n in
    let said : class_of c.args.levels c.args.place n ≡ option_and_then (complement) inside =
    class-some c.args.levels c.args.place n (omega arith) ∙ ap (λ (e : Option ClassElement). class_as e sets c.args.place n) is in
    let read : inside ≡ Some (map records.class c.in_ok-sets-in-Some-Complement.sets.items) = c.in_ok-sets-in-Some-Complement.ensures {u = tt} k say in
    subst (λ (o : Option records.Class). Reads records.class o c.complement.result) (sym (said ∙ ap (option_and_then (complement)) read)) c.complement.ensures
