use Rattle.std.proofs.Common.{List, ◌∷◌, [], ◌++◌, ◌||◌, refl, subst, sym, ap, ◌∙◌, arith}
use Rattle.label_patterns.specs.declared.span.Span.{Span}
use Rattle.label_patterns.specs.Sets.{is_in, is_in_span}
use Rattle.lgr_text.specs.CodePoints.{AreApart, IsSpan}
use Rattle.lgr_text.specs.inner.Stretches.{BeginUpTo}
use Rattle.lgr_text.proofs.SpanLemmas.{apart-last, apart-more, apart-widened, begin-last, begin-widened, in-widened, max-is-one}
use Rattle.lgr_text.proofs.code_points.append.Goals as goal

pub overflow_add-last : goal.overflow_add-last
overflow_add-last c =
    let last : IsSpan c.in-Some.last = apart-last c.pop.new.self.items c.in-Some.last 0 (subst AreApart c.in-Some.ensures.items c.requires.apart) in
    omega (arith, last.1)

pub returns-in_ok-push-3-clause-apart : goal.returns-in_ok-push-3-clause-apart
returns-in_ok-push-3-clause-apart c =
    let items = c.in_ok-push-3.ensures.items ∙ ap (λ l. l ++ c.args.span ∷ []) c.in_ok-push-2.ensures.items in
    subst AreApart (sym items)
    (apart-more c.pop.new.self.items c.in-Some.last c.args.span 0 c.if-last-span.true c.requires.span (subst AreApart c.in-Some.ensures.items c.requires.apart))

pub returns-in_ok-push-4-clause-apart : goal.returns-in_ok-push-4-clause-apart
returns-in_ok-push-4-clause-apart c =
    let before = subst AreApart c.in-Some.ensures.items c.requires.apart in
    let last : IsSpan c.in-Some.last = apart-last c.pop.new.self.items c.in-Some.last 0 before in
    let widened : Span = record { first = c.in-Some.last.first; last = c.max.result } in
    let span : IsSpan widened = (omega (arith, c.max.ensures, last.0), omega (arith, c.max.ensures, last.1, c.requires.span.1)) in
    subst AreApart (sym c.in_ok-push-4.ensures.items) (apart-widened c.pop.new.self.items c.in-Some.last widened 0 refl span before)

pub returns-in_ok-push-4-clause-order : goal.returns-in_ok-push-4-clause-order
returns-in_ok-push-4-clause-order c =
    let widened : Span = record { first = c.in-Some.last.first; last = c.max.result } in
    subst (BeginUpTo c.args.span.first) (sym {A = List Span} c.in_ok-push-4.ensures.items)
    (begin-widened c.pop.new.self.items c.in-Some.last widened c.args.span.first refl (subst (BeginUpTo c.args.span.first) c.in-Some.ensures.items c.requires.order))

pub returns-in_ok-push-4-clause-members : goal.returns-in_ok-push-4-clause-members
returns-in_ok-push-4-clause-members c = λ d.
    let last : IsSpan c.in-Some.last = apart-last c.pop.new.self.items c.in-Some.last 0 (subst AreApart c.in-Some.ensures.items c.requires.apart) in
    let begins = begin-last c.pop.new.self.items c.in-Some.last c.args.span.first (subst (BeginUpTo c.args.span.first) c.in-Some.ensures.items c.requires.order) in
    let widened : Span = record { first = c.in-Some.last.first; last = c.max.result } in
    ap (λ l. is_in l d) c.in_ok-push-4.ensures.items
    ∙ in-widened c.pop.new.self.items c.in-Some.last c.args.span widened d begins c.if-last-span.false last.0 refl
    (omega (arith, c.max.ensures)) (omega (arith, c.max.ensures)) (max-is-one c.in-Some.last.last c.args.span.last c.max.result c.max.ensures)
    ∙ ap (λ l. is_in l d || is_in_span d c.args.span) (sym c.in-Some.ensures.items)
