use Rattle.std.proofs.Common.{◌≡◌, Ok, Option, sym, ap, subst}
use Rattle.std.proofs.lemmas.Result.{err_from_is_err_and}
use Rattle.lgr_text.specs.declared.element.Element as held
use Rattle.lgr_text.specs.Elements
use Rattle.lgr_text.specs.Records.{Ruleset, file}
use Rattle.lgr_text.specs.inner.Reading.{IsFirst, NextIs, Reads, after_blanks}
use Rattle.lgr_text.specs.inner.Roots.{root_of}
use Rattle.lgr_text.proofs.PassLemmas.{next-fails}
use Rattle.lgr_text.proofs.documents.read_root.Goals as goal

pub returns-in_err-root : goal.returns-in_err-root
returns-in_err-root c = λ k say.
    let p = err_from_is_err_and c.from_residual.result c.from_residual.ensures.1 in
    rw (p.1, p.2) (next-fails (root_of (after_blanks k)) _ c.next.new.self (after_blanks k) (λ h. ap root_of h.is) ((c.in_err-root.ensures {u = tt}).next k say))

pub returns-in-None : goal.returns-in-None
returns-in-None c = λ k say.
    let next : after_blanks k ≡ Elements.Nothing = subst (λ (o : Option held.Element). NextIs c.next.new.self (after_blanks k) (Ok o)) c.in-None.is ((c.in_ok-root.ensures {u = tt}).next k say) in
    ap root_of next

pub returns-in-Some : goal.returns-in-Some
returns-in-Some c = λ k say.
    let e = c.in-Some.root in
    let next : IsFirst e c.next.new.self (after_blanks k) = subst (λ (o : Option held.Element). NextIs c.next.new.self (after_blanks k) (Ok o)) c.in-Some.is ((c.in_ok-root.ensures {u = tt}).next k say) in
    subst (λ (o : Option Ruleset). Reads file o c.read_alone.result) (ap root_of (sym next.is)) (c.read_alone.ensures next.within next.more next.holds next.follows)
