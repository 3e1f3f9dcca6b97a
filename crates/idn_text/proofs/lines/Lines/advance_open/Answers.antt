use Rattle.std.proofs.Common.{◌≡◌, ◌≢◌, ◌++◌, ◌∙◌, ◌∷◌, [], ◌<◌, ◌^◌, cond, Ok, true, false, sym, ap, subst, refl, arith}
use Rattle.std.proofs.lemmas.Result.{err_from_is_err_and}
use Rattle.std.specs.Option.{option_map}
use Rattle.std.specs.Str.Lines.{strip_carriage_return}
use Rattle.idn_text.specs.inner.TakenLines.{kept}
use Rattle.idn_text.specs.Taking.{HasEnded}
use Rattle.idn_text.specs.Reading.{Reading, HasRead}
use Rattle.idn_text.specs.declared.lines.State.TheVariants.{Open, Ended}
use Rattle.idn_text.proofs.TakingLemmas.{stripped_kept}
use Rattle.idn_text.proofs.ReadingLemmas.{has_next, has_failed, has_too_many}
use Rattle.idn_text.proofs.lines.Lines.advance_open.Goals as goal
use Rattle.idn_text.proofs.lines.Lines.advance_open.Goals.{then-has_feed, else-has_feed, else-not-has_feed-via-then-not-has_feed+else-has_empty_line, else-not-has_feed-via-else-not-has_feed}

pub returns-in_err-has_feed-clause-lines : goal.returns-in_err-has_feed-clause-lines
returns-in_err-has_feed-clause-lines g c start given lines has =
    let p = err_from_is_err_and c.from_residual.result c.from_residual.ensures.1 in
    let before = subst (λ (r : Reading). HasRead start r given lines) (sym c.self.view_is) has in
    let is_open = subst (λ (r : Reading). r.state ≡ Open) (sym c.self.view_is) c.requires in
    let taken = c.in_err-has_feed.ensures.failed in
    rw p.1 (taken.0 ++ [], has_failed start _ _ given taken.0 lines before is_open taken.1 taken.2 refl refl)

pub returns-then-self-eq-LINE_LIMIT-clause-lines : goal.returns-then-self-eq-LINE_LIMIT-clause-lines
returns-then-self-eq-LINE_LIMIT-clause-lines g c start given lines has =
    let before = subst (λ (r : Reading). HasRead start r given lines) (sym c.self.view_is) has in
    let is_open = subst (λ (r : Reading). r.state ≡ Open) (sym c.self.view_is) c.requires in
    let taken = c.in_ok-has_feed.ensures.line in
    let some : c.in_ok-has_feed.has_feed ≡ false → taken.0 ≢ [] = λ h e.
    elim c.else-not-has_feed.branch [
      | else-not-has_feed-via-then-not-has_feed+else-has_empty_line w ↦ cc (w.has_empty_line.ensures.1 (taken.1 ∙ ap kept e), w.if-has_empty_line.false)
      | else-not-has_feed-via-else-not-has_feed w ↦ cc (h, w.if-not-has_feed.false)
    ] in
    (taken.0 ++ cond c.in_ok-has_feed.has_feed (10 ∷ []) [], has_too_many start _ _ given taken.0 lines c.in_ok-has_feed.has_feed before is_open taken.2 c.in_ok-has_feed.ensures.no_fault some c.if-self-eq-LINE_LIMIT.true refl refl)

pub returns-clause-lines : goal.returns-clause-lines
returns-clause-lines g c start given lines has =
    let before = subst (λ (r : Reading). HasRead start r given lines) (sym c.self.view_is) has in
    let is_open = subst (λ (r : Reading). r.state ≡ Open) (sym c.self.view_is) c.requires in
    let taken = c.in_ok-has_feed.ensures.line in
    let body = ap (option_map strip_carriage_return) taken.1 ∙ stripped_kept taken.0 in
    let few : c.self.inside.number < 2 ^ 32 = omega arith in
    let then_opens : c.in_ok-has_feed.has_feed ≡ true → c.if-has_feed.self ≡ Open =
    elim c.if-has_feed.branch [ then-has_feed w ↦ λ _. w.self-is | else-has_feed w ↦ λ h. (cc (h, w.if-has_feed.false)) ] in
    let some : c.in_ok-has_feed.has_feed ≡ false → taken.0 ≢ [] = λ h e.
    elim c.else-not-has_feed.branch [
      | else-not-has_feed-via-then-not-has_feed+else-has_empty_line w ↦ cc (w.has_empty_line.ensures.1 (taken.1 ∙ ap kept e), w.if-has_empty_line.false)
      | else-not-has_feed-via-else-not-has_feed w ↦ cc (h, w.if-not-has_feed.false)
    ] in
    let then_ended : c.in_ok-has_feed.has_feed ≡ false → (c.if-has_feed.self ≡ Ended) × (taken.0 ≢ []) × HasEnded c.take_line.new.self =
    elim c.if-has_feed.branch [ then-has_feed w ↦ λ h. (cc (h, w.if-has_feed.true)) | else-has_feed w ↦ λ h. (w.self-is, some h, c.in_ok-has_feed.ensures.ended (ap Ok h)) ] in
    (taken.0 ++ cond c.in_ok-has_feed.has_feed (10 ∷ []) [], has_next start _ _ given taken.0 lines _ c.in_ok-has_feed.has_feed before is_open taken.2 c.in_ok-has_feed.ensures.no_fault few refl then_opens then_ended body)
