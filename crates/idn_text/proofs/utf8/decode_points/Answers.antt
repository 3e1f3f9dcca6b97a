use Rattle.std.proofs.Common.{List, ℕ, ◌∙◌, ◌∷◌, ◌++◌, [], ap, sym, subst, take, length, length-append, arith}
use Rattle.idn_text.specs.Points.{IsUtf8Of}
use Rattle.idn_text.proofs.Utf8Lemmas.{IsUtf8-from_points, utf8_nothing, utf8_character, utf8_all, utf8_refused}
use Rattle.idn_text.proofs.utf8.decode_points.Goals as goal

pub loop-at-init : goal.loop-at-init
loop-at-init c = record {
  within = omega arith;
  few = omega (arith, ap length c.clear.ensures);
  read = subst (λ (points : List ℕ). IsUtf8Of [] points) (sym c.clear.ensures) utf8_nothing;
}

pub loop-at-preserved : goal.loop-at-preserved
loop-at-preserved c =
    let i = c.loop-at.invariant in
    let bytes = c.args.bytes.now in
    let step = c.in-Some.ensures in
    let items = c.push.ensures.items ∙ ap (λ point. c.loop-at.points.items ++ point ∷ []) c.from.ensures in
    record {
      within = step.within;
      few = omega (arith, ap length items, length-append c.loop-at.points.items (c.in-Some.character ∷ []), i.few, step.further);
      read =
          subst (λ (points : List ℕ). IsUtf8Of (take c.in-Some.next bytes) points) (sym items)
          (utf8_character bytes c.loop-at.points.items c.loop-at.at c.in-Some.next c.in-Some.character i.read step.read step.scalar_value);
    }

pub returns-in_default-clause-refused : goal.returns-in_default-clause-refused
returns-in_default-clause-refused c list is =
    let bytes = c.args.bytes.now in
    utf8_refused bytes c.loop-at.points.items c.loop-at.at c.loop-at-test.true c.loop-at.invariant.read c.in_default.ensures.none (IsUtf8-from_points bytes list is)

pub returns-clause-decoded : goal.returns-clause-decoded
returns-clause-decoded c = utf8_all c.args.bytes.now _ c.loop-at.at (omega arith) c.loop-at.invariant.read
