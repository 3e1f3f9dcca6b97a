use Rattle.std.proofs.Common.{◌≡◌, ◌+◌, ◌∷◌, ◌++◌, ◌||◌, List, ℕ, Bool, true, false, [], take, set, length-set, refl, sym, ap, ap₂, subst, ◌∙◌, arith}
use Rattle.std.proofs.lemmas.List.{take_more_set}
use Rattle.std.proofs.lemmas.List.Folds.{list_any-append}
use Rattle.std.specs.List.{list_any}
use Rattle.idn_class.specs.Facts.{AreFactsOf, has_fact}
use Rattle.idn_text.specs.Points.{IsUtf8Of}
use Rattle.idn_text.proofs.Utf8Lemmas.{IsUtf8-from_points, utf8_nothing, utf8_character, utf8_all, utf8_refused}
use Rattle.idn_label.proofs.code_points.read_points.Goals as goal

or-none : (a b : Bool) → (a || (b || false)) ≡ (a || b)
or-none true b = refl
or-none false true = refl
or-none false false = refl

pub loop-at-init : goal.loop-at-init
loop-at-init c = record {
  within = omega arith;
  few = omega arith;
  wide = c.told-room;
  read = utf8_nothing;
  facts = c.none-facts.ensures;
}

pub loop-at-preserved : goal.loop-at-preserved
loop-at-preserved c =
    let i = c.loop-at.invariant in
    let step = c.in-Some.ensures in
    let point = c.in-Some.character in
    let room = c.loop-at.room in
    let count = c.loop-at.count in
    let more : take (count + 1) (set room count c.from-point.result) ≡ take count room ++ point ∷ [] =
    take_more_set room count c.from-point.result (omega (arith, i.wide, i.few, c.requires, c.loop-at-test.true)) ∙ ap (λ p. take count room ++ p ∷ []) c.from-point.ensures in
    record {
      within = step.within;
      few = omega (arith, i.few, step.further);
      wide = length-set room count c.from-point.result ∙ i.wide;
      read =
          subst (λ (points : List ℕ). IsUtf8Of (take c.in-Some.next c.args.label.now) points) (sym more)
          (utf8_character c.args.label.now (take count room) c.loop-at.at c.in-Some.next point i.read step.read step.scalar_value);
      facts =
          subst (λ (points : List ℕ). AreFactsOf c.joined-facts.result points) (sym more)
          (λ fact.
          c.joined-facts.ensures fact
          ∙ ap₂ (λ a b. a || b) (i.facts fact) (c.of.ensures fact ∙ ap (has_fact fact) c.from-point.ensures)
          ∙ sym (list_any-append (has_fact fact) (take count room) (point ∷ []) ∙ or-none (list_any (has_fact fact) (take count room)) (has_fact fact point)));
    }

pub returns-in_default-clause-refused : goal.returns-in_default-clause-refused
returns-in_default-clause-refused c list is =
    let label = c.args.label.now in
    let i = c.loop-at.invariant in
    utf8_refused label (take c.loop-at.count c.loop-at.room) c.loop-at.at c.loop-at-test.true i.read c.in_default.ensures.none (IsUtf8-from_points label list is)

pub returns-clause-points : goal.returns-clause-points
returns-clause-points c = utf8_all c.args.label.now _ c.loop-at.at (omega (arith, c.loop-at-test.false)) c.loop-at.invariant.read

pub returns-clause-facts : goal.returns-clause-facts
returns-clause-facts c = c.loop-at.invariant.facts
