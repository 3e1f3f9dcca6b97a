use Rattle.std.proofs.Common.{true, false, ◌∷◌, List, ℕ, [], length, take, sym, ap, subst, ◌≡◌, ◌∙◌, eqb-true, length-append, arith}
use Rattle.idn_text.specs.Points.{IsUtf8Of}
use Rattle.idn_text.proofs.Utf8Lemmas.{points_from_utf8, utf8_character, utf8_all, utf8_refused}
use Rattle.idn_label.proofs.bidi_name.read_characters.Goals as goal

pub unreachable-requires : goal.unreachable-requires
unreachable-requires g c =
    let i = c.loop-at.invariant in
    utf8_refused c.args.label.now c.loop-at.room.items c.loop-at.at c.loop-at-test.true i.read c.in_default.ensures.none c.requires

pub loop-at-preserved : goal.loop-at-preserved
loop-at-preserved g c =
    let i = c.loop-at.invariant in
    let step = c.in-Some.ensures in
    let point = c.in-Some.c in
    let points = c.loop-at.room.items in
    record {
      within = step.within;
      few = omega (arith, i.few, step.further, ap length c.push.ensures.items, length-append points (point ∷ []));
      read =
          subst (λ (list : List ℕ). IsUtf8Of (take c.in-Some.next c.args.label.now) list) (sym c.push.ensures.items)
          (utf8_character c.args.label.now points c.loop-at.at c.in-Some.next point i.read step.read step.scalar_value);
    }

pub returns-then-is_full-clause-read : goal.returns-then-is_full-clause-read
returns-then-is_full-clause-read g c = λ clash. absurd (let no : false ≡ true = clash in cc)

pub returns-then-is_full-clause-fits : goal.returns-then-is_full-clause-fits
returns-then-is_full-clause-fits g c =
    λ wide.
    let full : length c.loop-at.room.items ≡ g.row.LEN = eqb-true (length c.loop-at.room.items) g.row.LEN (sym c.is_full.ensures.value ∙ c.if-is_full.true) in
    let within = c.loop-at-test.true in
    let few = c.loop-at.invariant.few in
    absurd (omega arith)

pub returns-clause-read : goal.returns-clause-read
returns-clause-read g c = λ _.
    sym (points_from_utf8 c.args.label.now c.loop-at.room.items (utf8_all c.args.label.now c.loop-at.room.items c.loop-at.at c.loop-at-test.false c.loop-at.invariant.read))
