use Rattle.std.proofs.Common.{◌≡◌, ◌++◌, ◌∷◌, List, ℕ, [], flat_map, append-nil, sym, ap, subst, ◌∙◌, arith}
use Rattle.std.proofs.lemmas.List.Concat.{flat_map-append}
use Rattle.idna.specs.Uts46.{map_char}
use Rattle.idn_text.proofs.Utf8Lemmas.{IsUtf8-from_points, points_from_utf8, utf8_nothing, utf8_character, utf8_all}
use Rattle.idn_label.specs.inner.SimpleNames.{AreAppended}
use Rattle.idn_label.proofs.SimplePoints.{appended_nothing, appended_more}
use Rattle.idn_label.proofs.query.simple.map_name.Goals as goal

pub loop-at-init : goal.loop-at-init
loop-at-init c = record {
  within = omega arith;
  points = [];
  utf8 = utf8_nothing;
  mapped = rw c.clear.ensures (appended_nothing c.none-facts.result [] c.none-facts.ensures);
}

pub loop-at-preserved : goal.loop-at-preserved
loop-at-preserved c =
    let i = c.loop-at.invariant in
    let step = c.in_ok-c.ensures in
    let point = c.in_ok-c.c in
    let mapped : flat_map map_char i.points ++ map_char point ≡ flat_map map_char (i.points ++ point ∷ []) =
    sym (flat_map-append map_char i.points (point ∷ []) ∙ ap (λ x. flat_map map_char i.points ++ x) (append-nil (map_char point))) in
    record {
      within = step.within;
      points = i.points ++ point ∷ [];
      utf8 = utf8_character c.args.name.now i.points c.loop-at.at c.in_ok-c.next point i.utf8 step.read step.scalar_value;
      mapped = subst (λ (points : List ℕ). AreAppended [] c.push_mapped.new.mapped.items points c.joined-facts.result) mapped (appended_more c.joined-facts.result i.mapped c.in_ok-push_mapped.ensures c.joined-facts.ensures);
    }

pub returns-clause-utf8 : goal.returns-clause-utf8
returns-clause-utf8 c = let i = c.loop-at.invariant in IsUtf8-from_points c.args.name.now i.points (utf8_all c.args.name.now i.points c.loop-at.at c.loop-at-test.false i.utf8)

pub returns-clause-mapped : goal.returns-clause-mapped
returns-clause-mapped c =
    let i = c.loop-at.invariant in
    rw (points_from_utf8 c.args.name.now i.points (utf8_all c.args.name.now i.points c.loop-at.at c.loop-at-test.false i.utf8)) i.mapped
