use Rattle.std.proofs.Common.{◌≡◌, ◌++◌, ◌∷◌, [], take, drop, sym, ap, subst, ◌∙◌}
use Rattle.std.proofs.lemmas.List.Elements.{All-contains}
use Rattle.std.specs.Prelude.{Contains}
use Rattle.std.specs.List.{filter}
use Rattle.idn_text.specs.Points.{AreScalarValues}
use Rattle.variant_list.specs.Jumps.{IsLeastFrom, HasNoneFrom, IsCandidate}
use Rattle.registered_labels.specs.Registered.{IsFirstFrom}
use Rattle.registered_labels.specs.Collisions.{is_spelled}
use Rattle.registered_labels.proofs.CollisionLemmas.{collisions-begun, collisions-none}
use Rattle.registered_labels.proofs.collisions.first_ahead.Goals as goal

pub first_from-requires-clause-scalar_values : goal.first_from-requires-clause-scalar_values
first_from-requires-clause-scalar_values c =
    let least : IsLeastFrom (IsCandidate (Contains c.args.cursor.now.net.spelled)) c.as_slice.result.now c.jump.new.self.last = c.in-Some.ensures.jumps.found in
    All-contains AreScalarValues c.args.cursor.now.net.spelled c.last.result.now c.requires (subst (Contains c.args.cursor.now.net.spelled) (sym c.last.ensures.value) (least.holds).spelled)

pub returns-in-Some-clause-ahead : goal.returns-in-Some-clause-ahead
returns-in-Some-clause-ahead c =
    let after = c.args.after.now in
    let spelled = c.args.cursor.now.net.spelled in
    let text : c.as_slice.result.now ≡ take 63 after ++ 0 ∷ [] = c.as_slice.ensures.value ∙ c.text_after-text.ensures in
    let least = subst (λ t. IsLeastFrom (IsCandidate (Contains spelled)) t c.jump.new.self.last) text c.in-Some.ensures.jumps.found in
    let first = subst (λ l. IsFirstFrom c.args.registered.now 0 l c.first_from.result) c.last.ensures.value c.first_from.ensures in
    (collisions-begun c.len-count.ensures.registered.0) spelled c.args.registered.now after c.len-count.ensures.registered.1 c.jump.new.self.last c.first_from.result least first

pub returns-in-None-clause-ahead : goal.returns-in-None-clause-ahead
returns-in-None-clause-ahead c =
    let after = c.args.after.now in
    let spelled = c.args.cursor.now.net.spelled in
    let text : c.as_slice.result.now ≡ take 63 after ++ 0 ∷ [] = c.as_slice.ensures.value ∙ c.text_after-text.ensures in
    let none = subst (HasNoneFrom (IsCandidate (Contains spelled))) text c.in-None.ensures.jumps.none in
    ap (λ n. filter (is_spelled spelled) (drop n c.args.registered.now)) c.len-count.ensures.count
    ∙ (collisions-none c.len-count.ensures.registered.0) spelled c.args.registered.now after c.len-count.ensures.registered.1 none
