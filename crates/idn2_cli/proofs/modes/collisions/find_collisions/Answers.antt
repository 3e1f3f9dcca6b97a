use Rattle.std.proofs.Common.{◌≡◌, ◌≤◌, ◌<◌, ◌+◌, ◌∙◌, ℕ, zero, suc, List, [], ◌∷◌, Option, Some, None, IfSome, Bool, true, false, length, refl, sym, ap, subst, arith, length-append}
use Rattle.std.specs.Prelude.{slice_get}
use Rattle.std.specs.List.{filter}
use Rattle.std.proofs.lemmas.Option.{get_or_from_slice_get, slice_get_within}
use Rattle.std.proofs.lemmas.List.Elements.{All-push}
use Rattle.idn_class.specs.declared.properties.Properties.{Properties}
use Rattle.registered_labels.proofs.LabelLists.{short_at}
use Rattle.registered_labels.specs.Collisions.{Matching, collisions_ahead}
use Rattle.variant_table.specs.Entries.{TableValue}
use Rattle.idn2_options.specs.Settings.{Settings, IsCount}
use Rattle.answer_json.specs.declared.collision.Regards.{Regards}
use Rattle.idn2_answers.specs.Said as said
use Rattle.idn2_answers.specs.Listings.{is_registrable}
use Rattle.idn2_answers.specs.Collisions.{IsGood, is_found, is_itself_left_out, regards_of}
use Rattle.idn2_cli.specs.declared.modes.collisions.Collision.{Collision}
use Rattle.idn2_cli.specs.declared.modes.decided.Decisions.{Decisions}
use Rattle.idn2_cli.specs.inner.Decided.{IsOfPair}
use Rattle.idn2_cli.specs.inner.FoundLabels.{AreWithin, collision_line_by, found_block, lines_from}
use Rattle.idn2_cli.specs.inner.LineAnswers.{reaches}
use Rattle.idn2_cli.proofs.DecisionLemmas.{pair_of}
use Rattle.idn2_cli.proofs.CollisionSteps.{IsUnderWay, test-left_out, test-other, told-of, under_way-passed, under_way-found, under_way-reached, under_way-ended, said-found}
use Rattle.idn2_cli.proofs.modes.collisions.find_collisions.Goals as goal

-- a limit is not reached by nothing
not-yet : (limit : Option ℕ) → IfSome limit IsCount → reaches limit 0 ≡ false
not-yet None limits = refl
not-yet (Some zero) limits = absurd (omega (arith, limits.0))
not-yet (Some (suc n)) limits = grind arith

pub near-init : goal.near-init
near-init c =
    let none : c.new-found.result.items ≡ [] = c.new-found.ensures.items in
    let registered : List (List ℕ) = c.args.walk.now.registered in
    record {
      registered = refl;
      decides = c.requires.decides;
      pair = record { table_is = refl; label_is = refl };
      within = subst (AreWithin registered) (sym none) (λ k d l. absurd (omega (arith, l)));
      going = subst (λ (l : List Collision). reaches c.args.options.now.limit (length l) ≡ false) (sym none) (not-yet c.args.options.now.limit c.requires.limits.limit);
      under_way = subst (IsUnderWay c.args.options.now c.args.decisions.now.table.now c.args.decisions.now.label.now c.args.options.now.limit registered c.args.walk.now c.args.walk.now) (sym none) refl;
    }

pub regards-requires-clause-decides : goal.regards-requires-clause-decides
regards-requires-clause-decides c = c.near.invariant.decides

pub regards-requires-clause-short : goal.regards-requires-clause-short
regards-requires-clause-short c =
    let at = subst (λ (ls : List (List ℕ)). slice_get ls c.in-Some.number ≡ Some c.advance.new.self.label) c.near.invariant.registered c.in-Some.ensures.number in
    subst (λ (v : List ℕ). length v ≤ 63) (sym c.label-label.ensures)
    (short_at c.args.options.now.properties c.args.walk.now.registered c.in-Some.number c.advance.new.self.label c.requires.all at)

-- what is told of a registered label
told-here : (o : Settings) (properties : Properties) (table : TableValue) (label u v : List ℕ) (d : Decisions) (told : Regards) → IsOfPair table label d → u ≡ v → o.properties ≡ properties → IsGood o table label
    → (IsGood o d.table.now d.label.now → o.properties ≡ properties → told ≡ regards_of (is_registrable o.properties) d.table.now d.label.now u)
    → told ≡ regards_of (is_registrable o.properties) table label v
told-here o properties table label u v d told pair same by good from =
    let at : told ≡ regards_of (is_registrable o.properties) table label u = told-of o table label u d told (o.properties ≡ properties) pair from good by in
    at ∙ ap (regards_of (is_registrable o.properties) table label) same

-- whether it is left out
left-here : (o : Settings) (label asked v u : List ℕ) (left : Bool) → asked ≡ label → u ≡ v → is_itself_left_out o asked u ≡ left → is_itself_left_out o label v ≡ left
left-here o label asked v u left same at is = ap (λ (w : List ℕ). is_itself_left_out o label w) (sym at) ∙ ap (λ (w : List ℕ). is_itself_left_out o w u) (sym same) ∙ is

pub near-preserved-then-is_itself_left_out : goal.near-preserved-then-is_itself_left_out
near-preserved-then-is_itself_left_out c =
    let o : Settings = c.args.options.now in
    let table : TableValue = c.args.decisions.now.table.now in
    let label : List ℕ = c.args.decisions.now.label.now in
    let registered : List (List ℕ) = c.args.walk.now.registered in
    let next : Matching = c.advance.new.self in
    record {
      registered = c.in-Some.ensures.goes_on.registered ∙ c.near.invariant.registered;
      decides = c.near.invariant.decides;
      pair = c.near.invariant.pair;
      within = c.near.invariant.within;
      going = c.near.invariant.going;
      under_way =
          let left = left-here o label c.label-asked.result.now next.label c.label-label.result.now true c.label-asked.ensures c.label-label.ensures (sym c.is_itself_left_out.ensures ∙ c.if-is_itself_left_out.true) in
          under_way-passed o table label o.limit registered c.args.walk.now c.near.walk next c.near.found.items c.near.invariant.under_way c.in-Some.ensures.goes_on.found
          (test-left_out o table label next.label left);
    }

pub near-preserved-then-not-is_either : goal.near-preserved-then-not-is_either
near-preserved-then-not-is_either c =
    let o : Settings = c.args.options.now in
    let table : TableValue = c.args.decisions.now.table.now in
    let label : List ℕ = c.args.decisions.now.label.now in
    let registered : List (List ℕ) = c.args.walk.now.registered in
    let next : Matching = c.advance.new.self in
    let at = subst (λ (ls : List (List ℕ)). slice_get ls c.in-Some.number ≡ Some next.label) c.near.invariant.registered c.in-Some.ensures.number in
    record {
      registered = c.in-Some.ensures.goes_on.registered ∙ c.near.invariant.registered;
      decides = c.in_ok-regards.ensures.decides;
      pair = pair_of table label c.near.decisions c.regards.new.self c.near.invariant.pair c.in_ok-regards.ensures.pair;
      within = c.near.invariant.within;
      going = c.near.invariant.going;
      under_way =
          let kept = left-here o label c.label-asked.result.now next.label c.label-label.result.now false c.label-asked.ensures c.label-label.ensures (sym c.is_itself_left_out.ensures ∙ c.if-is_itself_left_out.false) in
          let told = told-here o c.options.inside.properties table label c.label-label.result.now next.label c.near.decisions c.in_ok-regards.regards c.near.invariant.pair c.label-label.ensures (ap (λ (s : Settings). s.properties) (sym c.options.view_is)) c.requires.good (c.in_ok-regards.ensures.regards o) in
          under_way-passed o table label c.args.options.now.limit registered c.args.walk.now c.near.walk next c.near.found.items c.near.invariant.under_way c.in-Some.ensures.goes_on.found
          (test-other o table label next.label c.in_ok-regards.regards kept told ∙ sym c.is_either.ensures ∙ c.if-not-is_either.true);
    }

pub returns-then-is_reached-clause-within : goal.returns-then-is_reached-clause-within
returns-then-is_reached-clause-within c =
    let registered : List (List ℕ) = c.args.walk.now.registered in
    let at = subst (λ (ls : List (List ℕ)). slice_get ls c.in-Some.number ≡ Some c.advance.new.self.label) c.near.invariant.registered c.in-Some.ensures.number in
    let one : Collision = record { number = c.in-Some.number; regards = c.in_ok-regards.regards } in
    subst (AreWithin registered) (sym c.in_ok-push.ensures.items)
    (All-push (λ (x : Collision). x.number < length registered) c.near.found.items one c.near.invariant.within (slice_get_within registered c.in-Some.number c.advance.new.self.label at))

pub returns-then-is_reached-clause-block : goal.returns-then-is_reached-clause-block
returns-then-is_reached-clause-block c =
    let o : Settings = c.args.options.now in
    let table : TableValue = c.args.decisions.now.table.now in
    let label : List ℕ = c.args.decisions.now.label.now in
    let registered : List (List ℕ) = c.args.walk.now.registered in
    let next : Matching = c.advance.new.self in
    let one : Collision = record { number = c.in-Some.number; regards = c.in_ok-regards.regards } in
    let at = subst (λ (ls : List (List ℕ)). slice_get ls c.in-Some.number ≡ Some next.label) c.near.invariant.registered c.in-Some.ensures.number in
    let kept = left-here o label c.label-asked.result.now next.label c.label-label.result.now false c.label-asked.ensures c.label-label.ensures (sym c.is_itself_left_out.ensures ∙ c.if-is_itself_left_out.false) in
    let told = told-here o c.options.inside.properties table label c.label-label.result.now next.label c.near.decisions c.in_ok-regards.regards c.near.invariant.pair c.label-label.ensures (ap (λ (s : Settings). s.properties) (sym c.options.view_is)) c.requires.good (c.in_ok-regards.ensures.regards o) in
    let count : c.len.result ≡ length c.near.found.items + 1 = omega (arith, c.len.ensures, c.push.new.self.ok, ap length c.in_ok-push.ensures.items, length-append c.near.found.items (one ∷ [])) in
    let reached : reaches c.args.options.now.limit (length c.near.found.items + 1) ≡ true = ap (reaches c.args.options.now.limit) (sym count) ∙ ap (λ (n : Option ℕ). reaches n c.len.result) (sym (ap (λ (s : Settings). s.limit) c.options.view_is)) ∙ sym c.is_reached.ensures ∙ c.if-is_reached.true in
    subst (λ (items : List Collision). found_block c.args.options.now.limit registered items ≡ lines_from (collision_line_by o table label) c.args.options.now.limit 0 (filter (is_found o table label) (collisions_ahead c.args.walk.now))) (sym c.in_ok-push.ensures.items)
    (under_way-reached o table label c.args.options.now.limit registered c.args.walk.now c.near.walk next c.near.found.items one c.near.invariant.under_way c.in-Some.ensures.goes_on.found
    (test-other o table label next.label c.in_ok-regards.regards kept told ∙ sym c.is_either.ensures ∙ c.if-not-is_either.false) (said-found o table label registered one next.label at (ap (λ (r : Regards). said.Collision r next.label) told))
    (get_or_from_slice_get registered c.in-Some.number next.label [] at) reached)

pub near-preserved : goal.near-preserved
near-preserved c =
    let o : Settings = c.args.options.now in
    let table : TableValue = c.args.decisions.now.table.now in
    let label : List ℕ = c.args.decisions.now.label.now in
    let registered : List (List ℕ) = c.args.walk.now.registered in
    let next : Matching = c.advance.new.self in
    let one : Collision = record { number = c.in-Some.number; regards = c.in_ok-regards.regards } in
    let at = subst (λ (ls : List (List ℕ)). slice_get ls c.in-Some.number ≡ Some next.label) c.near.invariant.registered c.in-Some.ensures.number in
    let items = c.in_ok-push.ensures.items in
    let count : c.len.result ≡ length c.near.found.items + 1 = omega (arith, c.len.ensures, c.push.new.self.ok, ap length items, length-append c.near.found.items (one ∷ [])) in
    let going : reaches c.args.options.now.limit (length c.near.found.items + 1) ≡ false = ap (reaches c.args.options.now.limit) (sym count) ∙ ap (λ (n : Option ℕ). reaches n c.len.result) (sym (ap (λ (s : Settings). s.limit) c.options.view_is)) ∙ sym c.is_reached.ensures ∙ c.if-is_reached.false in
    record {
      registered = c.in-Some.ensures.goes_on.registered ∙ c.near.invariant.registered;
      decides = c.in_ok-regards.ensures.decides;
      pair = pair_of table label c.near.decisions c.regards.new.self c.near.invariant.pair c.in_ok-regards.ensures.pair;
      within = subst (AreWithin registered) (sym items)
          (All-push (λ (x : Collision). x.number < length registered) c.near.found.items one c.near.invariant.within (slice_get_within registered c.in-Some.number next.label at));
      going = ap (λ (l : List Collision). reaches c.args.options.now.limit (length l)) items ∙ ap (reaches c.args.options.now.limit) (length-append c.near.found.items (one ∷ [])) ∙ going;
      under_way =
          let kept = left-here o label c.label-asked.result.now next.label c.label-label.result.now false c.label-asked.ensures c.label-label.ensures (sym c.is_itself_left_out.ensures ∙ c.if-is_itself_left_out.false) in
          let told = told-here o c.options.inside.properties table label c.label-label.result.now next.label c.near.decisions c.in_ok-regards.regards c.near.invariant.pair c.label-label.ensures (ap (λ (s : Settings). s.properties) (sym c.options.view_is)) c.requires.good (c.in_ok-regards.ensures.regards o) in
          subst (IsUnderWay o table label c.args.options.now.limit registered c.args.walk.now next) (sym items)
          (under_way-found o table label c.args.options.now.limit registered c.args.walk.now c.near.walk next c.near.found.items one c.near.invariant.under_way c.in-Some.ensures.goes_on.found
          (test-other o table label next.label c.in_ok-regards.regards kept told ∙ sym c.is_either.ensures ∙ c.if-not-is_either.false) (said-found o table label registered one next.label at (ap (λ (r : Regards). said.Collision r next.label) told)) going);
    }

pub returns-clause-block : goal.returns-clause-block
returns-clause-block c =
    under_way-ended c.args.options.now c.args.decisions.now.table.now c.args.decisions.now.label.now c.args.options.now.limit c.args.walk.now.registered c.args.walk.now c.near.walk c.near.found.items
    c.near.invariant.under_way c.in_default.ensures.goes_on.none c.near.invariant.going
