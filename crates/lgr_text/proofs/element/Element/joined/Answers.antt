use Rattle.std.proofs.Common.{◌≡◌, [], ◌∷◌, ◌++◌, map, sym, ap, ◌∙◌}
use Rattle.std.proofs.lemmas.List.{map-append}
use Rattle.lgr_text.specs.Nested.{nested}
use Rattle.lgr_text.specs.Records.{Joined, class}
use Rattle.lgr_text.proofs.NestedLemmas.{nested-step}
use Rattle.lgr_text.proofs.element.Element.joined.Goals as goal

pub loop-set-preserved : goal.loop-set-preserved
loop-set-preserved c =
    let both = Joined c.args.operation in
    let before = map class c.pop-in-loop-set.new.self.items in
    let set = c.in-Some-pop.set in
    let sets : map class c.loop-set.sets.items ≡ before ++ class set ∷ [] =
    ap (map class) c.in-Some-pop.ensures.items ∙ map-append class c.pop-in-loop-set.new.self.items (set ∷ []) in
    ap (λ t. nested both (before ++ both (class t) (class c.in_ok-new-2.field-0.value) ∷ [])) c.in_ok-new.ensures.ok
    ∙ ap (λ t. nested both (before ++ both (class set) (class t) ∷ [])) c.in_ok-new-2.ensures.ok
    ∙ sym (nested-step both before (class set) (class c.loop-set.class))
    ∙ ap (λ l. nested both (l ++ class c.loop-set.class ∷ [])) (sym sets)
    ∙ c.loop-set.invariant
