use Rattle.std.proofs.Common.{◌≡◌, ℕ, ◌-◌, ◌≤◌, List, [], ◌∷◌, length, sym, ap, subst, ◌∙◌, arith}
use Rattle.std.specs.Prelude.{slice_index}
use Rattle.std.proofs.lemmas.List.{get_or_default}
use Rattle.variant_list.specs.declared.edges.Edge.{Edge}
use Rattle.variant_list.specs.inner.Plans.{Plan}
use Rattle.variant_list.specs.inner.Layouts.{Draft, IsSound, HasChain, HasTaken}
use Rattle.reading_kinds.specs.Readings.{Substitution}
use Rattle.variant_list.proofs.DraftLemmas.{HasTaken-chain}
use Rattle.variant_list.proofs.draft.NetDraft.add_substitution.Goals as goal

pub returns : goal.returns
returns c =
    let draft : Plan → List ℕ → List Edge → Draft = λ (p : Plan) (q : List ℕ) (r : List Edge). record { plan = p; places = q; begun = r } in
    let old : Draft = draft c.self.inside.layout c.self.inside.places.items c.self.inside.begun.items in
    let one : List Substitution = record { covers = c.args.found.covers; kinds = c.args.found.kinds; points = c.args.found.points.now } ∷ [] in
    let sound : IsSound old = subst IsSound (sym c.self.view_is) c.requires.sound in
    let within : c.args.found.covers ≤ length old.places = omega (arith, c.requires.within, ap (λ (d : Draft). length d.places) c.self.view_is) in
    let len : c.len.result ≡ length old.places = omega (arith, c.len.ensures) in
    let to : c.index-to.result.now ≡ slice_index old.places (length old.places - c.args.found.covers) =
    c.index-to.ensures ∙ get_or_default old.places (c.len.result - c.args.found.covers) c.index-to.result.now 0 (omega (arith, c.len.ensures, c.requires.some, within)) ∙ ap (λ n. slice_index old.places (n - c.args.found.covers)) len in
    let chain : HasChain old.plan c.args.found.points.now (slice_index old.places (length old.places - c.args.found.covers)) c.add_chain.new.self c.in_ok-edge.edge =
    subst (λ t. HasChain old.plan c.args.found.points.now t c.add_chain.new.self c.in_ok-edge.edge) to c.in_ok-edge.ensures in
    subst (λ d. HasTaken d one (draft c.add_chain.new.self old.places c.push.new.self.items)) c.self.view_is
    (subst (λ es. HasTaken old one (draft c.add_chain.new.self old.places es)) (sym c.in_ok-push.ensures.items)
    (HasTaken-chain old c.args.found.covers c.args.found.kinds c.args.found.points.now c.add_chain.new.self c.in_ok-edge.edge sound c.requires.some within chain))
