use Rattle.std.proofs.Common.{◌≡◌, ℕ, length, ap, ◌∙◌, arith, Vec, Global}
use Rattle.std.proofs.lemmas.List.{length-map}
use Rattle.variant_list.specs.Reversed.{sources_of}
use Rattle.variant_list.specs.inner.Turned.{sequences_of, groups_of}
use Rattle.variant_list.proofs.TurnedLemmas.{found_sources, sources-found}
use Rattle.variant_list.proofs.reversed.Reversed.sources.Goals as goal

pub returns-in-Some-clause-sources : goal.returns-in-Some-clause-sources
returns-in-Some-clause-sources c =
    ap sequences_of c.deref.ensures.value ∙ ap found_sources c.in-Some.ensures.value ∙ sources-found c.self.inside.sources.entries c.args.sequence.now ∙ ap (λ g. sources_of g c.args.sequence.now) c.self.view_is

pub returns-in-Some-clause-few : goal.returns-in-Some-clause-few
returns-in-Some-clause-few c =
    let listed : sequences_of c.deref.result.now ≡ sources_of (groups_of c.self.inside.sources.entries) c.args.sequence.now =
    ap sequences_of c.deref.ensures.value ∙ ap found_sources c.in-Some.ensures.value ∙ sources-found c.self.inside.sources.entries c.args.sequence.now in
    let few = c.self.invariant c.args.sequence.now in
    omega (arith, few, ap length listed, length-map c.deref.result.now (λ (v : Vec ℕ Global). v.items))

pub returns-in-None-clause-sources : goal.returns-in-None-clause-sources
returns-in-None-clause-sources c =
    ap found_sources c.in-None.ensures.value ∙ sources-found c.self.inside.sources.entries c.args.sequence.now ∙ ap (λ g. sources_of g c.args.sequence.now) c.self.view_is
