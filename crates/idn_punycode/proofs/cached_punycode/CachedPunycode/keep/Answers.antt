use Rattle.std.proofs.Common.{◌≡◌, ◌≤◌, ℕ, length, length-take, take, sym, ap, ◌∙◌, subst, arith}
use Rattle.std.proofs.lemmas.List.{take-take}
use Rattle.idn_punycode.specs.Cached.{Cached, IsTakenApart}
use Rattle.idn_punycode.specs.inner.Keys.{HasKeys, HasPlaces}
use Rattle.idn_punycode.proofs.OrderSteps.{HasKeys-keep, HasPlaces-keep, HasKeys-same, HasPlaces-same}
use Rattle.idn_punycode.proofs.cached_punycode.CachedPunycode.keep.Goals as goal

pub returns-then-count-self-clause-apart : goal.returns-then-count-self-clause-apart
returns-then-count-self-clause-apart c = λ before label h same.
    let count = c.args.count in
    let apart = c.self.inside.apart in
    let was : IsTakenApart before (record { text = c.self.inside.digits.text; parts = c.self.inside.parts; apart = apart }) = subst (IsTakenApart before) (sym c.self.view_is) h in
    let few : count ≤ apart = omega (arith, c.if-count-self.true) in
    record {
      within = omega (arith, few, was.within, ap length same, length-take count before, length-take count label);
      keys = subst (λ ks. HasKeys label ks count) (sym c.keep_before.ensures.keys) (HasKeys-keep before label count apart same few c.self.invariant was.keys);
      places = subst (λ ps. HasPlaces label ps count) (sym c.keep_before.ensures.places) (HasPlaces-keep before label count apart same few was.places);
    }

pub returns-else-count-self-clause-apart : goal.returns-else-count-self-clause-apart
returns-else-count-self-clause-apart c = λ before label h same.
    let count = c.args.count in
    let apart : ℕ = c.args.self.now.apart in
    let few : apart ≤ count = omega (arith, c.if-count-self.false, ap (λ (k : Cached). k.apart) c.self.view_is) in
    let here : take apart before ≡ take apart label = sym (take-take apart count before few) ∙ ap (take apart) same ∙ take-take apart count label few in
    record {
      within = omega (arith, h.within, ap length here, length-take apart before, length-take apart label);
      keys = HasKeys-same before label apart here h.keys;
      places = HasPlaces-same before label apart here h.places;
    }
