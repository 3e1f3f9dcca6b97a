use Rattle.std.proofs.Common.{rules, ◌≡◌, ◌+◌, ◌-◌, List, length, length-take, take, get_or, sym, subst, arith}
use Rattle.std.proofs.lemmas.List.{get_or-take}
use Rattle.idn_class.specs.declared.direction.Direction.TheVariants.{Ltr}
use Rattle.idn_class.specs.declared.known.Known.{Known}
use Rattle.idn_class.specs.Known.{IsKnown, AreKnown}
use Rattle.idn_class.proofs.KnownLemmas.{IsKnown-last}
use Rattle.idn_class.proofs.cached_prefixes.CachedPrefixes.last_known.Goals as goal

pub returns : goal.returns
returns c = λ properties label h.
    let none : Known = record { facts = record { absent = 0 }; direction = Ltr } in
    let all : List Known = c.self.inside.known in
    let len = c.self.inside.len in
    let size : length all ≡ 63 = search rules in
    let kept = subst (AreKnown properties label) (sym c.self.view_is) h in
    let count : length (take len all) ≡ (len - 1) + 1 = omega (arith, size, c.self.invariant, length-take len all, c.if-self-eq0.false) in
    let told = IsKnown-last properties label (take len all) (len - 1) none kept count in
    subst (λ (ks : List Known). IsKnown properties (take (length ks) label) (get_or all (len - 1) none)) c.self.view_is
    (subst (IsKnown properties (take (length (take len all)) label)) (get_or-take len all (len - 1) none (omega (arith, c.if-self-eq0.false))) told)
