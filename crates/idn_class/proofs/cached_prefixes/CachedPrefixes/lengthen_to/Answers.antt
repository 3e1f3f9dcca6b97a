use Rattle.std.proofs.Common.{rules, ◌≡◌, ◌+◌, ◌∷◌, [], ◌++◌, List, true, get_or, length, length-append, length-take, take, sym, ap, ◌∙◌, subst, arith}
use Rattle.std.proofs.lemmas.List.{take_all, take_more}
use Rattle.idn_class.specs.declared.direction.Direction.TheVariants.{Ltr}
use Rattle.idn_class.specs.declared.known.Known.{Known}
use Rattle.idn_class.specs.Known.{IsKnown, AreKnown}
use Rattle.idn_class.specs.Directions.{HasNone, breaks_at_first}
use Rattle.idn_class.proofs.KnownLemmas.{AreKnown-push, AreKnown-unbroken, IsShortest-next}
use Rattle.idn_class.proofs.cached_prefixes.CachedPrefixes.lengthen_to.Goals as goal

pub loop-index-init : goal.loop-index-init
loop-index-init c =
    let all : List Known = c.self.inside.known in
    let none : Known = record { facts = record { absent = 0 }; direction = Ltr } in
    let size : length all ≡ 63 = search rules in
    let count : length c.args.self.now ≡ c.self.inside.len = omega (arith, size, c.self.invariant, length-take c.self.inside.len all, ap length c.self.view_is) in
    record {
      count = count;
      known = c.requires.begun;
      unbroken = subst (λ n. HasNone (breaks_at_first c.args.properties) (take n c.args.label.now)) count (AreKnown-unbroken c.args.properties c.args.label.now c.args.self.now none c.requires.begun);
    }

pub returns-in-None-clause-breaking : goal.returns-in-None-clause-breaking
returns-in-None-clause-breaking c =
    let label = c.args.label.now in
    let at = c.loop-index.index in
    IsShortest-next c.args.properties label at c.loop-index-test.true c.loop-index.invariant.unbroken
    (subst (λ n. breaks_at_first c.args.properties (take n label ++ get_or label at 0 ∷ []) ≡ true) c.loop-index.invariant.count (c.in-None.ensures label c.loop-index.invariant.known))

pub loop-index-preserved : goal.loop-index-preserved
loop-index-preserved c =
    let label = c.args.label.now in
    let at = c.loop-index.index in
    let i = c.loop-index.invariant in
    let longer : take at label ++ get_or label at 0 ∷ [] ≡ take (at + 1) label = sym (take_more label at 0 c.loop-index-test.true) in
    let told : IsKnown c.args.properties (take (at + 1) label) c.in-Some.known =
    subst (λ w. IsKnown c.args.properties w c.in-Some.known) longer (subst (λ n. IsKnown c.args.properties (take n label ++ get_or label at 0 ∷ []) c.in-Some.known) i.count (c.in-Some.ensures label i.known)) in
    record {
      count = ap length c.push.ensures ∙ length-append c.loop-index.self (c.in-Some.known ∷ []) ∙ omega (arith, i.count);
      known = subst (AreKnown c.args.properties label) (sym c.push.ensures)
          (AreKnown-push c.args.properties label c.loop-index.self c.in-Some.known i.known (omega (arith, i.count, c.loop-index-test.true)) (subst (λ n. IsKnown c.args.properties (take (n + 1) label) c.in-Some.known) (sym i.count) told));
      unbroken = told.unbroken;
    }

pub returns-clause-breaking : goal.returns-clause-breaking
returns-clause-breaking c =
    subst (HasNone (breaks_at_first c.args.properties)) (take_all c.loop-index.index c.args.label.now c.loop-index-test.false) c.loop-index.invariant.unbroken
