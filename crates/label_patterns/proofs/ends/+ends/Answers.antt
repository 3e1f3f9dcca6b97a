use Rattle.std.proofs.Common.{◌≡◌, ℕ, true, sym, subst, arith}
use Rattle.std.specs.Prelude.{◌==◌}
use Rattle.label_patterns.specs.declared.pattern_tree.PatternTree.{PatternTree}
use Rattle.label_patterns.specs.Places.{AreEnds}
use Rattle.label_patterns.specs.Matches.{Matches}
use Rattle.label_patterns.specs.Trees.{pattern}
use Rattle.label_patterns.proofs.RoundLemmas.{none-reached, reached-more, rounds-ends, then-ends, either-ends, one-ends, AreParts}
use Rattle.label_patterns.proofs.ends.+ends.Goals as goal

pub loop-more-init : goal.loop-more-init
loop-more-init t c =
    let m : PatternTree → ℕ → ℕ → Type 0 = λ p. Matches c.args.seen.now (pattern p) in
    record {
      starts = λ p h. h;
      reached = none-reached (m c.in-Many.part.value) c.args.starts;
      ends = (
        c.ends-in-Many.result,
        subst (λ p. AreEnds (m p) c.args.starts c.ends-in-Many.result) c.deref-in-Many.ensures c.ends-in-Many.ensures,
        c.either-more.ensures.places,
      );
      more = c.either-more.ensures.more;
    }

pub loop-more-preserved : goal.loop-more-preserved
loop-more-preserved t c =
    let m : PatternTree → ℕ → ℕ → Type 0 = λ p. Matches c.args.seen.now (pattern p) in
    let before = c.loop-more.invariant in
    record {
      starts = λ p h. (before.ends.2 p).1 (before.starts p h);
      reached = reached-more (m c.in-Many.part.value) c.args.starts c.loop-more.found before.ends.0 c.loop-more.more before.reached before.ends.1 before.ends.2;
      ends = (
        c.ends-in-loop-more.result,
        subst (λ p. AreEnds (m p) c.loop-more.more c.ends-in-loop-more.result) c.deref-in-loop-more.ensures c.ends-in-loop-more.ensures,
        c.either-more-in-loop-more.ensures.places,
      );
      more = c.either-more-in-loop-more.ensures.more;
    }

pub returns-in-Group : goal.returns-in-Group
returns-in-Group t c =
    let m : PatternTree → ℕ → ℕ → Type 0 = λ p. Matches c.args.seen.now (pattern p) in
    subst (λ p. AreEnds (m p) c.args.starts c.ends.result) (sym c.in-Group.is)
    (subst (λ p. AreEnds (m p) c.args.starts c.ends.result) c.deref.ensures c.ends.ensures)

pub returns-in-Then : goal.returns-in-Then
returns-in-Then t c =
    let m : PatternTree → ℕ → ℕ → Type 0 = λ p. Matches c.args.seen.now (pattern p) in
    subst (λ p. AreEnds (m p) c.args.starts c.ends-in-Then-2.result) (sym c.in-Then.is)
    (then-ends (m c.in-Then.first.value) (m c.in-Then.rest.value) c.args.starts c.ends-in-Then.result c.ends-in-Then-2.result
    (subst (λ p. AreEnds (m p) c.args.starts c.ends-in-Then.result) c.deref-in-Then-2.ensures c.ends-in-Then.ensures)
    (subst (λ p. AreEnds (m p) c.ends-in-Then.result c.ends-in-Then-2.result) c.deref-in-Then.ensures c.ends-in-Then-2.ensures))

pub returns-in-Either : goal.returns-in-Either
returns-in-Either t c =
    let m : PatternTree → ℕ → ℕ → Type 0 = λ p. Matches c.args.seen.now (pattern p) in
    subst (λ p. AreEnds (m p) c.args.starts c.either-in-Either.result) (sym c.in-Either.is)
    (either-ends (m c.in-Either.left.value) (m c.in-Either.right.value) c.args.starts c.ends-in-Either.result c.ends-in-Either-2.result c.either-in-Either.result
    (subst (λ p. AreEnds (m p) c.args.starts c.ends-in-Either.result) c.deref-in-Either.ensures c.ends-in-Either.ensures)
    (subst (λ p. AreEnds (m p) c.args.starts c.ends-in-Either-2.result) c.deref-in-Either-2.ensures c.ends-in-Either-2.ensures)
    c.either-in-Either.ensures.places)

pub returns-after-loop-more : goal.returns-after-loop-more
returns-after-loop-more t c =
    let m : PatternTree → ℕ → ℕ → Type 0 = λ p. Matches c.args.seen.now (pattern p) in
    let kept = c.loop-more.invariant in
    let same : c.loop-more.more ≡ c.loop-more.found = omega (arith, c.loop-more-test.false) in
    subst (λ p. AreEnds (m p) c.args.starts c.loop-more.found) (sym c.in-Many.is)
    (rounds-ends (m c.in-Many.part.value) c.args.starts c.loop-more.found kept.ends.0 kept.starts kept.reached kept.ends.1
    (subst (AreParts c.loop-more.found kept.ends.0) same kept.ends.2))

pub returns-in-Point : goal.returns-in-Point
returns-in-Point t c =
    let m : PatternTree → ℕ → ℕ → Type 0 = λ p. Matches c.args.seen.now (pattern p) in
    subst (λ p. AreEnds (m p) c.args.starts c.after.result) (sym c.in-Point.is)
    (one-ends (λ d. d == c.in-Point.point) c.args.seen.now.label c.places_of_point.result c.args.starts c.after.result c.places_of_point.ensures.places c.after.ensures)

pub returns-in-Any : goal.returns-in-Any
returns-in-Any t c =
    let m : PatternTree → ℕ → ℕ → Type 0 = λ p. Matches c.args.seen.now (pattern p) in
    subst (λ p. AreEnds (m p) c.args.starts c.after-in-Any.result) (sym c.in-Any.is)
    (one-ends (λ d. true) c.args.seen.now.label c.places_of_all.result c.args.starts c.after-in-Any.result c.places_of_all.ensures.places c.after-in-Any.ensures)

pub returns-in-Start : goal.returns-in-Start
returns-in-Start t c =
    let m : PatternTree → ℕ → ℕ → Type 0 = λ p. Matches c.args.seen.now (pattern p) in
    subst (λ p. AreEnds (m p) c.args.starts c.only.result) (sym c.in-Start.is)
    c.only.ensures
