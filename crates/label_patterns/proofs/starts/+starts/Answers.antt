use Rattle.std.proofs.Common.{◌≡◌, ℕ, [], true, length, sym, subst, arith}
use Rattle.std.specs.Prelude.{slice_index_or}
use Rattle.label_patterns.specs.declared.pattern_tree.PatternTree.{PatternTree}
use Rattle.label_patterns.specs.Places.{AreEnds, AreStarts}
use Rattle.label_patterns.specs.Matches.{Matches, MatchesAt}
use Rattle.label_patterns.specs.Sets.{is_in}
use Rattle.label_patterns.specs.Trees.{pattern}
use Rattle.label_patterns.proofs.RoundLemmas.{none-left, left-more, rounds-starts, then-starts, either-starts, optional-starts, one-starts, only-starts, AreParts}
use Rattle.label_patterns.proofs.starts.+starts.Goals as goal

pub loop-more-init : goal.loop-more-init
loop-more-init t c =
    let m : PatternTree → ℕ → ℕ → Type 0 = λ p. Matches c.args.seen.now (pattern p) in
    record {
      stops = λ p h. h;
      reached = none-left (m c.in-Many.part.value) c.args.stops;
      ends = (
        c.starts-in-Many.result,
        subst (λ p. AreStarts (m p) c.args.stops c.starts-in-Many.result) c.deref-in-Many.ensures c.starts-in-Many.ensures,
        c.either-more.ensures.places,
      );
      more = c.either-more.ensures.more;
    }

pub loop-more-preserved : goal.loop-more-preserved
loop-more-preserved t c =
    let m : PatternTree → ℕ → ℕ → Type 0 = λ p. Matches c.args.seen.now (pattern p) in
    let before = c.loop-more.invariant in
    record {
      stops = λ p h. (before.ends.2 p).1 (before.stops p h);
      reached = left-more (m c.in-Many.part.value) c.args.stops c.loop-more.found before.ends.0 c.loop-more.more before.reached before.ends.1 before.ends.2;
      ends = (
        c.starts-in-loop-more.result,
        subst (λ p. AreStarts (m p) c.loop-more.more c.starts-in-loop-more.result) c.deref-in-loop-more.ensures c.starts-in-loop-more.ensures,
        c.either-more-in-loop-more.ensures.places,
      );
      more = c.either-more-in-loop-more.ensures.more;
    }

pub returns-in-Group : goal.returns-in-Group
returns-in-Group t c =
    let m : PatternTree → ℕ → ℕ → Type 0 = λ p. Matches c.args.seen.now (pattern p) in
    subst (λ p. AreStarts (m p) c.args.stops c.starts.result) (sym c.in-Group.is)
    (subst (λ p. AreStarts (m p) c.args.stops c.starts.result) c.deref.ensures c.starts.ensures)

pub returns-in-Then : goal.returns-in-Then
returns-in-Then t c =
    let m : PatternTree → ℕ → ℕ → Type 0 = λ p. Matches c.args.seen.now (pattern p) in
    subst (λ p. AreStarts (m p) c.args.stops c.starts-in-Then-2.result) (sym c.in-Then.is)
    (then-starts (m c.in-Then.first.value) (m c.in-Then.rest.value) c.args.stops c.starts-in-Then.result c.starts-in-Then-2.result
    (subst (λ p. AreStarts (m p) c.args.stops c.starts-in-Then.result) c.deref-in-Then-2.ensures c.starts-in-Then.ensures)
    (subst (λ p. AreStarts (m p) c.starts-in-Then.result c.starts-in-Then-2.result) c.deref-in-Then.ensures c.starts-in-Then-2.ensures))

pub returns-in-Either : goal.returns-in-Either
returns-in-Either t c =
    let m : PatternTree → ℕ → ℕ → Type 0 = λ p. Matches c.args.seen.now (pattern p) in
    subst (λ p. AreStarts (m p) c.args.stops c.either-in-Either.result) (sym c.in-Either.is)
    (either-starts (m c.in-Either.left.value) (m c.in-Either.right.value) c.args.stops c.starts-in-Either.result c.starts-in-Either-2.result c.either-in-Either.result
    (subst (λ p. AreStarts (m p) c.args.stops c.starts-in-Either.result) c.deref-in-Either.ensures c.starts-in-Either.ensures)
    (subst (λ p. AreStarts (m p) c.args.stops c.starts-in-Either-2.result) c.deref-in-Either-2.ensures c.starts-in-Either-2.ensures)
    c.either-in-Either.ensures.places)

pub returns-after-loop-more : goal.returns-after-loop-more
returns-after-loop-more t c =
    let m : PatternTree → ℕ → ℕ → Type 0 = λ p. Matches c.args.seen.now (pattern p) in
    let kept = c.loop-more.invariant in
    let same : c.loop-more.more ≡ c.loop-more.found = omega (arith, c.loop-more-test.false) in
    subst (λ p. AreStarts (m p) c.args.stops c.loop-more.found) (sym c.in-Many.is)
    (rounds-starts (m c.in-Many.part.value) c.args.stops c.loop-more.found kept.ends.0 kept.stops kept.reached kept.ends.1
    (subst (AreParts c.loop-more.found kept.ends.0) same kept.ends.2))

pub returns-in-Set : goal.returns-in-Set
returns-in-Set t c =
    let m : PatternTree → ℕ → ℕ → Type 0 = λ p. Matches c.args.seen.now (pattern p) in
    subst (λ p. AreStarts (m p) c.args.stops c.before-in-Set.result) (sym c.in-Set.is)
    (one-starts (is_in (slice_index_or c.args.seen.now.sets c.in-Set.set [])) c.args.seen.now.label c.places_of_set.result c.args.stops c.before-in-Set.result c.places_of_set.ensures.places c.before-in-Set.ensures)

pub returns-in-Any : goal.returns-in-Any
returns-in-Any t c =
    let m : PatternTree → ℕ → ℕ → Type 0 = λ p. Matches c.args.seen.now (pattern p) in
    subst (λ p. AreStarts (m p) c.args.stops c.before-in-Any.result) (sym c.in-Any.is)
    (one-starts (λ d. true) c.args.seen.now.label c.places_of_all.result c.args.stops c.before-in-Any.result c.places_of_all.ensures.places c.before-in-Any.ensures)

pub returns-in-Start : goal.returns-in-Start
returns-in-Start t c =
    let m : PatternTree → ℕ → ℕ → Type 0 = λ p. Matches c.args.seen.now (pattern p) in
    subst (λ p. AreStarts (m p) c.args.stops c.only.result) (sym c.in-Start.is)
    (only-starts 0 c.args.stops c.only.result c.only.ensures)

pub returns-in-End : goal.returns-in-End
returns-in-End t c =
    let m : PatternTree → ℕ → ℕ → Type 0 = λ p. Matches c.args.seen.now (pattern p) in
    subst (λ p. AreStarts (m p) c.args.stops c.only-in-End.result) (sym c.in-End.is)
    (only-starts (length c.args.seen.now.label) c.args.stops c.only-in-End.result (subst (λ n. AreEnds (MatchesAt n) c.args.stops c.only-in-End.result) c.len.ensures.is c.only-in-End.ensures))

pub returns-in-Optional : goal.returns-in-Optional
returns-in-Optional t c =
    let m : PatternTree → ℕ → ℕ → Type 0 = λ p. Matches c.args.seen.now (pattern p) in
    subst (λ p. AreStarts (m p) c.args.stops c.either.result) (sym c.in-Optional.is)
    (optional-starts (m c.in-Optional.part.value) c.args.stops c.starts-in-Optional.result c.either.result
    (subst (λ p. AreStarts (m p) c.args.stops c.starts-in-Optional.result) c.deref-in-Optional.ensures c.starts-in-Optional.ensures)
    c.either.ensures.places)
