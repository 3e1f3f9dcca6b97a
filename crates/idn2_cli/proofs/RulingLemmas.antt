-- What a test of labels finds and keeps.
use Rattle.std.proofs.Common.{◌≡◌, ◌≢◌, ◌≤◌, ◌<◌, ℕ, zero, suc, List, [], ◌∷◌, Bool, true, false, Option, Some, None, take, length, min, refl, sym, ap, subst, ◌∙◌, if◌then◌else◌, arith}
use Rattle.std.proofs.Math.Nat.{min-le_left, min-le_right}
use Rattle.std.proofs.lemmas.Bool.{false_from_ne_true}
use Rattle.valid_labels.specs.Testing.{IsValidity, SharesCached, Testing}
use Rattle.valid_labels.specs.Tests.{asks_nothing, is_dead_under, is_valid}
use Rattle.valid_labels.specs.Validity.{AsksNothing, HasNoDeadPrefixUnder, IsDeadUnder, IsShortestDeadUnder, IsSound}
use Rattle.valid_labels.specs.declared.validity.Validity.{Validity}
use Rattle.valid_labels.specs.declared.validity.Validity.TheVariants.{DeadPrefix, Valid, NotValid}
use Rattle.valid_labels.proofs.TestLemmas.{tests-agree}
use Rattle.variant_table.specs.Entries.{TableValue}
use Rattle.variant_list.specs.Beginnings.{shortest_hopeless}
use Rattle.variant_list.proofs.BeginningLemmas.{shortest_hopeless-at, shortest_hopeless-none}
use Rattle.idn2_cli.specs.inner.Ruling.{IsValidityBy, KeepsOf, KeepsShared, ruling_in, ruling_of}

none-dead : (table : TableValue) (v : List ℕ) → IsSound table → HasNoDeadPrefixUnder table v → shortest_hopeless (is_dead_under table) v ≡ None
none-dead table v sound none =
    shortest_hopeless-none (is_dead_under table) v (λ k low high. false_from_ne_true (is_dead_under table (take k v)) (λ is. none k high ((tests-agree.dead table (take k v) sound).0 is)))

at-dead : (table : TableValue) (v : List ℕ) (n : ℕ) → IsSound table → IsShortestDeadUnder table v n → shortest_hopeless (is_dead_under table) v ≡ Some n
at-dead table v n sound is =
    shortest_hopeless-at (is_dead_under table) v n (some n is.dead) is.within ((tests-agree.dead table (take n v) sound).1 is.dead)
    (λ k low high. false_from_ne_true (is_dead_under table (take k v)) (λ l. is.first k high ((tests-agree.dead table (take k v) sound).0 l)))
  where
    some : (n : ℕ) → IsDeadUnder table (take n v) → 1 ≤ n
    some zero l = absurd (let bad : 0 < 0 = l.some in omega (arith, bad))
    some (suc n) l = omega arith

-- what a test finds, as the filter of its table has it
pub validity-found : (table : TableValue) (v : List ℕ) (validity : Validity) → IsSound table → IsValidity table v validity → IsValidityBy (Some table) v validity
validity-found table v (DeadPrefix n) sound is = (at-dead table v n sound is, tt)
validity-found table v Valid sound is = (none-dead table v sound is.1, (tests-agree.valid table v sound).1 is.0)
validity-found table v NotValid sound is = (none-dead table v sound is.1, false_from_ne_true (is_valid table v) (λ t. is.0 ((tests-agree.valid table v sound).0 t)))

take-shorter : {X : Type 0} (m n : ℕ) (xs : List X) → m ≤ n → take m (take n xs) ≡ take m xs
take-shorter zero n xs le = refl
take-shorter (suc m) zero xs le = absurd (omega (arith, le))
take-shorter (suc m) (suc n) [] le = refl
take-shorter (suc m) (suc n) (x ∷ xs) le = ap (λ l. x ∷ l) (take-shorter m n xs (omega (arith, le)))

-- what is kept of a label is of each that begins with the same code points
pub kept-shared : (test : Option Testing) (shared : ℕ) (label before : List ℕ) → KeepsOf before test → take shared before ≡ take shared label → KeepsShared test shared label
kept-shared None shared label before kept same = tt
kept-shared (Some test) shared label before kept same = (kept.0, shares)
  where
    n : ℕ
    n = min shared (length test.cached)

    fewer : n ≤ length test.cached
    fewer = min-le_right shared (length test.cached)

    within : n ≤ shared
    within = min-le_left shared (length test.cached)

    of_kept : take n test.cached ≡ take n before
    of_kept = ap (take n) (sym kept.1) ∙ take-shorter n (length test.cached) before fewer

    of_label : take n before ≡ take n label
    of_label = sym (take-shorter n shared before within) ∙ ap (take n) same ∙ take-shorter n shared label within

    shares : SharesCached shared test.cached label
    shares = of_kept ∙ of_label

-- the table of a test is that of which it is the ruling
sound-table : (test : Testing) (table : TableValue) → ruling_in (Some test) ≡ ruling_of table → IsSound table → IsSound test.table
sound-table test table is sound = by_test (asks_nothing table) is
  where
    by_test : (b : Bool) → Some test.table ≡ (if b then None else Some table) → IsSound test.table
    by_test true e = absurd (let clash : Some test.table ≡ None = e in cc)
    by_test false e = let same : test.table ≡ table = cc in subst IsSound (sym same) sound

-- a test that is just made keeps nothing
pub new-kept : (test : Option Testing) (table : TableValue) (label : List ℕ) → ruling_in test ≡ ruling_of table → IsSound table → KeepsShared test 0 label
new-kept None table label is sound = tt
new-kept (Some test) table label is sound = (sound-table test table is sound, ap (λ (m : ℕ). take m test.cached) none ∙ sym (ap (λ (m : ℕ). take m label) none))
  where
    none : min 0 (length test.cached) ≡ 0
    none = let le = min-le_left 0 (length test.cached) in omega (arith, le)

-- one that has forgotten what it kept
pub emptied-kept : (old new : Testing) (v : List ℕ) → IsSound old.table → new.cached ≡ [] → new.table ≡ old.table → KeepsOf v (Some new)
emptied-kept old new v sound empty same = (subst IsSound (sym same) sound, ap (λ (k : List ℕ). take (length k) v) empty ∙ sym empty)

-- the table of a test is that of which it is the ruling, and without a test the table asks nothing
pub same-table : (test : Testing) (table : TableValue) → ruling_in (Some test) ≡ ruling_of table → test.table ≡ table
same-table test table is = by_test (asks_nothing table) is
  where
    by_test : (b : Bool) → Some test.table ≡ (if b then None else Some table) → test.table ≡ table
    by_test true e = absurd (let clash : Some test.table ≡ None = e in cc)
    by_test false e = cc

pub nothing-asked : (table : TableValue) → IsSound table → ruling_in None ≡ ruling_of table → AsksNothing table
nothing-asked table sound is = (tests-agree.nothing table sound.entries).0 (by_test (asks_nothing table) is)
  where
    by_test : (b : Bool) → None ≡ (if b then None else Some table) → b ≡ true
    by_test true e = refl
    by_test false e = absurd (let clash : None ≡ Some table = e in cc)

-- a label that has some code points
pub some-point : (label : List ℕ) → 1 ≤ length label → label ≢ []
some-point label some empty = absurd (omega (arith, some, ap length empty))
