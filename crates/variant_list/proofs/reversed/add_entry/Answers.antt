use Rattle.std.proofs.Common.{◌≡◌, ℕ, ◌+◌, ◌-◌, List, length, true, false, sym, subst, refl, ◌∙◌, arith, Some}
use Rattle.std.specs.Prelude.{slice_get}
use Rattle.std.proofs.lemmas.List.{length-map}
use Rattle.variant_table.specs.Entries.{Entry, Variant, sequences_in}
use Rattle.variant_table.specs.Gaps.{IsPair}
use Rattle.variant_table.proofs.WritingLemmas.{slice_get-later}
use Rattle.variant_list.specs.Reversed.{IsCrowdedAt, IsReversed}
use Rattle.variant_list.specs.inner.Turned.{groups_of, AreSound, Adds, TurnsUpTo, HasNoRoom}
use Rattle.variant_list.proofs.PlanLemmas.{Contains-at}
use Rattle.variant_list.proofs.CrowdLemmas.{crowded-at}
use Rattle.variant_list.proofs.TurnedLemmas.{Adds-none, Adds-next, Adds-skip, AreOfFirst-next}
use Rattle.variant_list.proofs.reversed.add_entry.Goals.{then-not-is_pair+in_ok-has_room+else-not-has_room, else-not-is_pair}
use Rattle.variant_list.proofs.reversed.add_entry.Goals as goal

pub loop-number-init : goal.loop-number-init
loop-number-init c = (c.requires.sound, Adds-none c.args.table.now.entries c.entry-entry.result (groups_of c.args.sources.now.entries))

pub loop-number-preserved : goal.loop-number-preserved
loop-number-preserved c =
    let entries : List Entry = c.args.table.now.entries in
    let e : Entry = c.entry-entry.result in
    let n : ℕ = c.loop-number.number in
    let v : List ℕ = c.replacement-variant.result.now in
    let old = groups_of c.args.sources.now.entries in
    let mid = groups_of c.loop-number.sources.entries in
    let at : slice_get (sequences_in e.variants) (n - 1) ≡ Some v = sym (slice_get-later e.source (sequences_in e.variants) n (omega arith)) ∙ c.replacement-variant.ensures in
    let count : n - 1 + 1 ≡ n + 1 - 1 = omega arith in
    elim c.if-not-is_pair.branch [
      | then-not-is_pair+in_ok-has_room+else-not-has_room w ↦
          let new = groups_of w.add.new.sources.entries in
          let has_room : w.in_ok-has_room.has_room ≡ true = w.if-not-has_room.false in
          let lacking : ¬ IsPair entries v e.source = λ p. (let t : true ≡ false = sym (c.is_pair.ensures.1 (subst (λ s. IsPair entries v s) (sym c.source-source.ensures) p)) ∙ w.if-not-is_pair.true in absurd cc) in
          let adds : Adds mid new (λ a b. (a ≡ v) × (b ≡ e.source)) = subst (λ s. Adds mid new (λ a b. (a ≡ v) × (b ≡ s))) c.source-source.ensures (w.in_ok-has_room.ensures.adds has_room) in
          subst (λ s. AreSound (groups_of s.entries) × Adds old (groups_of s.entries) (TurnsUpTo entries e (n + 1 - 1))) (sym w.sources-is)
          (w.in_ok-has_room.ensures.sound has_room, subst (λ k. Adds old new (TurnsUpTo entries e k)) count (Adds-next entries e old mid new (n - 1) v at lacking c.loop-number.invariant.1 adds))
      | else-not-is_pair w ↦
          let there : IsPair entries v e.source = subst (λ s. IsPair entries v s) c.source-source.ensures (c.is_pair.ensures.0 w.if-not-is_pair.false) in
          subst (λ s. AreSound (groups_of s.entries) × Adds old (groups_of s.entries) (TurnsUpTo entries e (n + 1 - 1))) (sym w.sources-is)
          (c.loop-number.invariant.0, subst (λ k. Adds old mid (TurnsUpTo entries e k)) count (Adds-skip entries e old mid (n - 1) v at there c.loop-number.invariant.1))
    ]

pub returns-clause-sound : goal.returns-clause-sound
returns-clause-sound c = c.loop-number.invariant.0

pub returns-clause-adds : goal.returns-clause-adds
returns-clause-adds c =
    let e : Entry = c.entry-entry.result in
    let old = groups_of c.args.sources.now.entries in
    let new = groups_of c.loop-number.sources.entries in
    let all : c.loop-number.number - 1 ≡ length e.variants = omega (arith, c.replacements-number-end.ensures, length-map e.variants (λ (v : Variant). v.sequence), c.loop-number-test.false, c.loop-number.auto.number-end, c.loop-number.auto.number) in
    AreOfFirst-next c.args.table.now.entries old new c.args.entry_number e c.entry-entry.ensures c.requires.earlier (subst (λ k. Adds old new (TurnsUpTo c.args.table.now.entries e k)) all c.loop-number.invariant.1)

pub returns-in_err-has_room-clause-no_memory : goal.returns-in_err-has_room-clause-no_memory
returns-in_err-has_room-clause-no_memory c = λ none.
    let entries : List Entry = c.args.table.now.entries in
    let e : Entry = c.entry-entry.result in
    let n : ℕ = c.loop-number.number in
    let v : List ℕ = c.replacement-variant.result.now in
    let at : slice_get (sequences_in e.variants) (n - 1) ≡ Some v = sym (slice_get-later e.source (sequences_in e.variants) n (omega arith)) ∙ c.replacement-variant.ensures in
    let lacking : ¬ IsPair entries v e.source = λ p. (let t : true ≡ false = sym (c.is_pair.ensures.1 (subst (λ s. IsPair entries v s) (sym c.source-source.ensures) p)) ∙ c.if-not-is_pair.true in absurd cc) in
    let in_table = Contains-at entries c.args.entry_number e c.entry-entry.ensures in
    absurd (none v e.source (record { pair = (e, in_table, refl, Contains-at (sequences_in e.variants) (n - 1) v at); lacking = lacking }))

pub returns-then-not-has_room-clause-no_memory : goal.returns-then-not-has_room-clause-no_memory
returns-then-not-has_room-clause-no_memory c = λ none.
    let entries : List Entry = c.args.table.now.entries in
    let e : Entry = c.entry-entry.result in
    let n : ℕ = c.loop-number.number in
    let v : List ℕ = c.replacement-variant.result.now in
    let at : slice_get (sequences_in e.variants) (n - 1) ≡ Some v = sym (slice_get-later e.source (sequences_in e.variants) n (omega arith)) ∙ c.replacement-variant.ensures in
    let lacking : ¬ IsPair entries v e.source = λ p. (let t : true ≡ false = sym (c.is_pair.ensures.1 (subst (λ s. IsPair entries v s) (sym c.source-source.ensures) p)) ∙ c.if-not-is_pair.true in absurd cc) in
    let in_table = Contains-at entries c.args.entry_number e c.entry-entry.ensures in
    absurd (none v e.source (record { pair = (e, in_table, refl, Contains-at (sequences_in e.variants) (n - 1) v at); lacking = lacking }))

pub returns-then-not-has_room-clause-crowded : goal.returns-then-not-has_room-clause-crowded
returns-then-not-has_room-clause-crowded c = λ entry is.
    let entries : List Entry = c.args.table.now.entries in
    let e : Entry = c.entry-entry.result in
    let n : ℕ = c.loop-number.number in
    let v : List ℕ = c.replacement-variant.result.now in
    let old = groups_of c.args.sources.now.entries in
    let mid = groups_of c.loop-number.sources.entries in
    let at : slice_get (sequences_in e.variants) (n - 1) ≡ Some v = sym (slice_get-later e.source (sequences_in e.variants) n (omega arith)) ∙ c.replacement-variant.ensures in
    let has = Contains-at (sequences_in e.variants) (n - 1) v at in
    let lacking : ¬ IsPair entries v e.source = λ p. (let t : true ≡ false = sym (c.is_pair.ensures.1 (subst (λ s. IsPair entries v s) (sym c.source-source.ensures) p)) ∙ c.if-not-is_pair.true in absurd cc) in
    let turned : IsReversed entries v e.source = record { pair = (e, Contains-at entries c.args.entry_number e c.entry-entry.ensures, refl, has); lacking = lacking } in
    let no_room : HasNoRoom mid v e.source = subst (HasNoRoom mid v) c.source-source.ensures (c.in_ok-has_room.ensures.no_room c.if-not-has_room.true) in
    let same : c.args.entry_number ≡ entry = cc in
    subst (IsCrowdedAt entries) same
    (crowded-at entries c.args.entry_number e c.entry-entry.ensures old mid (n - 1) c.requires.sound c.requires.earlier c.loop-number.invariant.1 v has c.loop-number.invariant.0 turned no_room)
