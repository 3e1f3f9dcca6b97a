-- Which beginnings of a label are dead, by two places.
use Rattle.std.proofs.Common.{◌≡◌, ℕ, ◌+◌, ◌<◌, ◌≤◌, inl, inr, List, ◌++◌, length, take, drop, sym, subst, arith, length-append}
use Rattle.std.specs.Prelude.{◌↔◌, Option, Some, None, MatchOption}
use Rattle.std.proofs.lemmas.Bool.{cases_order}
use Rattle.std.proofs.lemmas.List.{take-append-drop, length-take-le}
use Rattle.label_patterns.proofs.BarringLemmas.{barring-stays}
use Rattle.label_patterns.proofs.LawLemmas.{parts, stay}
use Rattle.variant_table.specs.Entries.{TableValue}
use Rattle.variant_table.specs.Segmentations.{seen_under}
use Rattle.valid_labels.specs.Segments.{IsSegment, SegmentMayStand, MayReach}
use Rattle.valid_labels.specs.Validity.{AllowsAnyCut, IsSound, IsValid, IsRefused, LeadsNowhere, IsDeadUnder, IsShortestDeadUnder, HasNoDeadPrefixUnder}
use Rattle.valid_labels.specs.inner.Ends.{IsRefusedAt, NoneRefuses, IsPast, IsDeadFrom, IsLeastDead, NoneIsDead}
use Rattle.valid_labels.specs.inner.Segments.{IsMost}
use Rattle.valid_labels.proofs.CutLemmas.{rounds-map}
use Rattle.valid_labels.proofs.DeadPrefixLemmas.{within, dead-invalid}
use Rattle.valid_labels.proofs.PartLemmas.{part-stays}
use Rattle.valid_labels.proofs.RuleLemmas.{rules-before}
use Rattle.valid_labels.proofs.TestLemmas.{may-reach-within}

module _ (table : TableValue) (label more : List ℕ) (sound : IsSound table) where
  -- a segment that may stand in a label may stand in a longer one
  may-longer : (i j : ℕ) → SegmentMayStand table label i j → SegmentMayStand table (label ++ more) i j
  may-longer i j h =
      let stays = barring-stays table.definitions.rules table.definitions.sets label more h.0 i (rules-before table.definitions sound.definitions) (let l = h.1.0 in let m = h.1.1 in omega (arith, l, m)) in
      (h.0, (h.1.0, (let m = h.1.1 in omega (arith, m, length-append label more)), subst (λ s. IsSegment table s h.0) (sym (part-stays label more i j h.1.0 h.1.1)) h.1.2), λ barred. h.2 (stays.1 barred))

  -- the beginning leads nowhere where no segment leads past it from the last place that may be reached
  pub nowhere-from : (last longest : ℕ) → MayReach table (label ++ more) last → ((p : ℕ) → last < p → p ≤ length (label ++ more) → MayReach table (label ++ more) p → ⊥) → IsMost table longest
      → LeadsNowhere table label ↔ (last + longest ≤ length label)
  nowhere-from last longest reached greatest is = (
    λ nowhere.
        let here = within table label more sound nowhere last reached in
        elim is.one [
          | inl none ↦ (let l = here.0 in omega (arith, l, none))
          | inr one ↦ (let l = nowhere last one.0 one.1.0 here.1 one.1.1 in let e = one.1.2 in omega (arith, l, e))
        ],
    λ l place points c may segment.
        let far = rounds-map (SegmentMayStand table label) (SegmentMayStand table (label ++ more)) may-longer 0 place may in
        let size = is.most points c segment in
        elim (cases_order place last) [
          | inl e ↦ omega (arith, l, e, size)
          | inr o ↦ elim o [
            | inl less ↦ omega (arith, l, less, size)
            | inr later ↦ absurd (greatest place later (let m = may-reach-within table label place may in omega (arith, m, length-append label more)) far)
          ]
        ],
  )

  -- the beginning is refused where a part that is refused ends within it
  refused-from : (refused : Option ℕ) → MatchOption refused (NoneRefuses (seen_under table (label ++ more)) table.definitions.demands) (IsRefusedAt (seen_under table (label ++ more)) table.definitions.demands)
      → IsRefused table label ↔ IsPast refused (length label)
  refused-from None none = (
    λ h.
        let m = h.4 in
        let within_label = (parts h.0.pattern (seen_under table label) m.0 m.1 m.3).1 m.2 in
        none h.0 h.1 (h.2, h.3) (m.0, m.1, (let l = m.2 in omega (arith, l, length-append label more)), (stay h.0.pattern table.definitions.sets label more m.0 m.1 h.3 within_label).0 m.3),
    λ h. absurd h,
  )
  refused-from (Some end) is = (
    λ h.
        let m = h.4 in
        let within_label = (parts h.0.pattern (seen_under table label) m.0 m.1 m.3).1 m.2 in
        let l = is.least h.0 m.0 m.1 h.1 (h.2, h.3) (let k = m.2 in omega (arith, k, length-append label more)) ((stay h.0.pattern table.definitions.sets label more m.0 m.1 h.3 within_label).0 m.3) in
        omega (arith, l, within_label),
    λ l.
        let d = is.some.0 in
        let first = is.some.3 in
        let start = first.start in
        (d, is.some.1, is.some.2.0, is.some.2.1, (start.0, end, (let k = start.1 in omega (arith, k, l)), (stay d.pattern table.definitions.sets label more start.0 end is.some.2.1 l).1 start.2)),
  )

  pub dead-from : (AllowsAnyCut table → ⊥) → (refused : Option ℕ) (last longest : ℕ) → MatchOption refused (NoneRefuses (seen_under table (label ++ more)) table.definitions.demands) (IsRefusedAt (seen_under table (label ++ more)) table.definitions.demands)
      → MayReach table (label ++ more) last → ((p : ℕ) → last < p → p ≤ length (label ++ more) → MayReach table (label ++ more) p → ⊥) → IsMost table longest
      → IsDeadUnder table label ↔ IsDeadFrom refused (last + longest) (length label)
  dead-from asks refused last longest r reached greatest is =
      let first = refused-from refused r in
      let second = nowhere-from last longest reached greatest is in (
        λ h. ((let s = h.some in omega (arith, s)), elim h.dead [ inl a ↦ inl (first.0 a) | inr b ↦ inr (second.0 b) ]),
        λ h. record { asks = asks; some = (let s = h.0 in omega (arith, s)); dead = elim h.1 [ inl a ↦ inl (first.1 a) | inr b ↦ inr (second.1 b) ] },
      )

-- the same for the first k code points of a label
module _ (table : TableValue) (label : List ℕ) (sound : IsSound table) (asks : AllowsAnyCut table → ⊥) (refused : Option ℕ) (last longest : ℕ)
    (r : MatchOption refused (NoneRefuses (seen_under table label) table.definitions.demands) (IsRefusedAt (seen_under table label) table.definitions.demands))
    (reached : MayReach table label last) (greatest : (p : ℕ) → last < p → p ≤ length label → MayReach table label p → ⊥) (is : IsMost table longest) where
  beginning-dead : (k : ℕ) → k ≤ length label → IsDeadUnder table (take k label) ↔ IsDeadFrom refused (last + longest) k
  beginning-dead k l =
      let whole : take k label ++ drop k label ≡ label = take-append-drop k label in
      let size = length-take-le k label l in
      let P : List ℕ → Type 0 = λ v. MatchOption refused (NoneRefuses (seen_under table v) table.definitions.demands) (IsRefusedAt (seen_under table v) table.definitions.demands) in
      let Q : List ℕ → Type 0 = λ v. (p : ℕ) → last < p → p ≤ length v → MayReach table v p → ⊥ in
      subst (λ n. IsDeadUnder table (take k label) ↔ IsDeadFrom refused (last + longest) n) size
      (dead-from table (take k label) (drop k label) sound asks refused last longest (subst P (sym whole) r) (subst (λ v. MayReach table v last) (sym whole) reached) (subst Q (sym whole) greatest) is)

  pub shortest-dead : (found : Option ℕ) → MatchOption found (NoneIsDead refused (last + longest) (length label)) (IsLeastDead refused (last + longest) (length label))
      → MatchOption found (HasNoDeadPrefixUnder table label) (IsShortestDeadUnder table label)
  shortest-dead None none = λ k l dead. none k l ((beginning-dead k l).0 dead)
  shortest-dead (Some n) least = record {
    within = least.within;
    dead = (beginning-dead n least.within).1 least.dead;
    first = λ k l dead. least.least k l ((beginning-dead k (let w = least.within in omega (arith, l, w))).0 dead);
  }

-- no beginning of a valid label is dead
pub valid-not-dead : (table : TableValue) (label : List ℕ) → IsSound table → IsValid table label → HasNoDeadPrefixUnder table label
valid-not-dead table label sound valid k l dead =
    dead-invalid table (take k label) (drop k label) sound dead (subst (IsValid table) (sym (take-append-drop k label)) valid)
