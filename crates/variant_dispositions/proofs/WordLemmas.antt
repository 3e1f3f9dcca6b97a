-- The disposition of a label by its words.
use Rattle.std.proofs.Common.{◌≡◌, ◌↔◌, inl, inr, ℕ, ◌<◌, Bool, List, [], refl, sym, ap, ◌∙◌, subst, arith}
use Rattle.std.specs.List.{Contains}
use Rattle.std.specs.Int.{bit_at}
use Rattle.reading_kinds.specs.Readings.{Substitution, HasKind, IsReading, SubstitutionsSpell}
use Rattle.variant_dispositions.specs.declared.action.Action.{Action}
use Rattle.variant_dispositions.specs.Kinds.{Kind, bit_of, kind_at, kinds_in, recorded}
use Rattle.variant_dispositions.specs.Kinds.Kind.{Typed}
use Rattle.variant_dispositions.specs.Actions.{disposition, is_allocatable}
use Rattle.variant_dispositions.specs.Readings.{AreWordsOf, HasNoTypeButBlocked, IsAllocatableInSome, IsClear, IsDisposition}
use Rattle.variant_dispositions.specs.Laws.{AreTheSame}
use Rattle.variant_dispositions.proofs.KindLemmas.{Contains-kinds_in, Contains-recorded, HasKind-or_not, kind_at-bit_of}
use Rattle.variant_dispositions.proofs.SetLemmas.{KindsAreASet-holds}
use Rattle.variant_dispositions.proofs.LawLemmas.{BlockedBlocks-holds, ByRulesAlone-holds}

module _ (substitutions : List (List Substitution)) (v : List ℕ) (has lacks : ℕ) (are : AreWordsOf substitutions v has lacks) where
  -- what a reading records is in the first word
  has-recorded : (reading : List Substitution) → IsReading substitutions v reading → (kind : Kind) → Contains (recorded reading) kind → (bit_of kind < 64) × HasKind reading (bit_of kind) × (bit_at has (bit_of kind) ≡ 1)
  has-recorded reading is kind c =
      let g = (Contains-recorded reading (bit_of kind)).0 (subst (Contains (recorded reading)) (sym (kind_at-bit_of kind)) c) in
      (g.0, g.1, (are.has_are (bit_of kind) g.0).1 (reading, is, g.1))

  -- clear exactly if no bit is in both words
  pub apart-clear : ((bit : ℕ) → bit < 64 → bit_at has bit ≡ 1 → bit_at lacks bit ≡ 1 → ⊥) → IsClear substitutions v
  apart-clear apart one other r s kind c =
      let g = has-recorded one r kind c in
      elim (HasKind-or_not other (bit_of kind)) [
        | inl h ↦ subst (Contains (recorded other)) (kind_at-bit_of kind) ((Contains-recorded other (bit_of kind)).1 (g.0, h))
        | inr lacking ↦ absurd (apart (bit_of kind) g.0 g.2 ((are.lacks_are (bit_of kind) g.0).1 (other, s, lacking)))
      ]

  pub clear-apart : IsClear substitutions v → (bit : ℕ) → bit < 64 → bit_at has bit ≡ 1 → bit_at lacks bit ≡ 1 → ⊥
  clear-apart clear bit l there missing =
      let one = (are.has_are bit l).0 there in
      let other = (are.lacks_are bit l).0 missing in
      other.2 ((Contains-recorded other.0 bit).0 (clear one.0 other.0 one.1 other.1 (kind_at bit) ((Contains-recorded one.0 bit).1 (l, one.2)))).1

  -- the disposition by the first word
  pub told-words : SubstitutionsSpell substitutions v → IsClear substitutions v → (matched : ℕ → Bool) (actions : List Action) → IsDisposition matched actions substitutions v (disposition matched actions (kinds_in has))
  told-words spelled clear matched actions = (spelled.0, reading, KindsAreASet-holds matched actions (recorded spelled.0) (kinds_in has) same)
    where
      reading : IsReading substitutions v spelled.0
      reading = record { is_cut = spelled.1; joined = spelled.2 }

      same : AreTheSame (recorded spelled.0) (kinds_in has)
      same kind = (
        λ c. (let g = has-recorded spelled.0 reading kind c in subst (Contains (kinds_in has)) (kind_at-bit_of kind) ((Contains-kinds_in has (bit_of kind)).1 (g.0, g.2))),
        λ c.
            let g = (Contains-kinds_in has (bit_of kind)).0 (subst (Contains (kinds_in has)) (sym (kind_at-bit_of kind)) c) in
            let one = (are.has_are (bit_of kind) g.0).0 g.1 in
            clear one.0 spelled.0 one.1 reading kind (subst (Contains (recorded one.0)) (kind_at-bit_of kind) ((Contains-recorded one.0 (bit_of kind)).1 (g.0, one.2))),
      )

  -- by some reading, where no type but blocked is recorded
  pub some-allocatable : HasNoTypeButBlocked substitutions v → (matched : ℕ → Bool) → (bit_at lacks 3 ≡ 1) ↔ IsAllocatableInSome matched [] substitutions v
  some-allocatable alone matched = (
    λ h.
        let g = (are.lacks_are 3 (omega arith)).0 h in
        let none : (number : ℕ) → ¬ Contains (recorded g.0) (Typed number) = λ number c.
        g.2 ((Contains-recorded g.0 3).0 (subst (λ n. Contains (recorded g.0) (Typed n)) (alone g.0 g.1 number c) c)).1
        in
        (disposition matched [] (recorded g.0), (g.0, g.1, refl), ap is_allocatable (ByRulesAlone-holds matched [] (recorded g.0) tt none)),
    λ h.
        let reading = h.1 in
        let lacking : ¬ HasKind reading.0 3 = λ there.
        let blocked = BlockedBlocks-holds matched (recorded reading.0) ((Contains-recorded reading.0 3).1 (omega arith, there)) in
        let clash = sym blocked ∙ ap is_allocatable reading.2 ∙ h.2 in
        cc
        in
        (are.lacks_are 3 (omega arith)).1 (reading.0, reading.1, lacking),
  )
