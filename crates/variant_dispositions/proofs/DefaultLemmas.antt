-- The default actions.
use Rattle.std.proofs.Common.{◌≡◌, ◌↔◌, inl, inr, ℕ, zero, suc, Bool, true, List, refl, sym, ap, ◌∙◌, subst, arith}
use Rattle.std.specs.Prelude.{bit_and, filter, Option, Some, None, unwrap_or}
use Rattle.std.specs.List.{Contains}
use Rattle.std.specs.Int.{bit_at}
use Rattle.std.proofs.lemmas.Bool.{lt-ltb, ltb-true}
use Rattle.std.proofs.lemmas.Bool.{cases_lt}
use Rattle.std.proofs.lemmas.Nat.Bits.{bit_at_ones, bit_at_ones_above}
use Rattle.reading_kinds.proofs.ListMembers.{Contains-filter}
use Rattle.variant_dispositions.specs.declared.action.Action.{Action}
use Rattle.variant_dispositions.specs.declared.disposition.Disposition.{Disposition}
use Rattle.variant_dispositions.specs.declared.disposition.Disposition.TheVariants.{Valid}
use Rattle.variant_dispositions.specs.Kinds.{bit_of, kind_at, kinds_in}
use Rattle.variant_dispositions.specs.Actions.{default_actions, default_disposition, disposition, first_triggered, is_predefined}
use Rattle.variant_dispositions.specs.Laws.{AreTheSame}
use Rattle.variant_dispositions.proofs.KindLemmas.{both-bits, Contains-kinds_in, kind_at-bit_of}
use Rattle.variant_dispositions.proofs.SetLemmas.{same_first}

-- the bits of the kinds that the default actions see
is_predefined-bit : (bit : ℕ) → (bit_at 127 bit ≡ 1) ↔ (is_predefined (kind_at bit) ≡ true)
is_predefined-bit zero = (λ h. refl, λ h. refl)
is_predefined-bit (suc zero) = (λ h. refl, λ h. refl)
is_predefined-bit (suc (suc number)) = (
  λ h. elim (cases_lt number 5) [
    | inl less ↦ lt-ltb number 5 less
    | inr past ↦ absurd (
        let above : bit_at 127 (suc (suc number)) ≡ 0 = bit_at_ones_above 7 (suc (suc number)) (omega (arith, past)) in
        omega (arith, above, h))
  ],
  λ h. bit_at_ones 7 (suc (suc number)) (let less = ltb-true number 5 h in omega (arith, less)),
)

predefined-same : (word : ℕ) → AreTheSame (kinds_in (bit_and word 127)) (filter is_predefined (kinds_in word))
predefined-same word kind =
    let there = kind_at-bit_of kind in
    let kept = Contains-filter is_predefined (kinds_in word) kind in
    let both = both-bits word 127 (bit_of kind) in
    let seen = is_predefined-bit (bit_of kind) in (
      λ c.
          let g = (Contains-kinds_in (bit_and word 127) (bit_of kind)).0 (subst (Contains (kinds_in (bit_and word 127))) (sym there) c) in
          let bits = both.0 g.1 in
          kept.1 (subst (Contains (kinds_in word)) there ((Contains-kinds_in word (bit_of kind)).1 (g.0, bits.0)), ap is_predefined (sym there) ∙ seen.0 bits.1),
      λ c.
          let f = kept.0 c in
          let g = (Contains-kinds_in word (bit_of kind)).0 (subst (Contains (kinds_in word)) (sym there) f.0) in
          subst (Contains (kinds_in (bit_and word 127))) there ((Contains-kinds_in (bit_and word 127) (bit_of kind)).1 (g.0, both.1 (g.1, seen.1 (ap is_predefined there ∙ f.1)))),
    )

-- what is told where no action of a ruleset's own is triggered
told-last : (matched : ℕ → Bool) (actions : List Action) (word : ℕ) → None ≡ first_triggered matched (kinds_in word) actions → (last : Option Disposition) → last ≡ first_triggered matched (kinds_in (bit_and word 127)) default_actions
    → unwrap_or last Valid ≡ disposition matched actions (kinds_in word)
told-last matched actions word none last is =
    ap (λ (o : Option Disposition). unwrap_or o Valid) (is ∙ same_first matched (kinds_in (bit_and word 127)) (filter is_predefined (kinds_in word)) (predefined-same word) default_actions)
    ∙ ap (λ (o : Option Disposition). unwrap_or o (unwrap_or (default_disposition matched (kinds_in word)) Valid)) none

pub told-default : (matched : ℕ → Bool) (actions : List Action) (word : ℕ) → None ≡ first_triggered matched (kinds_in word) actions → (d : Disposition) → Some d ≡ first_triggered matched (kinds_in (bit_and word 127)) default_actions → d ≡ disposition matched actions (kinds_in word)
told-default matched actions word none d is = told-last matched actions word none (Some d) is

pub told-valid : (matched : ℕ → Bool) (actions : List Action) (word : ℕ) → None ≡ first_triggered matched (kinds_in word) actions → None ≡ first_triggered matched (kinds_in (bit_and word 127)) default_actions → Valid ≡ disposition matched actions (kinds_in word)
told-valid matched actions word none is = told-last matched actions word none None is
