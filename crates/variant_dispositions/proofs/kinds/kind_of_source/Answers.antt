use Rattle.std.proofs.Common.{◌≡◌, ◌+◌, ◌^◌, ◌<◌, ◌∷◌, [], ℕ, suc, refl, sym, ap, subst, ◌∙◌, arith}
use Rattle.variant_dispositions.specs.Kinds as kinds
use Rattle.variant_dispositions.specs.Kinds.{IsTypeNumber}
use Rattle.variant_dispositions.specs.Kinds.Kind.{Unmapped, Typed}
use Rattle.variant_dispositions.proofs.OneKindLemmas.{kinds_in-one}
use Rattle.variant_dispositions.proofs.kinds.kind_of_source.Goals as goal

pub returns-in-Some-clause-kind : goal.returns-in-Some-clause-kind
returns-in-Some-clause-kind c =
    let number : ℕ = c.in-Some.number in
    let small : number < 62 = subst IsTypeNumber c.in-Some.is c.requires in
    let bit : number + 2 ≡ suc (suc number) = omega arith in
    kinds_in-one (Typed number) c.kind_of_type.result (omega (arith, small)) (c.kind_of_type.ensures ∙ ap (λ n. 2 ^ n) bit) ∙ ap (λ t. kinds.kind_of_source t ∷ []) (sym c.in-Some.is)

pub returns-in-None-clause-kind : goal.returns-in-None-clause-kind
returns-in-None-clause-kind c = kinds_in-one Unmapped 1 (omega arith) refl ∙ ap (λ t. kinds.kind_of_source t ∷ []) (sym c.in-None.is)
