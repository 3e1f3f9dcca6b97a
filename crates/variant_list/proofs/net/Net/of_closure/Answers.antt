use Rattle.std.proofs.Common.{◌≤◌, ℕ, List, length, get_or, subst, sym, ap, ◌∙◌, arith}
use Rattle.std.specs.Prelude.{not}
use Rattle.std.proofs.lemmas.List.Elements.{Contains-get_or}
use Rattle.reading_kinds.specs.Readings.{Substitution, AreSubstitutions}
use Rattle.variant_table.specs.Entries.{TableValue}
use Rattle.variant_list.specs.Reversed.{Group}
use Rattle.variant_list.specs.inner.NearSubstitutions.{near_from}
use Rattle.variant_list.specs.inner.Plans.{Plan}
use Rattle.variant_list.specs.inner.NetPlans.{IsNet, IsNetOf, spelled_of}
use Rattle.variant_list.proofs.NetLabels.{IsNet-substitutions, none-substitutions, spelled-substitutions}
use Rattle.variant_list.proofs.NearLemmas.{SubstitutionsSpell-near, AreSubstitutions-near, AreNear-scalar, length-near_from}
use Rattle.variant_list.proofs.net.Net.of_closure.Goals as goal

pub lay_out-requires : goal.lay_out-requires
lay_out-requires c =
    subst AreSubstitutions (sym c.in_ok-substitutions.ensures)
    (AreSubstitutions-near c.args.table.now c.args.reversed.now c.len-entries.ensures.well_formed c.requires.reversed c.args.label.now c.requires.few)

pub returns-then-is_none-clause-nothing_spelled : goal.returns-then-is_none-clause-nothing_spelled
returns-then-is_none-clause-nothing_spelled c e w near =
    let table : TableValue = c.args.table.now in
    let groups : List Group = c.args.reversed.now in
    let label : List ℕ = c.args.label.now in
    let all : List (List Substitution) = near_from table groups label 0 (length label) in
    let net : IsNetOf all c.in_ok-closure.closure = subst (λ us. IsNetOf us c.in_ok-closure.closure) c.in_ok-substitutions.ensures c.in_ok-closure.ensures in
    none-substitutions all c.in_ok-closure.closure net c.shortest.result c.shortest.ensures (c.is_none.ensures ∙ ap not c.if-is_none.true) w
    ((SubstitutionsSpell-near table groups c.len-entries.ensures.well_formed c.requires.reversed label w).1 near)

pub invariant_of-result : goal.invariant_of-result
invariant_of-result c =
    let table : TableValue = c.args.table.now in
    let groups : List Group = c.args.reversed.now in
    let label : List ℕ = c.args.label.now in
    let formed = c.len-entries.ensures.well_formed in
    let all : List (List Substitution) = near_from table groups label 0 (length label) in
    let net : IsNetOf all c.in_ok-closure.closure = subst (λ us. IsNetOf us c.in_ok-closure.closure) c.in_ok-substitutions.ensures c.in_ok-closure.ensures in
    let short : length all ≤ 63 = omega (arith, length-near_from table groups formed c.requires.reversed label 0 (length label), c.requires.short) in
    IsNet-substitutions all c.in_ok-closure.closure net c.shortest.result (AreSubstitutions-near table groups formed c.requires.reversed label c.requires.few) short c.shortest.ensures c.if-is_none.ensures

pub returns-clause-near : goal.returns-clause-near
returns-clause-near c w =
    let table : TableValue = c.args.table.now in
    let groups : List Group = c.args.reversed.now in
    let label : List ℕ = c.args.label.now in
    let formed = c.len-entries.ensures.well_formed in
    let all : List (List Substitution) = near_from table groups label 0 (length label) in
    let net : IsNetOf all c.in_ok-closure.closure = subst (λ us. IsNetOf us c.in_ok-closure.closure) c.in_ok-substitutions.ensures c.in_ok-closure.ensures in
    let short : length all ≤ 63 = omega (arith, length-near_from table groups formed c.requires.reversed label 0 (length label), c.requires.short) in
    let is : IsNet c.in_ok-closure.closure = IsNet-substitutions all c.in_ok-closure.closure net c.shortest.result (AreSubstitutions-near table groups formed c.requires.reversed label c.requires.few) short c.shortest.ensures c.if-is_none.ensures in
    let own = spelled-substitutions all c.in_ok-closure.closure net is w in
    let near = SubstitutionsSpell-near table groups formed c.requires.reversed label w in
    (λ m. near.0 (own.0 m), λ n. own.1 (near.1 n))

pub returns-clause-scalar_values : goal.returns-clause-scalar_values
returns-clause-scalar_values c = λ k d l.
    let table : TableValue = c.args.table.now in
    let groups : List Group = c.args.reversed.now in
    let label : List ℕ = c.args.label.now in
    let formed = c.len-entries.ensures.well_formed in
    let plan : Plan = c.in_ok-closure.closure in
    let all : List (List Substitution) = near_from table groups label 0 (length label) in
    let net : IsNetOf all plan = subst (λ us. IsNetOf us plan) c.in_ok-substitutions.ensures c.in_ok-closure.ensures in
    let short : length all ≤ 63 = omega (arith, length-near_from table groups formed c.requires.reversed label 0 (length label), c.requires.short) in
    let is : IsNet plan = IsNet-substitutions all plan net c.shortest.result (AreSubstitutions-near table groups formed c.requires.reversed label c.requires.few) short c.shortest.ensures c.if-is_none.ensures in
    let w : List ℕ = get_or (spelled_of plan) k d in
    let own = spelled-substitutions all plan net is w in
    AreNear-scalar table formed label w ((SubstitutionsSpell-near table groups formed c.requires.reversed label w).0 (own.0 (Contains-get_or (spelled_of plan) k d l)))
