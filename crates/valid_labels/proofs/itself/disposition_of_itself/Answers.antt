use Rattle.std.proofs.Common.{◌≡◌, List, length, sym, ap, subst, ◌∙◌, arith}
use Rattle.std.specs.Prelude.{IfSome, IsSome, ◌↔◌}
use Rattle.reading_kinds.specs.Readings.{AreSubstitutions, Substitution, SubstitutionsSpell}
use Rattle.variant_dispositions.specs.declared.action.Action.{Action}
use Rattle.variant_dispositions.specs.Readings.{IsTold}
use Rattle.valid_labels.specs.Actions.{AskedRules, actions_of, matches, matches_rule}
use Rattle.valid_labels.specs.Staying.{staying_of}
use Rattle.valid_labels.proofs.ItselfLemmas.{told-value}
use Rattle.valid_labels.proofs.StayingLemmas.{AreSubstitutions-staying, length-staying}
use Rattle.valid_labels.proofs.itself.disposition_of_itself.Goals as goal

pub new-requires-clause-substitutions : goal.new-requires-clause-substitutions
new-requires-clause-substitutions c = subst AreSubstitutions (sym c.in_ok-substitutions.ensures) (AreSubstitutions-staying c.args.table.now c.args.label.now c.recall_soundness.ensures.entries)

pub new-requires-clause-short : goal.new-requires-clause-short
new-requires-clause-short c =
    let table = c.args.table.now in
    let label = c.args.label.now in
    let size : length c.in_ok-substitutions.substitutions ≡ length label = ap (λ (us : List (List Substitution)). length us) c.in_ok-substitutions.ensures ∙ length-staying table label (length label) 0 in
    let short = c.requires.short in
    omega (arith, size, short)

pub returns : goal.returns
returns c =
    let table = c.args.table.now in
    let label = c.args.label.now in
    let told = c.disposition_of_variant.result in
    let readings = c.in_ok-readings.readings in
    let same : readings ≡ staying_of table label = c.in_ok-readings.ensures ∙ c.in_ok-substitutions.ensures in
    told-value table label c.recall_soundness.ensures told
    (subst (λ (us : List (List Substitution)). IsSome told ↔ SubstitutionsSpell us label) same c.disposition_of_variant.ensures.spelled)
    (subst (λ (us : List (List Substitution)). IfSome told (IsTold (matches_rule table label) (actions_of table.definitions) us label)) same
    (subst (λ (actions : List Action). IfSome told (IsTold (matches_rule table label) actions readings label)) c.requires.actions
    (subst (λ (r : AskedRules). IfSome told (IsTold (matches r) c.args.actions.now readings label)) c.requires.rules c.disposition_of_variant.ensures.told)))
