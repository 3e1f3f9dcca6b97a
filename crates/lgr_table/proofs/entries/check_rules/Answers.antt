use Rattle.std.proofs.Common.{List, ℕ, map, subst}
use Rattle.std.specs.List.{Contains, flat_map}
use Rattle.std.specs.Option.{option_map}
use Rattle.std.proofs.lemmas.List.Elements.{All-append, Contains-append_left, Contains-append_right}
use Rattle.std.proofs.lemmas.Result.{err_from_is_err_and}
use Rattle.lgr_text.specs.Records.{condition, variant}
use Rattle.lgr_text.specs.Records as lgr
use Rattle.lgr_text.specs.declared.records.Variant.{Variant}
use Rattle.lgr_table.specs.Faults.{given}
use Rattle.lgr_table.proofs.FaultLemmas.{of-entry}
use Rattle.lgr_text.specs.Names.{asked}
use Rattle.lgr_table.specs.inner.Steps.{AreAmong}
use Rattle.lgr_table.proofs.entries.check_rules.Goals as goal

pub returns-clause-among : goal.returns-clause-among
returns-clause-among c =
    let rules = c.args.numbers.now.rules in
    let e = c.args.entry.now in
    let f : lgr.Variant → List (List ℕ) = λ v. asked v.condition in
    All-append (Contains rules) (asked (option_map condition e.condition)) (flat_map f (map variant e.variants.items)) c.in_ok-check_rule.ensures.among
    (subst (λ l. AreAmong rules (flat_map f (map variant l))) c.deref.ensures.value c.in_ok-check_rules_of_variants.ensures.among)

pub returns-in_err-check_rule-clause-fault : goal.returns-in_err-check_rule-clause-fault
returns-in_err-check_rule-clause-fault c = λ may r among has.
    let p = err_from_is_err_and c.from_residual.result c.from_residual.ensures.1 in
    let e = c.args.entry.now in
    rw (p.1, p.2) (c.in_err-check_rule.ensures.fault may r
    (λ k h. of-entry r e among k (Contains-append_left (given e.condition) (flat_map (λ (v : Variant). given v.condition) e.variants.items) k h)) has)

pub returns-in_err-check_rules_of_variants-clause-fault : goal.returns-in_err-check_rules_of_variants-clause-fault
returns-in_err-check_rules_of_variants-clause-fault c = λ may r among has.
    let p = err_from_is_err_and c.from_residual-in_err-check_rules_of_variants.result c.from_residual-in_err-check_rules_of_variants.ensures.1 in
    let e = c.args.entry.now in
    rw (p.1, p.2) (c.in_err-check_rules_of_variants.ensures.fault may r
    (λ k h. of-entry r e among k (Contains-append_right (given e.condition) (flat_map (λ (v : Variant). given v.condition) e.variants.items) k
    (subst (λ l. Contains (flat_map (λ (v : Variant). given v.condition) l) k) c.deref.ensures.value h))) has)
