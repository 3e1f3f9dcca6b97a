use Rattle.std.proofs.Common.{List, ℕ, [], map, take, subst}
use Rattle.std.specs.List.{Contains, flat_map}
use Rattle.std.proofs.lemmas.List.{take_all}
use Rattle.std.proofs.lemmas.List.Elements.{All-append, All-nil}
use Rattle.std.proofs.lemmas.Result.{err_from_is_err_and}
use Rattle.lgr_text.specs.Records.{variant}
use Rattle.lgr_text.specs.Records as lgr
use Rattle.lgr_text.specs.Names.{asked}
use Rattle.lgr_table.specs.inner.Steps.{AreAmong}
use Rattle.lgr_table.proofs.TypeLemmas.{pieces-more}
use Rattle.lgr_text.specs.declared.records.Variant.{Variant}
use Rattle.lgr_table.specs.Faults.{given}
use Rattle.lgr_table.proofs.FaultLemmas.{in-flat, is-read}
use Rattle.lgr_table.proofs.entries.check_rules_of_variants.Goals as goal

pub loop-variant-init : goal.loop-variant-init
loop-variant-init c = All-nil (Contains c.args.numbers.now.rules)

pub loop-variant-preserved : goal.loop-variant-preserved
loop-variant-preserved c =
    let rules = c.args.numbers.now.rules in
    let f : lgr.Variant → List (List ℕ) = λ v. asked v.condition in
    let xs = c.args.variants.now in
    let i = c.loop-variant.variant-index in
    let this = c.variant-item.result in
    subst (AreAmong rules) (pieces-more f variant [] xs i this c.loop-variant-test.true c.variant-item.is)
    (All-append (Contains rules) (flat_map f (map variant (take i xs))) (f (variant this)) c.loop-variant.invariant c.in_ok-check_rule.ensures.among)

pub returns-clause-among : goal.returns-clause-among
returns-clause-among c =
    let rules = c.args.numbers.now.rules in
    let f : lgr.Variant → List (List ℕ) = λ v. asked v.condition in
    subst (λ l. AreAmong rules (flat_map f (map variant l))) (take_all c.loop-variant.variant-index c.args.variants.now c.loop-variant-test.false) c.loop-variant.invariant

pub returns-in_err-check_rule-clause-fault : goal.returns-in_err-check_rule-clause-fault
returns-in_err-check_rule-clause-fault c = λ may r all has.
    let p = err_from_is_err_and c.from_residual.result c.from_residual.ensures.1 in
    let xs = c.args.variants.now in
    let this = c.variant-item.result in
    let read = is-read xs c.loop-variant.variant-index this c.loop-variant-test.true c.variant-item.is in
    rw (p.1, p.2) (c.in_err-check_rule.ensures.fault may r (λ k h. all k (in-flat (λ (v : Variant). given v.condition) xs this k read h)) has)
