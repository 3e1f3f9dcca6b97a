use Rattle.std.proofs.Common.{◌≡◌, Some}
use Rattle.std.specs.Prelude.{option_and_then}
use Rattle.std.proofs.lemmas.Result.{err_from_is_err_and}
use Rattle.lgr_text.specs.Documents.{prefix_of}
use Rattle.lgr_text.specs.inner.Roots.{root_attributes}
use Rattle.lgr_text.proofs.DocumentLemmas.{err-prefix, err-nesting, err-sizes, root-read}
use Rattle.lgr_text.proofs.NestingLemmas.{nested-said}
use Rattle.lgr_text.proofs.WellFormedLemmas.{read-well}
use Rattle.lgr_text.proofs.documents.read_ruleset.Goals as goal

pub returns-in_err-prefix-clause-says : goal.returns-in_err-prefix-clause-says
returns-in_err-prefix-clause-says c =
    let p = err_from_is_err_and c.from_residual.result c.from_residual.ensures.1 in
    rw (p.1, p.2) (err-prefix c.args.tokens.now _ (c.in_err-prefix.ensures {u = tt}))

pub returns-in_err-check_nesting-clause-says : goal.returns-in_err-check_nesting-clause-says
returns-in_err-check_nesting-clause-says c =
    let p = err_from_is_err_and c.from_residual-in_err-check_nesting.result c.from_residual-in_err-check_nesting.ensures.1 in
    let declared : option_and_then prefix_of (root_attributes c.args.tokens.now) ≡ Some c.in_ok-prefix.prefix.items = c.in_ok-prefix.ensures {u = tt} in
    rw (p.1, p.2) (err-nesting c.args.tokens.now c.in_ok-prefix.prefix.items _ declared (rw c.deref.ensures.value at (c.in_err-check_nesting.ensures {u = tt})))

pub returns-in_err-check_sizes-clause-says : goal.returns-in_err-check_sizes-clause-says
returns-in_err-check_sizes-clause-says c =
    let p = err_from_is_err_and c.from_residual-in_err-check_sizes.result c.from_residual-in_err-check_sizes.ensures.1 in
    rw (p.1, p.2) (err-sizes c.args.tokens.now _ (c.in_err-check_sizes.ensures {u = tt}))

pub returns-clause-says : goal.returns-clause-says
returns-clause-says c =
    let declared : option_and_then prefix_of (root_attributes c.args.tokens.now) ≡ Some c.in_ok-prefix.prefix.items = c.in_ok-prefix.ensures {u = tt} in
    let nested = nested-said c.in_ok-prefix.prefix.items c.args.tokens.now (rw c.deref.ensures.value at (c.in_ok-check_nesting.ensures {u = tt})) in
    root-read c.args.tokens.now c.in_ok-prefix.prefix.items nested.0 c.read_root.result declared nested.1 (c.read_root.ensures nested.0 (rw c.deref.ensures.value nested.1))

pub returns-clause-well_formed : goal.returns-clause-well_formed
returns-clause-well_formed c =
    let declared : option_and_then prefix_of (root_attributes c.args.tokens.now) ≡ Some c.in_ok-prefix.prefix.items = c.in_ok-prefix.ensures {u = tt} in
    let nested = nested-said c.in_ok-prefix.prefix.items c.args.tokens.now (rw c.deref.ensures.value at (c.in_ok-check_nesting.ensures {u = tt})) in
    read-well c.args.tokens.now c.read_root.result
    (root-read c.args.tokens.now c.in_ok-prefix.prefix.items nested.0 c.read_root.result declared nested.1 (c.read_root.ensures nested.0 (rw c.deref.ensures.value nested.1)))
