use Rattle.std.proofs.Common.{Ok, sym, ap, ◌∙◌}
use Rattle.ruleset_text.specs.Definition.{definition_of}
use Rattle.ruleset_text.specs.Definitions.{with_definition}
use Rattle.ruleset_text.specs.DefinitionTrees as trees
use Rattle.ruleset_text.specs.PlacedLexemes.{unplaced}
use Rattle.ruleset_text.proofs.DefineFaultLemmas.{check_told, read_after, stop_told, told_found}
use Rattle.ruleset_text.proofs.DefineLemmas.{may_be_added, no_fault}
use Rattle.ruleset_text.proofs.definitions.Definitions.define.Goals as goal

pub returns-in_err-read-clause-read : goal.returns-in_err-read-clause-read
returns-in_err-read-clause-read c =
    stop_told c.args.limit c.earlier.result.sets.now c.args.self.now c.args.line.keyword c.args.line.end c.args.line.after c.in_err-read.field-0.0 c.from_residual.result (ap (λ k. k.sets) c.earlier.ensures.known)
    c.from_residual.ensures.0 c.from_residual.ensures.1 (c.in_err-read.ensures {u = tt})

pub check-requires-clause-found : goal.check-requires-clause-found
check-requires-clause-found c =
    let read = read_after c.args.line c.earlier.ensures (c.in_ok-read.ensures {u = tt}) in told_found read.told c.found.ensures

pub returns-in-Err-clause-read : goal.returns-in-Err-clause-read
returns-in-Err-clause-read c =
    let read = read_after c.args.line c.earlier.ensures (c.in_ok-read.ensures {u = tt}) in
    check_told c.args.limit c.args.self.now c.args.line.keyword (unplaced c.args.line.after) c.in-Err.fault c.place_of.result c.at.ensures
    (ap (with_definition c.args.limit c.args.self.now) read.spelled ∙ c.in-Err.ensures)

pub add-requires-clause-without_fault : goal.add-requires-clause-without_fault
add-requires-clause-without_fault c =
    let read = read_after c.args.line c.earlier.ensures (c.in_ok-read.ensures {u = tt}) in
    let may = may_be_added c.args.limit c.args.self.now (trees.definition c.in_ok-read.read.definition) c.earlier.ensures.without_fault read.form c.in_default.ensures in may.without_fault

pub returns-clause-read : goal.returns-clause-read
returns-clause-read c =
    let read = read_after c.args.line c.earlier.ensures (c.in_ok-read.ensures {u = tt}) in
    no_fault c.args.limit c.args.self.now (definition_of c.args.self.now.set_names c.args.line.keyword (unplaced c.args.line.after)) (trees.definition c.in_ok-read.read.definition) read.spelled c.in_default.ensures
    ∙ ap (λ e. Ok e) (sym (c.in_ok-add.ensures {u = tt}).ok)
