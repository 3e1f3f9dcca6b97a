use Rattle.std.proofs.lemmas.Result.{err_from_is_err_and}
use Rattle.lgr_text.specs.Records.{entry}
use Rattle.lgr_table.specs.Tables.{may_stand}
use Rattle.lgr_table.proofs.EntryLemmas.{entry-added}
use Rattle.lgr_table.proofs.SourceLemmas.{stands-there, told-entry}
use Rattle.lgr_table.proofs.entries.add_entry.Goals as goal

pub returns-clause-added : goal.returns-clause-added
returns-clause-added c =
    let t = c.args.builder.now in
    entry-added (may_stand t.definitions.properties) c.args.numbers.now (entry c.args.entry.now) t c.add_sources.new.builder
    c.in_ok-add_sources.ensures.added c.in_ok-check_rules.ensures.among

pub returns-in_err-check_rules-clause-fault : goal.returns-in_err-check_rules-clause-fault
returns-in_err-check_rules-clause-fault c = λ r before after t all has defined.
    let p = err_from_is_err_and c.from_residual.result c.from_residual.ensures.1 in
    let may = may_stand c.args.builder.now.definitions.properties in
    rw (p.1, p.2) (c.in_err-check_rules.ensures.fault may r (stands-there r before after c.args.entry.now all) defined.rules)

pub returns-in_err-add_sources-clause-fault : goal.returns-in_err-add_sources-clause-fault
returns-in_err-add_sources-clause-fault c = λ r before after t all has defined.
    let p = err_from_is_err_and c.from_residual-in_err-add_sources.result c.from_residual-in_err-add_sources.ensures.1 in
    let may = may_stand c.args.builder.now.definitions.properties in
    rw (p.1, p.2) (told-entry may r c.args.numbers.now before after c.args.entry.now t c.args.builder.now _ all has defined c.in_err-add_sources.ensures.fault)
