use Rattle.std.proofs.Common.{◌≡◌, ap, subst, ◌∙◌}
use Rattle.idn_class.specs.declared.properties.Properties.{Properties}
use Rattle.lgr_text.specs.Records.{file}
use Rattle.lgr_table.specs.TableNames.{FileNames}
use Rattle.lgr_table.specs.Tables.{may_stand}
use Rattle.lgr_table.specs.inner.Steps.{AreFileTypes}
use Rattle.lgr_table.specs.Entries.{needs_type}
use Rattle.lgr_table.specs.Numbers.{types_of}
use Rattle.lgr_table.specs.inner.TableNames.{DefinesTypes}
use Rattle.lgr_table.specs.inner.TypeSteps.{TellsTypes}
use Rattle.std.proofs.lemmas.Result.{err_from_is_err_and}
use Rattle.lgr_table.proofs.TableNameLemmas.{names-with}
use Rattle.ruleset_text.specs.Definitions.{Definitions}
use Rattle.lgr_table.proofs.types.define_types.Goals as goal

pub returns-clause-added : goal.returns-clause-added
returns-clause-added c =
    let t = c.args.builder.now in
    let r = c.args.«ruleset».now in
    let types = c.in_ok-types.types.items in
    let same : c.properties.result ≡ t.definitions.properties =
    c.properties.ensures ∙ ap (λ (d : Definitions). d.properties) c.definitions.ensures in
    let defines =
    subst (λ (n : FileNames). DefinesTypes n t c.define_each.new.builder)
    (names-with types c.deref.result.now c.deref-2.result.now r c.deref.ensures.value c.deref-2.ensures.value) c.in_ok-define_each.ensures in
    record {
      others = defines.others;
      are = subst (λ (p : Properties). AreFileTypes (may_stand p) (file r) types) same c.in_ok-types.ensures.types;
      called = defines.called;
    }

pub returns-in_err-types-clause-fault : goal.returns-in_err-types-clause-fault
returns-in_err-types-clause-fault c =
    let p = err_from_is_err_and c.from_residual.result c.from_residual.ensures.1 in
    let r = file c.args.«ruleset».now in
    let same : c.properties.result ≡ c.args.builder.now.definitions.properties =
    c.properties.ensures ∙ ap (λ (d : Definitions). d.properties) c.definitions.ensures in
    rw (p.1, p.2) (subst (λ (q : Properties). TellsTypes (needs_type (may_stand q) r.entries) (types_of r) c.in_err-types.field-0.0) same
    c.in_err-types.ensures.fault)
