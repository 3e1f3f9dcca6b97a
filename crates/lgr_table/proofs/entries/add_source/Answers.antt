use Rattle.std.proofs.Common.{◌≡◌, ◌∷◌, [], ◌++◌, true, map, sym, ap, subst, ◌∙◌}
use Rattle.std.proofs.lemmas.Result.{err_from_is_err_and}
use Rattle.lgr_text.specs.Records.{entry}
use Rattle.lgr_text.specs.Repertoire.{may_be}
use Rattle.lgr_table.specs.Entries.{entry_with}
use Rattle.lgr_table.specs.Tables.{may_stand}
use Rattle.lgr_table.proofs.EntryLemmas.{form-added, source-kept, source-left}
use Rattle.lgr_table.proofs.SourceLemmas.{told-of-source, told-of-variants}
use Rattle.idn_class.specs.declared.properties.Properties.{Properties}
use Rattle.ruleset_text.specs.Definitions.{Definitions}
use Rattle.ruleset_text.specs.EntryForms.{mapped}
use Rattle.variant_table.specs.Entries.{Entry}
use Rattle.variant_table.specs.Forms.{entry_of}
use Rattle.lgr_table.proofs.entries.add_source.Goals as goal

pub returns-then-not-kept-clause-added : goal.returns-then-not-kept-clause-added
returns-then-not-kept-clause-added c =
    let t = c.args.builder.now in
    let s = c.args.source.now in
    let same : c.properties.result ≡ t.definitions.properties = c.properties.ensures ∙ ap (λ (d : Definitions). d.properties) c.definitions.ensures in
    source-left (may_stand t.definitions.properties) c.args.numbers.now (entry c.args.entry.now) s t
    (ap (λ (p : Properties). may_be (may_stand p) s) (sym same) ∙ sym c.in_ok-kept.ensures ∙ c.if-not-kept.true)

pub returns-in-Ok-clause-added : goal.returns-in-Ok-clause-added
returns-in-Ok-clause-added c =
    let t = c.args.builder.now in
    let s = c.args.source.now in
    let n = c.args.numbers.now in
    let e = entry c.args.entry.now in
    let may = may_stand t.definitions.properties in
    let ms = c.in_ok-mapped.mapped.items in
    let same : c.properties.result ≡ t.definitions.properties = c.properties.ensures ∙ ap (λ (d : Definitions). d.properties) c.definitions.ensures in
    let kept : may_be may s ≡ true = ap (λ (p : Properties). may_be (may_stand p) s) (sym same) ∙ sym c.in_ok-kept.ensures ∙ c.if-not-kept.false in
    let is : entry_of t.definitions (map mapped ms) ≡ entry_with may n e s =
    subst (λ (d : Definitions). entry_of d (map mapped ms) ≡ entry_with (may_stand d.properties) n e s) c.definitions-2.ensures c.in_ok-mapped.ensures.is in
    let added = form-added t c.add_entry.new.self (map mapped c.deref.result.now) c.in-Ok.ensures.added.1 in
    source-kept may n e s t c.add_entry.new.self kept
    (added ∙ ap (λ l. record t { entries = t.entries ++ entry_of t.definitions (map mapped l) ∷ [] }) c.deref.ensures.value
    ∙ ap (λ (x : Entry). record t { entries = t.entries ++ x ∷ [] }) is)
    c.in_ok-mapped.ensures.of_one_type

pub returns-clause-fault : goal.returns-clause-fault
returns-clause-fault c =
    let t = c.args.builder.now in
    let s = c.args.source.now in
    let n = c.args.numbers.now in
    let e = c.args.entry.now in
    let may = may_stand t.definitions.properties in
    let ms = c.in_ok-mapped.mapped.items in
    let is : entry_of t.definitions (map mapped ms) ≡ entry_with may n (entry e) s =
    subst (λ (d : Definitions). entry_of d (map mapped ms) ≡ entry_with (may_stand d.properties) n (entry e) s) c.definitions-2.ensures c.in_ok-mapped.ensures.is in
    told-of-source may n e t s (map mapped c.deref.result.now) _ c.not_added.result c.in-Err.ensures.added
    (ap (λ l. entry_of t.definitions (map mapped l)) c.deref.ensures.value ∙ is) c.not_added.ensures

pub returns-in_err-mapped-clause-fault : goal.returns-in_err-mapped-clause-fault
returns-in_err-mapped-clause-fault c =
    let t = c.args.builder.now in
    let s = c.args.source.now in
    let may = may_stand t.definitions.properties in
    let p = err_from_is_err_and c.from_residual-in_err-mapped.result c.from_residual-in_err-mapped.ensures.1 in
    let same : c.properties.result ≡ t.definitions.properties = c.properties.ensures ∙ ap (λ (d : Definitions). d.properties) c.definitions.ensures in
    let kept : may_be may s ≡ true = ap (λ (p : Properties). may_be (may_stand p) s) (sym same) ∙ sym c.in_ok-kept.ensures ∙ c.if-not-kept.false in
    rw (p.1, p.2) (told-of-variants may c.args.numbers.now c.args.entry.now t s c.in_err-mapped.field-0.0 kept c.in_err-mapped.ensures.fault)
