use Rattle.std.proofs.Common.{sym, ap, ◌∙◌}
use Rattle.lgr_text.specs.Records.{variant}
use Rattle.lgr_text.specs.Repertoire.{may_be}
use Rattle.lgr_table.specs.Tables.{may_stand}
use Rattle.lgr_table.specs.inner.Wanted.{is_wanted}
use Rattle.lgr_table.proofs.KeptLemmas.{first-fails, keeps-alone, last-fails, only-second}
use Rattle.lgr_table.proofs.untyped.is_kept_of.Goals as goal

pub returns-then-not-is : goal.returns-then-not-is
returns-then-not-is c =
    let may = may_stand c.args.properties in
    let s = c.args.source.now in
    let v = variant c.args.variant.now in
    last-fails (may_be may s) (may_be may v.points) (is_wanted c.args.wanted s v) (sym c.is.ensures ∙ c.if-not-is.true)
    ∙ sym (keeps-alone may c.args.wanted v s)

pub returns-then-not-stands : goal.returns-then-not-stands
returns-then-not-stands c =
    let may = may_stand c.args.properties in
    let s = c.args.source.now in
    let v = variant c.args.variant.now in
    first-fails (may_be may s) (may_be may v.points) (is_wanted c.args.wanted s v) (sym c.in_ok-stands.ensures ∙ c.if-not-stands.true)
    ∙ sym (keeps-alone may c.args.wanted v s)

pub returns : goal.returns
returns c =
    let may = may_stand c.args.properties in
    let s = c.args.source.now in
    let v = variant c.args.variant.now in
    c.in_ok-kept.ensures ∙ ap (may_be may) c.deref.ensures.value
    ∙ only-second (may_be may s) (may_be may v.points) (is_wanted c.args.wanted s v) (sym c.in_ok-stands.ensures ∙ c.if-not-stands.false)
    (sym c.is.ensures ∙ c.if-not-is.false)
    ∙ sym (keeps-alone may c.args.wanted v s)
