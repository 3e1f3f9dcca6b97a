use Rattle.std.proofs.Common.{List, map, take, refl, subst, ◌∙◌}
use Rattle.std.proofs.lemmas.List.{take_all}
use Rattle.std.proofs.lemmas.Result.{err_from_is_err_and}
use Rattle.std.proofs.lemmas.List.Elements.{All-nil}
use Rattle.lgr_text.specs.Records.{variant}
use Rattle.lgr_text.specs.Records as lgr
use Rattle.lgr_text.specs.Repertoire.{is_reflexive}
use Rattle.lgr_table.proofs.CalledLemmas.{HasOne, mapped-more, one-at-most, one-more}
use Rattle.lgr_table.proofs.VariantLemmas.{told-reflexive}
use Rattle.lgr_table.proofs.mapped.check_reflexive.Goals as goal

pub loop-variant-init : goal.loop-variant-init
loop-variant-init c = record { count = refl; bare = All-nil _ }

pub loop-variant-preserved : goal.loop-variant-preserved
loop-variant-preserved c =
    let p = is_reflexive c.args.source.now in
    let xs = c.deref-variant-items.result.now in
    let i = c.loop-variant.variant-index in
    let this = c.variant-item.result in
    subst (λ (l : List lgr.Variant). HasOne p l c.in_ok-now.now) (mapped-more variant xs i this c.loop-variant-test.true c.variant-item.is)
    (one-more p (map variant (take i xs)) (variant this) c.loop-variant.found c.in_ok-now.now c.loop-variant.invariant
    c.in_ok-now.ensures.found c.in_ok-now.ensures.alone c.in_ok-now.ensures.bare)

pub returns-in_err-now-clause-fault : goal.returns-in_err-now-clause-fault
returns-in_err-now-clause-fault c =
    let p = err_from_is_err_and c.from_residual.result c.from_residual.ensures.1 in
    rw (p.1, p.2) (told-reflexive c.args.entry.now c.args.source.now c.deref-variant-items.result.now c.loop-variant.variant-index c.variant-item.result
    c.loop-variant.found c.in_err-now.field-0.0 c.deref-variant-items.ensures.value c.loop-variant-test.true c.variant-item.is
    c.loop-variant.invariant c.in_err-now.ensures.fault)

pub returns-clause-of_one_type : goal.returns-clause-of_one_type
returns-clause-of_one_type c =
    let p = is_reflexive c.args.source.now in
    let xs = c.deref-variant-items.result.now in
    let ys = c.args.entry.now.variants.items in
    let all : HasOne p (map variant ys) c.loop-variant.found =
    subst (λ l. HasOne p (map variant l) c.loop-variant.found) (take_all c.loop-variant.variant-index xs c.loop-variant-test.false ∙ c.deref-variant-items.ensures.value) c.loop-variant.invariant in
    (one-at-most p (map variant ys) c.loop-variant.found all, all.bare)
