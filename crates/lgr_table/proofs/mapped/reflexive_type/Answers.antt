use Rattle.std.proofs.Common.{◌≡◌, ◌+◌, ◌∷◌, ◌++◌, Some, Option, drop, map, take, sym, ap, ◌∙◌}
use Rattle.std.specs.List.{find}
use Rattle.std.specs.Option.{option_and_then}
use Rattle.std.proofs.lemmas.List.{drop_more, take-append-drop}
use Rattle.lgr_text.specs.Records.{variant}
use Rattle.lgr_text.specs.Records as lgr
use Rattle.lgr_text.specs.Repertoire.{is_reflexive}
use Rattle.lgr_table.specs.Numbers.{type_number}
use Rattle.lgr_table.proofs.CalledLemmas.{find-first, find-none, mapped-more}
use Rattle.lgr_table.proofs.mapped.reflexive_type.Goals as goal

pub returns-then-is_reflexive : goal.returns-then-is_reflexive
returns-then-is_reflexive c =
    let vs = c.args.variants.now in
    let i = c.loop-variant.variant-index in
    let this = c.variant-item.result in
    let p = is_reflexive c.args.source.now in
    let all : vs ≡ take i vs ++ this ∷ drop (i + 1) vs =
    sym (take-append-drop i vs) ∙ ap (λ l. take i vs ++ l) (drop_more vs i this c.loop-variant-test.true ∙ ap (λ v. v ∷ drop (i + 1) vs) (sym c.variant-item.is)) in
    let found : find p (map variant vs) ≡ Some (variant this) =
    ap (λ l. find p (map variant l)) all
    ∙ find-first p variant (take i vs) this (drop (i + 1) vs) c.loop-variant.invariant (sym c.is_reflexive.ensures ∙ c.if-is_reflexive.true) in
    c.type_number.ensures ∙ sym (ap (λ (o : Option lgr.Variant). option_and_then (λ (v : lgr.Variant). type_number c.args.numbers.now v.type_name) o) found)

pub loop-variant-preserved : goal.loop-variant-preserved
loop-variant-preserved c =
    let vs = c.args.variants.now in
    let i = c.loop-variant.variant-index in
    let this = c.variant-item.result in
    let p = is_reflexive c.args.source.now in
    ap (find p) (sym (mapped-more variant vs i this c.loop-variant-test.true c.variant-item.is))
    ∙ find-none p (map variant (take i vs)) (variant this) c.loop-variant.invariant (sym c.is_reflexive.ensures ∙ c.if-is_reflexive.false)
