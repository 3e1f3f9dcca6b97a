use Rattle.std.proofs.Common.{◌≡◌, ◌+◌, length, sym, ap, ◌∙◌, arith}
use Rattle.std.proofs.lemmas.Option.{same_Some}
use Rattle.valid_labels.specs.Tests.{holds_in}
use Rattle.valid_labels.proofs.CauseLemmas.{holds-test}
use Rattle.valid_labels.proofs.longest.stands.Goals as goal

pub returns : goal.returns
returns c =
    let table = c.args.table.now in
    let label = c.args.label.now in
    let place = c.args.place in
    let e = c.args.entry.now in
    let condition : c.condition.result ≡ e.condition = sym (same_Some e.condition c.condition.result c.condition.ensures) in
    let end : place + length c.source.result.now ≡ place + length e.source = ap (λ s. place + length s) c.source.ensures in
    let l = c.requires.inside in
    let t = holds-test table label c.definitions.result.now c.args.seen.now c.condition.result place (place + length c.source.result.now) c.holds.result c.definitions.ensures.is c.requires.seen (omega (arith, l)) (omega (arith, l, end)) c.holds.ensures in
    t ∙ ap (λ x. holds_in table label x place (place + length c.source.result.now)) condition ∙ ap (holds_in table label e.condition place) end
