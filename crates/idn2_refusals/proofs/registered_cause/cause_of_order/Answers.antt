use Rattle.std.proofs.Common.{◌-◌, ◌∙◌, Some, None, ap}
use Rattle.idn2_refusals.specs.WrongLines.{points_at}
use Rattle.idn2_refusals.proofs.WrongLineLemmas.{order_told, shared_is}
use Rattle.idn2_refusals.proofs.registered_cause.cause_of_order.Goals as goal

pub returns-in-Some : goal.returns-in-Some
returns-in-Some c =
    let text = c.args.text.now in
    let before = c.as_slice-2.ensures.value ∙ c.read_label.ensures ∙ ap (points_at text) c.saturating_sub.ensures in
    let label = c.as_slice.ensures.value ∙ c.read_label-2.ensures in
    let again = c.as_slice-3.ensures.value ∙ c.read_label-2.ensures in
    order_told (points_at text (c.args.number - 1)) (points_at text c.args.number) _ _ _ c.shared_len-place.result (Some c.in-Some.point) before label again (shared_is _ _ c.shared_len-place.result c.shared_len-place.ensures.same c.shared_len-place.ensures.within_a c.shared_len-place.ensures.within_b c.shared_len-place.ensures.longest) c.in-Some.ensures

pub returns-in-None : goal.returns-in-None
returns-in-None c =
    let text = c.args.text.now in
    let before = c.as_slice-2.ensures.value ∙ c.read_label.ensures ∙ ap (points_at text) c.saturating_sub.ensures in
    let label = c.as_slice.ensures.value ∙ c.read_label-2.ensures in
    let again = c.as_slice-3.ensures.value ∙ c.read_label-2.ensures in
    order_told (points_at text (c.args.number - 1)) (points_at text c.args.number) _ _ _ c.shared_len-place.result None before label again (shared_is _ _ c.shared_len-place.result c.shared_len-place.ensures.same c.shared_len-place.ensures.within_a c.shared_len-place.ensures.within_b c.shared_len-place.ensures.longest) c.in-None.ensures
