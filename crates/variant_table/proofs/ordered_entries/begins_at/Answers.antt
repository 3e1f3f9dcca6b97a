use Rattle.std.proofs.Common.{◌≡◌, ◌∙◌, ◌&&◌, length, ap, sym}
use Rattle.std.specs.Prelude.{nat_eq}
use Rattle.std.specs.List.{starts_with}
use Rattle.std.proofs.lemmas.Bool.{lt-ltb}
use Rattle.variant_table.specs.inner.Order.{source_at}
use Rattle.variant_table.proofs.OrderLemmas.{number_below, source-read}
use Rattle.variant_table.proofs.ordered_entries.begins_at.Goals as goal

pub get-requires : goal.get-requires
get-requires c = number_below c.args.entries.now c.args.order.now c.requires c.args.place c.if-place-order.true

pub returns-then-place-order : goal.returns-then-place-order
returns-then-place-order c =
    let source : source_at c.args.entries.now c.args.order.now c.args.place ≡ c.source.result.now = source-read c.args.entries.now c.args.order.now c.args.place c.get.result c.get.ensures ∙ sym c.source.ensures in
    c.begins_with.ensures ∙ ap (λ s. starts_with nat_eq s c.args.sequence.now) (sym source)
    ∙ ap (λ b. b && starts_with nat_eq (source_at c.args.entries.now c.args.order.now c.args.place) c.args.sequence.now) (sym (lt-ltb c.args.place (length c.args.order.now) c.if-place-order.true))
