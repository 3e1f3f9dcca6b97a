use Rattle.std.proofs.Common.{Some, sym, ap, ◌∙◌}
use Rattle.variant_dispositions.specs.Kinds.{kinds_in}
use Rattle.variant_dispositions.specs.Actions.{has_types}
use Rattle.variant_dispositions.proofs.TypeLemmas.{all-none, all-some, any-met, only-met}
use Rattle.variant_dispositions.proofs.action.TypeTrigger.is_met.Goals as goal

pub returns-in-Any : goal.returns-in-Any
returns-in-Any c = any-met c.args.kinds c.in-Any.types c.ranges.kinds.fits ∙ ap (λ types. has_types (Some types) (kinds_in c.args.kinds)) (sym c.in-Any.is)

pub returns-then-mapped-ne0 : goal.returns-then-mapped-ne0
returns-then-mapped-ne0 c = all-some c.args.kinds c.in-All.types c.ranges.kinds.fits c.if-mapped-ne0.true ∙ ap (λ types. has_types (Some types) (kinds_in c.args.kinds)) (sym c.in-All.is)

pub returns-else-mapped-ne0 : goal.returns-else-mapped-ne0
returns-else-mapped-ne0 c = all-none c.args.kinds c.in-All.types c.ranges.kinds.fits c.if-mapped-ne0.false ∙ ap (λ types. has_types (Some types) (kinds_in c.args.kinds)) (sym c.in-All.is)

pub returns-in-Only : goal.returns-in-Only
returns-in-Only c = only-met c.args.kinds c.in-Only.types c.ranges.kinds.fits ∙ ap (λ types. has_types (Some types) (kinds_in c.args.kinds)) (sym c.in-Only.is)
