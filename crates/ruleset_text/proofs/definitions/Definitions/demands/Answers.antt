use Rattle.std.proofs.Common.{length, subst}
use Rattle.std.specs.List.{AllByRecursion}
use Rattle.label_patterns.specs.Matches.{HasItsSets}
use Rattle.ruleset_text.specs.Definitions.{Definitions}
use Rattle.ruleset_text.specs.inner.Held.{held}
use Rattle.ruleset_text.proofs.KnownPatternLemmas.{demands_known}
use Rattle.ruleset_text.proofs.definitions.Definitions.demands.Goals as goal

pub returns-clause-known : goal.returns-clause-known
returns-clause-known c =
    let P : Definitions → Type 0 = λ d. AllByRecursion (λ e. HasItsSets (length d.sets) e.pattern) d.demands in
    subst P c.self.view_is (demands_known (held c.self.inside) c.self.invariant.without_fault)
