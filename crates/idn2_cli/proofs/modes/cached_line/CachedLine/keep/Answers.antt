use Rattle.std.proofs.Common.{◌≡◌, ℕ, List, take, min, sym, subst, arith}
use Rattle.idn2_cli.specs.inner.CachedLines.{IsBegun}
use Rattle.idn2_cli.proofs.CachedLineLemmas.{IsBegun-keep}
use Rattle.idn2_cli.proofs.modes.cached_line.CachedLine.keep.Goals as goal

pub returns-clause-begun : goal.returns-clause-begun
returns-clause-begun c = λ before label h same.
    let line : List ℕ = take c.self.inside.len c.self.inside.line in
    let ends : List ℕ = c.self.inside.ends in
    let was = subst (IsBegun before) (sym c.self.view_is) h in
    let few : c.min-self-inside.result ≡ min c.self.inside.count c.args.count = omega (arith, c.min-self-inside.ensures) in
    subst (λ n. IsBegun label (record { line = line; count = n; ends = ends })) (sym few) (IsBegun-keep line ends before label c.self.inside.count c.args.count was same)
