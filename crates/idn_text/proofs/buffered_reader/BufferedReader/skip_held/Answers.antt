use Rattle.std.proofs.Common.{◌≡◌, ◌∙◌, ◌+◌, ◌-◌, ◌≤◌, ◌∷◌, [], refl, sym, subst, ap, take, drop, List, ℕ, length, slice_range, length-append, arith}
use Rattle.std.proofs.lemmas.List.{drop_all}
use Rattle.idn_text.specs.Lines.{HasNoFeed}
use Rattle.idn_text.specs.Taking.{BufferedReader}
use Rattle.idn_text.specs.inner.TakenLines.{at_place}
use Rattle.idn_text.proofs.TakingLemmas.{slice_range_later, takes_ended, takes_all}
use Rattle.idn_text.proofs.buffered_reader.BufferedReader.skip_held.Goals as goal

pub returns-in-Some-clause-taken : goal.returns-in-Some-clause-taken
returns-in-Some-clause-taken g c =
    let i = c.self.inside in
    let found = c.in-Some.ensures in
    let line = c.in-Some.line.now in
    let n = length line + 1 in
    let split = sym c.held.ensures ∙ found.1 in
    let all = ap length split ∙ length-append line (10 ∷ c.in-Some.field-0-1.now) in
    let few : n ≤ length c.args.self.now.held = omega (arith, all) in
    let enough : n ≤ length (slice_range i.buffer i.start i.end) = subst (λ (v : BufferedReader). n ≤ length v.held) (sym c.self.view_is) few in (
      line,
      takes_ended c.args.self.now _ c.args.self.now.line line _ n found.0 split refl
          (ap (λ (l : List ℕ). let v : BufferedReader = record { held = l; line = at_place i.buffer i.place; reader = g.R.Source.state i.reader; reads = i.reads } in v) (slice_range_later i.buffer i.start i.end n enough)
          ∙ ap (λ (v : BufferedReader). let w : BufferedReader = record v { held = drop n v.held } in w) c.self.view_is),
    )

pub returns-in-None-clause-taken : goal.returns-in-None-clause-taken
returns-in-None-clause-taken g c =
    let i = c.self.inside in
    let old = c.args.self.now in
    let n = length old.held in
    let none : i.end - i.end ≡ 0 = omega arith in (
      old.held,
      takes_all old _ old.line n (subst HasNoFeed c.held.ensures c.in-None.ensures) (omega arith)
          (ap (λ (k : ℕ). let v : BufferedReader = record { held = take k (drop i.end i.buffer); line = at_place i.buffer i.place; reader = g.R.Source.state i.reader; reads = i.reads } in v) none
          ∙ ap (λ (v : BufferedReader). let w : BufferedReader = record v { held = [] } in w) c.self.view_is
          ∙ ap (λ (l : List ℕ). let w : BufferedReader = record old { held = l } in w) (sym (drop_all n old.held (omega arith)))),
    )
