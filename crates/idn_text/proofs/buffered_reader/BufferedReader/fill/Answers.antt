use Rattle.std.proofs.Common.{◌∙◌, ◌≤◌, ◌++◌, sym, subst, ap, take, List, ℕ, length, arith}
use Rattle.std.specs.Io.KnownBytes.{Consumes, Keeps, prepend_known}
use Rattle.idn_text.specs.Taking.{BufferedReader, left}
use Rattle.idn_text.proofs.KnownBytesLemmas.{keeps_read}
use Rattle.idn_text.proofs.TakingLemmas.{slice_range_grown}
use Rattle.idn_text.proofs.buffered_reader.BufferedReader.fill.Goals as goal

pub returns-in-Ok-clause-more : goal.returns-in-Ok-clause-more
returns-in-Ok-clause-more g c =
    let i = c.self.inside in
    let within : i.end ≤ length i.buffer = omega arith in
    let more = take c.in-Ok.more c.get.new.buffer in (
      more,
      slice_range_grown i.buffer c.copy_within.new.self c.get.new.buffer i.start i.end _ c.in-Ok.more c.self.invariant.0 within c.copy_within.ensures.after c.in-Ok.ensures.bound.0
          ∙ ap (λ (v : BufferedReader). v.held ++ more) c.self.view_is,
    )

pub returns-in-Ok-clause-same : goal.returns-in-Ok-clause-same
returns-in-Ok-clause-same g c =
    let i = c.self.inside in
    let old = c.args.self.now in
    let within : i.end ≤ length i.buffer = omega arith in
    let more = take c.in-Ok.more c.get.new.buffer in
    let now = (g.R.Source.state c.get.new.self).remaining in
    let held = slice_range_grown i.buffer c.copy_within.new.self c.get.new.buffer i.start i.end _ c.in-Ok.more c.self.invariant.0 within c.copy_within.ensures.after c.in-Ok.ensures.bound.0 ∙ ap (λ (v : BufferedReader). v.held ++ more) c.self.view_is in
    let given = subst (λ (v : BufferedReader). Consumes v.reader.remaining now more) c.self.view_is c.in-Ok.ensures.gets.bytes.0 in
    subst (λ (l : List ℕ). Keeps (left old) (prepend_known l now)) (sym held) (keeps_read old.reader.remaining now old.held more given)
