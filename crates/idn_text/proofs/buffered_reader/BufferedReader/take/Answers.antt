use Rattle.std.proofs.Common.{◌≡◌, ◌∙◌, ◌+◌, sym, subst, ap, take, drop, List, ℕ, Option, Some, length, slice_range, ◌≤◌, arith}
use Rattle.std.proofs.lemmas.List.{length-take-le}
use Rattle.idn_text.proofs.TakingLemmas.{slice_range_later, slice_range_front, kept-short, kept-long}
use Rattle.idn_text.specs.Taking.{BufferedReader}
use Rattle.idn_text.specs.inner.TakenLines.{at_place, kept}
use Rattle.idn_text.proofs.buffered_reader.BufferedReader.take.Goals as goal
use Rattle.idn_text.proofs.buffered_reader.BufferedReader.take.Goals.{then-len-gt-MAX_LINE_LEN, else-len-gt-MAX_LINE_LEN}

pub returns : goal.returns
returns g c =
    let i = c.self.inside in
    let held = slice_range i.buffer i.start i.end in
    let len = c.args.len in
    let n = len + c.args.end_len in
    let enough : n ≤ length held = subst (λ (v : BufferedReader). n ≤ length v.held) (sym c.self.view_is) c.requires in
    let within : len ≤ length held = omega arith in
    let count : length (take len held) ≡ len = length-take-le len held within in
    let line : at_place i.buffer c.if-len-gt-MAX_LINE_LEN.self ≡ kept (take len held) =
    elim c.if-len-gt-MAX_LINE_LEN.branch [
      | then-len-gt-MAX_LINE_LEN w ↦ ap (at_place i.buffer) w.self-is ∙ sym (kept-long (take len held) (omega arith))
      | else-len-gt-MAX_LINE_LEN w ↦ ap (at_place i.buffer) w.self-is ∙ ap Some (slice_range_front i.buffer i.start i.end len within) ∙ sym (kept-short (take len held) (omega arith))
    ] in
    ap (λ (l : List ℕ). let v : BufferedReader = record { held = l; line = at_place i.buffer c.if-len-gt-MAX_LINE_LEN.self; reader = g.R.Source.state i.reader; reads = i.reads } in v) (slice_range_later i.buffer i.start i.end n enough)
    ∙ ap (λ (l : Option (List ℕ)). let v : BufferedReader = record { held = drop n held; line = l; reader = g.R.Source.state i.reader; reads = i.reads } in v) line
    ∙ ap (λ (v : BufferedReader). let w : BufferedReader = record v { held = drop n v.held; line = kept (take len v.held) } in w) c.self.view_is
