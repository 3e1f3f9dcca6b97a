use Rattle.std.specs.Prelude.{is_some}
use Rattle.std.proofs.Common.{sym, ap, ◌∙◌, arith}
use Rattle.ruleset_text.specs.EntryForms.{notes as noted}
use Rattle.variant_table.specs.Faults.{Limit, NoSuchName, BadClass, SameSource}
use Rattle.variant_table.specs.inner.ReadingSteps.{if_new}
use Rattle.variant_table.specs.inner.Readers.{ReadSoFar, drafted}
use Rattle.variant_table.proofs.AddingLemmas.{fails_with, found_by, noted_found, range_too_many, range_too_long, range_unnamed, range_known}
use Rattle.variant_table.proofs.AddingLemmas.{range_bad, range_there, range_added, range_counted}
use Rattle.variant_table.proofs.reading.Reader.add_range.Goals as goal
use Rattle.variant_table.proofs.reading.Reader.add_range.Goals.{then-count-limit-via-then-count-limit}
use Rattle.variant_table.proofs.reading.Reader.add_range.Goals.{then-count-limit-via-else-count-limit+then-len-limit}

pub returns-then-count-limit-clause-read : goal.returns-then-count-limit-clause-read
returns-then-count-limit-clause-read c =
    fails_with c.args.number Limit c.at.ensures
    (range_too_many (ap drafted c.self.view_is) c.args.mapped.now c.index-mapped-0.result c.index-first.result.now c.args.last
    (found_by (noted c.self.inside.notes))
    (noted_found c.requires.noted (ap (λ (x : ReadSoFar). found_by x.notes) c.self.view_is)) c.index-mapped-0.is c.index-first.ensures
    (elim c.then-count-limit.branch [
      | then-count-limit-via-then-count-limit w ↦
          omega (arith, w.if-count-limit.true, c.entry_limit-limit.ensures.limit)
      | then-count-limit-via-else-count-limit+then-len-limit w ↦
          omega (arith, w.if-len-limit.true, w.if-count-limit.false, w.len.ensures, c.entry_limit-limit.ensures.limit)
    ]))

pub returns-in_default-clause-read : goal.returns-in_default-clause-read
returns-in_default-clause-read c =
    fails_with c.args.number Limit c.at-in_default.ensures
    (range_too_long (ap drafted c.self.view_is) c.args.mapped.now c.index-mapped-0.result c.index-first.result.now c.args.last
    (found_by (noted c.self.inside.notes))
    (noted_found c.requires.noted (ap (λ (x : ReadSoFar). found_by x.notes) c.self.view_is)) c.index-mapped-0.is c.index-first.ensures c.in_default.ensures)

pub returns-then-is_some-clause-read : goal.returns-then-is_some-clause-read
returns-then-is_some-clause-read c =
    fails_with c.args.number NoSuchName c.at-then-is_some.ensures
    (range_unnamed (ap drafted c.self.view_is) c.args.mapped.now c.index-mapped-0.result c.index-first.result.now c.args.last
    (found_by (noted c.self.inside.notes))
    (noted_found c.requires.noted (ap (λ (x : ReadSoFar). found_by x.notes) c.self.view_is)) c.index-mapped-0.is c.index-first.ensures
    (omega (arith, c.entry_limit-limit.ensures.limit, c.if-count-limit.false, c.if-len-limit.false, c.len.ensures))
    c.in-Some.left c.in-Some.ensures (sym c.is_some.ensures ∙ c.if-is_some.true))

pub returns-in-Some-2-clause-read : goal.returns-in-Some-2-clause-read
returns-in-Some-2-clause-read c =
    fails_with c.args.number BadClass c.at-in-Some-2.ensures
    (range_bad (ap drafted c.self.view_is) c.args.mapped.now c.index-mapped-0.result c.index-first.result.now c.args.last
    (found_by (noted c.self.inside.notes))
    (noted_found c.requires.noted (ap (λ (x : ReadSoFar). found_by x.notes) c.self.view_is)) c.index-mapped-0.is c.index-first.ensures
    (omega (arith, c.entry_limit-limit.ensures.limit, c.if-count-limit.false, c.if-len-limit.false, c.len.ensures))
    c.in-Some.left c.in-Some.ensures (sym c.is_some.ensures ∙ c.if-is_some.false) c.properties-properties.ensures _
    (c.in_ok-bad.ensures {u = tt}) (ap is_some c.in-Some-2.is))

pub take_sequences-requires : goal.take_sequences-requires
take_sequences-requires c =
    range_known (ap drafted c.self.view_is) c.args.mapped.now c.index-mapped-0.result c.index-first.result.now c.args.last
    (found_by (noted c.self.inside.notes))
    (noted_found c.requires.noted (ap (λ (x : ReadSoFar). found_by x.notes) c.self.view_is)) c.index-mapped-0.is c.index-first.ensures
    (omega (arith, c.entry_limit-limit.ensures.limit, c.if-count-limit.false, c.if-len-limit.false, c.len.ensures))
    c.in-Some.left c.in-Some.ensures (sym c.is_some.ensures ∙ c.if-is_some.false)

pub returns-then-not-branch-clause-read : goal.returns-then-not-branch-clause-read
returns-then-not-branch-clause-read c =
    fails_with c.args.number SameSource c.at-then-not-branch.ensures
    (range_there (ap drafted c.self.view_is) c.args.mapped.now c.index-mapped-0.result c.index-first.result.now c.args.last
    (found_by (noted c.self.inside.notes))
    (noted_found c.requires.noted (ap (λ (x : ReadSoFar). found_by x.notes) c.self.view_is)) c.index-mapped-0.is c.index-first.ensures
    (omega (arith, c.entry_limit-limit.ensures.limit, c.if-count-limit.false, c.if-len-limit.false, c.len.ensures))
    c.in-Some.left c.in-Some.ensures (sym c.is_some.ensures ∙ c.if-is_some.false) c.properties-properties.ensures _
    (c.in_ok-bad.ensures {u = tt}) (ap is_some c.in_default-2.is)
    c.take_sequences.new.sequences c.in_ok-take_sequences.ensures
    (c.in_ok-push_points.ensures {u = tt} ∙ ap (λ b. if_new b c.push_points.new.entries) c.if-not-branch.true))

pub returns-clause-read : goal.returns-clause-read
returns-clause-read c =
    range_added (ap drafted c.self.view_is) c.args.mapped.now c.index-mapped-0.result c.index-first.result.now c.args.last
    (found_by (noted c.self.inside.notes))
    (noted_found c.requires.noted (ap (λ (x : ReadSoFar). found_by x.notes) c.self.view_is)) c.index-mapped-0.is c.index-first.ensures
    (omega (arith, c.entry_limit-limit.ensures.limit, c.if-count-limit.false, c.if-len-limit.false, c.len.ensures))
    c.in-Some.left c.in-Some.ensures (sym c.is_some.ensures ∙ c.if-is_some.false) c.properties-properties.ensures _
    (c.in_ok-bad.ensures {u = tt}) (ap is_some c.in_default-2.is)
    c.take_sequences.new.sequences c.in_ok-take_sequences.ensures
    c.push_points.new.entries (c.in_ok-push_points.ensures {u = tt}
    ∙ ap (λ b. if_new b c.push_points.new.entries) c.if-not-branch.false)

pub returns-clause-counted : goal.returns-clause-counted
returns-clause-counted c =
    range_counted (ap drafted c.self.view_is) c.args.mapped.now c.index-mapped-0.result c.index-first.result.now c.args.last
    (found_by (noted c.self.inside.notes))
    (noted_found c.requires.noted (ap (λ (x : ReadSoFar). found_by x.notes) c.self.view_is)) c.index-mapped-0.is c.index-first.ensures
    (omega (arith, c.entry_limit-limit.ensures.limit, c.if-count-limit.false, c.if-len-limit.false, c.len.ensures))
    c.in-Some.left c.in-Some.ensures (sym c.is_some.ensures ∙ c.if-is_some.false) c.properties-properties.ensures _
    (c.in_ok-bad.ensures {u = tt}) (ap is_some c.in_default-2.is)
    c.take_sequences.new.sequences c.in_ok-take_sequences.ensures
    c.push_points.new.entries (c.in_ok-push_points.ensures {u = tt}
    ∙ ap (λ b. if_new b c.push_points.new.entries) c.if-not-branch.false)
