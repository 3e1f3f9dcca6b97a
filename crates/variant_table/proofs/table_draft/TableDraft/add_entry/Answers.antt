use Rattle.std.proofs.Common.{refl, map, None, sym, ap, ◌∙◌, arith}
use Rattle.std.specs.Prelude.{is_some}
use Rattle.ruleset_text.specs.EntryForms.{mapped}
use Rattle.variant_table.specs.Conditions.{given_again}
use Rattle.variant_table.specs.Entries.{entry_from}
use Rattle.variant_table.specs.inner.Drafts.{HasFound, form_with, so_far}
use Rattle.variant_table.specs.inner.ReadingSteps.{if_new}
use Rattle.variant_table.proofs.AddingLemmas.{entry_too_many, entry_too_large, entry_too_long, entry_unnamed}
use Rattle.variant_table.proofs.AddingLemmas.{entry_known, entry_bad, entry_again, entry_there, entry_added}
use Rattle.variant_table.proofs.AddingLemmas.{entry_counted}
use Rattle.variant_table.proofs.ConditionLemmas.{all_mapped, filled_mapped}
use Rattle.variant_table.proofs.table_draft.TableDraft.add_entry.Goals as goal
use Rattle.variant_table.proofs.table_draft.TableDraft.add_entry.Goals.{then-len-entry_limit-via-then-len-entry_limit}
use Rattle.variant_table.proofs.table_draft.TableDraft.add_entry.Goals.{then-len-entry_limit-via-else-len-entry_limit+then-found}

pub returns-then-len-entry_limit-clause-added : goal.returns-then-len-entry_limit-clause-added
returns-then-len-entry_limit-clause-added c =
    let has : HasFound (form_with c.args.mapped.now None) c.args.found (so_far c.args.self.now) =
    record { form = c.requires.form; faults = c.requires.found; counted = c.requires.counted } in (
      c.requires.form,
      elim c.then-len-entry_limit.branch [
        | then-len-entry_limit-via-then-len-entry_limit w ↦
            entry_too_many refl c.args.mapped.now c.args.found has (omega (arith, w.if-len-entry_limit.true, c.len.ensures, c.entry_limit.ensures.limit))
        | then-len-entry_limit-via-else-len-entry_limit+then-found w ↦ entry_too_large refl c.args.mapped.now c.args.found has w.if-found.true
      ],
    )

pub left_after_entry-requires-clause-filled : goal.left_after_entry-requires-clause-filled
left_after_entry-requires-clause-filled c = filled_mapped (map mapped c.args.mapped.now)
    (all_mapped None (map mapped c.args.mapped.now) c.requires.form)

pub returns-in_default-clause-added : goal.returns-in_default-clause-added
returns-in_default-clause-added c =
    let has : HasFound (form_with c.args.mapped.now None) c.args.found (so_far c.args.self.now) =
    record { form = c.requires.form; faults = c.requires.found; counted = c.requires.counted } in
    (c.requires.form, entry_too_long refl c.args.mapped.now c.args.found has c.in_default.ensures)

pub returns-then-found-2-clause-added : goal.returns-then-found-2-clause-added
returns-then-found-2-clause-added c =
    let has : HasFound (form_with c.args.mapped.now None) c.args.found (so_far c.args.self.now) =
    record { form = c.requires.form; faults = c.requires.found; counted = c.requires.counted } in (
      c.requires.form,
      entry_unnamed refl c.args.mapped.now c.args.found has (omega (arith, c.if-len-entry_limit.false, c.len.ensures, c.entry_limit.ensures.limit))
          c.if-found.false c.in-Some.left c.in-Some.ensures c.if-found-2.true,
    )

pub returns-then-found-3-clause-added : goal.returns-then-found-3-clause-added
returns-then-found-3-clause-added c =
    let has : HasFound (form_with c.args.mapped.now None) c.args.found (so_far c.args.self.now) =
    record { form = c.requires.form; faults = c.requires.found; counted = c.requires.counted } in (
      c.requires.form,
      entry_bad refl c.args.mapped.now c.args.found has (omega (arith, c.if-len-entry_limit.false, c.len.ensures, c.entry_limit.ensures.limit))
          c.if-found.false c.in-Some.left c.in-Some.ensures c.if-found-2.false c.if-found-3.true,
    )

pub take_sequences-requires : goal.take_sequences-requires
take_sequences-requires c =
    let has : HasFound (form_with c.args.mapped.now None) c.args.found (so_far c.args.self.now) =
    record { form = c.requires.form; faults = c.requires.found; counted = c.requires.counted } in
    entry_known refl c.args.mapped.now c.args.found has (omega (arith, c.if-len-entry_limit.false, c.len.ensures, c.entry_limit.ensures.limit))
    c.if-found.false c.in-Some.left c.in-Some.ensures c.if-found-2.false

pub returns-in-Some-given_again-clause-added : goal.returns-in-Some-given_again-clause-added
returns-in-Some-given_again-clause-added c =
    let has : HasFound (form_with c.args.mapped.now None) c.args.found (so_far c.args.self.now) =
    record { form = c.requires.form; faults = c.requires.found; counted = c.requires.counted } in (
      (
        c.requires.form,
        entry_again refl c.args.mapped.now c.args.found has (omega (arith, c.if-len-entry_limit.false, c.len.ensures, c.entry_limit.ensures.limit))
            c.if-found.false c.in-Some.left c.in-Some.ensures c.if-found-2.false c.if-found-3.false c.take_sequences.new.sequences
            c.in_ok-take_sequences.ensures
            (ap is_some (sym c.given_again.ensures ∙ c.in-Some-given_again.is)),
      ),
      sym (ap (λ ss. given_again (entry_from ss)) c.in_ok-take_sequences.ensures) ∙ sym c.given_again.ensures
          ∙ c.in-Some-given_again.is,
    )

pub returns-then-not-branch-clause-added : goal.returns-then-not-branch-clause-added
returns-then-not-branch-clause-added c =
    let has : HasFound (form_with c.args.mapped.now None) c.args.found (so_far c.args.self.now) =
    record { form = c.requires.form; faults = c.requires.found; counted = c.requires.counted } in (
      c.requires.form,
      entry_there refl c.args.mapped.now c.args.found has (omega (arith, c.if-len-entry_limit.false, c.len.ensures, c.entry_limit.ensures.limit))
          c.if-found.false c.in-Some.left c.in-Some.ensures c.if-found-2.false c.if-found-3.false c.take_sequences.new.sequences
          c.in_ok-take_sequences.ensures (ap is_some (sym c.given_again.ensures ∙ c.in_default-given_again.is))
          (c.in_ok-push.ensures.read ∙ ap (λ b. if_new b c.push.new.self) c.if-not-branch.true),
    )

pub returns-clause-added : goal.returns-clause-added
returns-clause-added c =
    let has : HasFound (form_with c.args.mapped.now None) c.args.found (so_far c.args.self.now) =
    record { form = c.requires.form; faults = c.requires.found; counted = c.requires.counted } in (
      c.requires.form,
      entry_added refl c.args.mapped.now c.args.found has (omega (arith, c.if-len-entry_limit.false, c.len.ensures, c.entry_limit.ensures.limit))
          c.if-found.false c.in-Some.left c.in-Some.ensures c.if-found-2.false c.if-found-3.false c.take_sequences.new.sequences
          c.in_ok-take_sequences.ensures (ap is_some (sym c.given_again.ensures ∙ c.in_default-given_again.is)) c.push.new.self
          (c.in_ok-push.ensures.read ∙ ap (λ b. if_new b c.push.new.self) c.if-not-branch.false),
    )

pub returns-clause-counted : goal.returns-clause-counted
returns-clause-counted c =
    let has : HasFound (form_with c.args.mapped.now None) c.args.found (so_far c.args.self.now) =
    record { form = c.requires.form; faults = c.requires.found; counted = c.requires.counted } in
    entry_counted refl c.args.mapped.now c.args.found has (omega (arith, c.if-len-entry_limit.false, c.len.ensures, c.entry_limit.ensures.limit))
    c.if-found.false c.in-Some.left c.in-Some.ensures c.if-found-2.false c.if-found-3.false c.take_sequences.new.sequences
    c.in_ok-take_sequences.ensures (ap is_some (sym c.given_again.ensures ∙ c.in_default-given_again.is)) c.push.new.self
    (c.in_ok-push.ensures.read ∙ ap (λ b. if_new b c.push.new.self) c.if-not-branch.false)
