use Rattle.std.proofs.Common.{◌≡◌, None, Ok, map, sym, ap, subst, ◌∙◌}
use Rattle.ruleset_text.specs.EntryForms.{mapped, notes as noted}
use Rattle.variant_table.specs.Building.{RefusedEntry}
use Rattle.variant_table.specs.Reading.{with_form_of}
use Rattle.variant_table.specs.inner.Drafts.{HasFound, draft_table, form_with}
use Rattle.variant_table.specs.inner.Readers.{IsNotedAs, ReadSoFar, drafted, noted_place, told_of}
use Rattle.variant_table.specs.inner.ReadingSteps.{Fails}
use Rattle.variant_table.proofs.AddingLemmas.{entry_fails, entry_placed, found_by, noted_found}
use Rattle.variant_table.proofs.reading.Reader.add_entry.Goals as goal

pub add_entry-requires-clause-form : goal.add_entry-requires-clause-form
add_entry-requires-clause-form c = c.requires.noted.form

pub add_entry-requires-clause-found : goal.add_entry-requires-clause-found
add_entry-requires-clause-found c =
    let form = form_with c.args.mapped.now None in
    let found : HasFound form c.found-found.result (drafted c.args.self.now) =
    noted_found c.requires.noted (c.found-found.ensures ∙ ap (λ (x : ReadSoFar). found_by x.notes) c.self.view_is) in
    (subst (λ (x : ReadSoFar). HasFound form c.found-found.result (drafted x)) (sym c.self.view_is) found).faults

pub add_entry-requires-clause-counted : goal.add_entry-requires-clause-counted
add_entry-requires-clause-counted c =
    let form = form_with c.args.mapped.now None in
    (subst (λ (x : ReadSoFar). IsNotedAs form x) (sym c.self.view_is) c.requires.noted).counted

pub returns-in-Ok-clause-read : goal.returns-in-Ok-clause-read
returns-in-Ok-clause-read c =
    subst (λ (x : ReadSoFar). with_form_of x.table (form_with c.args.mapped.now None) ≡ Ok (draft_table c.add_entry.new.self))
    c.self.view_is c.in-Ok.ensures.added.1

pub returns-in-Err-clause-read : goal.returns-in-Err-clause-read
returns-in-Err-clause-read c =
    let ms = map mapped c.args.mapped.now in
    let t = c.args.self.now.table in
    let refused : RefusedEntry t ms c.in-Err.fault =
    subst (λ (x : ReadSoFar). RefusedEntry x.table ms c.in-Err.fault) c.self.view_is c.in-Err.ensures.added in
    subst (λ fault. Fails c.args.number fault (with_form_of t (form_with c.args.mapped.now None)))
    (sym c.refusal.ensures.fault) (entry_fails c.args.number t ms c.in-Err.fault c.requires.noted.form refused)

pub returns-in-Err-clause-place : goal.returns-in-Err-clause-place
returns-in-Err-clause-place c =
    let ms = map mapped c.args.mapped.now in
    let form = form_with c.args.mapped.now None in
    c.refusal.ensures.place
    ∙ entry_placed c.args.number (draft_table c.self.inside.draft) ms (noted c.self.inside.notes) c.in-Err.fault
    c.in-Err.ensures.added
    ∙ ap (λ (x : ReadSoFar). noted_place x form (told_of c.args.number c.in-Err.fault)) c.self.view_is
    ∙ ap (noted_place c.args.self.now form) (sym c.refusal.ensures.fault)
