use Rattle.std.proofs.Common.{◌≡◌, ℕ, List, None, Ok, Err, sym, ap, subst, ◌∙◌}
use Rattle.std.specs.Prelude.{IfErr}
use Rattle.ruleset_text.specs.declared.entry_form.EntryForm as held
use Rattle.ruleset_text.specs.declared.entry_parts.EntryParts.{EntryParts}
use Rattle.ruleset_text.specs.declared.fault.FaultPlace.{FaultPlace}
use Rattle.ruleset_text.specs.EntryForms.{entry_form}
use Rattle.ruleset_text.specs.EntrySteps.{entry_read}
use Rattle.ruleset_text.specs.Lexemes.{lexemes}
use Rattle.ruleset_text.specs.LineStops.{StopsAt}
use Rattle.ruleset_text.proofs.EntryNotedLemmas.{read_in}
use Rattle.variant_table.specs.declared.fault.TableFault.TheVariants as tables
use Rattle.variant_table.specs.Entries.{TableValue, table_of}
use Rattle.variant_table.specs.Faults.{Syntax}
use Rattle.variant_table.specs.Forms.{parts_of}
use Rattle.variant_table.specs.LinePlaces.{AreFaultsOf, entry_place, form_place, read_by}
use Rattle.variant_table.specs.Reading.{◌>>=◌, with_form_of, with_words}
use Rattle.variant_table.specs.inner.Readers.{IsCountedIn, ReadSoFar}
use Rattle.variant_table.specs.inner.ReadingSteps.{Leaves}
use Rattle.variant_table.proofs.AddingLemmas.{fails_with}
use Rattle.variant_table.proofs.FormLemmas.{form_read, read_as, stops_before}
use Rattle.variant_table.proofs.NoteLemmas.{faults_are}
use Rattle.variant_table.proofs.reading.Reader.add_entries.Goals as goal

-- what is read is what the form says
words_of_form : (t : TableValue) (line : List ℕ) (form : held.EntryForm)
    → entry_read (parts_of t.version) line ≡ Ok (entry_form form)
    → with_words t None (lexemes line) ≡ with_form_of t (entry_form form)
words_of_form t line form e = ap (λ f. f >>= with_form_of t)
    (form_read t.version line (entry_form form) (read_as t.version line (entry_form form) e))

-- a line that stops being an entry is refused
words_stop : (t : TableValue) (line : List ℕ) (place : FaultPlace) → entry_read (parts_of t.version) line ≡ Err place
    → with_words t None (lexemes line) ≡ Err Syntax
words_stop t line place e = ap (λ f. f >>= with_form_of t) (stops_before t.version line place e)

-- the parts are those of the version that was read
parts_are : {r now : ReadSoFar} (parts : EntryParts) → parts ≡ parts_of r.table.version → r ≡ now
    → parts ≡ parts_of now.table.version
parts_are parts e is = e ∙ ap (λ x. parts_of x.table.version) is

pub returns-in-Err-Stop-clause-read : goal.returns-in-Err-Stop-clause-read
returns-in-Err-Stop-clause-read c =
    let stop = subst (λ e. StopsAt e (entry_read c.entry_parts-parts.result c.args.line.now)) c.in-Err-Stop.field-0-is
    c.in-Err-Stop.ensures.read in
    let parts = parts_are c.entry_parts-parts.result c.entry_parts-parts.ensures c.self.view_is in
    fails_with c.args.number Syntax c.at.ensures
    (words_stop c.args.self.now.table c.args.line.now c.in-Err-Stop.place
    (subst (λ q. entry_read q c.args.line.now ≡ Err c.in-Err-Stop.place) parts stop))

pub returns-in-Err-Stop-clause-place : goal.returns-in-Err-Stop-clause-place
returns-in-Err-Stop-clause-place c =
    let t = c.args.self.now.table in
    let stop = subst (λ e. StopsAt e (entry_read c.entry_parts-parts.result c.args.line.now)) c.in-Err-Stop.field-0-is
    c.in-Err-Stop.ensures.read in
    let parts = parts_are c.entry_parts-parts.result c.entry_parts-parts.ensures c.self.view_is in
    subst (λ r. r.place ≡ entry_place t.definitions r.fault t.version c.args.line.now) (sym c.at.ensures)
    (sym (ap (read_by t.definitions (tables.Syntax c.args.number) c.args.line.now)
    (subst (λ q. entry_read q c.args.line.now ≡ Err c.in-Err-Stop.place) parts stop)))

pub add_form-requires : goal.add_form-requires
add_form-requires c =
    let d = c.self.inside.draft.definitions in
    let form = entry_form c.in-Ok.form in
    let line = c.args.line.now in
    let read = subst (λ q. entry_read q line ≡ Ok form) c.entry_parts-parts.ensures c.in-Ok.ensures.read in record {
      noted = record {
        form = (read_as c.self.inside.draft.version line form read).0.0;
        faults = subst (λ n. AreFaultsOf d form n.faults) (sym c.in-Ok.ensures.noted)
            (faults_are d line form (read_in c.entry_parts-parts.result line form c.in-Ok.ensures.read));
        counted = subst IsCountedIn (sym c.self.view_is) c.requires.counted;
      };
    }

pub returns-in-Ok-clause-read : goal.returns-in-Ok-clause-read
returns-in-Ok-clause-read c =
    let form = entry_form c.in-Ok.form in
    let line = c.args.line.now in
    let t : TableValue = table_of c.self.inside.draft.version c.self.inside.draft.definitions c.self.inside.draft.entries in
    let read = subst (λ q. entry_read q line ≡ Ok form) c.entry_parts-parts.ensures c.in-Ok.ensures.read in
    subst (λ (r : ReadSoFar). Leaves c.args.number c.add_form.result c.add_form.new.self.table
    (with_words r.table None (lexemes line))) c.self.view_is
    (subst (Leaves c.args.number c.add_form.result c.add_form.new.self.table)
    (sym (words_of_form t line c.in-Ok.form read)) c.add_form.ensures.read)

pub returns-in-Ok-clause-place : goal.returns-in-Ok-clause-place
returns-in-Ok-clause-place c =
    let d = c.self.inside.draft.definitions in
    let form = entry_form c.in-Ok.form in
    let line = c.args.line.now in
    let read = subst (λ q. entry_read q line ≡ Ok form) c.entry_parts-parts.ensures c.in-Ok.ensures.read in
    subst (λ (r : ReadSoFar). IfErr c.add_form.result
    (λ e. e.place ≡ entry_place r.table.definitions e.fault r.table.version line)) c.self.view_is
    (subst (λ r. IfErr c.add_form.result (λ e. e.place ≡ read_by d e.fault line r)) (sym read)
    (subst (λ n. IfErr c.add_form.result (λ e. e.place ≡ form_place d e.fault form n)) c.in-Ok.ensures.noted
    c.add_form.ensures.place))
