use Rattle.std.proofs.Common.{◌≡◌, ℕ, List, Option, Some, None, map, sym, ap, subst, ◌∙◌}
use Rattle.ruleset_text.specs.declared.entry_form.EntryForm as held
use Rattle.ruleset_text.specs.declared.entry_form.Mapped as held_mapped
use Rattle.ruleset_text.specs.EntryForms.{mapped, entry_form}
use Rattle.variant_table.specs.Reading.{with_form_of}
use Rattle.variant_table.specs.inner.Drafts.{form_with}
use Rattle.variant_table.specs.inner.Readers.{IsNotedAs}
use Rattle.variant_table.specs.inner.ReadingSteps.{Leaves}
use Rattle.variant_table.proofs.reading.Reader.add_form.Goals as goal

-- the form, by the sources and variants that are passed on
form_passed : (form : held.EntryForm) (ms : List held_mapped.Mapped) (last : Option ℕ) → ms ≡ form.mapped.items
    → form.last ≡ last
    → entry_form form ≡ form_with ms last
form_passed form ms last is e = ap (λ o. record { mapped = map mapped form.mapped.items; last = o }) e
    ∙ ap (λ xs. form_with xs last) (sym is)

pub add_entry-requires : goal.add_entry-requires
add_entry-requires c = record {
  noted = subst (λ f. IsNotedAs f c.args.self.now)
      (form_passed c.args.form.now c.deref.result.now None c.deref.ensures.value c.in-None.is) c.requires.noted;
}

pub returns-in-None-clause-read : goal.returns-in-None-clause-read
returns-in-None-clause-read c =
    let is = ap (with_form_of c.args.self.now.table)
    (form_passed c.args.form.now c.deref.result.now None c.deref.ensures.value c.in-None.is) in
    subst (Leaves c.args.number c.add_entry.result c.add_entry.new.self.table) (sym is) c.add_entry.ensures.read

pub add_range-requires : goal.add_range-requires
add_range-requires c = record {
  noted = subst (λ f. IsNotedAs f c.args.self.now)
      (form_passed c.args.form.now c.deref-in-Some.result.now
      (Some c.in-Some.last) c.deref-in-Some.ensures.value c.in-Some.is) c.requires.noted;
}

pub returns-in-Some-clause-read : goal.returns-in-Some-clause-read
returns-in-Some-clause-read c =
    let is = ap (with_form_of c.args.self.now.table)
    (form_passed c.args.form.now c.deref-in-Some.result.now
    (Some c.in-Some.last) c.deref-in-Some.ensures.value c.in-Some.is) in
    subst (Leaves c.args.number c.add_range.result c.add_range.new.self.table) (sym is) c.add_range.ensures.read
