-- What the form of an entry in memory and the notes of its line are seen as: with lists in place of vectors.
use Rattle.std.specs.Prelude.{map}
use Rattle.ruleset_text.specs.declared.entry_form.EntryForm as declared
use Rattle.ruleset_text.specs.declared.entry_form.Mapped as held
use Rattle.ruleset_text.specs.declared.entry_notes.EntryNotes.{EntryNotes}
use Rattle.ruleset_text.specs.Entries.{Mapped, EntryForm}
use Rattle.ruleset_text.specs.EntryFaults.{Notes}

abbrev pub mapped : held.Mapped → Mapped
mapped m = record { marked = m.marked; points = m.points.items; type_name = m.type_name; condition = m.condition }

abbrev pub entry_form : declared.EntryForm → EntryForm
entry_form e = record { mapped = map mapped e.mapped.items; last = e.last }

abbrev pub notes : EntryNotes → Notes
notes n = record { begins = n.begins.items; faults = n.faults }
