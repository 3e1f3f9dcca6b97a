use Rattle.std.proofs.Common.{◌≡◌, rules, ◌+◌, ◌≤◌, subst, sym, ap, ◌∙◌, arith}
use Rattle.ruleset_text.specs.PlacedLexemes.{unplaced}
use Rattle.variant_table.specs.inner.Readers.{ReadSoFar}
use Rattle.variant_table.specs.inner.ReadingSteps.{Fails}
use Rattle.variant_table.specs.LinePlaces.{definition_place}
use Rattle.variant_table.specs.Reading.{with_definition}
use Rattle.variant_table.proofs.DefiningLemmas.{room_within, definition_read, definition_fails, definitions_fit}
use Rattle.variant_table.proofs.DefiningLemmas.{definitions_counted}
use Rattle.variant_table.proofs.LimitLemmas.{text_limit-most}
use Rattle.variant_table.proofs.LinePlaceLemmas.{definition_told}
use Rattle.variant_table.proofs.reading.Reader.add_definition.Goals as goal

pub overflow_add-room : goal.overflow_add-room
overflow_add-room c =
    let within = room_within c.self.view_is c.canonical_len.result c.requires.ruleset c.requires.counted
    c.canonical_len.ensures.size in
    let few : c.self.inside.draft.left + c.canonical_len.result ≤ 8388608 = omega
    (arith, within, text_limit-most c.self.inside.draft.version) in
    search rules

pub overflow_sub-self : goal.overflow_sub-self
overflow_sub-self c =
    definitions_fit c.self.view_is c.canonical_len.result c.requires.ruleset c.requires.counted
    c.canonical_len.ensures.size
    c.args.line.keyword (unplaced c.args.line.after) c.define.new.self c.canonical_len-in-Ok.result
    c.canonical_len.ensures.without_fault c.in-Ok.ensures.read c.canonical_len-in-Ok.ensures.size

pub returns-in-Ok-clause-read : goal.returns-in-Ok-clause-read
returns-in-Ok-clause-read c =
    definition_read c.self.view_is c.canonical_len.result c.requires.ruleset c.requires.counted
    c.canonical_len.ensures.size
    c.args.line.keyword (unplaced c.args.line.after) c.define.new.self c.in-Ok.ensures.read

pub returns-in-Ok-clause-counted : goal.returns-in-Ok-clause-counted
returns-in-Ok-clause-counted c =
    definitions_counted c.self.view_is c.canonical_len.result c.requires.ruleset c.requires.counted
    c.canonical_len.ensures.size
    c.args.line.keyword (unplaced c.args.line.after) c.define.new.self c.canonical_len-in-Ok.result
    c.canonical_len.ensures.without_fault c.in-Ok.ensures.read c.canonical_len-in-Ok.ensures.size

pub returns-in-Err-clause-read : goal.returns-in-Err-clause-read
returns-in-Err-clause-read c =
    let read = with_definition c.args.self.now.table c.args.line.keyword (unplaced c.args.line.after) in
    subst (λ r. Fails c.args.number r.fault read) (sym c.at.ensures)
    (subst (λ fault. Fails c.args.number fault read) (sym c.fault_in.ensures)
    (definition_fails c.self.view_is c.canonical_len.result c.requires.ruleset c.requires.counted
    c.canonical_len.ensures.size
    c.args.line.keyword (unplaced c.args.line.after) c.args.number c.in-Err.refusal.fault c.in-Err.ensures.read))

pub returns-in-Err-clause-place : goal.returns-in-Err-clause-place
returns-in-Err-clause-place c =
    let d = c.self.inside.draft.definitions in
    subst (λ (x : ReadSoFar). c.at.result.place ≡ definition_place x.table.definitions c.at.result.fault c.args.line)
    c.self.view_is
    (subst (λ r. r.place ≡ definition_place d r.fault c.args.line) (sym c.at.ensures)
    (c.in-Err.ensures.place ∙ definition_told d c.args.number c.in-Err.refusal.fault c.args.line
    ∙ ap (λ fault. definition_place d fault c.args.line) (sym c.fault_in.ensures)))
