use Rattle.std.proofs.Common.{◌<◌, ◌≤◌, length, map, arith, rules}
use Rattle.std.proofs.lemmas.List.{length-map}
use Rattle.ruleset_text.specs.EntryForms.{mapped}
use Rattle.variant_table.specs.Canonical.{written_text}
use Rattle.std.specs.Prelude.{[], ◌∷◌}
use Rattle.variant_table.proofs.FormSteps.{first_of_all, after_first, after_of_all}
use Rattle.variant_table.proofs.LengthLemmas.{pieces_left, pieces_none, length-written, short_of}
use Rattle.variant_table.proofs.lengths.left_after_line.Goals as goal

pub left_after_mapped-requires-clause-some : goal.left_after_mapped-requires-clause-some
left_after_mapped-requires-clause-some c = first_of_all (λ m. 0 < length m.points) c.args.entry.now c.source-item.result c.in-len1-up.len_at_least c.source-item.is c.requires.filled

pub left_after_mapped-requires-clause-short : goal.left_after_mapped-requires-clause-short
left_after_mapped-requires-clause-short c =
    first_of_all (λ m. length m.points ≤ 8) c.args.entry.now c.source-item.result c.in-len1-up.len_at_least c.source-item.is (short_of (map mapped c.args.entry.now) c.requires.small)

pub left_after_mapped-requires-in-loop-variant-clause-some : goal.left_after_mapped-requires-in-loop-variant-clause-some
left_after_mapped-requires-in-loop-variant-clause-some c =
    after_of_all (λ m. 0 < length m.points) c.args.entry.now c.loop-variant.variant-index c.variant-item.result c.loop-variant-test.true c.variant-item.is c.requires.filled

pub left_after_mapped-requires-in-loop-variant-clause-short : goal.left_after_mapped-requires-in-loop-variant-clause-short
left_after_mapped-requires-in-loop-variant-clause-short c =
    after_of_all (λ m. length m.points ≤ 8) c.args.entry.now c.loop-variant.variant-index c.variant-item.result c.loop-variant-test.true c.variant-item.is (short_of (map mapped c.args.entry.now) c.requires.small)

pub returns-in_err-rest-2 : goal.returns-in_err-rest-2
returns-in_err-rest-2 c =
    let entry = c.args.entry.now in
    let some : 0 < length (map mapped entry) = omega (arith, c.requires.some, length-map entry mapped) in
    let next = pieces_left (after_first entry) c.loop-variant.variant-index c.variant-item.result c.loop-variant-test.true c.variant-item.is in
    let over : c.args.left < length (written_text (map mapped entry ∷ [])) = omega (arith, length-written (map mapped entry) some, next, c.in_err-rest-2.ensures, c.loop-variant.invariant) in
    search rules

pub returns : goal.returns
returns c =
    let entry = c.args.entry.now in
    let some : 0 < length (map mapped entry) = omega (arith, c.requires.some, length-map entry mapped) in
    let none = pieces_none (after_first entry) c.loop-variant.variant-index (omega (arith, c.loop-variant-test.false)) in
    omega (arith, length-written (map mapped entry) some, none, c.loop-variant.invariant)
