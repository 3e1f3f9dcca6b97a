use Rattle.std.proofs.Common.{◌≡◌, ◌+◌, drop, map}
use Rattle.ruleset_text.specs.EntryForms.{mapped}
use Rattle.variant_table.specs.Forms.{normal}
use Rattle.variant_table.proofs.LengthLemmas.{pieces_size, variants_size}
use Rattle.variant_table.proofs.lengths.left_after_line.Given as goal

-- the bytes that are left, and those of the variants that are left
abbrev pub invariant-loop-variant : goal.invariant-loop-variant
invariant-loop-variant l = l.rest + pieces_size (normal (map mapped l.entry)) ≡ l.left + variants_size (drop l.variant-index l.variants)
