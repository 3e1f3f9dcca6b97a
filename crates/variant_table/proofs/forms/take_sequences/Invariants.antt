use Rattle.std.proofs.Common.{◌≡◌, suc, map, take}
use Rattle.ruleset_text.specs.EntryForms.{mapped}
use Rattle.variant_table.specs.Forms.{sequences_of}
use Rattle.variant_table.proofs.forms.take_sequences.Given as goal

-- the source and the variants so far
abbrev pub invariant-loop-variant : goal.invariant-loop-variant
invariant-loop-variant l = l.sequences ≡ sequences_of l.definitions (map mapped (take (suc l.variant-index) l.mapped))
