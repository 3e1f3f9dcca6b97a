use Rattle.std.proofs.Common.{◌≡◌, ◌++◌, ◌-◌, map, take}
use Rattle.variant_table.specs.Entries.{source_of}
use Rattle.variant_table.specs.Forms.{source_mark, variant_mark, mapped_by}
use Rattle.variant_table.proofs.WritingLemmas.{piece_text, pieces_text}
use Rattle.variant_table.proofs.canonical.push_entry.Given as goal

-- the source and the variants so far
abbrev pub invariant-loop-number : goal.invariant-loop-number
invariant-loop-number l =
    l.out.items ≡ l.fn.out.items ++ (piece_text (mapped_by source_mark l.definitions (source_of l.entry)) ++ pieces_text (take (l.number - 1) (map (mapped_by variant_mark l.definitions) l.entry.variants)))
