use Rattle.std.proofs.Common.{◌≡◌, take, length}
use Rattle.variant_table.specs.Entries.{replacements}
use Rattle.reading_kinds.specs.Drafts.{with_substitutions}
use Rattle.variant_list.specs.inner.NearSubstitutions.{put_for}
use Rattle.variant_list.proofs.closure.add_entry.Given as goal

-- the replacements so far
abbrev pub invariant-loop-number : goal.invariant-loop-number
invariant-loop-number l = l.draft ≡ with_substitutions l.fn.draft (put_for (length l.entry.source) (take l.number (replacements l.entry)))
