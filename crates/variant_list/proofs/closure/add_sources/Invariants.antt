use Rattle.std.proofs.Common.{◌≡◌, take}
use Rattle.reading_kinds.specs.Drafts.{with_substitutions}
use Rattle.variant_list.specs.inner.NearSubstitutions.{put_for}
use Rattle.variant_list.specs.inner.Turned.{sequences_of}
use Rattle.variant_list.proofs.closure.add_sources.Given as goal

-- the sources so far
abbrev pub invariant-loop-source : goal.invariant-loop-source
invariant-loop-source l = l.draft ≡ with_substitutions l.fn.draft (put_for l.covers (take l.source-index (sequences_of l.sources)))
