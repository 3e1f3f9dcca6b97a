use Rattle.std.proofs.Common.{◌≡◌}
use Rattle.reading_kinds.specs.Drafts.{with_substitutions}
use Rattle.variant_list.specs.inner.NearSubstitutions.{near_variants}
use Rattle.variant_list.proofs.closure.add_variants.Given as goal

-- the sources of what has so many code points at most
abbrev pub invariant-loop-count : goal.invariant-loop-count
invariant-loop-count l = l.draft ≡ with_substitutions l.fn.draft (near_variants l.reversed l.label l.place l.count)
