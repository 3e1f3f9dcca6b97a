-- The labels that a listing tests: the candidates without a dead prefix.
use Rattle.std.specs.Prelude.{ℕ, ◌&&◌, Bool, List, filter, None}
use Rattle.std.specs.Ordering.{is_lt}
use Rattle.variant_table.specs.Entries.{TableValue}
use Rattle.variant_list.specs.Beginnings.{has_no_dead_prefix, dead_prefixes}
use Rattle.variant_list.specs.Labels.{label_cmp}
use Rattle.variant_list.specs.Variants.{fits_label, variants, variants_among, candidates_among}

-- the tested labels after the given text: the candidates of which neither a beginning nor the whole is
-- dead
abbrev pub tested : (List ℕ → Bool) → TableValue → List ℕ → List ℕ → List (List ℕ)
tested hopeless = variants (λ v. fits_label v && has_no_dead_prefix hopeless v)

-- of some labels those
abbrev pub tested_among : (List ℕ → Bool) → List (List ℕ) → List ℕ → List (List ℕ)
tested_among hopeless = variants_among (λ v. fits_label v && has_no_dead_prefix hopeless v)

-- the dead prefixes among the candidates of some labels after the given text
abbrev pub dead_prefixes_after : (List ℕ → Bool) → List (List ℕ) → List ℕ → List (List ℕ)
dead_prefixes_after hopeless labels after = dead_prefixes hopeless None (candidates_among labels after)

-- those among the candidates below a label
abbrev pub dead_prefixes_between : (List ℕ → Bool) → List (List ℕ) → List ℕ → List ℕ → List (List ℕ)
dead_prefixes_between hopeless labels after v =
    dead_prefixes hopeless None (filter (λ u. is_lt (label_cmp u v)) (candidates_among labels after))
