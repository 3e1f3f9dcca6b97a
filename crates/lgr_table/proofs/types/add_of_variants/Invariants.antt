use Rattle.std.proofs.Common.{ℕ, ◌++◌, false, List, map, take}
use Rattle.std.specs.List.{flat_map}
use Rattle.lgr_text.specs.Records.{variant}
use Rattle.lgr_table.specs.Numbers.{variant_type}
use Rattle.lgr_table.specs.inner.TypeSteps.{AreTypes}
use Rattle.lgr_table.proofs.types.add_of_variants.Given as goal

-- the types of those before this one were found
abbrev pub invariant-loop-variant : goal.invariant-loop-variant
invariant-loop-variant l =
    (names : List (List ℕ)) → AreTypes false names l.initial.types.items
    → AreTypes false (names ++ flat_map variant_type (map variant (take l.variant-index l.variants))) l.types.items
