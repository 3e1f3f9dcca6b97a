-- The registered labels that were found to collide with a label, and their block.
use Rattle.std.specs.Prelude.{◌<◌, ◌+◌, ◌-◌, ℕ, if◌then◌else◌, List, [], ◌∷◌, ◌++◌, All, length, map}
use Rattle.std.specs.Prelude.{Option, Some, None, slice_get, slice_index_or}
use Rattle.std.specs.Option.{option_map}
use Rattle.variant_table.specs.Entries.{TableValue}
use Rattle.idn2_options.specs.Settings.{Settings}
use Rattle.idn2_answers.specs.Collisions.{collision_by, named_if, regards_of}
use Rattle.idn2_answers.specs.Listings.{is_registrable}
use Rattle.idn2_answers.specs.Said.{Said, BlockEnd}
use Rattle.idn2_answers.specs.Said as said
use Rattle.idn2_cli.specs.declared.modes.collisions.Collision.{Collision}
use Rattle.idn2_cli.specs.inner.LineAnswers.{reaches}

-- the registered label of the number
abbrev pub label_of : List (List ℕ) → Collision → List ℕ
label_of registered c = slice_index_or registered c.number []

-- there are such labels
abbrev pub AreWithin : List (List ℕ) → List Collision → Type 0
AreWithin registered found = All (λ c. c.number < length registered) found

-- what is said of each
abbrev pub said_of : List (List ℕ) → Collision → Said
said_of registered c = said.Collision c.regards (label_of registered c)

-- their block stops at the last label, if as many as may be listed were found
abbrev pub stop_at : Option ℕ → List (List ℕ) → List Collision → Option (List ℕ)
stop_at limit registered found =
    if reaches limit (length found) then option_map (label_of registered) (slice_get found (length found - 1)) else None

-- the block
abbrev pub found_block : Option ℕ → List (List ℕ) → List Collision → List Said
found_block limit registered found =
    map (said_of registered) found ++ BlockEnd (length found) (stop_at limit registered found) ∷ []

-- the same by the options of the run
abbrev pub told_block : Settings → List ℕ → List (List ℕ) → List Collision → List Said
told_block o label registered found = named_if o.others label (found_block o.limit registered found)

-- its end
abbrev pub ending : Settings → List ℕ → List (List ℕ) → List Collision → List Said
ending o label registered found =
    named_if o.others label (BlockEnd (length found) (stop_at o.limit registered found) ∷ [])

-- ---- by what decides

-- what is said of a label that is found
abbrev pub collision_line_by : Settings → TableValue → List ℕ → List ℕ → Said
collision_line_by o table label = collision_by (regards_of (is_registrable o.properties) table label)

-- ---- the lines of labels of which each is told, where so many were listed before them

abbrev pub lines_from : (List ℕ → Said) → Option ℕ → ℕ → List (List ℕ) → List Said
lines_from line limit count [] = BlockEnd count None ∷ []
lines_from line limit count (v ∷ vs) =
    line v ∷ (if reaches limit (count + 1) then BlockEnd (count + 1) (Some v) ∷ []
    else lines_from line limit (count + 1) vs)
