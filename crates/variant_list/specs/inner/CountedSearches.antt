-- A search for a tested label of which the steps are counted: words of the cursor's inner steps.
use Rattle.std.specs.Prelude.{◌≡◌, ◌+◌, ◌*◌, ◌≤◌, ℕ, Bool, true, false, List, length, take, Option, None, Result, Ok}
use Rattle.std.specs.Prelude.{Err}
use Rattle.std.specs.declared.alloc.AllocError.{AllocError}
use Rattle.variant_list.specs.Beginnings.{dead_prefixes}
use Rattle.variant_list.specs.Positions.{Position, candidates_ahead, tested_ahead}
use Rattle.variant_list.specs.Steps.{last_of}
use Rattle.variant_list.specs.Visited.{visited_ahead, has_step, TakesSteps}
use Rattle.variant_list.specs.inner.Skips.{edges_of_net, FindsTested, FindsNone}
use Rattle.variant_list.specs.declared.cursor.Next.{Next}
use Rattle.variant_list.specs.declared.cursor.Next.TheVariants as next

-- the search came to so many labels, each with a dead prefix, and stands at the last of them
pub record StandsAfter (hopeless : List ℕ → Bool) (old : Position) (taken : ℕ) (new : Position) : Type 0 where
  pub net : new.net ≡ old.net
  pub there : taken ≤ length (visited_ahead hopeless old)
  pub last : new.last ≡ last_of old.last (take taken (visited_ahead hopeless old))
  pub ahead : tested_ahead hopeless new ≡ tested_ahead hopeless old
  pub looks : new.edge_tests ≤ old.edge_tests + 126 * (edges_of_net old * taken)

-- a step for each dead prefix before the candidate without a dead prefix, and one for it
pub record FindsTestedIn (hopeless : List ℕ → Bool) (old : Position) (steps : Option ℕ) (new : Position)
    (left : Option ℕ) : Type 0 where
  pub finds : FindsTested hopeless old new
  pub takes : TakesSteps steps (length (dead_prefixes hopeless None finds.passed) + 1) left

-- a step for each dead prefix, and another could be taken
pub record FindsNoneIn (hopeless : List ℕ → Bool) (old : Position) (steps : Option ℕ) (new : Position)
    (left : Option ℕ) : Type 0 where
  pub finds : FindsNone hopeless old new
  pub takes : TakesSteps steps (length (dead_prefixes hopeless None (candidates_ahead old))) left
  pub more : has_step left ≡ true

-- all steps came to dead prefixes
pub record UsesAllStepsIn (hopeless : List ℕ → Bool) (old : Position) (steps : Option ℕ) (new : Position)
    (left : Option ℕ) : Type 0 where
  pub taken : ℕ
  pub takes : TakesSteps steps taken left
  pub none : has_step left ≡ false
  pub stands : StandsAfter hopeless old taken new

-- what a search for a tested label came to; where memory was refused, it was for a candidate without a dead prefix
abbrev pub Finds : (List ℕ → Bool) → Position → Option ℕ → Result Next AllocError → Position → Option ℕ → Type 0
Finds hopeless old steps (Ok (next.Tested answer)) new left = FindsTestedIn hopeless old steps new left
Finds hopeless old steps (Ok next.Unfound) new left = FindsNoneIn hopeless old steps new left
Finds hopeless old steps (Ok next.OutOfSteps) new left = UsesAllStepsIn hopeless old steps new left
Finds hopeless old steps (Err e) new left = FindsTested hopeless old new

-- P holds of the answer, if there is one
abbrev pub IfTested : Result Next AllocError → (Bool → Type 0) → Type 0
IfTested (Ok (next.Tested answer)) P = P answer
IfTested (Ok next.Unfound) P = Unit {0}
IfTested (Ok next.OutOfSteps) P = Unit {0}
IfTested (Err e) P = Unit {0}

-- P holds, if the last label is the one that was asked last
abbrev pub IfAsked : Result Next AllocError → Type 0 → Type 0
IfAsked (Ok (next.Tested answer)) P = P
IfAsked (Ok next.Unfound) P = Unit {0}
IfAsked (Ok next.OutOfSteps) P = P
IfAsked (Err e) P = Unit {0}
