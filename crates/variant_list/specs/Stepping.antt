-- How far a call of `seek` goes, counted in steps.
use Rattle.std.specs.Prelude.{◌≡◌, ℕ, ◌*◌, ◌<◌, ◌≤◌, Bool, List, length, take, drop, Option, Some, IfSome, Result, Ok}
use Rattle.std.specs.Prelude.{Err}
use Rattle.std.specs.declared.alloc.AllocError.{AllocError}
use Rattle.variant_list.specs.Positions.{Position}
use Rattle.variant_list.specs.Steps.{last_of}
use Rattle.variant_list.specs.Visited.{visited_ahead, fewer_steps, TakesSteps}
use Rattle.variant_list.specs.declared.cursor.Outcome.{Outcome}
use Rattle.variant_list.specs.declared.cursor.Outcome.TheVariants as outcome

-- after so many steps the cursor stands at the label visited with the last of them, and goes on with those after it
pub record Visits (hopeless : List ℕ → Bool) (old : Position) (steps : Option ℕ) (new : Position)
    (left : Option ℕ) : Type 0 where
  pub taken : ℕ
  pub takes : TakesSteps steps taken left
  pub there : taken ≤ length (visited_ahead hopeless old)
  pub last : new.last ≡ last_of old.last (take taken (visited_ahead hopeless old))
  pub ahead : visited_ahead hopeless new ≡ drop taken (visited_ahead hopeless old)

-- all steps were used: the cursor stands at the label visited with the last of them, tested or passed over, and looked
-- at most 256 times at each edge for each step
pub record UsesAllSteps (hopeless : List ℕ → Bool) (old : Position) (steps : Option ℕ) (new : Position)
    (left : Option ℕ) : Type 0 where
  pub count : ℕ
  pub all : steps ≡ Some count
  pub none : left ≡ Some 0
  pub there : count ≤ length (visited_ahead hopeless old)
  pub last : new.last ≡ last_of old.last (take count (visited_ahead hopeless old))
  pub edge_tests : new.edge_tests ≤ 256 * (old.net.edges * count)

-- no label is left: there were more steps than labels to be visited, and one less for each is left
pub record VisitsAll (hopeless : List ℕ → Bool) (old : Position) (steps left : Option ℕ) : Type 0 where
  pub fewer : IfSome steps (λ n. length (visited_ahead hopeless old) < n)
  pub counted : left ≡ fewer_steps steps (length (visited_ahead hopeless old))

-- what each answer says of the steps
abbrev pub StepsTo : (List ℕ → Bool) → Position → Option ℕ → Result Outcome AllocError → Position → Option ℕ → Type 0
StepsTo hopeless old steps (Ok outcome.Found) new left = Visits hopeless old steps new left
StepsTo hopeless old steps (Ok outcome.OutOfTries) new left = Visits hopeless old steps new left
StepsTo hopeless old steps (Ok outcome.OutOfSteps) new left = UsesAllSteps hopeless old steps new left
StepsTo hopeless old steps (Ok outcome.Ended) new left = VisitsAll hopeless old steps left
StepsTo hopeless old steps (Err e) new left = Unit {0}
