-- How far the block of a label has come: what it still says from where its cursor stands, and what the next line may be.
use Rattle.std.specs.Prelude.{◌≡◌, ℕ, zero, suc, ◌+◌, ◌-◌, ◌<◌, ◌≤◌, List, [], ◌∷◌, ◌++◌, length, map, filter, All}
use Rattle.std.specs.Prelude.{Option, Some, None, IfSome}
use Rattle.std.specs.List.{slice_get}
use Rattle.idn_class.specs.declared.properties.Properties.{Properties}
use Rattle.idn_text.specs.Points.{AreScalarValues}
use Rattle.idn_label.specs.FirstFault.{IsRegistrable}
use Rattle.idn_label.specs.Memory.{NeedsNoMemory}
use Rattle.variant_list.specs.Positions.{Position, tested_ahead}
use Rattle.variant_list.specs.Visited.{visited_ahead}
use Rattle.idn2_answers.specs.Listings.{Filter, lesser_label, up_to}
use Rattle.idn2_answers.specs.Said.{Said, BlockEnd}
use Rattle.idn2_options.specs.Settings.{Settings}
use Rattle.idn2_cli.specs.declared.modes.counts.Counts.{Counts}
use Rattle.idn2_cli.specs.declared.modes.counts.Line.{Line}
use Rattle.idn2_cli.specs.declared.modes.counts.Line.TheVariants.{Variant, Stop, End}
use Rattle.idn2_cli.specs.declared.modes.variant_judge.VariantJudge.{VariantJudge}
use Rattle.idn2_cli.specs.inner.Blocks.{KnowsLabel, Tells, filter_of_judge}
use Rattle.idn2_cli.specs.inner.CachedLines.{IsBegun}

-- a block under way: where its cursor stands, what judges its variants, how many may be listed, how many more labels may
-- be tested and steps be taken, and how many variants are listed so far
pub record Progress : Type 0 where
  pub cursor : Position
  pub judge : VariantJudge
  pub limit : Option ℕ
  pub tries : ℕ
  pub steps : Option ℕ
  pub count : ℕ

-- by what is counted
abbrev pub progress_of : Position → VariantJudge → Counts → Progress
progress_of cursor judge counts = record {
  cursor = cursor;
  judge = judge;
  limit = counts.limit;
  tries = counts.tries;
  steps = counts.steps;
  count = counts.count;
}

-- before the first line
abbrev pub first_counts : Settings → Counts
first_counts o = record { limit = o.limit; tries = o.tries; steps = o.steps; count = 0 }

-- ---- what is still to come

-- the label to which so many more of these lead: the last one, if none is taken
abbrev pub from_here : List ℕ → List (List ℕ) → ℕ → Option (List ℕ)
from_here last labels zero = Some last
from_here last labels (suc n) = slice_get labels n

-- the same, if their number is bounded
abbrev pub from_here_if : List ℕ → List (List ℕ) → Option ℕ → Option (List ℕ)
from_here_if last labels None = None
from_here_if last labels (Some n) = from_here last labels n

-- how many more may be listed after so many, if there is a limit
abbrev pub more_to : Option ℕ → ℕ → Option ℕ
more_to None count = None
more_to (Some limit) count = Some (limit - count)

-- the variants that are still to come
abbrev pub variants_ahead : Filter → Position → List (List ℕ)
variants_ahead f p = filter f.accepts (tested_ahead f.hopeless p)

-- where the listing stops: the label to which so many more variants, tries or steps lead, the least of those that exist
abbrev pub stop_from : Filter → Position → (more : Option ℕ) (tries : ℕ) (steps : Option ℕ) → Option (List ℕ)
stop_from f p more tries steps =
    lesser_label (from_here_if p.last (variants_ahead f p) more)
    (lesser_label (from_here p.last (tested_ahead f.hopeless p) tries)
    (from_here_if p.last (visited_ahead f.hopeless p) steps))

-- after `count` variants, what is said of these up to a stop, and then the end
abbrev pub block_from : (List ℕ → Said) → ℕ → Option (List ℕ) → List (List ℕ) → List Said
block_from line count stop vs = map line (up_to stop vs) ++ BlockEnd (count + length (up_to stop vs)) stop ∷ []

-- what a block still says, by what it says of each variant
abbrev pub lines_ahead : (List ℕ → Said) → Progress → List Said
lines_ahead line at =
    block_from line at.count
    (stop_from (filter_of_judge at.judge) at.cursor (more_to at.limit at.count) at.tries at.steps)
    (variants_ahead (filter_of_judge at.judge) at.cursor)

-- the labels that are still to be tested need no memory
abbrev pub GoesOnWithoutMemory : Progress → Type 0
GoesOnWithoutMemory at = All NeedsNoMemory (tested_ahead (filter_of_judge at.judge).hopeless at.cursor)

-- ---- the next line

-- at most 63 code points, all scalar values
pub record IsWritable (v : List ℕ) : Type 0 where
  pub short : length v ≤ 63
  pub scalar_values : AreScalarValues v

-- a line may come: the judge knows the label at which the cursor stands, no more variants are listed than may be, and
-- these and the tries are too few to overflow the count
pub record IsUnderWay (at : Progress) : Type 0 where
  pub known : KnowsLabel at.judge at.cursor.last
  pub writable : IsWritable at.cursor.last
  pub spelled : All AreScalarValues at.cursor.net.spelled
  pub within : IfSome at.limit (λ limit. at.count ≤ limit)
  pub few : at.count + at.tries ≤ 1000000000

-- the cursor goes to the next variant, of which the judge tells: its line comes next, and then the lines ahead from there
pub record GoesToVariant (old new : Progress) : Type 0 where
  pub said : (line : List ℕ → Said) → lines_ahead line old ≡ line new.cursor.last ∷ lines_ahead line new
  pub registrable : (properties : Properties) × IsRegistrable properties new.cursor.last
  pub tells : Tells new.judge new.cursor.last
  pub under_way : IsUnderWay new
  pub fewer_tries : new.tries < old.tries
  pub no_memory : GoesOnWithoutMemory old → GoesOnWithoutMemory new

-- the cursor stands at the label at which the block stops
pub record GoesToStop (old new : Progress) : Type 0 where
  pub said : (line : List ℕ → Said) → lines_ahead line old ≡ BlockEnd new.count (Some new.cursor.last) ∷ []
  pub writable : IsWritable new.cursor.last
  pub begun : IsBegun new.cursor.last new.judge.line

-- the listing has ended
pub record GoesToEnd (old new : Progress) : Type 0 where
  pub said : (line : List ℕ → Said) → lines_ahead line old ≡ BlockEnd new.count None ∷ []

-- by which line comes next
abbrev pub GoesTo : Line → (old new : Progress) → Type 0
GoesTo Variant old new = GoesToVariant old new
GoesTo Stop old new = GoesToStop old new
GoesTo End old new = GoesToEnd old new
