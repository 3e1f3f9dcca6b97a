-- Laws of turns: a jump, and a register's first label from what it found on, and so on; and of one jump that decides a
-- pair.
use Rattle.std.specs.Prelude.{◌≡◌, ◌≢◌, ◌↔◌, ◌≤◌, ◌+◌, ℕ, false, IsTrue, List, [], ◌∷◌, ◌++◌, length, filter, Contains}
use Rattle.std.specs.Prelude.{Option, Some}
use Rattle.variant_table.specs.Entries.{TableValue}
use Rattle.valid_labels.specs.Validity.{IsSound}
use Rattle.variant_list.specs.Closure.{AreNear}
use Rattle.variant_list.specs.Jumps.{HasNoneFrom, IsCandidate, IsLeastFrom}
use Rattle.variant_list.specs.Labels.{IsListOf}
use Rattle.registered_labels.specs.Registered.{AreRegistered}
use Rattle.answer_json.specs.declared.collision.Regards.{Regards}
use Rattle.idn2_options.specs.Settings.{Settings}
use Rattle.idn2_answers.specs.Answers.{IsJump}
use Rattle.idn2_answers.specs.Listings.{is_registrable}
use Rattle.idn2_answers.specs.Collisions.{Collides, collide, collisions_after, is_either}

-- turns from a text on find these registered labels in so many jumps: a jump finds the least near label from the text
-- on, and the register its first label from there on. Where both are one it is found, and the next turn begins after
-- it; else at that label
pub data Turns (near : List ℕ → Type 0) (registered : List (List ℕ)) : List ℕ → List (List ℕ) → ℕ → Type 0 where
  none_near : (text : List ℕ) → HasNoneFrom near text → Turns near registered text [] 1
  none_registered : (text least : List ℕ) → IsLeastFrom near text least → HasNoneFrom (Contains registered) least →
      Turns near registered text [] 1
  passed : (text least label : List ℕ) (found : List (List ℕ)) (jumps : ℕ) → IsLeastFrom near text least →
      IsLeastFrom (Contains registered) least label
      → label ≢ least → Turns near registered label found jumps → Turns near registered text found (jumps + 1)
  met : (text least : List ℕ) (found : List (List ℕ)) (jumps : ℕ) → IsLeastFrom near text least →
      Contains registered least
      → Turns near registered (least ++ 0 ∷ []) found jumps → Turns near registered text (least ∷ found) (jumps + 1)

-- what turns find from the empty text on is what is registered and near, in label order; they take the first jump, one
-- from each registered label that they come to, and one after each that is near
pub record TurnsFindWhatIsNear : Type 0 where
  pub exactly : (table : TableValue) (label : List ℕ) (registered found : List (List ℕ)) (jumps : ℕ) →
      Turns (IsCandidate (AreNear table label)) registered [] found jumps
      → IsListOf (λ v. Contains registered v × IsCandidate (AreNear table label) v) found
  pub few : (table : TableValue) (label : List ℕ) (registered found : List (List ℕ)) (jumps : ℕ) →
      Turns (IsCandidate (AreNear table label)) registered [] found jumps
      → jumps ≤ length registered + length found + 1

-- of what is near, those that collide are the block of `--among` from the empty text on; and one jump decides whether a
-- label of at most 63 code points collides
pub record JumpsFindTheSame : Type 0 where
  pub block : (o : Settings) (table : TableValue) (registered : List (List ℕ)) (label : List ℕ) (found : List (List ℕ))
      (jumps : ℕ) → IsSound table
      → AreRegistered o.properties registered → o.after ≡ [] → o.others ≡ false →
      Turns (IsCandidate (AreNear table label)) registered [] found jumps
      → filter (collide (is_registrable o.properties) table label) found ≡ collisions_after o table registered label
  pub pair : (o : Settings) (table : TableValue) (label v : List ℕ) (answer : Option (List ℕ × Regards)) →
      length v ≤ 63 → IsJump o table label v answer
      → Collides o table label v ↔ ((regards : Regards) × (answer ≡ Some (v, regards)) × IsTrue (is_either regards))
