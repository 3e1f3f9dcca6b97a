-- Where a reader of lexemes stops.
use Rattle.std.specs.Prelude.{Option, Some, None, List, [], ◌∷◌, ◌++◌}

-- ---- readers

abbrev pub next : {S L : Type 0} → (S → L → Option S) → Option S → L → Option S
next step None w = None
next step (Some s) w = step s w

-- the state after lexemes, each of which may stand where it does
abbrev pub run : {S L : Type 0} → (S → L → Option S) → Option S → List L → Option S
run step s [] = s
run step s (w ∷ ws) = run step (next step s w) ws

-- ---- places

-- something that is so begins with these
abbrev pub Begins : {L : Type 0} → (List L → Type 0) → List L → Type 0
Begins {L} Is ws = (more : List L) × Is (ws ++ more)

-- something that is so begins with those before the place, and nothing goes on with the next one; or there is no next
-- one, and what was read isn't so
abbrev pub IsStop : {L : Type 0} → (List L → Type 0) → List L → List L → Type 0
IsStop Is before [] = Begins Is before × (Is before → ⊥)
IsStop Is before (w ∷ after) = Begins Is before × (Begins Is (before ++ w ∷ []) → ⊥)
