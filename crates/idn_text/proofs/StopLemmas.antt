-- A reader by steps stops where the grammar says: if it reads all that is so, and some of it begins with whatever leads to a state.
use Rattle.std.proofs.Common.{◌≡◌, List, [], ◌∷◌, ◌++◌, Option, Some, None, refl, sym, ap, subst, ◌∙◌, append_assoc, append-nil}
use Rattle.idn_text.specs.Stops.{next, run, Begins, IsStop}

pub run_none : {S L : Type 0} (step : S → L → Option S) (ws : List L) → run step None ws ≡ None
run_none step [] = refl
run_none step (w ∷ ws) = run_none step ws

pub run_append : {S L : Type 0} (step : S → L → Option S) (ws more : List L) (s : Option S) → run step s (ws ++ more) ≡ run step (run step s ws) more
run_append step [] more s = refl
run_append step (w ∷ ws) more s = run_append step ws more (next step s w)

pub run_one : {S L : Type 0} (step : S → L → Option S) (ws : List L) (w : L) (start s : S) → run step (Some start) ws ≡ Some s
    → run step (Some start) (ws ++ w ∷ []) ≡ step s w
run_one step ws w start s e = run_append step ws (w ∷ []) (Some start) ∙ ap (λ o. next step o w) e

-- the lexemes spell something
abbrev pub Spelled : {L A : Type 0} → (List L → A → Type 0) → List L → Type 0
Spelled {L} {A} Spells ws = (a : A) × Spells ws a

-- what a reader does: it ends in what is spelled, and only in states that go on to something, after what fits
pub record Reads {S L A : Type 0} (step : S → L → Option S) (start : S) (end : S → Option A) (Fits : List L → Type 0) (Spells : List L → A → Type 0) : Type 0 where
  pub all : (ws : List L) (a : A) → Spells ws a → (s : S) × (run step (Some start) ws ≡ Some s) × (end s ≡ Some a)
  pub only : (ws : List L) (s : S) (a : A) → run step (Some start) ws ≡ Some s → end s ≡ Some a → Spells ws a
  pub begun : (ws : List L) (s : S) → Fits ws → run step (Some start) ws ≡ Some s → Begins (Spelled Spells) ws

two_states : {S : Type 0} (o : Option S) (s t : S) → o ≡ Some s → o ≡ Some t → s ≡ t
two_states o s t e f = cc

no_state : {S : Type 0} (s : S) → None ≡ Some s → ⊥
no_state s e = cc

pub stops : {S L A : Type 0} (step : S → L → Option S) (start : S) (end : S → Option A) (Fits : List L → Type 0) (Spells : List L → A → Type 0)
    (r : Reads step start end Fits Spells) (before : List L) (w : L) (after : List L) (s : S) → Fits before → run step (Some start) before ≡ Some s → step s w ≡ None → IsStop (Spelled Spells) before (w ∷ after)
stops step start end Fits Spells r before w after s fits e none = (r.begun before s fits e, stuck)
  where
    stuck : Begins (Spelled Spells) (before ++ w ∷ []) → ⊥
    stuck b =
        let read = r.all ((before ++ w ∷ []) ++ b.0) b.1.0 b.1.1 in
        let lost = run_append step (before ++ w ∷ []) b.0 (Some start) ∙ ap (λ o. run step o b.0) (run_one step before w start s e ∙ none) ∙ run_none step b.0 in
        no_state read.0 (sym lost ∙ read.1)

pub ends : {S L A : Type 0} (step : S → L → Option S) (start : S) (end : S → Option A) (Fits : List L → Type 0) (Spells : List L → A → Type 0)
    (r : Reads step start end Fits Spells) (before : List L) (s : S) → Fits before → run step (Some start) before ≡ Some s → end s ≡ None → IsStop (Spelled Spells) before []
ends step start end Fits Spells r before s fits e none = (r.begun before s fits e, open_)
  where
    open_ : Spelled Spells before → ⊥
    open_ is =
        let read = r.all before is.0 is.1 in
        no_state is.0 (sym none ∙ ap end (two_states (run step (Some start) before) s read.0 e read.1) ∙ read.2)

-- what has a stop is not so
pub stopped : {L : Type 0} (Is : List L → Type 0) (before after : List L) → IsStop Is before after → Is (before ++ after) → ⊥
stopped Is before [] stop is = stop.1 (subst Is (append-nil before) is)
stopped Is before (w ∷ after) stop is = stop.1 (after, subst Is (sym (append_assoc before (w ∷ []) after)) is)
