-- What a reader by steps makes of a line, or where it stops, is what the grammar says.
use Rattle.std.proofs.Common.{◌≡◌, ℕ, List, [], ◌∷◌, ◌++◌, Option, Some, None, Result, Ok, Err, refl, sym, ap, subst, ◌∙◌, append_assoc, append-nil}
use Rattle.ruleset_text.specs.declared.fault.FaultPlace.{FaultPlace}
use Rattle.ruleset_text.specs.LineStops.{place_of, IsLineStop, or_end, at_lexeme, read_from}
use Rattle.ruleset_text.specs.PlacedLexemes.{Placed, unplaced}
use Rattle.idn_text.specs.Stops.{run, Begins, IsStop}
use Rattle.idn_text.proofs.StopLemmas.{Spelled, Reads, run_none, run_one, stops, ends, stopped}

pub unplaced_append : (xs ys : List Placed) → unplaced (xs ++ ys) ≡ unplaced xs ++ unplaced ys
unplaced_append [] ys = refl
unplaced_append (x ∷ xs) ys = ap (λ l. x.lexeme ∷ l) (unplaced_append xs ys)

pub ok_err : {A B : Type 0} (a : A) (place : FaultPlace) → (let r : Result A FaultPlace = Ok a in r) ≡ Err place → B
ok_err a place e = absurd (cc)

pub same_place : {A : Type 0} (p q : FaultPlace) → (let r : Result A FaultPlace = Err p in r) ≡ Err q → p ≡ q
same_place p q e = cc

same_read : {A : Type 0} (a b : A) → (let r : Result A FaultPlace = Ok a in r) ≡ Ok b → a ≡ b
same_read a b e = cc

-- ---- what is read

pub at_end : {A : Type 0} (end : ℕ) (o : Option A) (a : A) → or_end end o ≡ Ok a → o ≡ Some a
at_end end None a e = absurd (cc)
at_end end (Some b) a e = ap (λ x. Some x) (same_read b a e)

pub record Leads {S A : Type 0} (step : S → List ℕ → Option S) (ended : S → Option A) (s : S) (ws : List (List ℕ)) (a : A) : Type 0 where
  pub last : S
  pub run_to : run step (Some s) ws ≡ Some last
  pub ends_in : ended last ≡ Some a

pub leads : {S A : Type 0} (step : S → List ℕ → Option S) (ended : S → Option A) (end : ℕ) (ws : List Placed) (s : S) (a : A)
    → read_from step ended end s ws ≡ Ok a → Leads step ended s (unplaced ws) a
leads step ended end [] s a e = record { last = s; run_to = refl; ends_in = at_end end (ended s) a e }
leads {S} {A} step ended end (w ∷ ws) s a e = by (step s w.lexeme) refl e (λ t f. leads step ended end ws t a f)
  where
    by : (o : Option S) → step s w.lexeme ≡ o → at_lexeme w (λ t. read_from step ended end t ws) o ≡ Ok a
        → ((t : S) → read_from step ended end t ws ≡ Ok a → Leads step ended t (unplaced ws) a) → Leads step ended s (w.lexeme ∷ unplaced ws) a
    by None at f later = absurd (cc)
    by (Some t) at f later =
        let l = later t f in
        record { last = l.last; run_to = ap (λ o. run step o (unplaced ws)) at ∙ l.run_to; ends_in = l.ends_in }

no_state : {S A : Type 0} (t : S) → (let o : Option S = None in o) ≡ Some t → A
no_state t e = absurd (cc)

pub reads_to : {S A : Type 0} (step : S → List ℕ → Option S) (ended : S → Option A) (end : ℕ) (ws : List Placed) (s t : S) (a : A)
    → run step (Some s) (unplaced ws) ≡ Some t → ended t ≡ Some a → read_from step ended end s ws ≡ Ok a
reads_to step ended end [] s t a e f = let same : s ≡ t = cc in ap (or_end end) (ap ended same ∙ f)
reads_to {S} {A} step ended end (w ∷ ws) s t a e f = by (step s w.lexeme) refl e (λ u g. reads_to step ended end ws u t a g f)
  where
    by : (o : Option S) → step s w.lexeme ≡ o → run step o (unplaced ws) ≡ Some t
        → ((u : S) → run step (Some u) (unplaced ws) ≡ Some t → read_from step ended end u ws ≡ Ok a)
        → at_lexeme w (λ u. read_from step ended end u ws) (step s w.lexeme) ≡ Ok a
    by None at g later = no_state t (sym (run_none step (unplaced ws)) ∙ g)
    by (Some u) at g later = ap (at_lexeme w (λ v. read_from step ended end v ws)) at ∙ later u g

-- ---- where it stops

stops_in : {S A : Type 0} (step : S → List ℕ → Option S) (start : S) (ended : S → Option A) (Fits : List (List ℕ) → Type 0) (Spells : List (List ℕ) → A → Type 0)
    → Reads step start ended Fits Spells → (end : ℕ) (before ws : List Placed) (s : S) (place : FaultPlace)
    → ((front rest : List Placed) → before ++ ws ≡ front ++ rest → Fits (unplaced front)) → run step (Some start) (unplaced before) ≡ Some s → read_from step ended end s ws ≡ Err place
    → IsLineStop (Spelled Spells) (before ++ ws) end place
stops_in {S} {A} step start ended Fits Spells r end before [] s place fits reached e = by (ended s) refl e
  where
    by : (o : Option A) → ended s ≡ o → or_end end o ≡ Err place → IsLineStop (Spelled Spells) (before ++ []) end place
    by None at f = record { before = before; after = []; cut = refl; told = sym (same_place (place_of end []) place f); stop = ends step start ended Fits Spells r (unplaced before) s (fits before [] refl) reached at }
    by (Some a) at f = ok_err a place f
stops_in {S} {A} step start ended Fits Spells r end before (w ∷ ws) s place fits reached e =
    by (step s w.lexeme) refl e
    (λ t next f. stops_in step start ended Fits Spells r end (before ++ w ∷ []) ws t place (λ front rest cut. fits front rest (sym (append_assoc before (w ∷ []) ws) ∙ cut)) next f)
  where
    by : (o : Option S) → step s w.lexeme ≡ o → at_lexeme w (λ t. read_from step ended end t ws) o ≡ Err place
        → ((t : S) → run step (Some start) (unplaced (before ++ w ∷ [])) ≡ Some t → read_from step ended end t ws ≡ Err place → IsLineStop (Spelled Spells) ((before ++ w ∷ []) ++ ws) end place)
        → IsLineStop (Spelled Spells) (before ++ w ∷ ws) end place
    by None at f later = record {
      before = before;
      after = w ∷ ws;
      cut = refl;
      told = sym (same_place (place_of end (w ∷ ws)) place f);
      stop = stops step start ended Fits Spells r (unplaced before) w.lexeme (unplaced ws) s (fits before (w ∷ ws) refl) reached at;
    }
    by (Some t) at f later =
        let next = ap (run step (Some start)) (unplaced_append before (w ∷ [])) ∙ run_one step (unplaced before) w.lexeme start s reached ∙ at in
        subst (λ l. IsLineStop (Spelled Spells) l end place) (append_assoc before (w ∷ []) ws) (later t next f)

-- what is told of lexemes: what they spell, or where they stop spelling something
abbrev pub Tells : {A : Type 0} → (List (List ℕ) → A → Type 0) → List Placed → ℕ → Result A FaultPlace → Type 0
Tells Spells ws end (Ok a) = Spells (unplaced ws) a
Tells Spells ws end (Err place) = IsLineStop (Spelled Spells) ws end place

pub tells : {S A : Type 0} (step : S → List ℕ → Option S) (start : S) (ended : S → Option A) (Fits : List (List ℕ) → Type 0) (Spells : List (List ℕ) → A → Type 0)
    → Reads step start ended Fits Spells → (end : ℕ) (ws : List Placed) → ((front rest : List Placed) → ws ≡ front ++ rest → Fits (unplaced front))
    → Tells Spells ws end (read_from step ended end start ws)
tells {S} {A} step start ended Fits Spells r end ws fits = by (read_from step ended end start ws) refl
  where
    by : (read : Result A FaultPlace) → read_from step ended end start ws ≡ read → Tells Spells ws end read
    by (Ok a) e = let l = leads step ended end ws start a e in r.only (unplaced ws) l.last a l.run_to l.ends_in
    by (Err place) e = stops_in step start ended Fits Spells r end [] ws start place fits refl e

-- ---- there is one such place

-- what is no stop cannot be begun with
later_stop : (Is : List (List ℕ) → Type 0) (pre : List (List ℕ)) (w : Placed) (xs ys more : List Placed) → more ≡ w ∷ (xs ++ ys) → IsStop Is pre (unplaced more)
    → Begins Is (pre ++ unplaced (w ∷ xs)) → ⊥
later_stop Is pre w xs ys more e stop b =
    let at = subst (λ l. IsStop Is pre (unplaced l)) e stop in
    at.1 (unplaced xs ++ b.0, subst Is (append_assoc pre (w.lexeme ∷ unplaced xs) b.0 ∙ sym (append_assoc pre (w.lexeme ∷ []) (unplaced xs ++ b.0))) b.1)

begun_by : (Is : List (List ℕ) → Type 0) (before after : List (List ℕ)) → IsStop Is before after → Begins Is before
begun_by Is before [] stop = stop.0
begun_by Is before (w ∷ after) stop = stop.0

one_cut : (Is : List (List ℕ) → Type 0) (end : ℕ) (pre : List (List ℕ)) (xs after ys others : List Placed) → xs ++ after ≡ ys ++ others
    → IsStop Is (pre ++ unplaced xs) (unplaced after) → IsStop Is (pre ++ unplaced ys) (unplaced others) → place_of end after ≡ place_of end others
one_cut Is end pre [] after [] others e p q = ap (place_of end) e
one_cut Is end pre [] after (y ∷ ys) others e p q =
    absurd (later_stop Is pre y ys others after e (subst (λ l. IsStop Is l (unplaced after)) (append-nil pre) p) (begun_by Is (pre ++ unplaced (y ∷ ys)) (unplaced others) q))
one_cut Is end pre (x ∷ xs) after [] others e p q =
    absurd (later_stop Is pre x xs after others (sym e) (subst (λ l. IsStop Is l (unplaced others)) (append-nil pre) q) (begun_by Is (pre ++ unplaced (x ∷ xs)) (unplaced after) p))
one_cut Is end pre (x ∷ xs) after (y ∷ ys) others e p q =
    let first : x ≡ y = cc in
    let rest : xs ++ after ≡ ys ++ others = cc in
    one_cut Is end (pre ++ x.lexeme ∷ []) xs after ys others rest
    (subst (λ l. IsStop Is l (unplaced after)) (sym (append_assoc pre (x.lexeme ∷ []) (unplaced xs))) p)
    (subst (λ l. IsStop Is l (unplaced others)) (ap (λ v. pre ++ v.lexeme ∷ unplaced ys) (sym first) ∙ sym (append_assoc pre (x.lexeme ∷ []) (unplaced ys))) q)

pub one_place : (Is : List (List ℕ) → Type 0) (ws : List Placed) (end : ℕ) (p q : FaultPlace) → IsLineStop Is ws end p → IsLineStop Is ws end q → p ≡ q
one_place Is ws end p q s t = s.told ∙ one_cut Is end [] s.before s.after t.before t.after (sym s.cut ∙ t.cut) s.stop t.stop ∙ sym t.told

-- what has a stop is not so
pub not_whole : (Is : List (List ℕ) → Type 0) (ws : List Placed) (end : ℕ) (place : FaultPlace) → IsLineStop Is ws end place → Is (unplaced ws) → ⊥
not_whole Is ws end place s is =
    stopped Is (unplaced s.before) (unplaced s.after) s.stop (subst Is (ap unplaced s.cut ∙ unplaced_append s.before s.after) is)

-- so what is told is all that there is to tell
pub whole_is : {A : Type 0} (Spells : List (List ℕ) → A → Type 0) (ws : List Placed) (end : ℕ) (read : Result A FaultPlace) (a : A) → Tells Spells ws end read
    → ((b : A) → Spells (unplaced ws) b → a ≡ b) → Spells (unplaced ws) a → read ≡ Ok a
whole_is Spells ws end (Ok b) a told one is = ap (λ x. Ok x) (sym (one b told))
whole_is Spells ws end (Err place) a told one is = absurd (not_whole (Spelled Spells) ws end place told (a, is))

pub stop_is : {A : Type 0} (Spells : List (List ℕ) → A → Type 0) (ws : List Placed) (end : ℕ) (read : Result A FaultPlace) (place : FaultPlace) → Tells Spells ws end read
    → IsLineStop (Spelled Spells) ws end place → read ≡ Err place
stop_is Spells ws end (Ok b) place told stop = absurd (not_whole (Spelled Spells) ws end place stop (b, told))
stop_is Spells ws end (Err other) place told stop = ap (λ p. Err p) (one_place (Spelled Spells) ws end other place told stop)

-- ---- after a first lexeme, and at it

pub after_first : (Is All : List (List ℕ) → Type 0) (w : Placed) (ws : List Placed) (end : ℕ) (place : FaultPlace) → ((more : List (List ℕ)) → Is more → All (w.lexeme ∷ more))
    → ((more : List (List ℕ)) → All (w.lexeme ∷ more) → Is more) → IsLineStop Is ws end place → IsLineStop All (w ∷ ws) end place
after_first Is All w ws end place to from s = record {
  before = w ∷ s.before;
  after = s.after;
  cut = ap (λ l. w ∷ l) s.cut;
  told = s.told;
  stop = by (unplaced s.before) (unplaced s.after) s.stop;
}
  where
    by : (before after : List (List ℕ)) → IsStop Is before after → IsStop All (w.lexeme ∷ before) after
    by before [] stop = ((stop.0.0, to (before ++ stop.0.0) stop.0.1), λ all. stop.1 (from before all))
    by before (v ∷ after) stop = ((stop.0.0, to (before ++ stop.0.0) stop.0.1), λ b. stop.1 (b.0, from ((before ++ v ∷ []) ++ b.0) b.1))

pub at_first : (All : List (List ℕ) → Type 0) (w : Placed) (ws : List Placed) (end : ℕ) → Begins All [] → ((more : List (List ℕ)) → All (w.lexeme ∷ more) → ⊥)
    → IsLineStop All (w ∷ ws) end (place_of end (w ∷ ws))
at_first All w ws end begun none = record { before = []; after = w ∷ ws; cut = refl; told = refl; stop = (begun, λ b. none b.0 b.1) }

pub at_none : (All : List (List ℕ) → Type 0) (end : ℕ) → Begins All [] → (All [] → ⊥) → IsLineStop All [] end (place_of end [])
at_none All end begun none = record { before = []; after = []; cut = refl; told = refl; stop = (begun, none) }

-- what is so under another name
pub renamed : (Is All : List (List ℕ) → Type 0) (ws : List Placed) (end : ℕ) (place : FaultPlace) → ((more : List (List ℕ)) → Is more → All more)
    → ((more : List (List ℕ)) → All more → Is more) → IsLineStop Is ws end place → IsLineStop All ws end place
renamed Is All ws end place to from s = record { before = s.before; after = s.after; cut = s.cut; told = s.told; stop = by (unplaced s.before) (unplaced s.after) s.stop }
  where
    by : (before after : List (List ℕ)) → IsStop Is before after → IsStop All before after
    by before [] stop = ((stop.0.0, to (before ++ stop.0.0) stop.0.1), λ all. stop.1 (from before all))
    by before (v ∷ after) stop = ((stop.0.0, to (before ++ stop.0.0) stop.0.1), λ b. stop.1 (b.0, from ((before ++ v ∷ []) ++ b.0) b.1))
