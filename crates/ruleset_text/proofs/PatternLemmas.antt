-- What a pattern spells leads to its pieces, and what leads to pieces is what they spell.
use Rattle.std.proofs.Common.{◌≡◌, Bool, true, false, List, [], ◌∷◌, ◌++◌, Option, Some, None, refl, sym, ap, subst, ◌∙◌, append_assoc, append-nil}
use Rattle.ruleset_text.specs.declared.token.Token.{Token}
use Rattle.ruleset_text.specs.declared.token.Token.TheVariants as token
use Rattle.label_patterns.specs.Patterns.{Pattern, Point, Set, Any, Start, End, Anchor, Group, Optional, Many, Then, Either}
use Rattle.ruleset_text.specs.Grammar.{Sort, Atom, Item, Branch, Whole, Is, tokens, SpellsPattern}
use Rattle.ruleset_text.specs.Reading.{Piece, Opening, Branched, Part, items, before_items, branches, before_branches, ending, with_sign, with_bar, with_close, step, alone, ended, pattern_at, pattern_of}
use Rattle.idn_text.specs.Stops.{run}
use Rattle.idn_text.proofs.StopLemmas.{run_none}

-- ---- what is spelled is read

-- the pieces that a pattern leads to, after these
abbrev pub pieces_of : Pattern → List Piece → List Piece
pieces_of (Point c) s = Part true (Point c) ∷ s
pieces_of (Set n) s = Part true (Set n) ∷ s
pieces_of Any s = Part true Any ∷ s
pieces_of Start s = Part false Start ∷ s
pieces_of End s = Part false End ∷ s
pieces_of Anchor s = Part false Anchor ∷ s
pieces_of (Group p) s = Part true (Group p) ∷ s
pieces_of (Optional p) s = Part false (Optional p) ∷ s
pieces_of (Many p) s = Part false (Many p) ∷ s
pieces_of (Then p q) s = pieces_of q (pieces_of p s)
pieces_of (Either p q) s = pieces_of q (Branched p ∷ s)

-- no item stands last
abbrev pub IsFresh : List Piece → Type 0
IsFresh (Part b p ∷ s) = ⊥
IsFresh s = Unit {0}

pub atom_piece : (p : Pattern) (s : List Piece) → Is Atom p → pieces_of p s ≡ Part true p ∷ s
atom_piece (Point c) s h = refl
atom_piece (Set n) s h = refl
atom_piece Any s h = refl
atom_piece Start s h = absurd h
atom_piece End s h = absurd h
atom_piece Anchor s h = absurd h
atom_piece (Group p) s h = refl
atom_piece (Optional p) s h = absurd h
atom_piece (Many p) s h = absurd h
atom_piece (Then p q) s h = absurd h
atom_piece (Either p q) s h = absurd h

item_piece : (p : Pattern) (s : List Piece) → Is Item p → (b : Bool) × (pieces_of p s ≡ Part b p ∷ s)
item_piece (Point c) s h = (true, refl)
item_piece (Set n) s h = (true, refl)
item_piece Any s h = (true, refl)
item_piece Start s h = (false, refl)
item_piece End s h = (false, refl)
item_piece Anchor s h = (false, refl)
item_piece (Group p) s h = (true, refl)
item_piece (Optional p) s h = (false, refl)
item_piece (Many p) s h = (false, refl)
item_piece (Then p q) s h = absurd h
item_piece (Either p q) s h = absurd h

-- a branch is folded by its '/'
pub bars : (p : Pattern) (s : List Piece) → Is Branch p → with_bar (pieces_of p s) ≡ Some (Branched (items p s) ∷ before_items s)
bars (Point c) s h = refl
bars (Set n) s h = refl
bars Any s h = refl
bars Start s h = refl
bars End s h = refl
bars Anchor s h = refl
bars (Group p) s h = refl
bars (Optional p) s h = refl
bars (Many p) s h = refl
bars (Then p q) s h =
    let first = item_piece p s h.0 in
    ap (λ l. with_bar (pieces_of q l)) first.1 ∙ bars q (Part first.0 p ∷ s) h.1
bars (Either p q) s h = absurd h

-- a branch at the end, and a whole pattern
branch_ends : {X : Type 0} (f : Pattern → List Piece → Option X) (p : Pattern) (s : List Piece) → Is Branch p
    → ending f (pieces_of p s) ≡ f (branches (items p s) (before_items s)) (before_branches (before_items s))
branch_ends f (Point c) s h = refl
branch_ends f (Set n) s h = refl
branch_ends f Any s h = refl
branch_ends f Start s h = refl
branch_ends f End s h = refl
branch_ends f Anchor s h = refl
branch_ends f (Group p) s h = refl
branch_ends f (Optional p) s h = refl
branch_ends f (Many p) s h = refl
branch_ends f (Then p q) s h =
    let first = item_piece p s h.0 in
    ap (λ l. ending f (pieces_of q l)) first.1 ∙ branch_ends f q (Part first.0 p ∷ s) h.1
branch_ends f (Either p q) s h = absurd h

-- where no item stands last there is nothing to fold
pub fresh_folds : {X : Type 0} (f : Pattern → List Piece → X) (p : Pattern) (s : List Piece) → IsFresh s → f (items p s) (before_items s) ≡ f p s
fresh_folds f p [] h = refl
fresh_folds f p (Opening ∷ s) h = refl
fresh_folds f p (Branched q ∷ s) h = refl
fresh_folds f p (Part b q ∷ s) h = absurd h

pub whole_ends : {X : Type 0} (f : Pattern → List Piece → Option X) (p : Pattern) (s : List Piece) → Is Whole p → IsFresh s
    → ending f (pieces_of p s) ≡ f (branches p s) (before_branches s)
whole_ends f (Point c) s h fresh = fresh_folds (λ q r. f (branches q r) (before_branches r)) (Point c) s fresh
whole_ends f (Set n) s h fresh = fresh_folds (λ q r. f (branches q r) (before_branches r)) (Set n) s fresh
whole_ends f Any s h fresh = fresh_folds (λ q r. f (branches q r) (before_branches r)) Any s fresh
whole_ends f Start s h fresh = fresh_folds (λ q r. f (branches q r) (before_branches r)) Start s fresh
whole_ends f End s h fresh = fresh_folds (λ q r. f (branches q r) (before_branches r)) End s fresh
whole_ends f Anchor s h fresh = fresh_folds (λ q r. f (branches q r) (before_branches r)) Anchor s fresh
whole_ends f (Group p) s h fresh = fresh_folds (λ q r. f (branches q r) (before_branches r)) (Group p) s fresh
whole_ends f (Optional p) s h fresh = fresh_folds (λ q r. f (branches q r) (before_branches r)) (Optional p) s fresh
whole_ends f (Many p) s h fresh = fresh_folds (λ q r. f (branches q r) (before_branches r)) (Many p) s fresh
whole_ends f (Then p q) s h fresh = branch_ends f (Then p q) s h ∙ fresh_folds (λ p r. f (branches p r) (before_branches r)) (Then p q) s fresh
whole_ends f (Either p q) s h fresh = whole_ends f q (Branched p ∷ s) h.1 tt

-- a whole pattern is read where no item stands last, and any other part of one anywhere
abbrev pub May : Sort → List Piece → Type 0
May Whole s = IsFresh s
May other s = Unit {0}

sign_reads : (f : Pattern → Pattern) (t : Token) (p : Pattern) (ts : List Token) (s : List Piece) → Is Atom p
    → ((r : List Piece) → step r t ≡ with_sign f r)
    → run step (Some s) (tokens p ++ t ∷ ts) ≡ run step (Some (pieces_of p s)) (t ∷ ts) → run step (Some s) ((tokens p ++ t ∷ []) ++ ts) ≡ run step (Some (Part false (f p) ∷ s)) ts
sign_reads f t p ts s h is e =
    ap (run step (Some s)) (append_assoc (tokens p) (t ∷ []) ts) ∙ e ∙ ap (λ o. run step o ts) (is (pieces_of p s) ∙ ap (with_sign f) (atom_piece p s h))

pub reads : (k : Sort) (p : Pattern) → Is k p → (ts : List Token) (s : List Piece) → May k s → run step (Some s) (tokens p ++ ts) ≡ run step (Some (pieces_of p s)) ts
reads k (Point c) h ts s m = refl
reads k (Set n) h ts s m = refl
reads k Any h ts s m = refl
reads k Start h ts s m = refl
reads k End h ts s m = refl
reads k Anchor h ts s m = refl
reads k (Group p) h ts s m =
    ap (run step (Some (Opening ∷ s))) (append_assoc (tokens p) (token.Close ∷ []) ts)
    ∙ reads Whole p h (token.Close ∷ ts) (Opening ∷ s) tt
    ∙ ap (λ o. run step o ts) (whole_ends with_close p (Opening ∷ s) h tt)
reads Atom (Optional p) h ts s m = absurd h
reads Item (Optional p) h ts s m = sign_reads Optional token.Optional p ts s h (λ r. refl) (reads Atom p h (token.Optional ∷ ts) s tt)
reads Branch (Optional p) h ts s m = sign_reads Optional token.Optional p ts s h (λ r. refl) (reads Atom p h (token.Optional ∷ ts) s tt)
reads Whole (Optional p) h ts s m = sign_reads Optional token.Optional p ts s h (λ r. refl) (reads Atom p h (token.Optional ∷ ts) s tt)
reads Atom (Many p) h ts s m = absurd h
reads Item (Many p) h ts s m = sign_reads Many token.Many p ts s h (λ r. refl) (reads Atom p h (token.Many ∷ ts) s tt)
reads Branch (Many p) h ts s m = sign_reads Many token.Many p ts s h (λ r. refl) (reads Atom p h (token.Many ∷ ts) s tt)
reads Whole (Many p) h ts s m = sign_reads Many token.Many p ts s h (λ r. refl) (reads Atom p h (token.Many ∷ ts) s tt)
reads Atom (Then p q) h ts s m = absurd h
reads Item (Then p q) h ts s m = absurd h
reads Branch (Then p q) h ts s m =
    ap (run step (Some s)) (append_assoc (tokens p) (tokens q) ts) ∙ reads Item p h.0 (tokens q ++ ts) s tt ∙ reads Branch q h.1 ts (pieces_of p s) tt
reads Whole (Then p q) h ts s m =
    ap (run step (Some s)) (append_assoc (tokens p) (tokens q) ts) ∙ reads Item p h.0 (tokens q ++ ts) s tt ∙ reads Branch q h.1 ts (pieces_of p s) tt
reads Atom (Either p q) h ts s m = absurd h
reads Item (Either p q) h ts s m = absurd h
reads Branch (Either p q) h ts s m = absurd h
reads Whole (Either p q) h ts s m =
    ap (run step (Some s)) (append_assoc (tokens p) (token.Or ∷ tokens q) ts)
    ∙ reads Branch p h.0 (token.Or ∷ (tokens q ++ ts)) s tt
    ∙ ap (λ o. run step o (tokens q ++ ts)) (bars p s h.0 ∙ fresh_folds (λ r u. Some (Branched r ∷ u)) p s m)
    ∙ reads Whole q h.1 ts (Branched p ∷ s) tt

-- the pieces of a whole pattern are that pattern
pub spelled_pieces : (ts : List Token) (p : Pattern) → SpellsPattern ts p → (run step (Some []) ts ≡ Some (pieces_of p [])) × (ended (pieces_of p []) ≡ Some p)
spelled_pieces ts p h =
    (ap (run step (Some [])) (h.1 ∙ sym (append-nil (tokens p))) ∙ reads Whole p h.0 [] [] tt, whole_ends alone p [] h.0 tt)

-- ---- what is read is spelled

pub item_is : (p : Pattern) → Is Atom p → Is Item p
item_is (Point c) h = tt
item_is (Set n) h = tt
item_is Any h = tt
item_is Start h = tt
item_is End h = tt
item_is Anchor h = tt
item_is (Group p) h = h
item_is (Optional p) h = absurd h
item_is (Many p) h = absurd h
item_is (Then p q) h = absurd h
item_is (Either p q) h = absurd h

pub branch_is : (p : Pattern) → Is Item p → Is Branch p
branch_is (Point c) h = tt
branch_is (Set n) h = tt
branch_is Any h = tt
branch_is Start h = tt
branch_is End h = tt
branch_is Anchor h = tt
branch_is (Group p) h = h
branch_is (Optional p) h = h
branch_is (Many p) h = h
branch_is (Then p q) h = absurd h
branch_is (Either p q) h = absurd h

pub whole_is : (p : Pattern) → Is Branch p → Is Whole p
whole_is (Point c) h = tt
whole_is (Set n) h = tt
whole_is Any h = tt
whole_is Start h = tt
whole_is End h = tt
whole_is Anchor h = tt
whole_is (Group p) h = h
whole_is (Optional p) h = h
whole_is (Many p) h = h
whole_is (Then p q) h = h
whole_is (Either p q) h = absurd h

abbrev pub piece_tokens : Piece → List Token
piece_tokens Opening = token.Open ∷ []
piece_tokens (Branched p) = tokens p ++ token.Or ∷ []
piece_tokens (Part b p) = tokens p

abbrev pub spelled : List Piece → List Token
spelled [] = []
spelled (x ∷ s) = spelled s ++ piece_tokens x

-- items, atoms where a sign may follow, and whole branches
abbrev pub AreGood : List Piece → Type 0
AreGood [] = Unit {0}
AreGood (Opening ∷ s) = AreGood s
AreGood (Branched p ∷ s) = Is Branch p × IsFresh s × AreGood s
AreGood (Part true p ∷ s) = Is Atom p × AreGood s
AreGood (Part false p ∷ s) = Is Item p × AreGood s

part_is : (b : Bool) (p : Pattern) (s : List Piece) → AreGood (Part b p ∷ s) → Is Item p × AreGood s
part_is true p s h = (item_is p h.0, h.1)
part_is false p s h = h

-- q at the end of p and what stands before, folded
abbrev pub Folds : List Piece → List Piece → Pattern → Pattern → Type 0
Folds s r p q = (spelled r ++ tokens q ≡ spelled s ++ tokens p) × AreGood r

pub items_fold : (s : List Piece) (p : Pattern) → AreGood s → Is Branch p → Is Branch (items p s) × IsFresh (before_items s) × Folds s (before_items s) p (items p s)
items_fold [] p good h = (h, tt, (refl, tt))
items_fold (Opening ∷ s) p good h = (h, tt, (refl, good))
items_fold (Branched q ∷ s) p good h = (h, tt, (refl, good))
items_fold (Part b q ∷ s) p good h =
    let part = part_is b q s good in
    let rest = items_fold s (Then q p) part.1 (part.0, h) in
    (rest.0, rest.1, (rest.2.0 ∙ sym (append_assoc (spelled s) (tokens q) (tokens p)), rest.2.1))

branches_fold : (s : List Piece) (p : Pattern) → AreGood s → Is Whole p → Is Whole (branches p s) × Folds s (before_branches s) p (branches p s)
branches_fold [] p good h = (h, (refl, tt))
branches_fold (Opening ∷ s) p good h = (h, (refl, good))
branches_fold (Branched q ∷ s) p good h =
    let rest = branches_fold s (Either q p) good.2 (good.0, h) in (
      rest.0,
      (
        rest.1.0
            ∙ ap (λ l. spelled s ++ l) (sym (append_assoc (tokens q) (token.Or ∷ []) (tokens p)))
            ∙ sym (append_assoc (spelled s) (tokens q ++ token.Or ∷ []) (tokens p)),
        rest.1.1,
      ),
    )
branches_fold (Part b q ∷ s) p good h = (h, (refl, good))

-- the whole pattern since the last '('
pub whole_folds : (b : Bool) (p : Pattern) (s : List Piece) → AreGood (Part b p ∷ s)
    → Is Whole (branches (items p s) (before_items s)) × Folds s (before_branches (before_items s)) p (branches (items p s) (before_items s))
whole_folds b p s good =
    let part = part_is b p s good in
    let inner = items_fold s p part.1 (branch_is p part.0) in
    let outer = branches_fold (before_items s) (items p s) inner.2.1 (whole_is (items p s) inner.0) in
    (outer.0, (outer.1.0 ∙ inner.2.0, outer.1.1))

-- the pieces are those of the tokens
abbrev pub Holds : Option (List Piece) → List Token → Type 0
Holds None ts = Unit {0}
Holds (Some s) ts = AreGood s × (spelled s ≡ ts)

sign_holds : (f : Pattern → Pattern) (t : Token) (s : List Piece) → AreGood s → ((p : Pattern) → Is Atom p → Is Item (f p)) → ((p : Pattern) → tokens (f p) ≡ tokens p ++ t ∷ [])
    → Holds (with_sign f s) (spelled s ++ t ∷ [])
sign_holds f t [] good is has = tt
sign_holds f t (Opening ∷ s) good is has = tt
sign_holds f t (Branched p ∷ s) good is has = tt
sign_holds f t (Part false p ∷ s) good is has = tt
sign_holds f t (Part true p ∷ s) good is has =
    ((is p good.0, good.1), ap (λ l. spelled s ++ l) (has p) ∙ sym (append_assoc (spelled s) (tokens p) (t ∷ [])))

pub bar_holds : (s : List Piece) → AreGood s → Holds (with_bar s) (spelled s ++ token.Or ∷ [])
bar_holds [] good = tt
bar_holds (Opening ∷ s) good = tt
bar_holds (Branched p ∷ s) good = tt
bar_holds (Part b p ∷ s) good =
    let part = part_is b p s good in
    let folded = items_fold s p part.1 (branch_is p part.0) in (
      (folded.0, folded.1, folded.2.1),
      sym (append_assoc (spelled (before_items s)) (tokens (items p s)) (token.Or ∷ [])) ∙ ap (λ l. l ++ token.Or ∷ []) folded.2.0,
    )

-- a group is an atom
group_holds : (w : Pattern) (r : List Piece) (ts : List Token) → Is Whole w → AreGood r → spelled r ++ tokens w ≡ ts → Holds (with_close w r) (ts ++ token.Close ∷ [])
group_holds w [] ts h good e = tt
group_holds w (Branched p ∷ r) ts h good e = tt
group_holds w (Part b p ∷ r) ts h good e = tt
group_holds w (Opening ∷ r) ts h good e = (
  (h, good),
  sym (append_assoc (spelled r) (token.Open ∷ tokens w) (token.Close ∷ []))
      ∙ ap (λ l. l ++ token.Close ∷ []) (sym (append_assoc (spelled r) (token.Open ∷ []) (tokens w)) ∙ e),
)

close_holds : (s : List Piece) → AreGood s → Holds (ending with_close s) (spelled s ++ token.Close ∷ [])
close_holds [] good = tt
close_holds (Opening ∷ s) good = tt
close_holds (Branched p ∷ s) good = tt
close_holds (Part b p ∷ s) good =
    let folded = whole_folds b p s good in
    group_holds (branches (items p s) (before_items s)) (before_branches (before_items s)) (spelled s ++ tokens p) folded.0 folded.1.1 folded.1.0

step_holds : (t : Token) (s : List Piece) → AreGood s → Holds (step s t) (spelled s ++ t ∷ [])
step_holds (token.Point c) s good = ((tt, good), refl)
step_holds (token.Set n) s good = ((tt, good), refl)
step_holds token.Any s good = ((tt, good), refl)
step_holds token.Start s good = ((tt, good), refl)
step_holds token.End s good = ((tt, good), refl)
step_holds token.Anchor s good = ((tt, good), refl)
step_holds token.Open s good = (good, refl)
step_holds token.Close s good = close_holds s good
step_holds token.Optional s good = sign_holds Optional token.Optional s good (λ p h. h) (λ p. refl)
step_holds token.Many s good = sign_holds Many token.Many s good (λ p h. h) (λ p. refl)
step_holds token.Or s good = bar_holds s good
step_holds token.Other s good = tt

run_holds : (ts : List Token) (o : Option (List Piece)) (before : List Token) → Holds o before → Holds (run step o ts) (before ++ ts)
run_holds [] o before h = subst (Holds o) (sym (append-nil before)) h
run_holds (t ∷ ts) None before h = subst (λ o. Holds o (before ++ t ∷ ts)) (sym (run_none step ts)) tt
run_holds (t ∷ ts) (Some s) before h =
    subst (Holds (run step (step s t) ts)) (append_assoc before (t ∷ []) ts)
    (run_holds ts (step s t) (before ++ t ∷ []) (subst (λ l. Holds (step s t) (l ++ t ∷ [])) h.1 (step_holds t s h.0)))

-- what leads to pieces is what they spell
pub read_holds : (ts : List Token) (s : List Piece) → run step (Some []) ts ≡ Some s → AreGood s × (spelled s ≡ ts)
read_holds ts s e = subst (λ o. Holds o ts) e (run_holds ts (Some []) [] (tt, refl))

-- a pattern at the end, if there is one
abbrev IsSpelledBy : Option Pattern → List Token → Type 0
IsSpelledBy None ts = Unit {0}
IsSpelledBy (Some p) ts = SpellsPattern ts p

alone_spelled : (w : Pattern) (r : List Piece) (ts : List Token) → Is Whole w → spelled r ++ tokens w ≡ ts → IsSpelledBy (alone w r) ts
alone_spelled w [] ts h e = (h, sym e)
alone_spelled w (x ∷ r) ts h e = tt

ended_spelled : (s : List Piece) → AreGood s → IsSpelledBy (ended s) (spelled s)
ended_spelled [] good = tt
ended_spelled (Opening ∷ s) good = tt
ended_spelled (Branched p ∷ s) good = tt
ended_spelled (Part b p ∷ s) good =
    let folded = whole_folds b p s good in
    alone_spelled (branches (items p s) (before_items s)) (before_branches (before_items s)) (spelled s ++ tokens p) folded.0 folded.1.0

pub pieces_spelled : (ts : List Token) (s : List Piece) (p : Pattern) → run step (Some []) ts ≡ Some s → ended s ≡ Some p → SpellsPattern ts p
pieces_spelled ts s p e f =
    let holds = read_holds ts s e in
    subst (λ l. SpellsPattern l p) holds.1 (subst (λ o. IsSpelledBy o (spelled s)) f (ended_spelled s holds.0))

-- ---- reading is exact

pub spelled_read : (ts : List Token) (p : Pattern) → SpellsPattern ts p → pattern_of ts ≡ Some p
unfolding pattern_of
spelled_read ts p h = let read = spelled_pieces ts p h in ap pattern_at read.0 ∙ read.1

pub read_spelled : (ts : List Token) (p : Pattern) → pattern_of ts ≡ Some p → SpellsPattern ts p
unfolding pattern_of
read_spelled ts p e = by (run step (Some []) ts) refl e
  where
    by : (o : Option (List Piece)) → run step (Some []) ts ≡ o → pattern_at o ≡ Some p → SpellsPattern ts p
    by None at f = absurd (let clash : None ≡ Some p = f in cc)
    by (Some s) at f = pieces_spelled ts s p at f

some_one : (o : Option Pattern) (p q : Pattern) → o ≡ Some p → o ≡ Some q → p ≡ q
some_one o p q e f = cc

pub one_pattern : (ts : List Token) (p q : Pattern) → SpellsPattern ts p → SpellsPattern ts q → p ≡ q
one_pattern ts p q h k = some_one (pattern_of ts) p q (spelled_read ts p h) (spelled_read ts q k)
