-- A token is told past a limit while a pattern is read exactly if it is marked; and there is one exactly if the pattern goes past a limit.
use Rattle.std.proofs.Common.{◌≡◌, ℕ, ◌+◌, ◌-◌, ◌≤◌, ◌==◌, max, nat_le, nat_lt, Bool, true, false, cond, ◌||◌, List, [], ◌∷◌, ◌++◌, length, Option, Some, None, Ok, refl, sym, ap, subst, ◌∙◌, suc, append_assoc, append-nil, length-append, arith}
use Rattle.std.specs.Prelude.{is_some, map}
use Rattle.std.specs.List.{list_any}
use Rattle.std.specs.Option.{option_map, option_or}
use Rattle.std.proofs.lemmas.Bool.Decides.{nat_tests}
use Rattle.std.proofs.lemmas.List.{length-map}
use Rattle.label_patterns.specs.Patterns.{Pattern, Point, Set, Any, Start, End, Anchor, Group, Optional, Many, Then, Either}
use Rattle.ruleset_text.specs.declared.fault.FaultPlace.{FaultPlace}
use Rattle.ruleset_text.specs.declared.token.Token.{Token}
use Rattle.ruleset_text.specs.declared.token.Token.TheVariants as token
use Rattle.ruleset_text.specs.DefinitionReading.{pattern_read, pattern_step}
use Rattle.ruleset_text.specs.Grammar.{Sort, Atom, Item, Branch, Whole, Is, tokens}
use Rattle.ruleset_text.specs.Limits.{atoms, groups, stars}
use Rattle.ruleset_text.specs.LineFaults.{lexeme_place}
use Rattle.ruleset_text.specs.LineStops.{at_lexeme, read_from}
use Rattle.ruleset_text.specs.PatternLimits.{first_marked, is_past_limits, limit_place, marks}
use Rattle.ruleset_text.specs.PatternSigns.{State, ended_in, groups_after, may_stand, start, with_pieces}
use Rattle.ruleset_text.specs.PlacedLexemes.{Placed, unplaced}
use Rattle.ruleset_text.specs.Reading.{Piece, Opening, Branched, Part, with_sign, with_close, step}
use Rattle.ruleset_text.specs.Tokens.{token_of, tokens_in}
use Rattle.ruleset_text.specs.inner.PatternSteps.{atoms_at, if_taken, is_past, left_after, limit_from}
use Rattle.ruleset_text.proofs.DefinitionStopLemmas.{pattern_tells}
use Rattle.ruleset_text.proofs.LineStopLemmas.{Tells}
use Rattle.ruleset_text.proofs.UseLemmas.{SpellUsed}
use Rattle.ruleset_text.proofs.PatternLemmas.{pieces_of, May, atom_piece, bars, whole_ends, fresh_folds}

-- ---- what is told while tokens are read

abbrev pub told : Option (List Piece) → ℕ → ℕ → List Token → List Bool
told o groups left [] = []
told None groups left (t ∷ ts) = []
told (Some s) groups left (t ∷ ts) = is_past s groups left t ∷ told (step s t) (groups_after groups t) (left - atoms_at t) ts

out_one : (n : ℕ) → n + 1 - 1 ≡ n
out_one n = omega arith

less_none : (n : ℕ) → n - 0 ≡ n
less_none n = omega arith

less_group : (n a : ℕ) → n - 1 - a - 0 ≡ n - (a + 1)
less_group n a = omega arith

less_two : (n a b : ℕ) → n - a - b ≡ n - (a + b)
less_two n a b = omega arith

sign_told : (f : Pattern → Pattern) (t : Token) (b : Bool) (p : Pattern) (ts : List Token) (s : List Piece) (d left : ℕ) → Is Atom p
    → ((r : List Piece) → step r t ≡ with_sign f r) → is_past (Part true p ∷ s) d (left - atoms p) t ≡ b → groups_after d t ≡ d → atoms_at t ≡ 0
    → told (Some s) d left (tokens p ++ t ∷ ts) ≡ marks d left p ++ told (Some (pieces_of p s)) d (left - atoms p) (t ∷ ts)
    → told (Some s) d left ((tokens p ++ t ∷ []) ++ ts) ≡ (marks d left p ++ b ∷ []) ++ told (Some (Part false (f p) ∷ s)) d (left - atoms p) ts
sign_told f t b p ts s d left h is past same none e =
    ap (told (Some s) d left) (append_assoc (tokens p) (t ∷ []) ts) ∙ e
    ∙ ap (λ l. marks d left p ++ told (Some l) d rest (t ∷ ts)) (atom_piece p s h)
    ∙ ap (λ o. marks d left p ++ is_past (Part true p ∷ s) d rest t ∷ told o (groups_after d t) (rest - atoms_at t) ts) (is (Part true p ∷ s))
    ∙ ap (λ n. marks d left p ++ is_past (Part true p ∷ s) d rest t ∷ told (Some (Part false (f p) ∷ s)) n (rest - atoms_at t) ts) same
    ∙ ap (λ n. marks d left p ++ is_past (Part true p ∷ s) d rest t ∷ told (Some (Part false (f p) ∷ s)) d (rest - n) ts) none
    ∙ ap (λ n. marks d left p ++ is_past (Part true p ∷ s) d rest t ∷ told (Some (Part false (f p) ∷ s)) d n ts) (less_none rest)
    ∙ ap (λ c. marks d left p ++ c ∷ told (Some (Part false (f p) ∷ s)) d rest ts) past
    ∙ sym (append_assoc (marks d left p) (b ∷ []) (told (Some (Part false (f p) ∷ s)) d rest ts))
  where
    rest : ℕ
    rest = left - atoms p

-- one pattern after another
both_told : (p q : Pattern) (ts : List Token) (s : List Piece) (d left : ℕ)
    → told (Some s) d left (tokens p ++ (tokens q ++ ts)) ≡ marks d left p ++ told (Some (pieces_of p s)) d (left - atoms p) (tokens q ++ ts)
    → told (Some (pieces_of p s)) d (left - atoms p) (tokens q ++ ts) ≡ marks d (left - atoms p) q ++ told (Some (pieces_of q (pieces_of p s))) d (left - atoms p - atoms q) ts
    → told (Some s) d left ((tokens p ++ tokens q) ++ ts) ≡ (marks d left p ++ marks d (left - atoms p) q) ++ told (Some (pieces_of q (pieces_of p s))) d (left - (atoms p + atoms q)) ts
both_told p q ts s d left first second =
    ap (told (Some s) d left) (append_assoc (tokens p) (tokens q) ts) ∙ first ∙ ap (λ l. marks d left p ++ l) second
    ∙ ap (λ n. marks d left p ++ (marks d (left - atoms p) q ++ told (Some (pieces_of q (pieces_of p s))) d n ts)) (less_two left (atoms p) (atoms q))
    ∙ sym (append_assoc (marks d left p) (marks d (left - atoms p) q) (told (Some (pieces_of q (pieces_of p s))) d (left - (atoms p + atoms q)) ts))

-- what is told of the tokens of a pattern are its marks
marked : (k : Sort) (p : Pattern) → Is k p → (ts : List Token) (s : List Piece) (d left : ℕ) → May k s
    → told (Some s) d left (tokens p ++ ts) ≡ marks d left p ++ told (Some (pieces_of p s)) d (left - atoms p) ts
marked k (Point c) h ts s d left m = refl
marked k (Set n) h ts s d left m = refl
marked k Any h ts s d left m = refl
marked k Start h ts s d left m = refl
marked k End h ts s d left m = refl
marked k Anchor h ts s d left m = refl
marked k (Group p) h ts s d left m =
    let after : Option (List Piece) = Some (Part true (Group p) ∷ s) in
    let inner : ℕ = left - 1 - atoms p in
    ap (λ l. (nat_le 8 d || left == 0) ∷ told (Some (Opening ∷ s)) (d + 1) (left - 1) l) (append_assoc (tokens p) (token.Close ∷ []) ts)
    ∙ ap (λ l. (nat_le 8 d || left == 0) ∷ l)
    (marked Whole p h (token.Close ∷ ts) (Opening ∷ s) (d + 1) (left - 1) tt
    ∙ ap (λ o. marks (d + 1) (left - 1) p ++ false ∷ told o (d + 1 - 1) (inner - 0) ts) (whole_ends with_close p (Opening ∷ s) h tt)
    ∙ ap (λ n. marks (d + 1) (left - 1) p ++ false ∷ told after n (inner - 0) ts) (out_one d)
    ∙ ap (λ n. marks (d + 1) (left - 1) p ++ false ∷ told after d n ts) (less_group left (atoms p))
    ∙ sym (append_assoc (marks (d + 1) (left - 1) p) (false ∷ []) (told after d (left - (atoms p + 1)) ts)))
marked Atom (Optional p) h ts s d left m = absurd h
marked Item (Optional p) h ts s d left m = sign_told Optional token.Optional false p ts s d left h (λ r. refl) refl refl refl (marked Atom p h (token.Optional ∷ ts) s d left tt)
marked Branch (Optional p) h ts s d left m = sign_told Optional token.Optional false p ts s d left h (λ r. refl) refl refl refl (marked Atom p h (token.Optional ∷ ts) s d left tt)
marked Whole (Optional p) h ts s d left m = sign_told Optional token.Optional false p ts s d left h (λ r. refl) refl refl refl (marked Atom p h (token.Optional ∷ ts) s d left tt)
marked Atom (Many p) h ts s d left m = absurd h
marked Item (Many p) h ts s d left m = sign_told Many token.Many (nat_le 2 (stars p)) p ts s d left h (λ r. refl) refl refl refl (marked Atom p h (token.Many ∷ ts) s d left tt)
marked Branch (Many p) h ts s d left m = sign_told Many token.Many (nat_le 2 (stars p)) p ts s d left h (λ r. refl) refl refl refl (marked Atom p h (token.Many ∷ ts) s d left tt)
marked Whole (Many p) h ts s d left m = sign_told Many token.Many (nat_le 2 (stars p)) p ts s d left h (λ r. refl) refl refl refl (marked Atom p h (token.Many ∷ ts) s d left tt)
marked Atom (Then p q) h ts s d left m = absurd h
marked Item (Then p q) h ts s d left m = absurd h
marked Branch (Then p q) h ts s d left m = both_told p q ts s d left (marked Item p h.0 (tokens q ++ ts) s d left tt) (marked Branch q h.1 ts (pieces_of p s) d (left - atoms p) tt)
marked Whole (Then p q) h ts s d left m = both_told p q ts s d left (marked Item p h.0 (tokens q ++ ts) s d left tt) (marked Branch q h.1 ts (pieces_of p s) d (left - atoms p) tt)
marked Atom (Either p q) h ts s d left m = absurd h
marked Item (Either p q) h ts s d left m = absurd h
marked Branch (Either p q) h ts s d left m = absurd h
marked Whole (Either p q) h ts s d left m =
    let rest : ℕ = left - atoms p in
    ap (told (Some s) d left) (append_assoc (tokens p) (token.Or ∷ tokens q) ts) ∙ marked Branch p h.0 (token.Or ∷ (tokens q ++ ts)) s d left tt
    ∙ ap (λ o. marks d left p ++ false ∷ told o d (rest - 0) (tokens q ++ ts)) (bars p s h.0 ∙ fresh_folds (λ r u. Some (Branched r ∷ u)) p s m)
    ∙ ap (λ n. marks d left p ++ false ∷ told (Some (Branched p ∷ s)) d n (tokens q ++ ts)) (less_none rest)
    ∙ ap (λ l. marks d left p ++ false ∷ l) (marked Whole q h.1 ts (Branched p ∷ s) d rest tt)
    ∙ ap (λ n. marks d left p ++ false ∷ (marks d rest q ++ told (Some (pieces_of q (Branched p ∷ s))) d n ts)) (less_two left (atoms p) (atoms q))
    ∙ sym (append_assoc (marks d left p) (false ∷ marks d rest q) (told (Some (pieces_of q (Branched p ∷ s))) d (left - (atoms p + atoms q)) ts))

-- ---- the first lexeme of which it is told

abbrev pub tokens_at : List (List ℕ) → List Placed → List Token
tokens_at names ws = map (token_of names) (unplaced ws)

told_first : (b : Bool) (at : FaultPlace) (o more : Option FaultPlace) → o ≡ more → option_or (cond b (Some at) None) o ≡ cond b (Some at) more
told_first true at o more e = refl
told_first false at o more e = e

module _ (r : Bool) (names : List (List ℕ)) (end : ℕ) (p : Pattern) where
  abbrev Goes : State → List Placed → Type 0
  Goes s ws = read_from (pattern_step r names) (ended_in r) end s ws ≡ Ok p

  limit_told : (ws : List Placed) (s : State) (left : ℕ) → Goes s ws → limit_from r names s left ws ≡ first_marked (told (Some s.pieces) s.groups left (tokens_at names ws)) ws
  limit_told [] s left e = refl
  limit_told (w ∷ ws) s left e = by (may_stand r s.groups s.passed t) (step s.pieces t) (λ v k. limit_told ws (with_pieces s t v) (left - atoms_at t) k) e
    where
      t : Token
      t = token_of names w.lexeme

      by : (b : Bool) (o : Option (List Piece)) → ((v : List Piece) → Goes (with_pieces s t v) ws → limit_from r names (with_pieces s t v) (left - atoms_at t) ws ≡ first_marked (told (Some v) (groups_after s.groups t) (left - atoms_at t) (tokens_at names ws)) ws)
          → at_lexeme w (λ u. read_from (pattern_step r names) (ended_in r) end u ws) (cond b (option_map (with_pieces s t) o) None) ≡ Ok p
          → option_or (cond (is_past s.pieces s.groups left t) (Some (lexeme_place w)) None) (if_taken (cond b (option_map (with_pieces s t) o) None) (λ u. limit_from r names u (left - atoms_at t) ws))
          ≡ cond (is_past s.pieces s.groups left t) (Some (lexeme_place w)) (first_marked (told o (groups_after s.groups t) (left - atoms_at t) (tokens_at names ws)) ws)
      by false o later k = absurd cc
      by true None later k = absurd cc
      by true (Some v) later k = told_first (is_past s.pieces s.groups left t) (lexeme_place w) _ _ (later v k)

-- ---- a pattern that was read

module _ (r : Bool) (names : List (List ℕ)) (end : ℕ) (ws : List Placed) (p : Pattern) (read : pattern_read r names end ws ≡ Ok p) where
  spelled : SpellUsed r names (unplaced ws) p
  spelled = let so : Tells (SpellUsed r names) ws end (Ok p) = subst (Tells (SpellUsed r names) ws end) read (pattern_tells r names end ws) in so

  pub its_tokens : tokens_at names ws ≡ tokens p
  unfolding tokens_in
  its_tokens = spelled.0.1

  -- the lexeme that is told while it is read is the first one that is marked
  pub limit_read : (left : ℕ) → limit_from r names start left ws ≡ limit_place left p ws
  limit_read left =
      limit_told r names end p ws start left read ∙ ap (λ ts. first_marked (told (Some []) 0 left ts) ws) (its_tokens ∙ sym (append-nil (tokens p)))
      ∙ ap (λ ms. first_marked ms ws) (marked Whole p spelled.0.0 [] [] 0 left tt ∙ append-nil (marks 0 left p))

-- ---- how many atoms are left

abbrev left_by : ℕ → List Token → ℕ
left_by left [] = left
left_by left (t ∷ ts) = left_by (left - atoms_at t) ts

left_tokens : (names : List (List ℕ)) (left : ℕ) (ws : List Placed) → left_after names left ws ≡ left_by left (tokens_at names ws)
left_tokens names left [] = refl
left_tokens names left (w ∷ ws) = left_tokens names (left - atoms_at (token_of names w.lexeme)) ws

-- a token that is no atom
sign_left : (p : Pattern) (t : Token) (left : ℕ) (ts : List Token) → atoms_at t ≡ 0 → left_by left (tokens p ++ t ∷ ts) ≡ left_by (left - atoms p) (t ∷ ts) → left_by left ((tokens p ++ t ∷ []) ++ ts) ≡ left_by (left - atoms p) ts
sign_left p t left ts none e =
    ap (left_by left) (append_assoc (tokens p) (t ∷ []) ts) ∙ e ∙ ap (λ n. left_by (left - atoms p - n) ts) none ∙ ap (λ n. left_by n ts) (less_none (left - atoms p))

pattern_left : (p : Pattern) (left : ℕ) (ts : List Token) → left_by left (tokens p ++ ts) ≡ left_by (left - atoms p) ts
pattern_left (Point c) left ts = refl
pattern_left (Set n) left ts = refl
pattern_left Any left ts = refl
pattern_left Start left ts = refl
pattern_left End left ts = refl
pattern_left Anchor left ts = refl
pattern_left (Group p) left ts =
    ap (left_by (left - 1)) (append_assoc (tokens p) (token.Close ∷ []) ts) ∙ pattern_left p (left - 1) (token.Close ∷ ts) ∙ ap (λ n. left_by n ts) (less_group left (atoms p))
pattern_left (Optional p) left ts = sign_left p token.Optional left ts refl (pattern_left p left (token.Optional ∷ ts))
pattern_left (Many p) left ts = sign_left p token.Many left ts refl (pattern_left p left (token.Many ∷ ts))
pattern_left (Then p q) left ts =
    ap (left_by left) (append_assoc (tokens p) (tokens q) ts) ∙ pattern_left p left (tokens q ++ ts) ∙ pattern_left q (left - atoms p) ts ∙ ap (λ n. left_by n ts) (less_two left (atoms p) (atoms q))
pattern_left (Either p q) left ts =
    ap (left_by left) (append_assoc (tokens p) (token.Or ∷ tokens q) ts) ∙ pattern_left p left (token.Or ∷ (tokens q ++ ts)) ∙ ap (λ n. left_by n (tokens q ++ ts)) (less_none (left - atoms p))
    ∙ pattern_left q (left - atoms p) ts ∙ ap (λ n. left_by n ts) (less_two left (atoms p) (atoms q))

pub atoms_read : (r : Bool) (names : List (List ℕ)) (end : ℕ) (ws : List Placed) (p : Pattern) (left : ℕ) → pattern_read r names end ws ≡ Ok p → left_after names left ws ≡ left - atoms p
atoms_read r names end ws p left read =
    left_tokens names left ws ∙ ap (left_by left) (its_tokens r names end ws p read ∙ sym (append-nil (tokens p))) ∙ pattern_left p left []

-- ---- a token is marked exactly if the pattern goes past a limit

-- a pattern within so many groups goes past a limit
abbrev is_past_in : ℕ → ℕ → Pattern → Bool
is_past_in d left p = (nat_lt 8 (d + groups p) || nat_lt 2 (stars p)) || nat_lt left (atoms p)

abbrev any : List Bool → Bool
any bs = list_any (λ b. b) bs

any_append : (xs ys : List Bool) → any (xs ++ ys) ≡ (any xs || any ys)
any_append [] ys = refl
any_append (true ∷ xs) ys = refl
any_append (false ∷ xs) ys = any_append xs ys

or_none : (a : Bool) → (a || false) ≡ a
or_none true = refl
or_none false = refl

atom_past : (d left : ℕ) → d ≤ 8 → ((left == 0) || false) ≡ ((nat_lt 8 (d + 0) || nat_lt 2 0) || nat_lt left 1)
atom_past d left few = grind (arith, nat_tests)

none_past : (d left : ℕ) → d ≤ 8 → false ≡ ((nat_lt 8 (d + 0) || nat_lt 2 0) || nat_lt left 0)
none_past d left few = grind (arith, nat_tests)

group_past : (d left g x a : ℕ) (b : Bool) → d ≤ 8 → (d + 1 ≤ 8 → b ≡ ((nat_lt 8 (d + 1 + g) || nat_lt 2 x) || nat_lt (left - 1) a))
    → ((nat_le 8 d || left == 0) || b) ≡ ((nat_lt 8 (d + (g + 1)) || nat_lt 2 x) || nat_lt left (a + 1))
group_past d left g x a b few inner = by (nat_le 8 d) (left == 0) refl refl
  where
    by : (z l : Bool) → nat_le 8 d ≡ z → (left == 0) ≡ l → ((z || l) || b) ≡ ((nat_lt 8 (d + (g + 1)) || nat_lt 2 x) || nat_lt left (a + 1))
    by true l e f = grind (arith, nat_tests)
    by false true e f = grind (arith, nat_tests)
    by false false e f =
        let fewer : d + 1 ≤ 8 = grind (arith, nat_tests) in
        let same : d + 1 + g ≡ d + (g + 1) = omega arith in
        let less : nat_lt (left - 1) a ≡ nat_lt left (a + 1) = grind (arith, nat_tests) in
        inner fewer ∙ ap (λ n. (nat_lt 8 n || nat_lt 2 x) || nat_lt (left - 1) a) same ∙ ap (λ c. (nat_lt 8 (d + (g + 1)) || nat_lt 2 x) || c) less

many_past : (a c : Bool) (x : ℕ) → (((a || nat_lt 2 x) || c) || nat_le 2 x) ≡ ((a || nat_lt 2 (x + 1)) || c)
many_past true c x = refl
many_past false true x = grind (arith, nat_tests)
many_past false false x = grind (arith, nat_tests)

deeper : (d a b x y : ℕ) → ((nat_lt 8 (d + a) || nat_lt 2 x) || (nat_lt 8 (d + b) || nat_lt 2 y)) ≡ (nat_lt 8 (d + max a b) || nat_lt 2 (max x y))
deeper d a b x y = grind (arith, nat_tests)

more_atoms : (left m n : ℕ) → (nat_lt left m || nat_lt (left - m) n) ≡ nat_lt left (m + n)
more_atoms left m n = grind (arith, nat_tests)

paired : (a b c e : Bool) → ((a || b) || (c || e)) ≡ ((a || c) || (b || e))
paired true b c e = refl
paired false true true e = refl
paired false true false e = refl
paired false false true e = refl
paired false false false e = refl

two_past : (d left a b x y m n : ℕ) → (((nat_lt 8 (d + a) || nat_lt 2 x) || nat_lt left m) || ((nat_lt 8 (d + b) || nat_lt 2 y) || nat_lt (left - m) n))
    ≡ ((nat_lt 8 (d + max a b) || nat_lt 2 (max x y)) || nat_lt left (m + n))
two_past d left a b x y m n =
    paired (nat_lt 8 (d + a) || nat_lt 2 x) (nat_lt left m) (nat_lt 8 (d + b) || nat_lt 2 y) (nat_lt (left - m) n)
    ∙ ap (λ c. c || (nat_lt left m || nat_lt (left - m) n)) (deeper d a b x y) ∙ ap (λ c. (nat_lt 8 (d + max a b) || nat_lt 2 (max x y)) || c) (more_atoms left m n)

-- within at most eight groups
any_marked : (p : Pattern) (d left : ℕ) → d ≤ 8 → any (marks d left p) ≡ is_past_in d left p
any_marked (Point c) d left few = atom_past d left few
any_marked (Set n) d left few = atom_past d left few
any_marked Any d left few = atom_past d left few
any_marked Start d left few = atom_past d left few
any_marked End d left few = atom_past d left few
any_marked Anchor d left few = none_past d left few
any_marked (Group p) d left few =
    group_past d left (groups p) (stars p) (atoms p) (any (marks (d + 1) (left - 1) p ++ false ∷ [])) few
    (λ fewer. any_append (marks (d + 1) (left - 1) p) (false ∷ []) ∙ or_none (any (marks (d + 1) (left - 1) p)) ∙ any_marked p (d + 1) (left - 1) fewer)
any_marked (Optional p) d left few = any_append (marks d left p) (false ∷ []) ∙ or_none (any (marks d left p)) ∙ any_marked p d left few
any_marked (Many p) d left few =
    any_append (marks d left p) (nat_le 2 (stars p) ∷ []) ∙ ap (λ b. any (marks d left p) || b) (or_none (nat_le 2 (stars p)))
    ∙ ap (λ b. b || nat_le 2 (stars p)) (any_marked p d left few) ∙ many_past (nat_lt 8 (d + groups p)) (nat_lt left (atoms p)) (stars p)
any_marked (Then p q) d left few =
    any_append (marks d left p) (marks d (left - atoms p) q) ∙ ap (λ b. b || any (marks d (left - atoms p) q)) (any_marked p d left few)
    ∙ ap (λ b. is_past_in d left p || b) (any_marked q d (left - atoms p) few) ∙ two_past d left (groups p) (groups q) (stars p) (stars q) (atoms p) (atoms q)
any_marked (Either p q) d left few =
    any_append (marks d left p) (false ∷ marks d (left - atoms p) q) ∙ ap (λ b. b || any (marks d (left - atoms p) q)) (any_marked p d left few)
    ∙ ap (λ b. is_past_in d left p || b) (any_marked q d (left - atoms p) few) ∙ two_past d left (groups p) (groups q) (stars p) (stars q) (atoms p) (atoms q)

-- each token has a mark
pub each_marked : (p : Pattern) (d left : ℕ) → length (marks d left p) ≡ length (tokens p)
each_marked (Point c) d left = refl
each_marked (Set n) d left = refl
each_marked Any d left = refl
each_marked Start d left = refl
each_marked End d left = refl
each_marked Anchor d left = refl
each_marked (Group p) d left =
    ap (λ n. suc n) (length-append (marks (d + 1) (left - 1) p) (false ∷ []) ∙ ap (λ n. n + 1) (each_marked p (d + 1) (left - 1)) ∙ sym (length-append (tokens p) (token.Close ∷ [])))
each_marked (Optional p) d left = length-append (marks d left p) (false ∷ []) ∙ ap (λ n. n + 1) (each_marked p d left) ∙ sym (length-append (tokens p) (token.Optional ∷ []))
each_marked (Many p) d left = length-append (marks d left p) (nat_le 2 (stars p) ∷ []) ∙ ap (λ n. n + 1) (each_marked p d left) ∙ sym (length-append (tokens p) (token.Many ∷ []))
each_marked (Then p q) d left =
    length-append (marks d left p) (marks d (left - atoms p) q) ∙ ap (λ n. n + length (marks d (left - atoms p) q)) (each_marked p d left) ∙ ap (λ n. length (tokens p) + n) (each_marked q d (left - atoms p))
    ∙ sym (length-append (tokens p) (tokens q))
each_marked (Either p q) d left =
    length-append (marks d left p) (false ∷ marks d (left - atoms p) q) ∙ ap (λ n. n + suc (length (marks d (left - atoms p) q))) (each_marked p d left) ∙ ap (λ n. length (tokens p) + suc n) (each_marked q d (left - atoms p))
    ∙ sym (length-append (tokens p) (token.Or ∷ tokens q))

pub some_past : (left : ℕ) (p : Pattern) → any (marks 0 left p) ≡ is_past_limits left p
some_past left p = any_marked p 0 left (omega arith) ∙ ap (λ n. (nat_lt 8 n || nat_lt 2 (stars p)) || nat_lt left (atoms p)) (let same : 0 + groups p ≡ groups p = omega arith in same)

pub some_marked : (ms : List Bool) (ws : List Placed) → length ms ≡ length ws → is_some (first_marked ms ws) ≡ any ms
some_marked [] ws e = refl
some_marked (m ∷ ms) [] e = absurd (omega (arith, e))
some_marked (true ∷ ms) (w ∷ ws) e = refl
some_marked (false ∷ ms) (w ∷ ws) e = some_marked ms ws (omega (arith, e))

-- a lexeme is told exactly if the pattern goes past a limit
pub limit_refused : (r : Bool) (names : List (List ℕ)) (end : ℕ) (ws : List Placed) (p : Pattern) (left : ℕ) → pattern_read r names end ws ≡ Ok p → is_some (limit_place left p ws) ≡ is_past_limits left p
limit_refused r names end ws p left read =
    some_marked (marks 0 left p) ws (each_marked p 0 left ∙ ap length (sym (its_tokens r names end ws p read)) ∙ length-map (unplaced ws) (token_of names) ∙ length-map ws (λ w. w.lexeme))
    ∙ some_past left p
