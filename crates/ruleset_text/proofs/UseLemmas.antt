-- Patterns of rules and demands: what is spelled is read, and what was read can be completed.
use Rattle.std.proofs.Common.{◌≡◌, ℕ, zero, suc, ◌+◌, ◌-◌, ◌==◌, Bool, true, false, cond, not, ◌||◌, ◌&&◌, List, [], ◌∷◌, ◌++◌, Option, Some, None, refl, sym, ap, subst, ◌∙◌, append-nil, arith}
use Rattle.std.specs.Option.{option_map}
use Rattle.std.specs.Prelude.{codes}
use Rattle.ruleset_text.specs.Signs as sign
use Rattle.ruleset_text.specs.declared.token.Token.{Token}
use Rattle.ruleset_text.specs.declared.token.Token.TheVariants as token
use Rattle.label_patterns.specs.Patterns.{Pattern, Any, Anchor, Group, Optional, Many}
use Rattle.ruleset_text.specs.Grammar.{Is, Whole, tokens, SpellsPattern}
use Rattle.ruleset_text.specs.Rules.{has}
use Rattle.ruleset_text.specs.PatternUses.{ArePattern, is_used}
use Rattle.ruleset_text.specs.PatternSigns.{may_stand, groups_after, passed_after, State, start, with_pieces, step_in, ended_in}
use Rattle.ruleset_text.specs.Reading.{Piece, Opening, Branched, Part, items, before_items, branches, before_branches, ending, with_sign, with_bar, with_close, step, alone, ended}
use Rattle.ruleset_text.specs.DefinitionReading.{pattern_step}
use Rattle.idn_text.specs.Stops.{run}
use Rattle.ruleset_text.specs.Tokens.{token_of, tokens_in}
use Rattle.ruleset_text.proofs.PatternLemmas.{pieces_of, spelled_pieces, pieces_spelled, read_holds, AreGood, IsFresh, items_fold, whole_folds}
use Rattle.ruleset_text.proofs.SignLemmas.{signed, unanchored_tokens, demand_signs, unanchored_pattern, rule_signs, out_of, and_true}
use Rattle.idn_text.proofs.StopLemmas.{run_none, run_append, Reads}

-- ---- signs, token by token

use_signs : (r : Bool) (p : Pattern) → Is Whole p → signed r 0 false (tokens p) ≡ is_used r p
use_signs true p h = rule_signs p h
use_signs false p h =
    demand_signs (tokens p) 0 false ∙ ap unanchored_tokens (sym (append-nil (tokens p))) ∙ unanchored_pattern p [] ∙ sym (and_true (not (has sign.Anchor p)))

if_and : (a b : Bool) → cond a b false ≡ (a && b)
if_and true b = refl
if_and false b = refl

pub signed_next : (r : Bool) (d : ℕ) (b : Bool) (t : Token) (ts : List Token) → signed r d b (t ∷ ts) ≡ (may_stand r d b t && signed r (groups_after d t) (passed_after d b t) ts)
signed_next r d b (token.Point c) ts = refl
signed_next r d b (token.Set n) ts = refl
signed_next r d b token.Any ts = refl
signed_next r d b token.Start ts = if_and (not r || not b) (signed r d b ts)
signed_next r d b token.End ts = if_and (not r || b) (signed r d b ts)
signed_next r d b token.Anchor ts = if_and (r && (d == 0) && not b) (signed r d true ts)
signed_next r d b token.Open ts = refl
signed_next r d b token.Close ts = refl
signed_next r d b token.Optional ts = refl
signed_next r d b token.Many ts = refl
signed_next r d b token.Or ts = by (d == 0)
  where
    by : (z : Bool) → cond z (cond (b || not r) (signed r d false ts) false) (signed r d b ts) ≡ ((not z || (b || not r)) && signed r d (cond z false b) ts)
    by true = if_and (b || not r) (signed r d false ts)
    by false = refl
signed_next r d b token.Other ts = refl

both_true : (a b : Bool) → (a && b) ≡ true → (a ≡ true) × (b ≡ true)
both_true true b e = (refl, e)
both_true false b e = absurd (let clash : false ≡ true = e in cc)

some_same : {X : Type 0} (x y : X) → Some x ≡ Some y → x ≡ y
some_same x y e = cc

none_some : {X : Type 0} (x : X) → None ≡ Some x → ⊥
none_some x e = cc

-- ---- what is spelled is read

abbrev Gets : Bool → State → List Token → List Piece → Type 0
Gets r s ts u = (t : State) × (run (step_in r) (Some s) ts ≡ Some t) × (t.pieces ≡ u) × ((t.passed || not r) ≡ true)

goes : (r : Bool) (ts : List Token) (s : State) (u : List Piece) → signed r s.groups s.passed ts ≡ true → run step (Some s.pieces) ts ≡ Some u → Gets r s ts u
goes r [] s u h e = (s, refl, some_same s.pieces u e, h)
goes r (w ∷ ws) s u h e =
    by (step s.pieces w) refl (λ v k g. goes r ws (with_pieces s w v) u k g)
    (both_true (may_stand r s.groups s.passed w) (signed r (groups_after s.groups w) (passed_after s.groups s.passed w) ws) (sym (signed_next r s.groups s.passed w ws) ∙ h)) e
  where
    by : (o : Option (List Piece)) → step s.pieces w ≡ o
        → ((v : List Piece) → signed r (groups_after s.groups w) (passed_after s.groups s.passed w) ws ≡ true → run step (Some v) ws ≡ Some u → Gets r (with_pieces s w v) ws u)
        → (may_stand r s.groups s.passed w ≡ true) × (signed r (groups_after s.groups w) (passed_after s.groups s.passed w) ws ≡ true) → run step o ws ≡ Some u → Gets r s (w ∷ ws) u
    by None at later m e = absurd (none_some u (sym (run_none step ws) ∙ e))
    by (Some v) at later m e =
        let rest = later v m.1 e in (
          rest.0,
          ap (λ b. run (step_in r) (cond b (option_map (with_pieces s w) (step s.pieces w)) None) ws) m.0
              ∙ ap (λ o. run (step_in r) (option_map (with_pieces s w) o) ws) at ∙ rest.1,
          rest.2,
          rest.3,
        )

-- ---- what is read is spelled

-- how many groups are open
abbrev pub opens : List Piece → ℕ
opens [] = 0
opens (Opening ∷ s) = opens s + 1
opens (Branched p ∷ s) = opens s
opens (Part b p ∷ s) = opens s

pub opens_items : (s : List Piece) → opens (before_items s) ≡ opens s
opens_items [] = refl
opens_items (Opening ∷ s) = refl
opens_items (Branched p ∷ s) = refl
opens_items (Part b p ∷ s) = opens_items s

opens_branches : (s : List Piece) → opens (before_branches s) ≡ opens s
opens_branches [] = refl
opens_branches (Opening ∷ s) = refl
opens_branches (Branched p ∷ s) = opens_branches s
opens_branches (Part b p ∷ s) = refl

pub opens_whole : (s : List Piece) → opens (before_branches (before_items s)) ≡ opens s
opens_whole s = opens_branches (before_items s) ∙ opens_items s

opens_same : (x v : List Piece) → Some x ≡ Some v → opens v ≡ opens x
opens_same x v e = ap opens (sym (some_same x v e))

opens_sign : (f : Pattern → Pattern) (s v : List Piece) → with_sign f s ≡ Some v → opens v ≡ opens s
opens_sign f [] v e = absurd (none_some v e)
opens_sign f (Opening ∷ s) v e = absurd (none_some v e)
opens_sign f (Branched p ∷ s) v e = absurd (none_some v e)
opens_sign f (Part false p ∷ s) v e = absurd (none_some v e)
opens_sign f (Part true p ∷ s) v e = opens_same (Part false (f p) ∷ s) v e

opens_bar : (s v : List Piece) → with_bar s ≡ Some v → opens v ≡ opens s
opens_bar [] v e = absurd (none_some v e)
opens_bar (Opening ∷ s) v e = absurd (none_some v e)
opens_bar (Branched p ∷ s) v e = absurd (none_some v e)
opens_bar (Part b p ∷ s) v e = opens_same (Branched (items p s) ∷ before_items s) v e ∙ opens_items s

pub less_one : (n : ℕ) → n ≡ n + 1 - 1
less_one n = omega arith

opens_group : (w : Pattern) (s v : List Piece) → with_close w s ≡ Some v → opens v ≡ opens s - 1
opens_group w [] v e = absurd (none_some v e)
opens_group w (Branched p ∷ s) v e = absurd (none_some v e)
opens_group w (Part b p ∷ s) v e = absurd (none_some v e)
opens_group w (Opening ∷ s) v e = opens_same (Part true (Group w) ∷ s) v e ∙ less_one (opens s)

opens_close : (s v : List Piece) → ending with_close s ≡ Some v → opens v ≡ opens s - 1
opens_close [] v e = absurd (none_some v e)
opens_close (Opening ∷ s) v e = absurd (none_some v e)
opens_close (Branched p ∷ s) v e = absurd (none_some v e)
opens_close (Part b p ∷ s) v e = opens_group (branches (items p s) (before_items s)) (before_branches (before_items s)) v e ∙ ap (λ n. n - 1) (opens_whole s)

opens_step : (s : List Piece) (t : Token) (v : List Piece) → step s t ≡ Some v → opens v ≡ groups_after (opens s) t
opens_step s (token.Point c) v e = opens_same _ v e
opens_step s (token.Set n) v e = opens_same _ v e
opens_step s token.Any v e = opens_same _ v e
opens_step s token.Start v e = opens_same _ v e
opens_step s token.End v e = opens_same _ v e
opens_step s token.Anchor v e = opens_same _ v e
opens_step s token.Open v e = opens_same _ v e
opens_step s token.Close v e = opens_close s v e
opens_step s token.Optional v e = opens_sign Optional s v e
opens_step s token.Many v e = opens_sign Many s v e
opens_step s token.Or v e = opens_bar s v e
opens_step s token.Other v e = absurd (none_some v e)

-- the pieces, the signs and the groups are those of the tokens
abbrev Came : Bool → List Token → State → State → Type 0
Came r ts s t =
    (run step (Some s.pieces) ts ≡ Some t.pieces) × ((rest : List Token) → signed r s.groups s.passed (ts ++ rest) ≡ signed r t.groups t.passed rest)
    × (opens s.pieces ≡ s.groups → opens t.pieces ≡ t.groups)

came : (r : Bool) (ts : List Token) (s t : State) → run (step_in r) (Some s) ts ≡ Some t → Came r ts s t
came r [] s t e =
    let same : s ≡ t = some_same s t e in
    (ap (λ x. Some x.pieces) same, λ rest. ap (λ x. signed r x.groups x.passed rest) same, λ h. subst (λ x. opens x.pieces ≡ x.groups) same h)
came r (w ∷ ws) s t e = by (may_stand r s.groups s.passed w) (step s.pieces w) refl refl (λ v k. came r ws (with_pieces s w v) t k) e
  where
    by : (b : Bool) (o : Option (List Piece)) → may_stand r s.groups s.passed w ≡ b → step s.pieces w ≡ o
        → ((v : List Piece) → run (step_in r) (Some (with_pieces s w v)) ws ≡ Some t → Came r ws (with_pieces s w v) t)
        → run (step_in r) (cond b (option_map (with_pieces s w) o) None) ws ≡ Some t → Came r (w ∷ ws) s t
    by false o m at later e = absurd (none_some t (sym (run_none (step_in r) ws) ∙ e))
    by true None m at later e = absurd (none_some t (sym (run_none (step_in r) ws) ∙ e))
    by true (Some v) m at later e =
        let rest = later v e in (
          ap (λ o. run step o ws) at ∙ rest.0,
          λ more. signed_next r s.groups s.passed w (ws ++ more) ∙ ap (λ b. b && signed r (groups_after s.groups w) (passed_after s.groups s.passed w) (ws ++ more)) m ∙ rest.1 more,
          λ h. rest.2 (opens_step s.pieces w v at ∙ ap (λ n. groups_after n w) h),
        )

-- what leads to pieces without an open sign is used so
used_where : (r : Bool) (ts more : List Token) (t : State) (p : Pattern) → run (step_in r) (Some start) ts ≡ Some t → SpellsPattern (ts ++ more) p
    → signed r t.groups t.passed more ≡ true → is_used r p ≡ true
used_where r ts more t p e spells signs =
    sym (use_signs r p spells.0) ∙ ap (signed r 0 false) (sym spells.1) ∙ (came r ts start t e).1 more ∙ signs

pub read_used : (r : Bool) (ts : List Token) (t : State) (p : Pattern) → run (step_in r) (Some start) ts ≡ Some t → ended_in r t ≡ Some p
    → SpellsPattern ts p × (is_used r p ≡ true)
read_used r ts t p e f = by (t.passed || not r) refl f
  where
    by : (b : Bool) → (t.passed || not r) ≡ b → cond b (ended t.pieces) None ≡ Some p → SpellsPattern ts p × (is_used r p ≡ true)
    by false h f = absurd (none_some p f)
    by true h f =
        let spells = pieces_spelled ts t.pieces p (came r ts start t e).0 f in
        (spells, used_where r ts [] t p e (subst (λ l. SpellsPattern l p) (sym (append-nil ts)) spells) h)

-- ---- some pattern begins so

abbrev closers : ℕ → List Token
closers zero = []
closers (suc n) = token.Close ∷ closers n

abbrev pub IsCut : List Piece → Type 0
IsCut (Branched p ∷ s) = ⊥
IsCut (Part b p ∷ s) = ⊥
IsCut s = Unit {0}

cut_after : (s : List Piece) → AreGood s → IsFresh s → IsCut (before_branches s)
cut_after [] good fresh = tt
cut_after (Opening ∷ s) good fresh = tt
cut_after (Branched p ∷ s) good fresh = cut_after s good.2 good.1
cut_after (Part b p ∷ s) good fresh = absurd fresh

part_good : (b : Bool) (p : Pattern) (s : List Piece) → AreGood (Part b p ∷ s) → AreGood s
part_good true p s good = good.1
part_good false p s good = good.1

pub part_cut : (b : Bool) (p : Pattern) (s : List Piece) → AreGood (Part b p ∷ s) → IsCut (before_branches (before_items s))
part_cut b p s good =
    let inner = items_fold s Any (part_good b p s good) tt in
    cut_after (before_items s) inner.2.1 inner.1

-- all groups closed
abbrev Closed : ℕ → Option (List Piece) → Type 0
Closed n o = (c : Bool) × (q : Pattern) × (u : List Piece) × (run step o (closers n) ≡ Some (Part c q ∷ u)) × AreGood (Part c q ∷ u) × (opens u ≡ 0)

closed : (n : ℕ) (b : Bool) (p : Pattern) (s : List Piece) → AreGood (Part b p ∷ s) → opens s ≡ n → Closed n (Some (Part b p ∷ s))
closed zero b p s good e = (b, p, s, refl, good, e)
closed (suc n) b p s good e =
    let folded = whole_folds b p s good in
    by (branches (items p s) (before_items s)) (before_branches (before_items s)) folded.0 folded.1.1 (part_cut b p s good) (opens_whole s ∙ e)
    (λ w t g k. closed n true (Group w) t g k)
  where
    by : (w : Pattern) (r : List Piece) → Is Whole w → AreGood r → IsCut r → opens r ≡ suc n
        → ((w : Pattern) (t : List Piece) → AreGood (Part true (Group w) ∷ t) → opens t ≡ n → Closed n (Some (Part true (Group w) ∷ t))) → Closed n (with_close w r)
    by w [] h good cut e later = absurd (omega (arith, e))
    by w (Branched q ∷ r) h good cut e later = absurd cut
    by w (Part b q ∷ r) h good cut e later = absurd cut
    by w (Opening ∷ t) h good cut e later = later w t (h, good) (omega (arith, e))

last_ended : (b : Bool) (p : Pattern) (s : List Piece) → AreGood (Part b p ∷ s) → opens s ≡ 0 → (w : Pattern) × (ended (Part b p ∷ s) ≡ Some w)
last_ended b p s good e = by (branches (items p s) (before_items s)) (before_branches (before_items s)) (part_cut b p s good) (opens_whole s ∙ e)
  where
    by : (w : Pattern) (r : List Piece) → IsCut r → opens r ≡ 0 → (v : Pattern) × (alone w r ≡ Some v)
    by w [] cut e = (w, refl)
    by w (Branched q ∷ r) cut e = absurd cut
    by w (Part b q ∷ r) cut e = absurd cut
    by w (Opening ∷ r) cut e = absurd (omega (arith, e))

signed_closers : (r : Bool) (n : ℕ) (b : Bool) (rest : List Token) → signed r n b (closers n ++ rest) ≡ signed r 0 b rest
signed_closers r zero b rest = refl
signed_closers r (suc n) b rest = ap (λ m. signed r m b (closers n ++ rest)) (out_of n) ∙ signed_closers r n b rest

-- lexemes that are these tokens, whatever sets are named
abbrev pub AreSpelled : List Token → Type 0
AreSpelled ts = (ws : List (List ℕ)) × ((names : List (List ℕ)) → tokens_in names ws ≡ ts)

abbrev pub BeginsSpelled : Bool → List Token → Type 0
BeginsSpelled r ts = (more : List Token) × ArePattern r (ts ++ more) × AreSpelled more

closers_spelled : (n : ℕ) (rest : List Token) → AreSpelled rest → AreSpelled (closers n ++ rest)
unfolding tokens_in
closers_spelled zero rest s = s
closers_spelled (suc n) rest s = let more = closers_spelled n rest s in (codes ")" ∷ more.0, λ names. ap (λ l. token.Close ∷ l) (more.1 names))

any_spelled : (rest : List Token) → AreSpelled rest → AreSpelled (token.Any ∷ rest)
unfolding tokens_in
any_spelled rest s = (codes "." ∷ s.0, λ names. ap (λ l. token.Any ∷ l) (s.1 names))

anchor_spelled : AreSpelled (token.Anchor ∷ [])
unfolding tokens_in
anchor_spelled = (codes "_" ∷ [], λ names. refl)

none_spelled : AreSpelled []
unfolding tokens_in
none_spelled = ([], λ names. refl)

-- what completes the tokens: their pieces, and the signs
completes : (r : Bool) (ts more : List Token) (t : State) (u : List Piece) (w : Pattern) → run (step_in r) (Some start) ts ≡ Some t
    → run step (Some t.pieces) more ≡ Some u → ended u ≡ Some w → signed r t.groups t.passed more ≡ true → AreSpelled more → BeginsSpelled r ts
completes r ts more t u w e go end_ signs spelled =
    let all : run step (Some []) (ts ++ more) ≡ Some u = run_append step ts more (Some []) ∙ ap (λ o. run step o more) (came r ts start t e).0 ∙ go in
    let spells = pieces_spelled (ts ++ more) u w all end_ in
    (more, (w, spells, used_where r ts more t w e spells signs), spelled)

anchor_last : (r b : Bool) → (b || not r) ≡ false → signed r 0 b (token.Anchor ∷ []) ≡ true
anchor_last true false h = refl
anchor_last true true h = absurd (let clash : true ≡ false = h in cc)
anchor_last false true h = absurd (let clash : true ≡ false = h in cc)
anchor_last false false h = absurd (let clash : true ≡ false = h in cc)

-- '.', a ')' for each open group, and '_', if it is missing
finish : (r : Bool) (ts : List Token) (t : State) → run (step_in r) (Some start) ts ≡ Some t → Closed t.groups (Some (Part true Any ∷ t.pieces))
    → (b : Bool) → (t.passed || not r) ≡ b → BeginsSpelled r ts
finish r ts t e c true h =
    let last = last_ended c.0 c.1 c.2 c.4 c.5 in
    completes r ts (token.Any ∷ (closers t.groups ++ [])) t (Part c.0 c.1 ∷ c.2) last.0 e
    (run_append step (closers t.groups) [] (Some (Part true Any ∷ t.pieces)) ∙ c.3) last.1
    (signed_closers r t.groups t.passed [] ∙ h) (any_spelled (closers t.groups ++ []) (closers_spelled t.groups [] none_spelled))
finish r ts t e c false h =
    let last = last_ended false Anchor (Part c.0 c.1 ∷ c.2) (tt, c.4) c.5 in
    completes r ts (token.Any ∷ (closers t.groups ++ token.Anchor ∷ [])) t (Part false Anchor ∷ Part c.0 c.1 ∷ c.2) last.0 e
    (run_append step (closers t.groups) (token.Anchor ∷ []) (Some (Part true Any ∷ t.pieces)) ∙ ap (λ o. run step o (token.Anchor ∷ [])) c.3) last.1
    (signed_closers r t.groups t.passed (token.Anchor ∷ []) ∙ anchor_last r t.passed h)
    (any_spelled (closers t.groups ++ token.Anchor ∷ []) (closers_spelled t.groups (token.Anchor ∷ []) anchor_spelled))

pub can_begin : (r : Bool) (ts : List Token) (t : State) → run (step_in r) (Some start) ts ≡ Some t → BeginsSpelled r ts
can_begin r ts t e =
    let from = came r ts start t e in
    let good = (read_holds ts t.pieces from.0).0 in
    finish r ts t e (closed t.groups true Any t.pieces (tt, good) (from.2 refl)) (t.passed || not r) refl

-- ---- lexeme by lexeme

words_run : (r : Bool) (names ws : List (List ℕ)) (o : Option State) → run (pattern_step r names) o ws ≡ run (step_in r) o (tokens_in names ws)
unfolding tokens_in
words_run r names [] o = refl
words_run r names (w ∷ ws) None = words_run r names ws None
words_run r names (w ∷ ws) (Some s) = words_run r names ws (pattern_step r names s w)

tokens_append : (names ws more : List (List ℕ)) → tokens_in names (ws ++ more) ≡ tokens_in names ws ++ tokens_in names more
unfolding tokens_in
tokens_append names [] more = refl
tokens_append names (w ∷ ws) more = ap (λ l. token_of names w ∷ l) (tokens_append names ws more)

-- the pattern that lexemes spell, of a rule or of a demand
abbrev pub SpellUsed : Bool → List (List ℕ) → List (List ℕ) → Pattern → Type 0
SpellUsed r names ws p = SpellsPattern (tokens_in names ws) p × (is_used r p ≡ true)

all_read : (r : Bool) (ts : List Token) (p : Pattern) → SpellsPattern ts p → is_used r p ≡ true → (s : State) × (run (step_in r) (Some start) ts ≡ Some s) × (ended_in r s ≡ Some p)
all_read r ts p spells is =
    let read = spelled_pieces ts p spells in
    let g = goes r ts start (pieces_of p []) (ap (signed r 0 false) spells.1 ∙ use_signs r p spells.0 ∙ is) read.0 in
    (g.0, g.1, ap (λ b. cond b (ended g.0.pieces) None) g.3 ∙ ap ended g.2 ∙ read.1)

pub pattern_reader : (r : Bool) (names : List (List ℕ)) → Reads (pattern_step r names) start (ended_in r) (λ ws. Unit {0}) (SpellUsed r names)
pattern_reader r names = record {
  all = λ ws p is. let read = all_read r (tokens_in names ws) p is.0 is.1 in (read.0, words_run r names ws (Some start) ∙ read.1, read.2);
  only = λ ws s p e f. read_used r (tokens_in names ws) s p (sym (words_run r names ws (Some start)) ∙ e) f;
  begun = λ ws s fits e.
      let b = can_begin r (tokens_in names ws) s (sym (words_run r names ws (Some start)) ∙ e) in
      let is = subst (ArePattern r) (ap (λ l. tokens_in names ws ++ l) (sym (b.2.1 names)) ∙ sym (tokens_append names ws b.2.0)) b.1 in
      (b.2.0, (is.0, (is.1, is.2)));
}
