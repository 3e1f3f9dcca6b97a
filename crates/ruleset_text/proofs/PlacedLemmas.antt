-- The lexemes of a line with their places.
use Rattle.std.proofs.Common.{◌≡◌, ℕ, suc, ◌+◌, ◌-◌, ◌≤◌, Bool, true, false, not, cond, ◌||◌, ◌&&◌, List, [], ◌∷◌, ◌++◌, length, drop, refl, sym, ap, ◌∙◌, add-zero, arith}
use Rattle.std.specs.List.{onto_first}
use Rattle.std.proofs.lemmas.List.{length-append, length-drop}
use Rattle.ruleset_text.specs.Lexemes.{is_blank, is_mark, is_full_stop, is_word_byte, is_joined, lexemes}
use Rattle.ruleset_text.specs.PlacedLexemes.{Placed, onto_placed, placed_from, unplaced}
use Rattle.std.proofs.lemmas.List.Sums.{prefix_len-le-length}
use Rattle.std.proofs.Math.Bool.{and-false}
use Rattle.ruleset_text.proofs.LexemeLemmas.{first_place, blank_no_stop, is_blank-first, lexemes-blanks}

-- ---- blanks at the front

blank_step : (n c : ℕ) (cs : List ℕ) (b : Bool) → is_blank c ≡ b → placed_from (n + 1) cs ≡ placed_from (n + 1 + first_place cs) (drop (first_place cs) cs)
    → placed_from n (c ∷ cs) ≡ placed_from (n + cond (not (not b)) (1 + first_place cs) 0) (drop (cond (not (not b)) (1 + first_place cs) 0) (c ∷ cs))
blank_step n c cs true e rest =
    let one : 1 + first_place cs ≡ suc (first_place cs) = omega arith in
    let here : placed_from n (c ∷ cs) ≡ placed_from (n + 1) cs =
    ap (λ b. cond b (placed_from (n + 1) cs) (cond (is_joined c cs) (onto_placed n c (placed_from (n + 1) cs)) (record { place = n; lexeme = c ∷ [] } ∷ placed_from (n + 1) cs))) e in
    let at : n + 1 + first_place cs ≡ n + (1 + first_place cs) = omega arith in
    here ∙ rest ∙ ap (λ m. placed_from m (drop (first_place cs) cs)) at ∙ ap (λ k. placed_from (n + (1 + first_place cs)) (drop k (c ∷ cs))) (sym one)
blank_step n c cs false e rest = ap (λ m. placed_from m (c ∷ cs)) (sym (add-zero n))

pub placed-blanks : (n : ℕ) (text : List ℕ) → placed_from n text ≡ placed_from (n + first_place text) (drop (first_place text) text)
placed-blanks n [] = refl
placed-blanks n (c ∷ cs) = blank_step n c cs (is_blank c) refl (placed-blanks (n + 1) cs)

-- ---- the lexeme at the front

-- the next byte of a lexeme is no blank
joined_no_blank : (c d : ℕ) (ds : List ℕ) → is_joined c (d ∷ ds) ≡ true → is_blank d ≡ false
joined_no_blank c d ds e = by (is_blank d) refl
  where
    by : (b : Bool) → is_blank d ≡ b → b ≡ false
    by false h = refl
    by true h =
        let first : (is_word_byte c && not (true || is_mark d || is_full_stop d)) ≡ false = and-false (is_word_byte c) in
        let second : (is_full_stop c && is_full_stop d) ≡ false = ap (λ b. is_full_stop c && b) (blank_no_stop d h) ∙ and-false (is_full_stop c) in
        let all : is_joined c (d ∷ ds) ≡ false =
        ap (λ b. is_word_byte c && not (b || is_mark d || is_full_stop d) || is_full_stop c && is_full_stop d) h
        ∙ ap (λ b. b || is_full_stop c && is_full_stop d) first ∙ second in cc

onto_some : (c : ℕ) (ls : List (List ℕ)) → onto_first c ls ≡ [] → ⊥
onto_some c [] e = cc
onto_some c (v ∷ vs) e = cc

some_lexeme : (c : ℕ) (cs : List ℕ) → is_blank c ≡ false → lexemes (c ∷ cs) ≡ [] → ⊥
some_lexeme c cs e none = by (is_joined c cs) refl
  where
    start : lexemes (c ∷ cs) ≡ cond (is_joined c cs) (onto_first c (lexemes cs)) ((c ∷ []) ∷ lexemes cs)
    start = ap (λ b. cond b (lexemes cs) (cond (is_joined c cs) (onto_first c (lexemes cs)) ((c ∷ []) ∷ lexemes cs))) e

    by : (b : Bool) → is_joined c cs ≡ b → ⊥
    by true j = onto_some c (lexemes cs) (sym (start ∙ ap (λ b. cond b (onto_first c (lexemes cs)) ((c ∷ []) ∷ lexemes cs)) j) ∙ none)
    by false j = let bad : (c ∷ []) ∷ lexemes cs ≡ [] = sym (start ∙ ap (λ b. cond b (onto_first c (lexemes cs)) ((c ∷ []) ∷ lexemes cs)) j) ∙ none in cc

lexemes-joined : (c : ℕ) (cs : List ℕ) (j : Bool) → is_blank c ≡ false → is_joined c cs ≡ j → lexemes (c ∷ cs) ≡ cond j (onto_first c (lexemes cs)) ((c ∷ []) ∷ lexemes cs)
lexemes-joined c cs j e is =
    ap (λ b. cond b (lexemes cs) (cond (is_joined c cs) (onto_first c (lexemes cs)) ((c ∷ []) ∷ lexemes cs))) e
    ∙ ap (λ b. cond b (onto_first c (lexemes cs)) ((c ∷ []) ∷ lexemes cs)) is

placed-joined : (n c : ℕ) (cs : List ℕ) (j : Bool) → is_blank c ≡ false → is_joined c cs ≡ j
    → placed_from n (c ∷ cs) ≡ cond j (onto_placed n c (placed_from (n + 1) cs)) (record { place = n; lexeme = c ∷ [] } ∷ placed_from (n + 1) cs)
placed-joined n c cs j e is =
    ap (λ b. cond b (placed_from (n + 1) cs) (cond (is_joined c cs) (onto_placed n c (placed_from (n + 1) cs)) (record { place = n; lexeme = c ∷ [] } ∷ placed_from (n + 1) cs))) e
    ∙ ap (λ b. cond b (onto_placed n c (placed_from (n + 1) cs)) (record { place = n; lexeme = c ∷ [] } ∷ placed_from (n + 1) cs)) is

no_longer : {X : Type 0} (v : X) (vs : List X) → vs ≡ v ∷ vs → ⊥
no_longer v vs e = let n : length vs ≡ length (v ∷ vs) = ap length e in omega (arith, n)

not_one : (c : ℕ) (ls : List (List ℕ)) → (ls ≡ [] → ⊥) → onto_first c ls ≡ (c ∷ []) ∷ ls → ⊥
not_one c [] some e = some refl
not_one c (v ∷ vs) some e = let tails : vs ≡ v ∷ vs = cc in no_longer v vs tails

rest_of : (c d : ℕ) (ds : List ℕ) (ls others : List (List ℕ)) → onto_first c ls ≡ (c ∷ d ∷ ds) ∷ others → ls ≡ (d ∷ ds) ∷ others
rest_of c d ds [] others e = absurd (let heads : [] ≡ d ∷ ds = cc in cc)
rest_of c d ds (v ∷ vs) others e = let heads : v ≡ d ∷ ds = cc in let tails : vs ≡ others = cc in cc

placed-front : (cs : List ℕ) (n c : ℕ) (others : List ℕ) → is_blank c ≡ false → lexemes ((c ∷ cs) ++ others) ≡ (c ∷ cs) ∷ lexemes others
    → placed_from n ((c ∷ cs) ++ others) ≡ record { place = n; lexeme = c ∷ cs } ∷ placed_from (n + length (c ∷ cs)) others
placed-front [] n c others e is = by (is_joined c others) refl others refl
  where
    same : n + 1 ≡ n + length (c ∷ [])
    same = omega arith

    by : (j : Bool) → is_joined c others ≡ j → (rest : List ℕ) → others ≡ rest → placed_from n (c ∷ others) ≡ record { place = n; lexeme = c ∷ [] } ∷ placed_from (n + length (c ∷ [])) others
    by false j rest r = placed-joined n c others false e j ∙ ap (λ m. record { place = n; lexeme = c ∷ [] } ∷ placed_from m others) same
    by true j [] r = let bad : true ≡ false = sym j ∙ ap (is_joined c) r ∙ none_joined in absurd cc
      where
        none_joined : is_joined c [] ≡ false
        none_joined = ap (λ b. b || is_full_stop c && false) (and-false (is_word_byte c)) ∙ and-false (is_full_stop c)
    by true j (d ∷ ds) r =
        let next : is_blank d ≡ false = joined_no_blank c d ds (sym (ap (is_joined c) r) ∙ j) in
        absurd (not_one c (lexemes others) (λ none. some_lexeme d ds next (sym (ap lexemes r) ∙ none)) (sym (lexemes-joined c others true e j) ∙ is))
placed-front (d ∷ ds) n c others e is = by (placed-front ds (n + 1) d others) (is_joined c ((d ∷ ds) ++ others)) refl
  where
    same : n + 1 + length (d ∷ ds) ≡ n + length (c ∷ d ∷ ds)
    same = omega arith

    by : (is_blank d ≡ false → lexemes ((d ∷ ds) ++ others) ≡ (d ∷ ds) ∷ lexemes others → placed_from (n + 1) ((d ∷ ds) ++ others) ≡ record { place = n + 1; lexeme = d ∷ ds } ∷ placed_from (n + 1 + length (d ∷ ds)) others)
        → (j : Bool) → is_joined c ((d ∷ ds) ++ others) ≡ j → placed_from n (c ∷ ((d ∷ ds) ++ others)) ≡ record { place = n; lexeme = c ∷ d ∷ ds } ∷ placed_from (n + length (c ∷ d ∷ ds)) others
    by from_next false j = absurd (let bad : (c ∷ []) ∷ lexemes ((d ∷ ds) ++ others) ≡ (c ∷ d ∷ ds) ∷ lexemes others = sym (lexemes-joined c ((d ∷ ds) ++ others) false e j) ∙ is in cc)
    by from_next true j =
        let next : is_blank d ≡ false = joined_no_blank c d (ds ++ others) j in
        let further = rest_of c d ds (lexemes ((d ∷ ds) ++ others)) (lexemes others) (sym (lexemes-joined c ((d ∷ ds) ++ others) true e j) ∙ is) in
        placed-joined n c ((d ∷ ds) ++ others) true e j ∙ ap (onto_placed n c) (from_next next further)
        ∙ ap (λ m. record { place = n; lexeme = c ∷ d ∷ ds } ∷ placed_from m others) same

-- the first lexeme of a text, after its blanks
pub placed-next : (n : ℕ) (text w others : List ℕ) → drop (first_place text) text ≡ w ++ others → lexemes text ≡ w ∷ lexemes others
    → placed_from n text ≡ record { place = n + first_place text; lexeme = w } ∷ placed_from (n + first_place text + length w) others
placed-next n text w others cut e = placed-blanks n text ∙ ap (placed_from (n + first_place text)) cut ∙ by w refl
  where
    at : ℕ
    at = n + first_place text

    front : lexemes (w ++ others) ≡ w ∷ lexemes others
    front = sym (ap lexemes cut) ∙ sym (lexemes-blanks text) ∙ e

    by : (v : List ℕ) → w ≡ v → placed_from at (w ++ others) ≡ record { place = at; lexeme = w } ∷ placed_from (at + length w) others
    by [] v =
        let bad : lexemes others ≡ [] ∷ lexemes others = sym (ap (λ l. lexemes (l ++ others)) v) ∙ front ∙ ap (λ l. l ∷ lexemes others) v in
        absurd (no_longer [] (lexemes others) bad)
    by (c ∷ cs) v =
        let blank = is_blank-first text c (cs ++ others) (cut ∙ ap (λ l. l ++ others) v) in
        let is = sym (ap (λ l. lexemes (l ++ others)) v) ∙ front ∙ ap (λ l. l ∷ lexemes others) v in
        ap (λ l. placed_from at (l ++ others)) v ∙ placed-front cs at c others blank is
        ∙ sym (ap (λ l. record { place = at; lexeme = l } ∷ placed_from (at + length l) others) v)

-- a text is its blanks, its first lexeme and the rest
pub cut_length : (text w others : List ℕ) → drop (first_place text) text ≡ w ++ others → first_place text + length w + length others ≡ length text
cut_length text w others cut =
    let within : first_place text ≤ length text = prefix_len-le-length (λ c. not (not (is_blank c))) text in
    let parts : length text - first_place text ≡ length w + length others = sym (length-drop (first_place text) text) ∙ ap length cut ∙ length-append w others in
    omega (arith, within, parts)

pub placed-none : (n : ℕ) (text : List ℕ) → lexemes text ≡ [] → placed_from n text ≡ []
placed-none n text e = placed-blanks n text ∙ by (drop (first_place text) text) refl
  where
    by : (l : List ℕ) → drop (first_place text) text ≡ l → placed_from (n + first_place text) (drop (first_place text) text) ≡ []
    by [] is = ap (placed_from (n + first_place text)) is
    by (c ∷ cs) is = absurd (some_lexeme c cs (is_blank-first text c cs is) (sym (ap lexemes is) ∙ sym (lexemes-blanks text) ∙ e))

-- ---- there are no more lexemes than bytes

onto_length : (n c k : ℕ) (ws : List Placed) → length ws ≤ k → length (onto_placed n c ws) ≤ k + 1
onto_length n c k [] few = omega arith
onto_length n c k (w ∷ ws) few = omega (arith, few)

pub placed-length : (n : ℕ) (text : List ℕ) → length (placed_from n text) ≤ length text
placed-length n [] = omega arith
placed-length n (c ∷ cs) = by (is_blank c) (is_joined c cs) (placed-length (n + 1) cs)
  where
    by : (b j : Bool) → length (placed_from (n + 1) cs) ≤ length cs
        → length (cond b (placed_from (n + 1) cs) (cond j (onto_placed n c (placed_from (n + 1) cs)) (record { place = n; lexeme = c ∷ [] } ∷ placed_from (n + 1) cs))) ≤ length (c ∷ cs)
    by true j few = omega (arith, few)
    by false true few = omega (arith, onto_length n c (length cs) (placed_from (n + 1) cs) few)
    by false false few = omega (arith, few)

-- ---- the lexemes without their places

onto_same : (n c : ℕ) (ws : List Placed) → unplaced (onto_placed n c ws) ≡ onto_first c (unplaced ws)
onto_same n c [] = refl
onto_same n c (w ∷ ws) = refl

pub unplaced-from : (n : ℕ) (text : List ℕ) → unplaced (placed_from n text) ≡ lexemes text
unplaced-from n [] = refl
unplaced-from n (c ∷ cs) = by (unplaced-from (n + 1) cs) (is_blank c) (is_joined c cs)
  where
    by : unplaced (placed_from (n + 1) cs) ≡ lexemes cs → (b j : Bool) → unplaced (cond b (placed_from (n + 1) cs) (cond j (onto_placed n c (placed_from (n + 1) cs)) (record { place = n; lexeme = c ∷ [] } ∷ placed_from (n + 1) cs)))
        ≡ cond b (lexemes cs) (cond j (onto_first c (lexemes cs)) ((c ∷ []) ∷ lexemes cs))
    by rest true j = rest
    by rest false true = onto_same n c (placed_from (n + 1) cs) ∙ ap (onto_first c) rest
    by rest false false = ap (λ l. (c ∷ []) ∷ l) rest
