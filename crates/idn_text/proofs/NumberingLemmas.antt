-- How lines go on from those that were read.
use Rattle.std.proofs.Common.{◌≡◌, ◌≢◌, ℕ, ◌+◌, ◌^◌, ◌≤◌, ◌<◌, ◌⊎◌, inl, inr, List, [], ◌∷◌, ◌++◌, Bool, true, false, eqb, cond, All, take, length, refl, sym, ap, subst, ◌∙◌, eq-eqb, length-append, arith}
use Rattle.std.proofs.lemmas.List.{take_all, append-nil}
use Rattle.std.proofs.Math.Seq.{take-append_seam}
use Rattle.std.specs.List.{onto_first, AllByRecursion}
use Rattle.std.proofs.lemmas.List.Elements.{recursion_from_All}
use Rattle.std.proofs.lemmas.Bool.Decides.{nat_tests}
use Rattle.idn_text.specs.Lines.{EndsInFeed, Numbered, raw_lines, ended_lines, onto_ended, body_of, numbered, lines_of, ended_lines_of}

-- the byte at a line's front is put onto the first of the lines
onto_first-append : (c : ℕ) (xs ys : List (List ℕ)) → xs ≢ [] → onto_first c (xs ++ ys) ≡ onto_first c xs ++ ys
onto_first-append c [] ys some = absurd (some refl)
onto_first-append c (x ∷ xs) ys some = refl

onto_ended-append : (c : ℕ) (xs ys : List (List ℕ)) → xs ≢ [] → onto_ended c (xs ++ ys) ≡ onto_first c xs ++ ys
onto_ended-append c [] ys some = absurd (some refl)
onto_ended-append c (x ∷ xs) ys some = refl

onto_first-some : (c : ℕ) (xs : List (List ℕ)) → onto_first c xs ≢ []
onto_first-some c [] e = cc
onto_first-some c (x ∷ xs) e = cc

cond-some : (b : Bool) (xs ys : List (List ℕ)) → xs ≢ [] → ys ≢ [] → cond b xs ys ≢ []
cond-some true xs ys h g = h
cond-some false xs ys h g = g

pub raw_lines-some : (c : ℕ) (cs : List ℕ) → raw_lines (c ∷ cs) ≢ []
raw_lines-some c cs = cond-some (eqb c 10) _ _ (λ e. cc) (onto_first-some c (raw_lines cs))

cond-append : (b : Bool) (xs ys zs us vs : List (List ℕ)) → us ≡ xs ++ zs → vs ≡ ys ++ zs → cond b us vs ≡ cond b xs ys ++ zs
cond-append true xs ys zs us vs h g = h
cond-append false xs ys zs us vs h g = g

-- after a line feed, lines begin again
pub raw_lines-append : (given more : List ℕ) → EndsInFeed given → raw_lines (given ++ more) ≡ raw_lines given ++ raw_lines more
raw_lines-append [] more h = refl
raw_lines-append (c ∷ []) more h = let e : eqb c 10 ≡ true = eq-eqb c 10 h in rw e refl
raw_lines-append (c ∷ d ∷ ds) more h =
    let rest = raw_lines-append (d ∷ ds) more h in
    cond-append (eqb c 10) _ _ (raw_lines more) _ _ (ap (λ l. [] ∷ l) rest) (ap (onto_first c) rest ∙ onto_first-append c (raw_lines (d ∷ ds)) (raw_lines more) (raw_lines-some d ds))

pub ended_lines-append : (given more : List ℕ) → EndsInFeed given → ended_lines (given ++ more) ≡ raw_lines given ++ ended_lines more
ended_lines-append [] more h = refl
ended_lines-append (c ∷ []) more h = let e : eqb c 10 ≡ true = eq-eqb c 10 h in rw e refl
ended_lines-append (c ∷ d ∷ ds) more h =
    let rest = ended_lines-append (d ∷ ds) more h in
    cond-append (eqb c 10) _ _ (ended_lines more) _ _ (ap (λ l. [] ∷ l) rest) (ap (onto_ended c) rest ∙ onto_ended-append c (raw_lines (d ∷ ds)) (ended_lines more) (raw_lines-some d ds))

not_feed : (c : ℕ) → c ≢ 10 → eqb c 10 ≡ false
not_feed c other = grind (arith, nat_tests)

no_feed_then : (line more : List ℕ) → AllByRecursion (λ byte. byte ≢ 10) line → raw_lines (line ++ 10 ∷ more) ≡ line ∷ raw_lines more
no_feed_then [] more h = refl
no_feed_then (c ∷ cs) more h = rw (not_feed c h.0) (ap (onto_first c) (no_feed_then cs more h.1))

no_feed_rest : (c : ℕ) (cs : List ℕ) → AllByRecursion (λ byte. byte ≢ 10) (c ∷ cs) → raw_lines (c ∷ cs) ≡ (c ∷ cs) ∷ []
no_feed_rest c [] h = rw (not_feed c h.0) refl
no_feed_rest c (d ∷ ds) h = rw (not_feed c h.0) (ap (onto_first c) (no_feed_rest d ds h.1))

no_feed_some : (line : List ℕ) → line ≢ [] → AllByRecursion (λ byte. byte ≢ 10) line → raw_lines line ≡ line ∷ []
no_feed_some [] some h = absurd (some refl)
no_feed_some (c ∷ cs) some h = no_feed_rest c cs h

no_feed_ended : (line : List ℕ) → AllByRecursion (λ byte. byte ≢ 10) line → ended_lines line ≡ []
no_feed_ended [] h = refl
no_feed_ended (c ∷ cs) h = rw (not_feed c h.0) (ap (onto_ended c) (no_feed_ended cs h.1))

-- a line with its line feed comes before the lines of what follows
pub raw_lines-then : (line more : List ℕ) → All (λ byte. byte ≢ 10) line → raw_lines (line ++ 10 ∷ more) ≡ line ∷ raw_lines more
raw_lines-then line more no_feed = no_feed_then line more (recursion_from_All (λ byte. byte ≢ 10) line no_feed)

-- a rest that is not empty is one line
pub raw_lines-rest : (line : List ℕ) → line ≢ [] → All (λ byte. byte ≢ 10) line → raw_lines line ≡ line ∷ []
raw_lines-rest line some no_feed = no_feed_some line some (recursion_from_All (λ byte. byte ≢ 10) line no_feed)

-- nothing without a line feed is a line that one ends
pub ended_lines-no_feed : (line : List ℕ) → All (λ byte. byte ≢ 10) line → ended_lines line ≡ []
ended_lines-no_feed line no_feed = no_feed_ended line (recursion_from_All (λ byte. byte ≢ 10) line no_feed)

-- a rest is no line that a line feed ends
pub ended_lines-rest : (line : List ℕ) → All (λ byte. byte ≢ 10) line → ended_lines (line ++ []) ≡ []
ended_lines-rest line no_feed = rw append-nil (ended_lines-no_feed line no_feed)

ends_feed : (line : List ℕ) → EndsInFeed (line ++ 10 ∷ [])
ends_feed [] = refl
ends_feed (c ∷ []) = refl
ends_feed (c ∷ d ∷ ds) = ends_feed (d ∷ ds)

ends-append : (given more : List ℕ) → more ≢ [] → EndsInFeed more → EndsInFeed (given ++ more)
ends-append [] more some e = e
ends-append (c ∷ []) [] some e = absurd (some refl)
ends-append (c ∷ []) (d ∷ ds) some e = e
ends-append (c ∷ d ∷ ds) more some e = ends-append (d ∷ ds) more some e

pub EndsInFeed-line : (given line : List ℕ) → EndsInFeed (given ++ (line ++ 10 ∷ []))
EndsInFeed-line given line = ends-append given (line ++ 10 ∷ []) (some line) (ends_feed line)
  where
    some : (line : List ℕ) → line ++ 10 ∷ [] ≢ []
    some [] e = cc
    some (c ∷ cs) e = cc

pub numbered-append : (n : ℕ) (xs ys : List (List ℕ)) → numbered n (xs ++ ys) ≡ numbered n xs ++ numbered (n + length xs) ys
numbered-append n [] ys = let e : n ≡ n + 0 = omega arith in ap (λ k. numbered k ys) e
numbered-append n (x ∷ xs) ys =
    let e : (n + 1) + length xs ≡ n + length (x ∷ xs) = omega arith in
    let first : Numbered = record { number = n; body = body_of x } in
    ap (λ l. first ∷ l) (numbered-append (n + 1) xs ys ∙ ap (λ k. numbered (n + 1) xs ++ numbered k ys) e)

pub length-numbered : (n : ℕ) (xs : List (List ℕ)) → length (numbered n xs) ≡ length xs
length-numbered n [] = refl
length-numbered n (x ∷ xs) = omega (arith, length-numbered (n + 1) xs)

-- one more line
pub lines_of_more : (given line feed : List ℕ) (lines : List Numbered) (n : ℕ) → EndsInFeed given → lines ≡ lines_of given → n ≡ length lines → raw_lines (line ++ feed) ≡ line ∷ [] → lines ++ record { number = n + 1; body = body_of line } ∷ [] ≡ lines_of (given ++ (line ++ feed))
lines_of_more given line feed lines n ends are counted one =
    let count : n ≡ length (raw_lines given) = counted ∙ ap length are ∙ length-numbered 1 (raw_lines given) in
    let next : n + 1 ≡ 1 + length (raw_lines given) = omega (arith, count) in
    let last : ℕ → List Numbered = λ k. record { number = k; body = body_of line } ∷ [] in
    ap (λ l. l ++ last (n + 1)) are
    ∙ ap (λ k. lines_of given ++ last k) next
    ∙ sym (ap (numbered 1) (raw_lines-append given (line ++ feed) ends ∙ ap (λ l. raw_lines given ++ l) one) ∙ numbered-append 1 (raw_lines given) (line ∷ []))

take_seam : (n : ℕ) (xs ys : List Numbered) → length xs ≡ n → take n (xs ++ ys) ≡ xs
take_seam n xs ys e = subst (λ (k : ℕ). take k (xs ++ ys) ≡ xs) e (take-append_seam xs ys)

-- what is given after the lines does not count where no line feed ends it, or where there are as many lines as may be
pub ended_lines_of_more : (given more : List ℕ) (lines : List Numbered) → EndsInFeed given → lines ≡ lines_of given → length lines ≤ 2 ^ 32 → (length lines ≡ 2 ^ 32) ⊎ (ended_lines more ≡ []) → lines ≡ take (2 ^ 32) (ended_lines_of (given ++ more))
ended_lines_of_more given more lines ends are few why =
    let xs = raw_lines given in
    let split : ended_lines_of (given ++ more) ≡ lines ++ numbered (1 + length xs) (ended_lines more) =
    ap (numbered 1) (ended_lines-append given more ends) ∙ numbered-append 1 xs (ended_lines more) ∙ ap (λ l. l ++ numbered (1 + length xs) (ended_lines more)) (sym are) in
    sym (ap (take (2 ^ 32)) split ∙ elim why [
      | inl full ↦ take_seam (2 ^ 32) lines (numbered (1 + length xs) (ended_lines more)) full
      | inr none ↦ ap (λ l. take (2 ^ 32) (lines ++ numbered (1 + length xs) l)) none ∙ ap (take (2 ^ 32)) (append-nil lines) ∙ take_all (2 ^ 32) lines few
    ])

-- one more line than may be
pub too_many_lines : (given line feed : List ℕ) (lines : List Numbered) → EndsInFeed given → lines ≡ lines_of given → length lines ≡ 2 ^ 32 → raw_lines (line ++ feed) ≡ line ∷ [] → 2 ^ 32 < length (raw_lines (given ++ (line ++ feed)))
too_many_lines given line feed lines ends are full one =
    let count : length lines ≡ length (raw_lines given) = ap length are ∙ length-numbered 1 (raw_lines given) in
    let split : raw_lines (given ++ (line ++ feed)) ≡ raw_lines given ++ line ∷ [] = raw_lines-append given (line ++ feed) ends ∙ ap (λ l. raw_lines given ++ l) one in
    let sum = ap length split ∙ length-append (raw_lines given) (line ∷ []) in
    omega (arith, count, sum, full)
