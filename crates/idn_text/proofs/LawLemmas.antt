-- What the laws rest on.
use Rattle.std.proofs.Common.{◌≡◌, ◌≢◌, ℕ, ◌-◌, ◌<◌, List, [], ◌∷◌, ◌++◌, Some, None, Bool, true, false, eqb, cond, All, take, get_or, length, refl, sym, ap, ◌∙◌, eq-eqb, eqb-true, length-append, arith}
use Rattle.std.proofs.lemmas.List.{append-nil}
use Rattle.std.proofs.Math.Seq.{take-append_seam}
use Rattle.std.specs.List.{onto_first, AllByRecursion}
use Rattle.std.proofs.lemmas.List.Elements.{All-nil, All-cons, recursion_from_All, All-from_recursion}
use Rattle.std.proofs.lemmas.Bool.Decides.{nat_tests}
use Rattle.std.proofs.lemmas.Grind.{common_steps}
use Rattle.idn_text.specs.Lines.{raw_lines, ended_lines, body_of, HasNoFeed, EndsInFeed, joined_lines, with_last_feed}
use Rattle.idn_text.proofs.TakingLemmas.{is_long_line-short, is_long_line-long}
use Rattle.idn_text.proofs.NumberingLemmas.{raw_lines-some, raw_lines-then, ended_lines-append, ended_lines-no_feed}

onto_no_feed : (c : ℕ) (lines : List (List ℕ)) → c ≢ 10 → AllByRecursion HasNoFeed lines → AllByRecursion HasNoFeed (onto_first c lines)
onto_no_feed c [] other all = (All-cons (λ byte. byte ≢ 10) c [] other (All-nil (λ byte. byte ≢ 10)), tt)
onto_no_feed c (line ∷ lines) other all = (All-cons (λ byte. byte ≢ 10) c line other all.0, all.1)

no_feed_step : (c : ℕ) (cs : List ℕ) (b : Bool) → eqb c 10 ≡ b → AllByRecursion HasNoFeed (raw_lines cs) → AllByRecursion HasNoFeed (cond b ([] ∷ raw_lines cs) (onto_first c (raw_lines cs)))
no_feed_step c cs true e all = (All-nil (λ byte. byte ≢ 10), all)
no_feed_step c cs false e all = onto_no_feed c (raw_lines cs) (λ is. cc (eq-eqb c 10 is, e)) all

no_feed_lines : (text : List ℕ) → AllByRecursion HasNoFeed (raw_lines text)
no_feed_lines [] = tt
no_feed_lines (c ∷ cs) = no_feed_step c cs (eqb c 10) refl (no_feed_lines cs)

-- no line holds a line feed
pub raw_lines-no_feed : (text : List ℕ) → All HasNoFeed (raw_lines text)
raw_lines-no_feed text = All-from_recursion HasNoFeed (raw_lines text) (no_feed_lines text)

joined-onto_first : (c : ℕ) (lines : List (List ℕ)) → lines ≢ [] → joined_lines (onto_first c lines) ≡ c ∷ joined_lines lines
joined-onto_first c [] some = absurd (some refl)
joined-onto_first c (line ∷ lines) some = refl

joined_one : (c : ℕ) (b : Bool) → eqb c 10 ≡ b → joined_lines (cond b ([] ∷ []) ((c ∷ []) ∷ [])) ≡ cond b (c ∷ []) (c ∷ 10 ∷ [])
joined_one c true e = ap (λ byte. byte ∷ []) (sym (eqb-true c 10 e))
joined_one c false e = refl

joined_step : (c d : ℕ) (ds : List ℕ) (b : Bool) → eqb c 10 ≡ b → joined_lines (raw_lines (d ∷ ds)) ≡ with_last_feed (d ∷ ds) → joined_lines (cond b ([] ∷ raw_lines (d ∷ ds)) (onto_first c (raw_lines (d ∷ ds)))) ≡ c ∷ with_last_feed (d ∷ ds)
joined_step c d ds true e rest = ap (λ byte. byte ∷ joined_lines (raw_lines (d ∷ ds))) (sym (eqb-true c 10 e)) ∙ ap (λ bytes. c ∷ bytes) rest
joined_step c d ds false e rest = joined-onto_first c (raw_lines (d ∷ ds)) (raw_lines-some d ds) ∙ ap (λ bytes. c ∷ bytes) rest

-- the lines joined are the text
pub joined-raw_lines : (text : List ℕ) → joined_lines (raw_lines text) ≡ with_last_feed text
joined-raw_lines [] = refl
joined-raw_lines (c ∷ []) = joined_one c (eqb c 10) refl
joined-raw_lines (c ∷ d ∷ ds) = joined_step c d ds (eqb c 10) refl (joined-raw_lines (d ∷ ds))

lines_then : (lines : List (List ℕ)) → AllByRecursion HasNoFeed lines → raw_lines (joined_lines lines) ≡ lines
lines_then [] all = refl
lines_then (line ∷ lines) all = raw_lines-then line (joined_lines lines) all.0 ∙ ap (λ rest. line ∷ rest) (lines_then lines all.1)

-- the lines of lines joined
pub raw_lines-joined : (lines : List (List ℕ)) → All HasNoFeed lines → raw_lines (joined_lines lines) ≡ lines
raw_lines-joined lines all = lines_then lines (recursion_from_All HasNoFeed lines all)

-- the rest is no line that a line feed ends
pub ended_lines-then_rest : (text rest : List ℕ) → EndsInFeed text → HasNoFeed rest → ended_lines (text ++ rest) ≡ raw_lines text
ended_lines-then_rest text rest ends no_feed =
    ended_lines-append text rest ends ∙ ap (λ lines. raw_lines text ++ lines) (ended_lines-no_feed rest no_feed) ∙ append-nil (raw_lines text)

last_byte : (line : List ℕ) (last : ℕ) → get_or (line ++ last ∷ []) (length (line ++ last ∷ []) - 1) 0 ≡ last
last_byte [] last = refl
last_byte (c ∷ cs) last = grind (arith, common_steps)

-- a line that does not end in a carriage return is its body
pub body_of-other : (line : List ℕ) (last : ℕ) → length line < 1024 → last ≢ 13 → body_of (line ++ last ∷ []) ≡ Some (line ++ last ∷ [])
body_of-other line last few other =
    let whole : List ℕ = line ++ last ∷ [] in
    let count = length-append line (last ∷ []) in
    let is_short = is_long_line-short whole (omega (arith, count)) in
    let differs : eqb last 13 ≡ false = grind (arith, nat_tests) in
    let test : eqb (get_or whole (length whole - 1) 0) 13 ≡ false = ap (λ byte. eqb byte 13) (last_byte line last) ∙ differs in
    rw (is_short, test) refl

-- the carriage return at a line's end is dropped
pub body_of-carriage_return : (line : List ℕ) → length line < 1024 → body_of (line ++ 13 ∷ []) ≡ Some line
body_of-carriage_return line few =
    let whole : List ℕ = line ++ 13 ∷ [] in
    let count = length-append line (13 ∷ []) in
    let is_short = is_long_line-short whole (omega (arith, count)) in
    let test : eqb (get_or whole (length whole - 1) 0) 13 ≡ true = ap (λ byte. eqb byte 13) (last_byte line 13) in
    let less : length whole - 1 ≡ length line = omega (arith, count) in
    let front : take (length whole - 1) whole ≡ line = ap (λ n. take n whole) less ∙ take-append_seam line (13 ∷ []) in
    rw (is_short, test) (ap Some front)

-- a longer line has no body
pub body_of-long : (line : List ℕ) → 1024 < length line → body_of line ≡ None
body_of-long line many = rw (is_long_line-long line many) refl
