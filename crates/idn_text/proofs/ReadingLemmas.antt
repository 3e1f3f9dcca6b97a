-- How the reading of lines goes on.
use Rattle.std.proofs.Common.{◌≡◌, ◌≢◌, ℕ, ◌+◌, ◌^◌, ◌≤◌, ◌<◌, inl, inr, List, [], ◌∷◌, ◌++◌, Option, Bool, true, false, cond, All, length, refl, sym, ap, subst, ◌∙◌, length-append, arith}
use Rattle.std.proofs.lemmas.List.{append-nil}
use Rattle.idn_text.specs.Lines.{Numbered, raw_lines, body_of}
use Rattle.idn_text.specs.Taking.{left, HasEnded, HasFailed}
use Rattle.idn_text.specs.inner.TakenLines.{TakesLine}
use Rattle.idn_text.specs.declared.lines.State.{State}
use Rattle.idn_text.specs.declared.lines.State.TheVariants.{Open, Ended, Stopped}
use Rattle.idn_text.specs.Reading.{Reading, IsUnread, AreLines, HasRead, idle_reads}
use Rattle.idn_text.proofs.KnownBytesLemmas.{consumes_join, consumes_nothing}
use Rattle.idn_text.proofs.TakingLemmas.{fails_from}
use Rattle.idn_text.proofs.NumberingLemmas.{raw_lines-then, raw_lines-rest, ended_lines-rest, EndsInFeed-line, lines_of_more, ended_lines_of_more, too_many_lines}

-- nothing was read yet
pub has_read_nothing : (start : Reading) → IsUnread start → HasRead start start [] []
has_read_nothing start unread =
    let held = ap length unread.held in
    let number = unread.number in
    let reads = unread.reads in
    record {
      taken = consumes_nothing (left start.input);
      asked = omega arith;
      called = omega arith;
      no_fault = λ _. refl;
      counted = number;
      few = omega arith;
      read = subst (λ (s : State). AreLines s start.input start.input [] []) (sym unread.state) (refl, tt);
    }

-- the read calls of a line, after those before
asked_more : (start old new : Reading) (given line feed : List ℕ) (idle : ℕ) → old.input.reads + length start.input.held ≤ start.input.reads + length given + length old.input.held + 0 → TakesLine old.input new.input line feed idle → new.input.reads + length start.input.held ≤ start.input.reads + length (given ++ (line ++ feed)) + length new.input.held + idle
asked_more start old new given line feed idle before takes =
    let count = length-append given (line ++ feed) in
    let asked = takes.asked in
    omega arith

not_stopped : {s : State} → s ≡ Open → s ≢ Stopped
not_stopped is_open stopped = let bad : Open ≡ Stopped = sym is_open ∙ stopped in cc

-- a line that a line feed ends
pub has_line : (start old new : Reading) (given line : List ℕ) (lines : List Numbered) → HasRead start old given lines → old.state ≡ Open → TakesLine old.input new.input line (10 ∷ []) 0 → new.input.reader.faults ≡ old.input.reader.faults → old.number < 2 ^ 32 → new.number ≡ old.number + 1 → new.state ≡ Open → HasRead start new (given ++ (line ++ 10 ∷ [])) (lines ++ record { number = old.number + 1; body = body_of line } ∷ [])
has_line start old new given line lines has is_open takes no_fault few number still =
    let read = subst (λ (s : State). AreLines s start.input old.input given lines) is_open has.read in
    let asked = subst (λ (s : State). old.input.reads + length start.input.held ≤ start.input.reads + length given + length old.input.held + idle_reads s) is_open has.asked in
    let counted = has.counted in
    let after = given ++ (line ++ 10 ∷ []) in
    let now = lines ++ record { number = old.number + 1; body = body_of line } ∷ [] in
    record {
      taken = consumes_join (left start.input) (left old.input) (left new.input) given (line ++ 10 ∷ []) has.taken takes.taken;
      asked = subst (λ (s : State). new.input.reads + length start.input.held ≤ start.input.reads + length after + length new.input.held + idle_reads s) (sym still) (asked_more start old new given line (10 ∷ []) 0 asked takes);
      called = omega (arith, has.called, takes.called);
      no_fault = λ _. no_fault ∙ has.no_fault (not_stopped is_open);
      counted = omega (arith, length-append lines (record { number = old.number + 1; body = body_of line } ∷ []));
      few = omega arith;
      read = subst (λ (s : State). AreLines s start.input new.input after now) (sym still)
          (lines_of_more given line (10 ∷ []) lines old.number read.1 read.0 counted (raw_lines-then line [] takes.no_feed), EndsInFeed-line given line);
    }

-- the last line, which no line feed ends
pub has_last : (start old new : Reading) (given line : List ℕ) (lines : List Numbered) → HasRead start old given lines → old.state ≡ Open → TakesLine old.input new.input line [] 1 → line ≢ [] → HasEnded new.input → new.input.reader.faults ≡ old.input.reader.faults → old.number < 2 ^ 32 → new.number ≡ old.number + 1 → new.state ≡ Ended → HasRead start new (given ++ (line ++ [])) (lines ++ record { number = old.number + 1; body = body_of line } ∷ [])
has_last start old new given line lines has is_open takes some at_end no_fault few number still =
    let read = subst (λ (s : State). AreLines s start.input old.input given lines) is_open has.read in
    let asked = subst (λ (s : State). old.input.reads + length start.input.held ≤ start.input.reads + length given + length old.input.held + idle_reads s) is_open has.asked in
    let counted = has.counted in
    let after = given ++ (line ++ []) in
    let now = lines ++ record { number = old.number + 1; body = body_of line } ∷ [] in
    record {
      taken = consumes_join (left start.input) (left old.input) (left new.input) given (line ++ []) has.taken takes.taken;
      asked = subst (λ (s : State). new.input.reads + length start.input.held ≤ start.input.reads + length after + length new.input.held + idle_reads s) (sym still) (asked_more start old new given line [] 1 asked takes);
      called = omega (arith, has.called, takes.called);
      no_fault = λ _. no_fault ∙ has.no_fault (not_stopped is_open);
      counted = omega (arith, length-append lines (record { number = old.number + 1; body = body_of line } ∷ []));
      few = omega arith;
      read = subst (λ (s : State). AreLines s start.input new.input after now) (sym still)
          (lines_of_more given line [] lines old.number read.1 read.0 counted (rw append-nil (raw_lines-rest line some takes.no_feed)), at_end);
    }

-- a reader that failed
pub has_failed : (start old new : Reading) (given line : List ℕ) (lines : List Numbered) → HasRead start old given lines → old.state ≡ Open → TakesLine old.input new.input line [] 1 → HasFailed old.input new.input → new.number ≡ old.number → new.state ≡ Stopped → HasRead start new (given ++ (line ++ [])) (lines ++ [])
has_failed start old new given line lines has is_open takes failed number still =
    let read = subst (λ (s : State). AreLines s start.input old.input given lines) is_open has.read in
    let asked = subst (λ (s : State). old.input.reads + length start.input.held ≤ start.input.reads + length given + length old.input.held + idle_reads s) is_open has.asked in
    let counted = has.counted in
    let few = has.few in
    let after = given ++ (line ++ []) in
    record {
      taken = consumes_join (left start.input) (left old.input) (left new.input) given (line ++ []) has.taken takes.taken;
      asked = subst (λ (s : State). new.input.reads + length start.input.held ≤ start.input.reads + length after + length new.input.held + idle_reads s) (sym still) (asked_more start old new given line [] 1 asked takes);
      called = omega (arith, has.called, takes.called);
      no_fault = λ other. absurd (other still);
      counted = rw (append-nil lines) (number ∙ counted);
      few = omega arith;
      read = subst (λ (s : State). AreLines s start.input new.input after (lines ++ [])) (sym still)
          (rw (append-nil lines) (ended_lines_of_more given (line ++ []) lines read.1 read.0 (omega arith) (inr (ended_lines-rest line takes.no_feed))), inl (fails_from start.input old.input new.input (has.no_fault (not_stopped is_open)) failed));
    }

-- a line more than may be
pub has_too_many : (start old new : Reading) (given line : List ℕ) (lines : List Numbered) (has_feed : Bool) → HasRead start old given lines → old.state ≡ Open → TakesLine old.input new.input line (cond has_feed (10 ∷ []) []) (cond has_feed 0 1) → new.input.reader.faults ≡ old.input.reader.faults → (has_feed ≡ false → line ≢ []) → old.number ≡ 2 ^ 32 → new.number ≡ old.number → new.state ≡ Stopped → HasRead start new (given ++ (line ++ cond has_feed (10 ∷ []) [])) (lines ++ [])
has_too_many start old new given line lines has_feed has is_open takes no_fault some full number still =
    let feed : List ℕ = cond has_feed (10 ∷ []) [] in
    let one = one_line line has_feed takes.no_feed some in
    let read = subst (λ (s : State). AreLines s start.input old.input given lines) is_open has.read in
    let asked = subst (λ (s : State). old.input.reads + length start.input.held ≤ start.input.reads + length given + length old.input.held + idle_reads s) is_open has.asked in
    let counted = has.counted in
    let few = has.few in
    let count : length lines ≡ 2 ^ 32 = sym counted ∙ full in
    let after : List ℕ = given ++ (line ++ feed) in
    let less : new.input.reads + length start.input.held ≤ start.input.reads + length after + length new.input.held + cond has_feed 0 1 = asked_more start old new given line feed (cond has_feed 0 1) asked takes in
    let once = at_most_once has_feed in
    let more : new.input.reads + length start.input.held ≤ start.input.reads + length after + length new.input.held + 1 = omega (arith, less, once) in
    record {
      taken = consumes_join (left start.input) (left old.input) (left new.input) given (line ++ feed) has.taken takes.taken;
      asked = subst (λ (s : State). new.input.reads + length start.input.held ≤ start.input.reads + length after + length new.input.held + idle_reads s) (sym still) more;
      called = omega (arith, has.called, takes.called);
      no_fault = λ other. absurd (other still);
      counted = rw (append-nil lines) (number ∙ counted);
      few = omega arith;
      read = subst (λ (s : State). AreLines s start.input new.input after (lines ++ [])) (sym still)
          (rw (append-nil lines) (ended_lines_of_more given (line ++ feed) lines read.1 read.0 (omega arith) (inl count)), inr (too_many_lines given line feed lines read.1 read.0 count one, no_fault ∙ has.no_fault (not_stopped is_open)));
    }
  where
    one_line : (line : List ℕ) (has_feed : Bool) → All (λ byte. byte ≢ 10) line → (has_feed ≡ false → line ≢ []) → raw_lines (line ++ cond has_feed (10 ∷ []) []) ≡ line ∷ []
    one_line line true no_feed some = raw_lines-then line [] no_feed
    one_line line false no_feed some = rw append-nil (raw_lines-rest line (some refl) no_feed)

    at_most_once : (has_feed : Bool) → cond has_feed 0 1 ≤ 1
    at_most_once true = omega arith
    at_most_once false = omega arith

-- the line that a line feed ends, or the last one
pub has_next : (start old new : Reading) (given line : List ℕ) (lines : List Numbered) (body : Option (List ℕ)) (has_feed : Bool) → HasRead start old given lines → old.state ≡ Open → TakesLine old.input new.input line (cond has_feed (10 ∷ []) []) (cond has_feed 0 1) → new.input.reader.faults ≡ old.input.reader.faults → old.number < 2 ^ 32 → new.number ≡ old.number + 1 → (has_feed ≡ true → new.state ≡ Open) → (has_feed ≡ false → (new.state ≡ Ended) × (line ≢ []) × HasEnded new.input) → body ≡ body_of line → HasRead start new (given ++ (line ++ cond has_feed (10 ∷ []) [])) (lines ++ record { number = old.number + 1; body = body } ∷ [])
has_next start old new given line lines body true has is_open takes no_fault few number then_opens then_ended e =
    subst (λ (b : Option (List ℕ)). HasRead start new (given ++ (line ++ 10 ∷ [])) (lines ++ record { number = old.number + 1; body = b } ∷ [])) (sym e) (has_line start old new given line lines has is_open takes no_fault few number (then_opens refl))
has_next start old new given line lines body false has is_open takes no_fault few number then_opens then_ended e =
    let last = then_ended refl in
    subst (λ (b : Option (List ℕ)). HasRead start new (given ++ (line ++ [])) (lines ++ record { number = old.number + 1; body = b } ∷ [])) (sym e) (has_last start old new given line lines has is_open takes last.1 last.2 no_fault few number last.0)
