-- Taking bytes from the front of what a reader gave.
use Rattle.std.proofs.Common.{◌≡◌, ◌≢◌, ℕ, suc, inl, inr, ◌+◌, ◌-◌, ◌≤◌, ◌<◌, Bool, true, false, cond, List, [], ◌∷◌, ◌++◌, Option, Some, None, Result, Ok, Err, IfOk, OnOk, OnErr, take, drop, length, slice_range, refl, sym, ap, subst, ◌∙◌, append_assoc, drop-drop, length-take, length-drop, length-append, take-append-drop, arith}
use Rattle.std.proofs.lemmas.List.{take_all, take_at, drop_at, take-take, take-append-le, length-take-le, append-nil, drop-take}
use Rattle.std.proofs.lemmas.List.Edits.{take-paste}
use Rattle.std.proofs.lemmas.Slice.{between_from_start}
use Rattle.std.specs.List.{copy_within}
use borrow.Rule.Slice.PartMut.{put_mid, post_of}
use lib.Seq.{take-add}
use Rattle.std.proofs.lemmas.Bool.Decides.{nat_tests}
use Rattle.std.proofs.lemmas.List.Elements.{All-append}
use Rattle.std.specs.Io.KnownBytes.{Consumes, Keeps}
use Rattle.std.specs.Option.{option_map}
use Rattle.std.specs.Str.Lines.{strip_carriage_return}
use Rattle.idn_text.specs.Taking.{BufferedReader, left, HasFailed}
use Rattle.idn_text.specs.declared.buffered_reader.ReadFault.{ReadFault}
use Rattle.idn_text.specs.Lines.{HasNoFeed, is_long_line, body_of}
use Rattle.idn_text.specs.inner.TakenLines.{TakesLine, kept}
use Rattle.idn_text.proofs.KnownBytesLemmas.{consumes_front, consumes_join, consumes_kept, consumes_nothing}

-- a range that begins n later
pub slice_range_later : (bytes : List ℕ) (start stop n : ℕ) → n ≤ length (slice_range bytes start stop) → slice_range bytes (start + n) stop ≡ drop n (slice_range bytes start stop)
slice_range_later bytes start stop n h =
    let m = stop - (start + n) in
    let count : stop - start ≡ n + m = omega (arith, h, length-take (stop - start) (drop start bytes)) in
    sym (ap (λ k. drop n (take k (drop start bytes))) count ∙ drop-take n m (drop start bytes) ∙ ap (take m) (drop-drop n start bytes))

-- a range of the first n
pub slice_range_front : (bytes : List ℕ) (start stop n : ℕ) → n ≤ length (slice_range bytes start stop) → slice_range bytes start (start + n) ≡ take n (slice_range bytes start stop)
slice_range_front bytes start stop n h =
    let count : (start + n) - start ≡ n = omega arith in
    let few : n ≤ stop - start = omega (arith, h, length-take (stop - start) (drop start bytes)) in
    ap (λ k. take k (drop start bytes)) count ∙ sym (take-take n (stop - start) (drop start bytes) few)

-- a range that was moved to the front, and the first n of the bytes that were written after it
pub slice_range_grown : (bytes moved given : List ℕ) (start stop room n : ℕ) → start ≤ stop → stop ≤ length bytes → moved ≡ copy_within bytes start stop 0 → n ≤ length given → slice_range (put_mid (stop - start) room moved given) 0 (stop - start + n) ≡ slice_range bytes start stop ++ take n given
slice_range_grown bytes moved given start stop room n ordered within e few =
    let m = stop - start in
    let range = slice_range bytes start stop in
    let after = given ++ post_of m room moved in
    let inside : m ≤ length (drop start bytes) = omega (arith, length-drop start bytes) in
    let count : length range ≡ m = length-take-le m (drop start bytes) inside in
    let same : m ≡ 0 + m = omega arith in
    let front : take m moved ≡ range = ap (take m) e ∙ ap (λ k. take k (copy_within bytes start stop 0)) same ∙ take-paste bytes 0 (drop start bytes) m (omega arith) inside in
    between_from_start (put_mid m room moved given) (m + n)
    ∙ ap (λ l. take (m + n) (l ++ after)) front
    ∙ take-add m n (range ++ after)
    ∙ (rw (take_at range after m count, drop_at range after m count, take-append-le n given (post_of m room moved) few) refl)

-- the first line feed, after n bytes that have none
pub feed_after : (held line rest : List ℕ) (n : ℕ) → n ≤ length held → HasNoFeed (take n held) → HasNoFeed line → drop n held ≡ line ++ 10 ∷ rest
    → HasNoFeed (take (n + length line) held) × ((after : List ℕ) × (held ≡ take (n + length line) held ++ 10 ∷ after))
feed_after held line rest n within first second split =
    let front = take n held ++ line in
    let count : length front ≡ n + length line = length-append (take n held) line ∙ ap (λ k. k + length line) (length-take-le n held within) in
    let all : held ≡ front ++ 10 ∷ rest = sym (take-append-drop n held) ∙ ap (λ l. take n held ++ l) split ∙ sym (append_assoc (take n held) line (10 ∷ rest)) in
    let e : take (n + length line) held ≡ front = ap (take (n + length line)) all ∙ take_at front (10 ∷ rest) (n + length line) count in
    (rw e (All-append (λ byte. byte ≢ 10) (take n held) line first second), (rest, all ∙ ap (λ l. l ++ 10 ∷ rest) (sym e)))

-- no line feed, after n bytes that have none
pub no_feed_after : (held : List ℕ) (n : ℕ) → HasNoFeed (take n held) → HasNoFeed (drop n held) → HasNoFeed held
no_feed_after held n first second = subst HasNoFeed (take-append-drop n held) (All-append (λ byte. byte ≢ 10) (take n held) (drop n held) first second)

-- a line of so few bytes is not too long
pub is_long_line-short : (line : List ℕ) → length line ≤ 1024 → is_long_line line ≡ false
is_long_line-short line few = grind (arith, nat_tests)

-- a line of more is
pub is_long_line-long : (line : List ℕ) → 1024 < length line → is_long_line line ≡ true
is_long_line-long line many = grind (arith, nat_tests)

-- a line that is not too long is kept
pub kept-short : (line : List ℕ) → length line ≤ 1024 → kept line ≡ Some line
kept-short line few = rw (is_long_line-short line few) refl

-- nothing is kept of a longer one
pub kept-long : (line : List ℕ) → 1024 < length line → kept line ≡ None
kept-long line many = rw (is_long_line-long line many) refl

stripped : (is_long : Bool) (line : List ℕ) → option_map strip_carriage_return (cond is_long None (Some line)) ≡ cond is_long None (Some (strip_carriage_return line))
stripped true line = refl
stripped false line = refl

-- what is kept of a line, less a carriage return at its end, is its body
pub stripped_kept : (line : List ℕ) → option_map strip_carriage_return (kept line) ≡ body_of line
stripped_kept line = stripped (is_long_line line) line

-- a line and its line feed, n bytes in all
pub takes_ended : (old new : BufferedReader) (last : Option (List ℕ)) (line rest : List ℕ) (n : ℕ) → HasNoFeed line → old.held ≡ line ++ 10 ∷ rest → n ≡ length line + 1 → new ≡ record old { held = drop n old.held; line = last } → TakesLine old new line (10 ∷ []) 0
takes_ended old new last line rest n no_feed split count e =
    let all = ap length split ∙ length-append line (10 ∷ rest) in
    let sum : length (line ++ 10 ∷ []) ≡ n = length-append line (10 ∷ []) ∙ sym count in
    let front : take n old.held ≡ line ++ 10 ∷ [] =
    ap (take n) (split ∙ sym (append_assoc line (10 ∷ []) rest)) ∙ take_at (line ++ 10 ∷ []) rest n sum in
    let after : BufferedReader = record old { held = drop n old.held; line = last } in
    subst (λ (m : BufferedReader). TakesLine old m line (10 ∷ []) 0) (sym e) (let is : TakesLine old after line (10 ∷ []) 0 = record {
      no_feed = no_feed;
      taken = subst (Consumes (left old) (left after)) front (consumes_front old.reader.remaining old.held n);
      asked = omega (arith, sum, all, length-drop n old.held);
      called = omega arith;
    } in is)

-- all that is held, n bytes or fewer, where it has no line feed
pub takes_all : (old new : BufferedReader) (last : Option (List ℕ)) (n : ℕ) → HasNoFeed old.held → length old.held ≤ n → new ≡ record old { held = drop n old.held; line = last } → TakesLine old new old.held [] 0
takes_all old new last n no_feed few e =
    let all : take n old.held ≡ old.held = take_all n old.held few in
    let count : length (old.held ++ []) ≡ length old.held = ap length (append-nil old.held) in
    let after : BufferedReader = record old { held = drop n old.held; line = last } in
    subst (λ (m : BufferedReader). TakesLine old m old.held [] 0) (sym e) (let is : TakesLine old after old.held [] 0 = record {
      no_feed = no_feed;
      taken = subst (Consumes (left old) (left after)) (all ∙ sym (append-nil old.held)) (consumes_front old.reader.remaining old.held n);
      asked = omega arith;
      called = omega arith;
    } in is)

-- nothing was taken
pub takes_nothing : (a : BufferedReader) → TakesLine a a [] [] 0
takes_nothing a = record { no_feed = λ k d lt is. absurd (omega arith); taken = consumes_nothing (left a); asked = omega arith; called = omega arith }

-- first a front without a line feed, then the rest of the line
pub takes_then : (a b c : BufferedReader) (f g feed : List ℕ) (idle : ℕ) → TakesLine a b f [] 0 → TakesLine b c g feed idle → TakesLine a c (f ++ g) feed idle
takes_then a b c f g feed idle first second =
    let first_count : length (f ++ []) ≡ length f = ap length (append-nil f) in
    let second_count = length-append g feed in
    let both_count = length-append (f ++ g) feed in
    let lines_count = length-append f g in
    let first_asked = first.asked in
    let second_asked = second.asked in
    record {
      no_feed = All-append (λ byte. byte ≢ 10) f g first.no_feed second.no_feed;
      taken = subst (Consumes (left a) (left c)) (sym (append_assoc f g feed)) (consumes_join (left a) (left b) (left c) f (g ++ feed) (subst (Consumes (left a) (left b)) (append-nil f) first.taken) second.taken);
      asked = omega arith;
      called = omega (arith, first.called, second.called);
    }

-- a read call after what was taken, which may have given bytes
pub takes_read : (a b c : BufferedReader) (f feed : List ℕ) (idle : ℕ) → TakesLine a b f feed 0 → Keeps (left b) (left c) → c.reads + length b.held ≤ b.reads + length c.held + idle → c.reader.calls + b.reads ≤ b.reader.calls + c.reads → TakesLine a c f feed idle
takes_read a b c f feed idle first same asked called =
    let first_asked = first.asked in
    record { no_feed = first.no_feed; taken = consumes_kept (left a) (left b) (left c) (f ++ feed) first.taken same; asked = omega arith; called = omega (arith, first.called, called) }

-- a read call that failed after what was taken, so that all that is held counts as taken
pub takes_lost : (a b c : BufferedReader) (f : List ℕ) → TakesLine a b f [] 0 → HasNoFeed b.held → Consumes (left b) (left c) b.held → c.reads ≤ b.reads + 1 → c.reader.calls + b.reads ≤ b.reader.calls + c.reads → TakesLine a c (f ++ b.held) [] 1
takes_lost a b c f first no_feed taken asked called =
    let count : length (b.held ++ []) ≡ length b.held = ap length (append-nil b.held) in
    let second : TakesLine b c b.held [] 1 = record { no_feed = no_feed; taken = subst (Consumes (left b) (left c)) (sym (append-nil b.held)) taken; asked = omega arith; called = called } in
    takes_then a b c f b.held [] 1 first second

-- a failure after reads that did not fail
pub fails_from : (a b c : BufferedReader) → b.reader.faults ≡ a.reader.faults → HasFailed b c → HasFailed a c
fails_from a b c same failed = record {
  held = failed.held;
  cause = elim failed.cause [
    | inl fault ↦ inl (record { last = fault.last; one = fault.one ∙ ap (option_map suc) same })
    | inr bound ↦ inr (bound.0, bound.1 ∙ same)
  ];
}

-- a line that is too long, of which these bytes were taken and then the rest
pub takes_too_long : (a b c : BufferedReader) (front : List ℕ) (r : Result Bool ReadFault) → TakesLine a b front [] 0 → 1024 < length front → OnOk r (c.line ≡ None)
    → IfOk r (λ has_feed. (rest : List ℕ) × TakesLine b c rest (cond has_feed (10 ∷ []) []) (cond has_feed 0 1))
    → IfOk r (λ has_feed. (line : List ℕ) × (c.line ≡ kept line) × TakesLine a c line (cond has_feed (10 ∷ []) []) (cond has_feed 0 1))
takes_too_long a b c front (Ok has_feed) first long none rest =
    let many : 1024 < length (front ++ rest.0) = omega (arith, long, length-append front rest.0) in
    (front ++ rest.0, none ∙ sym (kept-long (front ++ rest.0) many), takes_then a b c front rest.0 _ _ first rest.1)
takes_too_long a b c front (Err fault) first long none rest = tt

-- the same, where a read fails in it
pub fails_too_long : (a b c : BufferedReader) (front : List ℕ) (r : Result Bool ReadFault) → TakesLine a b front [] 0 → b.reader.faults ≡ a.reader.faults
    → OnErr r ((rest : List ℕ) × TakesLine b c rest [] 1 × HasFailed b c) → OnErr r ((line : List ℕ) × TakesLine a c line [] 1 × HasFailed a c)
fails_too_long a b c front (Ok has_feed) first same rest = tt
fails_too_long a b c front (Err fault) first same rest = (front ++ rest.0, takes_then a b c front rest.0 [] 1 first rest.1, fails_from a b c same rest.2)
