-- What a whole history of reading says of a text that is known.
use Rattle.std.proofs.Common.{◌≡◌, ℕ, ◌+◌, ◌^◌, ◌≤◌, ◌<◌, inl, inr, List, [], ◌∷◌, ◌++◌, Option, Some, None, Bool, true, false, eqb, cond, length, sym, ap, subst, ◌∙◌, length-append, arith}
use Rattle.std.proofs.lemmas.List.{append-nil}
use Rattle.std.specs.List.{onto_first}
use Rattle.std.specs.Io.KnownBytes.{Consumes, IsAtEnd, prepend_known}
use Rattle.idn_text.specs.Lines.{Numbered, raw_lines, lines_of}
use Rattle.idn_text.specs.declared.lines.State.{State}
use Rattle.idn_text.specs.declared.lines.State.TheVariants.{Ended, Stopped}
use Rattle.idn_text.specs.Readers.{Reader, Fails}
use Rattle.idn_text.specs.Reading.{Reading, AreLines, HasRead, unread, idle_reads}

-- what is taken to the end is the text
taken_whole : (text : List ℕ) (held : List ℕ) (coming : Option (List ℕ)) (given : List ℕ) → Consumes (Some text) (prepend_known held coming) given → held ≡ [] → IsAtEnd coming → given ≡ text
taken_whole text held None given taken none at_end = absurd taken
taken_whole text held (Some rest) given taken none at_end =
    sym (taken ∙ ap (λ bytes. given ++ (bytes ++ rest)) none ∙ ap (λ bytes. given ++ bytes) at_end ∙ append-nil given)

-- what is taken is no longer than the text
taken_within : (text : List ℕ) (held : List ℕ) (coming : Option (List ℕ)) (given : List ℕ) → Consumes (Some text) (prepend_known held coming) given → length given ≤ length text
taken_within text held None given taken = absurd taken
taken_within text held (Some rest) given taken =
    let sum = ap length taken ∙ length-append given (held ++ rest) in
    omega (arith, sum)

-- the lines at the end are those of the text
pub lines-ended : (text : List ℕ) (reader : Reader) (now : Reading) (given : List ℕ) (lines : List Numbered) → HasRead (unread (record reader { remaining = Some text })) now given lines → now.state ≡ Ended → lines ≡ lines_of text
lines-ended text reader now given lines has is_ended =
    let read = subst (λ (s : State). AreLines s (unread (record reader { remaining = Some text })).input now.input given lines) is_ended has.read in
    read.0 ∙ ap lines_of (taken_whole text now.input.held now.input.reader.remaining given has.taken read.1.held read.1.coming)

onto_first-count : (c : ℕ) (lines : List (List ℕ)) → length (onto_first c lines) ≤ length lines + 1
onto_first-count c [] = omega arith
onto_first-count c (line ∷ lines) = omega arith

count_step : (c : ℕ) (cs : List ℕ) (b : Bool) → length (raw_lines cs) ≤ length cs → length (cond b ([] ∷ raw_lines cs) (onto_first c (raw_lines cs))) ≤ length cs + 1
count_step c cs true few = omega (arith, few)
count_step c cs false few = omega (arith, few, onto_first-count c (raw_lines cs))

-- each line has a byte
length-raw_lines-le : (text : List ℕ) → length (raw_lines text) ≤ length text
length-raw_lines-le [] = omega arith
length-raw_lines-le (c ∷ cs) = let step = count_step c cs (eqb c 10) (length-raw_lines-le cs) in omega (arith, step)

-- where no read fails, the reading is not stopped in a text of fewer bytes than lines may be
pub never_stopped : (text : List ℕ) (reader : Reader) (now : Reading) (given : List ℕ) (lines : List Numbered) → HasRead (unread (record reader { remaining = Some text })) now given lines → length text < 2 ^ 32 → now.state ≡ Stopped → Fails reader now.input.reader
never_stopped text reader now given lines has few is_stopped =
    let read = subst (λ (s : State). AreLines s (unread (record reader { remaining = Some text })).input now.input given lines) is_stopped has.read in
    let asked : now.input.reads + 0 ≤ 0 + length given + length now.input.held + 1 = subst (λ (s : State). now.input.reads + 0 ≤ 0 + length given + length now.input.held + idle_reads s) is_stopped has.asked in
    let within : length given ≤ length text = taken_within text now.input.held now.input.reader.remaining given has.taken in
    elim read.1 [
      | inl stop ↦ (let none : length now.input.held ≡ 0 = ap length stop.held in elim stop.cause [ inl fault ↦ record { last = fault.last; one = fault.one } | inr bound ↦ absurd (omega (arith, bound.0, none, asked, within, few)) ])
      | inr many ↦ absurd (omega (arith, many.0, within, few, length-raw_lines-le given))
    ]
