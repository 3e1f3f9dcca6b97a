-- What is written, line by line.
use Rattle.std.proofs.Common.{◌≡◌, ◌≢◌, ◌<◌, ℕ, suc, List, [], ◌∷◌, ◌++◌, Option, Some, None, Result, Err, take, length, refl, sym, ap, subst, ◌∙◌, append_assoc}
use Rattle.std.proofs.lemmas.List.{append-nil}
use Rattle.std.proofs.lemmas.Result.{MatchResult-at_err}
use Rattle.std.specs.Option.{option_map}
use Rattle.std.specs.Io.KnownBytes.{Appends}
use Rattle.idn_text.specs.Writers.{Writer, Fails, TakesWhole, TakesPart}
use Rattle.idn2_output.specs.OutputLines.{OutputLine, Output, Message, output_of, messages_of}
use Rattle.idn2_output.specs.Writing.{Held, TakesOutputLines, Writes, BreaksOff, IsCutBy, WritesUntil, StopsWithin, Emits}
use Rattle.idn2_output.specs.declared.stop.Stop.{Stop}
use Rattle.idn2_output.specs.declared.stop.Stop.TheVariants as stop
use Rattle.idn_text.proofs.KnownBytesLemmas.{appends_join}

pub appends_nothing : (a : Option (List ℕ)) → Appends a a []
appends_nothing None = tt
appends_nothing (Some xs) = sym (append-nil xs)

pub output_of-append : (p q : List OutputLine) → output_of (p ++ q) ≡ output_of p ++ output_of q
output_of-append [] q = refl
output_of-append (Output text ∷ p) q = ap (λ l. text ++ l) (output_of-append p q) ∙ sym (append_assoc text (output_of p) (output_of q))
output_of-append (Message text ∷ p) q = output_of-append p q

pub messages_of-append : (p q : List OutputLine) → messages_of (p ++ q) ≡ messages_of p ++ messages_of q
messages_of-append [] q = refl
messages_of-append (Output text ∷ p) q = messages_of-append p q
messages_of-append (Message text ∷ p) q = ap (λ l. text ++ l) (messages_of-append p q) ∙ sym (append_assoc text (messages_of p) (messages_of q))

pub takes_nothing : (a : Held) → TakesOutputLines a a []
takes_nothing a = record { output = appends_nothing a.output.contents; messages = appends_nothing a.messages.contents; output_loan = refl; messages_loan = refl }

pub takes_join : (a b c : Held) (p q : List OutputLine) → TakesOutputLines a b p → TakesOutputLines b c q → TakesOutputLines a c (p ++ q)
takes_join a b c p q first second = record {
  output = subst (Appends a.output.contents c.output.contents) (sym (output_of-append p q)) (appends_join a.output.contents b.output.contents c.output.contents (output_of p) (output_of q) first.output second.output);
  messages = subst (Appends a.messages.contents c.messages.contents) (sym (messages_of-append p q)) (appends_join a.messages.contents b.messages.contents c.messages.contents (messages_of p) (messages_of q) first.messages second.messages);
  output_loan = second.output_loan ∙ first.output_loan;
  messages_loan = second.messages_loan ∙ first.messages_loan;
}

pub writes_nothing : (a : Held) → Writes a a []
writes_nothing a = record { takes = takes_nothing a; output_faults = refl; messages_faults = refl }

pub writes_join : (a b c : Held) (p q : List OutputLine) → Writes a b p → Writes b c q → Writes a c (p ++ q)
writes_join a b c p q first second = record {
  takes = takes_join a b c p q first.takes second.takes;
  output_faults = second.output_faults ∙ first.output_faults;
  messages_faults = second.messages_faults ∙ first.messages_faults;
}

-- writes without a fault before those of which the last failed
fails_after : (a b c : Writer) → b.faults ≡ a.faults → Fails b c → Fails a c
fails_after a b c same f = record { last = f.last; one = f.one ∙ ap (option_map suc) same }

-- what was written without a fault, and then to a stop
pub writes_until : (why : Stop) (a b c : Held) (p q : List OutputLine) → Writes a b p → WritesUntil why b c q → WritesUntil why a c (p ++ q)
writes_until why a b c p q first second = record {
  takes = takes_join a b c p q first.takes second.takes;
  output_failed = λ is. fails_after a.output b.output c.output first.output_faults (second.output_failed is);
  output_faults = λ other. second.output_faults other ∙ first.output_faults;
  messages_failed = λ is. fails_after a.messages b.messages c.messages first.messages_faults (second.messages_failed is);
  messages_faults = λ other. second.messages_faults other ∙ first.messages_faults;
}

-- to a stop that no writer made
pub until_here : (why : Stop) (a b : Held) (p : List OutputLine) → why ≢ stop.Output → why ≢ stop.Messages → Writes a b p → WritesUntil why a b p
until_here why a b p not_output not_messages w = record {
  takes = w.takes;
  output_failed = λ is. absurd (not_output is);
  output_faults = λ _. w.output_faults;
  messages_failed = λ is. absurd (not_messages is);
  messages_faults = λ _. w.messages_faults;
}

pub until_memory : (a b : Held) (p : List OutputLine) → Writes a b p → WritesUntil stop.Memory a b p
until_memory a b p w = until_here stop.Memory a b p (λ e. cc) (λ e. cc) w

-- a proper prefix of one output line
pub breaks_off : (writer : List ℕ → OutputLine) (text : List ℕ) (n : ℕ) → n < length text → BreaksOff writer (writer text ∷ []) (writer (take n text) ∷ [])
breaks_off writer text n lt = record { before = []; text = text; after = []; taken = n; split = refl; proper = lt; cut = refl }

breaks_after : (writer : List ℕ → OutputLine) (before output_lines written : List OutputLine) → BreaksOff writer output_lines written → BreaksOff writer (before ++ output_lines) (before ++ written)
breaks_after writer before output_lines written b = record {
  before = before ++ b.before;
  text = b.text;
  after = b.after;
  taken = b.taken;
  split = ap (λ l. before ++ l) b.split ∙ sym (append_assoc before b.before (writer b.text ∷ b.after));
  proper = b.proper;
  cut = ap (λ l. before ++ l) b.cut ∙ sym (append_assoc before b.before (writer (take b.taken b.text) ∷ []));
}

breaks_before : (writer : List ℕ → OutputLine) (output_lines after written : List OutputLine) → BreaksOff writer output_lines written → BreaksOff writer (output_lines ++ after) written
breaks_before writer output_lines after written b = record {
  before = b.before;
  text = b.text;
  after = b.after ++ after;
  taken = b.taken;
  split = ap (λ l. l ++ after) b.split ∙ append_assoc b.before (writer b.text ∷ b.after) after;
  proper = b.proper;
  cut = b.cut;
}

-- output lines that were written before
cut_after : (why : Stop) (before output_lines written : List OutputLine) → IsCutBy why output_lines written → IsCutBy why (before ++ output_lines) (before ++ written)
cut_after stop.Reading before output_lines written c = c
cut_after stop.Output before output_lines written c = breaks_after Output before output_lines written c
cut_after stop.Messages before output_lines written c = breaks_after Message before output_lines written c
cut_after stop.Memory before output_lines written c = (c.0, ap (λ l. before ++ l) c.1 ∙ sym (append_assoc before written c.0))

-- output lines that were to come
pub cut_before : (why : Stop) (output_lines after written : List OutputLine) → IsCutBy why output_lines written → IsCutBy why (output_lines ++ after) written
cut_before stop.Reading output_lines after written c = c
cut_before stop.Output output_lines after written c = breaks_before Output output_lines after written c
cut_before stop.Messages output_lines after written c = breaks_before Message output_lines after written c
cut_before stop.Memory output_lines after written c = (c.0 ++ after, ap (λ l. l ++ after) c.1 ∙ append_assoc written c.0 after)

-- memory was refused before any of the output lines
pub stops_first : (old : Held) (output_lines : List OutputLine) → StopsWithin stop.Memory old old output_lines
stops_first old output_lines = ([], until_memory old old [] (writes_nothing old), (output_lines, refl))

-- memory was refused between the output lines that stand and those to come
pub stops_after : (old middle : Held) (all so_far rest : List OutputLine) → all ≡ so_far ++ rest → Writes old middle so_far → StopsWithin stop.Memory old middle all
stops_after old middle all so_far rest split first = (so_far, until_memory old middle so_far first, (rest, split))

-- a call that stopped
pub stops : {A : Type 0} (old new : Held) (p : List OutputLine) (r : Result A Stop) (why : Stop) → Emits old new p r → r ≡ Err why → StopsWithin why old new p
stops old new p r why h e = MatchResult-at_err (λ _. Writes old new p) (λ why. StopsWithin why old new p) why e h

-- a call that stopped between the output lines that stand and those to come
pub stops_between : {A : Type 0} (old middle new : Held) (all so_far p rest : List OutputLine) (r : Result A Stop) (why : Stop) → all ≡ so_far ++ (p ++ rest) → Writes old middle so_far → Emits middle new p r → r ≡ Err why → StopsWithin why old new all
stops_between old middle new all so_far p rest r why split first emits e =
    let at = stops middle new p r why emits e in (
      so_far ++ at.0,
      writes_until why old middle new so_far at.0 first at.1,
      subst (λ (ps : List OutputLine). IsCutBy why ps (so_far ++ at.0)) (sym split) (cut_after why so_far (p ++ rest) at.0 (cut_before why p rest at.0 at.2)),
    )

-- the same text, spelled otherwise
pub emits_as : {A : Type 0} (old new : Held) (writer : List ℕ → OutputLine) (s t : List ℕ) (r : Result A Stop) → s ≡ t → Emits old new (writer s ∷ []) r → Emits old new (writer t ∷ []) r
emits_as old new writer s t r e h = subst (λ (u : List ℕ). Emits old new (writer u ∷ []) r) e h

pub writes_as : (old new : Held) (writer : List ℕ → OutputLine) (s t : List ℕ) → s ≡ t → Writes old new (writer s ∷ []) → Writes old new (writer t ∷ [])
writes_as old new writer s t e h = subst (λ (u : List ℕ). Writes old new (writer u ∷ [])) e h

-- one writer took a text, or a proper prefix of it, and the other was not asked
pub writes_output : (old : Held) (new : Writer) (text : List ℕ) → TakesWhole old.output new text → Writes old (record old { output = new }) (Output text ∷ [])
writes_output old new text took = record {
  takes = record {
    output = subst (Appends old.output.contents new.contents) (sym (append-nil text)) took.bytes;
    messages = appends_nothing old.messages.contents;
    output_loan = refl;
    messages_loan = refl;
  };
  output_faults = took.no_fault;
  messages_faults = refl;
}

pub stops_output : (old : Held) (new : Writer) (text : List ℕ) (n : ℕ) → TakesPart old.output new text n → StopsWithin stop.Output old (record old { output = new }) (Output text ∷ [])
stops_output old new text n took = (
  Output (take n text) ∷ [],
  record {
    takes = record {
      output = subst (Appends old.output.contents new.contents) (sym (append-nil (take n text))) took.bytes;
      messages = appends_nothing old.messages.contents;
      output_loan = refl;
      messages_loan = refl;
    };
    output_failed = λ _. took.cause;
    output_faults = λ other. absurd (other refl);
    messages_failed = λ is. cc;
    messages_faults = λ _. refl;
  },
  breaks_off Output text n took.proper,
)

pub writes_message : (old : Held) (new : Writer) (text : List ℕ) → TakesWhole old.messages new text → Writes old (record old { messages = new }) (Message text ∷ [])
writes_message old new text took = record {
  takes = record {
    output = appends_nothing old.output.contents;
    messages = subst (Appends old.messages.contents new.contents) (sym (append-nil text)) took.bytes;
    output_loan = refl;
    messages_loan = refl;
  };
  output_faults = refl;
  messages_faults = took.no_fault;
}

pub stops_message : (old : Held) (new : Writer) (text : List ℕ) (n : ℕ) → TakesPart old.messages new text n → StopsWithin stop.Messages old (record old { messages = new }) (Message text ∷ [])
stops_message old new text n took = (
  Message (take n text) ∷ [],
  record {
    takes = record {
      output = appends_nothing old.output.contents;
      messages = subst (Appends old.messages.contents new.contents) (sym (append-nil (take n text))) took.bytes;
      output_loan = refl;
      messages_loan = refl;
    };
    output_failed = λ is. cc;
    output_faults = λ _. refl;
    messages_failed = λ _. took.cause;
    messages_faults = λ other. absurd (other refl);
  },
  breaks_off Message text n took.proper,
)
