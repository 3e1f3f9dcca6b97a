-- From the lines of the input, or none, to the end of a run.
use Rattle.std.specs.Prelude.{MatchResult}
use Rattle.idn_text.specs.Lines.{Numbered}
use Rattle.std.proofs.Common.{Option, Some, None, IfSome, Bool, inl, inr, ◌⊎◌, ◌≡◌, ◌≢◌, ℕ, List, [], ◌∷◌, true, false, Result, Ok, Err, IfOk, chars, refl, sym, ap, subst, ◌∙◌}
use Rattle.idn_class.specs.declared.properties.Properties.{Properties}
use Rattle.idn_text.specs.Reading.{Reading, IsUnread}
use Rattle.idn_text.specs.declared.refusal.Refusal.{Refusal}
use Rattle.idn_text.specs.declared.refusal.Refusal.TheVariants as refusals
use Rattle.idn_text.proofs.ReadingLemmas.{has_read_nothing}
use Rattle.std.proofs.lemmas.Bool.{false≢true}
use Rattle.variant_table.specs.Entries.{TableValue}
use Rattle.idn2_options.specs.Settings.{Settings, keeping, tells_causes}
use Rattle.idn2_cli.specs.Memory.{BlockGoesOn, IsRefusedWithoutMemory, ListsWithoutMemory, reads_table}
use Rattle.idn2_answers.specs.Answers.{variants_answer}
use Rattle.idn2_refusals.specs.Explained.{Explained}
use Rattle.idn2_answers.specs.Transcript.{TableGiven, IsCrowdedIn, IsListedBy, IsReadAs, IsSearchedAs, IsTableFor, IsTableOf, check_output, check_status, printed_text}
use Rattle.idn2_refusals.specs.Messages.{fault_line}
use Rattle.idn2_output.specs.OutputLines.{Output, OutputLine}
use Rattle.idn2_output.specs.Writing.{Held, refusal_of, Emits}
use Rattle.idn2_refusals.specs.Reports.{TakesText, closing_message}
use Rattle.idn2_cli.specs.Ends.{Job, Does, RunsBy, EndsEarly, EndsWell, Closes, Stands, StopsAtLine, StopsUnread, at_lines_alone, lines_job, mode_job}
use Rattle.idn2_options.specs.declared.command_line.form.Form.{Form}
use Rattle.idn2_options.specs.declared.command_line.mode.Mode.{Mode}
use Rattle.idn2_options.specs.declared.command_line.mode.Mode.TheVariants.{Variants, CheckTable, PrintTable}
use Rattle.idn2_cli.specs.inner.ServedModes.{Serves, mode_of, search_mode}
use Rattle.idn2_cli.specs.declared.session.run.TableMode.{TableMode}
use Rattle.idn2_cli.specs.declared.session.run.TableMode.TheVariants as work
use Rattle.idn2_output.specs.declared.status.Status.{Status}
use Rattle.idn2_output.specs.declared.stop.Stop.{Stop}
use Rattle.idn2_output.specs.declared.stop.Stop.TheVariants as stop
use Rattle.idn2_output.proofs.WrittenOutputLines.{stops_first}
use Rattle.idn2_cli.proofs.LineSteps.{stands_at}
use Rattle.idn2_cli.proofs.TableLemmas.{no_cause}
use Rattle.idn2_cli.specs.inner.UnreadTables.{TellsFault}
use Rattle.idn2_refusals.specs.declared.cause.LineCause.{LineCause}
use Rattle.variant_table.specs.declared.version.Notation.{Notation}
use Rattle.idn2_output.specs.declared.status.Status.TheVariants.{Clean, Unusable}

-- ---- a mode that answers lines

-- the job of the mode
pub does_mode : (o : Settings) (mode : Mode) (given : TableGiven) (job : Job) (start now : Reading) (old new : Held) (r : Result Status Stop)
    → o.mode ≡ mode → job ≡ mode_job (record o { mode = mode }) given → Does job start now old new r → Does (mode_job o given) start now old new r
does_mode o mode given job start now old new r e same done =
    subst (λ (j : Job). Does j start now old new r) (same ∙ ap (λ (m : Mode). mode_job (record o { mode = m }) given) (sym e)) done

-- the same where memory is taken at lines alone
pub does_lines : (o : Settings) (mode : Mode) (given : TableGiven) (job : Job) (start now : Reading) (old new : Held) (r : Result Status Stop)
    → o.mode ≡ mode → job ≡ at_lines_alone (mode_job (record o { mode = mode }) given) → Does job start now old new r → Does (at_lines_alone (mode_job o given)) start now old new r
does_lines o mode given job start now old new r e same done =
    subst (λ (j : Job). Does j start now old new r) (same ∙ ap (λ (m : Mode). at_lines_alone (mode_job (record o { mode = m }) given)) (sym e)) done

-- then it may be taken before a line, too
module _ (job : Job) (start now : Reading) (old new : Held) where
  stops-unread : (why : Stop) (lines : List Numbered) (written : List OutputLine) → StopsUnread (at_lines_alone job) why lines start now written → StopsUnread job why lines start now written
  stops-unread why lines written stops = record { no_line = stops.no_line; unread = stops.unread; cut = stops.cut; memory = λ is. absurd (false≢true (stops.memory is)) }

  stops-anywhere : (why : Stop) (lines : List Numbered) (written : List OutputLine) → StopsAtLine (at_lines_alone job) why lines now written ⊎ StopsUnread (at_lines_alone job) why lines start now written
      → StopsAtLine job why lines now written ⊎ StopsUnread job why lines start now written
  stops-anywhere why lines written (inl at) =
      inl (record { before = at.before; line = at.line; part = at.part; last = at.last; going = at.going; cut = at.cut; memory = at.memory; begun = at.begun; stand = at.stand })
  stops-anywhere why lines written (inr unread) = inr (stops-unread why lines written unread)

  stands-anywhere : (why : Stop) (lines : List Numbered) (written : List OutputLine) → Stands (at_lines_alone job) why lines start now written → Stands job why lines start now written
  stands-anywhere stop.Reading lines written stands = stands
  stands-anywhere stop.Output lines written stands = stops-anywhere stop.Output lines written stands
  stands-anywhere stop.Messages lines written stands = stops-anywhere stop.Messages lines written stands
  stands-anywhere stop.Memory lines written stands = stops-anywhere stop.Memory lines written stands

  ends-anywhere : (r : Result Status Stop) (lines : List Numbered) → MatchResult r (EndsWell (at_lines_alone job) lines now old new) (EndsEarly (at_lines_alone job) lines start now old new)
      → MatchResult r (EndsWell job lines now old new) (EndsEarly job lines start now old new)
  ends-anywhere (Ok status) lines ends = record { ended = ends.ended; output_lines = ends.output_lines; answered = ends.answered }
  ends-anywhere (Err why) lines ends = record { written = ends.written; output_lines = ends.output_lines; stands = stands-anywhere why lines ends.written ends.stands }

  pub does_anywhere : (r : Result Status Stop) → Does (at_lines_alone job) start now old new r → Does job start now old new r
  does_anywhere r done = record { given = done.given; lines = done.lines; read = done.read; unread = done.unread; ending = ends-anywhere r done.lines done.ending }

-- with the table by which it works
pub as_mode : (o : Settings) (mode : Mode) (text : List ℕ) (given : TableGiven) (job : Job) (start now : Reading) (old new : Held) (r : Result Status Stop)
    → o.mode ≡ mode → IsTableFor mode o.registered o.properties o.notation text given → job ≡ mode_job (record o { mode = mode }) given → Does job start now old new r
    → Serves o text start now old new r
as_mode o mode text given job start now old new r e table same done = inl (
  given,
  subst (λ (m : Mode). IsTableFor m o.registered o.properties o.notation text given) (sym e) table,
  does_mode o mode given job start now old new r e same done,
)

-- ---- a mode that reads no line

-- its output lines are written, or some of them to a stop
does_unread : (job : Job) (start : Reading) (old new : Held) (r : Result Status Stop) → IsUnread start → Emits old new (job.output_lines []) r
    → IfOk r (λ status. (job.reads ≡ false) × (status ≡ job.status [])) → job.reads_table ≡ true → Does job start start old new r
does_unread job start old new (Ok status) unread writes answered by_table = record {
  given = [];
  lines = [];
  read = has_read_nothing start unread;
  unread = λ _. refl;
  ending = record { ended = λ reads. absurd (false≢true (sym answered.0 ∙ reads)); output_lines = writes; answered = answered.1 };
}
does_unread job start old new (Err why) unread writes answered by_table = record {
  given = [];
  lines = [];
  read = has_read_nothing start unread;
  unread = λ _. refl;
  ending = record { written = writes.0; output_lines = writes.1; stands = stands_at job why [] start start (job.output_lines []) writes.0 writes.0 writes.2 (inr (record { no_line = refl; unread = refl; cut = writes.2; memory = λ _. by_table })) };
}

with_false : (r : Result Status Stop) (status : Status) → IfOk r (λ s. s ≡ status) → IfOk r (λ s. (false ≡ false) × (s ≡ status))
with_false (Ok s) status e = (refl, e)
with_false (Err why) status e = tt

-- the check of a table
pub checked : (o : Settings) (table : TableValue) (start : Reading) (old new : Held) (r : Result Status Stop)
    → o.mode ≡ CheckTable → IsUnread start → Emits old new (check_output o.form (tells_causes o) (Ok table)) r → IfOk r (λ status. status ≡ check_status (Ok table))
    → Does (mode_job o (Ok table)) start start old new r
checked o table start old new r e unread writes answered =
    let job = mode_job (record o { mode = CheckTable }) (Ok table) in
    does_mode o CheckTable (Ok table) job start start old new r e refl (does_unread job start old new r unread writes (with_false r _ answered) refl)

-- its printing
pub printed : (o : Settings) (table : TableValue) (start : Reading) (old new : Held) (r : Result Status Stop)
    → o.mode ≡ PrintTable → IsUnread start → Emits old new (Output (printed_text table) ∷ []) r → IfOk r (λ status. status ≡ Clean)
    → Does (mode_job o (Ok table)) start start old new r
printed o table start old new r e unread writes answered =
    let job = mode_job (record o { mode = PrintTable }) (Ok table) in
    does_mode o PrintTable (Ok table) job start start old new r e refl (does_unread job start old new r unread writes (with_false r _ answered) refl)

-- lack of memory before any output line
pub emits_memory : {A : Type 0} (old : Held) (output_lines : List OutputLine) (r : Result A Stop) (why : Stop) → r ≡ Err why → why ≡ stop.Memory → Emits old old output_lines r
emits_memory {A} old output_lines r why e memory =
    subst (λ (s : Result A Stop). Emits old old output_lines s) (sym (e ∙ ap Err memory)) (stops_first old output_lines)

pub stopped-unread : (job : Job) (start : Reading) (old : Held) → IsUnread start → job.reads_table ≡ true → Does job start start old old (Err stop.Memory)
stopped-unread job start old unread by_table =
    let stopped : Result Status Stop = Err stop.Memory in
    does_unread job start old old stopped unread (emits_memory {A = Status} old (job.output_lines []) stopped stop.Memory refl refl) tt by_table

-- memory was refused after the table was read, and before a line was
pub listed_stopped : (o : Settings) (table : TableValue) (start : Reading) (old : Held) (r : Result Status Stop) → o.mode ≡ Variants → IsUnread start → r ≡ Err stop.Memory → Does (mode_job o (Ok table)) start start old old r
listed_stopped o table start old r e unread memory =
    let job = mode_job (record o { mode = Variants }) (Ok table) in
    does_mode o Variants (Ok table) job start start old old r e refl
    (does_unread job start old old r unread (emits_memory old (job.output_lines []) r stop.Memory memory refl)
    (subst (λ (s : Result Status Stop). IfOk s (λ status. (job.reads ≡ false) × (status ≡ job.status []))) (sym memory) tt) refl)

-- ---- a mode that works by a table

-- its table is the one that the text spells
pub record WorksByTable (o : Settings) (mode : Mode) : Type 0 where
  pub named : o.mode ≡ mode
  pub faults : (text : List ℕ) (told : ℕ × Refusal × Option LineCause) → IsReadAs o.properties o.notation text (Err told) → IsTableFor mode o.registered o.properties o.notation text (Err told)
  pub by_table : reads_table mode ≡ true

faults_listed : (properties : Properties) (n : Notation) (text : List ℕ) (registered : Option (List (List ℕ))) (told : ℕ × Refusal × Option LineCause) → IsReadAs properties n text (Err told) → IsListedBy registered properties n text (Err told)
faults_listed properties n text None told read = read
faults_listed properties n text (Some labels) told read = inl read

pub works_by_table : (o : Settings) (mode : TableMode) → o.mode ≡ mode_of mode → WorksByTable o (mode_of mode)
works_by_table o work.Variants is = record {
  named = is;
  faults = λ text told read. faults_listed o.properties o.notation text o.registered told read;
  by_table = refl;
}
works_by_table o work.Jump is = record { named = is; faults = λ text told read. inl read; by_table = refl }
works_by_table o work.Check is = record { named = is; faults = λ text told read. read; by_table = refl }
works_by_table o work.Print is = record { named = is; faults = λ text told read. read; by_table = refl }

-- ---- the table that was read

pub listed_read : (o : Settings) (text : List ℕ) (given : TableGiven) → o.mode ≡ Variants → o.registered ≡ None → IsReadAs o.properties o.notation text given → IsTableOf o text given
listed_read o text given is whole read =
    subst (λ (m : Mode). IsTableFor m o.registered o.properties o.notation text given) (sym is)
    (subst (λ (r : Option (List (List ℕ))). IsListedBy r o.properties o.notation text given) (sym whole) read)

pub checked_read : (o : Settings) (text : List ℕ) (given : TableGiven) → o.mode ≡ CheckTable → IsReadAs o.properties o.notation text given → IsTableOf o text given
checked_read o text given is read = subst (λ (m : Mode). IsTableFor m o.registered o.properties o.notation text given) (sym is) read

pub printed_read : (o : Settings) (text : List ℕ) (given : TableGiven) → o.mode ≡ PrintTable → IsReadAs o.properties o.notation text given → IsTableOf o text given
printed_read o text given is read = subst (λ (m : Mode). IsTableFor m o.registered o.properties o.notation text given) (sym is) read

module _ (o : Settings) (text : List ℕ) (given : TableGiven) where
  pub searched_for : (among : Option (List (List ℕ))) → IfSome among (λ labels. o.registered ≡ Some labels) → IsSearchedAs o.properties o.notation text given → IsTableFor (search_mode among) o.registered o.properties o.notation text given
  searched_for None registered read = read
  searched_for (Some labels) registered read = subst (λ (r : Option (List (List ℕ))). IsListedBy r o.properties o.notation text given) (sym registered) read

  pub searched_read : (among : Option (List (List ℕ))) → o.mode ≡ search_mode among → IfSome among (λ labels. o.registered ≡ Some labels) → IsSearchedAs o.properties o.notation text given → IsTableOf o text given
  searched_read among is registered read = subst (λ (m : Mode). IsTableFor m o.registered o.properties o.notation text given) (sym is) (searched_for among registered read)

search_reads : (among : Option (List (List ℕ))) → reads_table (search_mode among) ≡ true
search_reads None = refl
search_reads (Some labels) = refl

module _ (o : Settings) (mode : Mode) (works : WorksByTable o mode) (text : List ℕ) (start : Reading) where
  -- memory was refused while the table was read
  unread_stopped : (old : Held) (r : Result Status Stop) (why : Stop) → IsUnread start → r ≡ Err why → why ≡ stop.Memory
      → Serves o text start start old old r
  unread_stopped old r why unread is memory =
      inr (record { by_table = ap reads_table works.named ∙ works.by_table; why = is ∙ ap Err memory; unread = refl; unwritten = refl })

  -- the fault of the table is told
  faulty : (told : ℕ × Refusal × Option LineCause) (old new : Held) (r : Result Status Stop)
      → IsReadAs o.properties o.notation text (Err told) → IsUnread start → Emits old new (check_output o.form (tells_causes o) (Err told)) r → IfOk r (λ status. status ≡ check_status (Err told))
      → Serves o text start start old new r
  faulty told old new r read unread writes answered =
      let job = mode_job (record o { mode = mode }) (Err told) in
      as_mode o mode text (Err told) job start start old new r works.named (works.faults text told read) refl
      (does_unread job start old new r unread writes (with_false r _ answered) works.by_table)

  -- the table is not read
  pub refused_text : (old new : Held) (r : Result Status Stop) → IsUnread start → TellsFault o.form (tells_causes o) o.properties o.notation text old new r → Serves o text start start old new r
  refused_text old new r unread (inl memory) =
      subst (λ (h : Held). Serves o text start start old h r) (sym memory.1)
      (unread_stopped old r stop.Memory unread memory.0 refl)
  refused_text old new r unread (inr t) = faulty t.0 old new r t.1 unread t.2 t.3

-- the same run under another name of its settings
pub runs_as : (o p : Settings) (text : List ℕ) (start now : Reading) (old new : Held) (status : Status) → o ≡ p → RunsBy o text start now old new status → RunsBy p text start now old new status
runs_as o p text start now old new status same runs = subst (λ (x : Settings). RunsBy x text start now old new status) same runs

-- the form, whether causes are wanted and the notation, read from the options
pub in_form : (text : List ℕ) (f g : Form) (a b : Bool) (p q : Properties) (m n : Notation) (old new : Held) (r : Result Status Stop) → f ≡ g → a ≡ b → p ≡ q → m ≡ n
    → TellsFault f a p m text old new r → TellsFault g b q n text old new r
in_form text f g a b p q m n old new r form wanted same notation told =
    subst (λ (x : Notation). TellsFault g b q x text old new r) notation
    (subst (λ (x : Properties). TellsFault g b x m text old new r) same
    (subst (λ (x : Bool). TellsFault g x p m text old new r) wanted
    (subst (λ (x : Form). TellsFault x a p m text old new r) form told)))

-- ---- the last message

pub closes_by : (why : Stop) (old new : Held) → why ≢ stop.Messages → new ≡ record old { messages = new.messages }
    → TakesText (closing_message (refusal_of why)) old.messages new.messages → Closes why old new
closes_by stop.Messages old new not same told = absurd (not refl)
closes_by stop.Reading old new not same told = (same, told)
closes_by stop.Output old new not same told = (same, told)
closes_by stop.Memory old new not same told = (same, told)

-- by the table no collision is searched
pub crowded_search : (o : Settings) (among : Option (List (List ℕ))) (text : List ℕ) (line : ℕ) (start : Reading) (old new : Held) (r : Result Status Stop)
    → o.mode ≡ search_mode among → IfSome among (λ labels. o.registered ≡ Some labels) → IsCrowdedIn o.properties o.notation text line → IsUnread start
    → Emits old new (fault_line o.form line refusals.Limit None ∷ []) r → IfOk r (λ status. status ≡ Unusable) → Serves o text start start old new r
crowded_search o among text line start old new r is registered crowded unread writes answered =
    let told : ℕ × Refusal × Option LineCause = (line, refusals.Limit, None) in
    let job = mode_job (record o { mode = search_mode among }) (Err told) in
    let written : Emits old new (check_output o.form (tells_causes o) (Err told)) r =
    subst (λ (cause : Option LineCause). Emits old new (fault_line o.form line refusals.Limit cause ∷ []) r) (sym (no_cause (tells_causes o))) writes in
    as_mode o (search_mode among) text (Err told) job start start old new r is (searched_for o text (Err told) among registered (inr (crowded, refl, refl))) refl
    (does_unread job start old new r unread written (with_false r _ answered) (search_reads among))

-- memory was refused before a line was read
pub search_stopped : (o : Settings) (among : Option (List (List ℕ))) (text : List ℕ) (start : Reading) (old : Held) (r : Result Status Stop)
    → o.mode ≡ search_mode among → IfSome among (λ labels. o.registered ≡ Some labels) → IsUnread start → r ≡ Err stop.Memory → Serves o text start start old old r
search_stopped o among text start old r is registered unread memory =
    inr (record { by_table = ap reads_table is ∙ search_reads among; why = memory; unread = refl; unwritten = refl })

-- ---- the settings of a run, by its options and its registered labels

-- these labels, in settings that have them
pub settings_among : (o given : Settings) (seen registered : Option (List (List ℕ))) → keeping seen given ≡ o → o.registered ≡ registered → keeping registered given ≡ o
settings_among o given seen registered viewed is =
    let same : seen ≡ registered = ap (λ (v : Settings). v.registered) viewed ∙ is in
    ap (λ (r : Option (List (List ℕ))). keeping r given) (sym same) ∙ viewed

-- a listing goes on where its variants need no memory; a block among registered labels does always
pub listed_job : (o : Settings) (table : TableValue) (f : Form) (e : Explained) → o.registered ≡ None
    → (let by : (List ℕ → Type 0) → Job = λ goes_on. lines_job f e (variants_answer o table) (λ line. IsRefusedWithoutMemory o.properties (chars line)) goes_on in by (λ line. ListsWithoutMemory o table (chars line)) ≡ by (λ line. BlockGoesOn o.registered o table (chars line)))
listed_job o table f e whole =
    ap (λ (r : Option (List (List ℕ))). lines_job f e (variants_answer o table) (λ line. IsRefusedWithoutMemory o.properties (chars line)) (λ line. BlockGoesOn r o table (chars line))) (sym whole)

pub among_job : (o : Settings) (table : TableValue) (f : Form) (e : Explained) (labels : List (List ℕ)) → o.registered ≡ Some labels
    → (let by : (List ℕ → Type 0) → Job = λ goes_on. lines_job f e (variants_answer o table) (λ line. IsRefusedWithoutMemory o.properties (chars line)) goes_on in by (λ line. Unit {0}) ≡ by (λ line. BlockGoesOn o.registered o table (chars line)))
among_job o table f e labels is =
    ap (λ (r : Option (List (List ℕ))). lines_job f e (variants_answer o table) (λ line. IsRefusedWithoutMemory o.properties (chars line)) (λ line. BlockGoesOn r o table (chars line))) (sym is)
