-- A run over a console is a run over the two writers that were lent to it.
use Rattle.std.proofs.Common.{◌≡◌, ℕ, List, Result, Ok, Err, inl, inr, refl, ap, subst, sym, ◌∙◌}
use Rattle.idn_text.specs.Reading.{Reading}
use Rattle.idn_text.specs.Writers.{Writer}
use Rattle.idn2_output.specs.OutputLines.{OutputLine}
use Rattle.idn2_output.specs.Writing.{Held, TakesOutputLines, Writes, held, WritesUntil}
use Rattle.idn2_options.specs.Settings.{Settings}
use Rattle.idn2_refusals.specs.Reports.{TellsMemory}
use Rattle.idn2_cli.specs.Ends.{Job, Does, Closes, Ends, RunsBy, mode_job}
use Rattle.idn2_output.specs.declared.status.Status.{Status}
use Rattle.idn2_output.specs.declared.stop.Stop.{Stop}
use Rattle.idn2_output.specs.declared.stop.Stop.TheVariants as stop

-- what two writers hold, and not by which loans
abbrev without_loans : Held → Held
without_loans h = held h.output h.messages

takes_without_loans : (old new : Held) (output_lines : List OutputLine) → TakesOutputLines old new output_lines → TakesOutputLines (without_loans old) (without_loans new) output_lines
takes_without_loans old new output_lines t = record { output = t.output; messages = t.messages; output_loan = refl; messages_loan = refl }

writes_without_loans : (old new : Held) (output_lines : List OutputLine) → Writes old new output_lines → Writes (without_loans old) (without_loans new) output_lines
writes_without_loans old new output_lines w =
    record { takes = takes_without_loans old new output_lines w.takes; output_faults = w.output_faults; messages_faults = w.messages_faults }

until_without_loans : (why : Stop) (old new : Held) (output_lines : List OutputLine) → WritesUntil why old new output_lines → WritesUntil why (without_loans old) (without_loans new) output_lines
until_without_loans why old new output_lines w = record {
  takes = takes_without_loans old new output_lines w.takes;
  output_failed = w.output_failed;
  output_faults = w.output_faults;
  messages_failed = w.messages_failed;
  messages_faults = w.messages_faults;
}

closes_without_loans : (why : Stop) (old new : Held) → Closes why old new → Closes why (without_loans old) (without_loans new)
closes_without_loans stop.Messages old new c = ap without_loans c
closes_without_loans stop.Reading old new c = (ap without_loans c.0, c.1)
closes_without_loans stop.Output old new c = (ap without_loans c.0, c.1)
closes_without_loans stop.Memory old new c = (ap without_loans c.0, c.1)

does_without_loans : (job : Job) (start now : Reading) (old new : Held) (r : Result Status Stop) → Does job start now old new r → Does job start now (without_loans old) (without_loans new) r
does_without_loans job start now old new (Ok status) done = record {
  given = done.given;
  lines = done.lines;
  read = done.read;
  unread = done.unread;
  ending = record { ended = done.ending.ended; output_lines = writes_without_loans old new (job.output_lines done.lines) done.ending.output_lines; answered = done.ending.answered };
}
does_without_loans job start now old new (Err why) done = record {
  given = done.given;
  lines = done.lines;
  read = done.read;
  unread = done.unread;
  ending = record {
    written = done.ending.written;
    output_lines = until_without_loans why old new done.ending.written done.ending.output_lines;
    stands = done.ending.stands;
  };
}

ends_without_loans : (job : Job) (start now : Reading) (old new : Held) (status : Status) → Ends job start now old new status → Ends job start now (without_loans old) (without_loans new) status
ends_without_loans job start now old new status (inl done) = inl (does_without_loans job start now old new (Ok status) done)
ends_without_loans job start now old new status (inr s) = inr (record {
  why = s.why;
  middle = without_loans s.middle;
  stopped = does_without_loans job start now old s.middle (Err s.why) s.stopped;
  closes = closes_without_loans s.why s.middle new s.closes;
  answered = s.answered;
})

closes_loans : (why : Stop) (old new : Held) → Closes why old new → (new.output_loan ≡ old.output_loan) × (new.messages_loan ≡ old.messages_loan)
closes_loans stop.Messages old new c = (ap (λ (h : Held). h.output_loan) c, ap (λ (h : Held). h.messages_loan) c)
closes_loans stop.Reading old new c = (ap (λ (h : Held). h.output_loan) c.0, ap (λ (h : Held). h.messages_loan) c.0)
closes_loans stop.Output old new c = (ap (λ (h : Held). h.output_loan) c.0, ap (λ (h : Held). h.messages_loan) c.0)
closes_loans stop.Memory old new c = (ap (λ (h : Held). h.output_loan) c.0, ap (λ (h : Held). h.messages_loan) c.0)

-- at the end the writers are those that were lent
same_loans : (job : Job) (start now : Reading) (old new : Held) (status : Status) → Ends job start now old new status
    → (new.output_loan ≡ old.output_loan) × (new.messages_loan ≡ old.messages_loan)
same_loans job start now old new status (inl done) = (done.ending.output_lines.takes.output_loan, done.ending.output_lines.takes.messages_loan)
same_loans job start now old new status (inr s) =
    let kept = closes_loans s.why s.middle new s.closes in
    let takes = s.stopped.ending.output_lines.takes in
    (kept.0 ∙ takes.output_loan, kept.1 ∙ takes.messages_loan)

-- what they then hold is what they hold when they are given back
given_back : (job : Job) (start now : Reading) (old new : Held) (status : Status) (output messages : Writer) → output ≡ new.output → messages ≡ new.messages
    → Ends job start now old new status → Ends job start now (without_loans old) (held output messages) status
given_back job start now old new status output messages first second ends =
    subst (λ (m : Writer). Ends job start now (without_loans old) (held output m) status) (sym second)
    (subst (λ (o : Writer). Ends job start now (without_loans old) (held o new.messages) status) (sym first) (ends_without_loans job start now old new status ends))

-- ---- a run by the text of a table

module _ (o : Settings) (text : List ℕ) (start now : Reading) (old new : Held) (status : Status) where
  -- at its end the writers are those that were lent
  pub lent_back : RunsBy o text start now old new status → (new.output_loan ≡ old.output_loan) × (new.messages_loan ≡ old.messages_loan)
  lent_back (inl ends) = same_loans (mode_job o ends.0) start now old new status ends.2
  lent_back (inr out) = (ap (λ (h : Held). h.output_loan) out.told.0, ap (λ (h : Held). h.messages_loan) out.told.0)

  pub run_back : (output messages : Writer) → output ≡ new.output → messages ≡ new.messages → RunsBy o text start now old new status
      → RunsBy o text start now (without_loans old) (held output messages) status
  run_back output messages first second (inl ends) = inl (ends.0, ends.1, given_back (mode_job o ends.0) start now old new status output messages first second ends.2)
  run_back output messages first second (inr out) =
      inr (record {
        by_table = out.by_table;
        unread = out.unread;
        told = subst (λ (m : Writer). TellsMemory (without_loans old) (held output m) status) (sym second)
            (subst (λ (w : Writer). TellsMemory (without_loans old) (held w new.messages) status) (sym first) (ap without_loans out.told.0, out.told.1, out.told.2));
      })
