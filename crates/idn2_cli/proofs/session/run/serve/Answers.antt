use Rattle.std.proofs.Common.{◌≡◌, inl, inr, Result, Ok, Err, ap, subst, ◌∙◌}
use Rattle.idn2_output.specs.Writing.{Held, refusal_of}
use Rattle.idn2_output.specs.declared.status.Status.{Status}
use Rattle.idn2_output.specs.declared.stop.Stop.{Stop}
use Rattle.idn2_output.specs.declared.stop.Stop.TheVariants as stop
use Rattle.idn2_refusals.specs.Reports.{TellsMemory, closing_status}
use Rattle.idn2_cli.specs.Ends.{Closes}
use Rattle.idn2_cli.proofs.session.run.serve.Goals as goal

done-not-out : (status : Status) → (let r : Result Status Stop = Ok status in r) ≡ Err stop.Memory → ⊥
done-not-out status is = absurd (cc)

same-why : (why other : Stop) → (let r : Result Status Stop = Err why in r) ≡ Err other → why ≡ other
same-why why other is = cc

-- what is told of memory that ran out
told-memory : (why : Stop) (old middle new : Held) (status : Status) → why ≡ stop.Memory → middle ≡ old → Closes why middle new → status ≡ closing_status (refusal_of why) → TellsMemory old new status
told-memory why old middle new status is unwritten closes told =
    let closed : Closes stop.Memory old new = subst (λ (h : Held). Closes stop.Memory h new) unwritten (subst (λ (w : Stop). Closes w middle new) is closes) in
    (closed.0, closed.1, told ∙ ap (λ (w : Stop). closing_status (refusal_of w)) is)

pub returns-in-Ok : goal.returns-in-Ok
returns-in-Ok g c = elim c.in-Ok.ensures [
  | inl done ↦ inl (done.0, done.1, inl done.2)
  | inr out ↦ absurd (done-not-out _ out.why)
]

pub returns-in-Err : goal.returns-in-Err
returns-in-Err g c = elim c.in-Err.ensures [
  | inl stopped ↦ inl (
    stopped.0,
    stopped.1,
    inr (record { why = c.in-Err.why; middle = _; stopped = stopped.2; closes = c.close.ensures.closes; answered = c.close.ensures.status }),
  )
  | inr out ↦ inr (record {
    by_table = out.by_table;
    unread = out.unread;
    told = told-memory c.in-Err.why _ _ _ _ (same-why _ _ out.why) out.unwritten c.close.ensures.closes c.close.ensures.status;
  })
]
