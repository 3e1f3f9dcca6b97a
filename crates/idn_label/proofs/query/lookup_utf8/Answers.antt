use Rattle.std.proofs.Common.{◌≡◌, Ok, refl, sym, ap, ◌∙◌}
use Rattle.std.proofs.Math.Seq.{take-append_seam}
use Rattle.std.proofs.lemmas.Bool.{cond-true}
use Rattle.idn_label.specs.Lookup.{utf8_answer}
use Rattle.idn_label.proofs.LookupLemmas.{Gives-measured}
use Rattle.idn_label.proofs.query.lookup_utf8.Goals as goal
use Rattle.idn_label.proofs.query.lookup_utf8.Goals.{in-Some-simple_query, in-None+in_ok-full_lookup-in-None}

pub returns-clause-answer : goal.returns-clause-answer
returns-clause-answer c =
    let query = c.match-simple_query.buffers.query.items in
    let answer : utf8_answer c.args.name.now c.args.std3 ≡ Ok query =
    elim c.match-simple_query.branch [
      | in-Some-simple_query w ↦
          rw w.buffers-is
          (Gives-measured (Ok tt) c.args.name.now _ _ c.args.std3 refl (w.in-Some-simple_query.ensures.answer c.args.std3) (cond-true _ _ _ w.in-Some-simple_query.ensures.lengths))
      | in-None+in_ok-full_lookup-in-None w ↦ rw w.buffers-is w.in_ok-full_lookup-in-None.ensures.answer
    ] in
    rw (c.copy_from_slice.ensures.after, c.deref.ensures.0, c.len-len.ensures.value) (answer ∙ ap Ok (sym (take-append_seam query _)))
