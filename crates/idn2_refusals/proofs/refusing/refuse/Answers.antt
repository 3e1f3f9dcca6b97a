use Rattle.std.proofs.Common.{sym, rules}
use Rattle.idn_text.specs.Reading.{line_at}
use Rattle.idn2_refusals.proofs.CauseLemmas.{body_cause-nothing}
use Rattle.idn2_refusals.proofs.ToldRefusals.{emits_cause}
use Rattle.idn2_refusals.proofs.refusing.refuse.Goals as goal

pub returns-in-Nothing-clause-told : goal.returns-in-Nothing-clause-told
returns-in-Nothing-clause-told g c =
    emits_cause _ _ c.args.form (line_at c.args.input.now) c.args.refusal _ _ c.tell.result
    (sym (body_cause-nothing c.args.explaining.now (line_at c.args.input.now).body c.args.refusal c.in-Nothing.is)) (search rules)
