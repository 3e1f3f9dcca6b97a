use Rattle.std.proofs.Common.{rules, ◌≡◌, sym, ap}
use Rattle.std.specs.Prelude.{codes}
use Rattle.std.proofs.lemmas.Slice.Eq.{text_from_reads}
use Rattle.ruleset_text.specs.ActionSteps.{kind_of}
use Rattle.ruleset_text.proofs.action_reading.kind_of.Goals as goal

pub returns-in-unless : goal.returns-in-unless
returns-in-unless c =
    let is : c.args.word.now ≡ codes "unless" = text_from_reads c.args.word.now (codes "unless") (search rules) (search rules) in
    sym (ap kind_of is)
