use Rattle.std.proofs.Common.{rules, ◌≡◌, sym, ap}
use Rattle.std.specs.Prelude.{codes}
use Rattle.std.proofs.lemmas.Slice.Eq.{text_from_reads}
use Rattle.ruleset_text.specs.EntrySteps.{word_of}
use Rattle.ruleset_text.proofs.entry_reading.word_of.Goals as goal

pub returns-in-unless : goal.returns-in-unless
returns-in-unless c =
    let is : c.args.lexeme.now ≡ codes "unless" = text_from_reads c.args.lexeme.now (codes "unless") (search rules) (search rules) in
    sym (ap word_of is)
