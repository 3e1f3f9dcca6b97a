use Rattle.std.proofs.Common.{◌∙◌}
use Rattle.clap.specs.Words.{found_of}
use Rattle.clap.proofs.WalkLemmas.{one_text-rows}
use Rattle.idn2_options.proofs.EntryLemmas.{flag-read}
use Rattle.idn2_options.proofs.command_line.arguments.has_flag.Goals as goal

pub returns : goal.returns
returns c =
    let same = one_text-rows (found_of c.args.matches.now) c.args.name.now in
    c.unwrap_or.ensures ∙ flag-read _ _ c.get_one.result
    (λ none. c.get_one.ensures.none (same ∙ none))
    (λ text some. c.get_one.ensures.value text (same ∙ some))
