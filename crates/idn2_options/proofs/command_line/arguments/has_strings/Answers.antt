use Rattle.std.proofs.Common.{◌∙◌, ◌==◌, Some, None, ap, length, map, not, sym}
use Rattle.std.proofs.lemmas.List.{length-map}
use Rattle.clap.specs.Words.{found_of}
use Rattle.idn2_options.proofs.EntryLemmas.{strings-lent}
use Rattle.idn2_options.proofs.command_line.arguments.has_strings.Goals as goal

pub returns-in-Some : goal.returns-in-Some
returns-in-Some c =
    let lent = strings-lent (found_of c.args.matches.now) (Some (map (λ text. text.now) c.in-Some.strings.now)) c.in-Some.ensures in
    ap not (c.is_empty.ensures ∙ ap (λ n. n == 0) (sym (length-map c.in-Some.strings.now (λ text. text.now)) ∙ ap length lent))

pub returns-in-None : goal.returns-in-None
returns-in-None c =
    ap (λ strings. not (length strings == 0)) (strings-lent (found_of c.args.matches.now) None c.in-None.ensures)
