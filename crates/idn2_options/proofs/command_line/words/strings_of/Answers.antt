use Rattle.std.proofs.Common.{◌∙◌, Some, None, ap, map}
use Rattle.std.specs.Prelude.{string_bytes}
use Rattle.std.proofs.lemmas.Result.{IfOk-weaker}
use Rattle.clap.specs.Words.{found_of}
use Rattle.idn2_options.proofs.EntryLemmas.{strings-lent}
use Rattle.idn2_options.proofs.command_line.words.strings_of.Goals as goal

pub returns-in-Some : goal.returns-in-Some
returns-in-Some c =
    let lent = strings-lent (found_of c.args.matches.now) (Some (map (λ text. text.now) c.in-Some.strings.now)) c.in-Some.ensures in
    IfOk-weaker c.copies.result _ _ (λ copies same. same ∙ lent) c.copies.ensures

pub returns-in-None : goal.returns-in-None
returns-in-None c =
    ap (map string_bytes) c.new.ensures.items ∙ strings-lent (found_of c.args.matches.now) None c.in-None.ensures
