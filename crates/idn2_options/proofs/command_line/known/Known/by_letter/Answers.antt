use Rattle.std.proofs.Common.{◌∙◌, ap, map, refl, rules, tests}
use Rattle.std.specs.Prelude.{option_map}
use Rattle.std.proofs.lemmas.Iterator.{YieldsList-from_slice}
use Rattle.std.proofs.lemmas.Iterator.Search.{find_from_yields_List}
use Rattle.clap.specs.Words.{built}
use Rattle.idn2_options.specs.CommandLine.{app}
use Rattle.idn2_options.specs.inner.Known.{has_letter, shown_by}
use Rattle.idn2_options.proofs.KnownLemmas.{row_of, known-by_letter}
use Rattle.idn2_options.proofs.command_line.known.Known.by_letter.Goals as goal

pub returns : goal.returns
unfolding app
returns c =
    let found = find_from_yields_List (has_letter c.args.letter) _ _ c.find.result c.find.ensures.ran
    (YieldsList-from_slice c.iter.result.rest.now refl) (λ x b q k. search (rules, tests)) in
    ap (option_map shown_by) (c.copied.ensures ∙ found) ∙ known-by_letter (built app).top.rules c.iter.result.rest.now c.args.letter (ap (map row_of) c.iter.ensures.rest) refl
