use Rattle.std.proofs.Common.{◌∙◌, ap, map, refl, rules, tests}
use Rattle.std.specs.Prelude.{option_map}
use Rattle.std.specs.Str.{bytes_eq}
use Rattle.std.proofs.lemmas.Iterator.{YieldsList-from_slice}
use Rattle.std.proofs.lemmas.Iterator.Search.{find_from_yields_List}
use Rattle.clap.specs.Words.{built}
use Rattle.idn2_options.specs.CommandLine.{app}
use Rattle.idn2_options.specs.inner.Known.{name_of, shown_by}
use Rattle.idn2_options.proofs.KnownLemmas.{row_of, known-by_name}
use Rattle.idn2_options.proofs.command_line.known.Known.by_name.Goals as goal

pub returns : goal.returns
unfolding app
returns c =
    let found = find_from_yields_List (λ known. bytes_eq (name_of known) c.args.name.now) _ _ c.find.result c.find.ensures.ran
    (YieldsList-from_slice c.iter.result.rest.now refl) (λ x b q k. search (rules, tests)) in
    ap (option_map shown_by) (c.copied.ensures ∙ found) ∙ known-by_name (built app).top.rules c.iter.result.rest.now c.args.name.now (ap (map row_of) c.iter.ensures.rest) refl
