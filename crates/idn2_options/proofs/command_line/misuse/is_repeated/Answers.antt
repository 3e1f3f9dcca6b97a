use Rattle.std.proofs.Common.{◌∙◌, rules, tests}
use Rattle.std.proofs.lemmas.Iterator.{YieldsList-from_slice}
use Rattle.std.proofs.lemmas.Iterator.Search.{any_from_yields_List}
use Rattle.clap.specs.Words.{built}
use Rattle.clap.proofs.WalkLemmas.{list_any-map}
use Rattle.idn2_options.specs.CommandLine.{app}
use Rattle.idn2_options.specs.Uses.{are_of_one}
use Rattle.idn2_options.specs.inner.Shown.{use_of}
use Rattle.idn2_options.proofs.command_line.misuse.is_repeated.Goals as goal

pub returns : goal.returns
returns c =
    let any = any_from_yields_List (λ other. are_of_one (built app).top.rules (use_of c.args.this.now) (use_of other)) _ _ c.any.result c.any.ensures.ran
    (YieldsList-from_slice c.args.before.now cc) (λ x b q k. search (rules, tests)) in
    any ∙ list_any-map (are_of_one (built app).top.rules (use_of c.args.this.now)) use_of c.args.before.now
