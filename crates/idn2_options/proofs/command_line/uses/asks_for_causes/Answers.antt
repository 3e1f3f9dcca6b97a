use Rattle.std.proofs.Common.{◌∙◌, ◌++◌, Global, ap, codes, rules, tests}
use Rattle.std.specs.Prelude.{String, string_bytes}
use Rattle.std.specs.List.{list_any}
use Rattle.std.specs.Str.{bytes_eq}
use Rattle.std.proofs.lemmas.Iterator.{YieldsList-from_slice}
use Rattle.std.proofs.lemmas.Iterator.Search.{any_from_yields_List}
use Rattle.clap.proofs.WalkLemmas.{list_any-map}
use Rattle.idn2_options.specs.Names.{explain_name}
use Rattle.idn2_options.proofs.command_line.uses.asks_for_causes.Goals as goal

pub returns : goal.returns
returns c =
    let any = any_from_yields_List (λ (word : String Global). bytes_eq (string_bytes word) (codes "--" ++ explain_name)) _ _ c.any.result c.any.ensures.ran
    (YieldsList-from_slice c.front.result.now cc) (λ x b q k. search (rules, tests)) in
    any ∙ (list_any-map (λ word. bytes_eq word (codes "--" ++ explain_name)) string_bytes c.front.result.now
    ∙ ap (list_any (λ word. bytes_eq word (codes "--" ++ explain_name))) c.front.ensures.words)
