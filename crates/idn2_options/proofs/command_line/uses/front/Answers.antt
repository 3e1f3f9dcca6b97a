use Rattle.std.proofs.Common.{◌≡◌, ◌∙◌, ◌<◌, ◌^◌, Global, List, ap, drop, length, map, rules, subst, sym, tests}
use Rattle.std.specs.Prelude.{String, string_bytes}
use Rattle.std.specs.List.{before_first}
use Rattle.std.specs.Slice.Iter.{iter_rest}
use Rattle.std.proofs.lemmas.Iterator.{YieldsList-from_slice}
use Rattle.std.proofs.lemmas.Iterator.Search.{position_from_yields_List}
use Rattle.idn2_options.specs.Uses.{ends_options}
use Rattle.idn2_options.proofs.UseLemmas.{ends, front-after, front-none, front-some}
use Rattle.idn2_options.proofs.command_line.uses.front.Goals as goal

pub returns-in-Some-clause-words : goal.returns-in-Some-clause-words
returns-in-Some-clause-words c =
    let place = position_from_yields_List ends _ _ c.position.result c.position.ensures.ran (YieldsList-from_slice c.after_name-words.result.now cc) (λ x b q k. search (rules, tests)) in
    front-some c.after_name-words.result.now c.in-Some.end (sym c.in-Some.is ∙ place)
    ∙ ap (λ (words : List (String Global)). before_first ends_options (map string_bytes words)) c.after_name-words.ensures ∙ front-after c.args.words.now

pub returns-in-None-clause-words : goal.returns-in-None-clause-words
returns-in-None-clause-words c =
    let place = position_from_yields_List ends _ _ c.position.result c.position.ensures.ran (YieldsList-from_slice c.after_name-words.result.now cc) (λ x b q k. search (rules, tests)) in
    front-none c.after_name-words.result.now (sym c.in-None.is ∙ place)
    ∙ ap (λ (words : List (String Global)). before_first ends_options (map string_bytes words)) c.after_name-words.ensures ∙ front-after c.args.words.now

pub returns-in-Some-clause-few : goal.returns-in-Some-clause-few
returns-in-Some-clause-few c =
    let same = c.after_name-words.ensures in
    let all : iter_rest c.iter.result ≡ drop 1 c.args.words.now = cc in
    subst (λ (words : List (String Global)). length words < 2 ^ 64) all c.iter.ensures.bound

pub returns-in-None-clause-few : goal.returns-in-None-clause-few
returns-in-None-clause-few c =
    let same = c.after_name-words.ensures in
    let all : iter_rest c.iter.result ≡ drop 1 c.args.words.now = cc in
    subst (λ (words : List (String Global)). length words < 2 ^ 64) all c.iter.ensures.bound
