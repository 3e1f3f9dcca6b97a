use Rattle.std.proofs.Common.{◌≡◌, ◌++◌, List, OnOk, map, subst}
use Rattle.std.specs.Prelude.{option_map}
use Rattle.idn2_options.specs.Uses.{Use}
use Rattle.idn2_options.specs.inner.Shown.{use_of}
use Rattle.idn2_options.proofs.UseLemmas.{uses-by_letters}
use Rattle.idn2_options.proofs.command_line.uses.push_uses.Goals as goal

pub returns-in-Some-letters_in : goal.returns-in-Some-letters_in
returns-in-Some-letters_in c =
    let next = option_map (λ text. text.now) c.args.next in
    subst (λ (uses : List Use). OnOk c.push_letters.result (map use_of c.push_letters.new.uses.items ≡ map use_of c.args.uses.now.items ++ uses))
    (uses-by_letters c.args.word.now c.in-Some-letters_in.letters.now next c.in-None.ensures c.in-Some-letters_in.ensures) c.push_letters.ensures
