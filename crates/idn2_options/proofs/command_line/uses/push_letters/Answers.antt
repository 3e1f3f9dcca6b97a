use Rattle.std.proofs.Common.{◌++◌, ◌∙◌, List, ap, map, map-id, sym, ℕ}
use Rattle.std.specs.Prelude.{option_map}
use Rattle.std.proofs.lemmas.Iterator.{YieldsList-from_chars}
use Rattle.std.proofs.lemmas.Iterator.Consumers.{YieldsList-end}
use Rattle.idn2_options.specs.inner.Shown.{use_of, uses_by_letters}
use Rattle.idn2_options.proofs.command_line.uses.push_letters.Goals as goal

pub returns : goal.returns
returns c =
    let end = YieldsList-end (YieldsList-from_chars c.args.letters.now c.utf8.letters cc) c.loop-letter.yielded _ c.loop-letter.yielded_by _ _ c.in-None.is c.next.ensures.steps in
    c.loop-letter.invariant
    ∙ ap (λ (letters : List ℕ). map use_of c.args.uses.now.items ++ uses_by_letters letters (option_map (λ text. text.now) c.args.next)) (sym (map-id c.loop-letter.yielded) ∙ end.0)
