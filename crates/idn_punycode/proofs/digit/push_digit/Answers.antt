use Rattle.std.proofs.Common.{[], ◌∷◌, ◌++◌, ap, ◌∙◌}
use Rattle.std.proofs.lemmas.Result.{on_ok_weaker}
use Rattle.idn_punycode.proofs.Tables.{CHARACTERS-at}
use Rattle.idn_punycode.proofs.digit.push_digit.Goals as goal

pub push_ascii-requires : goal.push_ascii-requires
push_ascii-requires c = (CHARACTERS-at c.args.digit c.requires).1

pub returns-clause-ok : goal.returns-clause-ok
returns-clause-ok c =
    on_ok_weaker c.push_ascii.result (λ ok. ok ∙ ap (λ x. c.args.text.now.bytes ++ x ∷ []) (CHARACTERS-at c.args.digit c.requires).0) c.push_ascii.ensures.ok
