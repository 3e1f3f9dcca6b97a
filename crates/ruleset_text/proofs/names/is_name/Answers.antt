use Rattle.std.proofs.Common.{◌∙◌, sym}
use Rattle.ruleset_text.proofs.NameLemmas.{long-name}
use Rattle.ruleset_text.proofs.names.is_name.Goals as goal

pub returns-then-others-le31 : goal.returns-then-others-le31
returns-then-others-le31 c =
    c.are_name_bytes.ensures
    ∙ long-name c.args.bytes.now c.in-len1-up.len_at_least (sym c.is_letter.ensures ∙ c.if-others-le31.true.0) c.if-others-le31.true.1
