use Rattle.std.proofs.Common.{List, ℕ, take, subst}
use Rattle.xml_text.specs.Files.{IsDeclared, declares, is_ascii}
use Rattle.xml_text.proofs.FileLemmas.{front_is}
use Rattle.xml_text.proofs.document.front_length.Goals as goal

pub returns-clause-front : goal.returns-clause-front
returns-clause-front c =
    let text = c.args.text.now in
    let mark = c.mark_length-mark.result in
    let n = c.in_ok-declaration_length.field-0 in
    front_is text mark n c.mark_length-mark.ensures.mark c.mark_length-mark.ensures.is
    (subst (λ (rest : List ℕ). IsDeclared (is_ascii rest) (declares rest) (take n rest)) c.split_at.ensures.back c.in_ok-declaration_length.ensures.declared)
