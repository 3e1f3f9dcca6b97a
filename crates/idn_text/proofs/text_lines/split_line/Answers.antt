use Rattle.std.proofs.Common.{◌≡◌, ℕ, List, length, false, true, eqb, ap, ◌∙◌}
use Rattle.idn_text.specs.Lines.{raw_lines}
use Rattle.idn_text.proofs.NumberingLemmas.{raw_lines-then, raw_lines-rest}
use Rattle.idn_text.proofs.text_lines.split_line.Goals as goal

pub returns-in-Some : goal.returns-in-Some
returns-in-Some c = ap raw_lines c.in-Some.ensures.1 ∙ raw_lines-then _ _ c.in-Some.ensures.0

pub returns-in-None-2 : goal.returns-in-None-2
returns-in-None-2 c = raw_lines-rest c.args.text.now (λ e. let bad : false ≡ true = c.if-is_empty.ensures ∙ ap (λ (text : List ℕ). eqb (length text) 0) e in cc) c.in-None-2.ensures
