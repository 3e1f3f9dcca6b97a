use Rattle.std.proofs.Common.{sym, refl, ◌∙◌}
use Rattle.ruleset_text.proofs.DefineFaultLemmas.{checked}
use Rattle.ruleset_text.proofs.definitions.Definitions.check.Goals as goal

pub returns-then-has_most : goal.returns-then-has_most
returns-then-has_most c =
    checked c.args.limit c.requires.found c.requires.len (sym c.has_most.ensures ∙ c.if-has_most.true) refl refl refl refl
    refl

pub returns-then-found : goal.returns-then-found
returns-then-found c =
    checked c.args.limit c.requires.found c.requires.len (sym c.has_most.ensures ∙ c.if-has_most.false) c.if-found.true refl
    refl refl refl

pub returns-then-found-2 : goal.returns-then-found-2
returns-then-found-2 c =
    checked c.args.limit c.requires.found c.requires.len (sym c.has_most.ensures ∙ c.if-has_most.false) c.if-found.false
    c.if-found-2.true refl refl refl

pub returns-then-is_line_over_limit : goal.returns-then-is_line_over_limit
returns-then-is_line_over_limit c =
    checked c.args.limit c.requires.found c.requires.len (sym c.has_most.ensures ∙ c.if-has_most.false) c.if-found.false
    c.if-found-2.false (sym c.is_line_over_limit.ensures ∙ c.if-is_line_over_limit.true) refl refl

pub returns-then-found-3 : goal.returns-then-found-3
returns-then-found-3 c =
    checked c.args.limit c.requires.found c.requires.len (sym c.has_most.ensures ∙ c.if-has_most.false) c.if-found.false
    c.if-found-2.false (sym c.is_line_over_limit.ensures ∙ c.if-is_line_over_limit.false) c.if-found-3.true refl

pub returns-then-has_same_name : goal.returns-then-has_same_name
returns-then-has_same_name c =
    checked c.args.limit c.requires.found c.requires.len (sym c.has_most.ensures ∙ c.if-has_most.false) c.if-found.false
    c.if-found-2.false (sym c.is_line_over_limit.ensures ∙ c.if-is_line_over_limit.false) c.if-found-3.false
    (sym c.has_same_name.ensures ∙ c.if-has_same_name.true)
