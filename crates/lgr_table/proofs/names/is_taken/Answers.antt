use Rattle.std.proofs.Common.{◌≡◌, ◌||◌, true, false, sym, ap, ◌∙◌}
use Rattle.ruleset_text.specs.Names.{is_one_of}
use Rattle.lgr_table.proofs.FreshLemmas.{one_of-all_names}
use Rattle.lgr_table.proofs.names.is_taken.Goals as goal

pub returns-then-has_type : goal.returns-then-has_type
returns-then-has_type c =
    let d = c.args.definitions.now in
    let name = c.args.name.now in
    sym (one_of-all_names d name ∙ ap (λ b. b || (is_one_of d.set_names name || is_one_of d.rule_names name)) (sym c.has_type.ensures ∙ c.if-has_type.true))

pub returns-then-is_one_of : goal.returns-then-is_one_of
returns-then-is_one_of c =
    let d = c.args.definitions.now in
    let name = c.args.name.now in
    let sets : is_one_of d.set_names name ≡ true =
    ap (λ l. is_one_of l name) (sym c.set_names.ensures.is) ∙ sym c.is_one_of.ensures ∙ c.if-is_one_of.true in
    sym (one_of-all_names d name ∙ ap (λ b. b || (is_one_of d.set_names name || is_one_of d.rule_names name)) (sym c.has_type.ensures ∙ c.if-has_type.false)
    ∙ ap (λ b. b || is_one_of d.rule_names name) sets)

pub returns : goal.returns
returns c =
    let d = c.args.definitions.now in
    let name = c.args.name.now in
    let sets : is_one_of d.set_names name ≡ false =
    ap (λ l. is_one_of l name) (sym c.set_names.ensures.is) ∙ sym c.is_one_of.ensures ∙ c.if-is_one_of.false in
    c.is_one_of-2.ensures ∙ ap (λ l. is_one_of l name) c.rule_names.ensures.is
    ∙ sym (one_of-all_names d name ∙ ap (λ b. b || (is_one_of d.set_names name || is_one_of d.rule_names name)) (sym c.has_type.ensures ∙ c.if-has_type.false)
    ∙ ap (λ b. b || is_one_of d.rule_names name) sets)
