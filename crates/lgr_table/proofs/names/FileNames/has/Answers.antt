use Rattle.std.proofs.Common.{◌||◌, sym, ap, ◌∙◌}
use Rattle.std.specs.Prelude.{bytes_eq}
use Rattle.std.proofs.lemmas.Bool.{or_left}
use Rattle.lgr_table.specs.TableNames.{has_type}
use Rattle.lgr_table.specs.inner.TableNames.{names_by}
use Rattle.ruleset_text.specs.Names.{is_one_of}
use Rattle.variant_table.proofs.IdleLemmas.{list_any-map}
use Rattle.lgr_table.proofs.names.FileNames.has.Goals as goal

pub returns-then-has_type : goal.returns-then-has_type
returns-then-has_type c =
    let names = names_by c.args.self in
    let name = c.args.name.now in
    sym (or_left (has_type names name) (is_one_of names.definitions name) (sym c.has_type.ensures ∙ c.if-has_type.true))

pub returns : goal.returns
returns c =
    let names = names_by c.args.self in
    let name = c.args.name.now in
    c.is_defined.ensures ∙ list_any-map (λ other. bytes_eq other name) (λ d. d.name) c.args.self.definitions.now
    ∙ sym (ap (λ b. b || is_one_of names.definitions name) (sym c.has_type.ensures ∙ c.if-has_type.false))
