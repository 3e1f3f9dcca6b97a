use Rattle.std.proofs.Common.{sym, ◌∙◌, arith}
use Rattle.lgr_table.proofs.CalledLemmas.{number-within}
use Rattle.lgr_table.proofs.mapped.variant_called.Goals as goal

pub type_called-requires : goal.type_called-requires
type_called-requires c = λ k is.
    let less = number-within c.args.numbers.now.types c.args.variant.now.type_name k (sym c.type_number-number.ensures ∙ is) in
    omega (arith, less, c.requires.types)
