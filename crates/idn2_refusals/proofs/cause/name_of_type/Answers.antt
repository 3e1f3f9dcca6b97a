use Rattle.std.proofs.Common.{ap, arith, length}
use Rattle.idn2_refusals.proofs.TypeNames.{type-short}
use Rattle.idn2_refusals.proofs.cause.name_of_type.Goals as goal

pub append-requires : goal.append-requires
append-requires c =
    let short = type-short c.definitions-definitions.result.now c.args.number c.set_names-names.ensures.without_fault.names in
    (omega arith, omega (arith, ap length c.new-name.ensures, ap length c.type_name.ensures, short))
