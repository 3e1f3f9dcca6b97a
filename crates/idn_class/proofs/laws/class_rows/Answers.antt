use Rattle.std.proofs.Common.{refl}
use Rattle.idn_class.specs.WorkedRows.{latin_1, exceptions, examples}
use Rattle.idn_class.proofs.ComputedLabels.{in_table, HasClasses-rows_ok}
use Rattle.idn_class.proofs.laws.class_rows.Goals as goal
use Rattle.idn_class.specs.declared.properties.Properties.TheVariants.{Profile}

pub returns-clause-latin_1 : goal.returns-clause-latin_1
unfolding in_table
returns-clause-latin_1 c = HasClasses-rows_ok Profile latin_1 refl

pub returns-clause-exceptions : goal.returns-clause-exceptions
unfolding in_table
returns-clause-exceptions c = HasClasses-rows_ok Profile exceptions refl

pub returns-clause-examples : goal.returns-clause-examples
unfolding in_table
returns-clause-examples c = HasClasses-rows_ok Profile examples refl
