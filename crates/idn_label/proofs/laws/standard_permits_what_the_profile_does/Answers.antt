use Rattle.idn_label.proofs.StandardLabels.{registrable-standard, refused-standard, marks_let_in}
use Rattle.idn_label.proofs.laws.standard_permits_what_the_profile_does.Goals as goal

pub returns : goal.returns
returns c = record { permitted = registrable-standard; refused = refused-standard; marks = marks_let_in }
