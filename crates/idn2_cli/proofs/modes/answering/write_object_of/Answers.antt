use Rattle.idn2_cli.proofs.modes.answering.write_object_of.Goals as goal

pub looked_up_of-requires-clause-utf8 : goal.looked_up_of-requires-clause-utf8
looked_up_of-requires-clause-utf8 g c = c.requires.utf8 c.in-LookedUp.is
