use Rattle.idn_class.proofs.ProfileLemmas.{bidi_classes, joining_types, viramas}
use Rattle.idn_class.proofs.laws.lists_of_the_profile.Goals as goal

pub returns-clause-bidi_classes : goal.returns-clause-bidi_classes
returns-clause-bidi_classes c = bidi_classes

pub returns-clause-joining_types : goal.returns-clause-joining_types
returns-clause-joining_types c = joining_types

pub returns-clause-viramas : goal.returns-clause-viramas
returns-clause-viramas c = viramas
