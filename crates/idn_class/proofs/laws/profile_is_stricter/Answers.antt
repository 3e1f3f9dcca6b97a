use Rattle.idn_class.proofs.FactLabels.{class_of-covered, class_of-standard}
use Rattle.idn_class.proofs.StandardBidi.{bidi-standard}
use Rattle.idn_class.proofs.StandardLemmas.{joiners-standard}
use Rattle.idn_class.proofs.laws.profile_is_stricter.Goals as goal

pub returns-clause-classes : goal.returns-clause-classes
returns-clause-classes c = class_of-standard

pub returns-clause-others : goal.returns-clause-others
returns-clause-others c = class_of-covered

pub returns-clause-joiners : goal.returns-clause-joiners
returns-clause-joiners c = joiners-standard

pub returns-clause-bidi : goal.returns-clause-bidi
returns-clause-bidi c = bidi-standard
