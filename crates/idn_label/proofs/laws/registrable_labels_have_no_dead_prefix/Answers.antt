use Rattle.std.proofs.Common.{◌≡◌, ℕ, List, ◌++◌, true, false, sym, ap, ◌∙◌}
use Rattle.std.specs.Option.{is_none}
use Rattle.idn_class.specs.declared.properties.Properties.{Properties}
use Rattle.idn_class.specs.DeadPrefixes.{IsDeadPrefix}
use Rattle.idn_class.proofs.DeadPrefixTests.{hopeless-from}
use Rattle.idn_label.specs.FirstFault.{IsRegistrable}
use Rattle.idn_label.proofs.DeadPrefixLemmas.{none_hopeless}
use Rattle.idn_label.proofs.laws.registrable_labels_have_no_dead_prefix.Goals as goal

none_registrable : (properties : Properties) (w z : List ℕ) → IsDeadPrefix properties w → ¬ IsRegistrable properties (w ++ z)
none_registrable properties w z lost none =
    let clash : true ≡ false = sym (ap is_none none) ∙ none_hopeless properties w z (hopeless-from properties w lost) in cc

pub returns : goal.returns
returns c = record { refused = none_registrable; test = none_hopeless }
