-- No label that a listing accepts begins with a dead prefix.
use Rattle.std.specs.Prelude.{◌≡◌, ◌++◌, ℕ, List, Option, Some, None, true, false}
use Rattle.idn_class.specs.declared.properties.Properties.{Properties}
use Rattle.idn_label.proofs.DeadPrefixLemmas.{none_hopeless}
use Rattle.variant_table.specs.Entries.{TableValue}
use Rattle.idn2_answers.proofs.LostBeginnings.{not-left, ruled-for_good}
use Rattle.valid_labels.specs.Testing.{Testing}
use Rattle.idn2_cli.specs.inner.Dispositions.{Listing}
use Rattle.idn2_cli.specs.inner.Ruling.{filter_by, filter_for, ruling_in}

pub none_accepted : (properties : Properties) (ruling : Option TableValue) (w z : List ℕ)
    → (filter_by properties ruling).hopeless w ≡ true → (filter_by properties ruling).accepts (w ++ z) ≡ false
none_accepted properties None w z is = none_hopeless properties w z is
none_accepted properties (Some table) w z is = ruled-for_good properties table w z is

-- nor does one that isn't left out of a listing besides
pub none_listed : (properties : Properties) (test : Option Testing) (of : Listing) (w z : List ℕ)
    → (filter_for properties test of).hopeless w ≡ true → (filter_for properties test of).accepts (w ++ z) ≡ false
none_listed properties test of w z is = not-left _ _ (none_accepted properties (ruling_in test) w z is)
