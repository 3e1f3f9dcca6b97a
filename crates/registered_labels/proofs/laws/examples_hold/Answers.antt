use Rattle.std.proofs.Common.{refl}
use Rattle.std.specs.Str.{chars, is_utf8}
use Rattle.idna.specs.Validity.{has_ace_prefix}
use Rattle.idna.proofs.Computing.{idna}
use Rattle.idn_label.specs.ALabel.{a_label_of}
use Rattle.idn_label.specs.FirstFault.{first_fault, utf8_fault}
use Rattle.idn_label.specs.OldNames.{old_fault, old_utf8_fault, stands_for}
use Rattle.registered_labels.proofs.laws.examples_hold.Goals as goal

pub returns-clause-collisions : goal.returns-clause-collisions
returns-clause-collisions c = record {
  variant = refl;
  both = refl;
  itself = refl;
  none = refl;
  neighbours = refl;
  all = refl;
  after_one = refl;
  after_a_stranger = refl;
  blocked = refl;
  forms = refl;
  nothing_registered = refl;
  over_a_gap = refl;
  back_over_a_gap = refl;
}

pub returns-clause-lines : goal.returns-clause-lines
unfolding is_utf8 chars utf8_fault first_fault old_utf8_fault old_fault stands_for has_ace_prefix a_label_of idna
returns-clause-lines c = record {
  too_long = refl;
  not_utf8 = refl;
  empty = refl;
  old = refl;
  capital = refl;
  decoded = refl;
  mark_alone = refl;
}
