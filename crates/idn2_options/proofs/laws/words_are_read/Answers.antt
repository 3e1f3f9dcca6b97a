use Rattle.std.proofs.Common.{refl}
use Rattle.clap.proofs.OnLiterals.{clap_on_literals}
use Rattle.idn2_options.specs.CommandLine.{app}
use Rattle.idn2_options.specs.Words.{options_of}
use Rattle.idn2_options.proofs.laws.words_are_read.Goals as goal

pub returns : goal.returns
unfolding options_of app clap_on_literals
returns c = record { two_modes = refl; switches = refl; explained = refl; explained_twice = refl; by_standard = refl; in_json = refl; in_json_twice = refl; by_ruleset = refl; checked_ruleset = refl; printed_ruleset = refl; printed_objects = refl; table_and_ruleset = refl; old_labels = refl; old_alone = refl; others = refl; others_alone = refl; after_alone = refl; unknown_name = refl; unknown_letter = refl; no_value = refl; dashes_are_no_value = refl; dash_is_a_value = refl; given_twice = refl; twice_by_letters = refl; first_of_two_ways = refl; unknown_for_a_value = refl; with_value = refl; without_value = refl; rule_after_clap = refl; no_cause = refl; help_has_none = refl; asked_before_dashes = refl; not_asked_after = refl }
