-- Why words are refused: `clap` refuses them, for an option that is used in a wrong way, of which the first is told; or
-- they break a rule of the program, of which the first is told.
use Rattle.std.specs.Prelude.{not, List, [], ◌∷◌, Option, Some, None, if◌then◌else◌, option_map, string_bytes}
use Rattle.clap.specs.Kinds.{Kinds}
use Rattle.clap.specs.Words.{Row, Text, fault_of, matches_of}
use Rattle.idn2_options.specs.CommandLine.{app}
use Rattle.idn2_options.specs.Names.{after_name, limit_name, steps_name, tries_name}
use Rattle.idn2_options.specs.Uses.{Use, first_wrong, known_rules, told, uses_of}
use Rattle.idn2_options.specs.Words.{asks_to_show, checks_alone, has_counts, has_short_start, has_value}
use Rattle.idn2_options.specs.Words.{decodes_old, has_among, is_count_if_given, prints_alone, prints_plainly}
use Rattle.idn2_options.specs.Words.{jumps_by_table, listing_options_fit, lists, names_one_mode, suits_among}
use Rattle.idn2_options.specs.declared.command_line.broken_rule.BrokenRule.{BrokenRule}
use Rattle.idn2_options.specs.declared.command_line.broken_rule.BrokenRule.TheVariants as rules
use Rattle.idn2_options.specs.declared.command_line.broken_rule.ListingOption.{ListingOption}
use Rattle.idn2_options.specs.declared.command_line.broken_rule.ListingOption.TheVariants as listing
use Rattle.idn2_options.specs.declared.command_line.misuse.Misuse.{Misuse}
use Rattle.idn2_options.specs.declared.command_line.usage_cause.UsageCause.{UsageCause}
use Rattle.idn2_options.specs.declared.command_line.usage_cause.UsageCause.TheVariants as causes

-- the first option of a listing that is given, if one is
abbrev pub listing_option : List Row → ListingOption
listing_option rows =
    if has_value after_name rows then listing.After
    else (if has_value limit_name rows then listing.Limit
    else (if has_value tries_name rows then listing.Tries
    else (if has_value steps_name rows then listing.Steps
    else listing.Among)))

-- where options of a listing do not fit: nothing is listed
abbrev pub misfit_of : List Row → BrokenRule
misfit_of rows =
    if lists rows then rules.NotWithJump (listing_option rows) else rules.GoesWithVariants (listing_option rows)

-- what does not suit `--among`
abbrev pub misfit_of_among : List Row → BrokenRule
misfit_of_among rows =
    if has_value tries_name rows then rules.NotWithAmong listing.Tries
    else (if has_value steps_name rows then rules.NotWithAmong listing.Steps
    else rules.SameFile)

-- the first number that is out of its range
abbrev pub wrong_number : List Row → BrokenRule
wrong_number rows =
    if not (is_count_if_given limit_name rows) then rules.OutOfRange listing.Limit
    else (if not (is_count_if_given tries_name rows) then rules.OutOfRange listing.Tries
    else rules.OutOfRange listing.Steps)

-- the first rule that is broken
abbrev pub broken_rule : List Row → Option BrokenRule
broken_rule rows =
    if not (names_one_mode rows) then Some rules.TwoModes
    else (if not (listing_options_fit rows) then Some (misfit_of rows)
    else (if not (jumps_by_table rows) then Some rules.JumpWithoutTable
    else (if not (decodes_old rows) then Some rules.OldWithoutDecode
    else (if not (has_among rows) then Some rules.OthersWithoutAmong
    else (if not (suits_among rows) then Some (misfit_of_among rows)
    else (if not (has_counts rows) then Some (wrong_number rows)
    else (if not (has_short_start rows) then Some rules.LongStart
    else (if not (checks_alone rows) then Some rules.CheckedStrings
    else (if not (prints_alone rows) then Some rules.PrintedStrings
    else (if not (prints_plainly rows) then Some rules.PrintedObjects else None))))))))))

-- what a cause tells: a rule that is broken, or an option that is used in a wrong way
pub data Told : Type 0 where
  rule : BrokenRule → Told
  misused : Misuse → Text → Told

abbrev pub told_by : UsageCause → Told
told_by (causes.Rule broken) = rule broken
told_by (causes.Misused misuse option) = misused misuse (string_bytes option)

-- the first of some uses that is wrong, and how
abbrev pub misuse_told : List Use → Option Told
misuse_told uses = option_map (λ wrong. misused wrong.0 (told known_rules wrong.1)) (first_wrong known_rules [] uses)

-- `clap`'s refusal comes first: the first use that is wrong is told, unless a text is to be shown
abbrev pub cause_by : Kinds → List Text → Option Told
cause_by [] words = option_map rule (broken_rule (matches_of app words))
cause_by (kind ∷ _) words = if asks_to_show kind then None else misuse_told (uses_of words)

-- why words are refused, if they are
abbrev pub cause_of : List Text → Option Told
cause_of words = cause_by (fault_of app words) words
