-- How many atoms a rule takes where it is written out: one for each code point, class and sign, and one for each group.
-- What no label has is counted like what labels have, though the pattern that matches nothing has three; and a class
-- counts once, though it takes a group and several sets where one has not the place for its spans.
use Rattle.std.specs.Prelude.{ℕ, ◌+◌, ◌*◌, max, nat_lt, length, Option, Some, None, if◌then◌else◌}
use Rattle.label_patterns.specs.Patterns.{Pattern, Either}
use Rattle.ruleset_text.specs.Limits.{atoms}
use Rattle.lgr_text.specs.Known.{Known}
use Rattle.lgr_text.specs.PartMatches.{has_anchor, part_fault, rule_named}
use Rattle.lgr_text.specs.Records.{Part, Literal, Any, Of, Start, End, Anchor, OfRule, Then, Choice, Times}
use Rattle.lgr_text.specs.declared.records.Count.{Count}
use Rattle.lgr_text.specs.declared.rule_error.RuleFault.{RuleFault}
use Rattle.lgr_text.specs.declared.rule_error.RuleFault.TheVariants.{Limit}

abbrev pub times_by : Option ℕ → ℕ → ℕ
times_by None least = least + 1
times_by (Some most) least = most

-- how often a part is written: as often as it may stand; one time more than it has to, and once at least
abbrev pub times : Count → ℕ
times count = max 1 (times_by count.most count.least)

abbrev pub part_atoms : Known → Part → ℕ
part_atoms known (Literal points) = length points
part_atoms known Any = 1
part_atoms known (Of class) = 1
part_atoms known Start = 1
part_atoms known End = 1
part_atoms known Anchor = 1
part_atoms known (OfRule name) = 1 + atoms (rule_named known name)
part_atoms known (Then p q) = part_atoms known p + part_atoms known q
part_atoms known (Choice p q) = 1 + (part_atoms known p + part_atoms known q)
part_atoms known (Times count p) = times count * (1 + part_atoms known p)

-- how many the branches of a pattern take together, where so many stand beside each
abbrev pub branch_atoms : ℕ → Pattern → ℕ
branch_atoms beside (Either branch p) = (beside + atoms branch) + branch_atoms beside p
branch_atoms beside branch = beside + atoms branch

-- the same of the branches of a part that has the anchor, which counts once in each: what stands beside a choice is
-- written out in each of its branches
abbrev pub anchored_atoms : Known → ℕ → Part → ℕ
anchored_atoms known beside (Then p q) =
    if has_anchor known p then anchored_atoms known (beside + part_atoms known q) p
    else anchored_atoms known (beside + part_atoms known p) q
anchored_atoms known beside (Choice p q) = anchored_atoms known beside p + anchored_atoms known beside q
anchored_atoms known beside (OfRule name) = branch_atoms (beside + 1) (rule_named known name)
anchored_atoms known beside p = beside + part_atoms known p

abbrev pub rule_atoms : Known → Part → ℕ
rule_atoms known rule = if has_anchor known rule then anchored_atoms known 0 rule else part_atoms known rule

-- it takes more atoms than are left; else what is wrong with its parts
abbrev pub fault_within : ℕ → Known → Part → Option RuleFault
fault_within left known rule =
    if nat_lt left (rule_atoms known rule) then Some Limit else part_fault known rule
