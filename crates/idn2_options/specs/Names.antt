-- The names of the options, in the order of the manual page: each stands after two dashes, and the letter of some of
-- them after one. `STRINGS` is what `clap` calls the words that belong to none.
use Rattle.std.specs.Prelude.{ℕ, codes}
use Rattle.clap.specs.Words.{Text}

abbrev pub lookup_name : Text
lookup_name = codes "lookup"

-- `l`
abbrev pub lookup_letter : ℕ
lookup_letter = 108

abbrev pub register_name : Text
register_name = codes "register"

-- `r`
abbrev pub register_letter : ℕ
register_letter = 114

abbrev pub decode_name : Text
decode_name = codes "decode"

-- `d`
abbrev pub decode_letter : ℕ
decode_letter = 100

abbrev pub old_name : Text
old_name = codes "old"

abbrev pub variants_name : Text
variants_name = codes "variants"

abbrev pub among_name : Text
among_name = codes "among"

abbrev pub others_name : Text
others_name = codes "others"

abbrev pub jump_name : Text
jump_name = codes "jump"

abbrev pub check_table_name : Text
check_table_name = codes "check-table"

abbrev pub ruleset_name : Text
ruleset_name = codes "ruleset"

abbrev pub check_ruleset_name : Text
check_ruleset_name = codes "check-ruleset"

abbrev pub print_ruleset_name : Text
print_ruleset_name = codes "print-ruleset"

abbrev pub after_name : Text
after_name = codes "after"

abbrev pub limit_name : Text
limit_name = codes "limit"

abbrev pub tries_name : Text
tries_name = codes "tries"

abbrev pub steps_name : Text
steps_name = codes "steps"

abbrev pub std3_name : Text
std3_name = codes "usestd3asciirules"

abbrev pub standard_name : Text
standard_name = codes "standard"

abbrev pub explain_name : Text
explain_name = codes "explain"

abbrev pub json_name : Text
json_name = codes "json"

abbrev pub tr46nt_name : Text
tr46nt_name = codes "tr46nt"

-- `N`
abbrev pub tr46nt_letter : ℕ
tr46nt_letter = 78

abbrev pub quiet_name : Text
quiet_name = codes "quiet"

abbrev pub strings_name : Text
strings_name = codes "STRINGS"
