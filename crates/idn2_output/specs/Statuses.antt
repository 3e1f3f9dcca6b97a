-- The exit statuses.
use Rattle.std.specs.Prelude.{ℕ}
use Rattle.idn2_output.specs.declared.status.Status.{Status}
use Rattle.idn2_output.specs.declared.status.Status.TheVariants.{Clean, Refused, Unusable, Faulty, OutOfMemory}

-- 0 is success; 1 a refusal or a gap; 2 words, a table or registered labels; 3 reading or writing; 4 memory
abbrev pub code_of : Status → ℕ
code_of Clean = 0
code_of Refused = 1
code_of Unusable = 2
code_of Faulty = 3
code_of OutOfMemory = 4
