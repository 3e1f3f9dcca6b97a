use Rattle.std.proofs.Common.{◌≡◌, length}
use Rattle.lgr_text.proofs.EachLemmas.{following}
use Rattle.lgr_text.specs.Values.{each, name_of}
use Rattle.lgr_text.specs.Words.{words}
use Rattle.lgr_text.proofs.names.NameKind.names_of.Given as goal

-- what is read of the words that are left follows what was read before
abbrev pub invariant-loop-word : goal.invariant-loop-word
invariant-loop-word l = following l.names.items (each (name_of l.self) (words l.rest)) ≡ each (name_of l.self) (words l.fn.text)

abbrev pub decreases-loop-word : goal.decreases-loop-word
decreases-loop-word l = length l.rest
