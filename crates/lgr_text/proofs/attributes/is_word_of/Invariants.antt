use Rattle.std.proofs.Common.{◌≡◌, length}
use Rattle.std.specs.Prelude.{bytes_eq}
use Rattle.std.specs.List.{list_any}
use Rattle.lgr_text.specs.Words.{words}
use Rattle.lgr_text.proofs.attributes.is_word_of.Given as goal

-- the name is none of the words before
abbrev pub invariant-loop-word : goal.invariant-loop-word
invariant-loop-word l = list_any (λ word. bytes_eq word l.name) (words l.rest) ≡ list_any (λ word. bytes_eq word l.name) (words l.fn.text)

abbrev pub decreases-loop-word : goal.decreases-loop-word
decreases-loop-word l = length l.rest
