use Rattle.std.proofs.Common.{append_assoc}
use Rattle.idn2_refusals.specs.CauseWords.{length_words}
use Rattle.idn2_refusals.proofs.cause_words.push_lengths.Goals as goal

pub returns-clause-items : goal.returns-clause-items
unfolding length_words
returns-clause-items c =
    rw (
      c.push_text-2.ensures.items,
      c.push_text.ensures.items,
      c.push_number-2.ensures.items,
      c.push_number.ensures.items,
    )
    (simp append_assoc)
