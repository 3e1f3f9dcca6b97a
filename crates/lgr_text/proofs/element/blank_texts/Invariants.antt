use Rattle.std.proofs.Common.{◌≡◌, ◌+◌, drop}
use Rattle.std.specs.List.{prefix_len}
use Rattle.lgr_text.specs.inner.Reading.{is_blank_said}
use Rattle.lgr_text.proofs.element.blank_texts.Given as goal

-- those before the place are blank
abbrev pub invariant-loop-place : goal.invariant-loop-place
invariant-loop-place l = l.place + prefix_len (λ t. is_blank_said t.said) (drop l.place l.tokens) ≡ prefix_len (λ t. is_blank_said t.said) l.tokens
