use Rattle.std.proofs.Common.{◌≡◌, ◌+◌, ◌≤◌, drop, map}
use Rattle.std.specs.Prelude.{option_map}
use Rattle.lgr_text.specs.inner.Reading.{closes}
use Rattle.lgr_text.proofs.element.inner_len.Given as goal

-- the end tag is so many tokens further on
abbrev pub invariant-loop-place : goal.invariant-loop-place
invariant-loop-place l = record {
  further : option_map (λ n. l.place + n) (closes l.open (map (λ t. t.said) (drop l.place l.tokens))) ≡ closes 0 (map (λ t. t.said) l.tokens);
  few : l.open ≤ l.place;
}
