use Rattle.std.proofs.Common.{◌≡◌, ◌≤◌, drop, map}
use Rattle.lgr_text.specs.inner.Nesting.{nests}
use Rattle.lgr_text.proofs.element.Elements.check_nesting.Given as goal

-- it depends on the tokens that are left
abbrev pub invariant-loop-token : goal.invariant-loop-token
invariant-loop-token l = record {
  rest : nests l.self.prefix.now l.open (map (λ t. t.said) (drop l.token-index l.self.tokens.now)) ≡ nests l.self.prefix.now 0 (map (λ t. t.said) l.self.tokens.now);
  few : l.open ≤ l.token-index;
}
