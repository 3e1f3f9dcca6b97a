use Rattle.std.proofs.Common.{◌≡◌, ◌≤◌, drop, map}
use Rattle.lgr_text.specs.Sizes.{exceeds, max_elements}
use Rattle.lgr_text.proofs.element.Elements.check_sizes.Given as goal

-- it depends on the tokens that are left
abbrev pub invariant-loop-token : goal.invariant-loop-token
invariant-loop-token l = record {
  rest : exceeds l.open l.count (map (λ t. t.said) (drop l.token-index l.self.tokens.now)) ≡ exceeds 0 0 (map (λ t. t.said) l.self.tokens.now);
  few : l.open ≤ l.token-index;
  least : l.count ≤ max_elements;
}
