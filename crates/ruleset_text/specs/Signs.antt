-- The signs of a pattern that stand for no code point.

-- '^', '$' and '_'
pub data Sign : Type 0 where
  Start : Sign
  End : Sign
  Anchor : Sign
