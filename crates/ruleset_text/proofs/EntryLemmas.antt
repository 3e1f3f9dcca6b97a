-- The form of an entry, lexeme by lexeme.
use Rattle.std.proofs.Common.{◌≡◌, ℕ, List, [], ◌∷◌, None, refl}
use Rattle.ruleset_text.specs.EntrySteps.{state_after}

pub none_after : (words : List (List ℕ)) → state_after None words ≡ None
none_after [] = refl
none_after (word ∷ words) = none_after words
