-- What is noted of the line of an entry, lexeme by lexeme.
use Rattle.std.proofs.Common.{◌≡◌, ℕ, Bool, true, false, cond, List, [], ◌∷◌, Option, Some, None, Ok, sym, ap, ◌∙◌}
use Rattle.ruleset_text.specs.declared.entry_parts.EntryParts.{EntryParts}
use Rattle.ruleset_text.specs.Definitions.{Definitions}
use Rattle.ruleset_text.specs.Entries.{EntryForm}
use Rattle.ruleset_text.specs.EntryFaults.{Notes}
use Rattle.ruleset_text.specs.EntrySteps.{State, entry_in, is_lacking, is_new, step, step_in, word_of}
use Rattle.ruleset_text.specs.EntrySteps.{entry_read as what_is_read}
use Rattle.ruleset_text.specs.Lexemes.{lexemes}
use Rattle.ruleset_text.specs.PlacedLexemes.{Placed}
use Rattle.ruleset_text.specs.inner.EntryNoted.{noted, noted_from}
use Rattle.ruleset_text.proofs.EntryExactLemmas.{entry_read}
use Rattle.ruleset_text.proofs.EntryStopLemmas.{the_entry}

-- what is read by steps with the parts is read by steps
step_of : (parts : EntryParts) (s t : State) (w : List ℕ) → step_in parts s w ≡ Some t → step s w ≡ Some t
step_of parts s t w e = by (is_lacking parts (is_new s) (word_of w)) e
  where
    by : (b : Bool) → cond b None (step s w) ≡ Some t → step s w ≡ Some t
    by true e = absurd cc
    by false e = e

-- after a lexeme more
pub noted_next : (d : Definitions) (parts : EntryParts) (s t : State) (n m all : Notes) (ws rest : List Placed) (w : Placed) → ws ≡ w ∷ rest → step_in parts s w.lexeme ≡ Some t → m ≡ noted d s w n
    → noted_from d n (Some s) ws ≡ all → noted_from d m (Some t) rest ≡ all
noted_next d parts s t n m all ws rest w cut e is h =
    ap (λ k. noted_from d k (Some t) rest) is ∙ ap (λ o. noted_from d (noted d s w n) o rest) (sym (step_of parts s t w.lexeme e)) ∙ ap (noted_from d n (Some s)) (sym cut) ∙ h

-- at the end
pub noted_last : (d : Definitions) (s : Option State) (n all : Notes) (ws : List Placed) → ws ≡ [] → noted_from d n s ws ≡ all → n ≡ all
noted_last d s n all ws none h = sym (ap (noted_from d n s) none) ∙ h

-- an entry or a range with these parts is one
pub read_in : (parts : EntryParts) (line : List ℕ) (form : EntryForm) → what_is_read parts line ≡ Ok form → entry_in (lexemes line) ≡ Some form
read_in parts line form e = entry_read form line ((the_entry parts line form).0 e).0
