-- Reading an entry is exact: it gives what the grammar says of a line, and nothing else.
use Rattle.std.proofs.Common.{◌≡◌, ℕ, List, Some, sym, ◌∙◌}
use Rattle.std.specs.Prelude.{◌↔◌}
use Rattle.ruleset_text.specs.Entries.{EntryForm}
use Rattle.ruleset_text.specs.EntryWords.{IsEntryLine}
use Rattle.ruleset_text.specs.EntrySteps.{entry_in}
use Rattle.ruleset_text.specs.Lexemes.{lexemes}
use Rattle.ruleset_text.proofs.EntryReadLemmas.{words_read}
use Rattle.ruleset_text.proofs.EntrySpelledLemmas.{read_words}

pub entry_read : (form : EntryForm) (line : List ℕ) → IsEntryLine form line → entry_in (lexemes line) ≡ Some form
entry_read form line is = words_read form (lexemes line) is.0 is.1

pub entry_spelled : (form : EntryForm) (line : List ℕ) → entry_in (lexemes line) ≡ Some form → IsEntryLine form line
entry_spelled form line e = read_words form (lexemes line) e

pub reading_an_entry_is_exact : (form : EntryForm) (line : List ℕ) → (entry_in (lexemes line) ≡ Some form) ↔ IsEntryLine form line
reading_an_entry_is_exact form line = (entry_spelled form line, entry_read form line)

-- a line spells one entry or range at most
pub one_form : (form other : EntryForm) (line : List ℕ) → IsEntryLine form line → IsEntryLine other line → form ≡ other
one_form form other line is too = same (sym (entry_read form line is) ∙ entry_read other line too)
  where
    same : Some form ≡ Some other → form ≡ other
    same e = cc
