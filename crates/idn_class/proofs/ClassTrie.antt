-- The table of the classes holds the class of each code point.
use Rattle.std.proofs.Common.{◌≡◌, ℕ, ◌<◌, true, [], refl}
use Rattle.ucd_table.specs.Trie.{IsTrie, trie_value}
use Rattle.ucd_table.proofs.Stepped.{runs_of}
use Rattle.ucd_table.proofs.TrieCheck.{trie_ok-IsTrie, trie_value-Stepped, trie_ok}
use Rattle.ucd_table.proofs.Computing.{tables}
use Rattle.idn_class.specs.declared.class_table.TheConstants.{CLASS_INDEX, CLASS_WORDS}
use Rattle.idn_class.proofs.ClassNumbers.{table_number, table_number_stepped}

class_trie_ok : trie_ok 4 8 12 CLASS_INDEX CLASS_WORDS [] (runs_of table_number table_number_stepped) ≡ true
unfolding tables table_number_stepped
class_trie_ok = refl

pub IsTrie-CLASS : IsTrie 4 8 CLASS_INDEX CLASS_WORDS
IsTrie-CLASS = trie_ok-IsTrie 4 8 12 CLASS_INDEX CLASS_WORDS [] _ class_trie_ok

pub trie_value-CLASS : (c : ℕ) → c < 0x11_0000 → trie_value 4 8 CLASS_INDEX CLASS_WORDS [] c ≡ table_number c
trie_value-CLASS = trie_value-Stepped 4 8 12 CLASS_INDEX CLASS_WORDS [] table_number table_number_stepped class_trie_ok
