-- The table of the facts holds those of each code point.
use Rattle.std.proofs.Common.{inl, inr, ◌≡◌, ℕ, Bool, eqb-true, ◌<◌, ◌≤◌, ◌/◌, true, false, ◌||◌, ◌==◌, nat_le, [], length, le-ltb, le-leb, refl, sym, ap, ◌∙◌, arith}
use Rattle.std.specs.Int.{bit_at}
use Rattle.std.proofs.lemmas.Bool.{cases_lt, cond-false}
use Rattle.std.proofs.lemmas.Bool.Decides.{nat_tests}
use Rattle.std.proofs.lemmas.Nat.Bits.{bit_at-zero}
use Rattle.ucd_table.specs.Trie.{IsTrie, trie_value, block_value}
use Rattle.ucd_table.specs.Steps.{step_value}
use Rattle.ucd_table.proofs.Stepped.{runs_of}
use Rattle.ucd_table.proofs.StepsLemmas.{step_value-nil}
use Rattle.ucd_table.proofs.TrieCheck.{trie_ok-IsTrie, trie_value-Stepped, trie_ok}
use Rattle.ucd_table.proofs.Computing.{tables}
use Rattle.idn_class.specs.declared.class_table.TheConstants.{FACT_INDEX, FACT_WORDS}
use Rattle.idn_class.specs.declared.facts.Fact.{Fact}
use Rattle.idn_class.specs.Facts.{fact_holds, has_fact, place_of}
use Rattle.idn_class.proofs.FactLemmas.{full}
use Rattle.idn_class.proofs.FactSteps.{absent_facts, absent_facts_stepped, absent_facts-bit, fact_by_steps-fact_holds}

facts_trie_ok : trie_ok 8 16 128 FACT_INDEX FACT_WORDS [] (runs_of absent_facts absent_facts_stepped) ≡ true
unfolding tables absent_facts_stepped
facts_trie_ok = refl

pub IsTrie-FACT : IsTrie 8 16 FACT_INDEX FACT_WORDS
IsTrie-FACT = trie_ok-IsTrie 8 16 128 FACT_INDEX FACT_WORDS [] _ facts_trie_ok

trie_value-FACT : (c : ℕ) → c < 0x11_0000 → trie_value 8 16 FACT_INDEX FACT_WORDS [] c ≡ absent_facts c
trie_value-FACT = trie_value-Stepped 8 16 128 FACT_INDEX FACT_WORDS [] absent_facts absent_facts_stepped facts_trie_ok

-- past Unicode the index has no block
beyond_table : (c : ℕ) → 0x11_0000 ≤ c → trie_value 8 16 FACT_INDEX FACT_WORDS [] c ≡ 0
unfolding trie_value
beyond_table c beyond =
    let past : length FACT_INDEX ≤ c / 128 = let blocks : length FACT_INDEX ≡ 8704 = refl in omega arith in
    cond-false _ _ _ (le-ltb (c / 128) (length FACT_INDEX) past) ∙ step_value-nil 0 c

pub has_fact-table : (c : ℕ) (fact : Fact) → (bit_at (trie_value 8 16 FACT_INDEX FACT_WORDS [] c) (place_of fact) == 0) ≡ has_fact fact c
has_fact-table c fact =
    elim (cases_lt c 0x11_0000) [
      | inl within ↦
          ap (λ n. bit_at n (place_of fact) == 0) (trie_value-FACT c within)
          ∙ absent_facts-bit c fact
          ∙ fact_by_steps-fact_holds fact c
          ∙ ap (λ b. b || fact_holds fact c) (sym (lt-leb_false c within))
      | inr beyond ↦
          ap (λ n. bit_at n (place_of fact) == 0) (beyond_table c beyond)
          ∙ ap (λ n. n == 0) (bit_at-zero (place_of fact))
          ∙ ap (λ b. b || fact_holds fact c) (sym (le-leb 0x11_0000 c beyond))
    ]
  where
    lt-leb_false : (c : ℕ) → c < 0x11_0000 → nat_le 0x11_0000 c ≡ false
    lt-leb_false c lt = grind (arith, nat_tests)

-- a proof tells that a code point is simple by a look-up that computes, under `unfolding is_simple_in_table`
unfoldable pub is_simple_in_table : ℕ → Bool
unfolding trie_value block_value step_value
is_simple_in_table c = trie_value 8 16 FACT_INDEX FACT_WORDS [] c == 127

-- a code point without a fact: in a label made only of such code points it causes no fault, unless it is a hyphen
abbrev pub IsSimple : ℕ → Type 0
IsSimple c = (fact : Fact) → has_fact fact c ≡ false

pub IsSimple-in_table : (c : ℕ) → is_simple_in_table c ≡ true → IsSimple c
unfolding is_simple_in_table
IsSimple-in_table c is = λ fact.
    sym (has_fact-table c fact) ∙ ap (λ n. bit_at n (place_of fact) == 0) (eqb-true (trie_value 8 16 FACT_INDEX FACT_WORDS [] c) 127 is) ∙ full fact
