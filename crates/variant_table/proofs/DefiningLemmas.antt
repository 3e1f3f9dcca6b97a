-- What a line that defines something makes of a table.
use Rattle.std.proofs.Common.{◌≡◌, ℕ, ◌+◌, ◌-◌, ◌≤◌, List, ◌++◌, length, Result, Ok, refl, sym, ap, subst, ◌∙◌, arith, length-append}
use Rattle.ruleset_text.specs.declared.fault.DefinitionFault.{DefinitionFault}
use Rattle.ruleset_text.specs.declared.fault.DefinitionFault.TheVariants as definitions
use Rattle.ruleset_text.specs.declared.keyword.Keyword.{Keyword}
use Rattle.ruleset_text.specs.Definitions.{Definitions, canonical_size, defined}
use Rattle.ruleset_text.specs.WellFormed.{AreDefinitions}
use Rattle.ruleset_text.specs.inner.DefinitionSteps as steps
use Rattle.ruleset_text.proofs.DefinedLemmas.{Grown, defined_grows, NamesStay, names_stay}
use Rattle.variant_table.specs.declared.version.Version.{Version}
use Rattle.variant_table.specs.declared.version.Version.TheVariants.{One, Two, Three}
use Rattle.variant_table.specs.Canonical.{canonical_text, head_text, table_text}
use Rattle.variant_table.specs.DefinitionLines.{room_for_definitions}
use Rattle.variant_table.specs.Entries.{Entry, table_of}
use Rattle.variant_table.specs.Limits.{text_limit}
use Rattle.variant_table.specs.Reading.{defining, with_definition}
use Rattle.variant_table.specs.inner.Held.{counted, IsCounted}
use Rattle.variant_table.specs.inner.Readers.{IsCountedIn, ReadSoFar}
use Rattle.variant_table.specs.inner.ReadingSteps.{Fails, told_in}
use Rattle.variant_table.proofs.FaultlessLemmas.{length-text}
use Rattle.variant_table.proofs.GrownLemmas.{named_on, text_stays}

-- the bytes of a ruleset's canonical text: its version line, its definitions, its entries
pub counted_of : (v : Version) (d : Definitions) (t : List Entry) → v ≡ Three → counted v (table_text v d t) ≡ length (head_text v ++ canonical_text d t) + canonical_size d
counted_of One d t is = absurd cc
counted_of Two d t is = absurd cc
counted_of Three d t is = omega (arith, length-text Three d t, length-append (head_text Three) (canonical_text d t))

-- r is what a reader has in its fields before a line, which is what was read so far
module _ {r now : ReadSoFar} (same : r ≡ now) (len : ℕ) (three : now.table.version ≡ Three)
    (counted-now : IsCountedIn now) (size : len ≡ canonical_size r.table.definitions) where
  abbrev v : Version
  v = r.table.version

  abbrev d : Definitions
  d = r.table.definitions

  abbrev t : List Entry
  t = r.table.entries

  abbrev left : ℕ
  left = r.left

  is : v ≡ Three
  is = ap (λ x. x.table.version) same ∙ three

  so_far : IsCountedIn r
  so_far = subst IsCountedIn (sym same) counted-now

  sum : length (head_text v ++ canonical_text d t) + canonical_size d + left ≡ text_limit v
  sum = omega (arith, so_far.count, counted_of v d t is)

  pub room_within : left + len ≤ text_limit v
  room_within = omega (arith, sum, size)

  room : left + len ≡ room_for_definitions (table_of v d t)
  room = omega (arith, sum, size)

  module _ (k : Keyword) (words : List (List ℕ)) where
    with_definition-is : with_definition (table_of v d t) k words ≡ defining (table_of v d t) (defined (left + len) d k words)
    unfolding with_definition
    with_definition-is = ap (λ n. defining (table_of v d t) (defined n d k words)) (sym room)

    pub definition_read : (e : Definitions) → defined (left + len) d k words ≡ Ok e
        → with_definition now.table k words ≡ Ok (table_of v e t)
    definition_read e h =
        subst (λ x. with_definition x.table k words ≡ Ok (table_of v e t)) same
        (with_definition-is ∙ ap (defining (table_of v d t)) h)

    fault_told : (number : ℕ) (fault : DefinitionFault) (read : Result Definitions DefinitionFault) → steps.Refuses fault read
        → Fails number (told_in number fault) (defining (table_of v d t) read)
    fault_told number definitions.Memory read h = tt
    fault_told number definitions.Syntax read h = (refl, ap (defining (table_of v d t)) h)
    fault_told number definitions.Limit read h = (refl, ap (defining (table_of v d t)) h)
    fault_told number definitions.NoSuchName read h = (refl, ap (defining (table_of v d t)) h)
    fault_told number definitions.BadClass read h = (refl, ap (defining (table_of v d t)) h)
    fault_told number definitions.SameName read h = (refl, ap (defining (table_of v d t)) h)

    pub definition_fails : (number : ℕ) (fault : DefinitionFault) → steps.Refuses fault (defined (left + len) d k words)
        → Fails number (told_in number fault) (with_definition now.table k words)
    definition_fails number fault h =
        subst (λ x. Fails number (told_in number fault) (with_definition x.table k words)) same
        (subst (Fails number (told_in number fault)) (sym with_definition-is)
        (fault_told number fault (defined (left + len) d k words) h))

    module _ (e : Definitions) (more : ℕ) (are : AreDefinitions d) (read : defined (left + len) d k words ≡ Ok e) (its : more ≡ canonical_size e) where
      grown : Grown (left + len) d e
      grown = defined_grows (left + len) d e k words are read

      stay : NamesStay d e
      stay = names_stay (left + len) d e k words read

      pub definitions_fit : more ≤ left + len
      definitions_fit = omega (arith, its, grown.room)

      pub definitions_counted : IsCounted v e (left + len - more) t
      definitions_counted = record {
        count = omega (arith, sum, size, its, definitions_fit, counted_of v e t is, length-append (head_text v) (canonical_text e t), length-append (head_text v) (canonical_text d t), ap length (text_stays d e t stay so_far.named));
        named = named_on d e t stay so_far.named;
      }
