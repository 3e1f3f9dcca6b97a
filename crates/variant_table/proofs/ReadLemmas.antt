-- Reading line by line.
use Rattle.std.proofs.Common.{◌≡◌, ◌⊎◌, inl, inr, ℕ, ◌+◌, ◌≤◌, Bool, true, false, List, [], ◌∷◌, length, Option, Some}
use Rattle.std.proofs.Common.{None, Result, Ok, Err, refl, sym, ap, ◌∙◌, add_assoc, arith}
use Rattle.std.specs.Prelude.{if◌then◌else◌}
use Rattle.std.specs.Str.Lines.{strip_carriage_return}
use Rattle.idn_class.specs.declared.properties.Properties.{Properties}
use Rattle.idn_text.specs.Lines.{raw_lines}
use Rattle.ruleset_text.specs.declared.keyword.Keyword.{Keyword}
use Rattle.ruleset_text.specs.Definitions.{defined}
use Rattle.ruleset_text.specs.Entries.{EntryForm}
use Rattle.ruleset_text.specs.Lexemes.{lexemes}
use Rattle.variant_table.specs.declared.fault.TableFault.{TableFault}
use Rattle.variant_table.specs.declared.fault.TableFault.TheVariants as tables
use Rattle.variant_table.specs.declared.version.Notation.{Notation}
use Rattle.variant_table.specs.declared.version.Version.{Version}
use Rattle.variant_table.specs.Conditions.{is_too_long}
use Rattle.variant_table.specs.DefinitionLines.{keyword_in, room_for_definitions}
use Rattle.variant_table.specs.Entries.{TableValue, empty_table}
use Rattle.variant_table.specs.Faults.{LineFault, Limit, Syntax, BadClass, SameVariant, SameSource, NoSuchName, SameName}
use Rattle.variant_table.specs.FaultyLines.{FaultyLine, at_line, faulty_after, faulty_line, first_faulty, or_after}
use Rattle.variant_table.specs.Reading.{◌>>=◌, form_in, in_line, is_skipped, table_of_lines, with_definition, with_form}
use Rattle.variant_table.specs.Reading.{with_form_of, with_line, with_lines, with_raw_line, with_words}
use Rattle.variant_table.specs.Versions.{version_of, head_of, body_of, size_of}
use Rattle.variant_table.specs.inner.ReadingSteps.{Fails, FailsIn}
use Rattle.variant_table.proofs.FaultlessLemmas.{ok_defined, ok_entries, read_by}
use Rattle.variant_table.proofs.SizeLemmas.{size_of-cons}

abbrev WholeTable : Type 0
WholeTable = Result TableValue (ℕ × LineFault)

abbrev further : ℕ → ℕ → List ℕ → List (List ℕ) → Result TableValue LineFault → WholeTable
further n b line lines read = in_line n read >>= λ t. with_lines (n + 1) (b + length line + 1) t lines

module _ (n b : ℕ) (t : TableValue) (line : List ℕ) (lines rest : List (List ℕ)) (total : WholeTable) (cut : rest ≡ line ∷ lines) (so_far : with_lines n b t rest ≡ total) where
  begun : further n b line lines (with_raw_line b t line) ≡ total
  unfolding with_lines
  begun = sym (ap (λ ls. with_lines n b t ls) cut) ∙ so_far

  pub lines_step : (u : TableValue) → with_raw_line b t line ≡ Ok u → with_lines (n + 1) (b + (length line + 1)) u lines ≡ total
  unfolding with_lines
  lines_step u e = ap (λ k. with_lines (n + 1) k u lines) (sym (add_assoc b (length line) 1)) ∙ sym (ap (further n b line lines) e) ∙ begun

  -- the line is the first faulty one
  pub line_faulty : (fault : TableFault) (whole : Option FaultyLine) → first_faulty b t rest ≡ whole → Fails n fault (with_raw_line b t line) → (fault ≡ tables.Memory) ⊎ (Some (at_line b t line) ≡ whole)
  unfolding first_faulty
  line_faulty fault whole same h = by fault h
    where
      here : (kind : LineFault) → with_raw_line b t line ≡ Err kind → Some (at_line b t line) ≡ whole
      here kind e = sym (ap (or_after (at_line b t line) (λ u. first_faulty (b + length line + 1) u lines)) e) ∙ sym (ap (first_faulty b t) cut) ∙ same

      by : (fault : TableFault) → Fails n fault (with_raw_line b t line) → (fault ≡ tables.Memory) ⊎ (Some (at_line b t line) ≡ whole)
      by tables.Memory h = inl refl
      by (tables.Limit k) h = inr (here Limit h.1)
      by (tables.Syntax k) h = inr (here Syntax h.1)
      by (tables.BadClass k) h = inr (here BadClass h.1)
      by (tables.SameVariant k) h = inr (here SameVariant h.1)
      by (tables.SameSource k) h = inr (here SameSource h.1)
      by (tables.NoSuchName k) h = inr (here NoSuchName h.1)
      by (tables.SameName k) h = inr (here SameName h.1)

  -- none is found before the next line
  pub faulty_later : (u : TableValue) (whole : Option FaultyLine) → first_faulty b t rest ≡ whole → with_raw_line b t line ≡ Ok u → first_faulty (b + (length line + 1)) u lines ≡ whole
  unfolding first_faulty
  faulty_later u whole same e =
      ap (λ k. first_faulty k u lines) (sym (add_assoc b (length line) 1))
      ∙ sym (ap (or_after (at_line b t line) (λ v. first_faulty (b + length line + 1) v lines)) e) ∙ sym (ap (first_faulty b t) cut) ∙ same

  failed : (kind : LineFault) → with_raw_line b t line ≡ Err kind → total ≡ Err (n, kind)
  failed kind e = sym begun ∙ ap (further n b line lines) e

  pub lines_fail : (fault : TableFault) → Fails n fault (with_raw_line b t line) → FailsIn fault total
  lines_fail tables.Memory h = inl refl
  lines_fail (tables.Limit k) h = inr (n, Limit, ap (λ m. tables.Limit m) h.0, failed Limit h.1)
  lines_fail (tables.Syntax k) h = inr (n, Syntax, ap (λ m. tables.Syntax m) h.0, failed Syntax h.1)
  lines_fail (tables.BadClass k) h = inr (n, BadClass, ap (λ m. tables.BadClass m) h.0, failed BadClass h.1)
  lines_fail (tables.SameVariant k) h = inr (n, SameVariant, ap (λ m. tables.SameVariant m) h.0, failed SameVariant h.1)
  lines_fail (tables.SameSource k) h = inr (n, SameSource, ap (λ m. tables.SameSource m) h.0, failed SameSource h.1)
  lines_fail (tables.NoSuchName k) h = inr (n, NoSuchName, ap (λ m. tables.NoSuchName m) h.0, failed NoSuchName h.1)
  lines_fail (tables.SameName k) h = inr (n, SameName, ap (λ m. tables.SameName m) h.0, failed SameName h.1)

pub lines_end : (n b : ℕ) (t : TableValue) (rest : List (List ℕ)) (total : WholeTable) → rest ≡ [] → with_lines n b t rest ≡ total → total ≡ Ok t
unfolding with_lines
lines_end n b t rest total e so_far = sym so_far ∙ ap (λ ls. with_lines n b t ls) e

-- reading begins after the version line
pub lines_begin : (properties : Properties) (m : Notation) (lines : List (List ℕ)) (v : Version) (n b : ℕ)
    (t : TableValue) (rest : List (List ℕ)) → version_of m lines ≡ Some v → n ≡ length (head_of m lines)
    → b ≡ size_of (head_of m lines)
    → t ≡ empty_table properties v → rest ≡ body_of m lines
    → with_lines (n + 1) b t rest ≡ table_of_lines properties m lines
lines_begin properties m lines v n b t rest e f g k i =
    ap (λ x. with_lines (x + 1) b t rest) f
    ∙ ap (λ x. with_lines (length (head_of m lines) + 1) x t rest) g
    ∙ ap (λ x. with_lines (length (head_of m lines) + 1) (size_of (head_of m lines)) x rest) k
    ∙ ap (λ x. with_lines (length (head_of m lines) + 1) (size_of (head_of m lines)) (empty_table properties v) x) i ∙ sym (read_by properties m lines (Some v) e)

-- a text that lacks its version is refused in its first line
pub lines_lack : (properties : Properties) (m : Notation) (lines : List (List ℕ)) → version_of m lines ≡ None → FailsIn (tables.Syntax 1) (table_of_lines properties m lines)
lines_lack properties m lines e = inr (1, Syntax, refl, read_by properties m lines None e)

-- so does the search for the first faulty line
pub faulty_begins : (properties : Properties) (m : Notation) (text : List ℕ) (v : Version) (b : ℕ) (t : TableValue)
    (rest : List (List ℕ)) → version_of m (raw_lines text) ≡ Some v → b ≡ size_of (head_of m (raw_lines text))
    → t ≡ empty_table properties v → rest ≡ body_of m (raw_lines text)
    → first_faulty b t rest ≡ faulty_line properties m text
unfolding faulty_line
faulty_begins properties m text v b t rest e g k i =
    let head = head_of m (raw_lines text) in
    ap (λ x. first_faulty x t rest) g ∙ ap (λ x. first_faulty (size_of head) x rest) k
    ∙ ap (first_faulty (size_of head) (empty_table properties v)) i
    ∙ sym (ap (λ o. faulty_after properties o head (body_of m (raw_lines text))) e)

pub faulty_lacks : (properties : Properties) (m : Notation) (text : List ℕ) → version_of m (raw_lines text) ≡ None → None ≡ faulty_line properties m text
unfolding faulty_line
faulty_lacks properties m text e = sym (ap (λ o. faulty_after properties o (head_of m (raw_lines text)) (body_of m (raw_lines text))) e)

-- a line leaves the version
pub same_version : (b : ℕ) (t u : TableValue) (line : List ℕ) → with_raw_line b t line ≡ Ok u → u.version ≡ t.version
unfolding with_definition with_line with_raw_line
same_version b t u line = by_length (is_too_long t.version b line)
  where
    of : {X F : Type 0} {r : Result X F} {f : X → TableValue} → (x : X) × (r ≡ Ok x) × (u ≡ f x)
        → ((x : X) → (f x).version ≡ t.version) → u.version ≡ t.version
    of read same = ap (λ x. x.version) read.2 ∙ same read.0

    by_form : (form : Result EntryForm LineFault) → (form >>= with_form_of t) ≡ Ok u → u.version ≡ t.version
    by_form (Ok form) e = of (ok_entries t u (with_form t.version t.definitions t.entries form) e) (λ all. refl)
    by_form (Err fault) e = absurd cc

    words : List (List ℕ)
    words = lexemes (strip_carriage_return line)

    by_keyword : (o : Option (Keyword × List (List ℕ))) → with_words t o words ≡ Ok u → u.version ≡ t.version
    by_keyword None e = by_form (form_in t.version words) e
    by_keyword (Some (k, after)) e = of (ok_defined t u (defined (room_for_definitions t) t.definitions k after) e)
        (λ d. refl)

    by_blanks : (b : Bool) → (if b then Ok t else with_words t (keyword_in t.version words) words) ≡ Ok u
        → u.version ≡ t.version
    by_blanks true e = let same : t ≡ u = cc in ap (λ x. x.version) (sym same)
    by_blanks false e = by_keyword (keyword_in t.version words) e

    by_length : (b : Bool) → (if b then Err Limit else with_line t (strip_carriage_return line)) ≡ Ok u
        → u.version ≡ t.version
    by_length true e = absurd cc
    by_length false e = by_blanks (is_skipped (strip_carriage_return line)) e

pub lines_counted : (lines : List (List ℕ)) → length lines ≤ size_of lines
lines_counted [] = omega arith
lines_counted (line ∷ lines) = omega (arith, size_of-cons line lines, lines_counted lines)
