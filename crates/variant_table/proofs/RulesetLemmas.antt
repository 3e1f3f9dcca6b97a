-- Tables of version 2 as rulesets, and that no text is both.
use Rattle.std.proofs.Common.{◌≡◌, inl, inr, ℕ, ◌+◌, ◌≤◌, Bool, true, false, cond, List, [], ◌∷◌, length, Option, Some, None, Ok, Err, refl, sym, ap, subst, ◌∙◌, arith, length-append}
use Rattle.std.specs.Prelude.{bytes_eq}
use Rattle.std.specs.List.{AllByRecursion}
use Rattle.std.specs.Str.Lines.{strip_carriage_return}
use Rattle.std.proofs.lemmas.List.Elements.{All-from_recursion, recursion_from_All}
use Rattle.std.proofs.lemmas.Slice.Eq.{bytes_eq-Decides}
use Rattle.idn_text.specs.Lines.{raw_lines}
use Rattle.idn_text.specs.Points.{point_of_hex}
use Rattle.variant_table.specs.declared.version.Notation.TheVariants.{Table, Ruleset}
use Rattle.variant_table.specs.declared.version.Version.{Version}
use Rattle.variant_table.specs.declared.version.Version.TheVariants.{One, Two, Three}
use Rattle.variant_table.specs.Faults.{LineFault, Limit, Syntax}
use Rattle.ruleset_text.specs.EntrySteps.{entry_in}
use Rattle.ruleset_text.specs.Definitions.{Definitions, nothing_defined}
use Rattle.ruleset_text.specs.Lexemes.{lexemes}
use Rattle.variant_table.specs.DefinitionLines.{keyword_in, Defines}
use Rattle.variant_table.specs.Entries.{Entry, TableValue, empty_table, table_of}
use Rattle.variant_table.specs.Canonical.{canonical_text, head_text, table_text, version_line}
use Rattle.variant_table.specs.Conditions.{is_too_long}
use Rattle.variant_table.specs.Limits.{text_limit}
use Rattle.variant_table.specs.WellFormed.{IsTable}
use Rattle.variant_table.specs.Texts.{AreLinesOf, LineSpells, LineAdds, LinesSpell, IsTextOf}
use Rattle.variant_table.specs.Versions.{body_of, head_of, version_of, is_version_line}
use Rattle.variant_table.specs.Reading.{◌>>=◌, in_line, with_line, with_raw_line, with_lines, table_in, table_of_lines}
use Rattle.variant_table.proofs.FaultlessLemmas.{read_by, text_read, whole_no}
use Rattle.variant_table.proofs.SizeLemmas.{adds_version, length-stripped, size_of-cons}
use Rattle.idn_class.specs.declared.properties.Properties.{Properties}
use Rattle.variant_table.proofs.VersionLemmas.{form_parts}

-- ---- a table of version 2 is a ruleset once its first line says so

line_three : (d : Definitions) (line : List ℕ) (entries : List Entry) → LineSpells Two d line entries → LineSpells Three d line entries
line_three d line entries (inl h) = inl h
line_three d line entries (inr (inl h)) = inr (inl h)
line_three d line entries (inr (inr h)) = inr (inr (h.0, (h.1.0, sym (form_parts Three h.0)), h.2, h.3))

-- a table as a ruleset
abbrev three : TableValue → TableValue
three t = record t { version = Three }

no_definition : (t : TableValue) (line : List ℕ) (d : Definitions) → t.version ≡ Two → Defines t line d → ⊥
no_definition t line d is (k, after, n, e) = by_version t.version is n
  where
    by_version : (v : Version) → v ≡ Two → keyword_in v (lexemes line) ≡ Some (k, after) → ⊥
    by_version One is n = cc
    by_version Two is n = cc
    by_version Three is n = cc

added_three : (t u : TableValue) (line : List ℕ) → t.version ≡ Two → LineAdds t line u → LineAdds (three t) line (three u)
added_three t u line two (inl (es, s, is)) = inl (es, line_three t.definitions line es (subst (λ v. LineSpells v t.definitions line es) two s), ap three is)
added_three t u line two (inr (d, s, is)) = absurd (no_definition t line d two s)

lines_three : (t u : TableValue) (lines : List (List ℕ)) → t.version ≡ Two → LinesSpell t lines u → LinesSpell (three t) lines (three u)
lines_three t u [] two s = ap three s
lines_three t u (line ∷ lines) two (m, adds, rest) =
    (three m, added_three t m (strip_carriage_return line) two adds, lines_three m u lines (adds_version t m (strip_carriage_return line) adds ∙ two) rest)

shorter : (lines : List (List ℕ)) → AllByRecursion (λ line. length line ≤ 1024) lines → AllByRecursion (λ line. length line ≤ 8192) lines
shorter [] h = tt
shorter (line ∷ lines) h = (omega (arith, h.0), shorter lines h.1)

as_ruleset : (properties : Properties) (entries : List Entry) → IsTable (table_of Two (nothing_defined properties) entries) → IsTable (table_of Three (nothing_defined properties) entries)
as_ruleset properties entries h = record {
  without_fault = h.without_fault;
  defined = tt;
  well_formed = h.well_formed;
  points = h.points;
  of_version = λ k d l. tt;
  named = h.named;
  few = omega (arith, h.few);
  short = omega (arith, h.short, length-append (head_text Two) (canonical_text (nothing_defined properties) entries), length-append (head_text Three) (canonical_text (nothing_defined properties) entries));
}

-- the lines after the version line spell the same entries after that of a ruleset, which is hardly longer
lines_as_three : (properties : Properties) (first second : List ℕ) (lines : List (List ℕ)) (entries : List Entry) → strip_carriage_return second ≡ version_line Ruleset → AreLinesOf (first ∷ []) lines (table_of Two (nothing_defined properties) entries) → AreLinesOf (second ∷ []) lines (table_of Three (nothing_defined properties) entries)
lines_as_three properties first second lines entries is h = record {
  spelled = lines_three (empty_table properties Two) (table_of Two (nothing_defined properties) entries) lines refl h.spelled;
  short = All-from_recursion (λ line. length line ≤ 8192) lines (shorter lines (recursion_from_All (λ line. length line ≤ 1024) lines h.short));
  size = omega (arith, h.size, size_of-cons first [], size_of-cons second [], (length-stripped second).1, ap (λ (l : List ℕ). length l) is);
  well_formed = as_ruleset properties entries h.well_formed;
}

pub as_three : (properties : Properties) (text other first second : List ℕ) (lines : List (List ℕ)) (entries : List Entry) → raw_lines text ≡ first ∷ lines → raw_lines other ≡ second ∷ lines
    → is_version_line Table first ≡ true → is_version_line Ruleset second ≡ true → IsTextOf properties Table text (table_of Two (nothing_defined properties) entries) → IsTextOf properties Ruleset other (table_of Three (nothing_defined properties) entries)
as_three properties text other first second lines entries cut cut_other is is_other h =
    let given : AreLinesOf (first ∷ []) lines (table_of Two (nothing_defined properties) entries) =
    subst (λ (b : Bool). AreLinesOf (cond b (first ∷ []) []) (cond b lines (first ∷ lines)) (table_of Two (nothing_defined properties) entries)) is
    (subst (λ (ls : List (List ℕ)). AreLinesOf (head_of Table ls) (body_of Table ls) (table_of Two (nothing_defined properties) entries)) cut h.lines) in
    let found = lines_as_three properties first second lines entries ((bytes_eq-Decides (strip_carriage_return second) (version_line Ruleset)).0 is_other) given in
    record {
      by_these = refl;
      version = subst (λ (ls : List (List ℕ)). version_of Ruleset ls ≡ Some Three) (sym cut_other) (ap (λ b. cond b (Some Three) None) is_other);
      lines = subst (λ (ls : List (List ℕ)). AreLinesOf (head_of Ruleset ls) (body_of Ruleset ls) (table_of Three (nothing_defined properties) entries)) (sym cut_other)
          (subst (λ (b : Bool). AreLinesOf (cond b (second ∷ []) []) (cond b lines (second ∷ lines)) (table_of Three (nothing_defined properties) entries)) (sym is_other) found);
    }

-- ---- no text is both

-- the first line of a ruleset spells nothing in a table
refused_line : (properties : Properties) → with_line (empty_table properties One) (version_line Ruleset) ≡ Err Syntax
unfolding point_of_hex entry_in with_line
refused_line properties = refl

refused_by : (properties : Properties) (line : List ℕ) (b : Bool) → is_too_long One 0 line ≡ b → strip_carriage_return line ≡ version_line Ruleset → (kind : LineFault) × (with_raw_line 0 (empty_table properties One) line ≡ Err kind)
unfolding with_raw_line
refused_by properties line true long is = (Limit, ap (λ b. cond b (Err Limit) (with_line (empty_table properties One) (strip_carriage_return line))) long)
refused_by properties line false long is = (Syntax, ap (λ b. cond b (Err Limit) (with_line (empty_table properties One) (strip_carriage_return line))) long ∙ ap (with_line (empty_table properties One)) is ∙ refused_line properties)

first_refused : (properties : Properties) (line : List ℕ) (lines : List (List ℕ)) (kind : LineFault) → with_raw_line 0 (empty_table properties One) line ≡ Err kind → table_in properties (Some One) [] (line ∷ lines) ≡ Err (1, kind)
unfolding with_lines
first_refused properties line lines kind e = ap (λ r. in_line 1 r >>= λ t. with_lines 2 (0 + length line + 1) t lines) e

refused_as_table : (properties : Properties) (line : List ℕ) (lines : List (List ℕ)) → strip_carriage_return line ≡ version_line Ruleset → (kind : LineFault) × (table_of_lines properties Table (line ∷ lines) ≡ Err (1, kind))
refused_as_table properties line lines is =
    let other : is_version_line Table line ≡ false = ap (λ l. bytes_eq l (version_line Table)) is in
    let refused = refused_by properties line (is_too_long One 0 line) refl is in (
      refused.0,
      read_by properties Table (line ∷ lines) (Some One) (ap (λ b. cond b (Some Two) (Some One)) other)
          ∙ ap (λ b. table_in properties (Some One) (cond b (line ∷ []) []) (cond b lines (line ∷ lines))) other ∙ first_refused properties line lines refused.0 refused.1,
    )

no_version : (v : Version) → (let o : Option Version = None in o) ≡ Some v → ⊥
no_version v e = cc

-- the lines of a ruleset begin with its version line
begins_ruleset : (properties : Properties) (lines : List (List ℕ)) (v : Version) (table : TableValue) → version_of Ruleset lines ≡ Some v → table_of_lines properties Table lines ≡ Ok table → ⊥
begins_ruleset properties [] v table named e = no_version v named
begins_ruleset properties (line ∷ lines) v table named e = by_cases (is_version_line Ruleset line) refl
  where
    by_cases : (b : Bool) → is_version_line Ruleset line ≡ b → ⊥
    by_cases true h =
        let refused = refused_as_table properties line lines ((bytes_eq-Decides (strip_carriage_return line) (version_line Ruleset)).0 h) in
        whole_no table (1, refused.0) (table_of_lines properties Table (line ∷ lines)) e refused.1
    by_cases false h = no_version v (sym (ap (λ b. cond b (Some Three) None) h) ∙ named)

pub not_both_notations : (properties other : Properties) (text : List ℕ) (a b : TableValue) → IsTextOf properties Table text a → IsTextOf other Ruleset text b → ⊥
not_both_notations properties other text a b h g = begins_ruleset properties (raw_lines text) b.version a g.version (text_read properties Table text a h)

-- ---- a ruleset is of version 3

ruleset-version : (lines : List (List ℕ)) (v : Version) → version_of Ruleset lines ≡ Some v → v ≡ Three
ruleset-version [] v named = absurd (no_version v named)
ruleset-version (line ∷ lines) v named = by_cases (is_version_line Ruleset line) refl
  where
    by_cases : (b : Bool) → is_version_line Ruleset line ≡ b → v ≡ Three
    by_cases true h = let e : Some Three ≡ Some v = sym (ap (λ b. cond b (Some Three) None) h) ∙ named in cc
    by_cases false h = absurd (no_version v (sym (ap (λ b. cond b (Some Three) None) h) ∙ named))

pub ruleset-within : (properties : Properties) (text : List ℕ) (table : TableValue) → IsTextOf properties Ruleset text table → length (table_text table.version table.definitions table.entries) ≤ 8388608
ruleset-within properties text table is =
    subst (λ v. length (table_text table.version table.definitions table.entries) ≤ text_limit v) (ruleset-version (raw_lines text) table.version is.version) is.lines.well_formed.short
