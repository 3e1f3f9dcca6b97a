-- The line that is told is the first faulty one.
use Rattle.std.proofs.Common.{◌≡◌, ℕ, ◌+◌, List, [], ◌∷◌, ◌++◌, length, Some, Result, Ok, Err, refl, sym, ap, ◌∙◌, append-nil, arith}
use Rattle.idn_text.specs.Lines.{raw_lines}
use Rattle.variant_table.specs.declared.version.Notation.{Notation}
use Rattle.variant_table.specs.Entries.{TableValue, empty_table}
use Rattle.variant_table.specs.Faults.{LineFault}
use Rattle.variant_table.specs.FaultyLines.{at_line, faulty_after, faulty_line, first_faulty, or_after}
use Rattle.variant_table.specs.Reading.{◌>>=◌, in_line, with_lines, with_raw_line}
use Rattle.variant_table.specs.Texts.{IsFirstFaulty}
use Rattle.variant_table.specs.Versions.{body_of, head_of, size_of}
use Rattle.variant_table.proofs.FaultLemmas.{told}
use Rattle.variant_table.proofs.FaultlessLemmas.{lines_read}
use Rattle.variant_table.proofs.ReadLemmas.{lines_end}
use Rattle.variant_table.proofs.SizeLemmas.{size_of-cons}
use Rattle.idn_class.specs.declared.properties.Properties.{Properties}

abbrev after_line : ℕ → ℕ → List ℕ → List (List ℕ) → Result TableValue LineFault → Result TableValue (ℕ × LineFault)
after_line n b line lines read = in_line n read >>= λ t. with_lines (n + 1) (b + length line + 1) t lines

-- after lines that lead to the table u, the next line is told, if reading it fails
next_told : (before : List (List ℕ)) (n b : ℕ) (t u : TableValue) (line : List ℕ) (after : List (List ℕ)) (kind : LineFault) → with_lines n b t before ≡ Ok u → with_raw_line (b + size_of before) u line ≡ Err kind
    → first_faulty b t (before ++ line ∷ after) ≡ Some (at_line (b + size_of before) u line)
unfolding first_faulty with_lines
next_told [] n b t u line after kind read fails =
    let same : t ≡ u = cc in
    let none : b + 0 ≡ b = omega arith in
    let here : with_raw_line b t line ≡ Err kind = ap (λ k. with_raw_line k t line) (sym none) ∙ ap (λ v. with_raw_line (b + 0) v line) same ∙ fails in
    ap (or_after (at_line b t line) (λ v. first_faulty (b + length line + 1) v after)) here ∙ ap (λ v. Some (at_line b v line)) same ∙ ap (λ k. Some (at_line k u line)) (sym none)
next_told (first ∷ before) n b t u line after kind read fails = by (λ m. next_told before (n + 1) (b + length first + 1) m u line after kind) (with_raw_line b t first) refl read
  where
    rest_of : List (List ℕ)
    rest_of = before ++ line ∷ after

    sum : b + size_of (first ∷ before) ≡ b + length first + 1 + size_of before
    sum = omega (arith, size_of-cons first before)

    by : ((m : TableValue) → with_lines (n + 1) (b + length first + 1) m before ≡ Ok u → with_raw_line (b + length first + 1 + size_of before) u line ≡ Err kind → first_faulty (b + length first + 1) m rest_of ≡ Some (at_line (b + length first + 1 + size_of before) u line))
        → (r : Result TableValue LineFault) → with_raw_line b t first ≡ r → after_line n b first before r ≡ Ok u → first_faulty b t (first ∷ rest_of) ≡ Some (at_line (b + size_of (first ∷ before)) u line)
    by later (Ok m) is rest =
        ap (or_after (at_line b t first) (λ v. first_faulty (b + length first + 1) v rest_of)) is ∙ later m rest (ap (λ k. with_raw_line k u line) (sym sum) ∙ fails) ∙ ap (λ k. Some (at_line k u line)) (sym sum)
    by later (Err fault) is rest = absurd (let clash : (let r : Result TableValue (ℕ × LineFault) = Err (n, fault) in r) ≡ Ok u = rest in cc)

pub first_faulty_told : (properties : Properties) (n : Notation) (text : List ℕ) (number : ℕ) (kind : LineFault) (f : IsFirstFaulty properties n text number kind) → faulty_line properties n text ≡ Some (at_line (size_of (head_of n (raw_lines text)) + size_of f.before) f.table f.line)
unfolding faulty_line
first_faulty_told properties n text number kind f =
    let head : List (List ℕ) = head_of n (raw_lines text) in
    let start : TableValue = empty_table f.table.definitions.properties f.table.version in
    let read : with_lines 1 (size_of head) start f.before ≡ Ok f.table =
    ap (with_lines 1 (size_of head) start) (sym (append-nil f.before)) ∙ lines_read 1 head f.before [] f.table f.read ∙ lines_end (1 + length f.before) (size_of head + size_of f.before) f.table [] _ refl refl in
    ap (λ o. faulty_after properties o head (body_of n (raw_lines text))) f.version
    ∙ ap (λ p. first_faulty (size_of head) (empty_table p f.table.version) (body_of n (raw_lines text))) (sym f.by_these)
    ∙ ap (first_faulty (size_of head) start) f.cut
    ∙ next_told f.before 1 (size_of head) start f.table f.line f.after kind read (told (size_of head + size_of f.before) f.table f.line kind f.faulty)
