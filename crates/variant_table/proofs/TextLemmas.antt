-- The function that reads gives exactly what the definitions say of a text.
use Rattle.std.proofs.Common.{◌≡◌, ◌⊎◌, inl, inr, ℕ, ◌+◌, List, ◌∷◌, length, Option, Some, None, Ok, Err, refl, sym, ap, ◌∙◌, arith}
use Rattle.idn_text.specs.Lines.{raw_lines}
use Rattle.variant_table.specs.Faults.{LineFault, Syntax}
use Rattle.variant_table.specs.declared.version.Notation.{Notation}
use Rattle.variant_table.specs.declared.version.Version.{Version}
use Rattle.variant_table.specs.declared.fault.TableFault.{TableFault}
use Rattle.variant_table.specs.declared.fault.TableFault.TheVariants.{Memory}
use Rattle.variant_table.specs.Entries.{TableValue, empty_table}
use Rattle.variant_table.specs.Texts.{IsTextOf, IsFirstFaulty, IsFaultOf, IsToldOf}
use Rattle.variant_table.specs.Versions.{version_of, head_of, body_of, size_of}
use Rattle.variant_table.specs.Reading.{with_lines, table_of_text}
use Rattle.variant_table.specs.inner.ReadingSteps.{FailsIn}
use Rattle.variant_table.proofs.FaultlessLemmas.{WholeTable, step_of, empty_sound, outcome, head_within, well_formed_lines, spells_properties, lines_read, read_by, text_read, whole_ok, whole_no, whole_err, read_text}
use Rattle.variant_table.proofs.FaultLemmas.{line_fault_is, told}
use Rattle.idn_class.specs.declared.properties.Properties.{Properties}

-- ---- the fault of a text

first_faulty_read : (properties : Properties) (n : Notation) (text : List ℕ) (number : ℕ) (kind : LineFault) → IsFirstFaulty properties n text number kind → table_of_text properties n text ≡ Err (number, kind)
first_faulty_read properties n text number kind f =
    let head : List (List ℕ) = head_of n (raw_lines text) in
    let k : ℕ = length head + 1 in
    let bytes : ℕ = size_of head in
    let read = f.read in
    read_by properties n (raw_lines text) (Some f.table.version) f.version
    ∙ ap (λ p. with_lines k bytes (empty_table p f.table.version) (body_of n (raw_lines text))) (sym f.by_these)
    ∙ ap (with_lines k bytes (empty_table f.table.definitions.properties f.table.version)) f.cut ∙ lines_read k head f.before (f.line ∷ f.after) f.table read
    ∙ step_of (k + length f.before) (bytes + size_of f.before) f.table f.line f.after (Err kind)
    (told (bytes + size_of f.before) f.table f.line kind f.faulty)
    ∙ ap (λ m. Err (m, kind)) (let z : k + length f.before ≡ number = omega (arith, f.numbered) in z)

pub fault_read : (properties : Properties) (n : Notation) (text : List ℕ) (number : ℕ) (kind : LineFault) → IsFaultOf properties n text number kind → table_of_text properties n text ≡ Err (number, kind)
fault_read properties n text number kind (inl lacks) =
    read_by properties n (raw_lines text) None lacks.0 ∙ ap (λ m. Err (m, Syntax)) (sym lacks.1) ∙ ap (λ k. Err (number, k)) (sym lacks.2)
fault_read properties n text number kind (inr f) = first_faulty_read properties n text number kind f

read_with : (properties : Properties) (n : Notation) (text : List ℕ) (number : ℕ) (kind : LineFault) (o : Option Version) → version_of n (raw_lines text) ≡ o → table_of_text properties n text ≡ Err (number, kind) → IsFaultOf properties n text number kind
read_with properties n text number kind None is e =
    let same = whole_err number 1 kind Syntax (table_of_text properties n text) e (read_by properties n (raw_lines text) None is) in inl (is, same.0, same.1)
read_with properties n text number kind (Some v) is e =
    let head : List (List ℕ) = head_of n (raw_lines text) in
    let k : ℕ = length head + 1 in
    let read = read_by properties n (raw_lines text) (Some v) is in
    elim (outcome (body_of n (raw_lines text)) k (size_of head) (empty_table properties v) (empty_sound properties v)) [
      | inl d ↦ whole_no d.table (number, kind) (table_of_text properties n text) (read ∙ d.is) e
      | inr f ↦
          let same = whole_err (k + length f.before) number f.kind kind (table_of_text properties n text) (read ∙ f.is) e in
          inr (record {
            before = f.before;
            line = f.line;
            after = f.after;
            table = f.table;
            by_these = spells_properties f.before (empty_table properties v) f.table f.added.spelled;
            version = is ∙ ap (λ w. Some w) (sym f.added.version);
            cut = f.cut;
            numbered = omega (arith, same.0);
            read = well_formed_lines properties v head f.before f.table (head_within n v (raw_lines text)) f.added;
            faulty = line_fault_is (size_of head + size_of f.before) f.table f.line kind (f.faulty ∙ ap (λ k. Err k) same.1);
          })
    ]

pub read_fault : (properties : Properties) (n : Notation) (text : List ℕ) (number : ℕ) (kind : LineFault) → table_of_text properties n text ≡ Err (number, kind) → IsFaultOf properties n text number kind
read_fault properties n text number kind e = read_with properties n text number kind (version_of n (raw_lines text)) refl e

-- ---- one table or one fault

decided : (properties : Properties) (n : Notation) (text : List ℕ) (r : WholeTable) → table_of_text properties n text ≡ r → ((table : TableValue) × IsTextOf properties n text table) ⊎ ((line : ℕ) × (kind : LineFault) × IsFaultOf properties n text line kind)
decided properties n text (Ok table) e = inl (table, read_text properties n text table e)
decided properties n text (Err f) e = inr (f.0, f.1, read_fault properties n text f.0 f.1 e)

pub text_decided : (properties : Properties) (n : Notation) (text : List ℕ) → ((table : TableValue) × IsTextOf properties n text table) ⊎ ((line : ℕ) × (kind : LineFault) × IsFaultOf properties n text line kind)
text_decided properties n text = decided properties n text (table_of_text properties n text) refl

pub not_both : (properties : Properties) (n : Notation) (text : List ℕ) (table : TableValue) (line : ℕ) (kind : LineFault) → IsTextOf properties n text table → IsFaultOf properties n text line kind → ⊥
not_both properties n text table line kind h f = whole_no table (line, kind) (table_of_text properties n text) (text_read properties n text table h) (fault_read properties n text line kind f)

pub one_table : (properties : Properties) (n : Notation) (text : List ℕ) (a b : TableValue) → IsTextOf properties n text a → IsTextOf properties n text b → a ≡ b
one_table properties n text a b h k = whole_ok a b (table_of_text properties n text) (text_read properties n text a h) (text_read properties n text b k)

pub one_fault : (properties : Properties) (o : Notation) (text : List ℕ) (m n : ℕ) (f g : LineFault) → IsFaultOf properties o text m f → IsFaultOf properties o text n g → (m ≡ n) × (f ≡ g)
one_fault properties o text m n f g h k = whole_err m n f g (table_of_text properties o text) (fault_read properties o text m f h) (fault_read properties o text n g k)

-- ---- what a call tells

pub told_of : (properties : Properties) (n : Notation) (text : List ℕ) (fault : TableFault) → FailsIn fault (table_of_text properties n text) → IsToldOf properties n text fault
told_of properties n text fault (inl m) = inl m
told_of properties n text fault (inr f) = inr (f.0, f.1, f.2, read_fault properties n text f.0 f.1 f.3)

pub memory_alone : (properties : Properties) (n : Notation) (text : List ℕ) (table : TableValue) (fault : TableFault) → IsTextOf properties n text table → FailsIn fault (table_of_text properties n text) → fault ≡ Memory
memory_alone properties n text table fault h (inl m) = m
memory_alone properties n text table fault h (inr f) = whole_no table (f.0, f.1) (table_of_text properties n text) (text_read properties n text table h) f.3
