-- The table of a run.
use Rattle.std.proofs.Common.{◌≡◌, ◌⊎◌, inl, inr, ℕ, Bool, true, false, List, Result, Option, Some, None, Err, IfOk, [], ◌∷◌, refl, sym, ap, subst, ◌∙◌}
use Rattle.idn_class.specs.declared.properties.Properties.{Properties}
use Rattle.idn_text.specs.declared.refusal.Refusal.{Refusal}
use Rattle.variant_table.specs.declared.version.Notation.{Notation}
use Rattle.variant_table.specs.Entries.{TableValue}
use Rattle.variant_table.specs.Texts.{IsTextOf, IsToldOf}
use Rattle.variant_table.specs.Faults.{table_fault, LineFault}
use Rattle.variant_table.specs.Faults as kinds
use Rattle.variant_table.specs.declared.fault.TableFault.{TableFault}
use Rattle.variant_table.specs.WellFormed.{IsTable}
use Rattle.lgr_table.specs.Texts as xml
use Rattle.lgr_table.specs.declared.fault.TableError.TheVariants.{Fault}
use Rattle.lgr_table.specs.declared.fault.TableFault as xml_faults
use Rattle.idn2_answers.specs.Transcript.{GivesFault, GivesTable, HasFault, IsReadAs, IsTableIn, is_in_xml, ruleset_refusal, table_refusal, check_output}
use Rattle.idn2_refusals.specs.Messages.{fault_line}
use Rattle.idn2_refusals.specs.TableCauses.{fault_cause, told_if}
use Rattle.idn2_refusals.proofs.ToldRefusals.{IsTold}
use Rattle.idn2_refusals.specs.TableFaults.{told_of}
use Rattle.idn2_refusals.specs.declared.cause.LineCause.{LineCause}
use Rattle.idn2_output.specs.Writing.{Held, Emits}
use Rattle.idn2_options.specs.declared.command_line.form.Form.{Form}
use Rattle.idn2_output.specs.declared.status.Status.{Status}
use Rattle.idn2_output.specs.declared.status.Status.TheVariants.{Unusable}
use Rattle.idn2_cli.specs.inner.UnreadTables.{TellsFault}
use Rattle.idn2_output.specs.declared.stop.Stop.{Stop}
use Rattle.idn2_output.specs.declared.stop.Stop.TheVariants as stop

-- ---- a text of lines gives what it spells, and each table is well-formed

module _ (properties : Properties) (n : Notation) (text : List ℕ) where
  module _ (table : TableValue) where
    pub table_in_lines : is_in_xml n text ≡ false → IsTableIn properties n text table → IsTextOf properties n text table
    table_in_lines lines given = subst (λ (b : Bool). GivesTable b properties n text table) lines given

    pub formed_by : (b : Bool) → GivesTable b properties n text table → IsTable table
    formed_by true given = given.is.says.well_formed
    formed_by false given = given.lines.well_formed

    pub formed : IsTableIn properties n text table → IsTable table
    formed given = formed_by (is_in_xml n text) given

  -- the other way round
  pub given_by : (b : Bool) (table : TableValue) → is_in_xml n text ≡ b → GivesTable b properties n text table → IsTableIn properties n text table
  given_by b table is given = subst (λ (x : Bool). GivesTable x properties n text table) (sym is) given

  pub faulty_by : (b : Bool) (fault : ℕ × Refusal × Option LineCause) → is_in_xml n text ≡ b → GivesFault b properties n text fault → HasFault properties n text fault
  faulty_by b fault is faulty = subst (λ (x : Bool). GivesFault x properties n text fault) (sym is) faulty

  pub fault_in_lines : (fault : ℕ × Refusal × Option LineCause) → is_in_xml n text ≡ false → HasFault properties n text fault → GivesFault false properties n text fault
  fault_in_lines fault lines has = subst (λ (b : Bool). GivesFault b properties n text fault) lines has

told_of-fault : (line : ℕ) (kind : LineFault) → told_of (table_fault line kind) ≡ Some (line, table_refusal kind)
told_of-fault line kinds.Limit = refl
told_of-fault line kinds.Syntax = refl
told_of-fault line kinds.BadClass = refl
told_of-fault line kinds.SameVariant = refl
told_of-fault line kinds.SameSource = refl
told_of-fault line kinds.NoSuchName = refl
told_of-fault line kinds.SameName = refl

from_some : (a b : ℕ × Refusal) → (let o : Option (ℕ × Refusal) = Some a in o) ≡ Some b → a ≡ b
from_some a b e = cc

module _ (properties : Properties) where
  -- what is told of a text that is no table
  pub told_read : (n : Notation) (text : List ℕ) (fault : TableFault) (told : ℕ × Refusal) → is_in_xml n text ≡ false → IsToldOf properties n text fault → told_of fault ≡ Some told → IsReadAs properties n text (Err (told.0, told.1, fault_cause properties n text fault))
  told_read n text fault told lines (inl e) is = absurd (none (sym (ap told_of e) ∙ is))
    where
      none : (let o : Option (ℕ × Refusal) = None in o) ≡ Some told → ⊥
      none e = cc
  told_read n text fault told lines (inr f) is =
      let same : (f.0, table_refusal f.1) ≡ told = from_some (f.0, table_refusal f.1) told (sym (told_of-fault f.0 f.1) ∙ sym (ap told_of f.2) ∙ is) in
      subst (λ (b : Bool). GivesFault b properties n text (told.0, told.1, fault_cause properties n text fault)) (sym lines)
      (subst (λ (t : ℕ × Refusal). GivesFault false properties n text (t.0, t.1, fault_cause properties n text fault)) same (f.1, refl, f.3, ap (fault_cause properties n text) f.2))

  pub refused_table : (form : Form) (wanted : Bool) (n : Notation) (text : List ℕ) (fault : TableFault) (old new : Held) (r : Result Status Stop) → is_in_xml n text ≡ false → IsToldOf properties n text fault
      → IsTold properties form wanted n text fault old new r (told_of fault)
      → ((r ≡ Err stop.Memory) × (new ≡ old)) ⊎ ((told : ℕ × Refusal × Option LineCause) × IsReadAs properties n text (Err told) × Emits old new (check_output form wanted (Err told)) r)
  refused_table form wanted n text fault old new r lines is = by (told_of fault) refl
    where
      by : (o : Option (ℕ × Refusal)) → told_of fault ≡ o → IsTold properties form wanted n text fault old new r o
          → ((r ≡ Err stop.Memory) × (new ≡ old)) ⊎ ((told : ℕ × Refusal × Option LineCause) × IsReadAs properties n text (Err told) × Emits old new (check_output form wanted (Err told)) r)
      by None e memory = inl memory
      by (Some told) e written = inr ((told.0, told.1, fault_cause properties n text fault), told_read n text fault told lines is e, written)

-- no cause is told where there is none
pub no_cause : (wanted : Bool) → told_if wanted None ≡ None
no_cause true = refl
no_cause false = refl

module _ (form : Form) (wanted : Bool) (properties : Properties) (n : Notation) (text : List ℕ) (old new : Held) (r : Result Status Stop) where
  -- what is told of lines
  pub tells_lines : (fault : TableFault) → is_in_xml n text ≡ false → IsToldOf properties n text fault → IsTold properties form wanted n text fault old new r (told_of fault)
      → IfOk r (λ status. status ≡ Unusable) → TellsFault form wanted properties n text old new r
  tells_lines fault lines is told unusable = elim (refused_table properties form wanted n text fault old new r lines is told) [
    | inl memory ↦ inl memory
    | inr t ↦ inr (t.0, t.1, t.2, unusable)
  ]

  -- and of a ruleset in XML
  pub tells_ruleset : (fault : xml_faults.TableFault) (line : ℕ) → is_in_xml n text ≡ true → xml.IsToldOf properties text (Fault fault line)
      → Emits old new (fault_line form line (ruleset_refusal fault) None ∷ []) r → IfOk r (λ status. status ≡ Unusable) → TellsFault form wanted properties n text old new r
  tells_ruleset fault line is told writes unusable =
      let given : ℕ × Refusal × Option LineCause = (line, ruleset_refusal fault, None) in
      inr (
        given,
        faulty_by properties n text true given is (fault, refl, told, refl),
        subst (λ (cause : Option LineCause). Emits old new (fault_line form line (ruleset_refusal fault) cause ∷ []) r) (sym (no_cause wanted)) writes,
        unusable,
      )
