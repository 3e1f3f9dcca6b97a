-- A refusal that is told, of a line or of a table.
use Rattle.std.proofs.Common.{◌≡◌, inl, inr, ℕ, List, [], ◌∷◌, Result, Err, Option, Some, None, sym, ap, subst, ◌∙◌, Bool}
use Rattle.idn_text.specs.declared.refusal.Refusal.{Refusal}
use Rattle.idn_text.specs.declared.refusal.Refusal.TheVariants.{Memory}
use Rattle.idn_text.specs.Lines.{Numbered}
use Rattle.idn2_options.specs.declared.command_line.form.Form.{Form}
use Rattle.idn2_refusals.specs.declared.cause.LineCause.{LineCause}
use Rattle.idn2_output.specs.Writing.{Held, Emits}
use Rattle.idn2_output.specs.declared.stop.Stop.{Stop}
use Rattle.idn2_output.specs.declared.stop.Stop.TheVariants as stop
use Rattle.idn_class.specs.declared.properties.Properties.{Properties}
use Rattle.variant_table.specs.declared.version.Notation.{Notation}
use Rattle.variant_table.specs.declared.fault.TableFault.{TableFault}
use Rattle.variant_table.specs.declared.fault.TableFault.TheVariants as tables
use Rattle.variant_table.specs.declared.fault.TableRefusal.{TableRefusal}
use Rattle.variant_table.specs.FaultyLines.{IsRefusalOf, fault_place, line_in}
use Rattle.idn2_refusals.specs.TableCauses.{fault_cause, refusal_cause, told_if}
use Rattle.idn2_refusals.specs.TableFaults.{told_of}
use Rattle.std.specs.Prelude.{MatchOption}
use Rattle.idn2_output.specs.declared.status.Status.{Status}
use Rattle.idn2_refusals.specs.Messages.{refusal_line, fault_line}

-- the cause is another text of the same
pub emits_cause : {A : Type 0} (old new : Held) (form : Form) (line : Numbered) (refusal : Refusal) (first second : Option LineCause) (r : Result A Stop) → first ≡ second
    → Emits old new (refusal_line form line refusal first ∷ []) r → Emits old new (refusal_line form line refusal second ∷ []) r
emits_cause old new form line refusal first second r same emits =
    subst (λ (cause : Option LineCause). Emits old new (refusal_line form line refusal cause ∷ []) r) same emits

module _ (properties : Properties) where
  -- a table that is not read: of lack of memory nothing is told, and of a fault of its text it is, with its cause, if causes are wanted
  abbrev pub IsTold : Form → Bool → Notation → List ℕ → TableFault → Held → Held → Result Status Stop → Option (ℕ × Refusal) → Type 0
  IsTold form wanted n text fault old new r told =
      MatchOption told ((r ≡ Err stop.Memory) × (new ≡ old)) (λ told. Emits old new (fault_line form told.0 told.1 (told_if wanted (fault_cause properties n text fault)) ∷ []) r)

  -- the cause that a call finds is that of the text
  pub told_as_is : (form : Form) (wanted : Bool) (n : Notation) (text : List ℕ) (refusal : TableRefusal) (old new : Held) (r : Result Status Stop) (told : ℕ × Refusal) (cause : Option LineCause)
      → IsRefusalOf properties n text refusal → told_of refusal.fault ≡ Some told
      → cause ≡ told_if wanted (refusal_cause text refusal.fault refusal.place (line_in refusal))
      → Emits old new (fault_line form told.0 told.1 cause ∷ []) r → IsTold form wanted n text refusal.fault old new r (told_of refusal.fault)
  told_as_is form wanted n text refusal old new r told cause refused is found emits =
      subst (λ (o : Option (ℕ × Refusal)). IsTold form wanted n text refusal.fault old new r o) (sym is)
      (subst (λ (c : Option LineCause). Emits old new (fault_line form told.0 told.1 c ∷ []) r) (found ∙ same refused) emits)
    where
      no_memory : refusal.fault ≡ tables.Memory → ⊥
      no_memory e = let clash : (let o : Option (ℕ × Refusal) = None in o) ≡ Some told = sym (ap told_of e) ∙ is in cc

      same : IsRefusalOf properties n text refusal → told_if wanted (refusal_cause text refusal.fault refusal.place (line_in refusal)) ≡ told_if wanted (fault_cause properties n text refusal.fault)
      same (inl memory) = absurd (no_memory memory)
      same (inr both) =
          ap (λ place. told_if wanted (refusal_cause text refusal.fault place (line_in refusal))) both.1
          ∙ ap (λ line. told_if wanted (refusal_cause text refusal.fault (fault_place properties n text refusal.fault) line)) both.0
