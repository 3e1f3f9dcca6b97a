-- The states of reading an entry by their parts, and the words that lexemes are.
use Rattle.std.proofs.Common.{◌≡◌, ℕ, ◌≤◌, Bool, true, false, cond, List, [], ◌∷◌, ◌++◌, Option, Some, None, refl, ap}
use Rattle.std.specs.Prelude.{IsTrue, bytes_eq, codes}
use Rattle.std.proofs.lemmas.Slice.Eq.{bytes_eq-Decides}
use Rattle.idn_text.specs.Points.{is_scalar_value}
use Rattle.ruleset_text.specs.declared.named_condition.NamedCondition.{NamedCondition}
use Rattle.label_patterns.specs.declared.condition.ConditionKind.{ConditionKind}
use Rattle.label_patterns.specs.declared.condition.ConditionKind.TheVariants as condition
use Rattle.ruleset_text.specs.declared.entry_reading.EntryWord.{EntryWord}
use Rattle.ruleset_text.specs.declared.entry_reading.EntryWord.TheVariants as word
use Rattle.ruleset_text.specs.declared.entry_reading.Phase.{Phase}
use Rattle.ruleset_text.specs.declared.entry_reading.Phase.TheVariants as phase
use Rattle.ruleset_text.specs.Entries.{Mapped}
use Rattle.ruleset_text.specs.EntrySteps.{State, nothing, word_of, is_complete, ended}

-- ---- states

-- the source or variant of these parts
abbrev pub part : Bool → List ℕ → Option (List ℕ) → Option NamedCondition → Mapped
part marked points type_name condition = record { marked = marked; points = points; type_name = type_name; condition = condition }

-- what is read last of a source or a variant that is complete
abbrev pub phase_of : Option ℕ → Option (List ℕ) → Option NamedCondition → Phase
phase_of last type_name (Some c) = phase.Rule
phase_of last (Some name) None = phase.VariantType
phase_of (Some c) None None = phase.Last
phase_of None None None = phase.Point

abbrev pub kind_phase : ConditionKind → Phase
kind_phase condition.When = phase.When
kind_phase condition.Unless = phase.Unless

abbrev pub at : List Mapped → Option ℕ → Bool → List ℕ → Option (List ℕ) → Option NamedCondition → State
at done last marked points type_name condition = record { done = done; current = part marked points type_name condition; last = last; phase = phase_of last type_name condition }

-- before a source or a variant, and after a complete one
abbrev pub before : List Mapped → State
before done = record { done = done; current = nothing; last = None; phase = phase.Begin }

abbrev pub after : List Mapped → Option ℕ → Mapped → State
after done last m = at done last m.marked m.points m.type_name m.condition

-- a last code point may stand after what was read
abbrev pub MayEnd : List Mapped → Option ℕ → List ℕ → Type 0
MayEnd done None points = Unit {0}
MayEnd done (Some c) points = (done ≡ []) × IsTrue (is_scalar_value c) × ((first : ℕ) × (points ≡ first ∷ []) × (first ≤ c))

complete : (last : Option ℕ) (type_name : Option (List ℕ)) (condition : Option NamedCondition) → is_complete (phase_of last type_name condition) ≡ true
complete last type_name (Some c) = refl
complete last (Some name) None = refl
complete (Some c) None None = refl
complete None None None = refl

pub form_at : (done : List Mapped) (last : Option ℕ) (m : Mapped) → ended (after done last m) ≡ Some (record { mapped = done ++ m ∷ []; last = last })
form_at done last m = ap (λ b. cond b (Some (record { mapped = done ++ m ∷ []; last = last })) None) (complete last m.type_name m.condition)

-- ---- words

-- the lexeme is spelled as the word is
abbrev pub IsSpelled : EntryWord → List ℕ → Type 0
IsSpelled word.Mark w = w ≡ codes "!"
IsSpelled word.Hyphen w = w ≡ codes "-"
IsSpelled word.Bar w = w ≡ codes "|"
IsSpelled word.Colon w = w ≡ codes ":"
IsSpelled word.Range w = w ≡ codes ".."
IsSpelled word.As w = w ≡ codes "as"
IsSpelled word.When w = w ≡ codes "when"
IsSpelled word.Unless w = w ≡ codes "unless"
IsSpelled word.Other w = Unit {0}

spelled_if : (w text : List ℕ) (is other : EntryWord) → (w ≡ text → IsSpelled is w) → IsSpelled other w → IsSpelled (cond (bytes_eq w text) is other) w
spelled_if w text is other here there = by_test (bytes_eq w text) refl
  where
    by_test : (b : Bool) → bytes_eq w text ≡ b → IsSpelled (cond b is other) w
    by_test true e = here ((bytes_eq-Decides w text).0 e)
    by_test false e = there

pub spelled : (w : List ℕ) → IsSpelled (word_of w) w
spelled w =
    let not_when : EntryWord = cond (bytes_eq w (codes "unless")) word.Unless word.Other in
    let not_as : EntryWord = cond (bytes_eq w (codes "when")) word.When not_when in
    let not_range : EntryWord = cond (bytes_eq w (codes "as")) word.As not_as in
    let not_colon : EntryWord = cond (bytes_eq w (codes "..")) word.Range not_range in
    let not_bar : EntryWord = cond (bytes_eq w (codes ":")) word.Colon not_colon in
    let not_hyphen : EntryWord = cond (bytes_eq w (codes "|")) word.Bar not_bar in
    let not_mark : EntryWord = cond (bytes_eq w (codes "-")) word.Hyphen not_hyphen in
    spelled_if w (codes "!") word.Mark not_mark (λ e. e)
    (spelled_if w (codes "-") word.Hyphen not_hyphen (λ e. e)
    (spelled_if w (codes "|") word.Bar not_bar (λ e. e)
    (spelled_if w (codes ":") word.Colon not_colon (λ e. e)
    (spelled_if w (codes "..") word.Range not_range (λ e. e)
    (spelled_if w (codes "as") word.As not_as (λ e. e)
    (spelled_if w (codes "when") word.When not_when (λ e. e)
    (spelled_if w (codes "unless") word.Unless word.Other (λ e. e) tt)))))))
