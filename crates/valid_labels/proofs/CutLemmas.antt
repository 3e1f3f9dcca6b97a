-- A label that is cut into entries, as a list and as steps from place to place.
use Rattle.std.proofs.Common.{◌≡◌, ℕ, ◌+◌, ◌-◌, ◌<◌, ◌≤◌, List, [], ◌∷◌, ◌++◌, length, take, drop, refl, sym, ap, subst, ◌∙◌, arith, length-append, length-drop, append-nil}
use Rattle.std.specs.Prelude.{Option}
use Rattle.std.specs.List.{AllByRecursion, Contains, flat_map, slice_range}
use Rattle.std.proofs.lemmas.List.Elements.{All-contains}
use Rattle.std.proofs.lemmas.Grind.{flat_map-append}
use Rattle.std.proofs.lemmas.List.{take_all, length-take-le}
use Rattle.label_patterns.specs.declared.condition.Condition.{Condition}
use Rattle.label_patterns.specs.Matches.{Rounds, no_round, one_more}
use Rattle.variant_table.specs.Entries.{Entry, replacements}
use Rattle.variant_table.specs.WellFormed.{IsEntry, IsSequence, IsWellFormed}
use Rattle.variant_table.proofs.MemberLists.{all-push}
use Rattle.valid_labels.proofs.PartLemmas.{part-length, first-part, first-inside, after-first, take-part}

pub rounds-map : (R S : ℕ → ℕ → Type 0) → ((i j : ℕ) → R i j → S i j) → (i j : ℕ) → Rounds R i j → Rounds S i j
rounds-map R S f i _ no_round = no_round
rounds-map R S f i _ (one_more k j rounds step) = one_more k j (rounds-map R S f i k rounds) (f k j step)

pub sequence-filled : (entries : List Entry) (e : Entry) (s : List ℕ) → IsWellFormed entries → Contains entries e → Contains (replacements e) s → 0 < length s
sequence-filled entries e s formed h r =
    let each : IsEntry e = All-contains IsEntry entries e formed.entries h in
    let one : IsSequence s = All-contains IsSequence (replacements e) s each.sequences r in
    omega (arith, one.filled)

-- the sources of entries, joined
abbrev pub sources : List Entry → List ℕ
sources es = flat_map (λ (e : Entry). e.source) es

-- what is asked of each entry is so where it stands
abbrev pub AllAsked : (Option Condition → ℕ → ℕ → Type 0) → ℕ → List Entry → Type 0
AllAsked A place [] = Unit {0}
AllAsked A place (e ∷ es) = A e.condition place (place + length e.source) × AllAsked A (place + length e.source) es

-- such an entry stands from i to j
abbrev pub EntryStands : (Entry → Type 0) → (Option Condition → ℕ → ℕ → Type 0) → List ℕ → ℕ → ℕ → Type 0
EntryStands Q A label i j = (e : Entry) × Q e × (i ≤ j) × (j ≤ length label) × (slice_range label i j ≡ e.source) × A e.condition i j

-- the label is cut into such entries
pub record IsCut (Q : Entry → Type 0) (A : Option Condition → ℕ → ℕ → Type 0) (label : List ℕ) (es : List Entry) : Type 0 where
  pub each : AllByRecursion Q es
  pub joined : sources es ≡ label
  pub asked : AllAsked A 0 es

module _ (Q : Entry → Type 0) (A : Option Condition → ℕ → ℕ → Type 0) (label : List ℕ) where
  from_place : (es : List Entry) (place : ℕ) → place ≤ length label → AllByRecursion Q es → drop place label ≡ sources es → AllAsked A place es
      → Rounds (EntryStands Q A label) 0 place → Rounds (EntryStands Q A label) 0 (length label)
  from_place [] place l each joined asked rounds =
      let d : length (drop place label) ≡ length label - place = length-drop place label in
      let none : length (drop place label) ≡ 0 = ap length joined in
      subst (Rounds (EntryStands Q A label) 0) (omega (arith, d, none, l)) rounds
  from_place (e ∷ es) place l each joined asked rounds =
      let inside = first-inside label place e.source (sources es) l joined in
      from_place es (place + length e.source) inside each.1 (after-first label place e.source (sources es) joined) asked.1
      (one_more place (place + length e.source) rounds (e, each.0, omega arith, inside, first-part label place e.source (sources es) joined, asked.0))

  pub steps-from_cut : (es : List Entry) → IsCut Q A label es → Rounds (EntryStands Q A label) 0 (length label)
  steps-from_cut es is = from_place es 0 (omega arith) is.each (sym is.joined) is.asked no_round

  -- one entry more at the end
  asked-push : (es : List Entry) (e : Entry) (place end : ℕ) → place + length (sources es) ≡ end → AllAsked A place es → A e.condition end (end + length e.source) → AllAsked A place (es ++ e ∷ [])
  asked-push [] e place end at asked is = (let same : end ≡ place = omega (arith, at) in subst (λ p. A e.condition p (p + length e.source)) same is, tt)
  asked-push (f ∷ es) e place end at asked is =
      (asked.0, asked-push es e (place + length f.source) end (let s = length-append f.source (sources es) in omega (arith, at, s)) asked.1 is)

  pub cut-from_steps : (j : ℕ) → j ≤ length label → Rounds (EntryStands Q A label) 0 j → (es : List Entry) × AllByRecursion Q es × (sources es ≡ take j label) × AllAsked A 0 es
  cut-from_steps _ l no_round = ([], tt, refl, tt)
  cut-from_steps _ l (one_more i j rounds step) =
      let e = step.0 in
      let before = cut-from_steps i (let m = step.2 in omega (arith, l, m)) rounds in
      let same : sources (before.0 ++ e ∷ []) ≡ take j label =
      flat_map-append (λ (x : Entry). x.source) before.0 (e ∷ []) ∙ ap (λ s. s ++ (e.source ++ [])) before.2 ∙ ap (λ s. take i label ++ s) (append-nil e.source ∙ sym step.4)
      ∙ sym (take-part label i j step.2) in
      let size : length (sources before.0) ≡ i = ap length before.2 ∙ length-take-le i label (let m = step.2 in omega (arith, l, m)) in
      let end : j ≡ i + length e.source = (let s : length e.source ≡ j - i = ap length (sym step.4) ∙ part-length label i j step.2 step.3 in let m = step.2 in omega (arith, s, m)) in
      (before.0 ++ e ∷ [], all-push Q before.0 e before.1 step.1, same, asked-push before.0 e 0 i (omega (arith, size)) before.3 (subst (λ k. A e.condition i k) end step.5))

  pub cut-steps : ((es : List Entry) × IsCut Q A label es) → Rounds (EntryStands Q A label) 0 (length label)
  cut-steps h = steps-from_cut h.0 h.1

  pub steps-cut : Rounds (EntryStands Q A label) 0 (length label) → (es : List Entry) × IsCut Q A label es
  steps-cut rounds =
      let cut = cut-from_steps (length label) (omega arith) rounds in
      (cut.0, record { each = cut.1; joined = cut.2 ∙ take_all (length label) label (omega arith); asked = cut.3 })
