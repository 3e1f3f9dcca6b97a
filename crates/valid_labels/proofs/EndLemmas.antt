-- Where sources end that stand at a place.
use Rattle.std.proofs.Common.{◌≡◌, ℕ, ◌+◌, ◌-◌, ◌≤◌, ◌⊎◌, inl, inr, Bool, List, [], ◌∷◌, ◌++◌, length, drop, sym, ap, subst, ◌∙◌, arith}
use Rattle.std.specs.Prelude.{◌↔◌, IsTrue}
use Rattle.std.specs.List.{Contains, slice_range}
use Rattle.std.proofs.lemmas.List.{take-append-drop}
use Rattle.label_patterns.specs.Places.{Has}
use Rattle.label_patterns.proofs.PlaceLemmas.{not-in-none}
use Rattle.variant_table.specs.Entries.{Entry}
use Rattle.variant_table.specs.Places.{AreEntriesAt, BeginsAt}
use Rattle.variant_table.proofs.MemberLemmas.{Contains-head, Contains-later, Contains-none, Contains-cases}
use Rattle.valid_labels.specs.inner.Steps.{SourceIs}
use Rattle.valid_labels.proofs.PartLemmas.{part-length, first-part, first-inside}

-- ---- entries, taken one after the other

module _ (asks : Entry → ℕ → ℕ → Type 0) (place : ℕ) where
  -- the ends of those of all entries that aren't left
  pub record EntriesDone (all left : List Entry) (ends : ℕ) : Type 0 where
    pub rest : (e : Entry) → Contains left e → Contains all e
    pub sound : (j : ℕ) → Has ends j → (e : Entry) × Contains all e × (j ≡ place + length e.source) × asks e place j
    pub done : (e : Entry) → Contains all e → asks e place (place + length e.source) → Contains left e ⊎ Has ends (place + length e.source)

  pub none-done : (all : List Entry) → EntriesDone all all 0
  none-done all = record { rest = λ e h. h; sound = λ j h. absurd (not-in-none j h); done = λ e h a. inl h }

  pub one-done : (all left : List Entry) (e : Entry) (rest : List Entry) (ends more end : ℕ) (so : Bool) → left ≡ e ∷ rest → end ≡ place + length e.source → IsTrue so ↔ asks e place end
      → ((p : ℕ) → Has more p ↔ (Has ends p ⊎ (IsTrue so × (p ≡ end)))) → EntriesDone all left ends → EntriesDone all rest more
  one-done all left e rest ends more end so next at tells with_end before = record {
    rest = λ f h. before.rest f (subst (λ es. Contains es f) (sym next) (Contains-later e rest f h));
    sound = λ j h. elim ((with_end j).0 h) [
      | inl old ↦ before.sound j old
      | inr new ↦ (e, before.rest e (subst (λ es. Contains es e) (sym next) (Contains-head e rest)), new.1 ∙ at, subst (asks e place) (sym new.1) (tells.0 new.0))
    ];
    done = λ f h a. elim (before.done f h a) [
      | inl left_is ↦ elim (Contains-cases e rest f (subst (λ es. Contains es f) next left_is)) [
        | inl same ↦
            let here : asks e place end = subst (asks e place) (sym at) (subst (λ (x : Entry). asks x place (place + length x.source)) (sym same) a) in
            let place_is : place + length f.source ≡ end = ap (λ (x : Entry). place + length x.source) (sym same) ∙ sym at in
            inr ((with_end (place + length f.source)).1 (inr (tells.1 here, place_is)))
        | inr later ↦ inl later
      ]
      | inr old ↦ inr ((with_end (place + length f.source)).1 (inl old))
    ];
  }

-- what begins a label at a place is a part of it
pub part-begins : (label : List ℕ) (i j : ℕ) (e : Entry) → slice_range label i j ≡ e.source → BeginsAt label i e
part-begins label i j e is = (drop (j - i) (drop i label), sym (take-append-drop (j - i) (drop i label)) ∙ ap (λ s. s ++ drop (j - i) (drop i label)) is)

pub all-done : (asks : Entry → ℕ → ℕ → Type 0) (entries : List Entry) (label : List ℕ) (place : ℕ) (all left : List Entry) (ends : ℕ) → AreEntriesAt entries label place all → place ≤ length label → left ≡ []
    → EntriesDone asks place all left ends → (j : ℕ) → Has ends j ↔ SourceIs asks entries label place j
all-done asks entries label place all left ends are l over is j = (
  λ h.
      let g = is.sound j h in
      let m = (are.members g.0).0 g.1 in
      let inside = first-inside label place g.0.source m.1.0 l m.1.1 in
      let same = first-part label place g.0.source m.1.0 m.1.1 in
      subst (λ k. SourceIs asks entries label place k) (sym g.2) (g.0, m.0, omega arith, inside, same, subst (asks g.0 place) g.2 g.3),
  λ h.
      let e = h.0 in
      let size : length e.source ≡ j - place = ap length (sym h.4) ∙ part-length label place j h.2 h.3 in
      let end : j ≡ place + length e.source = (let m = h.2 in omega (arith, size, m)) in
      elim (is.done e ((are.members e).1 (h.1, part-begins label place j e h.4)) (subst (asks e place) end h.5)) [
        | inl none ↦ absurd (Contains-none e (subst (λ es. Contains es e) over none))
        | inr has ↦ subst (Has ends) (sym end) has
      ],
)

-- the next entry ends within the label
pub entry-inside : (asks : Entry → ℕ → ℕ → Type 0) (place : ℕ) (entries : List Entry) (label : List ℕ) (all left : List Entry) (e : Entry) (rest : List Entry) (ends : ℕ) → AreEntriesAt entries label place all → place ≤ length label
    → left ≡ e ∷ rest → EntriesDone asks place all left ends → place + length e.source ≤ length label
entry-inside asks place entries label all left e rest ends are l next is =
    let m = ((are.members e).0 (is.rest e (subst (λ es. Contains es e) (sym next) (Contains-head e rest)))).1 in
    first-inside label place e.source m.0 l m.1
