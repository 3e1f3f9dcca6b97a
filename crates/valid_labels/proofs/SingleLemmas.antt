-- Single code points, and where they stand.
use Rattle.std.proofs.Common.{get_or, set, take, replicate, ◌≤◌, ◌+◌, ◌-◌, ◌≡◌, ℕ, ◌<◌, ◌⊎◌, inl, inr, List, [], ◌∷◌, length, refl, sym, ap, subst, ◌∙◌, arith}
use Rattle.std.specs.Prelude.{◌↔◌, Option, Some, None}
use Rattle.std.specs.List.{Contains}
use Rattle.std.proofs.lemmas.Bool.{cases_order}
use Rattle.std.proofs.lemmas.List.{get_or-take, get_or-set_same, get_or-set_other, get_or-replicate, get_or_past, length-replicate}
use Rattle.label_patterns.specs.declared.condition.Condition.{Condition}
use Rattle.label_patterns.specs.declared.condition.ConditionKind.{ConditionKind}
use Rattle.label_patterns.specs.declared.condition.ConditionKind.TheVariants.{When, Unless}
use Rattle.label_patterns.specs.Barring.{IsBarred}
use Rattle.label_patterns.specs.Conditions.{rule_at}
use Rattle.label_patterns.specs.Matches.{Seen}
use Rattle.label_patterns.specs.Patterns.{Pattern}
use Rattle.label_patterns.specs.Places.{Has}
use Rattle.label_patterns.specs.Rules.{Holds}
use Rattle.label_patterns.proofs.PlaceLemmas.{not-in-none}
use Rattle.ruleset_text.specs.Definitions.{Definitions}
use Rattle.variant_table.specs.Entries.{Entry, TableValue}
use Rattle.variant_table.specs.Singles as sources
use Rattle.variant_table.specs.WellFormed.{IsWellFormed}
use Rattle.variant_table.proofs.BeginningLemmas.{same_entry}
use Rattle.valid_labels.specs.declared.single_places.SinglePlaces.{SinglePlaces}
use Rattle.valid_labels.specs.declared.cutting.SingleSteps.{SingleSteps}
use Rattle.variant_table.specs.Segmentations.{seen_under}
use Rattle.valid_labels.specs.inner.Singles.{asked_at, places_of_kind, AreHoldingSteps, AreSingles, IsSingle}
use Rattle.valid_labels.specs.inner.Steps.{AreSteps, SourceIs}
use Rattle.valid_labels.specs.Eligible.{LongestLeads}
use Rattle.valid_labels.proofs.EligibleLemmas.{begins-within, source-filled, leads-entry}
use Rattle.valid_labels.proofs.EndLemmas.{part-begins}
use Rattle.valid_labels.proofs.PartLemmas.{part-length, first-part}
use Rattle.valid_labels.proofs.SegmentationLemmas.{HoldsIn}
use Rattle.valid_labels.proofs.StepLemmas.{single-steps}

-- the source of an entry with which no longer source begins
pub single-point : (table : TableValue) (point : ℕ) (e : Entry) → IsWellFormed table.entries → sources.IsSingle table.entries point e → IsSingle table point e.condition
single-point table point e formed single = record {
  formed = formed;
  segment = (e, single.in_table, single.alone, refl);
  alone = λ rest c a. by_rest rest c a.0 a.1 a.2 a.3;
}
  where
    by_rest : (r : List ℕ) (c : Option Condition) (f : Entry) → Contains table.entries f → f.source ≡ point ∷ r → f.condition ≡ c → (r ≡ []) × (c ≡ e.condition)
    by_rest [] c f h is asks = (refl, sym asks ∙ ap (λ (x : Entry). x.condition) (same_entry table.entries f e formed.sources h single.in_table (is ∙ sym single.alone)))
    by_rest (d ∷ r) c f h is asks = absurd (single.longest f d r h is)

-- where no entry is such, no code point is single
pub no_single-point : (table : TableValue) (point : ℕ) → ((e : Entry) → ¬ sources.IsSingle table.entries point e) → (c : Option Condition) → ¬ IsSingle table point c
no_single-point table point none c single =
    let s = single.segment in
    none s.0 (record {
      in_table = s.1;
      alone = s.2;
      longest = λ f d rest h is. (let more = (single.alone (d ∷ rest) f.condition (f, h, is, refl)).0 in cc);
    })

-- ---- steps from single places

-- from a single code point the longest source that stands is that code point, if it may stand there
single-longest : (table : TableValue) (label : List ℕ) → IsWellFormed table.entries → (i : ℕ) (d : Option Condition) → i < length label → IsSingle table (get_or label i 0) d → (j : ℕ) → LongestLeads table label i j ↔ ((j ≡ i + 1) × HoldsIn table label d i (i + 1))
single-longest table label formed i d l single j =
    let steps = λ (k : ℕ). single-steps (HoldsIn table label) table label i d l single k in (
      λ h. (let s = leads-entry table label formed i j h in (steps j).0 s),
      λ h.
          let s = (steps j).1 h in
          let e = s.0 in
          let le = s.2 in
          let size : length e.source ≡ j - i = ap length (sym s.4) ∙ part-length label i j s.2 s.3 in
          let end : j ≡ i + length e.source = omega (arith, size, le) in (
            e,
            record {
              stands = record { of_table = s.1; begins = part-begins label i j e s.4; holds = subst (HoldsIn table label e.condition i) end s.5 };
              longest = λ f stands.
                  let within = begins-within label i f (source-filled table.entries f formed stands.of_table) stands.begins in
                  let one = ((steps (i + length f.source)).0 (f, stands.of_table, omega arith, within, first-part label i f.source stands.begins.0 stands.begins.1, stands.holds)).0 in
                  let here = h.0 in
                  omega (arith, one, here, end);
            },
            end,
          ),
    )

pub steps-of : (A : Option Condition → ℕ → ℕ → Type 0) (R : ℕ → ℕ → Type 0) (table : TableValue) (label : List ℕ) (places : SinglePlaces) (steps : SingleSteps)
    → ((i : ℕ) (d : Option Condition) → i < length label → IsSingle table (get_or label i 0) d → (j : ℕ) → R i j ↔ ((j ≡ i + 1) × A d i (i + 1))) → AreSingles (length label) table label places
    → ((i : ℕ) → Has steps.known i → (c : Option Condition) × Has (asked_at places c) i × (A c i (i + 1) → Has steps.leading i))
    → ((i : ℕ) → Has steps.leading i → (c : Option Condition) × Has (asked_at places c) i × A c i (i + 1)) → AreSteps R (length label) steps
steps-of A R table label places steps lead singles known leading i h =
    let k = known i h in
    let s = singles i k.0 k.1 in
    let is = λ (j : ℕ). lead i k.0 s.0 s.1 j in (
      s.0,
      λ j. (
        λ step. let r = (is j).0 step in (r.0, k.2 r.1),
        λ r.
            let o = leading i r.1 in
            let same : o.0 ≡ k.0 = (s.1.alone [] o.0 (singles i o.0 o.1).1.segment).1 in
            (is j).1 (r.0, subst (λ c. A c i (i + 1)) same o.2),
      ),
    )

-- the same by the values that the program holds: where conditions hold
pub holding-steps : (table T : TableValue) (D : Definitions) (S : Seen) (label : List ℕ) (places : SinglePlaces) (steps : SingleSteps) → IsWellFormed table.entries → T ≡ table → D ≡ T.definitions → S ≡ seen_under table label → AreSingles (length label) table label places
    → AreHoldingSteps D.rules S places steps → AreSteps (LongestLeads T label) (length label) steps
holding-steps table T D S label places steps formed t d s singles holding =
    let same : D ≡ table.definitions = d ∙ ap (λ (x : TableValue). x.definitions) t in
    let of_table : AreHoldingSteps table.definitions.rules (seen_under table label) places steps =
    subst (λ y. AreHoldingSteps y.rules (seen_under table label) places steps) same (subst (λ z. AreHoldingSteps D.rules z places steps) s holding) in
    subst (λ x. AreSteps (LongestLeads x label) (length label) steps) (sym t)
    (steps-of (HoldsIn table label) (LongestLeads table label) table label places steps (single-longest table label formed) singles of_table.known of_table.leading)

-- and where conditions aren't barred, if nothing is asked
pub unbarred-steps : (table T : TableValue) (D : Definitions) (S : Seen) (label : List ℕ) (places : SinglePlaces) (steps : SingleSteps) → T ≡ table → D ≡ T.definitions → S ≡ seen_under table label → AreSingles (length label) table label places
    → steps.known ≡ asked_at places None → steps.leading ≡ asked_at places None → AreSteps (SourceIs (λ e a _. IsBarred D.rules S e.condition a → ⊥) T.entries label) (length label) steps
unbarred-steps table T D S label places steps t d s singles known leading =
    let A : Option Condition → ℕ → ℕ → Type 0 = λ c a b. IsBarred table.definitions.rules (seen_under table label) c a → ⊥ in
    let P : TableValue → Definitions → Seen → Type 0 = λ x y z. AreSteps (SourceIs (λ e a _. IsBarred y.rules z e.condition a → ⊥) x.entries label) (length label) steps in
    let free : (a b : ℕ) → IsBarred table.definitions.rules (seen_under table label) None a → ⊥ = λ a b k. k in
    subst (λ x. P x D S) (sym t) (subst (λ y. P table y S) (sym (d ∙ ap (λ (x : TableValue). x.definitions) t)) (subst (P table table.definitions) (sym s)
    (steps-of A (SourceIs (λ e a b. A e.condition a b) table.entries label) table label places steps (single-steps A table label) singles
    (λ i h. (None, subst (λ n. Has n i) known h, λ none. subst (λ n. Has n i) (known ∙ sym leading) h))
    (λ i h. (None, subst (λ n. Has n i) leading h, free i (i + 1))))))

-- no step is known
pub no-steps : (R : ℕ → ℕ → Type 0) (n : ℕ) (steps : SingleSteps) → steps.known ≡ 0 → AreSteps R n steps
no-steps R n steps none i h = absurd (not-in-none i (subst (λ k. Has k i) none h))

-- ---- single places of a label that begins like another

pub shared-singles : (table : TableValue) (kept label : List ℕ) (shared : ℕ) (places first : SinglePlaces) → take shared kept ≡ take shared label → AreSingles (length kept) table kept places
    → ((i : ℕ) (c : Option Condition) → Has (asked_at first c) i → (i < shared) × Has (asked_at places c) i) → AreSingles shared table label first
shared-singles table kept label shared places first same are within i c h =
    let w = within i c h in
    let point : get_or kept i 0 ≡ get_or label i 0 = sym (get_or-take shared kept i 0 w.0) ∙ ap (λ l. get_or l i 0) same ∙ get_or-take shared label i 0 w.0 in
    (w.0, subst (λ p. IsSingle table p c) point (are i c w.1).1)

pub more-singles : (table : TableValue) (label : List ℕ) (place : ℕ) (condition : Option Condition) (places more : SinglePlaces) → AreSingles place table label places → IsSingle table (get_or label place 0) condition
    → ((i : ℕ) (c : Option Condition) → Has (asked_at more c) i → Has (asked_at places c) i ⊎ ((c ≡ condition) × (i ≡ place))) → AreSingles (place + 1) table label more
more-singles table label place condition places more are single added i c h = elim (added i c h) [
  | inl old ↦ (let a = are i c old in ((let l = a.0 in omega (arith, l)), a.1))
  | inr new ↦ ((let e = new.1 in omega (arith, e)), subst (λ q. IsSingle table (get_or label q 0) c) (sym new.1) (subst (IsSingle table (get_or label place 0)) (sym new.0) single))
]

pub same-singles : (table : TableValue) (label : List ℕ) (place : ℕ) (places : SinglePlaces) → AreSingles place table label places → AreSingles (place + 1) table label places
same-singles table label place places are i c h = let a = are i c h in ((let l = a.0 in omega (arith, l)), a.1)

-- ---- sets of places, one for each rule

-- one set more of which only places before one are kept
pub first-of-more : (sets old : List ℕ) (number value shared : ℕ) → number < length sets → ((m i : ℕ) → m < number → Has (get_or sets m 0) i → (i < shared) × Has (get_or old m 0) i)
    → ((i : ℕ) → Has value i → (i < shared) × Has (get_or old number 0) i) → (m i : ℕ) → m < number + 1 → Has (get_or (set sets number value) m 0) i → (i < shared) × Has (get_or old m 0) i
first-of-more sets old number value shared inside before now m i l h = elim (cases_order m number) [
  | inl e ↦ subst (λ n. (i < shared) × Has (get_or old n 0) i) (sym e) (now i (subst (λ v. Has v i) (get_or-set_same sets number value 0 inside) (subst (λ n. Has (get_or (set sets number value) n 0) i) e h)))
  | inr o ↦ elim o [
    | inl less ↦ before m i less (subst (λ v. Has v i) (get_or-set_other sets number m value 0 (λ e. omega (arith, e, less))) h)
    | inr more ↦ absurd (omega (arith, l, more))
  ]
]

-- there is no set past the last
pub past-sets : (sets : List ℕ) (m i : ℕ) → length sets ≤ m → Has (get_or sets m 0) i → ⊥
past-sets sets m i l h = not-in-none i (subst (λ v. Has v i) (get_or_past sets m 0 l) h)

pub empty-sets : (n m i : ℕ) → Has (get_or (replicate n 0) m 0) i → ⊥
empty-sets n m i h = elim (cases_order m n) [
  | inl e ↦ past-sets (replicate n 0) m i (let s = length-replicate {A = ℕ} n 0 in omega (arith, e, s)) h
  | inr o ↦ elim o [
    | inl less ↦ not-in-none i (subst (λ v. Has v i) (get_or-replicate n m 0 0 less) h)
    | inr more ↦ past-sets (replicate n 0) m i (let s = length-replicate {A = ℕ} n 0 in omega (arith, more, s)) h
  ]
]

pub nothing-asked : (places : SinglePlaces) (n : ℕ) → places.free ≡ 0 → places.when.items ≡ replicate n 0 → places.unless.items ≡ replicate n 0 → (i : ℕ) (c : Option Condition) → Has (asked_at places c) i → ⊥
nothing-asked places n free when unless i c h = by_case c h
  where
    by_kind : (k : ConditionKind) (r : ℕ) → Has (get_or (places_of_kind k places) r 0) i → ⊥
    by_kind When r g = empty-sets n r i (subst (λ s. Has (get_or s r 0) i) when g)
    by_kind Unless r g = empty-sets n r i (subst (λ s. Has (get_or s r 0) i) unless g)

    by_case : (d : Option Condition) → Has (asked_at places d) i → ⊥
    by_case None g = not-in-none i (subst (λ v. Has v i) free g)
    by_case (Some d) g = by_kind d.kind d.rule g

-- what is asked of a rule
abbrev pub asked_of : ℕ → ConditionKind → Option Condition
asked_of number kind = Some (record { kind = kind; rule = number })

-- what is known by one rule more
pub more-holding : (rules : List Pattern) (seen : Seen) (places : SinglePlaces) (number known leading when unless asked holding kept free more known2 leading2 : ℕ)
    → when ≡ get_or places.when.items number 0 → unless ≡ get_or places.unless.items number 0 → ((i : ℕ) (c : Option Condition) → Has (asked_at places c) i → i < length seen.label)
    → ((i : ℕ) → i < length seen.label → Has holding i ↔ Holds seen (rule_at rules number) i (i + 1)) → ((p : ℕ) → (Has asked p → Has when p ⊎ Has unless p) × (Has when p → Has asked p) × (Has unless p → Has asked p))
    → ((p : ℕ) → (Has known2 p → Has known p ⊎ Has asked p) × (Has known p → Has known2 p) × (Has asked p → Has known2 p)) → ((p : ℕ) → Has kept p ↔ (Has when p × Has holding p))
    → ((p : ℕ) → Has free p ↔ (Has unless p × (Has holding p → ⊥))) → ((p : ℕ) → (Has more p → Has kept p ⊎ Has free p) × (Has kept p → Has more p) × (Has free p → Has more p))
    → ((p : ℕ) → (Has leading2 p → Has leading p ⊎ Has more p) × (Has leading p → Has leading2 p) × (Has more p → Has leading2 p))
    → AreHoldingSteps rules seen places (record { known = known; leading = leading }) → AreHoldingSteps rules seen places (record { known = known2; leading = leading2 })
more-holding rules seen places number known leading when unless asked holding kept free more known2 leading2 w u within holds a k b n e l before = record {
  known = λ i h. elim ((k i).0 h) [
    | inl old ↦ (let o = before.known i old in (o.0, o.1, λ x. (l i).1 (o.2 x)))
    | inr new ↦ elim ((a i).0 new) [
      | inl p ↦ (asked_of number When, at_when i p, λ x. (l i).2 ((e i).1 ((b i).1 (p, (holds i (within i (asked_of number When) (at_when i p))).1 x))))
      | inr p ↦ (asked_of number Unless, at_unless i p, λ x. (l i).2 ((e i).2 ((n i).1 (p, λ y. x ((holds i (within i (asked_of number Unless) (at_unless i p))).0 y)))))
    ]
  ];
  leading = λ i h. elim ((l i).0 h) [
    | inl old ↦ before.leading i old
    | inr new ↦ elim ((e i).0 new) [
      | inl p ↦ (let q = (b i).0 p in (asked_of number When, at_when i q.0, (holds i (within i (asked_of number When) (at_when i q.0))).0 q.1))
      | inr p ↦ (let q = (n i).0 p in (asked_of number Unless, at_unless i q.0, λ x. q.1 ((holds i (within i (asked_of number Unless) (at_unless i q.0))).1 x)))
    ]
  ];
}
  where
    at_when : (i : ℕ) → Has when i → Has (asked_at places (asked_of number When)) i
    at_when i h = subst (λ v. Has v i) w h

    at_unless : (i : ℕ) → Has unless i → Has (asked_at places (asked_of number Unless)) i
    at_unless i h = subst (λ v. Has v i) u h
