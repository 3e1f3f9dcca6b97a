-- The longest-first cut of a label: there is one, and it is found.
use Rattle.std.proofs.Common.{◌≡◌, ℕ, zero, suc, ◌+◌, ◌-◌, ◌<◌, ◌≤◌, ◌⊎◌, inl, inr, Bool, true, false, cond, eq-eqb, List, [], ◌∷◌, length, drop, refl, sym, ap, subst, ◌∙◌, arith, length-drop, length-append}
use Rattle.std.specs.Prelude.{◌↔◌, IsTrue, Option, Some, None, AllPairs}
use Rattle.std.specs.List.{Contains, slice_range}
use Rattle.std.proofs.lemmas.Bool.{eqb-true}
use Rattle.std.proofs.lemmas.List.Elements.{All-contains, All-from_recursion}
use Rattle.std.proofs.lemmas.Option.{same_Some}
use Rattle.label_patterns.specs.Conditions.{ConditionHolds}
use Rattle.label_patterns.specs.Matches.{Rounds, no_round, one_more}
use Rattle.label_patterns.proofs.TestLemmas.{condition-agrees}
use Rattle.variant_table.specs.Entries.{Entry, TableValue, sequences_in}
use Rattle.variant_table.specs.Places.{BeginsAt, entries_at}
use Rattle.variant_table.specs.WellFormed.{IsWellFormed}
use Rattle.variant_table.proofs.BeginningLemmas.{entries_are_at, same_entry}
use Rattle.variant_table.proofs.MemberLemmas.{Contains-head, Contains-later, Contains-none, Contains-cases}
use Rattle.variant_table.proofs.NumberLemmas.{pairs_tail}
use Rattle.variant_table.specs.Segmentations.{HasSegmentation, seen_under}
use Rattle.valid_labels.specs.Eligible.{Stands, IsLongest, LongestLeads, CutLeadsTo, IsEligible, IsCutEnd}
use Rattle.valid_labels.specs.Tests.{holds_in, last_standing, longest_at, place_after, advanced, cut_after, cut_end, is_eligible}
use Rattle.valid_labels.specs.Validity.{HasSourcesOfPoints}
use Rattle.valid_labels.specs.Laws.{LongestFirst, OneCut}
use Rattle.valid_labels.proofs.CutLemmas.{EntryStands, rounds-map, sequence-filled, cut-steps, steps-cut}
use Rattle.valid_labels.proofs.EndLemmas.{part-begins}
use Rattle.valid_labels.proofs.PartLemmas.{part-length, first-part, first-inside}
use Rattle.valid_labels.proofs.SegmentationLemmas.{HoldsIn, segmentation-cut}

pub opposite : {P : Type 0} (b : Bool) → b ≡ true → b ≡ false → P
opposite b t f = absurd (let g : true ≡ false = sym t ∙ f in cc)

-- ---- rounds of a relation that leads from a place to one place at most

pub first-round : (R : ℕ → ℕ → Type 0) (i j : ℕ) → Rounds R i j → (j ≡ i) ⊎ ((m : ℕ) × R i m × Rounds R m j)
first-round R i _ no_round = inl refl
first-round R i _ (one_more k j rounds step) = elim (first-round R i k rounds) [
  | inl e ↦ inr (j, subst (λ n. R n j) e step, no_round)
  | inr h ↦ inr (h.0, h.1, one_more k j h.2 step)
]

module _ (R : ℕ → ℕ → Type 0) (one : (i j k : ℕ) → R i j → R i k → j ≡ k) where
  -- one end lies behind each place that is reached
  meet : (i a b : ℕ) → ((j : ℕ) → R b j → ⊥) → Rounds R i a → Rounds R i b → Rounds R a b
  meet i _ b last no_round other = other
  meet i _ b last (one_more k j rounds step) other = elim (first-round R k b (meet i k b last rounds other)) [
    | inl e ↦ absurd (last j (subst (λ n. R n j) (sym e) step))
    | inr h ↦ subst (λ n. Rounds R n b) (one k h.0 j h.1 step) h.2
  ]

  pub one-end : (i a b : ℕ) → Rounds R i a → ((j : ℕ) → R a j → ⊥) → Rounds R i b → ((j : ℕ) → R b j → ⊥) → a ≡ b
  one-end i a b first none other last = elim (first-round R a b (meet i a b last first other)) [
    | inl e ↦ sym e
    | inr h ↦ absurd (none h.0 h.1)
  ]

-- ---- entries at a place

-- what begins a label at a place lies within it
pub begins-within : (label : List ℕ) (place : ℕ) (e : Entry) → 0 < length e.source → BeginsAt label place e → place + length e.source ≤ length label
begins-within label place e some b =
    let d : length (drop place label) ≡ length label - place = length-drop place label in
    let s : length (drop place label) ≡ length e.source + length b.0 = ap length b.1 ∙ length-append e.source b.0 in
    omega (arith, d, s, some)

pub source-filled : (entries : List Entry) (e : Entry) → IsWellFormed entries → Contains entries e → 0 < length e.source
source-filled entries e formed h = sequence-filled entries e e.source formed h (Contains-head e.source (sequences_in e.variants))

pub pairs-head : {X : Type 0} (R : X → X → Type 0) (x : X) (xs : List X) → AllPairs R (x ∷ xs) → (y : X) → Contains xs y → R x y
pairs-head R x xs p y (k, l, e) = subst (R x) e (p 0 (suc k) y (omega arith) (omega (arith, l)))

abbrev pub Shorter : Entry → Entry → Type 0
Shorter e f = length e.source < length f.source

module _ (table : TableValue) (label : List ℕ) (place : ℕ) where
  abbrev Test : Entry → Bool
  Test e = holds_in table label e.condition place (place + length e.source)

  record IsLastOf (es : List Entry) (e : Entry) : Type 0 where
    member : Contains es e
    test : Test e ≡ true
    longest : (f : Entry) → Contains es f → Test f ≡ true → length f.source ≤ length e.source

  abbrev NoneOf : List Entry → Type 0
  NoneOf es = (f : Entry) → Contains es f → Test f ≡ true → ⊥

  abbrev Found : Option Entry → Option Entry → List Entry → Type 0
  Found found told es = ((told ≡ found) × NoneOf es) ⊎ ((e : Entry) × (told ≡ Some e) × IsLastOf es e)

  last-is : (es : List Entry) (found : Option Entry) → AllPairs Shorter es → Found found (last_standing table label place found es) es
  last-is [] found pairs = inl (refl, λ f m. absurd (Contains-none f m))
  last-is (x ∷ es) found pairs = by_test (Test x) refl (λ o. last-is es o (pairs_tail Shorter x es pairs))
    where
      by_test : (b : Bool) → Test x ≡ b → ((o : Option Entry) → Found o (last_standing table label place o es) es) → Found found (last_standing table label place (cond b (Some x) found) es) (x ∷ es)
      by_test true is later = elim (later (Some x)) [
        | inl a ↦ inr (
          x,
          a.0,
          record {
            member = Contains-head x es;
            test = is;
            longest = λ f m t. elim (Contains-cases x es f m) [
              | inl same ↦ (let n = ap (λ (y : Entry). length y.source) same in omega (arith, n))
              | inr k ↦ absurd (a.1 f k t)
            ];
          },
        )
        | inr b ↦ inr (
          b.0,
          b.1,
          record {
            member = Contains-later x es b.0 b.2.member;
            test = b.2.test;
            longest = λ f m t. elim (Contains-cases x es f m) [
              | inl same ↦ (let n = ap (λ (y : Entry). length y.source) same in let l = pairs-head Shorter x es pairs b.0 b.2.member in omega (arith, n, l))
              | inr k ↦ b.2.longest f k t
            ];
          },
        )
      ]
      by_test false is later = elim (later found) [
        | inl a ↦ inl (
          a.0,
          λ f m t. elim (Contains-cases x es f m) [
            | inl same ↦ opposite (Test f) t (ap Test (sym same) ∙ is)
            | inr k ↦ a.1 f k t
          ],
        )
        | inr b ↦ inr (
          b.0,
          b.1,
          record {
            member = Contains-later x es b.0 b.2.member;
            test = b.2.test;
            longest = λ f m t. elim (Contains-cases x es f m) [
              | inl same ↦ opposite (Test f) t (ap Test (sym same) ∙ is)
              | inr k ↦ b.2.longest f k t
            ];
          },
        )
      ]

  module _ (formed : IsWellFormed table.entries) where
    tested : (e : Entry) → Contains table.entries e → BeginsAt label place e → IsTrue (Test e) ↔ ConditionHolds table.definitions.rules (seen_under table label) e.condition place (place + length e.source)
    tested e h b =
        let w = begins-within label place e (source-filled table.entries e formed h) b in
        condition-agrees table.definitions.rules (seen_under table label) e.condition place (place + length e.source) (omega (arith, w)) w

    pub to-stands : (e : Entry) → Contains (entries_at table.entries label place) e → holds_in table label e.condition place (place + length e.source) ≡ true → Stands table label place e
    to-stands e member test =
        let m = ((entries_are_at table.entries label place formed).members e).0 member in
        record { of_table = m.0; begins = m.1; holds = (tested e m.0 m.1).0 test }

    pub from-stands : (e : Entry) → Stands table label place e → Contains (entries_at table.entries label place) e × (holds_in table label e.condition place (place + length e.source) ≡ true)
    from-stands e s = (((entries_are_at table.entries label place formed).members e).1 (s.of_table, s.begins), (tested e s.of_table s.begins).1 s.holds)

    -- the entry that is told is the longest that stands there, or there is none
    pub longest-is : ((longest_at table label place ≡ None) × ((e : Entry) → Stands table label place e → ⊥)) ⊎ ((e : Entry) × (longest_at table label place ≡ Some e) × IsLongest table label place e)
    longest-is = elim (last-is (entries_at table.entries label place) None (entries_are_at table.entries label place formed).rising) [
      | inl a ↦ inl (a.0, λ e s. let f = from-stands e s in a.1 e f.0 f.1)
      | inr b ↦ inr (b.0, b.1, record { stands = to-stands b.0 b.2.member b.2.test; longest = λ f s. let g = from-stands f s in b.2.longest f g.0 g.1 })
    ]

pub one-longest : (table : TableValue) (label : List ℕ) (place : ℕ) (e f : Entry) → IsWellFormed table.entries → IsLongest table label place e → IsLongest table label place f → e ≡ f
one-longest table label place e f formed first second =
    let l = first.longest f second.stands in
    let m = second.longest e first.stands in
    let size : length e.source ≡ length f.source = omega (arith, l, m) in
    same_entry table.entries e f formed.sources first.stands.of_table second.stands.of_table
    (sym (first-part label place e.source first.stands.begins.0 first.stands.begins.1) ∙ ap (λ n. slice_range label place (place + n)) size ∙ first-part label place f.source second.stands.begins.0 second.stands.begins.1)

-- ---- one step of the cut

module _ (table : TableValue) (label : List ℕ) where
  abbrev R : ℕ → ℕ → Type 0
  R i j = LongestLeads table label i j

  pub leads-one : (i j k : ℕ) → LongestLeads table label i j → LongestLeads table label i k → j ≡ k
  leads-one i j k a b =
      let l = a.1.longest b.0 b.1.stands in
      let m = b.1.longest a.0 a.1.stands in
      let x = a.2 in
      let y = b.2 in
      omega (arith, l, m, x, y)

  pub ends-one : (a b : ℕ) → IsCutEnd table label a → IsCutEnd table label b → a ≡ b
  ends-one a b first second = one-end R leads-one 0 a b first.reached first.last second.reached second.last

  module _ (formed : IsWellFormed table.entries) where
    pub leads-on : (i j : ℕ) → LongestLeads table label i j → (i < j) × (j ≤ length label)
    leads-on i j h =
        let some = source-filled table.entries h.0 formed h.1.stands.of_table in
        let within = begins-within label i h.0 some h.1.stands.begins in
        let end = h.2 in
        (omega (arith, some, end), omega (arith, within, end))

    pub cut-within : (j : ℕ) → CutLeadsTo table label j → j ≤ length label
    cut-within _ no_round = omega arith
    cut-within _ (one_more i j rounds step) = (leads-on i j step).1

    -- the cut ends where its last source ends with the label
    pub whole-end : IsEligible table label → IsCutEnd table label (length label)
    whole-end h = record { reached = h; last = λ j step. (let l = leads-on (length label) j step in let m = l.0 in let n = l.1 in omega (arith, m, n)) }

    -- it goes no further where nothing stands
    pub none-leads : (place : ℕ) → longest_at table label place ≡ None → (j : ℕ) → LongestLeads table label place j → ⊥
    none-leads place none j h = elim (longest-is table label place formed) [
      | inl a ↦ a.1 h.0 h.1.stands
      | inr b ↦ absurd (let f : None ≡ Some b.0 = sym none ∙ b.1 in cc)
    ]

    pub some-leads : (place : ℕ) (e : Entry) → longest_at table label place ≡ Some e → LongestLeads table label place (place + length e.source)
    some-leads place e some = elim (longest-is table label place formed) [
      | inl a ↦ absurd (let f : None ≡ Some e = sym a.0 ∙ some in cc)
      | inr b ↦ (e, subst (IsLongest table label place) (same_Some b.0 e (sym b.1 ∙ some)) b.2, refl)
    ]

    -- ---- the cut as it computes

    advanced-is : (place : ℕ) → LongestLeads table label place (advanced table label place) ⊎ ((advanced table label place ≡ place) × ((j : ℕ) → LongestLeads table label place j → ⊥))
    advanced-is place = by_longest (longest_at table label place) refl
      where
        by_longest : (o : Option Entry) → longest_at table label place ≡ o → LongestLeads table label place (place_after place o) ⊎ ((place_after place o ≡ place) × ((j : ℕ) → LongestLeads table label place j → ⊥))
        by_longest None is = inr (refl, none-leads place is)
        by_longest (Some e) is = inl (some-leads place e is)

    after-is : (n : ℕ) → CutLeadsTo table label (cut_after table label n) × ((n ≤ cut_after table label n) ⊎ ((j : ℕ) → LongestLeads table label (cut_after table label n) j → ⊥))
    after-is zero = (no_round, inl (omega arith))
    after-is (suc n) =
        let before = after-is n in
        let place = cut_after table label n in
        elim (advanced-is place) [
          | inl step ↦ (
            one_more place (advanced table label place) before.0 step,
            elim before.1 [
              | inl l ↦ inl (let m = (leads-on place (advanced table label place) step).0 in omega (arith, l, m))
              | inr last ↦ absurd (last (advanced table label place) step)
            ],
          )
          | inr same ↦ (subst (CutLeadsTo table label) (sym same.0) before.0, inr (λ j step. same.1 j (subst (λ p. LongestLeads table label p j) same.0 step)))
        ]

    pub cut-end-is : IsCutEnd table label (cut_end table label)
    cut-end-is =
        let is = after-is (length label) in
        record {
          reached = is.0;
          last = λ j step. elim is.1 [
            | inl l ↦ (let on = leads-on (cut_end table label) j step in let m = on.0 in let n = on.1 in absurd (omega (arith, l, m, n)))
            | inr last ↦ last j step
          ];
        }

    pub end-told : (place : ℕ) → IsCutEnd table label place ↔ (place ≡ cut_end table label)
    end-told place = (
      λ is. ends-one place (cut_end table label) is cut-end-is,
      λ e. subst (IsCutEnd table label) (sym e) cut-end-is,
    )

    pub eligible-whole : IsEligible table label ↔ IsCutEnd table label (length label)
    eligible-whole = (whole-end, λ is. is.reached)

    pub eligible-agrees : IsTrue (is_eligible table label) ↔ IsEligible table label
    eligible-agrees = (
      λ h. eligible-whole.1 ((end-told (length label)).1 (sym (eqb-true (cut_end table label) (length label) h))),
      λ h. eq-eqb (cut_end table label) (length label) (sym ((end-told (length label)).0 (whole-end h))),
    )

-- a place at which a cut ends tells whether the label is eligible
pub end-tests : (table : TableValue) (label : List ℕ) (place : ℕ) (b : Bool) → IsWellFormed table.entries → IsCutEnd table label place → IsTrue b ↔ (place ≡ length label) → IsTrue b ↔ IsEligible table label
end-tests table label place b formed is tells = (
  λ h. subst (CutLeadsTo table label) (tells.0 h) is.reached,
  λ h. tells.1 (ends-one table label place (length label) is (whole-end table label formed h)),
)

-- ---- the cut among others

-- what stands at a place is there from it to its end
pub leads-entry : (table : TableValue) (label : List ℕ) → IsWellFormed table.entries → (i j : ℕ) → LongestLeads table label i j
    → EntryStands (Contains table.entries) (HoldsIn table label) label i j
leads-entry table label formed i j h =
    let on = leads-on table label formed i j h in
    let begins = h.1.stands.begins in
    let less = on.0 in (
      h.0,
      h.1.stands.of_table,
      omega (arith, less),
      on.1,
      ap (slice_range label i) h.2 ∙ first-part label i h.0.source begins.0 begins.1,
      subst (HoldsIn table label h.0.condition i) (sym h.2) h.1.stands.holds,
    )

-- the sources of the cut are there one after the other
eligible-entries : (table : TableValue) (label : List ℕ) (j : ℕ) → CutLeadsTo table label j
    → (j ≤ length label) × Rounds (EntryStands (Contains table.entries) (HoldsIn table label) label) 0 j
eligible-entries table label _ no_round = (omega arith, no_round)
eligible-entries table label _ (one_more i j rounds h) =
    let before = eligible-entries table label i rounds in
    let e = h.0 in
    let begins = h.1.stands.begins in
    let end = h.2 in
    let inside = first-inside label i e.source begins.0 before.0 begins.1 in (
      omega (arith, inside, end),
      one_more i j before.1 (
        e,
        h.1.stands.of_table,
        omega (arith, end),
        omega (arith, inside, end),
        ap (slice_range label i) end ∙ first-part label i e.source begins.0 begins.1,
        subst (HoldsIn table label e.condition i) (sym end) h.1.stands.holds,
      ),
    )

pub eligible-segmentation : (table : TableValue) (label : List ℕ) → IsEligible table label → HasSegmentation table label
eligible-segmentation table label h = (segmentation-cut table label).1 (steps-cut (Contains table.entries) (HoldsIn table label) label (eligible-entries table label (length label) h).1)

-- a source of one code point is the longest where each is one
pub point-leads : (table : TableValue) (label : List ℕ) → HasSourcesOfPoints table → (i j : ℕ) → EntryStands (Contains table.entries) (HoldsIn table label) label i j → LongestLeads table label i j
point-leads table label points i j s =
    let e = s.0 in
    let le = s.2 in
    let size : length e.source ≡ j - i = ap length (sym s.4) ∙ part-length label i j s.2 s.3 in
    let end : j ≡ i + length e.source = omega (arith, size, le) in
    let one = λ (f : Entry) (h : Contains table.entries f). All-contains (λ (x : Entry). length x.source ≡ 1) table.entries f (All-from_recursion (λ (x : Entry). length x.source ≡ 1) table.entries points) h in (
      e,
      record {
        stands = record { of_table = s.1; begins = part-begins label i j e s.4; holds = subst (HoldsIn table label e.condition i) end s.5 };
        longest = λ f stands. (let a = one f stands.of_table in let b = one e s.1 in omega (arith, a, b));
      },
      end,
    )

pub points-eligible : (table : TableValue) (label : List ℕ) → HasSourcesOfPoints table → HasSegmentation table label → IsEligible table label
points-eligible table label points h =
    rounds-map (EntryStands (Contains table.entries) (HoldsIn table label) label) (LongestLeads table label) (point-leads table label points) 0 (length label)
    (cut-steps (Contains table.entries) (HoldsIn table label) label ((segmentation-cut table label).0 h))

pub longest-first : LongestFirst
longest-first = record { no_more = eligible-segmentation; of_points = points-eligible }

pub one-cut : OneCut
one-cut = record {
  source = one-longest;
  told = λ table label place formed. end-told table label formed place;
  whole = λ table label formed. eligible-whole table label formed;
}
