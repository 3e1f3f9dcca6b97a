-- The sources of the longest-first cut, as a list.
use Rattle.std.proofs.Common.{◌≡◌, ◌⊎◌, inl, inr, ℕ, zero, suc, ◌+◌, ◌-◌, ◌<◌, ◌≤◌, ◌||◌, Bool, true, false, cond, List, [], ◌∷◌, ◌++◌, length, drop, refl, sym, ap, ◌∙◌, subst, arith}
use Rattle.std.specs.Prelude.{Option, Some, None}
use Rattle.std.specs.List.{AllByRecursion, Contains, list_any}
use Rattle.std.proofs.lemmas.Bool.{cases_order, or_cases}
use Rattle.std.proofs.lemmas.List.{drop_all}
use Rattle.std.proofs.lemmas.Option.{same_Some}
use Rattle.label_patterns.specs.Matches.{Rounds, no_round, one_more}
use Rattle.variant_dispositions.specs.Actions.{is_of}
use Rattle.variant_dispositions.specs.Kinds.{kind_of_source}
use Rattle.variant_dispositions.specs.Kinds.Kind.{Typed}
use Rattle.variant_table.specs.Entries.{Entry, TableValue}
use Rattle.variant_table.specs.Segmentations.{AllHold, IsSegmentation, seen_under}
use Rattle.variant_table.specs.WellFormed.{IsWellFormed}
use Rattle.valid_labels.specs.declared.invalid.CutSource.{CutSource}
use Rattle.valid_labels.specs.Causes.{IsFirstTyped, IsTypedAt, cut_from, cut_kinds, first_typed, is_typed, longest_cut, with_source}
use Rattle.valid_labels.specs.Dispositions.{kinds_of}
use Rattle.valid_labels.specs.Eligible.{CutLeadsTo, IsEligible, IsLongest, LongestLeads, Stands}
use Rattle.valid_labels.specs.Tests.{longest_at}
use Rattle.valid_labels.proofs.CutLemmas.{sources}
use Rattle.valid_labels.proofs.EligibleLemmas.{first-round, leads-on, leads-one, longest-is, one-longest}
use Rattle.valid_labels.proofs.PartLemmas.{after-first}

-- ---- places on one way

module _ (R : ℕ → ℕ → Type 0) (one : (i j k : ℕ) → R i j → R i k → j ≡ k) where
  -- of two places that are reached one lies behind the other
  pub on-one-way : (i a b : ℕ) → Rounds R i a → Rounds R i b → Rounds R a b ⊎ Rounds R b a
  on-one-way i a _ first no_round = inr first
  on-one-way i a _ first (one_more k j rounds step) = elim (on-one-way i a k first rounds) [
    | inl before ↦ inl (one_more k j before step)
    | inr behind ↦ elim (first-round R k a behind) [
      | inl same ↦ inl (subst (λ n. Rounds R n j) (sym same) (one_more k j no_round step))
      | inr next ↦ inr (subst (λ n. Rounds R n a) (one k next.0 j next.1 step) next.2)
    ]
  ]

module _ (table : TableValue) (label : List ℕ) (formed : IsWellFormed table.entries) where
  abbrev Leads : ℕ → ℕ → Type 0
  Leads i j = LongestLeads table label i j

  leads-up : (i j : ℕ) → Rounds Leads i j → i ≤ j
  leads-up i _ no_round = omega arith
  leads-up i _ (one_more k j rounds step) =
      let before = leads-up i k rounds in
      let on = (leads-on table label formed k j step).0 in
      omega (arith, before, on)

  -- a source that stands ends within the label
  longest-within : (place : ℕ) (e : Entry) → IsLongest table label place e → (place < place + length e.source) × (place + length e.source ≤ length label)
  longest-within place e longest = leads-on table label formed place (place + length e.source) (e, longest, refl)

  -- ---- the cut as a segmentation

  record AreCut (place n : ℕ) : Type 0 where
    entries : List Entry
    of_table : AllByRecursion (Contains table.entries) entries
    joined : drop place label ≡ sources entries
    held : AllHold table.definitions.rules (seen_under table label) place entries
    same : kinds_of entries ≡ cut_kinds (cut_from table label n place)

  -- the longest source that stands at a place, or none does
  abbrev Longest : ℕ → Type 0
  Longest place =
      ((longest_at table label place ≡ None) × ((e : Entry) → Stands table label place e → ⊥)) ⊎ ((e : Entry) × (longest_at table label place ≡ Some e) × IsLongest table label place e)

  cut-none : (n place : ℕ) → longest_at table label place ≡ None → ((e : Entry) → Stands table label place e → ⊥) → Rounds Leads place (length label) → AreCut place (suc n)
  cut-none n place none nothing rounds =
      let end : length label ≡ place = elim (first-round Leads place (length label) rounds) [ inl e ↦ e | inr next ↦ absurd (nothing next.1.0 next.1.1.stands) ] in
      record {
        entries = [];
        of_table = tt;
        joined = drop_all place label (omega (arith, end));
        held = tt;
        same = sym (ap (λ o. cut_kinds (with_source place (cut_from table label n) o)) none);
      }

  -- the cut goes on behind a source
  goes-on : (place : ℕ) (e : Entry) → IsLongest table label place e → Rounds Leads place (length label) → Rounds Leads (place + length e.source) (length label)
  goes-on place e longest rounds = elim (first-round Leads place (length label) rounds) [
    | inl end ↦ (let w = longest-within place e longest in let l = w.0 in let m = w.1 in absurd (omega (arith, end, l, m)))
    | inr next ↦ subst (λ k. Rounds Leads k (length label)) (leads-one table label place next.0 (place + length e.source) next.1 (e, longest, refl)) next.2
  ]

  cut-more : (n place : ℕ) (e : Entry) → longest_at table label place ≡ Some e → IsLongest table label place e → AreCut (place + length e.source) n → AreCut place (suc n)
  cut-more n place e some longest rest = record {
    entries = e ∷ rest.entries;
    of_table = (longest.stands.of_table, rest.of_table);
    joined = longest.stands.begins.1 ∙ ap (λ more. e.source ++ more) (sym (after-first label place e.source longest.stands.begins.0 longest.stands.begins.1) ∙ rest.joined);
    held = (longest.stands.holds, rest.held);
    same = ap (λ kinds. kind_of_source e.type ∷ kinds) rest.same ∙ sym (ap (λ o. cut_kinds (with_source place (cut_from table label n) o)) some);
  }

  cut-are : (n place : ℕ) → length label ≤ place + n → Rounds Leads place (length label) → AreCut place n
  cut-are zero place enough rounds = record { entries = []; of_table = tt; joined = drop_all place label (omega (arith, enough)); held = tt; same = refl }
  cut-are (suc n) place enough rounds = elim (longest-is table label place formed) [
    | inl none ↦ cut-none n place none.0 none.1 rounds
    | inr some ↦
        let within = longest-within place some.0 some.2 in
        cut-more n place some.0 some.1 some.2 (cut-are n (place + length some.0.source) (let l = within.0 in omega (arith, enough, l)) (goes-on place some.0 some.2 rounds))
  ]

  -- an eligible label is cut into the sources of its longest-first cut
  pub eligible-cut : IsEligible table label → (es : List Entry) × IsSegmentation table es label × (kinds_of es ≡ cut_kinds (longest_cut table label))
  eligible-cut eligible =
      let cut = cut-are (length label) 0 (omega arith) eligible in
      (cut.entries, record { of_table = cut.of_table; joined = sym cut.joined; held = cut.held }, cut.same)

  -- ---- the first source of a type

  -- what is told of the first source that has one of these types is so
  abbrev pub IsFound : ℕ → Option CutSource → Type 0
  IsFound types None = (place number : ℕ) → IsTypedAt table label types place number → ⊥
  IsFound types (Some s) = (number : ℕ) × (s.reflexive_type ≡ Some number) × IsFirstTyped table label types s.place number

  typed-is : (types : ℕ) (o : Option ℕ) → is_typed types o ≡ true → (number : ℕ) × (o ≡ Some number) × (is_of types (Typed number) ≡ true)
  typed-is types None is = absurd (let f : false ≡ true = is in cc)
  typed-is types (Some number) is = (number, refl, is)

  -- where nothing stands at a place of the cut, it has no source behind it
  found-none : (types place : ℕ) → CutLeadsTo table label place → ((p k : ℕ) → p < place → IsTypedAt table label types p k → ⊥) → ((e : Entry) → Stands table label place e → ⊥)
      → (p k : ℕ) → IsTypedAt table label types p k → ⊥
  found-none types place reached before nothing p k at = elim (on-one-way Leads (leads-one table label) 0 p place at.reached reached) [
    | inl back ↦ elim (cases_order p place) [
      | inl same ↦ nothing at.entry (subst (λ q. Stands table label q at.entry) same at.longest.stands)
      | inr o ↦ elim o [
        | inl less ↦ before p k less at
        | inr more ↦ (let l = leads-up p place back in absurd (omega (arith, l, more)))
      ]
    ]
    | inr on ↦ elim (first-round Leads place p on) [
      | inl same ↦ nothing at.entry (subst (λ q. Stands table label q at.entry) same at.longest.stands)
      | inr next ↦ nothing next.1.0 next.1.1.stands
    ]
  ]

  -- before the next place of the cut a source of these types is the one that stands here
  typed-here : (types place : ℕ) (e : Entry) → IsLongest table label place e → CutLeadsTo table label place → ((p k : ℕ) → p < place → IsTypedAt table label types p k → ⊥)
      → (p k : ℕ) → p < place + length e.source → IsTypedAt table label types p k → e.type ≡ Some k
  typed-here types place e longest reached before p k less at = elim (on-one-way Leads (leads-one table label) 0 p place at.reached reached) [
    | inl back ↦ elim (cases_order p place) [
      | inl same ↦ same-type same
      | inr o ↦ elim o [
        | inl earlier ↦ absurd (before p k earlier at)
        | inr later ↦ (let l = leads-up p place back in absurd (omega (arith, l, later)))
      ]
    ]
    | inr on ↦ elim (first-round Leads place p on) [
      | inl same ↦ same-type same
      | inr next ↦
          let step : next.0 ≡ place + length e.source = leads-one table label place next.0 (place + length e.source) next.1 (e, longest, refl) in
          let l = leads-up next.0 p next.2 in
          absurd (omega (arith, l, less, step))
    ]
  ]
    where
      same-type : p ≡ place → e.type ≡ Some k
      same-type same = ap (λ (x : Entry). x.type) (one-longest table label place e at.entry formed longest (subst (λ m. IsLongest table label m at.entry) same at.longest)) ∙ at.typed

  found-more : (types n place : ℕ) (e : Entry) → IsLongest table label place e → CutLeadsTo table label place → ((p k : ℕ) → p < place → IsTypedAt table label types p k → ⊥)
      → (((p k : ℕ) → p < place + length e.source → IsTypedAt table label types p k → ⊥) → IsFound types (first_typed types (cut_from table label n (place + length e.source))))
      → (b : Bool) → is_typed types e.type ≡ b → IsFound types (cond b (Some (record { place = place; reflexive_type = e.type })) (first_typed types (cut_from table label n (place + length e.source))))
  found-more types n place e longest reached before later true is =
      let t = typed-is types e.type is in (
        t.0,
        t.1,
        record { here = record { entry = e; reached = reached; longest = longest; typed = t.1; asked = t.2 }; first = before },
      )
  found-more types n place e longest reached before later false is = later (λ p k less at. (
      let same = typed-here types place e longest reached before p k less at in
      let clash : false ≡ true = sym is ∙ ap (is_typed types) same ∙ at.asked in
      cc))

  found-from : (types n place : ℕ) → length label ≤ place + n → CutLeadsTo table label place → ((p k : ℕ) → p < place → IsTypedAt table label types p k → ⊥)
      → IsFound types (first_typed types (cut_from table label n place))
  found-from types zero place enough reached before = λ p k at.
      let within = longest-within p at.entry at.longest in
      before p k (let l = within.0 in let m = within.1 in omega (arith, enough, l, m)) at
  found-from types (suc n) place enough reached before = elim (longest-is table label place formed) [
    | inl none ↦ subst (λ o. IsFound types (first_typed types (with_source place (cut_from table label n) o))) (sym none.0) (found-none types place reached before none.1)
    | inr some ↦
        let e : Entry = some.0 in
        let within = longest-within place e some.2 in
        subst (λ o. IsFound types (first_typed types (with_source place (cut_from table label n) o))) (sym some.1)
        (found-more types n place e some.2 reached before
        (λ none. found-from types n (place + length e.source) (let l = within.0 in omega (arith, enough, l)) (one_more place (place + length e.source) reached (e, some.2, refl)) none)
        (is_typed types e.type) refl)
  ]

  pub first-typed-is : (types : ℕ) → IsFound types (first_typed types (longest_cut table label))
  first-typed-is types = found-from types (length label) 0 (omega arith) no_round (λ p k less at. omega (arith, less))

  -- there is one first source, and it has one type
  pub one-typed : (types p q j k : ℕ) → IsFirstTyped table label types p j → IsFirstTyped table label types q k → (p ≡ q) × (j ≡ k)
  one-typed types p q j k first second =
      let place : p ≡ q = elim (cases_order p q) [
        | inl same ↦ same
        | inr o ↦ elim o [ inl less ↦ absurd (second.first p j less first.here) | inr more ↦ absurd (first.first q k more second.here) ]
      ] in (
        place,
        same_Some j k
            (sym first.here.typed
            ∙ ap (λ (x : Entry). x.type) (one-longest table label q first.here.entry second.here.entry formed (subst (λ m. IsLongest table label m first.here.entry) place first.here.longest) second.here.longest)
            ∙ second.here.typed),
      )

-- ---- one source after the other

pub cut-stops : (table : TableValue) (label : List ℕ) (n place : ℕ) → longest_at table label place ≡ None → cut_from table label n place ≡ []
cut-stops table label zero place none = refl
cut-stops table label (suc n) place none = ap (with_source place (cut_from table label n)) none

pub cut-continues : (table : TableValue) (label : List ℕ) (n place : ℕ) (e : Entry) → 1 ≤ n → longest_at table label place ≡ Some e
    → cut_from table label n place ≡ record { place = place; reflexive_type = e.type } ∷ cut_from table label (n - 1) (place + length e.source)
cut-continues table label zero place e some is = absurd (omega (arith, some))
cut-continues table label (suc n) place e some is =
    ap (with_source place (cut_from table label n)) is
    ∙ (let less : n ≡ suc n - 1 = omega arith in ap (λ k. record { place = place; reflexive_type = e.type } ∷ cut_from table label k (place + length e.source)) less)

-- a source is taken, of the cut after so many
pub cut-taken : (table : TableValue) (label : List ℕ) (counter place : ℕ) (e : Entry) (o : Option ℕ) (points : List ℕ) → counter < length label → longest_at table label place ≡ Some e → Some e.type ≡ Some o → points ≡ e.source
    → record { place = place; reflexive_type = o } ∷ cut_from table label (length label - (counter + 1)) (place + length points) ≡ cut_from table label (length label - counter) place
cut-taken table label counter place e o points less is type same =
    let left : length label - (counter + 1) ≡ length label - counter - 1 = omega arith in
    ap (λ t. record { place = place; reflexive_type = t } ∷ cut_from table label (length label - (counter + 1)) (place + length points)) (sym (same_Some e.type o type))
    ∙ ap (λ s. record { place = place; reflexive_type = e.type } ∷ cut_from table label (length label - (counter + 1)) (place + length s)) same
    ∙ ap (λ k. record { place = place; reflexive_type = e.type } ∷ cut_from table label k (place + length e.source)) left
    ∙ sym (cut-continues table label (length label - counter) place e (omega (arith, less)) is)

-- ---- what is recorded, and the first source of a type

same-typed : (types : ℕ) (o : Option ℕ) → is_of types (kind_of_source o) ≡ is_typed types o
same-typed types None = refl
same-typed types (Some number) = refl

-- where something has one of these types, a source has it
pub any-typed : (types : ℕ) (s : List CutSource) → list_any (is_of types) (cut_kinds s) ≡ true → first_typed types s ≡ None → ⊥
any-typed types [] any none = let clash : false ≡ true = any in cc
any-typed types (x ∷ s) any none = by_test (is_typed types x.reflexive_type) refl none (any-typed types s)
  where
    by_test : (b : Bool) → is_typed types x.reflexive_type ≡ b → cond b (Some x) (first_typed types s) ≡ None → (list_any (is_of types) (cut_kinds s) ≡ true → first_typed types s ≡ None → ⊥) → ⊥
    by_test true is e rest = let clash : Some x ≡ None = e in cc
    by_test false is e rest = elim (or_cases (is_of types (kind_of_source x.reflexive_type)) (list_any (is_of types) (cut_kinds s)) any) [
      | inl first ↦ (let clash : false ≡ true = sym (same-typed types x.reflexive_type ∙ is) ∙ first in cc)
      | inr later ↦ rest later e
    ]

pub typed-any : (types : ℕ) (s : List CutSource) (x : CutSource) → first_typed types s ≡ Some x → list_any (is_of types) (cut_kinds s) ≡ true
typed-any types [] x found = absurd (let clash : None ≡ Some x = found in cc)
typed-any types (y ∷ s) x found = by_test (is_typed types y.reflexive_type) refl found (typed-any types s x)
  where
    either : (a : Bool) → list_any (is_of types) (cut_kinds s) ≡ true → (a || list_any (is_of types) (cut_kinds s)) ≡ true
    either true is = refl
    either false is = is

    by_test : (b : Bool) → is_typed types y.reflexive_type ≡ b → cond b (Some y) (first_typed types s) ≡ Some x → (first_typed types s ≡ Some x → list_any (is_of types) (cut_kinds s) ≡ true)
        → list_any (is_of types) (cut_kinds (y ∷ s)) ≡ true
    by_test true is e rest = ap (λ b. b || list_any (is_of types) (cut_kinds s)) (same-typed types y.reflexive_type ∙ is)
    by_test false is e rest = either (is_of types (kind_of_source y.reflexive_type)) (rest e)
