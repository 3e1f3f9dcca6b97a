-- The tests that compute are true where the definitions hold.
use Rattle.std.proofs.Common.{◌≡◌, ℕ, zero, suc, ◌+◌, ◌<◌, ◌≤◌, ◌⊎◌, inl, inr, Bool, true, false, not, ◌&&◌, ◌||◌, eqb, eq-eqb, ltb, List, [], ◌∷◌, length, refl, sym, ap, subst, ◌∙◌, arith}
use Rattle.std.specs.Prelude.{◌↔◌, ◌≢◌, IsTrue, Option, Some, None}
use Rattle.std.specs.Option.{is_some}
use Rattle.std.specs.List.{list_any, AllByRecursion, Contains, slice_range}
use Rattle.std.proofs.lemmas.Bool.{cases_order, ltb-true, lt-ltb, eqb-true}
use Rattle.label_patterns.specs.declared.condition.Condition.{Condition}
use Rattle.label_patterns.specs.Barring.{IsBarred}
use Rattle.label_patterns.specs.Matches.{Seen, Rounds, no_round, one_more}
use Rattle.label_patterns.specs.Rules.{Occurs}
use Rattle.label_patterns.specs.Tests.{has_place, condition_barred, ignores_end, occurs_in}
use Rattle.label_patterns.proofs.TestLemmas.{condition-agrees, barred-agrees, occurs-agrees, no-end-agrees, place-tested, and-both, or-one, not-false}
use Rattle.ruleset_text.specs.declared.definition.DemandKind.{DemandKind}
use Rattle.ruleset_text.specs.declared.definition.DemandKind.TheVariants.{Never, Always}
use Rattle.ruleset_text.specs.Actions.{NamedAction, NamedTrigger}
use Rattle.ruleset_text.specs.declared.named_condition.NamedCondition.{NamedCondition}
use Rattle.ruleset_text.specs.Definitions.{Demand}
use Rattle.variant_dispositions.specs.declared.disposition.Disposition.{Disposition}
use Rattle.variant_dispositions.specs.declared.disposition.Disposition.TheVariants.{Invalid, Blocked, Allocatable, Activated, Valid}
use Rattle.variant_dispositions.specs.declared.variant.VariantDisposition.{VariantDisposition}
use Rattle.variant_dispositions.specs.declared.variant.VariantDisposition.TheVariants.{Clear, Unclear}
use Rattle.variant_table.specs.declared.version.Version.{Version}
use Rattle.variant_table.specs.declared.version.Version.TheVariants.{One, Two, Three}
use Rattle.variant_table.specs.Entries.{Entry, TableValue, sequences_in}
use Rattle.variant_table.specs.WellFormed.{IsWellFormed}
use Rattle.variant_table.proofs.MemberLemmas.{Contains-head}
use Rattle.variant_table.specs.Segmentations.{IsMadeOfSources, HasSegmentation, seen_under}
use Rattle.valid_labels.specs.Segments.{IsSegment, SegmentIs, MayReach}
use Rattle.valid_labels.specs.Demands.{IsMet, IsWanted, MeetsDemands}
use Rattle.valid_labels.specs.Dispositions.{IsClearItself, IsOwnDisposition, told_itself}
use Rattle.valid_labels.specs.Eligible.{IsEligible}
use Rattle.valid_labels.specs.Validity.{AllowsAnyCut, AsksCutsAlone, AsksNothing, AsksTypesAlone, IsAdmitted, IsSound, IsValid, IsRefused, LeadsNowhere, IsDeadUnder}
use Rattle.ruleset_text.specs.DefinitionCodes.{is_never}
use Rattle.valid_labels.specs.Tests.{Segment, cut_places, not_asked, sources_of, segments_of, holds_in, may_hold_in, is_made_of_sources, is_eligible, may_reach, is_wanted, are_met, meets_demands, asks_cuts_alone, is_three, allows_any_cut, is_admitted, is_invalid, is_let_in, is_valid, asks_a_rule, is_refused, leads_past, one_up_to, leads_on, is_dead_under, is_open, asks_nothing}
use Rattle.valid_labels.specs.Laws.{TestsAgree}
use Rattle.valid_labels.proofs.CutLemmas.{EntryStands, rounds-map, sequence-filled, cut-steps, steps-cut}
use Rattle.valid_labels.proofs.EligibleLemmas.{eligible-agrees}
use Rattle.valid_labels.proofs.ItselfLemmas.{one-disposition, told-clear, told-none, told-unclear}
use Rattle.valid_labels.proofs.NothingLemmas.{cut-segmentation}
use Rattle.variant_table.proofs.MemberLists.{Contains-map, not-true, any-one, all-members}
use Rattle.valid_labels.proofs.SegmentLemmas.{OneStands, IsFilled, Tells, cut-places-are}
use Rattle.valid_labels.proofs.SegmentationLemmas.{NotAsked, HoldsIn, made-cut}

-- ---- sources

-- entries that are of a table
abbrev pub AreOf : List Entry → List Entry → Type 0
AreOf entries es = (e : Entry) → Contains es e → Contains entries e

pub sources-filled : (entries es : List Entry) → IsWellFormed entries → AreOf entries es → AllByRecursion IsFilled (sources_of es)
sources-filled entries es formed of = all-members IsFilled (sources_of es) (λ p h.
    let g = (Contains-map (λ (e : Entry). let q : Segment = record { points = e.source; condition = e.condition } in q) es p).0 h in
    subst IsFilled (sym g.2) (sequence-filled entries g.0 g.0.source formed (of g.0 g.1) (Contains-head g.0.source (sequences_in g.0.variants))))

-- sources stand where their entries do
sources-stand : (A : Option Condition → ℕ → ℕ → Type 0) (Q : Entry → Type 0) (es : List Entry) (label : List ℕ) → ((e : Entry) → Contains es e ↔ Q e) → (i j : ℕ) → OneStands A (sources_of es) label i j ↔ EntryStands Q A label i j
sources-stand A Q es label are i j =
    let f : Entry → Segment = λ e. record { points = e.source; condition = e.condition } in (
      λ h.
          let g = (Contains-map f es h.0).0 h.1 in
          (g.0, (are g.0).0 g.1, h.2, h.3, h.4 ∙ ap (λ (q : Segment). q.points) g.2, subst (λ (q : Segment). A q.condition i j) g.2 h.5),
      λ h. (f h.0, (Contains-map f es (f h.0)).1 (h.0, (are h.0).1 h.1, refl), h.2, h.3, h.4, h.5),
    )

-- a label is cut into sources where the set has its end
pub sources-agree : (asked : Option Condition → ℕ → ℕ → Bool) (A : Option Condition → ℕ → ℕ → Type 0) (Q : Entry → Type 0) (es : List Entry) (label : List ℕ) → Tells (length label) asked A → AllByRecursion IsFilled (sources_of es)
    → ((e : Entry) → Contains es e ↔ Q e) → (j : ℕ) → IsTrue (has_place (cut_places asked (sources_of es) label) j) ↔ Rounds (EntryStands Q A label) 0 j
sources-agree asked A Q es label tells filled are j =
    let t = place-tested (cut_places asked (sources_of es) label) j in
    let c = cut-places-are label asked A tells (sources_of es) filled j in (
      λ h. rounds-map (OneStands A (sources_of es) label) (EntryStands Q A label) (λ a b. (sources-stand A Q es label are a b).0) 0 j (c.0 (t.0 h)),
      λ h. t.1 (c.1 (rounds-map (EntryStands Q A label) (OneStands A (sources_of es) label) (λ a b. (sources-stand A Q es label are a b).1) 0 j h)),
    )

not-asked-tells : (n : ℕ) → Tells n not_asked NotAsked
not-asked-tells n c i j l m = (λ h. tt, λ h. refl)

pub holds-tells : (table : TableValue) (label : List ℕ) → Tells (length label) (holds_in table label) (HoldsIn table label)
holds-tells table label c i j l m = condition-agrees table.definitions.rules (seen_under table label) c i j l m

pub made-agrees : (table : TableValue) (label : List ℕ) → IsWellFormed table.entries → IsTrue (is_made_of_sources table label) ↔ IsMadeOfSources table label
made-agrees table label formed =
    let s = sources-agree not_asked NotAsked (Contains table.entries) table.entries label (not-asked-tells (length label)) (sources-filled table.entries table.entries formed (λ e h. h)) (λ e. (λ h. h, λ h. h)) (length label) in
    let c = made-cut table label in (
      λ h. c.1 (steps-cut (Contains table.entries) NotAsked label (s.0 h)),
      λ h. s.1 (cut-steps (Contains table.entries) NotAsked label (c.0 h)),
    )

-- ---- segments

segment-is : (p : Segment) (s : List ℕ) (c : Option Condition) → s ≡ p.points → c ≡ p.condition → p ≡ (let q : Segment = record { points = s; condition = c } in q)
segment-is p s c e f =
    ap (λ t. let q : Segment = record { points = t; condition = p.condition } in q) (sym e) ∙ ap (λ d. let q : Segment = record { points = s; condition = d } in q) (sym f)

pub segments-agree : (table : TableValue) (p : Segment) → Contains (segments_of table) p ↔ IsSegment table p.points p.condition
segments-agree table p =
    let f : Entry → Segment = λ e. record { points = e.source; condition = e.condition } in
    let all = Contains-map f table.entries p in (
      λ h. (let e = all.0 h in (e.0, e.1, ap (λ (q : Segment). q.points) (sym e.2), ap (λ (q : Segment). q.condition) (sym e.2))),
      λ a. all.1 (a.0, a.1, segment-is p a.0.source a.0.condition a.2 a.3),
    )

pub segment-filled : (table : TableValue) (s : List ℕ) (c : Option Condition) → IsWellFormed table.entries → IsSegment table s c → 0 < length s
segment-filled table s c formed a = subst (λ t. 0 < length t) a.2 (sequence-filled table.entries a.0 a.0.source formed a.1 (Contains-head a.0.source (sequences_in a.0.variants)))

pub segments-filled : (table : TableValue) → IsWellFormed table.entries → AllByRecursion IsFilled (segments_of table)
segments-filled table formed = sources-filled table.entries table.entries formed (λ e h. h)

-- a segment stands in the label, and what is asked of it is so
abbrev pub SomeSegment : (Option Condition → ℕ → ℕ → Type 0) → TableValue → List ℕ → ℕ → ℕ → Type 0
SomeSegment A table label i j = (c : Option Condition) × SegmentIs table label c i j × A c i j

segments-stand : (A : Option Condition → ℕ → ℕ → Type 0) (table : TableValue) (label : List ℕ) (i j : ℕ) → OneStands A (segments_of table) label i j ↔ SomeSegment A table label i j
segments-stand A table label i j = (
  λ h. (h.0.condition, (h.2, h.3, subst (λ s. IsSegment table s h.0.condition) (sym h.4) ((segments-agree table h.0).0 h.1)), h.5),
  λ h.
      let p : Segment = record { points = slice_range label i j; condition = h.0 } in
      (p, (segments-agree table p).1 h.1.2, h.1.0, h.1.1, refl, h.2),
)

segments-cut : (asked : Option Condition → ℕ → ℕ → Bool) (A : Option Condition → ℕ → ℕ → Type 0) (table : TableValue) (label : List ℕ) → Tells (length label) asked A → IsWellFormed table.entries
    → (j : ℕ) → IsTrue (has_place (cut_places asked (segments_of table) label) j) ↔ Rounds (SomeSegment A table label) 0 j
segments-cut asked A table label tells formed j =
    let t = place-tested (cut_places asked (segments_of table) label) j in
    let c = cut-places-are label asked A tells (segments_of table) (segments-filled table formed) j in (
      λ h. rounds-map (OneStands A (segments_of table) label) (SomeSegment A table label) (λ a b. (segments-stand A table label a b).0) 0 j (c.0 (t.0 h)),
      λ h. t.1 (c.1 (rounds-map (SomeSegment A table label) (OneStands A (segments_of table) label) (λ a b. (segments-stand A table label a b).1) 0 j h)),
    )

may-tells : (table : TableValue) (label : List ℕ) → Tells (length label) (may_hold_in table label) (λ c i j. IsBarred table.definitions.rules (seen_under table label) c i → ⊥)
may-tells table label c i j l m = not-false (condition_barred table.definitions.rules (seen_under table label) c i) (IsBarred table.definitions.rules (seen_under table label) c i) (barred-agrees table.definitions.rules (seen_under table label) c i l)

pub may-reach-agrees : (table : TableValue) (label : List ℕ) → IsWellFormed table.entries → (j : ℕ) → IsTrue (has_place (may_reach table label) j) ↔ MayReach table label j
may-reach-agrees table label formed j = segments-cut (may_hold_in table label) (λ c a b. IsBarred table.definitions.rules (seen_under table label) c a → ⊥) table label (may-tells table label) formed j

-- ---- demands

pub wanted-agrees : (kind : DemandKind) (occurring : Bool) (P : Type 0) → IsTrue occurring ↔ P → IsTrue (is_wanted kind occurring) ↔ IsWanted kind P
wanted-agrees Never occurring P e = not-false occurring P e
wanted-agrees Always occurring P e = e

met-agree : (s : Seen) (demands : List Demand) → IsTrue (are_met s demands) ↔ AllByRecursion (IsMet s) demands
met-agree s [] = (λ h. tt, λ h. refl)
met-agree s (d ∷ demands) =
    let two = and-both (is_wanted d.kind (occurs_in s d.pattern)) (are_met s demands) in
    let one = wanted-agrees d.kind (occurs_in s d.pattern) (Occurs s d.pattern) (occurs-agrees s d.pattern) in
    let rest = met-agree s demands in
    (λ h. (let b = two.0 h in (one.0 b.0, rest.0 b.1)), λ h. two.1 (one.1 h.0, rest.1 h.1))

pub demands-agree : (table : TableValue) (label : List ℕ) → IsTrue (meets_demands table label) ↔ MeetsDemands table label
demands-agree table label = met-agree (seen_under table label) table.definitions.demands

-- ---- what is dead

never-agrees : (kind : DemandKind) → IsTrue (is_never kind) ↔ (kind ≡ Never)
never-agrees Never = (λ h. refl, λ h. refl)
never-agrees Always = (λ h. not-true h, λ h. ap is_never h)

pub refused-agrees : (table : TableValue) (label : List ℕ) → IsTrue (is_refused table label) ↔ IsRefused table label
refused-agrees table label =
    let s = seen_under table label in
    let any = any-one (λ (d : Demand). is_never d.kind && (ignores_end d.pattern && occurs_in s d.pattern)) table.definitions.demands in
    let split = λ (d : Demand). and-both (is_never d.kind) (ignores_end d.pattern && occurs_in s d.pattern) in
    let more = λ (d : Demand). and-both (ignores_end d.pattern) (occurs_in s d.pattern) in (
      λ h.
          let g = any.0 h in
          let b = (split g.0).0 g.2 in
          let m = (more g.0).0 b.1 in
          (g.0, g.1, (never-agrees g.0.kind).0 b.0, (no-end-agrees g.0.pattern).0 m.0, (occurs-agrees s g.0.pattern).0 m.1),
      λ h. any.1 (h.0, h.1, (split h.0).1 ((never-agrees h.0.kind).1 h.2, (more h.0).1 ((no-end-agrees h.0.pattern).1 h.3, (occurs-agrees s h.0.pattern).1 h.4))),
    )

one-place : (n : ℕ) (test : ℕ → Bool) → IsTrue (one_up_to n test) ↔ ((p : ℕ) × (p ≤ n) × IsTrue (test p))
one-place zero test = (
  λ h. (0, omega arith, h),
  λ h. subst (λ p. IsTrue (test p)) (let l = h.1 in omega (arith, l)) h.2,
)
one-place (suc n) test =
    let either = or-one (test (suc n)) (one_up_to n test) in
    let rest = one-place n test in (
      λ h. elim (either.0 h) [ inl a ↦ (suc n, omega arith, a) | inr b ↦ (let g = rest.0 b in (g.0, (let l = g.1 in omega (arith, l)), g.2)) ],
      λ h. either.1 (elim (cases_order h.0 (suc n)) [
        | inl e ↦ inl (subst (λ p. IsTrue (test p)) e h.2)
        | inr o ↦ elim o [
          | inl less ↦ inr (rest.1 (h.0, omega (arith, less), h.2))
          | inr greater ↦ absurd (let l = h.1 in omega (arith, l, greater))
        ]
      ]),
    )

-- what may be reached is within the label
pub may-reach-within : (table : TableValue) (label : List ℕ) (j : ℕ) → MayReach table label j → j ≤ length label
may-reach-within table label _ no_round = omega arith
may-reach-within table label _ (one_more k j rounds step) = step.1.1

abbrev LeadsOn : TableValue → List ℕ → Type 0
LeadsOn table label = (place : ℕ) × (place ≤ length label) × MayReach table label place × ((p : Segment) × IsSegment table p.points p.condition × (length label < place + length p.points))

leads-agrees : (table : TableValue) (label : List ℕ) → IsWellFormed table.entries → IsTrue (leads_on table label) ↔ LeadsOn table label
leads-agrees table label formed =
    let reached = may_reach table label in
    let segments = segments_of table in
    let n = length label in
    let one = one-place n (λ place. has_place reached place && leads_past segments n place) in
    let split = λ (place : ℕ). and-both (has_place reached place) (leads_past segments n place) in
    let any = λ (place : ℕ). any-one (λ (p : Segment). ltb n (place + length p.points)) segments in (
      λ h.
          let g = one.0 h in
          let b = (split g.0).0 g.2 in
          let p = (any g.0).0 b.1 in
          (g.0, g.1, (may-reach-agrees table label formed g.0).0 b.0, (p.0, (segments-agree table p.0).0 p.1, ltb-true n (g.0 + length p.0.points) p.2)),
      λ h. one.1 (h.0, h.1, (split h.0).1 ((may-reach-agrees table label formed h.0).1 h.2, (any h.0).1 (h.3.0, (segments-agree table h.3.0).1 h.3.1, lt-ltb n (h.0 + length h.3.0.points) h.3.2))),
    )

nowhere-agrees : (table : TableValue) (label : List ℕ) → IsWellFormed table.entries → IsTrue (not (leads_on table label)) ↔ LeadsNowhere table label
nowhere-agrees table label formed =
    let none = not-false (leads_on table label) (LeadsOn table label) (leads-agrees table label formed) in (
      λ h place points c reached segment. elim (cases_order (length label) (place + length points)) [
        | inl e ↦ omega (arith, e)
        | inr o ↦ elim o [
          | inl less ↦ absurd (none.0 h (place, may-reach-within table label place reached, reached, ((let p : Segment = record { points = points; condition = c } in p), segment, less)))
          | inr greater ↦ omega (arith, greater)
        ]
      ],
      λ h. none.1 (λ on. (let l = h on.0 on.3.0.points on.3.0.condition on.2 on.3.1 in let m = on.3.2 in omega (arith, l, m))),
    )

nil-is : {X : Type 0} (xs : List X) → IsTrue (eqb (length xs) 0) ↔ (xs ≡ [])
nil-is [] = (λ h. refl, λ h. refl)
nil-is (x ∷ xs) = (λ h. absurd (let e = eqb-true (suc (length xs)) 0 h in omega (arith, e)), λ h. absurd (let e : suc (length xs) ≡ 0 = ap length h in omega (arith, e)))

no-conditions : (entries : List Entry) → IsTrue (not (list_any (λ (e : Entry). is_some e.condition) entries)) ↔ AllByRecursion (λ (e : Entry). e.condition ≡ None) entries
no-conditions [] = (λ h. tt, λ h. refl)
no-conditions (e ∷ entries) = by_condition e.condition refl (no-conditions entries)
  where
    by_condition : (c : Option Condition) → e.condition ≡ c → IsTrue (not (list_any (λ (x : Entry). is_some x.condition) entries)) ↔ AllByRecursion (λ (x : Entry). x.condition ≡ None) entries
        → IsTrue (not (is_some c || list_any (λ (x : Entry). is_some x.condition) entries)) ↔ ((e.condition ≡ None) × AllByRecursion (λ (x : Entry). x.condition ≡ None) entries)
    by_condition None is rest = (λ h. (is, rest.0 h), λ h. rest.1 h.1)
    by_condition (Some c) is rest = (λ h. not-true h, λ h. absurd (let f : Some c ≡ None = sym is ∙ h.0 in cc))

no-types : (entries : List Entry) → IsTrue (not (list_any (λ (e : Entry). is_some e.type) entries)) ↔ AllByRecursion (λ (e : Entry). e.type ≡ None) entries
no-types [] = (λ h. tt, λ h. refl)
no-types (e ∷ entries) = by_type e.type refl (no-types entries)
  where
    by_type : (t : Option ℕ) → e.type ≡ t → IsTrue (not (list_any (λ (x : Entry). is_some x.type) entries)) ↔ AllByRecursion (λ (x : Entry). x.type ≡ None) entries
        → IsTrue (not (is_some t || list_any (λ (x : Entry). is_some x.type) entries)) ↔ ((e.type ≡ None) × AllByRecursion (λ (x : Entry). x.type ≡ None) entries)
    by_type None is rest = (λ h. (is, rest.0 h), λ h. rest.1 h.1)
    by_type (Some t) is rest = (λ h. not-true h, λ h. absurd (let f : Some t ≡ None = sym is ∙ h.0 in cc))

types-alone : (actions : List NamedAction) → IsTrue (not (list_any asks_a_rule actions)) ↔ AllByRecursion AsksTypesAlone actions
types-alone [] = (λ h. tt, λ h. refl)
types-alone (a ∷ actions) = by_parts a.condition a.trigger refl refl (types-alone actions)
  where
    by_parts : (c : Option NamedCondition) (t : Option NamedTrigger) → a.condition ≡ c → a.trigger ≡ t → IsTrue (not (list_any asks_a_rule actions)) ↔ AllByRecursion AsksTypesAlone actions
        → IsTrue (not ((is_some c || not (is_some t)) || list_any asks_a_rule actions)) ↔ (AsksTypesAlone a × AllByRecursion AsksTypesAlone actions)
    by_parts (Some c) t is has rest = (λ h. not-true h, λ h. absurd (let f : Some c ≡ None = sym is ∙ h.0.0 in cc))
    by_parts None None is has rest = (λ h. not-true h, λ h. absurd (h.0.1 has))
    by_parts None (Some t) is has rest = (
      λ h. ((is, λ none. absurd (let f : Some t ≡ None = sym has ∙ none in cc)), rest.0 h),
      λ h. rest.1 h.1,
    )

-- ---- what is asked besides cuts

cuts_alone-agrees : (table : TableValue) → IsTrue (asks_cuts_alone table) ↔ AsksCutsAlone table
cuts_alone-agrees table =
    let first = not (list_any (λ (e : Entry). is_some e.condition) table.entries) in
    let second = eqb (length table.definitions.demands) 0 in
    let third = not (list_any (λ (e : Entry). is_some e.type) table.entries) in
    let last = not (list_any asks_a_rule table.definitions.actions) in
    let one = and-both first (second && (third && last)) in
    let two = and-both second (third && last) in
    let three = and-both third last in
    let conditions = no-conditions table.entries in
    let demands = nil-is table.definitions.demands in
    let types = no-types table.entries in
    let actions = types-alone table.definitions.actions in (
      λ h.
          let a = one.0 h in
          let b = two.0 a.1 in
          let c = three.0 b.1 in
          record { conditions = conditions.0 a.0; demands = demands.0 b.0; types = types.0 c.0; actions = actions.0 c.1 },
      λ h. one.1 (conditions.1 h.conditions, two.1 (demands.1 h.demands, three.1 (types.1 h.types, actions.1 h.actions))),
    )

earlier-agrees : (v : Version) → IsTrue (not (is_three v)) ↔ (v ≢ Three)
earlier-agrees One = (λ h e. (let f : One ≡ Three = e in cc), λ h. refl)
earlier-agrees Two = (λ h e. (let f : Two ≡ Three = e in cc), λ h. refl)
earlier-agrees Three = (λ h. not-true h, λ h. absurd (h refl))

any-cut-agrees : (table : TableValue) → IsTrue (allows_any_cut table) ↔ AllowsAnyCut table
any-cut-agrees table =
    let two = and-both (not (is_three table.version)) (asks_cuts_alone table) in
    let v = earlier-agrees table.version in
    let u = cuts_alone-agrees table in (
      λ h. (let b = two.0 h in record { earlier = v.0 b.0; cuts_alone = u.0 b.1 }),
      λ h. two.1 (v.1 h.earlier, u.1 h.cuts_alone),
    )

pub dead-agrees : (table : TableValue) (label : List ℕ) → IsWellFormed table.entries → IsTrue (is_dead_under table label) ↔ IsDeadUnder table label
dead-agrees table label formed =
    let first = and-both (not (allows_any_cut table)) (ltb 0 (length label) && (is_refused table label || not (leads_on table label))) in
    let asks = not-false (allows_any_cut table) (AllowsAnyCut table) (any-cut-agrees table) in
    let two = and-both (ltb 0 (length label)) (is_refused table label || not (leads_on table label)) in
    let either = or-one (is_refused table label) (not (leads_on table label)) in
    let refused = refused-agrees table label in
    let nowhere = nowhere-agrees table label formed in (
      λ h.
          let a = first.0 h in
          let b = two.0 a.1 in
          record { asks = asks.0 a.0; some = ltb-true 0 (length label) b.0; dead = elim (either.0 b.1) [ inl r ↦ inl (refused.0 r) | inr w ↦ inr (nowhere.0 w) ] },
      λ h. first.1 (asks.1 h.asks, two.1 (lt-ltb 0 (length label) h.some, either.1 (elim h.dead [ inl r ↦ inl (refused.1 r) | inr w ↦ inr (nowhere.1 w) ]))),
    )

-- ---- all of them

pub invalid-agrees : (d : Disposition) → IsTrue (is_invalid d) ↔ (d ≡ Invalid)
invalid-agrees Invalid = (λ h. refl, λ h. refl)
invalid-agrees Blocked = (λ h. not-true h, λ h. ap is_invalid h)
invalid-agrees Allocatable = (λ h. not-true h, λ h. ap is_invalid h)
invalid-agrees Activated = (λ h. not-true h, λ h. ap is_invalid h)
invalid-agrees Valid = (λ h. not-true h, λ h. ap is_invalid h)

-- by what is told of the label itself
let-in-agrees : (table : TableValue) (label : List ℕ) → IsSound table → HasSegmentation table label
    → IsTrue (is_let_in (told_itself table label)) ↔ (IsClearItself table label × (¬ IsOwnDisposition table label Invalid))
let-in-agrees table label sound has = by_value (told_itself table label) refl
  where
    by_value : (o : Option VariantDisposition) → told_itself table label ≡ o → IsTrue (is_let_in o) ↔ (IsClearItself table label × (¬ IsOwnDisposition table label Invalid))
    by_value None is = (λ h. not-true h, λ h. absurd ((told-none table label sound).0 is has))
    by_value (Some Unclear) is = (λ h. not-true h, λ h. absurd ((told-unclear table label sound).0 is h.0))
    by_value (Some (Clear d)) is =
        let t = (told-clear table label sound d).0 is in
        let invalid = not-false (is_invalid d) (d ≡ Invalid) (invalid-agrees d) in (
          λ h. (t.0, λ other. invalid.0 h (one-disposition table label d Invalid t.0 t.1 other)),
          λ h. invalid.1 (λ e. h.1 (subst (IsOwnDisposition table label) e t.1)),
        )

admitted-agrees : (table : TableValue) (label : List ℕ) → IsSound table → IsTrue (is_admitted table label) ↔ IsAdmitted table label
admitted-agrees table label sound =
    let cuts = (allows_any_cut table && is_made_of_sources table label) || is_eligible table label in
    let two = and-both cuts (meets_demands table label && is_let_in (told_itself table label)) in
    let more = and-both (meets_demands table label) (is_let_in (told_itself table label)) in
    let either = or-one (allows_any_cut table && is_made_of_sources table label) (is_eligible table label) in
    let any = and-both (allows_any_cut table) (is_made_of_sources table label) in
    let a = any-cut-agrees table in
    let m = made-agrees table label sound.entries in
    let s = eligible-agrees table label sound.entries in
    let d = demands-agree table label in (
      λ h.
          let b = two.0 h in
          let c = more.0 b.1 in
          let cut : (AllowsAnyCut table × IsMadeOfSources table label) ⊎ IsEligible table label =
          elim (either.0 b.0) [ inl x ↦ inl (let y = any.0 x in (a.0 y.0, m.0 y.1)) | inr y ↦ inr (s.0 y) ] in
          let own = (let-in-agrees table label sound (cut-segmentation table label cut)).0 c.1 in
          record { cut = cut; met = d.0 c.0; clear = own.0; not_invalid = own.1 },
      λ h. two.1 (
        either.1 (elim h.cut [ inl x ↦ inl (any.1 (a.1 x.0, m.1 x.1)) | inr y ↦ inr (s.1 y) ]),
        more.1 (d.1 h.met, (let-in-agrees table label sound (cut-segmentation table label h.cut)).1 (h.clear, h.not_invalid)),
      ),
    )

valid-agrees : (table : TableValue) (label : List ℕ) → IsWellFormed table.entries → IsTrue (is_valid table label) ↔ IsValid table label
valid-agrees table label formed =
    let two = and-both (allows_any_cut table || is_eligible table label) (meets_demands table label) in
    let either = or-one (allows_any_cut table) (is_eligible table label) in
    let a = any-cut-agrees table in
    let s = eligible-agrees table label formed in
    let d = demands-agree table label in (
      λ h. (let b = two.0 h in record { cut = elim (either.0 b.0) [ inl x ↦ inl (a.0 x) | inr y ↦ inr (s.0 y) ]; met = d.0 b.1 }),
      λ h. two.1 (either.1 (elim h.cut [ inl x ↦ inl (a.1 x) | inr y ↦ inr (s.1 y) ]), d.1 h.met),
    )

-- no variant is open where each is made of sources
made-all : (table : TableValue) (ss : List (List ℕ)) → IsWellFormed table.entries → IsTrue (not (list_any (λ s. not (is_made_of_sources table s)) ss)) ↔ AllByRecursion (IsMadeOfSources table) ss
made-all table [] formed = (λ h. tt, λ h. refl)
made-all table (s ∷ ss) formed = by_test (is_made_of_sources table s) refl (made-agrees table s formed) (made-all table ss formed)
  where
    by_test : (b : Bool) → is_made_of_sources table s ≡ b → IsTrue (is_made_of_sources table s) ↔ IsMadeOfSources table s → IsTrue (not (list_any (λ v. not (is_made_of_sources table v)) ss)) ↔ AllByRecursion (IsMadeOfSources table) ss
        → IsTrue (not (not b || list_any (λ v. not (is_made_of_sources table v)) ss)) ↔ (IsMadeOfSources table s × AllByRecursion (IsMadeOfSources table) ss)
    by_test true is agrees rest = (λ h. (agrees.0 is, rest.0 h), λ h. rest.1 h.1)
    by_test false is agrees rest = (λ h. not-true h, λ h. absurd (let f : true ≡ false = sym (agrees.1 h.0) ∙ is in cc))

not-or : (a b : Bool) → IsTrue (not (not a || b)) ↔ (IsTrue a × IsTrue (not b))
not-or true b = (λ h. (refl, h), λ h. h.1)
not-or false b = (λ h. not-true h, λ h. absurd (let f : false ≡ true = h.0 in cc))

abbrev Singles : TableValue → List Entry → Type 0
Singles table es = AllByRecursion (λ (e : Entry). length e.source ≡ 1) es × AllByRecursion (λ (e : Entry). AllByRecursion (IsMadeOfSources table) (sequences_in e.variants)) es

none-open : (table : TableValue) (es : List Entry) → IsWellFormed table.entries → IsTrue (not (list_any (is_open table) es)) ↔ Singles table es
none-open table [] formed = (λ h. (tt, tt), λ h. refl)
none-open table (e ∷ es) formed =
    let one = not-or (eqb (length e.source) 1) (list_any (λ s. not (is_made_of_sources table s)) (sequences_in e.variants)) in
    let variants = made-all table (sequences_in e.variants) formed in
    by_test (is_open table e) refl one variants (none-open table es formed)
  where
    by_test : (b : Bool) → is_open table e ≡ b → IsTrue (not (is_open table e)) ↔ (IsTrue (eqb (length e.source) 1) × IsTrue (not (list_any (λ s. not (is_made_of_sources table s)) (sequences_in e.variants)))) → IsTrue (not (list_any (λ s. not (is_made_of_sources table s)) (sequences_in e.variants))) ↔ AllByRecursion (IsMadeOfSources table) (sequences_in e.variants)
        → IsTrue (not (list_any (is_open table) es)) ↔ Singles table es → IsTrue (not (b || list_any (is_open table) es)) ↔ Singles table (e ∷ es)
    by_test true is one variants rest = (
      λ h. not-true h,
      λ h. absurd (
          let f : IsTrue (not (is_open table e)) = one.1 (eq-eqb (length e.source) 1 h.0.0, variants.1 h.1.0) in
          let g : false ≡ true = sym (ap not is) ∙ f in cc),
    )
    by_test false is one variants rest = (
      λ h.
          let r = rest.0 h in
          let o = one.0 (ap not is) in
          ((eqb-true (length e.source) 1 o.0, r.0), (variants.0 o.1, r.1)),
      λ h. rest.1 (h.0.1, h.1.1),
    )

pub nothing-agrees : (table : TableValue) → IsWellFormed table.entries → IsTrue (asks_nothing table) ↔ AsksNothing table
nothing-agrees table formed =
    let two = and-both (asks_cuts_alone table) (not (is_three table.version) || not (list_any (is_open table) table.entries)) in
    let either = or-one (not (is_three table.version)) (not (list_any (is_open table) table.entries)) in
    let u = cuts_alone-agrees table in
    let v = earlier-agrees table.version in
    let s = none-open table table.entries formed in (
      λ h.
          let b = two.0 h in
          record { cuts_alone = u.0 b.0; cuts = elim (either.0 b.1) [ inl x ↦ inl (v.0 x) | inr y ↦ inr (s.0 y) ] },
      λ h. two.1 (u.1 h.cuts_alone, either.1 (elim h.cuts [ inl x ↦ inl (v.1 x) | inr y ↦ inr (s.1 y) ])),
    )

pub tests-agree : TestsAgree
tests-agree = record {
  made_of_sources = λ table label sound. made-agrees table label sound.entries;
  eligible = λ table label sound. eligible-agrees table label sound.entries;
  admitted = λ table label sound. admitted-agrees table label sound;
  valid = λ table label sound. valid-agrees table label sound.entries;
  nothing = nothing-agrees;
  dead = λ table label sound. dead-agrees table label sound.entries;
}
