-- The cause that is told is the one that there is.
use Rattle.std.proofs.Common.{◌≡◌, ℕ, zero, suc, ◌+◌, ◌<◌, ◌≤◌, ◌⊎◌, inl, inr, Bool, true, false, cond, eqb, eq-eqb, List, [], ◌∷◌, length, refl, sym, ap, subst, ◌∙◌, arith}
use Rattle.std.specs.Prelude.{◌↔◌, IsTrue, Option, Some, None, slice_get, AllPairs}
use Rattle.std.specs.Option.{is_some}
use Rattle.std.specs.List.{AllByRecursion, Contains, slice_range}
use Rattle.std.proofs.lemmas.Bool.{cases_order, eqb-true}
use Rattle.std.proofs.lemmas.Option.{same_Some}
use Rattle.label_patterns.specs.declared.condition.Condition.{Condition}
use Rattle.label_patterns.specs.Matches.{Seen}
use Rattle.label_patterns.specs.Rules.{Occurs}
use Rattle.label_patterns.specs.Tests.{occurs_in}
use Rattle.label_patterns.proofs.TestLemmas.{occurs-agrees}
use Rattle.ruleset_text.specs.Definitions.{Demand}
use Rattle.variant_dispositions.specs.declared.action.Action.{Action}
use Rattle.variant_dispositions.specs.declared.disposition.Disposition.TheVariants.{Invalid}
use Rattle.variant_dispositions.specs.declared.variant.VariantDisposition.{VariantDisposition}
use Rattle.variant_dispositions.specs.declared.variant.VariantDisposition.TheVariants.{Clear, Unclear as Apart}
use Rattle.variant_table.specs.Entries.{Entry, TableValue}
use Rattle.variant_table.specs.Places.{entries_at}
use Rattle.variant_table.specs.WellFormed.{IsWellFormed}
use Rattle.variant_table.proofs.BeginningLemmas.{entries_are_at, same_entry}
use Rattle.variant_table.proofs.MemberLemmas.{Contains-head, Contains-later, Contains-none, Contains-cases}
use Rattle.variant_table.proofs.NumberLemmas.{pairs_tail}
use Rattle.variant_table.specs.Segmentations.{seen_under}
use Rattle.valid_labels.specs.declared.cause.ValidityCause.{ValidityCause}
use Rattle.valid_labels.specs.declared.cause.ValidityCause.TheVariants.{NotEligible, Broken, Unclear, Action as ByAction, DefaultAction}
use Rattle.valid_labels.specs.Actions.{actions_of}
use Rattle.valid_labels.specs.Dispositions.{IsClearItself, IsOwnDisposition, told_itself}
use Rattle.valid_labels.specs.Eligible.{Stands, IsCutEnd, IsEligible, CutLeadsTo}
use Rattle.valid_labels.specs.Demands.{IsMet}
use Rattle.valid_labels.specs.Validity.{AllowsAnyCut, IsAdmitted, IsSound}
use Rattle.valid_labels.specs.Tests.{holds_in, is_invalid, is_wanted, cut_end}
use Rattle.valid_labels.specs.Causes.{IsActionCause, IsAt, IsDisposed, IsFirstTriggered, IsStoppedBy, IsFirstBroken, IsCause, action_cause, broken_from, cause_of, cause_told, invalid_by, last_condition, longest_cut, or_else, stopped_by}
use Rattle.valid_labels.specs.CauseLaws.{CauseIsExact}
use Rattle.valid_labels.proofs.EligibleLemmas.{opposite, pairs-head, Shorter, to-stands, longest-is, cut-end-is, cut-within, eligible-segmentation, end-told, whole-end}
use Rattle.valid_labels.proofs.ActionCauses.{action-invalid, default-makes_invalid, invalid-told, listed-at, one-action-cause}
use Rattle.valid_labels.proofs.CutSources.{one-typed}
use Rattle.valid_labels.proofs.ItselfLemmas.{one-disposition, told-clear, told-none, told-unclear}
use Rattle.valid_labels.proofs.PartLemmas.{first-part}
use Rattle.valid_labels.proofs.TestLemmas.{invalid-agrees, wanted-agrees}

none-some : {X P : Type 0} (a : X) → None ≡ Some a → P
none-some a e = absurd (let f : None ≡ Some a = e in cc)

-- ---- the condition that stops the cut

module _ (table : TableValue) (label : List ℕ) (place : ℕ) where
  -- the last of these has this condition; or there is none, and it is the one that was found before
  abbrev LastIs : Option Condition → Option Condition → List Entry → Type 0
  LastIs found told es = ((told ≡ found) × ((f : Entry) → Contains es f → ⊥)) ⊎ ((e : Entry) × Contains es e × ((f : Entry) → Contains es f → length f.source ≤ length e.source) × (told ≡ e.condition))

  last-is : (es : List Entry) (found : Option Condition) → AllPairs Shorter es → LastIs found (last_condition found es) es
  last-is [] found pairs = inl (refl, λ f m. Contains-none f m)
  last-is (x ∷ es) found pairs = elim (last-is es x.condition (pairs_tail Shorter x es pairs)) [
    | inl none ↦ inr (
      x,
      Contains-head x es,
      λ f m. elim (Contains-cases x es f m) [ inl same ↦ (let n = ap (λ (y : Entry). length y.source) same in omega (arith, n)) | inr k ↦ absurd (none.1 f k) ],
      none.0,
    )
    | inr e ↦ inr (
      e.0,
      Contains-later x es e.0 e.1,
      λ f m. elim (Contains-cases x es f m) [
        | inl same ↦ (let n = ap (λ (y : Entry). length y.source) same in let l = pairs-head Shorter x es pairs e.0 e.1 in omega (arith, n, l))
        | inr k ↦ e.2 f k
      ],
      e.3,
    )
  ]

  module _ (formed : IsWellFormed table.entries) where
    abbrev At : List Entry
    At = entries_at table.entries label place

    member : (e : Entry) → Contains At e ↔ IsAt table label place e
    member e = (entries_are_at table.entries label place formed).members e

    -- where the cut ends nothing stands
    end-stops : IsCutEnd table label place → (f : Entry) → Stands table label place f → ⊥
    end-stops is f stands = elim (longest-is table label place formed) [
      | inl a ↦ a.1 f stands
      | inr b ↦ is.last (place + length b.0.source) (b.0, b.2, refl)
    ]

    module _ (stops : (f : Entry) → Stands table label place f → ⊥) where
      -- an entry there has a condition, which fails
      has-condition : (e : Entry) → Contains At e → (c : Condition) × (e.condition ≡ Some c)
      has-condition e m = by_condition e.condition refl
        where
          by_condition : (o : Option Condition) → e.condition ≡ o → (c : Condition) × (e.condition ≡ Some c)
          by_condition None is = absurd (stops e (to-stands table label place formed e m (ap (λ o. holds_in table label o place (place + length e.source)) is)))
          by_condition (Some c) is = (c, is)

      -- what is told is what stops the cut
      stopped-is : IsStoppedBy table label place (stopped_by table label place)
      stopped-is = elim (last-is At None (entries_are_at table.entries label place formed).rising) [
        | inl none ↦ subst (IsStoppedBy table label place) (sym none.0) (λ e at. none.1 e ((member e).1 at))
        | inr e ↦
            let c = has-condition e.0 e.1 in
            subst (IsStoppedBy table label place) (sym (e.3 ∙ c.1))
            (stops, (e.0, record { at = (member e.0).0 e.1; longest = λ f at. e.2 f ((member f).1 at) }, c.1))
      ]

    -- and nothing else does
    stopped-one : (a b : Option Condition) → IsStoppedBy table label place a → IsStoppedBy table label place b → a ≡ b
    stopped-one None None first second = refl
    stopped-one None (Some d) first second = absurd (first second.1.0 second.1.1.at)
    stopped-one (Some c) None first second = absurd (second first.1.0 first.1.1.at)
    stopped-one (Some c) (Some d) first second =
        let e = first.1.0 in
        let f = second.1.0 in
        let l = first.1.1.longest f second.1.1.at in
        let m = second.1.1.longest e first.1.1.at in
        let size : length e.source ≡ length f.source = omega (arith, l, m) in
        let source : e.source ≡ f.source =
        sym (first-part label place e.source first.1.1.at.1.0 first.1.1.at.1.1) ∙ ap (λ n. slice_range label place (place + n)) size ∙ first-part label place f.source second.1.1.at.1.0 second.1.1.at.1.1 in
        let same = same_entry table.entries e f formed.sources first.1.1.at.0 second.1.1.at.0 source in
        sym first.1.2 ∙ ap (λ (x : Entry). x.condition) same ∙ second.1.2

-- ---- demands

met-agrees : (s : Seen) (d : Demand) → IsTrue (is_wanted d.kind (occurs_in s d.pattern)) ↔ IsMet s d
met-agrees s d = wanted-agrees d.kind (occurs_in s d.pattern) (Occurs s d.pattern) (occurs-agrees s d.pattern)

abbrev BrokenAt : Seen → List Demand → ℕ → ValidityCause → Type 0
BrokenAt s ds n cause = (m : ℕ) × ((d : Demand) × IsFirstBroken s ds m d × (cause ≡ Broken (n + m) d.kind))

broken-sound : (s : Seen) (ds : List Demand) (n : ℕ) (cause : ValidityCause) → broken_from s n ds ≡ Some cause → BrokenAt s ds n cause
broken-sound s [] n cause h = none-some cause h
broken-sound s (d ∷ ds) n cause h = by_test (is_wanted d.kind (occurs_in s d.pattern)) refl (broken-sound s ds (suc n) cause) h
  where
    first_met : (e : Demand) → is_wanted d.kind (occurs_in s d.pattern) ≡ true → Some d ≡ Some e → IsMet s e
    first_met e is same = subst (IsMet s) (same_Some d e same) ((met-agrees s d).0 is)

    by_place : (bound : ℕ) → is_wanted d.kind (occurs_in s d.pattern) ≡ true → ((m : ℕ) (x : Demand) → m < bound → slice_get ds m ≡ Some x → IsMet s x) → (k : ℕ) (e : Demand) → k < suc bound → slice_get (d ∷ ds) k ≡ Some e → IsMet s e
    by_place bound is first zero e l at = first_met e is at
    by_place bound is first (suc k) e l at = first k e (omega (arith, l)) at

    by_test : (b : Bool) → is_wanted d.kind (occurs_in s d.pattern) ≡ b → (broken_from s (suc n) ds ≡ Some cause → BrokenAt s ds (suc n) cause)
        → cond b (broken_from s (suc n) ds) (Some (Broken n d.kind)) ≡ Some cause → BrokenAt s (d ∷ ds) n cause
    by_test true is later g =
        let r = later g in
        let number : suc n + r.0 ≡ n + suc r.0 = omega arith in (
          suc r.0,
          (
            r.1.0,
            record {
              at = r.1.1.at;
              broken = r.1.1.broken;
              first = by_place r.0 is r.1.1.first;
            },
            r.1.2 ∙ ap (λ m. Broken m r.1.0.kind) number,
          ),
        )
    by_test false is later g = (
      0,
      (
        d,
        record {
          at = refl;
          broken = λ met. opposite (is_wanted d.kind (occurs_in s d.pattern)) ((met-agrees s d).1 met) is;
          first = λ k e l at. absurd (omega (arith, l));
        },
        sym (same_Some (Broken n d.kind) cause g) ∙ (let number : n ≡ n + 0 = omega arith in ap (λ m. Broken m d.kind) number),
      ),
    )

broken-none : (s : Seen) (ds : List Demand) (n : ℕ) → broken_from s n ds ≡ None → AllByRecursion (IsMet s) ds
broken-none s [] n h = tt
broken-none s (d ∷ ds) n h = by_test (is_wanted d.kind (occurs_in s d.pattern)) refl (broken-none s ds (suc n)) h
  where
    by_test : (b : Bool) → is_wanted d.kind (occurs_in s d.pattern) ≡ b → (broken_from s (suc n) ds ≡ None → AllByRecursion (IsMet s) ds)
        → cond b (broken_from s (suc n) ds) (Some (Broken n d.kind)) ≡ None → AllByRecursion (IsMet s) (d ∷ ds)
    by_test true is later g = ((met-agrees s d).0 is, later g)
    by_test false is later g = none-some (Broken n d.kind) (sym g)

-- one of demands that are met
met-at : (s : Seen) (ds : List Demand) (m : ℕ) (d : Demand) → AllByRecursion (IsMet s) ds → slice_get ds m ≡ Some d → IsMet s d
met-at s [] m d all at = none-some d at
met-at s (x ∷ ds) zero d all at = subst (IsMet s) (same_Some x d at) all.0
met-at s (x ∷ ds) (suc m) d all at = met-at s ds m d all.1 at

get-one : {X : Type 0} (xs : List X) (m n : ℕ) (a b : X) → m ≡ n → slice_get xs m ≡ Some a → slice_get xs n ≡ Some b → a ≡ b
get-one xs m n a b e f g = same_Some a b (sym f ∙ ap (slice_get xs) e ∙ g)

-- one demand is the first that is broken
one-broken : (s : Seen) (ds : List Demand) (m n : ℕ) (d e : Demand) → IsFirstBroken s ds m d → IsFirstBroken s ds n e → (m ≡ n) × (d ≡ e)
one-broken s ds m n d e first second =
    let number : m ≡ n = elim (cases_order m n) [
      | inl same ↦ same
      | inr o ↦ elim o [ inl less ↦ absurd (first.broken (second.first m d less first.at)) | inr more ↦ absurd (second.broken (first.first n e more second.at)) ]
    ] in
    (number, get-one ds m n d e number first.at second.at)

-- what is told where demands are met, and where one is broken
broken-met : (s : Seen) (ds : List Demand) → AllByRecursion (IsMet s) ds → broken_from s 0 ds ≡ None
broken-met s ds met = by_value (broken_from s 0 ds) refl
  where
    by_value : (o : Option ValidityCause) → broken_from s 0 ds ≡ o → o ≡ None
    by_value None is = refl
    by_value (Some cause) is = (let b = broken-sound s ds 0 cause is in absurd (b.1.1.broken (met-at s ds b.0 b.1.0 met b.1.1.at)))

broken-first : (s : Seen) (ds : List Demand) (n : ℕ) (d : Demand) → IsFirstBroken s ds n d → broken_from s 0 ds ≡ Some (Broken n d.kind)
broken-first s ds n d first = by_value (broken_from s 0 ds) refl
  where
    by_value : (o : Option ValidityCause) → broken_from s 0 ds ≡ o → o ≡ Some (Broken n d.kind)
    by_value None is = absurd (first.broken (met-at s ds n d (broken-none s ds 0 is) first.at))
    by_value (Some cause) is =
        let b = broken-sound s ds 0 cause is in
        let same = one-broken s ds b.0 n b.1.0 d b.1.1 first in
        let number : 0 + b.0 ≡ n = let e = same.0 in omega (arith, e) in
        ap (λ c. Some c) (b.1.2 ∙ ap (λ m. Broken m b.1.0.kind) number ∙ ap (λ (x : Demand). Broken n x.kind) same.1)

-- ---- the cause that is told, step by step

module _ (table : TableValue) (label : List ℕ) (sound_table : IsSound table) where
  formed : IsWellFormed table.entries
  formed = sound_table.entries

  abbrev End : ℕ
  End = cut_end table label

  -- where the label is eligible
  abbrev Later : Option ValidityCause
  Later = or_else (broken_from (seen_under table label) 0 table.definitions.demands) (cause_told table label (told_itself table label))

  pub at-end : IsEligible table label → cause_of table label ≡ Later
  at-end eligible =
      let end : End ≡ length label = sym ((end-told table label formed (length label)).0 (whole-end table label formed eligible)) in
      ap (λ b. cond b Later (Some (NotEligible End (stopped_by table label End)))) (eq-eqb End (length label) end)

  pub before-end : End < length label → cause_of table label ≡ Some (NotEligible End (stopped_by table label End))
  before-end less = ap (λ b. cond b Later (Some (NotEligible End (stopped_by table label End)))) (by_test (eqb End (length label)) refl)
    where
      by_test : (b : Bool) → eqb End (length label) ≡ b → b ≡ false
      by_test true is = absurd (let e = eqb-true End (length label) is in omega (arith, less, e))
      by_test false is = refl

  when-met : IsDisposed table label → cause_of table label ≡ cause_told table label (told_itself table label)
  when-met d = at-end d.eligible ∙ ap (λ o. or_else o (cause_told table label (told_itself table label))) (broken-met (seen_under table label) table.definitions.demands d.met)

  when-invalid : IsDisposed table label → IsClearItself table label → IsOwnDisposition table label Invalid → cause_of table label ≡ invalid_by table label (longest_cut table label)
  when-invalid d clear invalid = when-met d ∙ ap (cause_told table label) ((told-clear table label sound_table Invalid).1 (clear, invalid))

  -- ---- a cause that there is is told

  complete : (cause : ValidityCause) → IsCause table label cause → cause_of table label ≡ Some cause
  complete (NotEligible place condition) is =
      let end : place ≡ End = (end-told table label formed place).0 is.0 in
      let l = is.1 in
      let stops = subst (λ n. IsStoppedBy table label n condition) end is.2 in
      let same = stopped-one table label End formed (stopped_by table label End) condition
      (stopped-is table label End formed (end-stops table label End formed (cut-end-is table label formed))) stops in
      before-end (omega (arith, l, end)) ∙ ap (λ c. Some (NotEligible End c)) same ∙ ap (λ n. Some (NotEligible n condition)) (sym end)
  complete (Broken n kind) is =
      at-end is.0
      ∙ ap (λ o. or_else o (cause_told table label (told_itself table label))) (broken-first (seen_under table label) table.definitions.demands n is.1.0 is.1.1)
      ∙ ap (λ k. Some (Broken n k)) is.1.2
  complete Unclear is = when-met is.0 ∙ ap (cause_told table label) ((told-unclear table label sound_table).1 is.1)
  complete (ByAction n cause) is =
      let invalid = action-invalid table label formed is.0.eligible is.1 n is.2.0 is.2.1 is.2.2 in
      when-invalid is.0 is.1 invalid ∙ (elim (invalid-told table label formed is.0.eligible is.1 invalid) [
        | inl a ↦
            let number = one-triggered a.0 n a.1 is.2.0 a.2 is.2.1 in
            let same = get-one (actions_of table.definitions) a.0 n a.1 is.2.0 number a.2.at is.2.1.at in
            let told = one-action-cause table label formed is.0.eligible is.1 is.2.0 (action_cause (longest_cut table label) a.1.types a.1.condition) cause (subst (λ x. IsActionCause table label x (action_cause (longest_cut table label) a.1.types a.1.condition)) same a.5) is.2.3 in
            a.4 ∙ ap (λ m. Some (ByAction m (action_cause (longest_cut table label) a.1.types a.1.condition))) number ∙ ap (λ c. Some (ByAction n c)) told
        | inr d ↦ absurd (d.1 is.2.0 (listed-at (actions_of table.definitions) n is.2.0 is.2.1.at) is.2.1.triggered)
      ])
    where
      one-triggered : (m k : ℕ) (a b : Action) → IsFirstTriggered table label m a → IsFirstTriggered table label k b → m ≡ k
      one-triggered m k a b first second = elim (cases_order m k) [
        | inl same ↦ same
        | inr o ↦ elim o [ inl less ↦ absurd (second.first m a less first.at first.triggered) | inr more ↦ absurd (first.first k b more second.at second.triggered) ]
      ]
  complete (DefaultAction place) is =
      let invalid = default-makes_invalid table label formed is.0.eligible is.1 place is.2 is.3 in
      when-invalid is.0 is.1 invalid ∙ (elim (invalid-told table label formed is.0.eligible is.1 invalid) [
        | inl a ↦ absurd (is.2 a.1 (listed-at (actions_of table.definitions) a.0 a.1 a.2.at) a.2.triggered)
        | inr d ↦ d.3 ∙ ap (λ p. Some (DefaultAction p)) (one-typed table label formed 4 d.0 place 0 0 d.2 is.3).0
      ])

  -- ---- and what is told is one, or there is none and the label may be asked about

  abbrev IsSo : Option ValidityCause → Type 0
  IsSo None = IsAdmitted table label
  IsSo (Some cause) = IsCause table label cause

  so-told : IsDisposed table label → (o : Option VariantDisposition) → told_itself table label ≡ o → IsSo (cause_told table label o)
  so-told d None is = absurd ((told-none table label sound_table).0 is (eligible-segmentation table label d.eligible))
  so-told d (Some Apart) is = (d, (told-unclear table label sound_table).0 is)
  so-told d (Some (Clear disposition)) is = by_invalid (is_invalid disposition) refl
    where
      own : IsClearItself table label × IsOwnDisposition table label disposition
      own = (told-clear table label sound_table disposition).0 is

      by_invalid : (b : Bool) → is_invalid disposition ≡ b → IsSo (cond b (invalid_by table label (longest_cut table label)) None)
      by_invalid true invalid = elim (invalid-told table label formed d.eligible own.0 (subst (IsOwnDisposition table label) ((invalid-agrees disposition).0 invalid) own.1)) [
        | inl a ↦ subst IsSo (sym a.4) (d, own.0, (a.1, a.2, a.3, a.5))
        | inr e ↦ subst IsSo (sym e.3) (d, own.0, e.1, e.2)
      ]
      by_invalid false valid = record {
        cut = inr d.eligible;
        met = d.met;
        clear = own.0;
        not_invalid = λ other. opposite (is_invalid disposition) ((invalid-agrees disposition).1 (one-disposition table label disposition Invalid own.0 own.1 other)) valid;
      }

  so-later : IsEligible table label → (o : Option ValidityCause) → broken_from (seen_under table label) 0 table.definitions.demands ≡ o → IsSo (or_else o (cause_told table label (told_itself table label)))
  so-later eligible None is = so-told (record { eligible = eligible; met = broken-none (seen_under table label) table.definitions.demands 0 is }) (told_itself table label) refl
  so-later eligible (Some cause) is =
      let b = broken-sound (seen_under table label) table.definitions.demands 0 cause is in
      let number : 0 + b.0 ≡ b.0 = omega arith in
      subst (IsCause table label) (sym (b.1.2 ∙ ap (λ m. Broken m b.1.0.kind) number)) (eligible, (b.1.0, b.1.1, refl))

  so : IsSo (cause_of table label)
  so = elim (cases_order End (length label)) [
    | inl end ↦
        let eligible : IsEligible table label = subst (CutLeadsTo table label) end (cut-end-is table label formed).reached in
        subst IsSo (sym (at-end eligible)) (so-later eligible (broken_from (seen_under table label) 0 table.definitions.demands) refl)
    | inr o ↦ elim o [
      | inl less ↦ subst IsSo (sym (before-end less)) (cut-end-is table label formed, less, stopped-is table label End formed (end-stops table label End formed (cut-end-is table label formed)))
      | inr more ↦ absurd (let l = cut-within table label formed End (cut-end-is table label formed).reached in omega (arith, l, more))
    ]
  ]

  sound : (cause : ValidityCause) → cause_of table label ≡ Some cause → IsCause table label cause
  sound cause is = subst IsSo is so

  -- where none is told the label may be asked about
  pub none-told : cause_of table label ≡ None → IsAdmitted table label
  none-told is = subst IsSo is so

  -- a label that may not be asked about has a cause
  is-told : (IsAdmitted table label → ⊥) → is_some (cause_of table label) ≡ true
  is-told refused = by_value (cause_of table label) refl
    where
      by_value : (o : Option ValidityCause) → cause_of table label ≡ o → is_some (cause_of table label) ≡ true
      by_value None e = absurd (refused (none-told e))
      by_value (Some c) e = ap is_some e

  -- a label that may be asked about has none
  refuses : (AllowsAnyCut table → ⊥) → (cause : ValidityCause) → IsCause table label cause → IsAdmitted table label → ⊥
  refuses ruled (NotEligible place condition) is admitted = elim admitted.cut [
    | inl any ↦ ruled any.0
    | inr eligible ↦
        let whole = (end-told table label formed (length label)).0 (whole-end table label formed eligible) in
        let here = (end-told table label formed place).0 is.0 in
        let l = is.1 in
        omega (arith, l, whole, here)
  ]
  refuses ruled (Broken n kind) is admitted =
      is.1.1.broken (met-at (seen_under table label) table.definitions.demands n is.1.0 admitted.met is.1.1.at)
  refuses ruled Unclear is admitted = is.1 admitted.clear
  refuses ruled (ByAction n cause) is admitted =
      admitted.not_invalid (action-invalid table label formed is.0.eligible is.1 n is.2.0 is.2.1 is.2.2)
  refuses ruled (DefaultAction place) is admitted =
      admitted.not_invalid (default-makes_invalid table label formed is.0.eligible is.1 place is.2 is.3)

pub cause-is-exact : CauseIsExact
cause-is-exact = record {
  exactly = λ table label cause sound_table. (sound table label sound_table cause, complete table label sound_table cause);
  told = λ table label sound_table. is-told table label sound_table;
  alone = λ table label cause sound_table ruled. refuses table label sound_table ruled cause;
}
