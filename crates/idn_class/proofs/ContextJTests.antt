-- The test of the joiners agrees with their rule.
use Rattle.std.proofs.Common.{◌≡◌, ℕ, zero, suc, ◌+◌, ◌-◌, ◌<◌, ◌≤◌, Bool, true, false, ◌&&◌, ◌==◌, ◌⊎◌, ◌↔◌, List, length, drop, refl, sym, ap, ◌∙◌, inl, inr, arith, slice_index}
use Rattle.std.proofs.lemmas.Bool.{and_parts, and_from, or_cases, or_left, or_right, cases_lt}
use Rattle.std.proofs.lemmas.List.{drop_more, drop_all}
use Rattle.idn_class.specs.declared.joining_type.JoiningType.{JoiningType}
use Rattle.idn_class.specs.declared.joining_type.JoiningType.TheVariants.{Transparent}
use Rattle.idn_class.specs.JoiningType.{is_virama, joins_next, joins_previous}
use Rattle.idn_class.specs.Neighbors.{before}
use Rattle.idn_class.specs.ContextJ.{type_at, JoinsBefore, JoinsAfter, FollowsVirama, JoinerPasses, PassesContextJ}
use Rattle.idn_class.specs.Tests.{first_other, joins_before, joins_after, follows_virama, non_joiner_passes, joiner_passes, joiner_at, contextj_ok}
use Rattle.idn_class.proofs.JoiningLemmas.{joins_before_here, joins_after_here, clear_joins_not_left, clear_joins_not_right}
use Rattle.idn_class.proofs.TestLemmas.{all_places-from, all_places-at, is_some_and-gives, is_some_and-from, asked_at-gives, asked_at-from}
use Rattle.idn_class.specs.declared.properties.Properties.{Properties}

cases_type : (t : JoiningType) → (t ≡ Transparent) ⊎ (t ≡ Transparent → ⊥)
cases_type Transparent = inl refl
cases_type _ = inr (λ same. cc)

first_other-other : (joins : JoiningType → Bool) (t : JoiningType) (farther : Bool) → (t ≡ Transparent → ⊥) → first_other joins t farther ≡ joins t
first_other-other joins Transparent farther other = absurd (other refl)
first_other-other joins _ farther other = refl

first_other-clear : (joins : JoiningType → Bool) (t : JoiningType) (farther : Bool) → t ≡ Transparent → first_other joins t farther ≡ farther
first_other-clear joins t farther clear = ap (λ u. first_other joins u farther) clear

module _ (properties : Properties) where
  -- ---- to the left

  joins_before-gives : (label : List ℕ) (p : ℕ) → joins_before properties label p ≡ true → JoinsBefore properties label p
  joins_before-gives label zero h = let clash : false ≡ true = h in cc
  joins_before-gives label (suc place) h =
      elim (cases_type (type_at properties label place)) [
        | inl clear ↦
            let found = joins_before-gives label place (sym (first_other-clear joins_next _ (joins_before properties label place) clear) ∙ h) in
            let earlier = found.earlier in
            record {
              place = found.place;
              earlier = omega arith;
              joins = found.joins;
              clear = λ k low high.
                  elim (cases_lt k place) [
                    | inl lt ↦ found.clear k low lt
                    | inr from ↦ let same : k ≡ place = omega arith in ap (type_at properties label) same ∙ clear
                  ];
            }
        | inr other ↦
            record {
              place = place;
              earlier = omega arith;
              joins = sym (first_other-other joins_next _ (joins_before properties label place) other) ∙ h;
              clear = λ k low high. absurd (omega arith);
            }
      ]

  joins_before-from : (label : List ℕ) (p : ℕ) → JoinsBefore properties label p → joins_before properties label p ≡ true
  joins_before-from label zero found = let earlier = found.earlier in absurd (omega arith)
  joins_before-from label (suc place) found =
      elim (cases_type (type_at properties label place)) [
        | inl clear ↦
            first_other-clear joins_next _ (joins_before properties label place) clear
            ∙ joins_before-from label place
            (record {
              place = found.place;
              earlier = elim (cases_lt found.place place) [
                | inl lt ↦ lt
                | inr from ↦
                    let earlier = found.earlier in
                    let same : found.place ≡ place = omega arith in
                    absurd (clear_joins_not_left _ (ap (type_at properties label) same ∙ clear) found.joins)
              ];
              joins = found.joins;
              clear = λ k low high. found.clear k low (omega arith);
            })
        | inr other ↦
            first_other-other joins_next _ (joins_before properties label place) other
            ∙ joins_before_here properties label (suc place) place (omega arith) other (λ k low high. absurd (omega arith)) found
      ]

  -- ---- to the right, where all from the joiner up to a place is transparent

  joins_after_at : (label : List ℕ) (at : ℕ) → at < length label → joins_after properties (drop at label) ≡ first_other joins_previous (type_at properties label at) (joins_after properties (drop (at + 1) label))
  joins_after_at label at within = ap (joins_after properties) (drop_more label at 0 within)

  joins_after_end : (label : List ℕ) (at : ℕ) → length label ≤ at → joins_after properties (drop at label) ≡ false
  joins_after_end label at past = ap (joins_after properties) (drop_all at label past)

  clear_more : (label : List ℕ) (p at : ℕ) → ((k : ℕ) → p < k → k < at → type_at properties label k ≡ Transparent) → type_at properties label at ≡ Transparent → (k : ℕ) → p < k → k < at + 1 → type_at properties label k ≡ Transparent
  clear_more label p at clear here k low high =
      elim (cases_lt k at) [ inl lt ↦ clear k low lt | inr from ↦ let same : k ≡ at = omega arith in ap (type_at properties label) same ∙ here ]

  joins_after-gives : (label : List ℕ) (p at more : ℕ) → at + more ≡ length label → p < at → ((k : ℕ) → p < k → k < at → type_at properties label k ≡ Transparent) → joins_after properties (drop at label) ≡ true → JoinsAfter properties label p
  joins_after-gives label p at zero sum lt clear h =
      let clash : false ≡ true = sym (joins_after_end label at (omega arith)) ∙ h in cc
  joins_after-gives label p at (suc more) sum lt clear h =
      let within : at < length label = omega arith in
      let here : first_other joins_previous (type_at properties label at) (joins_after properties (drop (at + 1) label)) ≡ true = sym (joins_after_at label at within) ∙ h in
      elim (cases_type (type_at properties label at)) [
        | inl passed ↦
            joins_after-gives label p (at + 1) more (omega arith) (omega arith) (clear_more label p at clear passed)
            (sym (first_other-clear joins_previous _ (joins_after properties (drop (at + 1) label)) passed) ∙ here)
        | inr other ↦
            record {
              place = at;
              later = lt;
              exists = within;
              joins = sym (first_other-other joins_previous _ (joins_after properties (drop (at + 1) label)) other) ∙ here;
              clear = clear;
            }
      ]

  joins_after-from : (label : List ℕ) (p at more : ℕ) → at + more ≡ length label → p < at → ((k : ℕ) → p < k → k < at → type_at properties label k ≡ Transparent) → JoinsAfter properties label p → joins_after properties (drop at label) ≡ true
  joins_after-from label p at zero sum lt clear found =
      let exists = found.exists in
      absurd (clear_joins_not_right _ (clear found.place found.later (omega arith)) found.joins)
  joins_after-from label p at (suc more) sum lt clear found =
      let within : at < length label = omega arith in
      joins_after_at label at within
      ∙ elim (cases_type (type_at properties label at)) [
        | inl passed ↦
            first_other-clear joins_previous _ (joins_after properties (drop (at + 1) label)) passed
            ∙ joins_after-from label p (at + 1) more (omega arith) (omega arith) (clear_more label p at clear passed) found
        | inr other ↦
            first_other-other joins_previous _ (joins_after properties (drop (at + 1) label)) other ∙ joins_after_here properties label p at lt other clear found
      ]

  -- ---- the rule at a place, and of the label

  non_joiner-gives : (label : List ℕ) (p : ℕ) → p < length label → non_joiner_passes properties true label p ≡ true → FollowsVirama properties label p ⊎ (JoinsBefore properties label p × JoinsAfter properties label p)
  non_joiner-gives label p within h =
      elim (or_cases (follows_virama properties label p) (joins_before properties label p && joins_after properties (drop (p + 1) label)) h) [
        | inl virama ↦ inl (is_some_and-gives (before label p) (is_virama properties) virama)
        | inr joined ↦
            let parts = and_parts (joins_before properties label p) (joins_after properties (drop (p + 1) label)) joined in
            let more : p + 1 ≤ length label = omega arith in
            inr (
              joins_before-gives label p parts.0,
              joins_after-gives label p (p + 1) (length label - (p + 1)) (omega arith) (omega arith) (λ k low high. absurd (omega arith)) parts.1,
            )
      ]

  non_joiner-from : (label : List ℕ) (p : ℕ) → p < length label → FollowsVirama properties label p ⊎ (JoinsBefore properties label p × JoinsAfter properties label p) → non_joiner_passes properties true label p ≡ true
  non_joiner-from label p within passes =
      let joined = joins_before properties label p && joins_after properties (drop (p + 1) label) in
      elim passes [
        | inl virama ↦ or_left (follows_virama properties label p) joined (is_some_and-from (before label p) (is_virama properties) virama)
        | inr joins ↦
            or_right (follows_virama properties label p) joined
            (and_from (joins_before properties label p) (joins_after properties (drop (p + 1) label)) (joins_before-from label p joins.0)
            (joins_after-from label p (p + 1) (length label - (p + 1)) (omega arith) (omega arith) (λ k low high. absurd (omega arith)) joins.1))
      ]

  JoinerPasses-from : (label : List ℕ) (p : ℕ) → p < length label → joiner_at properties label p ≡ true → JoinerPasses properties label p
  JoinerPasses-from label p within h =
      let c = slice_index label p in
      let parts = and_parts (non_joiner_passes properties (c == 0x200C) label p) (joiner_passes properties (c == 0x200D) label p) h in
      record {
        non_joiner = λ is. non_joiner-gives label p within (asked_at-gives c 0x200C (λ b. non_joiner_passes properties b label p) parts.0 is);
        joiner = λ is. is_some_and-gives (before label p) (is_virama properties) (asked_at-gives c 0x200D (λ b. joiner_passes properties b label p) parts.1 is);
      }

  joiner_at-from : (label : List ℕ) (p : ℕ) → p < length label → JoinerPasses properties label p → joiner_at properties label p ≡ true
  joiner_at-from label p within passes =
      let c = slice_index label p in
      and_from (non_joiner_passes properties (c == 0x200C) label p) (joiner_passes properties (c == 0x200D) label p)
      (asked_at-from c 0x200C (λ b. non_joiner_passes properties b label p) refl (λ is. non_joiner-from label p within (passes.non_joiner is)))
      (asked_at-from c 0x200D (λ b. joiner_passes properties b label p) refl (λ is. is_some_and-from (before label p) (is_virama properties) (passes.joiner is)))

  contextj_ok-gives : (label : List ℕ) → contextj_ok properties label ≡ true → PassesContextJ properties label
  unfolding contextj_ok
  contextj_ok-gives label ok p within = JoinerPasses-from label p within (all_places-at (length label) (joiner_at properties label) ok p within)

  contextj_ok-from : (label : List ℕ) → PassesContextJ properties label → contextj_ok properties label ≡ true
  unfolding contextj_ok
  contextj_ok-from label passes = all_places-from (length label) (joiner_at properties label) (λ p within. joiner_at-from label p within (passes p within))

  -- the test is the rule
  pub contextj_ok-PassesContextJ : (label : List ℕ) → (contextj_ok properties label ≡ true) ↔ PassesContextJ properties label
  contextj_ok-PassesContextJ label = (contextj_ok-gives label, contextj_ok-from label)

  -- the test at a place is the rule there
  pub joiner_at-rule : (label : List ℕ) (p : ℕ) → p < length label → (joiner_at properties label p ≡ true) ↔ JoinerPasses properties label p
  joiner_at-rule label p within = (JoinerPasses-from label p within, joiner_at-from label p within)
