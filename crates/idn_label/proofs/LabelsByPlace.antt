-- The labels of a name, cut at its full stops place by place.
use Rattle.std.proofs.Common.{◌≡◌, ◌≢◌, ℕ, ◌+◌, ◌-◌, ◌<◌, ◌≤◌, false, List, [], ◌∷◌, take, drop, get_or, length, slice_range, All, sym, ap, ap₂, subst, inl, inr, ◌∙◌, take_all, eq-eqb, ne_eqb, length-drop, length-take, arith}
use Rattle.std.specs.List.{AllWithin}
use Rattle.std.proofs.lemmas.List.{get_or_default, get_or-drop, drop-drop, take_rest}
use Rattle.std.proofs.lemmas.List.Edits.{get_or-between}
use Rattle.std.proofs.lemmas.Bool.{cases_lt, cond-true, cond-false}
use Rattle.std.proofs.lemmas.List.Elements.{All-from_get_or, AllWithin-more}
use Rattle.std.proofs.lemmas.List.Splits.{slice_split_none}
use Rattle.idna.specs.Labels.{is_full_stop, labels_of}
use Rattle.idn_label.specs.LabelEnds.{EndsLabel}
use Rattle.idn_label.proofs.DecodeLemmas.{labels_of-stop}

abbrev pub IsNoStop : ℕ → Type 0
IsNoStop c = is_full_stop c ≡ false

-- no full stop stands from one place to another
abbrev pub IsWithoutStop : List ℕ → ℕ → ℕ → Type 0
IsWithoutStop name start end = AllWithin IsNoStop name start end

pub All-slice : (P : ℕ → Type 0) (xs : List ℕ) (start end : ℕ) → AllWithin P xs start end → All P (slice_range xs start end)
All-slice P xs start end all =
    All-from_get_or P (slice_range xs start end) 0 (λ k lt.
    let short = length-take (end - start) (drop start xs) in
    subst P (sym (get_or-between xs start end k 0 (omega arith))) (all (start + k) 0 (omega arith) (omega arith)))

-- what holds from `low` to `at`, and from a place no later than that to `end`
pub AllWithin-join : (P : ℕ → Type 0) (xs : List ℕ) (low at from end : ℕ) → from ≤ at → AllWithin P xs low at → AllWithin P xs from end → AllWithin P xs low end
AllWithin-join P xs low at from end le first second k d above below = elim (cases_lt k at) [ inl early ↦ first k d above early | inr late ↦ second k d (omega arith) below ]

pub without_stop-more : (name : List ℕ) (start at : ℕ) → start ≤ at → at < length name → IsWithoutStop name start at → get_or name at 0 ≢ 0x2E → IsWithoutStop name start (at + 1)
without_stop-more name start at begun within none other =
    AllWithin-more IsNoStop name start at none (λ d. ap is_full_stop (get_or_default name at d 0 within) ∙ ne_eqb (get_or name at 0) 0x2E other)

pub labels_at-stop : (name : List ℕ) (start at : ℕ) → start ≤ at → at < length name → IsWithoutStop name start at → get_or name at 0 ≡ 0x2E → labels_of (drop start name) ≡ take (at - start) (drop start name) ∷ labels_of (drop (at + 1) name)
labels_at-stop name start at begun within none stop =
    let place : start + (at - start) ≡ at = omega arith in
    labels_of-stop (drop start name) (at - start) (omega (arith, length-drop start name))
    (get_or-drop start name (at - start) 0 ∙ ap (λ k. get_or name k 0) place ∙ stop) (All-slice IsNoStop name start at none)
    ∙ ap (λ rest. take (at - start) (drop start name) ∷ labels_of rest)
    (drop-drop (at - start + 1) start name ∙ ap (λ k. drop k name) (let e : start + (at - start + 1) ≡ at + 1 = omega arith in e))

pub labels_at-end : (name : List ℕ) (start at : ℕ) → length name ≤ at → IsWithoutStop name start at → labels_of (drop start name) ≡ take (length name - start) (drop start name) ∷ []
labels_at-end name start at all none =
    slice_split_none is_full_stop (drop start name)
    (subst (All IsNoStop) (take_all (at - start) (drop start name) (omega (arith, length-drop start name))) (All-slice IsNoStop name start at none))
    ∙ ap (λ label. label ∷ []) (sym (take_rest name start))

-- ---- where a label ends

pub label_last : (name : List ℕ) (start end : ℕ) → EndsLabel name start end → end ≡ length name → labels_of (drop start name) ≡ slice_range name start end ∷ []
label_last name start end ends is = ends.labels ∙ ap (λ others. slice_range name start end ∷ others) (cond-true _ _ _ (eq-eqb end (length name) is))

pub label_before : (name : List ℕ) (start end : ℕ) → EndsLabel name start end → end ≢ length name → labels_of (drop start name) ≡ slice_range name start end ∷ labels_of (drop (end + 1) name)
label_before name start end ends other = ends.labels ∙ ap (λ others. slice_range name start end ∷ others) (cond-false _ _ _ (ne_eqb end (length name) other))

pub ends_at_stop : (name : List ℕ) (start at : ℕ) → start ≤ at → at < length name → IsWithoutStop name start at → get_or name at 0 ≡ 0x2E → EndsLabel name start at
ends_at_stop name start at begun within none stop = record {
  order = begun;
  within = omega arith;
  labels = labels_at-stop name start at begun within none stop ∙ ap (λ others. slice_range name start at ∷ others) (sym (cond-false _ _ _ (ne_eqb at (length name) (omega arith))));
}

pub ends_with_name : (name : List ℕ) (start end : ℕ) → start ≤ end → end ≡ length name → IsWithoutStop name start end → EndsLabel name start end
ends_with_name name start end begun is none = record {
  order = begun;
  within = omega arith;
  labels =
      labels_at-end name start end (omega arith) none
      ∙ ap₂ (λ n others. take (n - start) (drop start name) ∷ others) (sym is) (sym (cond-true _ _ _ (eq-eqb end (length name) is)));
}

-- ---- a test of each label
