-- Choices between sets, each with a part of the spans.
use Rattle.std.proofs.Common.{◌≡◌, ℕ, ◌<◌, inl, inr, ◌⊎◌, Bool, true, false, ◌||◌, List, [], ◌∷◌, ◌++◌, length, get_or, refl, ap, sym, subst, ◌∙◌, append_assoc}
use Rattle.std.specs.Prelude.{◌↔◌, slice_index}
use Rattle.std.specs.List.{AllByRecursion, list_all}
use Rattle.std.proofs.lemmas.List.{append-nil, get_or_append_left}
use Rattle.std.proofs.lemmas.List.Folds.{list_any-append}
use Rattle.std.proofs.Math.Bool.{or-true}
use Rattle.label_patterns.specs.declared.span.Span.{Span}
use Rattle.label_patterns.specs.Laws.{seen}
use Rattle.label_patterns.specs.Matches.{Matches, MatchesOne, Seen}
use Rattle.label_patterns.specs.Patterns.{Pattern, Point, Set, Any, Group, Either}
use Rattle.label_patterns.specs.Sets.{is_in, is_in_span, Rise}
use Rattle.ruleset_text.specs.Grammar.{Is, Atom, Whole}
use Rattle.ruleset_text.specs.Rules.{has as has_sign}
use Rattle.ruleset_text.specs.Signs as sign
use Rattle.lgr_text.specs.PartMatches.{BeginsWith}
use Rattle.lgr_text.specs.inner.Items.{anchors, as_atom, has_end, has_start, is_item, AddsChoice, FitsLine, HasShape, IsFree}
use Rattle.lgr_text.proofs.ItemLemmas.{atom-is, sequence-is}
use Rattle.lgr_text.proofs.PartLemmas.{begins-too, free-shape}
use Rattle.lgr_text.proofs.PlaceLemmas.{any-one, atom-branch, either-free, grouped-form, grouped-free, item-whole}
use Rattle.lgr_text.proofs.SetNumberLemmas.{atom-has, begins-length, sets-more}

-- ---- parts of lists

all-left : {X : Type 0} (P : X → Type 0) (xs ys : List X) → AllByRecursion P (xs ++ ys) → AllByRecursion P xs
all-left P [] ys h = tt
all-left P (x ∷ xs) ys h = (h.0, all-left P xs ys h.1)

all-joined : {X : Type 0} (P : X → Type 0) (xs ys : List X) → AllByRecursion P xs → AllByRecursion P ys → AllByRecursion P (xs ++ ys)
all-joined P [] ys h k = k
all-joined P (x ∷ xs) ys h k = (h.0, all-joined P xs ys h.1 k)

pub rise-left : (first others : List Span) → Rise (first ++ others) → Rise first
rise-left [] others h = tt
rise-left (s ∷ first) others h = (h.0, all-left (λ t. s.last < t.first) first others h.1, rise-left first others h.2)

pub rise-right : (first others : List Span) → Rise (first ++ others) → Rise others
rise-right [] others h = h
rise-right (s ∷ first) others h = rise-right first others h.2

-- ---- a set

-- a set means the same where more sets follow
set-matches : (spans : List Span) (sets all : List (List Span)) (label : List ℕ) (number i j : ℕ) → number < length sets → get_or sets number [] ≡ spans
    → BeginsWith all sets → Matches (seen all label) (Set number) i j ↔ MatchesOne (is_in spans) (seen all label) i j
set-matches spans sets all label number i j within is begins =
    let same : get_or all number [] ≡ spans = ap (λ l. get_or l number []) begins.1 ∙ get_or_append_left sets begins.0 [] number within ∙ is in (
      λ h. subst (λ l. MatchesOne (is_in l) (seen all label) i j) same h,
      λ h. subst (λ l. MatchesOne (is_in l) (seen all label) i j) (sym same) h,
    )

pub set-chosen : (spans : List Span) (old_sets sets : List (List Span)) (number : ℕ) → FitsLine spans
    → ((sets ≡ old_sets) ⊎ (sets ≡ old_sets ++ spans ∷ [])) → number < length sets → get_or sets number [] ≡ spans
    → AddsChoice spans old_sets sets (Set number)
set-chosen spans old_sets sets number fits kept within is = elim kept [
  | inl same ↦ (record {
    added = [];
    kept = same ∙ sym (append-nil old_sets);
    fit = tt;
    form = tt;
    free = record { anchor = refl; start = refl; end = refl };
    known = within;
    match_them = λ all label i j begins. set-matches spans sets all label number i j within is begins;
  })
  | inr more ↦ (record {
    added = spans ∷ [];
    kept = more;
    fit = (fits, tt);
    form = tt;
    free = record { anchor = refl; start = refl; end = refl };
    known = within;
    match_them = λ all label i j begins. set-matches spans sets all label number i j within is begins;
  })
]

-- ---- one or the other

one-of-both : (first others : List Span) (s : Seen) (i j : ℕ)
    → (MatchesOne (is_in first) s i j ⊎ MatchesOne (is_in others) s i j) ↔ MatchesOne (is_in (first ++ others)) s i j
one-of-both first others s i j =
    let c = slice_index s.label i in
    let joined : is_in (first ++ others) c ≡ (is_in first c || is_in others c) = list_any-append (is_in_span c) first others in (
      λ h. elim h [
        | inl l ↦ ((l.0.0, joined ∙ ap (λ b. b || is_in others c) l.0.1), l.1)
        | inr r ↦ ((r.0.0, joined ∙ ap (λ b. is_in first c || b) r.0.1 ∙ or-true (is_in first c)), r.1)
      ],
      λ h. by-first (is_in first c) refl h (sym joined ∙ h.0.1),
    )
  where
    by-first : (b : Bool) → is_in first (slice_index s.label i) ≡ b → MatchesOne (is_in (first ++ others)) s i j
        → (b || is_in others (slice_index s.label i)) ≡ true → MatchesOne (is_in first) s i j ⊎ MatchesOne (is_in others) s i j
    by-first true e h k = inl ((h.0.0, e), h.1)
    by-first false e h k = inr ((h.0.0, k), h.1)

pub either-chosen : (spans first others : List Span) (old_sets between sets : List (List Span)) (p q : Pattern) → first ++ others ≡ spans → Is Atom p
    → AddsChoice first old_sets between p → AddsChoice others between sets q → AddsChoice spans old_sets sets (Either p q)
either-chosen spans first others old_sets between sets p q whole atom left right =
    let kept : BeginsWith sets between = (right.added, right.kept) in
    record {
      added = left.added ++ right.added;
      kept = right.kept ∙ ap (λ l. l ++ right.added) left.kept ∙ append_assoc old_sets left.added right.added;
      fit = all-joined FitsLine left.added right.added left.fit right.fit;
      form = (atom-branch p atom, right.form);
      free = either-free p q left.free right.free;
      known = (sets-more p (length between) (length sets) (begins-length sets between kept) left.known, right.known);
      match_them = λ all label i j begins.
          let s = seen all label in
          let lower = begins-too all sets between begins kept in
          let both = one-of-both first others s i j in (
            λ h. subst (λ l. MatchesOne (is_in l) s i j) whole (both.0 (elim h [
              | inl l ↦ inl ((left.match_them all label i j lower).0 l)
              | inr r ↦ inr ((right.match_them all label i j begins).0 r)
            ])),
            λ h. elim (both.1 (subst (λ l. MatchesOne (is_in l) s i j) (sym whole) h)) [
              | inl l ↦ inl ((left.match_them all label i j lower).1 l)
              | inr r ↦ inr ((right.match_them all label i j begins).1 r)
            ],
          );
    }

-- ---- an item

atom-flat : (p : Pattern) → list_all is_item (as_atom (p ∷ []) ∷ []) ≡ true
atom-flat (Point c) = refl
atom-flat (Set n) = refl
atom-flat Any = refl
atom-flat (Group p) = refl
atom-flat p = refl

atom-unanchored : (p : Pattern) → anchors (as_atom (p ∷ []) ∷ []) ≡ 0
atom-unanchored (Point c) = refl
atom-unanchored (Set n) = refl
atom-unanchored Any = refl
atom-unanchored (Group p) = refl
atom-unanchored p = refl

pub atom-shape : (p : Pattern) → Is Whole p → IsFree p → HasShape false (as_atom (p ∷ []) ∷ [])
atom-shape p form free =
    let item = as_atom (p ∷ []) in
    let none = grouped-free p free in
    free-shape (item ∷ []) (atom-flat p) (atom-unanchored p) (grouped-form p form, tt) (any-one (has_sign sign.Anchor) item none.anchor)
    (any-one has_start item none.start) (any-one has_end item none.end)

pub atom-chosen : (spans : List Span) (old_sets sets : List (List Span)) (p item : Pattern) → item ≡ as_atom (p ∷ []) → AddsChoice spans old_sets sets p
    → AddsChoice spans old_sets sets item
atom-chosen spans old_sets sets p item is choice = subst (AddsChoice spans old_sets sets) (sym is) (record {
  added = choice.added;
  kept = choice.kept;
  fit = choice.fit;
  form = item-whole (as_atom (p ∷ [])) (grouped-form p choice.form);
  free = grouped-free p choice.free;
  known = atom-has (p ∷ []) (length sets) (choice.known, tt);
  match_them = λ all label i j begins.
      let s = seen all label in
      let atom = atom-is s (p ∷ []) i j in
      let alone = sequence-is s (p ∷ []) i j in
      let one = choice.match_them all label i j begins in
      (λ h. one.0 (alone.1 (atom.0 h)), λ h. atom.1 (alone.0 (one.1 h)));
})
