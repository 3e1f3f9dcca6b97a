-- Spans in the order of their beginnings, joined one after the other.
use Rattle.std.proofs.Common.{◌≡◌, ℕ, ◌+◌, ◌<◌, ◌≤◌, ◌||◌, List, [], ◌∷◌, length, take, get_or, ap, sym, ◌∙◌, arith}
use Rattle.std.specs.List.Sorted.{IsNonDecreasingBy}
use Rattle.std.proofs.lemmas.List.{take_more, take_all}
use Rattle.std.proofs.lemmas.List.Folds.{list_any-append}
use Rattle.std.proofs.Math.Bool.{or-false}
use Rattle.label_patterns.specs.declared.span.Span.{Span}
use Rattle.label_patterns.specs.Sets.{is_in, is_in_span}
use Rattle.lgr_text.specs.CodePoints.{AreApart}
use Rattle.lgr_text.specs.inner.Stretches.{BeginUpTo}
use Rattle.lgr_text.proofs.SpanLemmas.{begin-up-to}

-- what stands past the end of a list
abbrev pub past_end : Span
past_end = record { first = 0; last = 0 }

-- the spans have what the first n of the sorted ones have, and begin no later than those that follow
pub record AreJoinedBelow (sorted : List Span) (n : ℕ) (spans : List Span) : Type 0 where
  pub apart : AreApart spans
  pub begin : (k : ℕ) → n ≤ k → k < length sorted → BeginUpTo (get_or sorted k past_end).first spans
  pub members : (c : ℕ) → is_in spans c ≡ is_in (take n sorted) c

pub joined-next : (sorted spans more : List Span) (n : ℕ) → n < length sorted → IsNonDecreasingBy (λ s. s.first) sorted
    → AreJoinedBelow sorted n spans → AreApart more → BeginUpTo (get_or sorted n past_end).first more
    → ((c : ℕ) → is_in more c ≡ (is_in spans c || is_in_span c (get_or sorted n past_end)))
    → AreJoinedBelow sorted (n + 1) more
joined-next sorted spans more n less rising before apart begin has = record {
  apart = apart;
  begin = λ k from below.
      begin-up-to more (get_or sorted n past_end).first (get_or sorted k past_end).first (rising n k past_end (omega (arith, from)) below) begin;
  members = λ c. has c
      ∙ ap (λ b. b || is_in_span c (get_or sorted n past_end)) (before.members c)
      ∙ ap (λ b. is_in (take n sorted) c || b) (sym (or-false (is_in_span c (get_or sorted n past_end))))
      ∙ sym (list_any-append (is_in_span c) (take n sorted) (get_or sorted n past_end ∷ []))
      ∙ ap (λ l. is_in l c) (sym (take_more sorted n past_end less));
}

pub joined-whole : (sorted spans : List Span) (n : ℕ) → length sorted ≤ n → AreJoinedBelow sorted n spans
    → (c : ℕ) → is_in spans c ≡ is_in sorted c
joined-whole sorted spans n over joined c = joined.members c ∙ ap (λ l. is_in l c) (take_all n sorted over)
