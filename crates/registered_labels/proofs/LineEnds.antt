-- Where a line ends, by where its letters, digits and hyphens do.
use Rattle.std.proofs.Common.{◌≡◌, ◌≢◌, ℕ, ◌+◌, ◌-◌, ◌≤◌, true, List, ◌++◌, take, drop, sym, ap, ap₂, subst, ◌∙◌, arith}
use Rattle.std.specs.List.{list_all, slice_range}
use Rattle.std.proofs.lemmas.Bool.{true≢false}
use Rattle.std.proofs.lemmas.List.{drop-drop}
use Rattle.std.proofs.lemmas.List.Elements.{All-append, All-take, All-weaker}
use Rattle.std.proofs.lemmas.List.Sums.{AllPass-from_list_all, list_all-from_AllPass}
use Rattle.idn_text.specs.Lines.{HasNoFeed}
use Rattle.idn_label.specs.LdhEnds.{IsLdhEnd}
use Rattle.idn_label.specs.Steps.{is_ldh_point}
use Rattle.idn_label.proofs.LaneLemmas.{take-slice_range}
use Rattle.registered_labels.specs.inner.Readings.{IsLineEnd}

slice_range-join : (xs : List ℕ) (a b c : ℕ) → a ≤ b → b ≤ c → slice_range xs a b ++ slice_range xs b c ≡ slice_range xs a c
slice_range-join xs a b c first second =
    let rest = drop a xs in
    let start : a + (b - a) ≡ b = omega arith in
    let count : c - a - (b - a) ≡ c - b = omega arith in
    sym (ap (λ part. take (b - a) rest ++ part) (ap₂ take count (drop-drop (b - a) a xs ∙ ap (λ k. drop k xs) start)))
    ∙ take-slice_range rest (b - a) (c - a) (omega arith)

no_feed-ldh : (part : List ℕ) → list_all is_ldh_point part ≡ true → HasNoFeed part
no_feed-ldh part ldh =
    All-weaker (λ c. is_ldh_point c ≡ true) (λ c. c ≢ 10) (λ c is feed. absurd (true≢false (sym is ∙ ap is_ldh_point feed))) part (AllPass-from_list_all is_ldh_point part ldh)

pub IsLineEnd-after : (text : List ℕ) (at ldh end : ℕ) → IsLdhEnd text at ldh → IsLineEnd text ldh end → IsLineEnd text at end
IsLineEnd-after text at ldh end first line = record {
  reached = omega (arith, first.reached, line.reached);
  within = line.within;
  no_feed =
      subst HasNoFeed (slice_range-join text at ldh end first.reached line.reached)
      (All-append (λ c. c ≢ 10) (slice_range text at ldh) (slice_range text ldh end) (no_feed-ldh (slice_range text at ldh) first.ldh) line.no_feed);
  feed = line.feed;
}

-- the front of a line of letters, digits and hyphens is made of these
pub ldh_front : (line : List ℕ) (n : ℕ) → list_all is_ldh_point line ≡ true → list_all is_ldh_point (take n line) ≡ true
ldh_front line n ldh = list_all-from_AllPass is_ldh_point (take n line) (All-take (λ c. is_ldh_point c ≡ true) n line (AllPass-from_list_all is_ldh_point line ldh))
