-- What matches lies in the label, and stays where more follows the label.
use Rattle.std.proofs.Common.{ℕ, ◌<◌, ◌≤◌, inl, inr, true, eqb, List, [], ◌++◌, get_or, length, length-append, sym, subst, arith}
use Rattle.std.specs.Prelude.{◌↔◌, Bool, IsTrue}
use Rattle.std.proofs.lemmas.List.{get_or_append_left}
use Rattle.label_patterns.specs.declared.span.Span.{Span}
use Rattle.label_patterns.specs.Patterns.{Pattern, Point, Set, Any, Start, End, Anchor, Group, Optional, Many, Then, Either}
use Rattle.label_patterns.specs.Sets.{is_in}
use Rattle.label_patterns.specs.Matches.{Seen, Matches, MatchesOne, Rounds, no_round, one_more}
use Rattle.label_patterns.specs.Laws.{seen, MatchesStay, MatchesParts}

-- what R leads to is no earlier, and in the label if the start is
abbrev pub IsOfParts : ℕ → (ℕ → ℕ → Type 0) → Type 0
IsOfParts n R = (i j : ℕ) → R i j → (i ≤ j) × (i ≤ n → j ≤ n)

pub rounds-parts : (n : ℕ) (R : ℕ → ℕ → Type 0) → IsOfParts n R → IsOfParts n (Rounds R)
rounds-parts n R parts i _ no_round = (omega arith, λ l. l)
rounds-parts n R parts i _ (one_more k j rounds step) =
    let before = rounds-parts n R parts i k rounds in
    let last = parts k j step in
    (omega (arith, before.0, last.0), λ l. last.1 (before.1 l))

one-parts : (test : ℕ → Bool) (s : Seen) → IsOfParts (length s.label) (MatchesOne test s)
one-parts test s i j h = (omega (arith, h.1), λ l. omega (arith, h.1, h.0.0))

pub parts : MatchesParts
parts (Point c) s i j h = one-parts (λ d. eqb d c) s i j h
parts (Set n) s i j h = one-parts (is_in (get_or s.sets n [])) s i j h
parts Any s i j h = one-parts (λ d. true) s i j h
parts Start s i j h = (omega (arith, h.0, h.1), λ l. omega (arith, h.1))
parts End s i j h = (omega (arith, h.0, h.1), λ l. omega (arith, h.1))
parts Anchor s i j h = absurd h
parts (Group p) s i j h = parts p s i j h
parts (Optional p) s i j h = elim h [ inl e ↦ (omega (arith, e), λ l. omega (arith, e, l)) | inr k ↦ parts p s i j k ]
parts (Many p) s i j h = rounds-parts (length s.label) (Matches s p) (parts p s) i j h
parts (Then p q) s i j h =
    let first = parts p s i h.0 h.1 in
    let rest = parts q s h.0 j h.2 in
    (omega (arith, first.0, rest.0), λ l. rest.1 (first.1 l))
parts (Either p q) s i j h = elim h [ inl k ↦ parts p s i j k | inr k ↦ parts q s i j k ]

one-stays : (test : ℕ → Bool) (sets : List (List Span)) (label more : List ℕ) (i j : ℕ) → j ≤ length label → MatchesOne test (seen sets label) i j ↔ MatchesOne test (seen sets (label ++ more)) i j
one-stays test sets label more i j l =
    let P : ℕ → Type 0 = λ c. IsTrue (test c) in (
      λ h. ((omega (arith, h.0.0, length-append label more), subst P (sym (get_or_append_left label more 0 i h.0.0)) h.0.1), h.1),
      λ h.
          let inside : i < length label = omega (arith, h.1, l) in
          ((inside, subst P (get_or_append_left label more 0 i inside) h.0.1), h.1),
    )

-- in a longer label no part that ends within the shorter one leaves it
longer-parts : (p : Pattern) (sets : List (List Span)) (label more : List ℕ) (i j : ℕ) → Matches (seen sets (label ++ more)) p i j → i ≤ j
longer-parts p sets label more i j h = (parts p (seen sets (label ++ more)) i j h).0

abbrev Rises : (ℕ → ℕ → Type 0) → Type 0
Rises R = (i j : ℕ) → R i j → i ≤ j

stay-rounds : (n : ℕ) (R S : ℕ → ℕ → Type 0) → Rises R → ((i j : ℕ) → j ≤ n → R i j → S i j) → (i j : ℕ) → j ≤ n → Rounds R i j → Rounds S i j
stay-rounds n R S up to i _ l no_round = no_round
stay-rounds n R S up to i _ l (one_more k j rounds step) =
    one_more k j (stay-rounds n R S up to i k (let b = up k j step in omega (arith, b, l)) rounds) (to k j l step)

pub stay : MatchesStay
stay (Point c) sets label more i j none l = one-stays (λ d. eqb d c) sets label more i j l
stay (Set n) sets label more i j none l = one-stays (is_in (get_or sets n [])) sets label more i j l
stay Any sets label more i j none l = one-stays (λ d. true) sets label more i j l
stay Start sets label more i j none l = (λ h. h, λ h. h)
stay End sets label more i j none l = absurd none
stay Anchor sets label more i j none l = (λ h. h, λ h. h)
stay (Group p) sets label more i j none l = stay p sets label more i j none l
stay (Optional p) sets label more i j none l =
    let part = stay p sets label more i j none l in (
      λ h. elim h [ inl e ↦ inl e | inr k ↦ inr (part.0 k) ],
      λ h. elim h [ inl e ↦ inl e | inr k ↦ inr (part.1 k) ],
    )
stay (Many p) sets label more i j none l =
    let R : ℕ → ℕ → Type 0 = Matches (seen sets label) p in
    let S : ℕ → ℕ → Type 0 = Matches (seen sets (label ++ more)) p in (
      stay-rounds (length label) R S (λ a b h. (parts p (seen sets label) a b h).0) (λ a b m h. (stay p sets label more a b none m).0 h) i j l,
      stay-rounds (length label) S R (λ a b h. longer-parts p sets label more a b h) (λ a b m h. (stay p sets label more a b none m).1 h) i j l,
    )
stay (Then p q) sets label more i j none l = (
  λ h.
      let b = (parts q (seen sets label) h.0 j h.2).0 in
      (h.0, (stay p sets label more i h.0 none.0 (omega (arith, b, l))).0 h.1, (stay q sets label more h.0 j none.1 l).0 h.2),
  λ h.
      let b = longer-parts q sets label more h.0 j h.2 in
      (h.0, (stay p sets label more i h.0 none.0 (omega (arith, b, l))).1 h.1, (stay q sets label more h.0 j none.1 l).1 h.2),
)
stay (Either p q) sets label more i j none l =
    let left = stay p sets label more i j none.0 l in
    let right = stay q sets label more i j none.1 l in (
      λ h. elim h [ inl k ↦ inl (left.0 k) | inr k ↦ inr (right.0 k) ],
      λ h. elim h [ inl k ↦ inl (left.1 k) | inr k ↦ inr (right.1 k) ],
    )
