-- What two sets make together, on the way through both.
use Rattle.std.proofs.Common.{◌≡◌, ℕ, ◌+◌, ◌<◌, ◌≤◌, true, false, Bool, ◌||◌, ◌&&◌, inl, inr, List, leb, refl, ap, sym, ◌∙◌, arith}
use Rattle.std.proofs.lemmas.Bool.{le-leb, lt-leb, cases_lt}
use Rattle.std.proofs.Math.Bool.{and-false, and-true, or-false}
use Rattle.label_patterns.specs.declared.span.Span.{Span}
use Rattle.label_patterns.specs.Sets.{is_in}
use Rattle.lgr_text.specs.declared.joins.SetOperation.{SetOperation}
use Rattle.lgr_text.specs.declared.joins.SetOperation.TheVariants.{Union, Intersection, Difference, SymmetricDifference}
use Rattle.lgr_text.specs.CodePoints.{AreApart, is_joined}
use Rattle.lgr_text.specs.inner.Stretches.{BeginUpTo, EndFrom}
use Rattle.lgr_text.proofs.SpanLemmas.{begin-up-to, none-past}

-- the spans have what the operation makes of both sets below n, and the rests have all from n on
pub record IsJoinedBelow (operation : SetOperation) (left right left_rest right_rest : List Span) (n : ℕ) (spans : List Span) : Type 0 where
  pub within : n ≤ 0x110000
  pub left_ends : EndFrom n left_rest
  pub right_ends : EndFrom n right_rest
  pub left_same : (c : ℕ) → n ≤ c → is_in left_rest c ≡ is_in left c
  pub right_same : (c : ℕ) → n ≤ c → is_in right_rest c ≡ is_in right c
  pub apart : AreApart spans
  pub begin : BeginUpTo n spans
  pub done : (c : ℕ) → c < n → is_in spans c ≡ is_joined operation (is_in left c) (is_in right c)
  pub rest : (c : ℕ) → n ≤ c → is_in spans c ≡ false

-- the spans with a stretch, if that is wanted
abbrev pub HasStretch : Bool → ℕ → ℕ → List Span → List Span → Type 0
HasStretch wanted first last spans more =
    (c : ℕ) → is_in more c ≡ (is_in spans c || (wanted && (leb first c && leb c last)))

below-span : (first last c : ℕ) → c < first → (leb first c && leb c last) ≡ false
below-span first last c less = ap (λ b. b && leb c last) (lt-leb first c less)

past-span : (first last c : ℕ) → last < c → (leb first c && leb c last) ≡ false
past-span first last c over = ap (λ b. leb first c && b) (lt-leb c last over) ∙ and-false (leb first c)

within-span : (first last c : ℕ) → first ≤ c → c ≤ last → (leb first c && leb c last) ≡ true
within-span first last c low high = ap (λ b. b && leb c last) (le-leb first c low) ∙ le-leb c last high

without : (a wanted span : Bool) → span ≡ false → (a || (wanted && span)) ≡ a
without a wanted span absent = ap (λ b. a || (wanted && b)) absent ∙ ap (λ b. a || b) (and-false wanted) ∙ or-false a

pub joined-more : (operation : SetOperation) (left right left_rest right_rest left_new right_new : List Span) (first last : ℕ)
    (spans more : List Span) (of_left of_right : Bool)
    → IsJoinedBelow operation left right left_rest right_rest first spans
    → first ≤ last → last ≤ 0x10FFFF
    → ((c : ℕ) → first ≤ c → c ≤ last → is_in left_rest c ≡ of_left)
    → ((c : ℕ) → first ≤ c → c ≤ last → is_in right_rest c ≡ of_right)
    → EndFrom (last + 1) left_new → EndFrom (last + 1) right_new
    → ((c : ℕ) → last < c → is_in left_new c ≡ is_in left_rest c)
    → ((c : ℕ) → last < c → is_in right_new c ≡ is_in right_rest c)
    → AreApart more → BeginUpTo first more → HasStretch (is_joined operation of_left of_right) first last spans more
    → IsJoinedBelow operation left right left_new right_new (last + 1) more
joined-more operation left right left_rest right_rest left_new right_new first last spans more of_left of_right
    before some within left_all right_all left_ends right_ends left_after right_after apart begin has = record {
      within = omega (arith, within);
      left_ends = left_ends;
      right_ends = right_ends;
      left_same = λ c from. left_after c (omega (arith, from)) ∙ before.left_same c (omega (arith, from, some));
      right_same = λ c from. right_after c (omega (arith, from)) ∙ before.right_same c (omega (arith, from, some));
      apart = apart;
      begin = begin-up-to more first (last + 1) (omega (arith, some)) begin;
      done = λ c below. has c ∙ elim (cases_lt c first) [
        | inl less ↦ without (is_in spans c) wanted (leb first c && leb c last) (below-span first last c less) ∙ before.done c less
        | inr from ↦
            ap (λ b. b || (wanted && (leb first c && leb c last))) (before.rest c from)
            ∙ ap (λ b. wanted && b) (within-span first last c from (omega (arith, below)))
            ∙ and-true wanted
            ∙ ap (λ b. is_joined operation b of_right) (sym (left_all c from (omega (arith, below))) ∙ before.left_same c from)
            ∙ ap (λ b. is_joined operation (is_in left c) b) (sym (right_all c from (omega (arith, below))) ∙ before.right_same c from)
      ];
      rest = λ c from. has c
          ∙ without (is_in spans c) wanted (leb first c && leb c last) (past-span first last c (omega (arith, from)))
          ∙ before.rest c (omega (arith, from, some));
    }
  where
    wanted : Bool
    wanted = is_joined operation of_left of_right

joined-none : (operation : SetOperation) → is_joined operation false false ≡ false
joined-none Union = refl
joined-none Intersection = refl
joined-none Difference = refl
joined-none SymmetricDifference = refl

pub joined-all : (operation : SetOperation) (left right left_rest right_rest spans : List Span) (n : ℕ)
    → AreApart left → AreApart right → 0x10FFFF < n
    → IsJoinedBelow operation left right left_rest right_rest n spans
    → (c : ℕ) → is_in spans c ≡ is_joined operation (is_in left c) (is_in right c)
joined-all operation left right left_rest right_rest spans n left_apart right_apart over joined c = elim (cases_lt c n) [
  | inl less ↦ joined.done c less
  | inr from ↦ joined.rest c from
      ∙ sym (ap (λ b. is_joined operation b (is_in right c)) (none-past left 0 c left_apart (omega (arith, over, from)))
      ∙ ap (λ b. is_joined operation false b) (none-past right 0 c right_apart (omega (arith, over, from)))
      ∙ joined-none operation)
]
