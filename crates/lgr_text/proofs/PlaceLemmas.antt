-- Where the start of a label, its end and the anchor stand in items, and that the items are of the notation.
use Rattle.std.proofs.Common.{◌≡◌, ℕ, zero, suc, ◌-◌, Bool, true, false, ◌||◌, ◌&&◌, not, List, [], ◌∷◌, ◌++◌, map, Option, Some, None, refl, ap, sym, subst, ◌∙◌, if◌then◌else◌}
use Rattle.std.specs.List.{AllByRecursion, list_all, list_any}
use Rattle.std.proofs.lemmas.Bool.{and_parts, or_parts}
use Rattle.std.proofs.lemmas.List.Folds.{list_any-append}
use Rattle.std.proofs.Math.Bool.{or-true}
use Rattle.label_patterns.specs.Patterns.{Pattern, Point, Set, Any, Start, End, Anchor, Group, Optional, Many, Then, Either}
use Rattle.label_patterns.specs.Rules.{is_anchor, is_context_rule}
use Rattle.ruleset_text.specs.Grammar.{Is, Sort, Atom, Item, Branch, Whole}
use Rattle.ruleset_text.specs.Rules.{has, is_after, is_before, is_context, is_rule, is_rule_or_whole}
use Rattle.ruleset_text.specs.Signs as sign
use Rattle.ruleset_text.specs.Signs.{Sign}
use Rattle.lgr_text.specs.LabelEnds.{begins_pattern, ends_pattern}
use Rattle.lgr_text.specs.inner.Branches.{in_choice, HasBranches}
use Rattle.lgr_text.specs.inner.Items.{as_atom, choice_of, copies, further_up_to, has_end, has_start, in_sequence, is_atom, is_never, is_row, nothing, turned, ungrouped, HasShape, IsFree, IsPlain}
use Rattle.lgr_text.proofs.RowLemmas.{anchored-rule}

-- ---- tests

abbrev pub Implies : Bool → Bool → Type 0
Implies a b = a ≡ true → b ≡ true

pub not-so : (a b : Bool) → Implies a b → b ≡ false → a ≡ false
not-so true b f e = absurd (let t = f refl in cc)
not-so false b f e = refl

pub or-implies : (a b c d : Bool) → Implies a c → Implies b d → Implies (a || b) (c || d)
or-implies true b c d f g e = ap (λ x. x || d) (f refl)
or-implies false b c d f g e = ap (λ x. c || x) (g e) ∙ or-true c

pub or-none : (a b : Bool) → a ≡ false → b ≡ false → (a || b) ≡ false
or-none a b e f = ap (λ x. x || b) e ∙ f

pub or-false : (a : Bool) → (a || false) ≡ a
or-false true = refl
or-false false = refl

both-so : (a b : Bool) → a ≡ true → b ≡ true → (a && b) ≡ true
both-so a b e f = ap (λ x. x && b) e ∙ f

not-false : (a : Bool) → a ≡ false → not a ≡ true
not-false true e = absurd (cc)
not-false false e = refl

any-join : {X : Type 0} (f : X → Bool) (xs ys : List X) → list_any f xs ≡ false → list_any f ys ≡ false → list_any f (xs ++ ys) ≡ false
any-join f xs ys left right = list_any-append f xs ys ∙ or-none (list_any f xs) (list_any f ys) left right

pub any-one : {X : Type 0} (f : X → Bool) (x : X) → f x ≡ false → list_any f (x ∷ []) ≡ false
any-one f x e = or-none (f x) false e refl

-- ---- the grammar

pub whole-of : (p : Pattern) → Is Branch p → Is Whole p
whole-of (Point c) h = h
whole-of (Set n) h = h
whole-of Any h = h
whole-of Start h = h
whole-of End h = h
whole-of Anchor h = h
whole-of (Group p) h = h
whole-of (Optional p) h = h
whole-of (Many p) h = h
whole-of (Then p q) h = h
whole-of (Either p q) h = absurd h

pub branch-of : (p : Pattern) → Is Item p → Is Branch p
branch-of (Point c) h = h
branch-of (Set n) h = h
branch-of Any h = h
branch-of Start h = h
branch-of End h = h
branch-of Anchor h = h
branch-of (Group p) h = h
branch-of (Optional p) h = h
branch-of (Many p) h = h
branch-of (Then p q) h = absurd h
branch-of (Either p q) h = absurd h

pub atom-branch : (p : Pattern) → Is Atom p → Is Branch p
atom-branch (Point c) h = h
atom-branch (Set n) h = h
atom-branch Any h = h
atom-branch Start h = absurd h
atom-branch End h = absurd h
atom-branch Anchor h = absurd h
atom-branch (Group p) h = h
atom-branch (Optional p) h = absurd h
atom-branch (Many p) h = absurd h
atom-branch (Then p q) h = absurd h
atom-branch (Either p q) h = absurd h

-- a pattern in a group, if '?' or '*' may not be added to it
pub grouped-form : (p : Pattern) → Is Whole p → Is Item (as_atom (p ∷ []))
grouped-form (Point c) h = h
grouped-form (Set n) h = h
grouped-form Any h = h
grouped-form Start h = h
grouped-form End h = h
grouped-form Anchor h = h
grouped-form (Group p) h = h
grouped-form (Optional p) h = h
grouped-form (Many p) h = h
grouped-form (Then p q) h = h
grouped-form (Either p q) h = h

pub item-whole : (p : Pattern) → Is Item p → Is Whole p
item-whole p h = whole-of p (branch-of p h)

-- an item to which '?' or '*' may be added
atom-of : (p : Pattern) → is_atom p ≡ true → Is Item p → Is Atom p
atom-of (Point c) e h = h
atom-of (Set n) e h = h
atom-of Any e h = h
atom-of Start e h = absurd (cc)
atom-of End e h = absurd (cc)
atom-of Anchor e h = absurd (cc)
atom-of (Group p) e h = h
atom-of (Optional p) e h = absurd (cc)
atom-of (Many p) e h = absurd (cc)
atom-of (Then p q) e h = absurd (cc)
atom-of (Either p q) e h = absurd (cc)

pub forms-join : (ps qs : List Pattern) → AllByRecursion (Is Item) ps → AllByRecursion (Is Item) qs → AllByRecursion (Is Item) (ps ++ qs)
forms-join [] qs h k = k
forms-join (p ∷ ps) qs h k = (h.0, forms-join ps qs h.1 k)

pub sequence-form : (ps : List Pattern) → AllByRecursion (Is Item) ps → Is Branch (in_sequence ps)
sequence-form [] h = (tt, tt)
sequence-form (p ∷ []) h = branch-of p h.0
sequence-form (p ∷ q ∷ ps) h = (h.0, sequence-form (q ∷ ps) h.1)

one-atom : (b : Bool) (p : Pattern) → is_atom p ≡ b → Is Item p → Is Atom (if b then p else Group p)
one-atom true p e h = atom-of p e h
one-atom false p e h = whole-of p (branch-of p h)

pub atom-form : (ps : List Pattern) → AllByRecursion (Is Item) ps → Is Atom (as_atom ps)
atom-form [] h = (tt, tt)
atom-form (p ∷ []) h = one-atom (is_atom p) p refl h.0
atom-form (p ∷ q ∷ ps) h = whole-of (in_sequence (p ∷ q ∷ ps)) (sequence-form (p ∷ q ∷ ps) h)

ungrouped-form : (p : Pattern) → Is Branch p → Is Whole (ungrouped p)
ungrouped-form (Group p) h = h
ungrouped-form (Point c) h = h
ungrouped-form (Set n) h = h
ungrouped-form Any h = h
ungrouped-form Start h = h
ungrouped-form End h = h
ungrouped-form Anchor h = h
ungrouped-form (Optional p) h = h
ungrouped-form (Many p) h = h
ungrouped-form (Then p q) h = h
ungrouped-form (Either p q) h = absurd h

pub choice-form : (left right : List Pattern) → AllByRecursion (Is Item) left → AllByRecursion (Is Item) right → Is Item (choice_of left right)
choice-form left right h k = (sequence-form left h, ungrouped-form (in_sequence right) (sequence-form right k))

pub copies-form : (n : ℕ) (ps : List Pattern) → AllByRecursion (Is Item) ps → AllByRecursion (Is Item) (copies n ps)
copies-form zero ps h = tt
copies-form (suc n) ps h = forms-join (copies n ps) ps (copies-form n ps h) h

pub further-form : (most : Option ℕ) (least : ℕ) (ps : List Pattern) → AllByRecursion (Is Item) ps → AllByRecursion (Is Item) (further_up_to most least ps)
further-form None least ps h = (atom-form ps h, tt)
further-form (Some most) least ps h = copies-form (most - least) (Optional (as_atom ps) ∷ []) (atom-form ps h, tt)

then-form : (b : Bool) (p q : Pattern) → Is Branch (Then p q) → Is Branch (if b then Then End Any else Then p q)
then-form true p q h = (tt, tt)
then-form false p q h = h

pub turned-form : (s : Sort) (p : Pattern) → Is s p → Is s (turned p)
turned-form s (Point c) h = h
turned-form s (Set n) h = h
turned-form s Any h = h
turned-form s Start h = h
turned-form s End h = h
turned-form s Anchor h = h
turned-form s (Group p) h = turned-form Whole p h
turned-form Atom (Optional p) h = absurd h
turned-form Item (Optional p) h = turned-form Atom p h
turned-form Branch (Optional p) h = turned-form Atom p h
turned-form Whole (Optional p) h = turned-form Atom p h
turned-form Atom (Many p) h = absurd h
turned-form Item (Many p) h = turned-form Atom p h
turned-form Branch (Many p) h = turned-form Atom p h
turned-form Whole (Many p) h = turned-form Atom p h
turned-form Atom (Then p q) h = absurd h
turned-form Item (Then p q) h = absurd h
turned-form Branch (Then p q) h = then-form (is_never p q) (turned p) (turned q) (turned-form Item p h.0, turned-form Branch q h.1)
turned-form Whole (Then p q) h =
    whole-of (turned (Then p q)) (then-form (is_never p q) (turned p) (turned q) (turned-form Item p h.0, turned-form Branch q h.1))
turned-form Atom (Either p q) h = absurd h
turned-form Item (Either p q) h = absurd h
turned-form Branch (Either p q) h = absurd h
turned-form Whole (Either p q) h = (turned-form Branch p h.0, turned-form Whole q h.1)

pub turned-forms : (ps : List Pattern) → AllByRecursion (Is Item) ps → AllByRecursion (Is Item) (map turned ps)
turned-forms [] h = tt
turned-forms (p ∷ ps) h = (turned-form Item p h.0, turned-forms ps h.1)

-- ---- a sign in a pattern and in items

-- a sign that isn't in what matches the empty part of a label
pub sequence-sign : (s : Sign) (ps : List Pattern) → has s nothing ≡ false → has s (in_sequence ps) ≡ list_any (has s) ps
sequence-sign s [] none = none
sequence-sign s (p ∷ []) none = sym (or-false (has s p))
sequence-sign s (p ∷ q ∷ ps) none = ap (λ b. has s p || b) (sequence-sign s (q ∷ ps) none)

then-start : (b : Bool) (p q : Pattern) → has_start p ≡ false → has_start q ≡ false
    → has sign.Start (if b then Then End Any else Then (turned p) (turned q)) ≡ false
then-start true p q e f = refl
then-start false p q e f = or-none (has_start p) (has_start q) e f

pub sequence-start : (ps : List Pattern) → list_any has_start ps ≡ false → has_start (in_sequence ps) ≡ false
sequence-start [] e = refl
sequence-start (p ∷ []) e = (or_parts (has_start p) false e).0
sequence-start (p ∷ q ∷ ps) e =
    let both = or_parts (has_start p) (list_any has_start (q ∷ ps)) e in
    then-start (is_never p (in_sequence (q ∷ ps))) p (in_sequence (q ∷ ps)) both.0 (sequence-start (q ∷ ps) both.1)

-- where it stands in the pattern it stands in the items
pub start-in : (ps : List Pattern) → Implies (has_start (in_sequence ps)) (list_any has_start ps)
start-in ps e = by (list_any has_start ps) refl
  where
    by : (b : Bool) → list_any has_start ps ≡ b → b ≡ true
    by true is = refl
    by false is = absurd (let none = sequence-start ps is in cc)

ungrouped-sign : (s : Sign) (p : Pattern) → has s (ungrouped p) ≡ has s p
ungrouped-sign s (Group p) = refl
ungrouped-sign s p = refl

ungrouped-start : (p : Pattern) → has_start (ungrouped p) ≡ has_start p
ungrouped-start (Group p) = refl
ungrouped-start p = refl

ungrouped-begins : (p : Pattern) → begins_pattern (ungrouped p) ≡ begins_pattern p
ungrouped-begins (Group p) = refl
ungrouped-begins p = refl

ungrouped-ends : (p : Pattern) → ends_pattern (ungrouped p) ≡ ends_pattern p
ungrouped-ends (Group p) = refl
ungrouped-ends p = refl

atom-one-sign : (s : Sign) (b : Bool) (p : Pattern) → has s (if b then p else Group p) ≡ has s p
atom-one-sign s true p = refl
atom-one-sign s false p = refl

pub atom-sign : (s : Sign) (ps : List Pattern) → has s nothing ≡ false → has s (as_atom ps) ≡ list_any (has s) ps
atom-sign s [] none = none
atom-sign s (p ∷ []) none = atom-one-sign s (is_atom p) p ∙ sym (or-false (has s p))
atom-sign s (p ∷ q ∷ ps) none = sequence-sign s (p ∷ q ∷ ps) none

atom-one-start : (b : Bool) (p : Pattern) → has_start (if b then p else Group p) ≡ has_start p
atom-one-start true p = refl
atom-one-start false p = refl

pub atom-start : (ps : List Pattern) → list_any has_start ps ≡ false → has_start (as_atom ps) ≡ false
atom-start [] e = refl
atom-start (p ∷ []) e = atom-one-start (is_atom p) p ∙ (or_parts (has_start p) false e).0
atom-start (p ∷ q ∷ ps) e = sequence-start (p ∷ q ∷ ps) e

-- ---- where a pattern begins or ends

pub ends-after : (ps qs : List Pattern) → Implies (ends_pattern (in_sequence qs)) (ends_pattern (in_sequence (ps ++ qs)))
ends-after [] qs e = e
ends-after (p ∷ []) [] e = absurd (let clash : false ≡ true = e in cc)
ends-after (p ∷ []) (q ∷ qs) e = e
ends-after (p ∷ r ∷ ps) qs e = ends-after (r ∷ ps) qs e

pub begins-before : (ps qs : List Pattern) → Implies (begins_pattern (in_sequence ps)) (begins_pattern (in_sequence (ps ++ qs)))
begins-before [] qs e = absurd (let clash : false ≡ true = e in cc)
begins-before (p ∷ []) [] e = e
begins-before (p ∷ []) (q ∷ qs) e = e
begins-before (p ∷ r ∷ ps) qs e = e

-- ---- plain items

pub no-sign-plain : (ps : List Pattern) → list_any (has sign.Anchor) ps ≡ false → list_any has_start ps ≡ false → list_any has_end ps ≡ false
    → IsPlain ps
no-sign-plain ps anchor start end = record {
  no_anchor = anchor;
  start = λ e. absurd (let clash : true ≡ false = sym e ∙ start in cc);
  end = λ e. absurd (let clash : true ≡ false = sym e ∙ end in cc);
}

-- one item
pub one-plain : (p : Pattern) → has sign.Anchor p ≡ false → Implies (has_start p) (begins_pattern p) → Implies (has_end p) (ends_pattern p)
    → IsPlain (p ∷ [])
one-plain p anchor start end = record {
  no_anchor = any-one (has sign.Anchor) p anchor;
  start = λ e. start (sym (or-false (has_start p)) ∙ e);
  end = λ e. end (sym (or-false (has_end p)) ∙ e);
}

-- one after the other: no end in the first, and no start in the second
pub then-plain : (ps qs : List Pattern) → IsPlain ps → IsPlain qs → list_any has_end ps ≡ false → list_any has_start qs ≡ false → IsPlain (ps ++ qs)
then-plain ps qs left right end start = record {
  no_anchor = any-join (has sign.Anchor) ps qs left.no_anchor right.no_anchor;
  start = λ e. begins-before ps qs (left.start (sym (or-false (list_any has_start ps)) ∙ ap (λ b. list_any has_start ps || b) (sym start)
      ∙ sym (list_any-append has_start ps qs) ∙ e));
  end = λ e. ends-after ps qs (right.end (ap (λ b. b || list_any has_end qs) (sym end) ∙ sym (list_any-append has_end ps qs) ∙ e));
}

-- one or the other
pub choice-plain : (left right : List Pattern) → IsPlain left → IsPlain right → IsPlain (choice_of left right ∷ [])
choice-plain left right h k = one-plain (choice_of left right)
    (or-none (has sign.Anchor (in_sequence left)) (has sign.Anchor (ungrouped (in_sequence right)))
    (sequence-sign sign.Anchor left refl ∙ h.no_anchor)
    (ungrouped-sign sign.Anchor (in_sequence right) ∙ sequence-sign sign.Anchor right refl ∙ k.no_anchor))
    (or-implies (has_start (in_sequence left)) (has_start (ungrouped (in_sequence right)))
    (begins_pattern (in_sequence left)) (begins_pattern (ungrouped (in_sequence right)))
    (λ e. h.start (start-in left e))
    (λ e. ungrouped-begins (in_sequence right) ∙ k.start (start-in right (sym (ungrouped-start (in_sequence right)) ∙ e))))
    (or-implies (has_end (in_sequence left)) (has_end (ungrouped (in_sequence right)))
    (ends_pattern (in_sequence left)) (ends_pattern (ungrouped (in_sequence right)))
    (λ e. h.end (sym (sequence-sign sign.End left refl) ∙ e))
    (λ e. ungrouped-ends (in_sequence right)
    ∙ k.end (sym (sequence-sign sign.End right refl) ∙ sym (ungrouped-sign sign.End (in_sequence right)) ∙ e)))

-- the start stands in one of the two, and so does the end
pub choice-start : (left right : List Pattern)
    → Implies (list_any has_start (choice_of left right ∷ [])) (list_any has_start left || list_any has_start right)
choice-start left right e =
    or-implies (has_start (in_sequence left)) (has_start (ungrouped (in_sequence right))) (list_any has_start left) (list_any has_start right)
    (start-in left) (λ f. start-in right (sym (ungrouped-start (in_sequence right)) ∙ f)) (sym (or-false (has_start (choice_of left right))) ∙ e)

pub choice-end : (left right : List Pattern)
    → Implies (list_any has_end (choice_of left right ∷ [])) (list_any has_end left || list_any has_end right)
choice-end left right e =
    or-implies (has_end (in_sequence left)) (has_end (ungrouped (in_sequence right))) (list_any has_end left) (list_any has_end right)
    (λ f. sym (sequence-sign sign.End left refl) ∙ f)
    (λ f. sym (sequence-sign sign.End right refl) ∙ sym (ungrouped-sign sign.End (in_sequence right)) ∙ f) (sym (or-false (has_end (choice_of left right))) ∙ e)

-- so many times
copies-none : (f : Pattern → Bool) (n : ℕ) (ps : List Pattern) → list_any f ps ≡ false → list_any f (copies n ps) ≡ false
copies-none f zero ps e = refl
copies-none f (suc n) ps e = any-join f (copies n ps) ps (copies-none f n ps e) e

further-sign : (s : Sign) (most : Option ℕ) (least : ℕ) (ps : List Pattern) → has s nothing ≡ false → list_any (has s) ps ≡ false
    → list_any (has s) (further_up_to most least ps) ≡ false
further-sign s None least ps none e = any-one (has s) (Many (as_atom ps)) (atom-sign s ps none ∙ e)
further-sign s (Some most) least ps none e =
    copies-none (has s) (most - least) (Optional (as_atom ps) ∷ []) (any-one (has s) (Optional (as_atom ps)) (atom-sign s ps none ∙ e))

further-start : (most : Option ℕ) (least : ℕ) (ps : List Pattern) → list_any has_start ps ≡ false → list_any has_start (further_up_to most least ps) ≡ false
further-start None least ps e = any-one has_start (Many (as_atom ps)) (atom-start ps e)
further-start (Some most) least ps e =
    copies-none has_start (most - least) (Optional (as_atom ps) ∷ []) (any-one has_start (Optional (as_atom ps)) (atom-start ps e))

pub times-sign : (s : Sign) (n : ℕ) (most : Option ℕ) (ps : List Pattern) → has s nothing ≡ false → list_any (has s) ps ≡ false
    → list_any (has s) (copies n ps ++ further_up_to most n ps) ≡ false
times-sign s n most ps none e = any-join (has s) (copies n ps) (further_up_to most n ps) (copies-none (has s) n ps e) (further-sign s most n ps none e)

pub times-start : (n : ℕ) (most : Option ℕ) (ps : List Pattern) → list_any has_start ps ≡ false → list_any has_start (copies n ps ++ further_up_to most n ps) ≡ false
times-start n most ps e = any-join has_start (copies n ps) (further_up_to most n ps) (copies-none has_start n ps e) (further-start most n ps e)

-- ---- rows with the anchor

before-so : (p : Pattern) → has sign.Anchor p ≡ false → has_end p ≡ false → is_before p ≡ true
before-so p anchor end = both-so (not (has sign.Anchor p)) (not (has_end p)) (not-false (has sign.Anchor p) anchor) (not-false (has_end p) end)

after-so : (p : Pattern) → has sign.Anchor p ≡ false → has sign.Start p ≡ false → is_after p ≡ true
after-so p anchor start = both-so (not (has sign.Anchor p)) (not (has sign.Start p)) (not-false (has sign.Anchor p) anchor) (not-false (has sign.Start p) start)

anchor-none : (p : Pattern) → has sign.Anchor p ≡ false → is_anchor p ≡ false
anchor-none Anchor e = absurd (let clash : true ≡ false = e in cc)
anchor-none (Point c) e = refl
anchor-none (Set n) e = refl
anchor-none Any e = refl
anchor-none Start e = refl
anchor-none End e = refl
anchor-none (Group p) e = refl
anchor-none (Optional p) e = refl
anchor-none (Many p) e = refl
anchor-none (Then p q) e = refl
anchor-none (Either p q) e = refl

pub row-before : (ps row : List Pattern) → list_any (has sign.Anchor) ps ≡ false → list_any has_end ps ≡ false → is_row row ≡ true → is_row (ps ++ row) ≡ true
row-before [] row anchor end e = e
row-before (p ∷ ps) row anchor end e =
    let none = or_parts (has sign.Anchor p) (list_any (has sign.Anchor) ps) anchor in
    let no_end = or_parts (has_end p) (list_any has_end ps) end in
    ap (λ b. if b then list_all is_after (ps ++ row) else is_before p && is_row (ps ++ row)) (anchor-none p none.0)
    ∙ both-so (is_before p) (is_row (ps ++ row)) (before-so p none.0 no_end.0) (row-before ps row none.1 no_end.1 e)

all-after : (ps qs : List Pattern) → list_all is_after ps ≡ true → list_all is_after qs ≡ true → list_all is_after (ps ++ qs) ≡ true
all-after [] qs e f = f
all-after (p ∷ ps) qs e f =
    let both = and_parts (is_after p) (list_all is_after ps) e in both-so (is_after p) (list_all is_after (ps ++ qs)) both.0 (all-after ps qs both.1 f)

pub row-after : (row ps : List Pattern) → is_row row ≡ true → list_all is_after ps ≡ true → is_row (row ++ ps) ≡ true
row-after [] ps e f = absurd (let clash : false ≡ true = e in cc)
row-after (p ∷ row) ps e f = by (is_anchor p) (λ g. row-after row ps g f) e
  where
    by : (b : Bool) → Implies (is_row row) (is_row (row ++ ps)) → (if b then list_all is_after row else is_before p && is_row row) ≡ true
        → (if b then list_all is_after (row ++ ps) else is_before p && is_row (row ++ ps)) ≡ true
    by true rest g = all-after row ps g f
    by false rest g =
        let both = and_parts (is_before p) (is_row row) g in both-so (is_before p) (is_row (row ++ ps)) both.0 (rest both.1)

then-anchor : (b : Bool) (p q : Pattern) → has sign.Anchor p ≡ false → has sign.Anchor q ≡ false
    → has sign.Anchor (if b then Then End Any else Then p q) ≡ false
then-anchor true p q e f = refl
then-anchor false p q e f = or-none (has sign.Anchor p) (has sign.Anchor q) e f

turned-anchor : (p : Pattern) → has sign.Anchor p ≡ false → has sign.Anchor (turned p) ≡ false
turned-anchor (Point c) e = refl
turned-anchor (Set n) e = refl
turned-anchor Any e = refl
turned-anchor Start e = refl
turned-anchor End e = refl
turned-anchor Anchor e = e
turned-anchor (Group p) e = turned-anchor p e
turned-anchor (Optional p) e = turned-anchor p e
turned-anchor (Many p) e = turned-anchor p e
turned-anchor (Then p q) e =
    let both = or_parts (has sign.Anchor p) (has sign.Anchor q) e in
    then-anchor (is_never p q) (turned p) (turned q) (turned-anchor p both.0) (turned-anchor q both.1)
turned-anchor (Either p q) e =
    let both = or_parts (has sign.Anchor p) (has sign.Anchor q) e in
    or-none (has sign.Anchor (turned p)) (has sign.Anchor (turned q)) (turned-anchor p both.0) (turned-anchor q both.1)

-- what is turned may stand after the anchor
pub turned-after : (ps : List Pattern) → list_any (has sign.Anchor) ps ≡ false → list_any has_start ps ≡ false → list_all is_after (map turned ps) ≡ true
turned-after [] anchor start = refl
turned-after (p ∷ ps) anchor start =
    let none = or_parts (has sign.Anchor p) (list_any (has sign.Anchor) ps) anchor in
    let no_start = or_parts (has_start p) (list_any has_start ps) start in
    both-so (is_after (turned p)) (list_all is_after (map turned ps)) (after-so (turned p) (turned-anchor p none.0) no_start.0)
    (turned-after ps none.1 no_start.1)

-- ---- the pattern of a row

anchor-is : (p : Pattern) → is_anchor p ≡ true → p ≡ Anchor
anchor-is Anchor e = refl
anchor-is (Point c) e = absurd (cc)
anchor-is (Set n) e = absurd (cc)
anchor-is Any e = absurd (cc)
anchor-is Start e = absurd (cc)
anchor-is End e = absurd (cc)
anchor-is (Group p) e = absurd (cc)
anchor-is (Optional p) e = absurd (cc)
anchor-is (Many p) e = absurd (cc)
anchor-is (Then p q) e = absurd (cc)
anchor-is (Either p q) e = absurd (cc)

after-sequence : (p : Pattern) (ps : List Pattern) → list_all is_after (p ∷ ps) ≡ true → is_after (in_sequence (p ∷ ps)) ≡ true
after-sequence p [] e = (and_parts (is_after p) true e).0
after-sequence p (q ∷ ps) e =
    let both = and_parts (is_after p) (list_all is_after (q ∷ ps)) e in
    let rest = after-sequence q ps both.1 in
    let signs = λ (r : Pattern) (f : is_after r ≡ true). and_parts (not (has sign.Anchor r)) (not (has sign.Start r)) f in
    after-so (Then p (in_sequence (q ∷ ps)))
    (or-none (has sign.Anchor p) (has sign.Anchor (in_sequence (q ∷ ps))) (none (has sign.Anchor p) (signs p both.0).0)
    (none (has sign.Anchor (in_sequence (q ∷ ps))) (signs (in_sequence (q ∷ ps)) rest).0))
    (or-none (has sign.Start p) (has sign.Start (in_sequence (q ∷ ps))) (none (has sign.Start p) (signs p both.0).1)
    (none (has sign.Start (in_sequence (q ∷ ps))) (signs (in_sequence (q ∷ ps)) rest).1))
  where
    none : (a : Bool) → not a ≡ true → a ≡ false
    none true e = absurd (cc)
    none false e = refl

pub row-context : (row : List Pattern) → is_row row ≡ true → is_context (in_sequence row) ≡ true
row-context [] e = absurd (let clash : false ≡ true = e in cc)
row-context (p ∷ []) e = ap is_context (anchor-is p (by (is_anchor p) e))
  where
    by : (b : Bool) → (if b then true else is_before p && false) ≡ true → b ≡ true
    by true f = refl
    by false f = absurd (let parts = and_parts (is_before p) false f in let clash : false ≡ true = parts.1 in cc)
row-context (p ∷ q ∷ ps) e = by (is_anchor p) (row-context (q ∷ ps)) e
  where
    by : (b : Bool) → Implies (is_row (q ∷ ps)) (is_context (in_sequence (q ∷ ps)))
        → (if b then list_all is_after (q ∷ ps) else is_before p && is_row (q ∷ ps)) ≡ true
        → (if b then is_after (in_sequence (q ∷ ps)) else is_before p && is_context (in_sequence (q ∷ ps))) ≡ true
    by true rest f = after-sequence q ps f
    by false rest f =
        let both = and_parts (is_before p) (is_row (q ∷ ps)) f in
        both-so (is_before p) (is_context (in_sequence (q ∷ ps))) both.0 (rest both.1)

-- ---- the pattern of a rule

-- a pattern of the notation without an anchor: the start of a label is the first that it matches, if it stands in it, and
-- the end the last
pub record IsPlainPattern (p : Pattern) : Type 0 where
  pub form : Is Whole p
  pub no_anchor : has sign.Anchor p ≡ false
  pub start : Implies (has_start p) (begins_pattern p)
  pub end : Implies (has_end p) (ends_pattern p)

row-plain : (row : List Pattern) → HasShape false row → IsPlainPattern (in_sequence row)
row-plain row shape = record {
  form = whole-of (in_sequence row) (sequence-form row shape.forms);
  no_anchor = sequence-sign sign.Anchor row refl ∙ shape.placed.no_anchor;
  start = λ e. shape.placed.start (start-in row e);
  end = λ e. shape.placed.end (sym (sequence-sign sign.End row refl) ∙ e);
}

pub rows-plain : (rows : List (List Pattern)) → AllByRecursion (HasShape false) rows → IsPlainPattern (in_choice (map in_sequence rows))
rows-plain [] shapes = record {
  form = (tt, tt);
  no_anchor = refl;
  start = λ e. absurd (let clash : false ≡ true = e in cc);
  end = λ e. absurd (let clash : false ≡ true = e in cc);
}
rows-plain (row ∷ []) shapes = row-plain row shapes.0
rows-plain (row ∷ next ∷ rows) shapes =
    let first = row-plain row shapes.0 in
    let others = rows-plain (next ∷ rows) shapes.1 in
    let p = in_sequence row in
    let q = in_choice (map in_sequence (next ∷ rows)) in
    record {
      form = (sequence-form row shapes.0.forms, others.form);
      no_anchor = or-none (has sign.Anchor p) (has sign.Anchor q) first.no_anchor others.no_anchor;
      start = or-implies (has_start p) (has_start q) (begins_pattern p) (begins_pattern q) first.start others.start;
      end = or-implies (has_end p) (has_end q) (ends_pattern p) (ends_pattern q) first.end others.end;
    }

pub whole-plain : (p : Pattern) → HasBranches p → is_context_rule p ≡ false → IsPlainPattern p
whole-plain p branches none =
    subst IsPlainPattern (sym branches.is) (by branches.anchored branches.rows branches.shapes (ap is_context_rule (sym branches.is) ∙ none))
  where
    by : (b : Bool) (rows : List (List Pattern)) → AllByRecursion (HasShape b) rows → is_context_rule (in_choice (map in_sequence rows)) ≡ false
        → IsPlainPattern (in_choice (map in_sequence rows))
    by true [] shapes is = rows-plain [] tt
    by true (row ∷ rows) shapes is = absurd (let one = anchored-rule row rows shapes in cc)
    by false rows shapes is = rows-plain rows shapes

-- a pattern that may be defined as that of a rule
abbrev pub IsRulePattern : Pattern → Type 0
IsRulePattern p = Is Whole p × (is_rule_or_whole p ≡ true)

context-rule : (p : Pattern) → is_context p ≡ true → is_rule p ≡ true
context-rule Anchor e = refl
context-rule (Then p q) e = e
context-rule (Point c) e = absurd (let clash : false ≡ true = e in cc)
context-rule (Set n) e = absurd (let clash : false ≡ true = e in cc)
context-rule Any e = absurd (let clash : false ≡ true = e in cc)
context-rule Start e = absurd (let clash : false ≡ true = e in cc)
context-rule End e = absurd (let clash : false ≡ true = e in cc)
context-rule (Group p) e = absurd (let clash : false ≡ true = e in cc)
context-rule (Optional p) e = absurd (let clash : false ≡ true = e in cc)
context-rule (Many p) e = absurd (let clash : false ≡ true = e in cc)
context-rule (Either p q) e = absurd (let clash : false ≡ true = e in cc)

rows-rule : (row : List Pattern) (rows : List (List Pattern)) → AllByRecursion (HasShape true) (row ∷ rows)
    → Is Whole (in_choice (map in_sequence (row ∷ rows))) × (is_rule (in_choice (map in_sequence (row ∷ rows))) ≡ true)
rows-rule row [] shapes = (
  whole-of (in_sequence row) (sequence-form row shapes.0.forms),
  context-rule (in_sequence row) (row-context row shapes.0.placed),
)
rows-rule row (next ∷ rows) shapes =
    let others = rows-rule next rows shapes.1 in (
      (sequence-form row shapes.0.forms, others.0),
      both-so (is_context (in_sequence row)) (is_rule (in_choice (map in_sequence (next ∷ rows)))) (row-context row shapes.0.placed) others.1,
    )

pub branches-form : (p : Pattern) → HasBranches p → IsRulePattern p
branches-form p branches = subst IsRulePattern (sym branches.is) (by branches.anchored branches.rows branches.shapes)
  where
    plain : (q : Pattern) → IsPlainPattern q → IsRulePattern q
    plain q is = (is.form, ap (λ b. is_rule q || not b) is.no_anchor ∙ or-true (is_rule q))

    by : (b : Bool) (rows : List (List Pattern)) → AllByRecursion (HasShape b) rows → IsRulePattern (in_choice (map in_sequence rows))
    by true [] shapes = plain (in_choice []) (rows-plain [] tt)
    by true (row ∷ rows) shapes =
        let q = in_choice (map in_sequence (row ∷ rows)) in
        let made = rows-rule row rows shapes in (made.0, ap (λ b. b || not (has sign.Anchor q)) made.1)
    by false rows shapes = plain (in_choice (map in_sequence rows)) (rows-plain rows shapes)

-- ---- patterns without signs

pub grouped-free : (p : Pattern) → IsFree p → IsFree (as_atom (p ∷ []))
grouped-free p free = record {
  anchor = atom-one-sign sign.Anchor (is_atom p) p ∙ free.anchor;
  start = atom-one-start (is_atom p) p ∙ free.start;
  end = atom-one-sign sign.End (is_atom p) p ∙ free.end;
}

pub either-free : (p q : Pattern) → IsFree p → IsFree q → IsFree (Either p q)
either-free p q left right = record {
  anchor = or-none (has sign.Anchor p) (has sign.Anchor q) left.anchor right.anchor;
  start = or-none (has_start p) (has_start q) left.start right.start;
  end = or-none (has_end p) (has_end q) left.end right.end;
}
