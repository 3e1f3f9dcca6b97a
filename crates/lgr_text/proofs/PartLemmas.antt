-- Parts of rules and the items that match the same.
use Rattle.std.proofs.Common.{◌≡◌, ℕ, zero, suc, ◌+◌, ◌-◌, ◌<◌, ◌≤◌, inl, inr, Bool, true, false, ◌||◌, ◌&&◌, not, List, [], ◌∷◌, ◌++◌, length, drop, get_or, map, Option, Some, None, refl, ap, sym, subst, ◌∙◌, append_assoc, if◌then◌else◌, arith}
use Rattle.std.specs.Prelude.{◌↔◌, slice_index, Result, Ok, Err, OnOk}
use Rattle.std.specs.List.{AllByRecursion, list_all, list_any}
use Rattle.std.proofs.lemmas.List.Folds.{list_all-append, list_any-append}
use Rattle.std.proofs.lemmas.Bool.{eqb-true, eq-eqb, or_parts}
use Rattle.std.proofs.lemmas.List.{append-nil, length-drop}
use Rattle.std.proofs.Math.Bool.{and-true}
use Rattle.std.proofs.Math.Seq.{drop-cons}
use Rattle.label_patterns.specs.declared.span.Span.{Span}
use Rattle.label_patterns.specs.Laws.{seen}
use Rattle.label_patterns.specs.Matches.{Seen, HasItsSets}
use Rattle.label_patterns.specs.Patterns.{Pattern, Point, Optional, Group}
use Rattle.label_patterns.specs.Patterns as pattern
use Rattle.label_patterns.specs.Rules.{is_context_rule}
use Rattle.label_patterns.specs.Sets.{is_in}
use Rattle.ruleset_text.specs.Grammar.{Is, Item}
use Rattle.ruleset_text.specs.Names.{number_of}
use Rattle.ruleset_text.specs.Rules.{has as has_sign, is_after}
use Rattle.ruleset_text.specs.Signs as sign
use Rattle.lgr_text.specs.ClassMembers.{has}
use Rattle.lgr_text.specs.Known.{Known}
use Rattle.lgr_text.specs.LabelEnds.{begins_label, ends_label}
use Rattle.lgr_text.specs.declared.rule_error.RuleError.{RuleError}
use Rattle.lgr_text.specs.declared.rule_error.RuleFault.{RuleFault}
use Rattle.lgr_text.specs.declared.rule_error.RuleFault.TheVariants.{Misplaced, NotSupported, Undefined}
use Rattle.lgr_text.specs.PartMatches.{BeginsWith, IsOf, is_named, name_fault, has_anchor, parts_label, rule_named, then_fault, times_fault, Matching, Place, Repeats, IsUpTo, StandThere}
use Rattle.lgr_text.specs.Records.{Class, Part, Literal, Any, Of, Start, End, OfRule, Then, Choice, Times}
use Rattle.lgr_text.specs.declared.records.Count.{Count}
use Rattle.lgr_text.specs.inner.Branches.{HaveBranches}
use Rattle.lgr_text.specs.inner.Faults.{IsFaultOf}
use Rattle.lgr_text.specs.inner.Items.{AddsSets, is_member, literal_items, never, anchors, as_atom, further_up_to, has_end, has_start, is_item, HasShape, choice_of, copies, further, AddsClass, Appends, ItemsMatch, HaveSets, ItemMatches}
use Rattle.lgr_text.proofs.ItemLemmas.{choice-is, copies-are, further-are, item-is, items-join, items-split, one-item}
use Rattle.lgr_text.proofs.PlaceLemmas.{any-one, choice-end, choice-form, choice-plain, choice-start, copies-form, forms-join, further-form, no-sign-plain, not-so, one-plain, or-false, or-implies, or-none, row-after, row-before, then-plain, times-sign, times-start, whole-plain, Implies, IsPlainPattern}
use Rattle.lgr_text.proofs.RowLemmas.{named-branches, whole-around}
use Rattle.lgr_text.proofs.RuleLemmas.{items-place}
use Rattle.lgr_text.proofs.SetNumberLemmas.{begins-length, choice-has, have-join, have-more, points-have, rule-has, times-have}
use Rattle.lgr_text.proofs.RepeatLemmas.{repeats-join, repeats-map, repeats-split}

pub begins-so : (sets : List (List Span)) → BeginsWith sets sets
begins-so sets = ([], sym (append-nil sets))

pub begins-too : (all sets first : List (List Span)) → BeginsWith all sets → BeginsWith sets first → BeginsWith all first
begins-too all sets first h k = (k.0 ++ h.0, h.1 ∙ ap (λ l. l ++ h.0) k.1 ∙ append_assoc first k.0 h.0)

-- ---- shapes

points-flat : (points : List ℕ) → list_all is_item (map Point points) ≡ true
points-flat [] = refl
points-flat (c ∷ points) = points-flat points

points-unanchored : (points : List ℕ) → anchors (map Point points) ≡ 0
points-unanchored [] = refl
points-unanchored (c ∷ points) = let e = points-unanchored points in omega (arith, e)

points-form : (points : List ℕ) → AllByRecursion (Is Item) (map Point points)
points-form [] = tt
points-form (c ∷ points) = (tt, points-form points)

points-none : (f : Pattern → Bool) (points : List ℕ) → ((c : ℕ) → f (Point c) ≡ false) → list_any f (map Point points) ≡ false
points-none f [] none = refl
points-none f (c ∷ points) none = or-none (f (Point c)) (list_any f (map Point points)) (none c) (points-none f points none)

flat-join : (ps qs : List Pattern) → list_all is_item ps ≡ true → list_all is_item qs ≡ true → list_all is_item (ps ++ qs) ≡ true
flat-join ps qs left right = list_all-append is_item ps qs ∙ ap (λ b. b && list_all is_item qs) left ∙ right

anchors-join : (ps qs : List Pattern) → anchors (ps ++ qs) ≡ anchors ps + anchors qs
anchors-join [] qs = omega arith
anchors-join (p ∷ ps) qs = let e = anchors-join ps qs in omega (arith, e)

one-left : (ps qs : List Pattern) (n : ℕ) → anchors ps ≡ n → anchors qs ≡ 0 → anchors (ps ++ qs) ≡ n
one-left ps qs n left right = let e = anchors-join ps qs in omega (arith, e, left, right)

one-right : (ps qs : List Pattern) (n : ℕ) → anchors ps ≡ 0 → anchors qs ≡ n → anchors (ps ++ qs) ≡ n
one-right ps qs n left right = let e = anchors-join ps qs in omega (arith, e, left, right)

-- items before others: no end of a label in the first, no start in the second
then-shape : (ps qs : List Pattern) → HasShape false ps → HasShape false qs → list_any has_end ps ≡ false → list_any has_start qs ≡ false
    → HasShape false (ps ++ qs)
then-shape ps qs left right end start = record {
  flat = flat-join ps qs left.flat right.flat;
  one = one-left ps qs 0 left.one right.one;
  forms = forms-join ps qs left.forms right.forms;
  placed = then-plain ps qs left.placed right.placed end start;
}

-- items before a row with the anchor, and after it
pub shape-before : (ps rest : List Pattern) → HasShape false ps → HasShape true rest → list_any has_end ps ≡ false → HasShape true (ps ++ rest)
shape-before ps rest left right end = record {
  flat = flat-join ps rest left.flat right.flat;
  one = one-right ps rest 1 left.one right.one;
  forms = forms-join ps rest left.forms right.forms;
  placed = row-before ps rest left.placed.no_anchor end right.placed;
}

pub shape-after : (row ps : List Pattern) → HasShape true row → list_all is_item ps ≡ true → anchors ps ≡ 0 → AllByRecursion (Is Item) ps
    → list_all is_after ps ≡ true → HasShape true (row ++ ps)
shape-after row ps left flat one items after = record {
  flat = flat-join row ps left.flat flat;
  one = one-left row ps 1 left.one one;
  forms = forms-join row ps left.forms items;
  placed = row-after row ps left.placed after;
}

-- items of which the notation has no sign of a label's ends
pub free-shape : (ps : List Pattern) → list_all is_item ps ≡ true → anchors ps ≡ 0 → AllByRecursion (Is Item) ps
    → list_any (has_sign sign.Anchor) ps ≡ false → list_any has_start ps ≡ false → list_any has_end ps ≡ false → HasShape false ps
free-shape ps flat one items anchor start end = record { flat = flat; one = one; forms = items; placed = no-sign-plain ps anchor start end }

copies-flat : (n : ℕ) (ps : List Pattern) → list_all is_item ps ≡ true → list_all is_item (copies n ps) ≡ true
copies-flat zero ps flat = refl
copies-flat (suc n) ps flat = flat-join (copies n ps) ps (copies-flat n ps flat) flat

copies-unanchored : (n : ℕ) (ps : List Pattern) → anchors ps ≡ 0 → anchors (copies n ps) ≡ 0
copies-unanchored zero ps one = refl
copies-unanchored (suc n) ps one = one-left (copies n ps) ps 0 (copies-unanchored n ps one) one

further-flat : (most : Option ℕ) (least : ℕ) (ps : List Pattern) → list_all is_item (further_up_to most least ps) ≡ true
further-flat None least ps = refl
further-flat (Some most) least ps = copies-flat (most - least) (Optional (as_atom ps) ∷ []) refl

further-unanchored : (most : Option ℕ) (least : ℕ) (ps : List Pattern) → anchors (further_up_to most least ps) ≡ 0
further-unanchored None least ps = refl
further-unanchored (Some most) least ps = copies-unanchored (most - least) (Optional (as_atom ps) ∷ []) refl

times-shape : (n : ℕ) (most : Option ℕ) (once : List Pattern) → HasShape false once → list_any has_start once ≡ false → list_any has_end once ≡ false
    → HasShape false (copies n once ++ further_up_to most n once)
times-shape n most once shape start end = free-shape (copies n once ++ further_up_to most n once)
    (flat-join (copies n once) (further_up_to most n once) (copies-flat n once shape.flat) (further-flat most n once))
    (one-left (copies n once) (further_up_to most n once) 0 (copies-unanchored n once shape.one) (further-unanchored most n once))
    (forms-join (copies n once) (further_up_to most n once) (copies-form n once shape.forms) (further-form most n once shape.forms))
    (times-sign sign.Anchor n most once refl shape.placed.no_anchor) (times-start n most once start) (times-sign sign.End n most once refl end)

-- ---- a literal

first-is : (c d : ℕ) (xs ys : List ℕ) → c ∷ xs ≡ d ∷ ys → c ≡ d
first-is c d xs ys e = cc

rest-is : (c d : ℕ) (xs ys : List ℕ) → c ∷ xs ≡ d ∷ ys → xs ≡ ys
rest-is c d xs ys e = cc

some-left : (label : List ℕ) (i c : ℕ) (rest : List ℕ) → drop i label ≡ c ∷ rest → i < length label
some-left label i c rest e =
    let n : length (drop i label) ≡ length (c ∷ rest) = ap length e in omega (arith, n, length-drop i label)

pub literal-is : (s : Seen) (at : Option Place) (points : List ℕ) (i j : ℕ)
    → ItemsMatch s at (map Point points) i j ↔ (StandThere points s.label i × (j ≡ i + length points))
literal-is s at [] i j = (λ h. ((drop i s.label, refl), omega (arith, h)), λ h. omega (arith, h.1))
literal-is s at (c ∷ points) i j = (
  λ h.
      let rest = (literal-is s at points h.0 j).0 h.2 in
      let here : get_or s.label i 0 ≡ c = eqb-true (get_or s.label i 0) c h.1.0.1 in
      let e : suc i ≡ h.0 = omega (arith, h.1.1) in
      let next : drop (suc i) s.label ≡ points ++ rest.0.0 = ap (λ k. drop k s.label) e ∙ rest.0.1 in
      ((rest.0.0, drop-cons s.label i 0 h.1.0.0 ∙ ap (λ d. d ∷ drop (suc i) s.label) here ∙ ap (λ l. c ∷ l) next), omega (arith, rest.1, h.1.1)),
  λ h.
      let less : i < length s.label = some-left s.label i c (points ++ h.0.0) h.0.1 in
      let both : get_or s.label i 0 ∷ drop (suc i) s.label ≡ c ∷ (points ++ h.0.0) = sym (drop-cons s.label i 0 less) ∙ h.0.1 in
      let here : get_or s.label i 0 ≡ c = first-is _ _ _ _ both in
      let e : i + 1 ≡ suc i = omega arith in
      let next : drop (i + 1) s.label ≡ points ++ h.0.0 = ap (λ k. drop k s.label) e ∙ rest-is _ _ _ _ both in
      (i + 1, ((less, eq-eqb (get_or s.label i 0) c here), refl), (literal-is s at points (i + 1) j).1 ((h.0.0, next), omega (arith, h.1))),
)

points-append : (known : Known) (sets : List (List Span)) (old items : List Pattern) (points : List ℕ)
    → items ≡ old ++ map Point points → Appends known sets sets old items (Literal points)
points-append known sets old items points e = record {
  kept = begins-so sets;
  added = map Point points;
  is = e;
  shape = free-shape (map Point points) (points-flat points) (points-unanchored points) (points-form points)
      (points-none (has_sign sign.Anchor) points (λ c. refl)) (points-none has_start points (λ c. refl)) (points-none has_end points (λ c. refl));
  start = λ h. absurd (let none = points-none has_start points (λ c. refl) in cc);
  end = λ h. absurd (let none = points-none has_end points (λ c. refl) in cc);
  known = points-have points (length sets);
  match_them = λ all label at i j begins of. literal-is (seen all label) at points i j;
}

-- nothing matches a code point before the start
not-never : (s : Seen) (at : Option Place) (i j : ℕ) → ItemsMatch s at (Group never ∷ []) i j → ⊥
not-never s at i j h = let one = (one-item s at (Group never) i j).0 h in omega (arith, one.1.1, one.2.0)

never-shape : HasShape false (Group never ∷ [])
never-shape = free-shape (Group never ∷ []) refl refl (((tt, tt), tt)) refl refl refl

-- what stands in a label of these code points is made of them
points-of-label : (points : List Span) (s : Seen) (at : Option Place) (literal : List ℕ) (i j : ℕ) → IsOf points s.label
    → ItemsMatch s at (map Point literal) i j → list_all (is_in points) literal ≡ true
points-of-label points s at [] i j of h = refl
points-of-label points s at (c ∷ literal) i j of h =
    let here : get_or s.label i 0 ≡ c = eqb-true (get_or s.label i 0) c h.1.0.1 in
    let is : is_in points c ≡ true = ap (is_in points) (sym here) ∙ (of i 0 h.1.0.0).0 in
    ap (λ b. b && list_all (is_in points) literal) is ∙ points-of-label points s at literal h.0 j of h.2

pub literal-appends : (known : Known) (sets : List (List Span)) (old items : List Pattern) (points : List ℕ)
    → items ≡ old ++ literal_items known.points points → Appends known sets sets old items (Literal points)
literal-appends known sets old items points = by-cases (list_all (is_in known.points) points) refl
  where
    by-cases : (b : Bool) → list_all (is_in known.points) points ≡ b → items ≡ old ++ (if b then map Point points else Group never ∷ [])
        → Appends known sets sets old items (Literal points)
    by-cases true all_in e = points-append known sets old items points e
    by-cases false some_out e = record {
      kept = begins-so sets;
      added = Group never ∷ [];
      is = e;
      shape = never-shape;
      start = λ h. absurd (let clash : false ≡ true = h in cc);
      end = λ h. absurd (let clash : false ≡ true = h in cc);
      known = ((tt, tt), tt);
      match_them = λ all label at i j begins of. (
        λ h. absurd (not-never (seen all label) at i j h),
        λ h.
            let s = seen all label in
            let all_in = points-of-label known.points s at points i j of ((literal-is s at points i j).1 h) in
            absurd (let both : true ≡ false = sym all_in ∙ some_out in cc),
      );
    }

-- ---- one item

pub one-appends : (known : Known) (sets : List (List Span)) (old items : List Pattern) (one : Pattern) (q : Part)
    → HasShape false (one ∷ []) → HasItsSets (length sets) one
    → Implies (has_start one) (begins_label (rule_named known) q) → Implies (has_end one) (ends_label (rule_named known) q)
    → ((s : Seen) (at : Option Place) (i j : ℕ) → ItemMatches s at one i j ↔ Matching known q s at i j)
    → items ≡ old ++ one ∷ [] → Appends known sets sets old items q
one-appends known sets old items one q shape its_sets start end match_it e = record {
  kept = begins-so sets;
  added = one ∷ [];
  is = e;
  shape = shape;
  start = λ h. start (sym (or-false (has_start one)) ∙ h);
  end = λ h. end (sym (or-false (has_end one)) ∙ h);
  known = (its_sets, tt);
  match_them = λ all label at i j begins of.
      let s = seen all label in (
        λ h. (match_it s at i j).0 ((one-item s at one i j).0 h),
        λ h. (one-item s at one i j).1 ((match_it s at i j).1 h),
      );
}

any-appends : (known : Known) (sets : List (List Span)) (old items : List Pattern) → items ≡ old ++ pattern.Any ∷ [] → Appends known sets sets old items Any
any-appends known sets old items e =
    one-appends known sets old items pattern.Any Any (free-shape (pattern.Any ∷ []) refl refl (tt, tt) refl refl refl) tt
    (λ h. absurd (let clash : false ≡ true = h in cc)) (λ h. absurd (let clash : false ≡ true = h in cc))
    (λ s at i j. (λ h. (h.0.0, h.1), λ h. ((h.0, refl), h.1))) e

start-appends : (known : Known) (sets : List (List Span)) (old items : List Pattern) → items ≡ old ++ pattern.Start ∷ [] → Appends known sets sets old items Start
start-appends known sets old items e =
    one-appends known sets old items pattern.Start Start
    (record { flat = refl; one = refl; forms = (tt, tt); placed = one-plain pattern.Start refl (λ h. refl) (λ h. h) }) tt (λ h. refl)
    (λ h. absurd (let clash : false ≡ true = h in cc)) (λ s at i j. (λ h. h, λ h. h)) e

end-appends : (known : Known) (sets : List (List Span)) (old items : List Pattern) → items ≡ old ++ pattern.End ∷ [] → Appends known sets sets old items End
end-appends known sets old items e =
    one-appends known sets old items pattern.End End
    (record { flat = refl; one = refl; forms = (tt, tt); placed = one-plain pattern.End refl (λ h. h) (λ h. refl) }) tt
    (λ h. absurd (let clash : false ≡ true = h in cc)) (λ h. refl) (λ s at i j. (λ h. h, λ h. h)) e

-- ---- a class

sets-append : (known : Known) (class : Class) (old_sets sets : List (List Span)) (old items : List Pattern)
    → AddsSets known class old_sets sets old items → Appends known old_sets sets old items (Of class)
sets-append known class old_sets sets old items adds = record {
  kept = (adds.choice.added, adds.choice.kept);
  added = adds.item ∷ [];
  is = adds.is;
  shape = adds.shape;
  start = λ h. absurd (let none = any-one has_start adds.item adds.choice.free.start in cc);
  end = λ h. absurd (let none = any-one has_end adds.item adds.choice.free.end in cc);
  known = (adds.choice.known, tt);
  match_them = λ all label at i j begins of.
      let s = seen all label in
      let one : anchors (adds.item ∷ []) ≡ 0 = adds.shape.one in
      let choice = adds.choice.match_them all label i j begins in
      let same : i < length label → is_in adds.spans (slice_index label i) ≡ has known class (slice_index label i) = λ less.
      let here = of i 0 less in
      adds.members (slice_index label i) here.1
      ∙ ap (λ b. has known class (slice_index label i) && b) here.0
      ∙ and-true (has known class (slice_index label i)) in (
        λ h.
            let item = (one-item s None adds.item i j).0 (items-place s at None (adds.item ∷ []) i j one h) in
            let found = choice.0 ((item-is s adds.item i j).0 item) in
            ((found.0.0, sym (same found.0.0) ∙ found.0.1), found.1),
        λ h.
            let found = choice.1 ((h.0.0, same h.0.0 ∙ h.0.1), h.1) in
            items-place s None at (adds.item ∷ []) i j one ((one-item s None adds.item i j).1 ((item-is s adds.item i j).1 found)),
      );
}

-- none of a class is in labels
never-appends : (known : Known) (class : Class) (sets : List (List Span)) (old items : List Pattern)
    → items ≡ old ++ Group never ∷ [] → ((c : ℕ) → c ≤ 0x10FFFF → is_member known class c ≡ false)
    → Appends known sets sets old items (Of class)
never-appends known class sets old items e none = record {
  kept = begins-so sets;
  added = Group never ∷ [];
  is = e;
  shape = never-shape;
  start = λ h. absurd (let clash : false ≡ true = h in cc);
  end = λ h. absurd (let clash : false ≡ true = h in cc);
  known = ((tt, tt), tt);
  match_them = λ all label at i j begins of. (
    λ h. absurd (not-never (seen all label) at i j h),
    λ h.
        let c = slice_index label i in
        let here = of i 0 h.0.0 in
        let is : is_member known class c ≡ true = ap (λ b. b && is_in known.points c) h.0.1 ∙ here.0 in
        absurd (let both : true ≡ false = sym is ∙ none c here.1 in cc),
  );
}

pub class-appends : (known : Known) (class : Class) (old_sets sets : List (List Span)) (old items : List Pattern)
    → AddsClass known class old_sets sets old items → Appends known old_sets sets old items (Of class)
class-appends known class old_sets sets old items adds = elim adds [
  | inl adds_sets ↦ sets-append known class old_sets sets old items adds_sets
  | inr adds_never ↦
      subst (λ all. Appends known old_sets all old items (Of class)) (sym adds_never.same)
      (never-appends known class old_sets old items adds_never.is adds_never.members)
]

pub class-kept : (known : Known) (class : Class) (old_sets sets : List (List Span)) (old items : List Pattern)
    → AddsClass known class old_sets sets old items → BeginsWith sets old_sets
class-kept known class old_sets sets old items adds = elim adds [
  | inl adds_sets ↦ (adds_sets.choice.added, adds_sets.choice.kept)
  | inr adds_never ↦ subst (λ all. BeginsWith all old_sets) (sym adds_never.same) (begins-so old_sets)
]

-- ---- a rule that is named

no-context : (known : Known) (name : List ℕ) → has_anchor known (OfRule name) ≡ false → name_fault known name ≡ None
    → is_context_rule (rule_named known name) ≡ false
no-context known name = by (is_named known name)
  where
    by : (b : Bool) → (b && is_context_rule (rule_named known name)) ≡ false → (if b then None else Some Undefined) ≡ None
        → is_context_rule (rule_named known name) ≡ false
    by true none e = none
    by false none e = absurd (cc)

-- the value is there where no fault is told
pub told-none : {X P Q : Type 0} (fault : Option RuleFault) (result : Result X RuleError) → (fault ≡ None → P → Q) → IsFaultOf fault result
    → OnOk result P → OnOk result Q
told-none fault (Ok v) f none h = f none h
told-none fault (Err e) f none h = tt

pub rule-appends : (known : Known) (sets : List (List Span)) (old items : List Pattern) (name : List ℕ)
    → HaveSets (length sets) known.rules → HaveBranches known.rules → is_context_rule (rule_named known name) ≡ false
    → items ≡ old ++ Group (rule_named known name) ∷ [] → Appends known sets sets old items (OfRule name)
rule-appends known sets old items name rules have whole e = record {
  kept = begins-so sets;
  added = Group (rule_named known name) ∷ [];
  is = e;
  shape = record { flat = refl; one = refl; forms = (plain.form, tt); placed = one-plain (Group (rule_named known name)) plain.no_anchor plain.start plain.end };
  start = λ h. plain.start (sym (or-false (has_start (rule_named known name))) ∙ h);
  end = λ h. plain.end (sym (or-false (has_end (rule_named known name))) ∙ h);
  known = (rule-has known.rules (number_of known.rule_names name) (length sets) rules, tt);
  match_them = λ all label at i j begins of.
      let s = seen all label in
      let item = one-item s at (Group (rule_named known name)) i j in
      let same = whole-around s at (rule_named known name) i j (named-branches known.rules (number_of known.rule_names name) have) whole in
      (λ h. same.0 (item.0 h), λ h. item.1 (same.1 h));
}
  where
    plain : IsPlainPattern (rule_named known name)
    plain = whole-plain (rule_named known name) (named-branches known.rules (number_of known.rule_names name) have) whole

-- ---- one after the other

-- parts one after the other of which nothing is told: no end of a label in the first, no start in the second
pub parts-apart : (known : Known) (p q : Part) → then_fault known p q ≡ None
    → (ends_label (rule_named known) p ≡ false) × (begins_label (rule_named known) q ≡ false)
parts-apart known p q sound =
    or_parts (ends_label (rule_named known) p) (begins_label (rule_named known) q)
    (by (has_anchor known p && has_anchor known q) (parts_label known p q) (has_anchor known p || has_anchor known q) sound)
  where
    by : (both label one : Bool)
        → (if both then Some NotSupported else if not label then None else if one then Some NotSupported else Some Misplaced) ≡ None → label ≡ false
    by true label one e = absurd (cc)
    by false false one e = refl
    by false true true e = absurd (cc)
    by false true false e = absurd (cc)

-- what is counted, of which nothing is told, has neither
times-apart : (known : Known) (p : Part) → times_fault known p ≡ None
    → (begins_label (rule_named known) p ≡ false) × (ends_label (rule_named known) p ≡ false)
times-apart known p sound =
    or_parts (begins_label (rule_named known) p) (ends_label (rule_named known) p)
    (by (has_anchor known p) (begins_label (rule_named known) p || ends_label (rule_named known) p) sound)
  where
    by : (one label : Bool) → (if one then Some NotSupported else if label then Some Misplaced else None) ≡ None → label ≡ false
    by true label e = absurd (cc)
    by false true e = absurd (cc)
    by false false e = refl

pub then-appends : (known : Known) (p q : Part) (first middle last : List (List Span)) (old between items : List Pattern)
    → then_fault known p q ≡ None → Appends known first middle old between p → Appends known middle last between items q
    → Appends known first last old items (Then p q)
then-appends known p q first middle last old between items sound left right = record {
  kept = begins-too last middle first right.kept left.kept;
  added = left.added ++ right.added;
  is = right.is ∙ ap (λ l. l ++ right.added) left.is ∙ append_assoc old left.added right.added;
  shape = then-shape left.added right.added left.shape right.shape no_end no_start;
  start = λ h. left.start (sym (or-false (list_any has_start left.added)) ∙ ap (λ b. list_any has_start left.added || b) (sym no_start)
      ∙ sym (list_any-append has_start left.added right.added) ∙ h);
  end = λ h. right.end (ap (λ b. b || list_any has_end right.added) (sym no_end) ∙ sym (list_any-append has_end left.added right.added) ∙ h);
  known = have-join left.added right.added (length last)
      (have-more left.added (length middle) (length last) (begins-length last middle right.kept) left.known) right.known;
  match_them = λ all label at i j begins of.
      let lower = begins-too all last middle begins right.kept in (
        λ h.
            let both = items-split (seen all label) at left.added right.added i j h in
            (both.0, (left.match_them all label at i both.0 lower of).0 both.1, (right.match_them all label at both.0 j begins of).0 both.2),
        λ h. items-join (seen all label) at left.added right.added i h.0 j
            ((left.match_them all label at i h.0 lower of).1 h.1) ((right.match_them all label at h.0 j begins of).1 h.2),
      );
}
  where
    apart : (ends_label (rule_named known) p ≡ false) × (begins_label (rule_named known) q ≡ false)
    apart = parts-apart known p q sound

    no_end : list_any has_end left.added ≡ false
    no_end = not-so (list_any has_end left.added) (ends_label (rule_named known) p) left.end apart.0

    no_start : list_any has_start right.added ≡ false
    no_start = not-so (list_any has_start right.added) (begins_label (rule_named known) q) right.start apart.1

-- ---- what has no anchor is about no place

matching-same : (known : Known) (p : Part) (first last all : List (List Span)) (label : List ℕ) (items : List Pattern) (at other : Option Place) (i j : ℕ)
    → Appends known first last [] items p → BeginsWith all last → IsOf known.points label
    → Matching known p (seen all label) at i j → Matching known p (seen all label) other i j
matching-same known p first last all label items at other i j made begins of h =
    (made.match_them all label other i j begins of).0
    (items-place (seen all label) at other made.added i j made.shape.one ((made.match_them all label at i j begins of).1 h))

-- ---- one or the other

pub choice-appends : (known : Known) (p q : Part) (first middle last : List (List Span)) (old items left_items right_items : List Pattern)
    → Appends known first middle [] left_items p → Appends known middle last [] right_items q
    → items ≡ old ++ choice_of left_items right_items ∷ []
    → Appends known first last old items (Choice p q)
choice-appends known p q first middle last old items left_items right_items left right e = record {
  kept = begins-too last middle first right.kept left.kept;
  added = choice_of left_items right_items ∷ [];
  is = e;
  shape = record {
    flat = refl;
    one = refl;
    forms = (choice-form left_items right_items left_shape.forms right_shape.forms, tt);
    placed = choice-plain left_items right_items left_shape.placed right_shape.placed;
  };
  start = λ h. or-implies (list_any has_start left_items) (list_any has_start right_items) (begins_label (rule_named known) p)
      (begins_label (rule_named known) q) (λ k. left.start (ap (list_any has_start) (sym left.is) ∙ k)) (λ k. right.start (ap (list_any has_start) (sym right.is) ∙ k))
      (choice-start left_items right_items h);
  end = λ h. or-implies (list_any has_end left_items) (list_any has_end right_items) (ends_label (rule_named known) p)
      (ends_label (rule_named known) q) (λ k. left.end (ap (list_any has_end) (sym left.is) ∙ k)) (λ k. right.end (ap (list_any has_end) (sym right.is) ∙ k))
      (choice-end left_items right_items h);
  known = choice-has left_items right_items (length last)
      (have-more left_items (length middle) (length last) (begins-length last middle right.kept) (subst (HaveSets (length middle)) (sym left.is) left.known))
      (subst (HaveSets (length last)) (sym right.is) right.known);
  match_them = λ all label at i j begins of.
      let s = seen all label in
      let lower = begins-too all last middle begins right.kept in (
        λ h. elim ((choice-is s at left_items right_items i j).0 h) [
          | inl l ↦ inl (matching-same known p first middle all label left_items None at i j left lower of ((left.match_them all label None i j lower of).0 (subst (λ ps. ItemsMatch s None ps i j) left.is l)))
          | inr r ↦ inr (matching-same known q middle last all label right_items None at i j right begins of ((right.match_them all label None i j begins of).0 (subst (λ ps. ItemsMatch s None ps i j) right.is r)))
        ],
        λ h. (choice-is s at left_items right_items i j).1 (elim h [
          | inl l ↦ inl (subst (λ ps. ItemsMatch s None ps i j) (sym left.is) ((left.match_them all label None i j lower of).1 (matching-same known p first middle all label left_items at None i j left lower of l)))
          | inr r ↦ inr (subst (λ ps. ItemsMatch s None ps i j) (sym right.is) ((right.match_them all label None i j begins of).1 (matching-same known q middle last all label right_items at None i j right begins of r)))
        ]),
      );
}
  where
    left_shape : HasShape false left_items
    left_shape = subst (HasShape false) (sym left.is) left.shape

    right_shape : HasShape false right_items
    right_shape = subst (HasShape false) (sym right.is) right.shape

-- ---- so many times

pub times-appends : (known : Known) (count : Count) (p : Part) (first last : List (List Span)) (old items once : List Pattern)
    → times_fault known p ≡ None → IsUpTo count.least count.most
    → Appends known first last [] once p
    → items ≡ old ++ (copies count.least once ++ further count once)
    → Appends known first last old items (Times count p)
times-appends known count p first last old items once sound fits appends e = record {
  kept = appends.kept;
  added = copies count.least once ++ further count once;
  is = e;
  shape = times-shape count.least count.most once (subst (HasShape false) (sym appends.is) appends.shape) no_start no_end;
  start = λ h. absurd (let none = times-start count.least count.most once no_start in cc);
  end = λ h. absurd (let none = times-sign sign.End count.least count.most once refl no_end in cc);
  known = times-have count.least count.most once (length last) (subst (HaveSets (length last)) (sym appends.is) appends.known);
  match_them = λ all label at i j begins of.
      let s = seen all label in
      let R : ℕ → ℕ → Type 0 = Matching known p s at in
      let forth : (o : Option Place) (k m : ℕ) → ItemsMatch s o once k m → R k m = λ o k m h.
      matching-same known p first last all label once o at k m appends begins of ((appends.match_them all label o k m begins of).0 (subst (λ ps. ItemsMatch s o ps k m) appends.is h)) in
      let back : (o : Option Place) (k m : ℕ) → R k m → ItemsMatch s o once k m = λ o k m h.
      subst (λ ps. ItemsMatch s o ps k m) (sym appends.is) ((appends.match_them all label o k m begins of).1 (matching-same known p first last all label once at o k m appends begins of h)) in (
        λ h.
            let both = items-split s at (copies count.least once) (further count once) i j h in
            let least = repeats-map (ItemsMatch s at once) R (forth at) count.least i both.0 ((copies-are s at once count.least i both.0).0 both.1) in
            let more = (further-are s at once count.least count.most both.0 j fits).0 both.2 in
            let rest = repeats-map (ItemsMatch s None once) R (forth None) more.0 both.0 j more.2 in
            (count.least + more.0, (omega arith, more.1), repeats-join R count.least more.0 i both.0 j least rest),
        λ h.
            let same : h.0 ≡ count.least + (h.0 - count.least) = omega (arith, h.1.0) in
            let whole : Repeats R (count.least + (h.0 - count.least)) i j = subst (λ n. Repeats R n i j) same h.2 in
            let both = repeats-split R count.least (h.0 - count.least) i j whole in
            let allowed : IsUpTo (count.least + (h.0 - count.least)) count.most = subst (λ n. IsUpTo n count.most) same h.1.1 in
            items-join s at (copies count.least once) (further count once) i both.0 j
            ((copies-are s at once count.least i both.0).1 (repeats-map R (ItemsMatch s at once) (back at) count.least i both.0 both.1))
            ((further-are s at once count.least count.most both.0 j fits).1
            (h.0 - count.least, allowed, repeats-map R (ItemsMatch s None once) (back None) (h.0 - count.least) both.0 j both.2)),
      );
}
  where
    apart : (begins_label (rule_named known) p ≡ false) × (ends_label (rule_named known) p ≡ false)
    apart = times-apart known p sound

    no_start : list_any has_start once ≡ false
    no_start = not-so (list_any has_start once) (begins_label (rule_named known) p)
        (λ h. appends.start (ap (list_any has_start) (sym appends.is) ∙ h)) apart.0

    no_end : list_any has_end once ≡ false
    no_end = not-so (list_any has_end once) (ends_label (rule_named known) p) (λ h. appends.end (ap (list_any has_end) (sym appends.is) ∙ h)) apart.1

-- ---- the same of a part that is one of these

pub literal-part : (known : Known) (old_sets sets : List (List Span)) (old items : List Pattern) (points : List ℕ) (p : Part)
    → p ≡ Literal points → sets ≡ old_sets → items ≡ old ++ literal_items known.points points → Appends known old_sets sets old items p
literal-part known old_sets sets old items points p is same e =
    subst (Appends known old_sets sets old items) (sym is)
    (subst (λ all. Appends known old_sets all old items (Literal points)) (sym same) (literal-appends known old_sets old items points e))

pub rule-part : (known : Known) (name : List ℕ) (old_sets sets : List (List Span)) (old items : List Pattern) (p : Part)
    → p ≡ OfRule name → sets ≡ old_sets → HaveSets (length old_sets) known.rules → HaveBranches known.rules → has_anchor known p ≡ false
    → name_fault known name ≡ None → items ≡ old ++ Group (rule_named known name) ∷ [] → Appends known old_sets sets old items p
rule-part known name old_sets sets old items p is same rules have none found e =
    subst (Appends known old_sets sets old items) (sym is)
    (subst (λ all. Appends known old_sets all old items (OfRule name)) (sym same)
    (rule-appends known old_sets old items name rules have
    (no-context known name (subst (λ (q : Part). has_anchor known q ≡ false) is none) found) e))

-- sets that stay, in the place of those that were
same-sets : (known : Known) (old_sets sets : List (List Span)) (old items : List Pattern) (p q : Part) → p ≡ q → sets ≡ old_sets
    → Appends known old_sets old_sets old items q → Appends known old_sets sets old items p
same-sets known old_sets sets old items p q is same appends =
    subst (Appends known old_sets sets old items) (sym is) (subst (λ all. Appends known old_sets all old items q) (sym same) appends)

pub any-part : (known : Known) (old_sets sets : List (List Span)) (old items : List Pattern) (p : Part)
    → p ≡ Any → sets ≡ old_sets → items ≡ old ++ pattern.Any ∷ [] → Appends known old_sets sets old items p
any-part known old_sets sets old items p is same e = same-sets known old_sets sets old items p Any is same (any-appends known old_sets old items e)

pub start-part : (known : Known) (old_sets sets : List (List Span)) (old items : List Pattern) (p : Part)
    → p ≡ Start → sets ≡ old_sets → items ≡ old ++ pattern.Start ∷ [] → Appends known old_sets sets old items p
start-part known old_sets sets old items p is same e = same-sets known old_sets sets old items p Start is same (start-appends known old_sets old items e)

pub end-part : (known : Known) (old_sets sets : List (List Span)) (old items : List Pattern) (p : Part)
    → p ≡ End → sets ≡ old_sets → items ≡ old ++ pattern.End ∷ [] → Appends known old_sets sets old items p
end-part known old_sets sets old items p is same e = same-sets known old_sets sets old items p End is same (end-appends known old_sets old items e)

pub class-part : (known : Known) (class : Class) (old_sets sets : List (List Span)) (old items : List Pattern) (p : Part)
    → p ≡ Of class → AddsClass known class old_sets sets old items → Appends known old_sets sets old items p
class-part known class old_sets sets old items p is adds =
    subst (Appends known old_sets sets old items) (sym is) (class-appends known class old_sets sets old items adds)

pub then-part : (known : Known) (p q r : Part) (first middle last : List (List Span)) (old between items : List Pattern)
    → r ≡ Then p q → then_fault known p q ≡ None → Appends known first middle old between p → Appends known middle last between items q
    → Appends known first last old items r
then-part known p q r first middle last old between items is sound left right =
    subst (Appends known first last old items) (sym is) (then-appends known p q first middle last old between items sound left right)

pub choice-part : (known : Known) (p q r : Part) (first middle last sets : List (List Span)) (old items left_items right_items : List Pattern)
    → r ≡ Choice p q → sets ≡ last
    → Appends known first middle [] left_items p → Appends known middle last [] right_items q
    → items ≡ old ++ choice_of left_items right_items ∷ []
    → Appends known first sets old items r
choice-part known p q r first middle last sets old items left_items right_items is same left right e =
    subst (Appends known first sets old items) (sym is)
    (subst (λ all. Appends known first all old items (Choice p q)) (sym same)
    (choice-appends known p q first middle last old items left_items right_items left right e))

pub times-part : (known : Known) (count : Count) (p r : Part) (first last sets : List (List Span)) (old items once : List Pattern)
    → r ≡ Times count p → sets ≡ last → times_fault known p ≡ None → IsUpTo count.least count.most
    → Appends known first last [] once p
    → items ≡ old ++ (copies count.least once ++ further count once)
    → Appends known first sets old items r
times-part known count p r first last sets old items once is same sound fits appends e =
    subst (Appends known first sets old items) (sym is)
    (subst (λ all. Appends known first all old items (Times count p)) (sym same)
    (times-appends known count p first last old items once sound fits appends e))
