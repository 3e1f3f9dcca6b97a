-- Branches of a rule, and what stands before or after each.
use Rattle.std.proofs.Common.{◌≡◌, ℕ, ◌≤◌, ◌⊎◌, inl, inr, Bool, true, false, List, [], ◌∷◌, ◌++◌, length, map, Option, None, refl, ap, sym, subst, ◌∙◌, arith}
use Rattle.std.specs.Prelude.{◌↔◌}
use Rattle.std.specs.List.{AllByRecursion, list_all, list_any}
use Rattle.label_patterns.specs.declared.span.Span.{Span}
use Rattle.label_patterns.specs.Laws.{seen}
use Rattle.label_patterns.specs.Matches.{HasItsSets, Seen}
use Rattle.label_patterns.specs.Patterns.{Pattern, Point, Set, Any, Start, End, Anchor, Group, Optional, Many, Then, Either}
use Rattle.label_patterns.specs.Rules.{is_context_rule, Holds, HoldsAs, HoldsInOne}
use Rattle.ruleset_text.specs.Names.{number_of}
use Rattle.lgr_text.specs.Known.{Known}
use Rattle.lgr_text.specs.LabelEnds.{ends_label}
use Rattle.lgr_text.specs.PartMatches.{has_anchor, is_named, rule_named, then_fault, MatchesAround, MatchesAsPart, Matching, Place, SaysRule}
use Rattle.lgr_text.specs.Records as records
use Rattle.lgr_text.specs.Records.{Part, Choice, OfRule}
use Rattle.lgr_text.specs.inner.Branches.{followed, in_choice, joined, preceded, BranchesMatch, HasBranches, HaveBranches, MakesBranches}
use Rattle.lgr_text.specs.inner.Items.{has_end, in_sequence, is_item, Appends, Follows, HasShape, HaveSets, ItemsMatch}
use Rattle.lgr_text.proofs.ItemLemmas.{items-join, items-split, one-item}
use Rattle.lgr_text.proofs.PartLemmas.{parts-apart, shape-after, shape-before, begins-so, begins-too}
use Rattle.lgr_text.proofs.PlaceLemmas.{not-so}
use Rattle.lgr_text.proofs.RowLemmas.{all-branches, anchored-rule, choice-around, choice-is, context-rows, named-branches, no-anchor-rule, rows-have, rows-place, HasRows}
use Rattle.lgr_text.proofs.RuleLemmas.{both-left, both-right, context-row, place}
use Rattle.lgr_text.proofs.SetNumberLemmas.{begins-length, have-join, have-more, rule-has, sequence-has}

abbrev pub MakesRule : Known → Bool → List (List Span) → List (List Span) → Pattern → Part → Type 0
MakesRule known anchored old_sets sets tree p = MakesBranches known.points anchored old_sets sets tree (Matching known p)

-- ---- what is made of the branches of a pattern

-- an item is one branch of one item
record IsAlone (items : List Pattern) (q p : Pattern) : Type 0 where
  joins : joined p q ≡ Either p q
  precedes : preceded items p ≡ in_sequence (items ++ p ∷ [])
  follows : followed items p ≡ in_sequence (p ∷ items)

alone : (items : List Pattern) (q p : Pattern) → is_item p ≡ true → IsAlone items q p
alone items q (Point c) flat = record { joins = refl; precedes = refl; follows = refl }
alone items q (Set n) flat = record { joins = refl; precedes = refl; follows = refl }
alone items q Any flat = record { joins = refl; precedes = refl; follows = refl }
alone items q Start flat = record { joins = refl; precedes = refl; follows = refl }
alone items q End flat = record { joins = refl; precedes = refl; follows = refl }
alone items q Anchor flat = record { joins = refl; precedes = refl; follows = refl }
alone items q (Group p) flat = record { joins = refl; precedes = refl; follows = refl }
alone items q (Optional p) flat = record { joins = refl; precedes = refl; follows = refl }
alone items q (Many p) flat = record { joins = refl; precedes = refl; follows = refl }
alone items q (Then p r) flat = absurd (cc)
alone items q (Either p r) flat = absurd (cc)

row-joins : (row : List Pattern) (q : Pattern) → list_all is_item row ≡ true → joined (in_sequence row) q ≡ Either (in_sequence row) q
row-joins [] q flat = refl
row-joins (p ∷ []) q flat = (alone [] q p (both-left (is_item p) true flat)).joins
row-joins (p ∷ r ∷ row) q flat = refl

joined-rows : (row next : List Pattern) (others more : List (List Pattern)) → AllByRecursion (HasShape true) (row ∷ others)
    → joined (in_choice (map in_sequence (row ∷ others))) (in_choice (map in_sequence (next ∷ more)))
    ≡ in_choice (map in_sequence (row ∷ (others ++ next ∷ more)))
joined-rows row next [] more shapes = row-joins row (in_choice (map in_sequence (next ∷ more))) shapes.0.flat
joined-rows row next (other ∷ others) more shapes = ap (Either (in_sequence row)) (joined-rows other next others more shapes.1)

-- each row as it was made
each-row : (f : Pattern → Pattern) (g : List Pattern → List Pattern) (row : List Pattern) (others : List (List Pattern))
    → ((p q : Pattern) → f (Either p q) ≡ Either (f p) (f q))
    → ((r : List Pattern) → HasShape true r → f (in_sequence r) ≡ in_sequence (g r))
    → AllByRecursion (HasShape true) (row ∷ others)
    → f (in_choice (map in_sequence (row ∷ others))) ≡ in_choice (map in_sequence (map g (row ∷ others)))
each-row f g row [] either one shapes = one row shapes.0
each-row f g row (other ∷ others) either one shapes =
    either (in_sequence row) (in_choice (map in_sequence (other ∷ others)))
    ∙ ap (λ p. Either p (f (in_choice (map in_sequence (other ∷ others))))) (one row shapes.0)
    ∙ ap (Either (in_sequence (g row))) (each-row f g other others either one shapes.1)

sequence-last : (items : List Pattern) (p : Pattern) (ps : List Pattern) → in_sequence (items ++ in_sequence (p ∷ ps) ∷ []) ≡ in_sequence (items ++ p ∷ ps)
sequence-last [] p ps = refl
sequence-last (r ∷ []) p ps = refl
sequence-last (r ∷ s ∷ items) p ps = ap (Then r) (sequence-last (s ∷ items) p ps)

preceded-row : (items row : List Pattern) → HasShape true row → preceded items (in_sequence row) ≡ in_sequence (items ++ row)
preceded-row items [] shape = absurd (let one = shape.one in omega (arith, one))
preceded-row items (p ∷ []) shape = (alone items p p (both-left (is_item p) true shape.flat)).precedes
preceded-row items (p ∷ q ∷ ps) shape = sequence-last items p (q ∷ ps)

followed-items : (items : List Pattern) (p : Pattern) (ps : List Pattern) → list_all is_item (p ∷ ps) ≡ true
    → followed items (in_sequence (p ∷ ps)) ≡ in_sequence ((p ∷ ps) ++ items)
followed-items items p [] flat = (alone items p p (both-left (is_item p) true flat)).follows
followed-items items p (q ∷ ps) flat = ap (Then p) (followed-items items q ps (both-right (is_item p) (list_all is_item (q ∷ ps)) flat))

followed-row : (items row : List Pattern) → HasShape true row → followed items (in_sequence row) ≡ in_sequence (row ++ items)
followed-row items [] shape = absurd (let one = shape.one in omega (arith, one))
followed-row items (p ∷ ps) shape = followed-items items p ps shape.flat

-- ---- lists of rows

all-join : {X : Type 0} (P : X → Type 0) (xs ys : List X) → AllByRecursion P xs → AllByRecursion P ys → AllByRecursion P (xs ++ ys)
all-join P [] ys h k = k
all-join P (x ∷ xs) ys h k = (h.0, all-join P xs ys h.1 k)

all-map : {X Y : Type 0} (P : X → Type 0) (Q : Y → Type 0) (g : X → Y) (xs : List X) → ((x : X) → P x → Q (g x)) → AllByRecursion P xs → AllByRecursion Q (map g xs)
all-map P Q g [] f h = tt
all-map P Q g (x ∷ xs) f h = (f x h.0, all-map P Q g xs f h.1)

sets-last : (rows : List (List Pattern)) (n m : ℕ) → n ≤ m → AllByRecursion (HaveSets n) rows → AllByRecursion (HaveSets m) rows
sets-last [] n m le h = tt
sets-last (row ∷ rows) n m le h = (have-more row n m le h.0, sets-last rows n m le h.1)

matches-left : (s : Seen) (at : Option Place) (some more : List (List Pattern)) (i j : ℕ) → BranchesMatch s at some i j → BranchesMatch s at (some ++ more) i j
matches-left s at [] more i j h = absurd h
matches-left s at (row ∷ some) more i j h = elim h [ inl one ↦ inl one | inr others ↦ inr (matches-left s at some more i j others) ]

matches-right : (s : Seen) (at : Option Place) (some more : List (List Pattern)) (i j : ℕ) → BranchesMatch s at more i j → BranchesMatch s at (some ++ more) i j
matches-right s at [] more i j h = h
matches-right s at (row ∷ some) more i j h = inr (matches-right s at some more i j h)

matches-split : (s : Seen) (at : Option Place) (some more : List (List Pattern)) (i j : ℕ) → BranchesMatch s at (some ++ more) i j
    → BranchesMatch s at some i j ⊎ BranchesMatch s at more i j
matches-split s at [] more i j h = inr h
matches-split s at (row ∷ some) more i j h = elim h [
  | inl one ↦ inl (inl one)
  | inr others ↦ (let both = matches-split s at some more i j others in elim both [ inl l ↦ inl (inr l) | inr r ↦ inr r ])
]

-- the items match first, and then a row
abbrev Precede : Seen → Option Place → List Pattern → List (List Pattern) → ℕ → ℕ → Type 0
Precede s at items rows i j = (k : ℕ) × ItemsMatch s at items i k × BranchesMatch s at rows k j

before-rows : (s : Seen) (at : Option Place) (items : List Pattern) (rows : List (List Pattern)) (i j : ℕ)
    → BranchesMatch s at (map (λ row. items ++ row) rows) i j ↔ Precede s at items rows i j
before-rows s at items [] i j = (λ h. absurd h, λ h. absurd h.2)
before-rows s at items (row ∷ rows) i j =
    let others = before-rows s at items rows i j in (
      λ h. elim h [
        | inl one ↦ (let both = items-split s at items row i j one in (both.0, both.1, inl both.2))
        | inr more ↦ (let both = others.0 more in (both.0, both.1, inr both.2))
      ],
      λ h. elim h.2 [
        | inl one ↦ inl (items-join s at items row i h.0 j h.1 one)
        | inr more ↦ inr (others.1 (h.0, h.1, more))
      ],
    )

abbrev Follow : Seen → Option Place → List Pattern → List (List Pattern) → ℕ → ℕ → Type 0
Follow s at items rows i j = (k : ℕ) × BranchesMatch s at rows i k × ItemsMatch s at items k j

after-rows : (s : Seen) (at : Option Place) (items : List Pattern) (rows : List (List Pattern)) (i j : ℕ)
    → BranchesMatch s at (map (λ row. row ++ items) rows) i j ↔ Follow s at items rows i j
after-rows s at items [] i j = (λ h. absurd h, λ h. absurd h.1)
after-rows s at items (row ∷ rows) i j =
    let others = after-rows s at items rows i j in (
      λ h. elim h [
        | inl one ↦ (let both = items-split s at row items i j one in (both.0, inl both.1, both.2))
        | inr more ↦ (let both = others.0 more in (both.0, inr both.1, both.2))
      ],
      λ h. elim h.1 [
        | inl one ↦ inl (items-join s at row items i h.0 j one h.2)
        | inr more ↦ inr (others.1 (h.0, more, h.2))
      ],
    )

-- ---- the branches of a part

-- without an anchor
pub plain-made : (known : Known) (rule : Part) (first last : List (List Span)) (items : List Pattern) (tree : Pattern)
    → tree ≡ in_sequence items → Appends known first last [] items rule → MakesRule known false first last tree rule
plain-made known rule first last items tree is appends = record {
  kept = appends.kept;
  row = appends.added;
  others = [];
  is = is ∙ ap in_sequence appends.is;
  shapes = (appends.shape, tt);
  known = (appends.known, tt);
  match_them = λ all label at i j begins of.
      let same = appends.match_them all label at i j begins of in (
        λ h. elim h [ inl one ↦ same.0 one | inr none ↦ absurd none ],
        λ h. inl (same.1 h),
      );
}

-- the anchor alone
pub anchor-made : (known : Known) (sets : List (List Span)) → MakesRule known true sets sets Anchor records.Anchor
anchor-made known sets = record {
  kept = begins-so sets;
  row = Anchor ∷ [];
  others = [];
  is = refl;
  shapes = (record { flat = refl; one = refl; forms = (tt, tt); placed = refl }, tt);
  known = ((tt, tt), tt);
  match_them = λ all label at i j begins of.
      let same = one-item (seen all label) at Anchor i j in (
        λ h. elim h [ inl one ↦ same.0 one | inr none ↦ absurd none ],
        λ h. inl (same.1 h),
      );
}

-- of a choice
pub choice-made : (known : Known) (p q : Part) (first middle last : List (List Span)) (left right : Pattern)
    → MakesRule known true first middle left p → MakesRule known true middle last right q
    → MakesRule known true first last (joined left right) (Choice p q)
choice-made known p q first middle last left right lower upper = record {
  kept = begins-too last middle first upper.kept lower.kept;
  row = lower.row;
  others = lower.others ++ upper.row ∷ upper.others;
  is = ap (λ t. joined t right) lower.is ∙ ap (joined (in_choice (map in_sequence (lower.row ∷ lower.others)))) upper.is
      ∙ joined-rows lower.row upper.row lower.others upper.others lower.shapes;
  shapes = all-join (HasShape true) (lower.row ∷ lower.others) (upper.row ∷ upper.others) lower.shapes upper.shapes;
  known = all-join (HaveSets (length last)) (lower.row ∷ lower.others) (upper.row ∷ upper.others)
      (sets-last (lower.row ∷ lower.others) (length middle) (length last) (begins-length last middle upper.kept) lower.known) upper.known;
  match_them = λ all label at i j begins of.
      let some = lower.row ∷ lower.others in
      let more = upper.row ∷ upper.others in
      let below = lower.match_them all label at i j (begins-too all last middle begins upper.kept) of in
      let above = upper.match_them all label at i j begins of in (
        λ h. elim (matches-split (seen all label) at some more i j h) [ inl l ↦ inl (below.0 l) | inr r ↦ inr (above.0 r) ],
        λ h. elim h [
          | inl l ↦ matches-left (seen all label) at some more i j (below.1 l)
          | inr r ↦ matches-right (seen all label) at some more i j (above.1 r)
        ],
      );
}

-- of two parts, the second of which has the anchor
pub preceded-made : (known : Known) (p q : Part) (first middle last : List (List Span)) (items : List Pattern) (tree : Pattern)
    → then_fault known p q ≡ None → Appends known first middle [] items p → MakesRule known true middle last tree q
    → MakesRule known true first last (preceded items tree) (records.Then p q)
preceded-made known p q first middle last items tree sound before inner = record {
  kept = begins-too last middle first inner.kept before.kept;
  row = items ++ inner.row;
  others = map (λ row. items ++ row) inner.others;
  is = ap (preceded items) inner.is
      ∙ each-row (preceded items) (λ row. items ++ row) inner.row inner.others (λ r s. refl) (preceded-row items) inner.shapes;
  shapes = all-map (HasShape true) (HasShape true) (λ row. items ++ row) (inner.row ∷ inner.others)
      (λ row shape. shape-before items row plain shape no_end) inner.shapes;
  known = all-map (HaveSets (length last)) (HaveSets (length last)) (λ row. items ++ row) (inner.row ∷ inner.others)
      (λ row have. have-join items row (length last) have_items have) inner.known;
  match_them = λ all label at i j begins of.
      let s = seen all label in
      let lower = begins-too all last middle begins inner.kept in
      let rows = before-rows s at items (inner.row ∷ inner.others) i j in (
        λ h. (let both = rows.0 h in (
          both.0,
          (before.match_them all label at i both.0 lower of).0 (subst (λ ps. ItemsMatch s at ps i both.0) before.is both.1),
          (inner.match_them all label at both.0 j begins of).0 both.2,
        )),
        λ h. rows.1 (
          h.0,
          subst (λ ps. ItemsMatch s at ps i h.0) (sym before.is) ((before.match_them all label at i h.0 lower of).1 h.1),
          (inner.match_them all label at h.0 j begins of).1 h.2,
        ),
      );
}
  where
    plain : HasShape false items
    plain = subst (HasShape false) (sym before.is) before.shape

    no_end : list_any has_end items ≡ false
    no_end = not-so (list_any has_end items) (ends_label (rule_named known) p) (λ h. before.end (ap (list_any has_end) (sym before.is) ∙ h))
        (parts-apart known p q sound).0

    have_items : HaveSets (length last) items
    have_items = have-more items (length middle) (length last) (begins-length last middle inner.kept)
        (subst (HaveSets (length middle)) (sym before.is) before.known)

-- and the first of which has it, so that the items of the second follow the anchor
pub followed-made : (known : Known) (p q : Part) (first middle last : List (List Span)) (items : List Pattern) (tree : Pattern)
    → MakesRule known true first middle tree p → Follows known middle last [] items q
    → MakesRule known true first last (followed items tree) (records.Then p q)
followed-made known p q first middle last items tree inner after = record {
  kept = begins-too last middle first after.kept inner.kept;
  row = inner.row ++ after.added;
  others = map (λ row. row ++ after.added) inner.others;
  is = ap (λ ps. followed ps tree) after.is ∙ ap (followed after.added) inner.is
      ∙ each-row (followed after.added) (λ row. row ++ after.added) inner.row inner.others (λ r s. refl) (followed-row after.added) inner.shapes;
  shapes = all-map (HasShape true) (HasShape true) (λ row. row ++ after.added) (inner.row ∷ inner.others)
      (λ row shape. shape-after row after.added shape after.flat after.one after.forms after.after) inner.shapes;
  known = all-map (HaveSets (length last)) (HaveSets (length last)) (λ row. row ++ after.added) (inner.row ∷ inner.others)
      (λ row have. have-join row after.added (length last) have after.known)
      (sets-last (inner.row ∷ inner.others) (length middle) (length last) (begins-length last middle after.kept) inner.known);
  match_them = λ all label at i j begins of.
      let s = seen all label in
      let lower = begins-too all last middle begins after.kept in
      let rows = after-rows s at after.added (inner.row ∷ inner.others) i j in (
        λ h. (let both = rows.0 h in (
          both.0,
          (inner.match_them all label at i both.0 lower of).0 both.1,
          (after.match_them all label at both.0 j begins of).0 both.2,
        )),
        λ h. rows.1 (
          h.0,
          (inner.match_them all label at i h.0 lower of).1 h.1,
          (after.match_them all label at h.0 j begins of).1 h.2,
        ),
      );
}

-- of a rule that is named
pub named-made : (known : Known) (name : List ℕ) (sets : List (List Span)) → has_anchor known (OfRule name) ≡ true
    → HaveSets (length sets) known.rules → HaveBranches known.rules → MakesRule known true sets sets (rule_named known name) (OfRule name)
named-made known name sets anchored rules have = record {
  kept = begins-so sets;
  row = found.row;
  others = found.others;
  is = found.is;
  shapes = found.shapes;
  known = rows-have (found.row ∷ found.others) (length sets)
      (subst (HasItsSets (length sets)) found.is (rule-has known.rules (number_of known.rule_names name) (length sets) rules));
  match_them = λ all label at i j begins of.
      let s = seen all label in
      let around = choice-around s at true (found.row ∷ found.others) i j found.shapes in (
        λ h. subst (λ q. MatchesAround s at q i j) (sym found.is) (around.1 h),
        λ h. around.0 (subst (λ q. MatchesAround s at q i j) found.is h),
      );
}
  where
    found : HasRows (rule_named known name)
    found = context-rows (rule_named known name) (named-branches known.rules (number_of known.rule_names name) have)
        (both-right (is_named known name) (is_context_rule (rule_named known name)) anchored)

-- ---- what they match

pub branches-match : (known : Known) (b : Bool) (rule : Part) (first last : List (List Span)) (tree : Pattern) → MakesRule known b first last tree rule
    → MatchesAsPart known last tree rule
branches-match known b rule first last tree made = λ all label at k l begins of.
    let s = seen all label in
    let same = made.match_them all label at k l begins of in
    let around = choice-around s at b (made.row ∷ made.others) k l made.shapes in (
      λ h. same.0 (around.0 (subst (λ p. MatchesAround s at p k l) made.is h)),
      λ h. subst (λ p. MatchesAround s at p k l) (sym made.is) (around.1 (same.1 h)),
    )

pub branches-are : (known : Known) (b : Bool) (rule : Part) (first last : List (List Span)) (tree : Pattern) → MakesRule known b first last tree rule
    → HasBranches tree
branches-are known b rule first last tree made = record { anchored = b; rows = made.row ∷ made.others; is = made.is; shapes = made.shapes }

-- ---- where they hold

-- the part of a label in which the items of some branch match, around this one
abbrev MatchesSome : Seen → Option Place → List (List Pattern) → Type 0
MatchesSome s at rows = (k : ℕ) × (m : ℕ) × (k ≤ length s.label) × BranchesMatch s at rows k m

hold-in-one : (s : Seen) (rows : List (List Pattern)) (i j : ℕ) → AllByRecursion (HasShape true) rows → i ≤ length s.label
    → HoldsInOne s (map in_sequence rows) i j ↔ MatchesSome s (place i j) rows
hold-in-one s [] i j all within = (λ h. absurd h, λ h. absurd h.3)
hold-in-one s (row ∷ rows) i j all within =
    let one = context-row s row i j all.0.one within in
    let others = hold-in-one s rows i j all.1 within in (
      λ h. elim h [
        | inl here ↦ (let found = one.0 here in (found.0, found.1, found.2, inl found.3))
        | inr more ↦ (let found = others.0 more in (found.0, found.1, found.2, inr found.3))
      ],
      λ h. elim h.3 [
        | inl here ↦ inl (one.1 (h.0, h.1, h.2, here))
        | inr more ↦ inr (others.1 (h.0, h.1, h.2, more))
      ],
    )

rows-hold : (s : Seen) (b : Bool) (row : List Pattern) (rows : List (List Pattern)) (i j : ℕ) → AllByRecursion (HasShape b) (row ∷ rows) → i ≤ length s.label
    → Holds s (in_choice (map in_sequence (row ∷ rows))) i j ↔ MatchesSome s (place i j) (row ∷ rows)
rows-hold s true row rows i j all within =
    let p = in_choice (map in_sequence (row ∷ rows)) in
    let is = anchored-rule row rows all in
    let each = all-branches row rows all in
    let same = hold-in-one s (row ∷ rows) i j all within in (
      λ h. same.0 (subst (λ l. HoldsInOne s l i j) each (subst (λ b. HoldsAs b s p i j) is h)),
      λ h. subst (λ b. HoldsAs b s p i j) (sym is) (subst (λ l. HoldsInOne s l i j) (sym each) (same.1 h)),
    )
rows-hold s false row rows i j all within =
    let p = in_choice (map in_sequence (row ∷ rows)) in
    let is = no-anchor-rule (row ∷ rows) all in (
      λ h.
          let found = subst (λ b. HoldsAs b s p i j) is h in
          (found.0, found.1, found.2, rows-place s None (place i j) (row ∷ rows) found.0 found.1 all ((choice-is s (row ∷ rows) found.0 found.1).0 found.3)),
      λ h. subst (λ b. HoldsAs b s p i j) (sym is)
          (h.0, h.1, h.2, (choice-is s (row ∷ rows) h.0 h.1).1 (rows-place s (place i j) None (row ∷ rows) h.0 h.1 all h.3)),
    )

pub branches-say : (known : Known) (b : Bool) (rule : Part) (first last : List (List Span)) (tree : Pattern) → MakesRule known b first last tree rule
    → SaysRule known last tree rule
branches-say known b rule first last tree made = λ all label i j begins of i_within j_within.
    let s = seen all label in
    let holds = rows-hold s b made.row made.others i j made.shapes i_within in (
      λ h.
          let found = holds.0 (subst (λ p. Holds s p i j) made.is h) in
          (found.0, found.1, found.2, (made.match_them all label (place i j) found.0 found.1 begins of).0 found.3),
      λ h. subst (λ p. Holds s p i j) (sym made.is)
          (holds.1 (h.0, h.1, h.2, (made.match_them all label (place i j) h.0 h.1 begins of).1 h.3)),
    )

-- ---- which sets they name

choice-has : (row : List Pattern) (rows : List (List Pattern)) (n : ℕ) → AllByRecursion (HaveSets n) (row ∷ rows) → HasItsSets n (in_choice (map in_sequence (row ∷ rows)))
choice-has row [] n h = sequence-has row n h.0
choice-has row (next ∷ rows) n h = (sequence-has row n h.0, choice-has next rows n h.1)

pub branches-have : (known : Known) (b : Bool) (rule : Part) (first last : List (List Span)) (tree : Pattern) → MakesRule known b first last tree rule
    → HasItsSets (length last) tree
branches-have known b rule first last tree made =
    subst (HasItsSets (length last)) (sym made.is) (choice-has made.row made.others (length last) made.known)

-- the anchor stands in its pattern where it stands in its branches
pub branches-anchored : (known : Known) (b : Bool) (rule : Part) (first last : List (List Span)) (tree : Pattern) → MakesRule known b first last tree rule
    → is_context_rule tree ≡ b
branches-anchored known true rule first last tree made = ap is_context_rule made.is ∙ anchored-rule made.row made.others made.shapes
branches-anchored known false rule first last tree made = ap is_context_rule made.is ∙ no-anchor-rule (made.row ∷ made.others) made.shapes
