-- Which sets patterns name.
use Rattle.std.proofs.Common.{ℕ, zero, suc, ◌-◌, ◌≤◌, true, false, List, [], ◌∷◌, ◌++◌, length, get_or, map, Option, Some, None, ap, if◌then◌else◌, length-append, arith}
use Rattle.label_patterns.specs.declared.span.Span.{Span}
use Rattle.label_patterns.specs.Matches.{HasItsSets}
use Rattle.label_patterns.specs.Patterns.{Pattern, Point, Set, Any, Start, End, Anchor, Group, Optional, Many, Then, Either}
use Rattle.lgr_text.specs.PartMatches.{BeginsWith}
use Rattle.lgr_text.specs.inner.Items.{as_atom, choice_of, copies, further_up_to, in_sequence, is_atom, ungrouped, HaveSets}

pub begins-length : (all first : List (List Span)) → BeginsWith all first → length first ≤ length all
begins-length all first h = let e = ap length h.1 in omega (arith, e, length-append first h.0)

pub sets-more : (p : Pattern) (n m : ℕ) → n ≤ m → HasItsSets n p → HasItsSets m p
sets-more (Point c) n m le h = h
sets-more (Set k) n m le h = omega (arith, le, h)
sets-more Any n m le h = h
sets-more Start n m le h = h
sets-more End n m le h = h
sets-more Anchor n m le h = h
sets-more (Group p) n m le h = sets-more p n m le h
sets-more (Optional p) n m le h = sets-more p n m le h
sets-more (Many p) n m le h = sets-more p n m le h
sets-more (Then p q) n m le h = (sets-more p n m le h.0, sets-more q n m le h.1)
sets-more (Either p q) n m le h = (sets-more p n m le h.0, sets-more q n m le h.1)

pub have-more : (ps : List Pattern) (n m : ℕ) → n ≤ m → HaveSets n ps → HaveSets m ps
have-more [] n m le h = tt
have-more (p ∷ ps) n m le h = (sets-more p n m le h.0, have-more ps n m le h.1)

pub have-join : (ps qs : List Pattern) (n : ℕ) → HaveSets n ps → HaveSets n qs → HaveSets n (ps ++ qs)
have-join [] qs n h k = k
have-join (p ∷ ps) qs n h k = (h.0, have-join ps qs n h.1 k)

pub points-have : (points : List ℕ) (n : ℕ) → HaveSets n (map Point points)
points-have [] n = tt
points-have (c ∷ points) n = (tt, points-have points n)

pub rule-has : (rules : List Pattern) (k n : ℕ) → HaveSets n rules → HasItsSets n (get_or rules k Anchor)
rule-has [] k n h = tt
rule-has (p ∷ rules) zero n h = h.0
rule-has (p ∷ rules) (suc k) n h = rule-has rules k n h.1

pub sequence-has : (ps : List Pattern) (n : ℕ) → HaveSets n ps → HasItsSets n (in_sequence ps)
sequence-has [] n h = (tt, tt)
sequence-has (p ∷ []) n h = h.0
sequence-has (p ∷ q ∷ ps) n h = (h.0, sequence-has (q ∷ ps) n h.1)

ungrouped-has : (p : Pattern) (n : ℕ) → HasItsSets n p → HasItsSets n (ungrouped p)
ungrouped-has (Group p) n h = h
ungrouped-has p n h = h

pub choice-has : (ps qs : List Pattern) (n : ℕ) → HaveSets n ps → HaveSets n qs → HaveSets n (choice_of ps qs ∷ [])
choice-has ps qs n h k = ((sequence-has ps n h, ungrouped-has (in_sequence qs) n (sequence-has qs n k)), tt)

pub atom-has : (ps : List Pattern) (n : ℕ) → HaveSets n ps → HasItsSets n (as_atom ps)
atom-has [] n h = (tt, tt)
atom-has (p ∷ []) n h = elim (is_atom p) as (λ b. HasItsSets n (if b then p else Group p)) [ true ↦ h.0 | false ↦ h.0 ]
atom-has (p ∷ q ∷ ps) n h = sequence-has (p ∷ q ∷ ps) n h

copies-have : (k : ℕ) (ps : List Pattern) (n : ℕ) → HaveSets n ps → HaveSets n (copies k ps)
copies-have zero ps n h = tt
copies-have (suc k) ps n h = have-join (copies k ps) ps n (copies-have k ps n h) h

further-have : (most : Option ℕ) (least : ℕ) (ps : List Pattern) (n : ℕ) → HaveSets n ps → HaveSets n (further_up_to most least ps)
further-have None least ps n h = (atom-has ps n h, tt)
further-have (Some most) least ps n h = copies-have (most - least) (Optional (as_atom ps) ∷ []) n (atom-has ps n h, tt)

pub times-have : (least : ℕ) (most : Option ℕ) (ps : List Pattern) (n : ℕ) → HaveSets n ps → HaveSets n (copies least ps ++ further_up_to most least ps)
times-have least most ps n h = have-join (copies least ps) (further_up_to most least ps) n (copies-have least ps n h) (further-have most least ps n h)

pub sets-stay : (all first : List (List Span)) (ps : List Pattern) → BeginsWith all first → HaveSets (length first) ps → HaveSets (length all) ps
sets-stay all first ps begins have = have-more ps (length first) (length all) (begins-length all first begins) have
