-- What turns find is what is registered and near; and one jump decides a pair.
use Rattle.std.proofs.Common.{◌≡◌, ◌≢◌, ◌⊎◌, inl, inr, ◌↔◌, ◌≤◌, ◌<◌, ◌+◌, ◌||◌, cond, ℕ, zero, suc, List, [], ◌∷◌, ◌++◌, length, Bool, true, false, Option, Some, None, refl, sym, ap, subst, ◌∙◌, arith}
use Rattle.std.specs.List.{AllByRecursion, Contains, filter}
use Rattle.std.specs.Ordering.{is_gt}
use Rattle.std.proofs.lemmas.Bool.{false≢true, false_from_ne_true}
use Rattle.std.proofs.lemmas.List.Elements.{All-contains}
use Rattle.variant_table.specs.Entries.{TableValue}
use Rattle.variant_table.proofs.MemberLemmas.{Contains-head, Contains-later, Contains-none, Contains-cases}
use Rattle.valid_labels.specs.Validity.{IsSound}
use Rattle.idn_label.specs.OldNames.{IsInZone}
use Rattle.idn_label.proofs.OldNameLemmas.{in_zone-few, in_zone-some}
use Rattle.variant_list.specs.Closure.{AreNear}
use Rattle.variant_list.specs.Jumps.{IsCandidate, IsFrom}
use Rattle.variant_list.specs.Labels.{IsBelow, IsListOf, label_cmp}
use Rattle.variant_list.proofs.ListedLemmas.{IsListOf-same}
use Rattle.variant_list.proofs.OrderLemmas.{IsListOf-unique, below_both, below_from_Greater, below_itself, below_through, Greater_from_below}
use Rattle.variant_list.proofs.RisingLists.{IsRising-filter, Contains-filter}
use Rattle.variant_list.proofs.VariantLists.{is_gt-Greater}
use Rattle.registered_labels.specs.Registered.{AreRegistered}
use Rattle.answer_json.specs.declared.collision.Regard.{Regard}
use Rattle.answer_json.specs.declared.collision.Regard.TheVariants.{NoVariant, Variant, Blocked, Allocatable}
use Rattle.answer_json.specs.declared.collision.Regards.{Regards}
use Rattle.idn2_options.specs.Settings.{Settings}
use Rattle.idn2_answers.specs.Answers.{IsJump}
use Rattle.idn2_answers.specs.Listings.{is_registrable}
use Rattle.idn2_answers.specs.Collisions.{Collides, IsBarred, IsFound, IsRegard, IsVariantOf, collide, collisions_after, is_either, is_something}
use Rattle.idn2_answers.proofs.CollisionTests.{collide-told, near-of}
use Rattle.idn2_answers.proofs.FoundLabels.{found-exactly}
use Rattle.idn2_laws.specs.TurnLaws.{JumpsFindTheSame, Turns, TurnsFindWhatIsNear, none_near, none_registered, passed, met}
use Rattle.idn2_laws.proofs.ReadBackCounts.{filter_fewer}

-- ---- texts, one from another on

from-through : (a b c : List ℕ) → IsFrom a b → IsFrom b c → IsFrom a c
from-through a b c (inl e) g = subst (λ x. IsFrom x c) (sym e) g
from-through a b c (inr l) (inl e) = inr (subst (IsBelow a) e l)
from-through a b c (inr l) (inr m) = inr (below_through a b c l m)

below-from : (a b c : List ℕ) → IsFrom a b → IsBelow b c → IsBelow a c
below-from a b c (inl e) m = subst (λ x. IsBelow x c) (sym e) m
below-from a b c (inr l) m = below_through a b c l m

from-both : (u v : List ℕ) → IsFrom u v → IsFrom v u → u ≡ v
from-both u v (inl e) g = e
from-both u v (inr b) (inl e) = sym e
from-both u v (inr b) (inr c) = absurd (below_both u v b c)

from-nothing : (v : List ℕ) → IsFrom [] v
from-nothing [] = inl refl
from-nothing (x ∷ v) = inr tt

above-nothing : (v : List ℕ) → v ≢ [] → IsBelow [] v
above-nothing [] some = absurd (some refl)
above-nothing (x ∷ v) some = tt

below-next : (u : List ℕ) → IsBelow u (u ++ 0 ∷ [])
below-next [] = tt
below-next (x ∷ u) = inr (refl, below-next u)

-- what is above a label is no less than the label and a NUL
next-from : (u v : List ℕ) → IsBelow u v → IsFrom (u ++ 0 ∷ []) v
next-from [] [] h = absurd h
next-from [] (zero ∷ []) h = inl refl
next-from [] (zero ∷ (z ∷ v)) h = inr (inr (refl, tt))
next-from [] (suc y ∷ v) h = inr (inl (let more : 0 < suc y = omega arith in more))
next-from (x ∷ u) [] h = absurd h
next-from (x ∷ u) (y ∷ v) (inl less) = inr (inl less)
next-from (x ∷ u) (y ∷ v) (inr same) = elim (next-from u v same.1) [
  | inl e ↦ inl (ap (λ (l : List ℕ). x ∷ l) e ∙ ap (λ (c : ℕ). c ∷ v) same.0)
  | inr below ↦ inr (inr (same.0, below))
]

above-next : (u v : List ℕ) → IsFrom (u ++ 0 ∷ []) v → IsBelow u v
above-next u v (inl e) = subst (IsBelow u) e (below-next u)
above-next u v (inr below) = below_through u (u ++ 0 ∷ []) v (below-next u) below

-- ---- what turns find

all-of : (P : List ℕ → Type 0) (xs : List (List ℕ)) → ((v : List ℕ) → Contains xs v → P v) → AllByRecursion P xs
all-of P [] h = tt
all-of P (x ∷ xs) h = (h x (Contains-head x xs), all-of P xs (λ v m. h v (Contains-later x xs v m)))

module _ (near : List ℕ → Type 0) (registered : List (List ℕ)) where
  abbrev IsThere : List ℕ → List ℕ → Type 0
  IsThere text v = Contains registered v × near v × IsFrom text v

  turned : {text : List ℕ} {found : List (List ℕ)} {jumps : ℕ} → Turns near registered text found jumps → IsListOf (IsThere text) found
  turned (none_near text none) = record { rising = tt; members = λ v. (λ m. absurd (Contains-none v m), λ h. absurd (none v h.1 h.2)) }
  turned (none_registered text least is none) = record { rising = tt; members = λ v. (λ m. absurd (Contains-none v m), λ h. absurd (none v h.0 (is.least v h.1 h.2))) }
  turned (passed text least label found jumps is first other rest) =
      IsListOf-same (IsThere label) (IsThere text) found (λ v. (
        λ h. (h.0, h.1, from-through text label v (from-through text least label is.«from» first.«from») h.2),
        λ h. (h.0, h.1, first.least v h.0 (is.least v h.1 h.2)),
      )) (turned rest)
  turned (met text least found jumps is at rest) =
      let h = turned rest in
      record {
        rising = (all-of (IsBelow least) found (λ v m. above-next least v ((h.members v).0 m).2), h.rising);
        members = λ v. (
          λ m. elim (Contains-cases least found v m) [
            | inl same ↦ subst (IsThere text) same (at, is.holds, is.«from»)
            | inr later ↦ let i = (h.members v).0 later in (i.0, i.1, inr (below-from text least v is.«from» (above-next least v i.2)))
          ],
          λ i. elim (is.least v i.1 i.2) [
            | inl same ↦ subst (Contains (least ∷ found)) same (Contains-head least found)
            | inr below ↦ Contains-later least found v ((h.members v).1 (i.0, i.1, next-from least v below))
          ],
        );
      }

  found-near : (found : List (List ℕ)) (jumps : ℕ) → Turns near registered [] found jumps → IsListOf (λ v. Contains registered v × near v) found
  found-near found jumps turns =
      IsListOf-same (IsThere []) (λ v. Contains registered v × near v) found (λ v. (λ h. (h.0, h.1), λ h. (h.0, h.1, from-nothing v))) (turned turns)

  -- ---- how many jumps

  above : List ℕ → List ℕ → Bool
  above text v = is_gt (label_cmp v text)

  above-is : (text v : List ℕ) → IsBelow text v → above text v ≡ true
  unfolding above
  above-is text v below = ap is_gt (Greater_from_below v text below)

  is-above : (text v : List ℕ) → above text v ≡ true → IsBelow text v
  unfolding above
  is-above text v told = below_from_Greater v text (is_gt-Greater (label_cmp v text) told)

  -- fewer labels are above one of them than above a text below it
  fewer : (p q : List ℕ → Bool) → ((v : List ℕ) → p v ≡ true → q v ≡ true) → (vs : List (List ℕ)) (label : List ℕ) → Contains vs label → p label ≡ false → q label ≡ true
      → length (filter p vs) + 1 ≤ length (filter q vs)
  fewer p q all [] label m other is = absurd (Contains-none label m)
  fewer p q all (v ∷ vs) label m other is = elim (Contains-cases v vs label m) [
    | inl same ↦ here (p v) (q v) (ap p same ∙ other) (ap q same ∙ is) (filter_fewer p q all vs)
    | inr later ↦ by_tests (p v) (q v) (all v) (fewer p q all vs label later other is)
  ]
    where
      here : (a b : Bool) → a ≡ false → b ≡ true → length (filter p vs) ≤ length (filter q vs)
          → length (cond a (v ∷ filter p vs) (filter p vs)) + 1 ≤ length (cond b (v ∷ filter q vs) (filter q vs))
      here true b e f k = absurd (false≢true (sym e))
      here false true e f k = omega (arith, k)
      here false false e f k = absurd (false≢true f)

      by_tests : (a b : Bool) → (a ≡ true → b ≡ true) → length (filter p vs) + 1 ≤ length (filter q vs)
          → length (cond a (v ∷ filter p vs) (filter p vs)) + 1 ≤ length (cond b (v ∷ filter q vs) (filter q vs))
      by_tests true true h k = omega (arith, k)
      by_tests true false h k = absurd (false≢true (h refl))
      by_tests false true h k = omega (arith, k)
      by_tests false false h k = k

  counted : {text : List ℕ} {found : List (List ℕ)} {jumps : ℕ} → Turns near registered text found jumps → jumps ≤ length (filter (above text) registered) + length found + 1
  counted (none_near text none) = omega arith
  counted (none_registered text least is none) = omega arith
  counted (passed text least label found jumps is first other rest) =
      let below : IsBelow least label = strictly least label other first.«from» in
      let higher : IsBelow text label = below-from text least label is.«from» below in
      let less = fewer (above label) (above text) (λ v told. above-is text v (below_through text label v higher (is-above label v told))) registered label first.holds
      (false_from_ne_true (above label label) (λ told. below_itself label (is-above label label told))) (above-is text label higher) in
      omega (arith, less, counted rest)
    where
      strictly : (u v : List ℕ) → v ≢ u → IsFrom u v → IsBelow u v
      strictly u v other (inl e) = absurd (other (sym e))
      strictly u v other (inr b) = b
  counted (met text least found jumps is at rest) =
      let next = below-from text least (least ++ 0 ∷ []) is.«from» (below-next least) in
      let most = filter_fewer (above (least ++ 0 ∷ [])) (above text) (λ v told. above-is text v (below_through text (least ++ 0 ∷ []) v next (is-above (least ++ 0 ∷ []) v told))) registered in
      omega (arith, most, counted rest)

  jumps-few : (found : List (List ℕ)) (jumps : ℕ) → Turns near registered [] found jumps → jumps ≤ length registered + length found + 1
  jumps-few found jumps turns = omega (arith, counted turns, all-few registered)
    where
      all-few : (vs : List (List ℕ)) → length (filter (above []) vs) ≤ length vs
      all-few [] = omega arith
      all-few (v ∷ vs) = by_test (above [] v) (all-few vs)
        where
          by_test : (b : Bool) → length (filter (above []) vs) ≤ length vs → length (cond b (v ∷ filter (above []) vs) (filter (above []) vs)) ≤ suc (length vs)
          by_test true h = omega (arith, h)
          by_test false h = omega (arith, h)

pub turns-find : TurnsFindWhatIsNear
turns-find = record {
  exactly = λ table label. found-near (IsCandidate (AreNear table label));
  few = λ table label. jumps-few (IsCandidate (AreNear table label));
}

-- ---- what collides among it

module _ (o : Settings) (table : TableValue) (registered : List (List ℕ)) (label : List ℕ) where
  found-block : (found : List (List ℕ)) (jumps : ℕ) → IsSound table → AreRegistered o.properties registered → o.after ≡ [] → o.others ≡ false
      → Turns (IsCandidate (AreNear table label)) registered [] found jumps → filter (collide (is_registrable o.properties) table label) found ≡ collisions_after o table registered label
  found-block found jumps sound are whole itself turns =
      let test : List ℕ → Bool = collide (is_registrable o.properties) table label in
      let l = found-near (IsCandidate (AreNear table label)) registered found jumps turns in
      let zone : (v : List ℕ) → Contains registered v → IsInZone o.properties v = λ v at. All-contains (IsInZone o.properties) registered v are.each at in
      IsListOf-unique (IsFound o table registered label) (filter test found) (collisions_after o table registered label)
      (record {
        rising = IsRising-filter test found l.rising;
        members = λ v.
            let member = Contains-filter test found v in
            let told = collide-told o table sound label v in (
              λ m. (
                  let p = member.0 m in
                  let i = (l.members v).0 p.1 in
                  record {
                    registered = i.0;
                    greater = subst (λ (t : List ℕ). IsBelow t v) (sym whole) (above-nothing v (in_zone-some o.properties v (zone v i.0)));
                    collides = told.0 p.0;
                    other = λ is. absurd (false≢true (sym itself ∙ is));
                  }),
              λ f. member.1 (told.1 f.collides, (l.members v).1 (f.registered, record { spelled = near-of o table label v f.collides; short = in_zone-few o.properties v (zone v f.registered) })),
            );
      }) (found-exactly o table label sound registered are.rising)

-- ---- a pair

or-back : (a b : Bool) → (a || b) ≡ true → (a ≡ true) ⊎ (b ≡ true)
or-back true b told = inl refl
or-back false b told = inr told

or-left : (a b : Bool) → a ≡ true → (a || b) ≡ true
or-left true b is = refl
or-left false b is = absurd (false≢true is)

or-right : (a b : Bool) → b ≡ true → (a || b) ≡ true
or-right true b is = refl
or-right false b is = is

module _ (o : Settings) (table : TableValue) where
  something-of : (v w : List ℕ) (regard : Regard) → IsRegard o table v w regard → (IsVariantOf o table v w ⊎ IsBarred o table v w) ↔ (is_something regard ≡ true)
  something-of v w NoVariant h = (λ either. absurd (elim either [ inl is ↦ h.0 is | inr barred ↦ h.1 barred ]), λ told. absurd (false≢true told))
  something-of v w Variant h = (λ _. refl, λ _. elim h [ inl is ↦ inl is.0 | inr barred ↦ inr barred.0 ])
  something-of v w Blocked h = (λ _. refl, λ _. elim h [ inl is ↦ inl is.0 | inr barred ↦ inr barred.0 ])
  something-of v w Allocatable h = (λ _. refl, λ _. elim h [ inl is ↦ inl is.0 | inr barred ↦ inr barred.0 ])

  collide-either : (v w : List ℕ) (r : Regards) → IsRegard o table v w r.there → IsRegard o table w v r.back → Collides o table v w ↔ (is_either r ≡ true)
  collide-either v w r there back =
      let first = something-of v w r.there there in
      let second = something-of w v r.back back in (
        λ c. elim c [ inl is ↦ or-left (is_something r.there) (is_something r.back) (first.0 is) | inr is ↦ or-right (is_something r.there) (is_something r.back) (second.0 is) ],
        λ told. elim (or-back (is_something r.there) (is_something r.back) told) [ inl is ↦ inl (first.1 is) | inr is ↦ inr (second.1 is) ],
      )

  pair-told : (label v : List ℕ) (answer : Option (List ℕ × Regards)) → length v ≤ 63 → IsJump o table label v answer
      → Collides o table label v ↔ ((regards : Regards) × (answer ≡ Some (v, regards)) × (is_either regards ≡ true))
  pair-told label v answer short jump = (there answer jump, λ told. back told.0 (subst (IsJump o table label v) told.1 jump) told.2)
    where
      there : (answer : Option (List ℕ × Regards)) → IsJump o table label v answer → Collides o table label v → (regards : Regards) × (answer ≡ Some (v, regards)) × (is_either regards ≡ true)
      there None none c = absurd (none v (record { spelled = near-of o table label v c; short = short }) (inl refl))
      there (Some found) is c =
          let same : found.0 ≡ v = from-both found.0 v (is.0.least v (record { spelled = near-of o table label v c; short = short }) (inl refl)) is.0.«from» in (
            found.1,
            ap (λ (w : List ℕ). let some : Option (List ℕ × Regards) = Some (w, found.1) in some) same,
            (collide-either label v found.1 (subst (λ (w : List ℕ). IsRegard o table label w found.1.there) same is.1) (subst (λ (w : List ℕ). IsRegard o table w label found.1.back) same is.2)).0 c,
          )

      back : (regards : Regards) → IsJump o table label v (Some (v, regards)) → is_either regards ≡ true → Collides o table label v
      back regards is told = (collide-either label v regards is.1 is.2).1 told

pub jumps-find : JumpsFindTheSame
jumps-find = record { block = λ o table registered label. found-block o table registered label; pair = λ o table. pair-told o table }
