-- The least label that is no less than a text, of a variant graph and of a cursor.
use Rattle.std.proofs.Common.{◌≡◌, inl, inr, ◌↔◌, ℕ, zero, suc, ◌*◌, ◌<◌, ◌≤◌, Bool, false, List, [], ◌∷◌, length, take, min, Option, Some, None, is_some, refl, sym, ap, subst, ◌∙◌, arith, length-take}
use Rattle.std.specs.Bool.{OnTrue, OnFalse}
use Rattle.std.specs.Prelude.{Contains, IfSome, IfNone}
use Rattle.std.proofs.lemmas.Bool.{false_from_ne_true}
use Rattle.std.proofs.lemmas.List.{take_all, take_min, take-take}
use Rattle.variant_list.specs.Labels.{IsBelow}
use Rattle.variant_list.specs.Beginnings.{shares}
use Rattle.variant_list.specs.Positions.{Position}
use Rattle.variant_list.specs.Sharing.{IsShared, IsSharedThrough}
use Rattle.variant_list.specs.Jumps.{IsFrom, IsLeastFrom, HasNoneFrom, IsCandidate, Jumps}
use Rattle.variant_list.specs.inner.Least.{IsNext, HasNoNext}
use Rattle.variant_list.specs.inner.NetPlans.{IsNet, built_of, spelled_of}
use Rattle.variant_list.specs.inner.Plans.{Plan}
use Rattle.variant_list.specs.inner.Holding.{BitRows, Holds}
use Rattle.variant_list.specs.inner.Scans.{Reached, IsRead, IsReadApart}
use Rattle.variant_list.specs.inner.Searches.{IsPlaced}
use Rattle.variant_list.proofs.BeginningLemmas.{shares-within}
use Rattle.variant_list.proofs.CandidateLemmas.{at}
use Rattle.variant_list.proofs.ListingLemmas.{cut-IsBelow}
use Rattle.variant_list.proofs.NetLabels.{Reads-spelled}

-- ---- the least label that is read

pub IsRead-reached : (net : Plan) (label : List ℕ) → Reached net label 0 → IsRead net label
IsRead-reached net label r = record { path = r.path; short = r.short }

pub Reached-read : (net : Plan) (label : List ℕ) → IsRead net label → Reached net label 0
Reached-read net label r = record { path = r.path; rest = ([], refl, omega arith); short = r.short }

pub IsLeastFrom-itself : (P : List ℕ → Type 0) (v : List ℕ) → P v → IsLeastFrom P v v
IsLeastFrom-itself P v p = record { holds = p; «from» = inl refl; least = λ w q up. up }

-- no label has more code points in common with another than that has
unshared : (n : ℕ) (label w : List ℕ) → length label < n → shares n label w ≡ false
unshared n label w long = false_from_ne_true _ (λ h. let within = shares-within n label w h in absurd (omega (arith, within, long)))

-- what a search after a start says of the text: the labels that are no less than the text are those above the start
module _ (net : Plan) (n : ℕ) (start text : List ℕ) (long : length start < n) (above : (w : List ℕ) → IsRead net w → IsFrom text w ↔ IsBelow start w) where
  pub IsLeastFrom-next : (v : List ℕ) → IsNext (IsReadApart net n start) start v → IsLeastFrom (IsRead net) text v
  IsLeastFrom-next v next = record {
    holds = (next.holds).read;
    «from» = (above v (next.holds).read).1 next.above;
    least = λ w p up. next.least w (record { read = p; apart = unshared n start w long }) ((above w p).0 up);
  }

  pub HasNoneFrom-none : HasNoNext (IsReadApart net n start) start → HasNoneFrom (IsRead net) text
  HasNoneFrom-none none w p up = none w (record { read = p; apart = unshared n start w long }) ((above w p).0 up)

-- a text that is no label itself: the labels that are no less are above its first 63 code points
pub above-cut : (net : Plan) (text : List ℕ) → (IsRead net text → ⊥) → (w : List ℕ) → IsRead net w → IsFrom text w ↔ IsBelow (take 63 text) w
above-cut net text unread w p = (
  λ up. elim up [ inl same ↦ absurd (unread (subst (IsRead net) (sym same) p)) | inr above ↦ (cut-IsBelow 63 text w p.short).0 above ],
  λ above. inr ((cut-IsBelow 63 text w p.short).1 above),
)

-- a text of at most 63 code points that does not reach the end is no label
pub unread-short : (net : Plan) (text last : List ℕ) → last ≡ take 63 text → length text ≤ 63 → (Reached net last 0 → ⊥) → IsRead net text → ⊥
unread-short net text last stands short incomplete r = incomplete (subst (λ l. Reached net l 0) (sym (stands ∙ take_all 63 text short)) (Reached-read net text r))

-- ---- the beginning that is kept

-- each row of a beginning of the last label is as it was
pub IsPlaced-kept : (net : Plan) (rows : BitRows) (last : List ℕ) (count : ℕ) → IsPlaced (record { net = net; rows = rows; last = last }) → IsPlaced (record { net = net; rows = rows; last = take count last })
IsPlaced-kept net rows last count placed = record {
  plan = placed.plan;
  wide = placed.wide;
  size = placed.size;
  short = omega (arith, placed.short, length-take count last);
  rows = λ i p l.
      let few : i ≤ count = omega (arith, l, length-take count last) in
      subst (λ x. Holds rows i p ↔ Reached net x p) (sym (take_within i count last few)) (placed.rows i p (omega (arith, l, length-take count last)));
}
  where
    take_within : (i k : ℕ) (xs : List ℕ) → i ≤ k → take i (take k xs) ≡ take i xs
    take_within zero k xs l = refl
    take_within (suc i) zero xs l = absurd (omega arith)
    take_within (suc i) (suc k) [] l = refl
    take_within (suc i) (suc k) (x ∷ xs) l = ap (λ t. x ∷ t) (take_within i k xs (omega arith))

-- the first code points of a text, 63 or all of them
pub take-cut : (m : ℕ) (text last : List ℕ) → m ≡ min 63 (length text) → last ≡ take m text → last ≡ take 63 text
take-cut m text last least stands = stands ∙ ap (λ n. take n text) least ∙ take_min 63 text

-- ---- a jump of a search, which stands after the first 63 code points of the text

module _ (net old : Plan) (n : ℕ) (text last v : List ℕ) (same : net ≡ old) (stands : last ≡ take 63 text) (long : length last < n) (unread : IsRead net text → ⊥) where
  long_start : length (take 63 text) < n
  long_start = subst (λ l. length l < n) stands long

  pub least-next : IsNext (IsReadApart net n last) last v → IsLeastFrom (IsRead old) text v
  least-next next =
      subst (λ p. IsLeastFrom (IsRead p) text v) same
      (IsLeastFrom-next net n (take 63 text) text long_start (above-cut net text unread) v (subst (λ l. IsNext (IsReadApart net n l) l v) stands next))

  pub none-next : HasNoNext (IsReadApart net n last) last → HasNoneFrom (IsRead old) text
  none-next none =
      subst (λ p. HasNoneFrom (IsRead p) text) same
      (HasNoneFrom-none net n (take 63 text) text long_start (above-cut net text unread) (subst (λ l. HasNoNext (IsReadApart net n l) l) stands none))

-- ---- what is shared with the last label

module _ (text before start : List ℕ) (cut : start ≡ take 63 text) where
  -- a text that is a label itself
  pub IsSharedThrough-itself : (n : ℕ) → start ≡ text → IsShared before start n → IsSharedThrough text before start n
  IsSharedThrough-itself n whole shared = record {
    in_first = shared.in_first;
    in_second = shared.in_second;
    first = shared.same ∙ ap (take n) whole;
    second = ap (take n) whole;
    longest = λ m in_a in_b a b. shared.longest m in_a in_b (a ∙ ap (take m) (sym whole));
  }

  -- a label that goes on from the start of the text
  pub IsSharedThrough-next : (v : List ℕ) (n level : ℕ) → length v ≤ 63 → IsShared before start n → IsShared start v level → IsSharedThrough text before v (min n level)
  IsSharedThrough-next v n level fits shared turned =
      let least : ℕ = min n level in
      let short : n ≤ 63 = omega (arith, shared.in_second, ap length cut, length-take 63 text) in
      let in_text : take least start ≡ take least text = ap (take least) cut ∙ take-take least 63 text (omega (arith, short)) in
      record {
        in_first = omega (arith, shared.in_first);
        in_second = omega (arith, turned.in_second);
        first = sym (take-take least n before (omega arith)) ∙ ap (take least) shared.same ∙ take-take least n start (omega arith) ∙ in_text;
        second = sym (take-take least level v (omega arith)) ∙ ap (take least) (sym turned.same) ∙ take-take least level start (omega arith) ∙ in_text;
        longest = λ m in_a in_b a b.
            let whole : take m start ≡ take m text = ap (take m) cut ∙ take-take m 63 text (omega (arith, in_b, fits)) in
            let long : m ≤ length start = omega (arith, ap length (whole ∙ sym b), length-take m start, length-take m v, in_b) in
            let first = shared.longest m in_a long (a ∙ sym whole) in
            let second = turned.longest m long in_b (whole ∙ sym b) in omega (arith, first, second);
      }

-- ---- a jump of a cursor

module _ (P Q : List ℕ → Type 0) (same : (v : List ℕ) → P v ↔ Q v) where
  IsLeastFrom-same : (text v : List ℕ) → IsLeastFrom P text v → IsLeastFrom Q text v
  IsLeastFrom-same text v h = record { holds = (same v).0 h.holds; «from» = h.«from»; least = λ w q up. h.least w ((same w).1 q) up }

  HasNoneFrom-same : (text : List ℕ) → HasNoneFrom P text → HasNoneFrom Q text
  HasNoneFrom-same text h w q up = h w ((same w).1 q) up

pub Jumps-found : (r : Option ℕ) (plan : Plan) (last : List ℕ) (tests : ℕ) (new : Position) (text : List ℕ) → IsNet plan → new.net ≡ built_of plan
    → IfSome r (λ _. IsLeastFrom (IsRead plan) text new.last) → IfNone r (HasNoneFrom (IsRead plan) text) → IfNone r (new.last ≡ take 63 text)
    → new.edge_tests ≤ 189 * length plan.edges → Jumps (at plan last tests) text (is_some r) new
Jumps-found r plan last tests new text net same found none stays looks = record {
  net = same;
  found = of_found r found;
  none = of_none r none;
  stays = where_it_stays r stays;
  edge_tests = omega (arith, looks);
}
  where
    spelled : List (List ℕ)
    spelled = spelled_of plan

    read : (v : List ℕ) → IsRead plan v ↔ IsCandidate (Contains spelled) v
    read v = (
      λ r. record { spelled = (Reads-spelled plan net v).0 r.path; short = r.short },
      λ k. record { path = (Reads-spelled plan net v).1 k.spelled; short = k.short },
    )

    of_found : (r : Option ℕ) → IfSome r (λ _. IsLeastFrom (IsRead plan) text new.last) → OnTrue (is_some r) (IsLeastFrom (IsCandidate (Contains spelled)) text new.last)
    of_found (Some n) h = IsLeastFrom-same (IsRead plan) (IsCandidate (Contains spelled)) read text new.last h
    of_found None h = h

    of_none : (r : Option ℕ) → IfNone r (HasNoneFrom (IsRead plan) text) → OnFalse (is_some r) (HasNoneFrom (IsCandidate (Contains spelled)) text)
    of_none (Some n) h = h
    of_none None h = HasNoneFrom-same (IsRead plan) (IsCandidate (Contains spelled)) read text h

    where_it_stays : (r : Option ℕ) → IfNone r (new.last ≡ take 63 text) → OnFalse (is_some r) (new.last ≡ take 63 text)
    where_it_stays (Some n) h = h
    where_it_stays None h = h

-- how many edges were looked at before plays no part
pub Jumps-again : (old new : Position) (text : List ℕ) (b : Bool) → Jumps (record old { edge_tests = 0 }) text b new → Jumps old text b new
Jumps-again old new text b h = record { net = h.net; found = h.found; none = h.none; stays = h.stays; edge_tests = h.edge_tests }
