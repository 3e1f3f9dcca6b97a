-- The listing of a label's variants, and the labels in it.
use Rattle.std.proofs.Common.{◌≡◌, ◌≤◌, ◌+◌, ◌-◌, ℕ, zero, suc, List, [], ◌∷◌, ◌++◌, ◌&&◌, ◌||◌, cond, Bool, true, false, Option, Some, None, IfSome, All, Contains, map, length, take, drop, refl, sym, ap, ◌∙◌, arith, take-append-drop, length-take}
use Rattle.std.specs.List.{AllByRecursion, filter, slice_get}
use Rattle.std.proofs.lemmas.List.Elements.{All-contains, All-from_recursion, recursion_from_All}
use Rattle.idn_class.specs.declared.properties.Properties.{Properties}
use Rattle.idn_text.specs.Points.{IsScalarValue, AreScalarValues}
use Rattle.variant_list.specs.Labels.{IsBelow}
use Rattle.variant_list.specs.Beginnings.{has_no_dead_prefix, is_new, shortest_hopeless}
use Rattle.variant_list.specs.Tested.{tested_among}
use Rattle.variant_list.specs.Variants.{candidates_among, fits_label, variants_among}
use Rattle.variant_list.specs.Visited.{visited, visited_ahead}
use Rattle.variant_list.specs.Positions.{Built, Position, candidates_ahead, tested_ahead}
use Rattle.variant_list.specs.Jumps.{IsCandidate}
use Rattle.variant_list.specs.Steps.{last_of, moved_over}
use Rattle.variant_list.proofs.ListedLemmas.{variants-IsListed, variants-after}
use Rattle.variant_list.proofs.ListingLemmas.{fits_label-short, variants-cut}
use Rattle.variant_list.proofs.TestedLaws.{accepted-tested, tested-cut}
use Rattle.idn2_options.specs.Settings.{Settings, IsBound, IsCount, IsWithinLimits}
use Rattle.answer_json.specs.declared.block.Disposition.{Disposition}
use Rattle.idn2_answers.specs.Said.{Said, BlockEnd}
use Rattle.idn2_answers.specs.Listings.{Filter, nth, nth_if_given, lesser_label, up_to, variant_by, block_to}
use Rattle.idn2_cli.specs.inner.Dispositions.{block_by}
use Rattle.idn2_cli.specs.inner.Progress.{IsWritable, from_here, from_here_if, block_from, more_to, stop_from, variants_ahead}
use Rattle.idn2_answers.proofs.FilterLemmas.{IsSound, accepted-short}
use Rattle.idn2_cli.proofs.StopSteps.{IsAbove}
use Rattle.variant_table.proofs.MemberLists.{all-members}

-- ---- the block

pub block_from-none : (line : List ℕ → Said) (stop : Option (List ℕ)) (vs : List (List ℕ)) → block_to line stop vs ≡ block_from line 0 stop vs
block_from-none line stop vs = ap (λ (n : ℕ). map line (up_to stop vs) ++ BlockEnd n stop ∷ []) (omega arith)

-- the n-th of the labels to come
nth-here : (last : List ℕ) (vs : List (List ℕ)) (n : ℕ) → 1 ≤ n → nth vs n ≡ from_here last vs n
nth-here last vs zero some = absurd (omega (arith, some))
nth-here last vs (suc n) some = ap (slice_get vs) (let same : suc n - 1 ≡ n = omega arith in same)

nth-here_if : (last : List ℕ) (vs : List (List ℕ)) (n : Option ℕ) → IfSome n IsBound → nth_if_given vs n ≡ from_here_if last vs n
nth-here_if last vs None bound = refl
nth-here_if last vs (Some n) bound = nth-here last vs n (omega (arith, bound.0))

candidates-cut : (labels : List (List ℕ)) (after : List ℕ) → candidates_among labels after ≡ candidates_among labels (take 63 after)
candidates-cut labels after = variants-cut fits_label fits_label-short labels after

-- how many may be listed at most
limit-here : (last : List ℕ) (vs : List (List ℕ)) (limit : Option ℕ) → IfSome limit IsCount → nth_if_given vs limit ≡ from_here_if last vs (more_to limit 0)
limit-here last vs None limits = refl
limit-here last vs (Some n) limits = nth-here last vs n limits.0 ∙ ap (from_here last vs) (let same : n ≡ n - 0 = omega arith in same)

-- where a listing starts, all of its block is still to come
pub block-start : (properties : Properties) (f : Filter) → IsSound properties f → (field : List ℕ → Option Disposition) (o : Settings) (net : Built) → IsWithinLimits o → (p : Position) → p.net ≡ net → p.last ≡ take 63 o.after
    → block_by f field o net.spelled ≡ block_from (variant_by field) 0 (stop_from f p (more_to o.limit 0) o.tries o.steps) (variants_ahead f p)
block-start properties f sound field o net limits p same_net same_last =
    let last : List ℕ = take 63 o.after in
    let line : List ℕ → Said = variant_by field in
    let cs : List (List ℕ) = tested_among f.hopeless net.spelled last in
    let us : List (List ℕ) = visited f.hopeless None (candidates_among net.spelled last) in
    let vs : List (List ℕ) = filter f.accepts cs in
    let variants : variants_among f.accepts net.spelled o.after ≡ vs =
    accepted-tested f.accepts f.hopeless (accepted-short properties f sound) sound.for_good net.spelled o.after ∙ ap (filter f.accepts) (tested-cut f.hopeless net.spelled o.after) in
    let tries : nth (tested_among f.hopeless net.spelled o.after) o.tries ≡ from_here last cs o.tries =
    ap (λ (ds : List (List ℕ)). nth ds o.tries) (tested-cut f.hopeless net.spelled o.after) ∙ nth-here last cs o.tries limits.tries.0 in
    let steps : nth_if_given (visited f.hopeless None (candidates_among net.spelled o.after)) o.steps ≡ from_here_if last us o.steps =
    ap (λ (ds : List (List ℕ)). nth_if_given (visited f.hopeless None ds) o.steps) (candidates-cut net.spelled o.after) ∙ nth-here_if last us o.steps limits.steps in
    ap (λ (ds : List (List ℕ)). block_to line (lesser_label (nth_if_given ds o.limit) (lesser_label (nth (tested_among f.hopeless net.spelled o.after) o.tries) (nth_if_given (visited f.hopeless None (candidates_among net.spelled o.after)) o.steps))) ds) variants
    ∙ ap (λ (t : Option (List ℕ)). block_to line (lesser_label (nth_if_given vs o.limit) (lesser_label t (nth_if_given (visited f.hopeless None (candidates_among net.spelled o.after)) o.steps))) vs) tries
    ∙ ap (λ (s : Option (List ℕ)). block_to line (lesser_label (nth_if_given vs o.limit) (lesser_label (from_here last cs o.tries) s)) vs) steps
    ∙ ap (λ (l : Option (List ℕ)). block_to line (lesser_label l (lesser_label (from_here last cs o.tries) (from_here_if last us o.steps))) vs) (limit-here last vs o.limit limits.limit)
    ∙ block_from-none line (lesser_label (from_here_if last vs (more_to o.limit 0)) (lesser_label (from_here last cs o.tries) (from_here_if last us o.steps))) vs
    ∙ sym (ap (λ (b : Built). at b last) same_net)
    ∙ sym (ap (at p.net) same_last)
  where
    at : Built → List ℕ → List Said
    at b last =
        let q : Position = record { net = b; last = last; edge_tests = p.edge_tests } in
        block_from (variant_by field) 0 (stop_from f q (more_to o.limit 0) o.tries o.steps) (variants_ahead f q)

-- the test of the labels that a listing tests
abbrev fits_alive : Filter → List ℕ → Bool
fits_alive f v = fits_label v && has_no_dead_prefix f.hopeless v

-- ---- labels that a listing comes to can be written, and are above the last one

-- a candidate can be written
pub candidate-writable : (labels : List (List ℕ)) → All AreScalarValues labels → (v : List ℕ) → IsCandidate (Contains labels) v → IsWritable v
candidate-writable labels scalar v is = record { short = is.short; scalar_values = All-contains AreScalarValues labels v scalar is.spelled }

candidates-writable : (labels : List (List ℕ)) → All AreScalarValues labels → (after : List ℕ) → AllByRecursion IsWritable (candidates_among labels after)
candidates-writable labels scalar after = all-members IsWritable (candidates_among labels after) (λ v c.
    let is = ((variants-IsListed fits_label labels after).members v).0 c in
    candidate-writable labels scalar v (record { spelled = is.spelled; short = fits_label-short v is.accepted }))

last_of-writable : (start : List ℕ) (passed : List (List ℕ)) → IsWritable start → AllByRecursion IsWritable passed → IsWritable (last_of start passed)
last_of-writable start [] h all = h
last_of-writable start (v ∷ passed) h all = last_of-writable v passed all.0 all.1

take_all_of : {X : Type 0} (P : X → Type 0) (n : ℕ) (xs : List X) → AllByRecursion P xs → AllByRecursion P (take n xs)
take_all_of P zero xs all = tt
take_all_of P (suc n) [] all = tt
take_all_of P (suc n) (x ∷ xs) all = (all.0, take_all_of P n xs all.1)

-- what holds of all labels holds of those that are visited
visited-all : (f : Filter) (P : List ℕ → Type 0) (before : Option (List ℕ)) (vs : List (List ℕ)) → AllByRecursion P vs → AllByRecursion P (visited f.hopeless before vs)
visited-all f P before [] all = tt
visited-all f P before (v ∷ vs) all = by_test (has_no_dead_prefix f.hopeless v || is_new before v (shortest_hopeless f.hopeless v)) (visited-all f P (Some v) vs all.1)
  where
    by_test : (b : Bool) → AllByRecursion P (visited f.hopeless (Some v) vs) → AllByRecursion P (cond b (v ∷ visited f.hopeless (Some v) vs) (visited f.hopeless (Some v) vs))
    by_test true h = (all.0, h)
    by_test false h = h

-- where a cursor comes to can be written, where it was can
pub visited-writable : (f : Filter) (count : ℕ) (p : Position) → All AreScalarValues p.net.spelled → IsWritable p.last → IsWritable (last_of p.last (take count (visited_ahead f.hopeless p)))
visited-writable f count p scalar writable =
    last_of-writable p.last (take count (visited_ahead f.hopeless p)) writable
    (take_all_of IsWritable count (visited_ahead f.hopeless p) (visited-all f IsWritable None (candidates_ahead p) (candidates-writable p.net.spelled scalar p.last)))

pub ahead-above : (f : Filter) (p : Position) → IsAbove f p
ahead-above f p = record {
  tested = all-members (IsBelow p.last) (tested_ahead f.hopeless p) (λ v c. (((variants-IsListed (fits_alive f) p.net.spelled p.last).members v).0 c).greater);
  visited = visited-all f (IsBelow p.last) None (candidates_ahead p) (all-members (IsBelow p.last) (candidates_ahead p) (λ v c. (((variants-IsListed fits_label p.net.spelled p.last).members v).0 c).greater));
}

-- what is ahead of it then
pub moved-ahead : (f : Filter) (count : ℕ) (p : Position) → tested_ahead f.hopeless (moved_over f.hopeless count p) ≡ drop count (tested_ahead f.hopeless p)
moved-ahead f count p =
    let cs = tested_ahead f.hopeless p in
    variants-after (fits_alive f) p.net.spelled p.last (take count cs) (drop count cs) (sym (take-append-drop count cs))

take_scalar : (n : ℕ) (points : List ℕ) → AreScalarValues points → AreScalarValues (take n points)
take_scalar n points h = All-from_recursion IsScalarValue (take n points) (take_all_of IsScalarValue n points (recursion_from_All IsScalarValue points h))

-- the start of a listing
pub start-writable : (after : List ℕ) → AreScalarValues after → IsWritable (take 63 after)
start-writable after h = record { short = few after 63; scalar_values = take_scalar 63 after h }
  where
    few : (xs : List ℕ) (n : ℕ) → length (take n xs) ≤ n
    few xs n = omega (arith, length-take n xs)
