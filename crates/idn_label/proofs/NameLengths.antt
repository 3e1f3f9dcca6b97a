-- The lengths of a name that is whole labels, each with a full stop after it, and a last label, which may be empty.
use Rattle.std.proofs.Common.{◌≡◌, ◌≢◌, ℕ, ◌+◌, ◌-◌, ◌<◌, ◌&&◌, nat_le, Bool, true, false, List, [], ◌∷◌, ◌++◌, length, take, get_or, All, refl, sym, ap, ◌∙◌, append_assoc, append-nil, length-append, arith, eq-eqb}
use Rattle.std.specs.Int.{is_in_range}
use Rattle.std.specs.List.{list_all}
use Rattle.std.proofs.Math.Bool.{and_comm}
use Rattle.std.proofs.Math.Seq.{get_or-append_seam, take-append_seam}
use Rattle.std.proofs.lemmas.Bool.{false≢true}
use Rattle.std.proofs.lemmas.Bool.Decides.{nat_tests}
use Rattle.std.proofs.lemmas.List.{get_or-append-add}
use Rattle.std.proofs.lemmas.List.Elements.{All-nil, All-cons, All-head, All-tail}
use Rattle.std.proofs.lemmas.List.Folds.{list_all-append}
use Rattle.std.proofs.lemmas.List.Splits.{slice_split_at, slice_split_none}
use Rattle.idna.specs.Labels.{full_stop, is_full_stop, labels_of, join_labels}
use Rattle.idna.specs.Uts46.{has_dns_lengths, verify_dns_length}
use Rattle.idna.proofs.LabelsLemmas.{HasNoFullStop, labels_of-join_labels, terminated, terminated-cons}
use Rattle.idn_label.specs.LdhNames.{may_end}
use Rattle.idn_label.proofs.LookupLemmas.{verify_dns_length-stop, verify_dns_length-no_stop, verify_dns_length-empty}

abbrev pub has_length : List ℕ → Bool
has_length label = is_in_range 1 63 (length label)

pub terminated_then : (label : List ℕ) (labels : List (List ℕ)) (last : List ℕ) → terminated (label ∷ labels) ++ last ≡ label ++ full_stop ∷ (terminated labels ++ last)
terminated_then label labels last = append_assoc (label ++ full_stop ∷ []) (terminated labels) last ∙ append_assoc label (full_stop ∷ []) (terminated labels ++ last)

pub labels_of-terminated : (whole : List (List ℕ)) (last : List ℕ) → All HasNoFullStop whole → HasNoFullStop last → labels_of (terminated whole ++ last) ≡ whole ++ last ∷ []
labels_of-terminated [] last without_stops last_without_stop = slice_split_none is_full_stop last last_without_stop
labels_of-terminated (label ∷ labels) last without_stops last_without_stop =
    ap labels_of (terminated_then label labels last)
    ∙ slice_split_at is_full_stop label full_stop (terminated labels ++ last) (All-head HasNoFullStop label labels without_stops) refl
    ∙ ap (λ x. label ∷ x) (labels_of-terminated labels last (All-tail HasNoFullStop label labels without_stops) last_without_stop)

pub join_terminated : (labels : List (List ℕ)) (last : List ℕ) → join_labels (labels ++ last ∷ []) ≡ terminated labels ++ last
join_terminated [] last = refl
join_terminated (label ∷ []) last = sym (terminated_then label [] last)
join_terminated (label ∷ next ∷ labels) last =
    ap (λ x. label ++ full_stop ∷ x) (join_terminated (next ∷ labels) last) ∙ sym (terminated_then label (next ∷ labels) last)

pub All-parts : {X : Type 0} (P : X → Type 0) (xs : List X) (x : X) → All P (xs ++ x ∷ []) → All P xs × P x
All-parts P [] x h = (All-nil P, All-head P x [] h)
All-parts P (y ∷ xs) x h =
    let after = All-parts P xs x (All-tail P y (xs ++ x ∷ []) h) in
    (All-cons P y xs (All-head P y (xs ++ x ∷ []) h) after.0, after.1)

may_end-stop : (n m : ℕ) → n ≡ m + 1 → may_end n n ≡ nat_le m 253
may_end-stop n m is = grind (arith, nat_tests)

may_end-label : (s n k : ℕ) → n ≡ s + k → 0 < k → may_end s n ≡ (is_in_range 1 63 k && nat_le n 253)
may_end-label s n k is some = grind (arith, nat_tests)

regroup : (n a b : Bool) → (n && (a && (b && true))) ≡ (a && (b && n))
regroup true a true = refl
regroup true a false = refl
regroup false true true = refl
regroup false true false = refl
regroup false false b = refl

-- a name that ends in a label
measured_label : (whole : List (List ℕ)) (last : List ℕ) → All HasNoFullStop whole → HasNoFullStop last → 0 < length last → verify_dns_length (terminated whole ++ last) true ≡ (list_all has_length whole && may_end (length (terminated whole)) (length (terminated whole ++ last)))
measured_label whole last without_stops last_without_stop some =
    let name = terminated whole ++ last in
    let count = length-append (terminated whole) last in
    let at : length name - 1 ≡ length (terminated whole) + (length last - 1) = omega (arith, count) in
    let read : get_or name (length name - 1) 0 ≡ get_or last (length last - 1) 0 = ap (λ n. get_or name n 0) at ∙ get_or-append-add (terminated whole) last (length last - 1) 0 in
    let other : get_or name (length name - 1) 0 ≢ 0x2E = λ stop. false≢true (sym (last_without_stop (length last - 1) 0 (omega (arith, some))) ∙ eq-eqb (get_or last (length last - 1) 0) 0x2E (sym read ∙ stop)) in
    verify_dns_length-no_stop name (length name - 1) refl other
    ∙ ap (λ labels. nat_le (length name) 253 && list_all has_length labels) (labels_of-terminated whole last without_stops last_without_stop)
    ∙ ap (λ b. nat_le (length name) 253 && b) (list_all-append has_length whole (last ∷ []))
    ∙ regroup (nat_le (length name) 253) (list_all has_length whole) (has_length last)
    ∙ ap (λ b. list_all has_length whole && b) (sym (may_end-label (length (terminated whole)) (length name) (length last) count some))

-- a name that ends in a full stop after labels
measured_stop : (label : List ℕ) (labels : List (List ℕ)) (name : List ℕ) → name ≡ terminated (label ∷ labels) → All HasNoFullStop (label ∷ labels) → verify_dns_length name true ≡ (list_all has_length (label ∷ labels) && may_end (length name) (length name))
measured_stop label labels name is without_stops =
    let front = join_labels (label ∷ labels) in
    let whole : name ≡ front ++ full_stop ∷ [] = is ∙ terminated-cons label labels in
    let count : length name ≡ length front + 1 = ap length whole ∙ length-append front (full_stop ∷ []) in
    let at : length front ≡ length name - 1 = omega (arith, count) in
    verify_dns_length-stop name (length front) at (ap (λ x. get_or x (length front) 0) whole ∙ get_or-append_seam front full_stop [] 0)
    ∙ ap has_dns_lengths (ap (take (length front)) whole ∙ take-append_seam front (full_stop ∷ []))
    ∙ ap (λ labels. nat_le (length front) 253 && list_all has_length labels) (labels_of-join_labels label labels without_stops)
    ∙ and_comm (nat_le (length front) 253) (list_all has_length (label ∷ labels))
    ∙ ap (λ b. list_all has_length (label ∷ labels) && b) (sym (may_end-stop (length name) (length front) count))

-- the DNS allows the name where it allows the whole labels, and the name may end in the last one
pub measured : (whole : List (List ℕ)) (last : List ℕ) → All HasNoFullStop whole → HasNoFullStop last → verify_dns_length (terminated whole ++ last) true ≡ (list_all has_length whole && may_end (length (terminated whole)) (length (terminated whole ++ last)))
measured [] [] without_stops last_without_stop = verify_dns_length-empty [] refl
measured (label ∷ labels) [] without_stops last_without_stop =
    let all = terminated (label ∷ labels) in
    measured_stop label labels (all ++ []) (append-nil all) without_stops
    ∙ ap (λ n. list_all has_length (label ∷ labels) && may_end n (length (all ++ []))) (ap length (append-nil all))
measured whole (c ∷ last) without_stops last_without_stop = measured_label whole (c ∷ last) without_stops last_without_stop (omega arith)
