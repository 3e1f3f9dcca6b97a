-- What is told of a name that is looked up and has a wrong length is the cause and nothing else, and each such name has one.
use Rattle.std.proofs.Common.{◌≡◌, ℕ, ◌-◌, ◌<◌, Bool, true, false, ◌&&◌, ◌↔◌, nat_lt, nat_le, List, [], ◌∷◌, length, take, cond, slice_index, Option, None, Some, Ok, Err, refl, sym, ap, subst, ◌∙◌, arith}
use Rattle.std.specs.Prelude.{IsTrue}
use Rattle.std.specs.List.{AllByRecursion, list_all}
use Rattle.std.proofs.lemmas.Bool.Decides.{nat_tests}
use Rattle.idna.specs.declared.options.Hyphens.TheVariants.{Allow}
use Rattle.idna.specs.declared.options.DnsLength.TheVariants.{Ignore}
use Rattle.idna.specs.Labels.{is_full_stop, labels_of}
use Rattle.idna.specs.Uts46.{to_ascii, has_dns_lengths, verify_dns_length}
use Rattle.idn_text.specs.declared.refusal.Refusal.{Refusal}
use Rattle.idn_text.specs.declared.refusal.Refusal.TheVariants as refusals
use Rattle.idn_label.specs.Lookup.{deny_list, measured_answer, query_name}
use Rattle.idn_cause.specs.declared.query.LengthCause.{LengthCause}
use Rattle.idn_cause.specs.declared.query.LengthCause.TheVariants.{LabelOctets, NameOctets}
use Rattle.idn_cause.specs.NameLabels.{first_failing_label}
use Rattle.idn_cause.specs.NameCauses.{without_root, has_label_length, length_cause_or, length_cause_of, query_cause, IsLengthCause, IsQueryCause}
use Rattle.idn_cause.proofs.LabelLaws.{Found, first_failing_label-is, first_failing_label-none}

above : (n : ℕ) → (nat_lt 253 n ≡ true) ↔ (253 < n)
above n = (λ h. grind (arith, nat_tests), λ h. grind (arith, nat_tests))

length-told : (name : List ℕ) (found : Option Found) (cause : LengthCause) → first_failing_label has_label_length 0 (labels_of name) ≡ found → length_cause_or (length name) found ≡ Some cause → IsLengthCause name cause
length-told name (Some (number, label)) cause is h =
    let same : LabelOctets number (length label) ≡ cause = cc in
    subst (IsLengthCause name) same (label, (first_failing_label-is has_label_length (labels_of name) number label).0 is, refl)
length-told name None cause is h = by_test (nat_lt 253 (length name)) refl h
  where
    by_test : (many : Bool) → nat_lt 253 (length name) ≡ many → cond many (Some (NameOctets (length name))) None ≡ Some cause → IsLengthCause name cause
    by_test true e told =
        let same : NameOctets (length name) ≡ cause = cc in
        subst (IsLengthCause name) same ((first_failing_label-none has_label_length 0 (labels_of name)).0 is, (above (length name)).0 e, refl)
    by_test false e told = let clash : None ≡ Some cause = told in cc

length-from : (name : List ℕ) (cause : LengthCause) → IsLengthCause name cause → length_cause_or (length name) (first_failing_label has_label_length 0 (labels_of name)) ≡ Some cause
length-from name (LabelOctets number octets) is =
    ap (length_cause_or (length name)) ((first_failing_label-is has_label_length (labels_of name) number is.0).1 is.1) ∙ ap (λ n. Some (LabelOctets number n)) (sym is.2)
length-from name (NameOctets octets) is =
    ap (length_cause_or (length name)) ((first_failing_label-none has_label_length 0 (labels_of name)).1 is.0)
    ∙ ap (λ b. cond b (Some (NameOctets (length name))) None) ((above (length name)).1 (subst (λ n. 253 < n) is.2 is.1))
    ∙ ap (λ n. Some (NameOctets n)) (sym is.2)

of_name-told : (ascii : Option (List ℕ)) (cause : LengthCause) → length_cause_of ascii ≡ Some cause → (name : List ℕ) × (ascii ≡ Some name) × IsLengthCause (without_root name) cause
of_name-told None cause h = let clash : None ≡ Some cause = h in cc
of_name-told (Some name) cause h = (name, refl, length-told (without_root name) (first_failing_label has_label_length 0 (labels_of (without_root name))) cause refl h)

pub query_cause-is : (utf8 : List ℕ) (std3 : Bool) (refusal : Refusal) (cause : LengthCause) → (query_cause utf8 std3 refusal ≡ Some cause) ↔ IsQueryCause utf8 std3 refusal cause
unfolding query_cause
query_cause-is utf8 std3 refusals.LookupLength cause = (
  of_name-told (to_ascii (deny_list std3) Allow Ignore utf8) cause,
  λ is. ap length_cause_of is.1 ∙ length-from (without_root is.0) cause is.2,
)
query_cause-is utf8 std3 refusal cause = (λ h. let clash : None ≡ Some cause = h in cc, λ is. absurd is)

-- ---- each wrong length has its cause

all_pass : (labels : List (List ℕ)) → AllByRecursion (λ l. IsTrue (has_label_length l)) labels → list_all has_label_length labels ≡ true
all_pass [] all = refl
all_pass (label ∷ labels) all = rw (all.0, all_pass labels all.1) refl

verified : (ascii : List ℕ) → has_dns_lengths (without_root ascii) ≡ true → verify_dns_length ascii true ≡ true
unfolding verify_dns_length
verified ascii ok = by_stop (is_full_stop (slice_index ascii (length ascii - 1))) ok
  where
    by_stop : (stop : Bool) → has_dns_lengths (cond stop (take (length ascii - 1) ascii) ascii) ≡ true → cond stop (true && has_dns_lengths (take (length ascii - 1) ascii)) (has_dns_lengths ascii) ≡ true
    by_stop true h = h
    by_stop false h = h

no_cause : (name : List ℕ) (found : Option Found) → first_failing_label has_label_length 0 (labels_of name) ≡ found → length_cause_or (length name) found ≡ None → has_dns_lengths name ≡ true
no_cause name (Some (number, label)) is none = let clash : Some (LabelOctets number (length label)) ≡ None = none in cc
no_cause name None is none =
    let few : nat_le (length name) 253 ≡ true = by_test (nat_lt 253 (length name)) refl none in
    rw (few, all_pass (labels_of name) ((first_failing_label-none has_label_length 0 (labels_of name)).0 is)) refl
  where
    by_test : (many : Bool) → nat_lt 253 (length name) ≡ many → cond many (Some (NameOctets (length name))) None ≡ None → nat_le (length name) 253 ≡ true
    by_test true e told = let clash : Some (NameOctets (length name)) ≡ None = told in cc
    by_test false e told = grind (arith, nat_tests)

pub query_fault-has_cause : (utf8 : List ℕ) (std3 : Bool) → query_name utf8 std3 ≡ Err refusals.LookupLength → query_cause utf8 std3 refusals.LookupLength ≡ None → ⊥
unfolding query_name query_cause
query_fault-has_cause utf8 std3 told none = by_ascii (to_ascii (deny_list std3) Allow Ignore utf8) told none
  where
    by_ascii : (ascii : Option (List ℕ)) → measured_answer ascii ≡ Err refusals.LookupLength → length_cause_of ascii ≡ None → ⊥
    by_ascii None t n = let clash : Err refusals.LookupInvalid ≡ Err refusals.LookupLength = t in cc
    by_ascii (Some name) t n =
        let passes = verified name (no_cause (without_root name) (first_failing_label has_label_length 0 (labels_of (without_root name))) refl n) in
        let clash : Ok name ≡ Err refusals.LookupLength = sym (ap (λ b. cond b (Ok name) (Err refusals.LookupLength)) passes) ∙ t in cc
