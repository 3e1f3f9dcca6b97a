-- The name as a query sends it, by what ToASCII gives.
use Rattle.std.proofs.Common.{cond, subst, ◌≢◌, [], ◌∷◌, get_or, eq-eqb, ne_eqb, ◌≡◌, ◌≤◌, ℕ, ◌-◌, Bool, true, false, List, length, take, slice_index, Option, Some, None, Result, Ok, Err, refl, sym, ap, ◌∙◌, inl, inr, arith}
use Rattle.std.specs.Str.{is_utf8, IsUtf8, IsAscii}
use Rattle.std.proofs.lemmas.Str.{IsUtf8-from_is_utf8, is_utf8-from_IsUtf8}
use Rattle.std.proofs.lemmas.List.{length-take}
use Rattle.std.proofs.lemmas.Option.{none-some}
use Rattle.std.proofs.lemmas.Bool.{cond-true, cond-false, cases_Bool, and_parts, leb-true, false_from_ne_true}
use Rattle.idna.specs.declared.deny_list.AsciiDenyList.{AsciiDenyList}
use Rattle.idna.specs.declared.options.Hyphens.TheVariants.{Allow}
use Rattle.idna.specs.declared.options.DnsLength.TheVariants.{Ignore}
use Rattle.idna.specs.Labels.{is_full_stop}
use Rattle.idna.specs.Uts46.{to_ascii, verify_dns_length, has_dns_lengths}
use Rattle.idna.proofs.Uts46Lemmas.{IsAscii-to_ascii}
use Rattle.idn_text.specs.declared.refusal.Refusal.{Refusal}
use Rattle.idn_label.specs.Answers.{Gives}
use Rattle.idn_text.specs.declared.refusal.Refusal.TheVariants.{NotUtf8, LookupInvalid, LookupLength}
use Rattle.idn_label.specs.Lookup.{deny_list, measured_answer, query_name, utf8_answer, lookup_answer}
use Rattle.idn_text.specs.Points.{AreScalarValues, utf8_of}
use Rattle.idn_text.proofs.Utf8Lemmas.{IsUtf8-from_points}
use Rattle.idn_label.proofs.AnswerLemmas.{Gives-same}

pub query_name-measured : (name : List ℕ) (std3 : Bool) (deny : AsciiDenyList) (ascii : Option (List ℕ)) → deny ≡ deny_list std3 → to_ascii deny Allow Ignore name ≡ ascii → query_name name std3 ≡ measured_answer ascii
unfolding query_name
query_name-measured name std3 deny ascii listed is =
    ap measured_answer (ap (λ d. to_ascii d Allow Ignore name) (sym listed) ∙ is)

short_name : (name : List ℕ) → has_dns_lengths name ≡ true → length name ≤ 253
short_name name within = leb-true (length name) 253 (and_parts _ _ within).0

-- a name that passes has room in 254 octets
pub verified-short : (name : List ℕ) → verify_dns_length name true ≡ true → length name ≤ 254
unfolding verify_dns_length
verified-short name within = by_stop (is_full_stop (slice_index name (length name - 1))) within
  where
    by_stop : (stop : Bool) → cond stop (has_dns_lengths (take (length name - 1) name)) (has_dns_lengths name) ≡ true → length name ≤ 254
    by_stop true within = omega (arith, short_name (take (length name - 1) name) within, length-take (length name - 1) name)
    by_stop false within = omega (arith, short_name name within)

-- ---- bytes

-- what ToASCII gives something of is UTF-8
to_ascii-utf8 : (deny : AsciiDenyList) (bytes query : List ℕ) → to_ascii deny Allow Ignore bytes ≡ Some query → is_utf8 bytes ≡ true
unfolding to_ascii
to_ascii-utf8 deny bytes query is =
    elim (cases_Bool (is_utf8 bytes)) [
      | inl utf8 ↦ utf8
      | inr other ↦ let none : to_ascii deny Allow Ignore bytes ≡ None = rw other refl in absurd (none-some query (sym none ∙ is))
    ]

utf8_answer-name : (bytes : List ℕ) (std3 : Bool) → is_utf8 bytes ≡ true → utf8_answer bytes std3 ≡ query_name bytes std3
unfolding utf8_answer
utf8_answer-name bytes std3 utf8 = cond-true _ _ _ utf8

-- what ToASCII gives something of is measured
pub utf8_answer-measured : (name : List ℕ) (std3 : Bool) (deny : AsciiDenyList) (query : List ℕ) → deny ≡ deny_list std3 → to_ascii deny Allow Ignore name ≡ Some query → utf8_answer name std3 ≡ measured_answer (Some query)
utf8_answer-measured name std3 deny query listed is =
    utf8_answer-name name std3 (to_ascii-utf8 deny name query is) ∙ query_name-measured name std3 deny (Some query) listed is

pub utf8_answer-other : (bytes : List ℕ) (std3 : Bool) → ¬ (IsUtf8 bytes) → utf8_answer bytes std3 ≡ Err NotUtf8
unfolding utf8_answer
utf8_answer-other bytes std3 other = cond-false _ _ _ (false_from_ne_true _ (λ utf8. other (IsUtf8-from_is_utf8 bytes utf8)))

-- what ToASCII gives nothing of is refused
pub utf8_answer-refused : (name : List ℕ) (std3 : Bool) (deny : AsciiDenyList) → deny ≡ deny_list std3 → to_ascii deny Allow Ignore name ≡ None → IsUtf8 name → utf8_answer name std3 ≡ Err LookupInvalid
utf8_answer-refused name std3 deny listed none utf8 = utf8_answer-name name std3 (is_utf8-from_IsUtf8 name utf8) ∙ query_name-measured name std3 deny None listed none

pub utf8_answer-points : (name text : List ℕ) (std3 : Bool) → AreScalarValues name → text ≡ utf8_of name → utf8_answer text std3 ≡ lookup_answer name std3
utf8_answer-points name text std3 scalars same =
    let utf8 = IsUtf8-from_points (utf8_of name) name (record { scalar_values = scalars; encoded = refl }) in
    ap (λ bytes. utf8_answer bytes std3) same ∙ utf8_answer-name (utf8_of name) std3 (is_utf8-from_IsUtf8 (utf8_of name) utf8)

-- ---- the lengths

pub verify_dns_length-stop : (name : List ℕ) (last : ℕ) → last ≡ length name - 1 → get_or name last 0 ≡ 0x2E → verify_dns_length name true ≡ has_dns_lengths (take last name)
unfolding verify_dns_length
verify_dns_length-stop name last is stop =
    cond-true _ _ _ (eq-eqb (slice_index name (length name - 1)) 0x2E (ap (slice_index name) (sym is) ∙ stop)) ∙ ap (λ n. has_dns_lengths (take n name)) (sym is)

pub verify_dns_length-no_stop : (name : List ℕ) (last : ℕ) → last ≡ length name - 1 → get_or name last 0 ≢ 0x2E → verify_dns_length name true ≡ has_dns_lengths name
unfolding verify_dns_length
verify_dns_length-no_stop name last is other =
    cond-false _ _ _ (ne_eqb (slice_index name (length name - 1)) 0x2E (λ stop. other (ap (slice_index name) is ∙ stop)))

pub verify_dns_length-empty : (name : List ℕ) → length name ≡ 0 → verify_dns_length name true ≡ has_dns_lengths name
unfolding verify_dns_length
verify_dns_length-empty [] empty = refl
verify_dns_length-empty (c ∷ name) empty = absurd (omega arith)

-- ---- what is answered is ASCII

measured_answer-ok : (ascii : Option (List ℕ)) (query : List ℕ) → measured_answer ascii ≡ Ok query → ascii ≡ Some query
measured_answer-ok None query is = cc
measured_answer-ok (Some ascii) query is = by_length (verify_dns_length ascii true) is
  where
    by_length : (within : Bool) → cond within (Ok ascii) (Err LookupLength) ≡ Ok query → Some ascii ≡ Some query
    by_length true is = cc
    by_length false is = cc

pub utf8_answer-ascii : (name query : List ℕ) (std3 : Bool) → utf8_answer name std3 ≡ Ok query → IsAscii query
unfolding utf8_answer query_name
utf8_answer-ascii name query std3 is = by_test (is_utf8 name) is
  where
    by_test : (utf8 : Bool) → cond utf8 (measured_answer (to_ascii (deny_list std3) Allow Ignore name)) (Err NotUtf8) ≡ Ok query → IsAscii query
    by_test true is = IsAscii-to_ascii (deny_list std3) Allow Ignore name query (measured_answer-ok _ query is)
    by_test false is = cc

-- the lengths of what ToASCII gives of a name, as the answer
pub Gives-measured : (r : Result (Unit {0}) Refusal) (name query text : List ℕ) (std3 : Bool) → text ≡ query → to_ascii (deny_list std3) Allow Ignore name ≡ Some query → Gives (λ (_ : Unit {0}). text) r (measured_answer (Some text)) → Gives (λ (_ : Unit {0}). query) r (utf8_answer name std3)
Gives-measured r name query text std3 same given measured =
    Gives-same (λ (_ : Unit {0}). query) r (measured_answer (Some query)) (utf8_answer name std3) (sym (utf8_answer-measured name std3 _ query refl given))
    (subst (λ (t : List ℕ). Gives (λ (_ : Unit {0}). t) r (measured_answer (Some t))) same measured)
