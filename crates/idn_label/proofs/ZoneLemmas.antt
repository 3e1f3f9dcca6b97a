-- How a label of a zone is answered, step by step.
use Rattle.std.proofs.Common.{◌≡◌, ℕ, List, Bool, true, false, chars, None, Result, Ok, Err, sym, ap, subst, ◌∙◌, inl, inr, cond}
use Rattle.std.specs.Option.{is_none}
use Rattle.std.specs.Str.{is_utf8}
use Rattle.std.proofs.lemmas.Bool.{cases_Bool, cond-true, cond-false}
use Rattle.std.proofs.lemmas.Str.{is_utf8-from_IsUtf8}
use Rattle.idna.specs.Validity.{is_all_ascii}
use Rattle.idn_text.specs.Points.{utf8_of}
use Rattle.idn_text.specs.declared.refusal.Refusal.{Refusal}
use Rattle.idn_text.specs.declared.refusal.Refusal.TheVariants.{NotUtf8}
use Rattle.idn_text.proofs.Utf8Lemmas.{IsUtf8-from_points, points_from_utf8, ascii_points}
use Rattle.idn_class.specs.declared.properties.Properties.{Properties}
use Rattle.idn_label.specs.Answers.{Answer, and_then}
use Rattle.idn_label.specs.Memory.{RegistersWithoutMemory, StandsWithoutMemory}
use Rattle.idn_label.specs.OldNames.{GivesInZone, ZoneAnswer, stands_for, old_answer, old_fault, unless_refused, zone_answer_by, zone_answer, zone_in_utf8, zone_utf8_answer}
use Rattle.idn_label.specs.Register.{register_answer, register_utf8_answer}
use Rattle.idn_label.specs.Steps.{lowercase}
use Rattle.idn_label.specs.declared.old_names.Standing.{Standing}
use Rattle.idn_label.specs.declared.old_names.Standing.TheVariants.{Registrable, Old}
use Rattle.idn_label.proofs.AnswerLemmas.{register_utf8_answer-ascii}
use Rattle.idn_label.proofs.LdhLemmas.{is_all_ascii-octets, past_ascii-points}
use Rattle.idn_label.proofs.RegisteredBytes.{utf8_of_chars}

pub chars-ascii : (bytes : List ℕ) → is_all_ascii bytes ≡ true → chars bytes ≡ bytes
chars-ascii bytes ascii = points_from_utf8 bytes bytes (ascii_points bytes (is_all_ascii-octets bytes ascii))

-- a line in ASCII that is answered without memory, in small letters
pub stands-lower : (bytes name : List ℕ) → StandsWithoutMemory (chars bytes) → is_all_ascii bytes ≡ true → name ≡ lowercase bytes → is_all_ascii name ≡ true → RegistersWithoutMemory (chars name)
stands-lower bytes name none ascii is named =
    let same = chars-ascii bytes ascii in
    subst RegistersWithoutMemory (ap lowercase same ∙ sym is ∙ sym (chars-ascii name named)) (none.1 (ap is_all_ascii same ∙ ascii))

-- what registered bytes stand for, in UTF-8
abbrev pub registered_stands : Properties → List ℕ → Answer
registered_stands properties bytes = and_then (register_utf8_answer properties bytes) (λ a_label. Ok (utf8_of (stands_for (chars bytes))))

refused_by : (answer : Answer) (written : List ℕ) (refusal : Refusal) → and_then answer (λ a_label. Ok written) ≡ Err refusal → answer ≡ Err refusal
refused_by (Ok a_label) written refusal is = cc
refused_by (Err other) written refusal is = is

module _ (properties : Properties) where
  -- ---- the first test of the bytes, as they stand

  pub zone-registered : (bytes written : List ℕ) → registered_stands properties bytes ≡ Ok written → zone_utf8_answer properties bytes ≡ Ok (written, Registrable)
  unfolding zone_utf8_answer zone_answer register_utf8_answer
  zone-registered bytes written = by_tests (is_utf8 bytes) (register_answer properties (chars bytes))
    where
      by_tests : (utf8 : Bool) (answer : Answer) → and_then (cond utf8 answer (Err NotUtf8)) (λ a_label. Ok (utf8_of (stands_for (chars bytes)))) ≡ Ok written → (let r : ZoneAnswer = cond utf8 (zone_in_utf8 (zone_answer_by properties (chars bytes) answer)) (Err NotUtf8) in r) ≡ Ok (written, Registrable)
      by_tests true (Ok a_label) is =
          let same : utf8_of (stands_for (chars bytes)) ≡ written = cc in ap (λ (w : List ℕ). let r : ZoneAnswer = Ok (w, Registrable) in r) same
      by_tests true (Err refusal) is = cc
      by_tests false answer is = cc

  pub zone-ascii : (bytes : List ℕ) (refusal : Refusal) → registered_stands properties bytes ≡ Err refusal → is_all_ascii bytes ≡ true → zone_utf8_answer properties bytes ≡ zone_in_utf8 (unless_refused (lowercase bytes) (register_answer properties (lowercase bytes)) (old_answer (lowercase bytes) refusal))
  unfolding zone_utf8_answer zone_answer
  zone-ascii bytes refusal is ascii =
      let octets = ascii_points bytes (is_all_ascii-octets bytes ascii) in
      let same : chars bytes ≡ bytes = points_from_utf8 bytes bytes octets in
      let utf8 : is_utf8 bytes ≡ true = is_utf8-from_IsUtf8 bytes (IsUtf8-from_points bytes bytes octets) in
      let refused : register_answer properties bytes ≡ Err refusal = sym (register_utf8_answer-ascii properties bytes (is_all_ascii-octets bytes ascii)) ∙ refused_by (register_utf8_answer properties bytes) (utf8_of (stands_for (chars bytes))) refusal is in
      let lower : ZoneAnswer = unless_refused (lowercase bytes) (register_answer properties (lowercase bytes)) (old_answer (lowercase bytes) refusal) in
      cond-true (is_utf8 bytes) (zone_in_utf8 (zone_answer properties (chars bytes))) (Err NotUtf8) utf8
      ∙ ap (λ (points : List ℕ). zone_in_utf8 (zone_answer properties points)) same
      ∙ ap (λ (answer : Answer). zone_in_utf8 (zone_answer_by properties bytes answer)) refused
      ∙ ap zone_in_utf8 (cond-true (is_all_ascii bytes) lower (Err refusal) ascii)

  pub zone-refused : (bytes : List ℕ) (refusal : Refusal) → registered_stands properties bytes ≡ Err refusal → is_all_ascii bytes ≡ false → zone_utf8_answer properties bytes ≡ Err refusal
  unfolding zone_utf8_answer zone_answer register_utf8_answer
  zone-refused bytes refusal is other = elim (cases_Bool (is_utf8 bytes)) [
    | inl utf8 ↦
        let points : List ℕ = chars bytes in
        let past : is_all_ascii points ≡ false = past_ascii-points bytes points (utf8_of_chars bytes utf8) other in
        let first : register_answer properties points ≡ Err refusal =
        sym (cond-true (is_utf8 bytes) (register_answer properties points) (Err NotUtf8) utf8) ∙ refused_by (register_utf8_answer properties bytes) (utf8_of (stands_for points)) refusal is in
        let lower : ZoneAnswer = unless_refused (lowercase points) (register_answer properties (lowercase points)) (old_answer (lowercase points) refusal) in
        cond-true (is_utf8 bytes) (zone_in_utf8 (zone_answer properties points)) (Err NotUtf8) utf8
        ∙ ap (λ (answer : Answer). zone_in_utf8 (zone_answer_by properties points answer)) first
        ∙ ap zone_in_utf8 (cond-false (is_all_ascii points) lower (Err refusal) past)
    | inr none ↦
        let first : Err NotUtf8 ≡ Err refusal =
        sym (cond-false (is_utf8 bytes) (register_answer properties (chars bytes)) (Err NotUtf8) none) ∙ refused_by (register_utf8_answer properties bytes) (utf8_of (stands_for (chars bytes))) refusal is in
        let same : NotUtf8 ≡ refusal = cc in
        cond-false (is_utf8 bytes) (zone_in_utf8 (zone_answer properties (chars bytes))) (Err NotUtf8) none ∙ ap (λ (r : Refusal). let a : ZoneAnswer = Err r in a) same
  ]

  -- ---- the second, of a name in lower case

  pub named-registered : (name written : List ℕ) (others : ZoneAnswer) → is_all_ascii name ≡ true → registered_stands properties name ≡ Ok written → zone_in_utf8 (unless_refused name (register_answer properties name) others) ≡ Ok (written, Registrable)
  named-registered name written others ascii is =
      let octets = ascii_points name (is_all_ascii-octets name ascii) in
      let same : chars name ≡ name = points_from_utf8 name name octets in
      let own : and_then (register_answer properties name) (λ a_label. Ok (utf8_of (stands_for name))) ≡ Ok written =
      sym (ap (λ (answer : Answer). and_then answer (λ a_label. Ok (utf8_of (stands_for (chars name))))) (register_utf8_answer-ascii properties name (is_all_ascii-octets name ascii))
      ∙ ap (λ (points : List ℕ). and_then (register_answer properties name) (λ a_label. Ok (utf8_of (stands_for points)))) same)
      ∙ is in
      by_answer (register_answer properties name) own
    where
      by_answer : (answer : Answer) → and_then answer (λ a_label. Ok (utf8_of (stands_for name))) ≡ Ok written → zone_in_utf8 (unless_refused name answer others) ≡ Ok (written, Registrable)
      by_answer (Ok a_label) is = let whole : utf8_of (stands_for name) ≡ written = cc in ap (λ (w : List ℕ). let r : ZoneAnswer = Ok (w, Registrable) in r) whole
      by_answer (Err refusal) is = cc

  pub named-refused : (name : List ℕ) (refusal : Refusal) (others : ZoneAnswer) → is_all_ascii name ≡ true → registered_stands properties name ≡ Err refusal → unless_refused name (register_answer properties name) others ≡ others
  named-refused name refusal others ascii is =
      let refused : register_answer properties name ≡ Err refusal = sym (register_utf8_answer-ascii properties name (is_all_ascii-octets name ascii)) ∙ refused_by (register_utf8_answer properties name) (utf8_of (stands_for (chars name))) refusal is in
      ap (λ (answer : Answer). unless_refused name answer others) refused

pub zone-old : (name written : List ℕ) (refusal : Refusal) → old_fault (stands_for name) ≡ None → utf8_of (stands_for name) ≡ written → zone_in_utf8 (old_answer name refusal) ≡ Ok (written, Old)
zone-old name written refusal none is =
    ap zone_in_utf8 (cond-true (is_none (old_fault (stands_for name))) (let r : ZoneAnswer = Ok (stands_for name, Old) in r) (Err refusal) (ap is_none none))
    ∙ ap (λ (w : List ℕ). let r : ZoneAnswer = Ok (w, Old) in r) is

pub zone-neither : (name : List ℕ) (refusal : Refusal) → is_none (old_fault (stands_for name)) ≡ false → zone_in_utf8 (old_answer name refusal) ≡ Err refusal
zone-neither name refusal fault = ap zone_in_utf8 (cond-false (is_none (old_fault (stands_for name))) (let r : ZoneAnswer = Ok (stands_for name, Old) in r) (Err refusal) fault)

pub GivesInZone-same : (view : ℕ → List ℕ) (r : Result (ℕ × Standing) Refusal) (first second : ZoneAnswer) → first ≡ second → GivesInZone view r first → GivesInZone view r second
GivesInZone-same view r first second same given = subst (GivesInZone view r) same given
