-- What of bytes that are registered, as a label or an A-label: they are UTF-8, and their code points are registered.
use Rattle.std.proofs.Common.{◌≡◌, ℕ, ◌≤◌, List, ◌++◌, Bool, true, false, chars, codes, drop, length, Option, Some, None, Ok, Err, refl, sym, ap, subst, ◌∙◌, inl, inr, arith, cond}
use Rattle.std.specs.Result.{IsOk}
use Rattle.std.specs.Str.{IsAscii, IsUtf8, is_utf8}
use Rattle.idn_class.specs.declared.properties.Properties.{Properties}
use Rattle.idna.specs.Validity.{has_ace_prefix}
use Rattle.idn_text.specs.Points.{IsUtf8Of, utf8_of}
use Rattle.idn_text.specs.declared.refusal.Refusal.{Refusal}
use Rattle.idn_text.specs.declared.refusal.Refusal.TheVariants.{NotUtf8}
use Rattle.idn_text.proofs.Utf8Lemmas.{IsUtf8-from_points, points_from_utf8, length-utf8_of-le}
use Rattle.std.proofs.lemmas.Str.{IsUtf8-from_ascii, chars-IsAscii, chars-append, encodes-IsAscii, encodes-append, encodes-chars, is_utf8-from_IsUtf8}
use Rattle.std.proofs.lemmas.Bool.{both_ways, cases_Bool}
use Rattle.idna.proofs.Uts46Lemmas.{ace_parts}
use Rattle.idn_label.specs.Answers.{Answer, unless_fault}
use Rattle.idn_label.specs.ALabel.{a_label_of}
use Rattle.idn_label.specs.FirstFault.{first_fault, IsRegistrable}
use Rattle.idn_label.specs.Register.{register_answer, register_utf8_answer, tested_answer}
use Rattle.idn_label.proofs.AnswerLemmas.{register_answer-other, spelled_by}
use Rattle.idn_label.proofs.LdhLemmas.{is_all_ascii-octets}
use Rattle.idn_label.proofs.RequirementLemmas.{MeetsRequirements-registrable}

-- bytes that are UTF-8 are that of their code points
pub utf8_of_chars : (bytes : List ℕ) → is_utf8 bytes ≡ true → IsUtf8Of bytes (chars bytes)
utf8_of_chars bytes utf8 =
    let is = spelled_by bytes utf8 in
    subst (IsUtf8Of bytes) (sym (points_from_utf8 bytes is.0 is.1)) is.1

module _ (properties : Properties) where
  -- a label that has an answer is registered
  pub is_registered : (bytes a_label : List ℕ) → register_utf8_answer properties bytes ≡ Ok a_label → IsOk (register_utf8_answer properties bytes)
  is_registered bytes a_label e = rw e refl

  -- what is registered is UTF-8
  pub registered-utf8 : (bytes : List ℕ) → IsOk (register_utf8_answer properties bytes) → IsUtf8Of bytes (chars bytes)
  unfolding register_utf8_answer
  registered-utf8 bytes ok = elim (cases_Bool (is_utf8 bytes)) [
    | inl utf8 ↦ utf8_of_chars bytes utf8
    | inr other ↦ absurd (refused (ap (λ (b : Bool). let r : Answer = cond b (register_answer properties (chars bytes)) (Err NotUtf8) in r) other) ok)
  ]
    where
      refused : {r : Answer} → r ≡ Err NotUtf8 → IsOk r → ⊥
      refused {r} e ok = let clash : IsOk (let a : Answer = Err NotUtf8 in a) = subst IsOk e ok in cc

  -- and so are its code points
  pub registered-points : (bytes points : List ℕ) → IsUtf8Of bytes points → IsOk (register_utf8_answer properties bytes) → IsOk (register_answer properties points)
  unfolding register_utf8_answer
  registered-points bytes points is ok =
      let utf8 = is_utf8-from_IsUtf8 bytes (IsUtf8-from_points bytes points is) in
      subst IsOk (ap (λ (b : Bool). let r : Answer = cond b (register_answer properties (chars bytes)) (Err NotUtf8) in r) utf8 ∙ ap (register_answer properties) (points_from_utf8 bytes points is)) ok

prefixed : (rest : List ℕ) → has_ace_prefix (codes "xn--" ++ rest) ≡ true
unfolding has_ace_prefix
prefixed rest = refl

prefix_ascii : IsAscii (codes "xn--")
prefix_ascii = is_all_ascii-octets (codes "xn--") refl

-- the prefix is in ASCII, so that octets begin with it where their code points do
pub prefix_by_octets : (bytes : List ℕ) → IsUtf8 bytes → has_ace_prefix (chars bytes) ≡ has_ace_prefix bytes
prefix_by_octets bytes utf8 = elim (cases_Bool (has_ace_prefix bytes)) [
  | inl has ↦
      let rest = drop 4 bytes in
      let points : chars bytes ≡ codes "xn--" ++ chars rest =
      ap chars (sym (ace_parts bytes has).0) ∙ chars-append (codes "xn--") rest (IsUtf8-from_ascii (codes "xn--") prefix_ascii) ∙ ap (λ (l : List ℕ). l ++ chars rest) (chars-IsAscii (codes "xn--") prefix_ascii) in
      ap has_ace_prefix points ∙ prefixed (chars rest) ∙ sym has
  | inr other ↦ elim (cases_Bool (has_ace_prefix (chars bytes))) [
    | inl has ↦
        let rest = drop 4 (chars bytes) in
        let octets : bytes ≡ codes "xn--" ++ utf8_of rest =
        sym (encodes-chars bytes utf8) ∙ ap utf8_of (sym (ace_parts (chars bytes) has).0) ∙ encodes-append (codes "xn--") rest ∙ ap (λ (l : List ℕ). l ++ utf8_of rest) (encodes-IsAscii (codes "xn--") prefix_ascii) in
        absurd (both_ways (has_ace_prefix bytes) other (ap has_ace_prefix octets ∙ prefixed (utf8_of rest)))
    | inr none ↦ none ∙ sym other
  ]
]

module _ (properties : Properties) where
  -- a label that is no A-label may be registered
  pub registered-registrable : (label : List ℕ) → has_ace_prefix label ≡ false → IsOk (register_answer properties label) → IsRegistrable properties label
  unfolding tested_answer
  registered-registrable label other ok = by_fault (first_fault properties label) (subst IsOk (register_answer-other properties label other) ok)
    where
      by_fault : (fault : Option Refusal) → IsOk (unless_fault fault (Ok (a_label_of label))) → fault ≡ None
      by_fault None ok = refl
      by_fault (Some refusal) ok = cc

  -- the UTF-8 of a label that may be registered is short
  pub registrable-octets : (label : List ℕ) → IsRegistrable properties label → length (utf8_of label) ≤ 252
  registrable-octets label registrable =
      let short = (MeetsRequirements-registrable properties label registrable).points in
      let most = length-utf8_of-le label in
      omega (arith, short, most)
