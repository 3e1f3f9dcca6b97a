-- Lines with the mark of an old label and without it.
use Rattle.std.proofs.Common.{◌≡◌, inl, inr, ℕ, zero, suc, ◌-◌, ◌≤◌, ◌&&◌, Bool, true, false, cond, Option, Some, None, unwrap_or, List, [], ◌∷◌, ◌++◌, length, take, drop, chars, refl, sym, ap, subst, ◌∙◌, arith, length-take}
use Rattle.std.specs.List.{list_all}
use Rattle.std.proofs.lemmas.Bool.{false_from_ne_true, true≢false}
use Rattle.std.proofs.lemmas.List.{append_cancel_right, take-append-drop, take_min}
use Rattle.std.proofs.lemmas.List.Elements.{All-append}
use Rattle.std.proofs.lemmas.List.Folds.{list_all-append}
use Rattle.std.proofs.lemmas.List.Sums.{AllPass-from_list_all}
use Rattle.std.proofs.lemmas.Slice.Eq.{bytes_eq-Decides}
use Rattle.std.proofs.lemmas.Str.{encodes-IsAscii, encodes-append}
use Rattle.idn_text.specs.Lines.{body_of}
use Rattle.idn_text.specs.Points.{AreScalarValues, IsScalarValue, IsUtf8Of, is_scalar_value, utf8_of}
use Rattle.idn_text.proofs.Utf8Lemmas.{points_from_utf8}
use Rattle.idn_label.specs.FirstFault.{IsRegistrable, utf8_fault}
use Rattle.idn_label.specs.OldNames.{IsInZone, is_old_point, mark, has_mark, before_mark, old_utf8_fault}
use Rattle.idn_label.specs.Steps.{is_ldh_point}
use Rattle.idn_label.proofs.ALabels.{registrable_scalars}
use Rattle.idn_label.proofs.AnswerLemmas.{utf8_fault-none}
use Rattle.idn_label.proofs.LdhLemmas.{is_all_ascii-octets}
use Rattle.idn_label.proofs.OldNameLemmas.{IsOld-scalars, old_utf8_fault-none, registrable_points}
use Rattle.registered_labels.specs.Texts.{line_refusal, IsLineOf, AreLinesOf}
use Rattle.registered_labels.specs.inner.Readings.{IsReadAs}
use Rattle.idn_class.specs.declared.properties.Properties.{Properties}

-- the front of a front
pub take_part : (xs : List ℕ) (n k : ℕ) → n ≤ k → take n (take k xs) ≡ take n xs
take_part xs zero k l = refl
take_part xs (suc n) zero l = absurd (omega arith)
take_part [] (suc n) (suc k) l = refl
take_part (x ∷ xs) (suc n) (suc k) l = ap (λ t. x ∷ t) (take_part xs n k (omega arith))

-- ---- bodies that end in the mark

split_mark : (body : List ℕ) → has_mark body ≡ true → body ≡ before_mark body ++ mark
split_mark body is =
    let at : ℕ = length body - length mark in
    sym (take-append-drop at body) ∙ ap (λ (rest : List ℕ). take at body ++ rest) ((bytes_eq-Decides (drop at body) mark).0 is)

no_mark : (test : ℕ → Bool) → list_all test mark ≡ false → (front : List ℕ) → list_all test (front ++ mark) ≡ false
no_mark test none front = list_all-append test front mark ∙ ap (λ (b : Bool). list_all test front && b) none ∙ and_false (list_all test front)
  where
    and_false : (b : Bool) → (b && false) ≡ false
    and_false true = refl
    and_false false = refl

-- letters, digits and hyphens don't
pub unmarked-ldh : (body : List ℕ) → list_all is_ldh_point body ≡ true → has_mark body ≡ false
unmarked-ldh body ldh =
    false_from_ne_true (has_mark body) (λ is.
    true≢false (sym ldh ∙ ap (list_all is_ldh_point) (split_mark body is) ∙ no_mark is_ldh_point refl (before_mark body)))

-- ---- the label of a line

same_points : (v w : List ℕ) → AreScalarValues v → AreScalarValues w → utf8_of v ≡ utf8_of w → v ≡ w
same_points v w first second same =
    sym (points_from_utf8 (utf8_of v) v (record { scalar_values = first; encoded = refl }))
    ∙ points_from_utf8 (utf8_of v) w (record { scalar_values = second; encoded = sym same })

with_mark : (w : List ℕ) → utf8_of (w ++ mark) ≡ utf8_of w ++ mark
with_mark w = encodes-append w mark ∙ ap (λ (rest : List ℕ). utf8_of w ++ rest) (encodes-IsAscii mark (is_all_ascii-octets mark refl))

module _ (properties : Properties) where
  -- a label that may be registered doesn't end in a mark
  not_marked : (v w : List ℕ) → IsRegistrable properties v → AreScalarValues w → utf8_of v ≡ utf8_of w ++ mark → ⊥
  not_marked v w registrable scalars same =
      let both : AreScalarValues (w ++ mark) = All-append IsScalarValue w mark scalars (AllPass-from_list_all is_scalar_value mark refl) in
      let whole : v ≡ w ++ mark = same_points v (w ++ mark) (registrable_scalars properties v registrable) both (same ∙ sym (with_mark w)) in
      true≢false (sym (registrable_points properties v registrable) ∙ ap (list_all is_old_point) whole ∙ no_mark is_old_point refl w)

  -- a line is one label at most
  pub same_label : (line v w : List ℕ) → IsLineOf properties line v → IsLineOf properties line w → v ≡ w
  same_label line v w first second = elim first [
    | inl plain ↦ elim second [
      | inl other ↦ same_points v w (registrable_scalars properties v plain.1) (registrable_scalars properties w other.1) (body plain.0 other.0)
      | inr marked ↦ absurd (not_marked v w plain.1 (IsOld-scalars w marked.1) (body plain.0 marked.0))
    ]
    | inr marked ↦ elim second [
      | inl plain ↦ absurd (not_marked w v plain.1 (IsOld-scalars v marked.1) (body plain.0 marked.0))
      | inr other ↦
          same_points v w (IsOld-scalars v marked.1) (IsOld-scalars w other.1) (append_cancel_right (utf8_of v) (utf8_of w) mark (body marked.0 other.0))
    ]
  ]
    where
      body : {a b : List ℕ} → body_of line ≡ Some a → body_of line ≡ Some b → a ≡ b
      body is other = ap (λ (o : Option (List ℕ)). unwrap_or o []) (sym is ∙ other)

  pub in_zone-line : (line v : List ℕ) → IsLineOf properties line v → IsInZone properties v
  in_zone-line line v is = elim is [ inl plain ↦ inl plain.1 | inr marked ↦ inr marked.1 ]

  -- ---- one line that is read

  module _ (line body : List ℕ) (is : body_of line ≡ Some body) (front : body ≡ take (length body) line) where
    fault_of_body : (b : Bool) → has_mark body ≡ b → line_refusal properties (body_of line) ≡ cond b (old_utf8_fault (before_mark body)) (utf8_fault properties body)
    fault_of_body b marked =
        ap (line_refusal properties) is ∙ ap (λ (m : Bool). cond m (old_utf8_fault (before_mark body)) (utf8_fault properties body)) marked

    within : length body ≤ length line
    within = omega (arith, ap length front, length-take (length body) line)

    pub IsReadAs-plain : has_mark body ≡ false → utf8_fault properties body ≡ None → IsReadAs properties line (length body) (chars (take (length body) line))
    IsReadAs-plain marked none =
        let label = utf8_fault-none properties body none in
        subst (λ (bytes : List ℕ). IsReadAs properties line (length body) (chars bytes)) front (record {
          within = within;
          is = inl (is ∙ ap Some (sym (label.0).encoded), label.1);
          right = fault_of_body false marked ∙ none;
          read = subst (λ (bytes : List ℕ). IsUtf8Of bytes (chars body)) front label.0;
        })

    pub IsReadAs-marked : (len : ℕ) → len ≡ length (before_mark body) → has_mark body ≡ true → old_utf8_fault (before_mark body) ≡ None → IsReadAs properties line len (chars (take len line))
    IsReadAs-marked len count marked none =
        let bytes : List ℕ = before_mark body in
        let label = old_utf8_fault-none bytes none in
        let less : len ≤ length body = omega (arith, count, length-take (length body - length mark) body) in
        let begins : bytes ≡ take len line = part body line len less front (sym (taken body (length body - length mark) len count)) in
        subst (λ (b : List ℕ). IsReadAs properties line len (chars b)) begins (record {
          within = omega (arith, less, within);
          is = inr (is ∙ ap Some (split_mark body marked ∙ ap (λ (b : List ℕ). b ++ mark) (sym (label.0).encoded)), label.1);
          right = fault_of_body true marked ∙ none;
          read = subst (λ (b : List ℕ). IsUtf8Of b (chars bytes)) begins label.0;
        })
      where
        taken : (xs : List ℕ) (n k : ℕ) → k ≡ length (take n xs) → take k xs ≡ take n xs
        taken xs n k count = ap (λ m. take m xs) (count ∙ length-take n xs) ∙ take_min n xs

        part : (xs ys : List ℕ) (k : ℕ) → k ≤ length xs → xs ≡ take (length xs) ys → {bytes : List ℕ} → bytes ≡ take k xs → bytes ≡ take k ys
        part xs ys k less begins {bytes} same = same ∙ ap (take k) begins ∙ take_part ys k (length xs) less

  pub AreLinesOf-push : (lines labels : List (List ℕ)) (line v : List ℕ) → AreLinesOf properties lines labels → IsLineOf properties line v → AreLinesOf properties (lines ++ line ∷ []) (labels ++ v ∷ [])
  AreLinesOf-push [] [] line v all is = (is, tt)
  AreLinesOf-push [] (w ∷ labels) line v all is = absurd all
  AreLinesOf-push (other ∷ lines) [] line v all is = absurd all
  AreLinesOf-push (other ∷ lines) (w ∷ labels) line v all is = (all.0, AreLinesOf-push lines labels line v all.1 is)
