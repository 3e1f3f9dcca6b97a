-- The line that is told is the first that applies, and each code point that may not be registered has one.
use Rattle.std.proofs.Common.{◌≡◌, ◌≢◌, ℕ, Bool, true, false, not, cond, ◌↔◌, IsTrue, List, [], ◌∷◌, ◌++◌, All, Option, None, Some, refl, sym, ap, ◌∙◌, inl, inr, arith}
use Rattle.std.specs.Char.{InScalarRange, OutOfScalarRange}
use Rattle.std.specs.List.{find}
use Rattle.std.proofs.lemmas.List.Elements.{All-nil, All-cons, All-head, All-tail}
use Rattle.std.proofs.lemmas.Bool.Decides.{nat_tests}
use Rattle.std.proofs.lemmas.Bool.{cases_Bool, cond-true, cond-false, false_from_ne_true}
use Rattle.unicode.specs.GeneralCategory.{general_category}
use Rattle.ucd_table.specs.Rows.{in_ranges}
use Rattle.idn_class.proofs.ClassNumbers.{is_scalar-out}
use Rattle.idn_class.specs.declared.barring.BarringLine.{BarringLine}
use Rattle.idn_class.specs.declared.barring.BarringLine.TheVariants as lines
use Rattle.idn_class.specs.declared.class.Class.{Class}
use Rattle.idn_class.specs.declared.class.Class.TheVariants as classes
use Rattle.idn_class.specs.Barring.{is_barred, applies, lines_of_properties, barring_lines, barring_line, IsBarredBy}
use Rattle.idn_class.specs.Class.{is_scalar, is_left_out, is_pvalid_exception, is_contexto_exception, is_disallowed_exception, is_unassigned, is_ldh, is_join_control, is_unstable, has_ignorable_property, is_in_ignorable_block, is_old_hangul_jamo, is_letter_or_digit, class_by_properties, class_of}
use Rattle.idn_class.specs.declared.properties.Properties.{Properties}

-- ---- the first of a list that passes a test

not_here : (b : Bool) → b ≡ false → ¬ IsTrue b
not_here b off on = let clash : false ≡ true = sym off ∙ on in cc

find-split : {X : Type 0} (test : X → Bool) (xs : List X) (x : X) → find test xs ≡ Some x → (before : List X) × (after : List X) × (xs ≡ before ++ x ∷ after) × All (λ y. ¬ IsTrue (test y)) before × IsTrue (test x)
find-split test [] x h = let clash : None ≡ Some x = h in cc
find-split test (y ∷ ys) x h =
    elim (cases_Bool (test y)) [
      | inl on ↦
          let found : Some y ≡ Some x = sym (cond-true (test y) (Some y) (find test ys) on) ∙ h in
          let same : y ≡ x = cc in ([], ys, ap (λ v. v ∷ ys) same, All-nil (λ v. ¬ IsTrue (test v)), ap test (sym same) ∙ on)
      | inr off ↦
          let rest = find-split test ys x (sym (cond-false (test y) (Some y) (find test ys) off) ∙ h) in
          (y ∷ rest.0, rest.1, ap (λ v. y ∷ v) rest.2, All-cons (λ v. ¬ IsTrue (test v)) y rest.0 (not_here (test y) off) rest.3, rest.4)
    ]

split-find : {X : Type 0} (test : X → Bool) (before : List X) (x : X) (after : List X) → All (λ y. ¬ IsTrue (test y)) before → IsTrue (test x) → find test (before ++ x ∷ after) ≡ Some x
split-find test [] x after earlier holds = cond-true (test x) (Some x) (find test after) holds
split-find test (y ∷ ys) x after earlier holds =
    cond-false (test y) (Some y) (find test (ys ++ x ∷ after)) (false_from_ne_true (test y) (All-head (λ v. ¬ IsTrue (test v)) y ys earlier))
    ∙ split-find test ys x after (All-tail (λ v. ¬ IsTrue (test v)) y ys earlier) holds

-- ---- the first line, of a number that is a scalar value or none

abbrev scalar_lines : List BarringLine
scalar_lines = lines.OutsideProfile ∷ lines.Exceptions ∷ lines.Unassigned ∷ lines_of_properties

is_scalar-in : (c : ℕ) → InScalarRange c → is_scalar c ≡ true
unfolding is_scalar in_ranges
is_scalar-in c within = grind (arith, nat_tests)

module _ (properties : Properties) where
  pub line-of_scalar : (c n : ℕ) (line : Option BarringLine) → InScalarRange c → n ≡ c → line ≡ find (applies properties n) scalar_lines → line ≡ find (applies properties c) barring_lines
  unfolding applies
  line-of_scalar c n line within same told =
      told ∙ ap (λ k. find (applies properties k) scalar_lines) same
      ∙ sym (cond-false (applies properties c lines.NoScalarValue) (Some lines.NoScalarValue) (find (applies properties c) scalar_lines) (ap not (is_scalar-in c within)))

  pub line-of_none : (c : ℕ) → OutOfScalarRange c → Some lines.NoScalarValue ≡ find (applies properties c) barring_lines
  unfolding applies
  line-of_none c out =
      sym (cond-true (applies properties c lines.NoScalarValue) (Some lines.NoScalarValue) (find (applies properties c) scalar_lines) (ap not (is_scalar-out c out)))

  -- ---- what is told of a code point

  pub barring_line-is : (c : ℕ) (line : BarringLine) → (barring_line properties c ≡ Some line) ↔ IsBarredBy properties c line
  unfolding barring_line
  barring_line-is c line =
      let barred = is_barred (class_of properties c) in
      let first = find (applies properties c) barring_lines in (
        λ told.
            elim (cases_Bool barred) [
              | inl on ↦
                  let found = find-split (applies properties c) barring_lines line (sym (cond-true barred first None on) ∙ told) in
                  record { barred = on; before = found.0; after = found.1; order = found.2; earlier = found.3; applies = found.4 }
              | inr off ↦ let clash : None ≡ Some line = sym (cond-false barred first None off) ∙ told in cc
            ],
        λ by.
            cond-true barred first None by.barred
            ∙ (ap (find (applies properties c)) by.order ∙ split-find (applies properties c) by.before line by.after by.earlier by.applies),
      )

  -- ---- the tests of section 3, in order

  abbrev class_by : (s o p x d u l j b i k h a : Bool) → Class
  class_by s o p x d u l j b i k h a =
      cond (not s) classes.Disallowed
      (cond o classes.Disallowed
      (cond p classes.Pvalid
      (cond x classes.Contexto
      (cond d classes.Disallowed
      (cond u classes.Unassigned
      (cond l classes.Pvalid
      (cond j classes.Contextj
      (cond b classes.Disallowed
      (cond i classes.Disallowed
      (cond k classes.Disallowed
      (cond h classes.Disallowed
      (cond a classes.Pvalid classes.Disallowed))))))))))))

  abbrev line_by : (s o d u b i k h a : Bool) → Option BarringLine
  line_by s o d u b i k h a =
      cond (not s) (Some lines.NoScalarValue)
      (cond o (Some lines.OutsideProfile)
      (cond d (Some lines.Exceptions)
      (cond u (Some lines.Unassigned)
      (cond b (Some lines.Unstable)
      (cond i (Some lines.IgnorableProperties)
      (cond k (Some lines.IgnorableBlocks)
      (cond h (Some lines.OldHangulJamo)
      (cond (not a) (Some lines.NoLetterDigit) None))))))))

  -- a class that may not be registered has a line, and that of UNASSIGNED is its own
  record Agree (class : Class) (line : Option BarringLine) : Type 0 where
    some : is_barred class ≡ true → line ≢ None
    unassigned : is_barred class ≡ true → (line ≡ Some lines.Unassigned) ↔ (class ≡ classes.Unassigned)

  barred_by : (line : BarringLine) → (line ≡ lines.Unassigned → ⊥) → Agree classes.Disallowed (Some line)
  barred_by line other = record {
    some = λ barred none. cc;
    unassigned = λ barred. (λ same. absurd (other (let e : line ≡ lines.Unassigned = cc in e)), λ same. cc);
  }

  permitted : (class : Class) (line : Option BarringLine) → is_barred class ≡ false → Agree class line
  permitted class line off = record {
    some = λ barred. let clash : false ≡ true = sym off ∙ barred in cc;
    unassigned = λ barred. let clash : false ≡ true = sym off ∙ barred in cc;
  }

  agree : (s o p x d u l j b i k h a : Bool) → Agree (class_by s o p x d u l j b i k h a) (line_by s o d u b i k h a)
  agree false o p x d u l j b i k h a = barred_by lines.NoScalarValue (λ e. cc)
  agree true true p x d u l j b i k h a = barred_by lines.OutsideProfile (λ e. cc)
  agree true false true x d u l j b i k h a = permitted classes.Pvalid (line_by true false d u b i k h a) refl
  agree true false false true d u l j b i k h a = permitted classes.Contexto (line_by true false d u b i k h a) refl
  agree true false false false true u l j b i k h a = barred_by lines.Exceptions (λ e. cc)
  agree true false false false false true l j b i k h a =
      record { some = λ barred none. cc; unassigned = λ barred. (λ same. refl, λ same. refl) }
  agree true false false false false false true j b i k h a = permitted classes.Pvalid (line_by true false false false b i k h a) refl
  agree true false false false false false false true b i k h a = permitted classes.Contextj (line_by true false false false b i k h a) refl
  agree true false false false false false false false true i k h a = barred_by lines.Unstable (λ e. cc)
  agree true false false false false false false false false true k h a = barred_by lines.IgnorableProperties (λ e. cc)
  agree true false false false false false false false false false true h a = barred_by lines.IgnorableBlocks (λ e. cc)
  agree true false false false false false false false false false false true a = barred_by lines.OldHangulJamo (λ e. cc)
  agree true false false false false false false false false false false false true = permitted classes.Pvalid None refl
  agree true false false false false false false false false false false false false = barred_by lines.NoLetterDigit (λ e. cc)

  lines_agree : (c : ℕ) → Agree (class_of properties c) (find (applies properties c) barring_lines)
  unfolding class_of class_by_properties applies
  lines_agree c =
      agree (is_scalar c) (is_left_out properties c) (is_pvalid_exception c) (is_contexto_exception c) (is_disallowed_exception c)
      (is_unassigned c) (is_ldh c) (is_join_control c) (is_unstable c) (has_ignorable_property c) (is_in_ignorable_block c)
      (is_old_hangul_jamo c) (is_letter_or_digit (general_category c))

  pub barring_line-none : (c : ℕ) → (barring_line properties c ≡ None) ↔ (is_barred (class_of properties c) ≡ false)
  unfolding barring_line
  barring_line-none c =
      let barred = is_barred (class_of properties c) in
      let first = find (applies properties c) barring_lines in (
        λ none. false_from_ne_true barred (λ on. (lines_agree c).some on (sym (cond-true barred first None on) ∙ none)),
        λ off. cond-false barred first None off,
      )

  unassigned_barred : (class : Class) → class ≡ classes.Unassigned → is_barred class ≡ true
  unassigned_barred class same = ap is_barred same

  pub barring_line-unassigned : (c : ℕ) → (barring_line properties c ≡ Some lines.Unassigned) ↔ (class_of properties c ≡ classes.Unassigned)
  unfolding barring_line
  barring_line-unassigned c =
      let barred = is_barred (class_of properties c) in
      let first = find (applies properties c) barring_lines in (
        λ told.
            elim (cases_Bool barred) [
              | inl on ↦ ((lines_agree c).unassigned on).0 (sym (cond-true barred first None on) ∙ told)
              | inr off ↦ let clash : None ≡ Some lines.Unassigned = sym (cond-false barred first None off) ∙ told in cc
            ],
        λ same.
            let on = unassigned_barred (class_of properties c) same in
            cond-true barred first None on ∙ ((lines_agree c).unassigned on).1 same,
      )
