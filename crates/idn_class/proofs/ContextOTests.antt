-- The test of the other code points that need a context agrees with their rule.
use Rattle.std.proofs.Common.{◌≡◌, ℕ, Bool, true, false, not, ◌==◌, ◌↔◌, List, length, Option, None, Some, IsSomeAnd, IsTrue, Any, refl, sym, ap, ◌∙◌, slice_index}
use Rattle.std.specs.List.{list_any}
use Rattle.std.proofs.lemmas.Bool.{and_parts, and_from, not-true, not_from_false, false_from_ne_true, eqb-true}
use Rattle.std.proofs.lemmas.List.Folds.{Any-from_list_any, list_any-from_Any}
use Rattle.ucd_script.specs.declared.Script.{Script}
use Rattle.ucd_script.specs.declared.Script.TheVariants.{Greek, Hebrew}
use Rattle.unicode.specs.Script.{script}
use Rattle.idn_class.specs.Neighbors.{before, after}
use Rattle.idn_class.specs.ContextO.{is_japanese, is_arabic_digit, is_extended_arabic_digit, OtherPasses, PassesContextO}
use Rattle.idn_class.specs.Tests.{is_some_and, is_greek, is_hebrew, middle_dot_passes, keraia_passes, geresh_passes, katakana_middle_dot_passes, digit_passes, other_at, contexto_ok}
use Rattle.idn_class.proofs.TestLemmas.{all_places-from, all_places-at, asked-gives, asked-from, asked_at-gives, asked_at-from}

-- ---- what each test asks of a neighbor, or of the label

is_greek-true : (s : Script) → is_greek s ≡ true → s ≡ Greek
is_greek-true Greek h = refl
is_greek-true _ h = cc

is_hebrew-true : (s : Script) → is_hebrew s ≡ true → s ≡ Hebrew
is_hebrew-true Hebrew h = refl
is_hebrew-true _ h = cc

is_l-gives : (o : Option ℕ) → is_some_and o (λ c. c == 0x6C) ≡ true → o ≡ Some 0x6C
is_l-gives None h = let clash : false ≡ true = h in cc
is_l-gives (Some c) h = ap Some (eqb-true c 0x6C h)

is_l-from : (o : Option ℕ) → o ≡ Some 0x6C → is_some_and o (λ c. c == 0x6C) ≡ true
is_l-from o same = ap (λ n. is_some_and n (λ c. c == 0x6C)) same

greek-gives : (o : Option ℕ) → is_some_and o (λ c. is_greek (script c)) ≡ true → IsSomeAnd o (λ c. script c ≡ Greek)
greek-gives None h = let clash : false ≡ true = h in cc
greek-gives (Some c) h = is_greek-true (script c) h

greek-from : (o : Option ℕ) → IsSomeAnd o (λ c. script c ≡ Greek) → is_some_and o (λ c. is_greek (script c)) ≡ true
greek-from None h = absurd h
greek-from (Some c) h = ap is_greek h

hebrew-gives : (o : Option ℕ) → is_some_and o (λ c. is_hebrew (script c)) ≡ true → IsSomeAnd o (λ c. script c ≡ Hebrew)
hebrew-gives None h = let clash : false ≡ true = h in cc
hebrew-gives (Some c) h = is_hebrew-true (script c) h

hebrew-from : (o : Option ℕ) → IsSomeAnd o (λ c. script c ≡ Hebrew) → is_some_and o (λ c. is_hebrew (script c)) ≡ true
hebrew-from None h = absurd h
hebrew-from (Some c) h = ap is_hebrew h

no_other-gives : (is_other : ℕ → Bool) (label : List ℕ) → not (list_any is_other label) ≡ true → ¬ (Any (λ c. IsTrue (is_other c)) label)
no_other-gives is_other label h some =
    let clash : true ≡ false = sym (list_any-from_Any is_other label some) ∙ not-true (list_any is_other label) h in cc

no_other-from : (is_other : ℕ → Bool) (label : List ℕ) → ¬ (Any (λ c. IsTrue (is_other c)) label) → not (list_any is_other label) ≡ true
no_other-from is_other label none =
    not_from_false (list_any is_other label) (false_from_ne_true (list_any is_other label) (λ h. none (Any-from_list_any is_other label h)))

middle_dot-gives : (label : List ℕ) (p : ℕ) → middle_dot_passes true label p ≡ true → (before label p ≡ Some 0x6C) × (after label p ≡ Some 0x6C)
middle_dot-gives label p h =
    let parts = and_parts (is_some_and (before label p) (λ c. c == 0x6C)) (is_some_and (after label p) (λ c. c == 0x6C)) h in
    (is_l-gives (before label p) parts.0, is_l-gives (after label p) parts.1)

middle_dot-from : (label : List ℕ) (p : ℕ) → (before label p ≡ Some 0x6C) × (after label p ≡ Some 0x6C) → middle_dot_passes true label p ≡ true
middle_dot-from label p both =
    and_from (is_some_and (before label p) (λ c. c == 0x6C)) (is_some_and (after label p) (λ c. c == 0x6C)) (is_l-from (before label p) both.0) (is_l-from (after label p) both.1)

-- ---- the rule at a place, and of the label

-- the tests of a place, in the order of the standard
pub record Parts (label : List ℕ) (p : ℕ) : Type 0 where
  pub middle_dot : middle_dot_passes (slice_index label p == 0xB7) label p ≡ true
  pub keraia : keraia_passes (slice_index label p == 0x375) label p ≡ true
  pub geresh : geresh_passes (slice_index label p == 0x5F3) label p ≡ true
  pub gershayim : geresh_passes (slice_index label p == 0x5F4) label p ≡ true
  pub katakana : katakana_middle_dot_passes (slice_index label p == 0x30FB) label ≡ true
  pub arabic : digit_passes is_extended_arabic_digit (is_arabic_digit (slice_index label p)) label ≡ true
  pub extended : digit_passes is_arabic_digit (is_extended_arabic_digit (slice_index label p)) label ≡ true

Parts-from : (label : List ℕ) (p : ℕ) → other_at label p ≡ true → Parts label p
Parts-from label p h =
    let sixth = and_parts _ (digit_passes is_arabic_digit (is_extended_arabic_digit (slice_index label p)) label) h in
    let fifth = and_parts _ (digit_passes is_extended_arabic_digit (is_arabic_digit (slice_index label p)) label) sixth.0 in
    let fourth = and_parts _ (katakana_middle_dot_passes (slice_index label p == 0x30FB) label) fifth.0 in
    let third = and_parts _ (geresh_passes (slice_index label p == 0x5F4) label p) fourth.0 in
    let second = and_parts _ (geresh_passes (slice_index label p == 0x5F3) label p) third.0 in
    let first = and_parts _ (keraia_passes (slice_index label p == 0x375) label p) second.0 in
    record {
      middle_dot = first.0;
      keraia = first.1;
      geresh = second.1;
      gershayim = third.1;
      katakana = fourth.1;
      arabic = fifth.1;
      extended = sixth.1;
    }

other_at-Parts : (label : List ℕ) (p : ℕ) → Parts label p → other_at label p ≡ true
other_at-Parts label p parts =
    and_from _ _ (and_from _ _ (and_from _ _ (and_from _ _ (and_from _ _ (and_from _ _ parts.middle_dot parts.keraia) parts.geresh) parts.gershayim) parts.katakana) parts.arabic) parts.extended

OtherPasses-from : (label : List ℕ) (p : ℕ) → Parts label p → OtherPasses label p
OtherPasses-from label p parts =
    let c = slice_index label p in
    record {
      middle_dot = λ is. middle_dot-gives label p (asked_at-gives c 0xB7 (λ b. middle_dot_passes b label p) parts.middle_dot is);
      keraia = λ is. greek-gives (after label p) (asked_at-gives c 0x375 (λ b. keraia_passes b label p) parts.keraia is);
      geresh = λ is. hebrew-gives (before label p) (asked_at-gives c 0x5F3 (λ b. geresh_passes b label p) parts.geresh is);
      gershayim = λ is. hebrew-gives (before label p) (asked_at-gives c 0x5F4 (λ b. geresh_passes b label p) parts.gershayim is);
      katakana_middle_dot = λ is. Any-from_list_any is_japanese label (asked_at-gives c 0x30FB (λ b. katakana_middle_dot_passes b label) parts.katakana is);
      arabic_digit = λ is. no_other-gives is_extended_arabic_digit label (asked-gives (is_arabic_digit c) (λ b. digit_passes is_extended_arabic_digit b label) parts.arabic is);
      extended_arabic_digit = λ is. no_other-gives is_arabic_digit label (asked-gives (is_extended_arabic_digit c) (λ b. digit_passes is_arabic_digit b label) parts.extended is);
    }

Parts-OtherPasses : (label : List ℕ) (p : ℕ) → OtherPasses label p → Parts label p
Parts-OtherPasses label p passes =
    let c = slice_index label p in
    record {
      middle_dot = asked_at-from c 0xB7 (λ b. middle_dot_passes b label p) refl (λ is. middle_dot-from label p (passes.middle_dot is));
      keraia = asked_at-from c 0x375 (λ b. keraia_passes b label p) refl (λ is. greek-from (after label p) (passes.keraia is));
      geresh = asked_at-from c 0x5F3 (λ b. geresh_passes b label p) refl (λ is. hebrew-from (before label p) (passes.geresh is));
      gershayim = asked_at-from c 0x5F4 (λ b. geresh_passes b label p) refl (λ is. hebrew-from (before label p) (passes.gershayim is));
      katakana = asked_at-from c 0x30FB (λ b. katakana_middle_dot_passes b label) refl (λ is. list_any-from_Any is_japanese label (passes.katakana_middle_dot is));
      arabic = asked-from (is_arabic_digit c) (λ b. digit_passes is_extended_arabic_digit b label) refl (λ is. no_other-from is_extended_arabic_digit label (passes.arabic_digit is));
      extended = asked-from (is_extended_arabic_digit c) (λ b. digit_passes is_arabic_digit b label) refl (λ is. no_other-from is_arabic_digit label (passes.extended_arabic_digit is));
    }

contexto_ok-gives : (label : List ℕ) → contexto_ok label ≡ true → PassesContextO label
unfolding contexto_ok
contexto_ok-gives label ok p within = OtherPasses-from label p (Parts-from label p (all_places-at (length label) (other_at label) ok p within))

contexto_ok-from : (label : List ℕ) → PassesContextO label → contexto_ok label ≡ true
unfolding contexto_ok
contexto_ok-from label passes =
    all_places-from (length label) (other_at label) (λ p within. other_at-Parts label p (Parts-OtherPasses label p (passes p within)))

-- the test is the rule
pub contexto_ok-PassesContextO : (label : List ℕ) → (contexto_ok label ≡ true) ↔ PassesContextO label
contexto_ok-PassesContextO label = (contexto_ok-gives label, contexto_ok-from label)

-- the test at a place is the rule there
pub other_at-rule : (label : List ℕ) (p : ℕ) → (other_at label p ≡ true) ↔ OtherPasses label p
other_at-rule label p = (λ h. OtherPasses-from label p (Parts-from label p h), λ passes. other_at-Parts label p (Parts-OtherPasses label p passes))
