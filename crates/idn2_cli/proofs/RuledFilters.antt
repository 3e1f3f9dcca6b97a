-- What a listing asks of labels, by the table that they are tested by.
use Rattle.std.proofs.Common.{◌≡◌, ◌||◌, not, ℕ, zero, suc, List, [], ◌∷◌, ◌++◌, Option, Some, None, Bool, true, false, refl, sym, ap, ◌∙◌, if◌then◌else◌, arith}
use Rattle.std.specs.Prelude.{nat_le}
use Rattle.std.specs.Option.{is_none, option_map}
use Rattle.std.proofs.lemmas.Bool.Decides.{nat_tests}
use Rattle.std.proofs.lemmas.Bool.{and_from, and_parts}
use Rattle.idn_class.specs.declared.properties.Properties.{Properties}
use Rattle.idn_class.specs.DeadPrefixes.{hopeless}
use Rattle.idn_label.specs.FirstFault.{IsRegistrable}
use Rattle.variant_table.specs.Entries.{TableValue}
use Rattle.valid_labels.specs.Tests.{asks_nothing, is_dead_under, is_valid}
use Rattle.variant_list.specs.Beginnings.{shortest_hopeless}
use Rattle.valid_labels.specs.Testing.{Testing}
use Rattle.idn2_answers.proofs.FilterLemmas.{IsSound, registrable_labels-IsSound, ruled_labels-IsSound}
use Rattle.idn2_answers.proofs.LostBeginnings.{not-left, not-right}
use Rattle.idn2_cli.specs.inner.Dispositions.{Listing}
use Rattle.idn2_cli.specs.inner.Ruling.{IsValidityBy, filter_by, filter_for, filter_in, lesser_count, dead_prefix_in, passes, ruling_in, ruling_of}
use Rattle.valid_labels.specs.declared.validity.Validity.{Validity}
use Rattle.valid_labels.specs.declared.validity.Validity.TheVariants.{DeadPrefix, Valid, NotValid}
use Rattle.idn2_answers.specs.Dispositions.{is_left_out}
use Rattle.idn2_answers.specs.Listings.{Filter, filter_if, filter_of, is_registrable, without_left_out}

-- ---- the filter by the table that labels are tested by

module _ (properties : Properties) where
  pub filter_by-IsSound : (ruling : Option TableValue) → IsSound properties (filter_by properties ruling)
  filter_by-IsSound None = registrable_labels-IsSound properties
  filter_by-IsSound (Some table) = ruled_labels-IsSound properties table

  -- and so it is for a listing
  pub filter_for-IsSound : (test : Option Testing) (of : Listing) → IsSound properties (filter_for properties test of)
  filter_for-IsSound test of =
      let sound = filter_by-IsSound (ruling_in test) in
      let asked : Filter = filter_in properties test in record {
        registrable = λ v h. sound.registrable v ((and_parts (asked.accepts v) (not (is_left_out of.table of.label v)) h).0);
        for_good = λ w z h. not-left (asked.accepts (w ++ z)) (not (is_left_out of.table of.label (w ++ z))) (sound.for_good w z h);
      }

  -- it is the filter of the table
  pub filter_by-ruling : (table : TableValue) → filter_by properties (ruling_of table) ≡ filter_if properties (asks_nothing table) table
  filter_by-ruling table = by_test (asks_nothing table)
    where
      by_test : (b : Bool) → filter_by properties (if b then None else Some table) ≡ filter_if properties b table
      by_test true = refl
      by_test false = refl

  -- and for a listing that of its table and its label
  pub filter_for-ruling : (test : Option Testing) (of : Listing) → ruling_in test ≡ ruling_of of.table → filter_for properties test of ≡ filter_of properties of.table of.label
  filter_for-ruling test of is = ap (without_left_out of.table of.label) (ap (filter_by properties) is ∙ filter_by-ruling of.table)

  pub accepts-passed : (ruling : Option TableValue) (v : List ℕ) → IsRegistrable properties v → passes ruling v ≡ true → (filter_by properties ruling).accepts v ≡ true
  accepts-passed None v registrable is = ap is_none registrable
  accepts-passed (Some table) v registrable is = and_from (is_registrable properties v) _ (ap is_none registrable) is

  pub accepts-failed : (ruling : Option TableValue) (v : List ℕ) → passes ruling v ≡ false → (filter_by properties ruling).accepts v ≡ false
  accepts-failed None v is = cc
  accepts-failed (Some table) v is = not-right (is_registrable properties v) _ is

  pub accepts-unregistrable : (ruling : Option TableValue) (v : List ℕ) → is_registrable properties v ≡ false → (filter_by properties ruling).accepts v ≡ false
  accepts-unregistrable None v is = is
  accepts-unregistrable (Some table) v is = not-left (is_registrable properties v) _ is

-- ---- the verdict on a label

lesser-first : (n : Option ℕ) → lesser_count (Some 1) (option_map suc n) ≡ Some 1
lesser-first None = refl
lesser-first (Some n) = let le : nat_le 1 (suc n) ≡ true = grind (arith, nat_tests) in ap (λ (b : Bool). let r : Option ℕ = if b then Some 1 else Some (suc n) in r) le

lesser-second : (n : Option ℕ) → lesser_count (option_map suc n) (Some 1) ≡ Some 1
lesser-second None = refl
lesser-second (Some zero) = refl
lesser-second (Some (suc n)) = let gt : nat_le (suc (suc n)) 1 ≡ false = grind (arith, nat_tests) in ap (λ (b : Bool). let r : Option ℕ = if b then Some (suc (suc n)) else Some 1 in r) gt

lesser-later : (m n : Option ℕ) → option_map suc (lesser_count m n) ≡ lesser_count (option_map suc m) (option_map suc n)
lesser-later None n = refl
lesser-later (Some m) None = refl
lesser-later (Some m) (Some n) =
    by_test (nat_le m n) ∙ ap (λ (b : Bool). let r : Option ℕ = if b then Some (suc m) else Some (suc n) in r) (same (nat_le m n) refl)
  where
    same : (b : Bool) → nat_le m n ≡ b → b ≡ nat_le (suc m) (suc n)
    same true e = let t : nat_le (suc m) (suc n) ≡ true = grind (arith, nat_tests) in sym t
    same false e = let t : nat_le (suc m) (suc n) ≡ false = grind (arith, nat_tests) in sym t

    by_test : (b : Bool) → option_map suc (let r : Option ℕ = if b then Some m else Some n in r) ≡ (let r : Option ℕ = if b then Some (suc m) else Some (suc n) in r)
    by_test true = refl
    by_test false = refl

first_of_two : (x y xy : Option ℕ) (a b : Bool) → xy ≡ lesser_count x y
    → (let r : Option ℕ = if a || b then Some 1 else option_map suc xy in r)
    ≡ lesser_count (let r : Option ℕ = if a then Some 1 else option_map suc x in r) (let r : Option ℕ = if b then Some 1 else option_map suc y in r)
first_of_two x y xy true true is = refl
first_of_two x y xy true false is = sym (lesser-first y)
first_of_two x y xy false true is = sym (lesser-second x)
first_of_two x y xy false false is = ap (option_map suc) is ∙ lesser-later x y

-- the shortest beginning of which one of two tests is true
shortest-of_two : (f g : List ℕ → Bool) (v : List ℕ) → shortest_hopeless (λ w. f w || g w) v ≡ lesser_count (shortest_hopeless f v) (shortest_hopeless g v)
shortest-of_two f g [] = refl
shortest-of_two f g (c ∷ v) =
    first_of_two (shortest_hopeless (λ w. f (c ∷ w)) v) (shortest_hopeless (λ w. g (c ∷ w)) v) (shortest_hopeless (λ w. f (c ∷ w) || g (c ∷ w)) v) (f (c ∷ [])) (g (c ∷ []))
    (shortest-of_two (λ w. f (c ∷ w)) (λ w. g (c ∷ w)) v)

lesser-none : (n : Option ℕ) → lesser_count n None ≡ n
lesser-none None = refl
lesser-none (Some n) = refl

module _ (properties : Properties) where
  pub verdict-count : (ruling : Option TableValue) (v : List ℕ) (validity : Validity) → IsValidityBy ruling v validity
      → lesser_count (shortest_hopeless (hopeless properties) v) (dead_prefix_in validity) ≡ shortest_hopeless (filter_by properties ruling).hopeless v
  verdict-count None v validity is = ap (λ (x : Validity). lesser_count (shortest_hopeless (hopeless properties) v) (dead_prefix_in x)) is ∙ lesser-none (shortest_hopeless (hopeless properties) v)
  verdict-count (Some table) v validity is =
      ap (lesser_count (shortest_hopeless (hopeless properties) v)) (sym is.0) ∙ sym (shortest-of_two (hopeless properties) (is_dead_under table) v)

pub passes-valid : (ruling : Option TableValue) (v : List ℕ) → IsValidityBy ruling v Valid → passes ruling v ≡ true
passes-valid None v is = refl
passes-valid (Some table) v is = and_from (is_valid table v) _ is.1 (ap is_none is.0)

pub passes-not_valid : (ruling : Option TableValue) (v : List ℕ) → IsValidityBy ruling v NotValid → passes ruling v ≡ false
passes-not_valid None v is = cc
passes-not_valid (Some table) v is = not-left (is_valid table v) _ is.1

pub passes-dead : (ruling : Option TableValue) (v : List ℕ) (count : ℕ) → IsValidityBy ruling v (DeadPrefix count) → passes ruling v ≡ false
passes-dead None v count is = cc
passes-dead (Some table) v count is = not-right (is_valid table v) _ (ap is_none is.0)
