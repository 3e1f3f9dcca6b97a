-- Examples of entries that are taken or refused, computed.
use Rattle.std.proofs.Common.{◌≡◌, ℕ, Bool, List, [], ◌∷◌, ◌++◌, true, false, Some, None, Ok, Err, refl}
use Rattle.std.specs.List.{list_any}
use Rattle.idn_class.specs.Class.{class_of}
use Rattle.idn_class.specs.declared.class.Class.TheVariants.{Pvalid, Disallowed}
use Rattle.idn_class.proofs.ComputedLabels.{in_table, class_of-in_table}
use Rattle.ruleset_text.specs.Canonical.{point_text}
use Rattle.ruleset_text.specs.Definitions.{nothing_defined}
use Rattle.ruleset_text.specs.Entries.{Mapped, EntryForm}
use Rattle.variant_table.specs.Faults.{BadClass, SameVariant, SameSource}
use Rattle.variant_table.specs.declared.version.Version.TheVariants.{One, Two}
use Rattle.variant_table.specs.Entries.{Variant, Entry, entry_from}
use Rattle.variant_table.specs.Ranges.{point_entry, range_entries, point_variant}
use Rattle.variant_table.specs.Conditions.{has_bad_class, has_bad_point}
use Rattle.variant_table.specs.Reading.{with_form}
use Rattle.variant_table.proofs.TestLemmas.{with_form-by}
use Rattle.idn_class.specs.declared.properties.Properties.TheVariants.{Profile}

-- the entry of a and these variants
abbrev pub letter : List Variant → Entry
letter variants = entry_from (point_variant None 0x61 ∷ variants)

pvalid : (c : ℕ) → class_of Profile c ≡ Pvalid → has_bad_point Profile (c ∷ []) ≡ false
pvalid c e = rw e

disallowed : (c : ℕ) → class_of Profile c ≡ Disallowed → has_bad_point Profile (c ∷ []) ≡ true
disallowed c e = rw e

good-61 : has_bad_point Profile (0x61 ∷ []) ≡ false
unfolding in_table
good-61 = pvalid 0x61 (class_of-in_table Profile 0x61 Pvalid refl)

good-62 : has_bad_point Profile (0x62 ∷ []) ≡ false
unfolding in_table
good-62 = pvalid 0x62 (class_of-in_table Profile 0x62 Pvalid refl)

good-63 : has_bad_point Profile (0x63 ∷ []) ≡ false
unfolding in_table
good-63 = pvalid 0x63 (class_of-in_table Profile 0x63 Pvalid refl)

good-78 : has_bad_point Profile (0x78 ∷ []) ≡ false
unfolding in_table
good-78 = pvalid 0x78 (class_of-in_table Profile 0x78 Pvalid refl)

good-79 : has_bad_point Profile (0x79 ∷ []) ≡ false
unfolding in_table
good-79 = pvalid 0x79 (class_of-in_table Profile 0x79 Pvalid refl)

good-7A : has_bad_point Profile (0x7A ∷ []) ≡ false
unfolding in_table
good-7A = pvalid 0x7A (class_of-in_table Profile 0x7A Pvalid refl)

bad-41 : has_bad_point Profile (0x41 ∷ []) ≡ true
unfolding in_table
bad-41 = disallowed 0x41 (class_of-in_table Profile 0x41 Disallowed refl)

bad-5A : has_bad_point Profile (0x5A ∷ []) ≡ true
unfolding in_table
bad-5A = disallowed 0x5A (class_of-in_table Profile 0x5A Disallowed refl)

-- ---- version 1

-- a code point as a source or a variant that has neither a type by its name nor a condition
abbrev pub written : Bool → ℕ → Mapped
written marked c = record { marked = marked; points = c ∷ []; type_name = None; condition = None }

abbrev pub entry_form : List Mapped → EntryForm
entry_form mapped = record { mapped = mapped; last = None }

abbrev pub range_form : ℕ → ℕ → EntryForm
range_form first last = record { mapped = written false first ∷ []; last = Some last }

pub with_form-capital : with_form One (nothing_defined Profile) [] (entry_form (written false 0x41 ∷ [])) ≡ Err BadClass
unfolding point_text
with_form-capital = with_form-by One (nothing_defined Profile) [] (entry_form (written false 0x41 ∷ [])) false true true false false refl refl (rw bad-41) refl refl

pub with_form-own_variant : with_form One (nothing_defined Profile) [] (entry_form (written false 0x61 ∷ written false 0x61 ∷ [])) ≡ Err SameVariant
with_form-own_variant = with_form-by One (nothing_defined Profile) [] (entry_form (written false 0x61 ∷ written false 0x61 ∷ [])) false true false true false refl refl (rw good-61) refl refl

pub with_form-letter : with_form One (nothing_defined Profile) [] (entry_form (written false 0x61 ∷ [])) ≡ Ok (letter [] ∷ [])
with_form-letter = with_form-by One (nothing_defined Profile) [] (entry_form (written false 0x61 ∷ [])) false true false false false refl refl (rw good-61) refl refl

pub with_form-letter_again : with_form One (nothing_defined Profile) (letter [] ∷ []) (entry_form (written false 0x61 ∷ [])) ≡ Err SameSource
with_form-letter_again = with_form-by One (nothing_defined Profile) (letter [] ∷ []) (entry_form (written false 0x61 ∷ [])) false true false false true refl refl (rw good-61) refl refl

-- ---- version 2

abbrev pub three : List Entry
three = range_entries None 0x61 0x63

-- x, with y blocked and z
abbrev pub last_letter : Entry
last_letter = entry_from (point_variant None 0x78 ∷ point_variant (Some 1) 0x79 ∷ point_variant None 0x7A ∷ [])

good-three : list_any (has_bad_class Profile) three ≡ false
good-three = rw good-61 (rw good-62 (rw good-63 refl))

pub with_form-range : with_form Two (nothing_defined Profile) [] (range_form 0x61 0x63) ≡ Ok three
unfolding point_text
with_form-range = with_form-by Two (nothing_defined Profile) [] (range_form 0x61 0x63) false true false false false refl refl good-three refl refl

pub with_form-blocked : with_form Two (nothing_defined Profile) three (entry_form (written false 0x78 ∷ written true 0x79 ∷ written false 0x7A ∷ [])) ≡ Ok (three ++ last_letter ∷ [])
unfolding point_text
with_form-blocked = with_form-by Two (nothing_defined Profile) three (entry_form (written false 0x78 ∷ written true 0x79 ∷ written false 0x7A ∷ [])) false true false false false refl refl (rw good-78 (rw good-79 (rw good-7A refl))) refl refl

pub with_form-marked_twice : with_form Two (nothing_defined Profile) [] (entry_form (written false 0x61 ∷ written false 0x62 ∷ written true 0x62 ∷ [])) ≡ Err SameVariant
unfolding point_text
with_form-marked_twice = with_form-by Two (nothing_defined Profile) [] (entry_form (written false 0x61 ∷ written false 0x62 ∷ written true 0x62 ∷ [])) false true false true false refl refl (rw good-61 (rw good-62 refl)) refl refl

pub with_form-from_capital : with_form Two (nothing_defined Profile) [] (range_form 0x5A 0x61) ≡ Err BadClass
unfolding point_text
with_form-from_capital = with_form-by Two (nothing_defined Profile) [] (range_form 0x5A 0x61) false true true false false refl refl (rw bad-5A) refl refl

pub with_form-b : with_form Two (nothing_defined Profile) [] (entry_form (written false 0x62 ∷ [])) ≡ Ok (point_entry None 0x62 ∷ [])
unfolding point_text
with_form-b = with_form-by Two (nothing_defined Profile) [] (entry_form (written false 0x62 ∷ [])) false true false false false refl refl (rw good-62) refl refl

pub with_form-b_again : with_form Two (nothing_defined Profile) (point_entry None 0x62 ∷ []) (range_form 0x61 0x63) ≡ Err SameSource
unfolding point_text
with_form-b_again = with_form-by Two (nothing_defined Profile) (point_entry None 0x62 ∷ []) (range_form 0x61 0x63) false true false false true refl refl good-three refl refl
