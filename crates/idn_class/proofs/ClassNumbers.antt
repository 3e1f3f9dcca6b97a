-- The number that the table has for each class, as a function of properties whose steps are known.
use Rattle.std.proofs.Common.{◌≡◌, ◌≢◌, ℕ, zero, suc, ◌+◌, ◌-◌, ◌<◌, ◌≤◌, nat_lt, le-ltb, Bool, true, false, not, ◌&&◌, ◌||◌, ◌==◌, cond, List, [], ◌∷◌, length, lit<, refl, sym, ap, subst, ◌∙◌, arith}
use Rattle.std.proofs.lemmas.Bool.{and_parts, cond-true, cond-false, lt-ltb}
use Rattle.ucd_normal.specs.declared.forms.Form.TheVariants.{Nfkd, Nfkc}
use Rattle.ucd_normal.specs.declared.forms.QuickCheck.{QuickCheck}
use Rattle.ucd_normal.specs.declared.forms.QuickCheck.TheVariants.{Yes, No, Maybe}
use Rattle.ucd_normal.specs.QuickCheck.{quick_check}
use Rattle.ucd_normal.proofs.QuickCheckLemmas.{quick_check_stepped}
use Rattle.unicode.specs.Binary.{is_default_ignorable_code_point, is_white_space, is_noncharacter_code_point}
use Rattle.unicode.specs.CaseFolding.{full_folding}
use Rattle.unicode.specs.GeneralCategory.{general_category, general_category_eq}
use Rattle.unicode.proofs.BinaryLemmas.{is_default_ignorable_code_point_stepped, is_white_space_stepped, is_noncharacter_code_point_stepped}
use Rattle.unicode.proofs.GeneralCategoryLemmas.{general_category_stepped}
use Rattle.ucd_table.proofs.Stepped.{Stepped, of_ranges, zip_stepped}
use Rattle.std.specs.Char.{OutOfScalarRange}
use Rattle.std.proofs.lemmas.Bool.Decides.{nat_tests}
use Rattle.ucd_table.specs.Rows.{in_ranges}
use Rattle.ucd_table.proofs.StepsLemmas.{rises_from}
use Rattle.ucd_table.proofs.Computing.{tables}
use Rattle.ucd_table.proofs.Facts.{tree_value, tree_of, tree_value-tree_of}
use Rattle.ucd_table.proofs.RangedFacts.{points_ok, Stepped-at_points}
use Rattle.unicode.proofs.CaseFoldingLemmas.{full_folding_stepped}
use Rattle.unicode_normalization.specs.Forms.{nfkc}
use Rattle.caseless.proofs.CaselessLemmas.{full_fold-some}
use Rattle.idn_class.proofs.StabilityLemmas.{in_form_alone, not_in_form_alone, nfkc_alone, is_unstable-changed, is_unstable-one, is_unstable-unfolded}
use Rattle.ucd_category.specs.declared.GeneralCategory.TheVariants.{Unassigned as Cn}
use Rattle.idn_class.specs.declared.class.Class.{Class}
use Rattle.idn_class.specs.declared.class.Class.TheVariants.{Pvalid, Contextj, Contexto, Disallowed, Unassigned}
use Rattle.idn_class.specs.Class.{is_scalar, is_outside_profile, is_left_out, is_pvalid_exception, is_contexto_exception, is_disallowed_exception, is_unassigned, is_ldh, is_join_control, is_unstable, has_ignorable_property, is_in_ignorable_block, is_old_hangul_jamo, is_letter_or_digit, class_by_properties, class_of, is_undecided, is_stability_open, is_left_open}
use Rattle.idn_class.specs.declared.properties.Properties.{Properties}
use Rattle.idn_class.specs.declared.properties.Properties.TheVariants.{Profile, Unicode}
use Rattle.idn_class.specs.inner.Entries.{number_by}

-- the class with a number; the table's sixth number, 5, is none of a class
abbrev pub class_from_number : ℕ → Class
class_from_number zero = Disallowed
class_from_number (suc zero) = Pvalid
class_from_number (suc (suc zero)) = Contextj
class_from_number (suc (suc (suc zero))) = Contexto
class_from_number (suc (suc (suc (suc n)))) = Unassigned

-- n is the number of the class k, and 5 leaves the answer to `is_unstable`
pub record Tells (c : ℕ) (k : Class) (n : ℕ) : Type 0 where
  pub asks : n ≡ 5 → k ≡ cond (is_unstable c) Disallowed Pvalid
  pub tells : n ≢ 5 → k ≡ class_from_number n
  pub opens : n ≡ 5 → is_stability_open c ≡ true

tells_either : (c : ℕ) (b : Bool) (x y : Class) (n m : ℕ) → Tells c x n → Tells c y m → Tells c (cond b x y) (cond b n m)
tells_either c true x y n m first second = first
tells_either c false x y n m first second = second

tells_known : (c : ℕ) (n : ℕ) → n ≢ 5 → Tells c (class_from_number n) n
tells_known c n known = record { asks = λ is. absurd (known is); tells = λ _. refl; opens = λ is. absurd (known is) }

-- ---- the number, from the last line up

-- NFKC keeps a code point: 0 no, 1 yes, 2 the quick checks cannot tell
abbrev keeping : QuickCheck → QuickCheck → ℕ
keeping No other = 0
keeping Yes other = 1
keeping Maybe Yes = 1
keeping Maybe _ = 2

abbrev keeping_of : ℕ → ℕ
keeping_of c = keeping (quick_check Nfkc c) (quick_check Nfkd c)

keeping_stepped : Stepped keeping_of
unfolding quick_check_stepped
keeping_stepped = zip_stepped keeping (quick_check Nfkc) (quick_check Nfkd) (quick_check_stepped Nfkc) (quick_check_stepped Nfkd)

abbrev by_folds : ℕ → ℕ
by_folds zero = 1
by_folds (suc zero) = 0
by_folds (suc (suc n)) = 5

abbrev by_keeping : ℕ → ℕ → ℕ
by_keeping zero folds = 0
by_keeping (suc zero) folds = by_folds folds
by_keeping (suc (suc n)) folds = 5

abbrev stability : ℕ → ℕ
stability c = by_keeping (keeping_of c) (length (full_folding c))

stability_stepped : Stepped stability
unfolding full_folding_stepped keeping_stepped
stability_stepped = zip_stepped (λ k (table : List ℕ). by_keeping k (length table)) keeping_of full_folding keeping_stepped full_folding_stepped

-- ---- the table of foldings: what folds to one code point does not fold to itself, and NFKC keeps the other

abbrev is_none : List ℕ → Bool
is_none [] = true
is_none _ = false

abbrev is_yes : QuickCheck → Bool
is_yes Yes = true
is_yes _ = false

abbrev is_no : QuickCheck → Bool
is_no No = true
is_no _ = false

abbrev single_ok : (ℕ → QuickCheck) → ℕ → List ℕ → Bool
single_ok check c (d ∷ []) = is_no (check c) || (is_yes (check d) && not (d == c))
single_ok check c _ = true

abbrev check_tree : ℕ → QuickCheck
check_tree = tree_value (quick_check_stepped Nfkc).default (tree_of (quick_check Nfkc) (quick_check_stepped Nfkc))

singles_ok : (c : ℕ) → is_none (full_folding c) ≡ false → single_ok (quick_check Nfkc) c (full_folding c) ≡ true
unfolding tables points_ok full_folding_stepped quick_check_stepped
singles_ok c some =
    ap (λ f. single_ok f c (full_folding c)) (tree_value-tree_of (quick_check Nfkc) (quick_check_stepped Nfkc))
    ∙ Stepped-at_points full_folding full_folding_stepped is_none (single_ok check_tree) refl c some

pub is_yes-true : (v : QuickCheck) → is_yes v ≡ true → v ≡ Yes
is_yes-true Yes h = refl
is_yes-true No h = cc
is_yes-true Maybe h = cc

or_second : (a b : Bool) → (a || b) ≡ true → a ≡ false → b ≡ true
or_second true b h off = cc
or_second false b h off = h

single_of : (c d : ℕ) (table : List ℕ) → table ≡ full_folding c → table ≡ d ∷ [] → is_no (quick_check Nfkc c) ≡ false → (quick_check Nfkc d ≡ Yes) × (not (d == c) ≡ true)
single_of c d table same one kept =
    let some : is_none (full_folding c) ≡ false = ap is_none (sym same ∙ one) in
    let ok : single_ok (quick_check Nfkc) c (d ∷ []) ≡ true = ap (single_ok (quick_check Nfkc) c) (sym one ∙ same) ∙ singles_ok c some in
    let parts = and_parts (is_yes (quick_check Nfkc d)) (not (d == c)) (or_second _ _ ok kept) in
    (is_yes-true _ parts.0, parts.1)

-- ---- the number is right

unstable_tells : (c : ℕ) → is_unstable c ≡ true → Tells c (cond (is_unstable c) Disallowed Pvalid) 0
unstable_tells c h = record { asks = λ _. refl; tells = λ _. cond-true _ Disallowed Pvalid h; opens = λ is. absurd (omega arith) }

stable_tells : (c : ℕ) → is_unstable c ≡ false → Tells c (cond (is_unstable c) Disallowed Pvalid) 1
stable_tells c h = record { asks = λ _. refl; tells = λ _. cond-false _ Disallowed Pvalid h; opens = λ is. absurd (omega arith) }

open_tells : (c : ℕ) → is_stability_open c ≡ true → Tells c (cond (is_unstable c) Disallowed Pvalid) 5
open_tells c h = record { asks = λ _. refl; tells = λ other. absurd (other refl); opens = λ _. h }

undecided-several : (v w : QuickCheck) → is_no v ≡ false → is_undecided v w true ≡ true
undecided-several No w free = cc
undecided-several Yes w free = refl
undecided-several Maybe Yes free = refl
undecided-several Maybe No free = refl
undecided-several Maybe Maybe free = refl

several_open : (c : ℕ) → is_no (quick_check Nfkc c) ≡ false → 1 < length (full_folding c) → is_stability_open c ≡ true
unfolding is_stability_open
several_open c free several =
    ap (is_undecided (quick_check Nfkc c) (quick_check Nfkd c)) (lt-ltb 1 (length (full_folding c)) several)
    ∙ undecided-several (quick_check Nfkc c) (quick_check Nfkd c) free

undecided_open : (c : ℕ) (v w : QuickCheck) → v ≡ quick_check Nfkc c → w ≡ quick_check Nfkd c → ((several : Bool) → is_undecided v w several ≡ true) → is_stability_open c ≡ true
unfolding is_stability_open
undecided_open c v w v_is w_is h =
    let several = nat_lt 1 (length (full_folding c)) in
    ap (λ u. is_undecided u (quick_check Nfkd c) several) (sym v_is) ∙ ap (λ u. is_undecided v u several) (sym w_is) ∙ h several

folds_tell : (c : ℕ) (table : List ℕ) → nfkc (c ∷ []) ≡ c ∷ [] → is_no (quick_check Nfkc c) ≡ false → table ≡ full_folding c → Tells c (cond (is_unstable c) Disallowed Pvalid) (by_folds (length table))
folds_tell c [] kept free same = stable_tells c (is_unstable-unfolded c [] kept same (omega arith))
folds_tell c (d ∷ []) kept free same =
    let one = single_of c d (d ∷ []) same refl free in
    unstable_tells c (is_unstable-one c d kept (full_fold-some c (d ∷ []) same (omega arith)) (in_form_alone Nfkc d one.0) ∙ one.1)
folds_tell c (d ∷ e ∷ ds) kept free same =
    let several : 1 < length (d ∷ e ∷ ds) = omega arith in
    let P : List ℕ → Type 0 = λ table. 1 < length table in
    open_tells c (several_open c free (subst P same several))

stability_tells : (c : ℕ) (v w : QuickCheck) → v ≡ quick_check Nfkc c → w ≡ quick_check Nfkd c → Tells c (cond (is_unstable c) Disallowed Pvalid) (by_keeping (keeping v w) (length (full_folding c)))
stability_tells c No w v_is w_is = unstable_tells c (is_unstable-changed c (not_in_form_alone Nfkc c (sym v_is)))
stability_tells c Yes w v_is w_is = folds_tell c (full_folding c) (in_form_alone Nfkc c (sym v_is)) (ap is_no (sym v_is)) refl
stability_tells c Maybe Yes v_is w_is = folds_tell c (full_folding c) (nfkc_alone c (sym w_is)) (ap is_no (sym v_is)) refl
stability_tells c Maybe No v_is w_is = open_tells c (undecided_open c Maybe No v_is w_is (λ several. refl))
stability_tells c Maybe Maybe v_is w_is = open_tells c (undecided_open c Maybe Maybe v_is w_is (λ several. refl))

shape : (u i b j l : Bool) → cond u Disallowed (cond i Disallowed (cond b Disallowed (cond j Disallowed (cond l Pvalid Disallowed)))) ≡ cond l (cond b Disallowed (cond j Disallowed (cond i Disallowed (cond u Disallowed Pvalid)))) Disallowed
shape true true true true true = refl
shape true true true true false = refl
shape true true true false true = refl
shape true true true false false = refl
shape true true false true true = refl
shape true true false true false = refl
shape true true false false true = refl
shape true true false false false = refl
shape true false true true true = refl
shape true false true true false = refl
shape true false true false true = refl
shape true false true false false = refl
shape true false false true true = refl
shape true false false true false = refl
shape true false false false true = refl
shape true false false false false = refl
shape false true true true true = refl
shape false true true true false = refl
shape false true true false true = refl
shape false true true false false = refl
shape false true false true true = refl
shape false true false true false = refl
shape false true false false true = refl
shape false true false false false = refl
shape false false true true true = refl
shape false false true true false = refl
shape false false true false true = refl
shape false false true false false = refl
shape false false false true true = refl
shape false false false true false = refl
shape false false false false true = refl
shape false false false false false = refl

abbrev is_letter : ℕ → Bool
is_letter c = is_letter_or_digit (general_category c)

-- the lines from Unstable on
abbrev number_3 : ℕ → ℕ
number_3 c = cond (has_ignorable_property c) 0 (stability c)

abbrev number_2 : ℕ → ℕ
number_2 c = cond (is_old_hangul_jamo c) 0 (number_3 c)

abbrev number_1 : ℕ → ℕ
number_1 c = cond (is_in_ignorable_block c) 0 (number_2 c)

abbrev number_0 : ℕ → ℕ
number_0 c = cond (is_letter c) (number_1 c) 0

not_five : (n : ℕ) → n < 5 → n ≢ 5
not_five n h e = absurd (omega arith)

properties_tell : (c : ℕ) → Tells c (class_by_properties c) (number_0 c)
unfolding class_by_properties
properties_tell c =
    let D : Tells c Disallowed 0 = tells_known c 0 (not_five 0 (lit< tt)) in
    subst (λ k. Tells c k (number_0 c)) (sym (shape (is_unstable c) (has_ignorable_property c) (is_in_ignorable_block c) (is_old_hangul_jamo c) (is_letter c)))
    (tells_either c (is_letter c) _ _ (number_1 c) 0
    (tells_either c (is_in_ignorable_block c) _ _ 0 (number_2 c) D
    (tells_either c (is_old_hangul_jamo c) _ _ 0 (number_3 c) D
    (tells_either c (has_ignorable_property c) _ _ 0 (stability c) D
    (stability_tells c (quick_check Nfkc c) (quick_check Nfkd c) refl refl)))) D)

-- the lines before
abbrev line_7 : ℕ → ℕ
line_7 c = cond (is_join_control c) 2 (number_0 c)

abbrev line_6 : ℕ → ℕ
line_6 c = cond (is_ldh c) 1 (line_7 c)

abbrev line_5 : ℕ → ℕ
line_5 c = cond (is_unassigned c) 4 (line_6 c)

abbrev line_4 : ℕ → ℕ
line_4 c = cond (is_disallowed_exception c) 0 (line_5 c)

abbrev line_3 : ℕ → ℕ
line_3 c = cond (is_contexto_exception c) 3 (line_4 c)

abbrev line_2 : ℕ → ℕ
line_2 c = cond (is_pvalid_exception c) 1 (line_3 c)

abbrev line_1 : Properties → ℕ → ℕ
line_1 properties c = cond (is_left_out properties c) 0 (line_2 c)

abbrev line_0 : Properties → ℕ → ℕ
line_0 properties c = cond (is_scalar c) (line_1 properties c) 0

unfoldable pub class_number : Properties → ℕ → ℕ
class_number properties c = line_0 properties c

negated : {X : Type 0} (b : Bool) (x y : X) → cond (not b) x y ≡ cond b y x
negated true x y = refl
negated false x y = refl

pub class_tells : (properties : Properties) (c : ℕ) → Tells c (class_of properties c) (class_number properties c)
unfolding class_of class_number
class_tells properties c =
    let D : Tells c Disallowed 0 = tells_known c 0 (not_five 0 (lit< tt)) in
    let P : Tells c Pvalid 1 = tells_known c 1 (not_five 1 (lit< tt)) in
    let J : Tells c Contextj 2 = tells_known c 2 (not_five 2 (lit< tt)) in
    let O : Tells c Contexto 3 = tells_known c 3 (not_five 3 (lit< tt)) in
    let U : Tells c Unassigned 4 = tells_known c 4 (not_five 4 (lit< tt)) in
    subst (λ k. Tells c k (line_0 properties c)) (sym (negated (is_scalar c) _ _))
    (tells_either c (is_scalar c) _ _ (line_1 properties c) 0
    (tells_either c (is_left_out properties c) _ _ 0 (line_2 c) D
    (tells_either c (is_pvalid_exception c) _ _ 1 (line_3 c) P
    (tells_either c (is_contexto_exception c) _ _ 3 (line_4 c) O
    (tells_either c (is_disallowed_exception c) _ _ 0 (line_5 c) D
    (tells_either c (is_unassigned c) _ _ 4 (line_6 c) U
    (tells_either c (is_ldh c) _ _ 1 (line_7 c) P
    (tells_either c (is_join_control c) _ _ 2 (number_0 c) J (properties_tell c)))))))) D)

-- ---- its steps

abbrev either_stepped : (n : ℕ) (test : ℕ → Bool) (rest : ℕ → ℕ) → Stepped test → Stepped rest → Stepped (λ c. cond (test c) n (rest c))
either_stepped n test rest s t = zip_stepped (λ b m. cond b n m) test rest s t

ignorable_stepped : Stepped has_ignorable_property
unfolding has_ignorable_property is_default_ignorable_code_point_stepped is_white_space_stepped is_noncharacter_code_point_stepped
ignorable_stepped =
    zip_stepped (λ a b. a || b) (λ c. is_default_ignorable_code_point c || is_white_space c) is_noncharacter_code_point
    (zip_stepped (λ a b. a || b) is_default_ignorable_code_point is_white_space is_default_ignorable_code_point_stepped is_white_space_stepped)
    is_noncharacter_code_point_stepped

unassigned_stepped : Stepped is_unassigned
unfolding is_unassigned general_category_stepped is_noncharacter_code_point_stepped
unassigned_stepped =
    zip_stepped (λ v b. general_category_eq v Cn && not b) general_category is_noncharacter_code_point general_category_stepped is_noncharacter_code_point_stepped

number_0_stepped : Stepped number_0
unfolding rises_from is_letter_or_digit is_old_hangul_jamo is_in_ignorable_block general_category_stepped ignorable_stepped stability_stepped
number_0_stepped =
    let third = either_stepped 0 has_ignorable_property stability ignorable_stepped stability_stepped in
    let second = either_stepped 0 is_old_hangul_jamo number_3 (of_ranges _ refl) third in
    let first = either_stepped 0 is_in_ignorable_block number_2 (of_ranges _ refl) second in
    zip_stepped (λ v m. cond (is_letter_or_digit v) m 0) general_category number_1 general_category_stepped first

unfoldable line_2_stepped : Stepped line_2
unfolding rises_from is_pvalid_exception is_contexto_exception is_disallowed_exception is_ldh is_join_control unassigned_stepped number_0_stepped
line_2_stepped =
    let l7 = either_stepped 2 is_join_control number_0 (of_ranges _ refl) number_0_stepped in
    let l6 = either_stepped 1 is_ldh line_7 (of_ranges _ refl) l7 in
    let l5 = either_stepped 4 is_unassigned line_6 unassigned_stepped l6 in
    let l4 = either_stepped 0 is_disallowed_exception line_5 (of_ranges _ refl) l5 in
    let l3 = either_stepped 3 is_contexto_exception line_4 (of_ranges _ refl) l4 in
    either_stepped 1 is_pvalid_exception line_3 (of_ranges _ refl) l3

unfoldable pub class_number_stepped : Stepped (class_number Profile)
unfolding rises_from class_number is_scalar is_outside_profile line_2_stepped
class_number_stepped =
    let l1 = either_stepped 0 is_outside_profile line_2 (of_ranges _ refl) line_2_stepped in
    zip_stepped (λ b m. cond b m 0) is_scalar (line_1 Profile) (of_ranges _ refl) l1

-- ---- the entry of the table: what the profile leaves out has 6 more than its number by the standard

unfoldable pub table_number : ℕ → ℕ
table_number c = cond (is_outside_profile c) (class_number Unicode c + 6) (class_number Unicode c)

unfoldable pub table_number_stepped : Stepped table_number
unfolding rises_from table_number class_number is_scalar is_outside_profile line_2_stepped
table_number_stepped =
    let standard = zip_stepped (λ b m. cond b m 0) is_scalar line_2 (of_ranges _ refl) line_2_stepped in
    zip_stepped (λ b (n : ℕ). cond b (n + 6) n) is_outside_profile (class_number Unicode) (of_ranges _ refl) standard

either_below : (b : Bool) (x y : ℕ) → x < 6 → y < 6 → cond b x y < 6
either_below true x y low other = low
either_below false x y low other = other

folds_below : (n : ℕ) → by_folds n < 6
folds_below zero = lit< tt
folds_below (suc zero) = lit< tt
folds_below (suc (suc n)) = lit< tt

stability_below : (k n : ℕ) → by_keeping k n < 6
stability_below zero n = lit< tt
stability_below (suc zero) n = folds_below n
stability_below (suc (suc k)) n = lit< tt

line_2_below : (c : ℕ) → line_2 c < 6
line_2_below c =
    let none : 0 < 6 = lit< tt in
    let n3 = either_below (has_ignorable_property c) 0 (stability c) none (stability_below (keeping_of c) (length (full_folding c))) in
    let n2 = either_below (is_old_hangul_jamo c) 0 (number_3 c) none n3 in
    let n1 = either_below (is_in_ignorable_block c) 0 (number_2 c) none n2 in
    let n0 = either_below (is_letter c) (number_1 c) 0 n1 none in
    let l7 = either_below (is_join_control c) 2 (number_0 c) (lit< tt) n0 in
    let l6 = either_below (is_ldh c) 1 (line_7 c) (lit< tt) l7 in
    let l5 = either_below (is_unassigned c) 4 (line_6 c) (lit< tt) l6 in
    let l4 = either_below (is_disallowed_exception c) 0 (line_5 c) none l5 in
    let l3 = either_below (is_contexto_exception c) 3 (line_4 c) (lit< tt) l4 in
    either_below (is_pvalid_exception c) 1 (line_3 c) (lit< tt) l3

abbrev left_by : Properties → Bool → Bool
left_by Profile outside = outside
left_by Unicode outside = false

-- the number of a class by an entry, as either properties read it
read_by : (properties : Properties) (outside scalar : Bool) (n : ℕ) → n < 6
    → number_by properties (cond outside (cond scalar n 0 + 6) (cond scalar n 0)) ≡ cond scalar (cond (left_by properties outside) 0 n) 0
read_by Profile true true n low = cond-false _ _ _ (le-ltb (n + 6) 6 (omega arith))
read_by Profile true false n low = refl
read_by Profile false true n low = cond-true _ _ _ (lt-ltb n 6 low)
read_by Profile false false n low = refl
read_by Unicode true true n low = cond-false _ _ _ (le-ltb (n + 6) 6 (omega arith)) ∙ back n
  where
    back : (n : ℕ) → n + 6 - 6 ≡ n
    back n = omega arith
read_by Unicode true false n low = refl
read_by Unicode false true n low = cond-true _ _ _ (lt-ltb n 6 low)
read_by Unicode false false n low = refl

left_out-by : (properties : Properties) (c : ℕ) → left_by properties (is_outside_profile c) ≡ is_left_out properties c
left_out-by Profile c = refl
left_out-by Unicode c = refl

pub table_number-by : (properties : Properties) (c : ℕ) → number_by properties (table_number c) ≡ class_number properties c
unfolding table_number class_number
table_number-by properties c =
    read_by properties (is_outside_profile c) (is_scalar c) (line_2 c) (line_2_below c)
    ∙ ap (λ b. cond (is_scalar c) (cond b 0 (line_2 c)) 0) (left_out-by properties c)

-- ---- what the code reads

pub from_number : (properties : Properties) (c n : ℕ) → n ≡ class_number properties c → n ≢ 5 → class_from_number n ≡ class_of properties c
from_number properties c n is known = ap class_from_number is ∙ sym ((class_tells properties c).tells (λ five. known (is ∙ five)))

pub from_five : (properties : Properties) (c n : ℕ) → n ≡ class_number properties c → n ≡ 5 → class_of properties c ≡ cond (is_unstable c) Disallowed Pvalid
from_five properties c n is five = (class_tells properties c).asks (sym is ∙ five)

first_part : (b : Bool) (x y : ℕ) → y ≢ 5 → cond b x y ≡ 5 → (b ≡ true) × (x ≡ 5)
first_part true x y known h = (refl, h)
first_part false x y known h = absurd (known h)

second_part : (b : Bool) (x y : ℕ) → x ≢ 5 → cond b x y ≡ 5 → (b ≡ false) × (y ≡ 5)
second_part true x y known h = absurd (known h)
second_part false x y known h = (refl, h)

five_parts : (properties : Properties) (c : ℕ) → class_number properties c ≡ 5 → (is_pvalid_exception c ≡ false) × (is_letter c ≡ true)
unfolding class_number
five_parts properties c h =
    let l1 = (first_part (is_scalar c) (line_1 properties c) 0 (not_five 0 (lit< tt)) h).1 in
    let l2 = (second_part (is_left_out properties c) 0 (line_2 c) (not_five 0 (lit< tt)) l1).1 in
    let e = second_part (is_pvalid_exception c) 1 (line_3 c) (not_five 1 (lit< tt)) l2 in
    let l4 = (second_part (is_contexto_exception c) 3 (line_4 c) (not_five 3 (lit< tt)) e.1).1 in
    let l5 = (second_part (is_disallowed_exception c) 0 (line_5 c) (not_five 0 (lit< tt)) l4).1 in
    let l6 = (second_part (is_unassigned c) 4 (line_6 c) (not_five 4 (lit< tt)) l5).1 in
    let l7 = (second_part (is_ldh c) 1 (line_7 c) (not_five 1 (lit< tt)) l6).1 in
    let l8 = (second_part (is_join_control c) 2 (number_0 c) (not_five 2 (lit< tt)) l7).1 in
    (e.0, (first_part (is_letter c) (number_1 c) 0 (not_five 0 (lit< tt)) l8).0)

pub five_open : (properties : Properties) (c n : ℕ) → n ≡ class_number properties c → n ≡ 5 → is_left_open c ≡ true
unfolding is_left_open
five_open properties c n is five =
    let parts = five_parts properties c (sym is ∙ five) in
    ap (λ b. not b && is_letter c && is_stability_open c) parts.0
    ∙ ap (λ b. true && b && is_stability_open c) parts.1
    ∙ ap (λ b. true && true && b) ((class_tells properties c).opens (sym is ∙ five))

pub from_high : (n : ℕ) → 4 ≤ n → class_from_number n ≡ Unassigned
from_high zero h = absurd (omega arith)
from_high (suc zero) h = absurd (omega arith)
from_high (suc (suc zero)) h = absurd (omega arith)
from_high (suc (suc (suc zero))) h = absurd (omega arith)
from_high (suc (suc (suc (suc n)))) h = refl

pub class_of-no_scalar : (properties : Properties) (c : ℕ) → is_scalar c ≡ false → class_of properties c ≡ Disallowed
unfolding class_of
class_of-no_scalar properties c h = negated (is_scalar c) _ _ ∙ cond-false _ _ Disallowed h

pub is_scalar-out : (c : ℕ) → OutOfScalarRange c → is_scalar c ≡ false
unfolding is_scalar in_ranges
is_scalar-out c out = grind (arith, nat_tests)
