-- The joiners that the profile allows, the standards allow: the joining types and viramas of the profile are among Unicode's.
use Rattle.std.proofs.Common.{◌≡◌, ℕ, Bool, true, false, not, ◌||◌, ◌==◌, cond, ◌⊎◌, IsTrue, List, [], ◌∷◌, Option, Some, None, IsSomeAnd, slice_index, refl, inl, inr}
use Rattle.ucd_table.proofs.Computing.{tables}
use Rattle.ucd_table.proofs.RangedFacts.{points_ok}
use Rattle.ucd_table.proofs.Stepped.{Stepped, of_ranges, map_stepped, zip_stepped}
use Rattle.ucd_table.proofs.StepsLemmas.{rises_from}
use Rattle.unicode.specs.GeneralCategory.{general_category}
use Rattle.unicode.proofs.GeneralCategoryLemmas.{general_category_stepped}
use Rattle.ucd_bidi.specs.declared.JoiningType.{JoiningType as UnicodeJoiningType}
use Rattle.ucd_bidi.specs.JoiningType.{joining_type as unicode_joining_type}
use Rattle.ucd_bidi.proofs.JoiningTypeLemmas.{joining_type_stepped as unicode_joining_type_stepped}
use Rattle.ucd_normal.specs.CanonicalCombiningClass.{canonical_combining_class}
use Rattle.ucd_normal.proofs.CanonicalCombiningClassLemmas.{canonical_combining_class_stepped}
use Rattle.idn_class.specs.declared.joining_type.JoiningType.{JoiningType}
use Rattle.idn_class.specs.declared.joining_type.JoiningType.TheVariants.{Right, Dual, Left, Transparent, NonJoining}
use Rattle.idn_class.specs.declared.properties.Properties.TheVariants.{Profile, Unicode}
use Rattle.idn_class.specs.ContextJ.{JoinsBefore, JoinsAfter, FollowsVirama, PassesContextJ}
use Rattle.idn_class.specs.Neighbors.{before}
use Rattle.idn_class.specs.JoiningType.{is_profile_virama, is_standard_virama, right_joining, is_right_joining, dual_joining, is_dual_joining, is_nonspacing_mark, is_transparent, profile_joining_type, named_type, standard_joining_type, joins_next, joins_previous}
use Rattle.idn_class.proofs.CategoryLemmas.{none_fails}

-- ---- by code point

listed_stepped : Stepped profile_joining_type
unfolding profile_joining_type is_right_joining is_dual_joining is_transparent rises_from general_category_stepped
listed_stepped =
    let mark = map_stepped (λ v. cond (is_nonspacing_mark v) Transparent NonJoining) general_category general_category_stepped in
    let dual = zip_stepped (λ b other. cond b Dual other) is_dual_joining _ (of_ranges dual_joining refl) mark in
    zip_stepped (λ b other. cond b Right other) is_right_joining _ (of_ranges right_joining refl) dual

-- the type of the profile is that of Unicode, but where it is U
abbrev is_type : JoiningType → JoiningType → Bool
is_type NonJoining other = true
is_type Right Right = true
is_type Dual Dual = true
is_type Left Left = true
is_type Transparent Transparent = true
is_type _ _ = false

abbrev agrees : JoiningType → UnicodeJoiningType → Bool
agrees listed kit = is_type listed (named_type kit)

types_agree : (c : ℕ) → agrees (profile_joining_type c) (unicode_joining_type c) ≡ true
unfolding tables points_ok listed_stepped unicode_joining_type_stepped
types_agree = none_fails _ (zip_stepped agrees profile_joining_type unicode_joining_type listed_stepped unicode_joining_type_stepped) refl

virama_stepped : Stepped is_profile_virama
unfolding is_profile_virama rises_from
virama_stepped =
    of_ranges
    ((0x94D, 0x94D) ∷ (0x9CD, 0x9CD) ∷ (0xA4D, 0xA4D) ∷ (0xACD, 0xACD) ∷ (0xB4D, 0xB4D) ∷ (0xBCD, 0xBCD) ∷ (0xC4D, 0xC4D)
    ∷ (0xCCD, 0xCCD) ∷ (0xD4D, 0xD4D) ∷ (0xDCA, 0xDCA) ∷ []) refl

abbrev among : Bool → ℕ → Bool
among listed class = not listed || (class == 9)

viramas_agree : (c : ℕ) → among (is_profile_virama c) (canonical_combining_class c) ≡ true
unfolding tables points_ok virama_stepped canonical_combining_class_stepped
viramas_agree = none_fails _ (zip_stepped among is_profile_virama canonical_combining_class virama_stepped canonical_combining_class_stepped) refl

-- ---- what follows for the rules

joins_next-same : (t u : JoiningType) → is_type t u ≡ true → joins_next t ≡ true → joins_next u ≡ true
joins_next-same Left Left h joins = refl
joins_next-same Dual Dual h joins = refl
joins_next-same Left _ h joins = cc
joins_next-same Dual _ h joins = cc
joins_next-same Right u h joins = cc
joins_next-same Transparent u h joins = cc
joins_next-same NonJoining u h joins = cc

joins_previous-same : (t u : JoiningType) → is_type t u ≡ true → joins_previous t ≡ true → joins_previous u ≡ true
joins_previous-same Right Right h joins = refl
joins_previous-same Dual Dual h joins = refl
joins_previous-same Right _ h joins = cc
joins_previous-same Dual _ h joins = cc
joins_previous-same Left u h joins = cc
joins_previous-same Transparent u h joins = cc
joins_previous-same NonJoining u h joins = cc

transparent-same : (t u : JoiningType) → is_type t u ≡ true → t ≡ Transparent → u ≡ Transparent
transparent-same Transparent Transparent h is = refl
transparent-same Transparent _ h is = cc
transparent-same Right u h is = cc
transparent-same Left u h is = cc
transparent-same Dual u h is = cc
transparent-same NonJoining u h is = cc

by_type : (c : ℕ) → is_type (profile_joining_type c) (standard_joining_type c) ≡ true
unfolding standard_joining_type
by_type c = types_agree c

virama-both : (listed : Bool) (class : ℕ) → among listed class ≡ true → listed ≡ true → (class == 9) ≡ true
virama-both true class h is = h
virama-both false class h is = cc

by_virama : (c : ℕ) → is_profile_virama c ≡ true → is_standard_virama c ≡ true
unfolding is_standard_virama
by_virama c is = virama-both (is_profile_virama c) (canonical_combining_class c) (viramas_agree c) is

follows : (o : Option ℕ) → IsSomeAnd o (λ c. IsTrue (is_profile_virama c)) → IsSomeAnd o (λ c. IsTrue (is_standard_virama c))
follows None h = h
follows (Some c) h = by_virama c h

before-same : (label : List ℕ) (joiner : ℕ) → JoinsBefore Profile label joiner → JoinsBefore Unicode label joiner
before-same label joiner found = record {
  place = found.place;
  earlier = found.earlier;
  joins = joins_next-same _ _ (by_type (slice_index label found.place)) found.joins;
  clear = λ k low high. transparent-same _ _ (by_type (slice_index label k)) (found.clear k low high);
}

after-same : (label : List ℕ) (joiner : ℕ) → JoinsAfter Profile label joiner → JoinsAfter Unicode label joiner
after-same label joiner found = record {
  place = found.place;
  later = found.later;
  exists = found.exists;
  joins = joins_previous-same _ _ (by_type (slice_index label found.place)) found.joins;
  clear = λ k low high. transparent-same _ _ (by_type (slice_index label k)) (found.clear k low high);
}

between : (label : List ℕ) (place : ℕ)
    → FollowsVirama Profile label place ⊎ (JoinsBefore Profile label place × JoinsAfter Profile label place)
    → FollowsVirama Unicode label place ⊎ (JoinsBefore Unicode label place × JoinsAfter Unicode label place)
between label place (inl virama) = inl (follows (before label place) virama)
between label place (inr both) = inr (before-same label place both.0, after-same label place both.1)

pub joiners-standard : (label : List ℕ) → PassesContextJ Profile label → PassesContextJ Unicode label
joiners-standard label passes k within = record {
  non_joiner = λ is. between label k ((passes k within).non_joiner is);
  joiner = λ is. follows (before label k) ((passes k within).joiner is);
}
