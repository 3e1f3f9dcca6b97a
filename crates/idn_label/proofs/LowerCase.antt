-- Labels in lower case.
use Rattle.std.proofs.Common.{◌≡◌, ℕ, ◌≤◌, length, ◌&&◌, ◌==◌, true, not, List, [], ◌∷◌, map, get_or, refl, sym, ap, ap₂, ◌∙◌, arith}
use Rattle.std.specs.Char.{is_ascii, is_ascii_uppercase, to_ascii_lowercase}
use Rattle.std.specs.List.{list_all}
use Rattle.std.proofs.Math.ListN.{get_or-map}
use Rattle.std.proofs.lemmas.Bool.{not-true}
use Rattle.std.proofs.lemmas.Bool.Decides.{nat_tests}
use Rattle.std.proofs.lemmas.List.{length-map, drop-map}
use Rattle.std.proofs.lemmas.List.Elements.{All-weaker}
use Rattle.std.proofs.lemmas.List.Sums.{AllPass-from_list_all}
use Rattle.idna.specs.Validity.{is_all_ascii, has_ace_prefix, has_hyphens_third_and_fourth}
use Rattle.idna.proofs.Uts46Lemmas.{ace_parts, map-lowercase}
use Rattle.idna.proofs.ValidityLemmas.{has_ace_prefix_by_index}

lower_ascii : (c : ℕ) → is_ascii (to_ascii_lowercase c) ≡ is_ascii c
lower_ascii c = grind (arith, nat_tests)

-- lower case is ASCII where the label is
pub is_all_ascii-lower : (label : List ℕ) → is_all_ascii (map to_ascii_lowercase label) ≡ is_all_ascii label
is_all_ascii-lower [] = refl
is_all_ascii-lower (c ∷ label) = ap₂ (λ x y. x && y) (lower_ascii c) (is_all_ascii-lower label)

lower_no_capital : (c : ℕ) → not (is_ascii_uppercase (to_ascii_lowercase c)) ≡ true
lower_no_capital c = grind (arith, nat_tests)

-- it has no capital
pub has_no_capital-lower : (label : List ℕ) → list_all (λ c. not (is_ascii_uppercase c)) (map to_ascii_lowercase label) ≡ true
has_no_capital-lower [] = refl
has_no_capital-lower (c ∷ label) = ap₂ (λ x y. x && y) (lower_no_capital c) (has_no_capital-lower label)

-- a label without capitals is its own lower case
pub lowercase_of-lower : (label : List ℕ) → list_all (λ c. not (is_ascii_uppercase c)) label ≡ true → map to_ascii_lowercase label ≡ label
lowercase_of-lower label none =
    map-lowercase label (All-weaker _ _ (λ c h. not-true (is_ascii_uppercase c) h) label (AllPass-from_list_all (λ c. not (is_ascii_uppercase c)) label none))

hyphen-lower : (c : ℕ) → (to_ascii_lowercase c == 0x2D) ≡ (c == 0x2D)
hyphen-lower c = grind (arith, nat_tests)

pub has_ace_prefix_lower : (label : List ℕ) → has_ace_prefix (map to_ascii_lowercase label) ≡ (has_hyphens_third_and_fourth label && (to_ascii_lowercase (get_or label 0 0) == 0x78) && (to_ascii_lowercase (get_or label 1 0) == 0x6E))
has_ace_prefix_lower label =
    has_ace_prefix_by_index (map to_ascii_lowercase label)
    ∙ rw (at 0, at 1, at 2, at 3, hyphen-lower (get_or label 2 0), hyphen-lower (get_or label 3 0)) refl
  where
    at : (i : ℕ) → get_or (map to_ascii_lowercase label) i 0 ≡ to_ascii_lowercase (get_or label i 0)
    at i = get_or-map to_ascii_lowercase label i 0

-- the prefix is in lower case
pub has_ace_prefix-kept : (label : List ℕ) → has_ace_prefix label ≡ true → has_ace_prefix (map to_ascii_lowercase label) ≡ true
unfolding has_ace_prefix
has_ace_prefix-kept label prefix = ap (λ l. has_ace_prefix (map to_ascii_lowercase l)) (sym (ace_parts label prefix).0)

pub prefix_long : (label : List ℕ) → has_ace_prefix label ≡ true → (has_ace_prefix label ≡ true) × (4 ≤ length label)
prefix_long label prefix = (prefix, (ace_parts label prefix).1)

pub ruleset past_prefix = (prefix_long, length-map, drop-map)
