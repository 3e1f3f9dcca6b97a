-- No label that is valid under a table begins with a list that is dead.
use Rattle.std.proofs.Common.{◌≡◌, ◌⊎◌, inl, inr, ◌++◌, ◌&&◌, ◌||◌, ℕ, List, [], ◌∷◌, Bool, true, false, not, take, length, refl, sym, ap, ◌∙◌, arith}
use Rattle.std.proofs.Math.Seq.{take-append_seam}
use Rattle.std.proofs.lemmas.List.{length-append}
use Rattle.idn_class.specs.declared.properties.Properties.{Properties}
use Rattle.idn_class.specs.DeadPrefixes.{hopeless}
use Rattle.idn_label.proofs.DeadPrefixLemmas.{none_hopeless}
use Rattle.variant_table.specs.Entries.{TableValue}
use Rattle.valid_labels.specs.Tests.{allows_any_cut, is_dead_under, is_valid}
use Rattle.variant_list.specs.Beginnings.{has_no_dead_prefix}
use Rattle.variant_list.proofs.BeginningLemmas.{alive-gives}
use Rattle.idn2_answers.specs.Listings.{is_registrable, ruled_labels}

pub not-left : (a b : Bool) → a ≡ false → (a && b) ≡ false
not-left false b h = refl
not-left true b h = cc

pub not-right : (a b : Bool) → b ≡ false → (a && b) ≡ false
not-right true b h = h
not-right false b h = refl

one-of : (a b : Bool) → (a || b) ≡ true → (a ≡ true) ⊎ (b ≡ true)
one-of true b h = inl refl
one-of false b h = inr h

unless-true : (b : Bool) → (b ≡ true → ⊥) → b ≡ false
unless-true true h = absurd (h refl)
unless-true false h = refl

-- a label that begins with a dead list has a dead prefix
dead_beginning : (dead : List ℕ → Bool) (w z : List ℕ) → dead [] ≡ false → dead w ≡ true → has_no_dead_prefix dead (w ++ z) ≡ false
dead_beginning dead [] z none is = let clash : false ≡ true = sym none ∙ is in cc
dead_beginning dead (c ∷ w) z none is = unless-true (has_no_dead_prefix dead ((c ∷ w) ++ z)) clash
  where
    at_it : dead (take (length (c ∷ w)) ((c ∷ w) ++ z)) ≡ true
    at_it = ap dead (take-append_seam (c ∷ w) z) ∙ is

    clash : has_no_dead_prefix dead ((c ∷ w) ++ z) ≡ true → ⊥
    clash h =
        let clear : dead (take (length (c ∷ w)) ((c ∷ w) ++ z)) ≡ false = alive-gives dead ((c ∷ w) ++ z) h (length (c ∷ w)) (omega arith) (omega (arith, length-append (c ∷ w) z)) in
        let bad : false ≡ true = sym clear ∙ at_it in cc

pub ruled-for_good : (properties : Properties) (table : TableValue) (w z : List ℕ) → (ruled_labels properties table).hopeless w ≡ true → (ruled_labels properties table).accepts (w ++ z) ≡ false
ruled-for_good properties table w z is = elim (one-of (hopeless properties w) (is_dead_under table w) is) [
  | inl h ↦ not-left (is_registrable properties (w ++ z)) _ (none_hopeless properties w z h)
  | inr l ↦ not-right (is_registrable properties (w ++ z)) _ (not-right (is_valid table (w ++ z)) _ (dead_beginning (is_dead_under table) w z (not-right (not (allows_any_cut table)) _ refl) l))
]
