-- What is read of words, one after the other.
use Rattle.std.proofs.Common.{◌≡◌, ℕ, List, [], ◌∷◌, ◌++◌, Option, Some, None, refl, sym, ap, ◌∙◌, append_assoc}
use Rattle.std.specs.Prelude.{option_map, option_and_then}
use Rattle.std.proofs.lemmas.List.{append-nil}
use Rattle.lgr_text.specs.Values.{each}

-- what is read of the words that are left follows what was read before
abbrev pub following : {X : Type 0} → List X → Option (List X) → Option (List X)
following xs rest = option_map (λ ys. xs ++ ys) rest

pub none-before : {X : Type 0} (o : Option (List X)) → following [] o ≡ o
none-before None = refl
none-before (Some xs) = refl

pub one_more : {X : Type 0} (xs : List X) (x : X) (o : Option (List X)) → following xs (option_map (λ ys. x ∷ ys) o) ≡ following (xs ++ x ∷ []) o
one_more xs x None = refl
one_more xs x (Some ys) = ap Some (sym (append_assoc xs (x ∷ []) ys))

module _ {X : Type 0} (read : List ℕ → Option X) (xs : List X) (ws rest : List (List ℕ)) (w : List ℕ) (cut : ws ≡ w ∷ rest) where
  pub each-more : (x : X) (all : Option (List X)) → read w ≡ Some x → following xs (each read ws) ≡ all → following (xs ++ x ∷ []) (each read rest) ≡ all
  each-more x all is e =
      sym (one_more xs x (each read rest)) ∙ sym (ap (λ o. following xs (option_and_then (λ y. option_map (λ ys. y ∷ ys) (each read rest)) o)) is)
      ∙ sym (ap (λ l. following xs (each read l)) cut) ∙ e

  pub each-none : (all : Option (List X)) → read w ≡ None → following xs (each read ws) ≡ all → None ≡ all
  each-none all is e =
      sym (ap (λ o. following xs (option_and_then (λ y. option_map (λ ys. y ∷ ys) (each read rest)) o)) is)
      ∙ sym (ap (λ l. following xs (each read l)) cut) ∙ e

ended : {X : Type 0} (xs : List X) → following xs (Some []) ≡ Some xs
ended xs = ap Some (append-nil xs)

-- at the end
pub each-all : {X : Type 0} (read : List ℕ → Option X) (xs : List X) (ws : List (List ℕ)) (all : Option (List X)) → ws ≡ [] → following xs (each read ws) ≡ all → Some xs ≡ all
each-all read xs ws all none e = sym (ended xs) ∙ sym (ap (λ l. following xs (each read l)) none) ∙ e
