-- Elements that are read one after the other, each of which changes what was read before.
use Rattle.std.proofs.Common.{◌≡◌, List, [], ◌∷◌, Option, Some, None, refl, ap, ◌∙◌}
use Rattle.std.specs.Prelude.{option_map, option_and_then}
use Rattle.lgr_text.specs.declared.element.Element as held
use Rattle.lgr_text.specs.declared.element.Elements as held_elements
use Rattle.lgr_text.specs.Elements
use Rattle.lgr_text.specs.Elements.{Content, Node, each_element, with_first}
use Rattle.lgr_text.specs.inner.Reading.{AreOf, BeginsWithText, IsFirst, after_blanks, node}
use Rattle.lgr_text.proofs.ElementLemmas.{each-nothing, each-first, each-text}

-- what the elements that are left make of what was read, which was s, is the whole
pub record Folded {S X R : Type 0} (read : Node → Option X) (from : S → List X → Option R) (s : S) (rest : held_elements.Elements) (whole : Option R) : Type 0 where
  pub content : Content
  pub say : AreOf rest content
  pub all : whole ≡ option_and_then (from s) (each_element read content)

module _ {S X R : Type 0} (read : Node → Option X) (step : S → X → Option S) (from : S → List X → Option R)
    (steps : (s : S) (x : X) (xs : List X) → from s (x ∷ xs) ≡ option_and_then (λ t. from t xs) (step s x))
    (s : S) (before rest : held_elements.Elements) (whole : Option R) (f : Folded read from s before whole) where
  onto : (x : X) (o : Option (List X)) → option_and_then (from s) (with_first (Some x) o) ≡ option_and_then (λ xs. option_and_then (λ t. from t xs) (step s x)) o
  onto x None = refl
  onto x (Some xs) = steps s x xs

  goes_on : (x : X) (t : S) (o : Option (List X)) → step s x ≡ Some t → option_and_then (λ xs. option_and_then (λ t. from t xs) (step s x)) o ≡ option_and_then (from t) o
  goes_on x t None is = refl
  goes_on x t (Some xs) is = ap (option_and_then (λ t. from t xs)) is

  stops : (x : X) (o : Option (List X)) → step s x ≡ None → option_and_then (λ xs. option_and_then (λ t. from t xs) (step s x)) o ≡ None
  stops x None is = refl
  stops x (Some xs) is = ap (option_and_then (λ t. from t xs)) is

  module _ (e : held.Element) (first : IsFirst e rest (after_blanks f.content)) where
    here : whole ≡ option_and_then (from s) (with_first (read (node e first.within)) (each_element read first.more))
    here = f.all ∙ ap (option_and_then (from s)) (each-first read f.content e.name.now e.attributes.now first.within first.more first.is)

    pub fold-none : read (node e first.within) ≡ None → whole ≡ None
    fold-none is = here ∙ ap (λ o. option_and_then (from s) (with_first o (each_element read first.more))) is

    next : (x : X) → read (node e first.within) ≡ Some x → whole ≡ option_and_then (λ xs. option_and_then (λ t. from t xs) (step s x)) (each_element read first.more)
    next x is = here ∙ ap (λ o. option_and_then (from s) (with_first o (each_element read first.more))) is ∙ onto x (each_element read first.more)

    pub fold-first : (x : X) (t : S) → read (node e first.within) ≡ Some x → step s x ≡ Some t → Folded read from t rest whole
    fold-first x t is steps_to = record {
      content = first.more;
      say = first.follows;
      all = next x is ∙ goes_on x t (each_element read first.more) steps_to;
    }

    pub fold-stops : (x : X) → read (node e first.within) ≡ Some x → step s x ≡ None → whole ≡ None
    fold-stops x is none = next x is ∙ stops x (each_element read first.more) none

  pub fold-end : after_blanks f.content ≡ Elements.Nothing → whole ≡ from s []
  fold-end e = f.all ∙ ap (option_and_then (from s)) (each-nothing read f.content e)

  pub fold-text : BeginsWithText (after_blanks f.content) → whole ≡ None
  fold-text h = f.all ∙ ap (option_and_then (from s)) (each-text read f.content h)

-- ---- what is made of something that is said

pub unmapped : {X Y : Type 0} (f : X → Y) (o : Option X) → option_map f o ≡ None → o ≡ None
unmapped f None e = refl
unmapped f (Some x) e = absurd cc

pub mapped : {X Y : Type 0} (f : X → Y) (o : Option X) (y : Y) → option_map f o ≡ Some y → (x : X) × (o ≡ Some x) × (f x ≡ y)
mapped f None y e = absurd cc
mapped f (Some x) y e = (x, refl, cc)
