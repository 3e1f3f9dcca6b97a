-- Reading elements one after the other.
use Rattle.std.proofs.Common.{◌≡◌, Bool, true, false, ◌&&◌, List, [], ◌∷◌, ◌++◌, Option, Some, None, refl, sym, ap, ◌∙◌}
use Rattle.std.proofs.lemmas.List.{append-nil}
use Rattle.lgr_text.specs.declared.element.Element as held
use Rattle.lgr_text.specs.declared.element.Elements as held_elements
use Rattle.lgr_text.specs.Elements
use Rattle.lgr_text.specs.Elements.{Content, Node, each_element, every_element, with_first}
use Rattle.lgr_text.specs.inner.Reading.{AreOf, BeginsWithText, IsFirst, after_blanks, node}
use Rattle.lgr_text.proofs.EachLemmas.{following, none-before, one_more}
use Rattle.lgr_text.proofs.ElementLemmas.{each-nothing, each-first, each-text, every-nothing, every-first, every-text}

-- what is read of the elements that are left follows what was read of those before
pub record Left {X : Type 0} (read : Node → Option X) (xs : List X) (rest : held_elements.Elements) (c : Content) : Type 0 where
  pub content : Content
  pub say : AreOf rest content
  pub all : each_element read c ≡ following xs (each_element read content)

pub left-init : {X : Type 0} (read : Node → Option X) (start : held_elements.Elements) (c : Content) → AreOf start c → Left read [] start c
left-init read start c say = record { content = c; say = say; all = sym (none-before (each_element read c)) }

module _ {X : Type 0} (read : Node → Option X) (xs : List X) (before rest : held_elements.Elements) (c : Content) (l : Left read xs before c) where
  pub left-first : (e : held.Element) → IsFirst e rest (after_blanks l.content) → (within : Content) × AreOf e.within within × ((x : X) → read (node e within) ≡ Some x → Left read (xs ++ x ∷ []) rest c) × (read (node e within) ≡ None → each_element read c ≡ None)
  left-first e f =
      let here = each-first read l.content e.name.now e.attributes.now f.within f.more f.is in (
        f.within,
        f.holds,
        λ x is. record {
          content = f.more;
          say = f.follows;
          all = l.all ∙ ap (following xs) here ∙ ap (λ o. following xs (with_first o (each_element read f.more))) is ∙ one_more xs x (each_element read f.more);
        },
        λ is. l.all ∙ ap (following xs) here ∙ ap (λ o. following xs (with_first o (each_element read f.more))) is,
      )

  pub left-none : after_blanks l.content ≡ Elements.Nothing → each_element read c ≡ Some xs
  left-none e = l.all ∙ ap (following xs) (each-nothing read l.content e) ∙ ap Some (append-nil xs)

  pub left-text : BeginsWithText (after_blanks l.content) → each_element read c ≡ None
  left-text h = l.all ∙ ap (following xs) (each-text read l.content h)

-- ---- what each element is

-- those before are so
pub record AllLeft (is : Node → Bool) (rest : held_elements.Elements) (c : Content) : Type 0 where
  pub content : Content
  pub say : AreOf rest content
  pub all : every_element is c ≡ every_element is content

pub all-left-init : (is : Node → Bool) (start : held_elements.Elements) (c : Content) → AreOf start c → AllLeft is start c
all-left-init is start c say = record { content = c; say = say; all = refl }

module _ (is : Node → Bool) (before rest : held_elements.Elements) (c : Content) (l : AllLeft is before c) where
  pub all-left-first : (e : held.Element) → IsFirst e rest (after_blanks l.content) → (within : Content) × AreOf e.within within × (is (node e within) ≡ true → AllLeft is rest c) × (is (node e within) ≡ false → every_element is c ≡ false)
  all-left-first e f =
      let here = every-first is l.content e.name.now e.attributes.now f.within f.more f.is in (
        f.within,
        f.holds,
        λ so. record { content = f.more; say = f.follows; all = l.all ∙ here ∙ ap (λ b. b && every_element is f.more) so },
        λ not. l.all ∙ here ∙ ap (λ b. b && every_element is f.more) not,
      )

  pub all-left-none : after_blanks l.content ≡ Elements.Nothing → every_element is c ≡ true
  all-left-none e = l.all ∙ every-nothing is l.content e

  pub all-left-text : BeginsWithText (after_blanks l.content) → every_element is c ≡ false
  all-left-text h = l.all ∙ every-text is l.content h
