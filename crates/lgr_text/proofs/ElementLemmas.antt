-- What is read of elements, one after the other.
use Rattle.std.proofs.Common.{◌≡◌, ℕ, Bool, true, false, cond, ◌&&◌, List, [], Option, Some, None, refl, sym, ap, ◌∙◌}
use Rattle.xml_text.specs.Attributes.{Attribute}
use Rattle.lgr_text.specs.Elements
use Rattle.lgr_text.specs.Elements.{Content, Node, each_element, every_element, is_blank_text, with_first}
use Rattle.lgr_text.specs.inner.Reading.{BeginsWithText, after_blanks}

module _ {X : Type 0} (read : Node → Option X) where
  text_step : (text : List ℕ) (more : Content) (b : Bool) → is_blank_text text ≡ b → each_element read (after_blanks more) ≡ each_element read more → each_element read (cond b (after_blanks more) (Elements.Text text more)) ≡ each_element read (Elements.Text text more)
  unfolding each_element
  text_step text more true e rest = rest ∙ sym (ap (λ b. cond b (each_element read more) None) e)
  text_step text more false e rest = refl

  -- blanks say nothing
  each-blanks : (c : Content) → each_element read (after_blanks c) ≡ each_element read c
  each-blanks Elements.Nothing = refl
  each-blanks (Elements.Text text more) = text_step text more (is_blank_text text) refl (each-blanks more)
  each-blanks (Elements.Element name attributes within more) = refl

  none_of_nothing : each_element read Elements.Nothing ≡ Some []
  unfolding each_element
  none_of_nothing = refl

  first_of_element : (name : List ℕ) (attributes : List Attribute) (within more : Content) → each_element read (Elements.Element name attributes within more) ≡ with_first (read (record { name = name; attributes = attributes; within = within })) (each_element read more)
  unfolding each_element
  first_of_element name attributes within more = refl

  pub each-nothing : (c : Content) → after_blanks c ≡ Elements.Nothing → each_element read c ≡ Some []
  each-nothing c e = sym (each-blanks c) ∙ ap (each_element read) e ∙ none_of_nothing

  pub each-first : (c : Content) (name : List ℕ) (attributes : List Attribute) (within more : Content) → after_blanks c ≡ Elements.Element name attributes within more → each_element read c ≡ with_first (read (record { name = name; attributes = attributes; within = within })) (each_element read more)
  each-first c name attributes within more e = sym (each-blanks c) ∙ ap (each_element read) e ∙ first_of_element name attributes within more

not_blank_step : (text : List ℕ) (more : Content) (b : Bool) → is_blank_text text ≡ b → (BeginsWithText (after_blanks more) → (t : List ℕ) (m : Content) → after_blanks more ≡ Elements.Text t m → is_blank_text t ≡ false) → (t : List ℕ) (m : Content) → cond b (after_blanks more) (Elements.Text text more) ≡ Elements.Text t m → is_blank_text t ≡ false
not_blank_step text more true e rest t m is = rest (record { text = t; more = m; is = is }) t m is
not_blank_step text more false e rest t m is = let same : text ≡ t = cc in ap is_blank_text (sym same) ∙ e

not-blank : (c : Content) (t : List ℕ) (m : Content) → after_blanks c ≡ Elements.Text t m → is_blank_text t ≡ false
not-blank Elements.Nothing t m e = absurd cc
not-blank (Elements.Text text more) t m e = not_blank_step text more (is_blank_text text) refl (λ _. not-blank more) t m e
not-blank (Elements.Element name attributes within more) t m e = absurd cc

module _ {X : Type 0} (read : Node → Option X) where
  text_is_none : (t : List ℕ) (m : Content) → is_blank_text t ≡ false → each_element read (Elements.Text t m) ≡ None
  unfolding each_element
  text_is_none t m e = ap (λ b. cond b (each_element read m) None) e

  pub each-text : (c : Content) → BeginsWithText (after_blanks c) → each_element read c ≡ None
  each-text c h = sym (each-blanks read c) ∙ ap (each_element read) h.is ∙ text_is_none h.text h.more (not-blank c h.text h.more h.is)

-- ---- what each element is

module _ (is : Node → Bool) where
  is_text_step : (text : List ℕ) (more : Content) (b : Bool) → is_blank_text text ≡ b → every_element is (after_blanks more) ≡ every_element is more → every_element is (cond b (after_blanks more) (Elements.Text text more)) ≡ every_element is (Elements.Text text more)
  unfolding every_element
  is_text_step text more true e rest = rest ∙ sym (ap (λ b. b && every_element is more) e)
  is_text_step text more false e rest = refl

  every-blanks : (c : Content) → every_element is (after_blanks c) ≡ every_element is c
  every-blanks Elements.Nothing = refl
  every-blanks (Elements.Text text more) = is_text_step text more (is_blank_text text) refl (every-blanks more)
  every-blanks (Elements.Element name attributes within more) = refl

  nothing_is : every_element is Elements.Nothing ≡ true
  unfolding every_element
  nothing_is = refl

  element_is : (name : List ℕ) (attributes : List Attribute) (within more : Content) → every_element is (Elements.Element name attributes within more) ≡ (is (record { name = name; attributes = attributes; within = within }) && every_element is more)
  unfolding every_element
  element_is name attributes within more = refl

  text_is_not : (t : List ℕ) (m : Content) → is_blank_text t ≡ false → every_element is (Elements.Text t m) ≡ false
  unfolding every_element
  text_is_not t m e = ap (λ b. b && every_element is m) e

  pub every-nothing : (c : Content) → after_blanks c ≡ Elements.Nothing → every_element is c ≡ true
  every-nothing c e = sym (every-blanks c) ∙ ap (every_element is) e ∙ nothing_is

  pub every-first : (c : Content) (name : List ℕ) (attributes : List Attribute) (within more : Content) → after_blanks c ≡ Elements.Element name attributes within more → every_element is c ≡ (is (record { name = name; attributes = attributes; within = within }) && every_element is more)
  every-first c name attributes within more e = sym (every-blanks c) ∙ ap (every_element is) e ∙ element_is name attributes within more

  pub every-text : (c : Content) → BeginsWithText (after_blanks c) → every_element is c ≡ false
  every-text c h = sym (every-blanks c) ∙ ap (every_element is) h.is ∙ text_is_not h.text h.more (not-blank c h.text h.more h.is)
