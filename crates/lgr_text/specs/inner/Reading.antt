-- How elements are read from tokens.
use Rattle.std.specs.Prelude.{◌≡◌, ℕ, ◌+◌, ◌-◌, Bool, true, false, ◌==◌, Option, Some, None, List, [], ◌∷◌, Result, Ok}
use Rattle.std.specs.Prelude.{Err, option_map, if◌then◌else◌}
use Rattle.lgr_text.specs.declared.element.Element as held
use Rattle.lgr_text.specs.declared.element.Elements as held_elements
use Rattle.lgr_text.specs.declared.fault.ReadError.{ReadError}
use Rattle.lgr_text.specs.declared.fault.ReadError.TheVariants.{Wrong, Limit, Memory}
use Rattle.lgr_text.specs.Elements
use Rattle.lgr_text.specs.Elements.{Content, Node, Say, is_blank_text}
use Rattle.xml_text.specs.Tokens
use Rattle.xml_text.specs.Tokens.{Said}

-- how many tokens stand before the end tag of an element in which so many elements are open
abbrev pub closes : ℕ → List Said → Option ℕ
closes open_ [] = None
closes open_ (Tokens.Open name attributes ∷ ts) = option_map (λ n. n + 1) (closes (open_ + 1) ts)
closes open_ (Tokens.Text text ∷ ts) = option_map (λ n. n + 1) (closes open_ ts)
closes open_ (Tokens.Close ∷ ts) =
    if open_ == 0 then Some 0 else option_map (λ n. n + 1) (closes (open_ - 1) ts)

-- a start tag, or the beginning of an empty element
abbrev pub is_open : Said → Bool
is_open (Tokens.Open name attributes) = true
is_open (Tokens.Text text) = false
is_open Tokens.Close = false

-- what stands between two tags
abbrev pub is_text : Said → Bool
is_text (Tokens.Open name attributes) = false
is_text (Tokens.Text text) = true
is_text Tokens.Close = false

-- a text of blanks
abbrev pub is_blank_said : Said → Bool
is_blank_said (Tokens.Open name attributes) = false
is_blank_said (Tokens.Text text) = is_blank_text text
is_blank_said Tokens.Close = false

-- what follows the blanks at the front
abbrev pub after_blanks : Content → Content
after_blanks Elements.Nothing = Elements.Nothing
after_blanks (Elements.Text text rest) =
    if is_blank_text text then after_blanks rest else Elements.Text text rest
after_blanks (Elements.Element name attributes within rest) = Elements.Element name attributes within rest

-- the tokens that are left say this content
abbrev pub AreOf : held_elements.Elements → Content → Type 0
AreOf elements content = Say elements.prefix.now elements.tokens.now content

-- the element with this content
abbrev pub node : held.Element → Content → Node
node element within = record { name = element.name.now; attributes = element.attributes.now; within = within }

-- the element, and what follows it
pub record IsFirst (element : held.Element) (rest : held_elements.Elements) (content : Content) : Type 0 where
  pub within : Content
  pub more : Content
  pub is : content ≡ Elements.Element element.name.now element.attributes.now within more
  pub holds : AreOf element.within within
  pub follows : AreOf rest more

pub record BeginsWithText (content : Content) : Type 0 where
  pub text : List ℕ
  pub more : Content
  pub is : content ≡ Elements.Text text more

-- the next element, or none
abbrev pub NextIs : held_elements.Elements → Content → Result (Option held.Element) ReadError → Type 0
NextIs rest content (Ok None) = content ≡ Elements.Nothing
NextIs rest content (Ok (Some element)) = IsFirst element rest content
NextIs rest content (Err (Wrong line)) = BeginsWithText content
NextIs rest content (Err (Limit line)) = ⊥
NextIs rest content (Err Memory) = Unit {0}

-- ---- what is read, and what is wrong

-- nothing is said, unless memory was refused
abbrev pub Fails : {X : Type 0} → Option X → ReadError → Type 0
Fails said (Wrong line) = said ≡ None
Fails said (Limit line) = ⊥
Fails said Memory = Unit {0}

-- what is read is what is said, and something is wrong exactly where nothing is said
abbrev pub Reads : {T X : Type 0} → (T → X) → Option X → Result T ReadError → Type 0
Reads view said (Ok read) = said ≡ Some (view read)
Reads view said (Err error) = Fails said error

-- it isn't so, unless memory was refused
abbrev pub IsNot : Bool → ReadError → Type 0
IsNot is (Wrong line) = is ≡ false
IsNot is (Limit line) = ⊥
IsNot is Memory = Unit {0}

-- something is wrong exactly where it isn't so
abbrev pub Checks : {T : Type 0} → Bool → Result T ReadError → Type 0
Checks is (Ok done) = is ≡ true
Checks is (Err error) = IsNot is error

-- there are too many elements in one exactly where it is so, and nothing else is wrong
abbrev pub IsWithinLimit : {T : Type 0} → Bool → Result T ReadError → Type 0
IsWithinLimit exceeds (Ok done) = exceeds ≡ false
IsWithinLimit exceeds (Err (Wrong line)) = ⊥
IsWithinLimit exceeds (Err (Limit line)) = exceeds ≡ true
IsWithinLimit exceeds (Err Memory) = ⊥
