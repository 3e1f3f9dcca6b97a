-- Which elements say which classes (RFC 7940, section 6.2, and the schema of its appendix D).
use Rattle.std.specs.Prelude.{ℕ, zero, suc, Bool, ◌==◌, nat_le, Option, Some, None, List, [], ◌∷◌, length, codes}
use Rattle.std.specs.Prelude.{bytes_eq, option_map, option_and_then, if◌then◌else◌}
use Rattle.xml_text.specs.Attributes.{Attribute}
use Rattle.lgr_text.specs.Attributes.{value}
use Rattle.lgr_text.specs.Elements.{Content, Node, each_element, if_among, if_plain, is_blank_text, text_of}
use Rattle.lgr_text.specs.Nested.{nested}
use Rattle.lgr_text.specs.Records.{Class, Listed, OfTag, OfProperty, OfClass, Joined, Complement}
use Rattle.lgr_text.specs.Values.{name_of, spans}
use Rattle.lgr_text.specs.declared.names.NameKind.TheVariants.{Identifier, Token}
use Rattle.lgr_text.specs.declared.classes.ClassElement.{ClassElement}
use Rattle.lgr_text.specs.declared.classes.ClassElement.TheVariants as element
use Rattle.lgr_text.specs.declared.classes.ClassPlace.{ClassPlace}
use Rattle.lgr_text.specs.declared.classes.ClassPlace.TheVariants.{OfRules, InRule, InSet}
use Rattle.lgr_text.specs.declared.joins.SetOperation.{SetOperation}
use Rattle.lgr_text.specs.declared.joins.SetOperation.TheVariants.{Union, Intersection, Difference, SymmetricDifference}

-- a class or a set operator
abbrev pub class_element : List ℕ → Option ClassElement
class_element name =
    if bytes_eq name (codes "class") then Some element.Class else
    if bytes_eq name (codes "union") then Some (element.Joined Union) else
    if bytes_eq name (codes "intersection") then Some (element.Joined Intersection) else
    if bytes_eq name (codes "difference") then Some (element.Joined Difference) else
    if bytes_eq name (codes "symmetric-difference") then Some (element.Joined SymmetricDifference) else
    if bytes_eq name (codes "complement") then Some element.Complement else None

-- ---- attributes: a name directly below 'rules' (section 6.2.1), and a count in a rule (section 6.3.3)

-- those of a class that says by itself what it is
abbrev pub class_names : ClassPlace → List ℕ
class_names OfRules = codes "name from-tag property comment ref"
class_names InRule = codes "count from-tag property comment ref"
class_names InSet = codes "from-tag property comment ref"

-- those of one that refers to a class with a name
abbrev pub reference_names : ClassPlace → List ℕ
reference_names OfRules = codes "by-ref comment"
reference_names InRule = codes "by-ref count comment"
reference_names InSet = codes "by-ref comment"

-- those of a set operator
abbrev pub set_names : ClassPlace → List ℕ
set_names OfRules = codes "name comment ref"
set_names InRule = codes "count comment ref"
set_names InSet = codes "comment ref"

-- ---- classes

-- by a tag (section 6.2.2), by a property (section 6.2.3) or by code points (section 6.2.4)
abbrev pub class_by : Option (List ℕ) → Option (List ℕ) → List ℕ → Option Class
class_by None None text = option_map Listed (spans text)
class_by (Some tag) None text = if is_blank_text text then option_map OfTag (name_of Token tag) else None
class_by None (Some property) text = if is_blank_text text then option_map OfProperty (name_of Token property) else None
class_by (Some tag) (Some property) text = None

-- what its attributes and its text say
abbrev pub class_in : List Attribute → List ℕ → Option Class
class_in attributes text = class_by (value attributes (codes "from-tag")) (value attributes (codes "property")) text

-- directly below 'rules' a class refers to no other
abbrev pub referring : ClassPlace → List Attribute → Option (List ℕ)
referring OfRules attributes = None
referring InRule attributes = value attributes (codes "by-ref")
referring InSet attributes = value attributes (codes "by-ref")

-- that of a name (section 6.2.1), or one that says by itself what it is
abbrev pub simple_class : ClassPlace → Node → Option (List ℕ) → Option Class
simple_class place node (Some name) =
    if_plain (reference_names place) node (option_map OfClass (name_of Identifier name))
simple_class place node None =
    if_among (class_names place) node (option_and_then (class_in node.attributes) (text_of node.within))

-- ---- sets (section 6.2.5)

-- a union is of two or more, and each other operation is of two
abbrev pub takes : SetOperation → ℕ → Bool
takes Union n = nat_le 2 n
takes Intersection n = n == 2
takes Difference n = n == 2
takes SymmetricDifference n = n == 2

abbrev pub joined : SetOperation → List Class → Option Class
joined operation ks = if takes operation (length ks) then nested (Joined operation) ks else None

-- of one
abbrev pub complement : List Class → Option Class
complement [] = None
complement (k ∷ []) = Some (Complement k)
complement (k ∷ m ∷ ks) = None

-- ---- elements

-- the sets in a set operator
abbrev pub sets_in : (Content → Option (List Class)) → ClassPlace → Node → Option (List Class)
sets_in sets place node = if_among (set_names place) node (sets node.within)

abbrev pub class_as : Option ClassElement → (Content → Option (List Class)) → ClassPlace → Node → Option Class
class_as None sets place node = None
class_as (Some element.Class) sets place node = simple_class place node (referring place node.attributes)
class_as (Some (element.Joined operation)) sets place node =
    option_and_then (joined operation) (sets_in sets place node)
class_as (Some element.Complement) sets place node = option_and_then complement (sets_in sets place node)

-- the class that an element says, of at most so many levels of elements
unfoldable pub class_of : ℕ → ClassPlace → Node → Option Class
class_of zero place node = None
class_of (suc levels) place node =
    class_as (class_element node.name) (each_element (class_of levels InSet)) place node
