-- Which elements say which rules and parts of rules (RFC 7940, sections 6.3 and 6.4, and the schema of its appendix D).
use Rattle.std.specs.Prelude.{ℕ, zero, suc, Option, Some, None, List, codes, bytes_eq, option_map, option_and_then}
use Rattle.std.specs.Prelude.{if◌then◌else◌}
use Rattle.xml_text.specs.Attributes.{Attribute}
use Rattle.lgr_text.specs.Attributes.{value}
use Rattle.lgr_text.specs.Classes.{class_of}
use Rattle.lgr_text.specs.Elements.{Content, Node, each_element, if_among, if_plain}
use Rattle.lgr_text.specs.Entries.{sequence_by}
use Rattle.lgr_text.specs.Orders.{Item, in_order}
use Rattle.lgr_text.specs.Records as records
use Rattle.lgr_text.specs.Records.{Part, Literal, Of, OfRule, Times}
use Rattle.lgr_text.specs.Values.{name_of, count}
use Rattle.lgr_text.specs.declared.classes.ClassPlace.TheVariants.{InRule}
use Rattle.lgr_text.specs.declared.names.NameKind.TheVariants.{Identifier}
use Rattle.lgr_text.specs.declared.orders.Order.{Order}
use Rattle.lgr_text.specs.declared.orders.Order.TheVariants as order
use Rattle.lgr_text.specs.declared.orders.Role.{Role}
use Rattle.lgr_text.specs.declared.orders.Role.TheVariants as role
use Rattle.lgr_text.specs.declared.rule_elements.HolderElement.{HolderElement}
use Rattle.lgr_text.specs.declared.rule_elements.HolderElement.TheVariants as holder
use Rattle.lgr_text.specs.declared.rule_elements.PlainElement.{PlainElement}
use Rattle.lgr_text.specs.declared.rule_elements.PlainElement.TheVariants as plain
use Rattle.lgr_text.specs.declared.rule_elements.RuleElement.{RuleElement}
use Rattle.lgr_text.specs.declared.rule_elements.RuleElement.TheVariants.{ClassOrSet, Plain, Holder}

-- ---- the elements in a rule (section 6.3.2)

-- a rule by the name of another (section 6.3.4), or by what is in it
abbrev pub rule_by : Option (List ℕ) → RuleElement
rule_by None = Holder holder.Rule
rule_by (Some name) = Plain plain.RuleByName

-- what has none of these names has to be a class or a set operator
abbrev pub rule_element : List ℕ → List Attribute → RuleElement
rule_element name attributes =
    if bytes_eq name (codes "char") then Plain plain.Char else
    if bytes_eq name (codes "any") then Plain plain.Any else
    if bytes_eq name (codes "rule") then rule_by (value attributes (codes "by-ref")) else
    if bytes_eq name (codes "choice") then Holder holder.Choice else
    if bytes_eq name (codes "start") then Plain plain.Start else
    if bytes_eq name (codes "end") then Plain plain.End else
    if bytes_eq name (codes "anchor") then Plain plain.Anchor else
    if bytes_eq name (codes "look-behind") then Holder holder.LookBehind else
    if bytes_eq name (codes "look-ahead") then Holder holder.LookAhead else ClassOrSet

-- what they are to the order
abbrev pub plain_role : PlainElement → Role
plain_role plain.Char = role.Matcher
plain_role plain.Any = role.Matcher
plain_role plain.RuleByName = role.Matcher
plain_role plain.Start = role.Start
plain_role plain.End = role.End
plain_role plain.Anchor = role.Anchor

abbrev pub holder_role : HolderElement → Role
holder_role holder.Rule = role.Matcher
holder_role holder.Choice = role.Matcher
holder_role holder.LookBehind = role.LookBehind
holder_role holder.LookAhead = role.LookAhead

abbrev pub role_of : RuleElement → Role
role_of ClassOrSet = role.Matcher
role_of (Plain p) = plain_role p
role_of (Holder h) = holder_role h

-- in which order parts stand in them
abbrev pub order_in : HolderElement → Order
order_in holder.Rule = order.OfRule
order_in holder.Choice = order.OfChoice
order_in holder.LookBehind = order.OfLook
order_in holder.LookAhead = order.OfLook

-- their attributes: what matches may be counted (section 6.3.3)
abbrev pub plain_names : PlainElement → List ℕ
plain_names plain.Char = codes "cp count comment ref"
plain_names plain.Any = codes "count comment ref"
plain_names plain.RuleByName = codes "by-ref count comment ref"
plain_names plain.Start = codes "comment ref"
plain_names plain.End = codes "comment ref"
plain_names plain.Anchor = codes "comment ref"

abbrev pub holder_names : HolderElement → List ℕ
holder_names holder.Rule = codes "count comment ref"
holder_names holder.Choice = codes "count comment ref"
holder_names holder.LookBehind = codes "comment ref"
holder_names holder.LookAhead = codes "comment ref"

-- ---- what they say

-- code points (section 6.3.6), any code point (section 6.3.7), a rule by its name (section 6.3.4), the start or the end
-- of a label (section 6.3.8), or the anchor (section 6.4.1)
abbrev pub plain_part : PlainElement → List Attribute → Option Part
plain_part plain.Char attributes = option_map Literal (sequence_by attributes)
plain_part plain.Any attributes = Some records.Any
plain_part plain.RuleByName attributes =
    option_map OfRule (option_and_then (name_of Identifier) (value attributes (codes "by-ref")))
plain_part plain.Start attributes = Some records.Start
plain_part plain.End attributes = Some records.End
plain_part plain.Anchor attributes = Some records.Anchor

abbrev pub part_as : RuleElement → Option Part → (Content → Option (List Item)) → Node → Option Part
part_as ClassOrSet class items node = class
part_as (Plain p) class items node = if_plain (plain_names p) node (plain_part p node.attributes)
part_as (Holder h) class items node =
    if_among (holder_names h) node (option_and_then (in_order (order_in h)) (items node.within))

-- so many times (section 6.3.3), or once
abbrev pub counted : Option (List ℕ) → Part → Option Part
counted None p = Some p
counted (Some text) p = option_map (λ n. Times n p) (count text)

abbrev pub item_as : Node → Option Part → Option Item
item_as node part =
    option_map (λ p. record { role = role_of (rule_element node.name node.attributes); part = p })
    (option_and_then (counted (value node.attributes (codes "count"))) part)

-- what an element in a rule says, of at most so many levels of elements, without its count
unfoldable pub part_of : ℕ → Node → Option Part
part_of zero node = None
part_of (suc levels) node =
    part_as (rule_element node.name node.attributes) (option_map Of (class_of (suc levels) InRule node))
    (each_element (λ n. item_as n (part_of levels n))) node

abbrev pub item_of : ℕ → Node → Option Item
item_of levels node = item_as node (part_of levels node)

-- a rule directly below 'rules', which has a name (section 6.3.1)
abbrev pub rule_of : ℕ → Node → Option Part
rule_of levels node =
    if_among (codes "name comment ref") node
    (option_and_then (in_order order.OfRule) (each_element (item_of levels) node.within))
