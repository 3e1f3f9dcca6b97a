-- What a ruleset says (RFC 7940). Names are bytes in UTF-8; they stand for what they name elsewhere.
use Rattle.std.specs.Prelude.{ℕ, List, Option, map}
use Rattle.std.specs.Option.{option_map}
use Rattle.label_patterns.specs.declared.condition.ConditionKind.{ConditionKind}
use Rattle.label_patterns.specs.declared.span.Span.{Span}
use Rattle.ruleset_text.specs.declared.action.TriggerKind.{TriggerKind}
use Rattle.lgr_text.specs.declared.joins.SetOperation.{SetOperation}
use Rattle.lgr_text.specs.declared.records.Action as held_action
use Rattle.lgr_text.specs.declared.records.ClassTree.{ClassTree}
use Rattle.lgr_text.specs.declared.records.ClassTree.TheVariants as tree
use Rattle.lgr_text.specs.declared.records.Condition as held_condition
use Rattle.lgr_text.specs.declared.records.Count.{Count}
use Rattle.lgr_text.specs.declared.records.Definition as held_definition
use Rattle.lgr_text.specs.declared.records.Entry as held_entry
use Rattle.lgr_text.specs.declared.records.Meaning as held_meaning
use Rattle.lgr_text.specs.declared.records.Meaning.TheVariants as means
use Rattle.lgr_text.specs.declared.records.PartTree.{PartTree}
use Rattle.lgr_text.specs.declared.records.PartTree.TheVariants as part_tree
use Rattle.lgr_text.specs.declared.records.Ruleset as held_ruleset
use Rattle.lgr_text.specs.declared.records.Source as held_source
use Rattle.lgr_text.specs.declared.records.Source.TheVariants as source_of
use Rattle.lgr_text.specs.declared.records.Trigger as held_trigger
use Rattle.lgr_text.specs.declared.records.Variant as held_variant

-- ---- what is said

-- a class (section 6.2): code points and ranges; the code points of entries with a tag; those with a property and
-- value, as 'gc:Mn'; those of the class of a name; what an operation makes of two sets; and those that aren't in a set
pub data Class : Type 0 where
  Listed : List Span → Class
  OfTag : List ℕ → Class
  OfProperty : List ℕ → Class
  OfClass : List ℕ → Class
  Joined : SetOperation → Class → Class → Class
  Complement : Class → Class

-- a rule or a part of one (sections 6.3 and 6.4). What looks behind or ahead stands before or after the anchor
pub data Part : Type 0 where
  Literal : List ℕ → Part
  Any : Part
  Of : Class → Part
  Start : Part
  End : Part
  Anchor : Part
  OfRule : List ℕ → Part
  Then : Part → Part → Part
  Choice : Part → Part → Part
  Times : Count → Part → Part

-- a condition of an entry or a variant (section 5.2) or of an action (section 7.1), by the name of its rule
pub record Condition : Type 0 where
  pub kind : ConditionKind
  pub rule : List ℕ

-- a variant (section 5.3)
pub record Variant : Type 0 where
  pub points : List ℕ
  pub type_name : Option (List ℕ)
  pub condition : Option Condition

-- a sequence of code points, or a range, which is an entry for each code point in it (section 5)
pub data Source : Type 0 where
  Sequence : List ℕ → Source
  Range : Span → Source

-- an entry of the repertoire (section 5)
pub record Entry : Type 0 where
  pub source : Source
  pub condition : Option Condition
  pub tags : List (List ℕ)
  pub variants : List Variant

-- the types that an action asks for (section 7.2)
pub record Trigger : Type 0 where
  pub kind : TriggerKind
  pub types : List (List ℕ)

-- an action (section 7), with its disposition as it is written
pub record Action : Type 0 where
  pub disposition : List ℕ
  pub condition : Option Condition
  pub trigger : Option Trigger

-- what a name stands for
pub data Meaning : Type 0 where
  IsClass : Class → Meaning
  IsRule : Part → Meaning

pub record Definition : Type 0 where
  pub name : List ℕ
  pub meaning : Meaning

-- each list in the order of the file
pub record Ruleset : Type 0 where
  pub entries : List Entry
  pub definitions : List Definition
  pub actions : List Action

-- ---- what is held in memory

abbrev pub class : ClassTree → Class
class (tree.Listed spans) = Listed spans.items
class (tree.OfTag r) = OfTag r.name
class (tree.OfProperty r) = OfProperty r.name
class (tree.OfClass r) = OfClass r.name
class (tree.Joined' operation b k c m) = Joined operation (class k) (class m)
class (tree.Complement' b k) = Complement (class k)

abbrev pub part : PartTree → Part
part (part_tree.Literal points) = Literal points.items
part part_tree.Any = Any
part (part_tree.Of k) = Of (class k)
part part_tree.Start = Start
part part_tree.End = End
part part_tree.Anchor = Anchor
part (part_tree.OfRule r) = OfRule r.name
part (part_tree.Then' b p c q) = Then (part p) (part q)
part (part_tree.Choice' b p c q) = Choice (part p) (part q)
part (part_tree.Times' n b p) = Times n (part p)

abbrev pub condition : held_condition.Condition → Condition
condition c = record { kind = c.kind; rule = c.rule.name }

abbrev pub variant : held_variant.Variant → Variant
variant v = record {
  points = v.points.items;
  type_name = v.type_name;
  condition = option_map condition v.condition;
}

abbrev pub source : held_source.Source → Source
source (source_of.Sequence points) = Sequence points.items
source (source_of.Range span) = Range span

abbrev pub entry : held_entry.Entry → Entry
entry e = record {
  source = source e.source;
  condition = option_map condition e.condition;
  tags = e.tags.items;
  variants = map variant e.variants.items;
}

abbrev pub trigger : held_trigger.Trigger → Trigger
trigger t = record { kind = t.kind; types = t.types.items }

abbrev pub action : held_action.Action → Action
action a = record {
  disposition = a.disposition;
  condition = option_map condition a.condition;
  trigger = option_map trigger a.trigger;
}

abbrev pub meaning : held_meaning.Meaning → Meaning
meaning (means.Class k) = IsClass (class k)
meaning (means.Rule p) = IsRule (part p)

abbrev pub definition : held_definition.Definition → Definition
definition d = record { name = d.name; meaning = meaning d.meaning }

abbrev pub file : held_ruleset.Ruleset → Ruleset
file r = record {
  entries = map entry r.entries.items;
  definitions = map definition r.definitions.items;
  actions = map action r.actions.items;
}
