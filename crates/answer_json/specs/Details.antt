-- What a refusal is told with: its number and its text, and then what its cause has.
use Rattle.std.specs.Prelude.{ℕ, ◌≤◌, length, unwrap_or, Bool, true, false, None, List, [], ◌∷◌, ◌++◌, codes, Option}
use Rattle.std.specs.Prelude.{if◌then◌else◌}
use Rattle.std.specs.Option.{option_copied}
use Rattle.idn_text.specs.declared.refusal.Refusal.{Refusal}
use Rattle.idn_text.specs.Refusals.{refusal_number, refusal_text}
use Rattle.answer_json.specs.Answers.{Field, Value, if_given, count, text, flag}
use Rattle.answer_json.specs.Hexadecimal.{point_text}
use Rattle.answer_json.specs.declared.refusal_members.RefusalMembers.{RefusalMembers}

-- each of these where the cause has it
pub record Details : Type 0 where
  -- the number of the label in its name, from 1
  pub label : Option ℕ
  -- the cause is of what an A-label stands for
  pub decoded : Bool
  pub code_point : Option ℕ
  -- in code points, from 1
  pub place : Option ℕ
  -- what a ruleset asks of a rule: 'when' or 'unless'
  pub condition : Option (List ℕ)
  -- the rule that is broken, by its document and section; that of a ruleset by its name
  pub rule : Option (List ℕ)
  pub bidi_class : Option (List ℕ)
  -- the code point that Normalization Form C has at the place
  pub nfc : Option ℕ
  -- the number of the demand of a ruleset that is broken, from 1
  pub demand : Option ℕ
  -- its kind: 'never' or 'always'
  pub kind : Option (List ℕ)
  -- the number of the action of a ruleset that a label triggers, from 1
  pub action : Option ℕ
  -- the same among the default actions (RFC 7940, section 7.6)
  pub default_action : Option ℕ
  -- the name of the type that triggers the action
  pub type_name : Option (List ℕ)
  -- the readings of a label have different kinds
  pub unclear : Bool
  -- how many code points the label has
  pub code_points : Option ℕ
  -- how many octets the A-label has, or the label of a name, or the name
  pub octets : Option ℕ
  -- the A-label of what the label stands for
  pub alabel : Option (List ℕ)
  -- the place of a byte, from 1
  pub byte : Option ℕ
  -- the U-label of an A-label that stands where a U-label is wanted
  pub ulabel : Option (List ℕ)

-- nothing further
abbrev pub no_details : Details
no_details =
    record {
      label = None;
      decoded = false;
      code_point = None;
      place = None;
      condition = None;
      rule = None;
      bidi_class = None;
      nfc = None;
      demand = None;
      kind = None;
      action = None;
      default_action = None;
      type_name = None;
      unclear = false;
      code_points = None;
      octets = None;
      alabel = None;
      byte = None;
      ulabel = None;
    }

-- a code point by its number
abbrev pub point : ℕ → Value
point c = text (point_text c)

-- a member that is there only where it is true
abbrev pub flag_if : List ℕ → Bool → List Field
flag_if name holds = if holds then (name, flag true) ∷ [] else []

-- in the order in which they are told: which label and where, by which rule, and what stands there
abbrev pub where_fields : Details → List Field
where_fields details =
    if_given (codes "label") count details.label ++ flag_if (codes "decoded") details.decoded
    ++ if_given (codes "code_point") point details.code_point ++ if_given (codes "place") count details.place

abbrev pub rule_fields : Details → List Field
rule_fields details =
    if_given (codes "condition") text details.condition ++ if_given (codes "rule") text details.rule
    ++ if_given (codes "bidi_class") text details.bidi_class
    ++ if_given (codes "nfc") point details.nfc

abbrev pub demand_fields : Details → List Field
demand_fields details = if_given (codes "demand") count details.demand ++ if_given (codes "kind") text details.kind

abbrev pub action_fields : Details → List Field
action_fields details =
    if_given (codes "action") count details.action ++ if_given (codes "default_action") count details.default_action
    ++ if_given (codes "type") text details.type_name ++ flag_if (codes "unclear") details.unclear

abbrev pub length_fields : Details → List Field
length_fields details =
    if_given (codes "code_points") count details.code_points ++ if_given (codes "octets") count details.octets
    ++ if_given (codes "alabel") text details.alabel ++ if_given (codes "byte") count details.byte
    ++ if_given (codes "ulabel") text details.ulabel

abbrev pub details_fields : Details → List Field
details_fields details =
    where_fields details ++ rule_fields details ++ demand_fields details ++ action_fields details
    ++ length_fields details

-- {"number":10,"text":"disallowed code point","code_point":"U+0046","place":1,"rule":"RFC 5892 2.2"}
abbrev pub refusal_fields : Refusal → Details → List Field
refusal_fields refusal details =
    (codes "number", count (refusal_number refusal)) ∷ (codes "text", text (refusal_text refusal))
    ∷ details_fields details

-- how long a text is that may be given
abbrev pub given_len : Option (List ℕ) → ℕ
given_len told = length (unwrap_or told [])

-- for these there is space
pub record HasShortTexts (details : Details) : Type 0 where
  pub condition : given_len details.condition ≤ 8
  pub rule : given_len details.rule ≤ 64
  pub bidi_class : given_len details.bidi_class ≤ 64
  pub kind : given_len details.kind ≤ 8
  pub type_name : given_len details.type_name ≤ 32
  pub alabel : given_len details.alabel ≤ 252
  pub ulabel : given_len details.ulabel ≤ 252

-- ---- the same of the values of Rust

abbrev pub details_of : RefusalMembers → Details
details_of members =
    record {
      label = members.label;
      decoded = members.decoded;
      code_point = members.code_point;
      place = members.place;
      condition = option_copied members.condition;
      rule = option_copied members.rule;
      bidi_class = option_copied members.bidi_class;
      nfc = members.nfc;
      demand = members.demand;
      kind = option_copied members.kind;
      action = members.action;
      default_action = members.default_action;
      type_name = option_copied members.type_name;
      unclear = members.unclear;
      code_points = members.code_points;
      octets = members.octets;
      alabel = option_copied members.alabel;
      byte = members.byte;
      ulabel = option_copied members.ulabel;
    }
