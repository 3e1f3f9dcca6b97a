-- Answers as JSON (RFC 8259): an object, whose members are in order, of numbers, texts, truth values and null. The last
-- member may be the object of a refusal.
use Rattle.std.specs.Prelude.{ℕ, Bool, ◌<◌, ◌^◌, List, [], ◌∷◌, ◌++◌, codes, Option, Some, None, ⊤}
use Rattle.std.specs.Fmt.{decimal}
use Rattle.json.specs.Json.{Json, Members, null, boolean, number, string, object, no_members, member}
use Rattle.json.specs.Print.{print}
use Rattle.json.specs.Tree.{json_tokens}

-- what a member holds
pub data Value : Type 0 where
  count : ℕ → Value
  text : List ℕ → Value
  flag : Bool → Value
  nothing : Value

-- the same as JSON (section 3); a number by its decimal digits (section 6)
abbrev pub json_of_value : Value → Json
json_of_value (count n) = number (decimal n)
json_of_value (text bytes) = string bytes
json_of_value (flag b) = boolean b
json_of_value nothing = null

-- a name and what its member holds
abbrev pub Field : Type 0
Field = List ℕ × Value

-- a member, where there is a value for it
abbrev pub if_given : {A : Type 0} → List ℕ → (A → Value) → Option A → List Field
if_given name value None = []
if_given name value (Some a) = (name, value a) ∷ []

-- members, and after them those of a refusal, where there is one
pub record Answer : Type 0 where
  pub fields : List Field
  pub refusal : Option (List Field)

-- these members before others
abbrev pub members_before : List Field → Members → Members
members_before [] rest = rest
members_before (field ∷ fields) rest = member field.0 (json_of_value field.1) (members_before fields rest)

abbrev pub refusal_member : Option (List Field) → Members
refusal_member None = no_members
refusal_member (Some fields) = member (codes "refusal") (object (members_before fields no_members)) no_members

-- the object (section 4)
abbrev pub json_of : Answer → Json
json_of answer = object (members_before answer.fields (refusal_member answer.refusal))

-- the text of a value: no blank, the shortest escapes, and each other byte as it is
abbrev pub text_of : Json → List ℕ
text_of value = print (json_tokens value)

-- an answer as a line
abbrev pub line_of : Answer → List ℕ
line_of answer = text_of (json_of answer) ++ 10 ∷ []

-- ---- numbers that a reader of 64 bits has

abbrev pub IsSmall : Value → Type 0
IsSmall (count n) = n < 2 ^ 64
IsSmall (text bytes) = ⊤
IsSmall (flag b) = ⊤
IsSmall nothing = ⊤

abbrev pub AreSmall : List Field → Type 0
AreSmall [] = ⊤
AreSmall (field ∷ fields) = IsSmall field.1 × AreSmall fields

abbrev pub AreSmallIfGiven : Option (List Field) → Type 0
AreSmallIfGiven None = ⊤
AreSmallIfGiven (Some fields) = AreSmall fields

-- each number of the answer is below 2 ^ 64
abbrev pub HasSmallNumbers : Answer → Type 0
HasSmallNumbers answer = AreSmall answer.fields × AreSmallIfGiven answer.refusal
