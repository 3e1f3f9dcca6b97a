-- The words of an entry or of a range, and the lines that spell it: the grammar of docs/NOTATION.md.
use Rattle.std.specs.Prelude.{◌≡◌, ℕ, Bool, true, false, Option, Some, None, List, [], ◌∷◌, ◌++◌, codes}
use Rattle.idn_text.specs.Points.{point_of_hex}
use Rattle.ruleset_text.specs.declared.named_condition.NamedCondition.{NamedCondition}
use Rattle.label_patterns.specs.declared.condition.ConditionKind.{ConditionKind}
use Rattle.label_patterns.specs.declared.condition.ConditionKind.TheVariants as condition
use Rattle.ruleset_text.specs.Entries.{Mapped, EntryForm}
use Rattle.ruleset_text.specs.EntryText.{IsForm}
use Rattle.ruleset_text.specs.Lexemes.{lexemes}
use Rattle.ruleset_text.specs.Tokens.{without_prefix}

pub data Word : Type 0 where
  -- a code point, with 'U+' before it or without
  Point : ℕ → Word
  -- the name of a variant type
  TypeName : List ℕ → Word
  -- the name of a rule
  Rule : List ℕ → Word
  -- '!'
  Mark : Word
  -- '-'
  Hyphen : Word
  -- '|'
  Bar : Word
  -- ':'
  Colon : Word
  -- '..'
  Range : Word
  As : Word
  When : Word
  Unless : Word

-- the code point that a lexeme names, if it names one
abbrev pub point_of : List ℕ → Option ℕ
point_of lexeme = point_of_hex (without_prefix lexeme)

-- the lexeme is this word
abbrev pub IsWord : Word → List ℕ → Type 0
IsWord (Point c) lexeme = point_of lexeme ≡ Some c
IsWord (TypeName name) lexeme = lexeme ≡ name
IsWord (Rule name) lexeme = lexeme ≡ name
IsWord Mark lexeme = lexeme ≡ codes "!"
IsWord Hyphen lexeme = lexeme ≡ codes "-"
IsWord Bar lexeme = lexeme ≡ codes "|"
IsWord Colon lexeme = lexeme ≡ codes ":"
IsWord Range lexeme = lexeme ≡ codes ".."
IsWord As lexeme = lexeme ≡ codes "as"
IsWord When lexeme = lexeme ≡ codes "when"
IsWord Unless lexeme = lexeme ≡ codes "unless"

-- the lexemes are these words, one by one
abbrev pub AreWords : List Word → List (List ℕ) → Type 0
AreWords [] [] = Unit {0}
AreWords (word ∷ words) (lexeme ∷ others) = IsWord word lexeme × AreWords words others
AreWords words others = ⊥

-- ---- the words of an entry or of a range

abbrev pub mark_words : Bool → List Word
mark_words true = Mark ∷ []
mark_words false = []

-- '-' between code points
abbrev pub sequence_words : List ℕ → List Word
sequence_words [] = []
sequence_words (c ∷ []) = Point c ∷ []
sequence_words (c ∷ d ∷ points) = Point c ∷ Hyphen ∷ sequence_words (d ∷ points)

-- the last code point of a range
abbrev pub last_words : Option ℕ → List Word
last_words None = []
last_words (Some c) = Range ∷ Point c ∷ []

abbrev pub type_words : Option (List ℕ) → List Word
type_words None = []
type_words (Some name) = As ∷ TypeName name ∷ []

abbrev pub kind_word : ConditionKind → Word
kind_word condition.When = When
kind_word condition.Unless = Unless

abbrev pub condition_words : Option NamedCondition → List Word
condition_words None = []
condition_words (Some c) = kind_word c.kind ∷ Rule c.rule ∷ []

-- a source or a variant; one with a last code point is that of a range
abbrev pub mapped_words : Mapped → Option ℕ → List Word
mapped_words m last =
    mark_words m.marked
    ++ (sequence_words m.points ++ (last_words last ++ (type_words m.type_name ++ condition_words m.condition)))

-- ':' between variants
abbrev pub variants_words : List Mapped → List Word
variants_words [] = []
variants_words (m ∷ []) = mapped_words m None
variants_words (m ∷ n ∷ variants) = mapped_words m None ++ Colon ∷ variants_words (n ∷ variants)

-- '|' between the source and the variants
abbrev pub entry_words : List Mapped → Option ℕ → List Word
entry_words [] last = []
entry_words (source ∷ []) last = mapped_words source last
entry_words (source ∷ m ∷ variants) last = mapped_words source last ++ Bar ∷ variants_words (m ∷ variants)

-- the line spells the entry or the range
abbrev pub IsEntryLine : EntryForm → List ℕ → Type 0
IsEntryLine form line = IsForm form.mapped form.last × AreWords (entry_words form.mapped form.last) (lexemes line)
