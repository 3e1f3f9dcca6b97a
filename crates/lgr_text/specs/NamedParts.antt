-- Which definitions of a ruleset a definition names. They go by their numbers in the file, from 0 on.
use Rattle.std.specs.Prelude.{ℕ, Bool, true, false, ◌&&◌, not, List, [], ◌∷◌, ◌++◌, map, bytes_eq}
use Rattle.std.specs.List.{position_or_len}
use Rattle.lgr_text.specs.declared.named_parts.DefinitionKind.{DefinitionKind}
use Rattle.lgr_text.specs.declared.named_parts.DefinitionKind.TheVariants as kinds
use Rattle.lgr_text.specs.declared.named_parts.NamedPart.{NamedPart}
use Rattle.lgr_text.specs.declared.records.ClassTree.{ClassTree}
use Rattle.lgr_text.specs.declared.records.ClassTree.TheVariants as tree
use Rattle.lgr_text.specs.declared.records.Definition.{Definition}
use Rattle.lgr_text.specs.declared.records.Meaning.{Meaning}
use Rattle.lgr_text.specs.declared.records.Meaning.TheVariants as means
use Rattle.lgr_text.specs.declared.records.PartTree.{PartTree}
use Rattle.lgr_text.specs.declared.records.PartTree.TheVariants as part_tree
use Rattle.lgr_text.specs.declared.records.Reference.{Reference}

abbrev pub is_class : Meaning → Bool
is_class (means.Class k) = true
is_class (means.Rule p) = false

abbrev pub is_of : Meaning → DefinitionKind → Bool
is_of meaning kinds.Class = is_class meaning
is_of meaning kinds.Rule = not (is_class meaning)

-- the definition is of this kind and has this name
abbrev pub defines : DefinitionKind → List ℕ → Definition → Bool
defines kind name d = bytes_eq d.name name && is_of d.meaning kind

-- the number of the first such definition, or how many definitions there are
abbrev pub number_for : List Definition → DefinitionKind → List ℕ → ℕ
number_for ds kind name = position_or_len (defines kind name) ds

abbrev pub named : List Definition → DefinitionKind → Reference → NamedPart
named ds kind r = record { number = number_for ds kind r.name; line = r.line }

-- what a class names, in the order of the file
abbrev pub of_class : List Definition → ClassTree → List NamedPart
of_class ds (tree.Listed spans) = []
of_class ds (tree.OfTag r) = []
of_class ds (tree.OfProperty r) = []
of_class ds (tree.OfClass r) = named ds kinds.Class r ∷ []
of_class ds (tree.Joined' operation b k c m) = of_class ds k ++ of_class ds m
of_class ds (tree.Complement' b k) = of_class ds k

-- what a rule or a part of one names
abbrev pub of_part : List Definition → PartTree → List NamedPart
of_part ds (part_tree.Literal points) = []
of_part ds part_tree.Any = []
of_part ds (part_tree.Of k) = of_class ds k
of_part ds part_tree.Start = []
of_part ds part_tree.End = []
of_part ds part_tree.Anchor = []
of_part ds (part_tree.OfRule r) = named ds kinds.Rule r ∷ []
of_part ds (part_tree.Then' b p c q) = of_part ds p ++ of_part ds q
of_part ds (part_tree.Choice' b p c q) = of_part ds p ++ of_part ds q
of_part ds (part_tree.Times' n b p) = of_part ds p

abbrev pub of_meaning : List Definition → Meaning → List NamedPart
of_meaning ds (means.Class k) = of_class ds k
of_meaning ds (means.Rule p) = of_part ds p

-- for each definition those that it names
abbrev pub parts : List Definition → List (List NamedPart)
parts ds = map (λ d. of_meaning ds d.meaning) ds
