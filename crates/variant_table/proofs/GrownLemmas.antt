-- What is defined later changes no entry and no line of one.
use Rattle.std.proofs.Common.{◌≡◌, ℕ, ◌+◌, ◌<◌, List, [], ◌∷◌, ◌++◌, length, map, cond, Option, Some, None, refl, sym, ap, ◌∙◌, arith, append_assoc, length-append}
use Rattle.std.specs.List.{AllByRecursion}
use Rattle.std.specs.Option.{option_map}
use Rattle.std.proofs.lemmas.List.Elements.{All-from_recursion, recursion_from_All}
use Rattle.label_patterns.specs.declared.condition.Condition.{Condition}
use Rattle.ruleset_text.specs.Definitions.{Definitions, type_name, type_names}
use Rattle.ruleset_text.specs.EntryText.{entry_text}
use Rattle.ruleset_text.specs.Names.{predefined_types}
use Rattle.ruleset_text.proofs.DefinedLemmas.{NamesStay}
use Rattle.variant_table.specs.Canonical.{canonical_line, canonical_text}
use Rattle.variant_table.specs.Entries.{Variant, Entry, source_of, whole}
use Rattle.variant_table.specs.Forms.{source_mark, variant_mark, name_at, named, is_type, unmarked_name, mapped_by}
use Rattle.variant_table.specs.WellFormed.{HasItsRule, HasItsType, HasItsNames, IsNamed}
use Rattle.variant_table.proofs.NumberLemmas.{name_stays}

all-weaker : {X : Type 0} (P Q : X → Type 0) → ((x : X) → P x → Q x) → (xs : List X) → AllByRecursion P xs → AllByRecursion Q xs
all-weaker P Q f [] h = tt
all-weaker P Q f (x ∷ xs) h = (f x h.0, all-weaker P Q f xs h.1)

module _ (d e : Definitions) (stay : NamesStay d e) where
  more_types : length (type_names d) + length stay.types.0 ≡ length (type_names e)
  more_types = omega (arith, ap length stay.types.1, length-append d.types stay.types.0, length-append predefined_types d.types, length-append predefined_types e.types)

  more_rules : length d.rule_names + length stay.rules.0 ≡ length e.rule_names
  more_rules = omega (arith, ap length stay.rules.1, length-append d.rule_names stay.rules.0)

  rule_on : (c : Option Condition) → HasItsRule d c → HasItsRule e c
  rule_on None h = tt
  rule_on (Some c) h = omega (arith, h, more_rules)

  type_on : (type : Option ℕ) → HasItsType d type → HasItsType e type
  type_on None h = tt
  type_on (Some n) h = omega (arith, h, more_types)

  variant_on : (v : Variant) → HasItsNames d v → HasItsNames e v
  variant_on v h = record { type = type_on v.type h.type; condition = rule_on v.condition h.condition }

  entry_on : (x : Entry) → IsNamed d x → IsNamed e x
  entry_on x h = All-from_recursion (HasItsNames e) (whole x) (all-weaker (HasItsNames d) (HasItsNames e) variant_on (whole x) (recursion_from_All (HasItsNames d) (whole x) h))

  type_stays : (n : ℕ) → n < length (type_names d) → type_name e n ≡ type_name d n
  type_stays n l = ap (λ t. name_at (predefined_types ++ t) n) stay.types.1 ∙ ap (λ t. name_at t n) (sym (append_assoc predefined_types d.types stay.types.0)) ∙ name_stays (type_names d) stay.types.0 n l

  name_of_type : (mark : ℕ) (type : Option ℕ) → HasItsType d type → unmarked_name mark e type ≡ unmarked_name mark d type
  name_of_type mark None h = refl
  name_of_type mark (Some n) h = ap (λ name. cond (is_type mark (Some n)) None (Some name)) (type_stays n h)

  rule_name : (c : Option Condition) → HasItsRule d c → option_map (named e) c ≡ option_map (named d) c
  rule_name None h = refl
  rule_name (Some c) h =
      ap (λ r. Some (record { kind = c.kind; rule = name_at r c.rule })) stay.rules.1 ∙ ap (λ n. Some (record { kind = c.kind; rule = n })) (name_stays d.rule_names stay.rules.0 c.rule h)

  mapped_stays : (mark : ℕ) (v : Variant) → HasItsNames d v → mapped_by mark e v ≡ mapped_by mark d v
  mapped_stays mark v h =
      ap (λ n. record { marked = is_type mark v.type; points = v.sequence; type_name = n; condition = option_map (named e) v.condition }) (name_of_type mark v.type h.type)
      ∙ ap (λ c. record { marked = is_type mark v.type; points = v.sequence; type_name = unmarked_name mark d v.type; condition = c }) (rule_name v.condition h.condition)

  all_stay : (vs : List Variant) → AllByRecursion (HasItsNames d) vs → map (mapped_by variant_mark e) vs ≡ map (mapped_by variant_mark d) vs
  all_stay [] h = refl
  all_stay (v ∷ vs) h = ap (λ m. m ∷ map (mapped_by variant_mark e) vs) (mapped_stays variant_mark v h.0) ∙ ap (λ ms. mapped_by variant_mark d v ∷ ms) (all_stay vs h.1)

  line_stays : (x : Entry) → IsNamed d x → canonical_line e x ≡ canonical_line d x
  line_stays x h =
      let all = recursion_from_All (HasItsNames d) (whole x) h in
      ap (λ m. entry_text (m ∷ map (mapped_by variant_mark e) x.variants) None) (mapped_stays source_mark (source_of x) all.0)
      ∙ ap (λ ms. entry_text (mapped_by source_mark d (source_of x) ∷ ms) None) (all_stay x.variants all.1)

pub named_on : (d e : Definitions) (t : List Entry) → NamesStay d e → AllByRecursion (IsNamed d) t → AllByRecursion (IsNamed e) t
named_on d e t stay h = all-weaker (IsNamed d) (IsNamed e) (entry_on d e stay) t h

pub text_stays : (d e : Definitions) (t : List Entry) → NamesStay d e → AllByRecursion (IsNamed d) t → canonical_text e t ≡ canonical_text d t
text_stays d e [] stay h = refl
text_stays d e (x ∷ t) stay h =
    ap (λ l. (l ++ 10 ∷ []) ++ canonical_text e t) (line_stays d e stay x h.0) ∙ ap (λ l. (canonical_line d x ++ 10 ∷ []) ++ l) (text_stays d e t stay h.1)
