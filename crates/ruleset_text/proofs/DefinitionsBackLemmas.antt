-- Definitions without a fault are read back from their canonical lines, the last one after those before it.
use Rattle.std.proofs.Common.{◌≡◌, ℕ, ◌≤◌, true, List, [], ◌∷◌, ◌++◌, map, length, Result, Ok, Err, refl, sym, ap, subst, ◌∙◌, append_assoc, append-nil, length-append, arith}
use Rattle.std.specs.Prelude.{IsTrue}
use Rattle.std.specs.List.{AllByRecursion}
use Rattle.std.proofs.lemmas.List.{map-append}
use Rattle.label_patterns.specs.declared.span.Span.{Span}
use Rattle.label_patterns.specs.Patterns.{Pattern}
use Rattle.ruleset_text.specs.declared.fault.DefinitionFault.{DefinitionFault}
use Rattle.ruleset_text.specs.Canonical.{definition_text}
use Rattle.ruleset_text.specs.Definition as definition
use Rattle.ruleset_text.specs.Definition.{Definition}
use Rattle.ruleset_text.specs.Actions.{NamedAction, knows_action}
use Rattle.ruleset_text.specs.Definitions.{Demand, Definitions, nothing_defined, named, all_definitions, all_names, canonical_lines, canonical_size, type_names, whole_rules, added, and_then, with_words, with_lines}
use Rattle.ruleset_text.specs.Lexemes.{lexemes}
use Rattle.ruleset_text.specs.Names.{is_name, predefined_types, AreNames}
use Rattle.ruleset_text.specs.WellFormed.{IsDefinition, AreDefinitions}
use Rattle.ruleset_text.proofs.AddedLemmas.{IsNew, inserted, named-push, regroup, regroup_all, all_atoms_of, canonical_size-added, HasNewName, HasRoomFor}
use Rattle.ruleset_text.proofs.LineBackLemmas.{Fits, line_back}
use Rattle.ruleset_text.proofs.KnownPatternLemmas.{all_before}
use Rattle.ruleset_text.proofs.NameLemmas.{names_after}
use Rattle.idn_class.specs.declared.properties.Properties.{Properties}

-- ---- lists without an element

all_removed : {X : Type 0} (P : X → Type 0) (xs ys : List X) (y : X) → AllByRecursion P (xs ++ y ∷ ys) → AllByRecursion P (xs ++ ys) × P y
all_removed P [] ys y all = (all.1, all.0)
all_removed P (x ∷ xs) ys y all = let rest = all_removed P xs ys y all.1 in ((all.0, rest.0), rest.1)

all_with : {X : Type 0} (P Q R : X → Type 0) (xs : List X) → ((x : X) → P x → Q x → R x) → AllByRecursion P xs → AllByRecursion Q xs → AllByRecursion R xs
all_with P Q R [] f p q = tt
all_with P Q R (x ∷ xs) f p q = (f x p.0 q.0, all_with P Q R xs f p.1 q.1)

names_removed : (xs ys : List (List ℕ)) (name : List ℕ) → AreNames (xs ++ name ∷ ys) → AreNames (xs ++ ys) × IsTrue (is_name name) × IsNew name (xs ++ ys)
names_removed [] ys name are = (are.2, are.0, are.1)
names_removed (x ∷ xs) ys name are =
    let rest = names_removed xs ys name are.2 in
    let others = all_removed (λ other. x ≡ other → ⊥) xs ys name are.1 in
    ((are.0, others.0, rest.0), rest.1, (λ e. others.1 (sym e), rest.2))

names_before : (xs ys : List (List ℕ)) → AreNames (xs ++ ys) → AreNames xs
names_before [] ys are = tt
names_before (x ∷ xs) ys are = (are.0, all_before (λ other. x ≡ other → ⊥) xs ys are.1, names_before xs ys are.2)

-- ---- types and sets, whose text names no set

abbrev IsPlain : Definition → Type 0
IsPlain (definition.VariantType name) = Unit {0}
IsPlain (definition.Set name spans) = Unit {0}
IsPlain (definition.Rule name contexts) = ⊥
IsPlain (definition.Demand kind p) = ⊥
IsPlain (definition.Action a) = ⊥

abbrev ArePlain : List Definition → Type 0
ArePlain xs = AllByRecursion IsPlain xs

plain_sets : (names : List (List ℕ)) (sets : List (List Span)) → ArePlain (named definition.Set names sets)
plain_sets [] sets = tt
plain_sets (name ∷ names) [] = tt
plain_sets (name ∷ names) (s ∷ sets) = (tt, plain_sets names sets)

plain_after_types : (types : List (List ℕ)) (xs : List Definition) → ArePlain xs → ArePlain (map definition.VariantType types ++ xs)
plain_after_types [] xs plain = plain
plain_after_types (name ∷ types) xs plain = (tt, plain_after_types types xs plain)

plain_text : (names more : List (List ℕ)) (x : Definition) → IsPlain x → definition_text (names ++ more) x ≡ definition_text names x
plain_text names more (definition.VariantType name) plain = refl
plain_text names more (definition.Set name spans) plain = refl
plain_text names more (definition.Rule name contexts) plain = absurd plain
plain_text names more (definition.Demand kind p) plain = absurd plain
plain_text names more (definition.Action a) plain = absurd plain

plain_texts : (names more : List (List ℕ)) (xs : List Definition) → ArePlain xs → map (definition_text (names ++ more)) xs ≡ map (definition_text names) xs
plain_texts names more [] plain = refl
plain_texts names more (x ∷ xs) plain =
    ap (λ l. l ∷ map (definition_text (names ++ more)) xs) (plain_text names more x plain.0) ∙ ap (λ l. definition_text names x ∷ l) (plain_texts names more xs plain.1)

fewer_names : (properties : Properties) (names more : List (List ℕ)) (x : Definition) → IsDefinition properties (names ++ more) x → IsPlain x → IsDefinition properties names x
fewer_names properties names more (definition.VariantType name) is plain = record { parts = tt; short = is.short }
fewer_names properties names more (definition.Set name spans) is plain = record { parts = is.parts; short = is.short }
fewer_names properties names more (definition.Rule name contexts) is plain = absurd plain
fewer_names properties names more (definition.Demand kind p) is plain = absurd plain
fewer_names properties names more (definition.Action a) is plain = absurd plain

-- ---- the definitions before the last one

-- where no action is defined, each is known
none_known : (d : Definitions) → d.actions ≡ [] → AllByRecursion (λ a. knows_action (type_names d) (whole_rules d) a ≡ true) d.actions
none_known d none = subst (AllByRecursion (λ a. knows_action (type_names d) (whole_rules d) a ≡ true)) (sym none) tt

-- what is said of definitions, and of a further one, if there is no fault with it
record Removed (d : Definitions) (x : Definition) : Type 0 where
  are : AreDefinitions d
  is : IsDefinition d.properties d.set_names x
  new : HasNewName d x
  room : HasRoomFor d x

each_removed : (d : Definitions) (x : Definition) (names : List (List ℕ)) → length d.set_names ≡ length d.sets → length d.rule_names ≡ length d.rules
    → AllByRecursion (IsDefinition d.properties names) (all_definitions (added d x)) → AllByRecursion (IsDefinition d.properties names) (all_definitions d) × IsDefinition d.properties names x
each_removed d x names s r all =
    let i = inserted d x s r in
    let parts = all_removed (IsDefinition d.properties names) i.front i.back x (subst (AllByRecursion (IsDefinition d.properties names)) i.after all) in
    (subst (AllByRecursion (IsDefinition d.properties names)) (sym i.before) parts.0, parts.1)

type_removed : (d : Definitions) (name : List ℕ) → d.actions ≡ [] → AreDefinitions (added d (definition.VariantType name)) → Removed d (definition.VariantType name)
type_removed d name no_actions are =
    let x = definition.VariantType name in
    let each = each_removed d x d.set_names are.named_sets are.named_rules are.each in
    let rest = d.set_names ++ d.rule_names in
    let names = names_removed (type_names d) rest name (subst AreNames (ap (λ l. predefined_types ++ l) (append_assoc d.types (name ∷ []) rest)) are.names) in record {
      are = record {
        few_types = omega (arith, length-append d.types (name ∷ []), are.few_types);
        few_sets = are.few_sets;
        few_lines = are.few_lines;
        few_atoms = omega (arith, all_atoms_of d x are.named_sets are.named_rules, are.few_atoms);
        named_sets = are.named_sets;
        named_rules = are.named_rules;
        names = names.0;
        known = none_known d no_actions;
        each = each.0;
      };
      is = each.1;
      new = (names.1, names.2);
      room = omega (arith, length-append d.types (name ∷ []), are.few_types);
    }

set_removed : (d : Definitions) (name : List ℕ) (spans : List Span) → ArePlain (all_definitions d) → AreDefinitions (added d (definition.Set name spans)) → Removed d (definition.Set name spans)
set_removed d name spans plain are =
    let x = definition.Set name spans in
    let sets : length d.set_names ≡ length d.sets = omega (arith, length-append d.sets (spans ∷ []), length-append d.set_names (name ∷ []), are.named_sets) in
    let each = each_removed d x (d.set_names ++ name ∷ []) sets are.named_rules are.each in
    let types = type_names d in
    let front = types ++ d.set_names in
    let regroup : types ++ ((d.set_names ++ name ∷ []) ++ d.rule_names) ≡ front ++ name ∷ d.rule_names =
    ap (λ l. types ++ l) (append_assoc d.set_names (name ∷ []) d.rule_names) ∙ sym (append_assoc types d.set_names (name ∷ d.rule_names)) in
    let names = names_removed front d.rule_names name (subst AreNames regroup are.names) in
    let together : front ++ d.rule_names ≡ all_names d = append_assoc types d.set_names d.rule_names in record {
      are = record {
        few_types = are.few_types;
        few_sets = omega (arith, length-append d.sets (spans ∷ []), are.few_sets);
        few_lines = are.few_lines;
        few_atoms = omega (arith, all_atoms_of d x sets are.named_rules, are.few_atoms);
        named_sets = sets;
        named_rules = are.named_rules;
        names = subst AreNames together names.0;
        known = are.known;
        each = all_with (IsDefinition d.properties (d.set_names ++ name ∷ [])) IsPlain (IsDefinition d.properties d.set_names) (all_definitions d) (fewer_names d.properties d.set_names (name ∷ [])) each.0 plain;
      };
      is = fewer_names d.properties d.set_names (name ∷ []) x each.1 tt;
      new = (names.1, subst (IsNew name) together names.2);
      room = omega (arith, length-append d.sets (spans ∷ []), are.few_sets);
    }

rule_removed : (d : Definitions) (name : List ℕ) (contexts : Pattern) → d.actions ≡ [] → AreDefinitions (added d (definition.Rule name contexts)) → Removed d (definition.Rule name contexts)
rule_removed d name contexts no_actions are =
    let x = definition.Rule name contexts in
    let rules : length d.rule_names ≡ length d.rules = omega (arith, length-append d.rules (contexts ∷ []), length-append d.rule_names (name ∷ []), are.named_rules) in
    let each = each_removed d x d.set_names are.named_sets rules are.each in
    let types = type_names d in
    let regroup : types ++ (d.set_names ++ (d.rule_names ++ name ∷ [])) ≡ all_names d ++ name ∷ [] =
    ap (λ l. types ++ l) (sym (append_assoc d.set_names d.rule_names (name ∷ []))) ∙ sym (append_assoc types (d.set_names ++ d.rule_names) (name ∷ [])) in
    let names = names_removed (all_names d) [] name (subst AreNames regroup are.names) in
    let together : all_names d ++ [] ≡ all_names d = append-nil (all_names d) in record {
      are = record {
        few_types = are.few_types;
        few_sets = are.few_sets;
        few_lines = omega (arith, length-append d.rules (contexts ∷ []), are.few_lines);
        few_atoms = omega (arith, all_atoms_of d x are.named_sets rules, are.few_atoms);
        named_sets = are.named_sets;
        named_rules = rules;
        names = subst AreNames together names.0;
        known = none_known d no_actions;
        each = each.0;
      };
      is = each.1;
      new = (names.1, subst (IsNew name) together names.2);
      room = (omega (arith, length-append d.rules (contexts ∷ []), are.few_lines), omega (arith, all_atoms_of d x are.named_sets rules, are.few_atoms));
    }

demand_removed : (d : Definitions) (e : Demand) → AreDefinitions (added d (definition.Demand e.kind e.pattern)) → Removed d (definition.Demand e.kind e.pattern)
demand_removed d e are =
    let x = definition.Demand e.kind e.pattern in
    let each = each_removed d x d.set_names are.named_sets are.named_rules are.each in record {
      are = record {
        few_types = are.few_types;
        few_sets = are.few_sets;
        few_lines = omega (arith, length-append d.demands (e ∷ []), are.few_lines);
        few_atoms = omega (arith, all_atoms_of d x are.named_sets are.named_rules, are.few_atoms);
        named_sets = are.named_sets;
        named_rules = are.named_rules;
        names = are.names;
        known = are.known;
        each = each.0;
      };
      is = each.1;
      new = tt;
      room = (omega (arith, length-append d.demands (e ∷ []), are.few_lines), omega (arith, all_atoms_of d x are.named_sets are.named_rules, are.few_atoms));
    }

action_removed : (d : Definitions) (a : NamedAction) → AreDefinitions (added d (definition.Action a)) → Removed d (definition.Action a)
action_removed d a are =
    let x = definition.Action a in
    let P : NamedAction → Type 0 = λ b. knows_action (type_names d) (whole_rules d) b ≡ true in
    let each = each_removed d x d.set_names are.named_sets are.named_rules are.each in
    let known = all_removed P d.actions [] a are.known in record {
      are = record {
        few_types = are.few_types;
        few_sets = are.few_sets;
        few_lines = omega (arith, length-append d.actions (a ∷ []), are.few_lines);
        few_atoms = omega (arith, all_atoms_of d x are.named_sets are.named_rules, are.few_atoms);
        named_sets = are.named_sets;
        named_rules = are.named_rules;
        names = are.names;
        known = subst (AllByRecursion P) (append-nil d.actions) known.0;
        each = each.0;
      };
      is = each.1;
      new = known.1;
      room = omega (arith, length-append d.actions (a ∷ []), are.few_lines);
    }

-- ---- lines, one more

and_then_ok : (r : Result Definitions DefinitionFault) → and_then r (λ e. Ok e) ≡ r
and_then_ok (Ok d) = refl
and_then_ok (Err fault) = refl

lines_push : (limit : ℕ) (d e : Definitions) (lines : List (List ℕ)) (line : List ℕ) → with_lines limit d lines ≡ Ok e → with_lines limit d (lines ++ line ∷ []) ≡ with_words limit e (lexemes line)
lines_push limit d e [] line h = let same : d ≡ e = cc in and_then_ok (with_words limit d (lexemes line)) ∙ ap (λ x. with_words limit x (lexemes line)) same
lines_push limit d e (first ∷ lines) line h = by_cases (with_words limit d (lexemes first)) (λ x g. lines_push limit x e lines line g) h
  where
    by_cases : (r : Result Definitions DefinitionFault) → ((x : Definitions) → with_lines limit x lines ≡ Ok e → with_lines limit x (lines ++ line ∷ []) ≡ with_words limit e (lexemes line))
        → and_then r (λ x. with_lines limit x lines) ≡ Ok e → and_then r (λ x. with_lines limit x (lines ++ line ∷ [])) ≡ with_words limit e (lexemes line)
    by_cases (Ok x) step h = step x h
    by_cases (Err fault) step h = absurd (cc)

-- ---- all lines

abbrev Reads : ℕ → Definitions → Type 0
Reads limit d = AreDefinitions d → canonical_size d ≤ limit → with_lines limit (nothing_defined d.properties) (canonical_lines d) ≡ Ok d

fits : (limit : ℕ) (d : Definitions) (x : Definition) → Removed d x → canonical_size (added d x) ≤ limit → Fits limit d x
fits limit d x r size = record {
  named_sets = r.are.named_sets;
  names = names_before d.set_names d.rule_names (names_after (type_names d) (d.set_names ++ d.rule_names) r.are.names);
  parts = r.is.parts;
  short = r.is.short;
  size = omega (arith, canonical_size-added d x r.are, size);
  new = r.new;
  room = r.room;
}

properties_kept : (d : Definitions) (x : Definition) → (added d x).properties ≡ d.properties
properties_kept d (definition.VariantType name) = refl
properties_kept d (definition.Set name spans) = refl
properties_kept d (definition.Rule name contexts) = refl
properties_kept d (definition.Demand kind p) = refl
properties_kept d (definition.Action a) = refl

reads_more : (limit : ℕ) (d : Definitions) (x : Definition) → (AreDefinitions (added d x) → Removed d x) → canonical_lines (added d x) ≡ canonical_lines d ++ definition_text d.set_names x ∷ []
    → Reads limit d → Reads limit (added d x)
reads_more limit d x removed last reads are size =
    let r = removed are in
    let fit = fits limit d x r size in
    ap (λ p. with_lines limit (nothing_defined p) (canonical_lines (added d x))) (properties_kept d x)
    ∙ ap (with_lines limit (nothing_defined d.properties)) last
    ∙ lines_push limit (nothing_defined d.properties) d (canonical_lines d) (definition_text d.set_names x) (reads r.are (omega (arith, canonical_size-added d x r.are, size)))
    ∙ line_back limit d x fit

-- ---- section by section

lines_last : (f : Definition → List ℕ) (xs ys : List Definition) (x : Definition) → ys ≡ xs ++ x ∷ [] → map f ys ≡ map f xs ++ f x ∷ []
lines_last f xs ys x e = ap (map f) e ∙ map-append f xs (x ∷ [])

module _ (properties : Properties) where
  abbrev with_types : List (List ℕ) → Definitions
  with_types types = record (nothing_defined properties) { types = types }

  last_type : (types : List (List ℕ)) (name : List ℕ) → all_definitions (with_types (types ++ name ∷ [])) ≡ all_definitions (with_types types) ++ definition.VariantType name ∷ []
  last_type types name =
      append-nil (map definition.VariantType (types ++ name ∷ [])) ∙ map-append definition.VariantType types (name ∷ [])
      ∙ ap (λ l. l ++ definition.VariantType name ∷ []) (sym (append-nil (map definition.VariantType types)))

  types_read : (limit : ℕ) (before types : List (List ℕ)) → Reads limit (with_types before) → Reads limit (with_types (before ++ types))
  types_read limit before [] reads = subst (λ l. Reads limit (with_types l)) (sym (append-nil before)) reads
  types_read limit before (name ∷ types) reads =
      let d = with_types before in
      let x = definition.VariantType name in
      let more = reads_more limit d x (type_removed d name refl) (lines_last (definition_text []) (all_definitions d) (all_definitions (added d x)) x (last_type before name)) reads in
      subst (λ l. Reads limit (with_types l)) (append_assoc before (name ∷ []) types) (types_read limit (before ++ name ∷ []) types more)

  abbrev with_sets : List (List ℕ) → List (List ℕ) → List (List Span) → Definitions
  with_sets types names sets = record (nothing_defined properties) { types = types; set_names = names; sets = sets }

  last_set : (types names : List (List ℕ)) (sets : List (List Span)) (name : List ℕ) (spans : List Span) → length names ≡ length sets
      → all_definitions (with_sets types (names ++ name ∷ []) (sets ++ spans ∷ [])) ≡ all_definitions (with_sets types names sets) ++ definition.Set name spans ∷ []
  last_set types names sets name spans e =
      let before = map definition.VariantType types in
      let all = named definition.Set names sets in
      let x = definition.Set name spans in
      ap (λ l. before ++ l) (append-nil (named definition.Set (names ++ name ∷ []) (sets ++ spans ∷ [])) ∙ named-push definition.Set names sets name spans e)
      ∙ sym (append_assoc before all (x ∷ [])) ∙ ap (λ l. (before ++ l) ++ x ∷ []) (sym (append-nil all))

  sets_read : (limit : ℕ) (types before names : List (List ℕ)) (front sets : List (List Span)) → length before ≡ length front → length names ≡ length sets
      → Reads limit (with_sets types before front) → Reads limit (with_sets types (before ++ names) (front ++ sets))
  sets_read limit types before [] front [] s e reads =
      subst (λ l. Reads limit (with_sets types l (front ++ []))) (sym (append-nil before)) (subst (λ l. Reads limit (with_sets types before l)) (sym (append-nil front)) reads)
  sets_read limit types before [] front (spans ∷ sets) s e reads = absurd (omega (arith, e))
  sets_read limit types before (name ∷ names) front [] s e reads = absurd (omega (arith, e))
  sets_read limit types before (name ∷ names) front (spans ∷ sets) s e reads =
      let d = with_sets types before front in
      let x = definition.Set name spans in
      let all = all_definitions d in
      let plain : ArePlain all = plain_after_types types (named definition.Set before front ++ []) (subst ArePlain (sym (append-nil (named definition.Set before front))) (plain_sets before front)) in
      let lines = lines_last (definition_text (before ++ name ∷ [])) all (all_definitions (added d x)) x (last_set types before front name spans s)
      ∙ ap (λ l. l ++ definition_text before x ∷ []) (plain_texts before (name ∷ []) all plain) in
      let more = reads_more limit d x (set_removed d name spans plain) lines reads in
      subst (λ l. Reads limit (with_sets types l (front ++ spans ∷ sets))) (append_assoc before (name ∷ []) names)
      (subst (λ l. Reads limit (with_sets types ((before ++ name ∷ []) ++ names) l)) (append_assoc front (spans ∷ []) sets)
      (sets_read limit types (before ++ name ∷ []) names (front ++ spans ∷ []) sets (omega (arith, s, length-append before (name ∷ []), length-append front (spans ∷ []))) (omega (arith, e)) more))

  abbrev with_rules : Definitions → List (List ℕ) → List Pattern → Definitions
  with_rules d names rules = record d { rule_names = names; rules = rules; demands = []; actions = [] }

  last_rule : (d : Definitions) (names : List (List ℕ)) (rules : List Pattern) (name : List ℕ) (contexts : Pattern) → length names ≡ length rules
      → all_definitions (with_rules d (names ++ name ∷ []) (rules ++ contexts ∷ [])) ≡ all_definitions (with_rules d names rules) ++ definition.Rule name contexts ∷ []
  last_rule d names rules name contexts e =
      let types = map definition.VariantType d.types in
      let sets = named definition.Set d.set_names d.sets in
      let all = named definition.Rule names rules in
      let x = definition.Rule name contexts in
      ap (λ l. types ++ (sets ++ l)) (append-nil (named definition.Rule (names ++ name ∷ []) (rules ++ contexts ∷ [])) ∙ named-push definition.Rule names rules name contexts e)
      ∙ ap (λ l. types ++ l) (sym (append_assoc sets all (x ∷ []))) ∙ sym (append_assoc types (sets ++ all) (x ∷ []))
      ∙ ap (λ l. (types ++ (sets ++ l)) ++ x ∷ []) (sym (append-nil all))

  rules_read : (limit : ℕ) (d : Definitions) (before names : List (List ℕ)) (front rules : List Pattern) → length before ≡ length front → length names ≡ length rules
      → Reads limit (with_rules d before front) → Reads limit (with_rules d (before ++ names) (front ++ rules))
  rules_read limit d before [] front [] s e reads =
      subst (λ l. Reads limit (with_rules d l (front ++ []))) (sym (append-nil before)) (subst (λ l. Reads limit (with_rules d before l)) (sym (append-nil front)) reads)
  rules_read limit d before [] front (contexts ∷ rules) s e reads = absurd (omega (arith, e))
  rules_read limit d before (name ∷ names) front [] s e reads = absurd (omega (arith, e))
  rules_read limit d before (name ∷ names) front (contexts ∷ rules) s e reads =
      let r = with_rules d before front in
      let x = definition.Rule name contexts in
      let lines = lines_last (definition_text d.set_names) (all_definitions r) (all_definitions (added r x)) x (last_rule d before front name contexts s) in
      let more = reads_more limit r x (rule_removed r name contexts refl) lines reads in
      subst (λ l. Reads limit (with_rules d l (front ++ contexts ∷ rules))) (append_assoc before (name ∷ []) names)
      (subst (λ l. Reads limit (with_rules d ((before ++ name ∷ []) ++ names) l)) (append_assoc front (contexts ∷ []) rules)
      (rules_read limit d (before ++ name ∷ []) names (front ++ contexts ∷ []) rules (omega (arith, s, length-append before (name ∷ []), length-append front (contexts ∷ []))) (omega (arith, e)) more))

  abbrev with_demands : Definitions → List Demand → Definitions
  with_demands d demands = record d { demands = demands; actions = [] }

  abbrev demand_definition : Demand → Definition
  demand_definition e = definition.Demand e.kind e.pattern

  last_demand : (d : Definitions) (demands : List Demand) (e : Demand) → all_definitions (with_demands d (demands ++ e ∷ [])) ≡ all_definitions (with_demands d demands) ++ demand_definition e ∷ []
  last_demand d demands e =
      let types = map definition.VariantType d.types in
      let sets = named definition.Set d.set_names d.sets in
      let rules = named definition.Rule d.rule_names d.rules in
      let all = map demand_definition demands in
      let more = demand_definition e ∷ [] in
      ap (λ l. types ++ (sets ++ (rules ++ l))) (append-nil (map demand_definition (demands ++ e ∷ [])) ∙ map-append demand_definition demands (e ∷ []))
      ∙ regroup types sets rules all more
      ∙ ap (λ l. (types ++ (sets ++ (rules ++ l))) ++ more) (sym (append-nil all))

  demands_read : (limit : ℕ) (d : Definitions) (before demands : List Demand) → Reads limit (with_demands d before) → Reads limit (with_demands d (before ++ demands))
  demands_read limit d before [] reads = subst (λ l. Reads limit (with_demands d l)) (sym (append-nil before)) reads
  demands_read limit d before (e ∷ demands) reads =
      let r = with_demands d before in
      let x = demand_definition e in
      let more = reads_more limit r x (demand_removed r e) (lines_last (definition_text d.set_names) (all_definitions r) (all_definitions (added r x)) x (last_demand d before e)) reads in
      subst (λ l. Reads limit (with_demands d l)) (append_assoc before (e ∷ []) demands) (demands_read limit d (before ++ e ∷ []) demands more)

  abbrev with_actions : Definitions → List NamedAction → Definitions
  with_actions d actions = record d { actions = actions }

  last_action : (d : Definitions) (actions : List NamedAction) (a : NamedAction) → all_definitions (with_actions d (actions ++ a ∷ [])) ≡ all_definitions (with_actions d actions) ++ definition.Action a ∷ []
  last_action d actions a =
      let types = map definition.VariantType d.types in
      let sets = named definition.Set d.set_names d.sets in
      let rules = named definition.Rule d.rule_names d.rules in
      let demands = map demand_definition d.demands in
      ap (λ l. types ++ (sets ++ (rules ++ (demands ++ l)))) (map-append definition.Action actions (a ∷ []))
      ∙ regroup_all types sets rules demands (map definition.Action actions) (definition.Action a ∷ [])

  actions_read : (limit : ℕ) (d : Definitions) (before actions : List NamedAction) → Reads limit (with_actions d before) → Reads limit (with_actions d (before ++ actions))
  actions_read limit d before [] reads = subst (λ l. Reads limit (with_actions d l)) (sym (append-nil before)) reads
  actions_read limit d before (a ∷ actions) reads =
      let r = with_actions d before in
      let x = definition.Action a in
      let more = reads_more limit r x (action_removed r a) (lines_last (definition_text d.set_names) (all_definitions r) (all_definitions (added r x)) x (last_action d before a)) reads in
      subst (λ l. Reads limit (with_actions d l)) (append_assoc before (a ∷ []) actions) (actions_read limit d (before ++ a ∷ []) actions more)

  nothing_read : (limit : ℕ) → Reads limit (nothing_defined properties)
  nothing_read limit are size = refl

-- their canonical lines are read as these definitions
pub definitions_back : (d : Definitions) (limit : ℕ) → AreDefinitions d → canonical_size d ≤ limit → with_lines limit (nothing_defined d.properties) (canonical_lines d) ≡ Ok d
definitions_back d limit are size =
    let types = types_read d.properties limit [] d.types (nothing_read d.properties limit) in
    let sets = sets_read d.properties limit d.types [] d.set_names [] d.sets refl are.named_sets types in
    let rules = rules_read d.properties limit (with_sets d.properties d.types d.set_names d.sets) [] d.rule_names [] d.rules refl are.named_rules sets in
    let demands = demands_read d.properties limit (with_rules d.properties d d.rule_names d.rules) [] d.demands rules in
    let actions = actions_read d.properties limit (with_demands d.properties d d.demands) [] d.actions demands in
    actions are size
