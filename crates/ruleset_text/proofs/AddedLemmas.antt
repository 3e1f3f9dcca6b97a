-- Definitions with a further one have no fault, if the further one has none.
use Rattle.std.proofs.Common.{◌≡◌, ℕ, ◌+◌, ◌-◌, ◌<◌, ◌≤◌, true, false, ◌||◌, List, [], ◌∷◌, ◌++◌, map, length, refl, sym, ap, subst, ◌∙◌, append_assoc, append-nil, length-append, arith}
use Rattle.std.proofs.lemmas.List.{map-append}
use Rattle.std.specs.Prelude.{IsTrue, bytes_eq, nat_le, nat_lt}
use Rattle.std.specs.List.{AllByRecursion}
use Rattle.std.proofs.lemmas.Bool.{leb-false, ltb-false, or_parts}
use Rattle.std.proofs.lemmas.Slice.Eq.{bytes_eq-Decides}
use Rattle.label_patterns.specs.Patterns.{Pattern}
use Rattle.ruleset_text.specs.Canonical.{definition_text}
use Rattle.ruleset_text.specs.Definition as definition
use Rattle.ruleset_text.specs.Definition.{Definition}
use Rattle.ruleset_text.specs.Actions.{NamedAction, knows_action}
use Rattle.ruleset_text.specs.Definitions.{Demand, Definitions, nothing_defined, named, all_definitions, all_names, all_atoms, atoms_in, definition_atoms, lines_size, canonical_size, is_pattern_over_limit, is_one_too_many, rule_lines, type_names, whole_names, whole_rules, added}
use Rattle.ruleset_text.specs.Limits.{groups, stars, atoms, IsWithin}
use Rattle.ruleset_text.specs.Names.{is_name, is_one_of, predefined_types, AreNames}
use Rattle.ruleset_text.specs.WellFormed.{HasParts, IsDefinition, AreDefinitions}
use Rattle.ruleset_text.proofs.ActionLemmas.{knows-more, whole-push}
use Rattle.ruleset_text.proofs.KnownSetLemmas.{KnowsSets, known_more, definition_text-more}
use Rattle.idn_class.specs.declared.properties.Properties.{Properties}

-- ---- lists with one element more

pub all_inserted : {X : Type 0} (P : X → Type 0) (xs ys : List X) (y : X) → P y → AllByRecursion P (xs ++ ys) → AllByRecursion P (xs ++ y ∷ ys)
all_inserted P [] ys y h all = (h, all)
all_inserted P (x ∷ xs) ys y h all = (all.0, all_inserted P xs ys y h all.1)

all_weaker : {X : Type 0} (P Q : X → Type 0) (xs : List X) → ((x : X) → P x → Q x) → AllByRecursion P xs → AllByRecursion Q xs
all_weaker P Q [] f all = tt
all_weaker P Q (x ∷ xs) f all = (f x all.0, all_weaker P Q xs f all.1)

pub named-push : {X : Type 0} (f : List ℕ → X → Definition) (names : List (List ℕ)) (xs : List X) (name : List ℕ) (x : X) → length names ≡ length xs
    → named f (names ++ name ∷ []) (xs ++ x ∷ []) ≡ named f names xs ++ f name x ∷ []
named-push f [] [] name x e = refl
named-push f [] (y ∷ ys) name x e = absurd (omega (arith, e))
named-push f (n ∷ names) [] name x e = absurd (omega (arith, e))
named-push f (n ∷ names) (y ∷ ys) name x e = ap (λ l. f n y ∷ l) (named-push f names ys name x (omega (arith, e)))

-- ---- a new name

-- the name is none of these
abbrev pub IsNew : List ℕ → List (List ℕ) → Type 0
IsNew name names = AllByRecursion (λ other. name ≡ other → ⊥) names

pub new_from : (names : List (List ℕ)) (name : List ℕ) → is_one_of names name ≡ false → IsNew name names
new_from [] name e = tt
new_from (x ∷ xs) name e =
    let parts = or_parts (bytes_eq x name) (is_one_of xs name) e in
    (λ same. let bad : true ≡ false = sym ((bytes_eq-Decides x name).1 (sym same)) ∙ parts.0 in cc, new_from xs name parts.1)

names_inserted : (xs ys : List (List ℕ)) (name : List ℕ) → IsTrue (is_name name) → IsNew name (xs ++ ys) → AreNames (xs ++ ys) → AreNames (xs ++ name ∷ ys)
names_inserted [] ys name is new are = (is, new, are)
names_inserted (x ∷ xs) ys name is new are =
    (are.0, all_inserted (λ other. x ≡ other → ⊥) xs ys name (λ e. new.0 (sym e)) are.1, names_inserted xs ys name is new.1 are.2)

-- ---- all definitions, with one more of its kind

pub record Inserted (d : Definitions) (x : Definition) : Type 0 where
  pub front : List Definition
  pub back : List Definition
  pub before : all_definitions d ≡ front ++ back
  pub after : all_definitions (added d x) ≡ front ++ x ∷ back

abbrev demands_of : List Demand → List Definition
demands_of demands = map (λ e. definition.Demand e.kind e.pattern) demands

pub regroup : (a b c e f : List Definition) → a ++ (b ++ (c ++ (e ++ f))) ≡ (a ++ (b ++ (c ++ e))) ++ f
regroup a b c e f = simp append_assoc

pub regroup_all : (a b c e f g : List Definition) → a ++ (b ++ (c ++ (e ++ (f ++ g)))) ≡ (a ++ (b ++ (c ++ (e ++ f)))) ++ g
regroup_all a b c e f g = simp append_assoc

pub inserted : (d : Definitions) (x : Definition) → length d.set_names ≡ length d.sets → length d.rule_names ≡ length d.rules → Inserted d x
inserted d x s r = by x
  where
    types : List Definition
    types = map definition.VariantType d.types

    sets : List Definition
    sets = named definition.Set d.set_names d.sets

    rules : List Definition
    rules = named definition.Rule d.rule_names d.rules

    demands : List Definition
    demands = demands_of d.demands

    actions : List Definition
    actions = map definition.Action d.actions

    by : (x : Definition) → Inserted d x
    by (definition.VariantType name) = record {
      front = types;
      back = sets ++ (rules ++ (demands ++ actions));
      before = refl;
      after = ap (λ l. l ++ (sets ++ (rules ++ (demands ++ actions)))) (map-append definition.VariantType d.types (name ∷ []))
          ∙ append_assoc types (definition.VariantType name ∷ []) (sets ++ (rules ++ (demands ++ actions)));
    }
    by (definition.Set name spans) =
        let rest = rules ++ (demands ++ actions) in
        let x = definition.Set name spans in record {
          front = types ++ sets;
          back = rest;
          before = sym (append_assoc types sets rest);
          after = ap (λ l. types ++ (l ++ rest)) (named-push definition.Set d.set_names d.sets name spans s)
              ∙ ap (λ l. types ++ l) (append_assoc sets (x ∷ []) rest) ∙ sym (append_assoc types sets (x ∷ rest));
        }
    by (definition.Rule name contexts) =
        let rest = demands ++ actions in
        let x = definition.Rule name contexts in record {
          front = types ++ (sets ++ rules);
          back = rest;
          before = ap (λ l. types ++ l) (sym (append_assoc sets rules rest)) ∙ sym (append_assoc types (sets ++ rules) rest);
          after = ap (λ l. types ++ (sets ++ (l ++ rest))) (named-push definition.Rule d.rule_names d.rules name contexts r)
              ∙ ap (λ l. types ++ (sets ++ l)) (append_assoc rules (x ∷ []) rest)
              ∙ ap (λ l. types ++ l) (sym (append_assoc sets rules (x ∷ rest)))
              ∙ sym (append_assoc types (sets ++ rules) (x ∷ rest));
        }
    by (definition.Demand kind p) =
        let x = definition.Demand kind p in record {
          front = types ++ (sets ++ (rules ++ demands));
          back = actions;
          before = regroup types sets rules demands actions;
          after = ap (λ l. types ++ (sets ++ (rules ++ (l ++ actions)))) (map-append (λ (e : Demand). definition.Demand e.kind e.pattern) d.demands (record { kind = kind; pattern = p } ∷ []))
              ∙ ap (λ l. types ++ (sets ++ (rules ++ l))) (append_assoc demands (x ∷ []) actions)
              ∙ regroup types sets rules demands (x ∷ actions);
        }
    by (definition.Action a) =
        let x = definition.Action a in record {
          front = types ++ (sets ++ (rules ++ (demands ++ actions)));
          back = [];
          before = sym (append-nil (types ++ (sets ++ (rules ++ (demands ++ actions)))));
          after = ap (λ l. types ++ (sets ++ (rules ++ (demands ++ l)))) (map-append definition.Action d.actions (a ∷ []))
              ∙ regroup_all types sets rules demands actions (x ∷ []);
        }

-- ---- atoms and bytes

atoms_inserted : (xs ys : List Definition) (y : Definition) → atoms_in (xs ++ y ∷ ys) ≡ atoms_in (xs ++ ys) + definition_atoms y
atoms_inserted [] ys y = omega arith
atoms_inserted (x ∷ xs) ys y = omega (arith, atoms_inserted xs ys y)

pub all_atoms_of : (d : Definitions) (x : Definition) → length d.set_names ≡ length d.sets → length d.rule_names ≡ length d.rules → all_atoms (added d x) ≡ all_atoms d + definition_atoms x
unfolding all_atoms
all_atoms_of d x s r =
    let i = inserted d x s r in
    ap atoms_in i.after ∙ atoms_inserted i.front i.back x ∙ ap (λ l. atoms_in l + definition_atoms x) (sym i.before)

pub all_atoms-added : (d : Definitions) (x : Definition) → AreDefinitions d → all_atoms (added d x) ≡ all_atoms d + definition_atoms x
all_atoms-added d x are = all_atoms_of d x are.named_sets are.named_rules

size_inserted : (f : Definition → List ℕ) (xs ys : List Definition) (y : Definition) → lines_size (map f (xs ++ y ∷ ys)) ≡ lines_size (map f (xs ++ ys)) + (length (f y) + 1)
size_inserted f [] ys y = omega arith
size_inserted f (x ∷ xs) ys y = omega (arith, size_inserted f xs ys y)

pub knows_sets : (properties : Properties) (n : ℕ) (x : Definition) → HasParts properties n x → KnowsSets n x
knows_sets properties n (definition.VariantType name) h = tt
knows_sets properties n (definition.Set name spans) h = tt
knows_sets properties n (definition.Rule name contexts) h = h.0.known
knows_sets properties n (definition.Demand kind p) h = h.0.known
knows_sets properties n (definition.Action a) h = tt

size_more : (properties : Properties) (names more : List (List ℕ)) (xs : List Definition) → AllByRecursion (IsDefinition properties names) xs
    → lines_size (map (definition_text (names ++ more)) xs) ≡ lines_size (map (definition_text names) xs)
size_more properties names more [] all = refl
size_more properties names more (x ∷ xs) all =
    omega (arith, ap length (definition_text-more names more x (knows_sets properties (length names) x all.0.parts)), size_more properties names more xs all.1)

pub canonical_size-added : (d : Definitions) (x : Definition) → AreDefinitions d → canonical_size (added d x) ≡ canonical_size d + (length (definition_text d.set_names x) + 1)
unfolding canonical_size
canonical_size-added d (definition.VariantType name) are =
    let x = definition.VariantType name in
    let i = inserted d x are.named_sets are.named_rules in
    let f = definition_text d.set_names in
    ap (λ l. lines_size (map f l)) i.after ∙ size_inserted f i.front i.back x ∙ ap (λ l. lines_size (map f l) + (length (f x) + 1)) (sym i.before)
canonical_size-added d (definition.Rule name contexts) are =
    let x = definition.Rule name contexts in
    let i = inserted d x are.named_sets are.named_rules in
    let f = definition_text d.set_names in
    ap (λ l. lines_size (map f l)) i.after ∙ size_inserted f i.front i.back x ∙ ap (λ l. lines_size (map f l) + (length (f x) + 1)) (sym i.before)
canonical_size-added d (definition.Demand kind p) are =
    let x = definition.Demand kind p in
    let i = inserted d x are.named_sets are.named_rules in
    let f = definition_text d.set_names in
    ap (λ l. lines_size (map f l)) i.after ∙ size_inserted f i.front i.back x ∙ ap (λ l. lines_size (map f l) + (length (f x) + 1)) (sym i.before)
canonical_size-added d (definition.Action a) are =
    let x = definition.Action a in
    let i = inserted d x are.named_sets are.named_rules in
    let f = definition_text d.set_names in
    ap (λ l. lines_size (map f l)) i.after ∙ size_inserted f i.front i.back x ∙ ap (λ l. lines_size (map f l) + (length (f x) + 1)) (sym i.before)
canonical_size-added d (definition.Set name spans) are =
    let x = definition.Set name spans in
    let i = inserted d x are.named_sets are.named_rules in
    let f = definition_text (d.set_names ++ name ∷ []) in
    ap (λ l. lines_size (map f l)) i.after ∙ size_inserted f i.front i.back x ∙ ap (λ l. lines_size (map f l) + (length (f x) + 1)) (sym i.before)
    ∙ ap (λ n. n + (length (f x) + 1)) (size_more d.properties d.set_names (name ∷ []) (all_definitions d) are.each)

-- ---- the conditions on a further one

-- it has a name that is new, if it has one; what an action names is known
abbrev pub HasNewName : Definitions → Definition → Type 0
HasNewName d (definition.VariantType name) = IsTrue (is_name name) × IsNew name (all_names d)
HasNewName d (definition.Set name spans) = IsTrue (is_name name) × IsNew name (all_names d)
HasNewName d (definition.Rule name contexts) = IsTrue (is_name name) × IsNew name (all_names d)
HasNewName d (definition.Demand kind p) = Unit {0}
HasNewName d (definition.Action a) = knows_action (type_names d) (whole_rules d) a ≡ true

-- there is room for a pattern of so many atoms
abbrev pub HasRoomForPattern : Definitions → Pattern → Type 0
HasRoomForPattern d p = (rule_lines d < 256) × (all_atoms d + atoms p ≤ 4096)

abbrev pub HasRoomFor : Definitions → Definition → Type 0
HasRoomFor d (definition.VariantType name) = length d.types < 57
HasRoomFor d (definition.Set name spans) = length d.sets < 256
HasRoomFor d (definition.Rule name contexts) = HasRoomForPattern d contexts
HasRoomFor d (definition.Demand kind p) = HasRoomForPattern d p
HasRoomFor d (definition.Action a) = rule_lines d < 256

pub room_for_pattern : (d : Definitions) (p : Pattern) → is_pattern_over_limit d p ≡ false → HasRoomForPattern d p × IsWithin 8 2 p
room_for_pattern d p e =
    let many = nat_le 256 (rule_lines d) in
    let deep = nat_lt 8 (groups p) in
    let starred = nat_lt 2 (stars p) in
    let a = or_parts (many || deep || starred) (nat_lt 4096 (all_atoms d + atoms p)) e in
    let b = or_parts (many || deep) starred a.0 in
    let c = or_parts many deep b.0 in
    ((leb-false 256 (rule_lines d) c.0, ltb-false 4096 (all_atoms d + atoms p) a.1), (ltb-false 8 (groups p) c.1, ltb-false 2 (stars p) b.1))

pub room_for : (d : Definitions) (x : Definition) → is_one_too_many d x ≡ false → HasRoomFor d x
room_for d (definition.VariantType name) e = leb-false 57 (length d.types) e
room_for d (definition.Set name spans) e = leb-false 256 (length d.sets) e
room_for d (definition.Rule name contexts) e = (room_for_pattern d contexts e).0
room_for d (definition.Demand kind p) e = (room_for_pattern d p e).0
room_for d (definition.Action a) e = leb-false 256 (rule_lines d) e

-- ---- no fault

has_parts-more : (properties : Properties) (m n : ℕ) (x : Definition) → m ≤ n → HasParts properties m x → HasParts properties n x
has_parts-more properties m n (definition.VariantType name) l h = tt
has_parts-more properties m n (definition.Set name spans) l h = h
has_parts-more properties m n (definition.Rule name contexts) l h =
    (record { whole = h.0.whole; within = h.0.within; known = known_more m n contexts l h.0.known; classes = h.0.classes }, h.1)
has_parts-more properties m n (definition.Demand kind p) l h =
    (record { whole = h.0.whole; within = h.0.within; known = known_more m n p l h.0.known; classes = h.0.classes }, h.1)
has_parts-more properties m n (definition.Action a) l h = h

is_definition-more : (properties : Properties) (names more : List (List ℕ)) (x : Definition) → IsDefinition properties names x → IsDefinition properties (names ++ more) x
is_definition-more properties names more x is = record {
  parts = has_parts-more properties (length names) (length (names ++ more)) x (omega (arith, length-append names more)) is.parts;
  short = omega (arith, is.short, ap length (definition_text-more names more x (knows_sets properties (length names) x is.parts)));
}

each_added : (d : Definitions) (x : Definition) (names : List (List ℕ)) → AreDefinitions d → IsDefinition d.properties names x → AllByRecursion (IsDefinition d.properties names) (all_definitions d) → AllByRecursion (IsDefinition d.properties names) (all_definitions (added d x))
each_added d x names are is all =
    let i = inserted d x are.named_sets are.named_rules in
    let before : AllByRecursion (IsDefinition d.properties names) (i.front ++ i.back) = subst (AllByRecursion (IsDefinition d.properties names)) i.before all in
    subst (AllByRecursion (IsDefinition d.properties names)) (sym i.after) (all_inserted (IsDefinition d.properties names) i.front i.back x is before)

-- what the actions name stays known
abbrev Known : List (List ℕ) → List (List ℕ) → List NamedAction → Type 0
Known types rules actions = AllByRecursion (λ a. knows_action types rules a ≡ true) actions

pub known_with : (types more rules others : List (List ℕ)) (actions : List NamedAction) → Known types rules actions → Known (types ++ more) (rules ++ others) actions
known_with types more rules others actions all =
    all_weaker (λ a. knows_action types rules a ≡ true) (λ a. knows_action (types ++ more) (rules ++ others) a ≡ true) actions (knows-more types more rules others) all

known_types : (d : Definitions) (name : List ℕ) → Known (type_names d) (whole_rules d) d.actions → Known (type_names d ++ name ∷ []) (whole_rules d) d.actions
known_types d name all =
    subst (λ l. Known (type_names d ++ name ∷ []) l d.actions) (append-nil (whole_rules d)) (known_with (type_names d) (name ∷ []) (whole_rules d) [] d.actions all)

known_rules : (d : Definitions) (name : List ℕ) (p : Pattern) → length d.rule_names ≡ length d.rules → Known (type_names d) (whole_rules d) d.actions
    → Known (type_names d) (whole_names (d.rule_names ++ name ∷ []) (d.rules ++ p ∷ [])) d.actions
known_rules d name p same all =
    subst (λ l. Known l (whole_names (d.rule_names ++ name ∷ []) (d.rules ++ p ∷ [])) d.actions) (append-nil (type_names d))
    (subst (λ l. Known (type_names d ++ []) l d.actions) (sym (whole-push d.rule_names d.rules name p same))
    (known_with (type_names d) [] (whole_rules d) (whole_names (name ∷ []) (p ∷ [])) d.actions all))

pub are_added : (d : Definitions) (x : Definition) → AreDefinitions d → IsDefinition d.properties d.set_names x → HasNewName d x → HasRoomFor d x → AreDefinitions (added d x)
are_added d (definition.VariantType name) are is new room = record {
  few_types = omega (arith, length-append d.types (name ∷ []), room);
  few_sets = are.few_sets;
  few_lines = are.few_lines;
  few_atoms = omega (arith, all_atoms-added d (definition.VariantType name) are, are.few_atoms);
  named_sets = are.named_sets;
  named_rules = are.named_rules;
  names = let after : type_names d ++ name ∷ (d.set_names ++ d.rule_names) ≡ all_names (added d (definition.VariantType name)) =
      ap (λ l. predefined_types ++ l) (sym (append_assoc d.types (name ∷ []) (d.set_names ++ d.rule_names))) in
      subst AreNames after (names_inserted (type_names d) (d.set_names ++ d.rule_names) name new.0 new.1 are.names);
  known = known_types d name are.known;
  each = each_added d (definition.VariantType name) d.set_names are is are.each;
}
are_added d (definition.Set name spans) are is new room = record {
  few_types = are.few_types;
  few_sets = omega (arith, length-append d.sets (spans ∷ []), room);
  few_lines = are.few_lines;
  few_atoms = omega (arith, all_atoms-added d (definition.Set name spans) are, are.few_atoms);
  named_sets = omega (arith, length-append d.sets (spans ∷ []), length-append d.set_names (name ∷ []), are.named_sets);
  named_rules = are.named_rules;
  names = let types = type_names d in
      let before : all_names d ≡ (types ++ d.set_names) ++ d.rule_names = sym (append_assoc types d.set_names d.rule_names) in
      let after : (types ++ d.set_names) ++ name ∷ d.rule_names ≡ types ++ ((d.set_names ++ name ∷ []) ++ d.rule_names) =
      append_assoc types d.set_names (name ∷ d.rule_names) ∙ ap (λ l. types ++ l) (sym (append_assoc d.set_names (name ∷ []) d.rule_names)) in
      subst AreNames after (names_inserted (types ++ d.set_names) d.rule_names name new.0 (subst (IsNew name) before new.1) (subst AreNames before are.names));
  known = are.known;
  each = each_added d (definition.Set name spans) (d.set_names ++ name ∷ []) are (is_definition-more d.properties d.set_names (name ∷ []) (definition.Set name spans) is)
      (all_weaker (IsDefinition d.properties d.set_names) (IsDefinition d.properties (d.set_names ++ name ∷ [])) (all_definitions d) (is_definition-more d.properties d.set_names (name ∷ [])) are.each);
}
are_added d (definition.Rule name contexts) are is new room = record {
  few_types = are.few_types;
  few_sets = are.few_sets;
  few_lines = omega (arith, length-append d.rules (contexts ∷ []), room.0);
  few_atoms = omega (arith, all_atoms-added d (definition.Rule name contexts) are, room.1);
  named_sets = are.named_sets;
  named_rules = omega (arith, length-append d.rules (contexts ∷ []), length-append d.rule_names (name ∷ []), are.named_rules);
  names = let types = type_names d in
      let before : all_names d ≡ all_names d ++ [] = sym (append-nil (all_names d)) in
      let after : all_names d ++ name ∷ [] ≡ types ++ (d.set_names ++ (d.rule_names ++ name ∷ [])) =
      append_assoc types (d.set_names ++ d.rule_names) (name ∷ []) ∙ ap (λ l. types ++ l) (append_assoc d.set_names d.rule_names (name ∷ [])) in
      subst AreNames after (names_inserted (all_names d) [] name new.0 (subst (IsNew name) before new.1) (subst AreNames before are.names));
  known = known_rules d name contexts are.named_rules are.known;
  each = each_added d (definition.Rule name contexts) d.set_names are is are.each;
}
are_added d (definition.Demand kind p) are is new room = record {
  few_types = are.few_types;
  few_sets = are.few_sets;
  few_lines = omega (arith, length-append d.demands (record { kind = kind; pattern = p } ∷ []), room.0);
  few_atoms = omega (arith, all_atoms-added d (definition.Demand kind p) are, room.1);
  named_sets = are.named_sets;
  named_rules = are.named_rules;
  names = are.names;
  known = are.known;
  each = each_added d (definition.Demand kind p) d.set_names are is are.each;
}
are_added d (definition.Action a) are is new room = record {
  few_types = are.few_types;
  few_sets = are.few_sets;
  few_lines = omega (arith, length-append d.actions (a ∷ []), room);
  few_atoms = omega (arith, all_atoms-added d (definition.Action a) are, are.few_atoms);
  named_sets = are.named_sets;
  named_rules = are.named_rules;
  names = are.names;
  known = all_inserted (λ b. knows_action (type_names d) (whole_rules d) b ≡ true) d.actions [] a new
      (subst (Known (type_names d) (whole_rules d)) (sym (append-nil d.actions)) are.known);
  each = each_added d (definition.Action a) d.set_names are is are.each;
}

-- ---- how definitions are held

pub nothing_held : (d : Definitions) → d.types ≡ [] → d.set_names ≡ [] → d.sets ≡ [] → d.rule_names ≡ [] → d.rules ≡ [] → d.demands ≡ [] → d.actions ≡ [] → d ≡ nothing_defined d.properties
nothing_held d types set_names sets rule_names rules demands actions =
    let e : d ≡ record d { types = [] } = ap (λ l. record d { types = l }) types in
    e ∙ ap (λ l. record (nothing_defined d.properties) { set_names = l; sets = d.sets; rule_names = d.rule_names; rules = d.rules; demands = d.demands; actions = d.actions }) set_names
    ∙ ap (λ l. record (nothing_defined d.properties) { sets = l; rule_names = d.rule_names; rules = d.rules; demands = d.demands; actions = d.actions }) sets
    ∙ ap (λ l. record (nothing_defined d.properties) { rule_names = l; rules = d.rules; demands = d.demands; actions = d.actions }) rule_names
    ∙ ap (λ l. record (nothing_defined d.properties) { rules = l; demands = d.demands; actions = d.actions }) rules
    ∙ ap (λ l. record (nothing_defined d.properties) { demands = l; actions = d.actions }) demands
    ∙ ap (λ l. record (nothing_defined d.properties) { actions = l }) actions

-- the predefined types are names, no two of which are the same
predefined_names : AreNames predefined_types
predefined_names =
    (refl, (differ refl, (differ refl, (differ refl, (differ refl, tt)))), (refl, (differ refl, (differ refl, (differ refl, tt))), (refl, (differ refl, (differ refl, tt)), (refl, (differ refl, tt), (refl, tt, tt)))))
  where
    differ : {x y : List ℕ} → bytes_eq x y ≡ false → x ≡ y → ⊥
    differ {x} {y} other same = let bad : true ≡ false = sym ((bytes_eq-Decides x y).1 same) ∙ other in cc

-- they have no fault; so many atoms are left, and so many bytes are written
pub record IsCounted (d : Definitions) (spare bytes : ℕ) : Type 0 where
  pub without_fault : AreDefinitions d
  pub left : all_atoms d + spare ≡ 4096
  pub size : bytes ≡ canonical_size d

pub nothing_counted : (properties : Properties) → IsCounted (nothing_defined properties) 4096 0
unfolding all_atoms canonical_size
nothing_counted properties = record {
  without_fault = record {
    few_types = omega arith;
    few_sets = omega arith;
    few_lines = omega arith;
    few_atoms = omega arith;
    named_sets = refl;
    named_rules = refl;
    names = predefined_names;
    known = tt;
    each = tt;
  };
  left = refl;
  size = refl;
}

-- one more is counted; `v` is what callers see
pub counted_more : (d v e : Definitions) (x : Definition) (left less written len : ℕ) → d ≡ v → IsCounted d left written → AreDefinitions (added v x) → len ≡ length (definition_text v.set_names x)
    → definition_atoms x + less ≡ left → e ≡ added d x → IsCounted e less (written + (len + 1))
counted_more d v e x left less written len seen held are size fewer is = subst (λ y. IsCounted y less (written + (len + 1))) (sym is) (record {
  without_fault = subst (λ w. AreDefinitions (added w x)) (sym seen) are;
  left = omega (arith, all_atoms-added d x held.without_fault, held.left, fewer);
  size = let text : len ≡ length (definition_text d.set_names x) = size ∙ ap (λ w. length (definition_text w.set_names x)) (sym seen) in
      omega (arith, canonical_size-added d x held.without_fault, held.size, text);
})

-- how many are left after one more
pub fewer_left : (d v : Definitions) (x : Definition) (left written less : ℕ) → d ≡ v → IsCounted d left written → AreDefinitions (added v x) → less ≡ 4096 - all_atoms v - definition_atoms x
    → definition_atoms x + less ≡ left
fewer_left d v x left written less seen held are is =
    let more : AreDefinitions (added d x) = subst (λ w. AreDefinitions (added w x)) (sym seen) are in
    omega (arith, all_atoms-added d x held.without_fault, held.left, more.few_atoms, is, ap all_atoms seen)
