-- The canonical line of a definition is read as that definition.
use Rattle.std.proofs.Common.{◌≡◌, inl, inr, ℕ, ◌+◌, ◌≤◌, Bool, true, false, ◌||◌, ◌&&◌, not, cond, List, [], ◌∷◌, ◌++◌, length, Option, Some, None, Ok, refl, sym, ap, ◌∙◌, append-nil}
use Rattle.std.specs.Prelude.{bytes_eq, codes, nat_le, nat_lt}
use Rattle.std.specs.Option.{option_map}
use Rattle.std.proofs.lemmas.Bool.{lt-leb, le-ltb, lt-ltb, or_from, false_from_ne_true}
use Rattle.std.proofs.lemmas.Slice.Eq.{bytes_eq-Decides}
use Rattle.label_patterns.specs.declared.span.Span.{Span}
use Rattle.label_patterns.specs.Matches.{HasItsSets}
use Rattle.label_patterns.specs.Patterns.{Pattern, Point, Set, Any, Start, End, Anchor, Group, Optional, Many, Then, Either}
use Rattle.ruleset_text.specs.declared.definition.DemandKind.{DemandKind}
use Rattle.ruleset_text.specs.declared.definition.DemandKind.TheVariants as demand
use Rattle.ruleset_text.specs.Signs as sign
use Rattle.ruleset_text.specs.Actions.{NamedAction, action_lexemes}
use Rattle.ruleset_text.specs.Canonical.{pattern_text, spans_text, definition_text, rule_word}
use Rattle.ruleset_text.specs.Definition as definition
use Rattle.ruleset_text.specs.Definition.{Definition, if_such, contexts_in, demand_in}
use Rattle.ruleset_text.specs.Definitions.{Definitions, all_names, all_atoms, canonical_size, is_line_over_limit, is_pattern_over_limit, rule_lines, added, with_definition, with_words}
use Rattle.ruleset_text.specs.Lexemes.{begins_in_word, lexemes}
use Rattle.ruleset_text.specs.Limits.{groups, stars, atoms, has_its_sets, IsWithin}
use Rattle.ruleset_text.specs.Names.{is_one_of, AreNames}
use Rattle.ruleset_text.specs.Reading.{pattern_of}
use Rattle.ruleset_text.specs.Rules.{has, is_rule}
use Rattle.ruleset_text.specs.Spans.{spans_in}
use Rattle.ruleset_text.specs.Tokens.{tokens_in}
use Rattle.ruleset_text.specs.WellFormed.{HasParts, IsPattern}
use Rattle.ruleset_text.proofs.AddedLemmas.{IsNew, HasNewName, HasRoomFor, HasRoomForPattern}
use Rattle.ruleset_text.proofs.BackLemmas.{text_read_back}
use Rattle.ruleset_text.proofs.ActionReadLemmas.{action_lexed, spelled_action}
use Rattle.ruleset_text.proofs.DefineLemmas.{no_fault}
use Rattle.ruleset_text.proofs.FormLemmas.{context_rule, rule_or_whole, whole_rule}
use Rattle.ruleset_text.proofs.NameWordLemmas.{IsNameWord, name_word}
use Rattle.ruleset_text.proofs.SpanBackLemmas.{word_first, has_points, spans_back}
use Rattle.idn_class.specs.declared.properties.Properties.{Properties}

-- ---- no fault

known_to : (n : ℕ) (p : Pattern) → HasItsSets n p → has_its_sets n p ≡ true
known_to n (Point c) h = refl
known_to n (Set m) h = lt-ltb m n h
known_to n Any h = refl
known_to n Start h = refl
known_to n End h = refl
known_to n Anchor h = refl
known_to n (Group p) h = known_to n p h
known_to n (Optional p) h = known_to n p h
known_to n (Many p) h = known_to n p h
known_to n (Then p q) h = ap (λ b. b && has_its_sets n q) (known_to n p h.0) ∙ known_to n q h.1
known_to n (Either p q) h = ap (λ b. b && has_its_sets n q) (known_to n p h.0) ∙ known_to n q h.1

pub new_to : (names : List (List ℕ)) (name : List ℕ) → IsNew name names → is_one_of names name ≡ false
new_to [] name h = refl
new_to (x ∷ xs) name h =
    or_from (bytes_eq x name) (is_one_of xs name) (false_from_ne_true (bytes_eq x name) (λ e. h.0 (sym ((bytes_eq-Decides x name).0 e)))) (new_to xs name h.1)

-- what a definition needs to be read without a fault: its parts, a new name, and room
pub record Fits (limit : ℕ) (d : Definitions) (x : Definition) : Type 0 where
  pub named_sets : length d.set_names ≡ length d.sets
  pub names : AreNames d.set_names
  pub parts : HasParts d.properties (length d.set_names) x
  pub short : length (definition_text d.set_names x) ≤ 8192
  pub size : canonical_size d + (length (definition_text d.set_names x) + 1) ≤ limit
  pub new : HasNewName d x
  pub room : HasRoomFor d x

line_fits : (limit : ℕ) (d : Definitions) (x : Definition) → Fits limit d x → is_line_over_limit limit d (length (definition_text d.set_names x)) ≡ false
line_fits limit d x f =
    let len = length (definition_text d.set_names x) in
    or_from (nat_lt 8192 len) (nat_lt limit (canonical_size d + (len + 1))) (le-ltb 8192 len f.short) (le-ltb limit (canonical_size d + (len + 1)) f.size)

pattern_fits : (d : Definitions) (p : Pattern) → IsWithin 8 2 p → HasRoomForPattern d p → is_pattern_over_limit d p ≡ false
pattern_fits d p within room =
    let many = nat_le 256 (rule_lines d) in
    let deep = nat_lt 8 (groups p) in
    let starred = nat_lt 2 (stars p) in
    or_from (many || deep || starred) (nat_lt 4096 (all_atoms d + atoms p))
    (or_from (many || deep) starred (or_from many deep (lt-leb 256 (rule_lines d) room.0) (le-ltb 8 (groups p) within.0)) (le-ltb 2 (stars p) within.1))
    (le-ltb 4096 (all_atoms d + atoms p) room.1)

-- ---- the lines

if_such_is : (test : Pattern → Bool) (o : Option Pattern) (p : Pattern) → o ≡ Some p → test p ≡ true → if_such test o ≡ Some p
if_such_is test o p e t = ap (if_such test) e ∙ ap (λ b. cond b (Some p) None) t

type_back : (limit : ℕ) (d : Definitions) (name : List ℕ) → Fits limit d (definition.VariantType name) → with_words limit d (lexemes (definition_text d.set_names (definition.VariantType name))) ≡ Ok (added d (definition.VariantType name))
type_back limit d name f =
    let word = name_word name f.new.0 in
    let x = definition.VariantType name in
    let alone : lexemes name ≡ name ∷ [] = ap lexemes (sym (append-nil name)) ∙ word_first name [] word.some word.word refl in
    ap (λ l. with_words limit d (codes "%type" ∷ l)) alone
    ∙ ap (λ b. with_definition limit d (cond b (Some x) None)) f.new.0
    ∙ no_fault limit d (Some x) x refl (record { count = lt-leb 57 (length d.types) f.room; known = refl; line = line_fits limit d x f; class = refl; name = new_to (all_names d) name f.new.1 })

begins_blank : (spans : List Span) → begins_in_word (spans_text spans) ≡ false
begins_blank [] = refl
begins_blank (s ∷ spans) = refl

set_back : (limit : ℕ) (d : Definitions) (name : List ℕ) (spans : List Span) → Fits limit d (definition.Set name spans)
    → with_words limit d (lexemes (definition_text d.set_names (definition.Set name spans))) ≡ Ok (added d (definition.Set name spans))
set_back limit d name spans f =
    let word = name_word name f.new.0 in
    let x = definition.Set name spans in
    let words : List (List ℕ) = lexemes (spans_text spans) in
    ap (λ l. with_words limit d (codes "%set" ∷ l)) (word_first name (spans_text spans) word.some word.word (begins_blank spans))
    ∙ ap (λ b. with_definition limit d (cond b (option_map (definition.Set name) (spans_in words)) None)) f.new.0
    ∙ ap (λ o. with_definition limit d (option_map (definition.Set name) o)) (spans_back d.properties spans f.parts.some f.parts.rise f.parts.classes)
    ∙ no_fault limit d (Some x) x refl (record { count = lt-leb 256 (length d.sets) f.room; known = refl; line = line_fits limit d x f; class = f.parts.classes; name = new_to (all_names d) name f.new.1 })

pattern_back : (properties : Properties) (names : List (List ℕ)) (p : Pattern) → AreNames names → IsPattern properties (length names) p → pattern_of (tokens_in names (lexemes (pattern_text names p))) ≡ Some p
pattern_back properties names p are is = text_read_back names p are is.known (has_points properties p is.classes) is.whole

sets_known : (d : Definitions) (p : Pattern) → length d.set_names ≡ length d.sets → HasItsSets (length d.set_names) p → has_its_sets (length d.sets) p ≡ true
sets_known d p e known = ap (λ n. has_its_sets n p) (sym e) ∙ known_to (length d.set_names) p known

rule_added : (limit : ℕ) (d : Definitions) (name : List ℕ) (p : Pattern) → Fits limit d (definition.Rule name p)
    → with_definition limit d (Some (definition.Rule name p)) ≡ Ok (added d (definition.Rule name p))
rule_added limit d name p f =
    let x = definition.Rule name p in
    let is = f.parts.0 in
    no_fault limit d (Some x) x refl (record {
      count = pattern_fits d p is.within f.room;
      known = sets_known d p f.named_sets is.known;
      line = line_fits limit d x f;
      class = is.classes;
      name = new_to (all_names d) name f.new.1;
    })

-- a context rule, and a whole-label rule
rule_back : (limit : ℕ) (d : Definitions) (name : List ℕ) (p : Pattern) → Fits limit d (definition.Rule name p)
    → with_words limit d (lexemes (definition_text d.set_names (definition.Rule name p))) ≡ Ok (added d (definition.Rule name p))
rule_back limit d name p f = elim (rule_or_whole p f.parts.1) [
  | inl contexts ↦
      ap (λ b. with_words limit d (lexemes (rule_word b ++ (name ++ 32 ∷ pattern_text sets p)))) (context_rule p contexts)
      ∙ ap (λ l. with_words limit d (codes "%rule" ∷ l)) (word_first name (32 ∷ pattern_text sets p) word.some word.word refl)
      ∙ ap (λ b. with_definition limit d (cond b (option_map (definition.Rule name) (contexts_in sets words)) None)) f.new.0
      ∙ ap (λ o. with_definition limit d (option_map (definition.Rule name) o)) (if_such_is is_rule (pattern_of (tokens_in sets words)) p back contexts)
      ∙ rule_added limit d name p f
  | inr none ↦
      ap (λ b. with_words limit d (lexemes (rule_word b ++ (name ++ 32 ∷ pattern_text sets p)))) (whole_rule p none)
      ∙ ap (λ l. with_words limit d (codes "%whole" ∷ l)) (word_first name (32 ∷ pattern_text sets p) word.some word.word refl)
      ∙ ap (λ b. with_definition limit d (cond b (option_map (definition.Rule name) (demand_in sets words)) None)) f.new.0
      ∙ ap (λ o. with_definition limit d (option_map (definition.Rule name) o)) (if_such_is (λ q. not (has sign.Anchor q)) (pattern_of (tokens_in sets words)) p back (ap not none))
      ∙ rule_added limit d name p f
]
  where
    sets : List (List ℕ)
    sets = d.set_names

    words : List (List ℕ)
    words = lexemes (pattern_text sets p)

    word : IsNameWord name
    word = name_word name f.new.0

    back : pattern_of (tokens_in sets words) ≡ Some p
    back = pattern_back d.properties sets p f.names f.parts.0

demand_read : (limit : ℕ) (d : Definitions) (kind : DemandKind) (p : Pattern) → Fits limit d (definition.Demand kind p)
    → with_definition limit d (option_map (definition.Demand kind) (demand_in d.set_names (lexemes (pattern_text d.set_names p)))) ≡ Ok (added d (definition.Demand kind p))
demand_read limit d kind p f =
    let x = definition.Demand kind p in
    let sets = d.set_names in
    let is = f.parts.0 in
    let words : List (List ℕ) = lexemes (pattern_text sets p) in
    ap (λ o. with_definition limit d (option_map (definition.Demand kind) o))
    (if_such_is (λ q. not (has sign.Anchor q)) (pattern_of (tokens_in sets words)) p (pattern_back d.properties sets p f.names is) (ap not f.parts.1))
    ∙ no_fault limit d (Some x) x refl (record {
      count = pattern_fits d p is.within f.room;
      known = sets_known d p f.named_sets is.known;
      line = line_fits limit d x f;
      class = is.classes;
      name = refl;
    })

demand_back : (limit : ℕ) (d : Definitions) (kind : DemandKind) (p : Pattern) → Fits limit d (definition.Demand kind p)
    → with_words limit d (lexemes (definition_text d.set_names (definition.Demand kind p))) ≡ Ok (added d (definition.Demand kind p))
demand_back limit d demand.Never p f = demand_read limit d demand.Never p f
demand_back limit d demand.Always p f = demand_read limit d demand.Always p f

action_back : (limit : ℕ) (d : Definitions) (a : NamedAction) → Fits limit d (definition.Action a)
    → with_words limit d (lexemes (definition_text d.set_names (definition.Action a))) ≡ Ok (added d (definition.Action a))
action_back limit d a f =
    let x = definition.Action a in
    ap (λ l. with_words limit d (codes "%action" ∷ l)) (action_lexed a f.parts)
    ∙ ap (λ o. with_definition limit d (option_map definition.Action o)) (spelled_action (action_lexemes a) a f.parts refl)
    ∙ no_fault limit d (Some x) x refl (record { count = lt-leb 256 (rule_lines d) f.room; known = f.new; line = line_fits limit d x f; class = refl; name = refl })

pub line_back : (limit : ℕ) (d : Definitions) (x : Definition) → Fits limit d x → with_words limit d (lexemes (definition_text d.set_names x)) ≡ Ok (added d x)
line_back limit d (definition.VariantType name) f = type_back limit d name f
line_back limit d (definition.Set name spans) f = set_back limit d name spans f
line_back limit d (definition.Rule name contexts) f = rule_back limit d name contexts f
line_back limit d (definition.Demand kind p) f = demand_back limit d kind p f
line_back limit d (definition.Action a) f = action_back limit d a f
