-- Reading a definition is exact, and what is told of one is the first thing that is wrong with it.
use Rattle.std.proofs.Common.{◌≡◌, ℕ, ◌+◌, ◌<◌, ◌==◌, nat_lt, Bool, true, false, not, cond, List, [], ◌∷◌, Option, Some, None, Ok, Err, refl, sym, ap, subst, ◌∙◌, arith}
use Rattle.std.specs.Option.{option_map}
use Rattle.std.proofs.lemmas.Bool.{false_from_ne_true, ltb-false, ltb-true, not-true}
use Rattle.label_patterns.specs.Patterns.{Pattern}
use Rattle.ruleset_text.specs.declared.definition.DemandKind.TheVariants as demand
use Rattle.ruleset_text.specs.declared.fault.DefinitionFault.{DefinitionFault}
use Rattle.ruleset_text.specs.declared.fault.DefinitionFault.TheVariants.{Syntax, Limit, NoSuchName, BadClass, SameName}
use Rattle.ruleset_text.specs.declared.keyword.Keyword.{Keyword}
use Rattle.ruleset_text.specs.declared.keyword.Keyword.TheVariants as keyword
use Rattle.ruleset_text.specs.Signs as sign
use Rattle.ruleset_text.specs.declared.token.Token.{Token}
use Rattle.ruleset_text.specs.Definition as definition
use Rattle.ruleset_text.specs.ActionSteps.{action_in}
use Rattle.ruleset_text.specs.Definition.{Definition, if_such, type_in, set_in, rule_in, whole_in, contexts_in, demand_in, definition_of}
use Rattle.ruleset_text.specs.Definitions.{Definitions, has_known_names, added, defined}
use Rattle.ruleset_text.specs.DefinitionOrder.{IsOfKeyword, SpellsDefinition, DefinitionCondition, no_form, one_too_many, no_such_name, long_line, bad_class, same_name, order_of, fault_of, test_of, Holds, IsDefinitionFault}
use Rattle.ruleset_text.specs.Grammar.{SpellsPattern}
use Rattle.ruleset_text.specs.Names.{is_name}
use Rattle.ruleset_text.specs.Reading.{pattern_of}
use Rattle.ruleset_text.specs.Rules.{has, is_rule}
use Rattle.ruleset_text.specs.Spans.{spans_in}
use Rattle.ruleset_text.specs.Tokens.{tokens_in}
use Rattle.ruleset_text.proofs.DefineLemmas.{Answer, by_tests, formed, formless, told_by}
use Rattle.ruleset_text.proofs.DefinedLemmas.{mapped, if_true}
use Rattle.ruleset_text.proofs.FormLemmas.{if_such_some}
use Rattle.ruleset_text.proofs.ActionReadLemmas.{action_spelled, spelled_action}
use Rattle.ruleset_text.proofs.PatternLemmas.{spelled_read, read_spelled}
use Rattle.ruleset_text.proofs.SpanExactLemmas.{set_read, set_spelled}

-- ---- what is spelled is read

pub if_such-true : (test : Pattern → Bool) (ts : List Token) (p : Pattern) → SpellsPattern ts p → test p ≡ true → if_such test (pattern_of ts) ≡ Some p
if_such-true test ts p s t = ap (if_such test) (spelled_read ts p s) ∙ ap (λ b. cond b (Some p) None) t

demand_read : (names words : List (List ℕ)) (p : Pattern) → SpellsPattern (tokens_in names words) p → has sign.Anchor p ≡ false → demand_in names words ≡ Some p
demand_read names words p s none = if_such-true (λ q. not (has sign.Anchor q)) (tokens_in names words) p s (ap not none)

pub definition_read : (names : List (List ℕ)) (k : Keyword) (words : List (List ℕ)) (x : Definition) → SpellsDefinition names k words x → definition_of names k words ≡ Some x
definition_read names k words (definition.VariantType name) (e, n, w) =
    ap (λ j. definition_of names j words) e ∙ ap type_in w ∙ ap (λ b. cond b (Some (definition.VariantType name)) None) n
definition_read names k words (definition.Set name spans) (e, n, after, w, s) =
    ap (λ j. definition_of names j words) e ∙ ap set_in w ∙ ap (λ b. cond b (option_map (definition.Set name) (spans_in after)) None) n
    ∙ ap (option_map (definition.Set name)) (set_read after spans s)
definition_read names k words (definition.Rule name p) (r, n, after, w, s) = rule_of k r
  where
    rule_of : (k : Keyword) → IsOfKeyword k p → definition_of names k words ≡ Some (definition.Rule name p)
    rule_of keyword.Rule r =
        ap (rule_in names) w ∙ ap (λ b. cond b (option_map (definition.Rule name) (contexts_in names after)) None) n
        ∙ ap (option_map (definition.Rule name)) (if_such-true is_rule (tokens_in names after) p s r)
    rule_of keyword.Whole r =
        ap (whole_in names) w ∙ ap (λ b. cond b (option_map (definition.Rule name) (demand_in names after)) None) n
        ∙ ap (option_map (definition.Rule name)) (demand_read names after p s r)
    rule_of keyword.VariantType r = absurd r
    rule_of keyword.Set r = absurd r
    rule_of keyword.Never r = absurd r
    rule_of keyword.Always r = absurd r
    rule_of keyword.Action r = absurd r
definition_read names k words (definition.Demand demand.Never p) (e, s, none) =
    ap (λ j. definition_of names j words) e ∙ ap (option_map (definition.Demand demand.Never)) (demand_read names words p s none)
definition_read names k words (definition.Demand demand.Always p) (e, s, none) =
    ap (λ j. definition_of names j words) e ∙ ap (option_map (definition.Demand demand.Always)) (demand_read names words p s none)
definition_read names k words (definition.Action a) (e, is, w) =
    ap (λ j. definition_of names j words) e ∙ ap (option_map definition.Action) (spelled_action words a is w)

-- ---- what is read is spelled

type_spelled : (names words : List (List ℕ)) (x : Definition) → type_in words ≡ Some x → SpellsDefinition names keyword.VariantType words x
type_spelled names [] x e = absurd cc
type_spelled names (name ∷ []) x e =
    let parts = if_true (is_name name) (Some (definition.VariantType name)) x e in
    let same : definition.VariantType name ≡ x = let some = parts.1 in cc in
    subst (SpellsDefinition names keyword.VariantType (name ∷ [])) same (refl, parts.0, refl)
type_spelled names (name ∷ word ∷ words) x e = absurd cc

set_is_spelled : (names words : List (List ℕ)) (x : Definition) → set_in words ≡ Some x → SpellsDefinition names keyword.Set words x
set_is_spelled names [] x e = absurd cc
set_is_spelled names (name ∷ words) x e =
    let parts = if_true (is_name name) (option_map (definition.Set name) (spans_in words)) x e in
    let read = mapped (definition.Set name) (spans_in words) x parts.1 in
    subst (SpellsDefinition names keyword.Set (name ∷ words)) read.2 (refl, parts.0, words, refl, set_spelled words read.0 read.1)

rule_spelled : (names words : List (List ℕ)) (x : Definition) → rule_in names words ≡ Some x → SpellsDefinition names keyword.Rule words x
rule_spelled names [] x e = absurd cc
rule_spelled names (name ∷ words) x e =
    let parts = if_true (is_name name) (option_map (definition.Rule name) (contexts_in names words)) x e in
    let read = mapped (definition.Rule name) (contexts_in names words) x parts.1 in
    let such = if_such_some is_rule (pattern_of (tokens_in names words)) read.0 read.1 in
    subst (SpellsDefinition names keyword.Rule (name ∷ words)) read.2 (such.1, parts.0, words, refl, read_spelled (tokens_in names words) read.0 such.0)

demand_spelled : (names words : List (List ℕ)) (p : Pattern) → demand_in names words ≡ Some p → SpellsPattern (tokens_in names words) p × (has sign.Anchor p ≡ false)
demand_spelled names words p e =
    let such = if_such_some (λ q. not (has sign.Anchor q)) (pattern_of (tokens_in names words)) p e in
    (read_spelled (tokens_in names words) p such.0, not-true (has sign.Anchor p) such.1)

whole_spelled : (names words : List (List ℕ)) (x : Definition) → whole_in names words ≡ Some x → SpellsDefinition names keyword.Whole words x
whole_spelled names [] x e = absurd cc
whole_spelled names (name ∷ words) x e =
    let parts = if_true (is_name name) (option_map (definition.Rule name) (demand_in names words)) x e in
    let read = mapped (definition.Rule name) (demand_in names words) x parts.1 in
    let such = demand_spelled names words read.0 read.1 in
    subst (SpellsDefinition names keyword.Whole (name ∷ words)) read.2 (such.1, parts.0, words, refl, such.0)

pub definition_spelled : (names : List (List ℕ)) (k : Keyword) (words : List (List ℕ)) (x : Definition) → definition_of names k words ≡ Some x → SpellsDefinition names k words x
definition_spelled names keyword.VariantType words x e = type_spelled names words x e
definition_spelled names keyword.Set words x e = set_is_spelled names words x e
definition_spelled names keyword.Rule words x e = rule_spelled names words x e
definition_spelled names keyword.Whole words x e = whole_spelled names words x e
definition_spelled names keyword.Never words x e =
    let read = mapped (definition.Demand demand.Never) (demand_in names words) x e in
    let parts = demand_spelled names words read.0 read.1 in
    subst (SpellsDefinition names keyword.Never words) read.2 (refl, parts.0, parts.1)
definition_spelled names keyword.Always words x e =
    let read = mapped (definition.Demand demand.Always) (demand_in names words) x e in
    let parts = demand_spelled names words read.0 read.1 in
    subst (SpellsDefinition names keyword.Always words) read.2 (refl, parts.0, parts.1)
definition_spelled names keyword.Action words x e =
    let read = mapped definition.Action (action_in words) x e in
    let is = action_spelled words read.0 read.1 in
    subst (SpellsDefinition names keyword.Action words) read.2 (refl, is.0, is.1)

pub one_definition : (names : List (List ℕ)) (k : Keyword) (words : List (List ℕ)) (x y : Definition) → SpellsDefinition names k words x → SpellsDefinition names k words y → x ≡ y
one_definition names k words x y s t = let e = definition_read names k words x s in let f = definition_read names k words y t in cc

-- ---- the first thing that is wrong

contradicts : (b : Bool) → b ≡ true → b ≡ false → ⊥
contradicts b e f = let g : true ≡ false = sym e ∙ f in cc

true_of : (b : Bool) → not b ≡ false → b ≡ true
true_of true e = refl
true_of false e = absurd cc

err_is : (f g : DefinitionFault) (r : Answer) → r ≡ Err f → r ≡ Err g → f ≡ g
err_is f g r a b = cc

no_ok : {X : Type 0} (f : DefinitionFault) (e : Definitions) → (let r : Answer = Ok e in r) ≡ Err f → X
no_ok f e h = absurd cc

-- the condition of a place
abbrev condition_at : ℕ → DefinitionCondition
condition_at n =
    cond (n == 1) no_form (cond (n == 2) one_too_many (cond (n == 3) no_such_name (cond (n == 4) long_line (cond (n == 5) bad_class same_name))))

at_its_place : (c : DefinitionCondition) → condition_at (order_of c) ≡ c
at_its_place no_form = refl
at_its_place one_too_many = refl
at_its_place no_such_name = refl
at_its_place long_line = refl
at_its_place bad_class = refl
at_its_place same_name = refl

one_at_a_place : (c e : DefinitionCondition) → order_of c ≡ order_of e → c ≡ e
one_at_a_place c e is = sym (at_its_place c) ∙ ap condition_at is ∙ at_its_place e

module _ (limit : ℕ) (d : Definitions) (k : Keyword) (words : List (List ℕ)) where
  abbrev test : DefinitionCondition → Definition → Bool
  test = test_of limit d

  abbrev Such : DefinitionCondition → Type 0
  Such c = (x : Definition) × SpellsDefinition d.set_names k words x × (test c x ≡ true)

  module _ (x : Definition) (spelled : SpellsDefinition d.set_names k words x) where
    -- no condition holds whose test is false of what was read
    never : (c : DefinitionCondition) → test c x ≡ false → Such c → ⊥
    never c is_false s = contradicts (test c x) (ap (test c) (one_definition d.set_names k words x s.0 spelled s.1) ∙ s.2) is_false

    -- each test before a place is false
    abbrev AllFalse : ℕ → Type 0
    AllFalse n = (c : DefinitionCondition) → 1 < order_of c → order_of c < n → test c x ≡ false

    no_test : AllFalse 2
    no_test c above below = absurd (omega (arith, above, below))

    one_more : (n : ℕ) (e : DefinitionCondition) → order_of e ≡ n → test e x ≡ false → AllFalse n → AllFalse (n + 1)
    one_more n e at is are c above below = by (nat_lt (order_of c) n) refl
      where
        by : (b : Bool) → nat_lt (order_of c) n ≡ b → test c x ≡ false
        by true l = are c above (ltb-true (order_of c) n l)
        by false l = let same : order_of c ≡ order_of e = omega (arith, ltb-false (order_of c) n l, below, at) in ap (λ f. test f x) (one_at_a_place c e same) ∙ is

    none_before : (n : ℕ) → AllFalse n → (c : DefinitionCondition) → order_of c < n → Holds limit d k words c → ⊥
    none_before n are no_form l h = h x spelled
    none_before n are one_too_many l h = never one_too_many (are one_too_many (omega arith) l) h
    none_before n are no_such_name l h = never no_such_name (are no_such_name (omega arith) l) h
    none_before n are long_line l h = never long_line (are long_line (omega arith) l) h
    none_before n are bad_class l h = never bad_class (are bad_class (omega arith) l) h
    none_before n are same_name l h = never same_name (are same_name (omega arith) l) h

    first_of_tests : (f : DefinitionFault) (m n l b s : Bool) → test one_too_many x ≡ m → has_known_names d x ≡ n → test long_line x ≡ l → test bad_class x ≡ b → test same_name x ≡ s
        → told_by d x m n l b s ≡ Err f → IsDefinitionFault limit d k words f
    first_of_tests f true n l b s im in_ il ib is e = (one_too_many, err_is Limit f (Err Limit) refl e, (x, spelled, im), none_before 2 no_test)
    first_of_tests f false false l b s im in_ il ib is e =
        let earlier = one_more 2 one_too_many refl im no_test in
        (no_such_name, err_is NoSuchName f (Err NoSuchName) refl e, (x, spelled, ap not in_), none_before 3 earlier)
    first_of_tests f false true true b s im in_ il ib is e =
        let earlier = one_more 3 no_such_name refl (ap not in_) (one_more 2 one_too_many refl im no_test) in
        (long_line, err_is Limit f (Err Limit) refl e, (x, spelled, il), none_before 4 earlier)
    first_of_tests f false true false true s im in_ il ib is e =
        let earlier = one_more 4 long_line refl il (one_more 3 no_such_name refl (ap not in_) (one_more 2 one_too_many refl im no_test)) in
        (bad_class, err_is BadClass f (Err BadClass) refl e, (x, spelled, ib), none_before 5 earlier)
    first_of_tests f false true false false true im in_ il ib is e =
        let earlier = one_more 5 bad_class refl ib (one_more 4 long_line refl il (one_more 3 no_such_name refl (ap not in_) (one_more 2 one_too_many refl im no_test))) in
        (same_name, err_is SameName f (Err SameName) refl e, (x, spelled, is), none_before 6 earlier)
    first_of_tests f false true false false false im in_ il ib is e = no_ok f (added d x) e

  -- what is told of a line is the first thing that is wrong with it
  pub wrong_is : (f : DefinitionFault) → defined limit d k words ≡ Err f → IsDefinitionFault limit d k words f
  wrong_is f e = by_cases (definition_of d.set_names k words) refl
    where
      by_cases : (o : Option Definition) → definition_of d.set_names k words ≡ o → IsDefinitionFault limit d k words f
      by_cases None is = (
        no_form,
        err_is Syntax f (defined limit d k words) (formless limit d (definition_of d.set_names k words) is) e,
        (λ x spelled. absurd (let read = definition_read d.set_names k words x spelled in let no : (let o : Option Definition = None in o) ≡ Some x = sym is ∙ read in cc)),
        λ c l h. absurd (first_place c l),
      )
        where
          first_place : (c : DefinitionCondition) → order_of c < 1 → ⊥
          first_place no_form l = omega (arith, l)
          first_place one_too_many l = omega (arith, l)
          first_place no_such_name l = omega (arith, l)
          first_place long_line l = omega (arith, l)
          first_place bad_class l = omega (arith, l)
          first_place same_name l = omega (arith, l)
      by_cases (Some x) is =
          let spelled = definition_spelled d.set_names k words x is in
          first_of_tests x spelled f _ _ _ _ _ refl refl refl refl refl (sym (formed limit d (definition_of d.set_names k words) x is) ∙ e)

  -- ---- the other way

  nothing_read : ((x : Definition) → SpellsDefinition d.set_names k words x → ⊥) → definition_of d.set_names k words ≡ None
  nothing_read nothing = by_cases (definition_of d.set_names k words) refl
    where
      by_cases : (o : Option Definition) → definition_of d.set_names k words ≡ o → definition_of d.set_names k words ≡ None
      by_cases None is = is
      by_cases (Some x) is = absurd (nothing x (definition_spelled d.set_names k words x is))

  abbrev None_before : DefinitionCondition → Type 0
  None_before c = (e : DefinitionCondition) → order_of e < order_of c → Holds limit d k words e → ⊥

  module _ (x : Definition) (spelled : SpellsDefinition d.set_names k words x) where
    untrue : (c : DefinitionCondition) → (Such c → ⊥) → test c x ≡ false
    untrue c never_so = false_from_ne_true (test c x) (λ is_true. never_so (x, spelled, is_true))

    told : (m n l b s : Bool) → test one_too_many x ≡ m → has_known_names d x ≡ n → test long_line x ≡ l → test bad_class x ≡ b → test same_name x ≡ s
        → defined limit d k words ≡ told_by d x m n l b s
    told m n l b s = by_tests limit d (definition_of d.set_names k words) x m n l b s (definition_read d.set_names k words x spelled)

    known_if : (Such no_such_name → ⊥) → has_known_names d x ≡ true
    known_if never_so = true_of (has_known_names d x) (untrue no_such_name never_so)

  first_told : (c : DefinitionCondition) → Holds limit d k words c → None_before c → defined limit d k words ≡ Err (fault_of c)
  first_told no_form h first = formless limit d (definition_of d.set_names k words) (nothing_read h)
  first_told one_too_many (x, spelled, is_true) first = told x spelled true _ _ _ _ is_true refl refl refl refl
  first_told no_such_name (x, spelled, is_true) first =
      told x spelled false false _ _ _ (untrue x spelled one_too_many (first one_too_many (omega arith))) (not-true (has_known_names d x) is_true) refl refl refl
  first_told long_line (x, spelled, is_true) first =
      told x spelled false true true _ _ (untrue x spelled one_too_many (first one_too_many (omega arith))) (known_if x spelled (first no_such_name (omega arith))) is_true refl refl
  first_told bad_class (x, spelled, is_true) first =
      told x spelled false true false true _ (untrue x spelled one_too_many (first one_too_many (omega arith))) (known_if x spelled (first no_such_name (omega arith)))
      (untrue x spelled long_line (first long_line (omega arith))) is_true refl
  first_told same_name (x, spelled, is_true) first =
      told x spelled false true false false true (untrue x spelled one_too_many (first one_too_many (omega arith))) (known_if x spelled (first no_such_name (omega arith)))
      (untrue x spelled long_line (first long_line (omega arith))) (untrue x spelled bad_class (first bad_class (omega arith))) is_true

  pub wrong_from : (f : DefinitionFault) → IsDefinitionFault limit d k words f → defined limit d k words ≡ Err f
  wrong_from f w = first_told w.0 w.2 w.3 ∙ ap (λ g. Err g) w.1
