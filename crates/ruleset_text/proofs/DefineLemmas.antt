-- The faults of a definition in their order, and that one without a fault may be added.
use Rattle.std.proofs.Common.{◌≡◌, ℕ, ◌+◌, ◌≤◌, Bool, true, false, not, cond, length, Option, Some, None, Result, Ok, Err, sym, ap, subst, ◌∙◌}
use Rattle.std.specs.Prelude.{nat_lt}
use Rattle.std.proofs.lemmas.Bool.{ltb-false, or_parts}
use Rattle.ruleset_text.specs.declared.fault.DefinitionFault.{DefinitionFault}
use Rattle.ruleset_text.specs.declared.fault.DefinitionFault.TheVariants.{Syntax, Limit, NoSuchName, BadClass, SameName}
use Rattle.ruleset_text.specs.Canonical.{definition_text}
use Rattle.ruleset_text.specs.Definition as definition
use Rattle.ruleset_text.specs.Definition.{Definition}
use Rattle.ruleset_text.specs.Definitions.{Definitions, all_names, canonical_size, is_line_over_limit, is_one_too_many, has_known_names, has_bad_class, has_same_name, added, with_definition}
use Rattle.ruleset_text.specs.DefinitionForms.{HasForm}
use Rattle.ruleset_text.specs.inner.DefinitionSteps.{IsFaultless}
use Rattle.ruleset_text.specs.WellFormed.{HasParts, IsDefinition, AreDefinitions}
use Rattle.ruleset_text.proofs.KnownSetLemmas.{KnowsSets, known_from}
use Rattle.ruleset_text.proofs.AddedLemmas.{HasNewName, new_from, room_for, room_for_pattern, are_added}

-- ---- the first fault

abbrev pub Answer : Type 0
Answer = Result Definitions DefinitionFault

-- the answer by its tests: one too many, known names, a long line, a bad class, the same name
abbrev pub told_by : Definitions → Definition → Bool → Bool → Bool → Bool → Bool → Answer
told_by d x many known long bad same =
    cond many (Err Limit) (cond (not known) (Err NoSuchName) (cond long (Err Limit) (cond bad (Err BadClass) (cond same (Err SameName) (Ok (added d x))))))

-- the canonical line is too long
abbrev pub is_long : ℕ → Definitions → Definition → Bool
is_long limit d x = is_line_over_limit limit d (length (definition_text d.set_names x))

pub formed : (limit : ℕ) (d : Definitions) (o : Option Definition) (x : Definition) → o ≡ Some x
    → with_definition limit d o ≡ told_by d x (is_one_too_many d x) (has_known_names d x) (is_long limit d x) (has_bad_class d.properties x) (has_same_name d x)
unfolding with_definition
formed limit d o x e = ap (with_definition limit d) e

pub formless : (limit : ℕ) (d : Definitions) (o : Option Definition) → o ≡ None → with_definition limit d o ≡ Err Syntax
unfolding with_definition
formless limit d o e = ap (with_definition limit d) e

pub by_tests : (limit : ℕ) (d : Definitions) (o : Option Definition) (x : Definition) (m n l b s : Bool) → o ≡ Some x → is_one_too_many d x ≡ m → has_known_names d x ≡ n
    → is_long limit d x ≡ l → has_bad_class d.properties x ≡ b → has_same_name d x ≡ s → with_definition limit d o ≡ told_by d x m n l b s
by_tests limit d o x m n l b s read im in_ il ib is =
    formed limit d o x read
    ∙ ap (λ t. told_by d x t (has_known_names d x) (is_long limit d x) (has_bad_class d.properties x) (has_same_name d x)) im
    ∙ ap (λ t. told_by d x m t (is_long limit d x) (has_bad_class d.properties x) (has_same_name d x)) in_
    ∙ ap (λ t. told_by d x m n t (has_bad_class d.properties x) (has_same_name d x)) il
    ∙ ap (λ t. told_by d x m n l t (has_same_name d x)) ib
    ∙ ap (λ t. told_by d x m n l b t) is

pub no_fault : (limit : ℕ) (d : Definitions) (o : Option Definition) (x : Definition) → o ≡ Some x → IsFaultless limit d x → with_definition limit d o ≡ Ok (added d x)
no_fault limit d o x read is = by_tests limit d o x false true false false false read is.count is.known is.line is.class is.name

-- ---- one without a fault

has_parts : (n : ℕ) (d : Definitions) (x : Definition) → HasForm x → is_one_too_many d x ≡ false → KnowsSets n x → has_bad_class d.properties x ≡ false → HasParts d.properties n x
has_parts n d (definition.VariantType name) form few known good = tt
has_parts n d (definition.Set name spans) form few known good = record { some = form.1; rise = form.2; classes = good }
has_parts n d (definition.Rule name contexts) form few known good =
    (record { whole = form.1; within = (room_for_pattern d contexts few).1; known = known; classes = good }, form.2)
has_parts n d (definition.Demand kind p) form few known good =
    (record { whole = form.0; within = (room_for_pattern d p few).1; known = known; classes = good }, form.1)
has_parts n d (definition.Action a) form few known good = form

-- the test tells whether the sets are known
sets_known : (d : Definitions) (x : Definition) → has_known_names d x ≡ true → KnowsSets (length d.sets) x
sets_known d (definition.VariantType name) known = tt
sets_known d (definition.Set name spans) known = tt
sets_known d (definition.Rule name contexts) known = known_from (length d.sets) contexts known
sets_known d (definition.Demand kind p) known = known_from (length d.sets) p known
sets_known d (definition.Action a) known = tt

has_new_name : (d : Definitions) (x : Definition) → HasForm x → has_known_names d x ≡ true → has_same_name d x ≡ false → HasNewName d x
has_new_name d (definition.VariantType name) form known new = (form, new_from (all_names d) name new)
has_new_name d (definition.Set name spans) form known new = (form.0, new_from (all_names d) name new)
has_new_name d (definition.Rule name contexts) form known new = (form.0, new_from (all_names d) name new)
has_new_name d (definition.Demand kind p) form known new = tt
has_new_name d (definition.Action a) form known new = known

-- what has no fault is a definition that may be added, and there is room for its line
pub record MayBeAdded (limit : ℕ) (d : Definitions) (x : Definition) : Type 0 where
  pub without_fault : AreDefinitions (added d x)
  pub room : canonical_size d + (length (definition_text d.set_names x) + 1) ≤ limit

pub may_be_added : (limit : ℕ) (d : Definitions) (x : Definition) → AreDefinitions d → HasForm x → IsFaultless limit d x → MayBeAdded limit d x
may_be_added limit d x are form f =
    let n = length d.set_names in
    let len = length (definition_text d.set_names x) in
    let parts : HasParts d.properties n x = has_parts n d x form f.count (subst (λ m. KnowsSets m x) (sym are.named_sets) (sets_known d x f.known)) f.class in
    let over = or_parts (nat_lt 8192 len) (nat_lt limit (canonical_size d + (len + 1))) f.line in
    let is : IsDefinition d.properties d.set_names x = record { parts = parts; short = ltb-false 8192 len over.0 } in record {
      without_fault = are_added d x are is (has_new_name d x form f.known f.name) (room_for d x f.count);
      room = ltb-false limit (canonical_size d + (len + 1)) over.1;
    }
