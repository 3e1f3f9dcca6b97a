-- What lines define has no fault.
use Rattle.std.proofs.Common.{◌≡◌, ℕ, Bool, true, false, not, cond, List, [], ◌∷◌, ◌++◌, ◌+◌, ◌<◌, ◌≤◌, length, length-append, Option, Some, None, Result, Ok, Err, refl, sym, ap, subst, ◌∙◌, arith}
use Rattle.std.specs.Option.{option_map}
use Rattle.std.proofs.lemmas.List.{append-nil}
use Rattle.std.proofs.lemmas.Bool.{not-false}
use Rattle.label_patterns.specs.Patterns.{Pattern}
use Rattle.ruleset_text.specs.declared.definition.DemandKind.{DemandKind}
use Rattle.ruleset_text.specs.declared.definition.DemandKind.TheVariants as demand
use Rattle.ruleset_text.specs.declared.fault.DefinitionFault.{DefinitionFault}
use Rattle.ruleset_text.specs.declared.fault.DefinitionFault.TheVariants.{Limit, NoSuchName, BadClass, SameName}
use Rattle.ruleset_text.specs.declared.keyword.Keyword.{Keyword}
use Rattle.ruleset_text.specs.declared.keyword.Keyword.TheVariants as keyword
use Rattle.ruleset_text.specs.Canonical.{definition_text}
use Rattle.ruleset_text.specs.Definition as definition
use Rattle.ruleset_text.specs.ActionSteps.{action_in}
use Rattle.ruleset_text.specs.Definition.{Definition, type_in, set_in, rule_in, whole_in, contexts_in, demand_in, definition_of}
use Rattle.ruleset_text.specs.Definitions.{Definitions, canonical_size, is_one_too_many, has_known_names, has_bad_class, has_same_name, added, with_definition, defined}
use Rattle.ruleset_text.specs.DefinitionForms.{HasForm}
use Rattle.ruleset_text.specs.inner.DefinitionSteps.{IsFaultless}
use Rattle.ruleset_text.specs.Names.{is_name}
use Rattle.ruleset_text.specs.Spans.{spans_in}
use Rattle.ruleset_text.specs.WellFormed.{AreDefinitions}
use Rattle.ruleset_text.proofs.AddedLemmas.{canonical_size-added}
use Rattle.ruleset_text.proofs.DefineLemmas.{is_long, may_be_added}
use Rattle.ruleset_text.proofs.ActionReadLemmas.{action_spelled}
use Rattle.ruleset_text.proofs.FormLemmas.{contexts_formed, demand_formed, of_contexts, of_whole}
use Rattle.ruleset_text.proofs.SpanLemmas.{spans_good}

-- ---- its form

pub mapped : {A : Type 0} (f : A → Definition) (o : Option A) (x : Definition) → option_map f o ≡ Some x → (a : A) × (o ≡ Some a) × (f a ≡ x)
mapped f None x e = absurd (cc)
mapped f (Some a) x e = (a, refl, cc)

pub if_true : (b : Bool) (o : Option Definition) (x : Definition) → cond b o None ≡ Some x → (b ≡ true) × (o ≡ Some x)
if_true true o x e = (refl, e)
if_true false o x e = absurd (cc)

type_form : (words : List (List ℕ)) (x : Definition) → type_in words ≡ Some x → HasForm x
type_form [] x e = absurd (cc)
type_form (name ∷ []) x e =
    let parts = if_true (is_name name) (Some (definition.VariantType name)) x e in
    let same : definition.VariantType name ≡ x = let some = parts.1 in cc in
    subst HasForm same parts.0
type_form (name ∷ word ∷ words) x e = absurd (cc)

set_form : (words : List (List ℕ)) (x : Definition) → set_in words ≡ Some x → HasForm x
set_form [] x e = absurd (cc)
set_form (name ∷ words) x e =
    let parts = if_true (is_name name) (option_map (definition.Set name) (spans_in words)) x e in
    let read = mapped (definition.Set name) (spans_in words) x parts.1 in
    let good = spans_good words read.0 read.1 in
    subst HasForm read.2 (parts.0, good.0, good.1)

rule_form : (names words : List (List ℕ)) (x : Definition) → rule_in names words ≡ Some x → HasForm x
rule_form names [] x e = absurd (cc)
rule_form names (name ∷ words) x e =
    let parts = if_true (is_name name) (option_map (definition.Rule name) (contexts_in names words)) x e in
    let read = mapped (definition.Rule name) (contexts_in names words) x parts.1 in
    let formed = contexts_formed names words read.0 read.1 in
    subst HasForm read.2 (parts.0, formed.0, of_contexts read.0 formed.1)

whole_form : (names words : List (List ℕ)) (x : Definition) → whole_in names words ≡ Some x → HasForm x
whole_form names [] x e = absurd (cc)
whole_form names (name ∷ words) x e =
    let parts = if_true (is_name name) (option_map (definition.Rule name) (demand_in names words)) x e in
    let read = mapped (definition.Rule name) (demand_in names words) x parts.1 in
    let formed = demand_formed names words read.0 read.1 in
    subst HasForm read.2 (parts.0, formed.0, of_whole read.0 formed.1)

pub form : (names : List (List ℕ)) (k : Keyword) (words : List (List ℕ)) (x : Definition) → definition_of names k words ≡ Some x → HasForm x
form names keyword.VariantType words x e = type_form words x e
form names keyword.Set words x e = set_form words x e
form names keyword.Rule words x e = rule_form names words x e
form names keyword.Whole words x e = whole_form names words x e
form names keyword.Never words x e =
    let read = mapped (definition.Demand demand.Never) (demand_in names words) x e in
    subst HasForm read.2 (demand_formed names words read.0 read.1)
form names keyword.Always words x e =
    let read = mapped (definition.Demand demand.Always) (demand_in names words) x e in
    subst HasForm read.2 (demand_formed names words read.0 read.1)
form names keyword.Action words x e =
    let read = mapped definition.Action (action_in words) x e in
    subst HasForm read.2 (action_spelled words read.0 read.1).0

-- ---- no fault

if_not : (b : Bool) (fault : DefinitionFault) (r : Result Definitions DefinitionFault) (e : Definitions) → cond b (Err fault) r ≡ Ok e → (b ≡ false) × (r ≡ Ok e)
if_not true fault r e h = absurd (cc)
if_not false fault r e h = (refl, h)

-- what was defined without a fault
record IsDefined (limit : ℕ) (d : Definitions) (o : Option Definition) (e : Definitions) : Type 0 where
  x : Definition
  read : o ≡ Some x
  faultless : IsFaultless limit d x
  is : added d x ≡ e

with_none : (limit : ℕ) (d : Definitions) (o : Option Definition) (e : Definitions) → with_definition limit d o ≡ Ok e → IsDefined limit d o e
unfolding with_definition
with_none limit d None e h = absurd (cc)
with_none limit d (Some x) e h =
    let count = if_not (is_one_too_many d x) Limit _ e h in
    let known = if_not (not (has_known_names d x)) NoSuchName _ e count.1 in
    let line = if_not (is_long limit d x) Limit _ e known.1 in
    let classes = if_not (has_bad_class d.properties x) BadClass _ e line.1 in
    let new = if_not (has_same_name d x) SameName _ e classes.1 in
    let same : added d x ≡ e = let ok = new.1 in cc in
    record {
      x = x;
      read = refl;
      faultless = record { count = count.0; known = not-false (has_known_names d x) known.0; line = line.0; class = classes.0; name = new.0 };
      is = same;
    }

-- what a line makes of definitions without a fault: they have none, nothing is lost, and there is room for them
pub record Grown (limit : ℕ) (d e : Definitions) : Type 0 where
  pub without_fault : AreDefinitions e
  pub longer : canonical_size d ≤ canonical_size e
  pub room : canonical_size e ≤ limit

grows : (limit : ℕ) (d e : Definitions) (o : Option Definition) → AreDefinitions d → ((x : Definition) → o ≡ Some x → HasForm x)
    → with_definition limit d o ≡ Ok e → Grown limit d e
grows limit d e o are formed h =
    let found = with_none limit d o e h in
    let may = may_be_added limit d found.x are (formed found.x found.read) found.faultless in
    let size : canonical_size e ≡ canonical_size d + (length (definition_text d.set_names found.x) + 1) = ap canonical_size (sym found.is) ∙ canonical_size-added d found.x are in
    record {
      without_fault = subst AreDefinitions found.is may.without_fault;
      longer = omega (arith, size);
      room = omega (arith, size, may.room);
    }

pub defined_grows : (limit : ℕ) (d e : Definitions) (k : Keyword) (words : List (List ℕ)) → AreDefinitions d → defined limit d k words ≡ Ok e → Grown limit d e
defined_grows limit d e k words are h =
    grows limit d e (definition_of d.set_names k words) are (λ x read. form d.set_names k words x read) h

-- the same of a definition that isn't read
pub pushed_grows : (limit : ℕ) (d e : Definitions) (x : Definition) → AreDefinitions d → HasForm x → with_definition limit d (Some x) ≡ Ok e → Grown limit d e
pushed_grows limit d e x are formed h =
    grows limit d e (Some x) are (λ y is. (let same : x ≡ y = cc in subst HasForm same formed)) h

-- ---- demands come by their keywords alone

abbrev IsNoDemand : Definition → Type 0
IsNoDemand (definition.VariantType name) = Unit {0}
IsNoDemand (definition.Set name spans) = Unit {0}
IsNoDemand (definition.Rule name contexts) = Unit {0}
IsNoDemand (definition.Demand kind p) = ⊥
IsNoDemand (definition.Action a) = Unit {0}

type_is_none : (words : List (List ℕ)) (x : Definition) → type_in words ≡ Some x → IsNoDemand x
type_is_none [] x e = absurd (cc)
type_is_none (name ∷ []) x e =
    let parts = if_true (is_name name) (Some (definition.VariantType name)) x e in
    let same : definition.VariantType name ≡ x = let some = parts.1 in cc in
    subst IsNoDemand same tt
type_is_none (name ∷ word ∷ words) x e = absurd (cc)

set_is_none : (words : List (List ℕ)) (x : Definition) → set_in words ≡ Some x → IsNoDemand x
set_is_none [] x e = absurd (cc)
set_is_none (name ∷ words) x e =
    let read = mapped (definition.Set name) (spans_in words) x (if_true (is_name name) (option_map (definition.Set name) (spans_in words)) x e).1 in
    subst IsNoDemand read.2 tt

rule_is_none : (names words : List (List ℕ)) (x : Definition) → rule_in names words ≡ Some x → IsNoDemand x
rule_is_none names [] x e = absurd (cc)
rule_is_none names (name ∷ words) x e =
    let read = mapped (definition.Rule name) (contexts_in names words) x (if_true (is_name name) (option_map (definition.Rule name) (contexts_in names words)) x e).1 in
    subst IsNoDemand read.2 tt

whole_is_none : (names words : List (List ℕ)) (x : Definition) → whole_in names words ≡ Some x → IsNoDemand x
whole_is_none names [] x e = absurd (cc)
whole_is_none names (name ∷ words) x e =
    let read = mapped (definition.Rule name) (demand_in names words) x (if_true (is_name name) (option_map (definition.Rule name) (demand_in names words)) x e).1 in
    subst IsNoDemand read.2 tt

-- neither '%never' nor '%always'
abbrev pub NamesNoDemand : Keyword → Type 0
NamesNoDemand keyword.VariantType = Unit {0}
NamesNoDemand keyword.Set = Unit {0}
NamesNoDemand keyword.Rule = Unit {0}
NamesNoDemand keyword.Whole = Unit {0}
NamesNoDemand keyword.Action = Unit {0}
NamesNoDemand keyword.Never = ⊥
NamesNoDemand keyword.Always = ⊥

is_none : (names : List (List ℕ)) (k : Keyword) (words : List (List ℕ)) (x : Definition) → NamesNoDemand k → definition_of names k words ≡ Some x → IsNoDemand x
is_none names keyword.VariantType words x k e = type_is_none words x e
is_none names keyword.Set words x k e = set_is_none words x e
is_none names keyword.Rule words x k e = rule_is_none names words x e
is_none names keyword.Whole words x k e = whole_is_none names words x e
is_none names keyword.Action words x k e = let read = mapped definition.Action (action_in words) x e in subst IsNoDemand read.2 tt
is_none names keyword.Never words x k e = absurd k
is_none names keyword.Always words x k e = absurd k

demands_of_added : (d : Definitions) (x : Definition) → IsNoDemand x → (added d x).demands ≡ d.demands
demands_of_added d (definition.VariantType name) n = refl
demands_of_added d (definition.Set name spans) n = refl
demands_of_added d (definition.Rule name contexts) n = refl
demands_of_added d (definition.Demand kind p) n = absurd n
demands_of_added d (definition.Action a) n = refl

pub demands_stay : (limit : ℕ) (d e : Definitions) (k : Keyword) (words : List (List ℕ)) → NamesNoDemand k → defined limit d k words ≡ Ok e → e.demands ≡ d.demands
demands_stay limit d e k words n h =
    let found = with_none limit d (definition_of d.set_names k words) e h in
    ap (λ f. f.demands) (sym found.is) ∙ demands_of_added d found.x (is_none d.set_names k words found.x n found.read)

-- ---- a demand stays

more_demands : (d : Definitions) (x : Definition) → length d.demands ≤ length (added d x).demands
more_demands d (definition.VariantType name) = omega arith
more_demands d (definition.Set name spans) = omega arith
more_demands d (definition.Rule name contexts) = omega arith
more_demands d (definition.Demand kind p) = omega (arith, length-append d.demands (record { kind = kind; pattern = p } ∷ []))
more_demands d (definition.Action a) = omega arith

pub demands_grow : (limit : ℕ) (d e : Definitions) (k : Keyword) (words : List (List ℕ)) → defined limit d k words ≡ Ok e → length d.demands ≤ length e.demands
demands_grow limit d e k words h =
    let found = with_none limit d (definition_of d.set_names k words) e h in
    omega (arith, more_demands d found.x, ap (λ f. length f.demands) found.is)

-- where there is none, none was defined
some_demand : (limit : ℕ) (d e : Definitions) (kind : DemandKind) (p : Pattern) → added d (definition.Demand kind p) ≡ e → 0 < length e.demands
some_demand limit d e kind p is = omega (arith, ap (λ f. length f.demands) is, length-append d.demands (record { kind = kind; pattern = p } ∷ []))

pub without_demands : (limit : ℕ) (d e : Definitions) (k : Keyword) (words : List (List ℕ)) → defined limit d k words ≡ Ok e → length e.demands ≡ 0 → NamesNoDemand k
without_demands limit d e keyword.VariantType words h none = tt
without_demands limit d e keyword.Set words h none = tt
without_demands limit d e keyword.Rule words h none = tt
without_demands limit d e keyword.Whole words h none = tt
without_demands limit d e keyword.Action words h none = tt
without_demands limit d e keyword.Never words h none =
    let found = with_none limit d (definition_of d.set_names keyword.Never words) e h in
    let read = mapped (definition.Demand demand.Never) (demand_in d.set_names words) found.x found.read in
    omega (arith, none, some_demand limit d e demand.Never read.0 (ap (added d) read.2 ∙ found.is))
without_demands limit d e keyword.Always words h none =
    let found = with_none limit d (definition_of d.set_names keyword.Always words) e h in
    let read = mapped (definition.Demand demand.Always) (demand_in d.set_names words) found.x found.read in
    omega (arith, none, some_demand limit d e demand.Always read.0 (ap (added d) read.2 ∙ found.is))

-- ---- names of types and rules

-- those that were there stay, with others after them
pub record NamesStay (d e : Definitions) : Type 0 where
  pub types : (more : List (List ℕ)) × (e.types ≡ d.types ++ more)
  pub rules : (more : List (List ℕ)) × (e.rule_names ≡ d.rule_names ++ more)
  pub properties : e.properties ≡ d.properties

stays : (d : Definitions) (x : Definition) → NamesStay d (added d x)
stays d (definition.VariantType name) = record { types = (name ∷ [], refl); rules = ([], sym (append-nil d.rule_names)); properties = refl }
stays d (definition.Set name spans) = record { types = ([], sym (append-nil d.types)); rules = ([], sym (append-nil d.rule_names)); properties = refl }
stays d (definition.Rule name contexts) = record { types = ([], sym (append-nil d.types)); rules = (name ∷ [], refl); properties = refl }
stays d (definition.Demand kind p) = record { types = ([], sym (append-nil d.types)); rules = ([], sym (append-nil d.rule_names)); properties = refl }
stays d (definition.Action a) = record { types = ([], sym (append-nil d.types)); rules = ([], sym (append-nil d.rule_names)); properties = refl }

pub names_stay_with : (limit : ℕ) (d e : Definitions) (o : Option Definition) → with_definition limit d o ≡ Ok e → NamesStay d e
names_stay_with limit d e o h =
    let found = with_none limit d o e h in
    subst (NamesStay d) found.is (stays d found.x)

pub names_stay : (limit : ℕ) (d e : Definitions) (k : Keyword) (words : List (List ℕ)) → defined limit d k words ≡ Ok e → NamesStay d e
names_stay limit d e k words h = names_stay_with limit d e (definition_of d.set_names k words) h
