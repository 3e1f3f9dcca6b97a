-- What is known after definitions that were taken one after the other.
use Rattle.std.proofs.Common.{◌≡◌, ◌≢◌, ℕ, ◌<◌, ◌≤◌, inl, inr, List, [], ◌∷◌, ◌++◌, map, length, get_or, None, sym, ap, subst, ◌∙◌, length-append, arith}
use Rattle.std.specs.List.{All, AllPairs, Contains, flat_map}
use Rattle.std.proofs.lemmas.Bool.{cases_lt}
use Rattle.std.proofs.lemmas.List.{get_or_append_left, get_or_default, get_or_push, get_or-map, length-map, map-append}
use Rattle.std.proofs.lemmas.List.Elements.{All-append, All-head, All-nil, All-push, All-tail, All-weaker, Contains-append_left, Contains-push, Contains-push_cases}
use Rattle.std.proofs.lemmas.List.Quantifiers.{all_pairs_push}
use Rattle.label_patterns.specs.declared.span.Span.{Span}
use Rattle.label_patterns.specs.Patterns as pattern
use Rattle.label_patterns.specs.Rules.{is_context_rule}
use Rattle.label_patterns.specs.Sets.{is_in}
use Rattle.ruleset_text.specs.Names.{number_of}
use Rattle.lgr_text.proofs.PartLemmas.{begins-so}
use Rattle.lgr_text.specs.ClassMembers.{class_fault, has, set_fault, set_named}
use Rattle.lgr_text.specs.Known.{Known}
use Rattle.lgr_text.specs.PartMatches.{BeginsWith, MatchesAsPart, SaysRule, has_anchor, name_fault, rule_named}
use Rattle.lgr_text.specs.Records as lgr
use Rattle.lgr_text.specs.Records.{Class, Definition, Entry, IsClass, IsRule, Meaning, Part}
use Rattle.lgr_text.specs.Names.{all_classes, classes_in, named_classes, named_rules}
use Rattle.lgr_table.specs.inner.RuleSteps.{AddsMeaning, AddsPattern, AddsSet}
use Rattle.lgr_table.proofs.GrowthLemmas.{Grows, IsFree, anchor-stays, class-none, class-stays, first-none, free-stays, matches-stay, part-free, rule-found, rule-grows, says-stays, second-none, set-found, set-grows}
use Rattle.lgr_table.proofs.NumberLemmas.{name-there, number-found, number-new, number-stays}

-- ---- what a definition means

pub record IsSetOf (known : Known) (name : List ℕ) (class : Class) : Type 0 where
  pub found : number_of known.set_names name < length known.sets
  pub no_fault : class_fault known class ≡ None
  pub members : (c : ℕ) → c ≤ 0x10FFFF → is_in (set_named known name) c ≡ has known class c

pub record IsPatternOf (known : Known) (sets : List (List Span)) (name : List ℕ) (rule : Part) : Type 0 where
  pub found : number_of known.rule_names name < length known.rules
  pub no_fault : IsFree known rule
  pub says : SaysRule known sets (rule_named known name) rule
  pub matches : MatchesAsPart known sets (rule_named known name) rule
  pub anchor : is_context_rule (rule_named known name) ≡ has_anchor known rule

abbrev pub IsMeant : Known → List (List Span) → List ℕ → Meaning → Type 0
IsMeant known sets name (IsClass class) = IsSetOf known name class
IsMeant known sets name (IsRule rule) = IsPatternOf known sets name rule

pub meant-stays : (old new : Known) (sets more : List (List Span)) (name : List ℕ) (meaning : Meaning) → Grows old new → BeginsWith more sets
    → IsMeant old sets name meaning → IsMeant new more name meaning
meant-stays old new sets more name (IsClass class) grows begins meant =
    let both = grows.sets name meant.found in record {
      found = both.0;
      no_fault = class-none old new grows class meant.no_fault;
      members = λ c le. ap (λ l. is_in l c) both.1 ∙ meant.members c le ∙ class-stays old new grows class meant.no_fault c;
    }
meant-stays old new sets more name (IsRule rule) grows begins meant =
    let both = grows.rules name meant.found in record {
      found = both.0;
      no_fault = free-stays old new grows rule meant.no_fault;
      says = subst (λ q. SaysRule new more q rule) (sym both.1)
          (says-stays old new sets more (rule_named old name) rule grows begins meant.no_fault meant.says);
      matches = subst (λ q. MatchesAsPart new more q rule) (sym both.1)
          (matches-stay old new sets more (rule_named old name) rule grows begins meant.no_fault meant.matches);
      anchor = ap is_context_rule both.1 ∙ meant.anchor ∙ sym (anchor-stays old new grows rule meant.no_fault.rules);
    }

-- ---- what was taken

abbrev pub names_of : List Definition → List (List ℕ)
names_of done = map (λ d. d.name) done

-- what a definition names stands before it
abbrev pub IsBelow : List Definition → Definition → Type 0
IsBelow done d =
    All (λ name. number_of (names_of done) name < number_of (names_of done) d.name) (named_classes d.meaning ++ named_rules d.meaning)

pub record AreTaken (all : List Entry) (of : List Span) (known : Known) (sets : List (List Span)) (done : List Definition) : Type 0 where
  pub entries : known.entries ≡ all
  pub points : known.points ≡ of
  pub each_set : length known.set_names ≡ length known.sets
  pub each_rule : length known.rule_names ≡ length known.rules
  pub meant : (d : Definition) → Contains done d → IsMeant known sets d.name d.meaning
  pub of_sets : (k : ℕ) → k < length known.set_names
      → (class : Class) × Contains done (record { name = get_or known.set_names k []; meaning = IsClass class })
  pub of_rules : (k : ℕ) → k < length known.rule_names
      → (rule : Part) × Contains done (record { name = get_or known.rule_names k []; meaning = IsRule rule })
  pub apart : AllPairs (λ a b. a ≢ b) known.rule_names
  pub below : (d : Definition) → Contains done d → IsBelow done d

-- none of them has this name
abbrev pub IsNew : List Definition → List ℕ → Type 0
IsNew done name = (k : ℕ) → k < length (names_of done) → get_or (names_of done) k [] ≢ name

none-contained : {X : Type 0} (x : X) → Contains [] x → ⊥
none-contained x h = omega (arith, h.1)

pub taken-none : (entries : List Entry) (points : List Span) (known : Known) → known.entries ≡ entries → known.points ≡ points
    → known.set_names ≡ [] → known.sets ≡ [] → known.rule_names ≡ [] → known.rules ≡ [] → AreTaken entries points known [] []
taken-none entries points known e f set_names sets rule_names rules = record {
  entries = e;
  points = f;
  each_set = ap length set_names ∙ sym (ap length sets);
  each_rule = ap length rule_names ∙ sym (ap length rules);
  meant = λ d h. absurd (none-contained d h);
  of_sets = λ k less. absurd (let n = ap length set_names in omega (arith, less, n));
  of_rules = λ k less. absurd (let n = ap length rule_names in omega (arith, less, n));
  apart = λ i j d before less. absurd (let n = ap length rule_names in omega (arith, less, n));
  below = λ d h. absurd (none-contained d h);
}

-- ---- names among those that were taken

names-push : (done : List Definition) (d : Definition) → names_of (done ++ d ∷ []) ≡ names_of done ++ d.name ∷ []
names-push done d = map-append (λ (e : Definition). e.name) done (d ∷ [])

pub contained-named : (done : List Definition) (d : Definition) → Contains done d → number_of (names_of done) d.name < length (names_of done)
contained-named done d h =
    number-found (names_of done) h.0 d.name (omega (arith, h.1, length-map done (λ (e : Definition). e.name)))
    (get_or-map (λ (e : Definition). e.name) done h.0 d [] h.1 ∙ ap (λ (e : Definition). e.name) h.2)

number-kept : (done : List Definition) (d : Definition) (name : List ℕ) → number_of (names_of done) name < length (names_of done)
    → number_of (names_of (done ++ d ∷ [])) name ≡ number_of (names_of done) name
number-kept done d name less =
    ap (λ l. number_of l name) (names-push done d) ∙ number-stays (names_of done) (d.name ∷ []) name less

-- what the new one names is among those before it
pub below-new : (done : List Definition) (d : Definition) → IsNew done d.name
    → All (λ name. number_of (names_of done) name < length (names_of done)) (named_classes d.meaning ++ named_rules d.meaning)
    → IsBelow (done ++ d ∷ []) d
below-new done d new found =
    let here = ap (λ l. number_of l d.name) (names-push done d) ∙ number-new (names_of done) d.name new in
    All-weaker (λ name. number_of (names_of done) name < length (names_of done))
    (λ name. number_of (names_of (done ++ d ∷ [])) name < number_of (names_of (done ++ d ∷ [])) d.name)
    (λ name less. (let kept = number-kept done d name less in omega (arith, less, kept, here)))
    (named_classes d.meaning ++ named_rules d.meaning) found

pub below-kept : (done : List Definition) (d e : Definition) → Contains done e → IsBelow done e → IsBelow (done ++ d ∷ []) e
below-kept done d e h below =
    let own = contained-named done e h in
    let kept_own = number-kept done d e.name own in
    All-weaker (λ name. number_of (names_of done) name < number_of (names_of done) e.name)
    (λ name. number_of (names_of (done ++ d ∷ [])) name < number_of (names_of (done ++ d ∷ [])) e.name)
    (λ name less. (let kept = number-kept done d name (omega (arith, less, own)) in omega (arith, less, kept, kept_own)))
    (named_classes e.meaning ++ named_rules e.meaning) below

-- ---- names that are known

classes-found : (known : Known) (class : Class) → class_fault known class ≡ None
    → All (λ name. set_fault known name ≡ None) (classes_in class)
classes-found known (lgr.Listed spans) none = All-nil (λ name. set_fault known name ≡ None)
classes-found known (lgr.OfTag tag) none = All-nil (λ name. set_fault known name ≡ None)
classes-found known (lgr.OfProperty property) none = All-nil (λ name. set_fault known name ≡ None)
classes-found known (lgr.OfClass name) none = All-push (λ name. set_fault known name ≡ None) [] name (All-nil (λ name. set_fault known name ≡ None)) none
classes-found known (lgr.Joined operation k m) none =
    All-append (λ name. set_fault known name ≡ None) (classes_in k) (classes_in m)
    (classes-found known k (first-none _ _ none)) (classes-found known m (second-none _ _ none))
classes-found known (lgr.Complement k) none = classes-found known k none

all-flat : {X : Type 0} (P : X → Type 0) {Y : Type 0} (f : Y → List X) (ys : List Y) → All (λ y. All P (f y)) ys → All P (flat_map f ys)
all-flat P f [] all = All-nil P
all-flat P f (y ∷ ys) all =
    All-append P (f y) (flat_map f ys) (All-head (λ y. All P (f y)) y ys all) (all-flat P f ys (All-tail (λ y. All P (f y)) y ys all))

-- nothing that it names is missing
abbrev pub HasNoFault : Known → Meaning → Type 0
HasNoFault known (IsClass class) = class_fault known class ≡ None
HasNoFault known (IsRule rule) = IsFree known rule

pub classes-free : (known : Known) (meaning : Meaning) → HasNoFault known meaning
    → All (λ class. class_fault known class ≡ None) (all_classes meaning)
classes-free known (IsClass class) none = All-push (λ class. class_fault known class ≡ None) [] class (All-nil (λ class. class_fault known class ≡ None)) none
classes-free known (IsRule rule) none = none.classes

pub sets-free : (known : Known) (meaning : Meaning) → HasNoFault known meaning
    → All (λ name. set_fault known name ≡ None) (named_classes meaning)
sets-free known meaning none =
    all-flat (λ name. set_fault known name ≡ None) classes_in (all_classes meaning)
    (All-weaker (λ class. class_fault known class ≡ None) (λ class. All (λ name. set_fault known name ≡ None) (classes_in class))
    (classes-found known) (all_classes meaning) (classes-free known meaning none))

pub rules-free : (known : Known) (meaning : Meaning) → HasNoFault known meaning
    → All (λ name. name_fault known name ≡ None) (named_rules meaning)
rules-free known (IsClass class) none = All-nil (λ name. name_fault known name ≡ None)
rules-free known (IsRule rule) none = none.rules

pub meant-free : (known : Known) (sets : List (List Span)) (name : List ℕ) (meaning : Meaning) → IsMeant known sets name meaning → HasNoFault known meaning
meant-free known sets name (IsClass class) meant = meant.no_fault
meant-free known sets name (IsRule rule) meant = meant.no_fault

pub set-taken : (entries : List Entry) (points : List Span) (known : Known) (sets : List (List Span)) (done : List Definition) (name : List ℕ)
    → AreTaken entries points known sets done → set_fault known name ≡ None
    → (class : Class) × Contains done (record { name = name; meaning = IsClass class })
set-taken entries points known sets done name taken none =
    let less : number_of known.set_names name < length known.set_names = omega (arith, set-found known name none, taken.each_set) in
    let found = taken.of_sets (number_of known.set_names name) less in
    (found.0, subst (λ n. Contains done (record { name = n; meaning = IsClass found.0 })) (name-there known.set_names name less) found.1)

pub rule-taken : (entries : List Entry) (points : List Span) (known : Known) (sets : List (List Span)) (done : List Definition) (name : List ℕ)
    → AreTaken entries points known sets done → name_fault known name ≡ None
    → (rule : Part) × Contains done (record { name = name; meaning = IsRule rule })
rule-taken entries points known sets done name taken none =
    let less : number_of known.rule_names name < length known.rule_names = omega (arith, rule-found known name none, taken.each_rule) in
    let found = taken.of_rules (number_of known.rule_names name) less in
    (found.0, subst (λ n. Contains done (record { name = n; meaning = IsRule found.0 })) (name-there known.rule_names name less) found.1)

names-taken : (entries : List Entry) (points : List Span) (known : Known) (sets : List (List Span)) (done : List Definition) (meaning : Meaning)
    → AreTaken entries points known sets done → HasNoFault known meaning
    → All (λ name. number_of (names_of done) name < length (names_of done)) (named_classes meaning ++ named_rules meaning)
names-taken entries points known sets done meaning taken none =
    let P : List ℕ → Type 0 = λ name. number_of (names_of done) name < length (names_of done) in
    All-append P (named_classes meaning) (named_rules meaning)
    (All-weaker (λ name. set_fault known name ≡ None) P (λ name e. (let c = set-taken entries points known sets done name taken e in contained-named done _ c.1))
    (named_classes meaning) (sets-free known meaning none))
    (All-weaker (λ name. name_fault known name ≡ None) P (λ name e. (let c = rule-taken entries points known sets done name taken e in contained-named done _ c.1))
    (named_rules meaning) (rules-free known meaning none))

-- ---- one more

new-other : (done : List Definition) (name : List ℕ) (e : Definition) → IsNew done name → Contains done e → e.name ≢ name
new-other done name e new h same =
    new h.0 (omega (arith, h.1, length-map done (λ (e : Definition). e.name)))
    (get_or-map (λ (e : Definition). e.name) done h.0 e [] h.1 ∙ ap (λ (e : Definition). e.name) h.2 ∙ same)

-- at each place of names that one more follows
named-more : (P : List ℕ → Type 0) (names : List (List ℕ)) (name : List ℕ) → ((k : ℕ) → k < length names → P (get_or names k [])) → P name
    → (k : ℕ) → k < length (names ++ name ∷ []) → P (get_or (names ++ name ∷ []) k [])
named-more P names name old here k less = elim (cases_lt k (length names)) [
  | inl before ↦ subst P (sym (get_or_append_left names (name ∷ []) [] k before)) (old k before)
  | inr from ↦ subst P (sym (get_or_push names name [] k (omega (arith, from, less, length-append names (name ∷ []))))) here
]

-- the last of names and of what has them
named-last : {X : Type 0} (names : List (List ℕ)) (xs : List X) (name : List ℕ) (x d : X) → length names ≡ length xs
    → ((k : ℕ) → k < length names → get_or names k [] ≢ name)
    → (number_of (names ++ name ∷ []) name < length (xs ++ x ∷ [])) × (get_or (xs ++ x ∷ []) (number_of (names ++ name ∷ []) name) d ≡ x)
named-last names xs name x d each new =
    let e = number-new names name new in
    (omega (arith, e, each, length-append xs (x ∷ [])), get_or_push xs x d _ (omega (arith, e, each)))

taken-set : (entries : List Entry) (points : List Span) (known new : Known) (sets : List (List Span)) (done : List Definition) (name : List ℕ) (class : Class)
    → AreTaken entries points known sets done → IsNew done name → AddsSet known name class new
    → AreTaken entries points new sets (done ++ record { name = name; meaning = IsClass class } ∷ [])
taken-set entries points known new sets done name class taken is_new adds =
    subst (λ k. AreTaken entries points k sets (done ++ d ∷ [])) (sym adds.is) grown_taken
  where
    d : Definition
    d = record { name = name; meaning = IsClass class }

    grown : Known
    grown = record known { set_names = known.set_names ++ name ∷ []; sets = known.sets ++ adds.set ∷ [] }

    grows : Grows known grown
    grows = set-grows known name adds.set taken.each_set

    other : (k : ℕ) → k < length known.set_names → get_or known.set_names k [] ≢ name
    other k less = let c = taken.of_sets k less in new-other done name _ is_new c.1

    last : (number_of grown.set_names name < length grown.sets) × (set_named grown name ≡ adds.set)
    last = named-last known.set_names known.sets name adds.set [] taken.each_set other

    here : IsSetOf grown name class
    here = record {
      found = last.0;
      no_fault = class-none known grown grows class adds.no_fault;
      members = λ c le. ap (λ l. is_in l c) last.1 ∙ adds.members c le ∙ class-stays known grown grows class adds.no_fault c;
    }

    grown_taken : AreTaken entries points grown sets (done ++ d ∷ [])
    grown_taken = record {
      entries = taken.entries;
      points = taken.points;
      each_set = omega (arith, taken.each_set, length-append known.set_names (name ∷ []), length-append known.sets (adds.set ∷ []));
      each_rule = taken.each_rule;
      meant = λ e h. elim (Contains-push_cases done d e h) [
        | inl old ↦ meant-stays known grown sets sets e.name e.meaning grows (begins-so sets) (taken.meant e old)
        | inr same ↦ subst (λ (e : Definition). IsMeant grown sets e.name e.meaning) same here
      ];
      of_sets = named-more (λ n. (k : Class) × Contains (done ++ d ∷ []) (record { name = n; meaning = IsClass k })) known.set_names name
          (λ k less. (let old = taken.of_sets k less in (old.0, Contains-append_left done (d ∷ []) _ old.1)))
          (class, Contains-push done d);
      of_rules = λ k less. (let old = taken.of_rules k less in (old.0, Contains-append_left done (d ∷ []) _ old.1));
      apart = taken.apart;
      below = λ e h. elim (Contains-push_cases done d e h) [
        | inl old ↦ below-kept done d e old (taken.below e old)
        | inr same ↦ subst (IsBelow (done ++ d ∷ [])) same
            (below-new done d is_new (names-taken entries points known sets done (IsClass class) taken adds.no_fault))
      ];
    }

taken-rule : (entries : List Entry) (points : List Span) (known new : Known) (sets more : List (List Span)) (done : List Definition) (name : List ℕ) (rule : Part)
    → AreTaken entries points known sets done → IsNew done name → AddsPattern known sets name rule new more
    → AreTaken entries points new more (done ++ record { name = name; meaning = IsRule rule } ∷ [])
taken-rule entries points known new sets more done name rule taken is_new adds =
    subst (λ k. AreTaken entries points k more (done ++ d ∷ [])) (sym adds.is) grown_taken
  where
    d : Definition
    d = record { name = name; meaning = IsRule rule }

    grown : Known
    grown = record known { rule_names = known.rule_names ++ name ∷ []; rules = known.rules ++ adds.p ∷ [] }

    grows : Grows known grown
    grows = rule-grows known name adds.p taken.each_rule

    other : (k : ℕ) → k < length known.rule_names → get_or known.rule_names k [] ≢ name
    other k less = let c = taken.of_rules k less in new-other done name _ is_new c.1

    last : (number_of grown.rule_names name < length grown.rules) × (rule_named grown name ≡ adds.p)
    last = named-last known.rule_names known.rules name adds.p pattern.Anchor taken.each_rule other

    free : IsFree known rule
    free = part-free known rule adds.no_fault

    here : IsPatternOf grown more name rule
    here = record {
      found = last.0;
      no_fault = free-stays known grown grows rule free;
      says = subst (λ q. SaysRule grown more q rule) (sym last.1)
          (says-stays known grown more more adds.p rule grows (begins-so more) free adds.says);
      matches = subst (λ q. MatchesAsPart grown more q rule) (sym last.1)
          (matches-stay known grown more more adds.p rule grows (begins-so more) free adds.matches);
      anchor = ap is_context_rule last.1 ∙ adds.anchor ∙ sym (anchor-stays known grown grows rule free.rules);
    }

    grown_taken : AreTaken entries points grown more (done ++ d ∷ [])
    grown_taken = record {
      entries = taken.entries;
      points = taken.points;
      each_set = taken.each_set;
      each_rule = omega (arith, taken.each_rule, length-append known.rule_names (name ∷ []), length-append known.rules (adds.p ∷ []));
      meant = λ e h. elim (Contains-push_cases done d e h) [
        | inl old ↦ meant-stays known grown sets more e.name e.meaning grows adds.kept (taken.meant e old)
        | inr same ↦ subst (λ (e : Definition). IsMeant grown more e.name e.meaning) same here
      ];
      of_sets = λ k less. (let old = taken.of_sets k less in (old.0, Contains-append_left done (d ∷ []) _ old.1));
      of_rules = named-more (λ n. (r : Part) × Contains (done ++ d ∷ []) (record { name = n; meaning = IsRule r })) known.rule_names name
          (λ k less. (let old = taken.of_rules k less in (old.0, Contains-append_left done (d ∷ []) _ old.1)))
          (rule, Contains-push done d);
      apart = all_pairs_push (λ a b. a ≢ b) known.rule_names name taken.apart
          (λ k e less same. other k less (get_or_default known.rule_names k [] e less ∙ same));
      below = λ e h. elim (Contains-push_cases done d e h) [
        | inl old ↦ below-kept done d e old (taken.below e old)
        | inr same ↦ subst (IsBelow (done ++ d ∷ [])) same
            (below-new done d is_new (names-taken entries points known sets done (IsRule rule) taken free))
      ];
    }

pub taken-more : (entries : List Entry) (points : List Span) (known new : Known) (sets more : List (List Span)) (done : List Definition) (name : List ℕ) (meaning : Meaning)
    → AreTaken entries points known sets done → IsNew done name → AddsMeaning known sets name meaning new more
    → AreTaken entries points new more (done ++ record { name = name; meaning = meaning } ∷ [])
taken-more entries points known new sets more done name (IsClass class) taken is_new adds =
    subst (λ l. AreTaken entries points new l (done ++ record { name = name; meaning = IsClass class } ∷ [])) (sym adds.1)
    (taken-set entries points known new sets done name class taken is_new adds.0)
taken-more entries points known new sets more done name (IsRule rule) taken is_new adds =
    taken-rule entries points known new sets more done name rule taken is_new adds
