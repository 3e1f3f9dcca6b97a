-- What a class or a rule says stays where more is known.
use Rattle.std.proofs.Common.{◌≡◌, ℕ, ◌<◌, Bool, true, false, not, ◌&&◌, ◌||◌, List, [], ◌∷◌, ◌++◌, length, get_or, Option, Some, None, refl, sym, ap, subst, ◌∙◌, length-append, arith}
use Rattle.std.specs.Prelude.{◌↔◌, if◌then◌else◌}
use Rattle.std.specs.List.{All}
use Rattle.std.proofs.lemmas.Bool.{lt-ltb, ltb-true}
use Rattle.std.specs.Option.{option_or}
use Rattle.std.proofs.lemmas.List.{get_or_append_left}
use Rattle.std.proofs.lemmas.List.Elements.{All-append, All-head, All-nil, All-push, All-weaker}
use Rattle.label_patterns.specs.declared.span.Span.{Span}
use Rattle.label_patterns.specs.Laws.{seen}
use Rattle.label_patterns.specs.Matches.{Seen}
use Rattle.label_patterns.specs.Patterns as pattern
use Rattle.label_patterns.specs.Patterns.{Pattern}
use Rattle.label_patterns.specs.Rules.{is_context_rule}
use Rattle.label_patterns.specs.Sets.{is_in}
use Rattle.ruleset_text.specs.Names.{number_of}
use Rattle.lgr_text.proofs.PartLemmas.{begins-too}
use Rattle.lgr_text.specs.ClassMembers.{class_fault, has, set_fault, set_named, tag_fault}
use Rattle.lgr_text.specs.CodePoints.{is_joined}
use Rattle.lgr_text.specs.Known.{Known, tagged}
use Rattle.lgr_text.specs.PartMatches.{BeginsWith, IsOf, Matching, MatchesAround, MatchesAsPart, Place, SaysRule, has_anchor, name_fault, part_fault, rule_named}
use Rattle.lgr_text.specs.Records.{Class, Listed, OfTag, OfProperty, OfClass, Joined, Complement, Part, Literal, Any, Of, Start, End, Anchor, OfRule, Then, Choice, Times}
use Rattle.lgr_text.specs.declared.rule_error.RuleFault.{RuleFault}
use Rattle.lgr_text.specs.declared.rule_error.RuleFault.TheVariants.{Undefined}
use Rattle.lgr_text.specs.Names.{classes_of, rules_in}
use Rattle.lgr_table.proofs.AgreeLemmas.{agree-known, all-left, all-right, parts-agree}
use Rattle.lgr_table.proofs.NumberLemmas.{number-stays}

-- what is known keeps its meaning
pub record Grows (old new : Known) : Type 0 where
  pub entries : new.entries ≡ old.entries
  pub points : new.points ≡ old.points
  pub sets : (name : List ℕ) → number_of old.set_names name < length old.sets
      → (number_of new.set_names name < length new.sets) × (set_named new name ≡ set_named old name)
  pub rules : (name : List ℕ) → number_of old.rule_names name < length old.rules
      → (number_of new.rule_names name < length new.rules) × (rule_named new name ≡ rule_named old name)

-- ---- further names

named-stays : {X : Type 0} (names : List (List ℕ)) (xs : List X) (name : List ℕ) (new : List ℕ) (x d : X) → length names ≡ length xs
    → number_of names name < length xs
    → (number_of (names ++ new ∷ []) name < length (xs ++ x ∷ [])) × (get_or (xs ++ x ∷ []) (number_of (names ++ new ∷ []) name) d ≡ get_or xs (number_of names name) d)
named-stays names xs name new x d each found =
    let e = number-stays names (new ∷ []) name (omega (arith, each, found)) in (
      omega (arith, e, found, length-append xs (x ∷ [])),
      ap (λ n. get_or (xs ++ x ∷ []) n d) e ∙ get_or_append_left xs (x ∷ []) d (number_of names name) found,
    )

pub set-grows : (known : Known) (name : List ℕ) (set : List Span) → length known.set_names ≡ length known.sets
    → Grows known (record known { set_names = known.set_names ++ name ∷ []; sets = known.sets ++ set ∷ [] })
set-grows known name set each = record {
  entries = refl;
  points = refl;
  sets = λ other found. named-stays known.set_names known.sets other name set [] each found;
  rules = λ other found. (found, refl);
}

pub rule-grows : (known : Known) (name : List ℕ) (p : Pattern) → length known.rule_names ≡ length known.rules
    → Grows known (record known { rule_names = known.rule_names ++ name ∷ []; rules = known.rules ++ p ∷ [] })
rule-grows known name p each = record {
  entries = refl;
  points = refl;
  sets = λ other found. (found, refl);
  rules = λ other found. named-stays known.rule_names known.rules other name p pattern.Anchor each found;
}

-- ---- what faults tell

pub first-none : (o q : Option RuleFault) → option_or o q ≡ None → o ≡ None
first-none None q e = refl
first-none (Some x) q e = absurd (cc)

pub second-none : (o q : Option RuleFault) → option_or o q ≡ None → q ≡ None
second-none None q e = e
second-none (Some x) q e = absurd (cc)

found-by : (b : Bool) (x : RuleFault) → (if b then None else Some x) ≡ None → b ≡ true
found-by true x e = refl
found-by false x e = absurd (cc)

pub set-found : (known : Known) (name : List ℕ) → set_fault known name ≡ None → number_of known.set_names name < length known.sets
set-found known name none = ltb-true (number_of known.set_names name) (length known.sets) (found-by _ _ none)

pub set-none : (known : Known) (name : List ℕ) → number_of known.set_names name < length known.sets → set_fault known name ≡ None
set-none known name found =
    ap (λ b. if b then None else Some Undefined) (lt-ltb (number_of known.set_names name) (length known.sets) found)

pub rule-found : (known : Known) (name : List ℕ) → name_fault known name ≡ None → number_of known.rule_names name < length known.rules
rule-found known name none = ltb-true (number_of known.rule_names name) (length known.rules) (found-by _ _ none)

pub rule-none : (known : Known) (name : List ℕ) → number_of known.rule_names name < length known.rules → name_fault known name ≡ None
rule-none known name found =
    ap (λ b. if b then None else Some Undefined) (lt-ltb (number_of known.rule_names name) (length known.rules) found)

-- ---- classes

pub class-stays : (old new : Known) → Grows old new → (class : Class) → class_fault old class ≡ None → (c : ℕ) → has old class c ≡ has new class c
class-stays old new grows (Listed spans) none c = refl
class-stays old new grows (OfTag tag) none c = ap (λ l. is_in (tagged l tag) c) (sym grows.entries)
class-stays old new grows (OfProperty property) none c = refl
class-stays old new grows (OfClass name) none c = ap (λ l. is_in l c) (sym (grows.sets name (set-found old name none)).1)
class-stays old new grows (Joined operation k m) none c =
    ap (λ b. is_joined operation b (has old m c)) (class-stays old new grows k (first-none _ _ none) c)
    ∙ ap (is_joined operation (has new k c)) (class-stays old new grows m (second-none _ _ none) c)
class-stays old new grows (Complement k) none c = ap not (class-stays old new grows k none c)

join-none : (o q : Option RuleFault) → o ≡ None → q ≡ None → option_or o q ≡ None
join-none None q e f = f
join-none (Some x) q e f = absurd (cc)

pub class-none : (old new : Known) → Grows old new → (class : Class) → class_fault old class ≡ None → class_fault new class ≡ None
class-none old new grows (Listed spans) none = refl
class-none old new grows (OfTag tag) none = ap (λ l. tag_fault l tag) grows.entries ∙ none
class-none old new grows (OfProperty property) none = none
class-none old new grows (OfClass name) none = set-none new name (grows.sets name (set-found old name none)).0
class-none old new grows (Joined operation k m) none =
    join-none _ _ (class-none old new grows k (first-none _ _ none)) (class-none old new grows m (second-none _ _ none))
class-none old new grows (Complement k) none = class-none old new grows k none

-- ---- what parts name

-- nothing that the part names is missing
pub record IsFree (known : Known) (p : Part) : Type 0 where
  pub classes : All (λ class. class_fault known class ≡ None) (classes_of p)
  pub rules : All (λ name. name_fault known name ≡ None) (rules_in p)

free-both : (known : Known) (p q : Part) → IsFree known p → IsFree known q → IsFree known (Then p q)
free-both known p q left right = record {
  classes = All-append (λ class. class_fault known class ≡ None) (classes_of p) (classes_of q) left.classes right.classes;
  rules = All-append (λ name. name_fault known name ≡ None) (rules_in p) (rules_in q) left.rules right.rules;
}

free-none : (known : Known) → IsFree known Any
free-none known = record { classes = All-nil (λ class. class_fault known class ≡ None); rules = All-nil (λ name. name_fault known name ≡ None) }

pub part-free : (known : Known) (p : Part) → part_fault known p ≡ None → IsFree known p
part-free known (Literal points) none = record { classes = (free-none known).classes; rules = (free-none known).rules }
part-free known Any none = free-none known
part-free known (Of class) none = record {
  classes = All-push (λ k. class_fault known k ≡ None) [] class (free-none known).classes none;
  rules = (free-none known).rules;
}
part-free known Start none = record { classes = (free-none known).classes; rules = (free-none known).rules }
part-free known End none = record { classes = (free-none known).classes; rules = (free-none known).rules }
part-free known Anchor none = record { classes = (free-none known).classes; rules = (free-none known).rules }
part-free known (OfRule name) none = record {
  classes = (free-none known).classes;
  rules = All-push (λ n. name_fault known n ≡ None) [] name (free-none known).rules none;
}
part-free known (Then p q) none =
    let both = second-none _ _ none in
    free-both known p q (part-free known p (first-none _ _ both)) (part-free known q (second-none _ _ both))
part-free known (Choice p q) none =
    let both = second-none _ _ none in
    let free = free-both known p q (part-free known p (first-none _ _ both)) (part-free known q (second-none _ _ both)) in
    record { classes = free.classes; rules = free.rules }
part-free known (Times count p) none =
    let free = part-free known p (second-none _ _ none) in record { classes = free.classes; rules = free.rules }

pub free-stays : (old new : Known) → Grows old new → (p : Part) → IsFree old p → IsFree new p
free-stays old new grows p free = record {
  classes = All-weaker (λ k. class_fault old k ≡ None) (λ k. class_fault new k ≡ None) (class-none old new grows) (classes_of p) free.classes;
  rules = All-weaker (λ n. name_fault old n ≡ None) (λ n. name_fault new n ≡ None)
      (λ name none. rule-none new name (grows.rules name (rule-found old name none)).0) (rules_in p) free.rules;
}

-- ---- the anchor

found-named : (known : Known) (name : List ℕ) → number_of known.rule_names name < length known.rules
    → has_anchor known (OfRule name) ≡ is_context_rule (rule_named known name)
found-named known name found = ap (λ b. b && is_context_rule (rule_named known name)) (lt-ltb (number_of known.rule_names name) (length known.rules) found)

-- of both of two parts
anchors-stay : (old new : Known) (p q : Part) → All (λ name. name_fault old name ≡ None) (rules_in p ++ rules_in q)
    → (All (λ name. name_fault old name ≡ None) (rules_in p) → has_anchor new p ≡ has_anchor old p)
    → (All (λ name. name_fault old name ≡ None) (rules_in q) → has_anchor new q ≡ has_anchor old q)
    → (has_anchor new p || has_anchor new q) ≡ (has_anchor old p || has_anchor old q)
anchors-stay old new p q free left right =
    let F : List ℕ → Type 0 = λ name. name_fault old name ≡ None in
    ap (λ b. b || has_anchor new q) (left (all-left F (rules_in p) (rules_in q) free))
    ∙ ap (λ b. has_anchor old p || b) (right (all-right F (rules_in p) (rules_in q) free))

pub anchor-stays : (old new : Known) → Grows old new → (p : Part) → All (λ name. name_fault old name ≡ None) (rules_in p)
    → has_anchor new p ≡ has_anchor old p
anchor-stays old new grows (Literal points) free = refl
anchor-stays old new grows Any free = refl
anchor-stays old new grows (Of class) free = refl
anchor-stays old new grows Start free = refl
anchor-stays old new grows End free = refl
anchor-stays old new grows Anchor free = refl
anchor-stays old new grows (OfRule name) free =
    let found = rule-found old name (All-head (λ n. name_fault old n ≡ None) name [] free) in
    let there = grows.rules name found in
    found-named new name there.0 ∙ ap is_context_rule there.1 ∙ sym (found-named old name found)
anchor-stays old new grows (Then p q) free = anchors-stay old new p q free (anchor-stays old new grows p) (anchor-stays old new grows q)
anchor-stays old new grows (Choice p q) free = anchors-stay old new p q free (anchor-stays old new grows p) (anchor-stays old new grows q)
anchor-stays old new grows (Times count p) free = anchor-stays old new grows p free

-- ---- rules

pub matching-stays : (old new : Known) → Grows old new → (p : Part) → IsFree old p → (s : Seen) (at : Option Place) (i j : ℕ)
    → Matching old p s at i j ↔ Matching new p s at i j
matching-stays old new grows p free s at i j =
    let R : Option Place → List ℕ → ℕ → ℕ → Type 0 = λ place name k m. MatchesAround s place (rule_named old name) k m in
    let S : Option Place → List ℕ → ℕ → ℕ → Type 0 = λ place name k m. MatchesAround s place (rule_named new name) k m in
    parts-agree (has old) (has new) R S s.label at p
    (agree-known s.label (has old) (has new) (R at) (S at) p
    (All-weaker (λ class. class_fault old class ≡ None) (λ class. All (λ c. has old class c ≡ has new class c) s.label) (λ class none k d l. class-stays old new grows class none (get_or s.label k d)) (classes_of p) free.classes)
    (All-weaker (λ name. name_fault old name ≡ None) (λ name. (k m : ℕ) → R at name k m ↔ S at name k m) (λ name none k m.
    let same = (grows.rules name (rule-found old name none)).1 in (
      λ h. subst (λ q. MatchesAround s at q k m) (sym same) h,
      λ h. subst (λ q. MatchesAround s at q k m) same h,
    )) (rules_in p) free.rules))
    i j

pub says-stays : (old new : Known) (sets more : List (List Span)) (q : Pattern) (rule : Part) → Grows old new → BeginsWith more sets
    → IsFree old rule → SaysRule old sets q rule → SaysRule new more q rule
says-stays old new sets more q rule grows begins free says = λ all label i j later of i_within j_within.
    let old_of : IsOf old.points label = subst (λ points. IsOf points label) grows.points of in
    let same = says all label i j (begins-too all more sets later begins) old_of i_within j_within in
    let place : Option Place = Some (record { start = i; end = j }) in
    let stays = matching-stays old new grows rule free (seen all label) place in (
      λ h. (let found = same.0 h in (found.0, found.1, found.2, (stays found.0 found.1).0 found.3)),
      λ h. same.1 (h.0, h.1, h.2, (stays h.0 h.1).1 h.3),
    )

pub matches-stay : (old new : Known) (sets more : List (List Span)) (q : Pattern) (rule : Part) → Grows old new → BeginsWith more sets
    → IsFree old rule → MatchesAsPart old sets q rule → MatchesAsPart new more q rule
matches-stay old new sets more q rule grows begins free matches = λ all label at k l later of.
    let old_of : IsOf old.points label = subst (λ points. IsOf points label) grows.points of in
    let same = matches all label at k l (begins-too all more sets later begins) old_of in
    let stays = matching-stays old new grows rule free (seen all label) at k l in
    (λ h. stays.0 (same.0 h), λ h. same.1 (stays.1 h))
