-- The tests of a form are true exactly where it is one.
use Rattle.std.proofs.Common.{◌≡◌, ℕ, ◌+◌, ◌<◌, ◌≤◌, Bool, true, false, not, ◌&&◌, List, [], ◌∷◌, length, map, Option, None, Some, refl, sym, ap, ◌∙◌, arith, drop, get_or}
use Rattle.std.specs.Prelude.{Decides, IsTrue, bytes_eq, nat_le}
use Rattle.std.specs.List.{AllByRecursion, list_all}
use Rattle.std.proofs.lemmas.Bool.{false≢true, true≢false, and_from, and_parts, or_from, false_from_ne_true, leb-true, le-leb}
use Rattle.std.proofs.lemmas.List.{drop_more}
use Rattle.std.proofs.lemmas.Bool.Decides.{Decides-and, Decides-ltb, Decides-like}
use Rattle.std.proofs.lemmas.Slice.Eq.{bytes_eq-Decides}
use Rattle.idn_text.specs.Points.{is_scalar_value}
use Rattle.label_patterns.specs.declared.span.Span.{Span}
use Rattle.label_patterns.specs.Patterns.{Pattern, Point, Set, Any, Start, End, Anchor, Group, Optional, Many, Then}
use Rattle.label_patterns.specs.Patterns.{Either}
use Rattle.label_patterns.specs.Sets.{Rise}
use Rattle.ruleset_text.specs.declared.entry_form.Mapped as held
use Rattle.ruleset_text.specs.declared.named_condition.NamedCondition.{NamedCondition}
use Rattle.ruleset_text.specs.Actions.{HasTypes, IsAction, NamedAction, NamedTrigger}
use Rattle.ruleset_text.specs.Definition as definition
use Rattle.ruleset_text.specs.Definition.{Definition}
use Rattle.ruleset_text.specs.DefinitionForms.{HasForm}
use Rattle.ruleset_text.specs.Entries.{Mapped}
use Rattle.ruleset_text.specs.EntryForms.{mapped}
use Rattle.ruleset_text.specs.EntryText.{IsForm, IsMapped, IsSequence, MayHaveType}
use Rattle.ruleset_text.specs.Grammar.{Is, Sort, Atom, Item, Branch, Whole}
use Rattle.ruleset_text.specs.NamedConditions.{HasRule}
use Rattle.ruleset_text.specs.Names.{AreNames, is_name, is_one_of}
use Rattle.ruleset_text.specs.Rules.{has, is_rule_or_whole}
use Rattle.ruleset_text.specs.Signs as sign
use Rattle.ruleset_text.specs.inner.FormTests as tests
use Rattle.ruleset_text.specs.inner.FormTests.{is_of_sort}
use Rattle.ruleset_text.proofs.AddedLemmas.{IsNew, new_from}

yes : Decides true (Unit {0})
yes = (λ e. tt, λ u. refl)

no : Decides false ⊥
no = (λ e. false≢true e, λ h. absurd h)

itself : (b : Bool) → Decides b (b ≡ true)
itself b = (λ e. e, λ e. e)

three : {A B C : Type 0} (a b c : Bool) → Decides a A → Decides b B → Decides c C → Decides ((a && b) && c) (A × B × C)
three a b c d e f =
    Decides-like ((a && b) && c) (λ h. (h.0.0, h.0.1, h.1)) (λ h. ((h.0, h.1), h.2))
    (Decides-and (a && b) c (Decides-and a b d e) f)

-- ---- patterns

pub sort_told : (s : Sort) (p : Pattern) → Decides (is_of_sort s p) (Is s p)
sort_told s (Point c) = yes
sort_told s (Set n) = yes
sort_told s Any = yes
sort_told s (Group p) = sort_told Whole p
sort_told Atom Start = no
sort_told Item Start = yes
sort_told Branch Start = yes
sort_told Whole Start = yes
sort_told Atom End = no
sort_told Item End = yes
sort_told Branch End = yes
sort_told Whole End = yes
sort_told Atom Anchor = no
sort_told Item Anchor = yes
sort_told Branch Anchor = yes
sort_told Whole Anchor = yes
sort_told Atom (Optional p) = no
sort_told Item (Optional p) = sort_told Atom p
sort_told Branch (Optional p) = sort_told Atom p
sort_told Whole (Optional p) = sort_told Atom p
sort_told Atom (Many p) = no
sort_told Item (Many p) = sort_told Atom p
sort_told Branch (Many p) = sort_told Atom p
sort_told Whole (Many p) = sort_told Atom p
sort_told Atom (Then p q) = no
sort_told Item (Then p q) = no
sort_told Branch (Then p q) =
    Decides-and (is_of_sort Item p) (is_of_sort Branch q) (sort_told Item p) (sort_told Branch q)
sort_told Whole (Then p q) =
    Decides-and (is_of_sort Item p) (is_of_sort Branch q) (sort_told Item p) (sort_told Branch q)
sort_told Atom (Either p q) = no
sort_told Item (Either p q) = no
sort_told Branch (Either p q) = no
sort_told Whole (Either p q) =
    Decides-and (is_of_sort Branch p) (is_of_sort Whole q) (sort_told Branch p) (sort_told Whole q)

-- ---- actions

not_told : (b : Bool) → Decides (not b) (b ≡ false)
not_told true = (λ e. absurd (false≢true e), λ e. absurd (true≢false e))
not_told false = (λ e. refl, λ e. refl)

new_only : (names : List (List ℕ)) (name : List ℕ) → IsNew name names → is_one_of names name ≡ false
new_only [] name h = refl
new_only (x ∷ xs) name h =
    or_from (bytes_eq x name) (is_one_of xs name)
    (false_from_ne_true (bytes_eq x name) (λ e. h.0 (sym ((bytes_eq-Decides x name).0 e)))) (new_only xs name h.1)

new_told : (names : List (List ℕ)) (name : List ℕ) → Decides (not (is_one_of names name)) (IsNew name names)
new_told names name =
    Decides-like (not (is_one_of names name)) (new_from names name) (new_only names name)
    (not_told (is_one_of names name))

names_told : (names : List (List ℕ)) → Decides (tests.are_names names) (AreNames names)
names_told [] = yes
names_told (name ∷ names) =
    three (is_name name) (not (is_one_of names name)) (tests.are_names names) (itself (is_name name))
    (new_told names name) (names_told names)

rule_told : (o : Option NamedCondition) → Decides (tests.has_rule o) (HasRule o)
rule_told None = yes
rule_told (Some c) = itself (is_name c.rule)

types_told : (o : Option NamedTrigger) → Decides (tests.has_types o) (HasTypes o)
types_told None = yes
types_told (Some t) = Decides-and _ (tests.are_names t.types) (Decides-ltb 0 (length t.types)) (names_told t.types)

action_told : (a : NamedAction) → Decides (tests.has_action_form a) (IsAction a)
action_told a =
    Decides-like (tests.has_action_form a) (λ h. record { rule = h.0; types = h.1 }) (λ h. (h.rule, h.types))
    (Decides-and (tests.has_rule a.condition) (tests.has_types a.trigger) (rule_told a.condition) (types_told a.trigger))

-- ---- definitions

-- spans that rise from a code point on begin there or above
begin_above : (n m : ℕ) (spans : List Span) → n ≤ m → tests.rise m spans ≡ true → AllByRecursion (λ t. n ≤ t.first) spans
begin_above n m [] l h = tt
begin_above n m (s ∷ spans) l h =
    let parts = and_parts (tests.is_span_from m s) (tests.rise (s.last + 1) spans) h in
    let ends = and_parts (nat_le m s.first) (nat_le s.first s.last) parts.0 in (
      omega (arith, l, leb-true m s.first ends.0),
      begin_above n (s.last + 1) spans (omega (arith, l, leb-true m s.first ends.0, leb-true s.first s.last ends.1)) parts.1,
    )

over : (n : ℕ) (spans : List Span) → AllByRecursion (λ t. n + 1 ≤ t.first) spans → AllByRecursion (λ t. n < t.first) spans
over n [] h = tt
over n (s ∷ spans) h = (omega (arith, h.0), over n spans h.1)

from_over : (n : ℕ) (spans : List Span) → AllByRecursion (λ t. n < t.first) spans → AllByRecursion (λ t. n + 1 ≤ t.first) spans
from_over n [] h = tt
from_over n (s ∷ spans) h = (omega (arith, h.0), from_over n spans h.1)

do_rise : (least : ℕ) (spans : List Span) → tests.rise least spans ≡ true → Rise spans
do_rise least [] h = tt
do_rise least (s ∷ spans) h =
    let parts = and_parts (tests.is_span_from least s) (tests.rise (s.last + 1) spans) h in
    let ends = and_parts (nat_le least s.first) (nat_le s.first s.last) parts.0 in
    (leb-true s.first s.last ends.1, over s.last spans (begin_above (s.last + 1) (s.last + 1) spans (omega arith) parts.1), do_rise (s.last + 1) spans parts.1)

rise_from : (least : ℕ) (spans : List Span) → AllByRecursion (λ t. least ≤ t.first) spans → Rise spans → tests.rise least spans ≡ true
rise_from least [] l h = refl
rise_from least (s ∷ spans) l h =
    and_from (tests.is_span_from least s) (tests.rise (s.last + 1) spans)
    (and_from (nat_le least s.first) (nat_le s.first s.last) (le-leb least s.first l.0) (le-leb s.first s.last h.0))
    (rise_from (s.last + 1) spans (from_over s.last spans h.1) h.2)

from_none : (spans : List Span) → AllByRecursion (λ t. 0 ≤ t.first) spans
from_none [] = tt
from_none (s ∷ spans) = (omega arith, from_none spans)

rise_told : (spans : List Span) → Decides (tests.rise 0 spans) (Rise spans)
rise_told spans = (do_rise 0 spans, rise_from 0 spans (from_none spans))

-- one span after the other
pub rise_step : (least : ℕ) (spans : List Span) (i : ℕ) (s : Span) → i < length spans → s ≡ get_or spans i s
    → tests.rise least (drop i spans) ≡ (tests.is_span_from least s && tests.rise (s.last + 1) (drop (i + 1) spans))
rise_step least spans i s l e = ap (tests.rise least) (drop_more spans i s l ∙ ap (λ x. x ∷ drop (i + 1) spans) (sym e))

pub form_told : (x : Definition) → Decides (tests.has_form x) (HasForm x)
form_told (definition.VariantType name) = itself (is_name name)
form_told (definition.Set name spans) =
    Decides-like (tests.has_form (definition.Set name spans)) (λ h. (h.0, h.1.0, h.1.1)) (λ h. (h.0, (h.1, h.2)))
    (Decides-and (is_name name) (tests.are_spans spans) (itself (is_name name))
    (Decides-and _ (tests.rise 0 spans) (Decides-ltb 0 (length spans)) (rise_told spans)))
form_told (definition.Rule name p) =
    three (is_name name) (is_of_sort Whole p) (is_rule_or_whole p) (itself (is_name name)) (sort_told Whole p)
    (itself (is_rule_or_whole p))
form_told (definition.Demand kind p) =
    Decides-and (is_of_sort Whole p) (not (has sign.Anchor p)) (sort_told Whole p) (not_told (has sign.Anchor p))
form_told (definition.Action a) = action_told a

-- ---- entries

all_told : (points : List ℕ) → Decides (list_all is_scalar_value points) (AllByRecursion (λ c. IsTrue (is_scalar_value c)) points)
all_told [] = yes
all_told (c ∷ points) = Decides-and (is_scalar_value c) (list_all is_scalar_value points) (itself (is_scalar_value c)) (all_told points)

sequence_told : (points : List ℕ) → Decides (tests.is_sequence points) (IsSequence points)
sequence_told [] = (λ e. absurd (false≢true e), λ h. absurd h)
sequence_told (c ∷ points) =
    Decides-like (tests.is_sequence (c ∷ points)) (λ h. h.1) (λ h. (omega arith, h))
    (Decides-and _ (list_all is_scalar_value (c ∷ points)) (Decides-ltb 0 (length (c ∷ points))) (all_told (c ∷ points)))

type_told : (marked : Bool) (o : Option (List ℕ)) → Decides (tests.may_have_type marked o) (MayHaveType marked o)
type_told marked None = yes
type_told marked (Some name) = Decides-and (not marked) (is_name name) (not_told marked) (itself (is_name name))

mapped_told : (m : Mapped) → Decides (tests.is_mapped m) (IsMapped m)
mapped_told m =
    Decides-like (tests.is_mapped m) (λ h. record { sequence = h.0; type_name = h.1; condition = h.2 })
    (λ h. (h.sequence, h.type_name, h.condition))
    (three (tests.is_sequence m.points) (tests.may_have_type m.marked m.type_name) (tests.has_rule m.condition)
    (sequence_told m.points) (type_told m.marked m.type_name) (rule_told m.condition))

each_told : (ms : List held.Mapped) → Decides (list_all (λ m. tests.is_mapped (mapped m)) ms) (AllByRecursion IsMapped (map mapped ms))
each_told [] = yes
each_told (m ∷ ms) =
    Decides-and (tests.is_mapped (mapped m)) (list_all (λ m. tests.is_mapped (mapped m)) ms) (mapped_told (mapped m))
    (each_told ms)

-- a source and variants are an entry exactly where there is one and each is as it has to be
pub entry_told : (ms : List held.Mapped) → Decides (tests.is_entry ms) (IsForm (map mapped ms) None)
entry_told [] = (λ e. absurd (false≢true e), λ h. absurd h)
entry_told (m ∷ ms) =
    Decides-like (tests.is_entry (m ∷ ms)) (λ h. h.1) (λ h. (omega arith, h))
    (Decides-and _ (list_all (λ m. tests.is_mapped (mapped m)) (m ∷ ms)) (Decides-ltb 0 (length (m ∷ ms))) (each_told (m ∷ ms)))
