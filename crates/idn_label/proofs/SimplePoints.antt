-- Code points that pass in a name of lookup, by their facts.
use Rattle.std.proofs.Common.{inl, inr, ◌≡◌, ℕ, ◌-◌, ◌<◌, ◌≤◌, ◌++◌, length, get_or, Bool, true, false, ◌||◌, ◌==◌, List, [], ◌∷◌, drop, slice_range, cond, refl, sym, ap, ap₂, ◌∙◌, append_assoc, append-nil, arith}
use Rattle.std.specs.Char.{is_ascii}
use Rattle.std.proofs.lemmas.Bool.{cases_lt, ne_eqb, false≢true}
use Rattle.std.proofs.lemmas.Bool.Decides.{nat_tests}
use Rattle.std.proofs.lemmas.List.Elements.{All-nil, All-cons, All-head, All-append, All-take, All-drop}
use Rattle.std.proofs.lemmas.List.Folds.{list_any_none, list_any-append}
use Rattle.ucd_category.specs.GeneralCategory.{general_category}
use Rattle.ucd_category.specs.GeneralCategoryGroup.{in_group}
use Rattle.ucd_category.specs.declared.GeneralCategory.{GeneralCategory}
use Rattle.ucd_category.specs.declared.GeneralCategory.TheVariants.{NonspacingMark, SpacingMark, EnclosingMark}
use Rattle.ucd_category.specs.declared.GeneralCategoryGroup.TheVariants.{Mark}
use Rattle.ucd_idna_map.specs.IdnaMapping.{idna_mapping}
use Rattle.ucd_idna_map.specs.IdnaStatus.{idna_status}
use Rattle.ucd_idna_map.specs.IdnaStatusRows.{idna_status_rows}
use Rattle.ucd_table.proofs.Computing.{tables}
use Rattle.ucd_idna_map.specs.declared.IdnaStatus.{IdnaStatus}
use Rattle.ucd_idna_map.specs.declared.IdnaStatus.TheVariants.{Valid, Mapped, Deviation}
use Rattle.idna.specs.AsciiDenyList.{may_be_denied}
use Rattle.idna.specs.Uts46.{map_by, map_char}
use Rattle.idna.specs.Validity.{begins_with_mark, is_valid_status}
use Rattle.idn_class.proofs.ComputedLabels.{rules, in_table, class_of-in_table}
use Rattle.idn_class.specs.declared.class.Class.TheVariants.{Pvalid, Contextj, Disallowed}
use Rattle.idn_class.specs.Barring.{is_barred}
use Rattle.idn_class.specs.Class.{class_of}
use Rattle.idn_class.specs.declared.facts.Fact.{Fact}
use Rattle.idn_class.specs.declared.facts.Fact.TheVariants.{MayBeBarred, Contextj as fact_Contextj, Mark as Mark_fact, NotKept}
use Rattle.idn_class.specs.declared.facts.Facts.{Facts}
use Rattle.idn_class.specs.Facts.{is_contextj, is_kept_status, contains, has_fact, AreFactsOf}
use Rattle.idn_class.proofs.FactTrie.{IsSimple}
use Rattle.idn_class.proofs.FactLabels.{class_without, contextj_without, mark_without, kept_without, each_lacks}
use Rattle.idn_class.specs.LeadingMark.{is_mark_category, is_mark}
use Rattle.idn_label.specs.inner.SimpleNames.{AreAppended, Cover, PassesInName}
use Rattle.idn_label.specs.Steps.{is_ldh_point}
use Rattle.idn_label.proofs.LdhLemmas.{class_of-ascii}
use Rattle.idn_class.specs.declared.properties.Properties.TheVariants.{Profile}

-- ---- one code point

status : (s : IdnaStatus) → is_kept_status s ≡ is_valid_status s
status Valid = refl
status Deviation = refl
status _ = refl

non_joiner : is_contextj (class_of Profile 0x200C) ≡ true
unfolding in_table rules
non_joiner = ap is_contextj (class_of-in_table Profile 0x200C Contextj refl)

joiner : is_contextj (class_of Profile 0x200D) ≡ true
unfolding in_table rules
joiner = ap is_contextj (class_of-in_table Profile 0x200D Contextj refl)

other_class : (c d : ℕ) → is_contextj (class_of Profile c) ≡ false → is_contextj (class_of Profile d) ≡ true → (c == d) ≡ false
other_class c d not is = ne_eqb c d (λ e. false≢true (sym not ∙ ap (λ x. is_contextj (class_of Profile x)) e ∙ is))

-- of the ASCII code points only those of LDH are not barred
ldh_class : (c : ℕ) → c < 128 → is_barred (class_of Profile c) ≡ false → is_ldh_point c ≡ true
ldh_class c low is = by_test (is_ldh_point c) (ap is_barred (sym (class_of-ascii Profile c low)) ∙ is)
  where
    by_test : (b : Bool) → is_barred (cond b Pvalid Disallowed) ≡ false → b ≡ true
    by_test true h = refl
    by_test false h = absurd (false≢true (sym h))

allowed_ldh : (c : ℕ) → is_ldh_point c ≡ true → may_be_denied c ≡ false
allowed_ldh c ldh = grind (arith, nat_tests)

allowed_simple : (c : ℕ) → is_barred (class_of Profile c) ≡ false → may_be_denied c ≡ false
allowed_simple c is =
    elim (cases_lt c 128) [
      | inl low ↦ allowed_ldh c (ldh_class c low is)
      | inr high ↦ grind (arith, nat_tests)
    ]

passes_facts : (c : ℕ) → has_fact NotKept c ≡ false → has_fact fact_Contextj c ≡ false → may_be_denied c ≡ false → PassesInName c
passes_facts c kept joins allowed =
    let other = contextj_without c joins in
    record {
      valid = sym (status (idna_status c)) ∙ kept_without c kept;
      no_non_joiner = other_class c 0x200C other non_joiner;
      no_joiner = other_class c 0x200D other joiner;
      allowed = allowed;
    }

pub passes_simple : (c : ℕ) → IsSimple c → PassesInName c
passes_simple c simple =
    passes_facts c (simple NotKept) (simple fact_Contextj) (allowed_simple c (class_without c (simple MayBeBarred)).0)

pub passes_full_stop : PassesInName 0x2E
unfolding tables idna_status idna_status_rows
passes_full_stop = record { valid = refl; no_non_joiner = refl; no_joiner = refl; allowed = refl }

pub passes_high : (c : ℕ) → is_ascii c ≡ false → has_fact NotKept c ≡ false → has_fact fact_Contextj c ≡ false → PassesInName c
passes_high c other kept joins = passes_facts c kept joins (grind (arith, nat_tests))

-- ---- what it is mapped to

kept_maps : (s : IdnaStatus) (c : ℕ) → is_valid_status s ≡ true → map_by s c ≡ c ∷ []
kept_maps Valid c h = refl
kept_maps Deviation c h = refl
kept_maps _ c h = cc

pub map_char_kept : (c : ℕ) → has_fact NotKept c ≡ false → map_char c ≡ c ∷ []
unfolding map_char
map_char_kept c kept = kept_maps (idna_status c) c (sym (status (idna_status c)) ∙ kept_without c kept)

pub map_char_mapped : (c : ℕ) → idna_status c ≡ Mapped → map_char c ≡ idna_mapping c
unfolding map_char
map_char_mapped c is = ap (λ s. map_by s c) is

-- ---- marks

mark : (g : GeneralCategory) → is_mark_category g ≡ in_group Mark g
mark NonspacingMark = refl
mark SpacingMark = refl
mark EnclosingMark = refl
mark _ = refl

no_mark : (c : ℕ) (label : List ℕ) → has_fact Mark_fact c ≡ false → begins_with_mark (c ∷ label) ≡ false
unfolding is_mark
no_mark c label none = sym (mark (general_category c)) ∙ mark_without c none

pub no_mark_first : (c : ℕ) (label : List ℕ) → 1 ≤ length label → c ≡ get_or label 0 c → has_fact Mark_fact c ≡ false → begins_with_mark label ≡ false
no_mark_first c [] some is none = refl
no_mark_first c (d ∷ label) some is none = no_mark d label (ap (has_fact Mark_fact) (sym is) ∙ none)

pub no_mark_covered : (facts : Facts) (label : List ℕ) → Cover facts label → contains facts Mark_fact ≡ false → begins_with_mark label ≡ false
no_mark_covered facts [] cover none = refl
no_mark_covered facts (c ∷ label) cover none = no_mark c label (All-head (λ c. has_fact Mark_fact c ≡ false) c label (each_lacks Mark_fact (c ∷ label) (cover Mark_fact none)))

-- ---- facts of several code points

pub one_fact : (facts : Facts) (c : ℕ) → AreFactsOf facts (c ∷ []) → (fact : Fact) → contains facts fact ≡ false → has_fact fact c ≡ false
one_fact facts c are fact none = All-head (λ c. has_fact fact c ≡ false) c [] (each_lacks fact (c ∷ []) (sym (are fact) ∙ none))

pub facts_of_one : (facts : Facts) (c : ℕ) → ((fact : Fact) → contains facts fact ≡ has_fact fact c) → AreFactsOf facts (c ∷ [])
facts_of_one facts c are fact = are fact ∙ sym (or_false (has_fact fact c))
  where
    or_false : (b : Bool) → (b || false) ≡ b
    or_false true = refl
    or_false false = refl

pub appended_nothing : (facts : Facts) (text : List ℕ) → ((fact : Fact) → contains facts fact ≡ false) → AreAppended text text [] facts
appended_nothing facts text none = record { items = sym (append-nil text); passes = All-nil PassesInName; facts_of = none }

pub appended_one : (facts : Facts) (before after : List ℕ) (c : ℕ) → after ≡ before ++ c ∷ [] → PassesInName c → AreFactsOf facts (c ∷ []) → AreAppended before after (c ∷ []) facts
appended_one facts before after c is passes are = record { items = is; passes = All-cons PassesInName c [] passes (All-nil PassesInName); facts_of = are }

pub appended_more : {before between after points more : List ℕ} {facts facts_of_more : Facts} (joined : Facts) → AreAppended before between points facts → AreAppended between after more facts_of_more → ((fact : Fact) → contains joined fact ≡ (contains facts fact || contains facts_of_more fact)) → AreAppended before after (points ++ more) joined
appended_more {before} {between} {after} {points} {more} joined a b join = record {
  items = b.items ∙ ap (λ x. x ++ more) a.items ∙ append_assoc before points more;
  passes = All-append PassesInName points more a.passes b.passes;
  facts_of = λ fact. join fact ∙ ap₂ (λ a b. a || b) (a.facts_of fact) (b.facts_of fact) ∙ sym (list_any-append (has_fact fact) points more);
}

-- the facts of a name cover each part of it
pub cover_part : (facts : Facts) (name : List ℕ) (start end : ℕ) → AreFactsOf facts name → Cover facts (slice_range name start end)
cover_part facts name start end are fact none =
    let p = λ (c : ℕ). has_fact fact c ≡ false in
    list_any_none (has_fact fact) _ (All-take p (end - start) (drop start name) (All-drop p start name (each_lacks fact name (sym (are fact) ∙ none))))
