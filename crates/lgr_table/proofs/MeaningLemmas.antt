-- Whatever the names of a ruleset are said to stand for, a table that says the ruleset by one of these says it by all.
use Rattle.std.proofs.Common.{◌≡◌, ℕ, zero, suc, ◌<◌, ◌≤◌, List, [], ◌∷◌, ◌++◌, get_or, not, refl, sym, ap, subst, ◌∙◌, arith}
use Rattle.std.specs.Prelude.{◌↔◌, IsTrue, Option, Some}
use Rattle.std.specs.List.{All, Contains}
use Rattle.std.proofs.lemmas.List.Elements.{All-contains, All-contains_itself, All-weaker, Contains-append_left, Contains-append_right}
use Rattle.idn_class.specs.declared.properties.Properties.{Properties}
use Rattle.label_patterns.specs.Sets.{is_in}
use Rattle.lgr_text.specs.ClassMembers.{has, set_named}
use Rattle.lgr_text.specs.CodePoints.{is_joined}
use Rattle.lgr_text.specs.Known.{tagged}
use Rattle.lgr_text.specs.Meanings.{AreMeaningsOf, IsKept, Matches, Meanings, RuleHolds}
use Rattle.lgr_text.specs.Names.{HasItsNames, IsClassOf, IsRuleOf, all_classes, classes_in, named_classes, named_rules, rules_in}
use Rattle.lgr_text.specs.PartMatches.{Place}
use Rattle.lgr_text.specs.Records as lgr
use Rattle.lgr_text.specs.Records.{Class, Definition, IsClass, IsRule, Part, Ruleset}
use Rattle.variant_table.specs.Entries.{TableValue}
use Rattle.variant_table.proofs.MemberLists.{Contains-flat_map}
use Rattle.variant_table.proofs.MemberLemmas.{Contains-head}
use Rattle.lgr_table.specs.Entries.{all_entries}
use Rattle.lgr_table.specs.Numbers.{Numbering}
use Rattle.lgr_table.specs.Tables.{IsOfSources, SayRules, Says, may_stand}
use Rattle.lgr_table.proofs.AgreeLemmas.{agree-known, parts-agree}
use Rattle.lgr_table.proofs.PointLemmas.{kept-within}
use Rattle.lgr_table.proofs.RuleLemmas.{sources-kept}

-- two of them, m and o
module _ (properties : Properties) (r : Ruleset) (its : HasItsNames r) (m o : Meanings) (by : AreMeaningsOf (may_stand properties) r m)
    (by_other : AreMeaningsOf (may_stand properties) r o) where
  -- a class has the same code points, if those that it names do
  same-class : (k : Class) (c : ℕ) → ((name : List ℕ) → Contains (classes_in k) name → is_in (set_named m.known name) c ≡ is_in (set_named o.known name) c)
      → has m.known k c ≡ has o.known k c
  same-class (lgr.Listed spans) c same = refl
  same-class (lgr.OfTag tag) c same = ap (λ (es : List lgr.Entry). is_in (tagged es tag) c) (by.entries ∙ sym by_other.entries)
  same-class (lgr.OfProperty property) c same = refl
  same-class (lgr.OfClass name) c same = same name (Contains-head name [])
  same-class (lgr.Joined operation k l) c same =
      ap (λ b. is_joined operation b (has m.known l c)) (same-class k c (λ name at. same name (Contains-append_left (classes_in k) (classes_in l) name at)))
      ∙ ap (λ b. is_joined operation (has o.known k c) b) (same-class l c (λ name at. same name (Contains-append_right (classes_in k) (classes_in l) name at)))
  same-class (lgr.Complement k) c same = ap not (same-class k c same)

  -- what a definition names is defined, and has a lower rank
  named-class : (d : Definition) → Contains r.definitions d → (name : List ℕ) → Contains (named_classes d.meaning) name
      → IsClassOf r name × (its.rank name < its.rank d.name)
  named-class d at name own = (
    All-contains (IsClassOf r) (named_classes d.meaning) name (All-contains (λ e. All (IsClassOf r) (named_classes e.meaning)) r.definitions d its.classes at) own,
    All-contains (λ n. its.rank n < its.rank d.name) (named_classes d.meaning ++ named_rules d.meaning) name
        (All-contains (λ e. All (λ n. its.rank n < its.rank e.name) (named_classes e.meaning ++ named_rules e.meaning)) r.definitions d its.below at)
        (Contains-append_left (named_classes d.meaning) (named_rules d.meaning) name own),
  )

  named-rule : (d : Definition) → Contains r.definitions d → (name : List ℕ) → Contains (named_rules d.meaning) name
      → IsRuleOf r name × (its.rank name < its.rank d.name)
  named-rule d at name own = (
    All-contains (IsRuleOf r) (named_rules d.meaning) name (All-contains (λ e. All (IsRuleOf r) (named_rules e.meaning)) r.definitions d its.rules at) own,
    All-contains (λ n. its.rank n < its.rank d.name) (named_classes d.meaning ++ named_rules d.meaning) name
        (All-contains (λ e. All (λ n. its.rank n < its.rank e.name) (named_classes e.meaning ++ named_rules e.meaning)) r.definitions d its.below at)
        (Contains-append_right (named_classes d.meaning) (named_rules d.meaning) name own),
  )

  -- by the rank
  same-set : (n : ℕ) (name : List ℕ) (c : ℕ) → its.rank name < n → IsClassOf r name → c ≤ 0x10FFFF
      → is_in (set_named m.known name) c ≡ is_in (set_named o.known name) c
  same-set zero name c less is fits = absurd (omega (arith, less))
  same-set (suc n) name c less is fits =
      let d : Definition = record { name = name; meaning = IsClass is.0 } in
      by.classes name is.0 c fits is.1
      ∙ same-class is.0 c (λ inner at.
      (let named = named-class d is.1 inner ((Contains-flat_map classes_in (is.0 ∷ []) inner).1 (is.0, Contains-head is.0 [], at)) in
      same-set n inner c (omega (arith, less, named.1)) named.0 fits))
      ∙ sym (by_other.classes name is.0 c fits is.1)

  module _ (label : List ℕ) (kept : All (IsKept (may_stand properties) r.entries) label) where
    same-classes : (d : Definition) → Contains r.definitions d → All (λ k. All (λ c. has m.known k c ≡ has o.known k c) label) (all_classes d.meaning)
    same-classes d at =
        All-weaker (Contains (all_classes d.meaning)) (λ k. All (λ c. has m.known k c ≡ has o.known k c) label) (λ k own i e less.
        (let c = get_or label i e in
        same-class k c (λ name there.
        (let named = named-class d at name ((Contains-flat_map classes_in (all_classes d.meaning) name).1 (k, own, there)) in
        same-set (suc (its.rank name)) name c (omega arith) named.0 (kept-within properties r.entries c (kept i e less))))))
        (all_classes d.meaning) (All-contains_itself (all_classes d.meaning))

    -- both match the same parts of the label by this name, where the anchor stands there
    abbrev AreAlike : Option Place → List ℕ → Type 0
    AreAlike at name = (i j : ℕ) → IsTrue (m.matches label at name i j) ↔ IsTrue (o.matches label at name i j)

    same-part : (name : List ℕ) (rule : Part) → Contains r.definitions (record { name = name; meaning = IsRule rule }) → (at : Option Place)
        → ((inner : List ℕ) → Contains (rules_in rule) inner → AreAlike at inner) → (i j : ℕ) → Matches m label at rule i j ↔ Matches o label at rule i j
    same-part name rule is at alike =
        let R : Option Place → List ℕ → ℕ → ℕ → Type 0 = λ place inner i j. IsTrue (m.matches label place inner i j) in
        let S : Option Place → List ℕ → ℕ → ℕ → Type 0 = λ place inner i j. IsTrue (o.matches label place inner i j) in
        parts-agree (has m.known) (has o.known) R S label at rule
        (agree-known label (has m.known) (has o.known) (R at) (S at) rule (same-classes (record { name = name; meaning = IsRule rule }) is)
        (All-weaker (Contains (rules_in rule)) (λ inner. (i j : ℕ) → R at inner i j ↔ S at inner i j) alike (rules_in rule) (All-contains_itself (rules_in rule))))

    same-named : (n : ℕ) (name : List ℕ) → its.rank name < n → IsRuleOf r name → (at : Option Place) → AreAlike at name
    same-named zero name less is at i j = absurd (omega (arith, less))
    same-named (suc n) name less is at i j =
        let here = by.rules name is.0 label at i j kept is.1 in
        let there = by_other.rules name is.0 label at i j kept is.1 in
        let parts =
        same-part name is.0 is.1 at (λ inner own.
        (let named = named-rule (record { name = name; meaning = IsRule is.0 }) is.1 inner own in same-named n inner (omega (arith, less, named.1)) named.0 at)) i j in
        (λ h. there.1 (parts.0 (here.0 h)), λ h. here.1 (parts.1 (there.0 h)))

    same-rule : (name : List ℕ) (rule : Part) → Contains r.definitions (record { name = name; meaning = IsRule rule }) → (i j : ℕ)
        → RuleHolds m rule label i j ↔ RuleHolds o rule label i j
    same-rule name rule is i j =
        let at : Option Place = Some (record { start = i; end = j }) in
        let parts =
        same-part name rule is at (λ inner own.
        (let named = named-rule (record { name = name; meaning = IsRule rule }) is inner own in same-named (suc (its.rank inner)) inner (omega arith) named.0 at)) in
        (λ h. (h.0, h.1, h.2, (parts h.0 h.1).0 h.3), λ h. (h.0, h.1, h.2, (parts h.0 h.1).1 h.3))

  say-rules : (n : Numbering) (t : TableValue) → t.entries ≡ all_entries (may_stand properties) n r.entries → SayRules r m n t → SayRules r o n t
  say-rules n t entries say k less =
      let said = say k less in (
        said.0,
        said.1,
        λ label i j of here there.
            (let kept = sources-kept (may_stand properties) n r.entries label (subst (λ l. IsOfSources l label) entries of) in
            let same = same-rule label kept _ said.0 said.1 i j in
            let holds = said.2 label i j of here there in
            (λ h. same.0 (holds.0 h), λ h. holds.1 (same.1 h))),
      )

  pub says-by : (n : Numbering) (t : TableValue) → Says properties r m n t → Says properties r o n t
  says-by n t says = record {
    well_formed = says.well_formed;
    by_these = says.by_these;
    defines = says.defines;
    of_one_type = says.of_one_type;
    entries = says.entries;
    say_rules = say-rules n t says.entries says.say_rules;
  }
