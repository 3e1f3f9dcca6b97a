-- The Bidi rule on the classes that it names is the kit's rule on Unicode's classes.
use Rattle.std.proofs.Common.{◌≡◌, ◌≢◌, ◌↔◌, ℕ, Bool, true, false, not, ◌&&◌, ◌||◌, List, [], ◌∷◌, map, fold, Any, Some, None, if◌then◌else◌, cond, refl, sym, ap, ap₂, ◌∙◌}
use Rattle.std.specs.List.{list_any, list_all}
use Rattle.std.proofs.lemmas.List.Elements.{All-weaker}
use Rattle.std.proofs.lemmas.List.Folds.{Any-from_list_any, list_any-from_Any}
use Rattle.std.proofs.lemmas.List.Sums.{AllPass-from_list_all, list_all-from_AllPass}
use Rattle.ucd_bidi.specs.declared.BidiClass.{BidiClass as Kit}
use Rattle.ucd_bidi.specs.declared.BidiClass.TheVariants as kit
use Rattle.ucd_bidi.specs.BidiClass.{bidi_class_eq, bidi_class as kit_class}
use Rattle.idna.specs.BidiRule as idna
use Rattle.idna.specs.BidiRule.{is_allowed_in_both, end_class, passes_as_rtl, passes_as_ltr, passes_by_first, passes_bidi_rule, is_bidi_domain}
use Rattle.idna.specs.Validity.{passes_bidi}
use Rattle.idn_class.specs.declared.bidi_class.BidiClass.{BidiClass}
use Rattle.idn_class.specs.declared.bidi_class.BidiClass.TheVariants.{NSM}
use Rattle.idn_class.specs.declared.properties.Properties.TheVariants.{Unicode}
use Rattle.idn_class.specs.BidiClass.{named_class, standard_bidi_class}
use Rattle.idn_class.specs.BidiRule.{is_rtl_class, is_allowed_in_rtl, is_end_of_rtl, is_allowed_in_ltr, is_end_of_ltr, MeetsSixConditions}
use Rattle.idn_class.specs.Tests.{is_en, is_an, is_nsm, ends_in, rtl_passes, ltr_passes, meets_six_conditions, bidi_rule, bidi_ok}
use Rattle.idn_class.proofs.BidiTests.{meets_six_conditions-MeetsSixConditions}
use Rattle.idn_text.specs.declared.refusal.Refusal.TheVariants.{Bidi}
use Rattle.idn_label.specs.Decode.{name_fault, PassesBidiRuleAsName}

-- ---- one class

pub rtl_named : (k : Kit) → is_rtl_class (named_class k) ≡ idna.is_rtl k
rtl_named kit.RightToLeft = refl
rtl_named kit.ArabicLetter = refl
rtl_named kit.ArabicNumber = refl
rtl_named _ = refl

in_rtl : (k : Kit) → is_allowed_in_rtl (named_class k) ≡ (idna.is_rtl k || is_allowed_in_both k)
in_rtl kit.LeftToRight = refl
in_rtl _ = refl

in_ltr : (k : Kit) → is_allowed_in_ltr (named_class k) ≡ (bidi_class_eq k kit.LeftToRight || is_allowed_in_both k)
in_ltr kit.LeftToRight = refl
in_ltr _ = refl

ends_rtl : (k : Kit) → is_end_of_rtl (named_class k) ≡ (idna.is_rtl k || bidi_class_eq k kit.EuropeanNumber)
ends_rtl kit.LeftToRight = refl
ends_rtl _ = refl

ends_ltr : (k : Kit) → is_end_of_ltr (named_class k) ≡ (bidi_class_eq k kit.LeftToRight || bidi_class_eq k kit.EuropeanNumber)
ends_ltr kit.LeftToRight = refl
ends_ltr _ = refl

nsm_named : (k : Kit) → is_nsm (named_class k) ≡ bidi_class_eq k kit.NonspacingMark
nsm_named kit.LeftToRight = refl
nsm_named _ = refl

en_named : (k : Kit) → is_en (named_class k) ≡ bidi_class_eq k kit.EuropeanNumber
en_named kit.LeftToRight = refl
en_named _ = refl

an_named : (k : Kit) → is_an (named_class k) ≡ bidi_class_eq k kit.ArabicNumber
an_named kit.LeftToRight = refl
an_named _ = refl

-- ---- lists of classes

all_named : (test : BidiClass → Bool) (kit_test : Kit → Bool) → ((k : Kit) → test (named_class k) ≡ kit_test k) → (ks : List Kit) → list_all test (map named_class ks) ≡ list_all kit_test ks
all_named test kit_test same [] = refl
all_named test kit_test same (k ∷ ks) = ap₂ (λ a b. a && b) (same k) (all_named test kit_test same ks)

any_named : (test : BidiClass → Bool) (kit_test : Kit → Bool) → ((k : Kit) → test (named_class k) ≡ kit_test k) → (ks : List Kit) → list_any test (map named_class ks) ≡ list_any kit_test ks
any_named test kit_test same [] = refl
any_named test kit_test same (k ∷ ks) = ap₂ (λ a b. a || b) (same k) (any_named test kit_test same ks)

-- the last that is no NSM, after one that stands before the list
abbrev end_after : Kit → List Kit → Kit
end_after last ks = fold (λ last k. cond (bidi_class_eq k kit.NonspacingMark) last k) last ks

end_step : (ends here last all mark : Bool) → (mark ≡ true → here ≡ false)
    → (ends || (cond mark last here && all)) ≡ ((ends || (here && all)) || (last && (mark && all)))
end_step true here last all mark h = refl
end_step false here last true true h = sym (ap (λ b. (b && true) || (last && true)) (h refl))
end_step false true true true false h = refl
end_step false true false true false h = refl
end_step false false true true false h = refl
end_step false false false true false h = refl
end_step false here last false true h = both here last
  where
    both : (here last : Bool) → (last && false) ≡ ((here && false) || (last && false))
    both true true = refl
    both true false = refl
    both false true = refl
    both false false = refl
end_step false here last false false h = both here last
  where
    both : (here last : Bool) → (here && false) ≡ ((here && false) || (last && false))
    both true true = refl
    both true false = refl
    both false true = refl
    both false false = refl

cond_ap : (test : Kit → Bool) (b : Bool) (x y : Kit) → test (cond b x y) ≡ cond b (test x) (test y)
cond_ap test true x y = refl
cond_ap test false x y = refl

end-of : (is_end : BidiClass → Bool) → ((k : Kit) → bidi_class_eq k kit.NonspacingMark ≡ true → is_end (named_class k) ≡ false) → (last : Kit) (ks : List Kit)
    → is_end (named_class (end_after last ks)) ≡ (ends_in is_end (map named_class ks) || (is_end (named_class last) && list_all is_nsm (map named_class ks)))
end-of is_end no_mark last [] = and_true (is_end (named_class last))
  where
    and_true : (b : Bool) → b ≡ (b && true)
    and_true true = refl
    and_true false = refl
end-of is_end no_mark last (k ∷ ks) =
    let mark = bidi_class_eq k kit.NonspacingMark in
    let all = list_all is_nsm (map named_class ks) in
    let ends = ends_in is_end (map named_class ks) in
    end-of is_end no_mark (cond mark last k) ks
    ∙ ap (λ b. ends || (b && all)) (cond_ap (λ x. is_end (named_class x)) mark last k)
    ∙ end_step ends (is_end (named_class k)) (is_end (named_class last)) all mark (no_mark k)
    ∙ ap (λ b. (ends || (is_end (named_class k) && all)) || (is_end (named_class last) && (b && all))) (sym (nsm_named k))

no_end : (is_end : BidiClass → Bool) → is_end NSM ≡ false → (ends all : Bool) → (ends || (is_end NSM && all)) ≡ ends
no_end is_end none true all = refl
no_end is_end none false all = ap (λ b. b && all) none

mark_ends_no_rtl : (k : Kit) → bidi_class_eq k kit.NonspacingMark ≡ true → is_end_of_rtl (named_class k) ≡ false
mark_ends_no_rtl kit.NonspacingMark h = refl
mark_ends_no_rtl _ h = let clash : false ≡ true = h in cc

mark_ends_no_ltr : (k : Kit) → bidi_class_eq k kit.NonspacingMark ≡ true → is_end_of_ltr (named_class k) ≡ false
mark_ends_no_ltr kit.NonspacingMark h = refl
mark_ends_no_ltr _ h = let clash : false ≡ true = h in cc

rtl_end : (ks : List Kit) → ends_in is_end_of_rtl (map named_class ks) ≡ (idna.is_rtl (end_class ks) || bidi_class_eq (end_class ks) kit.EuropeanNumber)
rtl_end ks =
    sym (no_end is_end_of_rtl refl (ends_in is_end_of_rtl (map named_class ks)) (list_all is_nsm (map named_class ks)))
    ∙ sym (end-of is_end_of_rtl mark_ends_no_rtl kit.NonspacingMark ks) ∙ ends_rtl (end_class ks)

ltr_end : (ks : List Kit) → ends_in is_end_of_ltr (map named_class ks) ≡ (bidi_class_eq (end_class ks) kit.LeftToRight || bidi_class_eq (end_class ks) kit.EuropeanNumber)
ltr_end ks =
    sym (no_end is_end_of_ltr refl (ends_in is_end_of_ltr (map named_class ks)) (list_all is_nsm (map named_class ks)))
    ∙ sym (end-of is_end_of_ltr mark_ends_no_ltr kit.NonspacingMark ks) ∙ ends_ltr (end_class ks)

rtl_same : (ks : List Kit) → rtl_passes true (map named_class ks) ≡ passes_as_rtl ks
rtl_same ks =
    ap₂ (λ a b. a && b)
    (ap₂ (λ a b. a && b) (all_named is_allowed_in_rtl (λ k. idna.is_rtl k || is_allowed_in_both k) in_rtl ks) (rtl_end ks))
    (ap₂ (λ a b. not (a && b)) (any_named is_en (λ k. bidi_class_eq k kit.EuropeanNumber) en_named ks) (any_named is_an (λ k. bidi_class_eq k kit.ArabicNumber) an_named ks))

ltr_same : (ks : List Kit) → ltr_passes true (map named_class ks) ≡ passes_as_ltr ks
ltr_same ks =
    ap₂ (λ a b. a && b) (all_named is_allowed_in_ltr (λ k. bidi_class_eq k kit.LeftToRight || is_allowed_in_both k) in_ltr ks) (ltr_end ks)

-- ---- the six conditions, by the first class

and_true : (b : Bool) → (b && true) ≡ b
and_true true = refl
and_true false = refl

pub six_same : (k : Kit) (ks : List Kit) → meets_six_conditions (map named_class (k ∷ ks)) ≡ passes_by_first k (k ∷ ks)
six_same kit.LeftToRight ks = ltr_same (kit.LeftToRight ∷ ks)
six_same kit.RightToLeft ks = and_true _ ∙ rtl_same (kit.RightToLeft ∷ ks)
six_same kit.ArabicLetter ks = and_true _ ∙ rtl_same (kit.ArabicLetter ∷ ks)
six_same _ ks = refl

-- ---- a label

pub map_named : (label : List ℕ) → map standard_bidi_class label ≡ map named_class (map kit_class label)
unfolding standard_bidi_class
map_named [] = refl
map_named (c ∷ label) = ap (λ ks. named_class (kit_class c) ∷ ks) (map_named label)

any_kit : (label : List ℕ) → list_any idna.is_rtl (map kit_class label) ≡ list_any (λ c. idna.is_rtl (kit_class c)) label
any_kit [] = refl
any_kit (c ∷ label) = ap (λ b. idna.is_rtl (kit_class c) || b) (any_kit label)

rule_by : (some six : Bool) (ks : List BidiClass) → meets_six_conditions ks ≡ six → bidi_rule some ks ≡ (not (some || false) || (six && true))
rule_by true true ks is = is
rule_by true false ks is = is
rule_by false six ks is = refl

pub one_label : (label : List ℕ) → bidi_ok Unicode label ≡ passes_bidi (label ∷ [])
unfolding bidi_ok is_bidi_domain passes_bidi_rule
one_label [] = refl
one_label (c ∷ label) =
    let ks = map kit_class (c ∷ label) in
    ap (λ classes. bidi_rule (list_any is_rtl_class classes) classes) (map_named (c ∷ label))
    ∙ ap (λ some. bidi_rule some (map named_class ks)) (any_named is_rtl_class idna.is_rtl rtl_named ks ∙ any_kit (c ∷ label))
    ∙ rule_by (list_any (λ c. idna.is_rtl (kit_class c)) (c ∷ label)) (passes_by_first (kit_class c) ks) (map named_class ks) (six_same (kit_class c) (map kit_class label))

-- ---- a name

-- the kit's rule of a label, by the six conditions
six_of_label : (c : ℕ) (label : List ℕ) → meets_six_conditions (map standard_bidi_class (c ∷ label)) ≡ passes_bidi_rule (c ∷ label)
unfolding passes_bidi_rule
six_of_label c label = ap meets_six_conditions (map_named (c ∷ label)) ∙ six_same (kit_class c) (map kit_class label)

pub passes_bidi_rule-six : (label : List ℕ) → (label ≢ [] → MeetsSixConditions (map standard_bidi_class label)) → passes_bidi_rule label ≡ true
unfolding passes_bidi_rule
passes_bidi_rule-six [] meets = refl
passes_bidi_rule-six (c ∷ label) meets =
    sym (six_of_label c label) ∙ (meets_six_conditions-MeetsSixConditions (map standard_bidi_class (c ∷ label))).1 (meets (λ empty. cc))

six-passes_bidi_rule : (label : List ℕ) → passes_bidi_rule label ≡ true → label ≢ [] → MeetsSixConditions (map standard_bidi_class label)
six-passes_bidi_rule [] passes some = absurd (some refl)
six-passes_bidi_rule (c ∷ label) passes some =
    (meets_six_conditions-MeetsSixConditions (map standard_bidi_class (c ∷ label))).0 (six_of_label c label ∙ passes)

abbrev holds_rtl : List ℕ → Bool
holds_rtl label = list_any (λ c. idna.is_rtl (kit_class c)) label

abbrev HoldsRtl : List ℕ → Type 0
HoldsRtl label = Any (λ class. is_rtl_class class ≡ true) (map standard_bidi_class label)

rtl_of_label : (label : List ℕ) → list_any is_rtl_class (map standard_bidi_class label) ≡ holds_rtl label
rtl_of_label label = ap (list_any is_rtl_class) (map_named label) ∙ any_named is_rtl_class idna.is_rtl rtl_named (map kit_class label) ∙ any_kit label

rtl-gives : (labels : List (List ℕ)) → Any HoldsRtl labels → list_any holds_rtl labels ≡ true
rtl-gives labels some =
    list_any-from_Any holds_rtl labels
    (some.0, some.1, some.2, some.3, sym (rtl_of_label some.1) ∙ list_any-from_Any is_rtl_class (map standard_bidi_class some.1) some.4)

rtl-from : (labels : List (List ℕ)) → list_any holds_rtl labels ≡ true → Any HoldsRtl labels
rtl-from labels is =
    let some = Any-from_list_any holds_rtl labels is in
    (some.0, some.1, some.2, some.3, Any-from_list_any is_rtl_class (map standard_bidi_class some.1) (rtl_of_label some.1 ∙ some.4))

fault_none : (passes : Bool) → ((if passes then None else Some Bidi) ≡ None) ↔ (passes ≡ true)
fault_none true = (λ none. refl, λ passes. refl)
fault_none false = (λ none. cc, λ passes. cc)

where_rtl : (rtl all : Bool) → ((not rtl || all) ≡ true) ↔ (rtl ≡ true → all ≡ true)
where_rtl true all = (λ h is. h, λ h. h refl)
where_rtl false all = (λ h is. cc, λ h. refl)

pub name_rule : (labels : List (List ℕ)) → (name_fault Unicode labels ≡ None) ↔ PassesBidiRuleAsName labels
unfolding is_bidi_domain
name_rule labels = (told, met)
  where
    passes : (passes_bidi labels ≡ true) ↔ (list_any holds_rtl labels ≡ true → list_all passes_bidi_rule labels ≡ true)
    passes = where_rtl (list_any holds_rtl labels) (list_all passes_bidi_rule labels)

    told : name_fault Unicode labels ≡ None → PassesBidiRuleAsName labels
    told none some =
        All-weaker (λ label. passes_bidi_rule label ≡ true) _ six-passes_bidi_rule labels
        (AllPass-from_list_all passes_bidi_rule labels (passes.0 ((fault_none (passes_bidi labels)).0 none) (rtl-gives labels some)))

    met : PassesBidiRuleAsName labels → name_fault Unicode labels ≡ None
    met rule =
        (fault_none (passes_bidi labels)).1
        (passes.1 (λ some. list_all-from_AllPass passes_bidi_rule labels (All-weaker _ (λ label. passes_bidi_rule label ≡ true) passes_bidi_rule-six labels (rule (rtl-from labels some)))))
