use Rattle.std.proofs.Common.{◌≡◌, true, false, ◌↔◌, not, map, refl, sym, ap, ◌∙◌}
use Rattle.std.proofs.lemmas.Bool.{not-true, true≢false}
use Rattle.std.proofs.lemmas.List.Folds.{list_any-from_Any, list_all-map}
use Rattle.idn_class.specs.BidiClass.{bidi_class}
use Rattle.idn_class.specs.BidiRule.{is_rtl_class, is_allowed_in_rtl, PassesBidiRule}
use Rattle.idn_class.proofs.BidiLemmas.{list_any-classes, RtlParts_from, SixConditions_from}
use Rattle.idn_class.proofs.BidiTests.{bidi_ok-unique}
use Rattle.idn_class.proofs.bidi.bidi_ok_by.Goals as goal

pub returns-then-not-has_rtl_class : goal.returns-then-not-has_rtl_class
returns-then-not-has_rtl_class c =
    let rule : (true ≡ true) ↔ PassesBidiRule c.args.properties c.args.label.now =
    (λ _ some. absurd (true≢false (sym (list_any-from_Any is_rtl_class (map (bidi_class c.args.properties) c.args.label.now) some) ∙ list_any-classes c.args.properties c.args.label.now ∙ sym c.if-not-has_rtl_class.ensures)), λ _. refl) in
    record { rule = rule; test = bidi_ok-unique c.args.properties _ _ rule }

pub returns-then-not-is_rtl : goal.returns-then-not-is_rtl
returns-then-not-is_rtl c =
    let rule : (false ≡ true) ↔ PassesBidiRule c.args.properties c.args.label.now =
    (λ no. cc, λ ok. c.if-not-is_rtl.ensures.1 (RtlParts_from _ (list_any-classes c.args.properties c.args.label.now ∙ sym c.if-not-has_rtl_class.ensures) ok).begins) in
    record { rule = rule; test = bidi_ok-unique c.args.properties _ _ rule }

pub returns-then-not-holds_allowed_in_rtl : goal.returns-then-not-holds_allowed_in_rtl
returns-then-not-holds_allowed_in_rtl c =
    let rule : (false ≡ true) ↔ PassesBidiRule c.args.properties c.args.label.now =
    (λ no. cc, λ ok. c.if-not-holds_allowed_in_rtl.ensures ∙ sym (list_all-map is_allowed_in_rtl (bidi_class c.args.properties) c.args.label.now) ∙ (RtlParts_from _ (list_any-classes c.args.properties c.args.label.now ∙ sym c.if-not-has_rtl_class.ensures) ok).all) in
    record { rule = rule; test = bidi_ok-unique c.args.properties _ _ rule }

pub returns-then-not-ends_in_end_of_rtl : goal.returns-then-not-ends_in_end_of_rtl
returns-then-not-ends_in_end_of_rtl c =
    let rule : (false ≡ true) ↔ PassesBidiRule c.args.properties c.args.label.now =
    (λ no. cc, λ ok. c.if-not-ends_in_end_of_rtl.ensures.1 (RtlParts_from _ (list_any-classes c.args.properties c.args.label.now ∙ sym c.if-not-has_rtl_class.ensures) ok).ends) in
    record { rule = rule; test = bidi_ok-unique c.args.properties _ _ rule }

pub returns : goal.returns
returns c =
    let rule : (not c.has_both_numbers.result ≡ true) ↔ PassesBidiRule c.args.properties c.args.label.now = (
      λ unmixed _.
          let numbers = sym c.has_both_numbers.ensures in
          SixConditions_from _ (c.if-not-is_rtl.ensures.0 refl) (list_all-map is_allowed_in_rtl (bidi_class c.args.properties) c.args.label.now ∙ sym c.if-not-holds_allowed_in_rtl.ensures) (c.if-not-ends_in_end_of_rtl.ensures.0 refl) (numbers ∙ not-true _ unmixed),
      λ ok. ap not (c.has_both_numbers.ensures ∙ (RtlParts_from _ (list_any-classes c.args.properties c.args.label.now ∙ sym c.if-not-has_rtl_class.ensures) ok).digits),
    ) in
    record { rule = rule; test = bidi_ok-unique c.args.properties _ _ rule }
