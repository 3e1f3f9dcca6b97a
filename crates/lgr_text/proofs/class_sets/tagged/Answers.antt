use Rattle.std.proofs.Common.{◌≡◌, ◌||◌, None, Some, [], ◌++◌, map, take, if◌then◌else◌, subst, sym, ap, ◌∙◌}
use Rattle.std.specs.List.{All, list_any}
use Rattle.std.proofs.lemmas.List.{take_all}
use Rattle.label_patterns.specs.Sets.{is_in}
use Rattle.ruleset_text.specs.Names.{is_one_of}
use Rattle.lgr_text.specs.CodePoints.{IsSpan}
use Rattle.lgr_text.specs.Known.{single_points, tagged}
use Rattle.lgr_text.specs.Records.{Entry, entry}
use Rattle.lgr_text.specs.declared.rule_error.RuleFault.TheVariants.{Undefined}
use Rattle.lgr_text.proofs.ClassLemmas.{any-more, more, tagged-more, tagged-spans}
use Rattle.lgr_text.proofs.class_sets.tagged.Goals as goal

pub loop-entry-preserved : goal.loop-entry-preserved
loop-entry-preserved c =
    let tag = c.args.tag.now in
    let e = entry c.entry-item.result in
    let before = map entry (take c.loop-entry.entry-index c.args.entries.now) in
    let has = λ (d : Entry). is_one_of d.tags tag in
    let one = more entry c.args.entries.now c.loop-entry.entry-index c.entry-item.result c.loop-entry-test.true c.entry-item.is in (
      c.in_ok-is_defined.ensures.spans ∙ ap (λ l. l ++ (if is_one_of e.tags tag then single_points e.source else [])) c.loop-entry.invariant.0
          ∙ sym (tagged-more before e tag) ∙ ap (λ l. tagged l tag) (sym one),
      ap (λ b. b || c.in_ok-is_defined.field-0) c.loop-entry.invariant.1 ∙ ap (λ b. list_any has before || b) c.in_ok-is_defined.ensures.has
          ∙ sym (any-more has before e) ∙ ap (list_any has) (sym one),
    )

pub of_spans-requires : goal.of_spans-requires
of_spans-requires c =
    let spans = tagged (map entry c.args.entries.now) c.args.tag.now in
    let is : c.deref.result.now ≡ spans =
    c.deref.ensures.value ∙ c.loop-entry.invariant.0
    ∙ ap (λ l. tagged (map entry l) c.args.tag.now) (take_all c.loop-entry.entry-index c.args.entries.now c.loop-entry-test.false) in
    subst (All IsSpan) (sym is) (tagged-spans (map entry c.args.entries.now) c.args.tag.now c.requires)

pub returns-then-is_defined-clause-members : goal.returns-then-is_defined-clause-members
returns-then-is_defined-clause-members c = λ n.
    c.in_ok-of_spans.ensures n
    ∙ ap (λ l. is_in l n)
    (c.deref.ensures.value ∙ c.loop-entry.invariant.0
    ∙ ap (λ l. tagged (map entry l) c.args.tag.now) (take_all c.loop-entry.entry-index c.args.entries.now c.loop-entry-test.false))

pub returns-then-is_defined-clause-fault : goal.returns-then-is_defined-clause-fault
returns-then-is_defined-clause-fault c =
    let has = λ (d : Entry). is_one_of d.tags c.args.tag.now in
    let all = take_all c.loop-entry.entry-index c.args.entries.now c.loop-entry-test.false in
    ap (λ b. if b then None else Some Undefined) (ap (λ l. list_any has (map entry l)) (sym all) ∙ sym c.loop-entry.invariant.1 ∙ c.if-is_defined.true)

pub returns-clause-fault : goal.returns-clause-fault
returns-clause-fault c =
    let has = λ (d : Entry). is_one_of d.tags c.args.tag.now in
    let all = take_all c.loop-entry.entry-index c.args.entries.now c.loop-entry-test.false in
    ap (λ b. if b then None else Some Undefined) (ap (λ l. list_any has (map entry l)) (sym all) ∙ sym c.loop-entry.invariant.1 ∙ c.if-is_defined.false)
