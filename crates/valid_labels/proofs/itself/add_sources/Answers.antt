use Rattle.std.proofs.Common.{◌≡◌, List, true, false, sym, subst, ◌∙◌, arith}
use Rattle.std.specs.List.{Contains}
use Rattle.variant_table.specs.Entries.{Entry}
use Rattle.variant_table.specs.Places.{AreEntriesAt}
use Rattle.variant_table.proofs.MemberLemmas.{Contains-head, Contains-later}
use Rattle.variant_table.specs.Staying.{may_stand}
use Rattle.valid_labels.proofs.CauseLemmas.{at-inside}
use Rattle.valid_labels.proofs.StayingLemmas.{added-source, skipped-source, staying-is}
use Rattle.valid_labels.proofs.itself.add_sources.Goals as goal

pub stands-requires-clause-inside : goal.stands-requires-clause-inside
stands-requires-clause-inside c =
    let e = c.in-Some.entry in
    let place = c.requires.place in
    at-inside c.args.table.now.entries c.args.label.now c.args.place c.into_iter-entry-iterator.result e
    (subst (AreEntriesAt c.args.table.now.entries c.args.label.now c.args.place) (sym c.into_iter-entry-iterator.ensures.into_iter_gives) c.entries_at-entry-items.ensures.entries) (omega (arith, place))
    (c.loop-entry.invariant.rest e (subst (λ (es : List Entry). Contains es e) (sym c.in-Some.ensures.steps) (Contains-head e c.next.new.self)))

pub loop-entry-preserved-in-Continue-1 : goal.loop-entry-preserved-in-Continue-1
loop-entry-preserved-in-Continue-1 c =
    let e = c.in-Some.entry in
    let rest = c.next.new.self in
    let told : c.stands.result ≡ true = search in
    record {
      rest = λ f h. c.loop-entry.invariant.rest f (subst (λ (es : List Entry). Contains es f) (sym c.in-Some.ensures.steps) (Contains-later e rest f h));
      taken = added-source (may_stand c.args.table.now c.args.label.now c.args.place) e c.loop-entry.entry-iterator rest c.loop-entry.draft c.add.new.self _ c.in-Some.ensures.steps (sym c.stands.ensures ∙ told) c.in_ok-add.ensures
          (staying-is e c.source-source.result.now c.kind_of_source.result c.variant_type.result c.source-source.ensures c.variant_type.ensures.is c.kind_of_source.ensures.word)
          ∙ c.loop-entry.invariant.taken;
    }

pub loop-entry-preserved : goal.loop-entry-preserved
loop-entry-preserved c =
    let e = c.in-Some.entry in
    let rest = c.next.new.self in
    let told : c.stands.result ≡ false = search in
    record {
      rest = λ f h. c.loop-entry.invariant.rest f (subst (λ (es : List Entry). Contains es f) (sym c.in-Some.ensures.steps) (Contains-later e rest f h));
      taken = skipped-source (may_stand c.args.table.now c.args.label.now c.args.place) e c.loop-entry.entry-iterator rest c.loop-entry.draft c.in-Some.ensures.steps (sym c.stands.ensures ∙ told) ∙ c.loop-entry.invariant.taken;
    }
