use Rattle.std.proofs.Common.{◌≡◌, ◌&&◌, ◌-◌, true, refl, sym, ap, ◌∙◌, arith}
use Rattle.std.specs.Char.{to_ascii_lowercase}
use Rattle.std.proofs.lemmas.Bool.{cond-true, cond-false}
use Rattle.std.proofs.lemmas.List.{length-map}
use Rattle.idna.specs.Labels.{is_full_stop}
use Rattle.idn_label.specs.LdhNames.{is_name_point}
use Rattle.idn_label.proofs.LabelsByPlace.{AllWithin-join}
use Rattle.idn_label.proofs.LaneLemmas.{next_lane, none_from_mask}
use Rattle.idn_label.proofs.LdhNames.{lowered, cut_more, cut_stop, rest_prefix, prefix_told, ldh_answer}
use Rattle.idn_label.proofs.query.ldh.ldh_query.Goals as goal

pub returns-then-has_ace_prefix_in_any_case-clause-told : goal.returns-then-has_ace_prefix_in_any_case-clause-told
returns-then-has_ace_prefix_in_any_case-clause-told c ldh =
    sym ldh.no_a_label ∙ prefix_told c.args.name.now c.labels.invariant.cut c.if-has_ace_prefix_in_any_case.ensures

pub labels-preserved : goal.labels-preserved
labels-preserved c =
    let name = c.args.name.now in
    let i = c.labels.invariant in
    let count = length-map name to_ascii_lowercase in
    let next = next_lane is_full_stop (lowered name) c.labels.at c.min-end.result c.labels.stops i.within.1 (omega (arith, c.min-end.ensures)) (omega (arith, c.min-end.ensures, i.within)) i.stops c.labels-test.true in
    record {
      cut = cut_stop (cut_more i.cut _ (omega arith) next.none) (omega (arith, next.before, c.min-end.ensures)) next.passes (rest_prefix name c.labels.start c.if-has_ace_prefix_in_any_case.ensures) _ c.has_label_length-have_lengths.ensures;
      stops = next.after;
      within = (omega (arith, i.within), omega (arith, next.before));
    }

pub chunks-preserved : goal.chunks-preserved
chunks-preserved c =
    let name = c.args.name.now in
    let i = c.labels.invariant in
    let end = c.min-end.result in
    let count = length-map name to_ascii_lowercase in
    record {
      lower = c.in_ok-stops.ensures.lower;
      points = AllWithin-join (λ c. is_name_point (to_ascii_lowercase c) ≡ true) name 0 c.chunks.at (end - 16) end (omega (arith, c.min-end.ensures)) c.chunks.invariant.points (c.in_ok-stops.ensures.points.0 refl);
      cut = cut_more i.cut end (omega (arith, i.within)) (none_from_mask is_full_stop (lowered name) c.labels.at end _ (omega (arith, i.within)) (omega (arith, c.min-end.ensures, count)) i.stops c.labels-test.false);
      within = omega (arith, c.min-end.ensures);
    }

pub returns-then-has_ace_prefix_in_any_case-2-clause-told : goal.returns-then-has_ace_prefix_in_any_case-2-clause-told
returns-then-has_ace_prefix_in_any_case-2-clause-told c ldh =
    sym ldh.no_a_label ∙ prefix_told c.args.name.now c.chunks.invariant.cut c.if-has_ace_prefix_in_any_case-2.ensures

pub returns-then-have_lengths-may_end-clause-answer : goal.returns-then-have_lengths-may_end-clause-answer
returns-then-have_lengths-may_end-clause-answer c std3 =
    let i = c.chunks.invariant in
    ldh_answer c.args.name.now c.chunks.room c.chunks.at c.chunks.start c.chunks.have_lengths (omega (arith, c.chunks-test.false, i.within)) i.lower i.points i.cut c.if-has_ace_prefix_in_any_case-2.ensures std3
    ∙ cond-true _ _ _ (ap (λ b. c.chunks.have_lengths && b) (sym c.may_end.ensures) ∙ c.if-have_lengths-may_end.true)

pub returns-else-have_lengths-may_end-clause-answer : goal.returns-else-have_lengths-may_end-clause-answer
returns-else-have_lengths-may_end-clause-answer c std3 _ =
    let i = c.chunks.invariant in
    ldh_answer c.args.name.now c.chunks.room c.chunks.at c.chunks.start c.chunks.have_lengths (omega (arith, c.chunks-test.false, i.within)) i.lower i.points i.cut c.if-has_ace_prefix_in_any_case-2.ensures std3
    ∙ cond-false _ _ _ (ap (λ b. c.chunks.have_lengths && b) (sym c.may_end.ensures) ∙ c.if-have_lengths-may_end.false)
