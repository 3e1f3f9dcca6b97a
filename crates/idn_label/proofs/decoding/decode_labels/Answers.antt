use Rattle.std.proofs.Common.{◌≡◌, ◌≤◌, ◌+◌, ◌-◌, length, drop, slice_range, Ok, refl, sym, ap, ◌∙◌, arith}
use Rattle.std.proofs.lemmas.Grind.{common_steps}
use Rattle.std.proofs.lemmas.Result.{err_from_is_err_and}
use Rattle.idn_label.specs.Decode.{decoded_label, decoded_name}
use Rattle.idn_label.proofs.DecodeLemmas.{appended, decoded_label-coded, decoded_label-other, decoded_name-last, decoded_name-err, decoded_name-more, turn_more}
use Rattle.idn_label.proofs.LabelsByPlace.{label_last, label_before}
use Rattle.idn_label.proofs.decoding.decode_labels.Goals as goal
use Rattle.idn_label.proofs.decoding.decode_labels.Goals.{then-has_ace_prefix_in_any_case+in_ok-u_label_in_any_case, else-has_ace_prefix_in_any_case}

pub returns-in_err-u_label_in_any_case-clause-answer : goal.returns-in_err-u_label_in_any_case-clause-answer
returns-in_err-u_label_in_any_case-clause-answer c =
    let p = err_from_is_err_and c.from_residual-in_err-u_label_in_any_case.result c.from_residual-in_err-u_label_in_any_case.ensures.1 in
    rw (p.1, p.2)
    (λ other.
    c.labels.invariant.0
    ∙ rw (decoded_name-err c.args.properties (drop c.labels.start c.args.name.now) _ _ _ c.label_end-end.ensures.labels (decoded_label-coded c.args.properties _ (sym c.if-has_ace_prefix_in_any_case.ensures) ∙ c.in_err-u_label_in_any_case.ensures.answer other)) refl)

pub returns-then-end-name-clause-answer : goal.returns-then-end-name-clause-answer
returns-then-end-name-clause-answer c =
    let name = c.args.name.now in
    let label = slice_range name c.labels.start c.label_end-end.result in
    let is : decoded_label c.args.properties label ≡ Ok c.if-has_ace_prefix_in_any_case.label.now =
    elim c.if-has_ace_prefix_in_any_case.branch [
      | then-has_ace_prefix_in_any_case+in_ok-u_label_in_any_case w ↦
          rw w.label-is (decoded_label-coded c.args.properties label (sym w.if-has_ace_prefix_in_any_case.ensures) ∙ w.in_ok-u_label_in_any_case.ensures.answer ∙ ap Ok (sym w.as_slice-label.ensures.value))
      | else-has_ace_prefix_in_any_case w ↦ rw w.label-is (decoded_label-other c.args.properties label (sym w.if-has_ace_prefix_in_any_case.ensures))
    ] in
    c.labels.invariant.0
    ∙ ap (appended c.labels.decoded.items) (decoded_name-last c.args.properties _ _ (label_last name c.labels.start _ c.label_end-end.ensures c.if-end-name.true) ∙ is)
    ∙ ap Ok (sym c.in_ok-extend_from_slice.ensures.items)

pub labels-preserved : goal.labels-preserved
labels-preserved c =
    let name = c.args.name.now in
    let label = slice_range name c.labels.start c.label_end-end.result in
    let others = drop (c.label_end-end.result + 1) name in
    let is : decoded_label c.args.properties label ≡ Ok c.if-has_ace_prefix_in_any_case.label.now =
    elim c.if-has_ace_prefix_in_any_case.branch [
      | then-has_ace_prefix_in_any_case+in_ok-u_label_in_any_case w ↦
          rw w.label-is (decoded_label-coded c.args.properties label (sym w.if-has_ace_prefix_in_any_case.ensures) ∙ w.in_ok-u_label_in_any_case.ensures.answer ∙ ap Ok (sym w.as_slice-label.ensures.value))
      | else-has_ace_prefix_in_any_case w ↦ rw w.label-is (decoded_label-other c.args.properties label (sym w.if-has_ace_prefix_in_any_case.ensures))
    ] in (
      c.labels.invariant.0
          ∙ ap (appended c.labels.decoded.items) (decoded_name-more c.args.properties _ _ others (label_before name c.labels.start _ c.label_end-end.ensures c.if-end-name.false))
          ∙ turn_more c.labels.decoded.items _ _ (decoded_name c.args.properties others) (ap (appended c.labels.decoded.items) is ∙ ap Ok (sym c.in_ok-extend_from_slice.ensures.items))
          ∙ ap (λ front. appended front (decoded_name c.args.properties others)) (sym c.in_ok-push.ensures.items),
      omega (arith, c.label_end-end.ensures.within, c.if-end-name.false),
      let fits : length c.if-has_ace_prefix_in_any_case.label.now ≤ c.label_end-end.result - c.labels.start =
          elim c.if-has_ace_prefix_in_any_case.branch [
            | then-has_ace_prefix_in_any_case+in_ok-u_label_in_any_case w ↦
                rw (w.label-is, w.as_slice-label.ensures.value) (grind (arith, common_steps, w.in_ok-u_label_in_any_case.ensures.shorter))
            | else-has_ace_prefix_in_any_case w ↦ rw w.label-is (grind (arith, common_steps))
          ] in
          grind (arith, common_steps, fits, c.label_end-end.ensures.order, c.in_ok-push.ensures.items, c.in_ok-extend_from_slice.ensures.items, c.labels.invariant.2),
    )
