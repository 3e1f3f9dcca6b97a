use Rattle.std.proofs.Common.{◌≡◌, ℕ, List, [], ◌∷◌, true, false, map, ◌≤◌, ◌++◌, ◌+◌, ◌-◌, ◌*◌, ◌||◌, subst, length, drop, take, slice_range, chars, Result, Ok, Err, sym, ap, ◌∙◌, arith, length-set, length-take, refl}
use Rattle.std.specs.Char.{to_ascii_lowercase}
use Rattle.std.specs.Str.{IsUtf8}
use Rattle.std.proofs.Math.ListN.{set}
use Rattle.std.proofs.lemmas.Bool.{cond-true, cond-false}
use Rattle.std.proofs.lemmas.Grind.{take-set_at}
use Rattle.std.proofs.lemmas.Result.{err_from_is_err_and}
use Rattle.std.proofs.lemmas.Slice.{take-put_mid}
use Rattle.idn_text.specs.declared.refusal.Refusal.{Refusal}
use Rattle.idn_text.specs.declared.refusal.Refusal.TheVariants.{Memory}
use Rattle.idn_text.specs.Points.{utf8_of}
use Rattle.idn_label.specs.Answers.{Answer}
use Rattle.idn_label.specs.Decode.{decoded_name}
use Rattle.idna.specs.Labels.{labels_of}
use Rattle.idn_label.specs.Memory.{DecodesWithoutMemory}
use Rattle.idn_label.specs.Register.{u_label_answer}
use Rattle.idn_label.specs.Steps.{begins_with_prefix, in_utf8}
use Rattle.idn_label.proofs.LabelsByPlace.{label_last, label_before}
use Rattle.idn_label.proofs.LdhNames.{all_labels}
use Rattle.idn_label.proofs.DecodeLemmas.{appended, appended-nil, followed, turn_more}
use Rattle.idn_label.proofs.Utf8Names.{decoded_octets, decoded_last, decoded_more, decoded_refused, labels_of-last, labels_of-more, decoded_utf8-utf8}
use Rattle.idn_label.proofs.ALabels.{registrable_scalars}
use Rattle.idn_label.proofs.BidiNames.{LabelKeeps, keeps-coded, keeps-more, keeps-none, keeps-other}
use Rattle.idn_label.proofs.AnswerLemmas.{u_label_answer-from}
use Rattle.idn_label.proofs.decoding.decode_utf8_labels.Goals as goal
use Rattle.idn_label.proofs.decoding.decode_utf8_labels.Goals.{then-has_ace_prefix_in_any_case+in_ok-u_label_in_any_case, else-has_ace_prefix_in_any_case}
use Rattle.idn_class.specs.declared.properties.Properties.{Properties}
use Rattle.idn_class.specs.declared.facts.Fact.{Fact}
use Rattle.idn_class.specs.declared.facts.Fact.TheVariants.{RightToLeft}
use Rattle.idn_class.specs.declared.facts.Facts.{Facts}
use Rattle.idn_class.specs.Facts.{AreFactsOf, contains}
use Rattle.idn_label.specs.inner.DecodedNames.{KeepsLeftToRight}
use Rattle.std.proofs.lemmas.Bool.{or_parts}

pub labels-init : goal.labels-init
labels-init c = record {
  text = decoded_utf8-utf8 c.args.properties c.args.name.now c.requires.utf8 ∙ sym (appended-nil _);
  keeps = λ none keeps. keeps;
  utf8 = c.requires.utf8;
  begun = omega arith;
  short = omega arith;
  room = refl;
  no_memory = λ all. all;
}

module _ (properties : Properties) where
  -- a label that is decoded
  coded : (label : List ℕ) → true ≡ begins_with_prefix label → decoded_octets properties label ≡ in_utf8 (u_label_answer properties (map to_ascii_lowercase label))
  coded label is = cond-true _ _ _ (sym is)

pub returns-in_err-u_label_in_any_case-clause-answer : goal.returns-in_err-u_label_in_any_case-clause-answer
returns-in_err-u_label_in_any_case-clause-answer c =
    let name = c.args.name.now in
    let start = c.labels.start in
    let p = err_from_is_err_and c.from_residual.result c.from_residual.ensures.1 in
    rw (p.1, p.2)
    (λ other.
    c.labels.invariant.text
    ∙ ap (appended (take c.labels.len c.labels.room))
    (decoded_refused c.args.properties name start _ _ c.label_end-end.ensures c.labels.invariant.utf8
    (coded c.args.properties _ c.if-has_ace_prefix_in_any_case.ensures ∙ ap in_utf8 (c.in_err-u_label_in_any_case.ensures.answer other))))

same : {A : Type 0} (refusal : Refusal) → ◌≡◌ {A = Result A Refusal} (Err refusal) (Err Memory) → refusal ≡ Memory
same refusal e = cc

pub returns-in_err-u_label_in_any_case-clause-no_memory : goal.returns-in_err-u_label_in_any_case-clause-no_memory
returns-in_err-u_label_in_any_case-clause-no_memory c =
    λ all.
    let name = c.args.name.now in
    let p = err_from_is_err_and c.from_residual.result c.from_residual.ensures.1 in
    let first = (all_labels DecodesWithoutMemory (drop c.labels.start name) (slice_range name c.labels.start c.label_end-end.result) _ c.label_end-end.ensures.labels (c.labels.invariant.no_memory all)).0 in
    rw (p.1, p.2) (λ e. c.u_label_in_any_case.ensures.no_memory (first (sym c.if-has_ace_prefix_in_any_case.ensures)) (c.in_err-u_label_in_any_case.was ∙ ap Err (same _ e)))

module _ (properties : Properties) where
  -- a label is written, decoded or as it is
  coded_written : (front label decoded text : List ℕ) → true ≡ begins_with_prefix label → u_label_answer properties (map to_ascii_lowercase label) ≡ Ok decoded → text ≡ front ++ utf8_of decoded → appended front (decoded_octets properties label) ≡ Ok text
  coded_written front label decoded text prefix answer is = ap (appended front) (coded properties label prefix ∙ ap in_utf8 answer) ∙ ap Ok (sym is)

module _ (properties : Properties) where
  other_written : (front label text : List ℕ) → false ≡ begins_with_prefix label → text ≡ front ++ label → appended front (decoded_octets properties label) ≡ Ok text
  other_written front label text other is = ap (appended front) (cond-false _ _ _ (sym other)) ∙ ap Ok (sym is)

-- a full stop is written after it
stop_written : (whole first others : Answer) (front after text : List ℕ) → whole ≡ appended front (followed first others) → appended front first ≡ Ok after → text ≡ after ++ 0x2E ∷ [] → whole ≡ appended text others
stop_written whole first others front after text is written stop = is ∙ turn_more front after first others written ∙ ap (λ (t : List ℕ). appended t others) (sym stop)

pub returns-then-end-name-clause-answer : goal.returns-then-end-name-clause-answer
returns-then-end-name-clause-answer c =
    let name = c.args.name.now in
    let start = c.labels.start in
    let end = c.label_end-end.result in
    let ends = c.label_end-end.ensures in
    let i = c.labels.invariant in
    let label = slice_range name start end in
    let front = take c.labels.len c.labels.room in
    let long = length-take (end - start) (drop start name) in
    let written : appended front (decoded_octets c.args.properties label) ≡ Ok (take c.if-has_ace_prefix_in_any_case.len c.if-has_ace_prefix_in_any_case.room) =
    elim c.if-has_ace_prefix_in_any_case.branch [
      | then-has_ace_prefix_in_any_case+in_ok-u_label_in_any_case w ↦
          rw (w.room-is, w.len-is)
          (coded_written c.args.properties front label _ _ w.if-has_ace_prefix_in_any_case.ensures w.in_ok-u_label_in_any_case.ensures.answer (w.put_points-len.ensures.written ∙ ap (λ x. front ++ utf8_of x) w.as_slice.ensures.value))
      | else-has_ace_prefix_in_any_case w ↦
          rw (w.room-is, w.len-is)
          (other_written c.args.properties front label _ w.if-has_ace_prefix_in_any_case.ensures
          (take-put_mid c.labels.len (c.labels.len + length label - c.labels.len) c.labels.room w.copy_from_slice.new.self (c.labels.len + length label) (omega (arith, ap length w.copy_from_slice.ensures.after)) (omega (arith, long, ends.order, ends.within, i.short, i.room, c.requires.room))
          ∙ ap (λ x. front ++ x) w.copy_from_slice.ensures.after))
    ] in
    i.text ∙ ap (appended front) (decoded_last c.args.properties (drop start name) label i.utf8 (label_last name start _ ends c.if-end-name.true)) ∙ written

-- what a label that is copied, or decoded to a label without the fact, says of the name
abbrev Carried : Properties → List ℕ → Facts → Facts → Type 0
Carried properties label before after = contains after RightToLeft ≡ false → (contains before RightToLeft ≡ false) × LabelKeeps properties (chars label)

carried_coded : (properties : Properties) (label decoded : List ℕ) (before own after : Facts) → IsUtf8 label → true ≡ begins_with_prefix label → u_label_answer properties (map to_ascii_lowercase label) ≡ Ok decoded → AreFactsOf own decoded
    → ((fact : Fact) → contains after fact ≡ (contains before fact || contains own fact)) → Carried properties label before after
carried_coded properties label decoded before own after utf8 coded is are joined none =
    let parts = or_parts (contains before RightToLeft) (contains own RightToLeft) (sym (joined RightToLeft) ∙ none) in
    (parts.0, keeps-coded properties label decoded own utf8 (sym coded) is are parts.1)

pub returns-then-end-name-clause-left_to_right : goal.returns-then-end-name-clause-left_to_right
returns-then-end-name-clause-left_to_right c =
    let name = c.args.name.now in
    let start = c.labels.start in
    let end = c.label_end-end.result in
    let ends = c.label_end-end.ensures in
    let i = c.labels.invariant in
    let label = slice_range name start end in
    let last = labels_of-last (drop start name) label i.utf8 (label_last name start end ends c.if-end-name.true) in
    let carried : Carried c.args.properties label c.labels.facts c.if-has_ace_prefix_in_any_case.facts =
    elim c.if-has_ace_prefix_in_any_case.branch [
      | then-has_ace_prefix_in_any_case+in_ok-u_label_in_any_case w ↦
          rw w.facts-is
          (carried_coded c.args.properties label _ c.labels.facts _ _ last.0 w.if-has_ace_prefix_in_any_case.ensures w.in_ok-u_label_in_any_case.ensures.answer w.in_ok-u_label_in_any_case.ensures.facts w.joined-facts.ensures)
      | else-has_ace_prefix_in_any_case w ↦ rw w.facts-is (λ none. (none, keeps-other c.args.properties label last.0 (sym w.if-has_ace_prefix_in_any_case.ensures)))
    ] in
    λ none.
    let own = carried none in
    i.keeps own.0 (subst (KeepsLeftToRight c.args.properties) (sym last.1) (keeps-more c.args.properties (chars label) [] own.1 (keeps-none c.args.properties)))

pub labels-preserved : goal.labels-preserved
labels-preserved c =
    let name = c.args.name.now in
    let start = c.labels.start in
    let end = c.label_end-end.result in
    let ends = c.label_end-end.ensures in
    let i = c.labels.invariant in
    let label = slice_range name start end in
    let front = take c.labels.len c.labels.room in
    let long = length-take (end - start) (drop start name) in
    let written : appended front (decoded_octets c.args.properties label) ≡ Ok (take c.if-has_ace_prefix_in_any_case.len c.if-has_ace_prefix_in_any_case.room) =
    elim c.if-has_ace_prefix_in_any_case.branch [
      | then-has_ace_prefix_in_any_case+in_ok-u_label_in_any_case w ↦
          rw (w.room-is, w.len-is)
          (coded_written c.args.properties front label _ _ w.if-has_ace_prefix_in_any_case.ensures w.in_ok-u_label_in_any_case.ensures.answer (w.put_points-len.ensures.written ∙ ap (λ x. front ++ utf8_of x) w.as_slice.ensures.value))
      | else-has_ace_prefix_in_any_case w ↦
          rw (w.room-is, w.len-is)
          (other_written c.args.properties front label _ w.if-has_ace_prefix_in_any_case.ensures
          (take-put_mid c.labels.len (c.labels.len + length label - c.labels.len) c.labels.room w.copy_from_slice.new.self (c.labels.len + length label) (omega (arith, ap length w.copy_from_slice.ensures.after)) (omega (arith, long, ends.order, ends.within, i.short, i.room, c.requires.room))
          ∙ ap (λ x. front ++ x) w.copy_from_slice.ensures.after))
    ] in
    let others = drop (end + 1) name in
    let parts = label_before name start end ends c.if-end-name.false in
    let after : c.if-has_ace_prefix_in_any_case.len ≤ c.labels.len + 4 * length label =
    elim c.if-has_ace_prefix_in_any_case.branch [
      | then-has_ace_prefix_in_any_case+in_ok-u_label_in_any_case w ↦
          rw w.len-is (omega (arith, w.put_points-len.ensures.end, w.in_ok-u_label_in_any_case.ensures.shorter, ap length w.as_slice.ensures.value))
      | else-has_ace_prefix_in_any_case w ↦ rw w.len-is (omega arith)
    ] in
    let more = labels_of-more (drop start name) label others i.utf8 parts in
    let carried : Carried c.args.properties label c.labels.facts c.if-has_ace_prefix_in_any_case.facts =
    elim c.if-has_ace_prefix_in_any_case.branch [
      | then-has_ace_prefix_in_any_case+in_ok-u_label_in_any_case w ↦
          rw w.facts-is
          (carried_coded c.args.properties label _ c.labels.facts _ _ more.0 w.if-has_ace_prefix_in_any_case.ensures w.in_ok-u_label_in_any_case.ensures.answer w.in_ok-u_label_in_any_case.ensures.facts w.joined-facts.ensures)
      | else-has_ace_prefix_in_any_case w ↦ rw w.facts-is (λ none. (none, keeps-other c.args.properties label more.0 (sym w.if-has_ace_prefix_in_any_case.ensures)))
    ] in
    let kept = c.if-has_ace_prefix_in_any_case.auto.room in
    let len = c.if-has_ace_prefix_in_any_case.len in
    let room = c.if-has_ace_prefix_in_any_case.room in
    record {
      text =
          stop_written _ (decoded_octets c.args.properties label) (in_utf8 (decoded_name c.args.properties (chars others))) front (take len room) (take (len + 1) (set room len 0x2E)) (i.text ∙ ap (appended front) (decoded_more c.args.properties (drop start name) label others i.utf8 parts)) written
          (take-set_at room len (len + 1) 0x2E refl (omega (arith, long, ends.order, ends.within, c.if-end-name.false, after, kept, i.short, i.room, c.requires.room)));
      keeps = λ none rest.
          let own = carried none in
          i.keeps own.0 (subst (KeepsLeftToRight c.args.properties) (sym more.2) (keeps-more c.args.properties (chars label) (labels_of (chars others)) own.1 rest));
      utf8 = more.1;
      begun = omega (arith, ends.within, c.if-end-name.false);
      short = omega (arith, long, ends.order, after, i.short);
      room = length-set _ _ _ ∙ kept ∙ i.room;
      no_memory = λ all. (all_labels DecodesWithoutMemory (drop start name) label (labels_of others) parts (i.no_memory all)).1;
    }

pub put_points-len-requires-clause-scalar_values : goal.put_points-len-requires-clause-scalar_values
put_points-len-requires-clause-scalar_values c =
    rw c.as_slice.ensures.value
    (registrable_scalars c.args.properties _ (u_label_answer-from c.args.properties _ _ c.in_ok-u_label_in_any_case.ensures.answer).0)
