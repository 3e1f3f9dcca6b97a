use Rattle.std.proofs.Common.{inl, inr, ◌≡◌, ◌+◌, ◌-◌, ◌≤◌, List, ℕ, [], ◌∷◌, ◌++◌, length, chars, take, drop, length-take, length-drop, refl, sym, ap, ap₂, ◌∙◌, subst, arith}
use Rattle.std.specs.List.{slice_range}
use Rattle.std.proofs.lemmas.List.{take_rest}
use Rattle.std.proofs.lemmas.Str.{chars-nil}
use Rattle.idn_text.specs.Points.{utf8_of}
use Rattle.variant_list.specs.Labels.{IsBelow, label_cmp}
use Rattle.registered_labels.specs.declared.labels.Span.{Span}
use Rattle.registered_labels.specs.inner.Spans.{labels_at, AreLabelsIn}
use Rattle.registered_labels.specs.inner.Readings.{IsReadAs}
use Rattle.registered_labels.proofs.ReadLabels.{IsAboveAll, AreLabelsIn-more, IsAboveAll-more, labels_push, below_from_test, body_is, length-line}
use Rattle.idn_text.specs.declared.refusal.Refusal.TheVariants.{OutOfOrder, FileTooLong}
use Rattle.registered_labels.specs.Texts.{IsWrongBy, IsFaultOf}
use Rattle.registered_labels.proofs.LabelLists.{AreRegistered-in}
use Rattle.registered_labels.proofs.TextLines.{HasRead, HasRead-none, HasRead-more, IsTextOf-read, IsFirstWrong-here, IsFaultOf-refused, IsLastOf, IsLastOf-more, IsOutOfOrder-seen, in_order, compared_bytes, length-next}
use Rattle.registered_labels.proofs.ReadLabels.{AreLabelsIn-none}
use Rattle.registered_labels.proofs.labels.RegisteredLabels.read.Goals as goal

-- so many bytes from a place on
part_from : (text : List ℕ) (at len : ℕ) → take len (slice_range text at (length text)) ≡ slice_range text at (at + len)
part_from text at len = ap (take len) (take_rest text at) ∙ ap (λ n. take n (drop at text)) (let e : len ≡ at + len - at = omega arith in e)

pub order_of-requires-clause-one : goal.order_of-requires-clause-one
order_of-requires-clause-one c =
    omega (arith, ap length c.loop-at.invariant.stands, length-take (length c.loop-at.last.now) c.loop-at.from_last.now)

pub loop-at-preserved : goal.loop-at-preserved
loop-at-preserved c =
    let text : List ℕ = c.args.text.now in
    let at : ℕ = c.loop-at.at in
    let end : ℕ = c.line_end-line.result.end in
    let len : ℕ = c.in-Ok.len in
    let last : List ℕ = chars c.loop-at.last.now in
    let spans : List Span = c.loop-at.spans.items in
    let body : List ℕ = take len (slice_range text at end) in
    let label : List ℕ = chars body in
    let read : IsReadAs c.args.properties (slice_range text at end) len label = c.in-Ok.ensures.read in
    let few : len ≤ end - at = omega (arith, read.within, length-line text at end) in
    let bytes : List ℕ = slice_range text at (at + len) in
    let reached : at ≤ end = c.line_end-line.ensures.end.reached in
    let within : end ≤ length text = c.line_end-line.ensures.end.within in
    let same : bytes ≡ body = sym (body_is c.args.properties text at end len label few reached within read) in
    let compared : c.order_of.result ≡ label_cmp last label = compared_bytes c.loop-at.last.now bytes body c.order_of.result (c.order_of.ensures ∙ ap₂ label_cmp c.loop-at.invariant.stands (part_from text at len)) c.loop-at.invariant.key same (read.read).encoded in
    let greater : IsBelow last label = below_from_test last label c.order_of.result c.is_lt.result compared c.is_lt.ensures c.if-not-is_lt.false in
    let span : Span = record { start = at; end = at + len } in
    let pushed : c.push.new.self.items ≡ spans ++ span ∷ [] = c.in_ok-push.ensures.items in
    let labels : labels_at text c.push.new.self.items ≡ labels_at text spans ++ label ∷ [] =
    ap (labels_at text) pushed ∙ labels_push c.args.properties text at end len label few reached within read spans last c.loop-at.invariant.labels c.loop-at.invariant.last greater in
    let now : label ≡ chars bytes = ap chars (sym same) in
    let size : length bytes ≡ len = omega (arith, length-take (at + len - at) (drop at text), length-drop at text, few, reached, within) in
    record {
      labels = subst (AreLabelsIn c.args.properties text) (sym pushed) (AreLabelsIn-more c.args.properties text at end len label few reached within read spans last c.loop-at.invariant.labels c.loop-at.invariant.last greater);
      key = ap utf8_of (sym now) ∙ (read.read).encoded ∙ sym same;
      stands = ap (λ n. take n (slice_range text at (length text))) size ∙ part_from text at len;
      last = subst (IsAboveAll (labels_at text c.push.new.self.items)) now
          (subst (λ (ss : List Span). IsAboveAll (labels_at text ss) label) (sym pushed) (IsAboveAll-more c.args.properties text at end len label few reached within read spans last c.loop-at.invariant.labels c.loop-at.invariant.last greater));
      counted = omega (arith, c.loop-at.invariant.counted, reached);
      in_time = omega (arith, c.if-end-gt-MAX_TEXT_LEN.false);
      lines = subst (HasRead c.args.properties text (end + 1) (c.loop-at.number + 1)) (sym labels) (HasRead-more c.args.properties text at end c.loop-at.number len (labels_at text spans) label c.loop-at-test.true c.line_end-line.ensures.end read c.loop-at.invariant.lines);
      last_label = subst (IsLastOf (labels_at text c.push.new.self.items)) now (subst (λ (ls : List (List ℕ)). IsLastOf ls label) (sym labels) (IsLastOf-more (labels_at text spans) label));
    }

pub loop-at-init : goal.loop-at-init
loop-at-init c = record {
  labels = subst (AreLabelsIn c.args.properties c.args.text.now) (sym c.new-spans.ensures.items) (AreLabelsIn-none c.args.properties c.args.text.now);
  key = ap utf8_of chars-nil;
  stands = refl;
  last = subst (λ spans. IsAboveAll (labels_at c.args.text.now spans) (chars [])) (sym c.new-spans.ensures.items) (λ w b. tt);
  counted = omega arith;
  in_time = omega arith;
  lines = subst (λ spans. HasRead c.args.properties c.args.text.now 0 0 (labels_at c.args.text.now spans)) (sym c.new-spans.ensures.items) (HasRead-none c.args.properties c.args.text.now);
  last_label = subst (λ spans. IsLastOf (labels_at c.args.text.now spans) (chars [])) (sym c.new-spans.ensures.items) (inl (refl, chars-nil));
}

pub returns-in-Err-clause-fault : goal.returns-in-Err-clause-fault
returns-in-Err-clause-fault c =
    let labels : List (List ℕ) = labels_at c.args.text.now c.loop-at.spans.items in
    subst (IsFaultOf c.args.properties c.args.text.now) (sym c.refused.ensures)
    (IsFaultOf-refused c.args.properties c.args.text.now (c.loop-at.number + 1) c.in-Err.refusal (λ other.
    (IsFirstWrong-here c.args.properties) c.args.text.now c.loop-at.at c.line_end-line.result.end c.loop-at.number labels (IsWrongBy c.args.properties c.in-Err.refusal)
    c.loop-at-test.true c.loop-at.invariant.in_time c.line_end-line.ensures.end c.loop-at.invariant.lines (AreRegistered-in c.args.properties c.args.text.now c.loop-at.spans.items c.loop-at.invariant.labels)
    (inl (c.in-Err.ensures.refused other))))

pub returns-then-not-is_lt-clause-fault : goal.returns-then-not-is_lt-clause-fault
returns-then-not-is_lt-clause-fault c =
    let labels : List (List ℕ) = labels_at c.args.text.now c.loop-at.spans.items in
    let text : List ℕ = c.args.text.now in
    let end : ℕ = c.line_end-line.result.end in
    let body : List ℕ = take c.in-Ok.len (slice_range text c.loop-at.at end) in
    let read : IsReadAs c.args.properties (slice_range text c.loop-at.at end) c.in-Ok.len (chars body) = c.in-Ok.ensures.read in
    let few : c.in-Ok.len ≤ end - c.loop-at.at = omega (arith, read.within, length-line text c.loop-at.at end) in
    let bytes : List ℕ = slice_range text c.loop-at.at (c.loop-at.at + c.in-Ok.len) in
    let same : bytes ≡ body = sym (body_is c.args.properties text c.loop-at.at end c.in-Ok.len (chars body) few c.line_end-line.ensures.end.reached c.line_end-line.ensures.end.within read) in
    let compared : c.order_of.result ≡ label_cmp (chars c.loop-at.last.now) (chars body) = compared_bytes c.loop-at.last.now bytes body c.order_of.result (c.order_of.ensures ∙ ap₂ label_cmp c.loop-at.invariant.stands (part_from text c.loop-at.at c.in-Ok.len)) c.loop-at.invariant.key same (read.read).encoded in
    subst (IsFaultOf c.args.properties c.args.text.now) (sym c.refused-then-not-is_lt.ensures)
    (IsFirstWrong-here c.args.properties c.args.text.now c.loop-at.at c.line_end-line.result.end c.loop-at.number labels (IsWrongBy c.args.properties OutOfOrder)
    c.loop-at-test.true c.loop-at.invariant.in_time c.line_end-line.ensures.end c.loop-at.invariant.lines (AreRegistered-in c.args.properties c.args.text.now c.loop-at.spans.items c.loop-at.invariant.labels)
    (inr (inl (refl, IsOutOfOrder-seen c.args.properties (slice_range c.args.text.now c.loop-at.at c.line_end-line.result.end) c.in-Ok.len labels (chars c.loop-at.last.now) (chars body) c.order_of.result c.is_lt.result c.in-Ok.ensures.read c.loop-at.invariant.last_label compared c.is_lt.ensures c.if-not-is_lt.true))))

pub returns-then-end-gt-MAX_TEXT_LEN-clause-fault : goal.returns-then-end-gt-MAX_TEXT_LEN-clause-fault
returns-then-end-gt-MAX_TEXT_LEN-clause-fault c =
    let text : List ℕ = c.args.text.now in
    let at : ℕ = c.loop-at.at in
    let end : ℕ = c.line_end-line.result.end in
    let len : ℕ = c.in-Ok.len in
    let line : List ℕ = slice_range text at end in
    let labels : List (List ℕ) = labels_at text c.loop-at.spans.items in
    let last : List ℕ = chars c.loop-at.last.now in
    let body : List ℕ = take len line in
    let label : List ℕ = chars body in
    let read : IsReadAs c.args.properties line len label = c.in-Ok.ensures.read in
    let few : len ≤ end - at = omega (arith, read.within, length-line text at end) in
    let bytes : List ℕ = slice_range text at (at + len) in
    let same : bytes ≡ body = sym (body_is c.args.properties text at end len label few c.line_end-line.ensures.end.reached c.line_end-line.ensures.end.within read) in
    let compared : c.order_of.result ≡ label_cmp last label = compared_bytes c.loop-at.last.now bytes body c.order_of.result (c.order_of.ensures ∙ ap₂ label_cmp c.loop-at.invariant.stands (part_from text at len)) c.loop-at.invariant.key same (read.read).encoded in
    let greater : IsBelow last label = below_from_test last label c.order_of.result c.is_lt.result compared c.is_lt.ensures c.if-not-is_lt.false in
    subst (IsFaultOf c.args.properties text) (sym c.refused-then-end-gt-MAX_TEXT_LEN.ensures)
    (IsFirstWrong-here c.args.properties text at end c.loop-at.number labels (IsWrongBy c.args.properties FileTooLong)
    c.loop-at-test.true c.loop-at.invariant.in_time c.line_end-line.ensures.end c.loop-at.invariant.lines (AreRegistered-in c.args.properties text c.loop-at.spans.items c.loop-at.invariant.labels)
    (inr (inr (refl, read.right, in_order c.args.properties line len labels last label read c.loop-at.invariant.last_label greater, omega (arith, c.line_end-line.ensures.end.reached, length-next text at end c.line_end-line.ensures.end)))))

pub returns-clause-labels : goal.returns-clause-labels
returns-clause-labels c =
    IsTextOf-read c.args.properties c.args.text.now c.loop-at.at c.loop-at.number (labels_at c.args.text.now c.loop-at.spans.items) c.loop-at-test.false c.loop-at.invariant.in_time c.loop-at.invariant.lines (AreRegistered-in c.args.properties c.args.text.now c.loop-at.spans.items c.loop-at.invariant.labels)
