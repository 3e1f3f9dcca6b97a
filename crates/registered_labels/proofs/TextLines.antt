-- The lines of a text, one after another, and the first that is wrong.
use Rattle.std.proofs.Common.{◌≡◌, ◌≢◌, ◌⊎◌, inl, inr, ℕ, zero, suc, ◌+◌, ◌-◌, ◌<◌, ◌≤◌, ◌^◌, Bool, true, false, cond, Some, None, List, [], ◌∷◌, ◌++◌, length, take, drop, get_or, eqb, refl, sym, ap, subst, ◌∙◌, arith, add-one, append_assoc, length-append, length-take, length-drop, drop-cons}
use Rattle.std.specs.List.{slice_range}
use Rattle.std.specs.Ordering.{is_lt}
use Rattle.std.specs.declared.cmp.Ordering.{Ordering}
use Rattle.std.specs.declared.cmp.Ordering.TheVariants.{Less}
use Rattle.std.specs.Str.{chars}
use Rattle.std.specs.Str.Lines.{strip_carriage_return}
use Rattle.std.proofs.lemmas.Bool.{cases_lt}
use Rattle.std.proofs.lemmas.List.{append-nil, same_from_push, take-append-drop, take_all, take_min}
use Rattle.idn_text.specs.Points.{utf8_of}
use Rattle.idn_text.specs.Lines.{raw_lines, joined_lines, body_of}
use Rattle.idn_text.specs.declared.refusal.Refusal.{Refusal}
use Rattle.idn_text.specs.declared.refusal.Refusal.TheVariants as refusals
use Rattle.idn_text.proofs.TakingLemmas.{is_long_line-short}
use Rattle.idn_text.proofs.NumberingLemmas.{raw_lines-then, raw_lines-rest}
use Rattle.idn_label.proofs.OldNameLemmas.{in_zone-some}
use Rattle.variant_list.specs.Labels.{IsBelow, label_cmp}
use Rattle.variant_list.proofs.OrderLemmas.{Less_from_below}
use Rattle.registered_labels.proofs.Utf8Order.{utf8_of-cmp}
use Rattle.registered_labels.specs.Registered.{AreRegistered}
use Rattle.registered_labels.specs.Texts.{AreLinesOf, IsTextOf, label_fault, line_refusal, IsFirstWrong, IsOutOfOrder, IsWrongBy, IsFaultOf, fault_of}
use Rattle.registered_labels.specs.inner.Readings.{IsLineEnd, IsReadAs}
use Rattle.registered_labels.proofs.MarkedLines.{AreLinesOf-push, in_zone-line, same_label}
use Rattle.variant_table.proofs.ListLemmas.{drop_all}
use Rattle.idn_class.specs.declared.properties.Properties.{Properties}

-- ---- one line

pub body_of-short : (line : List ℕ) → length line ≤ 1024 → body_of line ≡ Some (strip_carriage_return line)
body_of-short line few = ap (λ b. cond b None (Some (strip_carriage_return line))) (is_long_line-short line few)

module _ (properties : Properties) where
  pub refused_body : (line body : List ℕ) (refusal : Refusal) → length line ≤ 1024 → body ≡ strip_carriage_return line → label_fault properties body ≡ Some refusal → line_refusal properties (body_of line) ≡ Some refusal
  refused_body line body refusal few is fault = ap (line_refusal properties) (body_of-short line few ∙ ap Some (sym is)) ∙ fault

-- the body of a line stands at its front
pub stripped_front : (line : List ℕ) → strip_carriage_return line ≡ take (length (strip_carriage_return line)) line
stripped_front line = by_test (eqb (get_or line (length line - 1) 0) 13)
  where
    by_test : (b : Bool) → cond b (take (length line - 1) line) line ≡ take (length (cond b (take (length line - 1) line) line)) line
    by_test true = sym (ap (λ n. take n line) (length-take (length line - 1) line) ∙ take_min (length line - 1) line)
    by_test false = sym (take_all (length line) line (omega arith))

-- ---- the lines so far

drop_more : {X : Type 0} (xs : List X) (a b : ℕ) → a ≤ b → drop (b - a) (drop a xs) ≡ drop b xs
drop_more xs zero b l = ap (λ n. drop n xs) (omega arith)
drop_more [] (suc a) zero l = absurd (omega arith)
drop_more [] (suc a) (suc b) l = nothing (suc b - suc a)
  where
    nothing : {X : Type 0} (n : ℕ) → drop {A = X} n [] ≡ []
    nothing zero = refl
    nothing (suc n) = refl
drop_more (x ∷ xs) (suc a) zero l = absurd (omega arith)
drop_more (x ∷ xs) (suc a) (suc b) l = ap (λ n. drop n (drop a xs)) (omega arith) ∙ drop_more xs a b (omega arith)

module _ (text : List ℕ) (at end : ℕ) (more : at < length text) (is : IsLineEnd text at end) where
  front_and_rest : drop at text ≡ slice_range text at end ++ drop end text
  front_and_rest = sym (take-append-drop (end - at) (drop at text)) ∙ ap (λ xs. slice_range text at end ++ xs) (drop_more text at end is.reached)

  some_line : end ≡ length text → slice_range text at end ≢ []
  some_line last e =
      let size : length (slice_range text at end) ≡ 0 = ap length e in
      omega (arith, size, last, more, length-take (end - at) (drop at text), length-drop at text)

  -- the next line, and what follows it
  pub raw_lines-next : raw_lines (drop at text) ≡ slice_range text at end ∷ raw_lines (drop (end + 1) text)
  raw_lines-next = elim (cases_lt end (length text)) [
    | inl inside ↦
        let feed : get_or text end 0 ≡ 10 = is.feed inside in
        let rest : drop end text ≡ 10 ∷ drop (end + 1) text = drop-cons text end 0 inside ∙ ap (λ c. c ∷ drop (suc end) text) feed ∙ ap (λ n. 10 ∷ drop n text) (sym (add-one end)) in
        ap raw_lines (front_and_rest ∙ ap (λ xs. slice_range text at end ++ xs) rest) ∙ raw_lines-then (slice_range text at end) (drop (end + 1) text) is.no_feed
    | inr outside ↦
        let last : end ≡ length text = omega (arith, outside, is.within) in
        let none : drop (end + 1) text ≡ [] = drop_all text (end + 1) (omega (arith, last)) in
        ap raw_lines (front_and_rest ∙ ap (λ xs. slice_range text at end ++ xs) (drop_all text end outside) ∙ append-nil (slice_range text at end))
        ∙ raw_lines-rest (slice_range text at end) (some_line last) is.no_feed ∙ ap (λ xs. slice_range text at end ∷ raw_lines xs) (sym none)
  ]

-- so many lines were read, which are these labels, and the next begins at this place
pub record HasRead (properties : Properties) (text : List ℕ) (at number : ℕ) (labels : List (List ℕ)) : Type 0 where
  pub front : List (List ℕ)
  pub split : raw_lines text ≡ front ++ raw_lines (drop at text)
  pub read : AreLinesOf properties front labels
  pub counted : number ≡ length front
  pub placed : at ≡ length (joined_lines front)

pub HasRead-none : (properties : Properties) (text : List ℕ) → HasRead properties text 0 0 []
HasRead-none properties text = record { front = []; split = refl; read = tt; counted = refl; placed = refl }

-- a line and its line feed more
length-joined : (lines : List (List ℕ)) (line : List ℕ) → length (joined_lines (lines ++ line ∷ [])) ≡ length (joined_lines lines) + length line + 1
length-joined [] line = omega (arith, length-append line (10 ∷ []))
length-joined (first ∷ lines) line =
    omega (arith, length-append first (10 ∷ joined_lines (lines ++ line ∷ [])), length-append first (10 ∷ joined_lines lines), length-joined lines line)

pub length-next : (text : List ℕ) (at end : ℕ) → IsLineEnd text at end → length (slice_range text at end) ≡ end - at
length-next text at end is = omega (arith, is.reached, is.within, length-take (end - at) (drop at text), length-drop at text)

module _ (properties : Properties) where
  pub HasRead-more : (text : List ℕ) (at end number len : ℕ) (labels : List (List ℕ)) (label : List ℕ) → at < length text → IsLineEnd text at end → IsReadAs properties (slice_range text at end) len label → HasRead properties text at number labels → HasRead properties text (end + 1) (number + 1) (labels ++ label ∷ [])
  HasRead-more text at end number len labels label more is read h =
      let line : List ℕ = slice_range text at end in
      record {
        front = h.front ++ line ∷ [];
        split = h.split ∙ ap (λ xs. h.front ++ xs) (raw_lines-next text at end more is) ∙ sym (append_assoc h.front (line ∷ []) (raw_lines (drop (end + 1) text)));
        read = AreLinesOf-push properties h.front labels line label h.read read.is;
        counted = omega (arith, h.counted, length-append h.front (line ∷ []));
        placed = omega (arith, is.reached, h.placed, length-joined h.front line, length-next text at end is);
      }

  pub IsTextOf-read : (text : List ℕ) (at number : ℕ) (labels : List (List ℕ)) → length text ≤ at → at ≤ 2 ^ 32 → HasRead properties text at number labels → AreRegistered properties labels → IsTextOf properties text labels
  IsTextOf-read text at number labels past few h all =
      let whole : raw_lines text ≡ h.front = h.split ∙ ap (λ xs. h.front ++ raw_lines xs) (drop_all text at past) ∙ append-nil h.front in
      record {
        lines = subst (λ (ls : List (List ℕ)). AreLinesOf properties ls labels) (sym whole) h.read;
        registered = all;
        in_time = omega (arith, few, h.placed, ap (λ ls. length (joined_lines ls)) whole);
      }

  pub IsFirstWrong-here : (text : List ℕ) (at end number : ℕ) (labels : List (List ℕ)) (W : ℕ → List (List ℕ) → List ℕ → Type 0) → at < length text → at ≤ 2 ^ 32 → IsLineEnd text at end → HasRead properties text at number labels → AreRegistered properties labels → W at labels (slice_range text at end) → IsFirstWrong properties text (number + 1) W
  IsFirstWrong-here text at end number labels W more few is h all wrong = record {
    before = h.front;
    line = slice_range text at end;
    rest = raw_lines (drop (end + 1) text);
    lines = h.split ∙ ap (λ xs. h.front ++ xs) (raw_lines-next text at end more is);
    numbered = omega (arith, h.counted);
    labels = labels;
    read = h.read;
    registered = all;
    in_time = omega (arith, few, h.placed);
    wrong = subst (λ n. W n labels (slice_range text at end)) h.placed wrong;
  }

-- ---- the last label

-- the last of these labels, or the empty one where there is none
abbrev pub IsLastOf : List (List ℕ) → List ℕ → Type 0
IsLastOf labels last = ((labels ≡ []) × (last ≡ [])) ⊎ ((front : List (List ℕ)) × (labels ≡ front ++ last ∷ []))

not_lt : (v w : List ℕ) (o : Ordering) (b : Bool) → o ≡ label_cmp v w → b ≡ is_lt o → b ≡ false → IsBelow v w → ⊥
not_lt v w o b e f t below =
    let less : o ≡ Less = e ∙ Less_from_below v w below in
    let clash : true ≡ false = sym (ap is_lt less) ∙ sym f ∙ t in cc

module _ (properties : Properties) where
  pub IsOutOfOrder-seen : (line : List ℕ) (len : ℕ) (labels : List (List ℕ)) (last label : List ℕ) (o : Ordering) (b : Bool) → IsReadAs properties line len label → IsLastOf labels last → o ≡ label_cmp last label → b ≡ is_lt o → b ≡ false → IsOutOfOrder properties labels line
  IsOutOfOrder-seen line len labels last label o b read is e f t = elim is [
    | inl none ↦ absurd (not_lt last label o b e f t (subst (λ v. IsBelow v label) (sym none.1) (above_nothing label (in_zone-some properties label (in_zone-line properties line label read.is)))))
    | inr some ↦ record {
      label = label;
      is = read.is;
      front = some.0;
      last = last;
      ending = some.1;
      not_greater = not_lt last label o b e f t;
    }
  ]
    where
      above_nothing : (v : List ℕ) → v ≢ [] → IsBelow [] v
      above_nothing [] h = absurd (h refl)
      above_nothing (x ∷ v) h = tt

  -- a label that is greater than the last one is in order
  pub in_order : (line : List ℕ) (len : ℕ) (labels : List (List ℕ)) (last label : List ℕ) → IsReadAs properties line len label → IsLastOf labels last → IsBelow last label → IsOutOfOrder properties labels line → ⊥
  in_order line len labels last label read is below out = elim is [
    | inl none ↦ omega (arith, length-append out.front (out.last ∷ []), ap length (sym out.ending ∙ none.0))
    | inr some ↦
        let before : out.last ≡ last = (same_from_push out.front some.0 out.last last (sym out.ending ∙ some.1)).1 in
        out.not_greater (subst (λ v. IsBelow v out.label) (sym before) (subst (λ v. IsBelow last v) (sym same) below))
  ]
    where
      same : out.label ≡ label
      same = same_label properties line out.label label out.is read.is

  pub IsFaultOf-refused : (text : List ℕ) (line : ℕ) (refusal : Refusal) → (refusal ≢ refusals.Memory → IsFirstWrong properties text line (IsWrongBy properties refusal)) → IsFaultOf properties text (fault_of line refusal)
  IsFaultOf-refused text line refusals.Memory h = tt
  IsFaultOf-refused text line refusal h = h (λ e. cc)

-- one label more is the last
pub IsLastOf-more : (labels : List (List ℕ)) (label : List ℕ) → IsLastOf (labels ++ label ∷ []) label
IsLastOf-more labels label = inr (labels, refl)

-- the comparison of two labels by their UTF-8
pub compared_bytes : (last bytes body : List ℕ) (o : Ordering) → o ≡ label_cmp last bytes → utf8_of (chars last) ≡ last → bytes ≡ body → utf8_of (chars body) ≡ body → o ≡ label_cmp (chars last) (chars body)
compared_bytes last bytes body o is key same encoded =
    is ∙ ap (λ (b : List ℕ). label_cmp b bytes) (sym key) ∙ ap (label_cmp (utf8_of (chars last))) (same ∙ sym encoded) ∙ utf8_of-cmp (chars last) (chars body)
