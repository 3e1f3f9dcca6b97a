-- A document after its mark and its declaration.
use Rattle.std.proofs.Common.{◌≡◌, ℕ, ◌+◌, ◌≤◌, List, ◌++◌, length, take, drop, sym, ap, ◌∙◌, subst, arith}
use Rattle.std.proofs.Math.Seq.{take-add}
use Rattle.std.proofs.lemmas.List.{take-append-drop, length-take}
use Rattle.xml_text.specs.declared.fault.ReadError.TheVariants.{Stop}
use Rattle.xml_text.specs.Files.{is_ascii, mark_of, declares, IsDeclared, IsFront, StopsBody, IsStopOf, IsStopAt}
use Rattle.xml_text.specs.LineEnds.{line_feeds, line_after}

pub front_is : (text : List ℕ) (mark n : ℕ) → mark ≡ length (mark_of text) → take mark text ≡ mark_of text → IsDeclared (is_ascii (drop mark text)) (declares (drop mark text)) (take n (drop mark text)) → IsFront text (take (mark + n) text)
front_is text mark n length_is mark_is declared = (
  take n (drop mark text),
  take-add mark n text ∙ ap (λ (l : List ℕ). l ++ take n (drop mark text)) mark_is,
  subst (λ (m : ℕ). IsDeclared (is_ascii (drop m text)) (declares (drop m text)) (take n (drop mark text))) length_is declared,
)

pub stop_at : (text : List ℕ) (n place byte line : ℕ) → IsFront text (take n text) → n ≤ length text → line ≡ line_after 1 (line_feeds (take n text)) → StopsBody line (drop n text) (Stop place) → byte ≡ n + place
    → IsStopAt text byte
stop_at text n place byte line front within line_is stop byte_is =
    let body = drop n text in
    let inside : place ≤ length body = stop.0 in
    record {
      front = take n text;
      before = take place body;
      after = drop place body;
      spelled = sym (take-append-drop n text) ∙ ap (λ (l : List ℕ). take n text ++ l) (sym (take-append-drop place body));
      begins = front;
      at = omega (arith, length-take n text, length-take place body);
      stop = subst (λ (l : ℕ). IsStopOf l (take place body) (drop place body)) line_is stop.1;
    }
