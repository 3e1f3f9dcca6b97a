-- A line that begins with a label's UTF-8, cut or lengthened.
use Rattle.std.proofs.Common.{◌≡◌, ℕ, ◌+◌, ◌<◌, ◌≤◌, min, List, [], ◌∷◌, ◌++◌, length, take, drop, set, get_or, sym, ap, ◌∙◌, subst, inl, inr, length-append, length-take, arith}
use Rattle.std.proofs.Math.Seq.{take-length, take-append_seam}
use Rattle.std.proofs.lemmas.Bool.{cases_order}
use Rattle.std.proofs.lemmas.List.{take_all, take-take, take-append-le, take-append-drop, get_or-set_same, get_or-set_other}
use Rattle.std.proofs.lemmas.Str.{encodes-append}
use Rattle.idn_text.specs.Points.{utf8_of}
use Rattle.idn2_cli.specs.inner.CachedLines.{BeginsWith, IsBegun}

module _ (line label ends : List ℕ) (begins : BeginsWith line label ends) where
  whole_inside : length (utf8_of label) ≤ length line
  whole_inside = omega (arith, ap length begins.text, length-take (length (utf8_of label)) line)

  -- what is left where the label is cut
  pub line-cut : (count : ℕ) → take (length (utf8_of (take count label))) line ≡ utf8_of (take count label)
  line-cut count =
      let first = utf8_of (take count label) in
      let parts : utf8_of label ≡ first ++ utf8_of (drop count label) = ap utf8_of (sym (take-append-drop count label)) ∙ encodes-append (take count label) (drop count label) in
      let inside : length first ≤ length (utf8_of label) = omega (arith, ap length parts, length-append first (utf8_of (drop count label))) in
      sym (take-take (length first) (length (utf8_of label)) line inside)
      ∙ ap (take (length first)) (begins.text ∙ parts)
      ∙ take-append_seam first (utf8_of (drop count label))

  -- the same line, of which a beginning of the label is cached
  pub BeginsWith-keep : (count : ℕ) → BeginsWith line (take count label) ends
  BeginsWith-keep count = record {
    text = line-cut count;
    ends = λ i e within.
        let short = length-take count label in
        begins.ends i e (omega (arith, within, short)) ∙ ap (λ l. length (utf8_of l)) (sym (take-take i count label (omega (arith, within, short))));
  }

  -- a code point more
  pub BeginsWith-push : (c end : ℕ) (longer : List ℕ) → length label + 1 < length ends → longer ≡ utf8_of (label ++ c ∷ []) → end ≡ length longer → BeginsWith longer (label ++ c ∷ []) (set ends (length label + 1) end)
  BeginsWith-push c end longer room is at = record {
    text = ap (take (length (utf8_of (label ++ c ∷ [])))) is ∙ take-length (utf8_of (label ++ c ∷ []));
    ends = λ i e within.
        let count = length-append label (c ∷ []) in
        elim (cases_order i (length label + 1)) [
          | inl last ↦
              ap (λ n. get_or (set ends (length label + 1) end) n e) last ∙ get_or-set_same ends (length label + 1) end e room ∙ at ∙ ap length is
              ∙ ap (λ l. length (utf8_of l)) (sym (take_all i (label ++ c ∷ []) (omega (arith, count, last))))
          | inr other ↦ elim other [
            | inl less ↦
                get_or-set_other ends (length label + 1) i end e (λ same. omega (arith, same, less)) ∙ begins.ends i e (omega (arith, less))
                ∙ ap (λ l. length (utf8_of l)) (sym (take-append-le i label (c ∷ []) (omega (arith, less))))
            | inr more ↦ absurd (omega (arith, within, count, more))
          ]
        ];
  }

-- what the line begins with, cached for labels that begin with the same code points
pub IsBegun-keep : (line ends before label : List ℕ) (count kept : ℕ) → IsBegun before (record { line = line; count = count; ends = ends }) → take kept before ≡ take kept label → IsBegun label (record { line = line; count = min count kept; ends = ends })
IsBegun-keep line ends before label count kept h same =
    let few : ℕ = min count kept in
    let here : take few before ≡ take few label = sym (take-take few kept before (omega arith)) ∙ ap (take few) same ∙ take-take few kept label (omega arith) in
    let cut : take few (take count before) ≡ take few label = take-take few count before (omega arith) ∙ here in
    record {
      within = omega (arith, h.within, ap length here, length-take few before, length-take few label);
      begins = subst (λ l. BeginsWith line l ends) cut (BeginsWith-keep line (take count before) ends h.begins few);
    }
