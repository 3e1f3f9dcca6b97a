-- What follows '<' on its line, read with it.
use Rattle.std.proofs.Common.{◌≡◌, ℕ, ◌+◌, ◌<◌, ◌≤◌, true, false, ◌==◌, Option, Some, None, List, [], ◌∷◌, ◌++◌, length, take, drop, get_or, cond, refl, sym, ap, ◌∙◌, subst, append_assoc, append-nil, arith}
use Rattle.std.specs.List.{list_all}
use Rattle.std.specs.Option.{option_map}
use Rattle.std.proofs.lemmas.Bool.Decides.{nat_tests}
use Rattle.idn_text.specs.Stops.{run}
use Rattle.xml_text.specs.declared.document_state.Part.TheVariants as part
use Rattle.xml_text.specs.declared.repeats.Repeats.{Repeats}
use Rattle.xml_text.specs.declared.run.Run.TheVariants as runs
use Rattle.xml_text.specs.declared.state.Phase.TheVariants as phase
use Rattle.xml_text.specs.LineEnds.{next_line}
use Rattle.xml_text.specs.Names.{is_name_start, is_name_byte}
use Rattle.xml_text.specs.inner.DocumentSteps
use Rattle.xml_text.specs.inner.DocumentSteps.{State, step, take_by, content_step, begin_tag_step, has_none, moved, closed, on_line, line_next, Goes}
use Rattle.xml_text.specs.inner.TagSteps as tag
use Rattle.xml_text.specs.inner.Runs.{GoesOn, IsTaken, Takes, goes_on, is_in_line}
use Rattle.xml_text.proofs.DocumentRuns.{expected_at, nothing_expected, length_snoc}
use Rattle.xml_text.proofs.DocumentTaken.{same_line, stays}
use Rattle.xml_text.proofs.ListLemmas.{and_both}
use Rattle.xml_text.proofs.Runs.{first, yes, no, stepped}
use Rattle.xml_text.proofs.TagTaken.{all_in_line, in_line}
use Rattle.xml_text.proofs.TakenLemmas.{one_taken, one_more, on_further, taken_on, run_goes_on}

-- ---- lines

next_of : (s u : State) (b : ℕ) → step s b ≡ Some u → u.line ≡ next_line s.line b
next_of s u b e = by (DocumentSteps.take s b) e
  where
    by : (o : Option State) → option_map (on_line (next_line s.line b)) o ≡ Some u → u.line ≡ next_line s.line b
    by None is = absurd (cc)
    by (Some v) is = let same : on_line (next_line s.line b) v ≡ u = cc in ap (λ (x : State). x.line) (sym same)

kept_line : (s t : State) (bs : List ℕ) → list_all is_in_line bs ≡ true → run step (Some s) bs ≡ Some t → t.line ≡ s.line
kept_line s t [] are e = let same : s ≡ t = cc in ap (λ (x : State). x.line) (sym same)
kept_line s t (b ∷ bs) are e =
    let both = and_both (is_in_line b) (list_all is_in_line bs) are in
    let one = stepped step s b bs t e in
    kept_line one.next t bs both.1 one.leads ∙ next_of s one.next b one.is ∙ same_line s.line b both.0

-- what stands on one line ends on it
pub line_kept : (s t : State) (bytes : List ℕ) (n : ℕ) → GoesOn step s bytes n t → t.line ≡ s.line
line_kept s t bytes n is = kept_line s t (take n bytes) is.line is.leads

-- ---- after '<'

abbrev pub begun : State → State
begun s = record s { begun = s.line; part = part.Markup }

pub markup_goes : (k : Repeats) (s t : State) (bytes rest : List ℕ) (m : ℕ) → 0 < length bytes → get_or bytes 0 0 ≡ 60 → rest ≡ drop 1 bytes → GoesOn step (begun s) rest m t
    → Goes (content_step k) s bytes (Some (1 + m)) t
markup_goes k s t bytes rest m some is same more =
    let u = begun s in
    let b = get_or bytes 0 0 in
    let line = line_next s bytes in
    let here : line ≡ s.line = same_line s.line b (ap is_in_line is) in
    let opens : option_map (on_line line) (content_step k s b) ≡ Some u =
    ap (λ (x : ℕ). option_map (on_line line) (content_step k s x)) is ∙ ap (λ (l : ℕ). Some (on_line l u)) here in
    let one : Takes step (option_map (on_line line) (content_step k s b)) bytes (Some 1) u =
    one_taken step (option_map (on_line line) (content_step k s b)) bytes true u some opens in
    let last : on_line line t ≡ t = ap (λ (l : ℕ). on_line l t) (here ∙ sym (line_kept u t rest m more)) in
    subst (λ (x : State). IsTaken step (option_map (on_line line) (content_step k s b)) bytes (1 + m) x) (sym last)
    (taken_on step (option_map (on_line line) (content_step k s b)) bytes rest 1 m u t same one more)

-- ---- start tags

begins : (s : State) (b : ℕ) → s.part ≡ part.Markup → is_name_start b ≡ true → DocumentSteps.take s b ≡ begin_tag_step s b
begins s b here is =
    let mark : (b == 33) ≡ false = grind (arith, nat_tests) in
    let question : (b == 63) ≡ false = grind (arith, nat_tests) in
    let slash : (b == 47) ≡ false = grind (arith, nat_tests) in
    let ended = cond (has_none s.names) None (moved s (part.EndName 0)) in
    ap (λ p. take_by p s b) here
    ∙ no (b == 33) (moved s part.Exclamation) (cond (b == 63) (moved s part.Question) (cond (b == 47) ended (begin_tag_step s b))) mark
    ∙ no (b == 63) (moved s part.Question) (cond (b == 47) ended (begin_tag_step s b)) question ∙ no (b == 47) ended (begin_tag_step s b) slash

pub opened_goes : (s t : State) (bytes : List ℕ) (n : ℕ) → s.part ≡ part.Markup → is_name_start (get_or bytes 0 0) ≡ true → t.line ≡ s.line → Goes begin_tag_step s bytes (Some n) t
    → GoesOn step s bytes n t
opened_goes s t bytes n here is line goes =
    let b = get_or bytes 0 0 in
    let plain : is_in_line b ≡ true = grind (arith, nat_tests) in
    let same : step s b ≡ option_map (on_line (line_next s bytes)) (begin_tag_step s b) =
    ap (λ (o : Option State). option_map (on_line (line_next s bytes)) o) (begins s b here is) in
    let last : on_line (line_next s bytes) t ≡ t = ap (λ (l : ℕ). on_line l t) (same_line s.line b plain ∙ sym line) in
    let taken : IsTaken step (step s b) bytes n (on_line (line_next s bytes) t) =
    subst (λ (o : Option State). IsTaken step o bytes n (on_line (line_next s bytes) t)) (sym same) goes in
    run_goes_on step s t bytes n plain (subst (λ (x : State). IsTaken step (step s b) bytes n x) last taken)

-- its name begins there
pub named_goes : (bytes : List ℕ) (n : ℕ) (u : tag.State) → is_name_start (get_or bytes 0 0) ≡ true
    → tag.Goes (λ t b. Some (tag.named t b)) (tag.with_phase tag.start phase.Begin) bytes (Some n) u → tag.Goes tag.step (tag.with_phase tag.start phase.Begin) bytes (Some n) u
named_goes bytes n u is goes =
    let t = tag.with_phase tag.start phase.Begin in
    subst (λ (o : Option tag.State). Takes tag.step o bytes (Some n) u) (sym (yes (is_name_start (get_or bytes 0 0)) (Some (tag.named t (get_or bytes 0 0))) None is)) goes

-- ---- end tags

own_byte : (b : ℕ) → (b == b) ≡ true
own_byte b = grind (arith, nat_tests)

abbrev naming : State → ℕ → State
naming s n = record s { part = part.EndName n }

name_byte : (s : State) (outer : List (List ℕ)) (name pre post : List ℕ) (b : ℕ) → s.names ≡ name ∷ outer → name ≡ pre ++ b ∷ post → is_name_byte b ≡ true
    → step (naming s (length pre)) b ≡ Some (naming s (length pre + 1))
name_byte s outer name pre post b held spelled is =
    let u = naming s (length pre) in
    let t = naming s (length pre + 1) in
    stays u t b (in_line runs.Name b is) refl (
    ap (λ (ns : List (List ℕ)). DocumentSteps.end_name_in ns (length pre) u b) held
    ∙ ap (λ (o : Option ℕ). DocumentSteps.expected o (length pre) u b) (expected_at name pre post b spelled)
    ∙ yes (b == b) (Some t) None (own_byte b))

name_run : (s : State) (outer : List (List ℕ)) (name pre post : List ℕ) → s.names ≡ name ∷ outer → name ≡ pre ++ post → list_all (goes_on runs.Name) post ≡ true
    → run step (Some (naming s (length pre))) post ≡ Some (naming s (length name))
name_run s outer name pre [] held spelled are = ap (λ (x : List ℕ). Some (naming s (length x))) (sym (spelled ∙ append-nil pre))
name_run s outer name pre (b ∷ post) held spelled are =
    let both = and_both (is_name_byte b) (list_all (goes_on runs.Name) post) are in
    first step (naming s (length pre)) (naming s (length pre + 1)) (naming s (length name)) b post (name_byte s outer name pre post b held spelled both.0)
    (subst (λ (n : ℕ). run step (Some (naming s n)) post ≡ Some (naming s (length name))) (length_snoc pre b)
    (name_run s outer name (pre ++ b ∷ []) post held (spelled ∙ sym (append_assoc pre (b ∷ []) post)) both.1))

slash_goes : (s : State) (outer : List (List ℕ)) (name : List ℕ) (bytes : List ℕ) → s.part ≡ part.Markup → s.names ≡ name ∷ outer → 0 < length bytes → get_or bytes 0 0 ≡ 47
    → GoesOn step s bytes 1 (naming s 0)
slash_goes s outer name bytes here held some is =
    one_more step s (naming s 0) bytes some (ap is_in_line is)
    (ap (step s) is ∙ ap (λ p. option_map (on_line s.line) (take_by p s 47)) here
    ∙ ap (λ (ns : List (List ℕ)). option_map (on_line s.line) (cond (has_none ns) None (moved s (part.EndName 0)))) held)

close_goes : (s : State) (outer : List (List ℕ)) (name bytes : List ℕ) → s.names ≡ name ∷ outer → 0 < length bytes → get_or bytes 0 0 ≡ 62 → GoesOn step (naming s (length name)) bytes 1 (closed s)
close_goes s outer name bytes held some is =
    let u = naming s (length name) in
    one_more step u (closed s) bytes some (ap is_in_line is)
    (ap (step u) is ∙ ap (λ (ns : List (List ℕ)). option_map (on_line s.line) (DocumentSteps.end_name_in ns (length name) u 62)) held
    ∙ ap (λ (o : Option ℕ). option_map (on_line s.line) (DocumentSteps.expected o (length name) u 62)) (nothing_expected name name (sym (append-nil name))))

-- all of an end tag after its '<'
pub end_goes : (s : State) (outer : List (List ℕ)) (name bytes more end : List ℕ) (n : ℕ) → s.part ≡ part.Markup → s.names ≡ name ∷ outer → 0 < length bytes → get_or bytes 0 0 ≡ 47
    → more ≡ drop 1 bytes → name ≡ take n more → n ≤ length more → list_all (goes_on runs.Name) (take n more) ≡ true → end ≡ drop n more → 0 < length end → get_or end 0 0 ≡ 62
    → GoesOn step s bytes (1 + (n + 1)) (closed s)
end_goes s outer name bytes more end n here held some is same spelled within are left ended closes =
    let named : GoesOn step (naming s 0) more n (naming s (length name)) =
    record {
      within = within;
      line = all_in_line runs.Name (take n more) are;
      leads = name_run s outer name [] (take n more) held spelled are;
    } in
    on_further step s (naming s 0) (closed s) bytes more 1 (n + 1) same (slash_goes s outer name bytes here held some is)
    (on_further step (naming s 0) (naming s (length name)) (closed s) more end n 1 left named (close_goes s outer name end held ended closes))
