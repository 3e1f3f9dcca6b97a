-- What follows a declaration, run after run.
use Rattle.std.proofs.Common.{◌≡◌, ℕ, zero, suc, ◌+◌, ◌<◌, ◌≤◌, Bool, true, false, ◌==◌, ◌&&◌, not, Option, Some, None, List, [], ◌∷◌, ◌++◌, length, take, drop, get_or, cond, refl, sym, ap, ◌∙◌, subst, append-nil, take_all, arith}
use Rattle.std.proofs.lemmas.Bool.Decides.{nat_tests}
use Rattle.std.proofs.lemmas.List.{drop_all}
use Rattle.idn_text.specs.Stops.{run, Begins}
use Rattle.idn_text.proofs.StopLemmas.{run_append}
use Rattle.std.specs.List.{list_all}
use Rattle.xml_text.specs.declared.document_state.DocumentState.{DocumentState}
use Rattle.xml_text.specs.Documents.{IsBody}
use Rattle.xml_text.specs.Files.{IsABody, IsStopOf}
use Rattle.xml_text.specs.LineEnds.{line_feeds, line_feeds_after, return_after}
use Rattle.xml_text.specs.TagStops.{IsStuck}
use Rattle.xml_text.specs.inner.Runs.{Takes, is_in_line}
use Rattle.xml_text.specs.inner.DocumentSteps.{State, start, step, state, is_complete, IsRead, Reads}
use Rattle.xml_text.proofs.DocumentBodies.{body_read, no_body, open_body}
use Rattle.xml_text.proofs.DocumentLive.{live}
use Rattle.xml_text.proofs.LineEndLemmas.{fed, fed_is, feeds_append, return_append}
use Rattle.xml_text.proofs.ListLemmas.{and_both}
use Rattle.xml_text.proofs.Runs.{no}
use Rattle.xml_text.proofs.TagRuns.{not_false}
use Rattle.xml_text.proofs.TakenLemmas.{first_of, further, not_empty_is}

-- the bytes so far lead to the state
abbrev pub Leads : ℕ → List ℕ → State → Type 0
Leads line text s = run step (Some (start line)) (line_feeds text) ≡ Some s

pub body_more : (line : ℕ) (text rest : List ℕ) (i n : ℕ) (s u : DocumentState) → rest ≡ drop i text → Leads line (take i text) (state s) → s.is_after_return ≡ return_after false (take i text)
    → IsRead s rest n u → Leads line (take (i + n) text) (state u)
body_more line text rest i n s u same e flag is =
    ap (λ (t : List ℕ). run step (Some (start line)) (line_feeds t)) (further text i n ∙ ap (λ (x : List ℕ). take i text ++ take n x) (sym same))
    ∙ ap (run step (Some (start line))) (feeds_append false (take i text) (take n rest))
    ∙ run_append step (line_feeds (take i text)) (line_feeds_after (return_after false (take i text)) (take n rest)) (Some (start line))
    ∙ ap (λ (x : Option State). run step x (line_feeds_after (return_after false (take i text)) (take n rest))) e
    ∙ ap (λ (f : Bool). run step (Some (state s)) (line_feeds_after f (take n rest))) (sym flag) ∙ is.leads

pub after_more : (text rest : List ℕ) (i n : ℕ) (s u : DocumentState) → rest ≡ drop i text → s.is_after_return ≡ return_after false (take i text) → IsRead s rest n u
    → u.is_after_return ≡ return_after false (take (i + n) text)
after_more text rest i n s u same flag is =
    is.after ∙ ap (λ (f : Bool). return_after f (take n rest)) flag
    ∙ sym (ap (return_after false) (further text i n ∙ ap (λ (x : List ℕ). take i text ++ take n x) (sym same)) ∙ return_append false (take i text) (take n rest))

stuck_by : (line : ℕ) (before : List ℕ) (s : State) (x : ℕ) → Leads line before s → run step (Some s) (x ∷ []) ≡ None → Begins (IsABody line) (line_feeds before ++ x ∷ []) → ⊥
stuck_by line before s x e lost begins =
    let goes = run_append step (line_feeds before) (x ∷ []) (Some (start line)) ∙ ap (λ (o : Option State). run step o (x ∷ [])) e ∙ lost in
    no_body line (line_feeds before ++ x ∷ []) begins.0 begins.1.0 goes begins.1.1

-- nothing goes on with what a byte is made
stuck_with : (line : ℕ) (before : List ℕ) (s : State) (rest : List ℕ) (b : ℕ) (m n : Bool) → Leads line before s → run step (Some s) (cond m (10 ∷ []) (cond n [] (b ∷ []))) ≡ None
    → IsStuck (IsABody line) (line_feeds before) (cond m (10 ∷ []) (cond n [] (b ∷ [])) ++ rest)
stuck_with line before s rest b true n e lost = stuck_by line before s 10 e lost
stuck_with line before s rest b false true e lost = absurd (cc)
stuck_with line before s rest b false false e lost = stuck_by line before s b e lost

stuck_at : (line : ℕ) (before : List ℕ) (s : State) (b : ℕ) (after : List ℕ) → Leads line before s → run step (Some s) (line_feeds_after (return_after false before) (b ∷ [])) ≡ None → IsStopOf line before (b ∷ after)
stuck_at line before s b after e none =
    let r = return_after false before in
    record {
      begun = live line (line_feeds before) s e;
      stuck = subst (λ (l : List ℕ). IsStuck (IsABody line) (line_feeds before) l) (sym (fed_is r b after))
          (stuck_with line before s (line_feeds_after (b == 13) after) b (b == 13) (r && b == 10) e (ap (run step (Some s)) (sym (fed_is r b [] ∙ append-nil (fed r b))) ∙ none));
    }

pub stops_here : (line : ℕ) (text rest : List ℕ) (i : ℕ) (s u : DocumentState) → rest ≡ drop i text → 0 < length rest → Leads line (take i text) (state s) → s.is_after_return ≡ return_after false (take i text)
    → Reads s rest None u → IsStopOf line (take i text) (drop i text)
stops_here line text rest i s u same some e flag none =
    subst (λ (after : List ℕ). IsStopOf line (take i text) after) (sym (not_empty_is rest some) ∙ same)
    (stuck_at line (take i text) (state s) (get_or rest 0 0) (drop 1 rest) e (ap (λ (f : Bool). run step (Some (state s)) (line_feeds_after f (get_or rest 0 0 ∷ []))) (sym flag) ∙ none))

pub whole_body : (line : ℕ) (text : List ℕ) (i : ℕ) (s : State) → length text ≤ i → Leads line (take i text) s → is_complete s ≡ true → IsBody line (line_feeds text) s.tokens
whole_body line text i s l e complete = body_read line (line_feeds text) s (ap (λ (t : List ℕ). run step (Some (start line)) (line_feeds t)) (sym (take_all i text l)) ∙ e) complete

pub stops_past : (line : ℕ) (text : List ℕ) (i : ℕ) (s : State) → length text ≤ i → Leads line (take i text) s → is_complete s ≡ false → IsStopOf line (take (length text) text) (drop (length text) text)
stops_past line text i s l e open_ =
    let same : take i text ≡ take (length text) text = take_all i text l ∙ sym (take_all (length text) text (omega arith)) in
    subst (λ (after : List ℕ). IsStopOf line (take (length text) text) after) (sym (drop_all (length text) text (omega arith)))
    (let here = ap (λ (t : List ℕ). run step (Some (start line)) (line_feeds t)) (sym same) ∙ e in
    record { begun = live line (line_feeds (take (length text) text)) s here; stuck = λ is. open_body line (line_feeds (take (length text) text)) s is.0 here open_ is.1 })

-- ---- one run

pub read_return : (s t : DocumentState) (bytes : List ℕ) (taken : Option ℕ) → 0 < length bytes → get_or bytes 0 0 ≡ 13 → Takes step (step (state s) 10) (10 ∷ []) taken (state t) → t.is_after_return ≡ true
    → Reads s bytes taken t
read_return s t bytes None some is takes flag = ap (λ (b : ℕ). run step (Some (state s)) (line_feeds_after s.is_after_return (b ∷ []))) is ∙ takes
read_return s t [] (Some n) some is takes flag = absurd (omega arith)
read_return s t (b ∷ bs) (Some zero) some is takes flag = absurd (let h : 0 < 0 = takes.some in omega (arith, h))
read_return s t (b ∷ bs) (Some (suc zero)) some is takes flag = record {
  some = omega arith;
  within = omega arith;
  leads = ap (λ (x : ℕ). run step (Some (state s)) (line_feeds_after s.is_after_return (x ∷ []))) is ∙ takes.leads;
  after = flag ∙ sym (ap (λ (x : ℕ). return_after s.is_after_return (x ∷ [])) is);
}
read_return s t (b ∷ bs) (Some (suc (suc n))) some is takes flag = absurd (let h : suc (suc n) ≤ 1 = takes.within in omega (arith, h))

pub read_skipped : (s t : DocumentState) (bytes : List ℕ) → 0 < length bytes → get_or bytes 0 0 ≡ 10 → s.is_after_return ≡ true → state t ≡ state s → t.is_after_return ≡ false → Reads s bytes (Some 1) t
read_skipped s t [] some is after same flag = absurd (omega arith)
read_skipped s t (b ∷ bs) some is after same flag = record {
  some = omega arith;
  within = omega arith;
  leads = ap (λ (x : ℕ). run step (Some (state s)) (line_feeds_after s.is_after_return (x ∷ []))) is
      ∙ ap (λ (o : Bool). run step (Some (state s)) (line_feeds_after o (10 ∷ []))) after ∙ ap (λ (x : State). Some x) (sym same);
  after = flag ∙ sym (ap (λ (x : ℕ). return_after s.is_after_return (x ∷ [])) is);
}

plain_feeds : (bs : List ℕ) → list_all is_in_line bs ≡ true → line_feeds_after false bs ≡ bs
plain_feeds [] are = refl
plain_feeds (b ∷ bs) are =
    let both = and_both (is_in_line b) (list_all is_in_line bs) are in
    let other = and_both (not (b == 10)) (not (b == 13)) both.0 in
    no (b == 13) (10 ∷ line_feeds_after true bs) (b ∷ line_feeds_after false bs) (not_false (b == 13) other.1) ∙ ap (λ (l : List ℕ). b ∷ l) (plain_feeds bs both.1)

plain_return : (bs : List ℕ) → list_all is_in_line bs ≡ true → return_after false bs ≡ false
plain_return [] are = refl
plain_return (b ∷ bs) are =
    let both = and_both (is_in_line b) (list_all is_in_line bs) are in
    let other = and_both (not (b == 10)) (not (b == 13)) both.0 in
    ap (λ (o : Bool). return_after o bs) (not_false (b == 13) other.1) ∙ plain_return bs both.1

fed_plain : (is_after : Bool) (b : ℕ) (bs : List ℕ) → (b == 13) ≡ false → (is_after && b == 10) ≡ false → list_all is_in_line bs ≡ true → line_feeds_after is_after (b ∷ bs) ≡ b ∷ bs
fed_plain is_after b bs other keeps are =
    let skipped = cond (is_after && b == 10) (line_feeds_after false bs) (b ∷ line_feeds_after false bs) in
    no (b == 13) (10 ∷ line_feeds_after true bs) skipped other ∙ no (is_after && b == 10) (line_feeds_after false bs) (b ∷ line_feeds_after false bs) keeps ∙ ap (λ (l : List ℕ). b ∷ l) (plain_feeds bs are)

pub not_byte : (b k : ℕ) → (b ≡ k → ⊥) → (b == k) ≡ false
not_byte b k other = grind (arith, nat_tests, other)

pub no_skip : (is_after o : Bool) → o ≡ false → (is_after && o) ≡ false
no_skip true o e = e
no_skip false o e = refl

pub read_other : (s t : DocumentState) (bytes : List ℕ) (taken : Option ℕ) → (get_or bytes 0 0 == 13) ≡ false → (s.is_after_return && get_or bytes 0 0 == 10) ≡ false
    → Takes step (step (state s) (get_or bytes 0 0)) bytes taken (state t) → t.is_after_return ≡ false → Reads s bytes taken t
read_other s t bytes None other keeps takes flag = ap (run step (Some (state s))) (fed_plain s.is_after_return (get_or bytes 0 0) [] other keeps refl) ∙ takes
read_other s t bytes (Some n) other keeps takes flag =
    let b = get_or bytes 0 0 in
    let bs = drop 1 (take n bytes) in
    let is = first_of bytes n takes.some takes.within in
    record {
      some = takes.some;
      within = takes.within;
      leads = ap (λ (x : List ℕ). run step (Some (state s)) (line_feeds_after s.is_after_return x)) is ∙ ap (run step (Some (state s))) (fed_plain s.is_after_return b bs other keeps takes.line) ∙ takes.leads;
      after = flag ∙ sym (ap (return_after s.is_after_return) is ∙ ap (λ (o : Bool). return_after o bs) other ∙ plain_return bs takes.line);
    }
