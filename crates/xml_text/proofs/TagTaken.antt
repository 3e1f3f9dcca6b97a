-- Runs of a tag.
use Rattle.std.proofs.Common.{◌≡◌, ℕ, ◌<◌, ◌≤◌, Bool, true, false, ◌==◌, ◌&&◌, not, Some, None, List, [], ◌∷◌, ◌++◌, length, take, drop, get_or, cond, ◌+◌, refl, sym, ap, ◌∙◌, append_assoc, append-nil, subst, Option, arith}
use Rattle.std.specs.List.{list_all}
use Rattle.std.proofs.Math.Seq.{take-append_seam, drop-append_seam}
use Rattle.std.proofs.lemmas.Bool.Decides.{nat_tests}
use Rattle.std.proofs.lemmas.List.{length-append, length-drop, take-append-drop, get_or-drop}
use Rattle.idn_text.specs.Stops.{run}
use Rattle.xml_text.specs.declared.quote.Quote.{Quote}
use Rattle.xml_text.specs.declared.quote.Quote.TheVariants as quote
use Rattle.xml_text.specs.declared.run.Run.{Run}
use Rattle.xml_text.specs.declared.run.Run.TheVariants as runs
use Rattle.xml_text.specs.declared.attribute.TagKind.TheVariants.{Start, Empty}
use Rattle.xml_text.specs.declared.state.Phase.{Phase}
use Rattle.xml_text.specs.declared.state.Phase.TheVariants as phase
use Rattle.xml_text.specs.Attributes.{is_named}
use Rattle.xml_text.specs.Names.{is_blank, is_name_byte, is_name_start}
use Rattle.xml_text.specs.Tags.{quote_byte, spaced}
use Rattle.xml_text.specs.inner.Runs.{IsTaken, GoesOn, goes_on, is_in_line, IsPlainValue}
use Rattle.xml_text.specs.inner.TagSteps.{State, step, step_by, with_phase, named, after_step, end_step, equals_step, with_attribute, with_attribute_byte, with_attribute_of, with_value, closed, moved, is_between, Goes}
use Rattle.xml_text.proofs.ListLemmas.{and_both}
use Rattle.xml_text.proofs.Runs.{first, yes, no}
use Rattle.xml_text.proofs.TagRuns.{not_false}
use Rattle.xml_text.proofs.TakenLemmas.{first_of, run_taken, one_taken, taken_on, on_further, one_more, run_goes_on, not_empty_is}

-- ---- on one line

pub in_line : (r : Run) (b : ℕ) → goes_on r b ≡ true → is_in_line b ≡ true
in_line runs.Name b is = grind (arith, nat_tests)
in_line (runs.Value q) b is = (and_both (not (b == quote_byte q) && not (b == 60) && not (b == 38) && not (b == 9)) (is_in_line b) is).1
in_line runs.Text b is = (and_both (not (b == 60) && not (b == 38) && not (b == 62) && not (b == 93)) (is_in_line b) is).1
in_line runs.Section b is = (and_both (not (b == 93)) (is_in_line b) is).1
in_line runs.Comment b is = (and_both (not (b == 45)) (is_in_line b) is).1
in_line runs.Instruction b is = (and_both (not (b == 63)) (is_in_line b) is).1

pub all_in_line : (r : Run) (bs : List ℕ) → list_all (goes_on r) bs ≡ true → list_all is_in_line bs ≡ true
all_in_line r [] are = refl
all_in_line r (b ∷ bs) are =
    let both = and_both (goes_on r b) (list_all (goes_on r) bs) are in
    ap (λ (x : Bool). x && list_all is_in_line bs) (in_line r b both.0) ∙ all_in_line r bs both.1

-- ---- names

named_run : (s : State) (bs : List ℕ) → list_all (goes_on runs.Name) bs ≡ true → run step (Some (record s { phase = phase.Name })) bs ≡ Some (record s { name = s.name ++ bs; phase = phase.Name })
named_run s [] are = ap (λ (n : List ℕ). Some (record s { name = n; phase = phase.Name })) (sym (append-nil s.name))
named_run s (b ∷ bs) are =
    let both = and_both (is_name_byte b) (list_all (goes_on runs.Name) bs) are in
    let u = record s { phase = phase.Name } in
    first step u (named s b) (record s { name = s.name ++ b ∷ bs; phase = phase.Name }) b bs (yes (is_name_byte b) (Some (named u b)) (after_step u b) both.0)
    (named_run (record s { name = s.name ++ b ∷ [] }) bs both.1 ∙ ap (λ (n : List ℕ). Some (record s { name = n; phase = phase.Name })) (append_assoc s.name (b ∷ []) bs))

pub name_goes : (s : State) (bytes : List ℕ) (n : ℕ) (name : List ℕ) → 0 < n → n ≤ length bytes → list_all (goes_on runs.Name) (drop 1 (take n bytes)) ≡ true → name ≡ s.name ++ take n bytes
    → Goes (λ s b. Some (named s b)) s bytes (Some n) (record s { name = name; phase = phase.Name })
name_goes s bytes n name some within are is =
    let b = get_or bytes 0 0 in
    let bs = drop 1 (take n bytes) in
    run_taken step (Some (named s b)) bytes n (named s b) (record s { name = name; phase = phase.Name }) some within (all_in_line runs.Name bs are) refl
    (named_run (record s { name = s.name ++ b ∷ [] }) bs are
    ∙ ap (λ (x : List ℕ). Some (record s { name = x; phase = phase.Name })) (append_assoc s.name (b ∷ []) bs ∙ ap (λ (x : List ℕ). s.name ++ x) (sym (first_of bytes n some within)) ∙ sym is))

-- ---- names of attributes

attribute_run : (s : State) (bs : List ℕ) → s.phase ≡ phase.Attribute → list_all (goes_on runs.Name) bs ≡ true → run step (Some s) bs ≡ Some (record s { attribute = s.attribute ++ bs })
attribute_run s [] here are = ap (λ (n : List ℕ). Some (record s { attribute = n })) (sym (append-nil s.attribute))
attribute_run s (b ∷ bs) here are =
    let both = and_both (is_name_byte b) (list_all (goes_on runs.Name) bs) are in
    first step s (with_attribute_byte s b) (record s { attribute = s.attribute ++ b ∷ bs }) b bs
    (ap (λ p. step_by p s b) here ∙ yes (is_name_byte b) (Some (with_attribute_byte s b)) (cond (is_named s.attributes s.attribute) None (equals_step s b)) both.0)
    (attribute_run (with_attribute_byte s b) bs here both.1 ∙ ap (λ (n : List ℕ). Some (record s { attribute = n })) (append_assoc s.attribute (b ∷ []) bs))

pub attribute_goes : (s : State) (bytes : List ℕ) (n : ℕ) (name : List ℕ) → s.phase ≡ phase.Attribute → 0 < n → n ≤ length bytes → list_all (goes_on runs.Name) (drop 1 (take n bytes)) ≡ true → name ≡ s.attribute ++ take n bytes
    → Goes (λ s b. Some (with_attribute_byte s b)) s bytes (Some n) (record s { attribute = name })
attribute_goes s bytes n name here some within are is =
    let b = get_or bytes 0 0 in
    let bs = drop 1 (take n bytes) in
    run_taken step (Some (with_attribute_byte s b)) bytes n (with_attribute_byte s b) (record s { attribute = name }) some within (all_in_line runs.Name bs are) refl
    (attribute_run (with_attribute_byte s b) bs here are
    ∙ ap (λ (x : List ℕ). Some (record s { attribute = x })) (append_assoc s.attribute (b ∷ []) bs ∙ ap (λ (x : List ℕ). s.attribute ++ x) (sym (first_of bytes n some within)) ∙ sym is))

-- ---- values

spaced_is : (b : ℕ) → (b == 9) ≡ false → (b == 10) ≡ false → (b == 13) ≡ false → spaced b ≡ b
spaced_is b tab feed return_ = grind (arith, nat_tests)

-- what a byte of a value is not
record Itself (q : Quote) (b : ℕ) : Type 0 where
  quote : (b == quote_byte q) ≡ false
  open_ : (b == 60) ≡ false
  reference : (b == 38) ≡ false
  tab : (b == 9) ≡ false
  feed : (b == 10) ≡ false
  return_ : (b == 13) ≡ false

itself : (q : Quote) (b : ℕ) → goes_on (runs.Value q) b ≡ true → Itself q b
itself q b is =
    let four = and_both (not (b == quote_byte q) && not (b == 60) && not (b == 38) && not (b == 9)) (is_in_line b) is in
    let three = and_both (not (b == quote_byte q) && not (b == 60) && not (b == 38)) (not (b == 9)) four.0 in
    let two = and_both (not (b == quote_byte q) && not (b == 60)) (not (b == 38)) three.0 in
    let one = and_both (not (b == quote_byte q)) (not (b == 60)) two.0 in
    let five = and_both (not (b == 10)) (not (b == 13)) four.1 in
    record {
      quote = not_false (b == quote_byte q) one.0;
      open_ = not_false (b == 60) one.1;
      reference = not_false (b == 38) two.1;
      tab = not_false (b == 9) three.1;
      feed = not_false (b == 10) five.0;
      return_ = not_false (b == 13) five.1;
    }

value_byte : (q : Quote) (s : State) (b : ℕ) → s.phase ≡ phase.Value q → Itself q b → step s b ≡ Some (with_value s (b ∷ []))
value_byte q s b here is =
    let spoken = cond (b == 60) None (cond (b == 38) (moved (record s { reference = [] }) (phase.Reference q)) (Some (with_value s (spaced b ∷ [])))) in
    ap (λ p. step_by p s b) here ∙ no (b == quote_byte q) (Some (closed s)) spoken is.quote
    ∙ no (b == 60) None (cond (b == 38) (moved (record s { reference = [] }) (phase.Reference q)) (Some (with_value s (spaced b ∷ [])))) is.open_
    ∙ no (b == 38) (moved (record s { reference = [] }) (phase.Reference q)) (Some (with_value s (spaced b ∷ []))) is.reference
    ∙ ap (λ (x : ℕ). Some (with_value s (x ∷ []))) (spaced_is b is.tab is.feed is.return_)

value_run : (q : Quote) (s : State) (bs : List ℕ) → s.phase ≡ phase.Value q → list_all (goes_on (runs.Value q)) bs ≡ true → run step (Some s) bs ≡ Some (with_value s bs)
value_run q s [] here are = ap (λ (n : List ℕ). Some (record s { value = n })) (sym (append-nil s.value))
value_run q s (b ∷ bs) here are =
    let both = and_both (goes_on (runs.Value q) b) (list_all (goes_on (runs.Value q)) bs) are in
    first step s (with_value s (b ∷ [])) (with_value s (b ∷ bs)) b bs (value_byte q s b here (itself q b both.0))
    (value_run q (with_value s (b ∷ [])) bs here both.1 ∙ ap (λ (n : List ℕ). Some (record s { value = n })) (append_assoc s.value (b ∷ []) bs))

pub value_goes : (q : Quote) (s : State) (bytes : List ℕ) (n : ℕ) (value : List ℕ) → s.phase ≡ phase.Value q → 0 < n → n ≤ length bytes → list_all (goes_on (runs.Value q)) (drop 1 (take n bytes)) ≡ true → value ≡ s.value ++ take n bytes
    → Goes (λ s b. Some (with_value s (b ∷ []))) s bytes (Some n) (record s { value = value })
value_goes q s bytes n value here some within are is =
    let b = get_or bytes 0 0 in
    let bs = drop 1 (take n bytes) in
    run_taken step (Some (with_value s (b ∷ []))) bytes n (with_value s (b ∷ [])) (record s { value = value }) some within (all_in_line (runs.Value q) bs are) refl
    (value_run q (with_value s (b ∷ [])) bs here are
    ∙ ap (λ (x : List ℕ). Some (record s { value = x })) (append_assoc s.value (b ∷ []) bs ∙ ap (λ (x : List ℕ). s.value ++ x) (sym (first_of bytes n some within)) ∙ sym is))

-- ---- what follows a run

quote_in_line : (q : Quote) → is_in_line (quote_byte q) ≡ true
quote_in_line quote.Double = refl
quote_in_line quote.Single = refl

pub quote_goes : (q : Quote) (s : State) (bytes : List ℕ) → s.phase ≡ phase.Value q → 0 < length bytes → get_or bytes 0 0 ≡ quote_byte q → GoesOn step s bytes 1 (closed s)
quote_goes q s bytes here some is =
    let b = get_or bytes 0 0 in
    let same : (b == quote_byte q) ≡ true = grind (arith, nat_tests) in
    one_more step s (closed s) bytes some (ap is_in_line is ∙ quote_in_line q)
    (ap (λ p. step_by p s b) here
    ∙ yes (b == quote_byte q) (Some (closed s)) (cond (b == 60) None (cond (b == 38) (moved (record s { reference = [] }) (phase.Reference q)) (Some (with_value s (spaced b ∷ []))))) same)

pub begun_value : (q : Quote) (s : State) (bytes : List ℕ) → s.phase ≡ phase.Attribute → is_named s.attributes s.attribute ≡ false → 2 ≤ length bytes → get_or bytes 0 0 ≡ 61
    → get_or bytes 1 0 ≡ quote_byte q → GoesOn step s bytes 2 (with_phase s (phase.Value q))
begun_value q s [] here new some first_ second = absurd (omega arith)
begun_value q s (a ∷ []) here new some first_ second = absurd (omega arith)
begun_value q s (a ∷ b ∷ bytes) here new some first_ second =
    let two : a ∷ b ∷ [] ≡ 61 ∷ quote_byte q ∷ [] = ap (λ (x : ℕ). x ∷ b ∷ []) first_ ∙ ap (λ (x : ℕ). 61 ∷ x ∷ []) second in
    record {
      within = some;
      line = ap (list_all is_in_line) two ∙ ap (λ (x : Bool). x && true) (quote_in_line q);
      leads = ap (run step (Some s)) two
          ∙ first step s (with_phase s phase.AfterEquals) (with_phase s (phase.Value q)) 61 (quote_byte q ∷ [])
          (ap (λ p. step_by p s 61) here ∙ no (is_named s.attributes s.attribute) None (equals_step s 61) new) (by q);
    }
  where
    by : (q : Quote) → run step (Some (with_phase s phase.AfterEquals)) (quote_byte q ∷ []) ≡ Some (with_phase s (phase.Value q))
    by quote.Double = refl
    by quote.Single = refl

values_go : (q : Quote) (s : State) (value rest : List ℕ) → s.phase ≡ phase.Value q → list_all (goes_on (runs.Value q)) value ≡ true → GoesOn step s (value ++ rest) (length value) (with_value s value)
values_go q s value rest here are =
    let same : take (length value) (value ++ rest) ≡ value = take-append_seam value rest in
    record {
      within = omega (arith, length-append value rest);
      line = ap (list_all is_in_line) same ∙ all_in_line (runs.Value q) value are;
      leads = ap (run step (Some s)) same ∙ value_run q s value here are;
    }

-- ---- a whole attribute

whole_value : (q : Quote) (s : State) (value rest : List ℕ) → s.phase ≡ phase.Attribute → is_named s.attributes s.attribute ≡ false → list_all (goes_on (runs.Value q)) value ≡ true
    → GoesOn step s (61 ∷ quote_byte q ∷ value ++ quote_byte q ∷ rest) (2 + (length value + 1)) (closed (with_value s value))
whole_value q s value rest here new are =
    let u = with_phase s (phase.Value q) in
    let v = with_value u value in
    let more = value ++ quote_byte q ∷ rest in
    let ends = quote_byte q ∷ rest in
    let ended : GoesOn step v ends 1 (closed v) = quote_goes q v ends refl (omega arith) refl in
    let valued = on_further step u v (closed v) more ends (length value) 1 (sym (drop-append_seam value ends)) (values_go q u value ends refl are) ended in
    on_further step s u (closed v) (61 ∷ quote_byte q ∷ more) more 2 (length value + 1) refl (begun_value q s (61 ∷ quote_byte q ∷ more) here new (omega arith) refl refl) valued

-- the name and the value
pub whole_goes : (s : State) (bytes more : List ℕ) (n : ℕ) (name value : List ℕ) → name ≡ take n bytes → more ≡ drop n bytes → 0 < n → n ≤ length bytes
    → list_all (goes_on runs.Name) (drop 1 (take n bytes)) ≡ true → is_named s.attributes name ≡ false → IsPlainValue more value
    → Goes (λ s b. Some (with_attribute s b)) s bytes (Some (n + (length value + 3))) (with_attribute_of s name value)
whole_goes s bytes more n name value is same some within are new plain =
    let u = record s { attribute = []; value = []; phase = phase.Attribute } in
    let v = record u { attribute = name } in
    let first = Some (with_attribute s (get_or bytes 0 0)) in
    let read : IsTaken step first bytes n v = attribute_goes u bytes n name refl some within are is in
    let whole : GoesOn step v more (2 + (length value + 1)) (closed (with_value v value)) = subst (λ (x : List ℕ). GoesOn step v x (2 + (length value + 1)) (closed (with_value v value))) (sym plain.spelled)
    (whole_value plain.quote v value plain.rest refl new plain.plain) in
    let count : 2 + (length value + 1) ≡ length value + 3 = omega arith in
    subst (λ (m : ℕ). IsTaken step first bytes (n + m) (with_attribute_of s name value)) count (taken_on step first bytes more n (2 + (length value + 1)) v (with_attribute_of s name value) same read whole)

-- a text that begins with '=' and a value
pub plain_is : (q : Quote) (text rest value end : List ℕ) (n : ℕ) → 2 ≤ length text → get_or text 0 0 ≡ 61 → get_or text 1 0 ≡ quote_byte q → rest ≡ drop 2 text → value ≡ take n rest → end ≡ drop n rest
    → 0 < length end → get_or end 0 0 ≡ quote_byte q → list_all (goes_on (runs.Value q)) value ≡ true → IsPlainValue text value
plain_is q [] rest value end n two equals opens same is left some closes are = absurd (omega arith)
plain_is q (a ∷ []) rest value end n two equals opens same is left some closes are = absurd (omega arith)
plain_is q (a ∷ b ∷ bs) rest value end n two equals opens same is left some closes are =
    let closed_by : end ≡ quote_byte q ∷ drop 1 end = not_empty_is end some ∙ ap (λ (x : ℕ). x ∷ drop 1 end) closes in
    let both : bs ≡ value ++ quote_byte q ∷ drop 1 end =
    sym same ∙ sym (take-append-drop n rest) ∙ ap (λ (x : List ℕ). x ++ drop n rest) (sym is) ∙ ap (λ (x : List ℕ). value ++ x) (sym left ∙ closed_by) in
    record {
      quote = q;
      rest = drop 1 end;
      spelled = ap (λ (x : ℕ). x ∷ b ∷ bs) equals ∙ ap (λ (x : ℕ). 61 ∷ x ∷ bs) opens ∙ ap (λ (x : List ℕ). 61 ∷ quote_byte q ∷ x) both;
      plain = are;
    }

pub begun_attribute : (s : State) (bytes : List ℕ) (n : ℕ) (t : State) → s.phase ≡ phase.Blank → is_name_start (get_or bytes 0 0) ≡ true
    → Goes (λ s b. Some (with_attribute s b)) s bytes (Some n) t → GoesOn step s bytes n t
begun_attribute s bytes n t here is taken =
    let b = get_or bytes 0 0 in
    let line : is_in_line b ≡ true = grind (arith, nat_tests) in
    let starts : step s b ≡ Some (with_attribute s b) = ap (λ p. step_by p s b) here ∙ yes (is_name_start b) (Some (with_attribute s b)) (after_step s b) is in
    run_goes_on step s t bytes n line (subst (λ (o : Option State). IsTaken step o bytes n t) (sym starts) taken)

pub blank_goes : (s : State) (bytes rest : List ℕ) (m : ℕ) (t : State) → is_blank (get_or bytes 0 0) ≡ true → 0 < length bytes → rest ≡ drop 1 bytes
    → GoesOn step (with_phase s phase.Blank) rest m t → Goes after_step s bytes (Some (1 + m)) t
blank_goes s bytes rest m t is some same more =
    let b = get_or bytes 0 0 in
    taken_on step (after_step s b) bytes rest 1 m (with_phase s phase.Blank) t same
    (one_taken step (after_step s b) bytes true (with_phase s phase.Blank) some (yes (is_blank b) (moved s phase.Blank) (end_step s b) is)) more

-- ---- what follows a name or a value

between_step : (s : State) (b : ℕ) → is_between s.phase ≡ true → is_name_byte b ≡ false → step s b ≡ after_step s b
between_step s b between other = by s.phase refl between
  where
    by : (p : Phase) → s.phase ≡ p → is_between p ≡ true → step s b ≡ after_step s b
    by phase.Name here is = ap (λ p. step_by p s b) here ∙ no (is_name_byte b) (Some (named s b)) (after_step s b) other
    by phase.After here is = ap (λ p. step_by p s b) here
    by phase.Open here is = absurd (cc)
    by phase.Begin here is = absurd (cc)
    by phase.Blank here is = absurd (cc)
    by phase.Attribute here is = absurd (cc)
    by phase.BeforeEquals here is = absurd (cc)
    by phase.AfterEquals here is = absurd (cc)
    by (phase.Value q) here is = absurd (cc)
    by (phase.Reference q) here is = absurd (cc)
    by phase.Slash here is = absurd (cc)
    by (phase.Ended kind) here is = absurd (cc)

between_blank : (s : State) (b : ℕ) → is_between s.phase ≡ true → is_blank b ≡ true → step s b ≡ Some (with_phase s phase.Blank)
between_blank s b between is =
    let other : is_name_byte b ≡ false = grind (arith, nat_tests) in
    between_step s b between other ∙ yes (is_blank b) (moved s phase.Blank) (end_step s b) is

pub ends_start : (s : State) (bytes : List ℕ) → is_between s.phase ≡ true → 0 < length bytes → get_or bytes 0 0 ≡ 62 → GoesOn step s bytes 1 (with_phase s (phase.Ended Start))
ends_start s bytes between some is =
    one_more step s (with_phase s (phase.Ended Start)) bytes some (ap is_in_line is) (ap (step s) is ∙ between_step s 62 between refl)

pub ends_empty : (s : State) (bytes : List ℕ) → is_between s.phase ≡ true → 2 ≤ length bytes → get_or bytes 0 0 ≡ 47 → get_or bytes 1 0 ≡ 62 → GoesOn step s bytes 2 (with_phase s (phase.Ended Empty))
ends_empty s [] between some slash is = absurd (omega arith)
ends_empty s (a ∷ []) between some slash is = absurd (omega arith)
ends_empty s (a ∷ b ∷ bytes) between some slash is =
    let u = with_phase s phase.Slash in
    let first_ : GoesOn step s (a ∷ b ∷ bytes) 1 u = one_more step s u (a ∷ b ∷ bytes) (omega arith) (ap is_in_line slash) (ap (step s) slash ∙ between_step s 47 between refl) in
    on_further step s u (with_phase s (phase.Ended Empty)) (a ∷ b ∷ bytes) (b ∷ bytes) 1 1 refl first_
    (one_more step u (with_phase s (phase.Ended Empty)) (b ∷ bytes) (omega arith) (ap is_in_line is) (ap (step u) is))

-- a blank, and what follows it
pub blank_on : (s t u : State) (rest more : List ℕ) (i n : ℕ) → i < length rest → is_between t.phase ≡ true → (is_blank (get_or rest i 0) && is_in_line (get_or rest i 0)) ≡ true → more ≡ drop (i + 1) rest
    → GoesOn step s rest i t → GoesOn step (with_phase t phase.Blank) more n u → GoesOn step s rest (i + 1 + n) u
blank_on s t u rest more i n some between space same is on =
    let both = and_both (is_blank (get_or rest i 0)) (is_in_line (get_or rest i 0)) space in
    let left = drop i rest in
    let none : i + 0 ≡ i = omega arith in
    let here : get_or left 0 0 ≡ get_or rest i 0 = get_or-drop i rest 0 0 ∙ ap (λ (k : ℕ). get_or rest k 0) none in
    let blank : GoesOn step t left 1 (with_phase t phase.Blank) =
    one_more step t (with_phase t phase.Blank) left (omega (arith, length-drop i rest)) (ap is_in_line here ∙ both.1) (ap (step t) here ∙ between_blank t (get_or rest i 0) between both.0) in
    on_further step s (with_phase t phase.Blank) u rest more (i + 1) n same (on_further step s t (with_phase t phase.Blank) rest left i 1 refl is blank) on
