-- Each tag is read, from its first byte to its last.
use Rattle.std.proofs.Common.{◌≡◌, ◌≢◌, ℕ, Bool, true, false, ◌==◌, ◌&&◌, ◌||◌, nat_le, not, Option, Some, None, List, [], ◌∷◌, ◌++◌, map, cond, refl, sym, ap, ◌∙◌, subst, append_assoc, append-nil, is_some}
use Rattle.std.specs.List.{flat_map, list_all}
use Rattle.std.proofs.lemmas.Bool.Decides.{nat_tests}
use Rattle.std.proofs.Common.{arith}
use Rattle.idn_text.specs.Stops.{run}
use Rattle.xml_text.specs.declared.attribute.TagKind.{TagKind}
use Rattle.xml_text.specs.declared.attribute.TagKind.TheVariants.{Start, Empty}
use Rattle.xml_text.specs.declared.quote.Quote.{Quote}
use Rattle.xml_text.specs.declared.quote.Quote.TheVariants as quote
use Rattle.xml_text.specs.declared.state.Phase.{Phase}
use Rattle.xml_text.specs.declared.state.Phase.TheVariants as phase
use Rattle.xml_text.specs.Attributes.{Attribute, is_named}
use Rattle.xml_text.specs.Names.{is_blank, AreBlanks, is_name_start, is_name_byte, is_name, is_reference_byte}
use Rattle.xml_text.specs.References.{referenced}
use Rattle.xml_text.specs.Tags
use Rattle.xml_text.specs.Tags.{Tag, Part, spaced, utf8_of_reference, part_text, part_value, is_part, quote_byte, Written, written_text, IsWritten, attribute_of, HaveNewNames, end_text, tag_text, AreWritten, IsTag}
use Rattle.xml_text.specs.inner.TagSteps.{State, start, with_phase, moved, named, with_attribute, with_attribute_byte, with_value, closed, resolved, with_reference_byte, end_step, after_step, equals_step, step, tag_of}
use Rattle.xml_text.proofs.ListLemmas.{and_both}
use Rattle.xml_text.proofs.Runs
use Rattle.xml_text.proofs.Runs.{yes, no}

-- ---- runs

abbrev at : Phase → List ℕ → List Attribute → List ℕ → List ℕ → List ℕ → State
at p n given a v r = record { name = n; attributes = given; attribute = a; value = v; reference = r; phase = p }

abbrev Leads : State → List ℕ → State → Type 0
Leads s bytes u = Runs.Leads step s bytes u

then : (s t u : State) (xs ys : List ℕ) → Leads s xs t → Leads t ys u → Leads s (xs ++ ys) u
then s t u xs ys e f = Runs.then step s t u xs ys e f

first : (s t u : State) (b : ℕ) (bs : List ℕ) → step s b ≡ Some t → Leads t bs u → Leads s (b ∷ bs) u
first s t u b bs e f = Runs.first step s t u b bs e f

-- ---- tests

blank_starts_no_name : (b : ℕ) → is_blank b ≡ true → is_name_start b ≡ false
blank_starts_no_name b e = grind (arith, nat_tests)

pub blank_in_no_name : (b : ℕ) → is_blank b ≡ true → is_name_byte b ≡ false
blank_in_no_name b e = grind (arith, nat_tests)

pub blank_is_none : (b c : ℕ) → is_blank b ≡ true → is_blank c ≡ false → (b == c) ≡ false
blank_is_none b c e f = grind (arith, nat_tests)

pub start_is_name_byte : (b : ℕ) → is_name_start b ≡ true → is_name_byte b ≡ true
start_is_name_byte b e = ap (λ (x : Bool). x || (nat_le 48 b && nat_le b 57) || b == 45 || b == 46) e

pub no_semicolon : (b : ℕ) → is_reference_byte b ≡ true → (b == 59) ≡ false
no_semicolon b e = grind (arith, nat_tests)

-- ---- blanks

stays : (s : State) → ((b : ℕ) → is_blank b ≡ true → step s b ≡ Some s) → (bs : List ℕ) → AreBlanks bs → Leads s bs s
stays s h [] are = refl
stays s h (b ∷ bs) are =
    let both = and_both (is_blank b) (list_all is_blank bs) are in
    first s s s b bs (h b both.0) (stays s h bs both.1)

in_blank : (n : List ℕ) (given : List Attribute) (a v r : List ℕ) (b : ℕ) → is_blank b ≡ true → step (at phase.Blank n given a v r) b ≡ Some (at phase.Blank n given a v r)
in_blank n given a v r b e =
    let s = at phase.Blank n given a v r in
    no (is_name_start b) (Some (with_attribute s b)) (after_step s b) (blank_starts_no_name b e) ∙ yes (is_blank b) (moved s phase.Blank) (end_step s b) e

-- ---- names

run_tag_name : (n : List ℕ) (bs : List ℕ) → list_all is_name_byte bs ≡ true → Leads (at phase.Name n [] [] [] []) bs (at phase.Name (n ++ bs) [] [] [] [])
run_tag_name n [] are = ap (λ (x : List ℕ). Some (at phase.Name x [] [] [] [])) (sym (append-nil n))
run_tag_name n (b ∷ bs) are =
    let both = and_both (is_name_byte b) (list_all is_name_byte bs) are in
    let s = at phase.Name n [] [] [] [] in
    first s (named s b) (at phase.Name (n ++ b ∷ bs) [] [] [] []) b bs (yes (is_name_byte b) (Some (named s b)) (after_step s b) both.0)
    (run_tag_name (n ++ b ∷ []) bs both.1 ∙ ap (λ (x : List ℕ). Some (at phase.Name x [] [] [] [])) (append_assoc n (b ∷ []) bs))

run_attribute_name : (n : List ℕ) (given : List Attribute) (a r bs : List ℕ) → list_all is_name_byte bs ≡ true
    → Leads (at phase.Attribute n given a [] r) bs (at phase.Attribute n given (a ++ bs) [] r)
run_attribute_name n given a r [] are = ap (λ (x : List ℕ). Some (at phase.Attribute n given x [] r)) (sym (append-nil a))
run_attribute_name n given a r (b ∷ bs) are =
    let both = and_both (is_name_byte b) (list_all is_name_byte bs) are in
    let s = at phase.Attribute n given a [] r in
    first s (with_attribute_byte s b) (at phase.Attribute n given (a ++ b ∷ bs) [] r) b bs
    (yes (is_name_byte b) (Some (with_attribute_byte s b)) (cond (is_named given a) None (equals_step s b)) both.0)
    (run_attribute_name n given (a ++ b ∷ []) r bs both.1 ∙ ap (λ (x : List ℕ). Some (at phase.Attribute n given x [] r)) (append_assoc a (b ∷ []) bs))

run_reference : (q : Quote) (n : List ℕ) (given : List Attribute) (a v r bs : List ℕ) → list_all is_reference_byte bs ≡ true
    → Leads (at (phase.Reference q) n given a v r) bs (at (phase.Reference q) n given a v (r ++ bs))
run_reference q n given a v r [] are = ap (λ (x : List ℕ). Some (at (phase.Reference q) n given a v x)) (sym (append-nil r))
run_reference q n given a v r (b ∷ bs) are =
    let both = and_both (is_reference_byte b) (list_all is_reference_byte bs) are in
    let s = at (phase.Reference q) n given a v r in
    let rest = cond (is_reference_byte b) (Some (with_reference_byte s b)) (let o : Option State = None in o) in
    first s (with_reference_byte s b) (at (phase.Reference q) n given a v (r ++ b ∷ bs)) b bs
    (no (b == 59) (resolved q s (referenced r)) rest (no_semicolon b both.0) ∙ yes (is_reference_byte b) (Some (with_reference_byte s b)) None both.0)
    (run_reference q n given a v (r ++ b ∷ []) bs both.1 ∙ ap (λ (x : List ℕ). Some (at (phase.Reference q) n given a v x)) (append_assoc r (b ∷ []) bs))

-- ---- values

resolved_is : (q : Quote) (s : State) (o : Option ℕ) → is_some o ≡ true → resolved q s o ≡ Some (with_phase (with_value s (utf8_of_reference o)) (phase.Value q))
resolved_is q s (Some c) e = refl
resolved_is q s None e = absurd (cc)

no_ampersand : (q : Quote) → (38 == quote_byte q) ≡ false
no_ampersand quote.Double = refl
no_ampersand quote.Single = refl

own_quote : (q : Quote) → (quote_byte q == quote_byte q) ≡ true
own_quote quote.Double = refl
own_quote quote.Single = refl

pub not_false : (b : Bool) → not b ≡ true → b ≡ false
not_false false e = refl
not_false true e = absurd (cc)

abbrev past_quote : Quote → State → ℕ → Option State
past_quote q s b = cond (b == 60) None (cond (b == 38) (moved (record s { reference = [] }) (phase.Reference q)) (Some (with_value s (spaced b ∷ []))))

run_part : (q : Quote) (n : List ℕ) (given : List Attribute) (a v r : List ℕ) (part : Part) → is_part (quote_byte q) part ≡ true
    → (r' : List ℕ) × Leads (at (phase.Value q) n given a v r) (part_text part) (at (phase.Value q) n given a (v ++ part_value part) r')
run_part q n given a v r (Tags.Plain b) is =
    let s = at (phase.Value q) n given a v r in
    let outer = and_both (not (b == quote_byte q) && not (b == 60)) (not (b == 38)) is in
    let inner = and_both (not (b == quote_byte q)) (not (b == 60)) outer.0 in (
      r,
      no (b == quote_byte q) (Some (closed s)) (past_quote q s b) (not_false (b == quote_byte q) inner.0)
          ∙ no (b == 60) None (cond (b == 38) (moved (record s { reference = [] }) (phase.Reference q)) (Some (with_value s (spaced b ∷ [])))) (not_false (b == 60) inner.1)
          ∙ no (b == 38) (moved (record s { reference = [] }) (phase.Reference q)) (Some (with_value s (spaced b ∷ []))) (not_false (b == 38) outer.1),
    )
run_part q n given a v r (Tags.Reference name) is =
    let s = at (phase.Value q) n given a v r in
    let inside = at (phase.Reference q) n given a v [] in
    let last = at (phase.Reference q) n given a v name in
    let end = at (phase.Value q) n given a (v ++ utf8_of_reference (referenced name)) name in
    let both = and_both (list_all is_reference_byte name) (is_some (referenced name)) is in (
      name,
      first s inside end 38 (name ++ 59 ∷ []) (no (38 == quote_byte q) (Some (closed s)) (past_quote q s 38) (no_ampersand q))
          (then inside last end name (59 ∷ []) (run_reference q n given a v [] name both.0) (resolved_is q last (referenced name) both.1)),
    )

run_parts : (q : Quote) (n : List ℕ) (given : List Attribute) (a v r : List ℕ) (parts : List Part) → list_all (is_part (quote_byte q)) parts ≡ true
    → (r' : List ℕ) × Leads (at (phase.Value q) n given a v r) (flat_map part_text parts) (at (phase.Value q) n given a (v ++ flat_map part_value parts) r')
run_parts q n given a v r [] are = (r, ap (λ (x : List ℕ). Some (at (phase.Value q) n given a x r)) (sym (append-nil v)))
run_parts q n given a v r (part ∷ parts) are =
    let both = and_both (is_part (quote_byte q) part) (list_all (is_part (quote_byte q)) parts) are in
    let one = run_part q n given a v r part both.0 in
    let rest = run_parts q n given a (v ++ part_value part) one.0 parts both.1 in (
      rest.0,
      then (at (phase.Value q) n given a v r) (at (phase.Value q) n given a (v ++ part_value part) one.0) (at (phase.Value q) n given a (v ++ (part_value part ++ flat_map part_value parts)) rest.0)
          (part_text part) (flat_map part_text parts) one.1
          (rest.1 ∙ ap (λ (x : List ℕ). Some (at (phase.Value q) n given a x rest.0)) (append_assoc v (part_value part) (flat_map part_value parts))),
    )

-- ---- attributes

-- where blanks, '/' or '>' may follow
record Front (p : Phase) : Type 0 where
  blank : (n : List ℕ) (given : List Attribute) (r : List ℕ) (b : ℕ) → is_blank b ≡ true → step (at p n given [] [] r) b ≡ Some (at phase.Blank n given [] [] r)
  close : (n : List ℕ) (given : List Attribute) (r : List ℕ) → step (at p n given [] [] r) 62 ≡ Some (at (phase.Ended Start) n given [] [] r)
  slash : (n : List ℕ) (given : List Attribute) (r : List ℕ) → step (at p n given [] [] r) 47 ≡ Some (at phase.Slash n given [] [] r)

front_after : Front phase.After
front_after = record {
  blank = λ n given r b e. let s = at phase.After n given [] [] r in yes (is_blank b) (moved s phase.Blank) (end_step s b) e;
  close = λ n given r. refl;
  slash = λ n given r. refl;
}

front_blank : Front phase.Blank
front_blank = record {
  blank = λ n given r b e. in_blank n given [] [] r b e;
  close = λ n given r. refl;
  slash = λ n given r. refl;
}

front_name : Front phase.Name
front_name = record {
  blank = λ n given r b e. let s = at phase.Name n given [] [] r in no (is_name_byte b) (Some (named s b)) (after_step s b) (blank_in_no_name b e) ∙ yes (is_blank b) (moved s phase.Blank) (end_step s b) e;
  close = λ n given r. refl;
  slash = λ n given r. refl;
}

run_blanks : (p : Phase) → Front p → (n : List ℕ) (given : List Attribute) (r bs : List ℕ) → bs ≢ [] → AreBlanks bs → Leads (at p n given [] [] r) bs (at phase.Blank n given [] [] r)
run_blanks p front n given r [] some are = absurd (some refl)
run_blanks p front n given r (b ∷ bs) some are =
    let both = and_both (is_blank b) (list_all is_blank bs) are in
    let s = at phase.Blank n given [] [] r in
    first (at p n given [] [] r) s s b bs (front.blank n given r b both.0) (stays s (in_blank n given [] [] r) bs both.1)

run_name : (n : List ℕ) (given : List Attribute) (r a : List ℕ) → is_name a ≡ true → Leads (at phase.Blank n given [] [] r) a (at phase.Attribute n given a [] r)
run_name n given r [] is = absurd (cc)
run_name n given r (b ∷ bs) is =
    let both = and_both (is_name_start b) (list_all is_name_byte bs) is in
    let s = at phase.Blank n given [] [] r in
    first s (with_attribute s b) (at phase.Attribute n given (b ∷ bs) [] r) b bs (yes (is_name_start b) (Some (with_attribute s b)) (after_step s b) both.0) (run_attribute_name n given (b ∷ []) r bs both.1)

-- the state before '='
record Left (n : List ℕ) (given : List Attribute) (r a left : List ℕ) : Type 0 where
  state : State
  leads : Leads (at phase.Attribute n given a [] r) left state
  equals : step state 61 ≡ Some (at phase.AfterEquals n given a [] r)

before_equals : (n : List ℕ) (given : List Attribute) (r a : List ℕ) (b : ℕ) → is_blank b ≡ true → equals_step (at phase.BeforeEquals n given a [] r) b ≡ Some (at phase.BeforeEquals n given a [] r)
before_equals n given r a b e =
    let s = at phase.BeforeEquals n given a [] r in
    no (b == 61) (moved s phase.AfterEquals) (cond (is_blank b) (moved s phase.BeforeEquals) None) (blank_is_none b 61 e refl) ∙ yes (is_blank b) (moved s phase.BeforeEquals) None e

run_left : (n : List ℕ) (given : List Attribute) (r a left : List ℕ) → is_named given a ≡ false → AreBlanks left → Left n given r a left
run_left n given r a [] new are = record {
  state = at phase.Attribute n given a [] r;
  leads = refl;
  equals = no (is_named given a) None (equals_step (at phase.Attribute n given a [] r) 61) new;
}
run_left n given r a (b ∷ bs) new are =
    let both = and_both (is_blank b) (list_all is_blank bs) are in
    let s = at phase.Attribute n given a [] r in
    let t = at phase.BeforeEquals n given a [] r in
    record {
      state = t;
      leads =
          first s t t b bs
          (no (is_name_byte b) (Some (with_attribute_byte s b)) (cond (is_named given a) None (equals_step s b)) (blank_in_no_name b both.0) ∙ no (is_named given a) None (equals_step s b) new ∙ before_equals n given r a b both.0)
          (stays t (before_equals n given r a) bs both.1);
      equals = refl;
    }

after_equals : (n : List ℕ) (given : List Attribute) (r a : List ℕ) (b : ℕ) → is_blank b ≡ true → step (at phase.AfterEquals n given a [] r) b ≡ Some (at phase.AfterEquals n given a [] r)
after_equals n given r a b e =
    let s = at phase.AfterEquals n given a [] r in
    let blank = cond (is_blank b) (moved s phase.AfterEquals) (let o : Option State = None in o) in
    no (b == 34) (moved s (phase.Value quote.Double)) (cond (b == 39) (moved s (phase.Value quote.Single)) blank) (blank_is_none b 34 e refl)
    ∙ no (b == 39) (moved s (phase.Value quote.Single)) blank (blank_is_none b 39 e refl) ∙ yes (is_blank b) (moved s phase.AfterEquals) None e

run_quote : (q : Quote) (n : List ℕ) (given : List Attribute) (r a : List ℕ) → step (at phase.AfterEquals n given a [] r) (quote_byte q) ≡ Some (at (phase.Value q) n given a [] r)
run_quote quote.Double n given r a = refl
run_quote quote.Single n given r a = refl

run_written : (p : Phase) → Front p → (n : List ℕ) (given : List Attribute) (r : List ℕ) (w : Written) → IsWritten w → is_named given w.name ≡ false
    → (r' : List ℕ) × Leads (at p n given [] [] r) (written_text w) (at phase.After n (given ++ attribute_of w ∷ []) [] [] r')
run_written p front n given r w is new =
    let q = w.quote in
    let s0 = at p n given [] [] r in
    let s1 = at phase.Blank n given [] [] r in
    let s2 = at phase.Attribute n given w.name [] r in
    let left = run_left n given r w.name w.left new is.left in
    let s4 = at phase.AfterEquals n given w.name [] r in
    let s5 = at (phase.Value q) n given w.name [] r in
    let parts = run_parts q n given w.name [] r w.parts is.parts in
    let s6 = at (phase.Value q) n given w.name (flat_map part_value w.parts) parts.0 in
    let s7 = at phase.After n (given ++ attribute_of w ∷ []) [] [] parts.0 in
    let t1 = w.before in
    let t2 = t1 ++ w.name in
    let t3 = t2 ++ w.left in
    let t4 = t3 ++ 61 ∷ [] in
    let t5 = t4 ++ w.right in
    let t6 = t5 ++ quote_byte q ∷ [] in
    let t7 = t6 ++ flat_map part_text w.parts in
    let l1 : Leads s0 t1 s1 = run_blanks p front n given r w.before is.separated is.before in
    let l2 : Leads s0 t2 s2 = then s0 s1 s2 t1 w.name l1 (run_name n given r w.name is.name) in
    let l3 : Leads s0 t3 left.state = then s0 s2 left.state t2 w.left l2 left.leads in
    let l4 : Leads s0 t4 s4 = then s0 left.state s4 t3 (61 ∷ []) l3 left.equals in
    let l5 : Leads s0 t5 s4 = then s0 s4 s4 t4 w.right l4 (stays s4 (after_equals n given r w.name) w.right is.right) in
    let l6 : Leads s0 t6 s5 = then s0 s4 s5 t5 (quote_byte q ∷ []) l5 (run_quote q n given r w.name) in
    let l7 : Leads s0 t7 s6 = then s0 s5 s6 t6 (flat_map part_text w.parts) l6 parts.1 in
    (parts.0, then s0 s6 s7 t7 (quote_byte q ∷ []) l7 (yes (quote_byte q == quote_byte q) (Some (closed s6)) (past_quote q s6 (quote_byte q)) (own_quote q)))

record Through (p : Phase) (n : List ℕ) (given : List Attribute) (r : List ℕ) (ws : List Written) : Type 0 where
  phase : Phase
  front : Front phase
  reference : List ℕ
  leads : Leads (at p n given [] [] r) (flat_map written_text ws) (at phase n (given ++ map attribute_of ws) [] [] reference)

run_all : (p : Phase) → Front p → (n : List ℕ) (given : List Attribute) (r : List ℕ) (ws : List Written) → AreWritten ws → HaveNewNames given (map attribute_of ws) → Through p n given r ws
run_all p front n given r [] are new = record { phase = p; front = front; reference = r; leads = ap (λ (x : List Attribute). Some (at p n x [] [] r)) (sym (append-nil given)) }
run_all p front n given r (w ∷ ws) are new =
    let one = run_written p front n given r w are.0 new.0 in
    let rest = run_all phase.After front_after n (given ++ attribute_of w ∷ []) one.0 ws are.1 new.1 in
    record {
      phase = rest.phase;
      front = rest.front;
      reference = rest.reference;
      leads =
          then (at p n given [] [] r) (at phase.After n (given ++ attribute_of w ∷ []) [] [] one.0) (at rest.phase n (given ++ (attribute_of w ∷ map attribute_of ws)) [] [] rest.reference)
          (written_text w) (flat_map written_text ws) one.1
          (rest.leads ∙ ap (λ (x : List Attribute). Some (at rest.phase n x [] [] rest.reference)) (append_assoc given (attribute_of w ∷ []) (map attribute_of ws)));
    }

-- ---- tags

record Blanks (p : Phase) (n : List ℕ) (given : List Attribute) (r bs : List ℕ) : Type 0 where
  phase : Phase
  front : Front phase
  leads : Leads (at p n given [] [] r) bs (at phase n given [] [] r)

run_end_blanks : (p : Phase) → Front p → (n : List ℕ) (given : List Attribute) (r bs : List ℕ) → AreBlanks bs → Blanks p n given r bs
run_end_blanks p front n given r [] are = record { phase = p; front = front; leads = refl }
run_end_blanks p front n given r (b ∷ bs) are = record { phase = phase.Blank; front = front_blank; leads = run_blanks p front n given r (b ∷ bs) (λ e. cc) are }

run_end : (p : Phase) → Front p → (n : List ℕ) (given : List Attribute) (r : List ℕ) (kind : TagKind) → Leads (at p n given [] [] r) (end_text kind) (at (phase.Ended kind) n given [] [] r)
run_end p front n given r Start = front.close n given r
run_end p front n given r Empty = first (at p n given [] [] r) (at phase.Slash n given [] [] r) (at (phase.Ended Empty) n given [] [] r) 47 (62 ∷ []) (front.slash n given r) refl

run_begin : (n : List ℕ) → is_name n ≡ true → Leads start (60 ∷ n) (at phase.Name n [] [] [] [])
run_begin [] is = absurd (cc)
run_begin (b ∷ bs) is =
    let both = and_both (is_name_start b) (list_all is_name_byte bs) is in
    let s = at phase.Begin [] [] [] [] [] in
    first s (at phase.Name (b ∷ []) [] [] [] []) (at phase.Name (b ∷ bs) [] [] [] []) b bs (yes (is_name_start b) (Some (named s b)) None both.0) (run_tag_name (b ∷ []) bs both.1)

-- the state in which a tag ends
pub record Ends (text : List ℕ) (t : Tag) : Type 0 where
  pub state : State
  pub leads : run step (Some start) text ≡ Some state
  pub ends : state.phase ≡ phase.Ended t.kind
  pub tag : tag_of state t.kind ≡ t

pub ends : (text : List ℕ) (t : Tag) → IsTag text t → Ends text t
ends text t is =
    let n = t.name in
    let ws = is.written in
    let begin = at phase.Name n [] [] [] [] in
    let new = subst (λ (l : List Attribute). HaveNewNames [] l) is.attributes is.new in
    let all = run_all phase.Name front_name n [] [] ws is.each new in
    let blanks = run_end_blanks all.phase all.front n (map attribute_of ws) all.reference is.blanks is.after in
    let last = at (phase.Ended t.kind) n (map attribute_of ws) [] [] all.reference in
    let t1 = 60 ∷ n in
    let t2 = t1 ++ flat_map written_text ws in
    let t3 = t2 ++ is.blanks in
    let s2 = at all.phase n (map attribute_of ws) [] [] all.reference in
    let s3 = at blanks.phase n (map attribute_of ws) [] [] all.reference in
    let l2 : Leads start t2 s2 = then start begin s2 t1 (flat_map written_text ws) (run_begin n is.name) all.leads in
    let l3 : Leads start t3 s3 = then start s2 s3 t2 is.blanks l2 blanks.leads in
    let l4 : Leads start (t3 ++ end_text t.kind) last = then start s3 last t3 (end_text t.kind) l3 (run_end blanks.phase blanks.front n (map attribute_of ws) all.reference t.kind) in
    record {
      state = last;
      leads = ap (run step (Some start)) is.spelled ∙ l4;
      ends = refl;
      tag = ap (λ (given : List Attribute). record { name = n; attributes = given; kind = t.kind }) (sym is.attributes);
    }
