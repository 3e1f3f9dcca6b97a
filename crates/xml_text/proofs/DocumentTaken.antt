-- Runs of a document.
use Rattle.std.proofs.Common.{◌≡◌, ℕ, ◌+◌, ◌<◌, ◌≤◌, Bool, true, false, ◌==◌, ◌&&◌, not, Option, Some, None, List, [], ◌∷◌, ◌++◌, length, take, drop, get_or, cond, refl, sym, ap, ◌∙◌, subst, append_assoc, append-nil, arith}
use Rattle.std.specs.List.{list_all}
use Rattle.std.specs.Option.{option_map}
use Rattle.std.proofs.lemmas.Bool.Decides.{nat_tests}
use Rattle.idn_text.specs.Stops.{run}
use Rattle.idn_text.proofs.StopLemmas.{run_none}
use Rattle.xml_text.specs.declared.attribute.TagKind.{TagKind}
use Rattle.xml_text.specs.declared.document_state.Part.TheVariants as part
use Rattle.xml_text.specs.declared.repeats.Repeats.{Repeats}
use Rattle.xml_text.specs.declared.repeats.Repeats.TheVariants as repeats
use Rattle.xml_text.specs.declared.run.Run.TheVariants as runs
use Rattle.xml_text.specs.declared.state.Phase.TheVariants as phase
use Rattle.xml_text.specs.LineEnds.{next_line}
use Rattle.xml_text.specs.Names.{is_blank, is_name_start}
use Rattle.xml_text.specs.Tags.{Tag}
use Rattle.xml_text.specs.inner.DocumentSteps
use Rattle.xml_text.specs.inner.DocumentSteps.{State, step, content, after, is_two, times, with_said, spoken_step, tag_step, tag_moved, ended_tag, opened, with_tag, begin_tag_step, may_open, comment_step, section_step, instruction_step, on_line, line_next, Goes}
use Rattle.xml_text.specs.inner.Runs.{goes_on, is_in_line, Takes, taken_as}
use Rattle.xml_text.specs.inner.TagSteps as tag
use Rattle.xml_text.proofs.ListLemmas.{and_both}
use Rattle.xml_text.proofs.Runs.{first, yes, no, stepped}
use Rattle.xml_text.proofs.TagReads.{ended_phase, ended_takes_none}
use Rattle.xml_text.proofs.TagRuns.{not_false}
use Rattle.xml_text.proofs.TagTaken.{all_in_line}
use Rattle.xml_text.proofs.TakenLemmas.{first_of, one_is, run_taken}

-- ---- one byte

pub one_goes : (read : State → ℕ → Option State) (s t : State) (bytes : List ℕ) (o : Bool) (r : Option ℕ) → 0 < length bytes → r ≡ cond o (Some 1) None → read s (get_or bytes 0 0) ≡ taken_as o t
    → Goes read s bytes r t
one_goes read s t bytes o r some is e = one_is step (option_map (on_line (line_next s bytes)) (read s (get_or bytes 0 0))) bytes o r (on_line (line_next s bytes) t) some is
    (ap (λ (x : Option State). option_map (on_line (line_next s bytes)) x) e ∙ by o)
  where
    by : (o : Bool) → option_map (on_line (line_next s bytes)) (taken_as o t) ≡ taken_as o (on_line (line_next s bytes) t)
    by true = refl
    by false = refl

-- ---- bytes on one line

pub same_line : (line b : ℕ) → is_in_line b ≡ true → next_line line b ≡ line
same_line line b is = no (b == 10) (line + 1) line (not_false (b == 10) (and_both (not (b == 10)) (not (b == 13)) is).0)

-- a byte that leads to a state on the same line
pub stays : (s t : State) (b : ℕ) → is_in_line b ≡ true → t.line ≡ s.line → DocumentSteps.take s b ≡ Some t → step s b ≡ Some t
stays s t b is line e =
    ap (λ (o : Option State). option_map (on_line (next_line s.line b)) o) e
    ∙ ap (λ (l : ℕ). Some (on_line l t)) (same_line s.line b is ∙ sym line)

-- ---- text

abbrev speaking : State → List ℕ → State
speaking s said = record s { said = said; part = content }

text_byte : (s : State) (b : ℕ) → DocumentSteps.has_none s.names ≡ false → s.part ≡ content → goes_on runs.Text b ≡ true → step s b ≡ Some (speaking s (s.said ++ b ∷ []))
text_byte s b inside here is =
    let four = and_both (not (b == 60) && not (b == 38) && not (b == 62) && not (b == 93)) (is_in_line b) is in
    let three = and_both (not (b == 60) && not (b == 38) && not (b == 62)) (not (b == 93)) four.0 in
    let two = and_both (not (b == 60) && not (b == 38)) (not (b == 62)) three.0 in
    let one = and_both (not (b == 60)) (not (b == 38)) two.0 in
    let t = speaking s (s.said ++ b ∷ []) in
    let said = DocumentSteps.moved (with_said s (b ∷ [])) (part.Content (after (b == 93) repeats.Zero)) in
    let marked = cond (b == 38) (DocumentSteps.moved (record s { word = [] }) part.Reference) said in
    stays s t b four.1 refl (
    ap (λ p. DocumentSteps.take_by p s b) here
    ∙ no (b == 60) (DocumentSteps.moved (record s { begun = s.line }) part.Markup) (cond (DocumentSteps.has_none s.names) (cond (is_blank b) (DocumentSteps.moved s content) None) marked) (not_false (b == 60) one.0)
    ∙ no (DocumentSteps.has_none s.names) (cond (is_blank b) (DocumentSteps.moved s content) None) marked inside
    ∙ no (b == 38) (DocumentSteps.moved (record s { word = [] }) part.Reference) said (not_false (b == 38) one.1)
    ∙ ap (λ (o : Bool). DocumentSteps.moved (with_said s (b ∷ [])) (part.Content (after o repeats.Zero))) (not_false (b == 93) three.1)
    )

text_run : (s : State) (bs : List ℕ) → DocumentSteps.has_none s.names ≡ false → s.part ≡ content → list_all (goes_on runs.Text) bs ≡ true → run step (Some s) bs ≡ Some (speaking s (s.said ++ bs))
text_run s [] inside here are = ap (λ (x : List ℕ). Some (record s { said = x })) (sym (append-nil s.said)) ∙ ap (λ p. Some (record s { said = s.said ++ []; part = p })) here
text_run s (b ∷ bs) inside here are =
    let both = and_both (goes_on runs.Text b) (list_all (goes_on runs.Text) bs) are in
    let t = speaking s (s.said ++ b ∷ []) in
    first step s t (speaking s (s.said ++ b ∷ bs)) b bs (text_byte s b inside here both.0)
    (text_run t bs inside refl both.1 ∙ ap (λ (x : List ℕ). Some (speaking s x)) (append_assoc s.said (b ∷ []) bs))

pub text_goes : (s : State) (bytes : List ℕ) (n : ℕ) (said : List ℕ) → DocumentSteps.has_none s.names ≡ false → 0 < n → n ≤ length bytes → list_all (goes_on runs.Text) (drop 1 (take n bytes)) ≡ true
    → said ≡ s.said ++ take n bytes → Goes spoken_step s bytes (Some n) (record s { said = said; part = content })
text_goes s bytes n said inside some within are is =
    let b = get_or bytes 0 0 in
    let bs = drop 1 (take n bytes) in
    let r = on_line (line_next s bytes) (speaking s (s.said ++ b ∷ [])) in
    run_taken step (Some r) bytes n r (on_line (line_next s bytes) (speaking s said)) some within (all_in_line runs.Text bs are) refl
    (text_run r bs inside refl are
    ∙ ap (λ (x : List ℕ). Some (on_line (line_next s bytes) (speaking s x))) (append_assoc s.said (b ∷ []) bs ∙ ap (λ (x : List ℕ). s.said ++ x) (sym (first_of bytes n some within)) ∙ sym is))

-- ---- sections

abbrev in_section : State → List ℕ → State
in_section s said = record s { said = said; part = part.Section repeats.Zero }

section_byte : (s : State) (b : ℕ) → s.part ≡ part.Section repeats.Zero → goes_on runs.Section b ≡ true → step s b ≡ Some (in_section s (s.said ++ b ∷ []))
section_byte s b here is =
    let both = and_both (not (b == 93)) (is_in_line b) is in
    let t = in_section s (s.said ++ b ∷ []) in
    stays s t b both.1 refl (ap (λ p. DocumentSteps.take_by p s b) here ∙ no (b == 93) (DocumentSteps.bracket_in_section repeats.Zero s) (Some t) (not_false (b == 93) both.0))

section_run : (s : State) (bs : List ℕ) → s.part ≡ part.Section repeats.Zero → list_all (goes_on runs.Section) bs ≡ true → run step (Some s) bs ≡ Some (in_section s (s.said ++ bs))
section_run s [] here are = ap (λ (x : List ℕ). Some (record s { said = x })) (sym (append-nil s.said)) ∙ ap (λ p. Some (record s { said = s.said ++ []; part = p })) here
section_run s (b ∷ bs) here are =
    let both = and_both (goes_on runs.Section b) (list_all (goes_on runs.Section) bs) are in
    let t = in_section s (s.said ++ b ∷ []) in
    first step s t (in_section s (s.said ++ b ∷ bs)) b bs (section_byte s b here both.0)
    (section_run t bs refl both.1 ∙ ap (λ (x : List ℕ). Some (in_section s x)) (append_assoc s.said (b ∷ []) bs))

pub section_goes : (k : Repeats) (s : State) (bytes : List ℕ) (n : ℕ) (said : List ℕ) → 0 < n → n ≤ length bytes → list_all (goes_on runs.Section) (drop 1 (take n bytes)) ≡ true
    → (get_or bytes 0 0 == 93) ≡ false → (is_two k && get_or bytes 0 0 == 62) ≡ false → said ≡ (s.said ++ times k 93) ++ take n bytes
    → Goes (section_step k) s bytes (Some n) (record s { said = said; part = part.Section repeats.Zero })
section_goes k s bytes n said some within are other goes is =
    let b = get_or bytes 0 0 in
    let bs = drop 1 (take n bytes) in
    let line = line_next s bytes in
    let u = in_section s (s.said ++ (times k 93 ++ b ∷ [])) in
    let r = on_line line u in
    let read : section_step k s b ≡ Some u =
    no (b == 93) (DocumentSteps.bracket_in_section k s) (cond (is_two k && b == 62) (DocumentSteps.moved s content) (Some u)) other ∙ no (is_two k && b == 62) (DocumentSteps.moved s content) (Some u) goes in
    run_taken step (option_map (on_line line) (section_step k s b)) bytes n r (on_line line (in_section s said)) some within (all_in_line runs.Section bs are) (ap (λ (o : Option State). option_map (on_line line) o) read)
    (section_run r bs refl are
    ∙ ap (λ (x : List ℕ). Some (on_line line (in_section s x)))
    (append_assoc s.said (times k 93 ++ b ∷ []) bs ∙ ap (λ (x : List ℕ). s.said ++ x) (append_assoc (times k 93) (b ∷ []) bs ∙ ap (λ (x : List ℕ). times k 93 ++ x) (sym (first_of bytes n some within)))
    ∙ sym (append_assoc s.said (times k 93) (take n bytes)) ∙ sym is))

-- ---- comments and instructions

comment_byte : (s : State) (b : ℕ) → s.part ≡ part.Comment repeats.Zero → goes_on runs.Comment b ≡ true → step s b ≡ Some s
comment_byte s b here is =
    let both = and_both (not (b == 45)) (is_in_line b) is in
    stays s s b both.1 refl (ap (λ p. DocumentSteps.take_by p s b) here ∙ ap (λ (o : Bool). Some (record s { part = part.Comment (after o repeats.Zero) })) (not_false (b == 45) both.0) ∙ ap (λ p. Some (record s { part = p })) (sym here))

comment_run : (s : State) (bs : List ℕ) → s.part ≡ part.Comment repeats.Zero → list_all (goes_on runs.Comment) bs ≡ true → run step (Some s) bs ≡ Some s
comment_run s [] here are = refl
comment_run s (b ∷ bs) here are =
    let both = and_both (goes_on runs.Comment b) (list_all (goes_on runs.Comment) bs) are in
    first step s s s b bs (comment_byte s b here both.0) (comment_run s bs here both.1)

pub comment_goes : (k : Repeats) (s : State) (bytes : List ℕ) (n : ℕ) → 0 < n → n ≤ length bytes → list_all (goes_on runs.Comment) (drop 1 (take n bytes)) ≡ true
    → is_two k ≡ false → (get_or bytes 0 0 == 45) ≡ false → Goes (comment_step k) s bytes (Some n) (record s { part = part.Comment repeats.Zero })
comment_goes k s bytes n some within are few other =
    let b = get_or bytes 0 0 in
    let bs = drop 1 (take n bytes) in
    let line = line_next s bytes in
    let u = record s { part = part.Comment repeats.Zero } in
    let read : comment_step k s b ≡ Some u =
    no (is_two k) (cond (b == 62) (DocumentSteps.moved s content) None) (DocumentSteps.moved s (part.Comment (after (b == 45) k))) few ∙ ap (λ (o : Bool). DocumentSteps.moved s (part.Comment (after o k))) other in
    run_taken step (option_map (on_line line) (comment_step k s b)) bytes n (on_line line u) (on_line line u) some within (all_in_line runs.Comment bs are) (ap (λ (o : Option State). option_map (on_line line) o) read)
    (comment_run (on_line line u) bs refl are)

instruction_byte : (s : State) (b : ℕ) → s.part ≡ part.Instruction false → goes_on runs.Instruction b ≡ true → step s b ≡ Some s
instruction_byte s b here is =
    let both = and_both (not (b == 63)) (is_in_line b) is in
    stays s s b both.1 refl (ap (λ p. DocumentSteps.take_by p s b) here ∙ ap (λ (o : Bool). Some (record s { part = part.Instruction o })) (not_false (b == 63) both.0) ∙ ap (λ p. Some (record s { part = p })) (sym here))

instruction_run : (s : State) (bs : List ℕ) → s.part ≡ part.Instruction false → list_all (goes_on runs.Instruction) bs ≡ true → run step (Some s) bs ≡ Some s
instruction_run s [] here are = refl
instruction_run s (b ∷ bs) here are =
    let both = and_both (goes_on runs.Instruction b) (list_all (goes_on runs.Instruction) bs) are in
    first step s s s b bs (instruction_byte s b here both.0) (instruction_run s bs here both.1)

pub instruction_goes : (m : Bool) (s : State) (bytes : List ℕ) (n : ℕ) → 0 < n → n ≤ length bytes → list_all (goes_on runs.Instruction) (drop 1 (take n bytes)) ≡ true
    → (m && get_or bytes 0 0 == 62) ≡ false → (get_or bytes 0 0 == 63) ≡ false → Goes (instruction_step m) s bytes (Some n) (record s { part = part.Instruction false })
instruction_goes m s bytes n some within are goes other =
    let b = get_or bytes 0 0 in
    let bs = drop 1 (take n bytes) in
    let line = line_next s bytes in
    let u = record s { part = part.Instruction false } in
    let read : instruction_step m s b ≡ Some u =
    no (m && b == 62) (DocumentSteps.moved s content) (DocumentSteps.moved s (part.Instruction (b == 63))) goes ∙ ap (λ (o : Bool). DocumentSteps.moved s (part.Instruction o)) other in
    run_taken step (option_map (on_line line) (instruction_step m s b)) bytes n (on_line line u) (on_line line u) some within (all_in_line runs.Instruction bs are) (ap (λ (o : Option State). option_map (on_line line) o) read)
    (instruction_run (on_line line u) bs refl are)

-- ---- tags

-- a tag that takes one byte more isn't complete
open_tag : (t u : tag.State) (b : ℕ) → tag.step t b ≡ Some u → tag.tag_in t ≡ None
open_tag t u b e = by (tag.kind_of t.phase) refl
  where
    by : (k : Option TagKind) → tag.kind_of t.phase ≡ k → tag.tag_in t ≡ None
    by None is = ap (λ (o : Option TagKind). option_map (tag.tag_of t) o) is
    by (Some kind) is = absurd (let lost : None ≡ Some u = sym (ended_takes_none t.phase kind t b (ended_phase t.phase kind is)) ∙ e in cc)

line_moved : (l : ℕ) (s : State) (t : tag.State) → on_line l (tag_moved s t) ≡ tag_moved (on_line l s) t
line_moved l s t = by (tag.tag_in t)
  where
    by : (o : Option Tag) → on_line l (ended_tag (record s { tag = t }) o) ≡ ended_tag (on_line l (record s { tag = t })) o
    by None = refl
    by (Some u) = refl

ended_line : (s : State) (t : tag.State) → (tag_moved s t).line ≡ s.line
ended_line s t = by (tag.tag_in t)
  where
    by : (o : Option Tag) → (ended_tag (record s { tag = t }) o).line ≡ s.line
    by None = refl
    by (Some u) = refl

tag_run : (s : State) (t u : tag.State) (bs : List ℕ) → s.part ≡ part.Tag → run tag.step (Some t) bs ≡ Some u → list_all is_in_line bs ≡ true → run step (Some (tag_moved s t)) bs ≡ Some (tag_moved s u)
tag_run s t u [] here e line = ap (λ (x : tag.State). Some (tag_moved s x)) (let same : t ≡ u = cc in same)
tag_run s t u (b ∷ bs) here e line =
    let both = and_both (is_in_line b) (list_all is_in_line bs) line in
    let one = stepped tag.step t b bs u e in
    let v = record s { tag = t } in
    let begun : tag_moved s t ≡ v = ap (λ (o : Option Tag). ended_tag v o) (open_tag t one.next b one.is) in
    let goes : step v b ≡ Some (tag_moved s one.next) =
    stays v (tag_moved s one.next) b both.0 (ended_line s one.next) (ap (λ p. DocumentSteps.take_by p v b) here ∙ ap (λ (o : Option tag.State). option_map (tag_moved v) o) one.is) in
    ap (λ (x : State). run step (Some x) (b ∷ bs)) begun ∙ first step v (tag_moved s one.next) (tag_moved s u) b bs goes (tag_run s one.next u bs here one.leads both.1)

pub tag_goes : (s : State) (bytes : List ℕ) (n : ℕ) (u : tag.State) → s.part ≡ part.Tag → tag.Goes tag.step s.tag bytes (Some n) u → Goes tag_step s bytes (Some n) (tag_moved s u)
tag_goes s bytes n u here is = by (tag.step s.tag (get_or bytes 0 0)) refl
  where
    by : (o : Option tag.State) → tag.step s.tag (get_or bytes 0 0) ≡ o → Goes tag_step s bytes (Some n) (tag_moved s u)
    by None e = absurd (let lost : None ≡ Some u = sym (run_none tag.step (drop 1 (take n bytes))) ∙ ap (λ (o : Option tag.State). run tag.step o (drop 1 (take n bytes))) (sym e) ∙ is.leads in cc)
    by (Some t) e =
        let line = line_next s bytes in
        let leads = ap (λ (o : Option tag.State). run tag.step o (drop 1 (take n bytes))) (sym e) ∙ is.leads in
        run_taken step (option_map (on_line line) (tag_step s (get_or bytes 0 0))) bytes n (tag_moved (on_line line s) t) (on_line line (tag_moved s u)) is.some is.within is.line
        (ap (λ (o : Option tag.State). option_map (on_line line) (option_map (tag_moved s) o)) e ∙ ap (λ (x : State). Some x) (line_moved line s t))
        (tag_run (on_line line s) t u (drop 1 (take n bytes)) here leads is.line ∙ ap (λ (x : State). Some x) (sym (line_moved line s u)))

pub tag_stops : (s : State) (bytes : List ℕ) (t : State) → tag.step s.tag (get_or bytes 0 0) ≡ None → Goes tag_step s bytes None t
tag_stops s bytes t e = ap (λ (o : Option tag.State). option_map (on_line (line_next s bytes)) (option_map (tag_moved s) o)) e

-- the first byte of a tag's name
begun_byte : (s : State) (b : ℕ) → option_map (with_tag s) (tag.step (tag.with_phase tag.start phase.Begin) b) ≡ tag_step (record s { tag = tag.with_phase tag.start phase.Begin; part = part.Tag }) b
begun_byte s b = by (is_name_start b)
  where
    by : (o : Bool) → option_map (with_tag s) (cond o (Some (tag.named (tag.with_phase tag.start phase.Begin) b)) None)
        ≡ option_map (tag_moved (record s { tag = tag.with_phase tag.start phase.Begin; part = part.Tag })) (cond o (Some (tag.named (tag.with_phase tag.start phase.Begin) b)) None)
    by true = refl
    by false = refl

pub begin_goes : (s : State) (bytes : List ℕ) (r : Option ℕ) (t : State) → may_open s.rooted s.names ≡ true → Goes tag_step (record s { tag = tag.with_phase tag.start phase.Begin; part = part.Tag }) bytes r t
    → Goes begin_tag_step s bytes r t
begin_goes s bytes r t opens is =
    let b = get_or bytes 0 0 in
    let line = line_next s bytes in
    let same : begin_tag_step s b ≡ tag_step (record s { tag = tag.with_phase tag.start phase.Begin; part = part.Tag }) b =
    yes (may_open s.rooted s.names) (option_map (with_tag s) (tag.step (tag.with_phase tag.start phase.Begin) b)) None opens ∙ begun_byte s b in
    subst (λ (o : Option State). Takes step (option_map (on_line line) o) bytes r (on_line line t)) (sym same) is

pub tag_opened : (s : State) (u : tag.State) (kind : TagKind) (t : State) → tag.kind_of u.phase ≡ Some kind → t ≡ opened (record s { tag = u }) (tag.tag_of u kind) → tag_moved s u ≡ t
tag_opened s u kind t ended e = ap (λ (o : Option TagKind). ended_tag (record s { tag = u }) (option_map (tag.tag_of u) o)) ended ∙ sym e

pub tag_goes_on : (s : State) (u : tag.State) → tag.kind_of u.phase ≡ None → tag_moved s u ≡ record s { tag = u }
tag_goes_on s u open_ = ap (λ (o : Option TagKind). ended_tag (record s { tag = u }) (option_map (tag.tag_of u) o)) open_

-- ---- lines

pub feed_line : (line b l : ℕ) → b ≡ 10 → l ≡ line + 1 → next_line line b ≡ l
feed_line line b l is e = yes (b == 10) (line + 1) line (let feed : (b == 10) ≡ true = grind (arith, nat_tests) in feed) ∙ sym e

pub other_line : (line b l : ℕ) → (b ≡ 10 → ⊥) → l ≡ line → next_line line b ≡ l
other_line line b l other e = no (b == 10) (line + 1) line (let none : (b == 10) ≡ false = grind (arith, nat_tests, other) in none) ∙ sym e
