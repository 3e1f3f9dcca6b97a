-- Each piece of a document is read, from its first byte to its last.
use Rattle.std.proofs.Common.{◌≡◌, inl, inr, ℕ, ◌+◌, Bool, true, false, ◌==◌, ◌&&◌, not, Option, Some, None, List, [], ◌∷◌, ◌++◌, length, cond, codes, refl, sym, ap, ◌∙◌, subst, append_assoc, append-nil, is_some, arith}
use Rattle.std.specs.Option.{option_map}
use Rattle.std.specs.List.{flat_map, list_all}
use Rattle.std.specs.Prelude.{slice_get}
use Rattle.std.proofs.lemmas.Bool.Decides.{nat_tests}
use Rattle.std.proofs.lemmas.List.{length-append}
use Rattle.std.proofs.lemmas.Option.{slice_get_past}
use Rattle.xml_text.specs.declared.attribute.TagKind.{TagKind}
use Rattle.xml_text.specs.declared.document_state.Part.{Part}
use Rattle.xml_text.specs.declared.document_state.Part.TheVariants as part
use Rattle.xml_text.specs.declared.repeats.Repeats.{Repeats}
use Rattle.xml_text.specs.declared.repeats.Repeats.TheVariants as repeats
use Rattle.xml_text.specs.declared.state.Phase.TheVariants as phase
use Rattle.idn_text.specs.Stops.{run}
use Rattle.xml_text.specs.Documents.{Written, texts, text_token, closing}
use Rattle.xml_text.specs.LineEnds.{line_after, next_line}
use Rattle.xml_text.specs.Names.{is_blank, AreBlanks, is_name_start, is_name_byte, is_name, is_reference_byte}
use Rattle.xml_text.specs.Pieces
use Rattle.xml_text.specs.Pieces.{Piece, has, begins_with, begins_blank, is_xml, IsPiece, IsSection, IsComment, IsInstruction, IsEndTag, is_content}
use Rattle.xml_text.specs.References.{referenced}
use Rattle.xml_text.specs.Tags
use Rattle.xml_text.specs.Tags.{Tag, IsTag, part_text, utf8_of_reference}
use Rattle.xml_text.specs.Tokens
use Rattle.xml_text.specs.Tokens.{Token}
use Rattle.xml_text.specs.inner.DocumentSteps
use Rattle.xml_text.specs.inner.DocumentSteps.{State, step, content, after, is_two, times, resolved, with_word, end_blank_step, target_end_step, is_content_end}
use Rattle.xml_text.specs.inner.TagSteps as tag
use Rattle.xml_text.proofs.ListLemmas.{and_both, is_byte}
use Rattle.xml_text.proofs.Runs
use Rattle.xml_text.proofs.Runs.{first, then, yes, no, decide, stepped, chosen}
use Rattle.xml_text.proofs.TagReads.{ended_phase, ended_takes_none}
use Rattle.xml_text.proofs.TagRuns.{blank_in_no_name, blank_is_none, no_semicolon, not_false}
use Rattle.xml_text.proofs.Words.{brackets, dashes, mark, marks, or_false, two_dashes, ends_section, ends_instruction}
use Rattle.xml_text.proofs.TagRuns.{ends}
use Rattle.xml_text.proofs.DocumentStates.{Core, Scratch, at, between, Leads, lined, saying, Fits, moved, next, EndsNothing, Path, core_after, count_after}

-- ---- runs that change nothing but the line

abbrev Goes : Core → Scratch → Part → List ℕ → Scratch → Part → Type 0
Goes c g p bytes h q = Leads (at c g p) bytes (at (lined c bytes) h q)

pub lines_append : (line : ℕ) (xs ys : List ℕ) → line_after line (xs ++ ys) ≡ line_after (line_after line xs) ys
lines_append line [] ys = refl
lines_append line (x ∷ xs) ys = lines_append (next_line line x) xs ys

on : (c : Core) (g : Scratch) (p : Part) (xs : List ℕ) (h : Scratch) (q : Part) (ys : List ℕ) (i : Scratch) (r : Part)
    → Goes c g p xs h q → Goes (lined c xs) h q ys i r → Goes c g p (xs ++ ys) i r
on c g p xs h q ys i r e f =
    then step (at c g p) (at (lined c xs) h q) (at (lined c (xs ++ ys)) i r) xs ys e
    (f ∙ ap (λ (l : ℕ). Some (at (record c { line = l }) i r)) (sym (lines_append c.line xs ys)))

-- one byte
pub taken : (s t : State) (b : ℕ) → DocumentSteps.take s b ≡ Some t → step s b ≡ Some (DocumentSteps.on_line (next_line s.line b) t)
taken s t b e = ap (λ (o : Option State). option_map (DocumentSteps.on_line (next_line s.line b)) o) e

-- ---- comments

pub not_two : (o : Bool) → is_two (after o repeats.Zero) ≡ false
not_two true = refl
not_two false = refl

comment_leads : (c : Core) (g : Scratch) (k : Repeats) (body : List ℕ) → is_two k ≡ false → has two_dashes (times k 45 ++ (body ++ 45 ∷ [])) ≡ false
    → Goes c g (part.Comment k) (body ++ codes "-->") g content
comment_leads c g repeats.Two body few h = absurd (cc)
comment_leads c g repeats.Zero [] few h = refl
comment_leads c g repeats.One [] few h = absurd (cc)
comment_leads c g repeats.Zero (b ∷ bs) few h =
    let rest : has two_dashes (times (after (b == 45) repeats.Zero) 45 ++ (bs ++ 45 ∷ [])) ≡ false = sym (dashes repeats.Zero b (bs ++ 45 ∷ []) refl) ∙ h in
    comment_leads (lined c (b ∷ [])) g (after (b == 45) repeats.Zero) bs (not_two (b == 45)) rest
comment_leads c g repeats.One (b ∷ bs) few h =
    let both = or_false (b == 45) (has two_dashes (times (after (b == 45) repeats.Zero) 45 ++ (bs ++ 45 ∷ []))) (sym (dashes repeats.One b (bs ++ 45 ∷ []) refl) ∙ h) in
    let rest : has two_dashes (bs ++ 45 ∷ []) ≡ false = subst (λ (o : Bool). has two_dashes (times (after o repeats.Zero) 45 ++ (bs ++ 45 ∷ [])) ≡ false) both.0 both.1 in
    first step (at c g (part.Comment repeats.One)) (at (lined c (b ∷ [])) g (part.Comment repeats.Zero)) (at (lined c (b ∷ bs ++ codes "-->")) g content) b (bs ++ codes "-->")
    (ap (λ (o : Bool). Some (at (lined c (b ∷ [])) g (part.Comment (after o repeats.One)))) both.0) (comment_leads (lined c (b ∷ [])) g repeats.Zero bs refl rest)

abbrev pub begun : Core → Scratch → Scratch
begun c g = record g { begun = c.line }

whole_comment : (c : Core) (g : Scratch) (k : Repeats) (text : List ℕ) → IsComment text → Goes c g (part.Content k) text (begun c g) content
whole_comment c g k text is =
    let body = is.0 in
    subst (λ (t : List ℕ). Goes c g (part.Content k) t (begun c g) content) (sym (is.1 ∙ append_assoc (codes "<!--") body (codes "-->")))
    (on c g (part.Content k) (codes "<!--") (begun c g) (part.Comment repeats.Zero) (body ++ codes "-->") (begun c g) content refl (comment_leads c (begun c g) repeats.Zero body refl is.2))

-- ---- sections

abbrev pub told : Core → List ℕ → List ℕ → Core
told c said bytes = record c { said = said; line = line_after c.line bytes }

section_other : (c : Core) (g : Scratch) (k : Repeats) (b : ℕ) (bs : List ℕ) → (b == 93) ≡ false → (is_two k && b == 62) ≡ false
    → (let d = lined (saying c (times k 93 ++ b ∷ [])) (b ∷ []) in Leads (at d g (part.Section repeats.Zero)) (bs ++ codes "]]>") (at (told d (d.said ++ bs) (bs ++ codes "]]>")) g content))
    → Leads (at c g (part.Section k)) (b ∷ bs ++ codes "]]>") (at (told c (c.said ++ (times k 93 ++ b ∷ bs)) (b ∷ bs ++ codes "]]>")) g content)
section_other c g k b bs is ends rest =
    let s = at c g (part.Section k) in
    let d = lined (saying c (times k 93 ++ b ∷ [])) (b ∷ []) in
    let t = at (saying c (times k 93 ++ b ∷ [])) g (part.Section repeats.Zero) in
    first step s (at d g (part.Section repeats.Zero)) (at (told c (c.said ++ (times k 93 ++ b ∷ bs)) (b ∷ bs ++ codes "]]>")) g content) b (bs ++ codes "]]>")
    (taken s t b (no (b == 93) (DocumentSteps.bracket_in_section k s) (cond (is_two k && b == 62) (DocumentSteps.moved s content) (Some t)) is ∙ no (is_two k && b == 62) (DocumentSteps.moved s content) (Some t) ends))
    (rest ∙ ap (λ (x : List ℕ). Some (at (told d x (bs ++ codes "]]>")) g content)) (append_assoc c.said (times k 93 ++ b ∷ []) bs ∙ ap (λ (x : List ℕ). c.said ++ x) (append_assoc (times k 93) (b ∷ []) bs)))

no_end_here : (k : Repeats) (b : ℕ) (bs : List ℕ) → has ends_section (times k 93 ++ b ∷ bs) ≡ false → (is_two k && b == 62) ≡ false
no_end_here k b bs h = (or_false (is_two k && b == 62) (has ends_section (times (after (b == 93) k) 93 ++ bs)) (sym (brackets k b bs) ∙ h)).0

no_end_after : (k : Repeats) (b : ℕ) (bs : List ℕ) → (b == 93) ≡ false → has ends_section (times k 93 ++ b ∷ bs) ≡ false → has ends_section bs ≡ false
no_end_after k b bs is h =
    subst (λ (o : Bool). has ends_section (times (after o k) 93 ++ bs) ≡ false) is
    (or_false (is_two k && b == 62) (has ends_section (times (after (b == 93) k) 93 ++ bs)) (sym (brackets k b bs) ∙ h)).1

section_leads : (c : Core) (g : Scratch) (k : Repeats) (body : List ℕ) → has ends_section (times k 93 ++ body) ≡ false
    → Leads (at c g (part.Section k)) (body ++ codes "]]>") (at (told c (c.said ++ (times k 93 ++ body)) (body ++ codes "]]>")) g content)
section_leads c g repeats.Zero [] h = ap (λ (x : List ℕ). Some (at (told c x (codes "]]>")) g content)) (sym (append-nil c.said))
section_leads c g repeats.One [] h = refl
section_leads c g repeats.Two [] h = ap (λ (x : List ℕ). Some (at (told c x (codes "]]>")) g content)) (append_assoc c.said (93 ∷ []) (93 ∷ []))
section_leads c g repeats.Zero (b ∷ bs) h = elim (decide (b == 93)) [
  | inl is ↦
      let same = is_byte b 93 is in
      subst (λ (x : ℕ). Leads (at c g (part.Section repeats.Zero)) (x ∷ bs ++ codes "]]>") (at (told c (c.said ++ (x ∷ bs)) (x ∷ bs ++ codes "]]>")) g content)) (sym same)
      (section_leads c g repeats.One bs (subst (λ (x : ℕ). has ends_section (x ∷ bs) ≡ false) same h))
  | inr is ↦ section_other c g repeats.Zero b bs is (no_end_here repeats.Zero b bs h) (section_leads (lined (saying c (b ∷ [])) (b ∷ [])) g repeats.Zero bs (no_end_after repeats.Zero b bs is h))
]
section_leads c g repeats.One (b ∷ bs) h = elim (decide (b == 93)) [
  | inl is ↦
      let same = is_byte b 93 is in
      subst (λ (x : ℕ). Leads (at c g (part.Section repeats.One)) (x ∷ bs ++ codes "]]>") (at (told c (c.said ++ (93 ∷ x ∷ bs)) (x ∷ bs ++ codes "]]>")) g content)) (sym same)
      (section_leads c g repeats.Two bs (subst (λ (x : ℕ). has ends_section (93 ∷ x ∷ bs) ≡ false) same h))
  | inr is ↦ section_other c g repeats.One b bs is (no_end_here repeats.One b bs h) (section_leads (lined (saying c (93 ∷ b ∷ [])) (b ∷ [])) g repeats.Zero bs (no_end_after repeats.One b bs is h))
]
section_leads c g repeats.Two (b ∷ bs) h = elim (decide (b == 93)) [
  | inl is ↦
      let same = is_byte b 93 is in
      subst (λ (x : ℕ). Leads (at c g (part.Section repeats.Two)) (x ∷ bs ++ codes "]]>") (at (told c (c.said ++ (93 ∷ 93 ∷ x ∷ bs)) (x ∷ bs ++ codes "]]>")) g content)) (sym same)
      (section_leads (saying c (93 ∷ [])) g repeats.Two bs (subst (λ (x : ℕ). has ends_section (93 ∷ 93 ∷ x ∷ bs) ≡ false) same h)
      ∙ ap (λ (x : List ℕ). Some (at (told c x (bs ++ codes "]]>")) g content)) (append_assoc c.said (93 ∷ []) (93 ∷ 93 ∷ bs)))
  | inr is ↦ section_other c g repeats.Two b bs is (no_end_here repeats.Two b bs h) (section_leads (lined (saying c (93 ∷ 93 ∷ b ∷ [])) (b ∷ [])) g repeats.Zero bs (no_end_after repeats.Two b bs is h))
]

whole_section : (c : Core) (g : Scratch) (k : Repeats) (text body : List ℕ) → DocumentSteps.has_none c.names ≡ false → IsSection text body
    → Leads (between c g k) text (at (told c (c.said ++ body) text) (begun c g) content)
whole_section c g k text body inside is =
    let h = begun c g in
    let s = at c h part.Exclamation in
    let begin : Goes c g (part.Content k) (codes "<![") h (part.SectionBegin 0) =
    then step (between c g k) s (at c h (part.SectionBegin 0)) (codes "<!") (91 ∷ []) refl
    (first step s (at c h (part.SectionBegin 0)) (at c h (part.SectionBegin 0)) 91 [] (taken s (at c h (part.SectionBegin 0)) 91 (no (DocumentSteps.has_none c.names) None (DocumentSteps.moved s (part.SectionBegin 0)) inside)) refl) in
    let word : Goes c h (part.SectionBegin 0) (codes "CDATA[") h (part.Section repeats.Zero) = refl in
    let opens = on c g (part.Content k) (codes "<![") h (part.SectionBegin 0) (codes "CDATA[") h (part.Section repeats.Zero) begin word in
    subst (λ (t : List ℕ). Leads (between c g k) t (at (told c (c.said ++ body) t) h content)) (sym (is.0 ∙ append_assoc (codes "<![CDATA[") body (codes "]]>")))
    (then step (between c g k) (at c h (part.Section repeats.Zero)) (at (told c (c.said ++ body) (body ++ codes "]]>")) h content) (codes "<![CDATA[") (body ++ codes "]]>") opens
    (section_leads c h repeats.Zero body is.1))

-- ---- processing instructions

instruction_leads : (c : Core) (g : Scratch) (m : Bool) (body : List ℕ) → has ends_instruction (mark m ++ body) ≡ false → Goes c g (part.Instruction m) (body ++ codes "?>") g content
instruction_leads c g true [] h = refl
instruction_leads c g false [] h = refl
instruction_leads c g m (b ∷ bs) h =
    let both = or_false (m && b == 62) (has ends_instruction (mark (b == 63) ++ bs)) (sym (marks m b bs) ∙ h) in
    let s = at c g (part.Instruction m) in
    let t = at c g (part.Instruction (b == 63)) in
    first step s (at (lined c (b ∷ [])) g (part.Instruction (b == 63))) (at (lined c (b ∷ bs ++ codes "?>")) g content) b (bs ++ codes "?>")
    (taken s t b (no (m && b == 62) (DocumentSteps.moved s content) (Some t) both.0)) (instruction_leads (lined c (b ∷ [])) g (b == 63) bs both.1)

abbrev pub worded : Scratch → List ℕ → Scratch
worded g w = record g { word = w }

target_leads : (c : Core) (g : Scratch) (w bs : List ℕ) → list_all is_name_byte bs ≡ true → Goes c (worded g w) part.Target bs (worded g (w ++ bs)) part.Target
target_leads c g w [] are = ap (λ (x : List ℕ). Some (at c (worded g x) part.Target)) (sym (append-nil w))
target_leads c g w (b ∷ bs) are =
    let both = and_both (is_name_byte b) (list_all is_name_byte bs) are in
    let s = at c (worded g w) part.Target in
    let t = at c (worded g (w ++ b ∷ [])) part.Target in
    first step s (at (lined c (b ∷ [])) (worded g (w ++ b ∷ [])) part.Target) (at (lined c (b ∷ bs)) (worded g (w ++ b ∷ bs)) part.Target) b bs
    (taken s t b (yes (is_name_byte b) (Some t) (cond (is_xml w) None (target_end_step s b)) both.0))
    (target_leads (lined c (b ∷ [])) g (w ++ b ∷ []) bs both.1 ∙ ap (λ (x : List ℕ). Some (at (lined c (b ∷ bs)) (worded g x) part.Target)) (append_assoc w (b ∷ []) bs))

target_ended : (c : Core) (g : Scratch) (body : List ℕ) → is_xml g.word ≡ false → begins_blank body ≡ true → has ends_instruction body ≡ false → Goes c g part.Target (body ++ codes "?>") g content
target_ended c g [] other blank h =
    let s = at c g part.Target in
    first step s (at c g part.TargetEnd) (at c g content) 63 (62 ∷ []) (taken s (at c g part.TargetEnd) 63 (no (is_xml g.word) None (target_end_step s 63) other)) refl
target_ended c g (b ∷ bs) other blank h =
    let s = at c g part.Target in
    let t = at c g (part.Instruction false) in
    let blanks = cond (is_blank b) (Some t) (let o : Option State = None in o) in
    first step s (at (lined c (b ∷ [])) g (part.Instruction false)) (at (lined c (b ∷ bs ++ codes "?>")) g content) b (bs ++ codes "?>")
    (taken s t b (no (is_name_byte b) (Some (with_word s b)) (cond (is_xml g.word) None (target_end_step s b)) (blank_in_no_name b blank) ∙ no (is_xml g.word) None (target_end_step s b) other
    ∙ no (b == 63) (DocumentSteps.moved s part.TargetEnd) blanks (blank_is_none b 63 blank refl) ∙ yes (is_blank b) (Some t) None blank))
    (instruction_leads (lined c (b ∷ [])) g false bs (or_false (63 == b && begins_with (62 ∷ []) bs) (has ends_instruction bs) h).1)

whole_instruction : (c : Core) (g : Scratch) (k : Repeats) (text : List ℕ) → IsInstruction text → (h : Scratch) × Goes c g (part.Content k) text h content
whole_instruction c g k text is = by is.target is.spelled is.name is.other
  where
    by : (target : List ℕ) → text ≡ codes "<?" ++ target ++ is.body ++ codes "?>" → is_name target ≡ true → is_xml target ≡ false → (h : Scratch) × Goes c g (part.Content k) text h content
    by [] spelled name other = absurd (cc)
    by (t ∷ ts) spelled name other =
        let both = and_both (is_name_start t) (list_all is_name_byte ts) name in
        let h = begun c g in
        let s = at c h part.Question in
        let u = at c (worded h (t ∷ [])) part.Target in
        let d = lined c (t ∷ []) in
        let start : Goes c h part.Question (t ∷ []) (worded h (t ∷ [])) part.Target =
        first step s (at d (worded h (t ∷ [])) part.Target) (at d (worded h (t ∷ [])) part.Target) t [] (taken s u t (yes (is_name_start t) (Some u) None both.0)) refl in
        let names = on c h part.Question (t ∷ []) (worded h (t ∷ [])) part.Target ts (worded h (t ∷ ts)) part.Target start (target_leads d h (t ∷ []) ts both.1) in
        let front = on c g (part.Content k) (codes "<?") h part.Question (t ∷ ts) (worded h (t ∷ ts)) part.Target refl names in
        let all = on c g (part.Content k) (codes "<?" ++ t ∷ ts) (worded h (t ∷ ts)) part.Target (is.body ++ codes "?>") (worded h (t ∷ ts)) content front
        (target_ended (lined c (codes "<?" ++ t ∷ ts)) (worded h (t ∷ ts)) is.body other is.separated is.ends) in
        (worded h (t ∷ ts), subst (λ (x : List ℕ). Goes c g (part.Content k) x (worded h (t ∷ ts)) content) (sym (spelled ∙ append_assoc (codes "<?" ++ t ∷ ts) is.body (codes "?>"))) all)

-- ---- character data and references

whole_byte : (c : Core) (g : Scratch) (k : Repeats) (b : ℕ) → DocumentSteps.has_none c.names ≡ false → is_content (Tags.Plain b) ≡ true → (is_two k && b == 62) ≡ false
    → Leads (between c g k) (b ∷ []) (between (told c (c.said ++ b ∷ []) (b ∷ [])) g (after (b == 93) k))
whole_byte c g k b inside is ends =
    let s = between c g k in
    let outer = and_both (not (b == 60) && not (b == 60)) (not (b == 38)) is in
    let less = and_both (not (b == 60)) (not (b == 60)) outer.0 in
    let t = at (saying c (b ∷ [])) g (part.Content (after (b == 93) k)) in
    let amp = DocumentSteps.moved (record s { word = [] }) part.Reference in
    let blanks = cond (is_blank b) (DocumentSteps.moved s content) (let o : Option State = None in o) in
    let plain = cond (is_two k && b == 62) None (Some t) in
    first step s (between (told c (c.said ++ b ∷ []) (b ∷ [])) g (after (b == 93) k)) (between (told c (c.said ++ b ∷ []) (b ∷ [])) g (after (b == 93) k)) b []
    (taken s t b (no (b == 60) (DocumentSteps.moved (record s { begun = c.line }) part.Markup) (cond (DocumentSteps.has_none c.names) blanks (cond (b == 38) amp plain)) (not_false (b == 60) less.0)
    ∙ no (DocumentSteps.has_none c.names) blanks (cond (b == 38) amp plain) inside ∙ no (b == 38) amp plain (not_false (b == 38) outer.1) ∙ no (is_two k && b == 62) None (Some t) ends)) refl

whole_blank : (c : Core) (g : Scratch) (k : Repeats) (b : ℕ) → DocumentSteps.has_none c.names ≡ true → is_blank b ≡ true → Leads (between c g k) (b ∷ []) (between (lined c (b ∷ [])) g (after (b == 93) k))
whole_blank c g k b outside blank =
    let s = between c g k in
    let t = at c g content in
    let amp = DocumentSteps.moved (record s { word = [] }) part.Reference in
    let plain = cond (is_two k && b == 62) None (DocumentSteps.moved (DocumentSteps.with_said s (b ∷ [])) (part.Content (after (b == 93) k))) in
    let blanks = cond (is_blank b) (Some t) (let o : Option State = None in o) in
    first step s (at (lined c (b ∷ [])) g content) (between (lined c (b ∷ [])) g (after (b == 93) k)) b []
    (taken s t b (no (b == 60) (DocumentSteps.moved (record s { begun = c.line }) part.Markup) (cond (DocumentSteps.has_none c.names) blanks (cond (b == 38) amp plain)) (blank_is_none b 60 blank refl)
    ∙ yes (DocumentSteps.has_none c.names) blanks (cond (b == 38) amp plain) outside ∙ yes (is_blank b) (Some t) None blank))
    (ap (λ (o : Bool). Some (between (lined c (b ∷ [])) g (after o k))) (sym (blank_is_none b 93 blank refl)))

reference_leads : (c : Core) (g : Scratch) (w bs : List ℕ) → list_all is_reference_byte bs ≡ true → Goes c (worded g w) part.Reference bs (worded g (w ++ bs)) part.Reference
reference_leads c g w [] are = ap (λ (x : List ℕ). Some (at c (worded g x) part.Reference)) (sym (append-nil w))
reference_leads c g w (b ∷ bs) are =
    let both = and_both (is_reference_byte b) (list_all is_reference_byte bs) are in
    let s = at c (worded g w) part.Reference in
    let t = at c (worded g (w ++ b ∷ [])) part.Reference in
    let rest = cond (is_reference_byte b) (Some t) (let o : Option State = None in o) in
    first step s (at (lined c (b ∷ [])) (worded g (w ++ b ∷ [])) part.Reference) (at (lined c (b ∷ bs)) (worded g (w ++ b ∷ bs)) part.Reference) b bs
    (taken s t b (no (b == 59) (resolved s (referenced w)) rest (no_semicolon b both.0) ∙ yes (is_reference_byte b) (Some t) None both.0))
    (reference_leads (lined c (b ∷ [])) g (w ++ b ∷ []) bs both.1 ∙ ap (λ (x : List ℕ). Some (at (lined c (b ∷ bs)) (worded g x) part.Reference)) (append_assoc w (b ∷ []) bs))

resolved_is : (s : State) (o : Option ℕ) → is_some o ≡ true → resolved s o ≡ DocumentSteps.moved (DocumentSteps.with_said s (utf8_of_reference o)) content
resolved_is s (Some c) e = refl
resolved_is s None e = absurd (cc)

whole_reference : (c : Core) (g : Scratch) (k : Repeats) (name : List ℕ) → DocumentSteps.has_none c.names ≡ false → is_content (Tags.Reference name) ≡ true
    → (let text = part_text (Tags.Reference name) in Leads (between c g k) text (at (told c (c.said ++ utf8_of_reference (referenced name)) text) (worded g name) content))
whole_reference c g k name inside is =
    let both = and_both (list_all is_reference_byte name) (is_some (referenced name)) is in
    let s = between c g k in
    let t = at c (worded g []) part.Reference in
    let blanks = cond (is_blank 38) (DocumentSteps.moved s content) (let o : Option State = None in o) in
    let begin : Goes c g (part.Content k) (38 ∷ []) (worded g []) part.Reference = first step s t t 38 [] (taken s t 38 (no (DocumentSteps.has_none c.names) blanks (Some t) inside)) refl in
    let names = on c g (part.Content k) (38 ∷ []) (worded g []) part.Reference name (worded g name) part.Reference begin (reference_leads c g [] name both.0) in
    let d = lined c (38 ∷ name) in
    let u = at d (worded g name) part.Reference in
    let v = at (saying d (utf8_of_reference (referenced name))) (worded g name) content in
    then step s u (at (told c (c.said ++ utf8_of_reference (referenced name)) (38 ∷ name ++ 59 ∷ [])) (worded g name) content) (38 ∷ name) (59 ∷ []) names
    (first step u v v 59 [] (taken u v 59 (resolved_is u (referenced name) both.1)) refl
    ∙ ap (λ (l : ℕ). Some (at (record c { said = c.said ++ utf8_of_reference (referenced name); line = l }) (worded g name) content)) (sym (lines_append c.line (38 ∷ name) (59 ∷ []))))

-- ---- end tags

abbrev pub in_ : Core → List ℕ → List (List ℕ) → Core
in_ c n ns = record c { names = n ∷ ns }

seam : (pre post : List ℕ) (b : ℕ) → slice_get (pre ++ b ∷ post) (length pre) ≡ Some b
seam [] post b = refl
seam (x ∷ pre) post b = seam pre post b

pub expected_at : (n pre post : List ℕ) (b : ℕ) → n ≡ pre ++ b ∷ post → slice_get n (length pre) ≡ Some b
expected_at n pre post b e = ap (λ (x : List ℕ). slice_get x (length pre)) e ∙ seam pre post b

pub nothing_expected : (n pre : List ℕ) → n ≡ pre ++ [] → slice_get n (length pre) ≡ None
nothing_expected n pre e = slice_get_past n (length pre) (omega (arith, ap length (e ∙ append-nil pre)))

own_byte : (b : ℕ) → (b == b) ≡ true
own_byte b = grind (arith, nat_tests)

pub length_snoc : (pre : List ℕ) (b : ℕ) → length (pre ++ b ∷ []) ≡ length pre + 1
length_snoc pre b = omega (arith, length-append pre (b ∷ []))

pub end_name_leads : (c : Core) (g : Scratch) (n : List ℕ) (ns : List (List ℕ)) (pre post : List ℕ) → n ≡ pre ++ post
    → Goes (in_ c n ns) g (part.EndName (length pre)) post g (part.EndName (length n))
end_name_leads c g n ns pre [] e = ap (λ (x : List ℕ). Some (at (in_ c n ns) g (part.EndName (length x)))) (sym (e ∙ append-nil pre))
end_name_leads c g n ns pre (b ∷ post) e =
    let d = in_ c n ns in
    let s = at d g (part.EndName (length pre)) in
    let t = at d g (part.EndName (length pre + 1)) in
    let expects = ap (λ (o : Option ℕ). DocumentSteps.expected o (length pre) s b) (expected_at n pre post b e) in
    first step s (at (lined d (b ∷ [])) g (part.EndName (length pre + 1))) (at (lined d (b ∷ post)) g (part.EndName (length n))) b post
    (taken s t b (expects ∙ yes (b == b) (Some t) None (own_byte b)))
    (subst (λ (x : ℕ). Leads (at (lined d (b ∷ [])) g (part.EndName x)) post (at (lined d (b ∷ post)) g (part.EndName (length n)))) (length_snoc pre b)
    (end_name_leads (lined c (b ∷ [])) g n ns (pre ++ b ∷ []) post (e ∙ sym (append_assoc pre (b ∷ []) post))))

-- the innermost element ends
abbrev pub shut : Core → ℕ → Core
shut c begun = record c { tokens = c.tokens ++ text_token begun c.said ++ DocumentSteps.token Tokens.Close begun ∷ []; names = DocumentSteps.without_first c.names; said = [] }

end_blanks_lead : (c : Core) (g : Scratch) (blanks : List ℕ) → AreBlanks blanks → Leads (at c g part.EndBlank) (blanks ++ codes ">") (at (lined (shut c g.begun) (blanks ++ codes ">")) g content)
end_blanks_lead c g [] are = refl
end_blanks_lead c g (b ∷ bs) are =
    let both = and_both (is_blank b) (list_all is_blank bs) are in
    let s = at c g part.EndBlank in
    let blank = cond (is_blank b) (Some s) (let o : Option State = None in o) in
    first step s (at (lined c (b ∷ [])) g part.EndBlank) (at (lined (shut c g.begun) (b ∷ bs ++ codes ">")) g content) b (bs ++ codes ">")
    (taken s s b (no (b == 62) (Some (DocumentSteps.closed s)) blank (blank_is_none b 62 both.0 refl) ∙ yes (is_blank b) (Some s) None both.0))
    (end_blanks_lead (lined c (b ∷ [])) g bs both.1)

pub name_ended : (c : Core) (g : Scratch) (n : List ℕ) (ns : List (List ℕ)) (blanks : List ℕ) → AreBlanks blanks
    → Leads (at (in_ c n ns) g (part.EndName (length n))) (blanks ++ codes ">") (at (lined (shut (in_ c n ns) g.begun) (blanks ++ codes ">")) g content)
name_ended c g n ns [] are =
    let d = in_ c n ns in
    let s = at d g (part.EndName (length n)) in
    first step s (at (lined (shut d g.begun) (codes ">")) g content) (at (lined (shut d g.begun) (codes ">")) g content) 62 []
    (taken s (at (shut d g.begun) g content) 62 (ap (λ (o : Option ℕ). DocumentSteps.expected o (length n) s 62) (nothing_expected n n (sym (append-nil n))))) refl
name_ended c g n ns (b ∷ bs) are =
    let both = and_both (is_blank b) (list_all is_blank bs) are in
    let d = in_ c n ns in
    let s = at d g (part.EndName (length n)) in
    let t = at d g part.EndBlank in
    let blank = cond (is_blank b) (Some t) (let o : Option State = None in o) in
    first step s (at (lined d (b ∷ [])) g part.EndBlank) (at (lined (shut d g.begun) (b ∷ bs ++ codes ">")) g content) b (bs ++ codes ">")
    (taken s t b (ap (λ (o : Option ℕ). DocumentSteps.expected o (length n) s b) (nothing_expected n n (sym (append-nil n)))
    ∙ no (b == 62) (Some (DocumentSteps.closed s)) blank (blank_is_none b 62 both.0 refl) ∙ yes (is_blank b) (Some t) None both.0))
    (end_blanks_lead (lined d (b ∷ [])) g bs both.1)

pub whole_end : (c : Core) (g : Scratch) (k : Repeats) (n : List ℕ) (ns : List (List ℕ)) (text : List ℕ) → IsEndTag text n
    → Leads (between (in_ c n ns) g k) text (at (lined (shut (in_ c n ns) c.line) text) (begun c g) content)
whole_end c g k n ns text is =
    let d = in_ c n ns in
    let h = begun c g in
    let front = on d g (part.Content k) (codes "</") h (part.EndName 0) n h (part.EndName (length n)) refl (end_name_leads c h n ns [] n refl) in
    let e = lined d (codes "</" ++ n) in
    let last = name_ended (lined c (codes "</" ++ n)) h n ns is.0 is.2 in
    subst (λ (x : List ℕ). Leads (between d g k) x (at (lined (shut d c.line) x) h content)) (sym (is.1 ∙ append_assoc (codes "</" ++ n) is.0 (codes ">")))
    (then step (between d g k) (at e h (part.EndName (length n))) (at (lined (shut d c.line) ((codes "</" ++ n) ++ (is.0 ++ codes ">"))) h content) (codes "</" ++ n) (is.0 ++ codes ">") front
    (last ∙ ap (λ (l : ℕ). Some (at (record (shut d c.line) { line = l }) h content)) (sym (lines_append c.line (codes "</" ++ n) (is.0 ++ codes ">")))))

-- ---- start tags and tags of empty elements

abbrev pub open_core : Core → ℕ → Tag → Core
open_core c begun t = record c {
  tokens = c.tokens ++ text_token begun c.said ++ DocumentSteps.token (Tokens.Open t.name t.attributes) begun ∷ closing begun t.kind;
  names = DocumentSteps.names_with t.name c.names t.kind;
  rooted = true;
  said = [];
}

abbrev pub tagged : Scratch → tag.State → Scratch
tagged g t = record g { tag = t }

not_ended : (t u : tag.State) (b : ℕ) (bs : List ℕ) → Runs.Leads tag.step t (b ∷ bs) u → tag.kind_of t.phase ≡ None
not_ended t u b bs e = by (tag.kind_of t.phase) refl
  where
    by : (o : Option TagKind) → tag.kind_of t.phase ≡ o → o ≡ None
    by None is = refl
    by (Some kind) is =
        let s = stepped tag.step t b bs u e in
        absurd (let none : None ≡ Some s.next = sym (ended_takes_none t.phase kind t b (ended_phase t.phase kind is)) ∙ s.is in cc)

tag_leads : (c : Core) (g : Scratch) (t u : tag.State) (kind : TagKind) (text : List ℕ) → Runs.Leads tag.step t text u → u.phase ≡ phase.Ended kind → tag.kind_of t.phase ≡ None
    → Leads (at c (tagged g t) part.Tag) text (at (lined (open_core c g.begun (tag.tag_of u kind)) text) (tagged g tag.start) content)
tag_leads c g t u kind [] e ended open_ = absurd (let same : t ≡ u = cc in let none : None ≡ Some kind = sym open_ ∙ ap (λ (x : tag.State). tag.kind_of x.phase) same ∙ ap tag.kind_of ended in cc)
tag_leads c g t u kind (b ∷ []) e ended open_ =
    let s = at c (tagged g t) part.Tag in
    let v = at (open_core c g.begun (tag.tag_of u kind)) (tagged g tag.start) content in
    let w = at (lined (open_core c g.begun (tag.tag_of u kind)) (b ∷ [])) (tagged g tag.start) content in
    let moves : DocumentSteps.tag_moved s u ≡ v =
    ap (λ (o : Option TagKind). DocumentSteps.ended_tag (record s { tag = u }) (option_map (tag.tag_of u) o)) (ap tag.kind_of ended) ∙ ap (λ (x : List Token). at (record (open_core c g.begun (tag.tag_of u kind)) { tokens = x }) (tagged g tag.start) content) refl in
    first step s w w b [] (taken s v b (ap (λ (o : Option tag.State). option_map (DocumentSteps.tag_moved s) o) e ∙ ap (λ (x : State). Some x) moves)) refl
tag_leads c g t u kind (b ∷ x ∷ xs) e ended open_ =
    let s = at c (tagged g t) part.Tag in
    let n = stepped tag.step t b (x ∷ xs) u e in
    let more = not_ended n.next u x xs n.leads in
    let v = at c (tagged g n.next) part.Tag in
    let moves : DocumentSteps.tag_moved s n.next ≡ v = ap (λ (o : Option TagKind). DocumentSteps.ended_tag (record s { tag = n.next }) (option_map (tag.tag_of n.next) o)) more in
    first step s (at (lined c (b ∷ [])) (tagged g n.next) part.Tag) (at (lined (open_core c g.begun (tag.tag_of u kind)) (b ∷ x ∷ xs)) (tagged g tag.start) content) b (x ∷ xs)
    (taken s v b (ap (λ (o : Option tag.State). option_map (DocumentSteps.tag_moved s) o) n.is ∙ ap (λ (y : State). Some y) moves))
    (tag_leads (lined c (b ∷ [])) g n.next u kind (x ∷ xs) n.leads ended more)

abbrev begun_tag : tag.State
begun_tag = tag.with_phase tag.start phase.Begin

start_is : (b x : ℕ) → is_name_start b ≡ true → is_name_start x ≡ false → (b == x) ≡ false
start_is b x e f = grind (arith, nat_tests)

pub whole_tag : (c : Core) (g : Scratch) (k : Repeats) (text : List ℕ) (t : Tag) → DocumentSteps.may_open c.rooted c.names ≡ true → IsTag text t
    → Leads (between c g k) text (at (lined (open_core c c.line t) text) (tagged (begun c g) tag.start) content)
whole_tag c g k text t may is = by t.name refl is.name
  where
    by : (name : List ℕ) → t.name ≡ name → is_name name ≡ true → Leads (between c g k) text (at (lined (open_core c c.line t) text) (tagged (begun c g) tag.start) content)
    by [] same name = absurd (cc)
    by (b ∷ bs) same name =
        let starts = (and_both (is_name_start b) (list_all is_name_byte bs) name).0 in
        let more = bs ++ flat_map Tags.written_text is.written ++ is.blanks ++ Tags.end_text t.kind in
        let spelled : text ≡ 60 ∷ b ∷ more = is.spelled ∙ ap (λ (n : List ℕ). Tags.tag_text n is.written is.blanks t.kind) same in
        let end = ends text t is in
        let named = tag.named begun_tag b in
        let begins : tag.step begun_tag b ≡ Some named = yes (is_name_start b) (Some named) None starts in
        let whole : Runs.Leads tag.step tag.start (60 ∷ b ∷ more) end.state = ap (run tag.step (Some tag.start)) (sym spelled) ∙ end.leads in
        let rest : Runs.Leads tag.step named more end.state = sym (ap (λ (o : Option tag.State). run tag.step o more) begins) ∙ whole in
        let h = begun c g in
        let s = at c h part.Markup in
        let u = at c (tagged h named) part.Tag in
        let end_tag = cond (DocumentSteps.has_none c.names) None (DocumentSteps.moved s (part.EndName 0)) in
        let tag_step = DocumentSteps.begin_tag_step s b in
        let slash = cond (b == 47) end_tag tag_step in
        let marked = cond (b == 63) (DocumentSteps.moved s part.Question) slash in
        let first_byte : DocumentSteps.take s b ≡ Some u =
        no (b == 33) (DocumentSteps.moved s part.Exclamation) marked (start_is b 33 starts refl) ∙ no (b == 63) (DocumentSteps.moved s part.Question) slash (start_is b 63 starts refl)
        ∙ no (b == 47) end_tag tag_step (start_is b 47 starts refl)
        ∙ yes (DocumentSteps.may_open c.rooted c.names) (option_map (DocumentSteps.with_tag s) (tag.step begun_tag b)) None may ∙ ap (λ (o : Option tag.State). option_map (DocumentSteps.with_tag s) o) begins in
        let d = lined c (b ∷ []) in
        let last = tag_leads d h named end.state t.kind more rest end.ends refl in
        let z = at (lined (open_core c c.line t) (60 ∷ b ∷ more)) (tagged h tag.start) content in
        subst (λ (x : List ℕ). Leads (between c g k) x (at (lined (open_core c c.line t) x) (tagged h tag.start) content)) (sym spelled)
        (first step s (at d (tagged h named) part.Tag) z b more (taken s u b first_byte) (last ∙ ap (λ (x : Tag). Some (at (lined (open_core d c.line x) more) (tagged h tag.start) content)) end.tag))

-- ---- pieces

-- where a piece leads
abbrev Leading : Core → Scratch → Repeats → List ℕ → Piece → Type 0
Leading c g k text piece = (h : Scratch) × Leads (between c g k) text (between (moved c (record { text = text; piece = piece })) h (next k piece))

spelled_as : (c : Core) (g : Scratch) (k : Repeats) (text x : List ℕ) (piece : Piece) → text ≡ x → Leading c g k x piece → Leading c g k text piece
spelled_as c g k text x piece e lead = subst (λ (y : List ℕ). Leading c g k y piece) (sym e) lead

abbrev core : List Token → List (List ℕ) → Bool → List ℕ → ℕ → Core
core tokens names rooted said line = record { tokens = tokens; names = names; rooted = rooted; said = said; line = line }

piece_leads_in : (tokens : List Token) (names : List (List ℕ)) (rooted : Bool) (said : List ℕ) (line : ℕ) (g : Scratch) (k : Repeats) (text : List ℕ) (piece : Piece)
    → IsPiece text piece → Fits rooted names piece → EndsNothing k piece → Leading (core tokens names rooted said line) g k text piece
piece_leads_in tokens [] rooted said line g k text (Pieces.Character (Tags.Plain b)) is fits ends =
    let c = core tokens [] rooted said line in
    spelled_as c g k text (b ∷ []) (Pieces.Character (Tags.Plain b)) is.0 (g, whole_blank c g k b refl fits)
piece_leads_in tokens [] rooted said line g k text (Pieces.Character (Tags.Reference name)) is fits ends = absurd (cc)
piece_leads_in tokens [] rooted said line g k text (Pieces.Section body) is fits ends = absurd (cc)
piece_leads_in tokens [] rooted said line g k text Pieces.Comment is fits ends =
    let c = core tokens [] rooted said line in (begun c g, whole_comment c g k text is)
piece_leads_in tokens [] rooted said line g k text Pieces.Instruction is fits ends =
    let c = core tokens [] rooted said line in whole_instruction c g k text is
piece_leads_in tokens [] rooted said line g k text (Pieces.Opened t) is fits ends =
    let c = core tokens [] rooted said line in
    let all = whole_tag c g k text t fits is in
    (tagged (begun c g) tag.start, all ∙ ap (λ (x : List Token). Some (at (record (lined (open_core c line t) text) { tokens = x }) (tagged (begun c g) tag.start) content)) (append_assoc tokens (text_token line said) (DocumentSteps.token (Tokens.Open t.name t.attributes) line ∷ closing line t.kind)))
piece_leads_in tokens [] rooted said line g k text (Pieces.Closed name) is fits ends = absurd (cc)
piece_leads_in tokens (n ∷ ns) rooted said line g k text (Pieces.Character (Tags.Plain b)) is fits ends =
    let c = core tokens (n ∷ ns) rooted said line in
    spelled_as c g k text (b ∷ []) (Pieces.Character (Tags.Plain b)) is.0 (g, whole_byte c g k b refl is.1 ends)
piece_leads_in tokens (n ∷ ns) rooted said line g k text (Pieces.Character (Tags.Reference name)) is fits ends =
    let c = core tokens (n ∷ ns) rooted said line in
    spelled_as c g k text (part_text (Tags.Reference name)) (Pieces.Character (Tags.Reference name)) is.0 (worded g name, whole_reference c g k name refl is.1)
piece_leads_in tokens (n ∷ ns) rooted said line g k text (Pieces.Section body) is fits ends =
    let c = core tokens (n ∷ ns) rooted said line in (begun c g, whole_section c g k text body refl is)
piece_leads_in tokens (n ∷ ns) rooted said line g k text Pieces.Comment is fits ends =
    let c = core tokens (n ∷ ns) rooted said line in (begun c g, whole_comment c g k text is)
piece_leads_in tokens (n ∷ ns) rooted said line g k text Pieces.Instruction is fits ends =
    let c = core tokens (n ∷ ns) rooted said line in whole_instruction c g k text is
piece_leads_in tokens (n ∷ ns) rooted said line g k text (Pieces.Opened t) is fits ends =
    let c = core tokens (n ∷ ns) rooted said line in
    let all = whole_tag c g k text t fits is in
    (tagged (begun c g) tag.start, all ∙ ap (λ (x : List Token). Some (at (record (lined (open_core c line t) text) { tokens = x }) (tagged (begun c g) tag.start) content)) (append_assoc tokens (text_token line said) (DocumentSteps.token (Tokens.Open t.name t.attributes) line ∷ closing line t.kind)))
piece_leads_in tokens (n ∷ ns) rooted said line g k text (Pieces.Closed name) is fits ends =
    let c = core tokens (n ∷ ns) rooted said line in
    let all = whole_end c g k n ns text (subst (λ (m : List ℕ). IsEndTag text m) fits is) in
    (begun c g, all ∙ ap (λ (x : List Token). Some (at (record (lined (shut c line) text) { tokens = x }) (begun c g) content)) (append_assoc tokens (text_token line said) (DocumentSteps.token Tokens.Close line ∷ [])))

pub piece_leads : (c : Core) (g : Scratch) (k : Repeats) (w : Written) → IsPiece w.text w.piece → Fits c.rooted c.names w.piece → EndsNothing k w.piece
    → (h : Scratch) × Leads (between c g k) w.text (between (moved c w) h (next k w.piece))
piece_leads c g k w is fits ends = piece_leads_in c.tokens c.names c.rooted c.said c.line g k w.text w.piece is fits ends

pub path_leads : (c : Core) (g : Scratch) (k : Repeats) (ws : List Written) → Path c k ws → (h : Scratch) × Leads (between c g k) (texts ws) (between (core_after c ws) h (count_after k ws))
path_leads c g k [] path = (g, refl)
path_leads c g k (w ∷ ws) path =
    let one = piece_leads c g k w path.piece path.fits path.ends in
    let rest = path_leads (moved c w) one.0 (next k w.piece) ws path.rest in
    (rest.0, then step (between c g k) (between (moved c w) one.0 (next k w.piece)) (between (core_after (moved c w) ws) rest.0 (count_after (next k w.piece) ws)) w.text (texts ws) one.1 rest.1)
