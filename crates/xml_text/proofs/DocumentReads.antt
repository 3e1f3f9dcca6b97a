-- What is read is pieces of a document.
use Rattle.std.proofs.Common.{◌≡◌, ◌⊎◌, inl, inr, ℕ, ◌+◌, ◌<◌, zero, suc, Bool, true, false, ◌==◌, ◌&&◌, ◌||◌, not, Option, Some, None, List, [], ◌∷◌, ◌++◌, length, cond, codes, refl, sym, ap, ◌∙◌, subst, append_assoc, append-nil, is_some, arith}
use Rattle.std.specs.List.{list_all}
use Rattle.std.specs.Option.{option_map}
use Rattle.std.specs.Prelude.{slice_get}
use Rattle.std.proofs.lemmas.Bool.Decides.{nat_tests}
use Rattle.idn_text.specs.Stops.{run}
use Rattle.idn_text.proofs.StopLemmas.{run_none}
use Rattle.xml_text.specs.declared.attribute.TagKind.{TagKind}
use Rattle.xml_text.specs.declared.document_state.Part.{Part}
use Rattle.xml_text.specs.declared.document_state.Part.TheVariants as part
use Rattle.xml_text.specs.declared.repeats.Repeats.{Repeats}
use Rattle.xml_text.specs.declared.repeats.Repeats.TheVariants as repeats
use Rattle.xml_text.specs.declared.state.Phase.TheVariants as phase
use Rattle.xml_text.specs.Documents.{Written, texts, text_token, closing}
use Rattle.xml_text.specs.LineEnds.{next_line}
use Rattle.xml_text.specs.Names.{is_blank, AreBlanks, is_name_start, is_name_byte, is_reference_byte}
use Rattle.xml_text.specs.Pieces
use Rattle.xml_text.specs.Pieces.{Piece, has, begins_with, begins_blank, is_xml, IsPiece, IsSection, IsComment, IsInstruction, IsEndTag, is_content}
use Rattle.xml_text.specs.References.{referenced}
use Rattle.xml_text.specs.Tags
use Rattle.xml_text.specs.Tags.{Tag, IsTag, part_text, utf8_of_reference}
use Rattle.xml_text.specs.Tokens
use Rattle.xml_text.specs.Tokens.{Token}
use Rattle.xml_text.specs.inner.DocumentSteps
use Rattle.xml_text.specs.inner.DocumentSteps.{State, step, content, after, is_two, times, resolved, with_word, end_blank_step, target_end_step}
use Rattle.xml_text.specs.inner.TagSteps as tag
use Rattle.xml_text.proofs.ListLemmas.{and_both, both_and, all_snoc, is_byte}
use Rattle.xml_text.proofs.Runs
use Rattle.xml_text.proofs.Runs.{yes, no, decide}
use Rattle.xml_text.proofs.TagReads.{tag_read}
use Rattle.xml_text.proofs.TagRuns.{blank_is_none}
use Rattle.xml_text.proofs.Words.{brackets, dashes, mark, marks, two_dashes, ends_section, ends_instruction, and_false}
use Rattle.xml_text.proofs.DocumentStates.{Core, Scratch, at, between, Leads, lined, saying, Fits, moved, next, EndsNothing, Path, core_after, count_after}
use Rattle.xml_text.proofs.DocumentRuns.{not_two, told, in_, shut, open_core, tagged, worded, expected_at, nothing_expected, length_snoc}

-- ---- reading on

-- reading is where another piece may begin
pub record Final (u : State) : Type 0 where
  pub count : Repeats
  pub is : u.part ≡ part.Content count

ends_at : (s u : State) → Leads s [] u → (f : Final u) → s.part ≡ part.Content f.count
ends_at s u e f = ap (λ (x : State). x.part) (let same : s ≡ u = cc in same) ∙ f.is

dead : {A : Type 0} (bs : List ℕ) (u : State) → run step None bs ≡ Some u → A
dead bs u e = absurd (let none : None ≡ Some u = sym (run_none step bs) ∙ e in cc)

-- what follows a byte
follows : (s : State) (b : ℕ) (bs : List ℕ) (u : State) (o : Option State) → DocumentSteps.take s b ≡ o → Leads s (b ∷ bs) u → run step (option_map (DocumentSteps.on_line (next_line s.line b)) o) bs ≡ Some u
follows s b bs u o is e = sym (ap (λ (x : Option State). run step (option_map (DocumentSteps.on_line (next_line s.line b)) x) bs) is) ∙ e

option_cases : {X : Type 0} (o : Option X) → (o ≡ None) ⊎ ((x : X) × (o ≡ Some x))
option_cases None = inl refl
option_cases (Some x) = inr (x, refl)

-- the rest of something that changes nothing but the line
record Rest (c : Core) (g : Scratch) (text : List ℕ) (u : State) (Is : List ℕ → Type 0) : Type 0 where
  used : List ℕ
  rest : List ℕ
  spelled : text ≡ used ++ rest
  is : Is used
  shorter : length rest < length text
  leads : Leads (at (lined c used) g content) rest u

rest_more : (c : Core) (g : Scratch) (b : ℕ) (bs : List ℕ) (u : State) (Is More : List ℕ → Type 0) → Rest (lined c (b ∷ [])) g bs u Is → ((used : List ℕ) → Is used → More (b ∷ used))
    → Rest c g (b ∷ bs) u More
rest_more c g b bs u Is More r f = record {
  used = b ∷ r.used;
  rest = r.rest;
  spelled = ap (λ (l : List ℕ). b ∷ l) r.spelled;
  is = f r.used r.is;
  shorter = (let h : length r.rest < length bs = r.shorter in omega arith);
  leads = r.leads;
}

rest_last : (c : Core) (g : Scratch) (b : ℕ) (bs : List ℕ) (u : State) (Is : List ℕ → Type 0) → Is (b ∷ []) → Leads (at (lined c (b ∷ [])) g content) bs u → Rest c g (b ∷ bs) u Is
rest_last c g b bs u Is is e = record { used = b ∷ []; rest = bs; spelled = refl; is = is; shorter = omega arith; leads = e }

last_reads : (c : Core) (g : Scratch) (p : Part) (text : List ℕ) (u : State) → ((b : ℕ) → DocumentSteps.take (at c g p) b ≡ cond (b == 62) (Some (at c g content)) None)
    → ((k : Repeats) → p ≡ part.Content k → ⊥) → Leads (at c g p) text u → Final u → Rest c g text u (λ used. used ≡ 62 ∷ [])
last_reads c g p [] u last other e f = absurd (other f.count (ends_at (at c g p) u e f))
last_reads c g p (b ∷ bs) u last other e f = elim (decide (b == 62)) [
  | inl is ↦
      rest_last c g b bs u (λ used. used ≡ 62 ∷ []) (ap (λ (x : ℕ). x ∷ []) (is_byte b 62 is))
      (follows (at c g p) b bs u (Some (at c g content)) (last b ∙ yes (b == 62) (Some (at c g content)) None is) e)
  | inr is ↦ dead bs u (follows (at c g p) b bs u None (last b ∙ no (b == 62) (Some (at c g content)) None is) e)
]

-- ---- comments

abbrev CommentRest : Repeats → List ℕ → Type 0
CommentRest k used = (body : List ℕ) × (times k 45 ++ used ≡ body ++ codes "-->") × (has two_dashes (body ++ 45 ∷ []) ≡ false)

comment_more : (b : ℕ) (used : List ℕ) → CommentRest (after (b == 45) repeats.Zero) used → CommentRest repeats.Zero (b ∷ used)
comment_more b used r = elim (decide (b == 45)) [
  | inl is ↦
      let one : CommentRest repeats.One used = subst (λ (o : Bool). CommentRest (after o repeats.Zero) used) is r in
      (one.0, ap (λ (x : ℕ). x ∷ used) (is_byte b 45 is) ∙ one.1, one.2)
  | inr is ↦
      let none : CommentRest repeats.Zero used = subst (λ (o : Bool). CommentRest (after o repeats.Zero) used) is r in
      (b ∷ none.0, ap (λ (l : List ℕ). b ∷ l) none.1, dashes repeats.Zero b (none.0 ++ 45 ∷ []) refl ∙ ap (λ (o : Bool). has two_dashes (times (after o repeats.Zero) 45 ++ (none.0 ++ 45 ∷ []))) is ∙ none.2)
]

comment_after_dash : (b : ℕ) (used : List ℕ) → (b == 45) ≡ false → CommentRest repeats.Zero used → CommentRest repeats.One (b ∷ used)
comment_after_dash b used is r = (
  45 ∷ b ∷ r.0,
  ap (λ (l : List ℕ). 45 ∷ b ∷ l) r.1,
  dashes repeats.One b (r.0 ++ 45 ∷ []) refl ∙ ap (λ (o : Bool). o || has two_dashes (times (after o repeats.Zero) 45 ++ (r.0 ++ 45 ∷ []))) is ∙ r.2,
)

comment_ended : (b : ℕ) (used : List ℕ) → b ≡ 45 → used ≡ 62 ∷ [] → CommentRest repeats.One (b ∷ used)
comment_ended b used is last = ([], ap (λ (x : ℕ). 45 ∷ x ∷ used) is ∙ ap (λ (l : List ℕ). 45 ∷ 45 ∷ l) last, refl)

comment_reads : (c : Core) (g : Scratch) (k : Repeats) (text : List ℕ) (u : State) → is_two k ≡ false → Leads (at c g (part.Comment k)) text u → Final u → Rest c g text u (CommentRest k)
comment_reads c g repeats.Two text u few e f = absurd (cc)
comment_reads c g repeats.Zero [] u few e f = absurd (let h : part.Comment repeats.Zero ≡ part.Content f.count = ends_at (at c g (part.Comment repeats.Zero)) u e f in cc)
comment_reads c g repeats.One [] u few e f = absurd (let h : part.Comment repeats.One ≡ part.Content f.count = ends_at (at c g (part.Comment repeats.One)) u e f in cc)
comment_reads c g repeats.Zero (b ∷ bs) u few e f =
    rest_more c g b bs u (CommentRest (after (b == 45) repeats.Zero)) (CommentRest repeats.Zero) (comment_reads (lined c (b ∷ [])) g (after (b == 45) repeats.Zero) bs u (not_two (b == 45)) e f)
    (λ used r. comment_more b used r)
comment_reads c g repeats.One (b ∷ bs) u few e f = elim (decide (b == 45)) [
  | inl is ↦
      let d = lined c (b ∷ []) in
      let two : Leads (at d g (part.Comment repeats.Two)) bs u = subst (λ (o : Bool). Leads (at d g (part.Comment (after o repeats.One))) bs u) is e in
      rest_more c g b bs u (λ used. used ≡ 62 ∷ []) (CommentRest repeats.One) (last_reads d g (part.Comment repeats.Two) bs u (λ x. refl) (λ k h. cc) two f) (λ used last. comment_ended b used (is_byte b 45 is) last)
  | inr is ↦
      let d = lined c (b ∷ []) in
      let none : Leads (at d g (part.Comment repeats.Zero)) bs u = subst (λ (o : Bool). Leads (at d g (part.Comment (after o repeats.One))) bs u) is e in
      rest_more c g b bs u (CommentRest repeats.Zero) (CommentRest repeats.One) (comment_reads d g repeats.Zero bs u refl none f) (λ used r. comment_after_dash b used is r)
]

-- ---- sections

record SectionRead (c : Core) (g : Scratch) (k : Repeats) (text : List ℕ) (u : State) : Type 0 where
  used : List ℕ
  rest : List ℕ
  body : List ℕ
  spelled : text ≡ used ++ rest
  is : times k 93 ++ used ≡ body ++ codes "]]>"
  none : has ends_section body ≡ false
  shorter : length rest < length text
  leads : Leads (at (told c (c.said ++ body) used) g content) rest u

second_bracket : (x : ℕ) (xs used : List ℕ) → 93 ∷ 93 ∷ used ≡ (x ∷ xs) ++ codes "]]>" → begins_with (93 ∷ 62 ∷ []) (x ∷ xs) ≡ false
second_bracket x [] used e = and_false (93 == x)
second_bracket x (y ∷ ys) used e =
    let same : 93 ≡ y = cc in
    ap (λ (z : ℕ). (93 == x) && ((62 == z) && true)) (sym same) ∙ and_false (93 == x)

third_bracket : (body used : List ℕ) → 93 ∷ 93 ∷ used ≡ body ++ codes "]]>" → has ends_section body ≡ false → has ends_section (93 ∷ body) ≡ false
third_bracket [] used e none = refl
third_bracket (x ∷ xs) used e none = ap (λ (o : Bool). o || has ends_section (x ∷ xs)) (second_bracket x xs used e) ∙ none

section_flushed : (c : Core) (g : Scratch) (k : Repeats) (b : ℕ) (bs : List ℕ) (u : State) → (b == 93) ≡ false → (is_two k && b == 62) ≡ false
    → SectionRead (lined (saying c (times k 93 ++ b ∷ [])) (b ∷ [])) g repeats.Zero bs u → SectionRead c g k (b ∷ bs) u
section_flushed c g k b bs u is ends r = record {
  used = b ∷ r.used;
  rest = r.rest;
  body = times k 93 ++ b ∷ r.body;
  spelled = ap (λ (l : List ℕ). b ∷ l) r.spelled;
  is = ap (λ (l : List ℕ). times k 93 ++ b ∷ l) r.is ∙ sym (append_assoc (times k 93) (b ∷ r.body) (codes "]]>"));
  none = brackets k b r.body ∙ ap (λ (o : Bool). o || has ends_section (times (after (b == 93) k) 93 ++ r.body)) ends ∙ ap (λ (o : Bool). has ends_section (times (after o k) 93 ++ r.body)) is ∙ r.none;
  shorter = (let h : length r.rest < length bs = r.shorter in omega arith);
  leads = subst (λ (x : List ℕ). Leads (at (told c x (b ∷ r.used)) g content) r.rest u)
      (append_assoc c.said (times k 93 ++ b ∷ []) r.body ∙ ap (λ (x : List ℕ). c.said ++ x) (append_assoc (times k 93) (b ∷ []) r.body)) r.leads;
}

section_plain : (c : Core) (g : Scratch) (k : Repeats) (b : ℕ) (bs : List ℕ) (u : State) → (b == 93) ≡ false → (is_two k && b == 62) ≡ false → Leads (at c g (part.Section k)) (b ∷ bs) u
    → Leads (at (lined (saying c (times k 93 ++ b ∷ [])) (b ∷ [])) g (part.Section repeats.Zero)) bs u
section_plain c g k b bs u is ends e =
    let s = at c g (part.Section k) in
    let t = at (saying c (times k 93 ++ b ∷ [])) g (part.Section repeats.Zero) in
    follows s b bs u (Some t) (no (b == 93) (DocumentSteps.bracket_in_section k s) (cond (is_two k && b == 62) (DocumentSteps.moved s content) (Some t)) is ∙ no (is_two k && b == 62) (DocumentSteps.moved s content) (Some t) ends) e

section_bracket : (c : Core) (g : Scratch) (k : Repeats) (b : ℕ) (bs : List ℕ) (u t : State) → (b == 93) ≡ true → DocumentSteps.bracket_in_section k (at c g (part.Section k)) ≡ Some t → Leads (at c g (part.Section k)) (b ∷ bs) u
    → Leads (DocumentSteps.on_line (next_line c.line b) t) bs u
section_bracket c g k b bs u t is moves e =
    let s = at c g (part.Section k) in
    let plain = cond (is_two k && b == 62) (DocumentSteps.moved s content) (DocumentSteps.moved (DocumentSteps.with_said s (times k 93 ++ b ∷ [])) (part.Section repeats.Zero)) in
    follows s b bs u (Some t) (yes (b == 93) (DocumentSteps.bracket_in_section k s) plain is ∙ moves) e

section_ended : (c : Core) (g : Scratch) (b : ℕ) (bs : List ℕ) (u : State) → (b == 93) ≡ false → (b == 62) ≡ true → Leads (at c g (part.Section repeats.Two)) (b ∷ bs) u → SectionRead c g repeats.Two (b ∷ bs) u
section_ended c g b bs u is ends e =
    let s = at c g (part.Section repeats.Two) in
    let plain = DocumentSteps.moved (DocumentSteps.with_said s (93 ∷ 93 ∷ b ∷ [])) (part.Section repeats.Zero) in
    let last : Leads (at (lined c (b ∷ [])) g content) bs u =
    follows s b bs u (Some (at c g content)) (no (b == 93) (DocumentSteps.bracket_in_section repeats.Two s) (cond (b == 62) (Some (at c g content)) plain) is ∙ yes (b == 62) (Some (at c g content)) plain ends) e in
    record {
      used = b ∷ [];
      rest = bs;
      body = [];
      spelled = refl;
      is = ap (λ (x : ℕ). 93 ∷ 93 ∷ x ∷ []) (is_byte b 62 ends);
      none = refl;
      shorter = omega arith;
      leads = subst (λ (x : List ℕ). Leads (at (told c x (b ∷ [])) g content) bs u) (sym (append-nil c.said)) last;
    }

section_reads : (c : Core) (g : Scratch) (k : Repeats) (text : List ℕ) (u : State) → Leads (at c g (part.Section k)) text u → Final u → SectionRead c g k text u
section_reads c g k [] u e f = absurd (let h : part.Section k ≡ part.Content f.count = ends_at (at c g (part.Section k)) u e f in cc)
section_reads c g repeats.Zero (b ∷ bs) u e f = elim (decide (b == 93)) [
  | inl is ↦
      let r = section_reads (lined c (b ∷ [])) g repeats.One bs u (section_bracket c g repeats.Zero b bs u (at c g (part.Section repeats.One)) is refl e) f in
      record {
        used = b ∷ r.used;
        rest = r.rest;
        body = r.body;
        spelled = ap (λ (l : List ℕ). b ∷ l) r.spelled;
        is = ap (λ (x : ℕ). x ∷ r.used) (is_byte b 93 is) ∙ r.is;
        none = r.none;
        shorter = (let h : length r.rest < length bs = r.shorter in omega arith);
        leads = r.leads;
      }
  | inr is ↦ section_flushed c g repeats.Zero b bs u is refl (section_reads (lined (saying c (b ∷ [])) (b ∷ [])) g repeats.Zero bs u (section_plain c g repeats.Zero b bs u is refl e) f)
]
section_reads c g repeats.One (b ∷ bs) u e f = elim (decide (b == 93)) [
  | inl is ↦
      let r = section_reads (lined c (b ∷ [])) g repeats.Two bs u (section_bracket c g repeats.One b bs u (at c g (part.Section repeats.Two)) is refl e) f in
      record {
        used = b ∷ r.used;
        rest = r.rest;
        body = r.body;
        spelled = ap (λ (l : List ℕ). b ∷ l) r.spelled;
        is = ap (λ (x : ℕ). 93 ∷ x ∷ r.used) (is_byte b 93 is) ∙ r.is;
        none = r.none;
        shorter = (let h : length r.rest < length bs = r.shorter in omega arith);
        leads = r.leads;
      }
  | inr is ↦ section_flushed c g repeats.One b bs u is refl (section_reads (lined (saying c (93 ∷ b ∷ [])) (b ∷ [])) g repeats.Zero bs u (section_plain c g repeats.One b bs u is refl e) f)
]
section_reads c g repeats.Two (b ∷ bs) u e f = elim (decide (b == 93)) [
  | inl is ↦
      let d = saying c (93 ∷ []) in
      let r = section_reads (lined d (b ∷ [])) g repeats.Two bs u (section_bracket c g repeats.Two b bs u (at d g (part.Section repeats.Two)) is refl e) f in
      record {
        used = b ∷ r.used;
        rest = r.rest;
        body = 93 ∷ r.body;
        spelled = ap (λ (l : List ℕ). b ∷ l) r.spelled;
        is = ap (λ (x : ℕ). 93 ∷ 93 ∷ x ∷ r.used) (is_byte b 93 is) ∙ ap (λ (l : List ℕ). 93 ∷ l) r.is;
        none = third_bracket r.body r.used r.is r.none;
        shorter = (let h : length r.rest < length bs = r.shorter in omega arith);
        leads = subst (λ (x : List ℕ). Leads (at (told c x (b ∷ r.used)) g content) r.rest u) (append_assoc c.said (93 ∷ []) r.body) r.leads;
      }
  | inr is ↦ elim (decide (b == 62)) [
    | inl ends ↦ section_ended c g b bs u is ends e
    | inr ends ↦ section_flushed c g repeats.Two b bs u is ends (section_reads (lined (saying c (93 ∷ 93 ∷ b ∷ [])) (b ∷ [])) g repeats.Zero bs u (section_plain c g repeats.Two b bs u is ends e) f)
  ]
]

-- ---- processing instructions

abbrev InstructionRest : Bool → List ℕ → Type 0
InstructionRest m used = (body : List ℕ) × (mark m ++ used ≡ body ++ codes "?>") × (has ends_instruction body ≡ false)

mark_first : (body used : List ℕ) → 63 ∷ used ≡ body ++ codes "?>" → has ends_instruction body ≡ false → has ends_instruction (63 ∷ body) ≡ false
mark_first [] used e none = refl
mark_first (x ∷ xs) used e none =
    let same : 63 ≡ x = cc in
    ap (λ (z : ℕ). ((62 == z) && true) || has ends_instruction (x ∷ xs)) (sym same) ∙ none

after_mark : (m : Bool) (used : List ℕ) → InstructionRest true used → InstructionRest m (63 ∷ used)
after_mark false used r = r
after_mark true used r = (63 ∷ r.0, ap (λ (l : List ℕ). 63 ∷ l) r.1, mark_first r.0 used r.1 r.2)

instruction_more : (m : Bool) (b : ℕ) (used : List ℕ) → (m && b == 62) ≡ false → InstructionRest (b == 63) used → InstructionRest m (b ∷ used)
instruction_more m b used ends r = elim (decide (b == 63)) [
  | inl is ↦ subst (λ (x : ℕ). InstructionRest m (x ∷ used)) (sym (is_byte b 63 is)) (after_mark m used (subst (λ (o : Bool). InstructionRest o used) is r))
  | inr is ↦
      let none : InstructionRest false used = subst (λ (o : Bool). InstructionRest o used) is r in (
        mark m ++ b ∷ none.0,
        ap (λ (l : List ℕ). mark m ++ b ∷ l) none.1 ∙ sym (append_assoc (mark m) (b ∷ none.0) (codes "?>")),
        marks m b none.0 ∙ ap (λ (o : Bool). o || has ends_instruction (mark (b == 63) ++ none.0)) ends ∙ ap (λ (o : Bool). has ends_instruction (mark o ++ none.0)) is ∙ none.2,
      )
]

instruction_ended : (m : Bool) (b : ℕ) → m ≡ true → b ≡ 62 → InstructionRest m (b ∷ [])
instruction_ended m b is ends = ([], ap (λ (o : Bool). mark o ++ b ∷ []) is ∙ ap (λ (x : ℕ). 63 ∷ x ∷ []) ends, refl)

instruction_reads : (c : Core) (g : Scratch) (m : Bool) (text : List ℕ) (u : State) → Leads (at c g (part.Instruction m)) text u → Final u → Rest c g text u (InstructionRest m)
instruction_reads c g m [] u e f = absurd (let h : part.Instruction m ≡ part.Content f.count = ends_at (at c g (part.Instruction m)) u e f in cc)
instruction_reads c g m (b ∷ bs) u e f = elim (decide (m && b == 62)) [
  | inl ends ↦
      let both = and_both m (b == 62) ends in
      let s = at c g (part.Instruction m) in
      rest_last c g b bs u (InstructionRest m) (instruction_ended m b both.0 (is_byte b 62 both.1))
      (follows s b bs u (Some (at c g content)) (yes (m && b == 62) (Some (at c g content)) (DocumentSteps.moved s (part.Instruction (b == 63))) ends) e)
  | inr ends ↦
      let s = at c g (part.Instruction m) in
      let t = at c g (part.Instruction (b == 63)) in
      rest_more c g b bs u (InstructionRest (b == 63)) (InstructionRest m)
      (instruction_reads (lined c (b ∷ [])) g (b == 63) bs u (follows s b bs u (Some t) (no (m && b == 62) (DocumentSteps.moved s content) (Some t) ends) e) f) (λ used r. instruction_more m b used ends r)
]

record TargetRead (c : Core) (w text : List ℕ) (u : State) : Type 0 where
  target : List ℕ
  body : List ℕ
  used : List ℕ
  rest : List ℕ
  scratch : Scratch
  spelled : text ≡ used ++ rest
  is : used ≡ target ++ (body ++ codes "?>")
  bytes : list_all is_name_byte target ≡ true
  other : is_xml (w ++ target) ≡ false
  separated : begins_blank body ≡ true
  ends : has ends_instruction body ≡ false
  shorter : length rest < length text
  leads : Leads (at (lined c used) scratch content) rest u

target_ended : (c : Core) (g : Scratch) (w : List ℕ) (b : ℕ) (bs : List ℕ) (u : State) → is_xml w ≡ false → (b == 63) ≡ true → Leads (at (lined c (b ∷ [])) (worded g w) part.TargetEnd) bs u → Final u → TargetRead c w (b ∷ bs) u
target_ended c g w b bs u other is e f =
    let r = last_reads (lined c (b ∷ [])) (worded g w) part.TargetEnd bs u (λ x. refl) (λ k h. cc) e f in
    record {
      target = [];
      body = [];
      used = b ∷ r.used;
      rest = r.rest;
      scratch = worded g w;
      spelled = ap (λ (l : List ℕ). b ∷ l) r.spelled;
      is = ap (λ (x : ℕ). x ∷ r.used) (is_byte b 63 is) ∙ ap (λ (l : List ℕ). 63 ∷ l) r.is;
      bytes = refl;
      other = ap (λ (x : List ℕ). is_xml x) (append-nil w) ∙ other;
      separated = refl;
      ends = refl;
      shorter = (let h : length r.rest < length bs = r.shorter in omega arith);
      leads = r.leads;
    }

target_left : (c : Core) (g : Scratch) (w : List ℕ) (b : ℕ) (bs : List ℕ) (u : State) → is_xml w ≡ false → (b == 63) ≡ false → is_blank b ≡ true → Leads (at (lined c (b ∷ [])) (worded g w) (part.Instruction false)) bs u → Final u
    → TargetRead c w (b ∷ bs) u
target_left c g w b bs u other is blank e f =
    let r = instruction_reads (lined c (b ∷ [])) (worded g w) false bs u e f in
    record {
      target = [];
      body = b ∷ r.is.0;
      used = b ∷ r.used;
      rest = r.rest;
      scratch = worded g w;
      spelled = ap (λ (l : List ℕ). b ∷ l) r.spelled;
      is = ap (λ (l : List ℕ). b ∷ l) r.is.1;
      bytes = refl;
      other = ap (λ (x : List ℕ). is_xml x) (append-nil w) ∙ other;
      separated = blank;
      ends = marks false b r.is.0 ∙ ap (λ (o : Bool). has ends_instruction (mark o ++ r.is.0)) is ∙ r.is.2;
      shorter = (let h : length r.rest < length bs = r.shorter in omega arith);
      leads = r.leads;
    }

target_reads : (c : Core) (g : Scratch) (w text : List ℕ) (u : State) → Leads (at c (worded g w) part.Target) text u → Final u → TargetRead c w text u
target_reads c g w [] u e f = absurd (let h : part.Target ≡ part.Content f.count = ends_at (at c (worded g w) part.Target) u e f in cc)
target_reads c g w (b ∷ bs) u e f =
    let s = at c (worded g w) part.Target in
    let named = at c (worded g (w ++ b ∷ [])) part.Target in
    let blank = cond (is_blank b) (DocumentSteps.moved s (part.Instruction false)) (let o : Option State = None in o) in
    let ended = cond (b == 63) (DocumentSteps.moved s part.TargetEnd) blank in
    let past = cond (is_xml w) (let o : Option State = None in o) ended in
    elim (decide (is_name_byte b)) [
      | inl is ↦
          let r = target_reads (lined c (b ∷ [])) g (w ++ b ∷ []) bs u (follows s b bs u (Some named) (yes (is_name_byte b) (Some named) past is) e) f in
          record {
            target = b ∷ r.target;
            body = r.body;
            used = b ∷ r.used;
            rest = r.rest;
            scratch = r.scratch;
            spelled = ap (λ (l : List ℕ). b ∷ l) r.spelled;
            is = ap (λ (l : List ℕ). b ∷ l) r.is;
            bytes = both_and (is_name_byte b) (list_all is_name_byte r.target) is r.bytes;
            other = ap (λ (x : List ℕ). is_xml x) (sym (append_assoc w (b ∷ []) r.target)) ∙ r.other;
            separated = r.separated;
            ends = r.ends;
            shorter = (let h : length r.rest < length bs = r.shorter in omega arith);
            leads = r.leads;
          }
      | inr is ↦ elim (decide (is_xml w)) [
        | inl xml ↦ dead bs u (follows s b bs u None (no (is_name_byte b) (Some named) past is ∙ yes (is_xml w) None ended xml) e)
        | inr other ↦ elim (decide (b == 63)) [
          | inl last ↦ target_ended c g w b bs u other last
              (follows s b bs u (DocumentSteps.moved s part.TargetEnd) (no (is_name_byte b) (Some named) past is ∙ no (is_xml w) None ended other ∙ yes (b == 63) (DocumentSteps.moved s part.TargetEnd) blank last) e) f
          | inr more ↦ elim (decide (is_blank b)) [
            | inl blanks ↦ target_left c g w b bs u other more blanks
                (follows s b bs u (DocumentSteps.moved s (part.Instruction false)) (no (is_name_byte b) (Some named) past is ∙ no (is_xml w) None ended other ∙ no (b == 63) (DocumentSteps.moved s part.TargetEnd) blank more
                ∙ yes (is_blank b) (DocumentSteps.moved s (part.Instruction false)) None blanks) e) f
            | inr none ↦ dead bs u (follows s b bs u None (no (is_name_byte b) (Some named) past is ∙ no (is_xml w) None ended other ∙ no (b == 63) (DocumentSteps.moved s part.TargetEnd) blank more
                ∙ no (is_blank b) (DocumentSteps.moved s (part.Instruction false)) None none) e)
          ]
        ]
      ]
    ]

-- ---- references

record ReferenceRead (c : Core) (g : Scratch) (w text : List ℕ) (u : State) : Type 0 where
  name : List ℕ
  used : List ℕ
  rest : List ℕ
  spelled : text ≡ used ++ rest
  is : w ++ used ≡ name ++ 59 ∷ []
  known : is_content (Tags.Reference name) ≡ true
  shorter : length rest < length text
  leads : Leads (at (told c (c.said ++ utf8_of_reference (referenced name)) used) (worded g name) content) rest u

resolved_as : (s : State) (o : Option ℕ) → is_some o ≡ true → resolved s o ≡ DocumentSteps.moved (DocumentSteps.with_said s (utf8_of_reference o)) content
resolved_as s (Some c) e = refl
resolved_as s None e = absurd (cc)

reference_reads : (c : Core) (g : Scratch) (w text : List ℕ) (u : State) → list_all is_reference_byte w ≡ true → Leads (at c (worded g w) part.Reference) text u → Final u → ReferenceRead c g w text u
reference_reads c g w [] u are e f = absurd (let h : part.Reference ≡ part.Content f.count = ends_at (at c (worded g w) part.Reference) u e f in cc)
reference_reads c g w (b ∷ bs) u are e f =
    let s = at c (worded g w) part.Reference in
    let more = at c (worded g (w ++ b ∷ [])) part.Reference in
    let further = cond (is_reference_byte b) (Some more) (let o : Option State = None in o) in
    elim (decide (b == 59)) [
      | inl is ↦ elim (option_cases (referenced w)) [
        | inl none ↦ dead bs u (follows s b bs u None (yes (b == 59) (resolved s (referenced w)) further is ∙ ap (λ (o : Option ℕ). resolved s o) none) e)
        | inr some ↦
            let found : is_some (referenced w) ≡ true = ap (λ (o : Option ℕ). is_some o) some.1 in
            record {
              name = w;
              used = b ∷ [];
              rest = bs;
              spelled = refl;
              is = ap (λ (x : ℕ). w ++ x ∷ []) (is_byte b 59 is);
              known = both_and (list_all is_reference_byte w) (is_some (referenced w)) are found;
              shorter = omega arith;
              leads = follows s b bs u (DocumentSteps.moved (DocumentSteps.with_said s (utf8_of_reference (referenced w))) content) (yes (b == 59) (resolved s (referenced w)) further is ∙ resolved_as s (referenced w) found) e;
            }
      ]
      | inr is ↦ elim (decide (is_reference_byte b)) [
        | inl byte ↦
            let r = reference_reads (lined c (b ∷ [])) g (w ++ b ∷ []) bs u (all_snoc is_reference_byte w b are byte)
            (follows s b bs u (Some more) (no (b == 59) (resolved s (referenced w)) further is ∙ yes (is_reference_byte b) (Some more) None byte) e) f in
            record {
              name = r.name;
              used = b ∷ r.used;
              rest = r.rest;
              spelled = ap (λ (l : List ℕ). b ∷ l) r.spelled;
              is = sym (append_assoc w (b ∷ []) r.used) ∙ r.is;
              known = r.known;
              shorter = (let h : length r.rest < length bs = r.shorter in omega arith);
              leads = r.leads;
            }
        | inr other ↦ dead bs u (follows s b bs u None (no (b == 59) (resolved s (referenced w)) further is ∙ no (is_reference_byte b) (Some more) None other) e)
      ]
    ]

-- ---- end tags

record EndRead (c : Core) (g : Scratch) (name text : List ℕ) (u : State) : Type 0 where
  used : List ℕ
  rest : List ℕ
  blanks : List ℕ
  spelled : text ≡ used ++ rest
  is : used ≡ name ++ (blanks ++ 62 ∷ [])
  are : AreBlanks blanks
  shorter : length rest < length text
  leads : Leads (at (lined (shut c g.begun) used) g content) rest u

-- from where the name is complete
blanks_read : (c : Core) (g : Scratch) (p : Part) (text : List ℕ) (u : State) → ((b : ℕ) → DocumentSteps.take (at c g p) b ≡ end_blank_step (at c g p) b)
    → ((k : Repeats) → p ≡ part.Content k → ⊥) → Leads (at c g p) text u → Final u → EndRead c g [] text u
blanks_read c g p [] u steps other e f = absurd (other f.count (ends_at (at c g p) u e f))
blanks_read c g p (b ∷ bs) u steps other e f =
    let s = at c g p in
    let t = at c g part.EndBlank in
    let blank = cond (is_blank b) (Some t) (let o : Option State = None in o) in
    elim (decide (b == 62)) [
      | inl is ↦ record {
        used = b ∷ [];
        rest = bs;
        blanks = [];
        spelled = refl;
        is = ap (λ (x : ℕ). x ∷ []) (is_byte b 62 is);
        are = refl;
        shorter = omega arith;
        leads = follows s b bs u (Some (at (shut c g.begun) g content)) (steps b ∙ yes (b == 62) (Some (at (shut c g.begun) g content)) blank is) e;
      }
      | inr is ↦ elim (decide (is_blank b)) [
        | inl are ↦
            let r = blanks_read (lined c (b ∷ [])) g part.EndBlank bs u (λ x. refl) (λ k h. cc) (follows s b bs u (Some t) (steps b ∙ no (b == 62) (Some (at (shut c g.begun) g content)) blank is ∙ yes (is_blank b) (Some t) None are) e) f in
            record {
              used = b ∷ r.used;
              rest = r.rest;
              blanks = b ∷ r.blanks;
              spelled = ap (λ (l : List ℕ). b ∷ l) r.spelled;
              is = ap (λ (l : List ℕ). b ∷ l) r.is;
              are = both_and (is_blank b) (list_all is_blank r.blanks) are r.are;
              shorter = (let h : length r.rest < length bs = r.shorter in omega arith);
              leads = r.leads;
            }
        | inr none ↦ dead bs u (follows s b bs u None (steps b ∙ no (b == 62) (Some (at (shut c g.begun) g content)) blank is ∙ no (is_blank b) (Some t) None none) e)
      ]
    ]

end_reads : (c : Core) (g : Scratch) (n : List ℕ) (ns : List (List ℕ)) (pre post text : List ℕ) (u : State) → n ≡ pre ++ post → Leads (at (in_ c n ns) g (part.EndName (length pre))) text u → Final u → EndRead (in_ c n ns) g post text u
end_reads c g n ns pre [] text u e l f =
    blanks_read (in_ c n ns) g (part.EndName (length pre)) text u (λ b. ap (λ (o : Option ℕ). DocumentSteps.expected o (length pre) (at (in_ c n ns) g (part.EndName (length pre))) b) (nothing_expected n pre e)) (λ k h. cc) l f
end_reads c g n ns pre (x ∷ post) [] u e l f = absurd (let h : part.EndName (length pre) ≡ part.Content f.count = ends_at (at (in_ c n ns) g (part.EndName (length pre))) u l f in cc)
end_reads c g n ns pre (x ∷ post) (b ∷ bs) u e l f =
    let d = in_ c n ns in
    let s = at d g (part.EndName (length pre)) in
    let t = at d g (part.EndName (length pre + 1)) in
    let expects = ap (λ (o : Option ℕ). DocumentSteps.expected o (length pre) s b) (expected_at n pre post x e) in
    elim (decide (x == b)) [
      | inl is ↦
          let next_leads : Leads (at (lined d (b ∷ [])) g (part.EndName (length pre + 1))) bs u = follows s b bs u (Some t) (expects ∙ yes (x == b) (Some t) None is) l in
          let r = end_reads (lined c (b ∷ [])) g n ns (pre ++ x ∷ []) post bs u (e ∙ sym (append_assoc pre (x ∷ []) post))
          (subst (λ (i : ℕ). Leads (at (lined d (b ∷ [])) g (part.EndName i)) bs u) (sym (length_snoc pre x)) next_leads) f in
          record {
            used = b ∷ r.used;
            rest = r.rest;
            blanks = r.blanks;
            spelled = ap (λ (l : List ℕ). b ∷ l) r.spelled;
            is = ap (λ (y : ℕ). y ∷ r.used) (sym (is_byte x b is)) ∙ ap (λ (l : List ℕ). x ∷ l) r.is;
            are = r.are;
            shorter = (let h : length r.rest < length bs = r.shorter in omega arith);
            leads = r.leads;
          }
      | inr is ↦ dead bs u (follows s b bs u None (expects ∙ no (x == b) (Some t) None is) l)
    ]

-- ---- tags

record TagRead (c : Core) (g : Scratch) (t : tag.State) (text : List ℕ) (u : State) : Type 0 where
  used : List ℕ
  rest : List ℕ
  last : tag.State
  kind : TagKind
  spelled : text ≡ used ++ rest
  read : Runs.Leads tag.step t used last
  ended : tag.kind_of last.phase ≡ Some kind
  shorter : length rest < length text
  leads : Leads (at (lined (open_core c g.begun (tag.tag_of last kind)) used) (tagged g tag.start) content) rest u

tag_reads : (c : Core) (g : Scratch) (t : tag.State) (text : List ℕ) (u : State) → Leads (at c (tagged g t) part.Tag) text u → Final u → TagRead c g t text u
tag_reads c g t [] u e f = absurd (let h : part.Tag ≡ part.Content f.count = ends_at (at c (tagged g t) part.Tag) u e f in cc)
tag_reads c g t (b ∷ bs) u e f =
    let s = at c (tagged g t) part.Tag in
    elim (option_cases (tag.step t b)) [
      | inl none ↦ dead bs u (follows s b bs u None (ap (λ (o : Option tag.State). option_map (DocumentSteps.tag_moved s) o) none) e)
      | inr some ↦
          let v = some.0 in
          let moves = ap (λ (o : Option tag.State). option_map (DocumentSteps.tag_moved s) o) some.1 in
          elim (option_cases (tag.kind_of v.phase)) [
            | inl open_ ↦
                let w = at c (tagged g v) part.Tag in
                let stays : DocumentSteps.tag_moved s v ≡ w = ap (λ (o : Option TagKind). DocumentSteps.ended_tag w (option_map (tag.tag_of v) o)) open_ in
                let r = tag_reads (lined c (b ∷ [])) g v bs u (follows s b bs u (Some w) (moves ∙ ap (λ (x : State). Some x) stays) e) f in
                record {
                  used = b ∷ r.used;
                  rest = r.rest;
                  last = r.last;
                  kind = r.kind;
                  spelled = ap (λ (l : List ℕ). b ∷ l) r.spelled;
                  read = Runs.first tag.step t v r.last b r.used some.1 r.read;
                  ended = r.ended;
                  shorter = (let h : length r.rest < length bs = r.shorter in omega arith);
                  leads = r.leads;
                }
            | inr ended ↦
                let w = at (open_core c g.begun (tag.tag_of v ended.0)) (tagged g tag.start) content in
                let opens : DocumentSteps.tag_moved s v ≡ w = ap (λ (o : Option TagKind). DocumentSteps.ended_tag (at c (tagged g v) part.Tag) (option_map (tag.tag_of v) o)) ended.1 in
                record {
                  used = b ∷ [];
                  rest = bs;
                  last = v;
                  kind = ended.0;
                  spelled = refl;
                  read = Runs.first tag.step t v v b [] some.1 refl;
                  ended = ended.1;
                  shorter = omega arith;
                  leads = follows s b bs u (Some w) (moves ∙ ap (λ (x : State). Some x) opens) e;
                }
          ]
    ]

-- ---- one piece

-- a piece with which the text begins, and where it leads
pub record PieceRead (c : Core) (k : Repeats) (text : List ℕ) (u : State) : Type 0 where
  pub piece : Written
  pub rest : List ℕ
  pub scratch : Scratch
  pub spelled : text ≡ piece.text ++ rest
  pub is : IsPiece piece.text piece.piece
  pub fits : Fits c.rooted c.names piece.piece
  pub ends : EndsNothing k piece.piece
  pub shorter : length rest < length text
  pub leads : Leads (between (moved c piece) scratch (next k piece.piece)) rest u

abbrev core : List Token → List (List ℕ) → Bool → List ℕ → ℕ → Core
core tokens names rooted said line = record { tokens = tokens; names = names; rooted = rooted; said = said; line = line }

abbrev written : List ℕ → Piece → Written
written text piece = record { text = text; piece = piece }

nothing_ends : (k : Repeats) → (is_two k && false) ≡ false
nothing_ends k = and_false (is_two k)

-- a byte outside the root element
outside_read : (tokens : List Token) (rooted : Bool) (said : List ℕ) (line : ℕ) (g : Scratch) (k : Repeats) (b : ℕ) (bs : List ℕ) (u : State) → (b == 60) ≡ false
    → Leads (between (core tokens [] rooted said line) g k) (b ∷ bs) u → PieceRead (core tokens [] rooted said line) k (b ∷ bs) u
outside_read tokens rooted said line g k b bs u plain e =
    let c = core tokens [] rooted said line in
    let s = between c g k in
    let t = at c g content in
    let blank = cond (is_blank b) (Some t) (let o : Option State = None in o) in
    let markup = DocumentSteps.moved (record s { begun = line }) part.Markup in
    elim (decide (is_blank b)) [
      | inl is ↦ record {
        piece = written (b ∷ []) (Pieces.Character (Tags.Plain b));
        rest = bs;
        scratch = g;
        spelled = refl;
        is = (refl, blank_content b is);
        fits = is;
        ends = ap (λ (o : Bool). is_two k && o) (blank_is_none b 62 is refl) ∙ nothing_ends k;
        shorter = omega arith;
        leads = subst (λ (o : Bool). Leads (between (lined c (b ∷ [])) g (after o k)) bs u) (sym (blank_is_none b 93 is refl))
            (follows s b bs u (Some t) (no (b == 60) markup blank plain ∙ yes (is_blank b) (Some t) None is) e);
      }
      | inr is ↦ dead bs u (follows s b bs u None (no (b == 60) markup blank plain ∙ no (is_blank b) (Some t) None is) e)
    ]
  where
    blank_content : (b : ℕ) → is_blank b ≡ true → is_content (Tags.Plain b) ≡ true
    blank_content b is = grind (arith, nat_tests)

inside_read : (tokens : List Token) (n : List ℕ) (ns : List (List ℕ)) (rooted : Bool) (said : List ℕ) (line : ℕ) (g : Scratch) (k : Repeats) (b : ℕ) (bs : List ℕ) (u : State) → (b == 60) ≡ false
    → Leads (between (core tokens (n ∷ ns) rooted said line) g k) (b ∷ bs) u → Final u → PieceRead (core tokens (n ∷ ns) rooted said line) k (b ∷ bs) u
inside_read tokens n ns rooted said line g k b bs u plain e f =
    let c = core tokens (n ∷ ns) rooted said line in
    let s = between c g k in
    let markup = DocumentSteps.moved (record s { begun = line }) part.Markup in
    let t = at (saying c (b ∷ [])) g (part.Content (after (b == 93) k)) in
    let said_byte = cond (is_two k && b == 62) (let o : Option State = None in o) (Some t) in
    let refers = at c (worded g []) part.Reference in
    let inner = cond (b == 38) (Some refers) said_byte in
    elim (decide (b == 38)) [
      | inl is ↦
          let r = reference_reads (lined c (b ∷ [])) g [] bs u refl (follows s b bs u (Some refers) (no (b == 60) markup inner plain ∙ yes (b == 38) (Some refers) said_byte is) e) f in
          record {
            piece = written (b ∷ r.used) (Pieces.Character (Tags.Reference r.name));
            rest = r.rest;
            scratch = worded g r.name;
            spelled = ap (λ (l : List ℕ). b ∷ l) r.spelled;
            is = (ap (λ (x : ℕ). x ∷ r.used) (is_byte b 38 is) ∙ ap (λ (l : List ℕ). 38 ∷ l) r.is, r.known);
            fits = tt;
            ends = nothing_ends k;
            shorter = (let h : length r.rest < length bs = r.shorter in omega arith);
            leads = r.leads;
          }
      | inr data_byte ↦ elim (decide (is_two k && b == 62)) [
        | inl ends ↦ dead bs u (follows s b bs u None (no (b == 60) markup inner plain ∙ no (b == 38) (Some refers) said_byte data_byte ∙ yes (is_two k && b == 62) None (Some t) ends) e)
        | inr ends ↦ record {
          piece = written (b ∷ []) (Pieces.Character (Tags.Plain b));
          rest = bs;
          scratch = g;
          spelled = refl;
          is = (refl, both_and (not (b == 60) && not (b == 60)) (not (b == 38)) (both_and (not (b == 60)) (not (b == 60)) (denied (b == 60) plain) (denied (b == 60) plain)) (denied (b == 38) data_byte));
          fits = tt;
          ends = ends;
          shorter = omega arith;
          leads = follows s b bs u (Some t) (no (b == 60) markup inner plain ∙ no (b == 38) (Some refers) said_byte data_byte ∙ no (is_two k && b == 62) None (Some t) ends) e;
        }
      ]
    ]
  where
    denied : (b : Bool) → b ≡ false → not b ≡ true
    denied false e = refl
    denied true e = absurd (cc)

-- ---- markup

comment_core_in : (tokens : List Token) (names : List (List ℕ)) (rooted : Bool) (said : List ℕ) (line : ℕ) (text : List ℕ)
    → (moved (core tokens names rooted said line) (written text Pieces.Comment) ≡ lined (core tokens names rooted said line) text) × (moved (core tokens names rooted said line) (written text Pieces.Instruction) ≡ lined (core tokens names rooted said line) text)
comment_core_in tokens [] rooted said line text = (refl, refl)
comment_core_in tokens (n ∷ ns) rooted said line text = (refl, refl)

comment_core : (c : Core) (text : List ℕ) → moved c (written text Pieces.Comment) ≡ lined c text
comment_core c text = (comment_core_in c.tokens c.names c.rooted c.said c.line text).0

instruction_core : (c : Core) (text : List ℕ) → moved c (written text Pieces.Instruction) ≡ lined c text
instruction_core c text = (comment_core_in c.tokens c.names c.rooted c.said c.line text).1

opened_core_in : (tokens : List Token) (names : List (List ℕ)) (rooted : Bool) (said : List ℕ) (line : ℕ) (text : List ℕ) (t : Tag)
    → moved (core tokens names rooted said line) (written text (Pieces.Opened t)) ≡ lined (open_core (core tokens names rooted said line) line t) text
opened_core_in tokens [] rooted said line text t =
    ap (λ (x : List Token). record (lined (open_core (core tokens [] rooted said line) line t) text) { tokens = x }) (sym (append_assoc tokens (text_token line said) (DocumentSteps.token (Tokens.Open t.name t.attributes) line ∷ closing line t.kind)))
opened_core_in tokens (n ∷ ns) rooted said line text t =
    ap (λ (x : List Token). record (lined (open_core (core tokens (n ∷ ns) rooted said line) line t) text) { tokens = x }) (sym (append_assoc tokens (text_token line said) (DocumentSteps.token (Tokens.Open t.name t.attributes) line ∷ closing line t.kind)))

misc_fits_in : (rooted : Bool) (names : List (List ℕ)) → Fits rooted names Pieces.Comment × Fits rooted names Pieces.Instruction
misc_fits_in rooted [] = (refl, refl)
misc_fits_in rooted (n ∷ ns) = (tt, tt)

comment_piece : (c : Core) (h : Scratch) (k : Repeats) (text : List ℕ) (u : State) → Leads (at c h part.CommentBegin) text u → Final u → PieceRead c k (60 ∷ 33 ∷ 45 ∷ text) u
comment_piece c h k [] u e f = absurd (let x : part.CommentBegin ≡ part.Content f.count = ends_at (at c h part.CommentBegin) u e f in cc)
comment_piece c h k (b ∷ bs) u e f =
    let s = at c h part.CommentBegin in
    let t = at c h (part.Comment repeats.Zero) in
    elim (decide (b == 45)) [
      | inl is ↦
          let r = comment_reads (lined c (b ∷ [])) h repeats.Zero bs u refl (follows s b bs u (Some t) (yes (b == 45) (Some t) None is) e) f in
          let text = 60 ∷ 33 ∷ 45 ∷ b ∷ r.used in
          record {
            piece = written text Pieces.Comment;
            rest = r.rest;
            scratch = h;
            spelled = ap (λ (l : List ℕ). 60 ∷ 33 ∷ 45 ∷ b ∷ l) r.spelled;
            is = (r.is.0, ap (λ (x : ℕ). 60 ∷ 33 ∷ 45 ∷ x ∷ r.used) (is_byte b 45 is) ∙ ap (λ (l : List ℕ). 60 ∷ 33 ∷ 45 ∷ 45 ∷ l) r.is.1, r.is.2);
            fits = (misc_fits_in c.rooted c.names).0;
            ends = nothing_ends k;
            shorter = (let x : length r.rest < length bs = r.shorter in omega arith);
            leads = subst (λ (d : Core). Leads (at d h content) r.rest u) (sym (comment_core c text)) r.leads;
          }
      | inr is ↦ dead bs u (follows s b bs u None (no (b == 45) (Some t) None is) e)
    ]

instruction_piece : (c : Core) (h : Scratch) (k : Repeats) (text : List ℕ) (u : State) → Leads (at c h part.Question) text u → Final u → PieceRead c k (60 ∷ 63 ∷ text) u
instruction_piece c h k [] u e f = absurd (let x : part.Question ≡ part.Content f.count = ends_at (at c h part.Question) u e f in cc)
instruction_piece c h k (b ∷ bs) u e f =
    let s = at c h part.Question in
    let t = at c (worded h (b ∷ [])) part.Target in
    elim (decide (is_name_start b)) [
      | inl is ↦
          let r = target_reads (lined c (b ∷ [])) h (b ∷ []) bs u (follows s b bs u (Some t) (yes (is_name_start b) (Some t) None is) e) f in
          let text = 60 ∷ 63 ∷ b ∷ r.used in
          record {
            piece = written text Pieces.Instruction;
            rest = r.rest;
            scratch = r.scratch;
            spelled = ap (λ (l : List ℕ). 60 ∷ 63 ∷ b ∷ l) r.spelled;
            is = record {
              target = b ∷ r.target;
              body = r.body;
              spelled = ap (λ (l : List ℕ). 60 ∷ 63 ∷ b ∷ l) r.is ∙ sym (append_assoc (60 ∷ 63 ∷ b ∷ r.target) r.body (codes "?>"));
              name = both_and (is_name_start b) (list_all is_name_byte r.target) is r.bytes;
              other = r.other;
              separated = r.separated;
              ends = r.ends;
            };
            fits = (misc_fits_in c.rooted c.names).1;
            ends = nothing_ends k;
            shorter = (let x : length r.rest < length bs = r.shorter in omega arith);
            leads = subst (λ (d : Core). Leads (at d r.scratch content) r.rest u) (sym (instruction_core c text)) r.leads;
          }
      | inr is ↦ dead bs u (follows s b bs u None (no (is_name_start b) (Some t) None is) e)
    ]

-- one byte of the word that begins a section
record WordRead (c : Core) (g : Scratch) (x : ℕ) (p : Part) (text : List ℕ) (u : State) : Type 0 where
  rest : List ℕ
  spelled : text ≡ x ∷ rest
  leads : Leads (at (lined c (x ∷ [])) g p) rest u

word_reads : (c : Core) (g : Scratch) (i x : ℕ) (text : List ℕ) (u : State) → slice_get DocumentSteps.section_word i ≡ Some x → Leads (at c g (part.SectionBegin i)) text u → Final u
    → WordRead c g x (DocumentSteps.section_begun (i + 1)) text u
word_reads c g i x [] u expects e f = absurd (let h : part.SectionBegin i ≡ part.Content f.count = ends_at (at c g (part.SectionBegin i)) u e f in cc)
word_reads c g i x (b ∷ bs) u expects e f =
    let s = at c g (part.SectionBegin i) in
    let t = at c g (DocumentSteps.section_begun (i + 1)) in
    let steps = ap (λ (o : Option ℕ). DocumentSteps.section_expected o i s b) expects in
    elim (decide (x == b)) [
      | inl is ↦
          let same : b ≡ x = sym (is_byte x b is) in
          record {
            rest = bs;
            spelled = ap (λ (y : ℕ). y ∷ bs) same;
            leads = subst (λ (y : ℕ). Leads (at (lined c (y ∷ [])) g (DocumentSteps.section_begun (i + 1))) bs u) same (follows s b bs u (Some t) (steps ∙ yes (x == b) (Some t) None is) e);
          }
      | inr is ↦ dead bs u (follows s b bs u None (steps ∙ no (x == b) (Some t) None is) e)
    ]

section_piece : (tokens : List Token) (n : List ℕ) (ns : List (List ℕ)) (rooted : Bool) (said : List ℕ) (line : ℕ) (h : Scratch) (k : Repeats) (text : List ℕ) (u : State)
    → Leads (at (core tokens (n ∷ ns) rooted said line) h (part.SectionBegin 0)) text u → Final u → PieceRead (core tokens (n ∷ ns) rooted said line) k (60 ∷ 33 ∷ 91 ∷ text) u
section_piece tokens n ns rooted said line h k text u e f =
    let c = core tokens (n ∷ ns) rooted said line in
    let w0 = word_reads c h 0 67 text u refl e f in
    let w1 = word_reads c h 1 68 w0.rest u refl w0.leads f in
    let w2 = word_reads c h 2 65 w1.rest u refl w1.leads f in
    let w3 = word_reads c h 3 84 w2.rest u refl w2.leads f in
    let w4 = word_reads c h 4 65 w3.rest u refl w3.leads f in
    let w5 = word_reads c h 5 91 w4.rest u refl w4.leads f in
    let r = section_reads c h repeats.Zero w5.rest u w5.leads f in
    let begins : text ≡ codes "CDATA[" ++ w5.rest =
    w0.spelled ∙ ap (λ (l : List ℕ). 67 ∷ l) w1.spelled ∙ ap (λ (l : List ℕ). 67 ∷ 68 ∷ l) w2.spelled ∙ ap (λ (l : List ℕ). 67 ∷ 68 ∷ 65 ∷ l) w3.spelled
    ∙ ap (λ (l : List ℕ). 67 ∷ 68 ∷ 65 ∷ 84 ∷ l) w4.spelled ∙ ap (λ (l : List ℕ). 67 ∷ 68 ∷ 65 ∷ 84 ∷ 65 ∷ l) w5.spelled in
    let whole : text ≡ (codes "CDATA[" ++ r.used) ++ r.rest = begins ∙ ap (λ (l : List ℕ). codes "CDATA[" ++ l) r.spelled in
    record {
      piece = written (codes "<![CDATA[" ++ r.used) (Pieces.Section r.body);
      rest = r.rest;
      scratch = h;
      spelled = ap (λ (l : List ℕ). 60 ∷ 33 ∷ 91 ∷ l) whole;
      is = (ap (λ (l : List ℕ). codes "<![CDATA[" ++ l) r.is ∙ sym (append_assoc (codes "<![CDATA[") r.body (codes "]]>")), r.none);
      fits = tt;
      ends = nothing_ends k;
      shorter = (let x : length r.rest < length w5.rest = r.shorter in let y : length text ≡ length (codes "CDATA[" ++ w5.rest) = ap length begins in omega arith);
      leads = r.leads;
    }

exclamation_piece : (tokens : List Token) (names : List (List ℕ)) (rooted : Bool) (said : List ℕ) (line : ℕ) (h : Scratch) (k : Repeats) (text : List ℕ) (u : State)
    → Leads (at (core tokens names rooted said line) h part.Exclamation) text u → Final u → PieceRead (core tokens names rooted said line) k (60 ∷ 33 ∷ text) u
exclamation_piece tokens names rooted said line h k [] u e f = absurd (let x : part.Exclamation ≡ part.Content f.count = ends_at (at (core tokens names rooted said line) h part.Exclamation) u e f in cc)
exclamation_piece tokens names rooted said line h k (b ∷ bs) u e f =
    let c = core tokens names rooted said line in
    let s = at c h part.Exclamation in
    let t = at c h part.CommentBegin in
    let begins = at c h (part.SectionBegin 0) in
    let inner = cond (DocumentSteps.has_none names) (let o : Option State = None in o) (Some begins) in
    let section = cond (b == 91) inner (let o : Option State = None in o) in
    elim (decide (b == 45)) [
      | inl is ↦
          let same = is_byte b 45 is in
          subst (λ (x : ℕ). PieceRead c k (60 ∷ 33 ∷ x ∷ bs) u) (sym same)
          (comment_piece c h k bs u (subst (λ (x : ℕ). Leads (at (lined c (x ∷ [])) h part.CommentBegin) bs u) same (follows s b bs u (Some t) (yes (b == 45) (Some t) section is) e)) f)
      | inr is ↦ elim (decide (b == 91)) [
        | inl opens ↦ by names bs u b opens (follows s b bs u inner (no (b == 45) (Some t) section is ∙ yes (b == 91) inner None opens) e) f
        | inr other ↦ dead bs u (follows s b bs u None (no (b == 45) (Some t) section is ∙ no (b == 91) inner None other) e)
      ]
    ]
  where
    by : (names : List (List ℕ)) (bs : List ℕ) (u : State) (b : ℕ) → (b == 91) ≡ true
        → run step (option_map (DocumentSteps.on_line (next_line line b)) (cond (DocumentSteps.has_none names) (let o : Option State = None in o) (Some (at (core tokens names rooted said line) h (part.SectionBegin 0))))) bs ≡ Some u
        → Final u → PieceRead (core tokens names rooted said line) k (60 ∷ 33 ∷ b ∷ bs) u
    by [] bs u b opens e f = dead bs u e
    by (n ∷ ns) bs u b opens e f =
        let c = core tokens (n ∷ ns) rooted said line in
        let same = is_byte b 91 opens in
        subst (λ (x : ℕ). PieceRead c k (60 ∷ 33 ∷ x ∷ bs) u) (sym same)
        (section_piece tokens n ns rooted said line h k bs u (subst (λ (x : ℕ). Leads (at (lined c (x ∷ [])) h (part.SectionBegin 0)) bs u) same e) f)

end_piece : (tokens : List Token) (names : List (List ℕ)) (rooted : Bool) (said : List ℕ) (line : ℕ) (h : Scratch) (k : Repeats) (bs : List ℕ) (u : State) → h.begun ≡ line
    → run step (cond (DocumentSteps.has_none names) (let o : Option State = None in o) (Some (at (core tokens names rooted said line) h (part.EndName 0)))) bs ≡ Some u
    → Final u → PieceRead (core tokens names rooted said line) k (60 ∷ 47 ∷ bs) u
end_piece tokens [] rooted said line h k bs u here e f = dead bs u e
end_piece tokens (n ∷ ns) rooted said line h k bs u here e f =
    let c = core tokens (n ∷ ns) rooted said line in
    let r = end_reads c h n ns [] n bs u refl e f in
    record {
      piece = written (60 ∷ 47 ∷ r.used) (Pieces.Closed n);
      rest = r.rest;
      scratch = h;
      spelled = ap (λ (l : List ℕ). 60 ∷ 47 ∷ l) r.spelled;
      is = (r.blanks, ap (λ (l : List ℕ). 60 ∷ 47 ∷ l) r.is ∙ sym (append_assoc (60 ∷ 47 ∷ n) r.blanks (62 ∷ [])), r.are);
      fits = refl;
      ends = nothing_ends k;
      shorter = (let x : length r.rest < length bs = r.shorter in omega arith);
      leads = subst (λ (x : List Token). Leads (at (record (lined (shut c line) (60 ∷ 47 ∷ r.used)) { tokens = x }) h content) r.rest u) (append_assoc tokens (text_token line said) (DocumentSteps.token Tokens.Close line ∷ []))
          (subst (λ (l : ℕ). Leads (at (lined (shut c l) r.used) h content) r.rest u) here r.leads);
    }

tag_piece : (tokens : List Token) (names : List (List ℕ)) (rooted : Bool) (said : List ℕ) (line : ℕ) (h : Scratch) (k : Repeats) (b : ℕ) (bs : List ℕ) (u : State) → h.begun ≡ line
    → run step (option_map (DocumentSteps.on_line (next_line line b)) (DocumentSteps.begin_tag_step (at (core tokens names rooted said line) h part.Markup) b)) bs ≡ Some u
    → Final u → PieceRead (core tokens names rooted said line) k (60 ∷ b ∷ bs) u
tag_piece tokens names rooted said line h k b bs u here e f =
    let c = core tokens names rooted said line in
    let s = at c h part.Markup in
    let begun_tag = tag.with_phase tag.start phase.Begin in
    let line_of = λ (o : Option State). option_map (DocumentSteps.on_line (next_line line b)) o in
    let tagging = λ (o : Option tag.State). option_map (DocumentSteps.with_tag s) o in
    elim (decide (DocumentSteps.may_open rooted names)) [
      | inr full ↦ dead bs u (sym (ap (λ (o : Option State). run step (line_of o) bs) (no (DocumentSteps.may_open rooted names) (tagging (tag.step begun_tag b)) None full)) ∙ e)
      | inl may ↦
          let opened = sym (ap (λ (o : Option State). run step (line_of o) bs) (yes (DocumentSteps.may_open rooted names) (tagging (tag.step begun_tag b)) None may)) ∙ e in
          elim (option_cases (tag.step begun_tag b)) [
            | inl none ↦ dead bs u (sym (ap (λ (o : Option tag.State). run step (line_of (tagging o)) bs) none) ∙ opened)
            | inr some ↦
                let r = tag_reads (lined c (b ∷ [])) h some.0 bs u (sym (ap (λ (o : Option tag.State). run step (line_of (tagging o)) bs) some.1) ∙ opened) f in
                let read : run tag.step (Some tag.start) (60 ∷ b ∷ r.used) ≡ Some r.last = ap (λ (o : Option tag.State). run tag.step o r.used) some.1 ∙ r.read in
                let t = tag.tag_of r.last r.kind in
                record {
                  piece = written (60 ∷ b ∷ r.used) (Pieces.Opened t);
                  rest = r.rest;
                  scratch = tagged h tag.start;
                  spelled = ap (λ (l : List ℕ). 60 ∷ b ∷ l) r.spelled;
                  is = tag_read (60 ∷ b ∷ r.used) r.last r.kind read r.ended;
                  fits = may;
                  ends = nothing_ends k;
                  shorter = (let x : length r.rest < length bs = r.shorter in omega arith);
                  leads = subst (λ (d : Core). Leads (at d (tagged h tag.start) content) r.rest u) (sym (opened_core_in tokens names rooted said line (60 ∷ b ∷ r.used) t))
                      (subst (λ (l : ℕ). Leads (at (lined (open_core (lined c (b ∷ [])) l t) r.used) (tagged h tag.start) content) r.rest u) here r.leads);
                }
          ]
    ]

markup_piece : (tokens : List Token) (names : List (List ℕ)) (rooted : Bool) (said : List ℕ) (line : ℕ) (h : Scratch) (k : Repeats) (text : List ℕ) (u : State) → h.begun ≡ line
    → Leads (at (core tokens names rooted said line) h part.Markup) text u → Final u → PieceRead (core tokens names rooted said line) k (60 ∷ text) u
markup_piece tokens names rooted said line h k [] u here e f = absurd (let x : part.Markup ≡ part.Content f.count = ends_at (at (core tokens names rooted said line) h part.Markup) u e f in cc)
markup_piece tokens names rooted said line h k (b ∷ bs) u here e f =
    let c = core tokens names rooted said line in
    let s = at c h part.Markup in
    let marks = at c h part.Exclamation in
    let asks = at c h part.Question in
    let ends_ = cond (DocumentSteps.has_none names) (let o : Option State = None in o) (Some (at c h (part.EndName 0))) in
    let opens = DocumentSteps.begin_tag_step s b in
    let slash = cond (b == 47) ends_ opens in
    let question = cond (b == 63) (Some asks) slash in
    elim (decide (b == 33)) [
      | inl is ↦
          let same = is_byte b 33 is in
          subst (λ (x : ℕ). PieceRead c k (60 ∷ x ∷ bs) u) (sym same)
          (exclamation_piece tokens names rooted said line h k bs u (subst (λ (x : ℕ). Leads (at (lined c (x ∷ [])) h part.Exclamation) bs u) same (follows s b bs u (Some marks) (yes (b == 33) (Some marks) question is) e)) f)
      | inr no33 ↦ elim (decide (b == 63)) [
        | inl is ↦
            let same = is_byte b 63 is in
            subst (λ (x : ℕ). PieceRead c k (60 ∷ x ∷ bs) u) (sym same)
            (instruction_piece c h k bs u (subst (λ (x : ℕ). Leads (at (lined c (x ∷ [])) h part.Question) bs u) same (follows s b bs u (Some asks) (no (b == 33) (Some marks) question no33 ∙ yes (b == 63) (Some asks) slash is) e)) f)
        | inr no63 ↦ elim (decide (b == 47)) [
          | inl is ↦
              let same = is_byte b 47 is in
              let e1 = follows s b bs u ends_ (no (b == 33) (Some marks) question no33 ∙ no (b == 63) (Some asks) slash no63 ∙ yes (b == 47) ends_ opens is) e in
              let e2 : run step (option_map (DocumentSteps.on_line line) ends_) bs ≡ Some u = subst (λ (x : ℕ). run step (option_map (DocumentSteps.on_line (next_line line x)) ends_) bs ≡ Some u) same e1 in
              subst (λ (x : ℕ). PieceRead c k (60 ∷ x ∷ bs) u) (sym same) (end_piece tokens names rooted said line h k bs u here (by names bs u e2) f)
          | inr no47 ↦ tag_piece tokens names rooted said line h k b bs u here (follows s b bs u opens (no (b == 33) (Some marks) question no33 ∙ no (b == 63) (Some asks) slash no63 ∙ no (b == 47) ends_ opens no47) e) f
        ]
      ]
    ]
  where
    by : (names : List (List ℕ)) (bs : List ℕ) (u : State) → (let ends_ = cond (DocumentSteps.has_none names) (let o : Option State = None in o) (Some (at (core tokens names rooted said line) h (part.EndName 0))) in
        run step (option_map (DocumentSteps.on_line line) ends_) bs ≡ Some u → run step ends_ bs ≡ Some u)
    by [] bs u = λ e. e
    by (n ∷ ns) bs u = λ e. e

pub piece_reads_in : (tokens : List Token) (names : List (List ℕ)) (rooted : Bool) (said : List ℕ) (line : ℕ) (g : Scratch) (k : Repeats) (b : ℕ) (bs : List ℕ) (u : State)
    → Leads (between (core tokens names rooted said line) g k) (b ∷ bs) u → Final u → PieceRead (core tokens names rooted said line) k (b ∷ bs) u
piece_reads_in tokens names rooted said line g k b bs u e f = elim (decide (b == 60)) [
  | inl is ↦
      let c = core tokens names rooted said line in
      let same = is_byte b 60 is in
      subst (λ (x : ℕ). PieceRead c k (x ∷ bs) u) (sym same) (markup_piece tokens names rooted said line (record g { begun = line }) k bs u refl (subst (λ (x : ℕ). Leads (between c g k) (x ∷ bs) u) same e) f)
  | inr is ↦ by names is e
]
  where
    by : (names : List (List ℕ)) → (b == 60) ≡ false → Leads (between (core tokens names rooted said line) g k) (b ∷ bs) u → PieceRead (core tokens names rooted said line) k (b ∷ bs) u
    by [] is e = outside_read tokens rooted said line g k b bs u is e
    by (n ∷ ns) is e = inside_read tokens n ns rooted said line g k b bs u is e f

-- ---- all pieces

pub record Reading (c : Core) (k : Repeats) (text : List ℕ) (u : State) : Type 0 where
  pub pieces : List Written
  pub scratch : Scratch
  pub path : Path c k pieces
  pub spelled : texts pieces ≡ text
  pub last : u ≡ between (core_after c pieces) scratch (count_after k pieces)

reads_in : (n : ℕ) (c : Core) (g : Scratch) (k : Repeats) (text : List ℕ) (u : State) → length text < n → Leads (between c g k) text u → Final u → Reading c k text u
reads_in zero c g k text u short e f = absurd (omega arith)
reads_in (suc n) c g k [] u short e f = record { pieces = []; scratch = g; path = tt; spelled = refl; last = (let same : between c g k ≡ u = cc in sym same) }
reads_in (suc n) c g k (b ∷ bs) u short e f =
    let p = piece_reads_in c.tokens c.names c.rooted c.said c.line g k b bs u e f in
    let less : length p.rest < n = (let x : length p.rest < length (b ∷ bs) = p.shorter in omega arith) in
    let r = reads_in n (moved c p.piece) p.scratch (next k p.piece.piece) p.rest u less p.leads f in
    record {
      pieces = p.piece ∷ r.pieces;
      scratch = r.scratch;
      path = record { piece = p.is; fits = p.fits; ends = p.ends; rest = r.path };
      spelled = ap (λ (l : List ℕ). p.piece.text ++ l) r.spelled ∙ sym p.spelled;
      last = r.last;
    }

pub reads : (c : Core) (g : Scratch) (k : Repeats) (text : List ℕ) (u : State) → Leads (between c g k) text u → Final u → Reading c k text u
reads c g k text u e f = reads_in (length text + 1) c g k text u (omega arith) e f
