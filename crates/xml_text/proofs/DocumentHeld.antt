-- What is known of each state of reading a document.
use Rattle.std.proofs.Common.{◌≡◌, inl, inr, ℕ, ◌+◌, Bool, true, false, ◌==◌, ◌&&◌, nat_lt, Option, Some, None, List, [], ◌∷◌, ◌++◌, cond, refl, sym, ap, ◌∙◌, subst, append_assoc, append-nil, encode_utf8, arith}
use Rattle.std.specs.List.{list_all}
use Rattle.std.specs.Option.{option_map}
use Rattle.std.specs.Prelude.{slice_get}
use Rattle.std.proofs.lemmas.Bool.Decides.{nat_tests}
use Rattle.idn_text.specs.Stops.{run}
use Rattle.idn_text.proofs.StopLemmas.{run_none, run_one}
use Rattle.xml_text.specs.declared.attribute.TagKind.{TagKind}
use Rattle.xml_text.specs.declared.document_state.Part.{Part}
use Rattle.xml_text.specs.declared.document_state.Part.TheVariants as part
use Rattle.xml_text.specs.declared.repeats.Repeats.{Repeats}
use Rattle.xml_text.specs.declared.repeats.Repeats.TheVariants as repeats
use Rattle.xml_text.specs.declared.state.Phase.TheVariants as phase
use Rattle.xml_text.specs.LineEnds.{next_line}
use Rattle.xml_text.specs.Names.{is_blank, is_name_start, is_name_byte, is_reference_byte}
use Rattle.xml_text.specs.Pieces.{is_xml}
use Rattle.xml_text.specs.References.{referenced}
use Rattle.xml_text.specs.inner.DocumentSteps
use Rattle.xml_text.specs.inner.DocumentSteps.{State, start, step, content, after, is_two, times, has_none, may_open, resolved, end_blank_step, target_end_step}
use Rattle.xml_text.specs.inner.TagSteps as tag
use Rattle.xml_text.proofs.ListLemmas.{all_snoc, is_byte}
use Rattle.xml_text.proofs.Runs.{chosen}
use Rattle.xml_text.proofs.DocumentStates.{Core, Scratch, at, between}

-- ---- what is known

-- reading these bytes leads to where another piece may begin
pub record Base (first : ℕ) (front : List ℕ) : Type 0 where
  pub core : Core
  pub scratch : Scratch
  pub count : Repeats
  pub leads : run step (Some (start first)) front ≡ Some (between core scratch count)
  pub ok : has_none core.names ≡ false → core.rooted ≡ true

pub record InReference (first : ℕ) (word text : List ℕ) : Type 0 where
  pub front : List ℕ
  pub base : Base first front
  pub spelled : text ≡ front ++ 38 ∷ word
  pub are : list_all is_reference_byte word ≡ true

pub record InMarkup (first : ℕ) (names : List (List ℕ)) (rooted : Bool) (text : List ℕ) : Type 0 where
  pub front : List ℕ
  pub base : Base first front
  pub spelled : text ≡ front ++ 60 ∷ []
  pub same_names : base.core.names ≡ names
  pub same_rooted : base.core.rooted ≡ rooted

pub record InTag (first : ℕ) (t : tag.State) (text : List ℕ) : Type 0 where
  pub front : List ℕ
  pub base : Base first front
  pub bytes : List ℕ
  pub spelled : text ≡ front ++ bytes
  pub read : run tag.step (Some tag.start) bytes ≡ Some t
  pub may : may_open base.core.rooted base.core.names ≡ true
  pub open_ : tag.kind_of t.phase ≡ None

abbrev pub Held : ℕ → List (List ℕ) → Bool → Scratch → Part → List ℕ → Type 0
Held first names rooted g (part.Content k) text = Unit {0}
Held first names rooted g part.Reference text = InReference first g.word text
Held first names rooted g part.Markup text = InMarkup first names rooted text
Held first names rooted g part.Tag text = InTag first g.tag text
Held first names rooted g (part.EndName i) text = has_none names ≡ false
Held first names rooted g part.EndBlank text = has_none names ≡ false
Held first names rooted g part.Exclamation text = Unit {0}
Held first names rooted g part.CommentBegin text = Unit {0}
Held first names rooted g (part.Comment k) text = Unit {0}
Held first names rooted g (part.SectionBegin i) text = (has_none names ≡ false) × (nat_lt i 6 ≡ true)
Held first names rooted g (part.Section k) text = has_none names ≡ false
Held first names rooted g part.Question text = Unit {0}
Held first names rooted g part.Target text = Unit {0}
Held first names rooted g part.TargetEnd text = Unit {0}
Held first names rooted g (part.Instruction m) text = Unit {0}

abbrev pub scratch_of : State → Scratch
scratch_of s = record { begun = s.begun; tag = s.tag; word = s.word }

pub record Kept (first : ℕ) (text : List ℕ) (s : State) : Type 0 where
  pub ok : has_none s.names ≡ false → s.rooted ≡ true
  pub held : Held first s.names s.rooted (scratch_of s) s.part text

-- ---- one byte more

here : (first : ℕ) (text : List ℕ) (x t : State) → Some x ≡ Some t → Kept first text x → Kept first text t
here first text x t e kept = subst (Kept first text) (let same : x ≡ t = cc in same) kept

gone : {A : Type 0} (t : State) → (let o : Option State = None in o) ≡ Some t → A
gone t e = absurd (cc)

record Mapped {X : Type 0} (f : X → State) (o : Option X) (t : State) : Type 0 where
  value : X
  is : o ≡ Some value
  gives : f value ≡ t

mapped : {X : Type 0} (f : X → State) (o : Option X) (t : State) → option_map f o ≡ Some t → Mapped f o t
mapped f (Some x) t e = record { value = x; is = refl; gives = (let same : f x ≡ t = cc in same) }
mapped f None t e = absurd (cc)

abbrev Ok : Core → Type 0
Ok c = has_none c.names ≡ false → c.rooted ≡ true

content_kept : (first : ℕ) (text : List ℕ) (c : Core) (g : Scratch) (k : Repeats) (b : ℕ) (t : State) → run step (Some (start first)) text ≡ Some (between c g k) → Ok c
    → DocumentSteps.content_step k (between c g k) b ≡ Some t → Kept first (text ++ b ∷ []) t
content_kept first text c g k b t e ok is =
    let s = between c g k in
    let base : Base first text = record { core = c; scratch = g; count = k; leads = e; ok = ok } in
    let more = text ++ b ∷ [] in
    let markup = record s { begun = c.line; part = part.Markup } in
    let refers = record s { word = []; part = part.Reference } in
    let says = record s { said = c.said ++ b ∷ []; part = part.Content (after (b == 93) k) } in
    let blank = cond (is_blank b) (Some (at c g content)) (let o : Option State = None in o) in
    let plain = cond (is_two k && b == 62) (let o : Option State = None in o) (Some says) in
    let inside = cond (b == 38) (Some refers) plain in
    elim (chosen (b == 60) (Some markup) (cond (has_none c.names) blank inside) t is) [
      | inl x ↦ here first more markup t x.1 (record { ok = ok; held = record { front = text; base = base; spelled = ap (λ (y : ℕ). text ++ y ∷ []) (is_byte b 60 x.0); same_names = refl; same_rooted = refl } })
      | inr x ↦ elim (chosen (has_none c.names) blank inside t x.1) [
        | inl y ↦ elim (chosen (is_blank b) (Some (at c g content)) None t y.1) [
          | inl z ↦ here first more (at c g content) t z.1 (record { ok = ok; held = tt })
          | inr z ↦ gone t z.1
        ]
        | inr y ↦ elim (chosen (b == 38) (Some refers) plain t y.1) [
          | inl z ↦ here first more refers t z.1 (record { ok = ok; held = record { front = text; base = base; spelled = ap (λ (y : ℕ). text ++ y ∷ []) (is_byte b 38 z.0); are = refl } })
          | inr z ↦ elim (chosen (is_two k && b == 62) None (Some says) t z.1) [
            | inl w ↦ gone t w.1
            | inr w ↦ here first more says t w.1 (record { ok = ok; held = tt })
          ]
        ]
      ]
    ]

reference_kept : (first : ℕ) (text : List ℕ) (c : Core) (g : Scratch) (b : ℕ) (t : State) → Ok c → InReference first g.word text
    → DocumentSteps.reference_step (at c g part.Reference) b ≡ Some t → Kept first (text ++ b ∷ []) t
reference_kept first text c g b t ok held is =
    let s = at c g part.Reference in
    let more = text ++ b ∷ [] in
    let further = record s { word = g.word ++ b ∷ [] } in
    let other = cond (is_reference_byte b) (Some further) (let o : Option State = None in o) in
    elim (chosen (b == 59) (resolved s (referenced g.word)) other t is) [
      | inl x ↦ by (referenced g.word) x.1
      | inr x ↦ elim (chosen (is_reference_byte b) (Some further) None t x.1) [
        | inl y ↦ here first more further t y.1 (record {
          ok = ok;
          held = record {
            front = held.front;
            base = held.base;
            spelled = ap (λ (l : List ℕ). l ++ b ∷ []) held.spelled ∙ append_assoc held.front (38 ∷ g.word) (b ∷ []);
            are = all_snoc is_reference_byte g.word b held.are y.0;
          };
        })
        | inr y ↦ gone t y.1
      ]
    ]
  where
    by : (o : Option ℕ) → resolved (at c g part.Reference) o ≡ Some t → Kept first (text ++ b ∷ []) t
    by None e = gone t e
    by (Some ch) e = here first (text ++ b ∷ []) (at (record c { said = c.said ++ encode_utf8 ch }) g content) t e (record { ok = ok; held = tt })

begun_open : (b : ℕ) (v : tag.State) → tag.step (tag.with_phase tag.start phase.Begin) b ≡ Some v → tag.kind_of v.phase ≡ None
begun_open b v e = elim (chosen (is_name_start b) (Some (tag.named (tag.with_phase tag.start phase.Begin) b)) None v e) [
  | inl x ↦ (let same : tag.named (tag.with_phase tag.start phase.Begin) b ≡ v = (let h = x.1 in cc) in sym (ap (λ (y : tag.State). tag.kind_of y.phase) same))
  | inr x ↦ absurd (let h = x.1 in cc)
]

begin_tag_kept : (first : ℕ) (text : List ℕ) (c : Core) (g : Scratch) (b : ℕ) (t : State) → Ok c → InMarkup first c.names c.rooted text
    → DocumentSteps.begin_tag_step (at c g part.Markup) b ≡ Some t → Kept first (text ++ b ∷ []) t
begin_tag_kept first text c g b t ok held is =
    let s = at c g part.Markup in
    let opens = option_map (DocumentSteps.with_tag s) (tag.step (tag.with_phase tag.start phase.Begin) b) in
    elim (chosen (may_open c.rooted c.names) opens None t is) [
      | inl x ↦
          let m = mapped (DocumentSteps.with_tag s) (tag.step (tag.with_phase tag.start phase.Begin) b) t x.1 in
          subst (Kept first (text ++ b ∷ [])) m.gives (record {
            ok = ok;
            held = record {
              front = held.front;
              base = held.base;
              bytes = 60 ∷ b ∷ [];
              spelled = ap (λ (l : List ℕ). l ++ b ∷ []) held.spelled ∙ append_assoc held.front (60 ∷ []) (b ∷ []);
              read = m.is;
              may = ap (λ (r : Bool). may_open r held.base.core.names) held.same_rooted ∙ ap (λ (n : List (List ℕ)). may_open c.rooted n) held.same_names ∙ x.0;
              open_ = begun_open b m.value m.is;
            };
          })
      | inr x ↦ gone t x.1
    ]

markup_kept : (first : ℕ) (text : List ℕ) (c : Core) (g : Scratch) (b : ℕ) (t : State) → Ok c → InMarkup first c.names c.rooted text
    → DocumentSteps.markup_step (at c g part.Markup) b ≡ Some t → Kept first (text ++ b ∷ []) t
markup_kept first text c g b t ok held is =
    let s = at c g part.Markup in
    let more = text ++ b ∷ [] in
    let marks = at c g part.Exclamation in
    let asks = at c g part.Question in
    let ends = at c g (part.EndName 0) in
    let end_tag = cond (has_none c.names) (let o : Option State = None in o) (Some ends) in
    let opens = DocumentSteps.begin_tag_step s b in
    let slash = cond (b == 47) end_tag opens in
    elim (chosen (b == 33) (Some marks) (cond (b == 63) (Some asks) slash) t is) [
      | inl x ↦ here first more marks t x.1 (record { ok = ok; held = tt })
      | inr x ↦ elim (chosen (b == 63) (Some asks) slash t x.1) [
        | inl y ↦ here first more asks t y.1 (record { ok = ok; held = tt })
        | inr y ↦ elim (chosen (b == 47) end_tag opens t y.1) [
          | inl z ↦ elim (chosen (has_none c.names) None (Some ends) t z.1) [
            | inl w ↦ gone t w.1
            | inr w ↦ here first more ends t w.1 (record { ok = ok; held = w.0 })
          ]
          | inr z ↦ begin_tag_kept first text c g b t ok held z.1
        ]
      ]
    ]

tag_kept : (first : ℕ) (text : List ℕ) (c : Core) (g : Scratch) (b : ℕ) (t : State) → Ok c → InTag first g.tag text
    → DocumentSteps.tag_step (at c g part.Tag) b ≡ Some t → Kept first (text ++ b ∷ []) t
tag_kept first text c g b t ok held is =
    let s = at c g part.Tag in
    let m = mapped (DocumentSteps.tag_moved s) (tag.step g.tag b) t is in
    by m.value m.is m.gives (tag.kind_of m.value.phase) refl
  where
    by : (v : tag.State) → tag.step g.tag b ≡ Some v → DocumentSteps.tag_moved (at c g part.Tag) v ≡ t → (o : Option TagKind) → tag.kind_of v.phase ≡ o → Kept first (text ++ b ∷ []) t
    by v stepped gives None kind =
        let w = at c (record g { tag = v }) part.Tag in
        let stays : DocumentSteps.tag_moved (at c g part.Tag) v ≡ w = ap (λ (o : Option TagKind). DocumentSteps.ended_tag w (option_map (tag.tag_of v) o)) kind in
        subst (Kept first (text ++ b ∷ [])) (sym stays ∙ gives) (record {
          ok = ok;
          held = record {
            front = held.front;
            base = held.base;
            bytes = held.bytes ++ b ∷ [];
            spelled = ap (λ (l : List ℕ). l ++ b ∷ []) held.spelled ∙ append_assoc held.front held.bytes (b ∷ []);
            read = run_one tag.step held.bytes b tag.start g.tag held.read ∙ stepped;
            may = held.may;
            open_ = kind;
          };
        })
    by v stepped gives (Some k) kind =
        let w = at c (record g { tag = v }) part.Tag in
        let opens : DocumentSteps.tag_moved (at c g part.Tag) v ≡ DocumentSteps.opened w (tag.tag_of v k) = ap (λ (o : Option TagKind). DocumentSteps.ended_tag w (option_map (tag.tag_of v) o)) kind in
        subst (Kept first (text ++ b ∷ [])) (sym opens ∙ gives) (record { ok = λ h. refl; held = tt })

end_blank_kept : (first : ℕ) (text : List ℕ) (c : Core) (g : Scratch) (p : Part) (b : ℕ) (t : State) → Ok c → has_none c.names ≡ false
    → end_blank_step (at c g p) b ≡ Some t → Kept first (text ++ b ∷ []) t
end_blank_kept first text c g p b t ok some is =
    let s = at c g p in
    let more = text ++ b ∷ [] in
    let blank = at c g part.EndBlank in
    elim (chosen (b == 62) (Some (DocumentSteps.closed s)) (cond (is_blank b) (Some blank) (let o : Option State = None in o)) t is) [
      | inl x ↦ here first more (DocumentSteps.closed s) t x.1 (record { ok = λ h. ok some; held = tt })
      | inr x ↦ elim (chosen (is_blank b) (Some blank) None t x.1) [
        | inl y ↦ here first more blank t y.1 (record { ok = ok; held = some })
        | inr y ↦ gone t y.1
      ]
    ]

end_name_kept : (first : ℕ) (text : List ℕ) (c : Core) (g : Scratch) (i b : ℕ) (t : State) → Ok c → has_none c.names ≡ false
    → DocumentSteps.end_name_step i (at c g (part.EndName i)) b ≡ Some t → Kept first (text ++ b ∷ []) t
end_name_kept first text c g i b t ok some is = by c.names is
  where
    s : State
    s = at c g (part.EndName i)

    expects : (o : Option ℕ) → DocumentSteps.expected o i (at c g (part.EndName i)) b ≡ Some t → Kept first (text ++ b ∷ []) t
    expects None e = end_blank_kept first text c g (part.EndName i) b t ok some e
    expects (Some x) e =
        let further = at c g (part.EndName (i + 1)) in
        elim (chosen (x == b) (Some further) None t e) [
          | inl y ↦ here first (text ++ b ∷ []) further t y.1 (record { ok = ok; held = some })
          | inr y ↦ gone t y.1
        ]

    by : (names : List (List ℕ)) → DocumentSteps.end_name_in names i (at c g (part.EndName i)) b ≡ Some t → Kept first (text ++ b ∷ []) t
    by [] e = gone t e
    by (n ∷ ns) e = expects (slice_get n i) e

exclamation_kept : (first : ℕ) (text : List ℕ) (c : Core) (g : Scratch) (b : ℕ) (t : State) → Ok c → DocumentSteps.exclamation_step (at c g part.Exclamation) b ≡ Some t → Kept first (text ++ b ∷ []) t
exclamation_kept first text c g b t ok is =
    let more = text ++ b ∷ [] in
    let comment = at c g part.CommentBegin in
    let begins = at c g (part.SectionBegin 0) in
    let section = cond (has_none c.names) (let o : Option State = None in o) (Some begins) in
    elim (chosen (b == 45) (Some comment) (cond (b == 91) section (let o : Option State = None in o)) t is) [
      | inl x ↦ here first more comment t x.1 (record { ok = ok; held = tt })
      | inr x ↦ elim (chosen (b == 91) section None t x.1) [
        | inl y ↦ elim (chosen (has_none c.names) None (Some begins) t y.1) [
          | inl z ↦ gone t z.1
          | inr z ↦ here first more begins t z.1 (record { ok = ok; held = (z.0, refl) })
        ]
        | inr y ↦ gone t y.1
      ]
    ]

comment_kept : (first : ℕ) (text : List ℕ) (c : Core) (g : Scratch) (k : Repeats) (b : ℕ) (t : State) → Ok c → DocumentSteps.comment_step k (at c g (part.Comment k)) b ≡ Some t → Kept first (text ++ b ∷ []) t
comment_kept first text c g k b t ok is =
    let more = text ++ b ∷ [] in
    let ended = at c g content in
    let further = at c g (part.Comment (after (b == 45) k)) in
    let last = cond (b == 62) (Some ended) (let o : Option State = None in o) in
    elim (chosen (is_two k) last (Some further) t is) [
      | inl x ↦ elim (chosen (b == 62) (Some ended) None t x.1) [
        | inl y ↦ here first more ended t y.1 (record { ok = ok; held = tt })
        | inr y ↦ gone t y.1
      ]
      | inr x ↦ here first more further t x.1 (record { ok = ok; held = tt })
    ]

one_less : (i : ℕ) → nat_lt i 6 ≡ true → (i + 1 == 6) ≡ false → nat_lt (i + 1) 6 ≡ true
one_less i l e = grind (arith, nat_tests)

section_begin_kept : (first : ℕ) (text : List ℕ) (c : Core) (g : Scratch) (i b : ℕ) (t : State) → Ok c → has_none c.names ≡ false → nat_lt i 6 ≡ true
    → DocumentSteps.section_begin_step i (at c g (part.SectionBegin i)) b ≡ Some t → Kept first (text ++ b ∷ []) t
section_begin_kept first text c g i b t ok some short is = by (slice_get DocumentSteps.section_word i) is
  where
    begins : (o : Bool) → (i + 1 == 6) ≡ o → Kept first (text ++ b ∷ []) (at c g (cond o (part.Section repeats.Zero) (part.SectionBegin (i + 1))))
    begins true e = record { ok = ok; held = some }
    begins false e = record { ok = ok; held = (some, one_less i short e) }

    by : (o : Option ℕ) → DocumentSteps.section_expected o i (at c g (part.SectionBegin i)) b ≡ Some t → Kept first (text ++ b ∷ []) t
    by None e = gone t e
    by (Some x) e =
        let further = at c g (DocumentSteps.section_begun (i + 1)) in
        elim (chosen (x == b) (Some further) None t e) [
          | inl y ↦ here first (text ++ b ∷ []) further t y.1 (begins (i + 1 == 6) refl)
          | inr y ↦ gone t y.1
        ]

section_kept : (first : ℕ) (text : List ℕ) (c : Core) (g : Scratch) (k : Repeats) (b : ℕ) (t : State) → Ok c → has_none c.names ≡ false
    → DocumentSteps.section_step k (at c g (part.Section k)) b ≡ Some t → Kept first (text ++ b ∷ []) t
section_kept first text c g k b t ok some is =
    let s = at c g (part.Section k) in
    let more = text ++ b ∷ [] in
    let ended = at c g content in
    let further = record s { said = c.said ++ (times k 93 ++ b ∷ []); part = part.Section repeats.Zero } in
    let plain = cond (is_two k && b == 62) (Some ended) (Some further) in
    elim (chosen (b == 93) (DocumentSteps.bracket_in_section k s) plain t is) [
      | inl x ↦ by k x.1
      | inr x ↦ elim (chosen (is_two k && b == 62) (Some ended) (Some further) t x.1) [
        | inl y ↦ here first more ended t y.1 (record { ok = ok; held = tt })
        | inr y ↦ here first more further t y.1 (record { ok = ok; held = some })
      ]
    ]
  where
    by : (j : Repeats) → DocumentSteps.bracket_in_section j (at c g (part.Section k)) ≡ Some t → Kept first (text ++ b ∷ []) t
    by repeats.Zero e = here first (text ++ b ∷ []) (at c g (part.Section repeats.One)) t e (record { ok = ok; held = some })
    by repeats.One e = here first (text ++ b ∷ []) (at c g (part.Section repeats.Two)) t e (record { ok = ok; held = some })
    by repeats.Two e = here first (text ++ b ∷ []) (at (record c { said = c.said ++ 93 ∷ [] }) g (part.Section repeats.Two)) t e (record { ok = ok; held = some })

question_kept : (first : ℕ) (text : List ℕ) (c : Core) (g : Scratch) (b : ℕ) (t : State) → Ok c → DocumentSteps.question_step (at c g part.Question) b ≡ Some t → Kept first (text ++ b ∷ []) t
question_kept first text c g b t ok is =
    let named = at c (record g { word = b ∷ [] }) part.Target in
    elim (chosen (is_name_start b) (Some named) None t is) [
      | inl x ↦ here first (text ++ b ∷ []) named t x.1 (record { ok = ok; held = tt })
      | inr x ↦ gone t x.1
    ]

target_kept : (first : ℕ) (text : List ℕ) (c : Core) (g : Scratch) (b : ℕ) (t : State) → Ok c → DocumentSteps.target_step (at c g part.Target) b ≡ Some t → Kept first (text ++ b ∷ []) t
target_kept first text c g b t ok is =
    let more = text ++ b ∷ [] in
    let named = at c (record g { word = g.word ++ b ∷ [] }) part.Target in
    let ended = at c g part.TargetEnd in
    let left = at c g (part.Instruction false) in
    let blank = cond (is_blank b) (Some left) (let o : Option State = None in o) in
    let last = cond (b == 63) (Some ended) blank in
    elim (chosen (is_name_byte b) (Some named) (cond (is_xml g.word) (let o : Option State = None in o) last) t is) [
      | inl x ↦ here first more named t x.1 (record { ok = ok; held = tt })
      | inr x ↦ elim (chosen (is_xml g.word) None last t x.1) [
        | inl y ↦ gone t y.1
        | inr y ↦ elim (chosen (b == 63) (Some ended) blank t y.1) [
          | inl z ↦ here first more ended t z.1 (record { ok = ok; held = tt })
          | inr z ↦ elim (chosen (is_blank b) (Some left) None t z.1) [
            | inl w ↦ here first more left t w.1 (record { ok = ok; held = tt })
            | inr w ↦ gone t w.1
          ]
        ]
      ]
    ]

last_kept : (first : ℕ) (text : List ℕ) (c : Core) (g : Scratch) (p : Part) (b : ℕ) (t : State) → Ok c → DocumentSteps.last_step (at c g p) b ≡ Some t → Kept first (text ++ b ∷ []) t
last_kept first text c g p b t ok is = elim (chosen (b == 62) (Some (at c g content)) None t is) [
  | inl x ↦ here first (text ++ b ∷ []) (at c g content) t x.1 (record { ok = ok; held = tt })
  | inr x ↦ gone t x.1
]

comment_begin_kept : (first : ℕ) (text : List ℕ) (c : Core) (g : Scratch) (b : ℕ) (t : State) → Ok c → DocumentSteps.comment_begin_step (at c g part.CommentBegin) b ≡ Some t → Kept first (text ++ b ∷ []) t
comment_begin_kept first text c g b t ok is = elim (chosen (b == 45) (Some (at c g (part.Comment repeats.Zero))) None t is) [
  | inl x ↦ here first (text ++ b ∷ []) (at c g (part.Comment repeats.Zero)) t x.1 (record { ok = ok; held = tt })
  | inr x ↦ gone t x.1
]

instruction_kept : (first : ℕ) (text : List ℕ) (c : Core) (g : Scratch) (m : Bool) (b : ℕ) (t : State) → Ok c → DocumentSteps.instruction_step m (at c g (part.Instruction m)) b ≡ Some t → Kept first (text ++ b ∷ []) t
instruction_kept first text c g m b t ok is =
    let ended = at c g content in
    let further = at c g (part.Instruction (b == 63)) in
    elim (chosen (m && b == 62) (Some ended) (Some further) t is) [
      | inl x ↦ here first (text ++ b ∷ []) ended t x.1 (record { ok = ok; held = tt })
      | inr x ↦ here first (text ++ b ∷ []) further t x.1 (record { ok = ok; held = tt })
    ]

taken_kept : (first : ℕ) (text : List ℕ) (c : Core) (g : Scratch) (p : Part) (b : ℕ) (t : State) → run step (Some (start first)) text ≡ Some (at c g p) → Ok c → Held first c.names c.rooted g p text
    → DocumentSteps.take_by p (at c g p) b ≡ Some t → Kept first (text ++ b ∷ []) t
taken_kept first text c g (part.Content k) b t e ok held is = content_kept first text c g k b t e ok is
taken_kept first text c g part.Reference b t e ok held is = reference_kept first text c g b t ok held is
taken_kept first text c g part.Markup b t e ok held is = markup_kept first text c g b t ok held is
taken_kept first text c g part.Tag b t e ok held is = tag_kept first text c g b t ok held is
taken_kept first text c g (part.EndName i) b t e ok held is = end_name_kept first text c g i b t ok held is
taken_kept first text c g part.EndBlank b t e ok held is = end_blank_kept first text c g part.EndBlank b t ok held is
taken_kept first text c g part.Exclamation b t e ok held is = exclamation_kept first text c g b t ok is
taken_kept first text c g part.CommentBegin b t e ok held is = comment_begin_kept first text c g b t ok is
taken_kept first text c g (part.Comment k) b t e ok held is = comment_kept first text c g k b t ok is
taken_kept first text c g (part.SectionBegin i) b t e ok held is = section_begin_kept first text c g i b t ok held.0 held.1 is
taken_kept first text c g (part.Section k) b t e ok held is = section_kept first text c g k b t ok held is
taken_kept first text c g part.Question b t e ok held is = question_kept first text c g b t ok is
taken_kept first text c g part.Target b t e ok held is = target_kept first text c g b t ok is
taken_kept first text c g part.TargetEnd b t e ok held is = last_kept first text c g part.TargetEnd b t ok is
taken_kept first text c g (part.Instruction m) b t e ok held is = instruction_kept first text c g m b t ok is

abbrev core_of : State → Core
core_of s = record { tokens = s.tokens; names = s.names; rooted = s.rooted; said = s.said; line = s.line }

pub kept : (first : ℕ) (text : List ℕ) (s : State) (b : ℕ) (t : State) → run step (Some (start first)) text ≡ Some s → Kept first text s → step s b ≡ Some t → Kept first (text ++ b ∷ []) t
kept first text s b t e k is =
    let m = mapped (DocumentSteps.on_line (next_line s.line b)) (DocumentSteps.take s b) t is in
    let inner = taken_kept first text (core_of s) (scratch_of s) s.part b m.value e k.ok k.held m.is in
    subst (Kept first (text ++ b ∷ [])) m.gives (record { ok = inner.ok; held = inner.held })

-- ---- all bytes

kept_from : (first : ℕ) (front text : List ℕ) (s u : State) → run step (Some (start first)) front ≡ Some s → Kept first front s → run step (Some s) text ≡ Some u → Kept first (front ++ text) u
kept_from first front [] s u e k l = subst (Kept first (front ++ [])) (let same : s ≡ u = cc in same) (subst (λ (t : List ℕ). Kept first t s) (sym (append-nil front)) k)
kept_from first front (b ∷ bs) s u e k l = by (step s b) refl l (λ t is m. kept_from first (front ++ b ∷ []) bs t u (run_one step front b (start first) s e ∙ is) (kept first front s b t e k is) m)
  where
    by : (o : Option State) → step s b ≡ o → run step o bs ≡ Some u → ((t : State) → step s b ≡ Some t → run step (Some t) bs ≡ Some u → Kept first ((front ++ b ∷ []) ++ bs) u) → Kept first (front ++ b ∷ bs) u
    by None is m further = absurd (let none : None ≡ Some u = sym (run_none step bs) ∙ m in cc)
    by (Some t) is m further = subst (λ (x : List ℕ). Kept first x u) (append_assoc front (b ∷ []) bs) (further t is m)

pub held : (first : ℕ) (text : List ℕ) (u : State) → run step (Some (start first)) text ≡ Some u → Kept first text u
held first text u e = kept_from first [] text (start first) u refl (record { ok = λ h. absurd (cc); held = tt }) e
