-- Whatever was read of a document, some document goes on.
use Rattle.std.proofs.Common.{◌≡◌, inl, inr, ℕ, zero, suc, Bool, true, false, nat_lt, Option, Some, None, List, [], ◌∷◌, ◌++◌, length, take, drop, codes, refl, sym, ap, ◌∙◌, subst, append_assoc, arith}
use Rattle.std.specs.Char.{to_ascii_lowercase}
use Rattle.std.specs.Prelude.{map}
use Rattle.std.proofs.lemmas.Bool.{cases_lt}
use Rattle.std.proofs.lemmas.Bool.Decides.{nat_tests}
use Rattle.std.proofs.lemmas.List.{length-append, length-take, length-map, take-append-drop}
use Rattle.std.proofs.lemmas.Option.{slice_get_past}
use Rattle.std.proofs.lemmas.Slice.Eq.{bytes_eq-Decides}
use Rattle.idn_text.specs.Stops.{run, Begins}
use Rattle.idn_text.proofs.StopLemmas.{run_append}
use Rattle.xml_text.specs.declared.attribute.TagKind.TheVariants.{Empty}
use Rattle.xml_text.specs.declared.document_state.Part.{Part}
use Rattle.xml_text.specs.declared.document_state.Part.TheVariants as part
use Rattle.xml_text.specs.declared.repeats.Repeats.{Repeats}
use Rattle.xml_text.specs.declared.repeats.Repeats.TheVariants as repeats
use Rattle.xml_text.specs.Files.{IsABody}
use Rattle.xml_text.specs.Pieces.{is_xml}
use Rattle.xml_text.specs.TagStops.{IsATag, IsBegun}
use Rattle.xml_text.specs.Tags.{IsTag}
use Rattle.xml_text.specs.Tokens.{Token}
use Rattle.xml_text.specs.inner.DocumentSteps
use Rattle.xml_text.specs.inner.DocumentSteps.{State, start, step, content, has_none, is_complete}
use Rattle.xml_text.specs.inner.TagSteps as tag
use Rattle.xml_text.proofs.Runs.{first, then, no, decide}
use Rattle.xml_text.proofs.TagLive.{live_by}
use Rattle.xml_text.proofs.TagReads.{reached}
use Rattle.xml_text.proofs.DocumentStates.{Core, Scratch, at, between, Leads, lined}
use Rattle.xml_text.proofs.DocumentRuns.{in_, shut, open_core, begun, tagged, worded, taken, whole_end, whole_tag, end_name_leads, name_ended}
use Rattle.xml_text.proofs.DocumentBodies.{body_read}
use Rattle.xml_text.proofs.DocumentHeld.{Base, InTag, Held, held, scratch_of}

-- ---- from where a piece may begin

-- reading goes on to the end of a document
record Finished (s : State) : Type 0 where
  more : List ℕ
  last : State
  leads : Leads s more last
  complete : is_complete last ≡ true

small_tag : IsTag (codes "<a/>") (record { name = codes "a"; attributes = []; kind = Empty })
small_tag = record { written = []; blanks = []; spelled = refl; name = refl; attributes = refl; each = tt; new = tt; after = refl }

finished : (tokens : List Token) (names : List (List ℕ)) (rooted : Bool) (said : List ℕ) (line : ℕ) (g : Scratch) (k : Repeats) → (has_none names ≡ false → rooted ≡ true)
    → Finished (between (record { tokens = tokens; names = names; rooted = rooted; said = said; line = line }) g k)
finished tokens [] true said line g k ok = record { more = []; last = between (record { tokens = tokens; names = []; rooted = true; said = said; line = line }) g k; leads = refl; complete = refl }
finished tokens [] false said line g k ok =
    let c : Core = record { tokens = tokens; names = []; rooted = false; said = said; line = line } in
    record {
      more = codes "<a/>";
      last = at (lined (open_core c line (record { name = codes "a"; attributes = []; kind = Empty })) (codes "<a/>")) (tagged (begun c g) tag.start) content;
      leads = whole_tag c g k (codes "<a/>") (record { name = codes "a"; attributes = []; kind = Empty }) refl small_tag;
      complete = refl;
    }
finished tokens (n ∷ ns) rooted said line g k ok =
    let c : Core = record { tokens = tokens; names = n ∷ ns; rooted = rooted; said = said; line = line } in
    let text = codes "</" ++ n ++ [] ++ codes ">" in
    let d = lined (shut (in_ c n ns) line) text in
    let rest = finished d.tokens ns rooted [] d.line (begun c g) repeats.Zero (λ h. ok refl) in
    let closes : Leads (between c g k) text (between d (begun c g) repeats.Zero) = whole_end c g k n ns text ([], refl, refl) in
    record {
      more = text ++ rest.more;
      last = rest.last;
      leads = then step (between c g k) (between d (begun c g) repeats.Zero) rest.last text rest.more closes rest.leads;
      complete = rest.complete;
    }

base_goes : (line : ℕ) (front : List ℕ) → Base line front → Begins (IsABody line) front
base_goes line front base =
    let c = base.core in
    let f = finished c.tokens c.names c.rooted c.said c.line base.scratch base.count base.ok in
    let whole = run_append step front f.more (Some (start line)) ∙ ap (λ (o : Option State). run step o f.more) base.leads ∙ f.leads in
    (f.more, (f.last.tokens, body_read line (front ++ f.more) f.last whole f.complete))

later : (line : ℕ) (text more : List ℕ) → Begins (IsABody line) (text ++ more) → Begins (IsABody line) text
later line text more b = (more ++ b.0, subst (IsABody line) (append_assoc text more b.0) b.1)

-- what was read goes on to where a piece may begin
goes : (line : ℕ) (text more : List ℕ) (s : State) (c : Core) (g : Scratch) (k : Repeats) → run step (Some (start line)) text ≡ Some s → Leads s more (between c g k) → (has_none c.names ≡ false → c.rooted ≡ true)
    → Begins (IsABody line) text
goes line text more s c g k e l ok =
    later line text more (base_goes line (text ++ more) (record {
      core = c;
      scratch = g;
      count = k;
      leads = run_append step text more (Some (start line)) ∙ ap (λ (o : Option State). run step o more) e ∙ l;
      ok = ok;
    }))

-- ---- tags

tag_base : (line : ℕ) (front text : List ℕ) (base : Base line front) → DocumentSteps.may_open base.core.rooted base.core.names ≡ true → IsATag text → Base line (front ++ text)
tag_base line front text base may is =
    let c = base.core in
    record {
      core = lined (open_core c c.line is.0) text;
      scratch = tagged (begun c base.scratch) tag.start;
      count = repeats.Zero;
      leads = run_append step front text (Some (start line)) ∙ ap (λ (o : Option State). run step o text) base.leads ∙ whole_tag c base.scratch base.count text is.0 may is.1;
      ok = λ h. refl;
    }

-- a tag begins with what was read of it
tag_begins : (line : ℕ) (t : tag.State) (text front : List ℕ) (h : InTag line t text) → Begins IsATag front → Begins (IsABody line) (h.front ++ front)
tag_begins line t text front h b =
    let whole = base_goes line (h.front ++ (front ++ b.0)) (tag_base line h.front (front ++ b.0) h.base h.may b.1) in
    later line (h.front ++ front) b.0 (subst (λ (l : List ℕ). Begins (IsABody line) l) (sym (append_assoc h.front front b.0)) whole)

in_tag : (line : ℕ) (t : tag.State) (text : List ℕ) → InTag line t text → IsBegun (IsABody line) text
in_tag line t text h = by (live_by t.phase t h.bytes (reached h.bytes t h.read))
  where
    by : IsBegun IsATag h.bytes → IsBegun (IsABody line) text
    by (inl b) = inl (subst (λ (l : List ℕ). Begins (IsABody line) l) (sym h.spelled) (tag_begins line t text h.bytes h b))
    by (inr r) = inr (
      h.front ++ r.0,
      r.1,
      tag_begins line t text r.0 h r.2,
      h.spelled ∙ ap (λ (l : List ℕ). h.front ++ l) r.3 ∙ sym (append_assoc h.front r.0 (38 ∷ r.1)),
      r.4,
    )

-- ---- end tags

some_name : (names : List (List ℕ)) → has_none names ≡ false → (n : List ℕ) × (ns : List (List ℕ)) × (names ≡ n ∷ ns)
some_name [] e = absurd (cc)
some_name (n ∷ ns) e = (n, ns, refl)

-- from a byte of the name on
name_goes : (c : Core) (g : Scratch) (n : List ℕ) (ns : List (List ℕ)) (i : ℕ) → (more : List ℕ) × (d : Core) × Leads (at (in_ c n ns) g (part.EndName i)) more (at d g content) × (d.rooted ≡ c.rooted)
name_goes c g n ns i = elim (cases_lt (length n) i) [
  | inl past ↦
      let d = in_ c n ns in
      let s = at d g (part.EndName i) in
      let none = slice_get_past n i (omega arith) in (
        codes ">",
        lined (shut d g.begun) (codes ">"),
        first step s (at (lined (shut d g.begun) (codes ">")) g content) (at (lined (shut d g.begun) (codes ">")) g content) 62 [] (taken s (at (shut d g.begun) g content) 62 (ap (λ (o : Option ℕ). DocumentSteps.expected o i s 62) none)) refl,
        refl,
      )
  | inr within ↦
      let pre = take i n in
      let post = drop i n in
      let d = in_ c n ns in
      let e = in_ (lined c post) n ns in
      let long : length pre ≡ i = omega (arith, length-take i n) in
      let name : Leads (at d g (part.EndName i)) post (at e g (part.EndName (length n))) =
      subst (λ (j : ℕ). Leads (at d g (part.EndName j)) post (at e g (part.EndName (length n)))) long (end_name_leads c g n ns pre post (sym (take-append-drop i n))) in
      let z = at (lined (shut e g.begun) (codes ">")) g content in (
        post ++ codes ">",
        lined (shut e g.begun) (codes ">"),
        then step (at d g (part.EndName i)) (at e g (part.EndName (length n))) z post (codes ">") name (name_ended (lined c post) g n ns [] refl),
        refl,
      )
]

-- ---- processing instructions

lower_length : (w : List ℕ) → is_xml w ≡ true → length w ≡ 3
lower_length w e =
    let same : map to_ascii_lowercase w ≡ map to_ascii_lowercase (codes "xml") = (bytes_eq-Decides (map to_ascii_lowercase w) (map to_ascii_lowercase (codes "xml"))).0 e in
    sym (length-map w to_ascii_lowercase) ∙ ap length same

longer_is_other : (w : List ℕ) (b : ℕ) → is_xml w ≡ true → is_xml (w ++ b ∷ []) ≡ false
longer_is_other w b e = by (is_xml (w ++ b ∷ [])) refl
  where
    by : (o : Bool) → is_xml (w ++ b ∷ []) ≡ o → o ≡ false
    by false f = refl
    by true f = absurd (let one = lower_length w e in let two = lower_length (w ++ b ∷ []) f in omega (arith, length-append w (b ∷ [])))

target_ends : (c : Core) (g : Scratch) → is_xml g.word ≡ false → Leads (at c g part.Target) (codes "?>") (at c g content)
target_ends c g other =
    let s = at c g part.Target in
    first step s (at c g part.TargetEnd) (at c g content) 63 (62 ∷ []) (taken s (at c g part.TargetEnd) 63 (no (is_xml g.word) None (DocumentSteps.target_end_step s 63) other)) refl

target_goes : (c : Core) (g : Scratch) → (more : List ℕ) × (h : Scratch) × Leads (at c g part.Target) more (at c h content)
target_goes c g = elim (decide (is_xml g.word)) [
  | inr other ↦ (codes "?>", g, target_ends c g other)
  | inl xml ↦
      let h = worded g (g.word ++ 97 ∷ []) in
      (codes "a?>", h, first step (at c g part.Target) (at c h part.Target) (at c h content) 97 (codes "?>") refl (target_ends c h (longer_is_other g.word 97 xml)))
]

-- ---- sections

section_goes : (c : Core) (g : Scratch) (i : ℕ) → nat_lt i 6 ≡ true → (more : List ℕ) × Leads (at c g (part.SectionBegin i)) more (at c g content)
section_goes c g zero short = (codes "CDATA[]]>", refl)
section_goes c g (suc zero) short = (codes "DATA[]]>", refl)
section_goes c g (suc (suc zero)) short = (codes "ATA[]]>", refl)
section_goes c g (suc (suc (suc zero))) short = (codes "TA[]]>", refl)
section_goes c g (suc (suc (suc (suc zero)))) short = (codes "A[]]>", refl)
section_goes c g (suc (suc (suc (suc (suc zero))))) short = (codes "[]]>", refl)
section_goes c g (suc (suc (suc (suc (suc (suc i)))))) short = absurd (let h : nat_lt (suc (suc (suc (suc (suc (suc i)))))) 6 ≡ false = grind (arith, nat_tests) in cc)

-- ---- each part

live_part : (line : ℕ) (text : List ℕ) (c : Core) (g : Scratch) (p : Part) → run step (Some (start line)) text ≡ Some (at c g p) → (has_none c.names ≡ false → c.rooted ≡ true) → Held line c.names c.rooted g p text
    → IsBegun (IsABody line) text
live_part line text c g (part.Content k) e ok h = inl (goes line text [] (between c g k) c g k e refl ok)
live_part line text c g part.Reference e ok h = inr (h.front, g.word, base_goes line h.front h.base, h.spelled, h.are)
live_part line text c g part.Markup e ok h = inl (goes line text (codes "!---->") (at c g part.Markup) c g repeats.Zero e refl ok)
live_part line text c g part.Tag e ok h = in_tag line g.tag text h
live_part line text c g (part.EndName i) e ok h =
    let n = some_name c.names h in
    let x = name_goes c g n.0 n.1 i in
    let same : c ≡ in_ c n.0 n.1 = ap (λ (names : List (List ℕ)). record c { names = names }) n.2 in
    inl (goes line text x.0 (at c g (part.EndName i)) x.1 g repeats.Zero e (subst (λ (d : Core). Leads (at d g (part.EndName i)) x.0 (at x.1 g content)) (sym same) x.2) (λ y. x.3 ∙ ok h))
live_part line text c g part.EndBlank e ok h = inl (goes line text (codes ">") (at c g part.EndBlank) (lined (shut c g.begun) (codes ">")) g repeats.Zero e refl (λ y. ok h))
live_part line text c g part.Exclamation e ok h = inl (goes line text (codes "---->") (at c g part.Exclamation) c g repeats.Zero e refl ok)
live_part line text c g part.CommentBegin e ok h = inl (goes line text (codes "--->") (at c g part.CommentBegin) c g repeats.Zero e refl ok)
live_part line text c g (part.Comment repeats.Zero) e ok h = inl (goes line text (codes "-->") (at c g (part.Comment repeats.Zero)) c g repeats.Zero e refl ok)
live_part line text c g (part.Comment repeats.One) e ok h = inl (goes line text (codes "->") (at c g (part.Comment repeats.One)) c g repeats.Zero e refl ok)
live_part line text c g (part.Comment repeats.Two) e ok h = inl (goes line text (codes ">") (at c g (part.Comment repeats.Two)) c g repeats.Zero e refl ok)
live_part line text c g (part.SectionBegin i) e ok h =
    let x = section_goes c g i h.1 in
    inl (goes line text x.0 (at c g (part.SectionBegin i)) c g repeats.Zero e x.1 ok)
live_part line text c g (part.Section repeats.Zero) e ok h = inl (goes line text (codes "]]>") (at c g (part.Section repeats.Zero)) c g repeats.Zero e refl ok)
live_part line text c g (part.Section repeats.One) e ok h = inl (goes line text (codes "]>") (at c g (part.Section repeats.One)) c g repeats.Zero e refl ok)
live_part line text c g (part.Section repeats.Two) e ok h = inl (goes line text (codes ">") (at c g (part.Section repeats.Two)) c g repeats.Zero e refl ok)
live_part line text c g part.Question e ok h = inl (goes line text (codes "a?>") (at c g part.Question) c (worded g (97 ∷ [])) repeats.Zero e refl ok)
live_part line text c g part.Target e ok h =
    let x = target_goes c g in
    inl (goes line text x.0 (at c g part.Target) c x.1 repeats.Zero e x.2 ok)
live_part line text c g part.TargetEnd e ok h = inl (goes line text (codes ">") (at c g part.TargetEnd) c g repeats.Zero e refl ok)
live_part line text c g (part.Instruction true) e ok h = inl (goes line text (codes "?>") (at c g (part.Instruction true)) c g repeats.Zero e refl ok)
live_part line text c g (part.Instruction false) e ok h = inl (goes line text (codes "?>") (at c g (part.Instruction false)) c g repeats.Zero e refl ok)

pub live : (line : ℕ) (text : List ℕ) (s : State) → run step (Some (start line)) text ≡ Some s → IsBegun (IsABody line) text
live line text s e =
    let k = held line text s e in
    live_part line text (record { tokens = s.tokens; names = s.names; rooted = s.rooted; said = s.said; line = s.line }) (scratch_of s) s.part e k.ok k.held
