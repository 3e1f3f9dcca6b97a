-- What was read of a tag, in each state.
use Rattle.std.proofs.Common.{◌≡◌, ◌≢◌, ℕ, Bool, true, false, ◌==◌, ◌&&◌, not, Option, Some, None, List, [], ◌∷◌, ◌++◌, map, cond, refl, sym, ap, ◌∙◌, subst, append_assoc, append-nil, encode_utf8, is_some}
use Rattle.std.specs.List.{flat_map, list_all}
use Rattle.std.proofs.lemmas.Grind.{flat_map-append}
use Rattle.std.proofs.lemmas.List.{map-append}
use Rattle.xml_text.specs.declared.attribute.TagKind.{TagKind}
use Rattle.xml_text.specs.declared.attribute.TagKind.TheVariants.{Start, Empty}
use Rattle.xml_text.specs.declared.quote.Quote.{Quote}
use Rattle.xml_text.specs.declared.quote.Quote.TheVariants as quote
use Rattle.xml_text.specs.declared.state.Phase.{Phase}
use Rattle.xml_text.specs.declared.state.Phase.TheVariants as phase
use Rattle.xml_text.specs.Attributes.{Attribute, is_named}
use Rattle.xml_text.specs.Names.{is_blank, AreBlanks, is_name_start, is_name_byte, is_name, is_reference_byte}
use Rattle.xml_text.specs.References.{referenced}
use Rattle.xml_text.specs.Tags
use Rattle.xml_text.specs.Tags.{Tag, Part, spaced, utf8_of_reference, part_text, part_value, is_part, quote_byte, Written, written_text, IsWritten, attribute_of, HaveNewNames, end_text, tag_text, AreWritten, IsTag}
use Rattle.xml_text.specs.inner.TagSteps.{State, start, with_phase, moved, named, with_attribute, with_attribute_byte, with_value, closed, resolved, with_reference_byte, end_step, after_step, equals_step, step_by, step, tag_of}
use Rattle.xml_text.proofs.ListLemmas.{and_both, both_and, all_snoc, not_empty, is_byte}

-- ---- what was read

-- the name, and attributes that are complete
pub record InTag (name : List ℕ) (attributes : List Attribute) (text : List ℕ) : Type 0 where
  pub written : List Written
  pub spelled : text ≡ 60 ∷ [] ++ name ++ flat_map written_text written
  pub is : is_name name ≡ true
  pub are : attributes ≡ map attribute_of written
  pub each : AreWritten written
  pub new : HaveNewNames [] attributes

-- and perhaps blanks
pub record AtBlanks (name : List ℕ) (attributes : List Attribute) (text : List ℕ) : Type 0 where
  pub front : List ℕ
  pub tag : InTag name attributes front
  pub blanks : List ℕ
  pub spelled : text ≡ front ++ blanks
  pub are : AreBlanks blanks

-- and blanks
pub record AtBlank (name : List ℕ) (attributes : List Attribute) (text : List ℕ) : Type 0 where
  pub at : AtBlanks name attributes text
  pub some : at.blanks ≢ []

-- and a name
pub record AtName (name : List ℕ) (attributes : List Attribute) (a text : List ℕ) : Type 0 where
  pub front : List ℕ
  pub at : AtBlank name attributes front
  pub spelled : text ≡ front ++ a
  pub is : is_name a ≡ true

-- which is new, and perhaps blanks
pub record AtLeft (name : List ℕ) (attributes : List Attribute) (a text : List ℕ) : Type 0 where
  pub front : List ℕ
  pub at : AtName name attributes a front
  pub new : is_named attributes a ≡ false
  pub left : List ℕ
  pub spelled : text ≡ front ++ left
  pub are : AreBlanks left

-- and '=', and perhaps blanks
pub record AtRight (name : List ℕ) (attributes : List Attribute) (a text : List ℕ) : Type 0 where
  pub front : List ℕ
  pub at : AtLeft name attributes a front
  pub right : List ℕ
  pub spelled : text ≡ front ++ 61 ∷ right
  pub are : AreBlanks right

-- and a quote, and parts of the value
pub record AtValue (q : Quote) (name : List ℕ) (attributes : List Attribute) (a value text : List ℕ) : Type 0 where
  pub front : List ℕ
  pub at : AtRight name attributes a front
  pub parts : List Part
  pub spelled : text ≡ front ++ quote_byte q ∷ flat_map part_text parts
  pub is : value ≡ flat_map part_value parts
  pub are : list_all (is_part (quote_byte q)) parts ≡ true

-- and '&', and bytes of a reference
pub record AtReference (q : Quote) (name : List ℕ) (attributes : List Attribute) (a value reference text : List ℕ) : Type 0 where
  pub front : List ℕ
  pub at : AtValue q name attributes a value front
  pub spelled : text ≡ front ++ 38 ∷ reference
  pub are : list_all is_reference_byte reference ≡ true

-- or '/'
pub record AtSlash (name : List ℕ) (attributes : List Attribute) (text : List ℕ) : Type 0 where
  pub front : List ℕ
  pub at : AtBlanks name attributes front
  pub spelled : text ≡ front ++ 47 ∷ []

pub record AtTagName (name : List ℕ) (attributes : List Attribute) (text : List ℕ) : Type 0 where
  pub spelled : text ≡ 60 ∷ name
  pub is : is_name name ≡ true
  pub none : attributes ≡ []

pub record AtBegin (name : List ℕ) (attributes : List Attribute) (text begin : List ℕ) : Type 0 where
  pub spelled : text ≡ begin
  pub nothing : name ≡ []
  pub none : attributes ≡ []

abbrev pub ReachedBy : Phase → State → List ℕ → Type 0
ReachedBy phase.Open s text = AtBegin s.name s.attributes text []
ReachedBy phase.Begin s text = AtBegin s.name s.attributes text (60 ∷ [])
ReachedBy phase.Name s text = AtTagName s.name s.attributes text
ReachedBy phase.After s text = InTag s.name s.attributes text
ReachedBy phase.Blank s text = AtBlank s.name s.attributes text
ReachedBy phase.Attribute s text = AtName s.name s.attributes s.attribute text × (s.value ≡ [])
ReachedBy phase.BeforeEquals s text = AtLeft s.name s.attributes s.attribute text × (s.value ≡ [])
ReachedBy phase.AfterEquals s text = AtRight s.name s.attributes s.attribute text × (s.value ≡ [])
ReachedBy (phase.Value q) s text = AtValue q s.name s.attributes s.attribute s.value text
ReachedBy (phase.Reference q) s text = AtReference q s.name s.attributes s.attribute s.value s.reference text
ReachedBy phase.Slash s text = AtSlash s.name s.attributes text
ReachedBy (phase.Ended kind) s text = IsTag text (tag_of s kind)

abbrev pub Reached : State → List ℕ → Type 0
Reached s text = ReachedBy s.phase s text

-- ---- one byte more

grown : (text front last : List ℕ) (b : ℕ) → text ≡ front ++ last → text ++ b ∷ [] ≡ front ++ (last ++ b ∷ [])
grown text front last b e = ap (λ (t : List ℕ). t ++ b ∷ []) e ∙ append_assoc front last (b ∷ [])

name_more : (a : List ℕ) (b : ℕ) → is_name a ≡ true → is_name_byte b ≡ true → is_name (a ++ b ∷ []) ≡ true
name_more [] b is byte = absurd (cc)
name_more (x ∷ a) b is byte =
    let parts = and_both (is_name_start x) (list_all is_name_byte a) is in
    both_and (is_name_start x) (list_all is_name_byte (a ++ b ∷ [])) parts.0 (all_snoc is_name_byte a b parts.1 byte)

new_more : (before attributes : List Attribute) (a : Attribute) → HaveNewNames before attributes → is_named (before ++ attributes) a.name ≡ false
    → HaveNewNames before (attributes ++ a ∷ [])
new_more before [] a new e = (subst (λ (l : List Attribute). is_named l a.name ≡ false) (append-nil before) e, tt)
new_more before (x ∷ attributes) a new e =
    (new.0, new_more (before ++ x ∷ []) attributes a new.1 (subst (λ (l : List Attribute). is_named l a.name ≡ false) (sym (append_assoc before (x ∷ []) attributes)) e))

written_more : (ws : List Written) (w : Written) → AreWritten ws → IsWritten w → AreWritten (ws ++ w ∷ [])
written_more [] w are is = (is, tt)
written_more (x ∷ ws) w are is = (are.0, written_more ws w are.1 is)

pub blanks_of : (name : List ℕ) (attributes : List Attribute) (text : List ℕ) → InTag name attributes text → AtBlanks name attributes text
blanks_of name attributes text tag = record { front = text; tag = tag; blanks = []; spelled = sym (append-nil text); are = refl }

pub name_done : (name : List ℕ) (attributes : List Attribute) (text : List ℕ) → AtTagName name attributes text → InTag name attributes text
name_done name attributes text at = record {
  written = [];
  spelled = at.spelled ∙ sym (append-nil (60 ∷ name));
  is = at.is;
  are = at.none;
  each = tt;
  new = subst (λ (l : List Attribute). HaveNewNames [] l) (sym at.none) tt;
}

pub blank_more : (name : List ℕ) (attributes : List Attribute) (text : List ℕ) (b : ℕ) → AtBlanks name attributes text → is_blank b ≡ true → AtBlank name attributes (text ++ b ∷ [])
blank_more name attributes text b at is = record {
  at = record {
    front = at.front;
    tag = at.tag;
    blanks = at.blanks ++ b ∷ [];
    spelled = grown text at.front at.blanks b at.spelled;
    are = all_snoc is_blank at.blanks b at.are is;
  };
  some = not_empty at.blanks b;
}

pub tag_closed : (name : List ℕ) (attributes : List Attribute) (text : List ℕ) (kind : TagKind) → AtBlanks name attributes text
    → IsTag (text ++ end_text kind) (record { name = name; attributes = attributes; kind = kind })
tag_closed name attributes text kind at = record {
  written = at.tag.written;
  blanks = at.blanks;
  spelled = ap (λ (t : List ℕ). t ++ end_text kind) (at.spelled ∙ ap (λ (t : List ℕ). t ++ at.blanks) at.tag.spelled);
  name = at.tag.is;
  attributes = at.tag.are;
  each = at.tag.each;
  new = at.tag.new;
  after = at.are;
}

pub empty_closed : (name : List ℕ) (attributes : List Attribute) (text : List ℕ) → AtSlash name attributes text
    → IsTag (text ++ 62 ∷ []) (record { name = name; attributes = attributes; kind = Empty })
empty_closed name attributes text at =
    subst (λ (t : List ℕ). IsTag t (record { name = name; attributes = attributes; kind = Empty })) (sym (grown text at.front (47 ∷ []) 62 at.spelled))
    (tag_closed name attributes at.front Empty at.at)

regrouped : (n f bl a l r p q : List ℕ) → ((((((n ++ f) ++ bl) ++ a) ++ l) ++ ((61 ∷ []) ++ r)) ++ (q ++ p)) ++ q ≡ n ++ (f ++ (((((((bl ++ a) ++ l) ++ 61 ∷ []) ++ r) ++ q) ++ p) ++ q ++ []))
regrouped n f bl a l r p q = simp (append_assoc, append-nil)

-- the value is complete
pub value_closed : (q : Quote) (name : List ℕ) (attributes : List Attribute) (a value text : List ℕ) → AtValue q name attributes a value text
    → InTag name (attributes ++ record { name = a; value = value } ∷ []) (text ++ quote_byte q ∷ [])
value_closed q name attributes a value text v =
    let r = v.at in
    let l = r.at in
    let n = l.at in
    let b = n.at.at in
    let w : Written = record { before = b.blanks; name = a; left = l.left; right = r.right; quote = q; parts = v.parts } in
    let p = flat_map part_text v.parts in
    let front : text ≡ (((((60 ∷ name ++ flat_map written_text b.tag.written) ++ b.blanks) ++ a) ++ l.left) ++ 61 ∷ r.right) ++ quote_byte q ∷ p =
    v.spelled ∙ ap (λ (t : List ℕ). t ++ quote_byte q ∷ p) (r.spelled ∙ ap (λ (t : List ℕ). t ++ 61 ∷ r.right) (l.spelled ∙ ap (λ (t : List ℕ). t ++ l.left) (n.spelled ∙ ap (λ (t : List ℕ). t ++ a) (b.spelled ∙ ap (λ (t : List ℕ). t ++ b.blanks) b.tag.spelled)))) in
    record {
      written = b.tag.written ++ w ∷ [];
      spelled =
          ap (λ (t : List ℕ). t ++ quote_byte q ∷ []) front
          ∙ regrouped (60 ∷ name) (flat_map written_text b.tag.written) b.blanks a l.left r.right p (quote_byte q ∷ [])
          ∙ sym (ap (λ (t : List ℕ). 60 ∷ name ++ t) (flat_map-append written_text b.tag.written (w ∷ [])));
      is = b.tag.is;
      are = ap (λ (given : List Attribute). given ++ record { name = a; value = value } ∷ []) b.tag.are ∙ ap (λ (x : List ℕ). map attribute_of b.tag.written ++ record { name = a; value = x } ∷ []) v.is ∙ sym (map-append attribute_of b.tag.written (w ∷ []));
      each = written_more b.tag.written w b.tag.each (record { separated = n.at.some; before = b.are; name = n.is; left = l.are; right = r.are; parts = v.are });
      new = new_more [] attributes (record { name = a; value = value }) b.tag.new l.new;
    }

-- a part more
pub part_more : (q : Quote) (name : List ℕ) (attributes : List Attribute) (a value text : List ℕ) (part : Part) → AtValue q name attributes a value text
    → is_part (quote_byte q) part ≡ true → AtValue q name attributes a (value ++ part_value part) (text ++ part_text part)
part_more q name attributes a value text part v is = record {
  front = v.front;
  at = v.at;
  parts = v.parts ++ part ∷ [];
  spelled =
      ap (λ (t : List ℕ). t ++ part_text part) v.spelled ∙ append_assoc v.front (quote_byte q ∷ flat_map part_text v.parts) (part_text part)
      ∙ ap (λ (t : List ℕ). v.front ++ quote_byte q ∷ t) (ap (λ (t : List ℕ). flat_map part_text v.parts ++ t) (sym (append-nil (part_text part))) ∙ sym (flat_map-append part_text v.parts (part ∷ [])));
  is =
      ap (λ (t : List ℕ). t ++ part_value part) v.is
      ∙ ap (λ (t : List ℕ). flat_map part_value v.parts ++ t) (sym (append-nil (part_value part))) ∙ sym (flat_map-append part_value v.parts (part ∷ []));
  are = all_snoc (is_part (quote_byte q)) v.parts part v.are is;
}

reference_closed : (q : Quote) (name : List ℕ) (attributes : List Attribute) (a value reference text : List ℕ) → AtReference q name attributes a value reference text
    → is_some (referenced reference) ≡ true → AtValue q name attributes a (value ++ utf8_of_reference (referenced reference)) (text ++ 59 ∷ [])
reference_closed q name attributes a value reference text r is =
    subst (λ (t : List ℕ). AtValue q name attributes a (value ++ utf8_of_reference (referenced reference)) t) (sym (grown text r.front (38 ∷ reference) 59 r.spelled))
    (part_more q name attributes a value r.front (Tags.Reference reference) r.at (both_and (list_all is_reference_byte reference) (is_some (referenced reference)) r.are is))

-- ---- each step

-- which way a test went
branch : (P : State → Type 0) (b : Bool) (x y : Option State) (u : State) → cond b x y ≡ Some u → (b ≡ true → x ≡ Some u → P u) → (b ≡ false → y ≡ Some u → P u) → P u
branch P true x y u e f g = f refl e
branch P false x y u e f g = g refl e

here : (P : State → Type 0) (s u : State) → Some s ≡ Some u → P s → P u
here P s u e h = let same : s ≡ u = cc in subst P same h

gone : (P : State → Type 0) (u : State) → (let o : Option State = None in o) ≡ Some u → P u
gone P u e = absurd (cc)

abbrev Kept : List ℕ → ℕ → State → Type 0
Kept text b u = Reached u (text ++ b ∷ [])

-- the text with the byte that it is
put : (P : List ℕ → Type 0) (text : List ℕ) (b c : ℕ) → (b == c) ≡ true → P (text ++ c ∷ []) → P (text ++ b ∷ [])
put P text b c e h = subst (λ (x : ℕ). P (text ++ x ∷ [])) (sym (is_byte b c e)) h

end_kept : (s : State) (text : List ℕ) (b : ℕ) (u : State) → AtBlanks s.name s.attributes text → end_step s b ≡ Some u → Kept text b u
end_kept s text b u at e =
    branch (Kept text b) (b == 62) (moved s (phase.Ended Start)) (cond (b == 47) (moved s phase.Slash) None) u e
    (λ is f. here (Kept text b) (with_phase s (phase.Ended Start)) u f (put (λ t. IsTag t (tag_of s Start)) text b 62 is (tag_closed s.name s.attributes text Start at)))
    (λ _ rest. branch (Kept text b) (b == 47) (moved s phase.Slash) None u rest
    (λ is f. here (Kept text b) (with_phase s phase.Slash) u f (put (λ t. AtSlash s.name s.attributes t) text b 47 is (record { front = text; at = at; spelled = refl })))
    (λ _ f. gone (Kept text b) u f))

after_kept : (s : State) (text : List ℕ) (b : ℕ) (u : State) → AtBlanks s.name s.attributes text → after_step s b ≡ Some u → Kept text b u
after_kept s text b u at e =
    branch (Kept text b) (is_blank b) (moved s phase.Blank) (end_step s b) u e
    (λ is f. here (Kept text b) (with_phase s phase.Blank) u f (blank_more s.name s.attributes text b at is))
    (λ _ f. end_kept s text b u at f)

equals_kept : (s : State) (text : List ℕ) (b : ℕ) (u : State) → AtLeft s.name s.attributes s.attribute text → s.value ≡ [] → equals_step s b ≡ Some u → Kept text b u
equals_kept s text b u at none e =
    branch (Kept text b) (b == 61) (moved s phase.AfterEquals) (cond (is_blank b) (moved s phase.BeforeEquals) None) u e
    (λ is f. here (Kept text b) (with_phase s phase.AfterEquals) u f (put (λ t. AtRight s.name s.attributes s.attribute t) text b 61 is (record { front = text; at = at; right = []; spelled = refl; are = refl }), none))
    (λ _ rest. branch (Kept text b) (is_blank b) (moved s phase.BeforeEquals) None u rest
    (λ is f. here (Kept text b) (with_phase s phase.BeforeEquals) u f (
      record {
        front = at.front;
        at = at.at;
        new = at.new;
        left = at.left ++ b ∷ [];
        spelled = grown text at.front at.left b at.spelled;
        are = all_snoc is_blank at.left b at.are is;
      },
      none,
    ))
    (λ _ f. gone (Kept text b) u f))

open_kept : (s : State) (text : List ℕ) (b : ℕ) (u : State) → ReachedBy phase.Open s text → step_by phase.Open s b ≡ Some u → Kept text b u
open_kept s text b u at e =
    branch (Kept text b) (b == 60) (moved s phase.Begin) None u e
    (λ is f. here (Kept text b) (with_phase s phase.Begin) u f (put (λ t. AtBegin s.name s.attributes t (60 ∷ [])) text b 60 is
    (record { spelled = ap (λ (t : List ℕ). t ++ 60 ∷ []) at.spelled; nothing = at.nothing; none = at.none })))
    (λ _ f. gone (Kept text b) u f)

begin_kept : (s : State) (text : List ℕ) (b : ℕ) (u : State) → ReachedBy phase.Begin s text → step_by phase.Begin s b ≡ Some u → Kept text b u
begin_kept s text b u at e =
    branch (Kept text b) (is_name_start b) (Some (named s b)) None u e
    (λ is f. here (Kept text b) (named s b) u f (record {
      spelled = ap (λ (t : List ℕ). t ++ b ∷ []) at.spelled ∙ sym (ap (λ (n : List ℕ). 60 ∷ n ++ b ∷ []) at.nothing);
      is = subst (λ (n : List ℕ). is_name (n ++ b ∷ []) ≡ true) (sym at.nothing) (both_and (is_name_start b) true is refl);
      none = at.none;
    }))
    (λ _ f. gone (Kept text b) u f)

name_kept : (s : State) (text : List ℕ) (b : ℕ) (u : State) → ReachedBy phase.Name s text → step_by phase.Name s b ≡ Some u → Kept text b u
name_kept s text b u at e =
    branch (Kept text b) (is_name_byte b) (Some (named s b)) (after_step s b) u e
    (λ is f. here (Kept text b) (named s b) u f (record { spelled = ap (λ (t : List ℕ). t ++ b ∷ []) at.spelled; is = name_more s.name b at.is is; none = at.none }))
    (λ _ f. after_kept s text b u (blanks_of s.name s.attributes text (name_done s.name s.attributes text at)) f)

blank_kept : (s : State) (text : List ℕ) (b : ℕ) (u : State) → ReachedBy phase.Blank s text → step_by phase.Blank s b ≡ Some u → Kept text b u
blank_kept s text b u at e =
    branch (Kept text b) (is_name_start b) (Some (with_attribute s b)) (after_step s b) u e
    (λ is f. here (Kept text b) (with_attribute s b) u f (record { front = text; at = at; spelled = refl; is = both_and (is_name_start b) true is refl }, refl))
    (λ _ f. after_kept s text b u at.at f)

attribute_kept : (s : State) (text : List ℕ) (b : ℕ) (u : State) → ReachedBy phase.Attribute s text → s.phase ≡ phase.Attribute → step_by phase.Attribute s b ≡ Some u → Kept text b u
attribute_kept s text b u at is_attribute e =
    branch (Kept text b) (is_name_byte b) (Some (with_attribute_byte s b)) (cond (is_named s.attributes s.attribute) None (equals_step s b)) u e
    (λ is f. here (Kept text b) (with_attribute_byte s b) u f (subst (λ (p : Phase). ReachedBy p (with_attribute_byte s b) (text ++ b ∷ [])) (sym is_attribute) (
      record {
        front = at.0.front;
        at = at.0.at;
        spelled = grown text at.0.front s.attribute b at.0.spelled;
        is = name_more s.attribute b at.0.is is;
      },
      at.1,
    )))
    (λ _ rest. branch (Kept text b) (is_named s.attributes s.attribute) None (equals_step s b) u rest
    (λ _ f. gone (Kept text b) u f)
    (λ new f. equals_kept s text b u (record { front = text; at = at.0; new = new; left = []; spelled = sym (append-nil text); are = refl }) at.1 f))

opened : (q : Quote) (s : State) (text : List ℕ) → ReachedBy phase.AfterEquals s text → AtValue q s.name s.attributes s.attribute s.value (text ++ quote_byte q ∷ [])
opened q s text at = record { front = text; at = at.0; parts = []; spelled = refl; is = at.1; are = refl }

quote_kept : (s : State) (text : List ℕ) (b : ℕ) (u : State) → ReachedBy phase.AfterEquals s text → step_by phase.AfterEquals s b ≡ Some u → Kept text b u
quote_kept s text b u at e =
    branch (Kept text b) (b == 34) (moved s (phase.Value quote.Double)) (cond (b == 39) (moved s (phase.Value quote.Single)) (cond (is_blank b) (moved s phase.AfterEquals) None)) u e
    (λ is f. here (Kept text b) (with_phase s (phase.Value quote.Double)) u f (put (λ t. AtValue quote.Double s.name s.attributes s.attribute s.value t) text b 34 is (opened quote.Double s text at)))
    (λ _ rest. branch (Kept text b) (b == 39) (moved s (phase.Value quote.Single)) (cond (is_blank b) (moved s phase.AfterEquals) None) u rest
    (λ is f. here (Kept text b) (with_phase s (phase.Value quote.Single)) u f (put (λ t. AtValue quote.Single s.name s.attributes s.attribute s.value t) text b 39 is (opened quote.Single s text at)))
    (λ _ last. branch (Kept text b) (is_blank b) (moved s phase.AfterEquals) None u last
    (λ is f. here (Kept text b) (with_phase s phase.AfterEquals) u f (
      record {
        front = at.0.front;
        at = at.0.at;
        right = at.0.right ++ b ∷ [];
        spelled = grown text at.0.front (61 ∷ at.0.right) b at.0.spelled;
        are = all_snoc is_blank at.0.right b at.0.are is;
      },
      at.1,
    ))
    (λ _ f. gone (Kept text b) u f)))

plain : (q b : ℕ) → (b == q) ≡ false → (b == 60) ≡ false → (b == 38) ≡ false → is_part q (Tags.Plain b) ≡ true
plain q b e f g = ap (λ (x : Bool). not x && not (b == 60) && not (b == 38)) e ∙ ap (λ (x : Bool). not x && not (b == 38)) f ∙ ap (λ (x : Bool). not x) g

value_kept : (q : Quote) (s : State) (text : List ℕ) (b : ℕ) (u : State) → ReachedBy (phase.Value q) s text → s.phase ≡ phase.Value q → step_by (phase.Value q) s b ≡ Some u → Kept text b u
value_kept q s text b u at is_value e =
    branch (Kept text b) (b == quote_byte q) (Some (closed s)) (cond (b == 60) None (cond (b == 38) (moved (record s { reference = [] }) (phase.Reference q)) (Some (with_value s (spaced b ∷ []))))) u e
    (λ is f. here (Kept text b) (closed s) u f (put (λ t. InTag s.name (s.attributes ++ record { name = s.attribute; value = s.value } ∷ []) t) text b (quote_byte q) is (value_closed q s.name s.attributes s.attribute s.value text at)))
    (λ no_quote rest. branch (Kept text b) (b == 60) None (cond (b == 38) (moved (record s { reference = [] }) (phase.Reference q)) (Some (with_value s (spaced b ∷ [])))) u rest
    (λ _ f. gone (Kept text b) u f)
    (λ no_less last. branch (Kept text b) (b == 38) (moved (record s { reference = [] }) (phase.Reference q)) (Some (with_value s (spaced b ∷ []))) u last
    (λ is f. here (Kept text b) (record s { reference = []; phase = phase.Reference q }) u f (put (λ t. AtReference q s.name s.attributes s.attribute s.value [] t) text b 38 is (record { front = text; at = at; spelled = refl; are = refl })))
    (λ no_amp f. here (Kept text b) (with_value s (spaced b ∷ [])) u f (subst (λ (p : Phase). ReachedBy p (with_value s (spaced b ∷ [])) (text ++ b ∷ [])) (sym is_value)
    (part_more q s.name s.attributes s.attribute s.value text (Tags.Plain b) at (plain (quote_byte q) b no_quote no_less no_amp))))))

resolved_kept : (q : Quote) (s : State) (text : List ℕ) (u : State) (o : Option ℕ) → referenced s.reference ≡ o → ReachedBy (phase.Reference q) s text → resolved q s o ≡ Some u → Kept text 59 u
resolved_kept q s text u None is at e = gone (Kept text 59) u e
resolved_kept q s text u (Some c) is at e =
    here (Kept text 59) (with_phase (with_value s (encode_utf8 c)) (phase.Value q)) u e
    (subst (λ (o : Option ℕ). AtValue q s.name s.attributes s.attribute (s.value ++ utf8_of_reference o) (text ++ 59 ∷ [])) is
    (reference_closed q s.name s.attributes s.attribute s.value s.reference text at (ap (λ (o : Option ℕ). is_some o) is)))

reference_kept : (q : Quote) (s : State) (text : List ℕ) (b : ℕ) (u : State) → ReachedBy (phase.Reference q) s text → s.phase ≡ phase.Reference q → step_by (phase.Reference q) s b ≡ Some u → Kept text b u
reference_kept q s text b u at is_reference e =
    branch (Kept text b) (b == 59) (resolved q s (referenced s.reference)) (cond (is_reference_byte b) (Some (with_reference_byte s b)) None) u e
    (λ is f. put (λ t. Reached u t) text b 59 is (resolved_kept q s text u (referenced s.reference) refl at f))
    (λ _ rest. branch (Kept text b) (is_reference_byte b) (Some (with_reference_byte s b)) None u rest
    (λ is f. here (Kept text b) (with_reference_byte s b) u f (subst (λ (p : Phase). ReachedBy p (with_reference_byte s b) (text ++ b ∷ [])) (sym is_reference) (record {
      front = at.front;
      at = at.at;
      spelled = grown text at.front (38 ∷ s.reference) b at.spelled;
      are = all_snoc is_reference_byte s.reference b at.are is;
    })))
    (λ _ f. gone (Kept text b) u f))

slash_kept : (s : State) (text : List ℕ) (b : ℕ) (u : State) → ReachedBy phase.Slash s text → step_by phase.Slash s b ≡ Some u → Kept text b u
slash_kept s text b u at e =
    branch (Kept text b) (b == 62) (moved s (phase.Ended Empty)) None u e
    (λ is f. here (Kept text b) (with_phase s (phase.Ended Empty)) u f (put (λ t. IsTag t (tag_of s Empty)) text b 62 is (empty_closed s.name s.attributes text at)))
    (λ _ f. gone (Kept text b) u f)

kept_by : (p : Phase) (s : State) (text : List ℕ) (b : ℕ) (u : State) → s.phase ≡ p → ReachedBy p s text → step_by p s b ≡ Some u → Kept text b u
kept_by phase.Open s text b u is at e = open_kept s text b u at e
kept_by phase.Begin s text b u is at e = begin_kept s text b u at e
kept_by phase.Name s text b u is at e = name_kept s text b u at e
kept_by phase.After s text b u is at e = after_kept s text b u (blanks_of s.name s.attributes text at) e
kept_by phase.Blank s text b u is at e = blank_kept s text b u at e
kept_by phase.Attribute s text b u is at e = attribute_kept s text b u at is e
kept_by phase.BeforeEquals s text b u is at e = equals_kept s text b u at.0 at.1 e
kept_by phase.AfterEquals s text b u is at e = quote_kept s text b u at e
kept_by (phase.Value q) s text b u is at e = value_kept q s text b u at is e
kept_by (phase.Reference q) s text b u is at e = reference_kept q s text b u at is e
kept_by phase.Slash s text b u is at e = slash_kept s text b u at e
kept_by (phase.Ended kind) s text b u is at e = gone (Kept text b) u e

pub kept : (s : State) (text : List ℕ) (b : ℕ) (u : State) → Reached s text → step s b ≡ Some u → Reached u (text ++ b ∷ [])
kept s text b u at e = kept_by s.phase s text b u refl at e

pub begun : Reached start []
begun = record { spelled = refl; nothing = refl; none = refl }
