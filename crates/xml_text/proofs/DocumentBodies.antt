-- A document is read, and what is read is one.
use Rattle.std.proofs.Common.{◌≡◌, ℕ, Bool, true, false, ◌&&◌, Option, Some, None, List, [], ◌∷◌, ◌++◌, refl, sym, ap, ◌∙◌, subst, arith}
use Rattle.idn_text.specs.Stops.{run}
use Rattle.idn_text.proofs.StopLemmas.{run_none, run_append}
use Rattle.xml_text.specs.declared.document_state.Part.{Part}
use Rattle.xml_text.specs.declared.document_state.Part.TheVariants as part
use Rattle.xml_text.specs.declared.repeats.Repeats.{Repeats}
use Rattle.xml_text.specs.declared.repeats.Repeats.TheVariants as repeats
use Rattle.xml_text.specs.Documents.{Written, texts, ArePieces, AreMisc, IsElement, tokens_of, IsBody}
use Rattle.xml_text.specs.LineEnds.{line_after}
use Rattle.xml_text.specs.Tokens.{Token}
use Rattle.xml_text.specs.inner.DocumentSteps.{State, start, step, has_none, is_content_end, is_complete}
use Rattle.xml_text.specs.inner.TagSteps as tag
use Rattle.xml_text.proofs.ListLemmas.{and_both, both_and}
use Rattle.xml_text.proofs.DocumentStates.{Core, Scratch, between, core_after, count_after}
use Rattle.xml_text.proofs.DocumentRuns.{path_leads}
use Rattle.xml_text.proofs.DocumentReads.{reads}
use Rattle.xml_text.proofs.DocumentTrees.{Nest, AreEnds, path_of, pieces_in, nest_in, ends_in, no_ends, none_ends, names_end, rooted_end, core_names, core_rooted, core_append, element_nested, parted, tokens_inside, misc_core, misc_nest, nest_append, names_append, rooted_append}

abbrev begin : ℕ → Core
begin first = record { tokens = []; names = []; rooted = false; said = []; line = first }

abbrev scratch : ℕ → Scratch
scratch first = record { begun = first; tag = tag.start; word = [] }

-- the tokens of a prolog, an element and an epilog
parts_tokens : (first : ℕ) (before element rest : List Written) → AreMisc before → IsElement 64 element → AreMisc rest
    → (core_after (begin first) (before ++ element ++ rest)).tokens ≡ tokens_of (line_after first (texts before)) [] element
parts_tokens first before element rest prolog root epilog =
    let line = line_after first (texts before) in
    let c = begin line in
    let nested = element_nested 64 false [] element (record { deep = omega arith; first = λ h. refl }) root in
    let d = core_after c element in
    let named : d.names ≡ [] = core_names c element ∙ nested.same in
    let last = misc_core d.tokens d.rooted d.said d.line rest epilog in
    ap (λ (x : Core). x.tokens) (core_append (begin first) (before ++ element) rest ∙ ap (λ (x : Core). core_after x rest) (core_append (begin first) before element))
    ∙ ap (λ (x : Core). (core_after (core_after x element) rest).tokens) (misc_core [] false [] first before prolog)
    ∙ ap (λ (names : List (List ℕ)). (core_after (record d { names = names }) rest).tokens) named
    ∙ ap (λ (x : Core). x.tokens) last ∙ tokens_inside c element nested.inside

-- ---- a document is read

-- the state in which reading a document ends
pub record Ends (first : ℕ) (text : List ℕ) (tokens : List Token) : Type 0 where
  pub state : State
  pub leads : run step (Some (start first)) text ≡ Some state
  pub complete : is_complete state ≡ true
  pub says : state.tokens ≡ tokens

pub body_ends : (first : ℕ) (text : List ℕ) (tokens : List Token) → IsBody first text tokens → Ends first text tokens
body_ends first text tokens is =
    let ws = is.before ++ is.element ++ is.after in
    let c = begin first in
    let before = misc_nest false is.before is.prolog in
    let nested = element_nested 64 false [] is.element (record { deep = omega arith; first = λ h. refl }) is.root in
    let after = misc_nest true is.after is.epilog in
    let front = is.before ++ is.element in
    let front_names : names_end [] front ≡ [] = names_append [] is.before is.element ∙ ap (λ (n : List (List ℕ)). names_end n is.element) before.1 ∙ nested.same in
    let front_rooted : rooted_end false front ≡ true = rooted_append false is.before is.element ∙ ap (λ (r : Bool). rooted_end r is.element) before.2 ∙ nested.root in
    let front_nest : Nest false [] front =
    nest_append false [] is.before is.element before.0 (subst (λ (r : Bool). Nest r (names_end [] is.before) is.element) (sym before.2) (subst (λ (n : List (List ℕ)). Nest false n is.element) (sym before.1) nested.nest)) in
    let nest : Nest false [] ws = nest_append false [] front is.after front_nest (subst (λ (r : Bool). Nest r (names_end [] front) is.after) (sym front_rooted) (subst (λ (n : List (List ℕ)). Nest true n is.after) (sym front_names) after.0)) in
    let names : names_end [] ws ≡ [] = names_append [] front is.after ∙ ap (λ (n : List (List ℕ)). names_end n is.after) front_names ∙ after.1 in
    let rooted : rooted_end false ws ≡ true = rooted_append false front is.after ∙ ap (λ (r : Bool). rooted_end r is.after) front_rooted ∙ after.2 in
    let path = path_of c repeats.Zero ws is.pieces nest (no_ends repeats.Zero ws is.data_ends) in
    let run_ = path_leads c (scratch first) repeats.Zero ws path in
    record {
      state = between (core_after c ws) run_.0 (count_after repeats.Zero ws);
      leads = ap (run step (Some (start first))) is.spelled ∙ run_.1;
      complete = both_and ((core_after c ws).rooted && has_none (core_after c ws).names) true (both_and (core_after c ws).rooted (has_none (core_after c ws).names) (core_rooted c ws ∙ rooted) (ap (λ (n : List (List ℕ)). has_none n) (core_names c ws ∙ names))) refl;
      says = parts_tokens first is.before is.element is.after is.prolog is.root is.epilog ∙ sym is.says;
    }

-- ---- what is read is a document

no_names : (names : List (List ℕ)) → has_none names ≡ true → names ≡ []
no_names [] e = refl
no_names (n ∷ ns) e = absurd (cc)

final_part : (p : Part) → is_content_end p ≡ true → (k : Repeats) × (p ≡ part.Content k)
final_part (part.Content k) e = (k, refl)
final_part part.Reference e = absurd (cc)
final_part part.Markup e = absurd (cc)
final_part part.Tag e = absurd (cc)
final_part (part.EndName i) e = absurd (cc)
final_part part.EndBlank e = absurd (cc)
final_part part.Exclamation e = absurd (cc)
final_part part.CommentBegin e = absurd (cc)
final_part (part.Comment k) e = absurd (cc)
final_part (part.SectionBegin i) e = absurd (cc)
final_part (part.Section k) e = absurd (cc)
final_part part.Question e = absurd (cc)
final_part part.Target e = absurd (cc)
final_part part.TargetEnd e = absurd (cc)
final_part (part.Instruction m) e = absurd (cc)

pub body_read : (first : ℕ) (text : List ℕ) (u : State) → run step (Some (start first)) text ≡ Some u → is_complete u ≡ true → IsBody first text u.tokens
body_read first text u e complete =
    let parts = and_both (u.rooted && has_none u.names) (is_content_end u.part) complete in
    let inner = and_both u.rooted (has_none u.names) parts.0 in
    let last = final_part u.part parts.1 in
    let c = begin first in
    let r = reads c (scratch first) repeats.Zero text u e (record { count = last.0; is = last.1 }) in
    let ws = r.pieces in
    let names : names_end [] ws ≡ [] = sym (core_names c ws) ∙ ap (λ (x : State). x.names) (sym r.last) ∙ no_names u.names inner.1 in
    let rooted : rooted_end false ws ≡ true = sym (core_rooted c ws) ∙ ap (λ (x : State). x.rooted) (sym r.last) ∙ inner.0 in
    let p = parted ws (nest_in c repeats.Zero ws r.path) names rooted in
    record {
      before = p.before;
      element = p.element;
      after = p.after;
      spelled = sym r.spelled ∙ ap texts p.is;
      pieces = subst (λ (l : List Written). ArePieces l) p.is (pieces_in c repeats.Zero ws r.path);
      data_ends = none_ends repeats.Zero (p.before ++ p.element ++ p.after) (subst (λ (l : List Written). AreEnds repeats.Zero l) p.is (ends_in c repeats.Zero ws r.path));
      prolog = p.prolog;
      root = p.root;
      epilog = p.epilog;
      says = ap (λ (x : State). x.tokens) r.last ∙ ap (λ (l : List Written). (core_after c l).tokens) p.is ∙ parts_tokens first p.before p.element p.after p.prolog p.root p.epilog;
    }

-- ---- one list of tokens

same_state : (s t : State) → Some s ≡ Some t → s ≡ t
same_state s t e = cc

pub one_document : (first : ℕ) (text : List ℕ) (tokens others : List Token) → IsBody first text tokens → IsBody first text others → tokens ≡ others
one_document first text tokens others is too =
    let a = body_ends first text tokens is in
    let b = body_ends first text others too in
    sym a.says ∙ ap (λ (s : State). s.tokens) (same_state a.state b.state (sym a.leads ∙ b.leads)) ∙ b.says

-- reading goes no further than a byte that no document has there
pub no_body : (first : ℕ) (before after : List ℕ) (tokens : List Token) → run step (Some (start first)) before ≡ None → IsBody first (before ++ after) tokens → ⊥
no_body first before after tokens none is =
    let a = body_ends first (before ++ after) tokens is in
    absurd (let lost : None ≡ Some a.state = sym (run_none step after) ∙ ap (λ (o : Option State). run step o after) (sym none) ∙ sym (run_append step before after (Some (start first))) ∙ a.leads in cc)

pub open_body : (first : ℕ) (text : List ℕ) (u : State) (tokens : List Token) → run step (Some (start first)) text ≡ Some u → is_complete u ≡ false → IsBody first text tokens → ⊥
open_body first text u tokens e open_ is =
    let a = body_ends first text tokens is in
    absurd (let same : false ≡ true = sym open_ ∙ ap (λ (s : State). is_complete s) (same_state u a.state (sym e ∙ a.leads)) ∙ a.complete in cc)
