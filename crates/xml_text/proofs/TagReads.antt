-- What is read is a tag, and where reading stops none goes on.
use Rattle.std.proofs.Common.{◌≡◌, ℕ, ◌<◌, ◌≤◌, ◌⊎◌, inl, inr, Option, Some, None, List, [], ◌∷◌, ◌++◌, length, take, drop, get_or, refl, sym, ap, ◌∙◌, subst, append_assoc, append-nil, take_all, arith}
use Rattle.std.proofs.lemmas.List.{drop_all}
use Rattle.idn_text.specs.Stops.{run, Begins}
use Rattle.idn_text.proofs.StopLemmas.{run_none, run_append, run_one}
use Rattle.xml_text.specs.declared.attribute.TagKind.{TagKind}
use Rattle.xml_text.specs.declared.state.Phase.{Phase}
use Rattle.xml_text.specs.declared.state.Phase.TheVariants as phase
use Rattle.xml_text.specs.Tags.{Tag, IsTag}
use Rattle.xml_text.specs.TagStops.{IsATag, IsTagStop}
use Rattle.xml_text.specs.inner.TagSteps.{State, start, step, step_by, kind_of, tag_of}
use Rattle.xml_text.proofs.TagReached.{ReachedBy, Reached, kept, begun}
use Rattle.xml_text.proofs.TagRuns.{ends}
use Rattle.xml_text.proofs.TagLive.{live_by}
use Rattle.xml_text.proofs.TakenLemmas.{not_empty_is}

no_state : {A : Type 0} (s : State) → (let o : Option State = None in o) ≡ Some s → A
no_state s e = absurd (cc)

same_state : (s t : State) → Some s ≡ Some t → s ≡ t
same_state s t e = cc

reached_from : (s : State) (front text : List ℕ) (u : State) → Reached s front → run step (Some s) text ≡ Some u → Reached u (front ++ text)
reached_from s front [] u r e = subst (λ (x : State). Reached x (front ++ [])) (same_state s u e) (subst (λ (t : List ℕ). Reached s t) (sym (append-nil front)) r)
reached_from s front (b ∷ bs) u r e = by (step s b) refl e (λ t at f. reached_from t (front ++ b ∷ []) bs u (kept s front b t r at) f)
  where
    by : (o : Option State) → step s b ≡ o → run step o bs ≡ Some u
        → ((t : State) → step s b ≡ Some t → run step (Some t) bs ≡ Some u → Reached u ((front ++ b ∷ []) ++ bs)) → Reached u (front ++ b ∷ bs)
    by None at f further = no_state u (sym (run_none step bs) ∙ f)
    by (Some t) at f further = subst (λ (x : List ℕ). Reached u x) (append_assoc front (b ∷ []) bs) (further t at f)

pub reached : (text : List ℕ) (u : State) → run step (Some start) text ≡ Some u → Reached u text
reached text u e = reached_from start [] text u begun e

pub ended_phase : (p : Phase) (kind : TagKind) → kind_of p ≡ Some kind → p ≡ phase.Ended kind
ended_phase phase.Open kind e = absurd (cc)
ended_phase phase.Begin kind e = absurd (cc)
ended_phase phase.Name kind e = absurd (cc)
ended_phase phase.After kind e = absurd (cc)
ended_phase phase.Blank kind e = absurd (cc)
ended_phase phase.Attribute kind e = absurd (cc)
ended_phase phase.BeforeEquals kind e = absurd (cc)
ended_phase phase.AfterEquals kind e = absurd (cc)
ended_phase (phase.Value q) kind e = absurd (cc)
ended_phase (phase.Reference q) kind e = absurd (cc)
ended_phase phase.Slash kind e = absurd (cc)
ended_phase (phase.Ended k) kind e = ap (λ (x : TagKind). phase.Ended x) (let same : k ≡ kind = cc in same)

-- the tag that is read
pub tag_read : (text : List ℕ) (s : State) (kind : TagKind) → run step (Some start) text ≡ Some s → kind_of s.phase ≡ Some kind → IsTag text (tag_of s kind)
tag_read text s kind e k = subst (λ (p : Phase). ReachedBy p s text) (ended_phase s.phase kind k) (reached text s e)

-- ---- where it stops

-- one list goes on where another ends
record Further (before after front rest : List ℕ) : Type 0 where
  byte : ℕ
  more : List ℕ
  is : front ≡ before ++ byte ∷ more
  left : after ≡ byte ∷ (more ++ rest)

record Within (before front : List ℕ) : Type 0 where
  more : List ℕ
  is : before ≡ front ++ more

cut : (before after front rest : List ℕ) → before ++ after ≡ front ++ rest → Within before front ⊎ Further before after front rest
cut before after [] rest e = inl (record { more = before; is = refl })
cut [] after (b ∷ front) rest e = inr (record { byte = b; more = front; is = refl; left = e })
cut (x ∷ before) after (b ∷ front) rest e =
    let first : x ≡ b = cc in
    let others : before ++ after ≡ front ++ rest = cc in
    elim (cut before after front rest others) [
      | inl w ↦ inl (record { more = w.more; is = ap (λ (l : List ℕ). x ∷ l) w.is ∙ ap (λ (y : ℕ). y ∷ front ++ w.more) first })
      | inr f ↦ inr (record { byte = f.byte; more = f.more; is = ap (λ (l : List ℕ). b ∷ l) f.is ∙ ap (λ (y : ℕ). y ∷ before ++ f.byte ∷ f.more) (sym first); left = f.left })
    ]

-- a tag that is complete takes no byte more
pub ended_takes_none : (p : Phase) (kind : TagKind) (s : State) (b : ℕ) → p ≡ phase.Ended kind → step_by p s b ≡ None
ended_takes_none p kind s b e = ap (λ (q : Phase). step_by q s b) e

no_further : (front : List ℕ) (t : Tag) (b : ℕ) (more : List ℕ) (u : State) → IsTag front t → run step (Some start) (front ++ b ∷ more) ≡ Some u → ⊥
no_further front t b more u is e =
    let end = ends front t is in
    let past = run_append step front (b ∷ more) (Some start) ∙ ap (λ (o : Option State). run step o (b ∷ more)) end.leads
    ∙ ap (λ (o : Option State). run step o more) (ended_takes_none end.state.phase t.kind end.state b end.ends) ∙ run_none step more in
    no_state u (sym past ∙ e)

no_kind : {A : Type 0} (kind : TagKind) → (let o : Option TagKind = None in o) ≡ Some kind → A
no_kind kind e = absurd (cc)

open_is_no_tag : (text : List ℕ) (s : State) (t : Tag) → run step (Some start) text ≡ Some s → kind_of s.phase ≡ None → IsTag text t → ⊥
open_is_no_tag text s t e open_ is =
    let end = ends text t is in
    let same = same_state s end.state (sym e ∙ end.leads) in
    no_kind t.kind (sym open_ ∙ ap (λ (x : State). kind_of x.phase) same ∙ ap kind_of end.ends)

stuck_at : (before : List ℕ) (b : ℕ) (s : State) → run step (Some start) before ≡ Some s → step s b ≡ None → Begins IsATag (before ++ b ∷ []) → ⊥
stuck_at before b s e none begins =
    let end = ends ((before ++ b ∷ []) ++ begins.0) begins.1.0 begins.1.1 in
    let lost = run_append step (before ++ b ∷ []) begins.0 (Some start) ∙ ap (λ (o : Option State). run step o begins.0) (run_one step before b start s e ∙ none) ∙ run_none step begins.0 in
    no_state end.state (sym lost ∙ end.leads)

none_within : (before front : List ℕ) (s : State) → run step (Some start) before ≡ Some s → kind_of s.phase ≡ None → Within before front → IsATag front → ⊥
none_within before front s e open_ w is = by w.more w.is
  where
    by : (more : List ℕ) → before ≡ front ++ more → ⊥
    by [] same = open_is_no_tag before s is.0 e open_ (subst (λ (l : List ℕ). IsTag l is.0) (sym (same ∙ append-nil front)) is.1)
    by (b ∷ more) same = no_further front is.0 b more s is.1 (ap (run step (Some start)) (sym same) ∙ e)

pub stops_at : (before : List ℕ) (b : ℕ) (after : List ℕ) (s : State) → run step (Some start) before ≡ Some s → kind_of s.phase ≡ None → step s b ≡ None → IsTagStop before (b ∷ after)
stops_at before b after s e open_ none = record {
  begun = live_by s.phase s before (reached before s e);
  stuck = stuck_at before b s e none;
  none = λ front rest cut_is is. elim (cut before (b ∷ after) front rest cut_is) [
    | inl w ↦ none_within before front s e open_ w is
    | inr f ↦
        let same : b ≡ f.byte = (let h = f.left in cc) in
        let front_is : front ≡ (before ++ b ∷ []) ++ f.more = f.is ∙ ap (λ (x : ℕ). before ++ x ∷ f.more) (sym same) ∙ sym (append_assoc before (b ∷ []) f.more) in
        stuck_at before b s e none (f.more, (is.0, subst (λ (l : List ℕ). IsTag l is.0) front_is is.1))
  ];
}

pub stops_at_end : (before : List ℕ) (s : State) → run step (Some start) before ≡ Some s → kind_of s.phase ≡ None → IsTagStop before []
stops_at_end before s e open_ = record {
  begun = live_by s.phase s before (reached before s e);
  stuck = λ is. open_is_no_tag before s is.0 e open_ is.1;
  none = λ front rest cut_is is. elim (cut before [] front rest cut_is) [
    | inl w ↦ none_within before front s e open_ w is
    | inr f ↦ absurd (let h = f.left in cc)
  ];
}

-- ---- one tag

pub one_tag : (t u : Tag) (front rest other more : List ℕ) → front ++ rest ≡ other ++ more → IsTag front t → IsTag other u → (front ≡ other) × (t ≡ u)
one_tag t u front rest other more e is too = elim (cut front rest other more e) [
  | inl w ↦ by front other t u w.more w.is is too
  | inr f ↦ absurd (no_further front t f.byte f.more (ends other u too).state is (ap (run step (Some start)) (sym f.is) ∙ (ends other u too).leads))
]
  where
    by : (front other : List ℕ) (t u : Tag) (more : List ℕ) → front ≡ other ++ more → IsTag front t → IsTag other u → (front ≡ other) × (t ≡ u)
    by front other t u (b ∷ more) same is too = absurd (no_further other u b more (ends front t is).state too (ap (run step (Some start)) (sym same) ∙ (ends front t is).leads))
    by front other t u [] same is too =
        let equal = same ∙ append-nil other in
        let a = ends front t is in
        let b = ends other u too in
        let state = same_state a.state b.state (sym a.leads ∙ ap (run step (Some start)) equal ∙ b.leads) in
        let kind : t.kind ≡ u.kind = kinds t.kind u.kind (sym a.ends ∙ ap (λ (x : State). x.phase) state ∙ b.ends) in
        (equal, sym a.tag ∙ ap (λ (x : State). tag_of x t.kind) state ∙ ap (λ (k : TagKind). tag_of b.state k) kind ∙ b.tag)
      where
        kinds : (k l : TagKind) → phase.Ended k ≡ phase.Ended l → k ≡ l
        kinds k l e = cc

-- ---- at a place of a text

pub stops_here : (text rest : List ℕ) (i : ℕ) (s : State) → rest ≡ drop i text → 0 < length rest → run step (Some start) (take i text) ≡ Some s → kind_of s.phase ≡ None
    → step s (get_or rest 0 0) ≡ None → IsTagStop (take i text) (drop i text)
stops_here text rest i s same some e open_ none =
    subst (λ (after : List ℕ). IsTagStop (take i text) after) (sym (not_empty_is rest some) ∙ same)
    (stops_at (take i text) (get_or rest 0 0) (drop 1 rest) s e open_ none)

pub stops_past : (text : List ℕ) (i : ℕ) (s : State) → length text ≤ i → run step (Some start) (take i text) ≡ Some s → kind_of s.phase ≡ None
    → IsTagStop (take (length text) text) (drop (length text) text)
stops_past text i s l e open_ =
    let before : take i text ≡ take (length text) text = take_all i text l ∙ sym (take_all (length text) text (omega arith)) in
    subst (λ (after : List ℕ). IsTagStop (take (length text) text) after) (sym (drop_all (length text) text (omega arith)))
    (stops_at_end (take (length text) text) s (ap (run step (Some start)) (sym before) ∙ e) open_)
