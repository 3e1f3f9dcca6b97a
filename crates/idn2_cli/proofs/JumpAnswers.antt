-- The answer to a request is the least near label from its text on.
use Rattle.std.proofs.Common.{◌≡◌, ◌↔◌, inl, inr, ℕ, false, List, [], ◌∷◌, Option, Some, None, Err, refl, sym, ap, subst}
use Rattle.std.specs.Prelude.{slice_get, Contains}
use Rattle.std.specs.Option.{option_map}
use Rattle.idn_class.specs.declared.properties.Properties.{Properties}
use Rattle.idn_text.specs.declared.refusal.Refusal.{Refusal}
use Rattle.idn_label.specs.Answers.{unless_fault}
use Rattle.idn_label.specs.FirstFault.{first_fault, IsRegistrable}
use Rattle.variant_table.specs.Entries.{TableValue}
use Rattle.variant_table.specs.WellFormed.{IsWellFormed}
use Rattle.variant_list.specs.Closure.{AreNear, near}
use Rattle.variant_list.specs.Labels.{IsListOf}
use Rattle.variant_list.specs.Positions.{Built, Position}
use Rattle.valid_labels.specs.Validity.{IsSound}
use Rattle.variant_list.specs.Jumps.{IsFrom, IsLeastFrom, HasNoneFrom, IsCandidate, candidates_among_from}
use Rattle.variant_list.proofs.FromLemmas.{among_from-IsListOf, among_from-first, among_from-none}
use Rattle.variant_list.proofs.ListedLemmas.{IsListOf-same, above_first}
use Rattle.variant_list.proofs.NearLists.{near-AreNear}
use Rattle.idn2_options.specs.Settings.{Settings}
use Rattle.idn2_options.specs.declared.command_line.form.Form.TheVariants.{Plain}
use Rattle.idn2_options.specs.declared.command_line.mode.Mode.TheVariants.{Jump}
use Rattle.variant_table.specs.declared.version.Notation.TheVariants.{Table}
use Rattle.answer_json.specs.declared.collision.Regards.{Regards}
use Rattle.idn2_answers.specs.Said.{Least}
use Rattle.idn2_answers.specs.Listings.{is_registrable}
use Rattle.idn2_answers.specs.Collisions.{regards_of}
use Rattle.idn2_answers.specs.Answers.{IsJump, IsJumpAnswer, jump_answer, least_answer, least_near}
use Rattle.idn2_refusals.specs.Requests.{requested_label, requested_text}
use Rattle.idn2_answers.proofs.AdmittedLabels.{admitted-made, admitted_answer, admitted_or_refused, refused_answer}
use Rattle.idn2_answers.proofs.CollisionTests.{regard-told}
use Rattle.variant_table.proofs.MemberLemmas.{Contains-head, Contains-none, Contains-cases}

-- of the near labels from a text on the first is the least, and what is told of it holds
jump-is : (o : Settings) (table : TableValue) (label text : List ℕ) → IsSound table → (vs : List (List ℕ)) → IsListOf (λ v. IsCandidate (AreNear table label) v × IsFrom text v) vs
    → IsJump o table label text (option_map (λ v. (v, regards_of (is_registrable o.properties) table label v)) (slice_get vs 0))
jump-is o table label text sound [] list = λ w is up. Contains-none w ((list.members w).1 (is, up))
jump-is o table label text sound (v ∷ vs) list =
    let first = (list.members v).0 (Contains-head v vs) in (
      record {
        holds = first.0;
        «from» = first.1;
        least = λ w is up. elim (Contains-cases v vs w ((list.members w).1 (is, up))) [ inl same ↦ inl same | inr later ↦ inr (above_first v vs w list.rising later) ];
      },
      regard-told o table sound label v,
      regard-told o table sound v label,
    )

-- the candidates of labels that are the same
candidate-same : {P Q : List ℕ → Type 0} → ((w : List ℕ) → P w ↔ Q w) → (w : List ℕ) → IsCandidate P w → IsCandidate Q w
candidate-same same w is = record { spelled = (same w).0 is.spelled; short = is.short }

turned : {P Q : List ℕ → Type 0} → ((w : List ℕ) → P w ↔ Q w) → (w : List ℕ) → Q w ↔ P w
turned same w = ((same w).1, (same w).0)

near-IsJump : (o : Settings) (table : TableValue) (label text : List ℕ) → IsSound table → IsJump o table label text (least_near o.properties table label text)
near-IsJump o table label text sound =
    let same = near-AreNear table sound.entries label in
    jump-is o table label text sound (candidates_among_from (near table label) text)
    (IsListOf-same (λ v. IsCandidate (Contains (near table label)) v × IsFrom text v) (λ v. IsCandidate (AreNear table label) v × IsFrom text v) (candidates_among_from (near table label) text)
    (λ v. (λ p. (candidate-same same v p.0, p.1), λ p. (candidate-same (turned same) v p.0, p.1)))
    (among_from-IsListOf (near table label) text))

-- the least label that a variant graph of near labels spells
module _ (properties : Properties) (table : TableValue) (label : List ℕ) (spelled : List (List ℕ)) (formed : IsWellFormed table.entries) (is_near : (w : List ℕ) → Contains spelled w ↔ AreNear table label w) where
  same_near : (w : List ℕ) → Contains spelled w ↔ Contains (near table label) w
  same_near w = let as_listed = near-AreNear table formed label w in (λ c. as_listed.1 ((is_near w).0 c), λ c. (is_near w).1 (as_listed.0 c))

  pub least_near-found : (text v : List ℕ) → IsLeastFrom (IsCandidate (Contains spelled)) text v → Some (v, regards_of (is_registrable properties) table label v) ≡ least_near properties table label text
  least_near-found text v least =
      ap (option_map (λ w. (w, regards_of (is_registrable properties) table label w)))
      (among_from-first (near table label) text v (record {
        holds = candidate-same same_near v least.holds;
        «from» = least.«from»;
        least = λ w is up. least.least w (candidate-same (turned same_near) w is) up;
      }))

  pub least_near-none : (text : List ℕ) → HasNoneFrom (IsCandidate (Contains spelled)) text → None ≡ least_near properties table label text
  least_near-none text none =
      ap (option_map (λ w. (w, regards_of (is_registrable properties) table label w)))
      (among_from-none (near table label) text (λ w is up. none w (candidate-same (turned same_near) w is) up))

-- the answer to a request whose label may be registered
pub jump_answer-IsJumpAnswer : (o : Settings) (table : TableValue) (request : List ℕ) → IsSound table → IsRegistrable o.properties (requested_label request) → IsJumpAnswer o table request (jump_answer o.properties table request)
jump_answer-IsJumpAnswer o table request sound registrable =
    subst (IsJumpAnswer o table request) (sym (ap (λ (f : Option Refusal). unless_fault f (least_answer o.properties table label text)) registrable))
    (elim (admitted_or_refused table label sound) [
      | inl is ↦
          subst (IsJumpAnswer o table request) (sym (admitted_answer table label (Least least ∷ []) sound is))
          (is, (least, refl, near-IsJump o table label text sound))
      | inr refused ↦
          subst (IsJumpAnswer o table request) (sym (refused_answer table label refused.0 (Least least ∷ []) sound refused.1 (admitted-made table label))) refused.1
    ])
  where
    label : List ℕ
    label = requested_label request

    text : List ℕ
    text = requested_text request

    least : Option (List ℕ × Regards)
    least = least_near o.properties table label text

module _ (properties : Properties) where
  -- the first fault of the label is told before that
  pub jump-refused : (table : TableValue) (request : List ℕ) (refusal : Refusal) → first_fault properties (requested_label request) ≡ Some refusal → jump_answer properties table request ≡ Err refusal
  jump-refused table request refusal fault = ap (λ (f : Option Refusal). unless_fault f (least_answer properties table (requested_label request) (requested_text request))) fault

-- the label to which a new cursor of a variant graph jumped
pub jumped_to : (net : Built) (after : List ℕ) (old new : Position) (text last : List ℕ) → old ≡ record { net = net; last = after; edge_tests = 0 }
    → IsLeastFrom (IsCandidate (Contains old.net.spelled)) text new.last → last ≡ new.last → IsLeastFrom (IsCandidate (Contains net.spelled)) text last
jumped_to net after old new text last begun found at =
    subst (IsLeastFrom (IsCandidate (Contains net.spelled)) text) (sym at)
    (subst (λ (p : Position). IsLeastFrom (IsCandidate (Contains p.net.spelled)) text new.last) begun found)

-- some settings by which these are the properties
abbrev pub settings_by : Properties → Settings
settings_by p = record {
  mode = Jump;
  std3 = false;
  properties = p;
  explain = false;
  form = Plain;
  file = [];
  notation = Table;
  strings = [];
  after = [];
  limit = None;
  tries = 1000000;
  steps = None;
  among = None;
  others = false;
  registered = None;
}
