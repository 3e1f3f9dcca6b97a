-- What is told of a refused line is its cause, and each refused line but for two has one.
use Rattle.std.proofs.Common.{◌≡◌, ◌≢◌, ◌⊎◌, inl, inr, ℕ, zero, suc, ◌<◌, ◌≤◌, ◌==◌, Bool, true, false, ◌↔◌, List, [], ◌∷◌, length, take, take_all, cond, chars, Option, Some, None, Result, Ok, Err, slice_index, refl, sym, ap, subst, ◌∙◌, arith}
use Rattle.std.specs.Option.{is_some, option_map}
use Rattle.std.specs.Str.{is_utf8, IsUtf8, IsValidUpTo}
use Rattle.std.specs.Str.Lossy.{utf8_valid_len, valid_len_up_to}
use Rattle.std.proofs.lemmas.Bool.{cases_lt}
use Rattle.std.proofs.lemmas.Str.{IsUtf8-from_is_utf8, is_utf8-from_IsUtf8}
use Rattle.idn_class.specs.declared.properties.Properties.{Properties}
use Rattle.idna.specs.declared.options.Hyphens.TheVariants.{Allow}
use Rattle.idna.specs.declared.options.DnsLength.TheVariants.{Ignore}
use Rattle.idna.specs.Uts46.{to_ascii, verify_dns_length}
use Rattle.idna.specs.Validity.{has_ace_prefix}
use Rattle.idn_text.specs.Points.{utf8_of}
use Rattle.idn_text.specs.declared.refusal.Refusal.{Refusal}
use Rattle.idn_text.specs.declared.refusal.Refusal.TheVariants as refusals
use Rattle.idn_text.specs.declared.refusal.Refusal.TheVariants.{NotInTable}
use Rattle.idn_label.specs.ALabel.{a_label_of}
use Rattle.idn_label.specs.Answers.{Answer, unless_fault, and_then}
use Rattle.idn_label.specs.Decode.{decode_answer}
use Rattle.idn_label.specs.FirstFault.{first_fault}
use Rattle.idn_label.specs.Lookup.{deny_list, measured_answer, query_name}
use Rattle.idn_label.specs.Register.{register_answer, tested_answer, u_label_answer}
use Rattle.idn_label.specs.Steps.{in_utf8}
use Rattle.idn_label.proofs.RequirementLemmas.{MeetsRequirements-registrable}
use Rattle.idn_cause.specs.declared.cause.Cause.{Cause}
use Rattle.idn_cause.specs.declared.cause.Cause.TheVariants.{Point}
use Rattle.idn_cause.specs.Causes.{cause_of, IsCause}
use Rattle.idn_cause.specs.ALabelCauses.{a_label_cause, IsALabelCause}
use Rattle.idn_cause.specs.NameCauses.{name_cause, query_cause, IsNameCause, IsQueryCause}
use Rattle.idn_cause.specs.CodedLabels.{coded_label}
use Rattle.idn_cause.proofs.CauseLaws.{cause-is, fault-has_cause}
use Rattle.idn_cause.proofs.CodedSteps.{coded_label-is}
use Rattle.idn_cause.proofs.ALabelLaws.{a_label_cause-is, a_label_fault-has_cause}
use Rattle.idn_cause.proofs.NameLaws.{name_cause-is, name_fault-has_cause}
use Rattle.idn_cause.proofs.QueryLaws.{query_cause-is, query_fault-has_cause}
use Rattle.variant_table.specs.Entries.{TableValue}
use Rattle.variant_table.specs.WellFormed.{IsWellFormed}
use Rattle.valid_labels.specs.Furthest.{furthest}
use Rattle.variant_table.specs.Segmentations.{IsMadeOfSources}
use Rattle.valid_labels.specs.Causes as validity_causes
use Rattle.valid_labels.specs.Validity.{IsAdmitted, IsSound}
use Rattle.valid_labels.proofs.CauseLawLemmas.{cause-is-exact}
use Rattle.valid_labels.proofs.SourceLemmas.{furthest-told}
use Rattle.idn2_options.specs.Settings.{Settings}
use Rattle.idn2_options.specs.declared.command_line.mode.Mode.{Mode}
use Rattle.idn2_options.specs.declared.command_line.mode.Mode.TheVariants as modes
use Rattle.idn2_answers.specs.Answers.{IsRefusedAs, LineAnswer, if_admitted, line_answer, mode_answer, one_answer, text_answer}
use Rattle.idn2_refusals.specs.Requests.{requested_label}
use Rattle.idn2_refusals.specs.Explained.{Explained, Unexplained, ByLabel, ByName, ByQuery, ByTable, ByRequest, ByRegisteredLine, bad_byte, body_cause, coded_cause, if_wanted, invalid_cause, not_in_table_cause, points_cause, registration_cause, table_cause, u_label_cause, unless_unexplained, validity_cause}
use Rattle.idn2_answers.specs.Transcript.{explained_by_mode, explained_in, Refuses, output_for, output_line_in}
use Rattle.idn2_laws.proofs.ZoneAnswers.{zone-refused}
use Rattle.idn2_laws.specs.LineCauses.{ReadsLines, IsBadByte, IsCodedCause, IsInvalidCause, IsLineCause, IsOf, IsNotInTableCause, IsPointsCause, IsRegistrationCause, IsTableCause, IsULabelCause, RefusalsAreExplained}
use Rattle.idn2_answers.specs.Said.{Said}
use Rattle.idn2_refusals.specs.declared.cause.LineCause.{LineCause}
use Rattle.idn2_refusals.specs.declared.cause.LineCause.TheVariants.{LongLine, OfLabel, OfALabel, OfName, OfQuery, ALabelOf, NoALabel}
use Rattle.idn2_refusals.proofs.CauseLemmas.{bad_byte-at, invalid_cause-told, outside-told, not_in_table_cause-told}
use Rattle.idn2_answers.proofs.AdmittedLabels.{admitted-made, admitted_answer, admitted_or_refused, refused_answer}

-- ---- what is told of code points is their cause

of-part : {X : Type 0} (of : X → LineCause) (told : Option X) (Is : X → Type 0) (cause : LineCause) → ((x : X) → (told ≡ Some x) ↔ Is x) → (option_map of told ≡ Some cause) ↔ IsOf of Is cause
of-part {X} of None Is cause is = (
  λ h. let clash : None ≡ Some cause = h in cc,
  λ has. let clash : None ≡ Some has.0 = (is has.0).1 has.1 in cc,
)
of-part {X} of (Some x) Is cause is = (
  λ h. let same : of x ≡ cause = cc in (x, (is x).0 refl, sym same),
  λ has.
      let found : Some x ≡ Some has.0 = (is has.0).1 has.1 in
      let same : x ≡ has.0 = cc in
      ap Some (ap of same ∙ sym has.2),
)

module _ (properties : Properties) where
  registered-is : (label : List ℕ) (refusal : Refusal) (cause : LineCause) → (registration_cause properties label refusal ≡ Some cause) ↔ IsRegistrationCause properties label refusal cause
  registered-is label refusal cause = by_prefix (has_ace_prefix label) refl
    where
      by_prefix : (coded : Bool) → has_ace_prefix label ≡ coded → (cond coded (option_map OfALabel (a_label_cause properties label refusal)) (option_map OfLabel (cause_of properties label refusal)) ≡ Some cause) ↔ IsRegistrationCause properties label refusal cause
      by_prefix true e =
          let is = of-part OfALabel (a_label_cause properties label refusal) (IsALabelCause properties label refusal) cause (a_label_cause-is properties label refusal) in
          (λ h. inl (e, is.0 h), λ has. elim has [ inl coded ↦ is.1 coded.1 | inr plain ↦ absurd (let clash : true ≡ false = sym e ∙ plain.0 in cc) ])
      by_prefix false e =
          let is = of-part OfLabel (cause_of properties label refusal) (IsCause properties label refusal) cause (cause-is properties label refusal) in
          (λ h. inr (e, is.0 h), λ has. elim has [ inl coded ↦ absurd (let clash : true ≡ false = sym coded.0 ∙ e in cc) | inr plain ↦ is.1 plain.1 ])

module _ (properties : Properties) where
  coded-is : (given : List ℕ) (cause : LineCause) → (Some (coded_cause (coded_label properties given)) ≡ Some cause) ↔ IsCodedCause properties given cause
  coded-is given cause = by_told (coded_label properties given) refl
    where
      by_told : (told : Option (List ℕ)) → coded_label properties given ≡ told → (Some (coded_cause told) ≡ Some cause) ↔ IsCodedCause properties given cause
      by_told (Some utf8) is =
          let found = (coded_label-is properties given utf8).0 is in (
            λ h.
                let same : ALabelOf (record { items = utf8 }) ≡ cause = cc in
                inl (found.0, found.1, sym same ∙ ap (λ (u : List ℕ). ALabelOf (record { items = u })) found.2),
            λ has. elim has [
              | inl of ↦
                  let again : Some utf8 ≡ Some (utf8_of of.0) = sym is ∙ (coded_label-is properties given (utf8_of of.0)).1 (of.0, of.1, refl) in
                  let same : utf8 ≡ utf8_of of.0 = cc in
                  ap Some (ap (λ (u : List ℕ). ALabelOf (record { items = u })) same ∙ sym of.2)
              | inr none ↦ absurd (none.0 found.0 found.1)
            ],
          )
      by_told None is = (
        λ h.
            let same : NoALabel ≡ cause = cc in
            inr (λ label of. (let clash : None ≡ Some (utf8_of label) = sym is ∙ (coded_label-is properties given (utf8_of label)).1 (label, of, refl) in cc), sym same),
        λ has. elim has [
          | inl of ↦ let clash : None ≡ Some (utf8_of of.0) = sym is ∙ (coded_label-is properties given (utf8_of of.0)).1 (of.0, of.1, refl) in cc
          | inr none ↦ ap Some (sym none.1)
        ],
      )

  pub u_label-is : (label : List ℕ) (refusal : Refusal) (cause : LineCause) → (u_label_cause properties label refusal ≡ Some cause) ↔ IsULabelCause properties label refusal cause
  unfolding u_label_cause
  u_label-is label refusals.Hyphen cause = by_prefix (has_ace_prefix label) refl
    where
      by_prefix : (coded : Bool) → has_ace_prefix label ≡ coded
          → (cond coded (Some (coded_cause (coded_label properties label))) (option_map OfLabel (cause_of properties label refusals.Hyphen)) ≡ Some cause) ↔ IsULabelCause properties label refusals.Hyphen cause
      by_prefix true e =
          let is = coded-is label cause in
          (λ h. inl (e, is.0 h), λ has. elim has [ inl coded ↦ is.1 coded.1 | inr plain ↦ absurd (let clash : true ≡ false = sym e ∙ plain.0 in cc) ])
      by_prefix false e =
          let is = of-part OfLabel (cause_of properties label refusals.Hyphen) (IsCause properties label refusals.Hyphen) cause (cause-is properties label refusals.Hyphen) in
          (λ h. inr (e, is.0 h), λ has. elim has [ inl coded ↦ absurd (let clash : true ≡ false = sym coded.0 ∙ e in cc) | inr plain ↦ is.1 plain.1 ])
  u_label-is label refusal cause = of-part OfLabel (cause_of properties label refusal) (IsCause properties label refusal) cause (cause-is properties label refusal)

-- a label that is refused with 40 is short enough to be registered, and isn't made of sources
abbrev IsOutside : TableValue → List ℕ → Type 0
IsOutside table label = (length label ≤ 63) × (IsMadeOfSources table label → ⊥)

outside-is : (table : TableValue) (label : List ℕ) (cause : Cause) → IsWellFormed table.entries → IsOutside table label → (not_in_table_cause table label ≡ Some cause) ↔ IsNotInTableCause table label cause
outside-is table label cause formed outside =
    let is = (furthest-told.exactly table label (furthest table label) formed).1 refl in
    let told = not_in_table_cause-told table label (furthest table label) formed outside.0 is in (
      λ h.
          let found : Some (Point (furthest table label) (slice_index label (furthest table label))) ≡ Some cause = sym told ∙ h in
          let same : Point (furthest table label) (slice_index label (furthest table label)) ≡ cause = cc in
          (furthest table label, is, furthest-told.within table label formed outside.1, sym same),
      λ has. not_in_table_cause-told table label has.0 formed outside.0 has.1 ∙ ap Some (sym has.3),
    )

-- a label that is refused with 41 is short enough, too, and is made of sources, but may not be asked about
abbrev IsInvalid : TableValue → List ℕ → Type 0
IsInvalid table label = (length label ≤ 63) × IsMadeOfSources table label × (IsAdmitted table label → ⊥)

invalid-is : (table : TableValue) (label : List ℕ) (cause : LineCause) → IsSound table → IsInvalid table label → (invalid_cause table label ≡ Some cause) ↔ IsInvalidCause table label cause
invalid-is table label cause sound invalid =
    let told = invalid_cause-told table label invalid.0 in
    let is = of-part (validity_cause table label) (validity_causes.cause_of table label) (validity_causes.IsCause table label) cause (λ why. cause-is-exact.exactly table label why sound) in
    (λ h. is.0 (sym told ∙ h), λ has. told ∙ is.1 has)

-- what is known of a label that is refused under a table
pub record IsRefusedUnder (table : TableValue) (label : List ℕ) (refusal : Refusal) : Type 0 where
  pub sound : IsSound table
  pub outside : refusal ≡ NotInTable → IsOutside table label
  pub invalid : refusal ≡ refusals.NotValid → IsInvalid table label

module _ (properties : Properties) where
  table-is : (table : TableValue) (label : List ℕ) (refusal : Refusal) (cause : LineCause) → IsRefusedUnder table label refusal → (table_cause properties table label refusal ≡ Some cause) ↔ IsTableCause properties table label refusal cause
  table-is table label NotInTable cause under =
      of-part OfLabel (not_in_table_cause table label) (IsNotInTableCause table label) cause (λ c. outside-is table label c under.sound.entries (under.outside refl))
  table-is table label refusals.NotValid cause under = invalid-is table label cause under.sound (under.invalid refl)
  table-is table label refusal cause under = u_label-is properties label refusal cause

-- what is known of code points that are refused under a table
abbrev IsRefusedBy : Explained → List ℕ → Refusal → Type 0
IsRefusedBy (ByTable properties table) points refusal = IsRefusedUnder table points refusal
IsRefusedBy (ByRequest properties table) points refusal = IsRefusedUnder table (requested_label points) refusal
IsRefusedBy how points refusal = Unit {0}

points-is : (how : Explained) (points : List ℕ) (refusal : Refusal) (cause : LineCause) → IsRefusedBy how points refusal → (points_cause how points refusal ≡ Some cause) ↔ IsPointsCause how points refusal cause
unfolding points_cause
points-is Unexplained points refusal cause by = (λ h. let clash : None ≡ Some cause = h in cc, λ has. absurd has)
points-is (ByLabel properties) points refusal cause by = registered-is properties points refusal cause
points-is (ByName properties) points refusal cause by = of-part OfName (name_cause properties points refusal) (IsNameCause properties points refusal) cause (name_cause-is properties points refusal)
points-is (ByQuery std3) points refusal cause by =
    of-part OfQuery (query_cause (utf8_of points) std3 refusal) (IsQueryCause (utf8_of points) std3 refusal) cause (query_cause-is (utf8_of points) std3 refusal)
points-is (ByTable properties table) points refusal cause by = table-is properties table points refusal cause by
points-is (ByRequest properties table) points refusal cause by = table-is properties table (requested_label points) refusal cause by
points-is (ByRegisteredLine properties) points refusal cause by = u_label-is properties points refusal cause

-- ---- and each refusal of code points but for two has one

untold : {X : Type 0} (of : X → LineCause) (told : Option X) → option_map of told ≡ None → told ≡ None
untold {X} of None h = refl
untold {X} of (Some x) h = let clash : Some (of x) ≡ None = h in cc

fault_or_result : {X : Type 0} (fault : Option Refusal) (result : Result X Refusal) (refusal : Refusal) → unless_fault fault result ≡ Err refusal → (fault ≡ Some refusal) ⊎ ((fault ≡ None) × (result ≡ Err refusal))
fault_or_result {X} None result refusal h = inr (refl, h)
fault_or_result {X} (Some fault) result refusal h = let same : fault ≡ refusal = cc in inl (ap Some same)

of_text-refused : (said : List ℕ → Said) (answer : Answer) (refusal : Refusal) → one_answer said answer ≡ Err refusal → answer ≡ Err refusal
of_text-refused said (Ok text) refusal h = let clash : Ok (said text ∷ []) ≡ Err refusal = h in cc
of_text-refused said (Err other) refusal h = let same : other ≡ refusal = cc in ap Err same

then-refused : (answer : Answer) (f : List ℕ → List ℕ) (refusal : Refusal) → and_then answer (λ value. Ok (f value)) ≡ Err refusal → answer ≡ Err refusal
then-refused (Ok value) f refusal h = let clash : Ok (f value) ≡ Err refusal = h in cc
then-refused (Err other) f refusal h = let same : other ≡ refusal = cc in ap Err same

module _ (properties : Properties) where
  -- a label where a U-label is wanted has a cause if it has one as a label
  u_label-told : (label : List ℕ) (refusal : Refusal) → cause_of properties label refusal ≢ None → u_label_cause properties label refusal ≢ None
  unfolding u_label_cause
  u_label-told label refusals.Hyphen some none = by_prefix (has_ace_prefix label) none
    where
      by_prefix : (coded : Bool) → cond coded (Some (coded_cause (coded_label properties label))) (option_map OfLabel (cause_of properties label refusals.Hyphen)) ≡ None → ⊥
      by_prefix true n = let clash : Some (coded_cause (coded_label properties label)) ≡ None = n in cc
      by_prefix false n = some (untold OfLabel (cause_of properties label refusals.Hyphen) n)
  u_label-told label refusal some none = some (untold OfLabel (cause_of properties label refusal) none)

  -- registration
  registered-told : (label : List ℕ) (refusal : Refusal) → register_answer properties label ≡ Err refusal → refusal ≢ refusals.Empty → registration_cause properties label refusal ≢ None
  unfolding register_answer tested_answer
  registered-told label refusal refused some none = by_prefix (has_ace_prefix label) refused none
    where
      plain : (fault : Option Refusal) (a_label : List ℕ) → unless_fault fault (Ok a_label) ≡ Err refusal → fault ≡ Some refusal
      plain fault a_label h = elim (fault_or_result fault (Ok a_label) refusal h) [ inl is ↦ is | inr ok ↦ absurd (let clash : Ok a_label ≡ Err refusal = ok.1 in cc) ]

      by_prefix : (coded : Bool) → cond coded (and_then (u_label_answer properties label) (λ decoded. Ok (a_label_of decoded))) (unless_fault (first_fault properties label) (Ok (a_label_of label))) ≡ Err refusal
          → cond coded (option_map OfALabel (a_label_cause properties label refusal)) (option_map OfLabel (cause_of properties label refusal)) ≡ None → ⊥
      by_prefix true h n = a_label_fault-has_cause properties label refusal (then-refused (u_label_answer properties label) a_label_of refusal h) some (untold OfALabel (a_label_cause properties label refusal) n)
      by_prefix false h n = fault-has_cause properties label refusal (plain (first_fault properties label) (a_label_of label) h) some (untold OfLabel (cause_of properties label refusal) n)

-- lookup: two refusals, of which one has a cause
query-refused : (utf8 : List ℕ) (std3 : Bool) (refusal : Refusal) → query_name utf8 std3 ≡ Err refusal → refusal ≢ refusals.LookupInvalid → refusal ≡ refusals.LookupLength
unfolding query_name
query-refused utf8 std3 refusal refused other = by_ascii (to_ascii (deny_list std3) Allow Ignore utf8) refused
  where
    by_length : (ascii : List ℕ) (fits : Bool) → (let answer : Answer = cond fits (Ok ascii) (Err refusals.LookupLength) in answer) ≡ Err refusal → refusal ≡ refusals.LookupLength
    by_length ascii true h = let clash : Ok ascii ≡ Err refusal = h in cc
    by_length ascii false h = let same : refusals.LookupLength ≡ refusal = cc in sym same

    by_ascii : (ascii : Option (List ℕ)) → measured_answer ascii ≡ Err refusal → refusal ≡ refusals.LookupLength
    by_ascii None h = let same : refusals.LookupInvalid ≡ refusal = cc in absurd (other (sym same))
    by_ascii (Some ascii) h = by_length ascii (verify_dns_length ascii true) h

query-told : (utf8 : List ℕ) (std3 : Bool) (refusal : Refusal) → query_name utf8 std3 ≡ Err refusal → refusal ≢ refusals.LookupInvalid → query_cause utf8 std3 refusal ≢ None
query-told utf8 std3 refusal refused other none =
    let same = query-refused utf8 std3 refusal refused other in
    query_fault-has_cause utf8 std3 (refused ∙ ap Err same) (ap (query_cause utf8 std3) (sym same) ∙ none)

module _ (properties : Properties) where
  -- by sources of a table
  fault-not_outside : (label : List ℕ) → first_fault properties label ≡ Some NotInTable → ⊥
  unfolding cause_of
  fault-not_outside label fault = fault-has_cause properties label NotInTable fault (λ same. cc) refl

  fault-not_invalid : (label : List ℕ) → first_fault properties label ≡ Some refusals.NotValid → ⊥
  unfolding cause_of
  fault-not_invalid label fault = fault-has_cause properties label refusals.NotValid fault (λ same. cc) refl

refused-as : (table : TableValue) (label : List ℕ) (said : List Said) (refusal : Refusal) → IsSound table → if_admitted table label said ≡ Err refusal → IsRefusedAs table label refusal
refused-as table label said refusal sound refused = elim (admitted_or_refused table label sound) [
  | inl is ↦ absurd (let clash : Ok said ≡ Err refusal = sym (admitted_answer table label said sound is) ∙ refused in cc)
  | inr other ↦
      let told : Err other.0 ≡ Err refusal = sym (refused_answer table label other.0 said sound other.1 (admitted-made table label)) ∙ refused in
      let same : other.0 ≡ refusal = cc in subst (IsRefusedAs table label) same other.1
]

module _ (properties : Properties) where
  -- what is asked of a label under a table
  abbrev IsTested : TableValue → List ℕ → Refusal → Type 0
  IsTested table label refusal = (said : List Said) × (unless_fault (first_fault properties label) (if_admitted table label said) ≡ Err refusal)

  table-refused : (table : TableValue) (label : List ℕ) (refusal : Refusal) → IsSound table → IsTested table label refusal
      → (first_fault properties label ≡ Some refusal) ⊎ (((refusal ≡ NotInTable) × IsOutside table label) ⊎ ((refusal ≡ refusals.NotValid) × IsInvalid table label))
  table-refused table label refusal sound tested = elim (fault_or_result (first_fault properties label) (if_admitted table label tested.0) refusal tested.1) [
    | inl fault ↦ inl fault
    | inr result ↦ elim (refused-as table label tested.0 refusal sound result.1) [
      | inl outside ↦ inr (inl (outside.1, ((MeetsRequirements-registrable properties label result.0).points, outside.0)))
      | inr other ↦ inr (inr (other.2, ((MeetsRequirements-registrable properties label result.0).points, other.0, other.1)))
    ]
  ]

  table-outside : (table : TableValue) (label : List ℕ) (refusal : Refusal) → IsSound table → IsTested table label refusal → refusal ≡ NotInTable → IsOutside table label
  table-outside table label refusal sound tested same = elim (table-refused table label refusal sound tested) [
    | inl fault ↦ absurd (fault-not_outside properties label (fault ∙ ap Some same))
    | inr others ↦ elim others [
      | inl outside ↦ outside.1
      | inr other ↦ absurd (let clash : refusals.NotValid ≡ NotInTable = sym other.0 ∙ same in cc)
    ]
  ]

  table-invalid : (table : TableValue) (label : List ℕ) (refusal : Refusal) → IsSound table → IsTested table label refusal → refusal ≡ refusals.NotValid → IsInvalid table label
  table-invalid table label refusal sound tested same = elim (table-refused table label refusal sound tested) [
    | inl fault ↦ absurd (fault-not_invalid properties label (fault ∙ ap Some same))
    | inr others ↦ elim others [
      | inl outside ↦ absurd (let clash : NotInTable ≡ refusals.NotValid = sym outside.0 ∙ same in cc)
      | inr other ↦ other.1
    ]
  ]

  refused-under : (table : TableValue) (label : List ℕ) (refusal : Refusal) → IsSound table → IsTested table label refusal → IsRefusedUnder table label refusal
  refused-under table label refusal sound tested =
      record { sound = sound; outside = table-outside table label refusal sound tested; invalid = table-invalid table label refusal sound tested }

  table_cause-other : (table : TableValue) (label : List ℕ) (refusal : Refusal) → refusal ≢ NotInTable → refusal ≢ refusals.NotValid → table_cause properties table label refusal ≡ u_label_cause properties label refusal
  table_cause-other table label NotInTable other valid = absurd (other refl)
  table_cause-other table label refusals.NotValid other valid = absurd (valid refl)
  table_cause-other table label refusal other valid = refl

-- a label that is made of sources and may not be asked about has a cause
invalid-told : (table : TableValue) (label : List ℕ) → IsSound table → IsInvalid table label → invalid_cause table label ≢ None
invalid-told table label sound invalid none =
    let no_cause = untold (validity_cause table label) (validity_causes.cause_of table label) (sym (invalid_cause-told table label invalid.0) ∙ none) in
    let clash : true ≡ false = sym (cause-is-exact.told table label sound invalid.2) ∙ ap is_some no_cause in cc

module _ (properties : Properties) where
  table-told : (table : TableValue) (label : List ℕ) (refusal : Refusal) → IsSound table → IsTested properties table label refusal → refusal ≢ refusals.Empty → table_cause properties table label refusal ≢ None
  table-told table label refusal sound tested some none = elim (table-refused properties table label refusal sound tested) [
    | inl fault ↦
        let other : refusal ≢ NotInTable = λ same. fault-not_outside properties label (fault ∙ ap Some same) in
        let valid : refusal ≢ refusals.NotValid = λ same. fault-not_invalid properties label (fault ∙ ap Some same) in
        u_label-told properties label refusal (fault-has_cause properties label refusal fault some) (sym (table_cause-other properties table label refusal other valid) ∙ none)
    | inr others ↦ elim others [
      | inl outside ↦
          let told = outside-told properties table label (furthest table label) sound.entries outside.1.0 ((furthest-told.exactly table label (furthest table label) sound.entries).1 refl) in
          let clash : Some (OfLabel (Point (furthest table label) (slice_index label (furthest table label)))) ≡ None = sym told ∙ ap (table_cause properties table label) (sym outside.0) ∙ none in cc
      | inr other ↦ invalid-told table label sound other.1 (ap (table_cause properties table label) (sym other.0) ∙ none)
    ]
  ]

-- of each mode
points-refused : (mode : Mode) (o : Settings) (table : TableValue) (points : List ℕ) (refusal : Refusal) → IsSound table → mode_answer mode o table points ≡ Err refusal → IsRefusedBy (explained_by_mode mode o table) points refusal
points-refused modes.Lookup o table points refusal formed refused = tt
points-refused modes.Register o table points refusal formed refused = tt
points-refused modes.Decode o table points refusal formed refused = tt
points-refused modes.DecodeOld o table points refusal formed refused = tt
points-refused modes.Variants o table points refusal formed refused = refused-under o.properties table points refusal formed (_, refused)
points-refused modes.Jump o table points refusal formed refused = refused-under o.properties table (requested_label points) refusal formed (_, refused)
points-refused modes.CheckTable o table points refusal formed refused = tt
points-refused modes.PrintTable o table points refusal formed refused = tt

points-told : (mode : Mode) (o : Settings) (table : TableValue) (points : List ℕ) (refusal : Refusal) → IsSound table → mode_answer mode o table points ≡ Err refusal → refusal ≢ refusals.Empty → refusal ≢ refusals.LookupInvalid → points_cause (explained_by_mode mode o table) points refusal ≢ None
unfolding points_cause
points-told modes.Lookup o table points refusal formed refused some other none =
    query-told (utf8_of points) o.std3 refusal (of_text-refused _ (query_name (utf8_of points) o.std3) refusal refused) other (untold OfQuery (query_cause (utf8_of points) o.std3 refusal) none)
points-told modes.Register o table points refusal formed refused some other none =
    registered-told o.properties points refusal (of_text-refused _ (register_answer o.properties points) refusal refused) some none
points-told modes.Decode o table points refusal formed refused some other none =
    name_fault-has_cause o.properties points refusal (then-refused (decode_answer o.properties points) utf8_of refusal (of_text-refused _ (in_utf8 (decode_answer o.properties points)) refusal refused)) some
    (untold OfName (name_cause o.properties points refusal) none)
points-told modes.DecodeOld o table points refusal formed refused some other none =
    registered-told o.properties points refusal (zone-refused o.properties points refusal refused) some none
points-told modes.Variants o table points refusal formed refused some other none =
    table-told o.properties table points refusal formed (_, refused) some none
points-told modes.Jump o table points refusal formed refused some other none =
    table-told o.properties table (requested_label points) refusal formed (_, refused) some none
points-told modes.CheckTable o table points refusal formed refused some other none = let clash : Ok [] ≡ Err refusal = refused in cc
points-told modes.PrintTable o table points refusal formed refused some other none = let clash : Ok [] ≡ Err refusal = refused in cc

-- ---- bytes that are no UTF-8

-- no longer beginning of the bytes is UTF-8
abbrev NoneBeyond : List ℕ → ℕ → Type 0
NoneBeyond bytes place = (count : ℕ) → place < count → count ≤ length bytes → IsUtf8 (take count bytes) → ⊥

valid_len-is : (bytes : List ℕ) (n : ℕ) → n ≤ length bytes → NoneBeyond bytes n → (let place = valid_len_up_to bytes n in (place ≤ n) × IsUtf8 (take place bytes) × NoneBeyond bytes place)
valid_len-is bytes zero within beyond = (omega arith, ([], (refl, refl)), beyond)
valid_len-is bytes (suc n) within beyond = by_test (λ none. valid_len-is bytes n (omega arith) none) (is_utf8 (take (suc n) bytes)) refl
  where
    beyond_fewer : is_utf8 (take (suc n) bytes) ≡ false → NoneBeyond bytes n
    beyond_fewer e count more upto is = elim (cases_lt (suc n) count) [
      | inl greater ↦ beyond count greater upto is
      | inr from ↦
          let same : count ≡ suc n = omega arith in
          let clash : true ≡ false = sym (is_utf8-from_IsUtf8 (take (suc n) bytes) (subst (λ k. IsUtf8 (take k bytes)) same is)) ∙ e in cc
    ]

    by_test : (NoneBeyond bytes n → (let place = valid_len_up_to bytes n in (place ≤ n) × IsUtf8 (take place bytes) × NoneBeyond bytes place)) → (utf8 : Bool) → is_utf8 (take (suc n) bytes) ≡ utf8
        → (let place = cond utf8 (suc n) (valid_len_up_to bytes n) in (place ≤ suc n) × IsUtf8 (take place bytes) × NoneBeyond bytes place)
    by_test fewer true e = (omega arith, IsUtf8-from_is_utf8 (take (suc n) bytes) e, beyond)
    by_test fewer false e = let is = fewer (beyond_fewer e) in let fewest = is.0 in (omega arith, is.1, is.2)

bad_byte-is : (bytes : List ℕ) → is_utf8 bytes ≡ false → IsValidUpTo bytes (utf8_valid_len bytes)
unfolding utf8_valid_len
bad_byte-is bytes other =
    let is = valid_len-is bytes (length bytes) (omega arith) (λ count more upto. absurd (omega arith)) in
    record { short = within (cases_lt (valid_len_up_to bytes (length bytes)) (length bytes)); front = is.1; longest = longest }
  where
    within : (valid_len_up_to bytes (length bytes) < length bytes) ⊎ (length bytes ≤ valid_len_up_to bytes (length bytes)) → valid_len_up_to bytes (length bytes) < length bytes
    within (inl lt) = lt
    within (inr upto) =
        let is = valid_len-is bytes (length bytes) (omega arith) (λ count more most. absurd (omega arith)) in
        let clash : true ≡ false = sym (is_utf8-from_IsUtf8 bytes (subst IsUtf8 (take_all (valid_len_up_to bytes (length bytes)) bytes upto) is.1)) ∙ other in absurd cc

    longest : (m : ℕ) → valid_len_up_to bytes (length bytes) < m → IsUtf8 (take m bytes) → ⊥
    longest m more is = elim (cases_lt (length bytes) m) [
      | inl past ↦ let clash : true ≡ false = sym (is_utf8-from_IsUtf8 bytes (subst IsUtf8 (take_all m bytes (omega arith)) is)) ∙ other in cc
      | inr upto ↦ (valid_len-is bytes (length bytes) (omega arith) (λ count beyond most. absurd (omega arith))).2 m more upto is
    ]

byte-is : (bytes : List ℕ) (cause : LineCause) → is_utf8 bytes ≡ false → (Some (bad_byte bytes) ≡ Some cause) ↔ IsBadByte bytes cause
byte-is bytes cause other = (
  λ h. let same : bad_byte bytes ≡ cause = cc in (utf8_valid_len bytes, bad_byte-is bytes other, sym same),
  λ has. ap Some (bad_byte-at bytes has.0 has.1 ∙ sym has.2),
)

-- ---- of a line

wanted-told : (how : Explained) (cause : LineCause) → how ≢ Unexplained → unless_unexplained how cause ≡ Some cause
wanted-told Unexplained cause explained = absurd (explained refl)
wanted-told how cause explained = refl

abbrev IsToldAs : Explained → Option (List ℕ) → Refusal → LineCause → Type 0
IsToldAs how body refusal cause = (body_cause how body refusal ≡ Some cause) ↔ IsLineCause how body refusal cause

long-is : (how : Explained) (refusal : Refusal) (cause : LineCause) → how ≢ Unexplained → IsToldAs how None refusal cause
long-is how refusal cause explained =
    let told = wanted-told how LongLine explained in (
      λ h. let found : Some LongLine ≡ Some cause = sym told ∙ h in let same : LongLine ≡ cause = cc in sym same,
      λ is. told ∙ ap Some (sym is),
    )

text-is : (how : Explained) (bytes : List ℕ) (refusal : Refusal) (cause : LineCause) → how ≢ Unexplained → (is_utf8 bytes ≡ true → IsRefusedBy how (chars bytes) refusal) → IsToldAs how (Some bytes) refusal cause
text-is how bytes refusal cause explained by = by_utf8 (is_utf8 bytes) refl
  where
    by_utf8 : (utf8 : Bool) → is_utf8 bytes ≡ utf8 → (cond utf8 (points_cause how (chars bytes) refusal) (unless_unexplained how (bad_byte bytes)) ≡ Some cause) ↔ IsLineCause how (Some bytes) refusal cause
    by_utf8 true e =
        let is = points-is how (chars bytes) refusal cause (by e) in
        (λ h. inr (e, is.0 h), λ has. elim has [ inl other ↦ absurd (let clash : true ≡ false = sym e ∙ other.0 in cc) | inr points ↦ is.1 points.1 ])
    by_utf8 false e =
        let told = wanted-told how (bad_byte bytes) explained in
        let is = byte-is bytes cause e in
        (λ h. inl (e, is.0 (sym told ∙ h)), λ has. elim has [ inl byte ↦ told ∙ is.1 byte.1 | inr points ↦ absurd (let clash : true ≡ false = sym points.0 ∙ e in cc) ])

-- of UTF-8 it is the refusal of its code points, unless it is empty
text-refused : (answer : List ℕ → LineAnswer) (bytes : List ℕ) (refusal : Refusal) → is_utf8 bytes ≡ true → text_answer answer bytes ≡ Err refusal → (refusal ≡ refusals.Empty) ⊎ (answer (chars bytes) ≡ Err refusal)
text-refused answer bytes refusal utf8 refused =
    by_length (length bytes == 0) (sym (ap (λ (b : Bool). let told : LineAnswer = cond b (cond (length bytes == 0) (Err refusals.Empty) (answer (chars bytes))) (Err refusals.NotUtf8) in told) utf8) ∙ refused)
  where
    by_length : (empty : Bool) → (let told : LineAnswer = cond empty (Err refusals.Empty) (answer (chars bytes)) in told) ≡ Err refusal → (refusal ≡ refusals.Empty) ⊎ (answer (chars bytes) ≡ Err refusal)
    by_length true h = let same : refusals.Empty ≡ refusal = cc in inl (sym same)
    by_length false h = inr h

empty-under : (table : TableValue) (label : List ℕ) → IsSound table → IsRefusedUnder table label refusals.Empty
empty-under table label sound =
    record { sound = sound; outside = λ same. absurd (let clash : refusals.Empty ≡ NotInTable = same in cc); invalid = λ same. absurd (let clash : refusals.Empty ≡ refusals.NotValid = same in cc) }

empty-refused : (mode : Mode) (o : Settings) (table : TableValue) (points : List ℕ) → IsSound table → IsRefusedBy (explained_by_mode mode o table) points refusals.Empty
empty-refused modes.Variants o table points formed = empty-under table points formed
empty-refused modes.Jump o table points formed = empty-under table (requested_label points) formed
empty-refused modes.Lookup o table points formed = tt
empty-refused modes.Register o table points formed = tt
empty-refused modes.Decode o table points formed = tt
empty-refused modes.DecodeOld o table points formed = tt
empty-refused modes.CheckTable o table points formed = tt
empty-refused modes.PrintTable o table points formed = tt

explains : (mode : Mode) (o : Settings) (table : TableValue) → ReadsLines mode → explained_by_mode mode o table ≢ Unexplained
explains modes.Lookup o table other = λ same. let clash : ByQuery o.std3 ≡ Unexplained = same in cc
explains modes.Register o table other = λ same. let clash : ByLabel o.properties ≡ Unexplained = same in cc
explains modes.Decode o table other = λ same. let clash : ByName o.properties ≡ Unexplained = same in cc
explains modes.DecodeOld o table other = λ same. let clash : ByLabel o.properties ≡ Unexplained = same in cc
explains modes.Variants o table other = λ same. let clash : ByTable o.properties table ≡ Unexplained = same in cc
explains modes.Jump o table other = λ same. let clash : ByRequest o.properties table ≡ Unexplained = same in cc
explains modes.CheckTable o table other = absurd (other.0 refl)
explains modes.PrintTable o table other = absurd (other.1 refl)

line-exactly : (mode : Mode) (o : Settings) (table : TableValue) (body : Option (List ℕ)) (refusal : Refusal) (cause : LineCause) → ReadsLines mode → IsSound table
    → line_answer (mode_answer mode o table) body ≡ Err refusal → IsToldAs (explained_by_mode mode o table) body refusal cause
line-exactly mode o table None refusal cause other formed refused = long-is (explained_by_mode mode o table) refusal cause (explains mode o table other)
line-exactly mode o table (Some bytes) refusal cause other formed refused = text-is (explained_by_mode mode o table) bytes refusal cause (explains mode o table other) by
  where
    by : is_utf8 bytes ≡ true → IsRefusedBy (explained_by_mode mode o table) (chars bytes) refusal
    by utf8 = elim (text-refused (mode_answer mode o table) bytes refusal utf8 refused) [
      | inl empty ↦ subst (IsRefusedBy (explained_by_mode mode o table) (chars bytes)) (sym empty) (empty-refused mode o table (chars bytes) formed)
      | inr points ↦ points-refused mode o table (chars bytes) refusal formed points
    ]

line-always : (mode : Mode) (o : Settings) (table : TableValue) (body : Option (List ℕ)) (refusal : Refusal) → ReadsLines mode → IsSound table
    → line_answer (mode_answer mode o table) body ≡ Err refusal → refusal ≢ refusals.Empty → refusal ≢ refusals.LookupInvalid → body_cause (explained_by_mode mode o table) body refusal ≢ None
line-always mode o table None refusal other formed refused some lookup none =
    let clash : Some LongLine ≡ None = sym (wanted-told (explained_by_mode mode o table) LongLine (explains mode o table other)) ∙ none in cc
line-always mode o table (Some bytes) refusal other formed refused some lookup none = by_utf8 (is_utf8 bytes) refl none
  where
    by_utf8 : (utf8 : Bool) → is_utf8 bytes ≡ utf8 → cond utf8 (points_cause (explained_by_mode mode o table) (chars bytes) refusal) (unless_unexplained (explained_by_mode mode o table) (bad_byte bytes)) ≡ None → ⊥
    by_utf8 true e n = elim (text-refused (mode_answer mode o table) bytes refusal e refused) [
      | inl empty ↦ some empty
      | inr points ↦ points-told mode o table (chars bytes) refusal formed points some lookup n
    ]
    by_utf8 false e n = let clash : Some (bad_byte bytes) ≡ None = sym (wanted-told (explained_by_mode mode o table) (bad_byte bytes) (explains mode o table other)) ∙ n in cc

pub refusals_explained : RefusalsAreExplained
refusals_explained mode o table line refusal other wanted formed refused =
    let same : explained_in mode o table ≡ explained_by_mode mode o table = ap (λ (b : Bool). if_wanted b (explained_by_mode mode o table)) wanted in
    let is : (cause : LineCause) → IsToldAs (explained_in mode o table) line.body refusal cause =
    λ cause. subst (λ (how : Explained). IsToldAs how line.body refusal cause) (sym same) (line-exactly mode o table line.body refusal cause other formed refused) in
    record {
      exactly = is;
      always = λ some lookup none. line-always mode o table line.body refusal other formed refused some lookup (ap (λ (how : Explained). body_cause how line.body refusal) (sym same) ∙ none);
      told = λ cause has.
          ap (output_for o.form (explained_in mode o table) line) refused
          ∙ ap (λ (told : Option LineCause). output_line_in o.form (Refuses line refusal told) ∷ []) ((is cause).1 has);
    }
