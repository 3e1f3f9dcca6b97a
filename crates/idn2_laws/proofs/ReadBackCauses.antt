-- The causes of refused lines tell small numbers, and texts of UTF-8.
use Rattle.std.proofs.Common.{◌≡◌, inl, inr, ℕ, zero, suc, ◌+◌, ◌-◌, ◌*◌, ◌/◌, ◌%◌, ◌<◌, ◌≤◌, ◌^◌, ◌==◌, Bool, true, false, ◌&&◌, List, [], ◌∷◌, ◌++◌, map, drop, take, insert, length, length-append, length-drop, length-take, chars, cond, Option, Some, None, Result, Ok, Err, append_assoc, append-nil, refl, sym, ap, subst, ◌∙◌, arith}
use Rattle.std.specs.Prelude.{IsUtf8, nat_le, slice_index, slice_index_or, option_and_then}
use Rattle.std.specs.Char.{encode_utf8, is_ascii, to_ascii_lowercase}
use Rattle.std.specs.List.{AllByRecursion, list_all}
use Rattle.std.proofs.lemmas.Bool.{and_parts, and_from}
use Rattle.std.proofs.lemmas.Bool.Decides.{nat_tests}
use Rattle.std.proofs.lemmas.List.{length-map}
use Rattle.std.proofs.lemmas.List.Splits.{length-slice_split}
use Rattle.std.proofs.lemmas.List.Sums.{count_by-le-length}
use Rattle.std.proofs.lemmas.Option.{slice_get_within}
use Rattle.std.proofs.lemmas.Str.{length-encode, len_utf8_bounds}
use Rattle.idn_class.specs.declared.properties.Properties.{Properties}
use Rattle.idna.specs.Labels.{is_full_stop, full_stop, labels_of, join_labels}
use Rattle.idna.specs.Punycode.{adapt, basic_part, decode, extended_part, insert_all, is_scalar, read_integer}
use Rattle.idna.specs.Validity.{has_ace_prefix, is_all_ascii}
use Rattle.idna.proofs.LabelsLemmas.{join_labels-labels_of}
use Rattle.idn_text.specs.Points.{utf8_of}
use Rattle.idn_text.specs.declared.refusal.Refusal.{Refusal}
use Rattle.idn_text.specs.declared.refusal.Refusal.TheVariants as refusals
use Rattle.idn_class.specs.BidiClass.{bidi_class}
use Rattle.idn_class.specs.Causes.{Breaks}
use Rattle.idn_class.specs.declared.broken.BidiCondition.{BidiCondition}
use Rattle.idn_class.specs.declared.broken.BidiCondition.TheVariants as conditions
use Rattle.idn_label.specs.Answers.{Answer as LabelAnswer}
use Rattle.idn_label.specs.Decode.{decoded_label, decoded_labels, with_others}
use Rattle.idn_label.specs.Register.{u_label_answer}
use Rattle.idn_label.specs.Steps.{begins_with_prefix}
use Rattle.idn_label.proofs.ALabels.{registrable_scalars}
use Rattle.idn_label.proofs.AnswerLemmas.{decoded_code-from, u_label_answer-from}
use Rattle.idn_cause.specs.declared.cause.Cause.{Cause}
use Rattle.idn_cause.specs.declared.cause.Cause.TheVariants.{Condition}
use Rattle.idn_cause.specs.declared.a_label.ALabelCause.{ALabelCause}
use Rattle.idn_cause.specs.declared.name.NameCause.{NameCause}
use Rattle.idn_cause.specs.declared.query.LengthCause.{LengthCause}
use Rattle.idn_cause.specs.declared.query.LengthCause.TheVariants.{LabelOctets, NameOctets}
use Rattle.idn_cause.specs.Causes.{IsCause, IsFirstPoint}
use Rattle.idn_cause.specs.ALabelCauses.{IsALabelCause}
use Rattle.idn_cause.specs.NameCauses.{label_of_number, of_decoded, IsLabelCause, IsWholeNameCause, IsNameCause}
use Rattle.ruleset_text.specs.Definitions.{rule_name, type_name, type_names}
use Rattle.ruleset_text.specs.Names.{AreNames, is_letter, is_name, is_name_byte}
use Rattle.variant_dispositions.specs.declared.action.Action.{Action}
use Rattle.variant_table.specs.Entries.{TableValue}
use Rattle.valid_labels.specs.Actions.{action_of, actions_of}
use Rattle.valid_labels.specs.Causes as validity_causes
use Rattle.valid_labels.specs.Validity.{IsSound}
use Rattle.valid_labels.specs.declared.cause.ActionCause.{ActionCause}
use Rattle.valid_labels.specs.declared.cause.ActionCause.TheVariants as triggered
use Rattle.valid_labels.specs.declared.cause.ValidityCause.{ValidityCause}
use Rattle.valid_labels.specs.declared.cause.ValidityCause.TheVariants as validity
use Rattle.valid_labels.proofs.EligibleLemmas.{begins-within, source-filled}
use Rattle.idn2_options.specs.Settings.{Settings, tells_causes}
use Rattle.idn2_options.specs.declared.command_line.mode.Mode.{Mode}
use Rattle.idn2_options.specs.declared.command_line.mode.Mode.TheVariants as modes
use Rattle.answer_json.specs.Inputs.{told_of}
use Rattle.answer_json.specs.Objects.{refused as object}
use Rattle.idn2_refusals.specs.CauseParts.{told_details}
use Rattle.idn2_refusals.specs.Requests.{requested_label}
use Rattle.idn2_refusals.specs.Explained.{Explained, Unexplained, ByLabel, ByName, ByQuery, ByTable, ByRequest, ByRegisteredLine, action_cause, body_cause, if_wanted, validity_cause}
use Rattle.idn2_answers.specs.Transcript.{explained_by_mode, explained_in}
use Rattle.idn2_laws.specs.LineCauses.{IsCodedCause, IsLineCause, IsPointsCause, IsTableCause, IsULabelCause}
use Rattle.idn2_laws.specs.ReadBack.{IsReadBack, ALabelHasFewOctets, HasFewOctets, IsShortBody, NameHasFewOctets, RefusalsAreReadBack, TellsFewOctets, TellsFewOctetsIfAny}
use Rattle.idn2_refusals.specs.declared.cause.LineCause.{LineCause}
use Rattle.idn2_laws.proofs.LineCauseLaws.{refusals_explained}
use Rattle.idn2_laws.proofs.ReadBackDetails.{IsFitting, IsFittingALabel, IsFittingCause, IsFittingLength, refused_good}
use Rattle.idn2_laws.proofs.ReadBackLemmas.{a_label-utf8, ascii_utf8, scalars_utf8}
use Rattle.idn2_refusals.proofs.Utf8Bytes.{utf8-of_chars}

-- ---- of a label

module _ (properties : Properties) where
  breaks_within : (label : List ℕ) (condition : BidiCondition) (place : ℕ) → Breaks properties label condition place → length label < 2 ^ 62 → place < 2 ^ 63
  breaks_within label conditions.First place h short = omega (arith, h.0)
  breaks_within label conditions.RtlHolds place h short = omega (arith, h.1.within, short)
  breaks_within label conditions.RtlEnds place h short = omega (arith, h.1.within, short)
  breaks_within label conditions.RtlNumbers place h short = omega (arith, h.1.within, short)
  breaks_within label conditions.LtrHolds place h short = omega (arith, h.1.within, short)
  breaks_within label conditions.LtrEnds place h short = omega (arith, h.1.within, short)

point_fits : (label : List ℕ) (Passes : ℕ → Type 0) (cause : Cause) → IsFirstPoint label Passes cause → length label < 2 ^ 62 → IsFittingCause cause
point_fits label Passes cause is short = subst IsFittingCause (sym is.1) (omega (arith, is.2.within, short))

module _ (properties : Properties) where
  pub cause_fits : (label : List ℕ) (refusal : Refusal) (cause : Cause) → IsCause properties label refusal cause → length label < 2 ^ 62 → HasFewOctets cause → IsFittingCause cause
  cause_fits label refusals.Disallowed cause is short few = subst IsFittingCause (sym is.2) (omega (arith, is.3.within, short))
  cause_fits label refusals.Unassigned cause is short few = subst IsFittingCause (sym is.2) (omega (arith, is.3.within, short))
  cause_fits label refusals.NotNfc cause is short few = subst IsFittingCause (sym is.1) (omega (arith, is.3.within_label, short))
  cause_fits label refusals.Hyphen cause is short few = subst IsFittingCause (sym is.1) (omega (arith, is.2.within, short))
  cause_fits label refusals.LeadingMark cause is short few = subst IsFittingCause (sym is.0) (omega arith)
  cause_fits label refusals.ContextJ cause is short few = point_fits label _ cause is short
  cause_fits label refusals.ContextO cause is short few = point_fits label _ cause is short
  cause_fits label refusals.Bidi cause is short few = subst IsFittingCause (sym is.2) (breaks_within properties label is.0 is.1 is.3.breaks short)
  cause_fits label refusals.LabelTooLong cause (inl is) short few = subst IsFittingCause (sym is.1) (omega (arith, short))
  cause_fits label refusals.LabelTooLong cause (inr is) short few = subst IsFittingCause (sym is.2) (subst HasFewOctets is.2 few)
  cause_fits label _ cause is short few = absurd is

-- ---- of what begins with "xn--"

insert-length : (xs : List ℕ) (i y : ℕ) → length (insert xs i y) ≤ length xs + 1
insert-length xs i y = omega (arith, length-append (take i xs) (y ∷ drop i xs), length-take i xs, length-drop i xs)

inserted-length : (turns n i bias : ℕ) (output input decoded : List ℕ) → insert_all turns n i bias output input ≡ Some decoded → length decoded ≤ length output + turns
unfolding insert_all
inserted-length zero n i bias output [] decoded is = let same : output ≡ decoded = cc in omega (arith, ap length same)
inserted-length (suc turns) n i bias output [] decoded is = let same : output ≡ decoded = cc in omega (arith, ap length same)
inserted-length zero n i bias output (c ∷ input) decoded is = absurd (let clash : None ≡ Some decoded = is in cc)
inserted-length (suc turns) n i bias output (c ∷ input) decoded is =
    by_read (λ point place next longer rest. inserted-length turns point place next longer rest decoded) (read_integer bias 36 1 i (c ∷ input)) is
  where
    count : ℕ
    count = length output + 1

    by_test : (longer : List ℕ) → length longer ≤ length output + 1 → (more : Option (List ℕ)) → (more ≡ Some decoded → length decoded ≤ length longer + turns) → (b : Bool) → cond b more None ≡ Some decoded → length decoded ≤ length output + suc turns
    by_test longer le more rest true e = omega (arith, rest e, le)
    by_test longer le more rest false e = absurd (let clash : None ≡ Some decoded = e in cc)

    by_read : ((point place bias : ℕ) (longer rest : List ℕ) → insert_all turns point place bias longer rest ≡ Some decoded → length decoded ≤ length longer + turns) → (r : Option (ℕ × List ℕ))
        → option_and_then (λ (j, rest). cond (is_scalar (n + j / count)) (insert_all turns (n + j / count) (j % count + 1) (adapt (j - i) count (i == 0)) (insert output (j % count) (n + j / count)) rest) None) r ≡ Some decoded
        → length decoded ≤ length output + suc turns
    by_read more None e = absurd (let clash : None ≡ Some decoded = e in cc)
    by_read more (Some (j, rest)) e =
        by_test (insert output (j % count) (n + j / count)) (insert-length output (j % count) (n + j / count)) _ (more (n + j / count) (j % count + 1) (adapt (j - i) count (i == 0)) (insert output (j % count) (n + j / count)) rest) (is_scalar (n + j / count)) e

pub taken : (n : ℕ) (xs : List ℕ) → length (take n xs) ≤ length xs
taken n xs = omega (arith, length-take n xs)

decode-length : (code label : List ℕ) → decode code ≡ Some label → length label ≤ 2 * length code
unfolding decode
decode-length code label is = by_test (list_all is_ascii (basic_part code)) is
  where
    few : length (basic_part code) ≤ length code
    few = taken _ code

    by_test : (b : Bool) → cond b (insert_all (length code) 128 0 72 (basic_part code) (extended_part code)) None ≡ Some label → length label ≤ 2 * length code
    by_test true e = omega (arith, inserted-length (length code) 128 0 72 (basic_part code) (extended_part code) label e, few)
    by_test false e = absurd (let clash : None ≡ Some label = e in cc)

module _ (properties : Properties) where
  a_label_fits : (given : List ℕ) (refusal : Refusal) (cause : ALabelCause) → IsALabelCause properties given refusal cause → length given < 2 ^ 60 → ALabelHasFewOctets cause → IsFittingALabel cause
  a_label_fits given refusals.BadALabel cause (inl (inl is)) short few = subst IsFittingALabel (sym is.1) tt
  a_label_fits given refusals.BadALabel cause (inl (inr (inl is))) short few =
      subst IsFittingALabel (sym is.1.2) (omega (arith, is.1.1.within, length-drop 4 given, short))
  a_label_fits given refusals.BadALabel cause (inl (inr (inr is))) short few = subst IsFittingALabel (sym is.3) tt
  a_label_fits given refusals.BadALabel cause (inr is) short few = subst IsFittingALabel (sym is.4) (a_label-utf8 is.0)
  a_label_fits given refusal cause is short few =
      subst IsFittingALabel (sym is.4)
      (cause_fits properties is.0 refusal is.1 is.3 (omega (arith, decode-length (drop 4 given) is.0 (decoded_code-from (drop 4 given) is.0 is.2), length-drop 4 given, short)) (subst ALabelHasFewOctets is.4 few))

-- ---- of a name

label_in : (before after : List (List ℕ)) (label : List ℕ) → length label ≤ length (join_labels (before ++ label ∷ after))
label_in [] [] label = omega arith
label_in [] (next ∷ after) label = omega (arith, length-append label (full_stop ∷ join_labels (next ∷ after)))
label_in (first ∷ []) after label = omega (arith, label_in [] after label, length-append first (full_stop ∷ join_labels (label ∷ after)))
label_in (first ∷ second ∷ before) after label =
    omega (arith, label_in (second ∷ before) after label, length-append first (full_stop ∷ join_labels ((second ∷ before) ++ label ∷ after)))

-- the labels of a name, each in its length and all of them in their number
few_of_name : (name : List ℕ) (before after : List (List ℕ)) (label : List ℕ) → labels_of name ≡ before ++ label ∷ after → (length label ≤ length name) × (length before ≤ length name)
few_of_name name before after label split =
    let count = length-slice_split is_full_stop name in
    let few = count_by-le-length is_full_stop name in (
      omega (arith, label_in before after label, ap (λ ls. length (join_labels ls)) (sym split), ap length (join_labels-labels_of name)),
      omega (arith, ap length split, length-append before (label ∷ after), count, few),
    )

module _ (properties : Properties) where
  label_fits : (name : List ℕ) (refusal : Refusal) (cause : NameCause) → IsLabelCause properties name refusal cause → length name < 2 ^ 60 → ALabelHasFewOctets cause.cause → (cause.label < 2 ^ 63) × IsFittingALabel cause.cause
  label_fits name refusal cause is short few =
      let label = is.0 in
      let bounds = few_of_name name is.1.before is.1.after label is.1.split in (
        omega (arith, is.1.counted, bounds.1, short),
        a_label_fits properties (map to_ascii_lowercase label) refusal cause.cause is.2 (omega (arith, length-map label to_ascii_lowercase, bounds.0, short)) few,
      )

  -- ---- of a whole name

  decoded_short : (label decoded : List ℕ) → decoded_label properties label ≡ Ok decoded → length decoded ≤ 2 * length label
  unfolding decoded_label
  decoded_short label decoded is = by_prefix (has_ace_prefix (map to_ascii_lowercase label)) is
    where
      by_prefix : (b : Bool) → cond b (u_label_answer properties (map to_ascii_lowercase label)) (Ok label) ≡ Ok decoded → length decoded ≤ 2 * length label
      by_prefix true h =
          let given = map to_ascii_lowercase label in
          let code = decode-length (drop 4 given) decoded (decoded_code-from (drop 4 given) decoded (u_label_answer-from properties given decoded h).2) in
          omega (arith, code, length-drop 4 given, length-map label to_ascii_lowercase)
      by_prefix false h = let same : label ≡ decoded = cc in omega (arith, ap length same)

  -- the decoded labels are as many, and each is short
  record AreShort (labels decoded : List (List ℕ)) : Type 0 where
    count : length decoded ≡ length labels
    short : (n : ℕ) → AllByRecursion (λ l. length l ≤ n) labels → AllByRecursion (λ l. length l ≤ 2 * n) decoded

  decoded_labels-short : (labels decoded : List (List ℕ)) → decoded_labels properties labels ≡ Ok decoded → AreShort labels decoded
  unfolding decoded_labels
  decoded_labels-short [] decoded is = let same : [] ≡ decoded = cc in subst (AreShort []) same (record { count = refl; short = λ n all. tt })
  decoded_labels-short (label ∷ labels) decoded is = step (decoded_labels-short labels) (decoded_label properties label) refl (decoded_labels properties labels) refl is
    where
      step : ((others : List (List ℕ)) → decoded_labels properties labels ≡ Ok others → AreShort labels others) → (first : LabelAnswer) → decoded_label properties label ≡ first → (others : Result (List (List ℕ)) Refusal) → decoded_labels properties labels ≡ others → with_others first others ≡ Ok decoded → AreShort (label ∷ labels) decoded
      step rest (Err refusal) one others more e = absurd (let clash : Err refusal ≡ Ok decoded = e in cc)
      step rest (Ok l) one (Err refusal) more e = absurd (let clash : Err refusal ≡ Ok decoded = e in cc)
      step rest (Ok l) one (Ok ls) more e =
          let same : l ∷ ls ≡ decoded = cc in
          let later = rest ls more in
          subst (AreShort (label ∷ labels)) same (record {
            count = ap suc later.count;
            short = λ n all. (let first : length label ≤ n = all.0 in omega (arith, decoded_short label l one, first), later.short n all.1);
          })

  in_list : (n : ℕ) (before after : List (List ℕ)) (label : List ℕ) → AllByRecursion (λ l. length l ≤ n) (before ++ label ∷ after) → length label ≤ n
  in_list n [] after label all = all.0
  in_list n (first ∷ before) after label all = in_list n before after label all.1

  labels_within : (name : List ℕ) (whole before rest : List (List ℕ)) → whole ≡ labels_of name → whole ≡ before ++ rest → AllByRecursion (λ l. length l ≤ length name) rest
  labels_within name whole before [] is split = tt
  labels_within name whole before (label ∷ rest) is split =
      ((few_of_name name before rest label (sym is ∙ split)).0, labels_within name whole (before ++ label ∷ []) rest is (split ∙ sym (append_assoc before (label ∷ []) rest)))

  whole_fits : (name : List ℕ) (cause : NameCause) → IsWholeNameCause properties name cause → length name < 2 ^ 60 → (cause.label < 2 ^ 63) × IsFittingALabel cause.cause
  whole_fits name cause is small =
      let decoded = decoded_labels-short (labels_of name) is.0 is.4 in
      let at = is.6 in
      let label = is.1 in
      let each = subst (AllByRecursion (λ l. length l ≤ 2 * length name)) at.split (decoded.short (length name) (labels_within name (labels_of name) [] (labels_of name) refl refl)) in
      let within = in_list (2 * length name) at.before at.after label each in
      let count = length-slice_split is_full_stop name in
      let few = count_by-le-length is_full_stop name in (
        omega (arith, at.counted, ap length at.split, length-append at.before (label ∷ at.after), decoded.count, count, few, small),
        subst IsFittingALabel (sym is.8)
            (in_label (begins_with_prefix (label_of_number cause.label (labels_of name))) (Condition (record { condition = is.2; place = is.3 }) (slice_index label is.3) (bidi_class properties (slice_index label is.3)))
            (breaks_within properties label is.2 is.3 is.7.breaks (omega (arith, within, small)))),
      )
    where
      in_label : (coded : Bool) (of_label : Cause) → IsFittingCause of_label → IsFittingALabel (of_decoded coded of_label)
      in_label true of_label fits = fits
      in_label false of_label fits = fits

  name_fits : (name : List ℕ) (refusal : Refusal) (cause : NameCause) → IsNameCause properties name refusal cause → length name < 2 ^ 60 → ALabelHasFewOctets cause.cause → (cause.label < 2 ^ 63) × IsFittingALabel cause.cause
  name_fits name refusals.Bidi cause (inl is) short few = label_fits name refusals.Bidi cause is short few
  name_fits name refusals.Bidi cause (inr is) short few = whole_fits name cause is short
  name_fits name refusal cause is short few = label_fits name refusal cause is short few

-- ---- where a U-label is wanted

module _ (properties : Properties) where
  pub coded_fits : (given : List ℕ) (cause : LineCause) → IsCodedCause properties given cause → IsFitting cause
  coded_fits given cause (inl is) = subst IsFitting (sym is.2) (scalars_utf8 is.0 (registrable_scalars properties is.0 is.1.registrable))
  coded_fits given cause (inr is) = subst IsFitting (sym is.1) tt

  pub u_label_fits : (label : List ℕ) (refusal : Refusal) (cause : LineCause) → IsULabelCause properties label refusal cause → length label < 2 ^ 60 → TellsFewOctets cause → IsFitting cause
  u_label_fits label refusals.Hyphen cause (inl is) short few = coded_fits label cause is.1
  u_label_fits label refusals.Hyphen cause (inr is) short few =
      subst IsFitting (sym is.1.2) (cause_fits properties label refusals.Hyphen is.1.0 is.1.1 (omega (arith, short)) (subst TellsFewOctets is.1.2 few))
  u_label_fits label refusal cause is short few =
      subst IsFitting (sym is.2) (cause_fits properties label refusal is.0 is.1 (omega (arith, short)) (subst TellsFewOctets is.2 few))

-- ---- under a table

letter_ascii : (c : ℕ) → is_letter c ≡ true → is_ascii c ≡ true
letter_ascii c h = grind (arith, nat_tests)

byte_ascii : (c : ℕ) → is_name_byte c ≡ true → is_ascii c ≡ true
byte_ascii c h = grind (arith, nat_tests)

bytes_ascii : (cs : List ℕ) → list_all is_name_byte cs ≡ true → is_all_ascii cs ≡ true
bytes_ascii [] h = refl
bytes_ascii (c ∷ cs) h =
    let parts = and_parts (is_name_byte c) (list_all is_name_byte cs) h in
    and_from (is_ascii c) (is_all_ascii cs) (byte_ascii c parts.0) (bytes_ascii cs parts.1)

name_ascii : (name : List ℕ) → is_name name ≡ true → is_all_ascii name ≡ true
name_ascii [] h = refl
name_ascii (c ∷ cs) h =
    let all = and_parts (is_letter c && nat_le (length cs) 31) (list_all is_name_byte cs) h in
    let first = and_parts (is_letter c) (nat_le (length cs) 31) all.0 in
    and_from (is_ascii c) (is_all_ascii cs) (letter_ascii c first.0) (bytes_ascii cs all.1)

pub names_after : (before names : List (List ℕ)) → AreNames (before ++ names) → AreNames names
names_after [] names h = h
names_after (name ∷ before) names h = names_after before names h.2

names_before : (names : List (List ℕ)) → AreNames names → AreNames (names ++ [])
names_before names h = subst AreNames (sym (append-nil names)) h

-- of the first ones of some names
name_at-utf8 : (names more : List (List ℕ)) (n : ℕ) → AreNames (names ++ more) → IsUtf8 (slice_index_or names n [])
name_at-utf8 [] more n h = ascii_utf8 [] refl
name_at-utf8 (name ∷ names) more zero h = ascii_utf8 name (name_ascii name h.0)
name_at-utf8 (name ∷ names) more (suc n) h = name_at-utf8 names more n h.2

pub names-utf8 : (names more : List (List ℕ)) → AreNames (names ++ more) → AllByRecursion IsUtf8 names
names-utf8 [] more h = tt
names-utf8 (name ∷ names) more h = (ascii_utf8 name (name_ascii name h.0), names-utf8 names more h.2)

rule-utf8 : (table : TableValue) (n : ℕ) → IsSound table → IsUtf8 (rule_name table.definitions n)
rule-utf8 table n sound =
    let d = table.definitions in
    name_at-utf8 d.rule_names [] n (names_before d.rule_names (names_after d.set_names d.rule_names (names_after (type_names d) (d.set_names ++ d.rule_names) sound.definitions.names)))

type-utf8 : (table : TableValue) (n : ℕ) → IsSound table → IsUtf8 (type_name table.definitions n)
type-utf8 table n sound = (let d = table.definitions in name_at-utf8 (type_names d) (d.set_names ++ d.rule_names) n sound.definitions.names)

-- an action has its number, and a place of the cut is one of the label
action_small : (table : TableValue) (label : List ℕ) (n : ℕ) (a : Action) → IsSound table → validity_causes.IsFirstTriggered table label n a → n < 2 ^ 63
action_small table label n a sound is =
    let d = table.definitions in
    let within = slice_get_within (actions_of d) n a is.at in
    let count = length-map d.actions (action_of d) in
    omega (arith, within, count, sound.definitions.few_lines)

cut_small : (table : TableValue) (label : List ℕ) (types place number : ℕ) → IsSound table → validity_causes.IsFirstTyped table label types place number → length label < 2 ^ 60 → place < 2 ^ 63
cut_small table label types place number sound is short =
    let here = is.here in
    let within = begins-within label place here.entry (source-filled table.entries here.entry sound.entries here.longest.stands.of_table) here.longest.stands.begins in
    omega (arith, within, short)

action_fits : (table : TableValue) (label : List ℕ) (n : ℕ) (a : Action) (why : ActionCause) → IsSound table → validity_causes.IsFirstTriggered table label n a → validity_causes.IsActionCause table label a why → length label < 2 ^ 60
    → IsFitting (action_cause table label n why)
action_fits table label n a (triggered.Rule condition) sound is told short = (action_small table label n a sound is, rule-utf8 table condition.rule sound)
action_fits table label n a (triggered.Source place number) sound is told short =
    (action_small table label n a sound is, cut_small table label told.1.0 place number sound told.1.2 short, type-utf8 table number sound)
action_fits table label n a triggered.Other sound is told short = action_small table label n a sound is

validity_fits : (table : TableValue) (label : List ℕ) (why : ValidityCause) → IsSound table → validity_causes.IsCause table label why → length label < 2 ^ 60 → IsFitting (validity_cause table label why)
validity_fits table label (validity.NotEligible place None) sound is short = (let l = is.1 in omega (arith, l, short))
validity_fits table label (validity.NotEligible place (Some condition)) sound is short = ((let l = is.1 in omega (arith, l, short)), rule-utf8 table condition.rule sound)
validity_fits table label (validity.Broken n kind) sound is short =
    omega (arith, slice_get_within table.definitions.demands n is.1.0 is.1.1.at, sound.definitions.few_lines)
validity_fits table label validity.Unclear sound is short = tt
validity_fits table label (validity.Action n cause) sound is short = action_fits table label n is.2.0 cause sound is.2.1 is.2.3 short
validity_fits table label (validity.DefaultAction place) sound is short = cut_small table label 4 place 0 sound is.3 short

module _ (properties : Properties) where
  table_fits : (table : TableValue) (label : List ℕ) (refusal : Refusal) (cause : LineCause) → IsSound table → IsTableCause properties table label refusal cause → length label < 2 ^ 60 → TellsFewOctets cause → IsFitting cause
  table_fits table label refusals.NotInTable cause sound is short few =
      subst IsFitting (sym is.2) (subst IsFittingCause (sym is.1.3) (omega (arith, is.1.2, short)))
  table_fits table label refusals.NotValid cause sound is short few = subst IsFitting (sym is.2) (validity_fits table label is.0 sound is.1 short)
  table_fits table label refusal cause sound is short few = u_label_fits properties label refusal cause is short few

-- ---- of a line

abbrev IsSoundIn : Explained → Type 0
IsSoundIn (ByTable properties table) = IsSound table
IsSoundIn (ByRequest properties table) = IsSound table
IsSoundIn _ = Unit {0}

sound_by : (mode : Mode) (o : Settings) (table : TableValue) → IsSound table → IsSoundIn (explained_by_mode mode o table)
sound_by modes.Lookup o table sound = tt
sound_by modes.Register o table sound = tt
sound_by modes.Decode o table sound = tt
sound_by modes.DecodeOld o table sound = tt
sound_by modes.Variants o table sound = sound
sound_by modes.Jump o table sound = sound
sound_by modes.CheckTable o table sound = tt
sound_by modes.PrintTable o table sound = tt

sound_in : (mode : Mode) (o : Settings) (table : TableValue) → IsSound table → IsSoundIn (explained_in mode o table)
sound_in mode o table sound = by_test (tells_causes o)
  where
    by_test : (b : Bool) → IsSoundIn (if_wanted b (explained_by_mode mode o table))
    by_test true = sound_by mode o table sound
    by_test false = tt

query_fits : (cause : LengthCause) → NameHasFewOctets cause → IsFittingLength cause
query_fits (LabelOctets number octets) few = few
query_fits (NameOctets octets) few = few

before_first-length : (points : List ℕ) → length (requested_label points) ≤ length points
before_first-length points = taken _ points

points_fit : (how : Explained) (points : List ℕ) (refusal : Refusal) (cause : LineCause) → IsPointsCause how points refusal cause → IsSoundIn how → length points < 2 ^ 60 → TellsFewOctets cause → IsFitting cause
points_fit Unexplained points refusal cause is sound short few = absurd is
points_fit (ByLabel properties) points refusal cause (inl (prefix, is)) sound short few =
    subst IsFitting (sym is.2) (a_label_fits properties points refusal is.0 is.1 short (subst TellsFewOctets is.2 few))
points_fit (ByLabel properties) points refusal cause (inr (prefix, is)) sound short few =
    subst IsFitting (sym is.2) (cause_fits properties points refusal is.0 is.1 (omega (arith, short)) (subst TellsFewOctets is.2 few))
points_fit (ByName properties) points refusal cause is sound short few = subst IsFitting (sym is.2) (name_fits properties points refusal is.0 is.1 short (subst TellsFewOctets is.2 few))
points_fit (ByQuery std3) points refusal cause is sound short few = subst IsFitting (sym is.2) (query_fits is.0 (subst TellsFewOctets is.2 few))
points_fit (ByTable properties table) points refusal cause is sound short few = table_fits properties table points refusal cause sound is short few
points_fit (ByRequest properties table) points refusal cause is sound short few = table_fits properties table (requested_label points) refusal cause sound is (omega (arith, before_first-length points, short)) few
points_fit (ByRegisteredLine properties) points refusal cause is sound short few = u_label_fits properties points refusal cause is short few

pub points-length : (points : List ℕ) → length points ≤ length (utf8_of points)
points-length [] = omega arith
points-length (c ∷ cs) = omega (arith, points-length cs, length-append (encode_utf8 c) (utf8_of cs), (len_utf8_bounds c).0, length-encode c)

line_fits : (how : Explained) (body : Option (List ℕ)) (refusal : Refusal) (cause : LineCause) → IsLineCause how body refusal cause → IsSoundIn how → IsShortBody body → TellsFewOctets cause → IsFitting cause
line_fits how None refusal cause is sound short few = subst IsFitting (sym is) tt
line_fits how (Some bytes) refusal cause (inl (other, is)) sound short few = subst IsFitting (sym is.2) (omega (arith, is.1.short, short))
line_fits how (Some bytes) refusal cause (inr (utf8, is)) sound short few =
    let whole = utf8-of_chars bytes utf8 in
    points_fit how (chars bytes) refusal cause is sound (omega (arith, points-length (chars bytes), ap length whole.encoded, short)) few

pub refusals_read_back : RefusalsAreReadBack
refusals_read_back mode o table line refusal other wanted sound small short refused few =
    by_cause (body_cause (explained_in mode o table) line.body refusal) refl few
  where
    by_cause : (told : Option LineCause) → body_cause (explained_in mode o table) line.body refusal ≡ told → TellsFewOctetsIfAny told
        → IsReadBack (object line.number (told_of line.body) refusal (told_details refusal told))
    by_cause None e few = refused_good line.number small refusal None tt line.body
    by_cause (Some cause) e few =
        let is = ((refusals_explained mode o table line refusal other wanted sound refused).exactly cause).0 e in
        refused_good line.number small refusal (Some cause) (line_fits (explained_in mode o table) line.body refusal cause is (sound_in mode o table sound) short few) line.body
