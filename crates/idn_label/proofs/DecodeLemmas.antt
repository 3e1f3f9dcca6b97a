-- How the answer of decoding grows label by label, as code points and as their UTF-8.
use Rattle.std.proofs.Common.{◌≡◌, ℕ, ◌+◌, ◌<◌, true, false, List, [], ◌∷◌, ◌++◌, map, take, drop, get_or, length, All, Result, Ok, Err, refl, sym, ap, ◌∙◌, append_assoc, take-append-drop, eq-eqb}
use lib.Utf8.{encode}
use Rattle.std.specs.Char.{to_ascii_lowercase}
use Rattle.std.proofs.lemmas.Bool.{cond-true, cond-false}
use Rattle.std.proofs.lemmas.List.{drop_more}
use Rattle.std.proofs.lemmas.List.Splits.{slice_split_at}
use Rattle.std.proofs.lemmas.Str.{encodes-append}
use Rattle.idna.specs.Labels.{is_full_stop, labels_of, join_labels}
use Rattle.idna.specs.Validity.{has_ace_prefix}
use Rattle.idna.proofs.LabelsLemmas.{labels_of_cons}
use Rattle.idn_text.specs.declared.refusal.Refusal.{Refusal}
use Rattle.idn_text.specs.Points.{utf8_of}
use Rattle.idn_label.specs.Answers.{Answer, and_then}
use Rattle.idn_label.specs.Decode.{decoded_label, with_others, decoded_labels, decoded_name}
use Rattle.idn_label.specs.Register.{u_label_answer}
use Rattle.idn_label.specs.Steps.{in_utf8}
use Rattle.idn_class.specs.declared.properties.Properties.{Properties}

-- ---- the first label of a name

pub labels_of-stop : (name : List ℕ) (at : ℕ) → at < length name → get_or name at 0 ≡ 0x2E → All (λ c. is_full_stop c ≡ false) (take at name) → labels_of name ≡ take at name ∷ labels_of (drop (at + 1) name)
labels_of-stop name at lt stop none =
    let parts : name ≡ take at name ++ get_or name at 0 ∷ drop (at + 1) name = sym (take-append-drop at name) ∙ ap (λ zs. take at name ++ zs) (drop_more name at 0 lt) in
    ap labels_of parts ∙ slice_split_at is_full_stop (take at name) (get_or name at 0) (drop (at + 1) name) none (eq-eqb (get_or name at 0) 0x2E stop)

-- ---- one label

module _ (properties : Properties) where
  pub decoded_label-coded : (label : List ℕ) → has_ace_prefix (map to_ascii_lowercase label) ≡ true → decoded_label properties label ≡ u_label_answer properties (map to_ascii_lowercase label)
  unfolding decoded_label
  decoded_label-coded label coded = cond-true _ _ _ coded

  pub decoded_label-other : (label : List ℕ) → has_ace_prefix (map to_ascii_lowercase label) ≡ false → decoded_label properties label ≡ Ok label
  unfolding decoded_label
  decoded_label-other label ldh = cond-false _ _ _ ldh

  -- ---- all labels

  pub decoded_name-last : (name label : List ℕ) → labels_of name ≡ label ∷ [] → decoded_name properties name ≡ decoded_label properties label
  unfolding decoded_name decoded_labels
  decoded_name-last name label last = rw last (join_one (decoded_label properties label))
    where
      join_one : (answer : Answer) → and_then (with_others answer (Ok [])) (λ labels. Ok (join_labels labels)) ≡ answer
      join_one (Ok label) = refl
      join_one (Err refusal) = refl

  pub decoded_name-err : (name label : List ℕ) (others : List (List ℕ)) (refusal : Refusal) → labels_of name ≡ label ∷ others → decoded_label properties label ≡ Err refusal → decoded_name properties name ≡ Err refusal
  unfolding decoded_name decoded_labels
  decoded_name-err name label others refusal parts fault = rw (parts, fault) refl

-- the answer after what there was
abbrev pub appended : List ℕ → Answer → Answer
appended before answer = and_then answer (λ more. Ok (before ++ more))

-- a label, a full stop and the others
abbrev pub followed : Answer → Answer → Answer
followed first others = and_then first (λ label. appended (label ++ 0x2E ∷ []) others)

abbrev pub joined : Result (List (List ℕ)) Refusal → Answer
joined labels = and_then labels (λ ls. Ok (join_labels ls))

module _ (properties : Properties) where
  pub decoded_name-more : (name label others : List ℕ) → labels_of name ≡ label ∷ labels_of others → decoded_name properties name ≡ followed (decoded_label properties label) (decoded_name properties others)
  unfolding decoded_name decoded_labels
  decoded_name-more name label others parts =
      let more = labels_of_cons others in
      rw (parts, more.2) (join_more (decoded_label properties label) (decoded_label properties more.0) (decoded_labels properties more.1))
    where
      join_more : (answer first : Answer) (others : Result (List (List ℕ)) Refusal) → joined (with_others answer (with_others first others)) ≡ followed answer (joined (with_others first others))
      join_more (Err refusal) first others = refl
      join_more (Ok label) (Err refusal) others = refl
      join_more (Ok label) (Ok next) (Err refusal) = refl
      join_more (Ok label) (Ok next) (Ok others) = ap Ok (sym (append_assoc label (0x2E ∷ []) (join_labels (next ∷ others))))

-- ---- after what was decoded before

pub appended-nil : (answer : Answer) → appended [] answer ≡ answer
appended-nil (Ok more) = refl
appended-nil (Err refusal) = refl

pub turn_more : (before after : List ℕ) (first others : Answer) → appended before first ≡ Ok after → appended before (followed first others) ≡ appended (after ++ 0x2E ∷ []) others
turn_more before after (Err refusal) others is = cc
turn_more before after (Ok label) (Err refusal) is = refl
turn_more before after (Ok label) (Ok others) is =
    let whole : before ++ label ≡ after = cc in
    rw (← whole) (ap Ok (simp append_assoc))

-- ---- as UTF-8

pub in_utf8-followed : (first others : Answer) → in_utf8 (followed first others) ≡ followed (in_utf8 first) (in_utf8 others)
unfolding encode
in_utf8-followed (Err refusal) others = refl
in_utf8-followed (Ok label) (Err refusal) = refl
in_utf8-followed (Ok label) (Ok others) = ap Ok (encodes-append (label ++ 0x2E ∷ []) others ∙ ap (λ text. text ++ utf8_of others) (encodes-append label (0x2E ∷ [])))
