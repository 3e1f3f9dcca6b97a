-- A cause is told alike by an object and by a message.
use Rattle.std.proofs.Common.{◌≡◌, ℕ, List, [], ◌∷◌, ◌++◌, codes, decimal, Option, Some, None, append_assoc, refl, sym, ap, subst, ◌∙◌}
use Rattle.idn2_refusals.specs.CauseParts.{CauseParts, parts_of}
use Rattle.idn2_refusals.specs.CauseWords.{action_words, before_place, cause_words, demand_words, label_words, length_words, number_between, place_words, rule_words, subject_words}
use Rattle.idn2_laws.specs.ToldAlike.{CausesAreToldAlike, HasPart}

in_rest : (first part rest : List ℕ) → HasPart part rest → HasPart part (first ++ rest)
in_rest first part rest is = (first ++ is.0, is.1, ap (λ (l : List ℕ). first ++ l) is.2 ∙ sym (append_assoc first is.0 (part ++ is.1)))

in_first : (first part rest : List ℕ) → HasPart part first → HasPart part (first ++ rest)
in_first first part rest is = (
  is.0,
  is.1 ++ rest,
  ap (λ (l : List ℕ). l ++ rest) is.2 ∙ append_assoc is.0 (part ++ is.1) rest ∙ ap (λ (l : List ℕ). is.0 ++ l) (append_assoc part is.1 rest),
)

place_told : (lead : Option (List ℕ)) (n : ℕ) → HasPart (codes "place " ++ decimal n) (number_between (before_place lead) (Some n) [])
place_told (Some []) n = ([], [], refl)
place_told (Some (c ∷ lead)) n = (codes " at ", [], refl)
place_told None n = (codes " at ", [], refl)

byte_told : (n : ℕ) → HasPart (codes " at byte " ++ decimal n) (number_between (codes " at byte ") (Some n) [])
byte_told n = ([], [], refl)

-- what is in the words of the place is in the message
in_words : (parts : CauseParts) (part : List ℕ) → HasPart part (place_words parts) → HasPart part (codes ": " ++ cause_words parts)
unfolding cause_words
in_words parts part is =
    let rest = rule_words parts ++ (demand_words parts.details ++ length_words parts.details) in
    let subject = subject_words parts.lead parts.details.code_point in
    let action = action_words parts.details in
    in_rest (codes ": ") part (label_words parts.details ++ (action ++ (subject ++ (place_words parts ++ rest))))
    (in_rest (label_words parts.details) part (action ++ (subject ++ (place_words parts ++ rest)))
    (in_rest action part (subject ++ (place_words parts ++ rest))
    (in_rest subject part (place_words parts ++ rest) (in_first (place_words parts) part rest is))))

module _ (parts : CauseParts) (n : ℕ) where
  place_in : parts.details.place ≡ Some n → HasPart (codes "place " ++ decimal n) (place_words parts)
  unfolding place_words
  place_in is =
      in_first (number_between (before_place parts.lead) parts.details.place []) (codes "place " ++ decimal n) (number_between (codes " at byte ") parts.details.byte [])
      (subst (λ (place : Option ℕ). HasPart (codes "place " ++ decimal n) (number_between (before_place parts.lead) place [])) (sym is) (place_told parts.lead n))

  byte_in : parts.details.byte ≡ Some n → HasPart (codes " at byte " ++ decimal n) (place_words parts)
  unfolding place_words
  byte_in is =
      in_rest (number_between (before_place parts.lead) parts.details.place []) (codes " at byte " ++ decimal n) (number_between (codes " at byte ") parts.details.byte [])
      (subst (λ (byte : Option ℕ). HasPart (codes " at byte " ++ decimal n) (number_between (codes " at byte ") byte [])) (sym is) (byte_told n))

pub told_alike : CausesAreToldAlike
told_alike refusal cause = record {
  members = refl;
  words = refl;
  place = λ n is. in_words (parts_of refusal cause) (codes "place " ++ decimal n) (place_in (parts_of refusal cause) n is);
  byte = λ n is. in_words (parts_of refusal cause) (codes " at byte " ++ decimal n) (byte_in (parts_of refusal cause) n is);
}
