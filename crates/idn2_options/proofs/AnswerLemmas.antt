-- From what `clap` gives to the answer.
use Rattle.std.proofs.Common.{◌≡◌, ◌≢◌, true, false, List, [], ◌∷◌, Err, cond, inl, inr, ap, sym, subst, ◌∙◌, is_some, Bool}
use Rattle.std.specs.Prelude.{IsUtf8}
use Rattle.std.specs.List.{AllByRecursion}
use Rattle.clap.specs.Kinds.{IsAmong, Kinds}
use Rattle.clap.specs.Words.{HasKind, Row, Text, fault_of, kind_of, matches_of}
use Rattle.clap.specs.declared.error.Error.{Error}
use Rattle.clap.specs.declared.error.ErrorKind.{ErrorKind}
use Rattle.clap.specs.declared.error.ErrorKind.TheVariants.{OutOfMemory}
use Rattle.idn2_options.specs.Uses.{first_misused}
use Rattle.idn2_options.specs.CommandLine.{app}
use Rattle.idn2_options.specs.Words.{Answer, IsAnswer, IsUsage, answer_of, asks_to_show, bad, chosen, is_allowed, options_of, settings_of, shown}
use Rattle.idn2_options.specs.declared.command_line.usage.Usage.{Usage}
use Rattle.idn2_options.specs.declared.command_line.usage.Usage.TheVariants.{Bad, Show, Memory}
use Rattle.idn2_options.proofs.AppKinds.{tells-app, too_many}
use Rattle.idn2_options.proofs.KindLemmas.{Tells}

-- a refusal of one kind
refused : (kind : ErrorKind) (rows : List Row) (usage : Usage) → IsUsage kind usage → IsAnswer (answer_of (kind ∷ []) rows) (Err usage)
refused kind rows Bad is = ap (λ test. cond test shown bad) is.0
refused kind rows (Show text) is = ap (λ test. cond test shown bad) is
refused kind rows Memory is = tt

-- lack of memory is told as such
no_memory : (answer : Answer) (kind : ErrorKind) (usage : Usage) → kind ≡ OutOfMemory → IsUsage kind usage → IsAnswer answer (Err usage)
no_memory answer kind Bad memory is = absurd (is.1 memory)
no_memory answer kind (Show text) memory is = absurd (let bad : false ≡ true = subst (λ k. asks_to_show k ≡ true) memory is in cc)
no_memory answer kind Memory memory is = tt

among : (many wrong : Bool) (kinds : Kinds) (rows : List Row) (kind : ErrorKind) (usage : Usage) → Tells many wrong kinds → IsAmong kind kinds → IsUsage kind usage
    → IsAnswer (answer_of kinds rows) (Err usage)
among many wrong [] rows kind usage lone is_among is = absurd is_among
among many wrong (k ∷ []) rows kind usage lone is_among is = elim is_among [
  | inl same ↦ refused k rows usage (subst (λ x. IsUsage x usage) same is)
  | inr none ↦ absurd none
]
among many wrong (k ∷ (l ∷ ks)) rows kind usage lone is_among is = absurd lone

pub answer-Err : (words : List Text) (error : Error) (usage : Usage) → AllByRecursion IsUtf8 words → HasKind (fault_of app words) error → IsUsage (kind_of error) usage
    → IsAnswer (options_of words) (Err usage)
unfolding options_of
answer-Err words error usage texts fails is = elim fails [
  | inl memory ↦ no_memory (answer_of (fault_of app words) (matches_of app words)) (kind_of error) usage memory is
  | inr is_among ↦ among (too_many words) (is_some (first_misused words)) (fault_of app words) (matches_of app words) (kind_of error) usage (tells-app words texts) is_among is
]

pub answer-Ok : (words : List Text) (rows : List Row) → fault_of app words ≡ [] → rows ≡ matches_of app words
    → options_of words ≡ cond (is_allowed rows) (chosen (settings_of rows)) bad
unfolding options_of
answer-Ok words rows none same =
    ap (λ (kinds : Kinds). answer_of kinds (matches_of app words)) none ∙ ap (λ (r : List Row). answer_of [] r) (sym same)

-- an error that isn't for want of memory has the one kind of the definition
one_kind : (many wrong : Bool) (kinds : Kinds) (kind : ErrorKind) → Tells many wrong kinds → IsAmong kind kinds → kinds ≡ kind ∷ []
one_kind many wrong [] kind tells is_among = absurd is_among
one_kind many wrong (k ∷ []) kind tells is_among = elim is_among [
  | inl same ↦ ap (λ (x : ErrorKind). x ∷ []) (sym same)
  | inr none ↦ absurd none
]
one_kind many wrong (k ∷ (l ∷ ks)) kind tells is_among = absurd tells

pub kind-Err : (words : List Text) (error : Error) → AllByRecursion IsUtf8 words → HasKind (fault_of app words) error → kind_of error ≢ OutOfMemory
    → fault_of app words ≡ kind_of error ∷ []
kind-Err words error texts fails other = elim fails [
  | inl memory ↦ absurd (other memory)
  | inr is_among ↦ one_kind (too_many words) (is_some (first_misused words)) (fault_of app words) (kind_of error) (tells-app words texts) is_among
]
