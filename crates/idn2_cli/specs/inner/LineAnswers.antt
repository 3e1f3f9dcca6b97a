-- What the modes answer to a line, and when a listing has as many variants as it may.
use Rattle.std.specs.Prelude.{◌≡◌, ℕ, ◌==◌, Bool, true, false, List, [], ◌∷◌, ◌++◌, length, chars, Option, Some, None}
use Rattle.std.specs.Prelude.{if◌then◌else◌, Result, Ok, Err}
use Rattle.idn_class.specs.declared.properties.Properties.{Properties}
use Rattle.idn_text.specs.declared.refusal.Refusal.{Refusal}
use Rattle.idn_text.specs.declared.refusal.Refusal.TheVariants.{Empty}
use Rattle.idn_text.specs.Lines.{Numbered}
use Rattle.idn_label.specs.Decode.{decode_utf8_answer}
use Rattle.idn_label.specs.Lookup.{utf8_answer}
use Rattle.idn_label.specs.Register.{u_label_answer}
use Rattle.idna.specs.Validity.{has_ace_prefix}
use Rattle.idn2_options.specs.declared.command_line.form.Form.{Form}
use Rattle.idn2_answers.specs.Answers.{LineAnswer, least_answer, u_label_of}
use Rattle.idn2_refusals.specs.Requests.{requested_label, requested_text}
use Rattle.variant_table.specs.Entries.{TableValue}
use Rattle.idn2_answers.specs.Said.{Said, LookedUp, Registered, Decoded, said_text}
use Rattle.idn2_output.specs.OutputLines.{OutputLine, outputs}
use Rattle.idn2_output.specs.Writing.{Held}
use Rattle.idn2_output.specs.declared.stop.Stop.{Stop}
use Rattle.idn2_cli.specs.declared.modes.answering.Kind.{Kind}
use Rattle.idn2_cli.specs.declared.modes.answering.Kind.TheVariants as kind

-- so many variants are as many as may be listed
abbrev pub reaches : Option ℕ → ℕ → Bool
reaches None count = false
reaches (Some limit) count = limit == count

-- an answer of one line, with its line feed
abbrev pub with_feed : Result (List ℕ) Refusal → Result (List ℕ) Refusal
with_feed (Ok line) = Ok (line ++ 10 ∷ [])
with_feed (Err refusal) = Err refusal

-- the answer of lookup, by the bytes of the name: they need not be decoded to be looked up
unfoldable pub query_answer : List ℕ → Bool → Result (List ℕ) Refusal
query_answer bytes std3 = if length bytes == 0 then Err Empty else utf8_answer bytes std3

-- the answer of decoding, by the bytes of the name
unfoldable pub decoded_answer : Properties → List ℕ → Result (List ℕ) Refusal
decoded_answer properties bytes = if length bytes == 0 then Err Empty else decode_utf8_answer properties bytes

-- this is what the bytes of a label stand for, if they are an A-label
abbrev pub IsULabelOf : Properties → (bytes u_label : List ℕ) → Type 0
IsULabelOf properties bytes u_label =
    has_ace_prefix (chars bytes) ≡ true → u_label_answer properties (chars bytes) ≡ Ok u_label

-- the answer to a request whose label may be registered
abbrev pub request_answer : Properties → TableValue → List ℕ → LineAnswer
request_answer properties table request =
    least_answer properties table (requested_label request) (requested_text request)

-- ---- an answer of one text

-- of the bytes of a label that is registered as this A-label
abbrev pub registered_as : Properties → (bytes a_label : List ℕ) → Said
registered_as properties bytes a_label = Registered (u_label_of properties (chars bytes)) a_label

abbrev pub said_by : Kind → List ℕ → Said
said_by kind.LookedUp text = LookedUp text
said_by kind.Decoded text = Decoded text

-- the most octets of such a text and a line feed
abbrev pub longest : Kind → ℕ
longest kind.LookedUp = 255
longest kind.Decoded = 4097

-- ---- what a mode does with a line

-- what is written of an answer: of a refusal nothing, since it is given back
abbrev pub reply_output : Form → Numbered → LineAnswer → List OutputLine
reply_output form line (Ok said) = outputs (said_text form line) said
reply_output form line (Err refusal) = []

-- why a line is refused, if it is
abbrev pub refusal_in : LineAnswer → Option Refusal
refusal_in (Ok said) = None
refusal_in (Err refusal) = Some refusal

-- where a refusal is given back, nothing was written
abbrev pub KeepsIfRefused : Held → Held → Result (Option Refusal) Stop → Type 0
KeepsIfRefused old new (Ok (Some refusal)) = new ≡ old
KeepsIfRefused old new result = Unit {0}
