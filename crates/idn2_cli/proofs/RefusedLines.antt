-- The answer to a line that a call refused.
use Rattle.std.proofs.Common.{◌≡◌, ◌≢◌, ◌⊎◌, inl, inr, ℕ, List, [], Result, Ok, Err, Option, None, Some, IfOk, refl, sym, ap, subst, ◌∙◌}
use Rattle.idn_text.specs.declared.refusal.Refusal.{Refusal}
use Rattle.idn_text.specs.declared.refusal.Refusal.TheVariants.{Memory}
use Rattle.idn_text.specs.Lines.{Numbered}
use Rattle.idn2_options.specs.declared.command_line.form.Form.{Form}
use Rattle.idn2_output.specs.OutputLines.{OutputLine}
use Rattle.idn2_answers.specs.Transcript.{output_for}
use Rattle.idn2_output.specs.Writing.{Held, Emits, StopsWithin}
use Rattle.idn2_answers.specs.Answers.{LineAnswer, line_answer, text_answer}
use Rattle.idn2_refusals.specs.Explained.{BodyCauseNeedsNone, Explained, TextCauseNeedsNone}
use Rattle.idn2_cli.specs.Memory.{TellsWithoutMemory, BodyNeedsNone, NeedsNone}
use Rattle.idn2_cli.specs.inner.LineAnswers.{KeepsIfRefused, refusal_in, reply_output}
use Rattle.idn2_cli.specs.inner.ServedLines.{answered_as, result_of}
use Rattle.idn2_cli.specs.declared.modes.answering.Served.{Served}
use Rattle.idn2_cli.specs.declared.modes.answering.Served.TheVariants as served
use Rattle.idn2_output.specs.declared.stop.Stop.{Stop}
use Rattle.idn2_output.specs.declared.stop.Stop.TheVariants as stop
use Rattle.idn2_output.proofs.WrittenOutputLines.{cut_before, stops_first, writes_nothing}

is_memory : (refusal : Refusal) → (refusal ≡ Memory) ⊎ (refusal ≢ Memory)
is_memory Memory = inl refl
is_memory other = inr (λ e. cc)

-- ---- a mode gives a refusal back

-- the answer is this refusal, unless memory was refused, and nothing is written
pub replies_refusal : (old : Held) (form : Form) (line : Numbered) (refusal : Refusal) (answer : LineAnswer) (o : Served) → (refusal ≢ Memory → answer ≡ Err refusal)
    → (refusal ≢ Memory → o ≡ served.Refused refusal) → (refusal ≡ Memory → o ≡ served.Stopped stop.Memory) → Emits old old (reply_output form line answer) (result_of o)
replies_refusal old form line refusal answer o is refused memory = elim (is_memory refusal) [
  | inl e ↦ subst (λ (p : Served). Emits old old (reply_output form line answer) (result_of p)) (sym (memory e)) (stops_first old (reply_output form line answer))
  | inr other ↦
      subst (λ (a : LineAnswer). Emits old old (reply_output form line a) (result_of o)) (sym (is other))
      (subst (λ (p : Served). Emits old old [] (result_of p)) (sym (refused other)) (writes_nothing old))
]

pub refused_is : (refusal : Refusal) (answer : LineAnswer) (o : Served) → (refusal ≢ Memory → answer ≡ Err refusal)
    → (refusal ≢ Memory → o ≡ served.Refused refusal) → (refusal ≡ Memory → o ≡ served.Stopped stop.Memory) → IfOk (result_of o) (λ given. given ≡ refusal_in answer)
refused_is refusal answer o is refused memory = elim (is_memory refusal) [
  | inl e ↦ subst (λ (p : Served). IfOk (result_of p) (λ given. given ≡ refusal_in answer)) (sym (memory e)) tt
  | inr other ↦ subst (λ (p : Served). IfOk (result_of p) (λ given. given ≡ refusal_in answer)) (sym (refused other)) (sym (ap refusal_in (is other)))
]

-- such a refusal is not stopped by memory
pub refused_without : (refusal : Refusal) (o : Served) → refusal ≢ Memory → (refusal ≢ Memory → o ≡ served.Refused refusal) → o ≢ served.Stopped stop.Memory
refused_without refusal o other refused = λ e. let clash : served.Refused refusal ≡ served.Stopped stop.Memory = sym (refused other) ∙ e in cc

pub kept_as_it_was : (old : Held) (o : Served) → KeepsIfRefused old old (result_of o)
kept_as_it_was old served.Answered = tt
kept_as_it_was old (served.Refused refusal) = refl
kept_as_it_was old (served.Stopped why) = tt

-- ---- or it writes an answer

pub emits_answered : (old new : Held) (output_lines : List OutputLine) (r : Result (Unit {0}) Stop) (o : Served) → result_of o ≡ answered_as r → Emits old new output_lines r → Emits old new output_lines (result_of o)
emits_answered old new output_lines (Ok done) o e emits = subst (λ (s : Result (Option Refusal) Stop). Emits old new output_lines s) (sym e) emits
emits_answered old new output_lines (Err why) o e emits = subst (λ (s : Result (Option Refusal) Stop). Emits old new output_lines s) (sym e) emits

pub answered_none : (r : Result (Unit {0}) Stop) (o : Served) → result_of o ≡ answered_as r → IfOk (result_of o) (λ given. given ≡ None)
answered_none (Ok done) o e = subst (λ (s : Result (Option Refusal) Stop). IfOk s (λ given. given ≡ None)) (sym e) refl
answered_none (Err why) o e = subst (λ (s : Result (Option Refusal) Stop). IfOk s (λ given. given ≡ None)) (sym e) tt

pub kept_if_answered : (old new : Held) (r : Result (Unit {0}) Stop) (o : Served) → result_of o ≡ answered_as r → KeepsIfRefused old new (result_of o)
kept_if_answered old new (Ok done) o e = subst (λ (s : Result (Option Refusal) Stop). KeepsIfRefused old new s) (sym e) tt
kept_if_answered old new (Err why) o e = subst (λ (s : Result (Option Refusal) Stop). KeepsIfRefused old new s) (sym e) tt

-- memory stops it where memory stopped the writing
pub answered_memory : (r : Result (Unit {0}) Stop) (o : Served) → result_of o ≡ answered_as r → result_of o ≡ Err stop.Memory → r ≡ Err stop.Memory
answered_memory (Ok done) o e memory = absurd (let clash : Ok None ≡ Err stop.Memory = sym e ∙ memory in cc)
answered_memory (Err why) o e memory =
    let told : answered_as (Err why) ≡ Err stop.Memory = sym e ∙ memory in
    let same : why ≡ stop.Memory = cc in ap Err same

-- ---- and its line is told

-- a stop before a refusal was given back
pub stopped_output : (why : Stop) (old new : Held) (form : Form) (how : Explained) (line : Numbered) (answer : LineAnswer) → StopsWithin why old new (reply_output form line answer)
    → StopsWithin why old new (output_for form how line answer)
stopped_output why old new form how line (Ok said) at = at
stopped_output why old new form how line (Err refusal) at = (at.0, at.1, cut_before why [] (output_for form how line (Err refusal)) at.0 at.2)

-- ---- what a line needs that is refused

told_in : (how : Explained) (line : List ℕ) (refusal : Refusal) (answer : LineAnswer) → TellsWithoutMemory how line answer
    → Some refusal ≡ refusal_in answer → TextCauseNeedsNone how line refusal
told_in how line refusal (Ok lines) told is = absurd (let bad : Some refusal ≡ None = is in cc)
told_in how line refusal (Err other) told is =
    let same : other ≡ refusal = let both : Some refusal ≡ Some other = is in cc in subst (TextCauseNeedsNone how line) same told

-- where a line needs no memory, the cause of its refusal is told without
pub cause_needs_none : (how : Explained) (answer : List ℕ → LineAnswer) (needs_none : List ℕ → Type 0) (body : Option (List ℕ)) (refusal : Refusal)
    → BodyNeedsNone (NeedsNone how answer needs_none) body → Some refusal ≡ refusal_in (line_answer answer body)
    → BodyCauseNeedsNone how body refusal
cause_needs_none how answer needs_none None refusal needs is = tt
cause_needs_none how answer needs_none (Some line) refusal needs is = told_in how line refusal (text_answer answer line) needs.told is
