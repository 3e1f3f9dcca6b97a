-- Answers: a list of numbers, or a refusal.
use Rattle.std.specs.Prelude.{◌≡◌, ◌≢◌, ℕ, List, Option, Some, None, Result, Ok, Err, IfErr}
use Rattle.idn_text.specs.declared.refusal.Refusal.{Refusal}
use Rattle.idn_text.specs.declared.refusal.Refusal.TheVariants.{Memory}

abbrev pub Answer : Type 0
Answer = Result (List ℕ) Refusal

-- the result, unless there is a fault
abbrev pub unless_fault : {A : Type 0} → Option Refusal → Result A Refusal → Result A Refusal
unless_fault None result = result
unless_fault (Some refusal) result = Err refusal

-- what the function makes of the answer, if it is no refusal
abbrev pub and_then : {A : Type 0} → Result A Refusal → (A → Answer) → Answer
and_then (Ok value) f = f value
and_then (Err refusal) f = Err refusal

-- unless memory was refused, a result is the answer, its value as `view` shows it
abbrev pub Gives : {T : Type 0} → (T → List ℕ) → Result T Refusal → Answer → Type 0
Gives view (Ok value) answer = answer ≡ Ok (view value)
Gives view (Err refusal) answer = refusal ≢ Memory → answer ≡ Err refusal

-- unless memory was refused, a refusal is the fault
abbrev pub RefusesBy : {T : Type 0} → Result T Refusal → Option Refusal → Type 0
RefusesBy result fault = IfErr result (λ refusal. refusal ≢ Memory → fault ≡ Some refusal)
