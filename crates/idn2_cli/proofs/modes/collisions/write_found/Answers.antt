use Rattle.std.proofs.Common.{◌≡◌, ◌++◌, ◌==◌, ◌∙◌, [], List, ℕ, true, map, length, ap, sym, subst, arith}
use Rattle.std.proofs.lemmas.Bool.Decides.{nat_tests}
use Rattle.std.proofs.lemmas.List.{nil_from_length}
use Rattle.idn2_options.specs.Settings.{Settings}
use Rattle.idn2_answers.specs.Said.{Said}
use Rattle.idn2_output.specs.Writing.{Emits}
use Rattle.idn2_cli.specs.declared.modes.collisions.Collision.{Collision}
use Rattle.idn2_cli.specs.inner.Asked.{lines_to}
use Rattle.idn2_cli.specs.inner.FoundLabels.{ending, said_of, told_block}
use Rattle.idn2_cli.proofs.CollisionSteps.{told-parts}
use Rattle.idn2_cli.proofs.modes.collisions.write_found.Goals as goal

no_length : (count : ℕ) → (count == 0) ≡ true → count ≡ 0
no_length count none = grind (arith, nat_tests)

pub returns-then-is_empty-clause-written : goal.returns-then-is_empty-clause-written
returns-then-is_empty-clause-written g c =
    let o : Settings = c.args.options.now in
    let label : List ℕ = c.args.label.now in
    let registered : List (List ℕ) = c.args.registered.now in
    let found : List Collision = c.args.found.now in
    let none : found ≡ [] = nil_from_length found (no_length (length found) (sym c.is_empty.ensures ∙ c.if-is_empty.true)) in
    let block : told_block o label registered found ≡ ending o label registered found =
    told-parts o label registered found ∙ ap (λ (f : List Collision). map (said_of registered) f ++ ending o label registered found) none in
    subst (λ (lines : List Said). Emits c.args.console.now c.write_ending.new.console (lines_to c.args.asked.now lines) c.write_ending.result) (sym block) c.write_ending.ensures.written
