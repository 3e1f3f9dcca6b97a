use Rattle.std.proofs.Common.{◌-◌, ◌∙◌, ℕ, List, [], Option, Some, None, Bool, length, ap, sym, arith, if◌then◌else◌}
use Rattle.std.specs.Prelude.{slice_get}
use Rattle.std.specs.Option.{option_map}
use Rattle.std.proofs.lemmas.Option.{get_or_from_slice_get}
use Rattle.idn_text.specs.Points.{utf8_of}
use Rattle.idn_text.proofs.Utf8Lemmas.{length-utf8_of-le}
use Rattle.registered_labels.proofs.LabelLists.{found_at, short_at}
use Rattle.idn2_cli.specs.inner.FoundLabels.{label_of}
use Rattle.idn2_cli.proofs.modes.collisions.stop_of.Goals as goal

pub returns-in-Some-clause-stop : goal.returns-in-Some-clause-stop
returns-in-Some-clause-stop c =
    let registered : List (List ℕ) = c.args.registered.now in
    let found = c.args.found.now in
    let last = c.in-Some.last.now in
    let at = found_at utf8_of registered last.number c.line.result.now c.line.ensures in
    ap (λ (t : List ℕ). let o : Option (List ℕ) = Some t in o) (sym at.2)
    ∙ ap (λ (v : List ℕ). let o : Option (List ℕ) = Some (utf8_of v) in o) (sym (get_or_from_slice_get registered last.number at.0 [] at.1))
    ∙ ap (λ (o : _). option_map utf8_of (option_map (label_of registered) o)) c.in-Some.ensures.value
    ∙ ap (λ (b : Bool). option_map utf8_of (if b then option_map (label_of registered) (slice_get found (length found - 1)) else None)) (sym (sym c.is_reached.ensures ∙ c.if-is_reached.true))

pub returns-in-Some-clause-short : goal.returns-in-Some-clause-short
returns-in-Some-clause-short c =
    let registered : List (List ℕ) = c.args.registered.now in
    let last = c.in-Some.last.now in
    let at = found_at utf8_of registered last.number c.line.result.now c.line.ensures in
    omega (arith, short_at c.requires.all.0 registered last.number at.0 c.requires.all.1 at.1, length-utf8_of-le at.0, ap length at.2)
