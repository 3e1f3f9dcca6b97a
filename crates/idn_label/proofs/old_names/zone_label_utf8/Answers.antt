use Rattle.std.proofs.Common.{◌≡◌, List, ℕ, Err, not, sym, ap, ◌∙◌}
use Rattle.std.specs.Char.{is_ascii_uppercase}
use Rattle.std.specs.List.{list_all}
use Rattle.idna.specs.Validity.{is_all_ascii}
use Rattle.idn_label.specs.OldNames.{old_answer, unless_refused, zone_in_utf8}
use Rattle.idn_label.specs.Register.{register_answer}
use Rattle.idn_label.specs.Steps.{lowercase}
use Rattle.idn_label.proofs.LowerCase.{has_no_capital-lower, is_all_ascii-lower}
use Rattle.idn_label.proofs.ZoneLemmas.{GivesInZone-same, zone-registered, zone-ascii, zone-refused, stands-lower}
use Rattle.idn_label.proofs.old_names.zone_label_utf8.Goals as goal

pub returns-in-Ok-clause-answer : goal.returns-in-Ok-clause-answer
returns-in-Ok-clause-answer c = zone-registered c.args.properties c.args.line.now _ c.in-Ok.ensures.answer

pub returns-then-not-is_all_ascii-clause-answer : goal.returns-then-not-is_all_ascii-clause-answer
returns-then-not-is_all_ascii-clause-answer c = λ other.
    zone-refused c.args.properties c.args.line.now _ (c.in-Err.ensures.answer c.in_ok-unless_memory.ensures.told) (sym c.if-not-is_all_ascii.ensures)

pub named_label_utf8-requires-clause-ascii : goal.named_label_utf8-requires-clause-ascii
named_label_utf8-requires-clause-ascii c =
    ap is_all_ascii (c.as_slice.ensures.value ∙ c.lowercase_of-name.ensures) ∙ is_all_ascii-lower c.args.line.now ∙ sym c.if-not-is_all_ascii.ensures

pub named_label_utf8-requires-clause-lower : goal.named_label_utf8-requires-clause-lower
named_label_utf8-requires-clause-lower c =
    ap (list_all (λ b. not (is_ascii_uppercase b))) (c.as_slice.ensures.value ∙ c.lowercase_of-name.ensures) ∙ has_no_capital-lower c.args.line.now

pub returns-clause-answer : goal.returns-clause-answer
returns-clause-answer c =
    let p = c.args.properties in
    let name : c.as_slice.result.now ≡ lowercase c.args.line.now = c.as_slice.ensures.value ∙ c.lowercase_of-name.ensures in
    let refusal = c.in-Err.refusal in
    GivesInZone-same _ _ _ _
    (ap (λ (n : List ℕ). zone_in_utf8 (unless_refused n (register_answer p n) (old_answer n refusal))) name
    ∙ sym (zone-ascii p c.args.line.now refusal (c.in-Err.ensures.answer c.in_ok-unless_memory.ensures.told) (sym c.if-not-is_all_ascii.ensures)))
    c.named_label_utf8.ensures.answer

pub returns-in_err-unless_memory-clause-no_memory : goal.returns-in_err-unless_memory-clause-no_memory
returns-in_err-unless_memory-clause-no_memory c = λ none memory.
    c.in-Err.ensures.no_memory none.0 (ap Err c.in_err-unless_memory.ensures.memory.1)

pub returns-clause-no_memory : goal.returns-clause-no_memory
returns-clause-no_memory c = λ none.
    let name : c.as_slice.result.now ≡ lowercase c.args.line.now = c.as_slice.ensures.value ∙ c.lowercase_of-name.ensures in
    let ascii = sym c.if-not-is_all_ascii.ensures in
    c.named_label_utf8.ensures.no_memory
    (stands-lower c.args.line.now c.as_slice.result.now none ascii name (ap is_all_ascii name ∙ is_all_ascii-lower c.args.line.now ∙ ascii))
    c.in_ok-unless_memory.ensures.told
