use Rattle.std.proofs.Common.{Err, ap, sym, ◌∙◌}
use Rattle.idn_label.specs.OldNames.{zone_in_utf8}
use Rattle.idn_label.proofs.ZoneLemmas.{named-registered, named-refused, zone-neither, zone-old}
use Rattle.idn_label.proofs.old_names.named_label_utf8.Goals as goal

pub returns-in-Ok-clause-answer : goal.returns-in-Ok-clause-answer
returns-in-Ok-clause-answer c = named-registered c.args.properties c.args.name.now _ _ c.requires.ascii c.in-Ok.ensures.answer

pub returns-in-Some-clause-answer : goal.returns-in-Some-clause-answer
returns-in-Some-clause-answer c =
    ap zone_in_utf8 (named-refused c.args.properties c.args.name.now _ _ c.requires.ascii (c.in-Err.ensures.answer c.in_ok-unless_memory-in-Err.ensures.told))
    ∙ zone-old c.args.name.now _ c.args.refusal c.in-Some.ensures.old (sym c.in-Some.ensures.written)

pub returns-in-None-clause-answer : goal.returns-in-None-clause-answer
returns-in-None-clause-answer c = λ other.
    ap zone_in_utf8 (named-refused c.args.properties c.args.name.now _ _ c.requires.ascii (c.in-Err.ensures.answer c.in_ok-unless_memory-in-Err.ensures.told))
    ∙ zone-neither c.args.name.now c.args.refusal c.in-None.ensures.other

pub returns-in_err-unless_memory-in-Err-clause-no_memory : goal.returns-in_err-unless_memory-in-Err-clause-no_memory
returns-in_err-unless_memory-in-Err-clause-no_memory c = λ none told memory.
    c.in-Err.ensures.no_memory none (ap Err c.in_err-unless_memory-in-Err.ensures.memory.1)
