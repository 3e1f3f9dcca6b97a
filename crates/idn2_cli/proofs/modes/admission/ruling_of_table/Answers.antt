use Rattle.std.proofs.Common.{◌≡◌, ◌↔◌, Bool, true, false, IsTrue, Option, Some, None, if◌then◌else◌, ap, sym, ◌∙◌}
use Rattle.variant_table.specs.Entries.{TableValue}
use Rattle.variant_table.specs.WellFormed.{IsWellFormed}
use Rattle.valid_labels.specs.Tests.{asks_nothing}
use Rattle.valid_labels.specs.Validity.{AsksNothing}
use Rattle.valid_labels.proofs.TestLemmas.{tests-agree}
use Rattle.idn2_cli.specs.inner.Ruling.{ruling_of}
use Rattle.idn2_cli.proofs.modes.admission.ruling_of_table.Goals as goal
use Rattle.idn_class.proofs.TestLemmas.{same_test}

-- what is ruled by, where it is known whether anything is asked
ruled : (table : TableValue) → IsWellFormed table.entries → (b told : Bool) → IsTrue b ↔ AsksNothing table → b ≡ told → (let r : Option TableValue = if told then None else Some table in r) ≡ ruling_of table
ruled table formed b told is at =
    let same = same_test b (asks_nothing table) (λ t. (tests-agree.nothing table formed).1 (is.0 t)) (λ t. is.1 ((tests-agree.nothing table formed).0 t)) in
    ap (λ (x : Bool). let r : Option TableValue = if x then None else Some table in r) (sym at ∙ same)

pub returns-then-asks_nothing : goal.returns-then-asks_nothing
returns-then-asks_nothing c = ruled c.args.table.now c.len-entries.ensures.well_formed c.asks_nothing.result true c.asks_nothing.ensures c.if-asks_nothing.true

pub returns : goal.returns
returns c = ap (λ (t : TableValue). let r : Option TableValue = Some t in r) c.of_table.ensures ∙ ruled c.args.table.now c.len-entries.ensures.well_formed c.asks_nothing.result false c.asks_nothing.ensures c.if-asks_nothing.false
