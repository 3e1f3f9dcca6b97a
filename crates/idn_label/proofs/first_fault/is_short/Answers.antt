use Rattle.std.proofs.Common.{◌≡◌, not, nat_lt, nat_le, length, sym, ap, ◌∙◌, arith}
use Rattle.std.proofs.lemmas.Bool.Decides.{nat_tests}
use Rattle.idn_label.proofs.FaultLemmas.{short_enough, ascii_long}
use Rattle.idn_label.proofs.first_fault.is_short.Goals as goal

pub returns-then-always_fits : goal.returns-then-always_fits
returns-then-always_fits c =
    let label = c.args.label.now in
    let fits = c.always_fits.ensures.fits c.if-always_fits.true label (omega (arith, c.requires)) in
    sym (ap not (short_enough label fits.0 fits.1))

pub returns-then-is_all_ascii : goal.returns-then-is_all_ascii
returns-then-is_all_ascii c =
    let label = c.args.label.now in
    let tests : nat_le (length label) 63 ≡ not (nat_lt 63 (length label)) = grind (arith, nat_tests) in
    tests ∙ sym (ap not (ascii_long label (sym c.if-is_all_ascii.ensures)))
