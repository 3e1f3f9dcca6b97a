use Rattle.std.proofs.Common.{◌≡◌, Bool, true, false, not, sym, ap, ◌∙◌, drop}
use Rattle.std.specs.Bool.{OnTrue, OnFalse}
use Rattle.idna.specs.Punycode.{decode}
use Rattle.idna.specs.Validity.{is_all_ascii}
use Rattle.idn_text.specs.Points.{AreScalarValues}
use Rattle.idn_label.specs.OldNames.{stands_for}
use Rattle.idn_label.proofs.LowerCase.{has_ace_prefix-kept}
use Rattle.idn_label.proofs.OldNameLemmas.{decoded_scalars, stands_for-plain, stands_for-undecoded, stands_for-decoded, stands_for-ascii}
use Rattle.idn_label.proofs.old_names.names_another.Goals as goal

pub returns-then-not-has_ace_prefix-clause-itself : goal.returns-then-not-has_ace_prefix-clause-itself
returns-then-not-has_ace_prefix-clause-itself g c = stands_for-plain (g.U.Unit.codes c.args.name.now) (sym c.if-not-has_ace_prefix.ensures)

pub code_of-requires : goal.code_of-requires
code_of-requires g c = has_ace_prefix-kept (g.U.Unit.codes c.args.name.now) (sym c.if-not-has_ace_prefix.ensures)

pub returns-in_default-clause-itself : goal.returns-in_default-clause-itself
returns-in_default-clause-itself g c =
    stands_for-undecoded (g.U.Unit.codes c.args.name.now) (sym c.if-not-has_ace_prefix.ensures) (ap decode (sym c.code_of.ensures.codes) ∙ c.in_default.ensures.refused)

pub returns-clause-another : goal.returns-clause-another
returns-clause-another g c = by_test c.is_all_ascii.result c.is_all_ascii.ensures
  where
    by_test : (ascii : Bool) → ascii ≡ is_all_ascii c.as_slice.result.now → OnTrue (not ascii) (stands_for (g.U.Unit.codes c.args.name.now) ≡ c.decode.new.self)
    by_test true is = tt
    by_test false is =
        stands_for-decoded (g.U.Unit.codes c.args.name.now) c.decode.new.self (sym c.if-not-has_ace_prefix.ensures) c.requires.lower
        (ap decode (sym c.code_of.ensures.codes) ∙ c.in-Ok.ensures.decoded) (ap is_all_ascii (sym c.as_slice.ensures.value) ∙ sym is)

pub returns-clause-scalar_values : goal.returns-clause-scalar_values
returns-clause-scalar_values g c = by_test c.is_all_ascii.result
  where
    by_test : (ascii : Bool) → OnTrue (not ascii) (AreScalarValues c.decode.new.self)
    by_test true = tt
    by_test false = decoded_scalars (drop 4 (g.U.Unit.codes c.args.name.now)) c.decode.new.self (ap decode (sym c.code_of.ensures.codes) ∙ c.in-Ok.ensures.decoded)

pub returns-clause-itself : goal.returns-clause-itself
returns-clause-itself g c = by_test c.is_all_ascii.result c.is_all_ascii.ensures
  where
    by_test : (ascii : Bool) → ascii ≡ is_all_ascii c.as_slice.result.now → OnFalse (not ascii) (stands_for (g.U.Unit.codes c.args.name.now) ≡ g.U.Unit.codes c.args.name.now)
    by_test false is = tt
    by_test true is =
        stands_for-ascii (g.U.Unit.codes c.args.name.now) c.decode.new.self (sym c.if-not-has_ace_prefix.ensures)
        (ap decode (sym c.code_of.ensures.codes) ∙ c.in-Ok.ensures.decoded) (ap is_all_ascii (sym c.as_slice.ensures.value) ∙ sym is)
