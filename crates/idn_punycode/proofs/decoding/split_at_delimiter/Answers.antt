use Rattle.std.proofs.Common.{◌≡◌, ℕ, ◌-◌, ◌<◌, not, ◌==◌, take, drop, sym, ap, subst, ◌∙◌}
use Rattle.std.specs.List.{suffix_len}
use Rattle.std.proofs.lemmas.List.{take_rest}
use Rattle.idna.specs.Punycode.{delimiter}
use Rattle.idn_punycode.proofs.DelimiterSteps.{after_delimiter, extended_part-after}
use Rattle.idn_punycode.proofs.UnitLemmas.{codes_length, codes_take, codes_drop}
use Rattle.idn_punycode.proofs.decoding.split_at_delimiter.Goals as goal

pub returns-else-after-le1-clause-basic : goal.returns-else-after-le1-clause-basic
returns-else-after-le1-clause-basic g c =
    let units = c.args.code.now in
    let code = g.U.Unit.codes units in
    let many = codes_length g.U.Unit.code g.U.Unit.codes g.met.U.Unit.codes_are units in
    let after : c.place_after_delimiter-after.result ≡ after_delimiter code =
    c.place_after_delimiter-after.ensures ∙ ap (λ n. n - suffix_len (λ c. not (c == delimiter)) code) (sym many) in
    sym (codes_take g.U.Unit.code g.U.Unit.codes g.met.U.Unit.codes_are units (c.place_after_delimiter-after.result - 1)) ∙ ap (λ n. take (n - 1) code) after

pub returns-else-after-le1-clause-extended : goal.returns-else-after-le1-clause-extended
returns-else-after-le1-clause-extended g c =
    let units = c.args.code.now in
    let code = g.U.Unit.codes units in
    let many = codes_length g.U.Unit.code g.U.Unit.codes g.met.U.Unit.codes_are units in
    let after : c.place_after_delimiter-after.result ≡ after_delimiter code =
    c.place_after_delimiter-after.ensures ∙ ap (λ n. n - suffix_len (λ c. not (c == delimiter)) code) (sym many) in
    rw take_rest
    (sym (codes_drop g.U.Unit.code g.U.Unit.codes g.met.U.Unit.codes_are units c.place_after_delimiter-after.result)
    ∙ ap (λ n. drop n code) after
    ∙ sym (extended_part-after code (subst (λ (n : ℕ). 1 < n) after c.if-after-le1.false)))
