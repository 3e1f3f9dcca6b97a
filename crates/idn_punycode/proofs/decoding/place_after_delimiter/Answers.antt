use Rattle.std.proofs.Common.{◌≡◌, ◌≢◌, ◌-◌, ◌<◌, not, ◌==◌, length, get_or, refl, sym, ap, ◌∙◌, inl, inr, arith}
use Rattle.std.specs.List.{suffix_len}
use Rattle.std.proofs.lemmas.Bool.{cases_lt}
use Rattle.idna.specs.Punycode.{delimiter}
use Rattle.idn_punycode.proofs.DelimiterSteps.{is_end, no_delimiter}
use Rattle.idn_punycode.proofs.UnitLemmas.{codes_length, codes_at}
use Rattle.idn_punycode.proofs.decoding.place_after_delimiter.Goals as goal

pub loop-after-preserved : goal.loop-after-preserved
loop-after-preserved g c =
    let units = c.args.code.now in
    let code = g.U.Unit.codes units in
    let after = c.loop-after.after in
    let i = c.loop-after.invariant in
    let lt : after - 1 < length units = omega (arith, i.0, c.loop-after-test.true) in
    let is = codes_at g.U.Unit.code g.U.Unit.codes g.met.U.Unit.codes_are units (after - 1) c.index-code-after.result lt c.index-code-after.is in
    let other : get_or code (after - 1) 0 ≢ 0x2D = λ e. c.if-code_point-from.true (c.code_point.ensures ∙ is ∙ e ∙ sym c.from.ensures) in (
      omega (arith, i.0),
      λ k le few. elim (cases_lt k after) [
        | inl near ↦ let here : k ≡ after - 1 = omega (arith, le, near) in ap (λ k. not (get_or code k 0 == delimiter)) here ∙ no_delimiter _ other
        | inr far ↦ i.1 k far few
      ],
    )

pub returns-else-code_point-from : goal.returns-else-code_point-from
returns-else-code_point-from g c =
    let units = c.args.code.now in
    let code = g.U.Unit.codes units in
    let after = c.loop-after.after in
    let i = c.loop-after.invariant in
    let many = codes_length g.U.Unit.code g.U.Unit.codes g.met.U.Unit.codes_are units in
    let lt : after - 1 < length units = omega (arith, i.0, c.loop-after-test.true) in
    let is = codes_at g.U.Unit.code g.U.Unit.codes g.met.U.Unit.codes_are units (after - 1) c.index-code-after.result lt c.index-code-after.is in
    let here : get_or code (after - 1) 0 ≡ 0x2D = sym is ∙ sym c.code_point.ensures ∙ c.if-code_point-from.false ∙ c.from.ensures in
    is_end code after (omega (arith, i.0, many)) i.1 (λ _. rw here refl) ∙ ap (λ n. n - suffix_len (λ c. not (c == delimiter)) code) many

pub returns-after-loop-after : goal.returns-after-loop-after
returns-after-loop-after g c =
    let units = c.args.code.now in
    let code = g.U.Unit.codes units in
    let i = c.loop-after.invariant in
    let many = codes_length g.U.Unit.code g.U.Unit.codes g.met.U.Unit.codes_are units in
    is_end code c.loop-after.after (omega (arith, i.0, many)) i.1 (λ some. absurd (omega (arith, some, c.loop-after-test.false)))
    ∙ ap (λ n. n - suffix_len (λ c. not (c == delimiter)) code) many
