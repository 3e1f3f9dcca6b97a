use Rattle.std.proofs.Common.{◌≡◌, true, false, sym, subst, refl, ◌∙◌}
use Rattle.std.specs.Prelude.{List}
use Rattle.reading_kinds.specs.Readings.{Substitution, SubstitutionsSpell}
use Rattle.variant_dispositions.specs.Readings.{AreWordsOf}
use Rattle.variant_list.proofs.SubstitutionLemmas.{SubstitutionsSpell-label}
use Rattle.idn2_cli.proofs.DecisionLemmas.{listed-spelled, listed-unspelled}
use Rattle.idn2_cli.proofs.modes.listed.Listed.regard.Goals as goal

pub returns-in-None-clause-regard : goal.returns-in-None-clause-regard
returns-in-None-clause-regard g c = λ table label sound is rules other.
    let v = c.args.other.now in
    listed-unspelled table sound label v
    (λ s. (let clash : false ≡ true = c.in-None.ensures.spelled.1 (subst (λ (us : List (List Substitution)). SubstitutionsSpell us v) (sym is.readings) ((SubstitutionsSpell-label table label sound.entries v).1 s)) in cc))

pub returns-in-Some-clause-regard : goal.returns-in-Some-clause-regard
returns-in-Some-clause-regard g c = λ table label sound is rules other.
    let v = c.args.other.now in
    let words = c.in-Some.words in
    let found = subst (λ (us : List (List Substitution)). SubstitutionsSpell us v) is.readings (c.in-Some.ensures.spelled.0 refl) in
    let told = subst (λ (us : List (List Substitution)). AreWordsOf us v words.has words.lacks) is.readings (record { has_are = c.in-Some.ensures.has; lacks_are = c.in-Some.ensures.lacks }) in
    c.regard_of.ensures
    ∙ listed-spelled table sound label v c.of_words.result ((SubstitutionsSpell-label table label sound.entries v).0 found) (c.of_words.ensures table label v sound is.of_table rules other found told)
