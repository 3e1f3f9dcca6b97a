use Rattle.std.proofs.Common.{◌≡◌, true, false, sym, subst, refl}
use Rattle.std.specs.Prelude.{List}
use Rattle.reading_kinds.specs.Readings.{Substitution, SubstitutionsSpell}
use Rattle.variant_dispositions.specs.Readings.{AreWordsOf}
use Rattle.idn2_cli.proofs.AppearanceLemmas.{appears-unread}
use Rattle.idn2_cli.proofs.modes.label_dispositions.appearance_read.Goals as goal

pub returns-in-Some-clause-told : goal.returns-in-Some-clause-told
returns-in-Some-clause-told g c = λ table label sound of asks same rules other.
    let v = c.args.variant.now in
    let words = c.in-Some.words in
    c.of_words.ensures table label v sound of rules other (subst (λ (us : List (List Substitution)). SubstitutionsSpell us v) same (c.in-Some.ensures.spelled.0 refl))
    (subst (λ (us : List (List Substitution)). AreWordsOf us v words.has words.lacks) same (record { has_are = c.in-Some.ensures.has; lacks_are = c.in-Some.ensures.lacks }))

pub returns-in-None-clause-told : goal.returns-in-None-clause-told
returns-in-None-clause-told g c = λ table label sound of asks same rules other.
    let v = c.args.variant.now in
    appears-unread table label v c.args.of_table.now.by sound of.by asks other
    (λ s. (let clash : false ≡ true = c.in-None.ensures.spelled.1 (subst (λ (us : List (List Substitution)). SubstitutionsSpell us v) (sym same) s) in cc))
