use Rattle.std.proofs.Common.{◌≡◌, false, true, refl, subst, sym}
use Rattle.variant_dispositions.specs.Readings.{IsDisposition}
use Rattle.variant_dispositions.proofs.WordLemmas.{apart-clear, clear-apart, told-words}
use Rattle.variant_dispositions.proofs.variant.disposition_of_words.Goals as goal

pub returns-then-are_apart : goal.returns-then-are_apart
returns-then-are_apart g c substitutions v spelled are =
    let matched = g.R.LabelRules.matched c.args.rules.now in
    let clear = apart-clear substitutions v c.args.words.has c.args.words.lacks are (c.if-are_apart.ensures.0 refl) in
    let told = told-words substitutions v c.args.words.has c.args.words.lacks are spelled clear matched c.args.actions.now in
    (clear, subst (IsDisposition matched c.args.actions.now substitutions v) (sym c.disposition_of.ensures) told)

pub returns-else-are_apart : goal.returns-else-are_apart
returns-else-are_apart g c substitutions v spelled are clear =
    let clash : false ≡ true = c.if-are_apart.ensures.1 (clear-apart substitutions v c.args.words.has c.args.words.lacks are clear) in
    cc
