use Rattle.std.proofs.Common.{◌≡◌, List, ℕ, drop, refl, sym, ap, ◌∙◌, subst}
use Rattle.xml_text.specs.Tokens.{Token}
use Rattle.lgr_text.specs.Elements.{Say}
use Rattle.lgr_text.specs.inner.Reading.{after_blanks}
use Rattle.lgr_text.proofs.ContentLemmas.{texts-passed}
use Rattle.lgr_text.proofs.element.without_blank_texts.Goals as goal

pub returns-clause-is : goal.returns-clause-is
returns-clause-is c = λ p k say.
    let tokens = c.args.tokens.now in
    let rest : c.split_at.result.1.now ≡ drop _ tokens = c.split_at.ensures.back ∙ ap (λ (n : ℕ). drop n tokens) c.blank_texts.ensures.is in
    subst (λ (ts : List Token). Say p ts (after_blanks k)) (sym rest) (texts-passed p tokens k (k, say, refl))
