use Rattle.std.proofs.Common.{cond, Option, None, sym, ap, ◌∙◌, subst}
use Rattle.std.specs.Prelude.{option_and_then}
use Rattle.lgr_text.specs.Elements.{each_element}
use Rattle.lgr_text.specs.Records.{Ruleset, file}
use Rattle.lgr_text.specs.Sections.{ruleset_by, section_of}
use Rattle.lgr_text.specs.inner.Reading.{Reads}
use Rattle.lgr_text.proofs.DocumentLemmas.{root-alone, root-followed}
use Rattle.lgr_text.proofs.documents.read_alone.Goals as goal

pub returns-then-not-is_empty : goal.returns-then-not-is_empty
returns-then-not-is_empty c = λ within more says others.
    rw c.wrong.ensures (root-followed c.args.root.now.name.now c.args.root.now.attributes.now within c.args.rest.prefix.now c.args.rest.tokens.now more others (sym c.is_empty.ensures ∙ c.if-not-is_empty.true))

pub returns-then-not-is_named : goal.returns-then-not-is_named
returns-then-not-is_named c = λ within more says others.
    rw c.wrong-then-not-is_named.ensures
    (root-alone c.args.root.now.name.now c.args.root.now.attributes.now within c.args.rest.prefix.now c.args.rest.tokens.now more others (sym c.is_empty.ensures ∙ c.if-not-is_empty.false)
    ∙ ap (λ b. cond b (option_and_then ruleset_by (each_element section_of within)) None) (sym c.is_named.ensures ∙ c.if-not-is_named.true))

pub returns : goal.returns
returns c = λ within more says others.
    let said =
    root-alone c.args.root.now.name.now c.args.root.now.attributes.now within c.args.rest.prefix.now c.args.rest.tokens.now more others (sym c.is_empty.ensures ∙ c.if-not-is_empty.false)
    ∙ ap (λ b. cond b (option_and_then ruleset_by (each_element section_of within)) None) (sym c.is_named.ensures ∙ c.if-not-is_named.false) in
    subst (λ (o : Option Ruleset). Reads file o c.read_sections.result) (sym said) (c.read_sections.ensures within says)
