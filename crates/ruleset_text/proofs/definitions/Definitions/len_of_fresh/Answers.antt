use Rattle.std.proofs.Common.{◌≡◌, ◌+◌, ◌≤◌, length, sym, ap, subst, ◌∙◌}
use Rattle.std.proofs.lemmas.Bool.Decides.{not_from_Decides}
use Rattle.ruleset_text.specs.Canonical.{definition_text}
use Rattle.ruleset_text.specs.Definition.{Definition}
use Rattle.ruleset_text.specs.Definitions.{canonical_size}
use Rattle.ruleset_text.specs.DefinitionForms.{HasForm}
use Rattle.ruleset_text.specs.DefinitionTrees as trees
use Rattle.ruleset_text.specs.inner.DefinitionSteps.{AreFound, found_of}
use Rattle.ruleset_text.specs.inner.FormTests as tests
use Rattle.ruleset_text.proofs.DefineFaultLemmas.{are_found, fresh_fails}
use Rattle.ruleset_text.proofs.DefineLemmas.{may_be_added}
use Rattle.ruleset_text.proofs.FormTestLemmas.{form_told}
use Rattle.ruleset_text.proofs.definitions.Definitions.len_of_fresh.Goals as goal

pub returns-then-not-has_form : goal.returns-then-not-has_form
returns-then-not-has_form c =
    let x : Definition = trees.definition c.args.definition.now in
    not_from_Decides (tests.has_form x) (form_told x) (sym c.has_form.ensures ∙ c.if-not-has_form.true)

pub check-requires-clause-found : goal.check-requires-clause-found
check-requires-clause-found c =
    let x : Definition = trees.definition c.args.definition.now in
    subst (AreFound c.args.self.now x)
    (sym (c.in_ok-found.ensures {u = tt} ∙ ap (λ k. found_of k x) c.earlier.ensures.known))
    (are_found c.args.self.now c.earlier.ensures.without_fault x)

pub returns-in_err-check : goal.returns-in_err-check
returns-in_err-check c =
    let x : Definition = trees.definition c.args.definition.now in
    let form : HasForm x = (form_told x).0 (sym c.has_form.ensures ∙ c.if-not-has_form.false) in
    fresh_fails _ c.args.limit c.args.self.now x c.in_err-check.field-0.0 c.from_residual-in_err-check.result
    c.from_residual-in_err-check.ensures.0 c.from_residual-in_err-check.ensures.1 form (c.in_err-check.ensures {u = tt})

pub returns : goal.returns
returns c =
    let d = c.args.self.now in
    let x : Definition = trees.definition c.args.definition.now in
    let form : HasForm x = (form_told x).0 (sym c.has_form.ensures ∙ c.if-not-has_form.false) in
    let faultless = c.in_ok-check.ensures {u = tt} in
    let size : c.in_ok-len.len ≡ length (definition_text d.set_names x) =
    c.in_ok-len.ensures {u = tt} ∙ ap (λ sets. length (definition_text sets x)) c.set_names.ensures.is in
    let may = may_be_added c.args.limit d x c.earlier.ensures.without_fault form faultless in
    record {
      form = form;
      faultless = faultless;
      size = size;
      without_fault = may.without_fault;
      room = subst (λ n. canonical_size d + (n + 1) ≤ c.args.limit) (sym size) may.room;
    }
