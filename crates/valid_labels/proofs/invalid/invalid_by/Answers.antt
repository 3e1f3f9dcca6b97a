use Rattle.std.proofs.Common.{◌≡◌, List, ap, subst, ◌∙◌}
use Rattle.variant_dispositions.specs.Actions.{is_triggered}
use Rattle.variant_dispositions.specs.Kinds.{kinds_in}
use Rattle.variant_dispositions.specs.Laws.{AreTheSame}
use Rattle.valid_labels.specs.declared.invalid.CutSource.{CutSource}
use Rattle.valid_labels.specs.Actions.{AskedRules, actions_of, matches, matches_rule}
use Rattle.valid_labels.specs.Causes.{cut_kinds, invalid_from, longest_cut}
use Rattle.valid_labels.proofs.ActionCauses.{invalid-by_kinds}
use Rattle.valid_labels.proofs.invalid.invalid_by.Goals as goal

pub returns : goal.returns
returns c =
    let table = c.args.table.now in
    let label = c.args.label.now in
    let word = c.kinds_of-kinds.result in
    let cut : List CutSource = longest_cut table label in
    let one : c.deref.result.now ≡ cut = c.deref.ensures.value ∙ c.in_ok-sources.ensures.is in
    let two : c.deref-2.result.now ≡ cut = c.deref-2.ensures.value ∙ c.in_ok-sources.ensures.is in
    let same : AreTheSame (kinds_in word) (cut_kinds cut) = subst (λ (s : List CutSource). AreTheSame (kinds_in word) (cut_kinds s)) one c.kinds_of-kinds.ensures in
    c.invalid_from.ensures
    ∙ ap (λ (r : AskedRules). invalid_from (is_triggered (matches r) (kinds_in word)) c.deref-2.result.now 0 c.args.actions.now) c.requires.rules
    ∙ ap (λ (s : List CutSource). invalid_from (is_triggered (matches_rule table label) (kinds_in word)) s 0 c.args.actions.now) two
    ∙ ap (invalid_from (is_triggered (matches_rule table label) (kinds_in word)) cut 0) c.requires.actions
    ∙ invalid-by_kinds (matches_rule table label) (kinds_in word) (cut_kinds cut) same cut (actions_of table.definitions)
