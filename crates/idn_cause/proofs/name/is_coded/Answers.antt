use Rattle.std.proofs.Common.{◌≡◌, ◌≢◌, ℕ, zero, suc, false, List, [], ◌∷◌, refl, sym, ap, ◌∙◌}
use Rattle.idna.specs.Validity.{has_ace_prefix}
use Rattle.idn_label.specs.Steps.{begins_with_prefix}
use Rattle.idn_label.proofs.LabelsByPlace.{label_last}
use Rattle.idn_cause.specs.NameCauses.{label_of_number}
use Rattle.idn_cause.proofs.name.is_coded.Goals as goal

-- there is no label after the last
past_last : (number : ℕ) (label : List ℕ) → number ≢ 0 → begins_with_prefix (label_of_number number (label ∷ [])) ≡ begins_with_prefix []
past_last zero label some = absurd (some refl)
past_last (suc number) label some = refl

no_prefix : begins_with_prefix [] ≡ false
unfolding has_ace_prefix
no_prefix = refl

pub returns-then-end-name : goal.returns-then-end-name
returns-then-end-name c =
    let last = label_last c.args.name.now c.labels.start c.label_end-end.result c.label_end-end.ensures c.if-end-name.true in
    let some : c.labels.before ≢ 0 = λ is. c.if-before-eq0.false is in
    sym
    (ap begins_with_prefix (c.labels.invariant.so_far ∙ ap (label_of_number c.labels.before) last)
    ∙ past_last c.labels.before _ some
    ∙ no_prefix)
