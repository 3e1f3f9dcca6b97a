use Rattle.std.proofs.Common.{◌≡◌, ◌⊎◌, [], ◌∷◌, ◌++◌, ◌∙◌, subst}
use Rattle.lgr_text.proofs.SetChoiceLemmas.{set-chosen}
use Rattle.lgr_text.proofs.part_items.set_tree.Goals as goal

pub returns-clause-sets : goal.returns-clause-sets
returns-clause-sets c =
    let old = c.args.sets.now.items in
    let new = c.number_of_set.new.sets.items in
    let same : c.new-set.result ≡ c.args.spans.now = c.new-set.ensures ∙ c.in_ok-from_slice.ensures.items in
    set-chosen c.args.spans.now old new c.in_ok-number.number c.requires.fits
    (subst (λ l. (new ≡ old) ⊎ (new ≡ old ++ l ∷ [])) same c.in_ok-number.ensures.kept)
    c.in_ok-number.ensures.within
    (c.in_ok-number.ensures.number ∙ same)
