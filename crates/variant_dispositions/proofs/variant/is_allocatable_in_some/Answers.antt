use Rattle.variant_dispositions.proofs.WordLemmas.{some-allocatable}
use Rattle.variant_dispositions.proofs.variant.is_allocatable_in_some.Goals as goal

pub returns-clause-told : goal.returns-clause-told
returns-clause-told c matched substitutions v are alone =
    let told = some-allocatable substitutions v c.args.words.has c.args.words.lacks are alone matched in
    (λ h. told.0 (c.lacks.ensures.0 h), λ h. c.lacks.ensures.1 (told.1 h))
