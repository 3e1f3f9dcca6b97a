use Rattle.label_patterns.specs.Matches.{no_round}
use Rattle.valid_labels.proofs.SourceLemmas.{made-steps}
use Rattle.valid_labels.proofs.sources.source_places.Goals as goal

pub returns-clause-start : goal.returns-clause-start
returns-clause-start c = (c.reached.ensures 0).1 no_round

pub returns-clause-made : goal.returns-clause-made
returns-clause-made c j l =
    let s = made-steps c.args.table.now c.args.label.now j l in
    let r = c.reached.ensures j in
    (λ h. s.0 (r.0 h), λ h. r.1 (s.1 h))
