use Rattle.valid_labels.proofs.SourceLemmas.{furthest-told}
use Rattle.valid_labels.proofs.sources.furthest.Goals as goal

pub returns : goal.returns
returns c =
    let place = c.last_place.result in
    (furthest-told.exactly c.args.table.now c.args.label.now place c.source_places.ensures.well_formed).0 (record {
      within = c.last_place.ensures.within;
      reached = (c.source_places.ensures.made place c.last_place.ensures.within).0 c.last_place.ensures.member;
      greatest = λ n l m made. c.last_place.ensures.greatest n l m ((c.source_places.ensures.made n m).1 made);
    })
