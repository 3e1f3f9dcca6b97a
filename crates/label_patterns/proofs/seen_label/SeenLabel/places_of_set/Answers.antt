use Rattle.std.proofs.Common.{◌<◌, [], length, get_or, ap, arith}
use Rattle.std.specs.Prelude.{slice_index}
use Rattle.label_patterns.specs.Matches.{Seen}
use Rattle.label_patterns.specs.Sets.{is_in}
use Rattle.label_patterns.proofs.OneLemmas.{no-63}
use Rattle.label_patterns.proofs.seen_label.SeenLabel.places_of_set.Goals as goal

pub returns-clause-below : goal.returns-clause-below
returns-clause-below c =
    let number = c.args.number in
    let same = ap (λ (seen : Seen). length seen.sets) c.self.view_is in
    let inside : number < length c.self.inside.sets.now = omega (arith, same, c.requires) in
    no-63 (is_in (get_or c.self.inside.sets.now number [])) c.self.inside.label.now (slice_index c.self.inside.masks.now number) c.self.invariant.0 (c.self.invariant.1.1 number inside)
