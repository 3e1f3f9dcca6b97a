use Rattle.std.specs.Prelude.{◌&&◌}
use Rattle.std.specs.Ordering.{is_gt}
use Rattle.std.proofs.lemmas.List.Elements.{filter-append}
use Rattle.variant_list.specs.Labels.{label_cmp}
use Rattle.registered_labels.specs.Collisions.{is_spelled}
use Rattle.registered_labels.proofs.laws.collisions_of_parts.Goals as goal

pub returns : goal.returns
returns c = λ spelled first second after. filter-append (λ v. is_gt (label_cmp v after) && is_spelled spelled v) first second
