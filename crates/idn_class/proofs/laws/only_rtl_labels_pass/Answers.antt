use Rattle.std.proofs.Common.{map}
use Rattle.std.proofs.lemmas.List.Folds.{list_any-from_Any}
use Rattle.idn_class.specs.BidiClass.{bidi_class}
use Rattle.idn_class.specs.BidiRule.{is_rtl_class}
use Rattle.idn_class.proofs.BidiLemmas.{RtlParts_from}
use Rattle.idn_class.proofs.laws.only_rtl_labels_pass.Goals as goal

pub returns : goal.returns
returns c properties label some passes =
    let classes = map (bidi_class properties) label in (RtlParts_from classes (list_any-from_Any is_rtl_class classes some) passes).begins
