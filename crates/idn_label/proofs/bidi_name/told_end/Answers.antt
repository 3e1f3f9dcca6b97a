use Rattle.idn_label.proofs.LabelParts.{part-nothing}
use Rattle.idn_label.proofs.bidi_name.told_end.Goals as goal

pub returns-then-are_rtl_tested : goal.returns-then-are_rtl_tested
returns-then-are_rtl_tested c = part-nothing c.args.name.now c.args.start c.requires
