use Rattle.std.proofs.Common.{rules, ap, ◌∙◌}
use Rattle.std.proofs.iter.Yields.{fronts, copies}
use Rattle.std.proofs.lemmas.Iterator.Adapters.{items_from_extend}
use Rattle.std.specs.Slice.Iter.{iter_rest}
use Rattle.unicode_normalization.proofs.IterLemmas.{Spells-slice}
use Rattle.caseless.specs.CaseFold.{CaseFoldSteps}
use Rattle.caseless.proofs.CaselessLemmas.{Spells-CaseFold}
use Rattle.idn_class.proofs.stability.fold.Goals as goal

pub returns : goal.returns
returns c =
    let source = Spells-slice c.copied.result _ (ap iter_rest c.copied.ensures.source ∙ c.iter.ensures.rest) in
    let all = items_from_extend {steps = CaseFoldSteps (copies fronts)} {s = c.default_case_fold.result} c.extend.result c.extend.ensures.ran (record { runs = Spells-CaseFold (c.default_case_fold.ensures.text _ source) }) in
    search rules
