use Rattle.std.proofs.Common.{length}
use Rattle.std.specs.Prelude.{option_and_then}
use Rattle.lgr_text.specs.Elements.{Content, each_element}
use Rattle.lgr_text.specs.Sections.{ruleset_by, section_of}
use Rattle.lgr_text.specs.inner.Reading.{AreOf}
use Rattle.lgr_text.specs.inner.Stages.{stage}
use Rattle.lgr_text.proofs.FoldLemmas.{Folded}
use Rattle.lgr_text.proofs.SectionLemmas.{ruleset_from}
use Rattle.lgr_text.proofs.sections.read_sections.Given as goal

-- the sections that are left follow those that were read
abbrev pub invariant-loop-sections : goal.invariant-loop-sections
invariant-loop-sections l = (c : Content) → AreOf l.fn.root.within c → Folded section_of ruleset_from (stage l.sections) l.elements (option_and_then ruleset_by (each_element section_of c))

abbrev pub decreases-loop-sections : goal.decreases-loop-sections
decreases-loop-sections l = length l.elements.tokens.now
