use Rattle.xml_text.specs.inner.DocumentSteps.{state}
use Rattle.xml_text.proofs.MarkupTaken.{markup_goes}
use Rattle.xml_text.proofs.document_state.DocumentState.begin_markup.Goals as goal

pub returns : goal.returns
returns c = λ k. markup_goes k (state c.args.self.now) (state c.tag_after.new.self) c.args.rest.now c.split_at.result.1.now c.in_ok-others.others c.requires.some c.requires.open c.split_at.ensures.back c.in_ok-others.ensures
