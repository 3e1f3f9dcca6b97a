use Rattle.std.proofs.Common.{◌≡◌, ℕ, true, get_or, sym, ◌∙◌, subst, arith}
use Rattle.xml_text.specs.inner.Runs.{goes_on}
use Rattle.xml_text.proofs.BlockLemmas.{led}
use Rattle.xml_text.proofs.run.Run.lead_on.Goals as goal

pub loop-place-preserved : goal.loop-place-preserved
loop-place-preserved c =
    let p = goes_on c.args.self in
    let text = c.args.text.now in
    let i = c.loop-place.place in
    let here : p (get_or text i 0) ≡ true = sym c.goes_on.ensures ∙ c.if-goes_on.true in
    record {
      within = omega arith;
      run = led p text i 1 (omega arith) c.loop-place.invariant.run (λ k from to. let same : i ≡ k = omega arith in subst (λ (j : ℕ). p (get_or text j 0) ≡ true) same here);
    }
