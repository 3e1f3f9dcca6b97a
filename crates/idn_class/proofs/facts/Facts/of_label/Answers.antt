use Rattle.std.proofs.Common.{ap, ap₂, sym, take_all, ◌∙◌, ◌||◌, ◌==◌, le-leb, true, get_or, ◌≡◌}
use Rattle.std.specs.List.{list_any}
use Rattle.std.proofs.lemmas.List.Folds.{list_any_at, list_any_more}
use Rattle.std.proofs.lemmas.Nat.Bits.{bit_at-zero}
use Rattle.idn_class.specs.Facts.{contains, has_fact, fact_holds, place_of}
use Rattle.idn_class.proofs.facts.Facts.of_label.Goals as goal

pub loop-c-init : goal.loop-c-init
loop-c-init c = c.none-facts.ensures

pub loop-c-preserved : goal.loop-c-preserved
loop-c-preserved c = λ fact.
    c.joined-facts.ensures fact
    ∙ ap₂ (λ a b. a || b) (c.loop-c.invariant fact) (c.of.ensures fact)
    ∙ sym (list_any_more (has_fact fact) c.args.label.now c.loop-c.c-index 0 c.loop-c-test.true)

pub returns : goal.returns
returns c = λ fact. c.loop-c.invariant fact ∙ ap (list_any (has_fact fact)) (take_all _ c.args.label.now c.loop-c-test.false)

pub returns-then-c-ge-END : goal.returns-then-c-ge-END
unfolding contains
returns-then-c-ge-END c = λ fact.
    let label = c.args.label.now in
    let i = c.loop-c.c-index in
    let past : has_fact fact (get_or label i 0) ≡ true = ap (λ b. b || fact_holds fact (get_or label i 0)) (le-leb 0x11_0000 (get_or label i 0) c.if-c-ge-END.true) in
    ap (λ n. n == 0) (bit_at-zero (place_of fact)) ∙ sym (list_any_at (has_fact fact) label i 0 c.loop-c-test.true past)
