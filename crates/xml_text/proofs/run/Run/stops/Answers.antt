use Rattle.std.proofs.Common.{◌==◌, ◌&&◌, not, ℕ, map, refl, sym, ap, ◌∙◌}
use Rattle.std.specs.Simd.Lanes.{mask_l}
use Rattle.xml_text.specs.declared.run.Run.{Run}
use Rattle.xml_text.specs.declared.run.Run.TheVariants as runs
use Rattle.xml_text.specs.inner.Runs.{goes_on, is_in_line}
use Rattle.xml_text.proofs.BlockLemmas.{four_end, one_ends}
use Rattle.xml_text.proofs.run.Run.stops.Goals as goal

pub returns-in-Value : goal.returns-in-Value
returns-in-Value c =
    let v = c.args.block in
    four_end (runs.Value c.in-Value.quote) c.byte.result 60 38 9 v c.fits-block.0 (λ x. ap (λ (y : ℕ). not (x == y) && not (x == 60) && not (x == 38) && not (x == 9) && is_in_line x) (sym c.byte.ensures))
    ∙ ap (λ (r : Run). mask_l (map (λ b. not (goes_on r b)) v)) (sym c.in-Value.is)

pub returns-in-Text : goal.returns-in-Text
returns-in-Text c =
    let v = c.args.block in
    four_end runs.Text 60 38 62 93 v c.fits-block.0 (λ x. refl) ∙ ap (λ (r : Run). mask_l (map (λ b. not (goes_on r b)) v)) (sym c.in-Text.is)

pub returns-in-Section : goal.returns-in-Section
returns-in-Section c =
    let v = c.args.block in
    one_ends runs.Section 93 v c.fits-block.0 (λ x. refl) ∙ ap (λ (r : Run). mask_l (map (λ b. not (goes_on r b)) v)) (sym c.in-Section.is)

pub returns-in-Comment : goal.returns-in-Comment
returns-in-Comment c =
    let v = c.args.block in
    one_ends runs.Comment 45 v c.fits-block.0 (λ x. refl) ∙ ap (λ (r : Run). mask_l (map (λ b. not (goes_on r b)) v)) (sym c.in-Comment.is)

pub returns-in-Instruction : goal.returns-in-Instruction
returns-in-Instruction c =
    let v = c.args.block in
    one_ends runs.Instruction 63 v c.fits-block.0 (λ x. refl) ∙ ap (λ (r : Run). mask_l (map (λ b. not (goes_on r b)) v)) (sym c.in-Instruction.is)
