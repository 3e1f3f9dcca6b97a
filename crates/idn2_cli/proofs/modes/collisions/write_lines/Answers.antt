use Rattle.std.proofs.Common.{◌≡◌, ◌+◌, ◌++◌, [], ◌∷◌, ◌∙◌, Err, List, ℕ, map, drop, get_or, refl, ap, sym, append_assoc, add-one, drop-cons}
use Rattle.answer_json.specs.declared.collision.Regard.TheVariants.{NoVariant}
use Rattle.std.proofs.lemmas.Result.{err_from_is_err_and}
use Rattle.idn2_answers.specs.Said.{Said}
use Rattle.idn2_output.specs.OutputLines.{OutputLine}
use Rattle.idn2_output.proofs.WrittenOutputLines.{writes_nothing, writes_join, stops_between}
use Rattle.std.proofs.lemmas.List.{append-nil, drop_all}
use Rattle.idn2_cli.specs.declared.modes.asked.Asked.{Asked}
use Rattle.idn2_cli.specs.declared.modes.collisions.Collision.{Collision}
use Rattle.idn2_cli.specs.inner.Asked.{lines_to, said_to}
use Rattle.idn2_cli.specs.inner.FoundLabels.{ending, said_of, told_block}
use Rattle.idn2_cli.proofs.CollisionSteps.{told-parts}
use Rattle.idn2_cli.proofs.ListingProgress.{emits_after}
use Rattle.idn2_cli.proofs.modes.collisions.write_lines.Goals as goal

pub lines-init : goal.lines-init
lines-init g c = record { so_far = []; split = refl; output_lines = writes_nothing _ }

pub lines-preserved : goal.lines-preserved
lines-preserved g c =
    let h = c.lines.invariant in
    let rest = drop (c.lines.collision-index + 1) c.args.found.now in
    let item = get_or c.args.found.now c.lines.collision-index (record { number = 0; regards = record { there = NoVariant; back = NoVariant } }) in
    let next = drop-cons c.args.found.now c.lines.collision-index (record { number = 0; regards = record { there = NoVariant; back = NoVariant } }) c.lines-test.true in
    let line : List OutputLine = lines_to c.args.asked.now (said_of c.args.registered.now item ∷ []) in
    record {
      so_far = h.so_far ++ line;
      split = h.split ∙ ap (λ l. h.so_far ++ lines_to c.args.asked.now (map (said_of c.args.registered.now) l)) (next ∙ ap (λ (n : ℕ). item ∷ drop n c.args.found.now) (sym (add-one c.lines.collision-index)))
          ∙ sym (append_assoc h.so_far line (lines_to c.args.asked.now (map (said_of c.args.registered.now) rest)));
      output_lines = writes_join _ _ _ h.so_far line h.output_lines c.in_ok-write_collision.ensures.written;
    }

-- the lines of what is said, one part after the other
lines-joined : (asked : Asked) (some more : List Said) → lines_to asked (some ++ more) ≡ lines_to asked some ++ lines_to asked more
lines-joined asked [] more = refl
lines-joined asked (s ∷ some) more = ap (λ l. said_to asked s ∷ l) (lines-joined asked some more)

pub returns-in_err-write_collision-clause-written : goal.returns-in_err-write_collision-clause-written
returns-in_err-write_collision-clause-written g c =
    let p = err_from_is_err_and c.from_residual.result c.from_residual.ensures.1 in
    let h = c.lines.invariant in
    let asked : Asked = c.args.asked.now in
    let said : Collision → Said = said_of c.args.registered.now in
    let rest = drop (c.lines.collision-index + 1) c.args.found.now in
    let none : Collision = record { number = 0; regards = record { there = NoVariant; back = NoVariant } } in
    let item = get_or c.args.found.now c.lines.collision-index none in
    let next = drop-cons c.args.found.now c.lines.collision-index none c.lines-test.true ∙ ap (λ (n : ℕ). item ∷ drop n c.args.found.now) (sym (add-one c.lines.collision-index)) in
    let line : List OutputLine = lines_to asked (said item ∷ []) in
    let end : List Said = ending c.args.options.now c.args.label.now c.args.registered.now c.args.found.now in
    let told = told-parts c.args.options.now c.args.label.now c.args.registered.now c.args.found.now in
    let more : List OutputLine = lines_to asked (map said rest) ++ lines_to asked end in
    let split : lines_to asked (told_block c.args.options.now c.args.label.now c.args.registered.now c.args.found.now) ≡ h.so_far ++ (line ++ more) =
    ap (lines_to asked) told
    ∙ lines-joined asked (map said c.args.found.now) end
    ∙ ap (λ l. l ++ lines_to asked end) (h.split ∙ ap (λ l. h.so_far ++ lines_to asked (map said l)) next)
    ∙ append_assoc h.so_far (line ++ lines_to asked (map said rest)) (lines_to asked end)
    ∙ ap (λ l. h.so_far ++ l) (append_assoc line (lines_to asked (map said rest)) (lines_to asked end)) in
    rw p.1 (stops_between _ _ _ _ h.so_far line more c.write_collision.result p.0 split h.output_lines c.write_collision.ensures.written (c.in_err-write_collision.was ∙ ap Err (sym p.2)))

pub returns-clause-written : goal.returns-clause-written
returns-clause-written g c =
    let h = c.lines.invariant in
    let asked : Asked = c.args.asked.now in
    let said : Collision → Said = said_of c.args.registered.now in
    let end : List Said = ending c.args.options.now c.args.label.now c.args.registered.now c.args.found.now in
    let told = told-parts c.args.options.now c.args.label.now c.args.registered.now c.args.found.now in
    let none = drop_all c.lines.collision-index c.args.found.now c.lines-test.false in
    let all : lines_to asked (map said c.args.found.now) ≡ h.so_far = h.split ∙ ap (λ l. h.so_far ++ lines_to asked (map said l)) none ∙ append-nil h.so_far in
    emits_after _ _ _ _ h.so_far (lines_to asked end) c.write_ending.result (ap (lines_to asked) told ∙ lines-joined asked (map said c.args.found.now) end ∙ ap (λ l. l ++ lines_to asked end) all) h.output_lines c.write_ending.ensures.written
