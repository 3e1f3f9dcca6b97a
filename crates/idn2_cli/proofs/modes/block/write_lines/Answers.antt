use Rattle.std.proofs.Common.{◌≡◌, ◌∙◌, ℕ, List, [], ◌∷◌, Bool, Option, Some, Err, ap, sym, subst, refl}
use Rattle.std.proofs.lemmas.Result.{err_from_is_err_and}
use Rattle.variant_list.proofs.CallAnswers.{not_ok}
use Rattle.idn2_options.specs.Settings.{Settings, tells_causes}
use Rattle.answer_json.specs.declared.block.Disposition.{Disposition}
use Rattle.idn2_answers.specs.Dispositions.{shown}
use Rattle.idn2_answers.specs.Listings.{variant_by}
use Rattle.idn2_answers.specs.Said.{BlockEnd, Said, Listed, said_text}
use Rattle.idn2_output.specs.OutputLines.{Output}
use Rattle.idn2_output.proofs.WrittenOutputLines.{emits_as, stops_after, writes_as}
use Rattle.idn2_cli.specs.declared.modes.counts.Counts.{Counts}
use Rattle.idn2_cli.specs.declared.modes.counts.Line.{Line}
use Rattle.idn2_cli.specs.declared.modes.counts.Line.TheVariants as line
use Rattle.idn2_cli.specs.declared.modes.variant_judge.VariantJudge.{VariantJudge}
use Rattle.idn2_cli.specs.inner.Asked.{asked_line}
use Rattle.idn2_cli.specs.inner.Blocks.{Tells, disposition_by, field_in}
use Rattle.idn2_cli.specs.inner.CachedLines.{IsBegun}
use Rattle.idn2_cli.specs.inner.Dispositions.{Listing}
use Rattle.idn2_cli.specs.inner.Progress.{GoesOnWithoutMemory, GoesTo, IsUnderWay, Progress, lines_ahead, progress_of}
use Rattle.idn2_cli.proofs.ListingProgress.{written-broken, written-last, written-next, written-start}
use Rattle.idn2_cli.proofs.modes.block.write_lines.Goals as goal

-- the disposition that the judge told is that of the listing, whose classes stay
tells_field : (o : Settings) (of : Listing) (judge : VariantJudge) (v last : List ℕ) {field : Option Disposition} {wanted : Bool} → field ≡ shown wanted judge.told → wanted ≡ tells_causes o → v ≡ last → Tells judge last → disposition_by judge.dispositions last ≡ disposition_by of last → field ≡ field_in o of v
tells_field o of judge v last {field} {wanted} is asked here tells same =
    is ∙ ap (λ (b : Bool). shown b judge.told) asked ∙ ap (shown (tells_causes o)) (tells.1 ∙ same) ∙ ap (field_in o of) (sym here)

-- what is said with the same disposition
line_is : (text : Said → List ℕ) (v : List ℕ) {f g : Option Disposition} → f ≡ g → text (Listed f v) ≡ text (Listed g v)
line_is text v same = ap (λ field. text (Listed field v)) same

-- what comes next, by which line it is
goes_as : (old new : Progress) (next x : Line) → next ≡ x → GoesTo next old new → GoesTo x old new
goes_as old new next x is h = subst (λ (l : Line). GoesTo l old new) is h

pub lines-init : goal.lines-init
lines-init g c =
    let at : Counts → Progress = λ counts. progress_of c.args.cursor.now c.args.judge.now counts in
    let variant : List ℕ → Said = variant_by (field_in c.args.options.now c.args.judge.now.dispositions) in
    record {
      under_way = subst (λ (counts : Counts). IsUnderWay (at counts)) (sym c.new-counts.ensures) c.requires.under_way;
      same_dispositions = λ v. refl;
      written = written-start _ _ _ _ _ (ap (λ (counts : Counts). lines_ahead variant (at counts)) (sym c.new-counts.ensures)) refl;
      no_memory = subst (λ (counts : Counts). GoesOnWithoutMemory (at counts)) (sym c.new-counts.ensures);
    }

-- ---- where no line comes

pub returns-in_err-line-clause-written : goal.returns-in_err-line-clause-written
returns-in_err-line-clause-written g c =
    let p = err_from_is_err_and c.from_residual.result c.from_residual.ensures.1 in
    let written = c.lines.invariant.written in
    rw (p.1, p.2) (stops_after _ _ _ written.so_far _ written.split written.output_lines)

pub returns-in_err-line-clause-no_memory : goal.returns-in_err-line-clause-no_memory
returns-in_err-line-clause-no_memory g c = λ none _. not_ok c.in_err-line.was (c.advance.ensures.no_memory (c.lines.invariant.no_memory none))

-- ---- the last line

pub returns-in-Stop-clause-written : goal.returns-in-Stop-clause-written
returns-in-Stop-clause-written g c =
    let stops = goes_as (progress_of c.lines.cursor c.lines.judge c.lines.counts) (progress_of c.advance.new.cursor c.advance.new.judge c.advance.new.self) c.in_ok-line.line line.Stop c.in-Stop.is c.in_ok-line.ensures.goes in
    let here = ap (λ (v : List ℕ). BlockEnd c.advance.new.self.count (Some v) ∷ []) (sym c.last-label.ensures.value) in
    written-last _ _ _ _ _ c.lines.invariant.written _ _ c.write_stop.result (stops.said (variant_by (field_in c.args.options.now c.args.judge.now.dispositions)) ∙ here) c.write_stop.ensures.written

pub returns-in-End-clause-written : goal.returns-in-End-clause-written
returns-in-End-clause-written g c =
    let ends = goes_as (progress_of c.lines.cursor c.lines.judge c.lines.counts) (progress_of c.advance.new.cursor c.advance.new.judge c.advance.new.self) c.in_ok-line.line line.End c.in-End.is c.in_ok-line.ensures.goes in
    written-last _ _ _ _ _ c.lines.invariant.written _ _ c.write_end.result (ends.said (variant_by (field_in c.args.options.now c.args.judge.now.dispositions))) c.write_end.ensures.written

-- ---- a variant

pub returns-in_err-write_variant-in-Variant-clause-written : goal.returns-in_err-write_variant-in-Variant-clause-written
returns-in_err-write_variant-in-Variant-clause-written g c =
    let p = err_from_is_err_and c.from_residual-in_err-write_variant-in-Variant.result c.from_residual-in_err-write_variant-in-Variant.ensures.1 in
    let goes = goes_as (progress_of c.lines.cursor c.lines.judge c.lines.counts) (progress_of c.advance.new.cursor c.advance.new.judge c.advance.new.self) c.in_ok-line.line line.Variant c.in-Variant.is c.in_ok-line.ensures.goes in
    let o : Settings = c.args.options.now in
    let of : Listing = c.args.judge.now.dispositions in
    let variant : List ℕ → Said = variant_by (field_in o of) in
    let here = ap (λ (v : List ℕ). variant v ∷ lines_ahead variant (progress_of c.advance.new.cursor c.advance.new.judge c.advance.new.self)) (sym c.last-label.ensures.value) in
    let told = tells_field o of c.advance.new.judge c.last-label.result.now c.advance.new.cursor.last c.shown-told.ensures c.tells_causes-wanted.ensures c.last-label.ensures.value goes.tells (c.advance.ensures.same_dispositions c.advance.new.cursor.last ∙ c.lines.invariant.same_dispositions c.advance.new.cursor.last) in
    rw p.1 (written-broken _ _ _ _ _ c.lines.invariant.written _ (variant c.last-label.result.now) _ c.write_variant.result p.0 (goes.said variant ∙ here)
    (emits_as _ _ Output _ _ c.write_variant.result (line_is (said_text c.args.asked.now.form (asked_line c.args.asked.now)) c.last-label.result.now told) c.write_variant.ensures.written) (c.in_err-write_variant-in-Variant.was ∙ ap Err (sym p.2)))

pub lines-preserved : goal.lines-preserved
lines-preserved g c =
    let goes = goes_as (progress_of c.lines.cursor c.lines.judge c.lines.counts) (progress_of c.advance.new.cursor c.advance.new.judge c.advance.new.self) c.in_ok-line.line line.Variant c.in-Variant.is c.in_ok-line.ensures.goes in
    let o : Settings = c.args.options.now in
    let of : Listing = c.args.judge.now.dispositions in
    let variant : List ℕ → Said = variant_by (field_in o of) in
    let here = ap (λ (v : List ℕ). variant v ∷ lines_ahead variant (progress_of c.advance.new.cursor c.advance.new.judge c.advance.new.self)) (sym c.last-label.ensures.value) in
    let told = tells_field o of c.advance.new.judge c.last-label.result.now c.advance.new.cursor.last c.shown-told.ensures c.tells_causes-wanted.ensures c.last-label.ensures.value goes.tells (c.advance.ensures.same_dispositions c.advance.new.cursor.last ∙ c.lines.invariant.same_dispositions c.advance.new.cursor.last) in
    let know = goes.under_way.known in
    record {
      under_way = record {
        known = (know.0, know.1, subst (λ v. IsBegun v c.write_variant.new.line) c.last-label.ensures.value c.write_variant.ensures.begun, know.3, know.4, know.5);
        writable = goes.under_way.writable;
        spelled = goes.under_way.spelled;
        within = goes.under_way.within;
        few = goes.under_way.few;
      };
      same_dispositions = λ v. c.advance.ensures.same_dispositions v ∙ c.lines.invariant.same_dispositions v;
      written = written-next _ _ _ _ _ c.lines.invariant.written _ (variant c.last-label.result.now) _ (goes.said variant ∙ here)
          (writes_as _ _ Output _ _ (line_is (said_text c.args.asked.now.form (asked_line c.args.asked.now)) c.last-label.result.now told) c.in_ok-write_variant-in-Variant.ensures.written);
      no_memory = λ none. goes.no_memory (c.lines.invariant.no_memory none);
    }
